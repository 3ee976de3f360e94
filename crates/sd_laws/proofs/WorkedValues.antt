-- Worked rows of lists by values, and of the lower node of a move.
use Rattle.std.proofs.Common.{◌≡◌, inl, inr, Bool, true, false, List, [], ◌∷◌, length, Some, None, refl, arith, not}
use Rattle.std.proofs.Common.{cond, ap}
use Rattle.sd_model.specs.Assignment.{value_in}
use Rattle.sd_model.specs.declared.trees.Move.TheVariants.{RotateLeft, RotateRight, Swap}
use Rattle.sd_vtree.specs.Numbered.{NumberedLeaf, NumberedNode}
use Rattle.sd_vtree.specs.NumberedMoves.{moved_number}
use Rattle.sd_laws.specs.Turned.{lower_of}
use Rattle.sd_laws.specs.Values.{Valuation, HasInnerSub, IsWhole, IsPlaced}
use Rattle.sd_laws.proofs.Evaluated.{value_of}

-- a partition of literals

-- the values where there are no nodes
abbrev literals : Valuation
literals = value_of (λ _. None)

-- x1 and x2: where x1 is true the value is x2, and elsewhere false; its pairs are whole
conjunction_whole : IsWhole literals ((2, 4) ∷ (3, 0) ∷ [])
conjunction_whole =
    record {
      several = omega arith;
      one_true = λ a. once a (value_in a 1) refl;
      possible = ((true ∷ [], refl), ((false ∷ [], refl), tt));
      differ = (((λ s. absurd (cc (s (true ∷ true ∷ [])))), tt), (tt, tt));
      inner = inl ((true ∷ true ∷ [], refl), ([], refl));
    }
  where
    once : (a : List Bool) (b : Bool) → value_in a 1 ≡ b →
        length (cond (value_in a 1) (value_in a 2 ∷ cond (not (value_in a 1)) (false ∷ []) [])
        (cond (not (value_in a 1)) (false ∷ []) [])) ≡ 1
    once a true e = rw (e) refl
    once a false e = rw (e) refl

-- and they are placed at the root of `(1 2)`
conjunction_placed :
    IsPlaced (NumberedNode 1 (NumberedLeaf 0 1) (NumberedLeaf 2 2)) literals 1 ((2, 4) ∷ (3, 0) ∷ [])
conjunction_placed =
    record {
      left = NumberedLeaf 0 1;
      right = NumberedLeaf 2 2;
      at = refl;
      primes = ((λ a b h. h 1 refl), ((λ a b h. ap not (h 1 refl)), tt));
      subs = ((λ a b h. h 2 refl), ((λ a b h. refl), tt));
    }

-- but at no leaf
conjunction_not_placed :
    IsPlaced (NumberedNode 1 (NumberedLeaf 0 1) (NumberedLeaf 2 2)) literals 2 ((2, 4) ∷ (3, 0) ∷ []) → ⊥
conjunction_not_placed p = absurd (cc (p.at))

-- x1 itself is not whole: both subs are constants, so the pairs are trimmed
literal_not_whole : IsWhole literals ((2, 1) ∷ (3, 0) ∷ []) → ⊥
literal_not_whole w = go w.inner
  where
    go : HasInnerSub literals ((2, 1) ∷ (3, 0) ∷ []) → ⊥
    go (inl h) = absurd (cc (h.1.1))
    go (inr (inl h)) = absurd (cc (h.0.1))
    go (inr (inr h)) = absurd h

-- pairs with one sub twice are not, since they are not compressed
equal_not_whole : IsWhole literals ((2, 4) ∷ (3, 4) ∷ []) → ⊥
equal_not_whole w = w.differ.0.0 (λ a. refl)

-- nor are pairs of which none has a true prime under some assignment
gap_not_whole : IsWhole literals ((2, 4) ∷ (2, 0) ∷ []) → ⊥
gap_not_whole w = absurd (cc (w.one_true []))

-- moves

-- the right rotation of `((1 2) 3)` turns the lower node 1
right_lower : lower_of RotateRight
    (NumberedNode 3 (NumberedNode 1 (NumberedLeaf 0 1) (NumberedLeaf 2 2)) (NumberedLeaf 4 3)) 3 ≡ Some 1
right_lower = refl

-- and makes `(1 (2 3))` of it, where the left rotation turns the same node
right_moved : moved_number RotateRight
    (NumberedNode 3 (NumberedNode 1 (NumberedLeaf 0 1) (NumberedLeaf 2 2)) (NumberedLeaf 4 3)) 3
    ≡ Some (NumberedNode 3 (NumberedLeaf 0 1) (NumberedNode 1 (NumberedLeaf 2 2) (NumberedLeaf 4 3)))
right_moved = refl

-- so the way back has it as its lower node
left_lower : lower_of RotateLeft
    (NumberedNode 3 (NumberedLeaf 0 1) (NumberedNode 1 (NumberedLeaf 2 2) (NumberedLeaf 4 3))) 3 ≡ Some 1
left_lower = refl

-- a swap has none
swap_lower : lower_of Swap (NumberedNode 1 (NumberedLeaf 0 1) (NumberedLeaf 2 2)) 1 ≡ None
swap_lower = refl
