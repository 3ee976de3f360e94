-- Lists whose codes have the same values in two valuations, and the only values that shown codes can have.
use Rattle.std.proofs.Common.{◌≡◌, inl, inr, ℕ, ◌+◌, Bool, true, List, [], ◌∷◌}
use Rattle.std.proofs.Common.{length, Some, refl, sym, ◌∙◌, ap, arith}
use Rattle.std.specs.List.{AllByRecursion}
use Rattle.sd_model.specs.Diagram.{Diagram, Bottom, Top, Literal, Decomposition, Elements, End, Pair}
use Rattle.sd_model.specs.Diagram.{meaning, some_element}
use Rattle.sd_vtree.specs.Numbered.{Numbered, plain_tree, IsNumbered}
use Rattle.sd_laws.specs.Depends.{DependsOn}
use Rattle.sd_laws.specs.Shown.{Lookup, HasPairs, Shows, ShowElements}
use Rattle.sd_laws.specs.Values.{Valuation, IsSame, pairs_value, chosen, Takes, SubsDiffer, HasInnerSub, IsWhole}
use Rattle.sd_laws.specs.Values.{IsPlaced, GivesLiterals}
use Rattle.sd_laws.proofs.Codes.{leaf_range}
use Rattle.sd_laws.proofs.Choosing.{depends_same}
use Rattle.sd_laws.proofs.Evaluated.{value_permuted}

-- the codes of the list have the same values in both
abbrev pub AllSame : Valuation → Valuation → List (ℕ × ℕ) → Type 0
AllSame v w l = AllByRecursion (λ (e : ℕ × ℕ). IsSame (w e.0) (v e.0) × IsSame (w e.1) (v e.1)) l

-- the list has the same value
pub value_same : (v w : Valuation) (l : List (ℕ × ℕ)) → AllSame v w l → IsSame (pairs_value w l) (pairs_value v l)
value_same v w [] h a = refl
value_same v w (e ∷ l) h a = rw (h.0.0 a, h.0.1 a, value_same v w l h.1 a) refl

-- and chooses the same
chosen_same : (v w : Valuation) (l : List (ℕ × ℕ)) → AllSame v w l → (a : List Bool) → chosen w l a ≡ chosen v l a
chosen_same v w [] h a = refl
chosen_same v w (e ∷ l) h a = rw (h.0.0 a, h.0.1 a, chosen_same v w l h.1 a) refl

-- the primes are possible
possible_same : (v w : Valuation) (l : List (ℕ × ℕ)) → AllSame v w l →
    AllByRecursion (λ (e : ℕ × ℕ). Takes v e.0 true) l → AllByRecursion (λ (e : ℕ × ℕ). Takes w e.0 true) l
possible_same v w [] h p = tt
possible_same v w (e ∷ l) h p = ((p.0.0, h.0.0 p.0.0 ∙ p.0.1), possible_same v w l h.1 p.1)

-- the subs differ
differ_same : (v w : Valuation) (l : List (ℕ × ℕ)) → AllSame v w l → SubsDiffer v l → SubsDiffer w l
differ_same v w [] h d = tt
differ_same v w (e ∷ l) h d = (each l h.1 d.0, differ_same v w l h.1 d.1)
  where
    each : (l : List (ℕ × ℕ)) → AllSame v w l → AllByRecursion (λ (f : ℕ × ℕ). ¬ IsSame (v e.1) (v f.1)) l →
        AllByRecursion (λ (f : ℕ × ℕ). ¬ IsSame (w e.1) (w f.1)) l
    each [] k n = tt
    each (f ∷ l) k n = ((λ s. n.0 (λ a. sym (h.0.1 a) ∙ s a ∙ k.0.1 a)), each l k.1 n.1)

-- and some sub takes both values
inner_same : (v w : Valuation) (l : List (ℕ × ℕ)) → AllSame v w l → HasInnerSub v l → HasInnerSub w l
inner_same v w [] h i = i
inner_same v w (e ∷ l) h (inl i) = inl ((i.0.0, h.0.1 i.0.0 ∙ i.0.1), (i.1.0, h.0.1 i.1.0 ∙ i.1.1))
inner_same v w (e ∷ l) h (inr i) = inr (inner_same v w l h.1 i)

-- so it is whole in both
pub whole_same : (v w : Valuation) (l : List (ℕ × ℕ)) → AllSame v w l → IsWhole v l → IsWhole w l
whole_same v w l h i =
    record {
      several = i.several;
      one_true = λ a. ap length (chosen_same v w l h a) ∙ i.one_true a;
      possible = possible_same v w l h i.possible;
      differ = differ_same v w l h i.differ;
      inner = inner_same v w l h i.inner;
    }

-- and placed
pub placed_same : (t : Numbered) (v w : Valuation) (p : ℕ) (l : List (ℕ × ℕ)) → AllSame v w l → IsPlaced t v p l →
    IsPlaced t w p l
placed_same t v w p l h i =
    record {
      left = i.left;
      right = i.right;
      at = i.at;
      primes = primes l h i.primes;
      subs = subs l h i.subs;
    }
  where
    primes : (l : List (ℕ × ℕ)) → AllSame v w l
        → AllByRecursion (λ (e : ℕ × ℕ). DependsOn (plain_tree i.left) (v e.0)) l →
        AllByRecursion (λ (e : ℕ × ℕ). DependsOn (plain_tree i.left) (w e.0)) l
    primes [] k d = tt
    primes (e ∷ l) k d = (depends_same (plain_tree i.left) (w e.0) (v e.0) k.0.0 d.0, primes l k.1 d.1)

    subs : (l : List (ℕ × ℕ)) → AllSame v w l
        → AllByRecursion (λ (e : ℕ × ℕ). DependsOn (plain_tree i.right) (v e.1)) l →
        AllByRecursion (λ (e : ℕ × ℕ). DependsOn (plain_tree i.right) (w e.1)) l
    subs [] k d = tt
    subs (e ∷ l) k d = (depends_same (plain_tree i.right) (w e.1) (v e.1) k.0.1 d.0, subs l k.1 d.1)

mutual
  -- What a code shows has its value, where each node has the value of its list.
  pub shown_value : (t : Numbered) (at : Lookup) → IsNumbered t → (v : Valuation) → GivesLiterals v →
      ((n u : ℕ) (l : List (ℕ × ℕ)) → at n ≡ Some (u, l) → IsSame (v (2050 + n)) (pairs_value v l)) → (d : Diagram)
      (c : ℕ) (a : List Bool) → Shows t at c d → meaning d a ≡ v c a
  shown_value t at n v g same Bottom c a h = sym (g.bottom a) ∙ ap (λ k. v k a) (sym h)
  shown_value t at n v g same Top c a h = sym (g.top a) ∙ ap (λ k. v k a) (sym h)
  shown_value t at n v g same (Literal p x s) c a h =
      let within_limit = n.within_limit in
      let r = leaf_range (plain_tree t) n.vtree 0 x p h.1 in
      sym (g.literal p x s r.0 (omega (arith, r.1, within_limit)) a) ∙ ap (λ k. v k a) (sym h.0)
  shown_value t at n v g same (Decomposition p es) c a h =
      let i : HasPairs t at c p h.0 = h.1 in
      elements_value t at n v g same es h.0 a h.2
      ∙ sym (value_permuted v i.list h.0 a i.order)
      ∙ sym (same i.number i.place i.list i.stored a)
      ∙ ap (λ k. v k a) (sym i.code)

  -- and elements have the value of their pairs
  elements_value : (t : Numbered) (at : Lookup) → IsNumbered t → (v : Valuation) → GivesLiterals v →
      ((n u : ℕ) (l : List (ℕ × ℕ)) → at n ≡ Some (u, l) → IsSame (v (2050 + n)) (pairs_value v l)) → (es : Elements)
      (l : List (ℕ × ℕ)) (a : List Bool) → ShowElements t at l es → some_element es a ≡ pairs_value v l a
  elements_value t at n v g same End [] a h = refl
  elements_value t at n v g same End (e ∷ l) a h = absurd h
  elements_value t at n v g same (Pair p s rest) [] a h = absurd h
  elements_value t at n v g same (Pair p s rest) (e ∷ l) a h =
      rw (
        shown_value t at n v g same p e.0 a h.0,
        shown_value t at n v g same s e.1 a h.1,
        elements_value t at n v g same rest l a h.2,
      ) refl
