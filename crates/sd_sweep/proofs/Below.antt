-- What stands under a diagram, as one of a list.
use Rattle.std.proofs.Common.{◌≡◌, ◌⊎◌, inl, inr, ℕ, ◌≤◌, List, [], ◌∷◌, ◌++◌}
use Rattle.std.proofs.Common.{refl, sym, ap, subst, arith}
use Rattle.sd_model.specs.Diagram.{Diagram, Bottom, Top, Literal, Decomposition, Elements, End, Pair}
use Rattle.sd_model.specs.Canonical.{IsElement, first, later}
use Rattle.sd_model.specs.Size.{walk, walk_elements}
use Rattle.sd_laws.specs.Depth.{depth, depth_of}
use Rattle.sd_laws.proofs.Lists.{IsAmong, IsWithin}

-- joined lists

-- what is in the first of two lists is in both together
pub among_left : {X : Type 0} (x : X) (xs ys : List X) → IsAmong x xs → IsAmong x (xs ++ ys)
among_left x [] ys m = absurd m
among_left x (y ∷ xs) ys (inl e) = inl e
among_left x (y ∷ xs) ys (inr m) = inr (among_left x xs ys m)

-- and what is in the second
pub among_right : {X : Type 0} (x : X) (xs ys : List X) → IsAmong x ys → IsAmong x (xs ++ ys)
among_right x [] ys m = m
among_right x (y ∷ xs) ys m = inr (among_right x xs ys m)

-- what is in both together is in one of them
pub among_split : {X : Type 0} (x : X) (xs ys : List X) → IsAmong x (xs ++ ys) → IsAmong x xs ⊎ IsAmong x ys
among_split x [] ys m = inr m
among_split x (y ∷ xs) ys (inl e) = inl (inl e)
among_split x (y ∷ xs) ys (inr m) = go (among_split x xs ys m)
  where
    go : IsAmong x xs ⊎ IsAmong x ys → IsAmong x (y ∷ xs) ⊎ IsAmong x ys
    go (inl k) = inl (inr k)
    go (inr k) = inr k

-- two lists are within a third
pub within_both : {X : Type 0} (xs ys zs : List X) → IsWithin xs zs → IsWithin ys zs → IsWithin (xs ++ ys) zs
within_both {X} xs ys zs a b x m = go (among_split x xs ys m)
  where
    go : IsAmong x xs ⊎ IsAmong x ys → IsAmong x zs
    go (inl k) = a x k
    go (inr k) = b x k

-- the walk

-- a diagram is one of those under itself
pub itself : (d : Diagram) → IsAmong d (walk d)
itself Bottom = inl refl
itself Top = inl refl
itself (Literal p x s) = inl refl
itself (Decomposition p es) =
    among_right (Decomposition p es) (walk_elements es) (Decomposition p es ∷ []) (inl refl)

-- what is under a prime or sub of some element is under the elements
pub element_within : {p s : Diagram} {es : Elements} → IsElement p s es →
    IsWithin (walk p) (walk_elements es) × IsWithin (walk s) (walk_elements es)
element_within {p = p} {s = s} {es = End} m = elim m [ ]
element_within {es = Pair p s rest} first = (
  λ x m. among_left x (walk p ++ walk s) (walk_elements rest) (among_left x (walk p) (walk s) m),
  λ x m. among_left x (walk p ++ walk s) (walk_elements rest) (among_right x (walk p) (walk s) m),
)
element_within {es = Pair p s rest} (later m) =
    let k = element_within m in (
      λ x w. among_right x (walk p ++ walk s) (walk_elements rest) (k.0 x w),
      λ x w. among_right x (walk p ++ walk s) (walk_elements rest) (k.1 x w),
    )

-- an element with this diagram under its prime or its sub
pub record IsUnder (x : Diagram) (es : Elements) : Type 0 where
  pub prime : Diagram
  pub sub : Diagram
  pub member : IsElement prime sub es
  pub under : IsAmong x (walk prime) ⊎ IsAmong x (walk sub)

-- what is under elements is under a prime or sub of one
pub under_element : (x : Diagram) (es : Elements) → IsAmong x (walk_elements es) → IsUnder x es
under_element x End m = absurd m
under_element x (Pair p s rest) m =
    go (λ k. under_element x rest k) (among_split x (walk p ++ walk s) (walk_elements rest) m)
  where
    go : (IsAmong x (walk_elements rest) → IsUnder x rest) →
        IsAmong x (walk p ++ walk s) ⊎ IsAmong x (walk_elements rest) → IsUnder x (Pair p s rest)
    go f (inl k) = record { prime = p; sub = s; member = first; under = among_split x (walk p) (walk s) k }
    go f (inr k) =
        let r = f k in record { prime = r.prime; sub = r.sub; member = later r.member; under = r.under }

-- what is under one of two diagrams or under the rest
pub three : (p s : Diagram) (rest : Elements) (x : Diagram) (P : Type 0) → (IsAmong x (walk p) → P) →
    (IsAmong x (walk s) → P) → (IsAmong x (walk_elements rest) → P) → IsAmong x (walk_elements (Pair p s rest)) → P
three p s rest x P f g h m = outer (among_split x (walk p ++ walk s) (walk_elements rest) m)
  where
    inner : IsAmong x (walk p) ⊎ IsAmong x (walk s) → P
    inner (inl k) = f k
    inner (inr k) = g k

    outer : IsAmong x (walk p ++ walk s) ⊎ IsAmong x (walk_elements rest) → P
    outer (inl k) = inner (among_split x (walk p) (walk s) k)
    outer (inr k) = h k

-- what is in a list of one
pub only : {X : Type 0} (x y : X) → IsAmong x (y ∷ []) → x ≡ y
only x y (inl e) = e
only x y (inr n) = absurd n

mutual
  -- what is under a diagram has all under it that is under what is there
  pub below_closed : (d e : Diagram) → IsAmong e (walk d) → IsWithin (walk e) (walk d)
  below_closed Bottom e m = subst (λ x. IsWithin (walk x) (walk Bottom)) (sym (only e Bottom m)) (λ x k. k)
  below_closed Top e m = subst (λ x. IsWithin (walk x) (walk Top)) (sym (only e Top m)) (λ x k. k)
  below_closed (Literal p v s) e m =
      subst (λ x. IsWithin (walk x) (walk (Literal p v s))) (sym (only e (Literal p v s) m)) (λ x k. k)
  below_closed (Decomposition p es) e m =
      go (λ k. elements_closed es e k) (among_split e (walk_elements es) (Decomposition p es ∷ []) m)
    where
      go : (IsAmong e (walk_elements es) → IsWithin (walk e) (walk_elements es)) →
          IsAmong e (walk_elements es) ⊎ IsAmong e (Decomposition p es ∷ []) →
          IsWithin (walk e) (walk (Decomposition p es))
      go f (inl k) = λ x w. among_left x (walk_elements es) (Decomposition p es ∷ []) (f k x w)
      go f (inr k) =
          subst (λ x. IsWithin (walk x) (walk (Decomposition p es))) (sym (only e (Decomposition p es) k)) (λ x w. w)

  -- and so have elements
  elements_closed : (es : Elements) (e : Diagram) → IsAmong e (walk_elements es) →
      IsWithin (walk e) (walk_elements es)
  elements_closed End e m = absurd m
  elements_closed (Pair p s rest) e m =
      three p s rest e (IsWithin (walk e) (walk_elements (Pair p s rest)))
      (λ k x w. among_left x (walk p ++ walk s) (walk_elements rest)
      (among_left x (walk p) (walk s) (below_closed p e k x w)))
      (λ k x w. among_left x (walk p ++ walk s) (walk_elements rest)
      (among_right x (walk p) (walk s) (below_closed s e k x w)))
      (λ k x w. among_right x (walk p ++ walk s) (walk_elements rest) (elements_closed rest e k x w)) m

mutual
  -- nothing under a diagram is deeper
  below_depth : (d e : Diagram) → IsAmong e (walk d) → depth e ≤ depth d
  below_depth Bottom e m = subst (λ x. depth x ≤ 0) (sym (only e Bottom m)) (omega arith)
  below_depth Top e m = subst (λ x. depth x ≤ 0) (sym (only e Top m)) (omega arith)
  below_depth (Literal p v s) e m = subst (λ x. depth x ≤ 0) (sym (only e (Literal p v s) m)) (omega arith)
  below_depth (Decomposition p es) e m =
      go (λ k. elements_depth es e k) (among_split e (walk_elements es) (Decomposition p es ∷ []) m)
    where
      go : (IsAmong e (walk_elements es) → depth e ≤ depth_of es) →
          IsAmong e (walk_elements es) ⊎ IsAmong e (Decomposition p es ∷ []) →
          depth e ≤ depth (Decomposition p es)
      go f (inl k) = omega (arith, f k)
      go f (inr k) = omega (arith, ap depth (only e (Decomposition p es) k))

  -- nor under elements
  elements_depth : (es : Elements) (e : Diagram) → IsAmong e (walk_elements es) → depth e ≤ depth_of es
  elements_depth End e m = absurd m
  elements_depth (Pair p s rest) e m =
      three p s rest e (depth e ≤ depth_of (Pair p s rest)) (λ k. omega (arith, below_depth p e k))
      (λ k. omega (arith, below_depth s e k)) (λ k. omega (arith, elements_depth rest e k)) m

-- a decomposition is not under its own elements
pub not_under_itself : (p : ℕ) (es : Elements) (x : Diagram) → IsAmong x (walk_elements es) → x ≡ Decomposition p es → ⊥
not_under_itself p es x m e =
    let deep : depth x ≡ depth (Decomposition p es) = ap depth e in
    absurd (omega (arith, elements_depth es x m, deep))
