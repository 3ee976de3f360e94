-- A list of elements whose primes ascend is determined by its members.
use Rattle.std.proofs.Common.{◌≡◌, ◌⊎◌, inl, inr, refl, sym, ◌∙◌, subst}
use Rattle.std.specs.List.{AllByRecursion}
use Rattle.std.specs.List.Sorted.{IsStrictlySortedBy}
use Rattle.std.specs.declared.cmp.Ordering.TheVariants.{Less}
use Rattle.sd_model.specs.Diagram.{Diagram, Elements, End, Pair, primes, diagram_cmp}
use Rattle.sd_model.specs.Canonical.{IsElement, first, later}
use Rattle.sd_model.proofs.Order.{trans, irreflexive}

-- the primes behind the first are greater
below_first : {p s : Diagram} {es : Elements} (d : Diagram) → IsElement p s es →
    AllByRecursion (λ y. diagram_cmp d y ≡ Less) (primes es) → diagram_cmp d p ≡ Less
below_first d first h = h.0
below_first d (later m) h = below_first d m h.1

-- each element of one list is one of the other
abbrev pub IsWithin : Elements → Elements → Type 0
IsWithin ds es = (p s : Diagram) → IsElement p s ds → IsElement p s es

-- an element of a list is the first one, or one of the rest
abbrev AtFirst : Diagram → Diagram → Diagram → Diagram → Elements → Type 0
AtFirst p s q t rest = ((p ≡ q) × (s ≡ t)) ⊎ IsElement p s rest

-- which of the two it is
at_first : {p s q t : Diagram} {rest : Elements} → IsElement p s (Pair q t rest) → AtFirst p s q t rest
at_first first = inl (refl, refl)
at_first (later m) = inr m

-- what follows equal first elements is within what follows
rest_within : (p s q t : Diagram) (ds es : Elements) → IsStrictlySortedBy diagram_cmp (primes (Pair p s ds)) → p ≡ q →
    IsWithin (Pair p s ds) (Pair q t es) → IsWithin ds es
unfolding IsStrictlySortedBy
rest_within p s q t ds es sorted same within x y m = go (at_first (within x y (later m)))
  where
    go : AtFirst x y q t es → IsElement x y es
    go (inl e) =
        absurd (irreflexive p (subst (λ v. diagram_cmp p v ≡ Less) (e.0 ∙ sym same) (below_first p m sorted.0)))
    go (inr k) = k

-- two such lists with the same members are equal
pub sorted_elements : (ds es : Elements) → IsStrictlySortedBy diagram_cmp (primes ds) →
    IsStrictlySortedBy diagram_cmp (primes es) →
    IsWithin ds es → IsWithin es ds → ds ≡ es
unfolding IsStrictlySortedBy
sorted_elements End End sd se there back = refl
sorted_elements End (Pair q t es) sd se there back = elim (back q t first) [ ]
sorted_elements (Pair p s ds) End sd se there back = elim (there p s first) [ ]
sorted_elements (Pair p s ds) (Pair q t es) sd se there back =
    let h : (p ≡ q) × (s ≡ t) = heads (at_first (there p s first)) (at_first (back q t first)) in
    let r : ds ≡ es =
    sorted_elements ds es sd.1 se.1 (rest_within p s q t ds es sd h.0 there)
    (rest_within q t p s es ds se (sym h.0) back) in
    cc
  where
    heads : AtFirst p s q t es → AtFirst q t p s ds → (p ≡ q) × (s ≡ t)
    heads (inl e) k = e
    heads (inr m) (inl e) = (sym e.0, sym e.1)
    heads (inr m) (inr k) = absurd (irreflexive p (trans p q p (below_first p k sd.0) (below_first q m se.0)))
