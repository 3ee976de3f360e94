-- The structural order is a strict total order on all diagrams.
use Rattle.std.proofs.Common.{◌≡◌, ◌↔◌, ℕ, Bool, true, false, refl, sym, ap}
use Rattle.std.specs.Ordering.{ordering_then, ordering_reverse, nat_cmp, bool_cmp}
use Rattle.std.specs.declared.cmp.Ordering.{Ordering}
use Rattle.std.specs.declared.cmp.Ordering.TheVariants.{Less, Equal, Greater}
use Rattle.std.specs.Cmp.{IsTotalOrder, bool_cmp_total, then_flip}
use Rattle.std.proofs.lemmas.Cmp.{nat_cmp_total}
use Rattle.std.proofs.lemmas.Map.Lookups.{exact_unsigned}
use Rattle.sd_model.specs.Diagram.{Diagram, Bottom, Top, Literal, Decomposition}
use Rattle.sd_model.specs.Diagram.{Elements, End, Pair, count, diagram_cmp, elements_cmp}

-- where two answers in a row are `Equal`, both are
equal_both : (o q : Ordering) → ordering_then o q ≡ Equal → (o ≡ Equal) × (q ≡ Equal)
equal_both Less q h = absurd (cc)
equal_both Equal q h = (refl, h)
equal_both Greater q h = absurd (cc)

-- equal truth values
bool_exact : (s t : Bool) → bool_cmp s t ≡ Equal → s ≡ t
bool_exact false false h = refl
bool_exact false true h = cc
bool_exact true false h = cc
bool_exact true true h = refl

mutual
  -- diagrams of which none is less are equal
  pub exact : (a b : Diagram) → diagram_cmp a b ≡ Equal → a ≡ b
  exact Bottom Bottom h = refl
  exact Top Top h = refl
  exact (Literal p x s) (Literal q y t) h =
      let e = equal_both (nat_cmp p q) (ordering_then (bool_cmp s t) (nat_cmp x y)) h in
      let f = equal_both (bool_cmp s t) (nat_cmp x y) e.1 in
      let ep : p ≡ q = exact_unsigned p q e.0 in
      let es : s ≡ t = bool_exact s t f.0 in
      let ex : x ≡ y = exact_unsigned x y f.1 in
      cc
  exact (Decomposition p ds) (Decomposition q es) h =
      let e = equal_both (nat_cmp p q) (ordering_then (nat_cmp (count ds) (count es)) (elements_cmp ds es)) h in
      let f = equal_both (nat_cmp (count ds) (count es)) (elements_cmp ds es) e.1 in
      let ep : p ≡ q = exact_unsigned p q e.0 in
      let ee : ds ≡ es = exact_elements ds es f.1 in
      cc
  exact _ _ h = cc

  -- lists of elements of which none is less are equal
  exact_elements : (ds es : Elements) → elements_cmp ds es ≡ Equal → ds ≡ es
  exact_elements End End h = refl
  exact_elements (Pair p s ds) (Pair q t es) h =
      let e = equal_both (diagram_cmp p q) (ordering_then (diagram_cmp s t) (elements_cmp ds es)) h in
      let f = equal_both (diagram_cmp s t) (elements_cmp ds es) e.1 in
      let ep : p ≡ q = exact p q e.0 in
      let es' : s ≡ t = exact s t f.0 in
      let ee : ds ≡ es = exact_elements ds es f.1 in
      cc
  exact_elements _ _ h = cc

-- a strict order of two parts, the second where the first are equal
trans_then : (o12 o23 o13 q12 q23 q13 : Ordering) → (o12 ≡ Equal → o13 ≡ o23) → (o23 ≡ Equal → o13 ≡ o12) →
    (o12 ≡ Less → o23 ≡ Less → o13 ≡ Less) →
    (q12 ≡ Less → q23 ≡ Less → q13 ≡ Less) → ordering_then o12 q12 ≡ Less → ordering_then o23 q23 ≡ Less →
    ordering_then o13 q13 ≡ Less
trans_then Less Less o13 q12 q23 q13 l r t q h k = rw (t refl refl)
trans_then Less Equal o13 q12 q23 q13 l r t q h k = rw (r refl)
trans_then Equal Less o13 q12 q23 q13 l r t q h k = rw (l refl)
trans_then Equal Equal o13 q12 q23 q13 l r t q h k = rw (l refl) (q h k)
trans_then Greater o23 o13 q12 q23 q13 l r t q h k = absurd (cc)
trans_then Less Greater o13 q12 q23 q13 l r t q h k = absurd (cc)
trans_then Equal Greater o13 q12 q23 q13 l r t q h k = absurd (cc)

-- the same, where the first part is an order in which only equal things are `Equal`
trans_by : {A : Type 0} (cmp : A → A → Ordering) (x y z : A) (q12 q23 q13 : Ordering) →
    (cmp x y ≡ Equal → x ≡ y) → (cmp y z ≡ Equal → y ≡ z) →
    (cmp x y ≡ Less → cmp y z ≡ Less → cmp x z ≡ Less) → (q12 ≡ Less → q23 ≡ Less → q13 ≡ Less) →
    ordering_then (cmp x y) q12 ≡ Less → ordering_then (cmp y z) q23 ≡ Less → ordering_then (cmp x z) q13 ≡ Less
trans_by cmp x y z q12 q23 q13 first second =
    trans_then (cmp x y) (cmp y z) (cmp x z) q12 q23 q13
    (λ e. ap (λ v. cmp v z) (first e)) (λ e. ap (λ v. cmp x v) (sym (second e)))

-- the first parts are numbers
trans_nat : (x y z : ℕ) (q12 q23 q13 : Ordering) → (q12 ≡ Less → q23 ≡ Less → q13 ≡ Less) →
    ordering_then (nat_cmp x y) q12 ≡ Less → ordering_then (nat_cmp y z) q23 ≡ Less →
    ordering_then (nat_cmp x z) q13 ≡ Less
trans_nat x y z q12 q23 q13 =
    trans_by nat_cmp x y z q12 q23 q13 (exact_unsigned x y) (exact_unsigned y z) (nat_cmp_total.trans x y z)

-- the first parts are truth values
trans_bool : (x y z : Bool) (q12 q23 q13 : Ordering) → (q12 ≡ Less → q23 ≡ Less → q13 ≡ Less) →
    ordering_then (bool_cmp x y) q12 ≡ Less → ordering_then (bool_cmp y z) q23 ≡ Less →
    ordering_then (bool_cmp x z) q13 ≡ Less
trans_bool x y z q12 q23 q13 =
    trans_by bool_cmp x y z q12 q23 q13 (bool_exact x y) (bool_exact y z) (bool_cmp_total.trans x y z)

mutual
  -- the order is transitive
  pub trans : (a b c : Diagram) → diagram_cmp a b ≡ Less → diagram_cmp b c ≡ Less → diagram_cmp a c ≡ Less
  trans Bottom _ Top h k = refl
  trans Bottom _ (Literal r z u) h k = refl
  trans Bottom _ (Decomposition r fs) h k = refl
  trans Top _ (Literal r z u) h k = refl
  trans Top _ (Decomposition r fs) h k = refl
  trans (Literal p x s) _ (Decomposition r fs) h k = refl
  trans (Literal p x s) (Literal q y t) (Literal r z u) h k =
      trans_nat p q r _ _ _ (trans_bool s t u _ _ _ (nat_cmp_total.trans x y z)) h k
  trans (Decomposition p ds) (Decomposition q es) (Decomposition r fs) h k =
      trans_nat p q r _ _ _ (trans_nat (count ds) (count es) (count fs) _ _ _ (trans_elements ds es fs)) h k
  trans _ Bottom Bottom h k = cc
  trans _ Top Bottom h k = cc
  trans _ (Literal q y t) Bottom h k = cc
  trans _ (Decomposition q es) Bottom h k = cc
  trans _ Top Top h k = cc
  trans _ (Literal q y t) Top h k = cc
  trans _ (Decomposition q es) Top h k = cc
  trans _ (Decomposition q es) (Literal r z u) h k = cc
  trans _ _ _ h k = cc

  -- and so is that of lists of elements
  trans_elements : (ds es fs : Elements) → elements_cmp ds es ≡ Less → elements_cmp es fs ≡ Less →
      elements_cmp ds fs ≡ Less
  trans_elements End _ (Pair p s fs) h k = refl
  trans_elements (Pair p s ds) (Pair q t es) (Pair r u fs) h k =
      trans_by diagram_cmp p q r _ _ _ (exact p q) (exact q r) (trans p q r)
      (trans_by diagram_cmp s t u _ _ _ (exact s t) (exact t u) (trans s t u) (trans_elements ds es fs)) h k
  trans_elements _ End End h k = cc
  trans_elements _ (Pair q t es) End h k = cc
  trans_elements _ _ _ h k = cc

mutual
  -- the order of two diagrams is the reverse of the order of the two exchanged
  pub antisymm : (a b : Diagram) → diagram_cmp a b ≡ ordering_reverse (diagram_cmp b a)
  antisymm Bottom Bottom = refl
  antisymm Bottom Top = refl
  antisymm Bottom (Literal q y t) = refl
  antisymm Bottom (Decomposition q es) = refl
  antisymm Top Bottom = refl
  antisymm Top Top = refl
  antisymm Top (Literal q y t) = refl
  antisymm Top (Decomposition q es) = refl
  antisymm (Literal p x s) Bottom = refl
  antisymm (Literal p x s) Top = refl
  antisymm (Literal p x s) (Literal q y t) =
      rw (nat_cmp_total.antisymm p q, bool_cmp_total.antisymm s t, nat_cmp_total.antisymm x y, then_flip, then_flip)
  antisymm (Literal p x s) (Decomposition q es) = refl
  antisymm (Decomposition p ds) Bottom = refl
  antisymm (Decomposition p ds) Top = refl
  antisymm (Decomposition p ds) (Literal q y t) = refl
  antisymm (Decomposition p ds) (Decomposition q es) =
      rw (
        nat_cmp_total.antisymm p q,
        nat_cmp_total.antisymm (count ds) (count es),
        antisymm_elements ds es,
        then_flip,
        then_flip,
      )

  -- the same for lists of elements
  antisymm_elements : (ds es : Elements) → elements_cmp ds es ≡ ordering_reverse (elements_cmp es ds)
  antisymm_elements End End = refl
  antisymm_elements End (Pair q t es) = refl
  antisymm_elements (Pair p s ds) End = refl
  antisymm_elements (Pair p s ds) (Pair q t es) =
      rw (antisymm p q, antisymm s t, antisymm_elements ds es, then_flip, then_flip)

-- what std calls a total order
pub diagram_cmp_total : IsTotalOrder diagram_cmp
diagram_cmp_total =
    record { antisymm = antisymm; trans = trans; congr = λ a b c e. ap (λ v. diagram_cmp v c) (exact a b e) }

-- only `Equal` is its own reverse
equal_itself : (o : Ordering) → o ≡ ordering_reverse o → o ≡ Equal
equal_itself Less e = cc
equal_itself Equal e = refl
equal_itself Greater e = cc

-- a reverse of itself is not `Less`
not_less_itself : (o : Ordering) → o ≡ ordering_reverse o → o ≡ Less → ⊥
not_less_itself Less e h = cc
not_less_itself Equal e h = cc
not_less_itself Greater e h = cc

-- no diagram is less than itself
pub irreflexive : (d : Diagram) → diagram_cmp d d ≡ Less → ⊥
irreflexive d h = not_less_itself (diagram_cmp d d) (antisymm d d) h

-- a diagram is equal to itself
pub reflexive : (a b : Diagram) → a ≡ b → diagram_cmp a b ≡ Equal
reflexive a b e = rw e (equal_itself (diagram_cmp b b) (antisymm b b))

-- the order says `Equal` exactly where the diagrams are equal
pub equal_exactly : (a b : Diagram) → (diagram_cmp a b ≡ Equal) ↔ (a ≡ b)
equal_exactly a b = (exact a b, reflexive a b)

-- what the law of the order cites
pub ruleset order_laws = (equal_exactly, antisymm, trans)
