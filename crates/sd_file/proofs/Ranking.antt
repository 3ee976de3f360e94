-- Ranks are compared as diagrams are, and how a decomposition gets its rank.
use Rattle.std.proofs.Common.{◌≡◌, ◌≢◌, ◌⊎◌, inl, inr, ℕ, ◌+◌, ◌<◌, ◌==◌, true, false, List, [], ◌∷◌}
use Rattle.std.proofs.Common.{map, Some, refl, sym, ◌∙◌, ap, subst, arith, if◌then◌else◌}
use Rattle.std.specs.List.{AllByRecursion}
use Rattle.std.specs.List.Sorted.{IsPermutation, IsSorted, IsStrictlySortedBy}
use Rattle.std.specs.Option.{IsSome}
use Rattle.std.specs.BTreeMap as tree
use Rattle.std.specs.BTreeMap.{BTreeMap}
use Rattle.std.specs.FinMap.{get}
use Rattle.std.specs.Cmp.{IsTotalOrder, on_total, then_total, nat_cmp_total, nat_cmp_is}
use Rattle.std.proofs.lemmas.Bool.Decides.{eqb_tells}
use Rattle.std.proofs.Math.Dec.{eqb}
use Rattle.std.specs.Cmp.Lexicographic.{slice_cmp, lists_total}
use Rattle.std.specs.Ordering.{nat_cmp, ordering_then, ordering_reverse}
use Rattle.std.specs.declared.cmp.Ordering.{Ordering}
use Rattle.std.specs.declared.cmp.Ordering.TheVariants.{Less, Equal, Greater}
use Rattle.std.specs.declared.vec.Vec.{Vec}
use Rattle.std.specs.declared.alloc.Global.{Global}
use Rattle.std.proofs.lemmas.List.{length-map}
use Rattle.std.proofs.lemmas.Option.{same_Some}
use Rattle.std.proofs.lemmas.List.Sorted.{IsPermutation-sym, IsPermutation-trans}
use Rattle.std.proofs.lemmas.Map.Lookups.{exact_unsigned}
use Rattle.sd_model.specs.Diagram.{Diagram, Bottom, Top, Literal, Decomposition, Elements, End, Pair}
use Rattle.sd_model.specs.Diagram.{primes, count, diagram_cmp, elements_cmp}
use Rattle.sd_model.proofs.Order.{antisymm, exact, irreflexive, reflexive}
use Rattle.sd_laws.specs.Shown.{ShowElements, AreKeys}
use Rattle.sd_laws.proofs.Codes.{one_code, one_diagram}
use Rattle.sd_laws.proofs.Lists.{all_permuted, all_weaker, lifted}
use Rattle.sd_manager.specs.Table.{Table}
use Rattle.sd_manager.specs.Shown.{Shows}
use Rattle.sd_manager.specs.Views.{pairs_at}
use Rattle.sd_manager.specs.Valid.{IsTable}
use Rattle.sd_manager.proofs.Holding.{some_value}
use Rattle.sd_manager.proofs.Reading.{linked_key, pairs_node, pairs_count}
use Rattle.sd_file.specs.contracts.known.RankOrd.TheImpl as derived
use Rattle.sd_file.specs.contracts.known.RankOrd.TheImpl.Laws as laws
use Rattle.sd_file.specs.declared.known.Ordered.{Ordered}
use Rattle.sd_file.specs.declared.known.Rank.TheVariants as rank
use Rattle.sd_file.specs.Ordered.{Rank, rank_of, list_of}
use Rattle.sd_file.specs.Ranks.{Ranked, RankedNode, rank_cmp, ranked_cmp}
use Rattle.sd_file.specs.Ranks.{entry_cmp, codes_of, FitsRank, HasRanks, IsRanked}
use Rattle.sd_file.specs.Ranks.{IsListed, AreRanks, IsEntry, IsPast, IsFresh, IsGiving, HasNewRank}
use Rattle.sd_file.proofs.Ascending.{sorted_same}

-- orders

-- ranks are compared by the order that is derived for them
compares : (r s : Rank) → derived.ghosts.cmp r s ≡ rank_cmp r s
compares (rank.Constant a) (rank.Constant b) = refl
compares (rank.Constant a) (rank.Literal q t) = refl
compares (rank.Constant a) (rank.Decomposition q j) = refl
compares (rank.Literal p s) (rank.Constant b) = refl
compares (rank.Literal p s) (rank.Literal q t) = refl
compares (rank.Literal p s) (rank.Decomposition q j) = refl
compares (rank.Decomposition p i) (rank.Constant b) = refl
compares (rank.Decomposition p i) (rank.Literal q t) = refl
compares (rank.Decomposition p i) (rank.Decomposition q j) = refl

-- so the two are one order
pub one_order : derived.ghosts.cmp ≡ rank_cmp
one_order i r s = compares r s i

pub rank_total : IsTotalOrder rank_cmp
rank_total = subst IsTotalOrder one_order laws.total-law

pub ranked_total : IsTotalOrder ranked_cmp
ranked_total =
    then_total
    (then_total
    (then_total (on_total (λ (e : Ranked). e.0) rank_total) (on_total (λ (e : Ranked). e.1) rank_total))
    (on_total (λ (e : Ranked). e.2) nat_cmp_total))
    (on_total (λ (e : Ranked). e.3) nat_cmp_total)

pub entry_total : IsTotalOrder entry_cmp
entry_total =
    then_total
    (then_total (on_total (λ (x : RankedNode). x.0) nat_cmp_total)
    (on_total (λ (x : RankedNode). x.1.items) (lists_total ranked_total)))
    (on_total (λ (x : RankedNode). x.2) nat_cmp_total)

-- equal numbers
pub nat_same : (m n : ℕ) → m ≡ n → nat_cmp m n ≡ Equal
nat_same m n e = go (nat_cmp n n) (nat_cmp_total.antisymm n n) (ap (λ k. nat_cmp k n) e)
  where
    go : (p : Ordering) → p ≡ ordering_reverse p → nat_cmp m n ≡ p → nat_cmp m n ≡ Equal
    go Less k h = absurd (cc)
    go Equal k h = h
    go Greater k h = absurd (cc)

-- a last test that only tells apart what is told apart already
then_last : (x z : Ordering) → (x ≡ Equal → z ≡ Equal) → ordering_then x z ≡ x
then_last Less z h = refl
then_last Equal z h = h refl
then_last Greater z h = refl

-- two tests of codes that tell only those apart that the ranks do
then_skip : (x y z w v : Ordering) → (x ≡ Equal → z ≡ Equal) → (y ≡ Equal → w ≡ Equal) →
    ordering_then (ordering_then (ordering_then (ordering_then x y) z) w) v ≡ ordering_then x (ordering_then y v)
then_skip Less y z w v f g = refl
then_skip Greater y z w v f g = refl
then_skip Equal Less z w v f g = refl
then_skip Equal Greater z w v f g = refl
then_skip Equal Equal z w v f g = rw (f refl, g refl) refl

-- a first test that decides
then_unequal : (x y : Ordering) → (x ≡ Equal → ⊥) → ordering_then x y ≡ x
then_unequal Less y h = refl
then_unequal Equal y h = absurd (h refl)
then_unequal Greater y h = refl

-- elements

-- lists of elements are compared as the elements that they show
compared : (t : Table) → AreKeys (get t.linked) → (o : Ordered) → AreRanks t o → (ks ls : List Ranked)
    (es fs : Elements) → AllByRecursion (IsRanked o) ks → AllByRecursion (IsRanked o) ls →
    ShowElements t.vtree (get t.linked) (map codes_of ks) es →
    ShowElements t.vtree (get t.linked) (map codes_of ls) fs → slice_cmp ranked_cmp ks ls ≡ elements_cmp es fs
compared t keys o ranks [] [] End End rk rl hk hl = refl
compared t keys o ranks [] [] End (Pair q u fs) rk rl hk hl = absurd hl
compared t keys o ranks [] ls (Pair p s es) fs rk rl hk hl = absurd hk
compared t keys o ranks [] (l ∷ ls) End End rk rl hk hl = absurd hl
compared t keys o ranks [] (l ∷ ls) End (Pair q u fs) rk rl hk hl = refl
compared t keys o ranks (k ∷ ks) ls End fs rk rl hk hl = absurd hk
compared t keys o ranks (k ∷ ks) [] (Pair p s es) End rk rl hk hl = refl
compared t keys o ranks (k ∷ ks) [] (Pair p s es) (Pair q u fs) rk rl hk hl = absurd hl
compared t keys o ranks (k ∷ ks) (l ∷ ls) (Pair p s es) End rk rl hk hl = absurd hl
compared t keys o ranks (k ∷ ks) (l ∷ ls) (Pair p s es) (Pair q u fs) rk rl hk hl =
    let a : rank_cmp k.0 l.0 ≡ diagram_cmp p q = ranks.order k.2 l.2 k.0 l.0 p q rk.0.0 rl.0.0 hk.0 hl.0 in
    let b : rank_cmp k.1 l.1 ≡ diagram_cmp s u = ranks.order k.3 l.3 k.1 l.1 s u rk.0.1 rl.0.1 hk.1 hl.1 in
    let c : slice_cmp ranked_cmp ks ls ≡ elements_cmp es fs =
    compared t keys o ranks ks ls es fs rk.1 rl.1 hk.2 hl.2 in
    then_skip (rank_cmp k.0 l.0) (rank_cmp k.1 l.1) (nat_cmp k.2 l.2) (nat_cmp k.3 l.3) (slice_cmp ranked_cmp ks ls)
    (λ e. nat_same k.2 l.2 (one_code t.vtree (get t.linked) keys p k.2 l.2 hk.0
    (subst (Shows t l.2) (sym (exact p q (sym a ∙ e))) hl.0)))
    (λ e. nat_same k.3 l.3 (one_code t.vtree (get t.linked) keys s k.3 l.3 hk.1
    (subst (Shows t l.3) (sym (exact s u (sym b ∙ e))) hl.1)))
    ∙ ap (λ x. ordering_then x (ordering_then (rank_cmp k.1 l.1) (slice_cmp ranked_cmp ks ls))) a
    ∙ ap (λ x. ordering_then (diagram_cmp p q) (ordering_then x (slice_cmp ranked_cmp ks ls))) b
    ∙ ap (λ x. ordering_then (diagram_cmp p q) (ordering_then (diagram_cmp s u) x)) c

-- what has a greater prime than the first is behind it
first_below : (t : Table) (o : Ordered) → AreRanks t o → (k : Ranked) (p : Diagram) → rank_of o k.2 ≡ Some k.0 →
    Shows t k.2 p → (ls : List Ranked) (fs : Elements) → AllByRecursion (IsRanked o) ls →
    ShowElements t.vtree (get t.linked) (map codes_of ls) fs →
    AllByRecursion (λ q. diagram_cmp p q ≡ Less) (primes fs) → AllByRecursion (λ l. ranked_cmp k l ≡ Less) ls
first_below t o ranks k p is shown [] fs rl hl h = tt
first_below t o ranks k p is shown (l ∷ ls) End rl hl h = absurd hl
first_below t o ranks k p is shown (l ∷ ls) (Pair q u fs) rl hl h =
    let a : rank_cmp k.0 l.0 ≡ Less = ranks.order k.2 l.2 k.0 l.0 p q is rl.0.0 shown hl.0 ∙ h.0 in (
      ap (λ x. ordering_then (ordering_then (ordering_then x (rank_cmp k.1 l.1)) (nat_cmp k.2 l.2))
          (nat_cmp k.3 l.3)) a,
      first_below t o ranks k p is shown ls fs rl.1 hl.2 h.1,
    )

-- elements whose primes ascend have ascending ranks
ascending_elements : (t : Table) (o : Ordered) → AreRanks t o → (ks : List Ranked) (es : Elements) →
    AllByRecursion (IsRanked o) ks → ShowElements t.vtree (get t.linked) (map codes_of ks) es →
    IsStrictlySortedBy diagram_cmp (primes es) → IsStrictlySortedBy ranked_cmp ks
unfolding IsStrictlySortedBy
ascending_elements t o ranks [] es rk hk up = tt
ascending_elements t o ranks (k ∷ ks) End rk hk up = absurd hk
ascending_elements t o ranks (k ∷ ks) (Pair p s es) rk hk up = (
  first_below t o ranks k p rk.0.0 hk.0 ks es rk.1 hk.2 up.0,
  ascending_elements t o ranks ks es rk.1 hk.2 up.1,
)

-- the sorted elements of a node are those that it shows, in their order
pub elements_sorted : (t : Table) (o : Ordered) → AreRanks t o → (c p : ℕ) (es : Elements) (ks ls : List Ranked) →
    Shows t c (Decomposition p es) → map codes_of ks ≡ pairs_at t c → AllByRecursion (IsRanked o) ks →
    IsPermutation ks ls → IsSorted ranked_cmp ls →
    ShowElements t.vtree (get t.linked) (map codes_of ls) es × AllByRecursion (IsRanked o) ls
elements_sorted t o ranks c p es ks ls h pairs rk order up =
    let k = h.1 in
    let stored : pairs_at t c ≡ k.list =
    pairs_node t c k.number (k.place, k.list) k.code (linked_key t k.number (k.place, k.list) k.stored) in
    let f = lifted codes_of ks h.0 (subst (λ l. IsPermutation l h.0) (sym (pairs ∙ stored)) k.order) in
    let ranked : AllByRecursion (IsRanked o) f.0 = all_permuted (IsRanked o) ks f.0 f.1 rk in
    let shown : ShowElements t.vtree (get t.linked) (map codes_of f.0) es =
    subst (λ l. ShowElements t.vtree (get t.linked) l es) (sym f.2) h.2 in
    let same : f.0 ≡ ls =
    sorted_same ranked_total f.0 ls (ascending_elements t o ranks f.0 es ranked shown h.3)
    (IsPermutation-trans f.0 ks ls (IsPermutation-sym ks f.0 f.1) order) up in (
      subst (λ l. ShowElements t.vtree (get t.linked) (map codes_of l) es) same shown,
      subst (AllByRecursion (IsRanked o)) same ranked,
    )

-- entries of one position

-- two entries are compared as the decompositions that they show
pub entry_compared : (t : Table) → AreKeys (get t.linked) → (o : Ordered) → AreRanks t o → (p : ℕ) (x y : RankedNode)
    (a : IsEntry t o p x) (b : IsEntry t o p y) →
    entry_cmp x y ≡ diagram_cmp (Decomposition p a.elements) (Decomposition p b.elements)
entry_compared t keys o ranks p x y a b =
    let n : x.0 ≡ count a.elements =
    a.count ∙ sym (length-map x.1.items codes_of)
    ∙ pairs_count t.vtree (get t.linked) (map codes_of x.1.items) a.elements a.list in
    let m : y.0 ≡ count b.elements =
    b.count ∙ sym (length-map y.1.items codes_of)
    ∙ pairs_count t.vtree (get t.linked) (map codes_of y.1.items) b.elements b.list in
    let e : slice_cmp ranked_cmp x.1.items y.1.items ≡ elements_cmp a.elements b.elements =
    compared t keys o ranks x.1.items y.1.items a.elements b.elements a.ranked b.ranked a.list b.list in
    let inner : ordering_then (nat_cmp x.0 y.0) (slice_cmp ranked_cmp x.1.items y.1.items)
    ≡ ordering_then (nat_cmp (count a.elements) (count b.elements)) (elements_cmp a.elements b.elements) =
    ap (λ k. ordering_then (nat_cmp k y.0) (slice_cmp ranked_cmp x.1.items y.1.items)) n
    ∙ ap (λ k. ordering_then (nat_cmp (count a.elements) k) (slice_cmp ranked_cmp x.1.items y.1.items)) m
    ∙ ap (ordering_then (nat_cmp (count a.elements) (count b.elements))) e in
    let whole : ordering_then (nat_cmp x.0 y.0) (slice_cmp ranked_cmp x.1.items y.1.items)
    ≡ diagram_cmp (Decomposition p a.elements) (Decomposition p b.elements) =
    inner
    ∙ ap (λ v. ordering_then v (ordering_then (nat_cmp (count a.elements) (count b.elements))
    (elements_cmp a.elements b.elements))) (sym (nat_same p p refl)) in
    then_last (ordering_then (nat_cmp x.0 y.0) (slice_cmp ranked_cmp x.1.items y.1.items)) (nat_cmp x.2 y.2)
    (λ same. nat_same x.2 y.2 (one_code t.vtree (get t.linked) keys (Decomposition p a.elements) x.2 y.2 a.shown
    (subst (Shows t y.2) (sym (exact (Decomposition p a.elements) (Decomposition p b.elements) (sym whole ∙ same)))
    b.shown)))
    ∙ whole

-- one entry more

-- equal ranks
rank_same : (r s : Rank) → r ≡ s → rank_cmp r s ≡ Equal
rank_same r s e = go (rank_cmp s s) (rank_total.antisymm s s) (ap (λ k. rank_cmp k s) e)
  where
    go : (p : Ordering) → p ≡ ordering_reverse p → rank_cmp r s ≡ p → rank_cmp r s ≡ Equal
    go Less k h = absurd (cc)
    go Equal k h = h
    go Greater k h = absurd (cc)

-- what is there
pub is_there : {A : Type 0} (x : A) → IsSome (Some x)
is_there x = refl

-- a rank of another kind or position is compared as the diagrams are
cross : (t : Table) (d : Diagram) (r : Rank) (p index : ℕ) (es : Elements) → FitsRank d r →
    ((place : ℕ) (fs : Elements) → d ≡ Decomposition p fs → r ≡ rank.Decomposition p place →
    (diagram_cmp d (Decomposition p es) ≡ Less) × (place < index)) →
    rank_cmp r (rank.Decomposition p index) ≡ diagram_cmp d (Decomposition p es)
cross t Bottom r p index es fits past = ap (λ s. rank_cmp s (rank.Decomposition p index)) fits
cross t Top r p index es fits past = ap (λ s. rank_cmp s (rank.Decomposition p index)) fits
cross t (Literal q x s) r p index es fits past = ap (λ s. rank_cmp s (rank.Decomposition p index)) fits
cross t (Decomposition q fs) r p index es fits past =
    ap (λ s. rank_cmp s (rank.Decomposition p index)) fits.1 ∙ go (nat_cmp q p) refl
  where
    go : (o : Ordering) → nat_cmp q p ≡ o →
        ordering_then (nat_cmp q p) (nat_cmp fits.0 index)
        ≡ ordering_then (nat_cmp q p) (ordering_then (nat_cmp (count fs) (count es)) (elements_cmp fs es))
    go Less e =
        ap (λ o. ordering_then o (nat_cmp fits.0 index)) e
        ∙ sym (ap (λ o. ordering_then o (ordering_then (nat_cmp (count fs) (count es)) (elements_cmp fs es))) e)
    go Greater e =
        ap (λ o. ordering_then o (nat_cmp fits.0 index)) e
        ∙ sym (ap (λ o. ordering_then o (ordering_then (nat_cmp (count fs) (count es)) (elements_cmp fs es))) e)
    go Equal e =
        let same : q ≡ p = exact_unsigned q p e in
        let k = past fits.0 fs (ap (λ k. Decomposition k fs) same)
        (fits.1 ∙ ap (λ k. rank.Decomposition k fits.0) same) in
        ap (λ o. ordering_then o (nat_cmp fits.0 index)) e ∙ sym (nat_cmp_is fits.0 index Less k.1) ∙ sym k.0

-- what an `if` by numbers gives: the one where they are equal, and else the other
pub if_tells : {A : Type 0} (b c : ℕ) (x y : A) →
    ((b ≡ c) × ((if b == c then x else y) ≡ x)) ⊎ ((b ≢ c) × ((if b == c then x else y) ≡ y))
if_tells {A} b c x y = go (eqb_tells b c)
  where
    go : ((eqb b c ≡ true) × (b ≡ c)) ⊎ ((eqb b c ≡ false) × (b ≢ c)) →
        ((b ≡ c) × ((if b == c then x else y) ≡ x)) ⊎ ((b ≢ c) × ((if b == c then x else y) ≡ y))
    go (inl h) = inl (h.1, ap (λ v. if v then x else y) h.0)
    go (inr h) = inr (h.1, ap (λ v. if v then x else y) h.0)

-- decompositions of one position are equal only with equal elements
elements_equal : (p q : ℕ) (es fs : Elements) → Decomposition p es ≡ Decomposition q fs → (p ≡ q) × (es ≡ fs)
elements_equal p q es fs e = (ap index_in e, ap elements_in e)
  where
    index_in : Diagram → ℕ
    index_in (Decomposition p es) = p
    index_in _ = 0

    elements_in : Diagram → Elements
    elements_in (Decomposition p es) = es
    elements_in _ = End

-- the place of a decomposition
abbrev place_in : Rank → ℕ
place_in (rank.Decomposition p place) = place
place_in r = 0

-- the step for the first entry that is left
module _ (t : Table) (table : IsTable t) (old new : Ordered) (groups : BTreeMap ℕ (Vec ℕ Global)) (p index : ℕ)
    (entry : RankedNode) (left : List RankedNode)
    (given : HasNewRank old new entry.2 (rank.Decomposition p index) (map codes_of entry.1.items))
    (h : IsGiving t old groups p index (entry ∷ left)) where
  -- the diagram that the entry shows
  whole : Diagram
  whole = Decomposition p h.entries.0.elements

  -- its code has no rank yet
  absent : (r : Rank) → rank_of old entry.2 ≡ Some r → ⊥
  absent r is =
      let e = h.entries.0 in
      irreflexive (Decomposition p e.elements)
      (h.past.0 entry.2 r e.elements e.elements is e.shown e.shown)

  -- what has a rank keeps it
  keeps : (b : ℕ) (r : Rank) → rank_of old b ≡ Some r → rank_of new b ≡ Some r
  keeps b r is = go (if_tells b entry.2 (Some (rank.Decomposition p index)) (rank_of old b))
    where
      go : ((b ≡ entry.2) × ((if b == entry.2 then Some (rank.Decomposition p index) else rank_of old b)
          ≡ Some (rank.Decomposition p index)))
          ⊎ ((b ≢ entry.2) × ((if b == entry.2 then Some (rank.Decomposition p index) else rank_of old b)
          ≡ rank_of old b)) →
          rank_of new b ≡ Some r
      go (inl k) = absurd (absent r (ap (rank_of old) (sym k.0) ∙ is))
      go (inr k) = given.ranks b ∙ k.1 ∙ is

  -- what has a rank had it, or is the entry
  ways : (b : ℕ) (r : Rank) → rank_of new b ≡ Some r →
      (rank_of old b ≡ Some r) ⊎ ((b ≡ entry.2) × (r ≡ rank.Decomposition p index))
  ways b r is = go (if_tells b entry.2 (Some (rank.Decomposition p index)) (rank_of old b))
    where
      go : ((b ≡ entry.2) × ((if b == entry.2 then Some (rank.Decomposition p index) else rank_of old b)
          ≡ Some (rank.Decomposition p index)))
          ⊎ ((b ≢ entry.2) × ((if b == entry.2 then Some (rank.Decomposition p index) else rank_of old b)
          ≡ rank_of old b)) →
          (rank_of old b ≡ Some r) ⊎ ((b ≡ entry.2) × (r ≡ rank.Decomposition p index))
      go (inl k) = inr (k.0, same_Some r (rank.Decomposition p index) (sym is ∙ given.ranks b ∙ k.1))
      go (inr k) = inl (sym k.1 ∙ sym (given.ranks b) ∙ is)

  -- what has a rank keeps its list
  keeps_list : (b : ℕ) (r : Rank) → rank_of old b ≡ Some r → list_of new b ≡ list_of old b
  keeps_list b r is = go (if_tells b entry.2 (Some (map codes_of entry.1.items)) (list_of old b))
    where
      go : ((b ≡ entry.2) × ((if b == entry.2 then Some (map codes_of entry.1.items) else list_of old b)
          ≡ Some (map codes_of entry.1.items)))
          ⊎ ((b ≢ entry.2) × ((if b == entry.2 then Some (map codes_of entry.1.items) else list_of old b)
          ≡ list_of old b)) → list_of new b ≡ list_of old b
      go (inl k) = absurd (absent r (ap (rank_of old) (sym k.0) ∙ is))
      go (inr k) = given.lists b ∙ k.1

  -- the entry has its list
  has_list : list_of new entry.2 ≡ Some (map codes_of entry.1.items)
  has_list = go (if_tells entry.2 entry.2 (Some (map codes_of entry.1.items)) (list_of old entry.2))
    where
      go : ((entry.2 ≡ entry.2) × ((if entry.2 == entry.2 then Some (map codes_of entry.1.items)
          else list_of old entry.2) ≡ Some (map codes_of entry.1.items)))
          ⊎ ((entry.2 ≢ entry.2) × ((if entry.2 == entry.2 then Some (map codes_of entry.1.items)
          else list_of old entry.2) ≡ list_of old entry.2)) →
          list_of new entry.2 ≡ Some (map codes_of entry.1.items)
      go (inl k) = given.lists entry.2 ∙ k.1
      go (inr k) = absurd (k.0 refl)

  -- both codes of a pair keep their ranks
  keeps_pair : (e : ℕ × ℕ) → HasRanks old e → HasRanks new e
  keeps_pair e k = (keeps_some e.0 k.0, keeps_some e.1 k.1)
    where
      keeps_some : (b : ℕ) → IsSome (rank_of old b) → IsSome (rank_of new b)
      keeps_some b k = let s = some_value (rank_of old b) k in subst IsSome (sym (keeps b s.0 s.1)) (is_there s.0)

  -- an element keeps its ranks
  keeps_ranked : (e : Ranked) → IsRanked old e → IsRanked new e
  keeps_ranked e k = (keeps e.2 e.0 k.0, keeps e.3 e.1 k.1)

  -- the pairs of elements with ranks have ranks
  pairs_ranked : (es : List Ranked) → AllByRecursion (IsRanked old) es → AllByRecursion (HasRanks new) (map codes_of es)
  pairs_ranked [] k = tt
  pairs_ranked (e ∷ es) k = (
    (
      subst IsSome (sym (keeps e.2 e.0 k.0.0)) (is_there e.0),
      subst IsSome (sym (keeps e.3 e.1 k.0.1)) (is_there e.1),
    ),
    pairs_ranked es k.1,
  )

  -- the entry shows no other diagram
  only : (d : Diagram) → Shows t entry.2 d → whole ≡ d
  unfolding whole
  only d shows =
      one_diagram t.vtree (get t.linked) table.numbered (Decomposition p h.entries.0.elements) entry.2 d
      h.entries.0.shown shows

  -- its rank is compared with an earlier one as the diagrams are
  before : (c : ℕ) (r : Rank) (d : Diagram) → rank_of old c ≡ Some r → Shows t c d →
      rank_cmp r (rank.Decomposition p index) ≡ diagram_cmp d whole
  unfolding whole
  before c r d is shows =
      cross t d r p index h.entries.0.elements (h.ranks.fits c r d is shows)
      (λ place fs e f.
      let at : Shows t c (Decomposition p fs) = subst (Shows t c) e shows in (
        ap (λ x. diagram_cmp x (Decomposition p h.entries.0.elements)) e
            ∙ h.past.0 c r fs h.entries.0.elements is at h.entries.0.shown,
        h.below c place fs (is ∙ ap Some f) at,
      ))

  -- the ranks after the step
  fits_after : (c : ℕ) (r : Rank) (d : Diagram) → rank_of new c ≡ Some r → Shows t c d → FitsRank d r
  unfolding whole
  fits_after c r d is shows = go (ways c r is)
    where
      go : (rank_of old c ≡ Some r) ⊎ ((c ≡ entry.2) × (r ≡ rank.Decomposition p index)) → FitsRank d r
      go (inl k) = h.ranks.fits c r d k shows
      go (inr k) =
          subst (λ x. FitsRank x r) (only d (subst (λ b. Shows t b d) k.0 shows)) (index, k.1)

  order_after : (c b : ℕ) (r s : Rank) (d e : Diagram) → rank_of new c ≡ Some r → rank_of new b ≡ Some s →
      Shows t c d → Shows t b e → rank_cmp r s ≡ diagram_cmp d e
  order_after c b r s d e is at shows seen = go (ways c r is) (ways b s at)
    where
      go : (rank_of old c ≡ Some r) ⊎ ((c ≡ entry.2) × (r ≡ rank.Decomposition p index)) →
          (rank_of old b ≡ Some s) ⊎ ((b ≡ entry.2) × (s ≡ rank.Decomposition p index)) →
          rank_cmp r s ≡ diagram_cmp d e
      go (inl k) (inl l) = h.ranks.order c b r s d e k l shows seen
      go (inl k) (inr l) =
          ap (rank_cmp r) l.1 ∙ before c r d k shows
          ∙ ap (diagram_cmp d) (only e (subst (λ x. Shows t x e) l.0 seen))
      go (inr k) (inl l) =
          ap (λ x. rank_cmp x s) k.1 ∙ rank_total.antisymm (rank.Decomposition p index) s
          ∙ ap ordering_reverse (before b s e l seen) ∙ sym (antisymm whole e)
          ∙ ap (λ x. diagram_cmp x e) (only d (subst (λ x. Shows t x d) k.0 shows))
      go (inr k) (inr l) =
          rank_same r s (k.1 ∙ sym l.1)
          ∙ sym (reflexive d e (sym (only d (subst (λ x. Shows t x d) k.0 shows))
          ∙ only e (subst (λ x. Shows t x e) l.0 seen)))

  lists_after : (c q : ℕ) (r : Rank) (es : Elements) → rank_of new c ≡ Some r → Shows t c (Decomposition q es) →
      IsListed t new c es
  unfolding whole
  lists_after c q r es is shows = go (ways c r is)
    where
      go : (rank_of old c ≡ Some r) ⊎ ((c ≡ entry.2) × (r ≡ rank.Decomposition p index)) → IsListed t new c es
      go (inl k) =
          let l = h.ranks.lists c q r es k shows in
          record {
            list = l.list;
            is = keeps_list c r k ∙ l.is;
            shown = l.shown;
            ranked = all_weaker (HasRanks old) (HasRanks new) keeps_pair l.list l.ranked;
          }
      go (inr k) =
          record {
            list = map codes_of entry.1.items;
            is = ap (list_of new) k.0 ∙ has_list;
            shown =
                subst (ShowElements t.vtree (get t.linked) (map codes_of entry.1.items))
                (elements_equal p q h.entries.0.elements es
                (only (Decomposition q es) (subst (λ b. Shows t b (Decomposition q es)) k.0 shows))).1
                h.entries.0.list;
            ranked = pairs_ranked entry.1.items h.entries.0.ranked;
          }

  -- no group is left at the position of what has a rank
  fresh_after : IsFresh t new groups
  fresh_after c q r es v is shows = go (ways c r is)
    where
      go : (rank_of old c ≡ Some r) ⊎ ((c ≡ entry.2) × (r ≡ rank.Decomposition p index)) →
          tree.get nat_cmp groups q ≡ Some v → ⊥
      go (inl k) e = h.fresh c q r es v k shows e
      go (inr k) e =
          let at : p ≡ q =
          (elements_equal p q h.entries.0.elements es
          (one_diagram t.vtree (get t.linked) table.numbered (Decomposition p h.entries.0.elements) entry.2
          (Decomposition q es) h.entries.0.shown (subst (λ b. Shows t b (Decomposition q es)) k.0 shows))).0 in
          h.gone v (ap (tree.get nat_cmp groups) at ∙ e)

  below_after : (c place : ℕ) (es : Elements) → rank_of new c ≡ Some (rank.Decomposition p place) →
      Shows t c (Decomposition p es) → place < index + 1
  below_after c place es is shows = go (ways c (rank.Decomposition p place) is)
    where
      go : (rank_of old c ≡ Some (rank.Decomposition p place))
          ⊎ ((c ≡ entry.2) × (rank.Decomposition p place ≡ rank.Decomposition p index)) → place < index + 1
      go (inl k) = let lt = h.below c place es k shows in omega arith
      go (inr k) = let e : place ≡ index = ap place_in k.1 in omega arith

  -- an entry that is less comes before
  past_after : (e : RankedNode) → entry_cmp entry e ≡ Less → IsEntry t old p e → IsPast t old p e → IsPast t new p e
  past_after e less at past c r es fs is shows seen = go (ways c r is)
    where
      go : (rank_of old c ≡ Some r) ⊎ ((c ≡ entry.2) × (r ≡ rank.Decomposition p index)) →
          diagram_cmp (Decomposition p es) (Decomposition p fs) ≡ Less
      go (inl k) = past c r es fs k shows seen
      go (inr k) =
          let mine : Decomposition p h.entries.0.elements ≡ Decomposition p es =
          one_diagram t.vtree (get t.linked) table.numbered (Decomposition p h.entries.0.elements) entry.2
          (Decomposition p es) h.entries.0.shown (subst (λ b. Shows t b (Decomposition p es)) k.0 shows) in
          let other : Decomposition p at.elements ≡ Decomposition p fs =
          one_diagram t.vtree (get t.linked) table.numbered (Decomposition p at.elements) e.2 (Decomposition p fs)
          at.shown seen in
          ap (λ x. diagram_cmp x (Decomposition p fs)) (sym mine)
          ∙ ap (diagram_cmp (Decomposition p h.entries.0.elements)) (sym other)
          ∙ sym (entry_compared t table.keys old h.ranks p entry e h.entries.0 at) ∙ less

  all_past : (es : List RankedNode) → AllByRecursion (λ e. entry_cmp entry e ≡ Less) es →
      AllByRecursion (IsEntry t old p) es → AllByRecursion (IsPast t old p) es → AllByRecursion (IsPast t new p) es
  all_past [] a b k = tt
  all_past (e ∷ es) a b k = (past_after e a.0 b.0 k.0, all_past es a.1 b.1 k.1)

  keeps_entry : (e : RankedNode) → IsEntry t old p e → IsEntry t new p e
  keeps_entry e k =
      record {
        elements = k.elements;
        shown = k.shown;
        list = k.list;
        ranked = all_weaker (IsRanked old) (IsRanked new) keeps_ranked e.1.items k.ranked;
        count = k.count;
      }

  -- the entries that are left after the step
  pub given_one : IsGiving t new groups p (index + 1) left
  unfolding IsStrictlySortedBy
  given_one =
      record {
        ranks = record { fits = fits_after; order = order_after; lists = lists_after };
        fresh = fresh_after;
        gone = h.gone;
        below = below_after;
        past = all_past left h.ascending.0 h.entries.1 h.past.1;
        entries = all_weaker (IsEntry t old p) (IsEntry t new p) keeps_entry left h.entries.1;
        ascending = h.ascending.1;
      }
