-- Elements, entries and groups, one more at a time.
use Rattle.std.proofs.Common.{◌≡◌, ◌≢◌, ◌⊎◌, inl, inr, ℕ, zero, suc, ◌+◌, ◌<◌, ◌==◌, true, false, List, [], ◌∷◌}
use Rattle.std.proofs.Common.{◌++◌, length, map, take, drop, get_or, Option}
use Rattle.std.proofs.Common.{Some, None, refl, sym, ◌∙◌, ap, subst, arith}
use Rattle.std.proofs.Common.{slice_get, drop-cons, Result, Ok, Err, if◌then◌else◌}
use Rattle.std.specs.Prelude.{OnOk, ◌||◌}
use Rattle.std.specs.List.{AllByRecursion, IsDistinct, list_any}
use Rattle.std.specs.List.Sorted.{IsPermutation, IsSorted}
use Rattle.std.specs.Option.{IsSome}
use Rattle.std.specs.BTreeMap as tree
use Rattle.std.specs.BTreeMap.{BTreeMap}
use Rattle.std.specs.Cmp.{nat_eq_equiv}
use Rattle.std.specs.Ordering.{nat_cmp, ordering_then, is_eq, eq_by_cmp}
use Rattle.std.specs.declared.cmp.Ordering.{Ordering}
use Rattle.std.specs.declared.cmp.Ordering.TheVariants.{Less, Equal, Greater}
use Rattle.std.specs.declared.vec.Vec.{Vec}
use Rattle.std.specs.declared.alloc.Global.{Global}
use Rattle.std.proofs.Math.Dec.{eqb}
use Rattle.std.proofs.Math.ListN.{drop_of_length-le}
use Rattle.std.proofs.lemmas.Bool.{eqb-false}
use Rattle.std.proofs.lemmas.Bool.Decides.{eqb_tells}
use Rattle.std.proofs.lemmas.List.{map_push, take_all, take_more}
use Rattle.std.proofs.lemmas.List.Sorted.{IsPermutation-sym}
use Rattle.std.proofs.lemmas.Map.Keys.{IsDistinct-push}
use Rattle.std.proofs.lemmas.Option.{same_Some}
use Rattle.sd_laws.proofs.Lists.{all_permuted, all_weaker}
use Rattle.sd_laws.proofs.Products.{all_push}
use Rattle.sd_manager.specs.Table.{Table}
use Rattle.sd_manager.specs.Views.{pairs_at}
use Rattle.sd_manager.specs.Valid.{IsTable}
use Rattle.sd_file.specs.declared.known.Ordered.{Ordered}
use Rattle.sd_file.specs.declared.order.Found.{Found}
use Rattle.sd_file.specs.Ordered.{rank_of}
use Rattle.sd_file.specs.declared.known.Rank.TheVariants as rank
use Rattle.sd_file.specs.Ranks.{Ranked, RankedNode, ranked_cmp, entry_cmp, codes_of}
use Rattle.sd_file.specs.Ranks.{IsRanked, AreRanks, IsEntry, IsPast, IsFresh}
use Rattle.sd_file.specs.Ranks.{IsGiving, HasNewRank, IsNodeAt, IsGroup, AreLeft, NoneAt, AreFound, IsAdded, was_seen}
use Rattle.sd_file.specs.Ranks.{items_of, HasRankedTo, HasEntries, HasGiven, IsLeft, IsFoundAlso}
use Rattle.sd_file.specs.Ranks.{HaveRanksTo, KeepRanks}
use Rattle.sd_file.proofs.Ascending.{sorted_strict}
use Rattle.sd_file.proofs.Ranking.{if_tells, entry_total, given_one, elements_sorted}
use Rattle.sd_file.proofs.Giving.{nat_other}
use Rattle.sd_file.proofs.Standing.{added_also, given_keeps, given_has}

-- the first elements of a list and the next one
pub take_next : {X : Type 0} (xs : List X) (i : ℕ) (x : X) → slice_get xs i ≡ Some x →
    take (i + 1) xs ≡ take i xs ++ x ∷ []
take_next {X} xs i x h = go xs i h
  where
    step : (xs : List X) (i : ℕ) → take (suc i) xs ≡ take (i + 1) xs
    step xs i = let e : suc i ≡ i + 1 = omega arith in ap (λ n. take n xs) e

    go : (xs : List X) (i : ℕ) → slice_get xs i ≡ Some x → take (i + 1) xs ≡ take i xs ++ x ∷ []
    go [] i h = absurd (cc)
    go (y ∷ ys) zero h = sym (step (y ∷ ys) 0) ∙ ap (λ z. z ∷ []) (same_Some y x h)
    go (y ∷ ys) (suc i) h =
        sym (step (y ∷ ys) (suc i)) ∙ ap (λ l. y ∷ l) (step ys i ∙ go ys i h)

-- one element more
pub ranked_more : (t : Table) (o : Ordered) (c i : ℕ) (v w : List Ranked) (e : ℕ × ℕ) (x : Ranked) →
    HasRankedTo t o c i v → slice_get (pairs_at t c) i ≡ Some e → x.2 ≡ e.0 → x.3 ≡ e.1 →
    rank_of o e.0 ≡ Some x.0 → rank_of o e.1 ≡ Some x.1 → w ≡ v ++ x ∷ [] → HasRankedTo t o c (i + 1) w
ranked_more t o c i v w e x h at a b r s same =
    record {
      pairs =
          ap (map codes_of) same ∙ map_push codes_of v x ∙ ap (λ l. l ++ codes_of x ∷ []) h.pairs
          ∙ ap (λ z. take i (pairs_at t c) ++ z ∷ []) pair ∙ sym (take_next (pairs_at t c) i e at);
      ranked =
          subst (AllByRecursion (IsRanked o)) (sym same)
          (all_push (IsRanked o) v x h.ranked (ap (rank_of o) a ∙ r, ap (rank_of o) b ∙ s));
    }
  where
    pair : codes_of x ≡ e
    pair = ap {B = ℕ × ℕ} (λ n. (n, x.3)) a ∙ ap {B = ℕ × ℕ} (λ n. (e.0, n)) b

-- one entry more
pub entries_more : (t : Table) (o : Ordered) (group : List ℕ) (i d : ℕ) (v w : List RankedNode) (x : RankedNode) →
    HasEntries t o group i v → i < length group → x.2 ≡ get_or group i d →
    ((p : ℕ) → IsNodeAt t p (get_or group i d) → IsEntry t o p x) → w ≡ v ++ x ∷ [] → HasEntries t o group (i + 1) w
entries_more t o group i d v w x h lt code is same =
    record {
      codes =
          ap (map (λ (e : RankedNode). e.2)) same ∙ map_push (λ (e : RankedNode). e.2) v x
          ∙ ap (λ l. l ++ x.2 ∷ []) h.codes ∙ ap (λ n. take i group ++ n ∷ []) code
          ∙ sym (take_more group i d lt);
      entries = λ p each.
          subst (AllByRecursion (IsEntry t o p)) (sym same)
          (all_push (IsEntry t o p) v x (h.entries p each) (is p (all_or (IsNodeAt t p) group i each lt)));
    }
  where
    all_or : (P : ℕ → Type 0) (xs : List ℕ) (i : ℕ) → AllByRecursion P xs → i < length xs → P (get_or xs i d)
    all_or P [] i k lt = absurd (omega (arith, lt))
    all_or P (x ∷ xs) zero k lt = k.0
    all_or P (x ∷ xs) (suc i) k lt = all_or P xs i k.1 (omega (arith, lt))

-- the entry of a decomposition
pub entry_is : (t : Table) (o : Ordered) → AreRanks t o → (code n : ℕ) (ks : List Ranked) (ls : Vec Ranked Global) →
    map codes_of ks ≡ pairs_at t code → AllByRecursion (IsRanked o) ks → IsPermutation ks ls.items →
    IsSorted ranked_cmp ls.items → n ≡ length ls.items → (p : ℕ) → IsNodeAt t p code → IsEntry t o p (n, ls, code)
entry_is t o ranks code n ks ls pairs ranked order up count p at =
    let e = elements_sorted t o ranks code p at.0 ks ls.items at.1.shows pairs ranked order up in
    record { elements = at.0; shown = at.1.shows; list = e.0; ranked = e.1; count = count }

-- the next entry gets its rank and its list
pub given_more : (old o new : Ordered) (p i : ℕ) (xs : List RankedNode) (x : RankedNode) (list : List (ℕ × ℕ)) →
    HasGiven old o p i xs → i < length xs → x ≡ get_or xs i x → list ≡ map codes_of x.1.items →
    HasNewRank o new x.2 (rank.Decomposition p i) list → HasGiven old new p (i + 1) xs
given_more old o new p i xs x list h lt is pairs given t groups table start =
    let split : drop i xs ≡ x ∷ drop (suc i) xs =
    drop-cons xs i x lt ∙ ap (λ z. z ∷ drop (suc i) xs) (sym is) in
    let next : suc i ≡ i + 1 = omega arith in
    subst (λ n. IsGiving t new groups p (i + 1) (drop n xs)) next
    (given_one t table o new groups p i x (drop (suc i) xs)
    (subst (λ l. HasNewRank o new x.2 (rank.Decomposition p i) l) pairs given)
    (subst (IsGiving t o groups p i) split (h t groups table start)))

-- at the end none is left
pub given_all : (old new : Ordered) (p i : ℕ) (xs : List RankedNode) → HasGiven old new p i xs → i ≡ length xs →
    (t : Table) (groups : BTreeMap ℕ (Vec ℕ Global)) → IsTable t → IsGiving t old groups p 0 xs →
    IsGiving t new groups p (length xs) []
given_all old new p i xs h e t groups table start =
    subst (λ n. IsGiving t new groups p n []) e
    (subst (IsGiving t new groups p i) (drop_of_length-le xs (omega (arith, e))) (h t groups table start))

-- no entry has a rank yet
pub ranks_none : (o : Ordered) (xs : List RankedNode) → HaveRanksTo o o 0 xs
ranks_none o xs = record { kept = λ c s. s; given = none xs }
  where
    none : (xs : List RankedNode) → AllByRecursion (λ (e : RankedNode). IsSome (rank_of o e.2)) (take 0 xs)
    none [] = tt
    none (x ∷ xs) = tt

-- the next entry has one
pub ranks_more : (old o new : Ordered) (p i : ℕ) (xs : List RankedNode) (x : RankedNode) (list : List (ℕ × ℕ)) →
    HaveRanksTo old o i xs → i < length xs → x ≡ get_or xs i x →
    HasNewRank o new x.2 (rank.Decomposition p i) list → HaveRanksTo old new (i + 1) xs
ranks_more old o new p i xs x list h lt is given =
    record {
      kept = λ c s. keeps c (h.kept c s);
      given =
          subst (AllByRecursion (λ (e : RankedNode). IsSome (rank_of new e.2)))
          (sym (take_more xs i x lt ∙ ap (λ z. take i xs ++ z ∷ []) (sym is)))
          (all_push (λ (e : RankedNode). IsSome (rank_of new e.2)) (take i xs) x
          (all_weaker (λ (e : RankedNode). IsSome (rank_of o e.2)) (λ (e : RankedNode). IsSome (rank_of new e.2))
          (λ e s. keeps e.2 s) (take i xs) h.given) (given_has o new x.2 (rank.Decomposition p i) given.ranks));
    }
  where
    keeps : KeepRanks o new
    keeps = given_keeps o new x.2 (rank.Decomposition p i) given.ranks

-- at the end all have
pub ranks_all : (old o : Ordered) (i : ℕ) (xs : List RankedNode) → HaveRanksTo old o i xs → i ≡ length xs →
    AllByRecursion (λ (e : RankedNode). IsSome (rank_of o e.2)) xs
ranks_all old o i xs h e =
    subst (AllByRecursion (λ (e : RankedNode). IsSome (rank_of o e.2))) (take_all i xs (omega (arith, e))) h.given

-- so have the codes of the entries, in any order
pub ranks_codes : (o : Ordered) (group : List ℕ) (v w : List RankedNode) → map (λ (e : RankedNode). e.2) v ≡ group →
    IsPermutation v w → AllByRecursion (λ (e : RankedNode). IsSome (rank_of o e.2)) w →
    AllByRecursion (λ c. IsSome (rank_of o c)) group
ranks_codes o group v w codes order h =
    subst (AllByRecursion (λ c. IsSome (rank_of o c))) codes
    (over v (all_permuted (λ (e : RankedNode). IsSome (rank_of o e.2)) w v (IsPermutation-sym v w order) h))
  where
    over : (v : List RankedNode) → AllByRecursion (λ (e : RankedNode). IsSome (rank_of o e.2)) v →
        AllByRecursion (λ c. IsSome (rank_of o c)) (map (λ (e : RankedNode). e.2) v)
    over [] h = tt
    over (x ∷ v) h = (h.0, over v h.1)

-- groups

-- a last test that tells apart
then_apart : (x y : Ordering) → is_eq y ≡ false → is_eq (ordering_then x y) ≡ false
then_apart Less y h = refl
then_apart Equal y h = h
then_apart Greater y h = refl

-- entries of distinct codes are distinct
distinct_from : (x : RankedNode) (ys : List RankedNode)
    → AllByRecursion (λ c. eqb x.2 c ≡ false) (map (λ (e : RankedNode). e.2) ys) →
    AllByRecursion (λ y. eq_by_cmp entry_cmp x y ≡ false) ys
distinct_from x [] h = tt
distinct_from x (y ∷ ys) h =
    (then_apart _ (nat_cmp x.2 y.2) (nat_other x.2 y.2 (eqb-false x.2 y.2 h.0)), distinct_from x ys h.1)

distinct_entries : (xs : List RankedNode) → IsDistinct eqb (map (λ (e : RankedNode). e.2) xs) →
    IsDistinct (eq_by_cmp entry_cmp) xs
unfolding IsDistinct
distinct_entries [] h = tt
distinct_entries (x ∷ xs) h = (distinct_from x xs h.0, distinct_entries xs h.1)

-- the start of giving ranks at a position at which none has a rank
pub giving_start : (t : Table) (o : Ordered) (groups : BTreeMap ℕ (Vec ℕ Global)) (p : ℕ) (group : List ℕ)
    (v w : List RankedNode) → AreRanks t o → IsGroup t p group → map (λ (e : RankedNode). e.2) v ≡ group →
    AllByRecursion (IsEntry t o p) v → IsPermutation v w → IsSorted entry_cmp w → IsFresh t o groups →
    NoneAt t o p → tree.get nat_cmp groups p ≡ None → IsGiving t o groups p 0 w
giving_start t o groups p group v w ranks is codes entries order up fresh none gone =
    record {
      ranks = ranks;
      fresh = fresh;
      gone = λ u e. absurd (cc);
      below = λ c place es at shows. absurd (none c (rank.Decomposition p place) es at shows);
      past = all_past w;
      entries = all_permuted (IsEntry t o p) v w order entries;
      ascending =
          sorted_strict entry_total v w (distinct_entries v (subst (IsDistinct eqb) (sym codes) is.distinct)) order up;
    }
  where
    all_past : (xs : List RankedNode) → AllByRecursion (IsPast t o p) xs
    all_past [] = tt
    all_past (x ∷ xs) = ((λ c r es fs at shows seen. absurd (none c r es at shows)), all_past xs)

-- what follows from a call that was well done
pub on_ok : {T E A B : Type 0} (r : Result T E) → (A → B) → OnOk r A → OnOk r B
on_ok (Ok x) f h = f h
on_ok (Err e) f h = tt

-- the group that was taken out
pub group_taken : (t : Table) (o : Ordered) (groups : BTreeMap ℕ (Vec ℕ Global)) (p : ℕ) (v : Vec ℕ Global) →
    AreLeft t o groups → tree.get nat_cmp groups p ≡ Some v → IsGroup t p v.items × NoneAt t o p
group_taken t o groups p v h e = (h.each p v e, λ c r es is shows. h.fresh c p r es v is shows e)

-- fewer groups
pub fresh_fewer : (t : Table) (o : Ordered) (old new : BTreeMap ℕ (Vec ℕ Global)) →
    ((q : ℕ) (v : Vec ℕ Global) → tree.get nat_cmp new q ≡ Some v → tree.get nat_cmp old q ≡ Some v) →
    IsFresh t o old → IsFresh t o new
fresh_fewer t o old new rest h c p r es v is shows e = h c p r es v is shows (rest p v e)

-- one code more

-- a code that was not seen is none of those that were
none_of : (f : Found) (c : ℕ) (xs : List ℕ) → was_seen f c ≡ false → AllByRecursion (λ b. was_seen f b ≡ true) xs →
    list_any (eqb c) xs ≡ false
none_of f c [] h k = refl
none_of f c (x ∷ xs) h k = go (eqb_tells c x) (none_of f c xs h k.1)
  where
    go : ((eqb c x ≡ true) × (c ≡ x)) ⊎ ((eqb c x ≡ false) × (c ≢ x)) → list_any (eqb c) xs ≡ false →
        list_any (eqb c) (x ∷ xs) ≡ false
    go (inl e) rest = absurd (cc (sym h ∙ ap (was_seen f) e.1 ∙ k.0))
    go (inr e) rest = ap (λ b. b || list_any (eqb c) xs) e.0 ∙ rest

-- a group of no codes
no_group : (t : Table) (p : ℕ) → IsGroup t p []
unfolding IsDistinct
no_group t p = record { each = tt; distinct = tt }

-- the groups with one code more
pub added_found : (t : Table) (old new : Found) (p c : ℕ) → AreFound t old → IsAdded old new p c → IsNodeAt t p c →
    was_seen old c ≡ false → AreFound t new
added_found t old new p c h k at fresh =
    record { each = λ q v e. each q v e; seen = λ q v e. seen q v e; among = among }
  where
    was : (b : ℕ) → was_seen old b ≡ true → was_seen new b ≡ true
    was b s = go (if_tells b c true (was_seen old b))
      where
        go : ((b ≡ c) × ((if b == c then true else was_seen old b) ≡ true))
            ⊎ ((b ≢ c) × ((if b == c then true else was_seen old b) ≡ was_seen old b)) → was_seen new b ≡ true
        go (inl w) = k.seen b ∙ w.1
        go (inr w) = k.seen b ∙ w.1 ∙ s

    now : was_seen new c ≡ true
    now = go (if_tells c c true (was_seen old c))
      where
        go : ((c ≡ c) × ((if c == c then true else was_seen old c) ≡ true))
            ⊎ ((c ≢ c) × ((if c == c then true else was_seen old c) ≡ was_seen old c)) → was_seen new c ≡ true
        go (inl w) = k.seen c ∙ w.1
        go (inr w) = absurd (w.0 refl)

    among : (b : ℕ) → was_seen new b ≡ true → IsLeft new.groups b
    among b s = go (if_tells b c true (was_seen old b))
      where
        also : IsFoundAlso old new c
        also = added_also old new p c k

        go : ((b ≡ c) × ((if b == c then true else was_seen old b) ≡ true))
            ⊎ ((b ≢ c) × ((if b == c then true else was_seen old b) ≡ was_seen old b)) → IsLeft new.groups b
        go (inl w) = subst (IsLeft new.groups) (sym w.0) also.here
        go (inr w) = also.kept b (h.among b (sym w.1 ∙ sym (k.seen b) ∙ s))

    had : (o : Option (Vec ℕ Global)) → tree.get nat_cmp old.groups p ≡ o →
        IsGroup t p (items_of o) × AllByRecursion (λ b. was_seen old b ≡ true) (items_of o)
    had None e = (no_group t p, tt)
    had (Some v) e = (h.each p v e, h.seen p v e)

    grown : IsGroup t p (items_of (tree.get nat_cmp old.groups p) ++ c ∷ [])
    grown =
        let g = had (tree.get nat_cmp old.groups p) refl in
        record {
          each = all_push (IsNodeAt t p) (items_of (tree.get nat_cmp old.groups p)) c g.0.each at;
          distinct =
              IsDistinct-push nat_eq_equiv (items_of (tree.get nat_cmp old.groups p)) c g.0.distinct
              (none_of old c (items_of (tree.get nat_cmp old.groups p)) fresh g.1);
        }

    each : (q : ℕ) (v : Vec ℕ Global) → tree.get nat_cmp new.groups q ≡ Some v → IsGroup t q v.items
    each q v e = go (eqb_tells q p)
      where
        go : ((eqb q p ≡ true) × (q ≡ p)) ⊎ ((eqb q p ≡ false) × (q ≢ p)) → IsGroup t q v.items
        go (inl w) =
            let same : k.group ≡ v = same_Some k.group v (sym k.is ∙ ap (tree.get nat_cmp new.groups) (sym w.1) ∙ e) in
            subst (λ n. IsGroup t n v.items) (sym w.1)
            (subst (IsGroup t p) (sym k.items ∙ ap (λ z. z.items) same) grown)
        go (inr w) = h.each q v (sym (k.others q w.1) ∙ e)

    seen : (q : ℕ) (v : Vec ℕ Global) → tree.get nat_cmp new.groups q ≡ Some v →
        AllByRecursion (λ b. was_seen new b ≡ true) v.items
    seen q v e = go (eqb_tells q p)
      where
        go : ((eqb q p ≡ true) × (q ≡ p)) ⊎ ((eqb q p ≡ false) × (q ≢ p)) →
            AllByRecursion (λ b. was_seen new b ≡ true) v.items
        go (inl w) =
            let same : k.group ≡ v = same_Some k.group v (sym k.is ∙ ap (tree.get nat_cmp new.groups) (sym w.1) ∙ e) in
            let g = had (tree.get nat_cmp old.groups p) refl in
            subst (AllByRecursion (λ b. was_seen new b ≡ true)) (sym k.items ∙ ap (λ z. z.items) same)
            (all_push (λ b. was_seen new b ≡ true) (items_of (tree.get nat_cmp old.groups p)) c
            (all_weaker (λ b. was_seen old b ≡ true) (λ b. was_seen new b ≡ true) was
            (items_of (tree.get nat_cmp old.groups p)) g.1) now)
        go (inr w) =
            all_weaker (λ b. was_seen old b ≡ true) (λ b. was_seen new b ≡ true) was v.items
            (h.seen q v (sym (k.others q w.1) ∙ e))
