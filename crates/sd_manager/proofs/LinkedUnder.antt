-- A detached node is linked under a key that no linked node has: the table is valid.
use Rattle.std.proofs.Common.{◌≡◌, ◌⊎◌, inl, inr, ℕ, ◌+◌, ◌-◌, ◌<◌, ◌≤◌, List, [], ◌∷◌, length, map}
use Rattle.std.proofs.Common.{Option, Some, None, unwrap_or, refl, sym, ap, subst, ◌∙◌, arith}
use Rattle.std.proofs.lemmas.Bool.{cases_eq}
use Rattle.std.proofs.lemmas.List.Sorted.{IsPermutation-refl}
use Rattle.std.specs.List.Sorted.{IsStrictlySortedBy}
use Rattle.std.specs.Option.{IsSome}
use Rattle.std.specs.Ordering.{nat_cmp}
use Rattle.std.specs.FinMap.{FinMap, get, get-empty, insert, remove}
use Rattle.sd_runs.proofs.Maps.{get_insert_same, get_insert_other, get_remove_same, get_remove_other}
use Rattle.sd_runs.proofs.Places.{by_cases}
use Rattle.sd_model.specs.Diagram.{Diagram}
use Rattle.sd_vtree.specs.Numbered.{or_else}
use Rattle.sd_laws.specs.Shown.{ShowPairs, Keeps}
use Rattle.sd_laws.proofs.Codes.{shows_kept}
use Rattle.sd_laws.proofs.Lists.{all_weaker}
use Rattle.sd_laws.proofs.Made.{made_node, made_several}
use Rattle.sd_manager.specs.Table.{Table, key_at, uses_of, uses_in}
use Rattle.sd_manager.specs.Shown.{IsNodeOf, HasNode, AreThere}
use Rattle.sd_manager.specs.Valid.{IsTable, IsSettled, total_length}
use Rattle.sd_manager.specs.Moving.{FitsNode, IsAscending, IsAbsent, linked_under}
use Rattle.sd_manager.proofs.Reading.{detached_key, shown_has_node}
use Rattle.sd_manager.proofs.Totals.{total_new, total_without}

-- the table with a detached node linked, and with other loose and free runs
abbrev pub linked_with : Table → ℕ → ℕ × List (ℕ × ℕ) → FinMap nat_cmp (List (ℕ × ℕ)) → FinMap nat_cmp ℕ → ℕ → Table
linked_with t n key loose free extent =
    record (linked_under t n key) { loose = loose; free = free; extent = extent }

-- the codes of a list that fits a place are there
pub fitting_there : (t : Table) → IsTable t → (place : ℕ) (list : List (ℕ × ℕ)) → FitsNode t place list →
    AreThere t list
fitting_there t i place list fits = go list fits.diagrams fits.partition.shown
  where
    go : (l : List (ℕ × ℕ)) (ds : List (Diagram × Diagram)) → ShowPairs t.vtree (get t.linked) l ds → AreThere t l
    go [] ds s = tt
    go (pair ∷ l) [] s = absurd s
    go (pair ∷ l) (d ∷ ds) s = (
      (
        shown_has_node t i.numbered pair.0 d.0 s.0.0,
        shown_has_node t i.numbered pair.1 d.1 s.0.1,
      ),
      go l ds s.1,
    )

-- and they are two pairs or more
pub fitting_several : (t : Table) → IsTable t → (place : ℕ) (list : List (ℕ × ℕ)) → FitsNode t place list →
    2 ≤ length list
fitting_several t i place list fits =
    made_several t.vtree (get t.linked) i.numbered i.keys place list list fits.diagrams fits.partition
    (IsPermutation-refl list) fits.differ fits.untrimmed

-- a detached node is not a linked one
pub not_linked : (t : Table) → IsTable t → (n : ℕ) (former : ℕ × List (ℕ × ℕ)) → get t.detached n ≡ Some former →
    get t.linked n ≡ None
not_linked t i n former was = go (get t.linked n) refl
  where
    go : (o : Option (ℕ × List (ℕ × ℕ))) → get t.linked n ≡ o → get t.linked n ≡ None
    go None e = e
    go (Some k) e = let bad : None ≡ Some former = sym (i.either n k e) ∙ was in absurd (cc)

-- keys

module _ (t : Table) (i : IsTable t) (n : ℕ) (former : ℕ × List (ℕ × ℕ)) (was : get t.detached n ≡ Some former)
    (key : ℕ × List (ℕ × ℕ)) where
  -- each linked node stays
  pub linked_keeps : Keeps (get t.linked) (get (insert t.linked n key))
  linked_keeps q k there =
      by_cases
      (λ same.
      let none : None ≡ Some k = sym (not_linked t i n former was) ∙ ap (get t.linked) (sym same) ∙ there in
      absurd (cc))
      (λ ne. get_insert_other t.linked n key q ne ∙ there)
      (cases_eq q n)

  -- a linked node afterwards is this one with its new key, or another that was linked
  pub linked_split : (q : ℕ) (k : ℕ × List (ℕ × ℕ)) → get (insert t.linked n key) q ≡ Some k →
      ((q ≡ n) × (key ≡ k)) ⊎ ((¬ (q ≡ n)) × (get t.linked q ≡ Some k))
  linked_split q k there =
      by_cases
      (λ same.
      let both : Some key ≡ Some k =
      sym (get_insert_same t.linked n key) ∙ ap (get (insert t.linked n key)) (sym same) ∙ there in
      inl (same, ap (λ o. unwrap_or o key) both))
      (λ ne. inr (ne, sym (get_insert_other t.linked n key q ne) ∙ there))
      (cases_eq q n)

  -- each other node has the key that it had
  pub key_other : (q : ℕ) → ¬ (q ≡ n) → key_at (linked_under t n key) q ≡ key_at t q
  key_other q ne =
      ap (λ o. or_else o (get (remove t.detached n) q)) (get_insert_other t.linked n key q ne)
      ∙ ap (or_else (get t.linked q)) (get_remove_other t.detached n q ne)

  -- and this one its new key
  pub key_own : key_at (linked_under t n key) n ≡ Some key
  key_own = ap (λ o. or_else o (get (remove t.detached n) n)) (get_insert_same t.linked n key)

  -- a node afterwards is this one with its new key, or another with the key that it had
  pub key_split : (q : ℕ) (k : ℕ × List (ℕ × ℕ)) → key_at (linked_under t n key) q ≡ Some k →
      ((q ≡ n) × (key ≡ k)) ⊎ ((¬ (q ≡ n)) × (key_at t q ≡ Some k))
  key_split q k there =
      by_cases
      (λ same.
      let both : Some key ≡ Some k = sym key_own ∙ ap (key_at (linked_under t n key)) (sym same) ∙ there in
      inl (same, ap (λ o. unwrap_or o key) both))
      (λ ne. inr (ne, sym (key_other q ne) ∙ there))
      (cases_eq q n)

  -- a code that is there stays there
  pub there_linked : (c : ℕ) → HasNode t c → HasNode (linked_under t n key) c
  there_linked c (inl low) = inl low
  there_linked c (inr h) =
      inr (
        h.0,
        by_cases
            (λ same. subst IsSome (sym (ap (key_at (linked_under t n key)) same ∙ key_own)) refl)
            (λ ne. subst IsSome (sym (key_other (c - 2050) ne)) h.1)
            (cases_eq (c - 2050) n),
      )

  -- and so do the codes of a list
  pub all_linked : (l : List (ℕ × ℕ)) → AreThere t l → AreThere (linked_under t n key) l
  all_linked l there =
      all_weaker (λ (p : ℕ × ℕ). HasNode t p.0 × HasNode t p.1)
      (λ (p : ℕ × ℕ). HasNode (linked_under t n key) p.0 × HasNode (linked_under t n key) p.1)
      (λ p both. (there_linked p.0 both.0, there_linked p.1 both.1)) l there

  -- how often a code is used: in the new list in place of the former one
  pub uses_linked : (c : ℕ) →
      uses_of (linked_under t n key) c + uses_in c former.1 ≡ uses_of t c + uses_in c key.1
  uses_linked c =
      omega (
        arith,
        total_new (λ (k : ℕ × List (ℕ × ℕ)). uses_in c k.1) t.linked n key (not_linked t i n former was),
        total_without (λ (k : ℕ × List (ℕ × ℕ)). uses_in c k.1) t.detached n former was,
      )

-- the table

module _ (t : Table) (i : IsTable t) (n place : ℕ) (former : ℕ × List (ℕ × ℕ)) (list : List (ℕ × ℕ))
    (was : get t.detached n ≡ Some former) (fits : FitsNode t place list) (up : IsAscending list)
    (absent : IsAbsent t place list)
    (loose : FinMap nat_cmp (List (ℕ × ℕ))) (free : FinMap nat_cmp ℕ) (extent : ℕ) where
  -- the table afterwards
  abbrev after : Table
  after = linked_with t n (place, list) loose free extent

  -- what was known is known
  known_linked : (c : ℕ) → IsNodeOf t c → IsNodeOf after c
  known_linked c h = record {
    diagram = h.diagram;
    is = record {
      shows = shows_kept t.vtree (get t.linked) (get (insert t.linked n (place, list)))
          (linked_keeps t i n former was (place, list)) h.diagram c h.is.shows;
      canonical = h.is.canonical;
    };
  }

  -- and the node is known
  known_own : IsNodeOf after (2050 + n)
  known_own =
      let z = made_node t.vtree (get t.linked) (get (insert t.linked n (place, list))) i.numbered i.keys place n
      list list fits.diagrams fits.partition (IsPermutation-refl list) fits.differ fits.untrimmed
      (linked_keeps t i n former was (place, list)) (get_insert_same t.linked n (place, list)) in
      record { diagram = z.0; is = z.1 }

  -- a fact on the new key, and on the keys of the other nodes
  each_key : (P : ℕ → ℕ × List (ℕ × ℕ) → Type 0) → P n (place, list) →
      ((q : ℕ) (k : ℕ × List (ℕ × ℕ)) → key_at t q ≡ Some k → P q k) →
      (q : ℕ) (k : ℕ × List (ℕ × ℕ)) → key_at after q ≡ Some k → P q k
  each_key P own others q k there =
      by_cases (λ same. subst (λ r. P r k) (sym same.0) (subst (P n) same.1 own)) (λ other. others q k other.1)
      (key_split t i n former was (place, list) q k there)

  -- the same for linked nodes
  each_linked : (P : ℕ → ℕ × List (ℕ × ℕ) → Type 0) → P n (place, list) →
      ((q : ℕ) (k : ℕ × List (ℕ × ℕ)) → ¬ (q ≡ n) → get t.linked q ≡ Some k → P q k) →
      (q : ℕ) (k : ℕ × List (ℕ × ℕ)) → get (insert t.linked n (place, list)) q ≡ Some k → P q k
  each_linked P own others q k there =
      by_cases (λ same. subst (λ r. P r k) (sym same.0) (subst (P n) same.1 own))
      (λ other. others q k other.0 other.1)
      (linked_split t i n former was (place, list) q k there)

  -- no other linked node has the key
  distinct : (q r : ℕ) (k : ℕ × List (ℕ × ℕ)) → get (insert t.linked n (place, list)) q ≡ Some k →
      get (insert t.linked n (place, list)) r ≡ Some k → q ≡ r
  distinct q r k first second =
      go (linked_split t i n former was (place, list) q k first)
      (linked_split t i n former was (place, list) r k second)
    where
      go : ((q ≡ n) × ((place, list) ≡ k)) ⊎ ((¬ (q ≡ n)) × (get t.linked q ≡ Some k)) →
          ((r ≡ n) × ((place, list) ≡ k)) ⊎ ((¬ (r ≡ n)) × (get t.linked r ≡ Some k)) → q ≡ r
      go (inl a) (inl b) = a.0 ∙ sym b.0
      go (inl a) (inr b) = absurd (absent r (b.1 ∙ ap Some (sym a.1)))
      go (inr a) (inl b) = absurd (absent q (a.1 ∙ ap Some (sym b.1)))
      go (inr a) (inr b) = i.keys.distinct q r k a.1 b.1

  -- outside a move there are no detached nodes
  moves : t.moving ≡ None → ⊥
  moves still =
      let none : get t.detached n ≡ None = ap (λ m. get m n) (i.at_rest still) ∙ get-empty nat_cmp n in
      let bad : None ≡ Some former = sym none ∙ was in
      cc

  -- The table is valid, where the loose runs are, and the extent has room for all lists.
  pub linked_table : ((start : ℕ) (l : List (ℕ × ℕ)) → get loose start ≡ Some l → AreThere t l × (2 ≤ length l)) →
      total_length after ≤ extent → t.records ≤ extent → extent ≤ t.bound → IsTable after
  linked_table runs total records_fit bounded = record {
    numbered = i.numbered;
    keys = record {
      distinct = distinct;
      ascending = each_linked (λ q k. IsStrictlySortedBy nat_cmp (map (λ (e : ℕ × ℕ). e.0) k.1)) up
          (λ q k ne there. i.keys.ascending q k there);
    };
    canonical = λ q k there settled.
        each_linked (λ q k. IsSettled t k.0 → IsNodeOf after (2050 + q)) (λ here. known_own)
        (λ q k ne old here. known_linked (2050 + q) (i.canonical q k old here)) q k there settled;
    held = λ still. absurd (moves still);
    few_roots = i.few_roots;
    either = λ q k there.
        each_linked (λ q k. get (remove t.detached n) q ≡ None) (get_remove_same t.detached n)
        (λ q k ne old. get_remove_other t.detached n q ne ∙ i.either q k old) q k there;
    at_rest = λ still. absurd (moves still);
    within = λ q k there.
        each_key (λ q k. q < t.records) (i.within n former (detached_key t i n former was)) i.within q k there;
    several = λ q k there.
        each_key (λ q k. 2 ≤ length k.1) (fitting_several t i place list fits) i.several q k there;
    marked = λ q k there.
        each_key (λ q k. IsSome (get t.marks q)) (i.marked n former (detached_key t i n former was)) i.marked q k there;
    closed = λ q k there.
        each_key (λ q k. AreThere (linked_under t n (place, list)) k.1)
        (all_linked t i n former was (place, list) list (fitting_there t i place list fits))
        (λ q k old. all_linked t i n former was (place, list) k.1 (i.closed q k old)) q k there;
    closed_runs = λ start l there. all_linked t i n former was (place, list) l (runs start l there).0;
    closed_roots = λ root c there. there_linked t i n former was (place, list) c (i.closed_roots root c there);
    several_runs = λ start l there. (runs start l there).1;
    total = total;
    records_fit = records_fit;
    bounded = bounded;
    bound_fits = i.bound_fits;
  }
