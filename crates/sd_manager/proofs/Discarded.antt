-- A detached node that nothing uses is removed: its uses are dropped, and the table is valid without it.
use Rattle.std.proofs.Common.{◌≡◌, inl, inr, ℕ, ◌+◌, ◌-◌, List, [], ◌∷◌, length, Option, Some, None}
use Rattle.std.proofs.Common.{refl, sym, ap, subst, ◌∙◌, arith}
use Rattle.std.proofs.lemmas.Bool.{cases_eq}
use Rattle.std.specs.Option.{IsSome, option_map}
use Rattle.std.specs.Ordering.{nat_cmp}
use Rattle.std.specs.FinMap.{FinMap, get, get-empty, remove}
use Rattle.sd_runs.proofs.Maps.{get_remove_same, get_remove_other}
use Rattle.sd_runs.proofs.Places.{by_cases}
use Rattle.sd_vtree.specs.Numbered.{Numbered, or_else}
use Rattle.sd_unique.specs.Nodes.{Nodes, IsNodes}
use Rattle.sd_unique.specs.Relinking.{removed}
use Rattle.sd_laws.specs.Values.{StandsIn}
use Rattle.sd_manager.specs.Table.{Table, key_at, uses_of, uses_in}
use Rattle.sd_manager.specs.Shown.{IsNodeOf, HasNode, AreThere}
use Rattle.sd_manager.specs.Valid.{IsTable}
use Rattle.sd_manager.specs.Counting.{DropsUses, list_at}
use Rattle.sd_manager.specs.Stored.{table_of, IsStored}
use Rattle.sd_manager.specs.Moving.{IsDiscarded, with_free}
use Rattle.sd_manager.proofs.DetachedList.{detached_drops}
use Rattle.sd_manager.proofs.LinkedUnder.{not_linked}
use Rattle.sd_manager.proofs.Reading.{detached_key}
use Rattle.sd_manager.proofs.Totals.{total_without}
use Rattle.sd_manager.proofs.Unused.{not_in_node, not_in_run, not_held}

-- the table without a detached node of this list
abbrev pub discarded : Table → ℕ → List (ℕ × ℕ) → Table
discarded t n l =
    record (with_free t (length l)) { detached = remove t.detached n; marks = remove t.marks n }

module _ (t : Table) (i : IsTable t) (n place : ℕ) (l : List (ℕ × ℕ)) (was : get t.detached n ≡ Some (place, l)) where
  -- a node that is left is another one, and was there
  pub key_left : (q : ℕ) (k : ℕ × List (ℕ × ℕ)) → key_at (discarded t n l) q ≡ Some k →
      (¬ (q ≡ n)) × (key_at t q ≡ Some k)
  key_left q k left =
      by_cases
      (λ same.
      let none : key_at (discarded t n l) n ≡ None =
      ap (λ x. or_else x (get (remove t.detached n) n)) (not_linked t i n (place, l) was)
      ∙ get_remove_same t.detached n in
      let bad : None ≡ Some k = sym none ∙ ap (key_at (discarded t n l)) (sym same) ∙ left in
      absurd (cc))
      (λ ne. (ne, sym (ap (or_else (get t.linked q)) (get_remove_other t.detached n q ne)) ∙ left))
      (cases_eq q n)

  -- each other code that was there is there
  there_left : (c : ℕ) → ¬ (c ≡ 2050 + n) → HasNode t c → HasNode (discarded t n l) c
  there_left c ne (inl low) = inl low
  there_left c ne (inr h) =
      inr (
        h.0,
        subst IsSome
            (sym (ap (or_else (get t.linked (c - 2050)))
            (get_remove_other t.detached n (c - 2050) (λ same. ne (omega (arith, h.0, same))))))
            h.1,
      )

  -- the codes of a list that does not have the node are there
  all_left : (k : List (ℕ × ℕ)) → ¬ StandsIn (2050 + n) k → AreThere t k → AreThere (discarded t n l) k
  all_left [] none there = tt
  all_left (e ∷ k) none there = (
    (there_left e.0 (λ same. none (inl same)) there.0.0, there_left e.1 (λ same. none (inr (inl same))) there.0.1),
    all_left k (λ stands. none (inr (inr stands))) there.1,
  )

  -- what a code shows does not hang on detached nodes
  known_left : (c : ℕ) → IsNodeOf t c → IsNodeOf (discarded t n l) c
  known_left c h = record { diagram = h.diagram; is = h.is }

  -- outside a move there are no detached nodes
  moves : t.moving ≡ None → ⊥
  moves still =
      let none : get t.detached n ≡ None = ap (λ m. get m n) (i.at_rest still) ∙ get-empty nat_cmp n in
      let bad : None ≡ Some (place, l) = sym none ∙ was in
      cc

  -- how often a code is used, is what it was without the list of the node
  pub uses_left : (c : ℕ) → uses_of t c ≡ uses_in c l + uses_of (discarded t n l) c
  uses_left c = omega (arith, total_without (λ (k : ℕ × List (ℕ × ℕ)). uses_in c k.1) t.detached n (place, l) was)

  -- the table is valid
  pub discarded_table : uses_of t (2050 + n) ≡ 0 → IsTable (discarded t n l)
  discarded_table unused = record {
    numbered = i.numbered;
    keys = i.keys;
    canonical = λ q k here settled. known_left (2050 + q) (i.canonical q k here settled);
    held = λ still root c at. known_left c (i.held still root c at);
    few_roots = i.few_roots;
    either = λ q k here.
        by_cases (λ same. ap (get (remove t.detached n)) same ∙ get_remove_same t.detached n)
        (λ ne. get_remove_other t.detached n q ne ∙ i.either q k here)
        (cases_eq q n);
    at_rest = λ still. absurd (moves still);
    within = λ q k here. i.within q k (key_left q k here).1;
    several = λ q k here. i.several q k (key_left q k here).1;
    marked = λ q k here.
        let before = key_left q k here in
        subst IsSome (sym (get_remove_other t.marks n q before.0)) (i.marked q k before.1);
    closed = λ q k here.
        let before = key_left q k here in
        all_left k.1 (not_in_node t (2050 + n) unused q k before.1) (i.closed q k before.1);
    closed_runs = λ start k at. all_left k (not_in_run t (2050 + n) unused start k at) (i.closed_runs start k at);
    closed_roots = λ root c at. there_left c (not_held t (2050 + n) unused root c at) (i.closed_roots root c at);
    several_runs = i.several_runs;
    total = omega (
      arith,
      i.total,
      total_without (λ (k : ℕ × List (ℕ × ℕ)). length k.1) t.detached n (place, l) was,
    );
    records_fit = i.records_fit;
    bounded = i.bounded;
    bound_fits = i.bound_fits;
  }

-- the nodes without it

module _ (v : Numbered) (a : Nodes) (m : FinMap nat_cmp ℕ) (e : ℕ) (g : Option ℕ)
    (stored : IsStored a (table_of v a m e g)) (n : ℕ) (former : ℕ × List (ℕ × ℕ))
    (was : get a.detached n ≡ Some former) (unused : uses_of (table_of v a m e g) (2050 + n) ≡ 0) (b : Nodes)
    (drops : DropsUses a b (λ c. uses_in c (list_at a n))) where
  -- the node is detached still
  detached_still : get b.detached n ≡ Some former
  detached_still = ap (λ x. get x.detached n) drops.rest ∙ was

  pub discarding_node : IsSome (get b.detached n)
  discarding_node = subst IsSome (sym detached_still) refl

  -- the uses of its list were dropped
  dropped : DropsUses a b (λ c. uses_in c former.1)
  dropped = detached_drops v a m e g stored n former was b drops

  -- and the node itself has none
  pub discarding_unused : get b.uses n ≡ Some 0
  discarding_unused =
      dropped.uses n ∙ ap (option_map (λ k. k - uses_in (2050 + n) former.1))
      (stored.uses n former (detached_key (table_of v a m e g) stored.table n former was))
      ∙ ap Some (omega (arith, unused))

  module _ (d : Nodes) (gone : (k : ℕ × List (ℕ × ℕ)) → get b.detached n ≡ Some k → d ≡ removed b n k.1)
      (valid : IsNodes d) where
    -- it was removed with its list
    whole : d ≡ removed (record a { uses = b.uses }) n former.1
    whole = gone former detached_still ∙ ap (λ x. removed x n former.1) drops.rest

    -- the table is that without the node
    discarded_is : table_of v d m e g ≡ discarded (table_of v a m e g) n former.1
    discarded_is = ap (λ x. table_of v x m e g) whole

    -- how often each node that is left is used
    uses_after : (q : ℕ) (k : ℕ × List (ℕ × ℕ)) → key_at (discarded (table_of v a m e g) n former.1) q ≡ Some k →
        get d.uses q ≡ Some (uses_of (discarded (table_of v a m e g) n former.1) (2050 + q))
    uses_after q k here =
        let before = key_left (table_of v a m e g) stored.table n former.0 former.1 was q k here in
        ap (λ x. get x.uses q) whole ∙ get_remove_other b.uses n q before.0 ∙ dropped.uses q
        ∙ ap (option_map (λ u. u - uses_in (2050 + q) former.1)) (stored.uses q k before.1)
        ∙ ap Some (omega (
          arith,
          uses_left (table_of v a m e g) stored.table n former.0 former.1 was (2050 + q),
        ))

    -- the manager is kept as it was
    pub discarded_stored : IsStored d (table_of v d m e g)
    discarded_stored =
        subst (IsStored d) (sym discarded_is) (record {
          table = discarded_table (table_of v a m e g) stored.table n former.0 former.1 was unused;
          valid = valid;
          uses = uses_after;
        })

    -- and the node was removed
    pub node_discarded : IsDiscarded (table_of v a m e g) (table_of v d m e g) n
    node_discarded = record {
      place = former.0;
      list = former.1;
      was = was;
      is = discarded_is;
    }
