-- A linked node that nothing uses is taken away: what stays, and that the table is valid and its uses are counted.
use Rattle.std.proofs.Common.{◌≡◌, inl, inr, ℕ, ◌+◌, ◌-◌, ◌≤◌, List, [], ◌∷◌, length, Option, Some, None}
use Rattle.std.proofs.Common.{sym, ap, subst, ◌∙◌, arith}
use Rattle.std.proofs.lemmas.Bool.{cases_eq}
use Rattle.std.specs.Option.{IsSome, option_map}
use Rattle.std.specs.Ordering.{nat_cmp}
use Rattle.std.specs.FinMap.{FinMap, get, insert, remove}
use Rattle.sd_runs.proofs.Maps.{same_at_each, get_insert_other, get_remove_same, get_remove_other}
use Rattle.sd_runs.proofs.Places.{by_cases}
use Rattle.sd_vtree.specs.Numbered.{Numbered, or_else}
use Rattle.sd_unique.specs.Nodes.{Nodes, IsNodes}
use Rattle.sd_unique.specs.Relinking.{unlinked, removed, IsIdle as IsIdleNode}
use Rattle.sd_laws.specs.Values.{StandsIn}
use Rattle.sd_laws.proofs.Lists.{all_weaker}
use Rattle.sd_laws.proofs.Within.{shows_within}
use Rattle.sd_manager.specs.Table.{Table, key_at, uses_of, uses_in}
use Rattle.sd_manager.specs.Shown.{IsNodeOf, HasNode, AreThere}
use Rattle.sd_manager.specs.Valid.{IsTable}
use Rattle.sd_manager.specs.Counting.{AreCounted, IsCounted, DropsUses}
use Rattle.sd_manager.specs.Stored.{table_of, IsStored}
use Rattle.sd_manager.specs.Moving.{next_epoch}
use Rattle.sd_manager.specs.Retiring.{IsIdle, retired}
use Rattle.sd_manager.proofs.Holding.{there_counted, some_value, count_is}
use Rattle.sd_manager.proofs.Reading.{linked_key}
use Rattle.sd_manager.proofs.Totals.{left_was, total_without}
use Rattle.sd_manager.proofs.Unused.{not_in_node, not_in_linked, not_in_run, not_held}

-- the table without the node

module _ (t : Table) (i : IsTable t) (n place : ℕ) (l : List (ℕ × ℕ)) (was : get t.linked n ≡ Some (place, l)) where
  -- a linked node that is left is another one, and was there
  linked_before : (q : ℕ) (k : ℕ × List (ℕ × ℕ)) → get (remove t.linked n) q ≡ Some k →
      (¬ (q ≡ n)) × (get t.linked q ≡ Some k)
  linked_before q k left = (
    λ same.
        let bad : None ≡ Some k =
        sym (get_remove_same t.linked n) ∙ ap (get (remove t.linked n)) (sym same) ∙ left in
        absurd (cc),
    left_was t.linked n q k left,
  )

  -- so is a node, linked or detached
  pub key_before : (q : ℕ) (k : ℕ × List (ℕ × ℕ)) → key_at (retired t n l) q ≡ Some k →
      (¬ (q ≡ n)) × (key_at t q ≡ Some k)
  key_before q k left =
      by_cases
      (λ same.
      let none : key_at (retired t n l) n ≡ None =
      ap (λ x. or_else x (get t.detached n)) (get_remove_same t.linked n) ∙ i.either n (place, l) was in
      let bad : None ≡ Some k = sym none ∙ ap (key_at (retired t n l)) (sym same) ∙ left in
      absurd (cc))
      (λ ne. (ne, sym (ap (λ x. or_else x (get t.detached q)) (get_remove_other t.linked n q ne)) ∙ left))
      (cases_eq q n)

  -- each other node keeps its key
  key_after : (q : ℕ) → ¬ (q ≡ n) → key_at (retired t n l) q ≡ key_at t q
  key_after q ne = ap (λ x. or_else x (get t.detached q)) (get_remove_other t.linked n q ne)

  -- each other code that was there is there
  there_after : (c : ℕ) → ¬ (c ≡ 2050 + n) → HasNode t c → HasNode (retired t n l) c
  there_after c ne (inl low) = inl low
  there_after c ne (inr h) =
      inr (h.0, subst IsSome (sym (key_after (c - 2050) (λ same. ne (omega (arith, h.0, same))))) h.1)

  -- how often a code is used, is what it was without the list of the node
  pub uses_before : (c : ℕ) → uses_of t c ≡ uses_in c l + uses_of (retired t n l) c
  uses_before c =
      omega (arith, total_without (λ (k : ℕ × List (ℕ × ℕ)). uses_in c k.1) t.linked n (place, l) was)

  module _ (unused : uses_of t (2050 + n) ≡ 0) where
    -- the codes of a list that does not have the node are there
    all_after : (k : List (ℕ × ℕ)) → ¬ StandsIn (2050 + n) k → AreThere t k → AreThere (retired t n l) k
    all_after [] none there = tt
    all_after (e ∷ k) none there = (
      (there_after e.0 (λ same. none (inl same)) there.0.0, there_after e.1 (λ same. none (inr (inl same))) there.0.1),
      all_after k (λ stands. none (inr (inr stands))) there.1,
    )

    -- what another code shows is canonical still
    known_after : (c : ℕ) → ¬ (c ≡ 2050 + n) → IsNodeOf t c → IsNodeOf (retired t n l) c
    known_after c ne h = record {
      diagram = h.diagram;
      is = record {
        shows = shows_within t.vtree (get t.linked) (get (remove t.linked n)) (λ q. ¬ (q ≡ n))
            (λ m q p k own at stands same.
            not_in_linked t (2050 + n) unused m (p, k) at (subst (λ r. StandsIn (2050 + r) k) same stands))
            (λ q k own at. get_remove_other t.linked n q own ∙ at)
            h.diagram c (λ q is same. ne (omega (arith, is, same))) h.is.shows;
        canonical = h.is.canonical;
      };
    }

    -- the table is valid
    pub retired_table : IsTable (retired t n l)
    retired_table = record {
      numbered = i.numbered;
      keys = record {
        distinct = λ q r k here there.
            i.keys.distinct q r k (linked_before q k here).1 (linked_before r k there).1;
        ascending = λ q k here. i.keys.ascending q k (linked_before q k here).1;
      };
      canonical = λ q k here settled.
          let before = linked_before q k here in
          known_after (2050 + q) (λ same. before.0 (omega arith)) (i.canonical q k before.1 settled);
      held = λ still root c at. known_after c (not_held t (2050 + n) unused root c at) (i.held still root c at);
      few_roots = i.few_roots;
      either = λ q k here. i.either q k (linked_before q k here).1;
      at_rest = i.at_rest;
      within = λ q k here. i.within q k (key_before q k here).1;
      several = λ q k here. i.several q k (key_before q k here).1;
      marked = λ q k here.
          let before = key_before q k here in
          subst IsSome (sym (get_remove_other t.marks n q before.0)) (i.marked q k before.1);
      closed = λ q k here.
          let before = key_before q k here in
          all_after k.1 (not_in_node t (2050 + n) unused q k before.1) (i.closed q k before.1);
      closed_runs = λ start k at.
          all_after k (not_in_run t (2050 + n) unused start k at) (i.closed_runs start k at);
      closed_roots = λ root c at.
          there_after c (not_held t (2050 + n) unused root c at) (i.closed_roots root c at);
      several_runs = i.several_runs;
      total = omega (
        arith,
        i.total,
        total_without (λ (k : ℕ × List (ℕ × ℕ)). length k.1) t.linked n (place, l) was,
      );
      records_fit = i.records_fit;
      bounded = i.bounded;
      bound_fits = i.bound_fits;
    }

-- the nodes without it

module _ (v : Numbered) (a : Nodes) (m : FinMap nat_cmp ℕ) (e : ℕ) (g : Option ℕ)
    (stored : IsStored a (table_of v a m e g)) where
  -- what the nodes call idle is idle, and the other way
  pub idle_seen : (n : ℕ) → IsIdleNode a n → IsIdle (table_of v a m e g) n
  idle_seen n h =
      let k = some_value (get a.linked n) h.linked in
      let both : Some (uses_of (table_of v a m e g) (2050 + n)) ≡ Some 0 =
      sym (stored.uses n k.0 (linked_key (table_of v a m e g) n k.0 k.1)) ∙ h.unused in
      record { linked = h.linked; unused = cc }

  pub idle_of_table : (n : ℕ) → IsIdle (table_of v a m e g) n → IsIdleNode a n
  idle_of_table n h =
      let k = some_value (get a.linked n) h.linked in
      record {
        linked = h.linked;
        unused = stored.uses n k.0 (linked_key (table_of v a m e g) n k.0 k.1) ∙ ap Some h.unused;
      }

  module _ (n place : ℕ) (l : List (ℕ × ℕ)) (was : get a.linked n ≡ Some (place, l)) where
    -- the codes of the list of the node are counted
    pub retiring_counted : AreCounted a l
    retiring_counted =
        all_weaker
        (λ (p : ℕ × ℕ). HasNode (table_of v a m e g) p.0 × HasNode (table_of v a m e g) p.1)
        (λ (p : ℕ × ℕ). IsCounted a p.0 × IsCounted a p.1)
        (λ p both. (
          there_counted v a m e g p.0 stored.table.numbered both.0,
          there_counted v a m e g p.1 stored.table.numbered both.1,
        )) l
        (stored.table.closed n (place, l) (linked_key (table_of v a m e g) n (place, l) was))

    -- each node is used at least as often as it stands there
    pub retiring_used : (q k : ℕ) → get a.uses q ≡ Some k → uses_in (2050 + q) l ≤ k
    retiring_used q k at =
        omega (
          arith,
          count_is v a m e g stored q k at,
          uses_before (table_of v a m e g) stored.table n place l was (2050 + q),
        )

    module _ (unused : uses_of (table_of v a m e g) (2050 + n) ≡ 0) (b : Nodes)
        (drops : DropsUses a b (λ c. uses_in c l)) where
      -- no number is both linked and detached
      same_detached : remove (insert a.detached n (place, l)) n ≡ a.detached
      same_detached =
          same_at_each _ _ (λ q. by_cases
          (λ same.
          ap (get (remove (insert a.detached n (place, l)) n)) same
          ∙ get_remove_same (insert a.detached n (place, l)) n
          ∙ sym (ap (get a.detached) same ∙ stored.table.either n (place, l) was))
          (λ ne. get_remove_other (insert a.detached n (place, l)) n q ne
          ∙ get_insert_other a.detached n (place, l) q ne)
          (cases_eq q n))

      module _ (d : Nodes) (is : d ≡ removed (unlinked b n (place, l)) n l) (valid : IsNodes d) where
        -- the nodes before, but for their uses
        whole : d ≡ removed (unlinked (record a { uses = b.uses }) n (place, l)) n l
        whole = is ∙ ap (λ x. removed (unlinked x n (place, l)) n l) drops.rest

        -- the table is that without the node
        pub retired_is : table_of v d m (next_epoch e) g ≡ retired (table_of v a m e g) n l
        retired_is =
            ap (λ x. table_of v x m (next_epoch e) g) whole
            ∙ ap (λ x. record (retired (table_of v a m e g) n l) { detached = x }) same_detached

        -- how often each node that is left is used
        uses_after : (q : ℕ) (k : ℕ × List (ℕ × ℕ)) → key_at (retired (table_of v a m e g) n l) q ≡ Some k →
            get d.uses q ≡ Some (uses_of (retired (table_of v a m e g) n l) (2050 + q))
        uses_after q k here =
            let before = key_before (table_of v a m e g) stored.table n place l was q k here in
            ap (λ x. get x.uses q) is ∙ get_remove_other b.uses n q before.0 ∙ drops.uses q
            ∙ ap (option_map (λ u. u - uses_in (2050 + q) l)) (stored.uses q k before.1)
            ∙ ap Some (omega (
              arith,
              uses_before (table_of v a m e g) stored.table n place l was (2050 + q),
            ))

        -- the manager is kept as it was
        pub retired_stored : IsStored d (table_of v d m (next_epoch e) g)
        retired_stored =
            subst (IsStored d) (sym retired_is) (record {
              table = retired_table (table_of v a m e g) stored.table n place l was unused;
              valid = valid;
              uses = uses_after;
            })
