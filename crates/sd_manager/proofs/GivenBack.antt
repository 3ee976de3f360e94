-- A loose run is given back: the table is valid without it, and the uses of its list are dropped.
use Rattle.std.proofs.Common.{◌≡◌, ℕ, ◌+◌, ◌-◌, ◌≤◌, List, length, Option, Some, unwrap_or, sym, ap, subst}
use Rattle.std.proofs.Common.{[], ◌∙◌, arith}
use Rattle.std.specs.Option.{option_map}
use Rattle.std.specs.Ordering.{nat_cmp}
use Rattle.std.specs.FinMap.{FinMap, get, remove}
use Rattle.sd_vtree.specs.Numbered.{Numbered}
use Rattle.sd_unique.specs.Nodes.{Nodes, IsNodes}
use Rattle.sd_unique.specs.Relinking.{IsLoose, without_loose}
use Rattle.sd_laws.proofs.Lists.{all_weaker}
use Rattle.sd_manager.specs.Table.{Table, key_at, uses_of, uses_in}
use Rattle.sd_manager.specs.Shown.{IsNodeOf, HasNode, AreThere}
use Rattle.sd_manager.specs.Valid.{IsTable}
use Rattle.sd_manager.specs.Counting.{AreCounted, IsCounted, DropsUses, run_at}
use Rattle.sd_manager.specs.Stored.{table_of, IsStored}
use Rattle.sd_manager.specs.Moving.{IsGivenBack, with_free}
use Rattle.sd_manager.proofs.Holding.{there_counted, count_is}
use Rattle.sd_manager.proofs.Totals.{left_was, total_without}

-- the table without a loose run of this list
abbrev pub without_run : Table → ℕ → List (ℕ × ℕ) → Table
without_run t start list = record (with_free t (length list)) { loose = remove t.loose start }

module _ (t : Table) (i : IsTable t) (start : ℕ) (list : List (ℕ × ℕ)) (was : get t.loose start ≡ Some list) where
  -- how often a code is used, is what it was without the run
  pub run_uses : (c : ℕ) → uses_of t c ≡ uses_in c list + uses_of (without_run t start list) c
  run_uses c = omega (arith, total_without (uses_in c) t.loose start list was)

  -- what a code shows does not hang on loose runs
  known_without : (c : ℕ) → IsNodeOf t c → IsNodeOf (without_run t start list) c
  known_without c h = record { diagram = h.diagram; is = h.is }

  -- the table is valid
  pub table_without : IsTable (without_run t start list)
  table_without = record {
    numbered = i.numbered;
    keys = i.keys;
    canonical = λ n k e settled. known_without (2050 + n) (i.canonical n k e settled);
    held = λ still root c e. known_without c (i.held still root c e);
    few_roots = i.few_roots;
    either = i.either;
    at_rest = i.at_rest;
    within = i.within;
    several = i.several;
    marked = i.marked;
    closed = i.closed;
    closed_runs = λ s l e. i.closed_runs s l (left_was t.loose start s l e);
    closed_roots = i.closed_roots;
    several_runs = λ s l e. i.several_runs s l (left_was t.loose start s l e);
    total = omega (arith, i.total, total_without length t.loose start list was);
    records_fit = i.records_fit;
    bounded = i.bounded;
    bound_fits = i.bound_fits;
  }

module _ (v : Numbered) (a : Nodes) (m : FinMap nat_cmp ℕ) (e : ℕ) (g : Option ℕ)
    (stored : IsStored a (table_of v a m e g)) where
  -- the codes of a list that is there are counted
  pub list_counted : (l : List (ℕ × ℕ)) → AreThere (table_of v a m e g) l → AreCounted a l
  list_counted l there =
      all_weaker
      (λ (p : ℕ × ℕ). HasNode (table_of v a m e g) p.0 × HasNode (table_of v a m e g) p.1)
      (λ (p : ℕ × ℕ). IsCounted a p.0 × IsCounted a p.1)
      (λ p both. (
        there_counted v a m e g p.0 stored.table.numbered both.0,
        there_counted v a m e g p.1 stored.table.numbered both.1,
      )) l there

  module _ (start count : ℕ)
      (loose : (list : List (ℕ × ℕ)) × (get a.loose start ≡ Some list) × (length list ≡ count)) where
    -- the run is one of the nodes
    pub giving_loose : (list : List (ℕ × ℕ)) × IsLoose a start count list
    giving_loose = (loose.0, record { is = loose.1; counted = loose.2 })

    -- its list is what stands there
    list_is : run_at a start ≡ loose.0
    list_is = ap (λ o. unwrap_or o []) loose.1

    -- the codes of its list are counted
    pub giving_counted : AreCounted a (run_at a start)
    giving_counted =
        subst (AreCounted a) (sym list_is) (list_counted loose.0 (stored.table.closed_runs start loose.0 loose.1))

    -- and each is used as often as it stands there, or more
    pub giving_used : (n k : ℕ) → get a.uses n ≡ Some k → uses_in (2050 + n) (run_at a start) ≤ k
    giving_used n k at =
        subst (λ l. uses_in (2050 + n) l ≤ k) (sym list_is)
        (omega (
          arith,
          count_is v a m e g stored n k at,
          run_uses (table_of v a m e g) stored.table start loose.0 loose.1 (2050 + n),
        ))

    module _ (b : Nodes) (drops : DropsUses a b (λ c. uses_in c (run_at a start))) where
      -- the run is loose still
      still : IsLoose b start count loose.0
      still = record { is = ap (λ x. get x.loose start) drops.rest ∙ loose.1; counted = loose.2 }

      pub giving_still : (list : List (ℕ × ℕ)) × IsLoose b start count list
      giving_still = (loose.0, still)

      module _ (d : Nodes)
          (given_back : (list : List (ℕ × ℕ)) → IsLoose b start count list → d ≡ without_loose b start list)
          (valid : IsNodes d) where
        -- the nodes afterwards
        whole : d ≡ without_loose (record a { uses = b.uses }) start loose.0
        whole =
            given_back loose.0 still ∙ ap (λ x. without_loose x start loose.0) drops.rest

        -- the table is that without the run
        given_is : table_of v d m e g ≡ without_run (table_of v a m e g) start loose.0
        given_is = ap (λ x. table_of v x m e g) whole

        -- how often each node is used
        uses_after : (n : ℕ) (k : ℕ × List (ℕ × ℕ)) → key_at (table_of v a m e g) n ≡ Some k →
            get d.uses n ≡ Some (uses_of (without_run (table_of v a m e g) start loose.0) (2050 + n))
        uses_after n k at =
            ap (λ x. get x.uses n) whole ∙ drops.uses n
            ∙ ap (λ l. option_map (λ u. u - uses_in (2050 + n) l) (get a.uses n)) list_is
            ∙ ap (option_map (λ u. u - uses_in (2050 + n) loose.0)) (stored.uses n k at)
            ∙ ap Some (omega (
              arith,
              run_uses (table_of v a m e g) stored.table start loose.0 loose.1 (2050 + n),
            ))

        -- the manager is kept as it was
        pub given_stored : IsStored d (table_of v d m e g)
        given_stored =
            subst (IsStored d) (sym given_is) (record {
              table = table_without (table_of v a m e g) stored.table start loose.0 loose.1;
              valid = valid;
              uses = uses_after;
            })

        -- and the run was given back
        pub given_run : IsGivenBack (table_of v a m e g) (table_of v d m e g) start count
        given_run = record {
          list = loose.0;
          was = loose.1;
          counted = loose.2;
          is = given_is ∙ ap (λ c. record (with_free (table_of v a m e g) c) { loose = remove a.loose start }) loose.2;
        }
