-- A detached node is rewritten step by step: a run is taken, its uses are added, the runs are exchanged, and the node
-- is linked.
use Rattle.std.proofs.Common.{◌≡◌, ℕ, ◌+◌, ◌-◌, ◌^◌, ◌<◌, ◌≤◌, List, length, Option, Some, None}
use Rattle.std.proofs.Common.{unwrap_or, refl, sym, ap, subst, ◌∙◌, arith}
use Rattle.std.proofs.lemmas.Bool.{cases_eq}
use Rattle.std.specs.Option.{IsSome, option_map}
use Rattle.std.specs.List.Sorted.{IsPermutation, IsSorted}
use Rattle.std.specs.Ordering.{nat_cmp}
use Rattle.std.specs.FinMap.{FinMap, get, insert, remove}
use Rattle.sd_runs.proofs.Maps.{get_insert_same, get_insert_other}
use Rattle.sd_runs.proofs.Places.{by_cases}
use Rattle.sd_vtree.specs.Numbered.{Numbered}
use Rattle.sd_unique.specs.Nodes.{Nodes, IsNodes, free_count}
use Rattle.sd_unique.specs.Inserting.{with_count, extent_after}
use Rattle.sd_unique.specs.Relinking.{IsLoose, with_loose, exchanged, relinked, IsAbsent as IsAbsentOfNodes}
use Rattle.sd_laws.proofs.Made.{sorted_codes}
use Rattle.sd_laws.proofs.Nodes.{pair_cmp}
use Rattle.sd_manager.specs.Table.{Table, key_at, uses_of, uses_in}
use Rattle.sd_manager.specs.Shown.{AreThere}
use Rattle.sd_manager.specs.Counting.{AreCounted, AddsUses}
use Rattle.sd_manager.specs.Stored.{table_of, IsStored}
use Rattle.sd_manager.specs.Moving.{FitsNode, IsAscending, IsAbsent, IsRewritten}
use Rattle.sd_manager.specs.Recounting.{HasOtherList}
use Rattle.sd_manager.proofs.CountsKept.{nodes_closed, nodes_few}
use Rattle.sd_manager.proofs.CountsAfter.{counts_exchanged}
use Rattle.sd_manager.proofs.Fitting.{fits_permuted}
use Rattle.sd_manager.proofs.Holding.{count_is, some_value, uses_in_le, uses_fit}
use Rattle.sd_manager.proofs.LinkedUnder.{fitting_there, fitting_several, not_linked}
use Rattle.sd_manager.proofs.GivenBack.{list_counted}
use Rattle.sd_manager.proofs.Linking.{IsAsked}
use Rattle.sd_manager.proofs.Reading.{detached_key}
use Rattle.sd_manager.proofs.Relisted.{taken_again, taken_out, relisted, relisted_stored}
use Rattle.sd_manager.proofs.Totals.{total_new, total_without}

-- what is asked where a node gets other elements
pub record IsRewriting (v : Numbered) (a : Nodes) (m : FinMap nat_cmp ℕ) (e : ℕ) (g : Option ℕ) (n : ℕ)
    (elements list : List (ℕ × ℕ)) :
    Type 0 where
  pub former : ℕ × List (ℕ × ℕ)
  pub was : get a.detached n ≡ Some former
  pub asked : IsAsked v a m e g former.0 elements list
  pub fits : FitsNode (table_of v a m e g) former.0 list
  pub up : IsAscending list
  pub absent : IsAbsent (table_of v a m e g) former.0 list

-- it is so, by the names of the code
pub rewriting : (v : Numbered) (a : Nodes) (m : FinMap nat_cmp ℕ) (e : ℕ) (g : Option ℕ) (t : Table) (n : ℕ)
    (elements list items : List (ℕ × ℕ)) → IsStored a (table_of v a m e g) → table_of v a m e g ≡ t →
    IsSome (get t.detached n) →
    ((k : ℕ × List (ℕ × ℕ)) → get t.detached n ≡ Some k → FitsNode t k.0 elements) →
    ((k : ℕ × List (ℕ × ℕ)) (l : List (ℕ × ℕ)) → get t.detached n ≡ Some k → IsPermutation elements l →
    IsAscending l → IsAbsent t k.0 l) → IsPermutation elements items → IsSorted pair_cmp items → list ≡ items →
    IsRewriting v a m e g n elements list
rewriting v a m e g t n elements list items stored same node fits absent order sorted is =
    subst (λ l. IsRewriting v a m e g n elements l) (sym is)
    (subst (λ t. IsSome (get t.detached n) →
    ((k : ℕ × List (ℕ × ℕ)) → get t.detached n ≡ Some k → FitsNode t k.0 elements) →
    ((k : ℕ × List (ℕ × ℕ)) (l : List (ℕ × ℕ)) → get t.detached n ≡ Some k → IsPermutation elements l →
    IsAscending l → IsAbsent t k.0 l) → IsRewriting v a m e g n elements items) same
    (λ node fits absent.
    let key = some_value (get a.detached n) node in
    let fit = fits key.0 key.1 in
    let up = sorted_codes v (get a.linked) stored.table.numbered key.0.0 elements items fit.diagrams fit.partition
    order sorted in
    record {
      former = key.0;
      was = key.1;
      asked = record {
        stored = stored;
        one_partition = (fit.diagrams, fit.partition);
        differ = fit.differ;
        order = order;
        up = sorted;
      };
      fits = fits_permuted (table_of v a m e g) stored.table key.0.0 elements items fit order;
      up = up;
      absent = absent key.0 items key.1 order up;
    }) node fits absent)

module _ (v : Numbered) (a : Nodes) (m : FinMap nat_cmp ℕ) (e : ℕ) (g : Option ℕ) (n : ℕ)
    (elements list : List (ℕ × ℕ)) (asks : IsRewriting v a m e g n elements list) where
  -- the nodes are kept as the table says
  stored : IsStored a (table_of v a m e g)
  stored = asks.asked.stored

  -- the list has elements
  pub rewriting_some : 0 < length list
  rewriting_some = omega (arith, fitting_several (table_of v a m e g) stored.table asks.former.0 list asks.fits)

  module _ (start : ℕ) (none : get a.loose start ≡ None) (b : Nodes) (taken : b ≡ with_loose a start list)
      (valid : IsNodes b) where
    -- the codes of the list are counted
    pub rewriting_counted : AreCounted b list
    rewriting_counted =
        subst (λ x. AreCounted x list) (sym taken)
        (list_counted v a m e g stored list (fitting_there (table_of v a m e g) stored.table asks.former.0 list
        asks.fits))

    -- the list is short
    short : length list < 2 ^ 31
    short =
        let there : get b.loose start ≡ Some list =
        ap (λ x. get x.loose start) taken ∙ get_insert_same a.loose start list in
        omega (
          arith,
          total_without length b.loose start list there,
          valid.total,
          valid.bounded,
          ap (λ x. x.bound) taken,
          stored.table.bound_fits,
        )

    -- there is room for its uses
    pub rewriting_room : (q k : ℕ) → get b.uses q ≡ Some k → k + uses_in (2050 + q) list < 2 ^ 64
    rewriting_room q k at =
        omega (
          arith,
          count_is v a m e g stored q k (sym (ap (λ x. get x.uses q) taken) ∙ at),
          uses_fit (table_of v a m e g) (2050 + q) stored.table,
          uses_in_le (2050 + q) list,
          short,
        )

    module _ (d : Nodes) (adds : AddsUses b d (λ c. uses_in c list)) where
      -- the nodes with the run and its uses
      added : d ≡ record (with_loose a start list) { uses = d.uses }
      added = let with : Nodes → Nodes = λ x. record x { uses = d.uses } in adds.rest ∙ ap with taken

      -- the node is detached still
      detached_still : get d.detached n ≡ Some asks.former
      detached_still = ap (λ x. get x.detached n) added ∙ asks.was

      pub rewriting_node : IsSome (get d.detached n)
      rewriting_node = subst IsSome (sym detached_still) refl

      -- the run is loose
      loose_still : IsLoose d start (length list) list
      loose_still = record {
        is = ap (λ x. get x.loose start) added ∙ get_insert_same a.loose start list;
        counted = refl;
      }

      pub rewriting_run : (count : ℕ) → count ≡ length list → (l : List (ℕ × ℕ)) × IsLoose d start count l
      rewriting_run count is = (list, record { is = loose_still.is; counted = sym is })

      module _ (count : ℕ) (counted : count ≡ length list) (run : ℕ × ℕ) (f : Nodes)
          (exchange : (k : ℕ × List (ℕ × ℕ)) (l : List (ℕ × ℕ)) → get d.detached n ≡ Some k →
          IsLoose d start count l → (run.1 ≡ length k.1) × (f ≡ exchanged d n k.0 start l run.0 k.1))
          (fresh : get d.loose run.0 ≡ None) where
        -- nodes whose runs are exchanged
        abbrev swapped : Nodes → Nodes
        swapped x = exchanged x n asks.former.0 start list run.0 asks.former.1

        -- the runs were exchanged
        exchange_is : (run.1 ≡ length asks.former.1) × (f ≡ swapped d)
        exchange_is =
            exchange asks.former list detached_still (record { is = loose_still.is; counted = sym counted })

        exchanged_is : f ≡ swapped (record (with_loose a start list) { uses = d.uses })
        exchanged_is = exchange_is.1 ∙ ap swapped added

        -- the node has the list
        relisted_now : get f.detached n ≡ Some (asks.former.0, list)
        relisted_now =
            ap (λ x. get x.detached n) exchange_is.1 ∙ get_insert_same d.detached n (asks.former.0, list)

        pub rewriting_detached : IsSome (get f.detached n)
        rewriting_detached = subst IsSome (sym relisted_now) refl

        -- no linked node has the key
        pub rewriting_absent : (k : ℕ × List (ℕ × ℕ)) → get f.detached n ≡ Some k → IsAbsentOfNodes f k
        rewriting_absent k at q there =
            let both : Some (asks.former.0, list) ≡ Some k = sym relisted_now ∙ at in
            let same : (asks.former.0, list) ≡ k = ap (λ o. unwrap_or o (asks.former.0, list)) both in
            asks.absent q (sym (ap (λ x. get x.linked q) exchanged_is) ∙ there ∙ ap Some (sym same))

        -- the old run starts where none was loose
        pub start_fresh : get a.loose run.0 ≡ None
        start_fresh =
            by_cases (λ same. ap (get a.loose) same ∙ none)
            (λ ne.
            sym (get_insert_other a.loose start list run.0 ne) ∙ sym (ap (λ x. get x.loose run.0) added) ∙ fresh)
            (cases_eq run.0 start)

        -- it is the only node with another list
        pub rewriting_other : IsNodes f → HasOtherList a f n run.0 run.1
        rewriting_other after =
            counts_exchanged a f n asks.former.0 run.0 run.1 asks.former list stored.valid
            (nodes_closed v a m e g stored) (nodes_few v a m e g stored) asks.was
            (list_counted v a m e g stored list (fitting_there (table_of v a m e g) stored.table asks.former.0 list
            asks.fits))
            (ap (λ x. x.linked) exchanged_is) (ap (λ x. x.detached) exchanged_is)
            (ap (λ x. get x.loose run.0) exchanged_is
            ∙ get_insert_same (remove (insert a.loose start list) start) run.0 asks.former.1) exchange_is.0
            (ap (λ x. x.records) exchanged_is)
            (omega (arith, ap (λ x. x.bound) exchanged_is, stored.table.bound_fits)) after

        module _ (h : Nodes) (link : (k : ℕ × List (ℕ × ℕ)) → get f.detached n ≡ Some k → h ≡ relinked f n k)
            (after : IsNodes h) where
          -- the loose runs, the free ones and the extent afterwards
          abbrev loose : FinMap nat_cmp (List (ℕ × ℕ))
          loose = insert a.loose run.0 asks.former.1

          abbrev free : FinMap nat_cmp ℕ
          free = with_count a.free (length list) (free_count a (length list) - 1)

          abbrev extent : ℕ
          extent = extent_after (free_count a (length list)) a.extent (length list)

          -- the nodes afterwards
          abbrev last : Nodes
          last = relisted a n (asks.former.0, list) loose d.uses free extent

          whole : h ≡ last
          whole =
              link (asks.former.0, list) relisted_now
              ∙ ap (λ x. relinked x n (asks.former.0, list))
              exchanged_is
              ∙ ap (λ x. record last {
                detached = x;
                loose = insert (remove (insert a.loose start list) start) run.0
                    asks.former.1;
              }) (taken_again a.detached n (asks.former.0, list))
              ∙ ap (λ x. record last { loose = insert x run.0 asks.former.1 }) (taken_out a.loose start list none)

          -- the loose runs are there, and have two elements or more
          runs_there : (s : ℕ) (l : List (ℕ × ℕ)) → get loose s ≡ Some l →
              AreThere (table_of v a m e g) l × (2 ≤ length l)
          runs_there s l at =
              by_cases
              (λ same.
              let both : Some asks.former.1 ≡ Some l =
              sym (get_insert_same a.loose run.0 asks.former.1) ∙ ap (get loose) (sym same) ∙ at in
              let is : asks.former.1 ≡ l = ap (λ o. unwrap_or o asks.former.1) both in
              let key = detached_key (table_of v a m e g) stored.table n asks.former asks.was in
              subst (λ x. AreThere (table_of v a m e g) x × (2 ≤ length x)) is
              (stored.table.closed n asks.former key, stored.table.several n asks.former key))
              (λ ne.
              let old : get a.loose s ≡ Some l = sym (get_insert_other a.loose run.0 asks.former.1 s ne) ∙ at in
              (stored.table.closed_runs s l old, stored.table.several_runs s l old))
              (cases_eq s run.0)

          -- how often a code is used: in the new list too
          uses_more : (c : ℕ) →
              uses_of (table_of v last m e g) c ≡ uses_of (table_of v a m e g) c + uses_in c list
          uses_more c =
              omega (
                arith,
                total_new (λ (k : ℕ × List (ℕ × ℕ)). uses_in c k.1) a.linked n (asks.former.0, list)
                    (not_linked (table_of v a m e g) stored.table n asks.former asks.was),
                total_without (λ (k : ℕ × List (ℕ × ℕ)). uses_in c k.1) a.detached n asks.former asks.was,
                total_new (uses_in c) a.loose run.0 asks.former.1 start_fresh,
              )

          -- so the uses are counted
          uses_after : (q : ℕ) (k : ℕ × List (ℕ × ℕ)) → key_at (table_of v a m e g) q ≡ Some k →
              get d.uses q ≡ Some (uses_of (table_of v last m e g) (2050 + q))
          uses_after q k at =
              adds.uses q
              ∙ ap (option_map (λ u. u + uses_in (2050 + q) list))
              (ap (λ x. get x.uses q) taken ∙ stored.uses q k at)
              ∙ ap Some (sym (uses_more (2050 + q)))

          -- the manager is kept as it was
          pub rewritten_stored : IsStored h (table_of v h m e g)
          rewritten_stored =
              subst (λ x. IsStored x (table_of v x m e g)) (sym whole)
              (relisted_stored v a m e g stored n asks.former.0 asks.former list asks.was asks.fits asks.up
              asks.absent loose d.uses free extent
              (subst IsNodes whole after) runs_there uses_after)

          -- and the node was rewritten
          pub rewritten : IsRewritten (table_of v a m e g) (table_of v h m e g) n elements run.0 run.1
          rewritten = record {
            place = asks.former.0;
            former = asks.former.1;
            list = list;
            was = asks.was;
            fresh = start_fresh;
            counted = exchange_is.0;
            order = asks.asked.order;
            ascending = asks.up;
            is = ap (λ x. table_of v x m e g) whole;
          }
