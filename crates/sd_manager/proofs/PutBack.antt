-- A loose run is put back step by step: the uses of the node's list are dropped, the runs are exchanged, the former run
-- is given back, and the node is linked at its place.
use Rattle.std.proofs.Common.{◌≡◌, ℕ, ◌+◌, ◌-◌, ◌≤◌, List, length, Option, Some, None}
use Rattle.std.proofs.Common.{unwrap_or, refl, sym, ap, subst, ◌∙◌, arith}
use Rattle.std.proofs.lemmas.Bool.{cases_eq}
use Rattle.std.specs.Option.{IsSome, option_map}
use Rattle.std.specs.Ordering.{nat_cmp}
use Rattle.std.specs.FinMap.{FinMap, get, insert, remove}
use Rattle.sd_runs.proofs.Maps.{get_insert_same, get_remove_same, get_remove_other}
use Rattle.sd_runs.proofs.Places.{by_cases}
use Rattle.sd_vtree.specs.Numbered.{Numbered}
use Rattle.sd_unique.specs.Nodes.{Nodes, IsNodes, free_count}
use Rattle.sd_unique.specs.Inserting.{with_count}
use Rattle.sd_unique.specs.Relinking.{IsLoose, without_loose, exchanged, with_key, relinked}
use Rattle.sd_unique.specs.Relinking.{IsAbsent as IsAbsentOfNodes}
use Rattle.sd_manager.specs.Table.{Table, key_at, uses_of, uses_in}
use Rattle.sd_manager.specs.Shown.{AreThere}
use Rattle.sd_manager.specs.Counting.{DropsUses, list_at}
use Rattle.sd_manager.specs.Stored.{table_of, IsStored}
use Rattle.sd_manager.specs.Moving.{FitsNode, IsAscending, IsAbsent, IsPutBack}
use Rattle.sd_manager.specs.Recounting.{HasOtherList}
use Rattle.sd_manager.proofs.CountsKept.{nodes_closed, nodes_few}
use Rattle.sd_manager.proofs.CountsAfter.{counts_exchanged}
use Rattle.sd_manager.proofs.GivenBack.{list_counted}
use Rattle.sd_manager.proofs.DetachedList.{detached_drops}
use Rattle.sd_manager.proofs.Holding.{some_value}
use Rattle.sd_manager.proofs.LinkedUnder.{not_linked}
use Rattle.sd_manager.proofs.Relisted.{taken_again, taken_out, relisted, relisted_stored}
use Rattle.sd_manager.proofs.Totals.{total_new, total_without, left_was}

-- what is asked where a loose run is put back
pub record IsPutting (v : Numbered) (a : Nodes) (m : FinMap nat_cmp ℕ) (e : ℕ) (g : Option ℕ)
    (n place start count : ℕ) :
    Type 0 where
  pub former : ℕ × List (ℕ × ℕ)
  pub list : List (ℕ × ℕ)
  pub was : get a.detached n ≡ Some former
  pub run : get a.loose start ≡ Some list
  pub counted : length list ≡ count
  pub fits : FitsNode (table_of v a m e g) place list
  pub up : IsAscending list
  pub absent : IsAbsent (table_of v a m e g) place list

-- it is so, by the names of the code
pub putting : (v : Numbered) (a : Nodes) (m : FinMap nat_cmp ℕ) (e : ℕ) (g : Option ℕ) (t : Table)
    (n place at start count : ℕ) → table_of v a m e g ≡ t → at ≡ place → IsSome (get t.detached n) →
    (list : List (ℕ × ℕ)) × (get t.loose start ≡ Some list) × (length list ≡ count) →
    ((list : List (ℕ × ℕ)) → get t.loose start ≡ Some list → FitsNode t place list × IsAscending list) →
    ((list : List (ℕ × ℕ)) → get t.loose start ≡ Some list → IsAbsent t place list) →
    IsPutting v a m e g n at start count
putting v a m e g t n place at start count same here node run fits absent =
    subst (λ p. IsPutting v a m e g n p start count) (sym here)
    (subst (λ t. IsSome (get t.detached n) →
    (list : List (ℕ × ℕ)) × (get t.loose start ≡ Some list) × (length list ≡ count) →
    ((list : List (ℕ × ℕ)) → get t.loose start ≡ Some list → FitsNode t place list × IsAscending list) →
    ((list : List (ℕ × ℕ)) → get t.loose start ≡ Some list → IsAbsent t place list) →
    IsPutting v a m e g n place start count) same
    (λ node run fits absent.
    let key = some_value (get a.detached n) node in
    let fit = fits run.0 run.1 in
    record {
      former = key.0;
      list = run.0;
      was = key.1;
      run = run.1;
      counted = run.2;
      fits = fit.0;
      up = fit.1;
      absent = absent run.0 run.1;
    }) node run fits absent)

module _ (v : Numbered) (a : Nodes) (m : FinMap nat_cmp ℕ) (e : ℕ) (g : Option ℕ)
    (stored : IsStored a (table_of v a m e g)) (n place start count : ℕ)
    (asks : IsPutting v a m e g n place start count)
    (b : Nodes) (drops : DropsUses a b (λ c. uses_in c (list_at a n))) where
  -- the node is detached still
  detached_still : get b.detached n ≡ Some asks.former
  detached_still = ap (λ x. get x.detached n) drops.rest ∙ asks.was

  pub putting_node : IsSome (get b.detached n)
  putting_node = subst IsSome (sym detached_still) refl

  -- and the run is loose
  loose_still : IsLoose b start count asks.list
  loose_still = record { is = ap (λ x. get x.loose start) drops.rest ∙ asks.run; counted = asks.counted }

  pub putting_run : (l : List (ℕ × ℕ)) × IsLoose b start count l
  putting_run = (asks.list, loose_still)

  module _ (old : ℕ × ℕ) (d : Nodes)
      (exchange : (k : ℕ × List (ℕ × ℕ)) (l : List (ℕ × ℕ)) → get b.detached n ≡ Some k → IsLoose b start count l →
      (old.1 ≡ length k.1) × (d ≡ exchanged b n k.0 start l old.0 k.1))
      (fresh : get b.loose old.0 ≡ None) where
    -- nodes whose runs are exchanged
    abbrev swapped : Nodes → Nodes
    swapped x = exchanged x n asks.former.0 start asks.list old.0 asks.former.1

    -- and whose former run is given back then
    abbrev spent : Nodes → Nodes
    spent x = without_loose (swapped x) old.0 asks.former.1

    -- the runs were exchanged
    exchange_is : (old.1 ≡ length asks.former.1) × (d ≡ swapped b)
    exchange_is = exchange asks.former asks.list detached_still loose_still

    -- the old run starts where none was loose
    start_fresh : get (remove a.loose start) old.0 ≡ None
    start_fresh =
        by_cases (λ same. ap (get (remove a.loose start)) same ∙ get_remove_same a.loose start)
        (λ ne. get_remove_other a.loose start old.0 ne ∙ sym (ap (λ x. get x.loose old.0) drops.rest) ∙ fresh)
        (cases_eq old.0 start)

    -- and is the loose one
    former_loose : IsLoose d old.0 old.1 asks.former.1
    former_loose = record {
      is = ap (λ x. get x.loose old.0) exchange_is.1 ∙ get_insert_same (remove b.loose start) old.0 asks.former.1;
      counted = sym exchange_is.0;
    }

    pub putting_former : (l : List (ℕ × ℕ)) × IsLoose d old.0 old.1 l
    putting_former = (asks.former.1, former_loose)

    -- it is the only node with another list
    pub putting_other : IsNodes d → HasOtherList a d n old.0 old.1
    putting_other after =
        let is : d ≡ swapped (record a { uses = b.uses }) = exchange_is.1 ∙ ap swapped drops.rest in
        counts_exchanged a d n asks.former.0 old.0 old.1 asks.former asks.list stored.valid
        (nodes_closed v a m e g stored) (nodes_few v a m e g stored) asks.was
        (list_counted v a m e g stored asks.list (stored.table.closed_runs start asks.list asks.run))
        (ap (λ x. x.linked) is) (ap (λ x. x.detached) is) former_loose.is exchange_is.0 (ap (λ x. x.records) is)
        (omega (arith, ap (λ x. x.bound) is, stored.table.bound_fits)) after

    module _ (f : Nodes) (given_back : (l : List (ℕ × ℕ)) → IsLoose d old.0 old.1 l → f ≡ without_loose d old.0 l) where
      -- the old run was given back
      given_is : f ≡ spent b
      given_is = given_back asks.former.1 former_loose ∙ ap (λ x. without_loose x old.0 asks.former.1) exchange_is.1

      -- the node has the list
      relisted_now : get f.detached n ≡ Some (asks.former.0, asks.list)
      relisted_now = ap (λ x. get x.detached n) given_is ∙ get_insert_same b.detached n (asks.former.0, asks.list)

      pub putting_relisted : IsSome (get f.detached n)
      putting_relisted = subst IsSome (sym relisted_now) refl

      module _ (h : Nodes)
          (retag : (k : ℕ × List (ℕ × ℕ)) → get f.detached n ≡ Some k → h ≡ with_key f n (place, k.1)) where
        -- and the place
        retag_is : h ≡ with_key f n (place, asks.list)
        retag_is = retag (asks.former.0, asks.list) relisted_now

        moved_now : get h.detached n ≡ Some (place, asks.list)
        moved_now = ap (λ x. get x.detached n) retag_is ∙ get_insert_same f.detached n (place, asks.list)

        pub putting_detached : IsSome (get h.detached n)
        putting_detached = subst IsSome (sym moved_now) refl

        -- the nodes before they are linked
        before : h ≡ with_key (spent (record a { uses = b.uses })) n (place, asks.list)
        before =
            retag_is ∙ ap (λ x. with_key x n (place, asks.list)) given_is
            ∙ ap (λ x. with_key (spent x) n (place, asks.list)) drops.rest

        -- no linked node has the key
        pub putting_absent : (k : ℕ × List (ℕ × ℕ)) → get h.detached n ≡ Some k → IsAbsentOfNodes h k
        putting_absent k at q there =
            let both : Some (place, asks.list) ≡ Some k = sym moved_now ∙ at in
            let same : (place, asks.list) ≡ k = ap (λ o. unwrap_or o (place, asks.list)) both in
            asks.absent q (sym (ap (λ x. get x.linked q) before) ∙ there ∙ ap Some (sym same))

        module _ (j : Nodes) (link : (k : ℕ × List (ℕ × ℕ)) → get h.detached n ≡ Some k → j ≡ relinked h n k)
            (after : IsNodes j) where
          -- the free runs afterwards
          abbrev free : FinMap nat_cmp ℕ
          free = with_count a.free (length asks.former.1) (free_count a (length asks.former.1) + 1)

          -- the nodes afterwards
          abbrev last : Nodes
          last = relisted a n (place, asks.list) (remove a.loose start) b.uses free a.extent

          whole : j ≡ last
          whole =
              link (place, asks.list) moved_now
              ∙ ap (λ x. relinked x n (place, asks.list)) before
              ∙ ap (λ x. record last {
                detached = x;
                loose = remove (insert (remove a.loose start) old.0 asks.former.1) old.0;
              })
              (taken_again (insert a.detached n (asks.former.0, asks.list)) n (place, asks.list)
              ∙ taken_again a.detached n (asks.former.0, asks.list))
              ∙ ap (λ x. record last { loose = x }) (taken_out (remove a.loose start) old.0 asks.former.1 start_fresh)

          -- the loose runs are there, and have two elements or more
          runs_there : (s : ℕ) (l : List (ℕ × ℕ)) → get (remove a.loose start) s ≡ Some l →
              AreThere (table_of v a m e g) l × (2 ≤ length l)
          runs_there s l at =
              let there = left_was a.loose start s l at in
              (stored.table.closed_runs s l there, stored.table.several_runs s l there)

          -- how often a code was used: in the former list too
          uses_before : (c : ℕ) →
              uses_of (table_of v a m e g) c ≡ uses_in c asks.former.1 + uses_of (table_of v last m e g) c
          uses_before c =
              omega (
                arith,
                total_new (λ (k : ℕ × List (ℕ × ℕ)). uses_in c k.1) a.linked n (place, asks.list)
                    (not_linked (table_of v a m e g) stored.table n asks.former asks.was),
                total_without (λ (k : ℕ × List (ℕ × ℕ)). uses_in c k.1) a.detached n asks.former asks.was,
                total_without (uses_in c) a.loose start asks.list asks.run,
              )

          -- so the uses are counted
          uses_after : (q : ℕ) (k : ℕ × List (ℕ × ℕ)) → key_at (table_of v a m e g) q ≡ Some k →
              get b.uses q ≡ Some (uses_of (table_of v last m e g) (2050 + q))
          uses_after q k at =
              (detached_drops v a m e g stored n asks.former asks.was b drops).uses q
              ∙ ap (option_map (λ u. u - uses_in (2050 + q) asks.former.1)) (stored.uses q k at)
              ∙ ap Some (omega (arith, uses_before (2050 + q)))

          -- the manager is kept as it was
          pub put_stored : IsStored j (table_of v j m e g)
          put_stored =
              subst (λ x. IsStored x (table_of v x m e g)) (sym whole)
              (relisted_stored v a m e g stored n place asks.former asks.list asks.was asks.fits asks.up asks.absent
              (remove a.loose start) b.uses free a.extent (subst IsNodes whole after) runs_there uses_after)

          -- and the run was put back
          pub put : IsPutBack (table_of v a m e g) (table_of v j m e g) n place start
          put = record {
            before = asks.former.0;
            former = asks.former.1;
            list = asks.list;
            was = asks.was;
            run = asks.run;
            is = ap (λ x. table_of v x m e g) whole;
          }
