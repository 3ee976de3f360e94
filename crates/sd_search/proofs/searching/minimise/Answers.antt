use Rattle.std.proofs.Common.{◌∙◌, ◌<◌, length, sym, ap, subst, arith}
use Rattle.sd_vtree.specs.Numbered.{number_of, numbers}
use Rattle.sd_apply.specs.Serving.{Serves}
use Rattle.sd_sweep.proofs.NeverFalling.{never_same, never_both}
use Rattle.sd_search.proofs.SearchOn.{IsSearching, searching_first, kept_on, searching_more, searching_last}
use Rattle.sd_search.proofs.SearchOn.{searching_broken, searching_end, root_stays}
use Rattle.sd_search.proofs.WalksOverTables.{keep_first, keep_round}
use Rattle.sd_search.proofs.searching.minimise.Goals as goal

pub loop-done-init : goal.loop-done-init
loop-done-init c =
    let t = c.args.m.now in
    let same = sym c.size-before.ensures.same in
    let root = c.root-root.result in
    let before = c.size-before.result in
    record {
      searching = subst (λ u. IsSearching t u c.args.rounds c.args.slack root before 0 before) same
          (searching_first t c.args.rounds c.args.slack root before c.vtree.ensures.table c.requires.no_move
          (c.root-root.ensures.root ∙ ap number_of c.vtree.ensures.vtree)
          (subst (λ v. root < length (numbers v)) c.vtree.ensures.vtree c.root-root.ensures.node)
          c.size-before.ensures.size c.requires.unmarked);
      serves = subst (Serves c.args.c.now) same c.requires.serves;
      in_a_row = keep_first c.size-before.new.m c.args.slack root;
      never = never_same t c.size-before.new.m c.size-before.ensures.same;
    }

pub returns-in-Err-clause-begun : goal.returns-in-Err-clause-begun
returns-in-Err-clause-begun c =
    searching_broken c.args.m.now c.loop-done.m c.round.new.m c.args.rounds c.args.slack c.root-root.result
    c.size-before.result c.loop-done.done c.loop-done.reached.size c.loop-done.invariant.searching c.round.ensures.table
    c.round.ensures.kept (omega (arith, c.loop-done-test.true)) c.in-Err.ensures.begun

pub returns-in-Err-clause-kept : goal.returns-in-Err-clause-kept
returns-in-Err-clause-kept c =
    kept_on c.args.m.now c.loop-done.m c.round.new.m c.args.rounds c.args.slack c.root-root.result
    c.size-before.result c.loop-done.done c.loop-done.reached.size c.loop-done.invariant.searching c.round.ensures.table
    c.round.ensures.kept

pub returns-then-next-reached-clause-search : goal.returns-then-next-reached-clause-search
returns-then-next-reached-clause-search c =
    searching_last c.args.m.now c.loop-done.m c.round.new.m c.args.rounds c.args.slack c.root-root.result
    c.size-before.result c.loop-done.done c.loop-done.reached.size c.loop-done.invariant.searching c.round.ensures.table
    c.round.ensures.kept c.in-Ok.next.size c.in-Ok.ensures.size c.in-Ok.ensures.round
    (omega (arith, c.loop-done-test.true)) (omega (arith, c.if-next-reached.true))

pub returns-then-next-reached-clause-kept : goal.returns-then-next-reached-clause-kept
returns-then-next-reached-clause-kept c =
    kept_on c.args.m.now c.loop-done.m c.round.new.m c.args.rounds c.args.slack c.root-root.result
    c.size-before.result c.loop-done.done c.loop-done.reached.size c.loop-done.invariant.searching c.round.ensures.table
    c.round.ensures.kept

pub loop-done-preserved : goal.loop-done-preserved
loop-done-preserved c = record {
  searching = searching_more c.args.m.now c.loop-done.m c.round.new.m c.args.rounds c.args.slack c.root-root.result
      c.size-before.result c.loop-done.done c.loop-done.reached.size c.loop-done.invariant.searching
      c.round.ensures.table c.round.ensures.kept c.in-Ok.next.size c.in-Ok.ensures.size c.in-Ok.ensures.round
      (omega (arith, c.if-next-reached.false)) c.round.ensures.along c.round.ensures.unmarked;
  in_a_row = keep_round c.round.new.m c.args.slack c.root-root.result c.in-Ok.next.kept c.round.ensures.table
      (root_stays c.args.m.now c.loop-done.m c.round.new.m c.args.rounds c.args.slack c.root-root.result
      c.size-before.result c.loop-done.done c.loop-done.reached.size c.loop-done.invariant.searching
      c.round.ensures.along)
      c.in-Ok.ensures.in_a_row;
  serves = c.round.ensures.serves;
  never = never_both c.args.m.now c.loop-done.m c.round.new.m c.loop-done.invariant.never c.round.ensures.never_falls;
}

pub returns-clause-search : goal.returns-clause-search
returns-clause-search c =
    searching_end c.args.m.now c.loop-done.m c.args.rounds c.args.slack c.root-root.result c.size-before.result
    c.loop-done.done c.loop-done.reached.size c.loop-done.invariant.searching
    (omega (arith, c.loop-done-test.false, c.loop-done.auto.done-end))

-- ---- what never falls

pub returns-in-Err-clause-never_falls : goal.returns-in-Err-clause-never_falls
returns-in-Err-clause-never_falls c =
    never_both c.args.m.now c.loop-done.m c.round.new.m c.loop-done.invariant.never c.round.ensures.never_falls

pub returns-then-next-reached-clause-never_falls : goal.returns-then-next-reached-clause-never_falls
returns-then-next-reached-clause-never_falls c =
    never_both c.args.m.now c.loop-done.m c.round.new.m c.loop-done.invariant.never c.round.ensures.never_falls
