use Rattle.std.proofs.Common.{◌+◌, ap, sym, subst, arith}
use Rattle.sd_apply.specs.Serving.{Serves}
use Rattle.sd_compile.specs.Compiling.{CompiledPrefix, prefix_of, HoldsFormula, KeepsOtherRoots, KeepsAll}
use Rattle.sd_manager.proofs.Marking.{unmarked_extended}
use Rattle.sd_sweep.proofs.NeverFalling.{never_same, never_both, never_extended, never_rooted}
use Rattle.sd_compile.proofs.Kept.{extended_all, all_others, held_others, serves_rebound}
use Rattle.sd_compile.proofs.Adding.{group_over, group_within, group_held}
use Rattle.sd_compile.proofs.compiling.join_next.Goals as goal

pub returns-in-Err-clause-all_kept : goal.returns-in-Err-clause-all_kept
returns-in-Err-clause-all_kept c = extended_all c.args.m.now c.next_node.new.m c.next_node.ensures.kept

pub returns-in-Err-clause-kept : goal.returns-in-Err-clause-kept
returns-in-Err-clause-kept c =
    all_others c.args.m.now c.next_node.new.m c.args.work.now.root
    (extended_all c.args.m.now c.next_node.new.m c.next_node.ensures.kept)

pub try_hold-requires-clause-unmarked : goal.try_hold-requires-clause-unmarked
try_hold-requires-clause-unmarked c =
    unmarked_extended c.args.m.now c.next_node.new.m c.next_node.ensures.kept c.requires.unmarked

pub returns-in-Some-clause-err : goal.returns-in-Some-clause-err
returns-in-Some-clause-err c = (
  c.next_group-group.ensures,
  group_over c.args.m.now c.next_node.new.m c.args.work.now.root c.work.inside.root c.in-Ok.node c.args.f.now
      c.args.limit c.args.work.now.groups c.next_group-group.result c.in-Some.size c.vtree.ensures.table
      c.requires.no_move c.next_node.ensures.kept c.in-Ok.ensures.ok
      (ap (λ (w : CompiledPrefix). w.root) (sym c.work.view_is)) c.next_group-group.ensures c.in-Some.ensures.some.0
      c.in-Some.ensures.some.1,
)

pub returns-in-Some-clause-all_kept : goal.returns-in-Some-clause-all_kept
returns-in-Some-clause-all_kept c =
    subst (KeepsAll c.args.m.now) (sym c.in-Some.ensures.some.2)
    (extended_all c.args.m.now c.next_node.new.m c.next_node.ensures.kept)

pub returns-in-Some-clause-kept : goal.returns-in-Some-clause-kept
returns-in-Some-clause-kept c =
    subst (λ t. KeepsOtherRoots c.args.m.now t c.args.work.now.root) (sym c.in-Some.ensures.some.2)
    (all_others c.args.m.now c.next_node.new.m c.args.work.now.root
    (extended_all c.args.m.now c.next_node.new.m c.next_node.ensures.kept))

pub returns-in-Some-clause-serves : goal.returns-in-Some-clause-serves
returns-in-Some-clause-serves c =
    subst (Serves c.next_node.new.c) (sym c.in-Some.ensures.some.2) c.next_node.ensures.serves

pub returns-clause-ok : goal.returns-clause-ok
returns-clause-ok c = (
  omega arith,
  subst (HoldsFormula c.try_hold.new.m (prefix_of c.args.f.now c.next_group-group.result))
      (sym c.try_hold.ensures.root)
      (subst (λ n. HoldsFormula c.try_hold.new.m (prefix_of c.args.f.now n) c.work.inside.root)
      (sym c.next_group-group.ensures)
      (group_held c.next_node.new.m c.try_hold.new.m c.work.inside.root c.in-Ok.node
      (prefix_of c.args.f.now (c.args.work.now.groups + 1)) c.in-Ok.ensures.ok c.in_default.ensures.none.1)),
)

pub returns-clause-within : goal.returns-clause-within
returns-clause-within c =
    group_within c.args.m.now c.next_node.new.m c.args.work.now.root c.work.inside.root c.in-Ok.node c.args.f.now
    c.args.limit c.args.work.now.groups c.vtree.ensures.table c.requires.no_move c.next_node.ensures.kept
    c.in-Ok.ensures.ok (ap (λ (w : CompiledPrefix). w.root) (sym c.work.view_is)) c.in_default.ensures.none.0

pub returns-clause-kept : goal.returns-clause-kept
returns-clause-kept c =
    subst (KeepsOtherRoots c.args.m.now c.try_hold.new.m) (ap (λ (w : CompiledPrefix). w.root) c.work.view_is)
    (held_others c.args.m.now c.next_node.new.m c.try_hold.new.m c.work.inside.root c.in-Ok.node
    c.next_node.ensures.kept c.in_default.ensures.none.1)

pub returns-clause-serves : goal.returns-clause-serves
returns-clause-serves c =
    serves_rebound c.next_node.new.c c.next_node.new.m c.try_hold.new.m c.work.inside.root c.in-Ok.node
    c.in_default.ensures.none.1 c.next_node.ensures.serves

-- ---- what never falls

pub returns-in-Err-clause-never_falls : goal.returns-in-Err-clause-never_falls
returns-in-Err-clause-never_falls c = never_extended c.args.m.now c.next_node.new.m c.next_node.ensures.kept

pub returns-in-Some-clause-never_falls : goal.returns-in-Some-clause-never_falls
returns-in-Some-clause-never_falls c =
    never_both c.args.m.now c.next_node.new.m c.try_hold.new.m
    (never_extended c.args.m.now c.next_node.new.m c.next_node.ensures.kept)
    (never_same c.next_node.new.m c.try_hold.new.m c.in-Some.ensures.some.2)

pub returns-clause-never_falls : goal.returns-clause-never_falls
returns-clause-never_falls c =
    never_both c.args.m.now c.next_node.new.m c.try_hold.new.m
    (never_extended c.args.m.now c.next_node.new.m c.next_node.ensures.kept)
    (never_rooted c.next_node.new.m c.try_hold.new.m c.work.inside.root c.in-Ok.node c.in_default.ensures.none.1)
