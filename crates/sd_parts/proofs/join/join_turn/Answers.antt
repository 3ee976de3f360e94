-- The root holds the prefix with the part, or the total size passes the limit with it.
use Rattle.std.proofs.Common.{refl, sym, subst, arith}
use Rattle.sd_compile.specs.Compiling.{prefix_of, HoldsFormula, KeepsOtherRoots}
use Rattle.sd_compile.proofs.Kept.{extended_all, all_others, held_others, serves_rebound, tried_held}
use Rattle.sd_compile.proofs.Adding.{group_held}
use Rattle.sd_parts.proofs.JoinLaws.{turn_over, turn_within}
use Rattle.sd_parts.proofs.join.join_turn.Goals as goal

pub returns-in-Err-ArenaFull-clause-kept : goal.returns-in-Err-ArenaFull-clause-kept
returns-in-Err-ArenaFull-clause-kept c =
    all_others c.args.m.now c.joined_node.new.m c.args.root.now
    (extended_all c.args.m.now c.joined_node.new.m c.joined_node.ensures.kept)

pub returns-in-Err-OutOfMemory-clause-kept : goal.returns-in-Err-OutOfMemory-clause-kept
returns-in-Err-OutOfMemory-clause-kept c =
    all_others c.args.m.now c.joined_node.new.m c.args.root.now
    (extended_all c.args.m.now c.joined_node.new.m c.joined_node.ensures.kept)

pub returns-in-Some-clause-err : goal.returns-in-Some-clause-err
returns-in-Some-clause-err c = (
  omega (arith, c.requires.order, c.if-turn.false),
  refl,
  turn_over c.args.m.now c.joined_node.new.m c.args.root.now c.in-Ok.node c.args.f.now c.args.turn.limit
      c.args.turn.last c.in-Some.size c.vtree.ensures.table c.requires.no_move c.joined_node.ensures.kept
      c.in-Ok.ensures.ok c.in-Some.ensures.some.0 c.in-Some.ensures.some.1,
)

pub returns-in-Some-clause-kept : goal.returns-in-Some-clause-kept
returns-in-Some-clause-kept c =
    subst (λ t. KeepsOtherRoots c.args.m.now t c.args.root.now) (sym c.in-Some.ensures.some.2)
    (all_others c.args.m.now c.joined_node.new.m c.args.root.now
    (extended_all c.args.m.now c.joined_node.new.m c.joined_node.ensures.kept))

pub returns-clause-ok : goal.returns-clause-ok
returns-clause-ok c =
    subst (HoldsFormula c.try_hold.new.m (prefix_of c.args.f.now c.args.turn.last)) (sym c.try_hold.ensures.root)
    (group_held c.joined_node.new.m c.try_hold.new.m c.args.root.now c.in-Ok.node
    (prefix_of c.args.f.now c.args.turn.last) c.in-Ok.ensures.ok c.in_default.ensures.none.1)

pub returns-clause-within : goal.returns-clause-within
returns-clause-within c some =
    turn_within c.args.m.now c.joined_node.new.m c.args.root.now c.in-Ok.node c.args.f.now c.args.turn.limit
    c.args.turn.last c.vtree.ensures.table c.requires.no_move c.joined_node.ensures.kept c.in-Ok.ensures.ok
    c.in_default.ensures.none.0

pub returns-clause-kept : goal.returns-clause-kept
returns-clause-kept c =
    held_others c.args.m.now c.joined_node.new.m c.try_hold.new.m c.args.root.now c.in-Ok.node
    c.joined_node.ensures.kept c.in_default.ensures.none.1

pub returns-clause-serves : goal.returns-clause-serves
returns-clause-serves c =
    serves_rebound c.joined_node.new.c c.joined_node.new.m c.try_hold.new.m c.args.root.now c.in-Ok.node
    c.in_default.ensures.none.1 c.joined_node.ensures.serves

pub returns-clause-held : goal.returns-clause-held
returns-clause-held c =
    tried_held c.joined_node.new.m c.try_hold.new.m c.args.root.now c.try_hold.new.root c.in-Ok.node
    c.in_default.ensures.none.1 c.try_hold.ensures.root
