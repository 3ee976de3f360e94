use Rattle.std.proofs.Common.{◌∙◌, sym}
use Rattle.sd_cache.specs.Entries.{call}
use Rattle.sd_manager.proofs.Extending.{extends_self}
use Rattle.sd_apply.proofs.Served.{serves_on, serves_look, serves_keep, looked_applies, applies_right}
use Rattle.sd_apply.proofs.Opposite.{opposite_applies}
use Rattle.sd_apply.proofs.Expanding.{applies_over, below_at}
use Rattle.sd_apply.proofs.Growing.{strictly_lowest, by_lowest}
use Rattle.sd_apply.proofs.Refused.{at_error}
use Rattle.sd_apply.proofs.CachedSteps.{looked_step, lowest_step}
use Rattle.sd_apply.proofs.cached.look_up_or_apply.Goals as goal

-- the cache is asked
pub returns-in-Some-clause-ok : goal.returns-in-Some-clause-ok
returns-in-Some-clause-ok c =
    looked_applies c.args.c.now c.args.m.now c.args.operation c.number-kind.result c.args.at
    c.args.a c.args.b c.epoch-epoch.result c.a.inside.0 c.b.inside.0 c.in-Some.code
    c.epoch-epoch.ensures.table c.requires.serves c.number-kind.ensures
    c.epoch-epoch.ensures.epoch c.a.view_is c.b.view_is c.in-Some.ensures.early
    c.in-Some.ensures.value

pub returns-in-Some-clause-step : goal.returns-in-Some-clause-step
returns-in-Some-clause-step c =
    looked_step c.args.a c.args.b c.epoch-epoch.ensures.table
    (serves_look c.args.c.now c.look.new.self c.args.m.now
    (call c.epoch-epoch.result c.number-kind.result c.a.inside.0 c.b.inside.0)
    c.look.ensures.entries c.requires.serves)

-- and whether one operand is known to be the negation of the other
pub are_opposite-requires : goal.are_opposite-requires
are_opposite-requires c = record {
  serves = serves_look c.args.c.now c.look.new.self c.args.m.now
      (call c.epoch-epoch.result c.number-kind.result c.a.inside.0 c.b.inside.0)
      c.look.ensures.entries c.requires.serves;
}

pub returns-then-are_opposite-clause-ok : goal.returns-then-are_opposite-clause-ok
returns-then-are_opposite-clause-ok c =
    opposite_applies c.args.m.now c.args.m.now (extends_self c.args.m.now) c.args.operation
    c.args.at c.args.a c.args.b c.at_opposites.result
    (c.are_opposite.ensures.opposite c.if-are_opposite.true) c.at_opposites.ensures

pub returns-then-are_opposite-clause-step : goal.returns-then-are_opposite-clause-step
returns-then-are_opposite-clause-step c =
    looked_step c.args.a c.args.b c.epoch-epoch.ensures.table c.are_opposite.ensures.serves

-- the operation begins with the table of the cache
pub apply-found-requires-clause-knows : goal.apply-found-requires-clause-knows
apply-found-requires-clause-knows c = c.lent-recent.ensures.knows

-- and gives it back, whether it succeeded or not
pub give_back-requires-clause-knows : goal.give_back-requires-clause-knows
give_back-requires-clause-knows c = c.apply-found.ensures.step.knows

pub give_back-requires-clause-serves : goal.give_back-requires-clause-serves
give_back-requires-clause-serves c =
    serves_on c.lent-recent.new.c c.args.m.now c.apply-found.new.m
    c.apply-found.ensures.step.kept c.lent-recent.ensures.serves

-- and the cache keeps its answer
pub returns-clause-step : goal.returns-clause-step
returns-clause-step c =
    let m = c.args.m.now in
    let n = c.apply-found.new.m in
    let x = c.apply-found.ensures.step.kept in
    let epoch = c.epoch-epoch.result in
    let kind = c.number-kind.result in
    lowest_step c.lca_with_children-over.result.node c.args.a c.args.b c.epoch-epoch.ensures.table
    c.lca_with_children-over.ensures.lowest c.apply-found.ensures.step
    (serves_keep c.give_back.new.c c.keep.new.self n
    (call epoch kind c.a-2.inside.0 c.b-2.inside.0) c.code.inside.0
    c.keep.result c.keep.ensures.keeps c.keep.ensures.err c.keep.ensures.late
    (c.epoch-epoch.ensures.epoch ∙ sym x.epoch)
    c.give_back.ensures
    (applies_right m n c.args.operation kind epoch c.args.at c.args.a c.args.b c.in_ok-code.code
    c.a-2.inside.0 c.b-2.inside.0 c.code.inside.0 x c.number-kind.ensures c.a-2.view_is
    c.b-2.view_is c.code.view_is c.requires.a c.requires.b
    (applies_over m n c.args.operation c.args.at c.lca_with_children-over.result.node c.args.a c.args.b
    c.in_ok-code.code
    c.lca_with_children-over.ensures.first c.lca_with_children-over.ensures.second c.in_ok-code.ensures.ok)))

-- new nodes stand below the lowest vtree node over both
pub returns-in_err-code-clause-step : goal.returns-in_err-code-clause-step
returns-in_err-code-clause-step c =
    lowest_step c.lca_with_children-over.result.node c.args.a c.args.b c.epoch-epoch.ensures.table
    c.lca_with_children-over.ensures.lowest c.apply-found.ensures.step c.give_back.ensures

-- and strictly below it, but for the answer
pub returns-in_err-code-clause-none : goal.returns-in_err-code-clause-none
returns-in_err-code-clause-none c =
    at_error c.from_residual.result
    (strictly_lowest c.args.m.now c.apply-found.new.m c.apply-found.ensures.step.kept
    c.epoch-epoch.ensures.table.numbered c.lca_with_children-over.result.node c.args.a c.args.b
    c.lca_with_children-over.ensures.lowest c.in_err-code.ensures.none)

pub returns-clause-one : goal.returns-clause-one
returns-clause-one c =
    by_lowest c.args.m.now c.apply-found.new.m c.apply-found.ensures.step.kept c.epoch-epoch.ensures.table.numbered
    c.lca_with_children-over.result.node c.args.a c.args.b c.in_ok-code.code
    c.lca_with_children-over.ensures.lowest c.in_ok-code.ensures.one

pub returns-clause-ok : goal.returns-clause-ok
returns-clause-ok c =
    applies_over c.args.m.now c.apply-found.new.m c.args.operation c.args.at c.lca_with_children-over.result.node
    c.args.a
    c.args.b
    c.in_ok-code.code c.lca_with_children-over.ensures.first c.lca_with_children-over.ensures.second
    c.in_ok-code.ensures.ok

pub apply-found-requires-clause-a : goal.apply-found-requires-clause-a
apply-found-requires-clause-a c =
    below_at c.args.m.now c.args.at c.lca_with_children-over.result.node c.args.a
    c.lca_with_children-over.ensures.first c.requires.a

pub apply-found-requires-clause-b : goal.apply-found-requires-clause-b
apply-found-requires-clause-b c =
    below_at c.args.m.now c.args.at c.lca_with_children-over.result.node c.args.b
    c.lca_with_children-over.ensures.second c.requires.b
