use Rattle.std.proofs.Common.{◌∙◌, ap, sym}
use Rattle.sd_cache.specs.Entries.{call}
use Rattle.sd_apply.specs.Terminal.{opposite_of}
use Rattle.sd_apply.proofs.TerminalLaws.{opposite_negates}
use Rattle.sd_apply.proofs.Served.{serves_on, serves_look, looked_negates}
use Rattle.sd_apply.proofs.Opposite.{negates_opposite, operand_node_of}
use Rattle.sd_apply.proofs.Expanding.{negates_over, below_at}
use Rattle.sd_apply.proofs.Growing.{strictly_lowest, by_lowest}
use Rattle.sd_apply.proofs.Refused.{at_error}
use Rattle.sd_apply.proofs.CachedSteps.{looked_step, lowest_step}
use Rattle.sd_apply.proofs.cached.negate_cached.Goals as goal

pub returns-in-Some-clause-ok : goal.returns-in-Some-clause-ok
returns-in-Some-clause-ok c =
    opposite_negates c.args.m.now c.epoch-epoch.ensures.table c.args.at c.args.a c.in-Some.code
    (sym (c.in-Some.ensures ∙ ap opposite_of c.a.view_is))

pub returns-in-Some-clause-step : goal.returns-in-Some-clause-step
returns-in-Some-clause-step c =
    looked_step c.args.a c.args.a c.epoch-epoch.ensures.table c.requires.serves

-- the cache is asked
pub returns-in-Some-look-clause-ok : goal.returns-in-Some-look-clause-ok
returns-in-Some-look-clause-ok c =
    looked_negates c.args.c.now c.args.m.now c.args.at c.args.a c.epoch-epoch.result
    c.a.inside.0 c.in-Some-look.code c.epoch-epoch.ensures.table c.requires.serves
    c.epoch-epoch.ensures.epoch c.a.view_is c.in-Some-look.ensures.early
    c.in-Some-look.ensures.value

pub returns-in-Some-look-clause-step : goal.returns-in-Some-look-clause-step
returns-in-Some-look-clause-step c =
    looked_step c.args.a c.args.a c.epoch-epoch.ensures.table
    (serves_look c.args.c.now c.look.new.self c.args.m.now
    (call c.epoch-epoch.result 3 c.a.inside.0 0) c.look.ensures.entries c.requires.serves)

-- the operation begins with the table of the cache
pub negate_at-found-requires-clause-knows : goal.negate_at-found-requires-clause-knows
negate_at-found-requires-clause-knows c = c.lent-recent.ensures.knows

pub lent-recent-requires : goal.lent-recent-requires
lent-recent-requires c =
    serves_look c.args.c.now c.look.new.self c.args.m.now
    (call c.epoch-epoch.result 3 c.a.inside.0 0) c.look.ensures.entries c.requires.serves

-- and gives it back, whether it succeeded or not
pub give_back-requires-clause-serves : goal.give_back-requires-clause-serves
give_back-requires-clause-serves c =
    serves_on c.lent-recent.new.c c.args.m.now c.negate_at-found.new.m c.negate_at-found.ensures.step.kept
    c.lent-recent.ensures.serves

-- and the cache keeps its answer, both ways round
pub keep_opposites-requires-clause-first : goal.keep_opposites-requires-clause-first
keep_opposites-requires-clause-first c =
    operand_node_of c.args.m.now c.negate_at-found.new.m c.negate_at-found.ensures.step.kept c.args.at c.args.a
    c.requires.a

pub keep_opposites-requires-clause-opposite : goal.keep_opposites-requires-clause-opposite
keep_opposites-requires-clause-opposite c =
    negates_opposite c.args.m.now c.negate_at-found.new.m c.negate_at-found.ensures.step.table
    c.negate_at-found.ensures.step.kept c.args.at c.args.a c.in_ok-code.code
    (negates_over c.args.m.now c.negate_at-found.new.m c.args.at c.place_with_children-over.result.node c.args.a
    c.in_ok-code.code c.place_with_children-over.ensures.node c.in_ok-code.ensures.ok)
    c.requires.a

-- new nodes stand below the node's own vtree node
pub returns-in_err-code-clause-step : goal.returns-in_err-code-clause-step
returns-in_err-code-clause-step c =
    lowest_step c.place_with_children-over.result.node c.args.a c.args.a c.epoch-epoch.ensures.table
    (λ n there x y. c.place_with_children-over.ensures.lowest n there x) c.negate_at-found.ensures.step
    c.give_back.ensures

pub returns-clause-step : goal.returns-clause-step
returns-clause-step c =
    lowest_step c.place_with_children-over.result.node c.args.a c.args.a c.epoch-epoch.ensures.table
    (λ n there x y. c.place_with_children-over.ensures.lowest n there x) c.negate_at-found.ensures.step
    c.keep_opposites.ensures.serves

-- and strictly below it, but for the answer
pub returns-in_err-code-clause-none : goal.returns-in_err-code-clause-none
returns-in_err-code-clause-none c =
    at_error c.from_residual.result
    (strictly_lowest c.args.m.now c.negate_at-found.new.m c.negate_at-found.ensures.step.kept
    c.epoch-epoch.ensures.table.numbered c.place_with_children-over.result.node c.args.a c.args.a
    (λ n there x y. c.place_with_children-over.ensures.lowest n there x) c.in_err-code.ensures.none)

pub returns-clause-one : goal.returns-clause-one
returns-clause-one c =
    by_lowest c.args.m.now c.negate_at-found.new.m c.negate_at-found.ensures.step.kept
    c.epoch-epoch.ensures.table.numbered c.place_with_children-over.result.node c.args.a c.args.a c.in_ok-code.code
    (λ n there x y. c.place_with_children-over.ensures.lowest n there x) c.in_ok-code.ensures.one

pub returns-clause-ok : goal.returns-clause-ok
returns-clause-ok c =
    negates_over c.args.m.now c.negate_at-found.new.m c.args.at c.place_with_children-over.result.node c.args.a
    c.in_ok-code.code c.place_with_children-over.ensures.node c.in_ok-code.ensures.ok

pub negate_at-found-requires-clause-a : goal.negate_at-found-requires-clause-a
negate_at-found-requires-clause-a c =
    below_at c.args.m.now c.args.at c.place_with_children-over.result.node c.args.a
    c.place_with_children-over.ensures.node c.requires.a
