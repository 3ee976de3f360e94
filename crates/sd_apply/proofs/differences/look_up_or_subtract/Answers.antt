use Rattle.std.proofs.Common.{◌∙◌, sym}
use Rattle.sd_cache.specs.Entries.{call}
use Rattle.sd_apply.proofs.Served.{serves_on, serves_look, serves_keep}
use Rattle.sd_apply.proofs.Expanding.{below_at}
use Rattle.sd_apply.proofs.AndNot.{looked_subtracts, subtracts_right, subtracts_over}
use Rattle.sd_apply.proofs.CachedSteps.{looked_step, lowest_step}
use Rattle.sd_apply.proofs.differences.look_up_or_subtract.Goals as goal

-- the cache is asked
pub returns-in-Some-clause-ok : goal.returns-in-Some-clause-ok
returns-in-Some-clause-ok c =
    looked_subtracts c.args.c.now c.args.m.now c.args.at c.args.a c.args.b c.epoch-epoch.result c.a.inside.0
    c.b.inside.0 c.in-Some.code c.epoch-epoch.ensures.table c.requires.serves c.epoch-epoch.ensures.epoch
    c.a.view_is c.b.view_is c.in-Some.ensures.early c.in-Some.ensures.value

pub returns-in-Some-clause-step : goal.returns-in-Some-clause-step
returns-in-Some-clause-step c =
    looked_step c.args.a c.args.b c.epoch-epoch.ensures.table
    (serves_look c.args.c.now c.look.new.self c.args.m.now
    (call c.epoch-epoch.result 6 c.a.inside.0 c.b.inside.0) c.look.ensures.entries c.requires.serves)

-- the difference begins with the table of the cache
pub lent-recent-requires : goal.lent-recent-requires
lent-recent-requires c =
    serves_look c.args.c.now c.look.new.self c.args.m.now
    (call c.epoch-epoch.result 6 c.a.inside.0 c.b.inside.0) c.look.ensures.entries c.requires.serves

pub subtract_at-found-requires-clause-knows : goal.subtract_at-found-requires-clause-knows
subtract_at-found-requires-clause-knows c = c.lent-recent.ensures.knows

pub subtract_at-found-requires-clause-a : goal.subtract_at-found-requires-clause-a
subtract_at-found-requires-clause-a c =
    below_at c.args.m.now c.args.at c.lca_with_children-over.result.node c.args.a
    c.lca_with_children-over.ensures.first c.requires.a

pub subtract_at-found-requires-clause-b : goal.subtract_at-found-requires-clause-b
subtract_at-found-requires-clause-b c =
    below_at c.args.m.now c.args.at c.lca_with_children-over.result.node c.args.b
    c.lca_with_children-over.ensures.second c.requires.b

-- and gives it back, whether it succeeded or not
pub give_back-requires-clause-serves : goal.give_back-requires-clause-serves
give_back-requires-clause-serves c =
    serves_on c.lent-recent.new.c c.args.m.now c.subtract_at-found.new.m
    c.subtract_at-found.ensures.step.kept c.lent-recent.ensures.serves

-- and the cache keeps its answer
pub returns-clause-step : goal.returns-clause-step
returns-clause-step c =
    let m = c.args.m.now in
    let n = c.subtract_at-found.new.m in
    let x = c.subtract_at-found.ensures.step.kept in
    let epoch = c.epoch-epoch.result in
    lowest_step c.lca_with_children-over.result.node c.args.a c.args.b c.epoch-epoch.ensures.table
    c.lca_with_children-over.ensures.lowest c.subtract_at-found.ensures.step
    (serves_keep c.give_back.new.c c.keep.new.self n
    (call epoch 6 c.a-2.inside.0 c.b-2.inside.0) c.code.inside.0
    c.keep.result c.keep.ensures.keeps c.keep.ensures.err c.keep.ensures.late
    (c.epoch-epoch.ensures.epoch ∙ sym x.epoch)
    c.give_back.ensures
    (subtracts_right m n epoch c.args.at c.args.a c.args.b c.in_ok-code.code c.a-2.inside.0 c.b-2.inside.0
    c.code.inside.0 x c.a-2.view_is c.b-2.view_is c.code.view_is c.requires.a c.requires.b
    (subtracts_over m n c.args.at c.lca_with_children-over.result.node c.args.a c.args.b c.in_ok-code.code
    c.lca_with_children-over.ensures.first c.lca_with_children-over.ensures.second c.in_ok-code.ensures.ok)))

-- new nodes stand below the lowest vtree node over both
pub returns-in_err-code-clause-step : goal.returns-in_err-code-clause-step
returns-in_err-code-clause-step c =
    lowest_step c.lca_with_children-over.result.node c.args.a c.args.b c.epoch-epoch.ensures.table
    c.lca_with_children-over.ensures.lowest c.subtract_at-found.ensures.step c.give_back.ensures

pub returns-clause-ok : goal.returns-clause-ok
returns-clause-ok c =
    subtracts_over c.args.m.now c.subtract_at-found.new.m c.args.at c.lca_with_children-over.result.node c.args.a
    c.args.b c.in_ok-code.code c.lca_with_children-over.ensures.first c.lca_with_children-over.ensures.second
    c.in_ok-code.ensures.ok
