use Rattle.std.proofs.Common.{◌∙◌}
use Rattle.sd_tool.specs.PlanViews.{start_of}
use Rattle.sd_tool.specs.inside.Segments.{plan_in}
use Rattle.sd_tool.proofs.AskLemmas.{joined}
use Rattle.sd_tool.proofs.OpeningLemmas.{can_tell, can_begin, can_go_on, halts_telling, halts_opening, goes_on}
use Rattle.sd_tool.proofs.execution.execute_all.Goals as goal

pub execute_told-requires-clause-ready : goal.execute_told-requires-clause-ready
execute_told-requires-clause-ready g c =
    can_tell (plan_in c.args.formula.now c.args.state.now c.args.stages) c.requires.ready

pub returns-in-Err-clause-goes : goal.returns-in-Err-clause-goes
returns-in-Err-clause-goes g c =
    halts_telling (plan_in c.args.formula.now c.args.state.now c.args.stages)
    c.execute_told.new.state c.in-Err.halt _ _ _ _
    (c.in-Err.ensures.goes (start_of c.args.state.now) c.requires.ready.represents)

pub execute_opening-requires-clause-ready : goal.execute_opening-requires-clause-ready
execute_opening-requires-clause-ready g c κs within =
    let plan = plan_in c.args.formula.now c.args.state.now c.args.stages in
    let told = c.in-Ok.ensures.goes (start_of c.args.state.now) c.requires.ready.represents in
    (told.0, can_begin plan c.execute_told.new.state _ _ c.requires.ready c.in-Ok.ensures.variables told)

pub execute_commands-requires-clause-ready : goal.execute_commands-requires-clause-ready
execute_commands-requires-clause-ready g c =
    let plan = plan_in c.args.formula.now c.args.state.now c.args.stages in
    let told = c.in-Ok.ensures.goes (start_of c.args.state.now) c.requires.ready.represents in
    let begins = can_begin plan c.execute_told.new.state _ _ c.requires.ready c.in-Ok.ensures.variables told in
    let opened = c.in-Ok-execute_opening.ensures.goes told.0 begins in
    can_go_on plan c.execute_told.new.state c.execute_opening.new.state _ _ _ c.requires.ready
    (c.in-Ok-execute_opening.ensures.variables ∙ c.in-Ok.ensures.variables) told opened

pub returns-in-Ok-execute_opening-clause-goes : goal.returns-in-Ok-execute_opening-clause-goes
returns-in-Ok-execute_opening-clause-goes g c =
    let plan = plan_in c.args.formula.now c.args.state.now c.args.stages in
    let told = c.in-Ok.ensures.goes (start_of c.args.state.now) c.requires.ready.represents in
    let begins = can_begin plan c.execute_told.new.state _ _ c.requires.ready c.in-Ok.ensures.variables told in
    let opened = c.in-Ok-execute_opening.ensures.goes told.0 begins in
    goes_on plan c.execute_told.new.state c.execute_opening.new.state c.execute_commands.new.state
    c.execute_commands.result _ _ _ _ _ _ _ _
    (joined g.F.Shelf.asked c.args.shelf.now c.execute_told.new.shelf c.execute_opening.new.shelf)
    (joined g.F.Shelf.asked c.args.shelf.now c.execute_opening.new.shelf c.execute_commands.new.shelf)
    c.in-Ok.ensures.fewer c.in-Ok-execute_opening.ensures.fewer told opened
    (c.execute_commands.ensures.goes opened.0 opened.2)

pub returns-in-Err-execute_opening-clause-goes : goal.returns-in-Err-execute_opening-clause-goes
returns-in-Err-execute_opening-clause-goes g c =
    let plan = plan_in c.args.formula.now c.args.state.now c.args.stages in
    let told = c.in-Ok.ensures.goes (start_of c.args.state.now) c.requires.ready.represents in
    let begins = can_begin plan c.execute_told.new.state _ _ c.requires.ready c.in-Ok.ensures.variables told in
    halts_opening plan c.execute_told.new.state c.execute_opening.new.state c.in-Err-execute_opening.halt _ _ _ _ _ _
    (joined g.F.Shelf.asked c.args.shelf.now c.execute_told.new.shelf c.execute_opening.new.shelf)
    c.in-Ok.ensures.fewer told (c.in-Err-execute_opening.ensures.goes told.0 begins)
