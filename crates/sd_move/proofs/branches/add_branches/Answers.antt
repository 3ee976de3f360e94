use Rattle.sd_move.proofs.Calls.{as_step}
use Rattle.sd_move.proofs.branches.add_branches.Goals as goal

pub returns-clause-step : goal.returns-clause-step
returns-clause-step c =
    let e = c.expand_at.ensures in as_step e.kept e.grown e.knows e.table

pub returns-in_default-clause-step : goal.returns-in_default-clause-step
returns-in_default-clause-step c =
    let e = c.expand_at.ensures in as_step e.kept e.grown e.knows e.table

pub returns-in_err-list-clause-step : goal.returns-in_err-list-clause-step
returns-in_err-list-clause-step c =
    let e = c.expand_at.ensures in as_step e.kept e.grown e.knows e.table
