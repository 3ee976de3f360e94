use Rattle.std.proofs.Common.{◌+◌, ap, subst}
use Rattle.sd_circuit.specs.Order.{CycleIsFirst}
use Rattle.sd_aiger.specs.Steps.{header_view, body_view}
use Rattle.sd_aiger.proofs.Closed.{closed}
use Rattle.sd_aiger.proofs.Cycles.{made, told}
use Rattle.sd_aiger.proofs.reader.circuit_of.Goals as goal

-- all is defined
pub new-requires-clause-closed : goal.new-requires-clause-closed
new-requires-clause-closed c =
    closed (header_view c.args.header.now) (body_view c.args.body) c.requires.read c.requires.defined

-- the gates have an order
pub returns-in-Ok : goal.returns-in-Ok
returns-in-Ok c =
    made (header_view c.args.header.now) (body_view c.args.body) c.in-Ok.circuit.text c.in-Ok.circuit.order
    c.in-Ok.ensures.text c.gates-gates.ensures.ordered

-- the first and-line on a cycle
pub returns-in-Err-Cycle : goal.returns-in-Err-Cycle
returns-in-Err-Cycle c =
    let first = subst (CycleIsFirst c.args.body.ands.items) c.in-Err-Cycle.field-0-is c.in-Err-Cycle.ensures.cycle in
    told (header_view c.args.header.now) (body_view c.args.body) c.in-Err-Cycle.index
    (c.first_and.result + c.in-Err-Cycle.index) first
    (ap (λ n. n + c.in-Err-Cycle.index) c.first_and.ensures)
