-- A circuit of a text's lists.
use Rattle.sd_circuit.specs.Circuits.{text_of}
use Rattle.sd_circuit.proofs.Closed.{closed_once}
use Rattle.sd_circuit.proofs.Made.{define_variables}
use Rattle.sd_circuit.proofs.circuit.Circuit.new.Goals as goal

pub order_gates-requires-clause-lines : goal.order_gates-requires-clause-lines
order_gates-requires-clause-lines c = rw c.deref.ensures.value
    (closed_once (text_of c.args.variables c.args.inputs.items c.args.outputs.items c.args.ands.items)
    c.requires.closed)

pub origins_of-requires-clause-defined : goal.origins_of-requires-clause-defined
origins_of-requires-clause-defined c =
    rw (c.deref-2.ensures.value, c.deref-3.ensures.value, c.deref-4.ensures.value)
    (define_variables (text_of c.args.variables c.args.inputs.items c.args.outputs.items c.args.ands.items) _
    c.requires.closed (rw c.deref.ensures.value at c.in-Ok.ensures.order))
