use Rattle.sd_tool.proofs.Circuits.{both_kinds}
use Rattle.sd_tool.proofs.formats.CircuitTextFormat.parse.Goals as goal

pub returns-in-Ok-clause-holds : goal.returns-in-Ok-clause-holds
returns-in-Ok-clause-holds c = both_kinds c.args.bytes.now c.in-Ok.circuit.text c.in-Ok.ensures.ok
