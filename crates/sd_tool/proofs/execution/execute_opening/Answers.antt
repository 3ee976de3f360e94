use Rattle.sd_tool.proofs.AskLemmas.{asks_none}
use Rattle.sd_tool.proofs.OpeningLemmas.{opens_by_parts, stops_by_choice}
use Rattle.sd_tool.proofs.execution.execute_opening.Goals as goal

pub returns-in-Parts-clause-goes : goal.returns-in-Parts-clause-goes
returns-in-Parts-clause-goes g c = λ seen can.
    opens_by_parts _ c.args.formula.now c.args.opening c.in-Parts.count c.args.state.now c.input_parts.new.state seen
    c.input_parts.result _ _ c.in-Parts.is (asks_none g.F.Shelf.asked c.args.shelf.now) c.input_parts.ensures.done
    c.input_parts.ensures.stops can

pub returns-in-Err-clause-goes : goal.returns-in-Err-clause-goes
returns-in-Err-clause-goes g c = λ seen can.
    stops_by_choice _ c.args.formula.now c.args.opening c.in-Choice.rounds c.args.state.now seen c.in-Err.halt _ _
    c.in-Choice.is (asks_none g.F.Shelf.asked c.args.shelf.now) c.in-Err.ensures.stops can
