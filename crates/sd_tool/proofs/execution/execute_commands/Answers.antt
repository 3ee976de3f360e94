use Rattle.std.proofs.Common.{[], refl, ◌∙◌, arith, length, rules}
use Rattle.std.proofs.lemmas.List.{length_push}
use Rattle.std.proofs.lemmas.Iterator.Consumers.{YieldsList-turn, YieldsList-end}
use Rattle.std.proofs.lemmas.Iterator.Adapters.{YieldsList-from_vec}
use Rattle.sd_tool.proofs.StepLemmas.{no_fewer}
use Rattle.sd_tool.proofs.SegmentLemmas.{can_next, does_next, stops_next, does_last}
use Rattle.sd_tool.proofs.AskLemmas.{joined, asks_none}
use Rattle.sd_tool.proofs.execution.execute_commands.Goals as goal

pub loop-command-init : goal.loop-command-init
loop-command-init g c = record {
  hand = c.requires.hand;
  unfinished = refl;
  done = λ seen represents. (
    seen,
    record {
      effects = [];
      steps = (refl, refl);
      asked = asks_none g.F.Shelf.asked c.args.shelf.now;
      leaves = refl;
    },
    represents,
  );
  variables = refl;
  roots = omega arith;
  fewer = record { read = omega arith; write = omega arith; print = omega arith };
}

-- behind the commands before, this one can be done
pub execute_command-requires-clause-ready : goal.execute_command-requires-clause-ready
execute_command-requires-clause-ready g c =
    let turn = YieldsList-turn (YieldsList-from_vec {s = c.into_iter-command-iterator.result} c.args.commands.items
    (search rules) (search rules)) c.loop-command.yielded c.loop-command.command-iterator
    c.loop-command.yielded_by c.next.result c.next.new.self c.in-Some.command c.in-Some.is c.next.ensures.steps in
    let ready = c.requires.ready in
    can_next c.args.formula.now ready.0 c.args.commands.items (length c.loop-command.yielded) c.in-Some.command _ _ _ _
    (record { within = turn.0; is = turn.1 }) ready.1 c.loop-command.invariant.variables
    (c.loop-command.invariant.done ready.0 ready.1.represents)

pub execute_command-requires-clause-room : goal.execute_command-requires-clause-room
execute_command-requires-clause-room g c =
    let turn = YieldsList-turn (YieldsList-from_vec {s = c.into_iter-command-iterator.result} c.args.commands.items
    (search rules) (search rules)) c.loop-command.yielded c.loop-command.command-iterator
    c.loop-command.yielded_by c.next.result c.next.new.self c.in-Some.command c.in-Some.is c.next.ensures.steps in
    omega (arith, c.loop-command.invariant.roots, c.requires.room, turn.0)

pub returns-in-Err-clause-goes : goal.returns-in-Err-clause-goes
returns-in-Err-clause-goes g c =
    let turn = YieldsList-turn (YieldsList-from_vec {s = c.into_iter-command-iterator.result} c.args.commands.items
    (search rules) (search rules)) c.loop-command.yielded c.loop-command.command-iterator
    c.loop-command.yielded_by c.next.result c.next.new.self c.in-Some.command c.in-Some.is c.next.ensures.steps in
    let was = c.loop-command.invariant in
    λ seen represents.
    stops_next c.args.formula.now seen c.args.commands.items (length c.loop-command.yielded) c.in-Some.command
    c.loop-command.state c.execute_command.new.state c.in-Err.halt _ _ _ _ _ _
    (joined g.F.Shelf.asked c.args.shelf.now c.loop-command.shelf c.execute_command.new.shelf)
    (record { within = turn.0; is = turn.1 }) was.fewer (was.done seen represents) c.in-Err.ensures.goes

pub loop-command-preserved : goal.loop-command-preserved
loop-command-preserved g c =
    let turn = YieldsList-turn (YieldsList-from_vec {s = c.into_iter-command-iterator.result} c.args.commands.items
    (search rules) (search rules)) c.loop-command.yielded c.loop-command.command-iterator
    c.loop-command.yielded_by c.next.result c.next.new.self c.in-Some.command c.in-Some.is c.next.ensures.steps in
    let more = length_push c.loop-command.yielded c.in-Some.command in
    let was = c.loop-command.invariant in record {
      hand = c.in-Ok.ensures.hand;
      unfinished = c.in-Ok.ensures.finished ∙ was.unfinished;
      done = λ seen represents.
          does_next c.args.formula.now seen c.args.commands.items (length c.loop-command.yielded) _ c.in-Some.command
          c.loop-command.state c.execute_command.new.state _ _ _
          (joined g.F.Shelf.asked c.args.shelf.now c.loop-command.shelf c.execute_command.new.shelf)
          (record { within = turn.0; is = turn.1 }) more (was.done seen represents) c.in-Ok.ensures.goes;
      variables = c.in-Ok.ensures.variables ∙ was.variables;
      roots = omega (arith, was.roots, c.in-Ok.ensures.roots, more);
      fewer = no_fewer _ _ _ was.fewer c.in-Ok.ensures.fewer;
    }

pub returns-clause-goes : goal.returns-clause-goes
returns-clause-goes g c =
    let end = YieldsList-end (YieldsList-from_vec {s = c.into_iter-command-iterator.result} c.args.commands.items
    (search rules) (search rules)) c.loop-command.yielded c.loop-command.command-iterator
    c.loop-command.yielded_by c.next.result c.next.new.self c.in-None.is c.next.ensures.steps in
    λ seen represents.
    does_last c.args.formula.now seen c.args.commands.items (length c.loop-command.yielded) _ _ _
    (omega (arith, end.1)) (c.loop-command.invariant.done seen represents)
