use Rattle.std.proofs.Common.{map, string_bytes, ap, refl, arith}
use Rattle.sd_tool.specs.inside.Devices.{faults, NotFewer}
use Rattle.sd_tool.specs.PlanViews.{plan_of}
use Rattle.sd_tool.specs.declared.stop.Stop.TheVariants.{OutOfMemory}
use Rattle.sd_tool.proofs.EndLemmas.{reading_stops, commands_go}
use Rattle.sd_tool.proofs.AskLemmas.{asks_none, breaks_here, joined}
use Rattle.sd_tool.proofs.whole_run.read_and_execute.Goals as goal

pub returns-in-Err-clause-ends : goal.returns-in-Err-clause-ends
returns-in-Err-clause-ends g c =
    reading_stops (map string_bytes c.args.words.now) OutOfMemory c.args.kept.now _ _ _ _ c.requires.none refl
    (breaks_here _ _ _ (asks_none g.F.Shelf.asked c.args.shelf.now))

pub returns-in-Err-prepare-clause-ends : goal.returns-in-Err-prepare-clause-ends
returns-in-Err-prepare-clause-ends g c =
    reading_stops (map string_bytes c.args.words.now) c.in-Err-prepare.stop c.args.kept.now _ _ _ _ c.requires.none
    (ap (λ files. record { files = files; printed = g.O.Sink.written c.args.out.now }) c.in-Err-prepare.ensures.files)
    c.in-Err-prepare.ensures.leads

pub returns-in-Ok-prepare-clause-ends : goal.returns-in-Ok-prepare-clause-ends
returns-in-Ok-prepare-clause-ends g c =
    let first = faults g.F.Shelf.read_faults g.F.Shelf.write_faults g.O.Sink.faults c.args.shelf.now c.args.out.now in
    let before =
    faults g.F.Shelf.read_faults g.F.Shelf.write_faults g.O.Sink.faults c.prepare.new.shelf c.args.out.now in
    let fewer : NotFewer first before = record {
      read = c.in-Ok-prepare.ensures.read_faults;
      write = omega (arith, c.in-Ok-prepare.ensures.write_faults);
      print = omega arith;
    } in
    commands_go (map string_bytes c.args.words.now) (plan_of c.in-Ok-prepare.plan) _ c.execute_plan.result
    _ _ _ first before _
    (joined g.F.Shelf.asked c.args.shelf.now c.prepare.new.shelf c.execute_plan.new.shelf) c.in-Ok-prepare.ensures.leads
    (ap (λ files. record { files = files; printed = g.O.Sink.written c.args.out.now }) c.in-Ok-prepare.ensures.files)
    fewer c.execute_plan.ensures.goes
