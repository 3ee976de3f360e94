use Rattle.std.proofs.Common.{None, refl}
use Rattle.sd_commands.specs.declared.state.RunState.{RunState}
use Rattle.sd_commands.proofs.Growing.{one_root}
use Rattle.sd_commands.proofs.Standing.{stands_alone}
use Rattle.sd_commands.proofs.state.RunState.of_root.Goals as goal

pub returns-in-Ok-clause-represents : goal.returns-in-Ok-clause-represents
returns-in-Ok-clause-represents c = λ f holds.
    let code : RunState = record {
      manager = c.args.manager;
      cache = c.args.cache;
      names = c.new-names.result;
      limit = c.args.limit;
      slack = c.args.slack;
      every = None;
      pace = c.of_operations.result;
      shared = c.new.result;
    } in
    stands_alone code _ c.args.root f c.requires.ready holds c.new-names.ensures.empty c.new.ensures.lines
    c.new.ensures.forgotten refl refl refl refl refl refl (λ q. c.in-Ok.ensures.updates.0 q)

pub returns-in-Ok-clause-roots : goal.returns-in-Ok-clause-roots
returns-in-Ok-clause-roots c =
    one_root c.args.manager c.args.root c.requires.holds.0 c.requires.holds.1
