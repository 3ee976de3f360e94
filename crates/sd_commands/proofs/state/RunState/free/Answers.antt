use Rattle.std.proofs.Common.{refl}
use Rattle.sd_commands.proofs.Standing.{former_held, no_root_more, stands_released}
use Rattle.sd_commands.proofs.state.RunState.free.Goals as goal

pub release_any-requires : goal.release_any-requires
release_any-requires c = record {
  no_move = c.requires.represents.1.no_move;
  held = former_held c.args.self.now c.requires.represents.0 c.args.name _ c.requires.represents.1
      c.remove-freed.ensures.value;
}

pub returns-clause-represents : goal.returns-clause-represents
returns-clause-represents c = λ seen was.
    stands_released c.args.self.now _ seen c.args.name _ was c.remove-freed.ensures.value
    c.release_any.ensures refl refl refl refl refl (λ q. c.remove-freed.ensures.updates.0 q)

pub returns-clause-roots : goal.returns-clause-roots
returns-clause-roots c = no_root_more c.args.self.now.manager _ _ c.release_any.ensures
