use Rattle.std.proofs.Common.{◌<◌, ap, subst, sym, ◌∙◌, arith}
use Rattle.sd_manager.specs.Table.{Table}
use Rattle.sd_sweep.proofs.Used.{entry_count}
use Rattle.sd_sweep.proofs.Swept.{IsSweeping, sweep_on, sweep_on_all, sweep_less, sweep_less_all}
use Rattle.sd_sweep.proofs.Swept.{sweep_ended, all_reached}
use Rattle.sd_sweep.proofs.sweeping.sweep.Goals as goal

pub loop-number-smaller : goal.loop-number-smaller
loop-number-smaller c =
    subst (λ (t : Table). entry_count c.retire_twos.new.self.linked < entry_count t.linked) c.idle.ensures.same
    (omega (
      arith,
      sweep_less c.idle.new.self c.retire.new.self c.in-Some.number c.retire.ensures.retired,
      sweep_less_all c.retire.new.self c.retire_twos.new.self c.retire_twos.ensures.retired,
    ))

pub loop-number-preserved : goal.loop-number-preserved
loop-number-preserved c =
    sweep_on_all c.args.m.now c.retire.new.self c.retire_twos.new.self
    (sweep_on c.args.m.now c.idle.new.self c.retire.new.self
    (subst (IsSweeping c.args.m.now) (sym c.idle.ensures.same) c.loop-number.invariant) c.in-Some.number
    c.in-Some.ensures.some c.retire.ensures.retired)
    c.retire_twos.ensures.retired

pub returns-clause-swept : goal.returns-clause-swept
returns-clause-swept c =
    sweep_ended c.args.m.now c.idle.new.self
    (subst (IsSweeping c.args.m.now) (sym c.idle.ensures.same) c.loop-number.invariant) c.idle.ensures.table
    c.requires.no_move c.in_default.ensures.none

pub returns-clause-unused : goal.returns-clause-unused
returns-clause-unused c =
    all_reached c.idle.new.self c.idle.ensures.table
    (ap (λ (t : Table). t.moving) c.idle.ensures.same ∙ c.loop-number.invariant.moving ∙ c.requires.no_move)
    c.in_default.ensures.none
