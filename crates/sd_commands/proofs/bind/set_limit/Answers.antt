use Rattle.std.proofs.Common.{refl, sym, subst}
use Rattle.sd_commands.specs.Standing.{Represents}
use Rattle.sd_commands.proofs.Standing.{stands_limited}
use Rattle.sd_commands.proofs.Settling.{settles_within}
use Rattle.sd_commands.proofs.bind.set_limit.Goals as goal

pub returns-in-Ok-clause-done : goal.returns-in-Ok-clause-done
returns-in-Ok-clause-done c = λ input seen was.
    let next = record seen { limit = c.args.limit } in
    record {
      next = next;
      step = settles_within next (c.in-Ok.ensures.within seen was);
      represents = subst (λ code. Represents code next) (sym c.in-Ok.ensures.ok)
          (stands_limited c.args.state.now c.args.limit seen was);
    }
