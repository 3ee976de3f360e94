use Rattle.std.proofs.Common.{refl}
use Rattle.sd_commands.proofs.bind.bind.Goals as goal

pub returns-in-Ok-clause-done : goal.returns-in-Ok-clause-done
returns-in-Ok-clause-done c = λ seen f was shows.
    record {
      quiet = refl;
      within = c.in-Ok.ensures.within seen f was shows;
      represents = c.in-Ok.ensures.represents seen f was shows;
    }
