use Rattle.sd_laws.proofs.Unturned.{turned_shown}
use Rattle.sd_laws.proofs.laws.functions_stay.Goals as goal

pub returns : goal.returns
returns c t u upper lower at code d num num' same keeps keys cleared h =
    turned_shown t u upper lower num num' same keeps at keys cleared code d h
