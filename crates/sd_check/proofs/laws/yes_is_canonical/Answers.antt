use Rattle.sd_check.proofs.Copied.{all_copied}
use Rattle.sd_check.proofs.Unbroken.{copy_unbroken}
use Rattle.sd_check.proofs.laws.yes_is_canonical.Goals as goal

pub returns : goal.returns
returns c t ids f v same is = (
  all_copied t ids f v is,
  λ copies i rule below. let d = copies i below in copy_unbroken t ids f i v is below d.0 d.1 d.2 rule,
)
