use Rattle.sd_unique.proofs.Hashed.{bucket_from}
use Rattle.sd_unique.proofs.hash.bucket_at.Goals as goal

pub returns-clause-is : goal.returns-clause-is
returns-clause-is c = λ key is. bucket_from key c.args.hash c.args.count is
