use Rattle.std.proofs.Common.{◌≡◌, ◌+◌, ◌-◌, ◌^◌, min, rules}
use Rattle.sd_base.proofs.AskedLemmas.{counts_reading}
use Rattle.sd_cli.proofs.file_shelf.FileShelfShelf.start_read.Goals as goal

-- the call is counted
pub returns-in_default-clause-asked : goal.returns-in_default-clause-asked
returns-in_default-clause-asked g c =
    let was = c.args.self.now in
    let one : c.saturating_add-self.result ≡ min (was.readings + 1) (2 ^ 64 - 1) = search rules in
    counts_reading c.args.name.now was.readings was.writings c.saturating_add-self.result one

pub returns-in-Ok-open-clause-asked : goal.returns-in-Ok-open-clause-asked
returns-in-Ok-open-clause-asked g c =
    let was = c.args.self.now in
    let one : c.saturating_add-self.result ≡ min (was.readings + 1) (2 ^ 64 - 1) = search rules in
    counts_reading c.args.name.now was.readings was.writings c.saturating_add-self.result one

pub returns-in-Err-clause-asked : goal.returns-in-Err-clause-asked
returns-in-Err-clause-asked g c =
    let was = c.args.self.now in
    let one : c.saturating_add-self.result ≡ min (was.readings + 1) (2 ^ 64 - 1) = search rules in
    counts_reading c.args.name.now was.readings was.writings c.saturating_add-self.result one
