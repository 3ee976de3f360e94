use Rattle.std.proofs.Common.{◌≡◌, ◌+◌, ◌-◌, ◌^◌, min, rules}
use Rattle.sd_base.proofs.AskedLemmas.{counts_writing}
use Rattle.sd_cli.proofs.file_shelf.FileShelfShelf.start_write.Goals as goal

-- the call is counted
pub returns-in_default-clause-asked : goal.returns-in_default-clause-asked
returns-in_default-clause-asked g c =
    let was = c.args.self.now in
    let one : c.saturating_add-self.result ≡ min (was.writings + 1) (2 ^ 64 - 1) = search rules in
    counts_writing c.args.name.now was.readings was.writings c.saturating_add-self.result one

pub returns-in-Ok-create-clause-asked : goal.returns-in-Ok-create-clause-asked
returns-in-Ok-create-clause-asked g c =
    let was = c.args.self.now in
    let one : c.saturating_add-self.result ≡ min (was.writings + 1) (2 ^ 64 - 1) = search rules in
    counts_writing c.args.name.now was.readings was.writings c.saturating_add-self.result one

pub returns-in-Err-clause-asked : goal.returns-in-Err-clause-asked
returns-in-Err-clause-asked g c =
    let was = c.args.self.now in
    let one : c.saturating_add-self.result ≡ min (was.writings + 1) (2 ^ 64 - 1) = search rules in
    counts_writing c.args.name.now was.readings was.writings c.saturating_add-self.result one
