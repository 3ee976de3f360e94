-- The answers of the first piece and of the others are those of all tasks.
use Rattle.std.proofs.Common.{rules, ◌≡◌, ◌++◌, take, drop}
use Rattle.std.specs.List.{AllZip}
use Rattle.sd_parts.proofs.Zipped.{zipped_halves}
use Rattle.sd_parts.proofs.tasks.+fn-work_pieces-other_pieces+work_pieces.Goals as goal

pub returns : goal.returns
returns g t c =
    let R = g.T.Task.answers in
    let first : AllZip R (take c.div_ceil-size.result c.args.tasks.items) c.in_ok-answers.answers.items =
    search rules in
    let others : AllZip R (drop c.div_ceil-size.result c.args.tasks.items) c.in_ok-more.more.items =
    search rules in
    let items : c.append.new.self.items ≡ c.in_ok-answers.answers.items ++ c.in_ok-more.more.items =
    search rules in
    rw items (zipped_halves R _ _ _ _ first others)
