use Rattle.std.proofs.Common.{sym, ap, ◌∙◌, arith}
use Rattle.sd_counts.specs.Counts.{counted_at}
use Rattle.sd_counts.proofs.Filled.{not_written}
use Rattle.sd_counts.proofs.live_counts.LiveCounts.is_counted.Goals as goal

pub returns-then-number-len : goal.returns-then-number-len
returns-then-number-len c =
    sym (not_written c.self.inside.counts.items c.self.inside.size c.self.inside.total c.args.number
    (omega (arith, c.if-number-len.true, c.len.ensures)))
    ∙ ap (λ v. counted_at v c.args.number) c.self.view_is
