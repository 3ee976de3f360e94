use Rattle.std.proofs.Common.{◌∙◌, ap, ◌∷◌, [], ◌++◌}
use Rattle.sd_laws.proofs.Codes.{pair_equal}
use Rattle.sd_manager.specs.Views.{pairs_at}
use Rattle.sd_records.specs.Listed.{codes_in}
use Rattle.sd_records.proofs.Lists.{mapped_more}
use Rattle.sd_records.proofs.listing.push_pairs.Goals as goal

pub loop-index-preserved : goal.loop-index-preserved
loop-index-preserved c =
    mapped_more (codes_in c.args.marks.now) c.args.pairs.now.items c.loop-index.pairs.items c.push.new.self.items
    (pairs_at c.args.m.now c.args.node) c.loop-index.index c.element-prime.result c.loop-index.invariant
    c.element-prime.ensures.pair
    (c.in_ok-push.ensures.items
    ∙ ap (λ e. c.loop-index.pairs.items ++ e ∷ [])
    (pair_equal (c.code_of-first.result, c.code_of-second.result) (codes_in c.args.marks.now c.element-prime.result)
    c.code_of-first.ensures c.code_of-second.ensures))
