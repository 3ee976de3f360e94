use Rattle.std.proofs.Common.{◌≡◌, Some, sym, ◌∙◌, subst}
use Rattle.std.specs.Option.{IsSome}
use Rattle.sd_manager.specs.Views.{pairs_at}
use Rattle.sd_manager.proofs.Reading.{among_at}
use Rattle.sd_laws.proofs.Lists.{all_at}
use Rattle.sd_file.proofs.Grouping.{ranked_more}
use Rattle.sd_file.specs.Ordered.{rank_of}
use Rattle.sd_file.specs.Ranks.{HasRanks}
use Rattle.sd_file.proofs.order.ranked_elements.Goals as goal

pub unwrap-prime_rank-requires : goal.unwrap-prime_rank-requires
unwrap-prime_rank-requires c =
    let pairs = pairs_at c.args.m.now c.args.node in
    let both = all_at (HasRanks c.args.o.now) pairs c.element-prime.result c.requires.ready
    (among_at pairs c.loop-index.index c.element-prime.result c.element-prime.ensures.pair) in
    subst IsSome (sym c.rank.ensures) both.0

pub unwrap-sub_rank-requires : goal.unwrap-sub_rank-requires
unwrap-sub_rank-requires c =
    let pairs = pairs_at c.args.m.now c.args.node in
    let both = all_at (HasRanks c.args.o.now) pairs c.element-prime.result c.requires.ready
    (among_at pairs c.loop-index.index c.element-prime.result c.element-prime.ensures.pair) in
    subst IsSome (sym c.rank-in-loop-index.ensures) both.1

pub loop-index-preserved : goal.loop-index-preserved
loop-index-preserved c =
    let prime : rank_of c.args.o.now c.element-prime.result.0 ≡ Some c.unwrap-prime_rank.result =
    sym c.rank.ensures ∙ c.unwrap-prime_rank.ensures in
    let sub : rank_of c.args.o.now c.element-prime.result.1 ≡ Some c.unwrap-sub_rank.result =
    sym c.rank-in-loop-index.ensures ∙ c.unwrap-sub_rank.ensures in
    let first : c.prime.inside.0 ≡ c.element-prime.result.0 = cc (c.prime.view_is) in
    let second : c.sub.inside.0 ≡ c.element-prime.result.1 = cc (c.sub.view_is) in
    ranked_more c.args.m.now c.args.o.now c.args.node c.loop-index.index c.loop-index.elements.items
    c.push.new.self.items c.element-prime.result
    (c.unwrap-prime_rank.result, c.unwrap-sub_rank.result, c.prime.inside.0, c.sub.inside.0)
    c.loop-index.invariant c.element-prime.ensures.pair first second prime sub c.in_ok-push.ensures.items
