use Rattle.std.proofs.Common.{ap, ◌∙◌, arith}
use Rattle.std.proofs.lemmas.List.{take_all}
use Rattle.std.specs.List.{fold}
use Rattle.sd_unique.specs.Chains.{mixed}
use Rattle.sd_unique.proofs.Hashed.{hash_is}
use Rattle.sd_unique.proofs.hash.hash.Goals as goal

pub returns : goal.returns
returns c =
    let all = take_all c.loop-pair.pair-index c.args.list.now (omega arith) in
    hash_is c.args.place c.args.list.now c.loop-pair.hash
    (c.loop-pair.invariant ∙ ap (fold mixed c.args.place) all)
