use Rattle.std.proofs.Common.{◌∙◌}
use Rattle.sd_file.proofs.Growing.{pair_step}
use Rattle.sd_file.proofs.id_table.IdTable.put_pairs.Goals as goal

-- one more pair
pub loop-rest-preserved : goal.loop-rest-preserved
loop-rest-preserved c =
    rw c.in_ok-push.ensures.items
    (pair_step _ c.args.line c.loop-rest.rest.now c.loop-rest.pairs.items _ _ c.in-len2-up.len_at_least
    c.in_ok-prime.ensures c.in_ok-sub.ensures
    ∙ c.loop-rest.invariant)
