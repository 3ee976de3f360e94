use Rattle.std.proofs.Common.{◌-◌, ◌<◌, length, arith}
use Rattle.sd_unique.proofs.Rechaining.{below_or_not, rechained_end, rechained_none}
use Rattle.sd_unique.proofs.Hashes.{hashed_kept}
use Rattle.sd_unique.proofs.chaining.chain_all.Goals as goal

pub chain_part-requires-clause-chained : goal.chain_part-requires-clause-chained
chain_part-requires-clause-chained c =
    rechained_none c.args.runs.now c.args.records.now (length c.args.heads.now - 1) c.args.heads.now c.requires.empty

pub returns-clause-chained : goal.returns-clause-chained
returns-clause-chained c =
    rechained_end c.args.runs.now c.chain_part-2.new.records (λ n. n < length c.chain_part.new.records)
    c.chain_part-2.new.heads (λ n h. omega (arith, h, c.chain_part-2.ensures.kept.size))
    (λ n. below_or_not n (length c.chain_part.new.records)) c.chain_part-2.ensures.chained

pub chain_part-requires-2-clause-hashed : goal.chain_part-requires-2-clause-hashed
chain_part-requires-2-clause-hashed c =
    hashed_kept c.args.runs.now c.args.records.now c.chain_part.new.records c.args.hashes.now c.chain_part.ensures.kept
    c.requires.hashed
