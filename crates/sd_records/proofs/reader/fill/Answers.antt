use Rattle.std.proofs.Common.{length}
use Rattle.sd_records.specs.Reading.{AreBefore}
use Rattle.sd_records.specs.Stored.{refs_of}
use Rattle.sd_records.proofs.Lists.{mapped_at}
use Rattle.sd_records.proofs.reader.fill.Goals as goal

pub node_at-prime-requires : goal.node_at-prime-requires
node_at-prime-requires c =
    (mapped_at refs_of (AreBefore (length c.args.nodes.now)) c.args.pairs.now c.loop-index.index (0, 0) c.requires
    c.loop-index-test.true).0

pub node_at-sub-requires : goal.node_at-sub-requires
node_at-sub-requires c =
    (mapped_at refs_of (AreBefore (length c.args.nodes.now)) c.args.pairs.now c.loop-index.index (0, 0) c.requires
    c.loop-index-test.true).1
