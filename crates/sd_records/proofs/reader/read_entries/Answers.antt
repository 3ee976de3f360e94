use Rattle.std.proofs.Common.{◌∙◌, ◌+◌, ap, length, get_or}
use Rattle.std.proofs.lemmas.List.{length_push}
use Rattle.sd_vtree.specs.Numbered.{plain_tree}
use Rattle.sd_manager.proofs.Extending.{extends_on}
use Rattle.sd_records.proofs.Entries.{next_turn}
use Rattle.sd_records.proofs.Reading.{slice_before, turn_shown, turn_read}
use Rattle.sd_records.proofs.reader.read_entries.Goals as goal

pub fill-requires : goal.fill-requires
fill-requires c =
    let k = c.loop-index.invariant in
    let head = get_or c.args.heads.now c.loop-index.index (record { position = 0; count = 0 }) in
    let next = next_turn c.args.heads.now c.args.pairs.now c.loop-index.index c.loop-index.start
    c.loop-index-test.true k.start k.left k.counted in
    slice_before (plain_tree c.args.m.now.vtree) c.args.heads.now c.args.pairs.now c.loop-index.index
    c.loop-index.start head c.loop-index.nodes.items c.deref.result.now c.requires.entries next k.all
    c.deref.ensures.value

pub make_at-requires-clause-shown : goal.make_at-requires-clause-shown
make_at-requires-clause-shown c =
    let k = c.loop-index.invariant in
    let head = get_or c.args.heads.now c.loop-index.index (record { position = 0; count = 0 }) in
    let next = next_turn c.args.heads.now c.args.pairs.now c.loop-index.index c.loop-index.start
    c.loop-index-test.true k.start k.left k.counted in
    turn_shown c.args.m.now c.loop-index.m k.table k.kept c.args.heads.now c.args.pairs.now c.loop-index.index
    c.loop-index.start head c.loop-index.nodes.items c.deref.result.now c.deref-in-loop-index.result.now
    c.loop-index-test.true c.requires.entries k.read next k.all c.deref.ensures.value
    (c.deref-in-loop-index.ensures.value ∙ c.in_ok-fill.ensures)

pub loop-index-preserved : goal.loop-index-preserved
loop-index-preserved c =
    let k = c.loop-index.invariant in
    let head = get_or c.args.heads.now c.loop-index.index (record { position = 0; count = 0 }) in
    let next = next_turn c.args.heads.now c.args.pairs.now c.loop-index.index c.loop-index.start
    c.loop-index-test.true k.start k.left k.counted in
    record {
      read = turn_read c.args.m.now c.loop-index.m c.make_at.new.m k.table c.in_ok-node.ensures.kept
          c.args.heads.now c.args.pairs.now c.loop-index.index c.loop-index.start head c.loop-index.nodes.items
          c.deref.result.now c.push.new.self.items c.deref-in-loop-index.result.now c.in_ok-node.node
          c.requires.entries k.read next k.all c.deref.ensures.value
          (c.deref-in-loop-index.ensures.value ∙ c.in_ok-fill.ensures) c.in_ok-node.ensures.ok
          c.in_ok-push.ensures.items;
      all = ap length c.in_ok-push.ensures.items ∙ length_push c.loop-index.nodes.items c.in_ok-node.node
          ∙ ap (λ n. n + 1) k.all;
      kept = extends_on c.args.m.now c.loop-index.m c.make_at.new.m k.kept c.in_ok-node.ensures.kept;
      table = c.in_ok-node.ensures.table;
      start = next.within;
      left = next.left;
      counted = next.counted;
    }
