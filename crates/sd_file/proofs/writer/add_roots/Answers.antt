use Rattle.sd_file.specs.Lines.{CanBeWalked}
use Rattle.sd_file.specs.Ordered.{list_of}
use Rattle.sd_file.proofs.Roots.{code_at, roots_none, roots_more, roots_all}
use Rattle.sd_file.proofs.Walking.{next_left, none_left}
use Rattle.sd_file.proofs.writer.add_roots.Goals as goal

pub add_node-requires-clause-shown : goal.add_node-requires-clause-shown
add_node-requires-clause-shown c =
    code_at (CanBeWalked c.args.m.now (list_of c.args.ordered.now) c.args.levels) c.args.nodes.now
    c.loop-node.node-index c.node-item.result c.requires.shown c.loop-node-test.true c.node-item.is

pub loop-node-init : goal.loop-node-init
loop-node-init c = roots_none c.args.m.now c.args.nodes.now c.args.listing.now c.requires.written

pub loop-node-preserved : goal.loop-node-preserved
loop-node-preserved c =
    let can = code_at (CanBeWalked c.args.m.now (list_of c.args.ordered.now) c.args.levels) c.args.nodes.now
    c.loop-node.node-index c.node-item.result c.requires.shown c.loop-node-test.true c.node-item.is in
    roots_more c.args.m.now (list_of c.args.ordered.now) c.args.levels c.args.nodes.now c.loop-node.node-index
    c.node-item.result c.args.listing.now c.loop-node.listing c.add_node.new.listing c.loop-node.invariant
    (next_left c.args.nodes.now c.loop-node.node-index c.node-item.result c.loop-node-test.true c.node-item.is) can
    c.in_ok-add_node.ensures

pub returns : goal.returns
returns c =
    roots_all c.args.m.now c.args.nodes.now c.loop-node.node-index c.args.listing.now c.loop-node.listing
    c.loop-node.invariant (none_left c.args.nodes.now c.loop-node.node-index c.loop-node-test.false)
