use Rattle.sd_manager.proofs.Same.{held_code}
use Rattle.sd_sweep.proofs.Chained.{below_nodes}
use Rattle.sd_sweep.proofs.ChainUnder.{leaf_size, chain_size}
use Rattle.sd_sweep.proofs.sizes.size_of.Goals as goal

pub returns-then-not-is_decomposition-clause-size : goal.returns-then-not-is_decomposition-clause-size
returns-then-not-is_decomposition-clause-size c = λ d h.
    leaf_size c.args.m.now c.node_of-node.result d
    (held_code c.args.m.now c.args.root.now c.node_of-node.result d c.node_of-node.ensures.held h)
    (below_nodes c.node_of-node.result c.is_decomposition.result c.is_decomposition.ensures.1
    c.if-not-is_decomposition.true)

pub returns-clause-size : goal.returns-clause-size
returns-clause-size c = λ d h.
    let f = c.chain_below-nodes in
    chain_size c.args.m.now f.new.m c.node_of-node.ensures.table c.node_of-node.result f.result.0 f.result.1
    f.ensures.chain (c.is_decomposition.ensures.0 c.if-not-is_decomposition.false) d
    (held_code c.args.m.now c.args.root.now c.node_of-node.result d c.node_of-node.ensures.held h)

pub returns-clause-same : goal.returns-clause-same
returns-clause-same c =
    c.unchain.ensures.back c.args.m.now c.requires.unmarked c.chain_below-nodes.ensures.chain.has
