use Rattle.std.proofs.Common.{◌<◌, length, sym, subst, arith}
use Rattle.sd_sweep.proofs.Chained.{in_elements_none, pair_linked, in_elements_on, in_elements_all}
use Rattle.sd_sweep.proofs.Chained.{linked_over, pairs_over}
use Rattle.sd_sweep.proofs.chain.chain_elements.Goals as goal

pub loop-index-init : goal.loop-index-init
loop-index-init c = in_elements_none c.args.m.now c.requires.table c.args.node c.args.last c.requires.last

pub element-prime-requires : goal.element-prime-requires
element-prime-requires c =
    let k = c.loop-index.invariant in
    let same = pairs_over c.args.m.now c.loop-index.m k.rest c.args.node in
    subst (λ l. c.loop-index.index < length l) (sym same)
    (omega (arith, c.requires.count, c.loop-index-test.true))

pub chain_node-middle-requires-clause-node : goal.chain_node-middle-requires-clause-node
chain_node-middle-requires-clause-node c =
    let w = c.requires.shown in
    (pair_linked c.args.m.now c.loop-index.m c.args.node c.loop-index.index c.args.last c.loop-index.end w.0 w.1
    c.element-prime.result c.loop-index.invariant w.2 c.element-prime.ensures.pair).0

pub chain_node-middle-requires-clause-last : goal.chain_node-middle-requires-clause-last
chain_node-middle-requires-clause-last c = c.loop-index.invariant.last_is

pub chain_node-end-requires-clause-node : goal.chain_node-end-requires-clause-node
chain_node-end-requires-clause-node c =
    let w = c.requires.shown in
    let f = c.chain_node-middle in
    let linked = (pair_linked c.args.m.now c.loop-index.m c.args.node c.loop-index.index c.args.last c.loop-index.end
    w.0 w.1 c.element-prime.result c.loop-index.invariant w.2 c.element-prime.ensures.pair).1 in
    λ high. linked_over c.loop-index.m f.new.m f.ensures.rest c.element-prime.result.1 (linked high)

pub loop-index-preserved : goal.loop-index-preserved
loop-index-preserved c =
    let f = c.chain_node-middle in
    let g = c.chain_node-end in
    in_elements_on c.args.m.now c.loop-index.m f.new.m g.new.m c.args.node c.loop-index.index c.args.last
    c.loop-index.end f.result g.result c.element-prime.result c.loop-index.invariant c.element-prime.ensures.pair
    f.ensures.rest f.ensures.chain g.ensures.rest g.ensures.chain g.ensures.last g.ensures.table

pub returns-clause-rest : goal.returns-clause-rest
returns-clause-rest c = c.loop-index.invariant.rest

pub returns-clause-last : goal.returns-clause-last
returns-clause-last c = c.loop-index.invariant.last_is

pub returns-clause-table : goal.returns-clause-table
returns-clause-table c = c.loop-index.invariant.table

pub returns-clause-chain : goal.returns-clause-chain
returns-clause-chain c =
    in_elements_all c.args.m.now c.loop-index.m c.args.node c.loop-index.index c.args.last c.loop-index.end
    c.args.count c.loop-index.invariant c.requires.count c.loop-index-test.false
