use Rattle.std.proofs.Common.{ap, arith}
use Rattle.std.specs.FinMap.{get}
use Rattle.sd_model.specs.Tree.{leaves}
use Rattle.sd_vtree.specs.Numbered.{plain_tree}
use Rattle.sd_laws.proofs.Depths.{depth_canonical}
use Rattle.sd_manager.proofs.Same.{held_code}
use Rattle.sd_records.proofs.Exported.{records_listed, root_listed, value_listed}
use Rattle.sd_records.proofs.writer.export.Goals as goal

pub add_node-requires-clause-shown : goal.add_node-requires-clause-shown
add_node-requires-clause-shown c =
    let is = held_code c.args.m.now c.args.root.now c.node_of-node.result c.requires.held.0 c.node_of-node.ensures.held
    c.requires.held.1 in (
      c.requires.held.0,
      is,
      omega (
        arith,
        depth_canonical is.canonical,
        c.variables.ensures.count,
        ap (λ t. leaves (plain_tree t)) c.vtree.ensures.vtree,
      ),
    )

pub returns-clause-records : goal.returns-clause-records
returns-clause-records c =
    records_listed c.args.m.now c.node_of-node.ensures.table c.add_node.new.listing c.in_ok-add_node.ensures.listed
    c.node_of-node.result c.in_ok-add_node.ensures.node c.requires.held.0
    (held_code c.args.m.now c.args.root.now c.node_of-node.result c.requires.held.0 c.node_of-node.ensures.held
    c.requires.held.1) c.into_records.result c.into_records.ensures

pub returns-clause-shown : goal.returns-clause-shown
returns-clause-shown c d held =
    root_listed c.args.m.now c.node_of-node.ensures.table c.add_node.new.listing c.in_ok-add_node.ensures.listed
    c.node_of-node.result c.in_ok-add_node.ensures.node d
    (held_code c.args.m.now c.args.root.now c.node_of-node.result d c.node_of-node.ensures.held held)
    c.into_records.result c.into_records.ensures

pub returns-clause-value : goal.returns-clause-value
returns-clause-value c b f also answer =
    value_listed c.args.m.now c.node_of-node.ensures.table c.add_node.new.listing c.in_ok-add_node.ensures.listed
    c.node_of-node.result c.in_ok-add_node.ensures.node c.into_records.result c.into_records.ensures b
    (get c.args.m.now.roots c.args.root.now) c.node_of-node.ensures.held f also answer
