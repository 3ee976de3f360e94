use Rattle.sd_laws.proofs.Nodes.{trimmed_node, new_node}
use Rattle.sd_laws.proofs.laws.node_of_partition.Goals as goal

pub returns-clause-trimmed : goal.returns-clause-trimmed
returns-clause-trimmed c t at u code pairs ds v h e = trimmed_node t at v u pairs ds h code e

pub returns-clause-untrimmed : goal.returns-clause-untrimmed
returns-clause-untrimmed c t old new u n pairs ds v keys h differ none keeps stored =
    let z = new_node t old new v keys u n pairs ds h differ none keeps stored in (z.0, z.1, z.2)
