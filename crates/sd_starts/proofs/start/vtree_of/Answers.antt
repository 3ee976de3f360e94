use Rattle.sd_starts.specs.declared.start.Start.TheVariants.{Balanced, Right, Left}
use Rattle.sd_starts.proofs.StartLeaves.{leaves_made}
use Rattle.sd_starts.proofs.start.vtree_of.Goals as goal

pub returns-in-Balanced-clause-leaves : goal.returns-in-Balanced-clause-leaves
returns-in-Balanced-clause-leaves c =
    leaves_made Balanced c.args.variables c.balanced.result c.requires.at_least_one c.balanced.ensures.tree

pub returns-in-Right-clause-leaves : goal.returns-in-Right-clause-leaves
returns-in-Right-clause-leaves c =
    leaves_made Right c.args.variables c.right.result c.requires.at_least_one c.right.ensures.tree

pub returns-in-Left-clause-leaves : goal.returns-in-Left-clause-leaves
returns-in-Left-clause-leaves c =
    leaves_made Left c.args.variables c.left.result c.requires.at_least_one c.left.ensures.tree
