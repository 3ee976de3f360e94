use Rattle.sd_commands.proofs.Standing.{name_in, shows_held}
use Rattle.sd_commands.proofs.state.RunState.node.Goals as goal

pub node_of-requires : goal.node_of-requires
node_of-requires c = name_in c.args.self.now c.requires.represents.0 c.args.name _ c.requires.represents.1
    c.root.ensures.root

pub returns : goal.returns
returns c = λ seen was. shows_held _ _ _ _ (c.root.ensures.value seen was) c.node_of.ensures.held
