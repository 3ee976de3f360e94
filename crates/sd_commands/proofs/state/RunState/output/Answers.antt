use Rattle.sd_commands.proofs.Standing.{as_before_made, inputs_here}
use Rattle.sd_commands.proofs.Values.{output_value}
use Rattle.sd_commands.proofs.state.RunState.output.Goals as goal

pub node-requires : goal.node-requires
node-requires c =
    let was = c.requires.represents.1 in
    record {
      variables = inputs_here c.args.self.now c.requires.represents.0 c.args.index was c.requires.index;
      no_move = was.no_move;
      unmarked = was.unmarked;
      serves = was.serves;
      shares = was.shares;
      index = c.requires.index;
      room = c.requires.room;
    }

pub returns-clause-ok : goal.returns-clause-ok
returns-clause-ok c = λ seen was.
    output_value c.node.result c.node.new.m seen.circuit c.args.self.now.shared.circuit.text c.args.index was.circuit
    c.node.ensures.ok

pub returns-clause-kept : goal.returns-clause-kept
returns-clause-kept c =
    as_before_made c.args.self.now c.node.new.m c.node.new.c c.node.new.pace c.node.new.self c.node.ensures.kept
    c.node.ensures.serves c.node.ensures.unmarked c.node.ensures.circuit c.node.ensures.shares

pub returns-clause-bound : goal.returns-clause-bound
returns-clause-bound c = c.node.ensures.kept.bound

pub returns-clause-vtree : goal.returns-clause-vtree
returns-clause-vtree c = c.node.ensures.kept.reached.vtree
