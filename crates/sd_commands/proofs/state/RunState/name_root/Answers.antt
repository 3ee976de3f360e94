use Rattle.std.proofs.Common.{◌∙◌, arith}
use Rattle.sd_commands.specs.Commands.{with_name}
use Rattle.sd_commands.proofs.state.RunState.name_root.Goals as goal

pub sweep-requires : goal.sweep-requires
sweep-requires c = record {
  represents = (
    with_name c.requires.represents.0 c.args.name c.requires.holds.0,
    c.in-Ok.ensures.represents c.requires.represents.0 c.requires.holds.0 c.requires.represents.1 c.requires.holds.1,
  );
}

pub returns-in-Ok-clause-represents : goal.returns-in-Ok-clause-represents
returns-in-Ok-clause-represents c = λ seen f was holds.
    c.sweep.ensures.represents (with_name seen c.args.name f) (c.in-Ok.ensures.represents seen f was holds)

pub returns-in-Ok-clause-vtree : goal.returns-in-Ok-clause-vtree
returns-in-Ok-clause-vtree c = c.sweep.ensures.vtree ∙ c.insert_root.ensures.vtree

pub returns-in-Ok-clause-roots : goal.returns-in-Ok-clause-roots
returns-in-Ok-clause-roots c =
    let same = c.sweep.ensures.roots in
    let fewer = c.insert_root.ensures.roots in
    omega (arith, same, fewer)
