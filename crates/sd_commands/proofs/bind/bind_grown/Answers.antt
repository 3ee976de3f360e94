use Rattle.std.proofs.Common.{refl, sym, ap, subst, ◌∙◌}
use Rattle.std.specs.BTreeMap as maps
use Rattle.std.specs.Ordering.{nat_cmp}
use Rattle.sd_commands.specs.Standing.{IsFree}
use Rattle.sd_formula.specs.Formulas.{expression_of}
use Rattle.sd_vtree.specs.Numbered.{plain_tree}
use Rattle.sd_commands.proofs.Growing.{grown_steps, left_unnamed}
use Rattle.sd_commands.proofs.bind.bind_grown.Goals as goal

pub name_root-requires-clause-represents : goal.name_root-requires-clause-represents
name_root-requires-clause-represents c =
    (_, (c.in-Ok.ensures.ok c.requires.represents.0 c.requires.represents.1).represents)

pub name_root-requires-clause-holds : goal.name_root-requires-clause-holds
name_root-requires-clause-holds c =
    (expression_of c.args.input.now, (c.in-Ok.ensures.ok c.requires.represents.0 c.requires.represents.1).holds)

pub name_root-requires-clause-free : goal.name_root-requires-clause-free
name_root-requires-clause-free c =
    subst (λ s. IsFree s c.args.name) (sym c.in-Ok.ensures.rest) c.requires.free

pub returns-in-Ok-name_root-clause-done : goal.returns-in-Ok-name_root-clause-done
returns-in-Ok-name_root-clause-done c = λ seen was.
    grown_steps c.args.input.now seen c.args.name c.grow.new.state c.name_root.new.self c.in-Ok.root
    (c.in-Ok.ensures.ok seen was) c.in-Ok-name_root.ensures.represents

pub returns-in-Err-name_root-clause-err : goal.returns-in-Err-name_root-clause-err
returns-in-Err-name_root-clause-err c =
    left_unnamed c.args.input.now c.args.state.now c.grow.new.state c.name_root.new.self c.in-Ok.root
    c.in-Ok.ensures.ok c.in-Err-name_root.ensures.err c.in-Ok.ensures.others

pub returns-in-Err-clause-stops : goal.returns-in-Err-clause-stops
returns-in-Err-clause-stops c = λ seen was. c.in-Err.ensures.stops seen was c.args.name
