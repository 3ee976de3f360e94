-- The one command of a check.
use Rattle.std.proofs.Common.{rules, ◌≡◌, [], ◌∷◌}
use Rattle.sd_commands.specs.declared.command.RunCommand.TheVariants as commands
use Rattle.sd_formula.specs.Formulas.{no_groups}
use Rattle.sd_formula.specs.declared.formula.Kind.TheVariants as kinds
use Rattle.sd_model.specs.Tree.{leaves}
use Rattle.sd_vtree.specs.Numbered.{plain_tree}
use Rattle.sd_tool.proofs.InputLemmas.{check_point}
use Rattle.sd_tool.proofs.reading.check_inputs.Goals as goal

pub returns-clause-point : goal.returns-clause-point
returns-clause-point c = λ job name is.
    let checked = c.args.checked in
    let v = leaves (plain_tree checked.vtree) in
    let same : c.of_formula.result.formula ≡ no_groups kinds.Cnf v = search rules in
    let are : c.push.new.self.items ≡ record { line = 0; command = commands.Check c.args.file checked.ids } ∷ [] =
    search rules in
    check_point job name c.of_formula.result (plain_tree checked.vtree) v checked.ids c.args.file
    c.push.new.self.items is
    same c.of_formula.ensures.circuit are
