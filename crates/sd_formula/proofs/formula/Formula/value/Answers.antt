use Rattle.std.proofs.Common.{◌≡◌, ap, ◌∙◌}
use Rattle.sd_formula.specs.declared.formula.Kind.TheVariants.{Dnf}
use Rattle.sd_formula.specs.Dimacs.{Groups}
use Rattle.sd_formula.proofs.GroupLaws.{dnf_value}
use Rattle.sd_formula.proofs.formula.Formula.value.Goals as goal

pub returns-in-Dnf : goal.returns-in-Dnf
returns-in-Dnf c =
    let seen = ap (λ (g : Groups). g.kind) c.self.view_is in
    let here = c.in-Dnf.is in
    let kind : c.args.self.now.kind ≡ Dnf = cc in
    c.some_term_holds.ensures ∙ dnf_value c.args.self.now c.args.assignment.now kind
