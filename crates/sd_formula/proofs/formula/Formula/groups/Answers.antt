use Rattle.std.proofs.Common.{◌≡◌, length, subst, arith}
use Rattle.sd_formula.specs.Dimacs.{Groups}
use Rattle.sd_formula.proofs.FlatLaws.{length_cut}
use Rattle.sd_formula.proofs.formula.Formula.groups.Goals as goal

-- as many groups as ends
pub returns-clause-value : goal.returns-clause-value
returns-clause-value c =
    let f = c.self.inside in
    subst (λ (g : Groups). c.len.result ≡ length g.groups) c.self.view_is
    (omega (arith, c.len.ensures, f.ends.ok.0, length_cut 0 f.ends.items f.literals.items))

pub returns-clause-within_limit : goal.returns-clause-within_limit
returns-clause-within_limit c =
    let f = c.self.inside in
    omega (arith, c.len.ensures, f.ends.ok.0, length_cut 0 f.ends.items f.literals.items, c.self.invariant.1.count)
