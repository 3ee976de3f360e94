use Rattle.std.proofs.Common.{◌≡◌, ◌<◌, length, slice_get, option_map, Some, sym, subst}
use Rattle.sd_model.specs.Expression.{Group}
use Rattle.sd_formula.specs.Formulas.{IsFormula}
use Rattle.sd_formula.specs.Dimacs.{Groups}
use Rattle.sd_formula.specs.Flat.{cut}
use Rattle.sd_formula.proofs.FlatLaws.{length_cut}
use Rattle.sd_formula.proofs.GroupLaws.{literals_at}
use Rattle.sd_formula.proofs.formula.Formula.group.Goals as goal

-- as many groups as ends
pub group_between-requires-clause-below : goal.group_between-requires-clause-below
group_between-requires-clause-below c =
    let f = c.self.inside in
    let below : c.args.index < length (cut 0 f.ends.items f.literals.items) =
    subst (λ (g : Groups). c.args.index < length g.groups) (sym c.self.view_is) c.requires in
    rw c.deref-2.ensures.value (rw length_cut at below)

-- each group of a formula has literals of its variables
pub returns-clause-literals : goal.returns-clause-literals
returns-clause-literals c =
    let f = c.self.inside in
    let literals = c.group_between.result.now in
    let here : option_map (λ (g : Group). g.literals) (slice_get (cut 0 f.ends.items f.literals.items) c.args.index)
    ≡ Some literals =
    rw (c.deref-2.ensures.value, c.deref.ensures.value) at c.group_between.ensures in
    let at = subst (λ (g : Groups). option_map (λ (x : Group). x.literals) (slice_get g.groups c.args.index)
    ≡ Some literals) c.self.view_is here in
    literals_at c.args.self.now c.args.index literals (subst IsFormula c.self.view_is c.self.invariant.1) at
