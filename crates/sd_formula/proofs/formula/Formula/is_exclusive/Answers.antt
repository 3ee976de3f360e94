use Rattle.std.proofs.Common.{◌≡◌, ◌<◌, List, length, slice_get, option_map, Some, sym, subst}
use Rattle.sd_model.specs.Expression.{Group}
use Rattle.sd_formula.specs.declared.flat.End.{End}
use Rattle.sd_formula.specs.Formulas.{IsFormula}
use Rattle.sd_formula.specs.Dimacs.{Groups}
use Rattle.sd_formula.specs.Flat.{cut}
use Rattle.sd_formula.proofs.FlatLaws.{length_cut}
use Rattle.sd_formula.proofs.GroupLaws.{marked_is_cnf}
use Rattle.sd_formula.proofs.formula.Formula.is_exclusive.Goals as goal

-- as many groups as ends
pub is_marked-requires : goal.is_marked-requires
is_marked-requires c =
    let f = c.self.inside in
    let below : c.args.index < length (cut 0 f.ends.items f.literals.items) =
    subst (λ (g : Groups). c.args.index < length g.groups) (sym c.self.view_is) c.requires in
    rw c.deref.ensures.value (rw length_cut at below)

-- the mark of the group is that of its end
pub returns-clause-value : goal.returns-clause-value
returns-clause-value c =
    let f = c.self.inside in
    let here = subst (λ (ends : List End). option_map (λ (g : Group). g.exclusive)
    (slice_get (cut 0 ends f.literals.items) c.args.index)
    ≡ Some c.is_marked.result) c.deref.ensures.value (c.is_marked.ensures f.literals.items) in
    subst (λ (g : Groups). option_map (λ (x : Group). x.exclusive) (slice_get g.groups c.args.index)
    ≡ Some c.is_marked.result) c.self.view_is here

-- terms have no mark
pub returns-clause-of_cnf : goal.returns-clause-of_cnf
returns-clause-of_cnf c = λ holds.
    marked_is_cnf c.args.self.now c.args.index c.is_marked.result
    (subst IsFormula c.self.view_is c.self.invariant.1) (returns-clause-value c) holds
