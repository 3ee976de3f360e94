-- The last root is released, and then those before it.
use Rattle.std.proofs.Common.{◌≡◌, [], ◌++◌, sym, ap, subst, ◌∙◌}
use Rattle.std.proofs.lemmas.List.{nil_from_length}
use Rattle.std.specs.Option.{option_to_list}
use Rattle.sd_manager.specs.Table.{Table}
use Rattle.sd_manager.specs.Making.{without_root}
use Rattle.sd_gates.specs.Holding.{AddsRoots}
use Rattle.sd_gates.proofs.Holding.{adds_less, adds_end}
use Rattle.sd_gates.proofs.sweeping.release_all.Goals as goal

pub releasing-preserved : goal.releasing-preserved
releasing-preserved c = record {
  rest = c.release.ensures.released ∙ ap (λ (t : Table). without_root t c.in-Some.root) c.releasing.invariant.rest
      ∙ ap (λ r. record c.args.m.now { roots = r }) (sym (ap (λ (t : Table). t.roots) c.release.ensures.released));
  added = λ before h. subst (λ r. AddsRoots before r c.pop.new.self.items)
      (sym (ap (λ (t : Table). t.roots) c.release.ensures.released))
      (adds_less before c.releasing.m.roots c.pop.new.self.items c.in-Some.root
      (subst (AddsRoots before c.releasing.m.roots)
      (c.pop.ensures.items ∙ ap (λ o. c.pop.new.self.items ++ option_to_list o) c.in-Some.is)
      (c.releasing.invariant.added before h)));
  table = c.release.ensures.table;
}

pub returns-clause-back : goal.returns-clause-back
returns-clause-back c = λ before h.
    let none : c.releasing.held.items ≡ [] =
    nil_from_length c.releasing.held.items (sym c.releasing.held.ok.0 ∙ c.in_default.ensures.cases.0) in
    c.releasing.invariant.rest
    ∙ ap (λ r. record c.args.m.now { roots = r })
    (adds_end before c.releasing.m.roots
    (subst (AddsRoots before c.releasing.m.roots) none (c.releasing.invariant.added before h)))
