use Rattle.std.proofs.Common.{slice_get, sym, ap, subst, ◌∙◌}
use Rattle.sd_unique.specs.Relinking.{IsIdle}
use Rattle.sd_unique.proofs.Idle.{idle_some, idle_none}
use Rattle.sd_unique.proofs.Waiting.{kept_queued}
use Rattle.sd_unique.proofs.nodes.Nodes.idle.Goals as goal

pub invariant_of-self : goal.invariant_of-self
invariant_of-self c = (
  kept_queued c.self.inside.runs c.self.inside.records.items c.self.inside.links.items c.self.inside.heads.items
      c.self.inside.places.items c.self.inside.candidates.0 c.pop_used.new.self.0
      (c.pop_used.ensures.size)
      (λ n r e unused. c.pop_used.ensures.others n r (ap (λ l. slice_get l n) c.deref.ensures.value ∙ e) unused)
      c.self.invariant.0,
  c.self.invariant.1,
  c.self.invariant.2,
)

pub returns-in_default-clause-none : goal.returns-in_default-clause-none
returns-in_default-clause-none c = λ n.
    subst (λ a. ¬ IsIdle a n) (sym c.end_sweep.ensures)
    (idle_none c.self.inside.runs c.self.inside.records.items c.pop_used.new.self.0
    (λ m r e unused. c.pop_used.ensures.others m r (ap (λ l. slice_get l m) c.deref.ensures.value ∙ e) unused
    (c.self.invariant.0.queued m r e unused.linked unused.none))
    c.in_default.ensures.none n)

pub returns-clause-some : goal.returns-clause-some
returns-clause-some c =
    let first = c.in-Some.ensures.some in
    idle_some c.self.inside.runs c.self.inside.records.items c.in-Some.node first.0
    (ap (λ l. slice_get l c.in-Some.node) (sym c.deref.ensures.value) ∙ first.1) first.2
