use Rattle.std.proofs.Common.{◌<◌, length, true, sym, ap, subst, ◌∙◌, Some, arith}
use Rattle.std.proofs.Math.ListN.{set}
use Rattle.sd_unique.specs.Candidates.{AreCandidates, Waits}
use Rattle.sd_unique.proofs.Entries.{slice_get_at}
use Rattle.sd_unique.proofs.Waiting.{push_fits, number_pushed, waits_here, waits_still}
use Rattle.sd_unique.proofs.stack.Candidates.push.Goals as goal

pub push_reserved-requires : goal.push_reserved-requires
push_reserved-requires c =
    let inside = subst (λ a. c.args.number < length a.0) (sym c.self.view_is) c.requires.inside in
    omega (
      arith,
      push_fits c.self.inside.numbers.items c.self.inside.waits.items c.self.inside.numbers.cap c.self.invariant
          c.args.number
          (slice_get_at c.self.inside.waits.items c.args.number c.index.result.now inside
          ∙ ap Some (sym c.index.ensures ∙ c.if-index.false)),
    )

pub invariant_of-self : goal.invariant_of-self
invariant_of-self c =
    let inside = subst (λ a. c.args.number < length a.0) (sym c.self.view_is) c.requires.inside in
    subst (AreCandidates c.push_reserved.new.self.items (set c.self.inside.waits.items c.args.number true))
    (sym c.push_reserved.ensures.capacity)
    (subst (λ ns. AreCandidates ns (set c.self.inside.waits.items c.args.number true) c.self.inside.numbers.cap)
    (sym c.push_reserved.ensures.items)
    (number_pushed c.self.inside.numbers.items c.self.inside.waits.items c.self.inside.numbers.cap c.self.invariant
    c.args.number
    (slice_get_at c.self.inside.waits.items c.args.number c.index.result.now inside
    ∙ ap Some (sym c.index.ensures ∙ c.if-index.false))))

pub returns-clause-here : goal.returns-clause-here
returns-clause-here c =
    waits_here c.self.inside.waits.items c.args.number
    (subst (λ a. c.args.number < length a.0) (sym c.self.view_is) c.requires.inside)

pub returns-clause-others : goal.returns-clause-others
returns-clause-others c = λ n on.
    waits_still c.self.inside.waits.items c.args.number n
    (subst (λ a. c.args.number < length a.0) (sym c.self.view_is) c.requires.inside)
    (subst (λ a. Waits a.0 n) (sym c.self.view_is) on)
