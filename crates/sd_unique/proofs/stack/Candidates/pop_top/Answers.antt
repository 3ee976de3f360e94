use Rattle.std.proofs.Common.{◌-◌, false, sym, ap, subst, ◌∙◌, Some, arith}
use Rattle.std.proofs.Math.ListN.{set}
use Rattle.sd_unique.specs.Candidates.{AreCandidates, Waits}
use Rattle.sd_unique.proofs.Waiting.{number_popped, read_top, top_inside, waits_other}
use Rattle.sd_unique.proofs.stack.Candidates.pop_top.Goals as goal

pub index_mut-requires : goal.index_mut-requires
index_mut-requires c =
    omega (
      arith,
      top_inside c.self.inside.numbers.items c.self.inside.waits.items c.self.inside.numbers.cap c.self.invariant
          c.args.number
          (read_top c.self.inside.numbers.items c.self.inside.waits.items c.self.inside.numbers.cap c.self.invariant
          (omega (arith, c.if-len-gt0.true)) (c.len-then-len-gt0.result - 1) c.index.result.now (omega arith)
          c.index.ensures
          ∙ ap Some c.if-index-number.true),
    )

pub invariant_of-self : goal.invariant_of-self
invariant_of-self c =
    subst (AreCandidates c.take_last.new.self.items (set c.self.inside.waits.items c.args.number false))
    (sym c.take_last.ensures.capacity)
    (number_popped c.self.inside.numbers.items c.self.inside.waits.items c.self.inside.numbers.cap c.self.invariant
    c.args.number
    (read_top c.self.inside.numbers.items c.self.inside.waits.items c.self.inside.numbers.cap c.self.invariant
    (omega (arith, c.if-len-gt0.true)) (c.len-then-len-gt0.result - 1) c.index.result.now (omega arith)
    c.index.ensures
    ∙ ap Some c.if-index-number.true)
    c.take_last.new.self.items c.take_last.result c.take_last.ensures.items)

pub returns-then-index-number-clause-others : goal.returns-then-index-number-clause-others
returns-then-index-number-clause-others c = λ n ne on.
    waits_other c.self.inside.waits.items c.args.number n ne (subst (λ a. Waits a.0 n) (sym c.self.view_is) on)
