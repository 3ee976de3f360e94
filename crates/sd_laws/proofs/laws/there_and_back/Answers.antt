use Rattle.std.proofs.Common.{subst, refl, sym, ◌∙◌}
use Rattle.std.specs.Option.{IsSome}
use Rattle.sd_laws.proofs.Turns.{went_back}
use Rattle.sd_laws.proofs.laws.there_and_back.Goals as goal

pub returns-in-Ok-clause-back : goal.returns-in-Ok-clause-back
returns-in-Ok-clause-back c =
    (went_back c.args.kind c.inverse.result c.args.tree.now c.turn.new.tree c.turn-in-Ok.new.tree c.args.node
    c.turn-in-Ok.result c.position.ensures.numbered c.inverse.ensures c.in-Ok.ensures.moved
    c.turn-in-Ok.ensures.not_movable c.turn-in-Ok.ensures.moved).0

pub returns-in-Ok-clause-defined : goal.returns-in-Ok-clause-defined
returns-in-Ok-clause-defined c = (
  λ k. subst IsSome (sym c.in-Ok.ensures.moved) refl,
  λ k. c.is_ok.ensures.value
      ∙ (went_back c.args.kind c.inverse.result c.args.tree.now c.turn.new.tree c.turn-in-Ok.new.tree c.args.node
      c.turn-in-Ok.result c.position.ensures.numbered c.inverse.ensures c.in-Ok.ensures.moved
      c.turn-in-Ok.ensures.not_movable c.turn-in-Ok.ensures.moved).1,
)
