use Rattle.std.proofs.Common.{arith}
use Rattle.sd_formula.proofs.GeneratedLaws.{clause_more, state_more}
use Rattle.sd_formula.specs.Steps.{body_view}
use Rattle.sd_formula.proofs.generated.generated_body.Goals as goal

pub loop-index-preserved : goal.loop-index-preserved
loop-index-preserved c = (
  clause_more c.args.seed c.loop-index.index c.loop-index.state (body_view c.loop-index.body)
      (body_view c.put_clause.new.body) c.loop-index.invariant.1 c.loop-index.invariant.0 c.in_ok-state.ensures.ok,
  state_more c.args.seed c.loop-index.index c.loop-index.state c.in_ok-state.state c.loop-index.invariant.1
      c.in_ok-state.ensures.state,
  omega (arith, c.loop-index.invariant.2, c.put_clause.ensures.grown),
)
