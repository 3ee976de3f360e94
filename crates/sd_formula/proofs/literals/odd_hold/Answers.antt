use Rattle.std.proofs.Common.{◌∙◌, ap, rules}
use Rattle.sd_model.specs.Assignment.{literal_holds}
use Rattle.sd_formula.proofs.Odd.{odd_next, next_in_range}
use Rattle.sd_formula.proofs.literals.odd_hold.Goals as goal

pub loop-literal-preserved : goal.loop-literal-preserved
loop-literal-preserved c = record {
  same =
      odd_next c.args.assignment.now c.loop-literal.odd c.holds-odd.result c.args.group.now
      c.loop-literal.literal-index c.loop-literal-test.true
      (c.holds-odd.ensures ∙ ap (literal_holds c.args.assignment.now) (search rules)) c.loop-literal.invariant.same;
  in_range =
      next_in_range _ c.args.group.now c.loop-literal.literal-index c.loop-literal-test.true
      c.loop-literal.invariant.in_range;
}
