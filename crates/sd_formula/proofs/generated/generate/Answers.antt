use Rattle.std.proofs.Common.{arith}
use Rattle.sd_formula.proofs.GeneratedLaws.{is_formula}
use Rattle.sd_formula.proofs.generated.generate.Goals as goal

pub invariant_of-result : goal.invariant_of-result
invariant_of-result c = (
  c.in_ok-body.body.rise,
  is_formula c.args.count c.args.seed c.in_ok-body.body.ends.items c.in_ok-body.body.literals.items
      c.in_ok-body.body.exclusive
      (record { at_least_three = omega arith; within_limit = omega arith; seed_fits = omega arith })
      c.in_ok-body.ensures,
)
