use Rattle.std.proofs.Common.{ℤ, subst, w32}
use Rattle.std.proofs.lemmas.Int.{to_z-of_z}
use Rattle.sd_model.specs.Expression.{Atom}
use Rattle.sd_commands.specs.Commands.{with_name}
use Rattle.sd_commands.specs.Standing.{ShowsFormula}
use Rattle.sd_commands.proofs.Values.{literal_value}
use Rattle.sd_commands.specs.declared.command.RunCommand.TheVariants as commands
use Rattle.sd_commands.proofs.Stepping.{settled_steps, settled_stops}
use Rattle.sd_commands.proofs.bind.bind_literal.Goals as goal

pub bind-requires-clause-shown : goal.bind-requires-clause-shown
bind-requires-clause-shown c = (
  Atom c.args.literal,
  subst (λ (z : ℤ). ShowsFormula c.args.state.now.manager c.literal-node.result (Atom z))
      (to_z-of_z w32 c.args.literal c.ranges.literal) (literal_value _ _ _ c.literal-node.ensures.shown),
)

pub returns-clause-done : goal.returns-clause-done
returns-clause-done c = λ input seen was.
    settled_steps input seen (with_name seen c.args.name (Atom c.args.literal)) _ _ _ (λ outcome h. h)
    (c.bind.ensures.done seen (Atom c.args.literal) was
    (subst (λ (z : ℤ). ShowsFormula c.args.state.now.manager c.literal-node.result (Atom z))
    (to_z-of_z w32 c.args.literal c.ranges.literal) (literal_value _ _ _ c.literal-node.ensures.shown)))

pub returns-clause-stops : goal.returns-clause-stops
returns-clause-stops c = λ input seen was.
    settled_stops input seen (with_name seen c.args.name (Atom c.args.literal))
    (commands.Literal c.args.name c.args.literal) c.bind.new.state.manager _ (λ outcome h. h)
    (c.bind.ensures.stops seen (Atom c.args.literal) was
    (subst (λ (z : ℤ). ShowsFormula c.args.state.now.manager c.literal-node.result (Atom z))
    (to_z-of_z w32 c.args.literal c.ranges.literal) (literal_value _ _ _ c.literal-node.ensures.shown)))
