use Rattle.std.proofs.Common.{◌≤◌, ◌<◌, ◌≡◌, ◌≢◌, ◌/◌, ◌∙◌, sym, ap, arith, rules}
use mathlib.Core.Bool.{beq}
use Rattle.sd_cond.proofs.Terminals.{terminal_own, terminal_top, terminal_bottom}
use Rattle.sd_cond.proofs.conditioning.at_terminal.Goals as goal
use Rattle.sd_cond.proofs.conditioning.at_terminal.Goals.{then-is_constant-via-then-is_constant}
use Rattle.sd_cond.proofs.conditioning.at_terminal.Goals.{then-is_constant-via-else-is_constant+then-variable}

-- a constant, or a literal of another variable
pub returns-then-is_constant-clause-some : goal.returns-then-is_constant-clause-some
returns-then-is_constant-clause-some c = λ t i.
    let low : c.args.a < 2050 = search rules in
    let differ : 2 ≤ c.args.a → c.args.a / 2 ≢ c.args.variable = λ two.
    elim c.then-is_constant.branch [
      | then-is_constant-via-then-is_constant w ↦
          let one : c.args.a < 2 = search rules in absurd (omega (arith, one, two))
      | then-is_constant-via-else-is_constant+then-variable w ↦ λ e. w.if-variable.true (w.variable.ensures ∙ e)
    ] in
    terminal_own t i c.args.variable c.args.positive c.args.a low differ

-- a literal of the variable
pub returns-then-is_positive-positive-clause-some : goal.returns-then-is_positive-positive-clause-some
returns-then-is_positive-positive-clause-some c = λ t i.
    let low : c.args.a < 2050 = search rules in
    let two : 2 ≤ c.args.a = search rules in
    let same : c.args.a / 2 ≡ c.args.variable = search rules in
    terminal_top t i c.args.variable c.args.positive c.args.a c.requires two low same
    (ap (λ b. beq b c.args.positive) (sym c.is_positive.ensures) ∙ c.if-is_positive-positive.true)

pub returns-clause-some : goal.returns-clause-some
returns-clause-some c = λ t i.
    let low : c.args.a < 2050 = search rules in
    let two : 2 ≤ c.args.a = search rules in
    let same : c.args.a / 2 ≡ c.args.variable = search rules in
    terminal_bottom t i c.args.variable c.args.positive c.args.a c.requires two low same
    (ap (λ b. beq b c.args.positive) (sym c.is_positive.ensures) ∙ c.if-is_positive-positive.false)
