use Rattle.std.proofs.Common.{◌≡◌, ◌≤◌, ◌*◌, length}
use Rattle.sd_formula.specs.Generated.{state_at}
use Rattle.sd_formula.specs.Steps.{generated_clauses}
use Rattle.sd_formula.specs.Steps.{body_view, no_group}
use Rattle.sd_formula.proofs.generated.generated_body.Given as goal

-- the clauses before are put, and the state is the last of theirs
abbrev pub invariant-loop-index : goal.invariant-loop-index
invariant-loop-index l =
    (body_view l.body ≡ record { closed = generated_clauses l.seed l.index; open_part = no_group })
    × (l.state ≡ state_at l.seed (3 * l.index)) × (length l.body.literals.items ≤ 4 * l.index)
