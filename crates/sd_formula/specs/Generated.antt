-- The generated formula: clauses of three neighbouring variables, whose signs a linear congruential generator gives.
use Rattle.std.specs.Prelude.{ℕ, zero, suc, ◌+◌, ◌-◌, ◌*◌, ◌%◌, ◌≤◌}
use Rattle.std.specs.Prelude.{◌<◌, ◌^◌, nat_lt, if◌then◌else◌, [], ◌∷◌, map}
use Rattle.std.specs.List.{range_with_len}
use Rattle.std.specs.Prelude.{ℤ, pos, neg_ℤ, false}
use Rattle.sd_model.specs.Expression.{Group}
use Rattle.sd_formula.specs.declared.formula.Kind.TheVariants.{Cnf}
use Rattle.sd_formula.specs.Dimacs.{Groups}

-- 3 to 1,024 variables, and a seed of 32 bits
pub record IsGenerable (count seed : ℕ) : Type 0 where
  pub at_least_three : 3 ≤ count
  pub within_limit : count ≤ 1024
  pub seed_fits : seed < 2 ^ 32

-- the state after another one, with the multiplier and the increment of Numerical Recipes
abbrev pub next_state : ℕ → ℕ
next_state x = (1664525 * x + 1013904223) % 4294967296

-- the state of a number, where the seed has the number 0
abbrev pub state_at : ℕ → ℕ → ℕ
state_at seed zero = seed
state_at seed (suc n) = next_state (state_at seed n)

-- the literal of a variable, which is positive where the state is in the lower half
abbrev pub literal_by : ℕ → ℕ → ℤ
literal_by x variable = if nat_lt x 2147483648 then pos variable else neg_ℤ (pos variable)

-- the clause of a number, counted from 0: a literal for each of its three variables, each by a state of its own
abbrev pub generated_clause : ℕ → ℕ → Group
generated_clause seed i = record {
  exclusive = false;
  literals = map (λ j. literal_by (state_at seed (3 * i + j)) (i + j)) (1 ∷ 2 ∷ 3 ∷ []);
}

-- the formula of so many variables: a clause begins at each variable but the last two
abbrev pub generated_formula : ℕ → ℕ → Groups
generated_formula count seed =
    record {
      kind = Cnf;
      variables = count;
      groups = map (generated_clause seed) (range_with_len 0 (count - 2));
    }
