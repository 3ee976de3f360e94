-- One more clause of the generated formula, and that its literals are in range.
use Rattle.std.proofs.Common.{◌≡◌, ℕ, zero, suc, ◌+◌, ◌-◌, ◌*◌, ◌≤◌, List, [], ◌∷◌, ◌++◌, length, Bool, true, false}
use Rattle.std.proofs.Common.{ℤ, pos, neg_ℤ, unsigned_abs, if◌then◌else◌, nat_lt, refl, ap, sym, subst, ◌∙◌, arith}
use Rattle.std.proofs.Common.{length-append, map}
use Rattle.std.specs.List.{AllByRecursion, range_with_len}
use Rattle.std.proofs.lemmas.List.{map-append}
use Rattle.sd_formula.specs.declared.flat.End.{End}
use Rattle.sd_formula.specs.declared.formula.Kind.TheVariants.{Cnf}
use Rattle.sd_formula.specs.Formulas.{IsLiteral, IsGroup, IsFormula, groups_between}
use Rattle.sd_formula.specs.Generated.{IsGenerable, state_at, literal_by, generated_clause}
use Rattle.sd_formula.specs.Steps.{generated_clauses}
use Rattle.sd_formula.specs.Flat.{cut}
use Rattle.sd_formula.specs.Steps.{Parts, no_group, ended, extended, parts_of}
use Rattle.sd_formula.proofs.FitLaws.{all_push}

-- three literals and the end of their clause
abbrev pub put_three : Parts → ℕ → ℕ → Parts
put_three p s variable =
    ended (extended (extended (extended p (literal_by (state_at s 1) variable))
    (literal_by (state_at s 2) (variable + 1))) (literal_by (state_at s 3) (variable + 2)))

-- the clauses so far as parts
abbrev pub clauses_put : ℕ → ℕ → Parts
clauses_put seed n = record { closed = generated_clauses seed n; open_part = no_group }

-- three literals by the states behind a number are the clause of that number
three_are : (seed i : ℕ) →
    literal_by (state_at (state_at seed (3 * i)) 1) (i + 1) ∷ literal_by (state_at (state_at seed (3 * i)) 2)
    (i + 1 + 1)
    ∷ literal_by (state_at (state_at seed (3 * i)) 3) (i + 1 + 2) ∷ [] ≡ (generated_clause seed i).literals
three_are seed i =
    let first : suc (3 * i) ≡ 3 * i + 1 = omega arith in
    let second : suc (suc (3 * i)) ≡ 3 * i + 2 = omega arith in
    let third : suc (suc (suc (3 * i))) ≡ 3 * i + 3 = omega arith in
    let two : i + 1 + 1 ≡ i + 2 = omega arith in
    let three : i + 1 + 2 ≡ i + 3 = omega arith in
    ap (λ n. literal_by (state_at seed n) (i + 1) ∷ literal_by (state_at seed (suc (suc (3 * i)))) (i + 1 + 1)
    ∷ literal_by (state_at seed (suc (suc (suc (3 * i))))) (i + 1 + 2) ∷ []) first
    ∙ ap (λ n. literal_by (state_at seed (3 * i + 1)) (i + 1) ∷ literal_by (state_at seed n) (i + 1 + 1)
    ∷ literal_by (state_at seed (suc (suc (suc (3 * i))))) (i + 1 + 2) ∷ []) second
    ∙ ap (λ n. literal_by (state_at seed (3 * i + 1)) (i + 1) ∷ literal_by (state_at seed (3 * i + 2)) (i + 1 + 1)
    ∷ literal_by (state_at seed n) (i + 1 + 2) ∷ []) third
    ∙ ap (λ n. literal_by (state_at seed (3 * i + 1)) (i + 1) ∷ literal_by (state_at seed (3 * i + 2)) n
    ∷ literal_by (state_at seed (3 * i + 3)) (i + 1 + 2) ∷ []) two
    ∙ ap (λ n. literal_by (state_at seed (3 * i + 1)) (i + 1) ∷ literal_by (state_at seed (3 * i + 2)) (i + 2)
    ∷ literal_by (state_at seed (3 * i + 3)) n ∷ []) three

-- the clause of a number is put behind those before it
pub clause_more : (seed i s : ℕ) (old new : Parts) → s ≡ state_at seed (3 * i) → old ≡ clauses_put seed i
    → new ≡ put_three old s (i + 1) → new ≡ clauses_put seed (i + 1)
clause_more seed i s old new state before after =
    let next : suc i ≡ i + 1 = omega arith in
    after ∙ ap (λ p. put_three p s (i + 1)) before ∙ ap (λ x. put_three (clauses_put seed i) x (i + 1)) state
    ∙ ap (λ clause. put_clause clause) (three_are seed i) ∙ ap (clauses_put seed) next
  where
    put_clause : List ℤ → Parts
    put_clause clause = record {
      closed = generated_clauses seed i ++ record { exclusive = false; literals = clause } ∷ [];
      open_part = no_group;
    }

-- and so is the state
pub state_more : (seed i s t : ℕ) → s ≡ state_at seed (3 * i) → t ≡ state_at s 3 → t ≡ state_at seed (3 * (i + 1))
state_more seed i s t before after =
    let third : suc (suc (suc (3 * i))) ≡ 3 * (i + 1) = omega arith in
    after ∙ ap (λ x. state_at x 3) before ∙ ap (state_at seed) third

-- ---- in range

-- the variable of a literal
variable_is : (x j : ℕ) → unsigned_abs (literal_by x j) ≡ j
variable_is x j = go (nat_lt x 2147483648) j
  where
    go : (low : Bool) (k : ℕ) → unsigned_abs (if low then pos k else neg_ℤ (pos k)) ≡ k
    go true k = refl
    go false zero = refl
    go false (suc k) = refl

literal_fits : (v x j : ℕ) → 1 ≤ j → j ≤ v → IsLiteral v (literal_by x j)
literal_fits v x j low high = record {
  low = omega (arith, variable_is x j, low);
  high = omega (arith, variable_is x j, high);
}

-- the literals of the clauses are of the variables
clauses_fit : (seed v n : ℕ) → n + 2 ≤ v → AllByRecursion (IsGroup Cnf v) (generated_clauses seed n)
clauses_fit seed v zero h = tt
clauses_fit seed v (suc n) h =
    let clause : IsGroup Cnf v (generated_clause seed n) = record {
      mark = tt;
      literals = (
        literal_fits v (state_at seed (3 * n + 1)) (n + 1) (omega arith) (omega arith),
        (
          literal_fits v (state_at seed (3 * n + 2)) (n + 2) (omega arith) (omega arith),
          (literal_fits v (state_at seed (3 * n + 3)) (n + 3) (omega arith) (omega arith), tt),
        ),
      );
    } in
    all_push (IsGroup Cnf v) (generated_clauses seed n) (generated_clause seed n)
    (clauses_fit seed v n (omega arith)) clause

-- the numbers from one on, with one more
range_more : (a n j : ℕ) → a + n ≡ j → range_with_len a (suc n) ≡ range_with_len a n ++ j ∷ []
range_more a zero j e = let same : a ≡ j = omega arith in ap (λ k. k ∷ []) same
range_more a (suc n) j e = ap (λ l. a ∷ l) (range_more (a + 1) n j (omega arith))

-- the clauses so far, said by their numbers
pub generated_are : (seed n : ℕ) → map (generated_clause seed) (range_with_len 0 n) ≡ generated_clauses seed n
generated_are seed zero = refl
generated_are seed (suc n) =
    ap (map (generated_clause seed)) (range_more 0 n n (omega arith))
    ∙ map-append (generated_clause seed) (range_with_len 0 n) (n ∷ [])
    ∙ ap (λ clauses. clauses ++ generated_clause seed n ∷ []) (generated_are seed n)

clauses_count : (seed n : ℕ) → length (generated_clauses seed n) ≡ n
clauses_count seed zero = refl
clauses_count seed (suc n) =
    let shorter = clauses_count seed n in
    omega (arith, length-append (generated_clauses seed n) (generated_clause seed n ∷ []), shorter)

-- what was put is a formula
pub is_formula : (count seed : ℕ) (ends : List End) (literals : List ℤ) (marked : Bool) → IsGenerable count seed
    → parts_of ends literals marked ≡ clauses_put seed (count - 2) → IsFormula (groups_between Cnf count ends literals)
is_formula count seed ends literals marked range is =
    let groups : cut 0 ends literals ≡ generated_clauses seed (count - 2) = ap (λ p. p.closed) is in
    record {
      at_least_one = omega (arith, range.at_least_three);
      within_limit = range.within_limit;
      count = omega (arith, ap length groups, clauses_count seed (count - 2), range.within_limit);
      groups = subst (AllByRecursion (IsGroup Cnf count)) (sym groups)
          (clauses_fit seed count (count - 2) (omega (arith, range.at_least_three)));
    }
