-- As many steps are enough to come back as there are and-lines: the search, as a fact on lists.
use Rattle.std.proofs.Common.{◌≡◌, ◌⊎◌, ℕ, zero, suc, ◌+◌, ◌<◌, ◌≤◌, Bool, true, false, List, [], ◌∷◌, ◌++◌, length}
use Rattle.std.proofs.Common.{not, cond, get_or, replicate, refl, sym, ◌∙◌, subst, inl, inr, arith}
use Rattle.std.proofs.Math.ListN.{set}
use Rattle.std.proofs.lemmas.List.{length-replicate, get_or-replicate, get_or_default}
use Rattle.std.proofs.lemmas.List.Folds.{sum_by-replicate}
use Rattle.std.proofs.lemmas.Bool.{cases_lt, cases_Bool, true≢false}
use Rattle.sd_model.specs.Circuit.{AndLine}
use Rattle.sd_circuit.specs.Order.{line_at, variable_of, defined_at, DefineOnce, Uses, leads_within, is_on_cycle}
use Rattle.sd_circuit.specs.Definers.{AreDefiners}
use Rattle.sd_circuit.specs.Placing.{is_marked}
use Rattle.sd_circuit.specs.Reaching.{AreReached, AddsTo, AreUsesMarked, IsReaching, Marks}
use Rattle.sd_circuit.proofs.Defined.{defined_none, defined_more}
use Rattle.sd_circuit.proofs.Paths.{leads_from, reaches_here}
use Rattle.sd_circuit.proofs.Reached.{both_marked, in_time_next, reaching_more, marked_cycle, unmarked_never}

-- a number can be marked
marking : (k : ℕ) (queue : List ℕ) (marks : List Bool)
    → (new : List ℕ) × ((marks' : List Bool) × Marks k queue new marks marks')
marking k queue marks = elim (cases_lt k (length marks)) [
  | inl inside ↦ elim (cases_Bool (is_marked marks k)) [
    | inl on ↦ (queue, (marks, inl (refl, refl, λ below. on)))
    | inr off ↦ (queue ++ k ∷ [], (set marks k true, inr (inside, off, refl, refl)))
  ]
  | inr outside ↦ (queue, (marks, inl (refl, refl, λ below. absurd (omega (arith, below, outside)))))
]

-- what an and-line uses can be marked
abbrev Marked : List AndLine → ℕ → List ℕ → List Bool → ℕ → Type 0
Marked ands source queue marks line = (new : List ℕ) × ((marks' : List Bool)
    × (AreReached ands source new marks' × AddsTo queue new marks marks' × AreUsesMarked ands marks' line))

marked : (variables : ℕ) (ands : List AndLine) (table : List ℕ) (source line : ℕ) (queue : List ℕ) (marks : List Bool)
    → DefineOnce variables ands → AreDefiners variables ands (length ands) table → line < length ands
    → AreReached ands source queue marks
    → ((used : ℕ) → used < length ands → Uses ands line used → leads_within ands (length queue) source used ≡ true)
    → Marked ands source queue marks line
marked variables ands table source line queue marks lines right inside state in_time =
    after (marking (get_or table (variable_of (line_at ands line).first) 0) queue marks)
  where
    second : (q : List ℕ) (m : List Bool)
        → Marks (get_or table (variable_of (line_at ands line).first) 0) queue q marks m
        → (new : List ℕ) × ((marks' : List Bool)
        × Marks (get_or table (variable_of (line_at ands line).second) 0) q new m marks')
        → Marked ands source queue marks line
    second q m one (new, (marks', two)) = (
      new,
      (
        marks',
        both_marked variables ands table source line queue q new marks m marks' lines right inside state
            in_time one two,
      ),
    )

    after : (q : List ℕ) × ((m : List Bool)
        × Marks (get_or table (variable_of (line_at ands line).first) 0) queue q marks m)
        → Marked ands source queue marks line
    after (q, (m, one)) = second q m one (marking (get_or table (variable_of (line_at ands line).second) 0) q m)

-- it lies on a cycle, or does not lead to itself
abbrev IsDecided : List AndLine → ℕ → Type 0
IsDecided ands k = (is_on_cycle ands k ≡ true) ⊎ ((n : ℕ) → leads_within ands n k k ≡ false)

-- where the search has come to its end
ended : (ands : List AndLine) (k next : ℕ) (queue : List ℕ) (marks : List Bool) → IsReaching ands k queue marks next
    → length queue ≤ next → k < length ands → IsDecided ands k
ended ands k next queue marks so all inside = elim (cases_Bool (is_marked marks k)) [
  | inl on ↦ inl (marked_cycle ands k queue marks so.state inside on)
  | inr off ↦ inr (unmarked_never ands k next queue marks so all inside off)
]

-- the search goes on to its end
searched : (variables : ℕ) (ands : List AndLine) (table : List ℕ) (k : ℕ) → DefineOnce variables ands
    → AreDefiners variables ands (length ands) table → k < length ands
    → (left next : ℕ) (queue : List ℕ) (marks : List Bool) → IsReaching ands k queue marks next
    → length ands ≤ next + left → IsDecided ands k
searched variables ands table k lines right inside zero next queue marks so most =
    ended ands k next queue marks so (omega (arith, so.state.counted, most)) inside
searched variables ands table k lines right inside (suc left) next queue marks so most =
    elim (cases_lt next (length queue)) [
      | inr all ↦ ended ands k next queue marks so all inside
      | inl below ↦
          let more : Marked ands k queue marks (get_or queue next 0) =
          marked variables ands table k (get_or queue next 0) queue marks lines right (so.state.inside next below)
          so.state
          (λ used _ uses. in_time_next ands k next (get_or queue next 0) queue marks so below
          (get_or_default queue next 0 _ below) used uses) in
          let further : IsReaching ands k (more.0) (more.1.0) (next + 1) =
          reaching_more ands k next (get_or queue next 0) queue more.0 marks more.1.0 so below
          (get_or_default queue next 0 _ below) more.1.1.0 more.1.1.1 more.1.1.2 in
          searched variables ands table k lines right inside left (next + 1) more.0 more.1.0 further
          (omega (arith, most))
    ]

-- nothing is marked yet
none_reached : (ands : List AndLine) (source : ℕ) → AreReached ands source [] (replicate (length ands) false)
none_reached ands source =
    record {
      size = length-replicate (length ands) false;
      counted = omega (arith, sum_by-replicate (λ m. cond (not m) 1 0) (length ands) false);
      inside = λ j below. absurd (omega arith);
      has = λ k below on.
          let off : is_marked (replicate (length ands) false) k ≡ false =
          get_or-replicate (length ands) k false false below in
          absurd (true≢false (sym on ∙ off));
      reached = λ j below. absurd (omega arith);
    }

-- each variable has its definer
table_of : (variables : ℕ) (ands : List AndLine) → DefineOnce variables ands → (below : ℕ) → below ≤ length ands
    → (table : List ℕ) × AreDefiners variables ands below table
table_of variables ands lines zero most =
    (replicate (variables + 1) (length ands), defined_none variables ands (length ands) (omega arith))
table_of variables ands lines (suc below) most =
    let old : (table : List ℕ) × AreDefiners variables ands below table =
    table_of variables ands lines below (omega (arith, most)) in
    let next : below + 1 ≡ suc below = omega arith in (
      set old.0 (defined_at ands below) below,
      subst (λ n. AreDefiners variables ands n (set old.0 (defined_at ands below) below)) next
          (defined_more variables ands below old.0 lines old.1 most),
    )

-- what leads to itself in any number of steps does so in as many as there are and-lines
pub steps_enough : (variables : ℕ) (ands : List AndLine) (k n : ℕ) → DefineOnce variables ands → k < length ands
    → leads_within ands n k k ≡ true → is_on_cycle ands k ≡ true
steps_enough variables ands k n lines inside on =
    let table : (table : List ℕ) × AreDefiners variables ands (length ands) table =
    table_of variables ands lines (length ands) (omega arith) in
    let begun : Marked ands k [] (replicate (length ands) false) k =
    marked variables ands table.0 k k [] (replicate (length ands) false) lines table.1 inside (none_reached ands k)
    (λ used _ uses. leads_from ands 0 k used used uses (reaches_here ands 0 (defined_at ands used))) in
    let first : IsReaching ands k (begun.0) (begun.1.0) 0 =
    record { state = begun.1.1.0; begun = begun.1.1.2; expanded = λ j less. absurd (omega arith) } in
    decided
    (searched variables ands table.0 k lines table.1 inside (length ands) 0 begun.0 begun.1.0 first (omega arith))
  where
    decided : IsDecided ands k → is_on_cycle ands k ≡ true
    decided (inl there) = there
    decided (inr never) = absurd (true≢false (sym on ∙ never n))
