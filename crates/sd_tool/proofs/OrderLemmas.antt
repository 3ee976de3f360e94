-- What is to be done without a script: the opening with the lines behind it is the stated script, and each line can be
-- done behind those before it.
use Rattle.std.proofs.Common.{◌≡◌, ℕ, zero, suc, ◌+◌, ◌≤◌, Bool, true, false, List, [], ◌∷◌, ◌++◌, length}
use Rattle.std.proofs.Common.{map, drop, filter, Option, Some, None, refl, sym, ap, subst, ◌∙◌, arith, append_assoc}
use Rattle.std.specs.Prelude.{◌==◌, ◌&&◌, ◌||◌, nat_le, if◌then◌else◌}
use Rattle.std.specs.List.{list_all, range_with_len}
use Rattle.std.specs.Option.{option_map_or, option_to_list}
use Rattle.std.proofs.lemmas.List.{length-append, length-map}
use Rattle.std.proofs.lemmas.Bool.{and_parts, le-leb, lt-ltb}
use Rattle.sd_words.specs.declared.jobs.Job.{Job}
use Rattle.sd_commands.specs.Fits.{AllFit, has}
use Rattle.sd_commands.specs.declared.command.NumberedCommand.{NumberedCommand}
use Rattle.sd_commands.specs.declared.command.RunCommand.{RunCommand}
use Rattle.sd_commands.specs.declared.command.RunCommand.TheVariants as commands
use Rattle.sd_tool.specs.Readings.{binding, choice, default_of, first_names}
use Rattle.sd_words.specs.Fitting.{FitsTogether, IsFormulaWord}
use Rattle.sd_tool.specs.Orders.{opening_for, opened_lines}
use Rattle.sd_tool.specs.PlanViews.{opening_commands, opened_names}
use Rattle.sd_tool.specs.inside.Readings.{in_lines, search_of, for_file}
use Rattle.sd_tool.proofs.LineLemmas.{length_lines, length_range, first_few}
use Rattle.sd_tool.specs.declared.plan.Opening.{Opening}
use Rattle.sd_tool.specs.declared.plan.Opening.TheVariants.{Nothing, Parts, Choice}

-- ---- by the values of the words

-- what binds the first names
abbrev binding_by : Option ℕ → ℕ → List RunCommand
binding_by parts zero = option_map_or (commands.InputByParts 0) parts (commands.Input 0) ∷ []
binding_by parts (suc o) = map (λ i. commands.Output i i) (range_with_len 0 (suc o))

-- what follows it
abbrev behind_by : List ℕ → Option ℕ → Option (List ℕ) → Option (List ℕ) → List RunCommand
behind_by names rounds tree diagram = search_of rounds ++ for_file commands.WriteVtree tree
    ++ for_file (commands.Write names) diagram ++ map commands.Size names

-- the stated script
abbrev stated_by : Option ℕ → Option ℕ → Option (List ℕ) → Option (List ℕ) → ℕ → List NumberedCommand
stated_by parts rounds tree diagram o = in_lines 1 (binding_by parts o ++ search_of rounds
    ++ for_file commands.WriteVtree tree ++ for_file (commands.Write (first_names o)) diagram
    ++ map commands.Size (first_names o))

-- what workers do
abbrev opening_by : Bool → Option ℕ → Option ℕ → Opening
opening_by chosen parts rounds = if chosen then Choice rounds else option_map_or Parts parts Nothing

-- the line of a choice
abbrev choice_by : Bool → Option ℕ → List NumberedCommand
choice_by chosen rounds = if chosen then record { line = 1; command = commands.Choose rounds } ∷ [] else []

-- a choice or parts are for a formula, and not for both
record AreApart (chosen : Bool) (parts : Option ℕ) (o : ℕ) : Type 0 where
  whole : chosen ≡ true → parts ≡ None
  formula : chosen ≡ true → o ≡ 0
  in_parts : (k : ℕ) → parts ≡ Some k → o ≡ 0

apart : (job : Job) (o : ℕ) → FitsTogether job → (IsFormulaWord job.input → o ≡ 0) → AreApart job.portfolio job.parts o
apart job o is none = record {
  whole = λ e. (is.chosen e).parts;
  formula = λ e. none (is.chosen e).formula;
  in_parts = λ k e. none (is.parts k e).formula;
}

-- ---- the opening and the lines behind it are all lines

opened_by : (chosen : Bool) (parts rounds : Option ℕ) (tree diagram : Option (List ℕ)) (o : ℕ)
    → AreApart chosen parts o
    → opening_commands (opening_by chosen parts rounds)
    ++ drop (opened_lines (opening_by chosen parts rounds)) (stated_by parts rounds tree diagram o)
    ≡ choice_by chosen rounds ++ stated_by parts rounds tree diagram o
opened_by true None None tree diagram zero are = refl
opened_by true None (Some r) tree diagram zero are = refl
opened_by true None rounds tree diagram (suc o) are = let bad : ⊥ = let e = are.formula refl in cc in absurd bad
opened_by true (Some k) rounds tree diagram o are = let bad : ⊥ = let e = are.whole refl in cc in absurd bad
opened_by false None rounds tree diagram o are = refl
opened_by false (Some k) rounds tree diagram zero are = refl
opened_by false (Some k) rounds tree diagram (suc o) are =
    let bad : ⊥ = let e = are.in_parts k refl in cc in absurd bad

pub opened : (job : Job) (o : ℕ) (all : List NumberedCommand) → FitsTogether job → (IsFormulaWord job.input → o ≡ 0)
    → all ≡ default_of job o
    → opening_commands (opening_for job) ++ drop (opened_lines (opening_for job)) all ≡ choice job ++ default_of job o
opened job o all is none are =
    ap (λ (l : List NumberedCommand). opening_commands (opening_for job) ++ drop (opened_lines (opening_for job)) l) are
    ∙ opened_by job.portfolio job.parts job.minimise job.out_vtree job.out_sdd o (apart job o is none)

-- there are as many lines
opened_few : (chosen : Bool) (parts rounds : Option ℕ) (tree diagram : Option (List ℕ)) (o : ℕ)
    → AreApart chosen parts o
    → opened_lines (opening_by chosen parts rounds) ≤ length (stated_by parts rounds tree diagram o)
opened_few true None None tree diagram zero are = omega arith
opened_few true None (Some r) tree diagram zero are = omega arith
opened_few true None rounds tree diagram (suc o) are = let bad : ⊥ = let e = are.formula refl in cc in absurd bad
opened_few true (Some k) rounds tree diagram o are = let bad : ⊥ = let e = are.whole refl in cc in absurd bad
opened_few false None rounds tree diagram o are = omega arith
opened_few false (Some k) rounds tree diagram zero are = omega arith
opened_few false (Some k) rounds tree diagram (suc o) are =
    let bad : ⊥ = let e = are.in_parts k refl in cc in absurd bad

pub opened_within : (job : Job) (o : ℕ) (all : List NumberedCommand) → FitsTogether job
    → (IsFormulaWord job.input → o ≡ 0) → all ≡ default_of job o → opened_lines (opening_for job) ≤ length all
opened_within job o all is none are =
    subst (λ (l : List NumberedCommand). opened_lines (opening_for job) ≤ length l) (sym are)
    (opened_few job.portfolio job.parts job.minimise job.out_vtree job.out_sdd o (apart job o is none))

-- ---- the lines can be done

-- a command that binds and frees nothing leaves the names
all_stay : (names : List ℕ) → filter (λ n. true) names ≡ names
all_stay [] = refl
all_stay (n ∷ names) = ap (λ (ns : List ℕ). n ∷ ns) (all_stay names)

-- the sizes of bound names
sizes_fit : (v o line : ℕ) (bound names : List ℕ) → list_all (has bound) names ≡ true
    → AllFit v o bound (in_lines line (map commands.Size names))
sizes_fit v o line bound [] all = tt
sizes_fit v o line bound (n ∷ names) all =
    let both = and_parts (has bound n) (list_all (has bound) names) all in (
      record { used_bound = ap (λ (b : Bool). b && true) both.0; free = refl; ranges = refl },
      subst (λ (ns : List ℕ). AllFit v o ns (in_lines (line + 1) (map commands.Size names))) (sym (all_stay bound))
          (sizes_fit v o (line + 1) bound names both.1),
    )

-- one more command that binds and frees nothing
more_fits : (v o : ℕ) (bound : List ℕ) (rest : List NumberedCommand) → AllFit v o bound rest
    → AllFit v o (filter (λ n. true) bound) rest
more_fits v o bound rest fit = subst (λ (ns : List ℕ). AllFit v o ns rest) (sym (all_stay bound)) fit

-- the diagrams are written before
diagrams_fit : (v o line : ℕ) (bound names : List ℕ) (diagram : Option (List ℕ))
    → list_all (has bound) names ≡ true → nat_le 1 (length names) ≡ true
    → AllFit v o bound (in_lines line (behind_by names None None diagram))
diagrams_fit v o line bound names None all some = sizes_fit v o line bound names all
diagrams_fit v o line bound names (Some d) all some = (
  record { used_bound = all; free = refl; ranges = some },
  more_fits v o bound _ (sizes_fit v o (line + 1) bound names all),
)

-- and the vtree before them
trees_fit : (v o line : ℕ) (bound names : List ℕ) (tree diagram : Option (List ℕ))
    → list_all (has bound) names ≡ true → nat_le 1 (length names) ≡ true
    → AllFit v o bound (in_lines line (behind_by names None tree diagram))
trees_fit v o line bound names None diagram all some = diagrams_fit v o line bound names diagram all some
trees_fit v o line bound names (Some t) diagram all some = (
  record { used_bound = refl; free = refl; ranges = refl },
  more_fits v o bound _ (diagrams_fit v o (line + 1) bound names diagram all some),
)

-- the lines behind those that bind the names
behind_fit : (v o line : ℕ) (bound names : List ℕ) (rounds : Option ℕ) (tree diagram : Option (List ℕ))
    → list_all (has bound) names ≡ true → nat_le 1 (length names) ≡ true
    → AllFit v o bound (in_lines line (behind_by names rounds tree diagram))
behind_fit v o line bound names None tree diagram all some = trees_fit v o line bound names tree diagram all some
behind_fit v o line bound names (Some r) tree diagram all some = (
  record { used_bound = refl; free = refl; ranges = refl },
  more_fits v o bound _ (trees_fit v o (line + 1) bound names tree diagram all some),
)

-- the names that are bound behind the outputs from this one on
abbrev bound_from : List ℕ → ℕ → ℕ → List ℕ
bound_from bound from zero = bound
bound_from bound from (suc n) = bound_from (from ∷ bound) (from + 1) n

-- a bound name stays bound
still_bound : (bound : List ℕ) (from n i : ℕ) → has bound i ≡ true → has (bound_from bound from n) i ≡ true
still_bound bound from zero i is = is
still_bound bound from (suc n) i is = still_bound (from ∷ bound) (from + 1) n i (more (from == i) is)
  where
    more : (b : Bool) → has bound i ≡ true → (b || has bound i) ≡ true
    more true is = refl
    more false is = is

-- so all outputs are
are_bound : (bound : List ℕ) (from n : ℕ) → list_all (has (bound_from bound from n)) (range_with_len from n) ≡ true
are_bound bound from zero = refl
are_bound bound from (suc n) =
    let first = still_bound (from ∷ bound) (from + 1) n from (own from bound) in
    ap (λ (b : Bool). b && list_all (has (bound_from (from ∷ bound) (from + 1) n)) (range_with_len (from + 1) n)) first
    ∙ are_bound (from ∷ bound) (from + 1) n
  where
    own : (i : ℕ) (bound : List ℕ) → has (i ∷ bound) i ≡ true
    own i bound = grind arith

-- the outputs are bound one after another
outputs_fit : (v o line from n : ℕ) (bound : List ℕ) (rest : List RunCommand) → from + n ≤ o
    → ((i : ℕ) → from ≤ i → has bound i ≡ false)
    → ((line : ℕ) → AllFit v o (bound_from bound from n) (in_lines line rest))
    → AllFit v o bound (in_lines line (map (λ i. commands.Output i i) (range_with_len from n) ++ rest))
outputs_fit v o line from zero bound rest within free fit = fit line
outputs_fit v o line from (suc n) bound rest within free fit = (
  record {
    used_bound = refl;
    free = ap (λ (b : Bool). b || false) (free from (omega arith));
    ranges = lt-ltb from o (omega arith);
  },
  subst (λ (ns : List ℕ). AllFit v o (from ∷ ns)
      (in_lines (line + 1) (map (λ i. commands.Output i i) (range_with_len (from + 1) n) ++ rest)))
      (sym (all_stay bound))
      (outputs_fit v o (line + 1) (from + 1) n (from ∷ bound) rest (omega arith) (λ i later. later_free i later) fit),
)
  where
    later_free : (i : ℕ) → from + 1 ≤ i → has (from ∷ bound) i ≡ false
    later_free i later = let rest = free i (omega (arith, later)) in grind (arith, later, rest)

-- a list that begins so has an element
some_name : (n : ℕ) → nat_le 1 (length (range_with_len 0 (suc n))) ≡ true
some_name n = le-leb 1 (length (range_with_len 0 (suc n))) (omega arith)

-- five lists in a row
in_a_row : (a b c d e : List RunCommand) → a ++ b ++ c ++ d ++ e ≡ a ++ (b ++ c ++ d ++ e)
in_a_row a b c d e =
    ap (λ (l : List RunCommand). l ++ d ++ e) (append_assoc a b c)
    ∙ ap (λ (l : List RunCommand). l ++ e) (append_assoc a (b ++ c) d) ∙ append_assoc a (b ++ c ++ d) e

-- all lines behind the opening
stated_by_fits : (v : ℕ) (chosen : Bool) (parts rounds : Option ℕ) (tree diagram : Option (List ℕ)) (o : ℕ)
    → AreApart chosen parts o
    → AllFit v o (opened_names (opening_by chosen parts rounds))
    (drop (opened_lines (opening_by chosen parts rounds)) (stated_by parts rounds tree diagram o))
stated_by_fits v true None None tree diagram zero are =
    behind_fit v 0 2 (0 ∷ []) (0 ∷ []) None tree diagram refl refl
stated_by_fits v true None (Some r) tree diagram zero are =
    behind_fit v 0 3 (0 ∷ []) (0 ∷ []) None tree diagram refl refl
stated_by_fits v true None rounds tree diagram (suc o) are =
    let bad : ⊥ = let e = are.formula refl in cc in absurd bad
stated_by_fits v true (Some k) rounds tree diagram o are =
    let bad : ⊥ = let e = are.whole refl in cc in absurd bad
stated_by_fits v false None rounds tree diagram zero are = (
  record { used_bound = refl; free = refl; ranges = refl },
  behind_fit v 0 2 (0 ∷ []) (0 ∷ []) rounds tree diagram refl refl,
)
stated_by_fits v false None rounds tree diagram (suc o) are =
    let names = range_with_len 0 (suc o) in
    let outputs = map (λ i. commands.Output i i) names in
    subst (λ (cs : List RunCommand). AllFit v (suc o) [] (in_lines 1 cs))
    (sym (in_a_row outputs (search_of rounds) (for_file commands.WriteVtree tree)
    (for_file (commands.Write names) diagram) (map commands.Size names)))
    (outputs_fit v (suc o) 1 0 (suc o) [] (behind_by names rounds tree diagram) (omega arith) (λ i later. refl)
    (λ line. behind_fit v (suc o) line (bound_from [] 0 (suc o)) names rounds tree diagram (are_bound [] 0 (suc o))
    (some_name o)))
stated_by_fits v false (Some k) rounds tree diagram zero are =
    behind_fit v 0 2 (0 ∷ []) (0 ∷ []) rounds tree diagram refl refl
stated_by_fits v false (Some k) rounds tree diagram (suc o) are =
    let bad : ⊥ = let e = are.in_parts k refl in cc in absurd bad

pub stated_fits : (v : ℕ) (job : Job) (o : ℕ) (all : List NumberedCommand) → FitsTogether job
    → (IsFormulaWord job.input → o ≡ 0) → all ≡ default_of job o
    → AllFit v o (opened_names (opening_for job)) (drop (opened_lines (opening_for job)) all)
stated_fits v job o all is none are =
    subst (λ (l : List NumberedCommand). AllFit v o (opened_names (opening_for job))
    (drop (opened_lines (opening_for job)) l)) (sym are)
    (stated_by_fits v job.portfolio job.parts job.minimise job.out_vtree job.out_sdd o (apart job o is none))

-- ---- there are few lines

few_of : {A : Type 0} (f : A → RunCommand) (x : Option A) → length (map f (option_to_list x)) ≤ 1
few_of f None = omega arith
few_of f (Some x) = omega arith

few_binding : (job : Job) (o : ℕ) → o ≤ 1024 → length (binding job o) ≤ 1024
few_binding job zero few = omega arith
few_binding job (suc o) few = omega (
  arith,
  length-map (range_with_len 0 (suc o)) (λ i. commands.Output i i),
  length_range 0 (suc o),
  few,
)

pub stated_few : (job : Job) (o : ℕ) (all : List NumberedCommand) → o ≤ 1024 → all ≡ default_of job o
    → length all ≤ 100000
stated_few job o all few are =
    let names = first_names o in
    let a = binding job o in
    let b = search_of job.minimise in
    let c = for_file commands.WriteVtree job.out_vtree in
    let d = for_file (commands.Write names) job.out_sdd in
    let e = map commands.Size names in
    omega (
      arith,
      ap length are,
      length_lines 1 (a ++ b ++ c ++ d ++ e),
      length-append (a ++ b ++ c ++ d) e,
      length-append (a ++ b ++ c) d,
      length-append (a ++ b) c,
      length-append a b,
      few_binding job o few,
      few_of commands.Minimise job.minimise,
      few_of commands.WriteVtree job.out_vtree,
      few_of (commands.Write names) job.out_sdd,
      length-map names commands.Size,
      first_few o few,
    )
