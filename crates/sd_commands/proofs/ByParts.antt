-- An input that is bound by parts: the manager of the part that was refused, and what the join comes to.
use Rattle.std.proofs.Common.{◌≡◌, ℕ, ◌+◌, ◌≤◌, List, [], ◌∷◌, length, map, Option, Some, None, Result, Ok, Err}
use Rattle.std.proofs.Common.{refl, sym, ap, subst, ◌∙◌}
use Rattle.std.specs.List.{AllZip, range_with_len}
use Rattle.std.specs.FinMap.{FinMap, get, get-empty, empty}
use Rattle.std.specs.Option.{IsSome}
use Rattle.std.specs.Ordering.{nat_cmp}
use Rattle.std.proofs.lemmas.List.FromFn.{length-map-range_with_len}
use Rattle.std.proofs.lemmas.Option.{none-some}
use Rattle.std.proofs.lemmas.Slice.Zip.{AllZip-long}
use Rattle.sd_model.specs.Tree.{Tree}
use Rattle.sd_model.specs.Expression.{Expression}
use Rattle.sd_formula.specs.Dimacs.{Groups}
use Rattle.sd_formula.specs.Formulas.{expression_of}
use Rattle.sd_vtree.specs.Numbered.{plain_tree, IsNumbered}
use Rattle.sd_manager.specs.Table.{Table}
use Rattle.sd_manager.specs.Making.{IsPastBound}
use Rattle.sd_compile.specs.Total.{AreHeldFormulas}
use Rattle.sd_compile.specs.declared.error.CompileError.{CompileError}
use Rattle.sd_compile.specs.declared.error.CompileError.TheVariants as compiling
use Rattle.sd_records.specs.Records.{FlatDiagram}
use Rattle.sd_parts.specs.Parts.{PartsOutcome, Joined, Passed, IsPartsOutcome}
use Rattle.sd_parts.specs.Seen.{PartWork}
use Rattle.sd_parts.specs.Work.{AnswersPart, IsPartOutcome, IsPassedByParts, KeepsArenaRule, part_work, parts_of}
use Rattle.sd_parts.specs.Work.{first_refusal, refusal_or}
use Rattle.sd_parts.specs.declared.part.PartAnswer.{PartAnswer}
use Rattle.sd_commands.specs.Commands.{State, Done, OverLimit, Step, formulas_of, with_name}
use Rattle.sd_commands.specs.Standing.{Represents, HoldsNames, StopsAt, error_of_compiling}
use Rattle.sd_commands.specs.Opening.{IsHandedBack, IsStoppedByParts}
use Rattle.sd_commands.specs.Joining.{AreWholeAnswers, IsJoinStopped}
use Rattle.sd_commands.specs.Joining.{PassesAt, manager_or, refusing_manager}
use Rattle.sd_commands.specs.declared.command.RunCommand.{RunCommand}
use Rattle.sd_commands.specs.declared.command.RunCommand.TheVariants as commands
use Rattle.sd_commands.specs.declared.error.CommandError.{CommandError}
use Rattle.sd_commands.specs.declared.error.CommandError.TheVariants as errors
use Rattle.sd_commands.specs.declared.state.RunState.{RunState}
use Rattle.sd_commands.proofs.Limits.{held_formulas}

-- ---- the answers

-- the answers of all parts, whose arenas have the whole bound
pub whole_answers : (input : Groups) (code : RunState) (t : Tree) (k : ℕ) (works : List PartWork)
    (answers : List PartAnswer) → 1 ≤ k → k ≤ 64 → works ≡ parts_of input t code.limit 2147483647 k
    → t ≡ plain_tree code.manager.vtree → AllZip AnswersPart works answers
    → AreWholeAnswers input code answers × (length answers ≡ k)
whole_answers input code t k works answers least most is same h =
    let fits : AllZip AnswersPart (parts_of input t code.limit 2147483647 k) answers =
    subst (λ l. AllZip AnswersPart l answers) is h in
    let count : k ≡ length answers =
    sym (AllZip-long AnswersPart (parts_of input t code.limit 2147483647 k) answers fits
    ∙ length-map-range_with_len (part_work input t code.limit 2147483647 k) 0 k) in (
      record {
        at_least_one = subst (λ n. 1 ≤ n) count least;
        at_most = subst (λ n. n ≤ 64) count most;
        each =
            subst (λ n. AllZip AnswersPart (parts_of input (plain_tree code.manager.vtree) code.limit 2147483647 n)
            answers) count
            (subst (λ u. AllZip AnswersPart (parts_of input u code.limit 2147483647 k) answers) same fits);
      },
      sym count,
    )

-- ---- the manager of a part that was refused

-- its arena had the whole bound and was full, and it holds nothing over the tree
pub record IsFullPart (t : Tree) (elements : ℕ) (m : Table) : Type 0 where
  pub past : IsPastBound m elements
  pub whole : m.bound ≡ 2147483647
  pub tree : plain_tree m.vtree ≡ t
  pub roots : m.roots ≡ empty

-- the manager that goes with the first refusal
abbrev pub IsManagerOf : Tree → Option CompileError → Option Table → Type 0
IsManagerOf t None manager = manager ≡ None
IsManagerOf t (Some (compiling.OverLimit group size limit)) manager = manager ≡ None
IsManagerOf t (Some (compiling.ArenaFull elements)) manager =
    (m : Table) × (manager ≡ Some m) × IsFullPart t elements m
IsManagerOf t (Some compiling.OutOfMemory) manager = manager ≡ None

-- that of a part, or of one behind it
part_manager : (work : PartWork) (a : PartAnswer) (o : Option CompileError) (p : Option Table)
    → work.bound ≡ 2147483647 → AnswersPart work a → IsManagerOf work.tree o p
    → IsManagerOf work.tree (refusal_or a.outcome o) (manager_or a.outcome a.manager p)
part_manager work a o p whole h later = go a.outcome h.outcome
  where
    go : (r : Result FlatDiagram CompileError) → IsPartOutcome work a.manager r
        → IsManagerOf work.tree (refusal_or r o) (manager_or r a.manager p)
    go (Ok records) is = later
    go (Err (compiling.OverLimit group size limit)) is = refl
    go (Err (compiling.ArenaFull elements)) is =
        (a.manager, refl, record { past = is; whole = h.bound ∙ whole; tree = h.tree; roots = h.roots })
    go (Err compiling.OutOfMemory) is = refl

-- that of the parts from one on
managers_from : (f : Groups) (t : Tree) (limit k s : ℕ) (answers : List PartAnswer)
    → AllZip AnswersPart (map (part_work f t limit 2147483647 k) (range_with_len s (length answers))) answers
    → IsManagerOf t (first_refusal answers) (refusing_manager answers)
managers_from f t limit k s [] h = refl
managers_from f t limit k s (a ∷ answers) h =
    part_manager (part_work f t limit 2147483647 k s) a (first_refusal answers) (refusing_manager answers) refl h.0
    (managers_from f t limit k (s + 1) answers h.1)

pub manager_of_answers : (input : Groups) (code : RunState) (answers : List PartAnswer)
    → AreWholeAnswers input code answers
    → IsManagerOf (plain_tree code.manager.vtree) (first_refusal answers) (refusing_manager answers)
manager_of_answers input code answers h =
    managers_from input (plain_tree code.manager.vtree) code.limit (length answers) 0 answers h.each

-- a manager without roots holds what no names stand for
pub holds_no_names : (m : Table) → ((root : ℕ) → get m.roots root ≡ None) → HoldsNames m []
holds_no_names m none = record {
  each = λ name f is. absurd (none-some f is);
  only = λ root held.
      let bad : IsSome {T = ℕ} None = subst (λ o. IsSome o) (none root) held in
      absurd cc;
}

-- no root is there
none_there : (m : Table) → m.roots ≡ empty → (root : ℕ) → get m.roots root ≡ None
none_there m none root = ap (λ (roots : FinMap nat_cmp ℕ). get roots root) none ∙ get-empty nat_cmp root

-- the command stops with it
pub stopped_by_parts : (input : Groups) (seen : State) (name k : ℕ) (t : Tree) (own : Table) (error : CommandError)
    (refusal : Option CompileError) (manager : Option Table) → t ≡ seen.tree → IsManagerOf t refusal manager
    → IsJoinStopped input seen (commands.InputByParts name k) refusal own error
    → IsStoppedByParts input seen (commands.InputByParts name k) own error manager
stopped_by_parts input seen name k t own error None manager same is stops =
    subst (λ p. IsStoppedByParts input seen (commands.InputByParts name k) own error p) (sym is) stops
stopped_by_parts input seen name k t own error (Some (compiling.OverLimit group size limit)) manager same is stops =
    subst (λ p. IsStoppedByParts input seen (commands.InputByParts name k) own error p) (sym is)
    (subst (λ e. StopsAt input seen (commands.InputByParts name k) own e) (sym stops.0)
    (subst (λ e. PassesAt input seen (commands.InputByParts name k) e) stops.0 stops.1))
stopped_by_parts input seen name k t own error (Some (compiling.ArenaFull elements)) manager same is stops =
    subst (λ p. IsStoppedByParts input seen (commands.InputByParts name k) own error p) (sym is.1)
    (subst (λ e. IsHandedBack input seen (commands.InputByParts name k) e is.0) (sym stops.0)
    (record {
      may_fill = tt;
      filled = record { whole = is.2.whole; rule = is.2.past };
      tree = is.2.tree ∙ same;
      nothing = holds_no_names is.0 (none_there is.0 is.2.roots);
    }))
stopped_by_parts input seen name k t own error (Some compiling.OutOfMemory) manager same is stops =
    subst (λ p. IsStoppedByParts input seen (commands.InputByParts name k) own error p) (sym is)
    (subst (λ e. StopsAt input seen (commands.InputByParts name k) own e) (sym stops.0) tt)

-- so a command whose answers were not joined stops, with the manager of the part that was refused
pub by_parts_stops : (input : Groups) (code : RunState) (seen : State) (name k : ℕ) (own : Table)
    (error : CommandError) (answers : List PartAnswer) (manager : Option Table) → Represents code seen
    → AreWholeAnswers input code answers → length answers ≡ k → manager ≡ refusing_manager answers
    → IsJoinStopped input seen (commands.InputByParts name (length answers)) (first_refusal answers) own error
    → IsStoppedByParts input seen (commands.InputByParts name k) own error manager
by_parts_stops input code seen name k own error answers manager was whole count is stops =
    subst (λ p. IsStoppedByParts input seen (commands.InputByParts name k) own error p) (sym is)
    (subst (λ n. IsStoppedByParts input seen (commands.InputByParts name n) own error (refusing_manager answers)) count
    (stopped_by_parts input seen name (length answers) (plain_tree code.manager.vtree) own error
    (first_refusal answers) (refusing_manager answers) (sym was.tree) (manager_of_answers input code answers whole)
    stops))

-- ---- the join

module _ (code : RunState) (seen : State) (numbered : IsNumbered code.manager.vtree) (was : Represents code seen)
    (input : Groups) (name k : ℕ) where
  -- the outcome beside what the roots hold is that beside the formulas of the names
  of_formulas : (o : PartsOutcome)
      → IsPartsOutcome (plain_tree code.manager.vtree) code.limit (formulas_of seen) input k o
      → IsPartsOutcome seen.tree seen.limit (formulas_of seen) input k o
  of_formulas o h =
      subst (λ t. IsPartsOutcome t seen.limit (formulas_of seen) input k o) (sym was.tree)
      (subst (λ l. IsPartsOutcome (plain_tree code.manager.vtree) l (formulas_of seen) input k o) (sym was.limit) h)

  -- all parts are joined
  pub parts_bound : ((all : List Expression) → AreHeldFormulas code.manager all
      → IsPartsOutcome (plain_tree code.manager.vtree) code.limit all input k Joined)
      → Step input seen (commands.InputByParts name k) (Done (with_name seen name (expression_of input)) [])
  parts_bound joined =
      (Joined, of_formulas Joined (joined (formulas_of seen) (held_formulas code seen numbered was)), refl)

  -- or the limit is passed at a group
  parts_passed : (e : CompileError) → ((all : List Expression) → AreHeldFormulas code.manager all
      → IsPassedByParts (plain_tree code.manager.vtree) code.limit all input k e)
      → PassesAt input seen (commands.InputByParts name k) (error_of_compiling e)
  parts_passed (compiling.OverLimit group size limit) passed =
      let h = passed (formulas_of seen) (held_formulas code seen numbered was) in (
        Passed group size,
        of_formulas (Passed group size) h.0,
        ap (λ l. OverLimit (Some group) size l) (h.1 ∙ sym was.limit),
      )
  parts_passed (compiling.ArenaFull elements) passed = tt
  parts_passed compiling.OutOfMemory passed = tt

  -- with no refusal among the parts, the command stops at the join
  join_stops_at : (own : Table) (e : CompileError) → own.bound ≡ 2147483647 → KeepsArenaRule own e
      → PassesAt input seen (commands.InputByParts name k) (error_of_compiling e)
      → StopsAt input seen (commands.InputByParts name k) own (error_of_compiling e)
  join_stops_at own (compiling.OverLimit group size limit) bound rule passes = passes
  join_stops_at own (compiling.ArenaFull elements) bound rule passes = (tt, record { whole = bound; rule = rule })
  join_stops_at own compiling.OutOfMemory bound rule passes = tt

  -- the answers are not joined
  pub join_stops : (own : Table) (e : CompileError) (refusal : Option CompileError) → own.bound ≡ 2147483647
      → ((all : List Expression) → AreHeldFormulas code.manager all
      → IsPassedByParts (plain_tree code.manager.vtree) code.limit all input k e)
      → ((r : CompileError) → refusal ≡ Some r → e ≡ r) → (refusal ≡ None → KeepsArenaRule own e)
      → IsJoinStopped input seen (commands.InputByParts name k) refusal own (error_of_compiling e)
  join_stops own e None bound passed same full = join_stops_at own e bound (full refl) (parts_passed e passed)
  join_stops own e (Some r) bound passed same full = (ap error_of_compiling (same r refl), parts_passed e passed)

-- or there is no memory for the name
pub name_stops : (input : Groups) (seen : State) (command : RunCommand) (own : Table) (refusal : Option CompileError)
    → ((r : CompileError) → refusal ≡ Some r → ⊥) → IsJoinStopped input seen command refusal own errors.OutOfMemory
name_stops input seen command own None none = tt
name_stops input seen command own (Some r) none = absurd (none r refl)
