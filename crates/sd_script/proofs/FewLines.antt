-- A script has no more commands than its text has lines, and those are at most 100,000.
use Rattle.std.proofs.Common.{◌≡◌, ℕ, ◌+◌, ◌≤◌, Bool, true, false, List, [], ◌∷◌, length, refl, subst, sym, ap}
use Rattle.std.proofs.Common.{◌∙◌, arith}
use Rattle.std.proofs.Common.{if◌then◌else◌, length-append, Ok}
use Rattle.std.proofs.lemmas.Bool.Decides.{nat_tests}
use Rattle.std.specs.Prelude.{nat_lt, ok_or, Option, Some, None, option_map}
use Rattle.sd_base.specs.Reading.{◌>>=◌}
use Rattle.sd_base.specs.Words.{lines_of, words_of}
use Rattle.sd_base.specs.Lines.{TextLine, numbered_lines_from, is_content}
use Rattle.sd_script.specs.declared.command.Command.{Command}
use Rattle.sd_script.specs.declared.fault.ScriptFault.TheVariants as faults
use Rattle.sd_script.specs.Faults.{script_fault_text}
use Rattle.sd_script.specs.declared.command.Action.{Action}
use Rattle.sd_script.specs.Forms.{Word}
use Rattle.sd_script.specs.Scripts.{Script, empty, checked, with_line, with_action, with_command, command_of}
use Rattle.sd_script.specs.Scripts.{after_line, after_lines, script_of}
use Rattle.sd_script.proofs.Allowed.{passed, gave, went_on}
use Rattle.sd_script.specs.Table.{Seen, line_command, with_seen}

-- a test of an upper bound that passed
within : (n : ℕ) → nat_lt 100000 n ≡ false → n ≤ 100000
within n h = grind (arith, nat_tests)

-- the commands of the script beside a command
abbrev commands_in : Option (Action × Script) → List Command
commands_in None = []
commands_in (Some (action, t)) = t.commands

-- the command of a line changes no other command
commands_stay : (v : ℕ) (s t : Script) (words : List Word) (action : Action)
    → command_of v s words ≡ Some (action, t) → t.commands ≡ s.commands
unfolding command_of
commands_stay v s t words action e = by (line_command v (record { names = s.names; files = s.files }) words) e
  where
    by : (o : Option (Action × Seen)) → option_map (with_seen s) o ≡ Some (action, t) → t.commands ≡ s.commands
    by None f = cc
    by (Some (a, seen)) f = sym (ap commands_in f)

-- a command line has one command
one_more : (v o : ℕ) (s t : Script) (line : TextLine) → with_line v o s line ≡ Ok t
    → length t.commands ≡ length s.commands + 1
one_more v o s t line e = by (command_of v s line.words) refl e
  where
    by : (found : Option (Action × Script)) → command_of v s line.words ≡ found
        → (ok_or found (script_fault_text (faults.BadLine line.number))
        >>= (λ (action, seen). with_action v o line.number action seen)) ≡ Ok t
        → length t.commands ≡ length s.commands + 1
    by None is f = cc
    by (Some (action, seen)) is f =
        let tested = went_on (checked v o seen.commands line.number action) _ t f in
        let c : Command = record { line = line.number; action = action } in
        let same : with_command line.number action seen ≡ t = cc (tested.2) in
        ap (λ (u : Script). length u.commands) (sym same) ∙ length-append seen.commands (c ∷ [])
        ∙ ap (λ (l : List Command). length l + 1) (commands_stay v s seen line.words action is)

-- a line has one at most
one_at_most : (v o : ℕ) (s t : Script) (line : TextLine) → after_line v o s line ≡ Ok t
    → (line.number ≤ 100000) × (length t.commands ≤ length s.commands + 1)
one_at_most v o s t line e =
    let test = passed (nat_lt 100000 line.number) (script_fault_text faults.TooManyLines) _ t e in
    (within line.number test.0, by (is_content 35 line) test.1)
  where
    by : (b : Bool) → (if b then with_line v o s line else Ok s) ≡ Ok t → length t.commands ≤ length s.commands + 1
    by true g = omega (arith, one_more v o s t line g)
    by false g =
        let same : s ≡ t = cc in
        omega (arith, ap (λ (u : Script). length u.commands) same)

-- lines from a number on
lines_few : (v o n : ℕ) (s t : Script) (lines : List (List ℕ))
    → length s.commands + 1 ≤ n → length s.commands ≤ 100000
    → after_lines v o s (numbered_lines_from n lines) ≡ Ok t → length t.commands ≤ 100000
lines_few v o n s t [] room within_limit e =
    let same : s ≡ t = cc in subst (λ (u : Script). length u.commands ≤ 100000) same within_limit
lines_few v o n s t (line ∷ lines) room within_limit e =
    let this : TextLine = record { number = n; words = words_of line } in
    let first = gave (after_line v o s this) (λ next. after_lines v o next (numbered_lines_from (n + 1) lines)) t e in
    let one = one_at_most v o s first.0 this first.1 in
    let low : n ≤ 100000 = one.0 in
    lines_few v o (n + 1) first.0 t lines (omega (arith, one.1, room)) (omega (arith, one.1, room, low)) first.2

-- the script of a text has at most 100,000 commands
pub few_commands : (v o : ℕ) (bytes : List ℕ) (t : Script) → script_of v o bytes ≡ Ok t
    → length t.commands ≤ 100000
unfolding script_of
few_commands v o bytes t e = lines_few v o 1 empty t (lines_of bytes) (omega arith) (omega arith) e
