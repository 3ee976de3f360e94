-- What is read is a script: each of its commands can be done after those before it.
use Rattle.std.proofs.Common.{◌≡◌, ℕ, zero, suc, ◌<◌, ◌≤◌, Bool, true, false, not, List, []}
use Rattle.std.proofs.Common.{◌∷◌, ◌++◌, length, take, refl, ap, subst, sym, ◌∙◌, arith}
use Rattle.std.proofs.Common.{Result, Ok, Err}
use Rattle.std.specs.Prelude.{slice_get, unsigned_abs, Some}
use Rattle.std.specs.List.{list_any, list_all, AllByRecursion}
use Rattle.sd_base.specs.Reading.{◌>>=◌, ◌>>◌, fault_if}
use Rattle.sd_script.specs.declared.command.Command.{Command}
use Rattle.sd_script.specs.declared.fault.ScriptFault.TheVariants as faults
use Rattle.sd_script.specs.declared.command.Action.{Action}
use Rattle.sd_script.specs.declared.command.Action.TheVariants as actions
use Rattle.sd_script.specs.Commands.{uses, binds, writes, has, bound, written_files}
use Rattle.sd_script.specs.Faults.{script_fault_text}
use Rattle.sd_script.specs.Forms.{Word}
use Rattle.sd_script.specs.Read.{reads, in_range, IsAllowed, IsScript}
use Rattle.sd_script.specs.Scripts.{Script, empty, literals_fit, numbers_fit, formula_fits, is_within}
use Rattle.sd_script.specs.Scripts.{checked, with_command}
use Rattle.sd_script.specs.Steps.{AreBelow, Makes, lengths_fit}
use Rattle.sd_script.specs.Table.{Seen}
use Rattle.sd_script.proofs.Ascii.{and_left}

-- ---- steps of a reading that has no fault

-- a test that passed, and what follows
pub passed : {B : Type 0} (b : Bool) (e : List ℕ) (rest : Result B (List ℕ)) (x : B)
    → (fault_if b e >> rest) ≡ Ok x → (b ≡ false) × (rest ≡ Ok x)
passed true e rest x h = cc
passed false e rest x h = (refl, h)

-- a step that gave a value, and what follows
pub gave : {A B : Type 0} (r : Result A (List ℕ)) (f : A → Result B (List ℕ)) (x : B)
    → (r >>= f) ≡ Ok x → (a : A) × (r ≡ Ok a) × (f a ≡ Ok x)
gave (Ok a) f x h = (a, refl, h)
gave (Err e) f x h = cc

-- a step, and what follows
pub went_on : {A B : Type 0} (r : Result A (List ℕ)) (rest : Result B (List ℕ)) (x : B)
    → (r >> rest) ≡ Ok x → (a : A) × (r ≡ Ok a) × (rest ≡ Ok x)
went_on (Ok a) rest x h = (a, refl, h)
went_on (Err e) rest x h = cc

-- a test that did not fail
not_not : (b : Bool) → not b ≡ false → b ≡ true
not_not true h = refl
not_not false h = cc

-- what the tests of a command tell
record Passes (v o : ℕ) (earlier : List Command) (action : Action) : Type 0 where
  used_bound : list_all (has (bound earlier)) (uses action) ≡ true
  free : list_any (has (bound earlier)) (binds action) ≡ false
  literals : literals_fit v action ≡ true
  numbers : numbers_fit v o action ≡ true
  formula : formula_fits o action ≡ true
  unwritten : list_any (has (written_files earlier)) (writes action) ≡ false

-- where they found no fault
passes : (v o : ℕ) (earlier : List Command) (line : ℕ) (action : Action)
    → checked v o earlier line action ≡ Ok tt → Passes v o earlier action
passes v o earlier line action h =
    let one = passed _ (script_fault_text (faults.NameUnknown line)) _ tt h in
    let two = passed _ (script_fault_text (faults.NameTaken line)) _ tt one.1 in
    let three = passed _ (script_fault_text (faults.LiteralRange line)) _ tt two.1 in
    let four = passed _ (script_fault_text (faults.NumberRange line)) _ tt three.1 in
    let five = passed _ (script_fault_text (faults.FileTwice line)) _ tt four.1 in
    let six = passed _ (script_fault_text (faults.TooManyLoads line)) _ tt five.1 in
    let seven = passed _ (script_fault_text (faults.NoFormula line)) _ tt six.1 in
    record {
      used_bound = not_not _ one.0;
      free = two.0;
      literals = not_not _ three.0;
      numbers = not_not _ four.0;
      formula = not_not _ seven.0;
      unwritten = five.0;
    }

-- ---- one command

-- its numbers are in range
ranges : (v o : ℕ) (action : Action)
    → literals_fit v action ≡ true → numbers_fit v o action ≡ true
    → formula_fits o action ≡ true → lengths_fit v action ≡ true
    → in_range v o action ≡ true
ranges v o (actions.Input n) l m f b = f
ranges v o (actions.Output n index) l m f b = m
ranges v o (actions.Lit n literal) l m f b = and_left (is_within 1 v (unsigned_abs literal)) true l
ranges v o (actions.Given n a literal) l m f b = and_left (is_within 1 v (unsigned_abs literal)) true l
ranges v o (actions.Forget n a x) l m f b = and_left (is_within 1 v x) true l
ranges v o (actions.Turn kind q) l m f b = m
ranges v o (actions.Minimise rounds) l m f b = m
ranges v o (actions.Limit k) l m f b = m
ranges v o (actions.Value a bits) l m f b = b
ranges v o (actions.Write names file) l m f b = b
ranges v o action l m f b = refl

-- ---- a list with one more at its end

-- numbers below m are below what is no less
all_below : (m n : ℕ) (xs : List ℕ)
    → m ≤ n → AllByRecursion (λ k. k < m) xs → AllByRecursion (λ k. k < n) xs
all_below m n [] h all = tt
all_below m n (x ∷ xs) h all =
    let here : x < m = all.0 in
    (omega arith, all_below m n xs h all.1)

-- so it is of two lists together
both_below : (n : ℕ) (xs ys : List ℕ) → AreBelow n xs → AreBelow n ys → AreBelow n (xs ++ ys)
both_below n [] ys h k = k
both_below n (x ∷ xs) ys h k = (h.0, both_below n xs ys h.1 k)

-- what holds of each element and those before it
with_last : {X : Type 0} (P : List X → X → Type 0) (xs : List X) (y : X)
    → ((k : ℕ) (x : X) → slice_get xs k ≡ Some x → P (take k xs) x) → P xs y
    → (k : ℕ) (x : X) → slice_get (xs ++ y ∷ []) k ≡ Some x → P (take k (xs ++ y ∷ [])) x
with_last P [] y all last zero x h = let same : y ≡ x = cc in subst (P []) same last
with_last P [] y all last (suc k) x h = cc
with_last P (z ∷ zs) y all last zero x h = all zero x h
with_last P (z ∷ zs) y all last (suc k) x h =
    with_last (λ us w. P (z ∷ us) w) zs y (λ j w g. all (suc j) w g) last k x h

-- ---- one more command

-- a command that can be done can be done where there are more names and files
still_allowed : (v o : ℕ) (s t : Script) (earlier : List Command) (c : Command)
    → length s.names ≤ length t.names → length s.files ≤ length t.files
    → IsAllowed v o s earlier c → IsAllowed v o t earlier c
still_allowed v o s t earlier c names files h = record {
  names = all_below (length s.names) (length t.names) _ names h.names;
  files = all_below (length s.files) (length t.files) _ files h.files;
  used_bound = h.used_bound;
  free = h.free;
  unwritten = h.unwritten;
  ranges = h.ranges;
}

-- a command that passes its tests can be done
allowed : (v o : ℕ) (s : Script) (before after : Seen) (line : ℕ) (action : Action)
    → after.names ≡ s.names → after.files ≡ s.files → Makes v before after action
    → Passes v o s.commands action → IsAllowed v o s s.commands (record { line = line; action = action })
allowed v o s before after line action names files made h = record {
  names = subst (λ (l : List Word). AreBelow (length l) (binds action ++ uses action)) names
      (both_below (length after.names) (binds action) (uses action) made.binds made.uses);
  files = subst (λ (l : List Word). AreBelow (length l) (reads action ++ writes action)) files
      (both_below (length after.files) (reads action) (writes action) made.reads made.writes);
  used_bound = h.used_bound;
  free = h.free;
  unwritten = h.unwritten;
  ranges = ranges v o action h.literals h.numbers h.formula made.lengths;
}

-- a script with one more command
pub more : (v o : ℕ) (s t : Script) (line : ℕ) (action : Action)
    → t.commands ≡ s.commands
    → Makes v (record { names = s.names; files = s.files }) (record { names = t.names; files = t.files }) action
    → checked v o t.commands line action ≡ Ok tt → IsScript v o s → IsScript v o (with_command line action t)
more v o s t line action same made tested h =
    let c : Command = record { line = line; action = action } in
    let u : Script = with_command line action t in
    record {
      allowed =
          with_last (IsAllowed v o u) t.commands c
          (λ k d g. still_allowed v o s u (take k t.commands) d made.names made.files
          (subst (λ (l : List Command). IsAllowed v o s (take k l) d) (sym same)
          (h.allowed k d (ap (λ (l : List Command). slice_get l k) (sym same) ∙ g))))
          (still_allowed v o t u t.commands c (omega arith) (omega arith)
          (allowed v o t _ (record { names = t.names; files = t.files }) line action refl refl made
          (passes v o t.commands line action tested)));
    }

-- a script without a command
pub no_commands : (v o : ℕ) → IsScript v o empty
no_commands v o = record { allowed = λ k c h. cc }
