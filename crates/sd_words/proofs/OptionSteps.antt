-- One word of an ordinary setting: what `clap` holds after it, and that it finds no fault in it.
--
-- A lemma is one computation at every option, so it has a line for one of them and one for all others.
use Rattle.std.proofs.Common.{◌≡◌, ◌∙◌, Bool, ap, sym, refl, true, false, true≢false, codes}
use Rattle.std.proofs.Common.{List, [], ◌∷◌, ◌++◌, Option, Some, None, option_map}
use Rattle.std.specs.Prelude.{if◌then◌else◌, not}
use Rattle.std.specs.Str.{bytes_eq}
use Rattle.clap.specs.Walk.{option as waits_for, Held, Row, Rule, Text, Walk, at_row, has_row, more_values}
use Rattle.clap.specs.Walk.{settled_rows, walk_from, walked, with_values, without}
use Rattle.clap.specs.Faults.{settle_fault, turn_fault}
use Rattle.clap.specs.Simple.{built}
use Rattle.clap.specs.declared.parser.matches.ValueSource.TheVariants.{CommandLine}
use Rattle.clap.specs.Values.{reading_of}
use Rattle.clap.specs.declared.builder.value_parser.ValueParser.{ValueParser}
use Rattle.clap.specs.declared.builder.value_parser.ValueParser.TheVariants as value_parser
use Rattle.sd_words.specs.Command.{sddc}
use Rattle.sd_words.specs.Options.{is_flag, word_of}
use Rattle.sd_words.specs.Ordinary.{attached, can_stand_apart, dashed}
use Rattle.sd_words.specs.declared.options.OptionName.{OptionName}
use Rattle.sd_words.specs.declared.options.OptionName.TheVariants as option

-- ---- what the walk over the words holds

-- by what `clap` reads a value of an option
abbrev pub parser_of : OptionName → ValueParser
parser_of o = if is_flag (word_of o) then value_parser.Bool else value_parser.String

-- what `clap` keeps of an option that was used with a value
unfoldable pub row_of : OptionName → Text → Row
row_of o v = record {
  id = word_of o;
  values = v ∷ [];
  count = None;
  source = Some CommandLine;
  reading = reading_of (parser_of o);
}

-- the arguments of the command
abbrev pub the_rules : List Rule
the_rules = (built sddc).top.rules

-- an option whose value was met, and is still to be used
abbrev pub Left : Type 0
Left = Option (OptionName × Text)

-- the same, as `clap` holds it
abbrev pub pending : Left → Option (Text × List Text)
pending = option_map (λ p. (word_of p.0, p.1 ∷ []))

-- the rows so far, and what is still to be used
abbrev pub held : List Row → Left → Held
held rows left = record { rows = rows; pending = pending left; skip = 0 }

-- before a word
abbrev pub at : List Row → Left → Walk
at rows left = walk_from (held rows left)

-- before the value of an option
abbrev pub before_value : List Row → OptionName → Walk
before_value rows o = record (at rows None) {
  held = record { rows = rows; pending = Some (word_of o, []); skip = 0 };
  waiting = waits_for (word_of o);
}

-- the rows, once what is left is used
abbrev pub with_left : List Row → Left → List Row
with_left rows None = rows
with_left rows (Some p) = rows ++ row_of p.0 p.1 ∷ []

-- the option that is left takes a value and was not used before
abbrev pub IsFresh : Left → List Row → Type 0
IsFresh None rows = Unit {0}
IsFresh (Some p) rows = (is_flag (word_of p.0) ≡ false) × (has_row (word_of p.0) rows ≡ false)

-- ---- using a value adds one row at the end

-- a change of the row of an option that has none adds what stands for it at the end
pub at_missing : (id : Text) (change : Row → List Row) (missing rows : List Row) → has_row id rows ≡ false
    → at_row id change missing rows ≡ rows ++ missing
at_missing id change missing [] none = refl
at_missing id change missing (r ∷ rs) none = go (bytes_eq r.id id) refl (at_missing id change missing rs)
  where
    go : (b : Bool) → bytes_eq r.id id ≡ b
        → (has_row id rs ≡ false → at_row id change missing rs ≡ rs ++ missing)
        → at_row id change missing (r ∷ rs) ≡ (r ∷ rs) ++ missing
    go true e rest = let bad : true ≡ false = rw e at none in cc
    go false e rest = rw e (ap (λ xs. r ∷ xs) (rest (rw e at none)))

pub append_nil : (rows : List Row) → rows ++ [] ≡ rows
append_nil [] = refl
append_nil (r ∷ rs) = ap (λ xs. r ∷ xs) (append_nil rs)

-- an option that was not used before gets a row of its own
added : (o : OptionName) (v : Text) (rows : List Row) → has_row (word_of o) rows ≡ false
    → with_values (word_of o) (reading_of (parser_of o)) CommandLine (v ∷ []) (without (word_of o) rows)
    ≡ rows ++ row_of o v ∷ []
unfolding row_of
added o v rows none =
    let kept : without (word_of o) rows ≡ rows =
    at_missing (word_of o) (λ _. []) [] rows none ∙ append_nil rows in
    rw kept (at_missing (word_of o) (more_values CommandLine (v ∷ [])) _ rows none)

used_left : (o : OptionName) (v : Text) (rows : List Row) → has_row (word_of o) rows ≡ false
    → settled_rows the_rules (Some (word_of o, v ∷ [])) rows ≡ rows ++ row_of o v ∷ []
unfolding sddc
used_left option.Cnf v rows none = added option.Cnf v rows none
used_left o v rows none = added o v rows none

-- what is left, once used, is a row at the end
pub left_used : (rows : List Row) (left : Left) → IsFresh left rows
    → settled_rows the_rules (pending left) rows ≡ with_left rows left
left_used rows None f = refl
left_used rows (Some p) f = used_left p.0 p.1 rows f.1

left_fault : (o : OptionName) (v : Text) (rows : List Row) → is_flag (word_of o) ≡ false
    → has_row (word_of o) rows ≡ false → settle_fault the_rules false (held rows (Some (o, v))) ≡ []
unfolding sddc
left_fault option.Portfolio v rows valued none = absurd (true≢false valued)
left_fault o v rows valued none = rw none refl

-- and its use is no fault
pub left_passes : (rows : List Row) (left : Left) → IsFresh left rows
    → settle_fault the_rules false (held rows left) ≡ []
left_passes rows None f = refl
left_passes rows (Some p) f = left_fault p.0 p.1 rows f.0 f.1

-- ---- the four kinds of words

-- `--WORD=VALUE`: the value is used at once
pub step : (o : OptionName) (v : Text) (rows : List Row) (left : Left) (all : List Row)
    → is_flag (word_of o) ≡ false → settled_rows the_rules (pending left) rows ≡ all → has_row (word_of o) all ≡ false
    → walked the_rules [] (at rows left) (attached o v) ≡ at (all ++ row_of o v ∷ []) None
unfolding walked sddc
step option.Portfolio v rows left all valued is none = absurd (true≢false valued)
step o v rows left all valued is none = rw is (ap (λ (rs : List Row). at rs None) (added o v all none))

-- `--WORD`: its value is awaited
pub step_name : (o : OptionName) (rows : List Row) (left : Left) (all : List Row)
    → is_flag (word_of o) ≡ false → settled_rows the_rules (pending left) rows ≡ all
    → walked the_rules [] (at rows left) (dashed o) ≡ before_value all o
unfolding walked sddc
step_name option.Portfolio rows left all valued is = absurd (true≢false valued)
step_name o rows left all valued is = rw is refl

-- `--WORD` of a flag: it is used at once
pub step_flag : (o : OptionName) (v : Text) (rows : List Row) (left : Left) (all : List Row)
    → is_flag (word_of o) ≡ true → v ≡ codes "true" → settled_rows the_rules (pending left) rows ≡ all
    → has_row (word_of o) all ≡ false
    → walked the_rules [] (at rows left) (dashed o) ≡ at (all ++ row_of o v ∷ []) None
unfolding walked sddc
step_flag option.Portfolio v rows left all flag there is none =
    rw (there, is) (ap (λ (rs : List Row). at rs None) (added option.Portfolio (codes "true") all none))
step_flag o v rows left all flag there is none = absurd (true≢false (sym flag))

pub false_of : (b : Bool) → not b ≡ true → b ≡ false
false_of true e = sym e
false_of false e = refl

-- `VALUE`: it is used at the next word
pub step_value : (o : OptionName) (v : Text) (rows : List Row) → can_stand_apart v ≡ true
    → walked the_rules [] (before_value rows o) v ≡ at rows (Some (o, v))
unfolding walked sddc
step_value option.Cnf [] rows ok = refl
step_value option.Cnf (x ∷ xs) rows ok = rw (false_of _ ok, false_of _ ok) refl
step_value o [] rows ok = refl
step_value o (x ∷ xs) rows ok = rw (false_of _ ok, false_of _ ok) refl

-- ---- none of them is a fault

-- `--WORD=VALUE`
pub no_fault : (o : OptionName) (v : Text) (rows : List Row) (left : Left) (all : List Row)
    → is_flag (word_of o) ≡ false → settle_fault the_rules false (held rows left) ≡ []
    → settled_rows the_rules (pending left) rows ≡ all → has_row (word_of o) all ≡ false
    → turn_fault (built sddc).top [] (at rows left) (attached o v) ≡ []
unfolding sddc
no_fault option.Portfolio v rows left all valued passes is none = absurd (true≢false valued)
no_fault o v rows left all valued passes is none = rw (passes, is, none) refl

-- `--WORD`
pub no_fault_name : (o : OptionName) (rows : List Row) (left : Left)
    → is_flag (word_of o) ≡ false → settle_fault the_rules false (held rows left) ≡ []
    → turn_fault (built sddc).top [] (at rows left) (dashed o) ≡ []
unfolding sddc
no_fault_name option.Portfolio rows left valued passes = absurd (true≢false valued)
no_fault_name o rows left valued passes = rw passes refl

-- `--WORD` of a flag
pub no_fault_flag : (o : OptionName) (rows : List Row) (left : Left) (all : List Row)
    → is_flag (word_of o) ≡ true → settle_fault the_rules false (held rows left) ≡ []
    → settled_rows the_rules (pending left) rows ≡ all → has_row (word_of o) all ≡ false
    → turn_fault (built sddc).top [] (at rows left) (dashed o) ≡ []
unfolding sddc
no_fault_flag option.Portfolio rows left all flag passes is none = rw (passes, is, none) refl
no_fault_flag o rows left all flag passes is none = absurd (true≢false (sym flag))

-- `VALUE`
pub no_fault_value : (o : OptionName) (v : Text) (rows : List Row) → can_stand_apart v ≡ true
    → turn_fault (built sddc).top [] (before_value rows o) v ≡ []
unfolding sddc
no_fault_value o [] rows ok = refl
no_fault_value o (x ∷ xs) rows ok = rw (false_of _ ok, false_of _ ok) refl
