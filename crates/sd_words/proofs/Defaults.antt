-- After the words: an option has no default of `clap`'s, and that of a flag says that it is not there.
use Rattle.std.proofs.Common.{◌≡◌, ◌∙◌, ◌||◌, Bool, ap, refl, sym, true, false, true≢false, codes}
use Rattle.std.proofs.Common.{List, [], ◌∷◌, ◌++◌, None, Some}
use Rattle.std.specs.Prelude.{◌&&◌, fold, if◌then◌else◌, not, slice_get}
use Rattle.std.specs.List.{list_all}
use Rattle.std.specs.Option.{option_and_then}
use Rattle.std.specs.Str.{bytes_eq}
use Rattle.std.proofs.lemmas.Slice.Eq.{bytes_eq-Decides}
use Rattle.clap.specs.Faults.{default_fault, defaults_fault, given_default_fault}
use Rattle.clap.specs.Kinds.{Kinds}
use Rattle.clap.specs.Walk.{Row, Rule, Text, default_rows, first_of, has_row, is_empty, reading_by, with_default}
use Rattle.clap.proofs.WalkLemmas.{both}
use Rattle.sd_words.specs.Command.{if_true, said_of}
use Rattle.sd_words.specs.Options.{is_flag}
use Rattle.sd_words.proofs.OptionSteps.{at_missing, false_of}

-- no value says nothing
pub said_none : (word : Text) → said_of word None ≡ None
said_none word = go (is_flag word)
  where
    go : (flag : Bool) → (if flag then option_and_then if_true None else None) ≡ None
    go true = refl
    go false = refl

-- no value is there
abbrev pub has_none : {X : Type 0} → List X → Bool
has_none [] = true
has_none (_ ∷ _) = false

-- the default is nothing, or not `true`
abbrev pub is_no : List Text → Bool
is_no [] = true
is_no (v ∷ vs) = not (bytes_eq v (codes "true"))

-- the default says nothing of its option
abbrev pub says_nothing : Rule → Bool
says_nothing a = has_none a.defaults || (is_flag a.id && is_no a.defaults)

-- the default is no fault
abbrev pub passes : Rule → Bool
passes a = has_none a.defaults || has_none (given_default_fault a a.defaults)

-- ---- what is said

-- a row at the end that says nothing changes no option
said_before : (word : Text) (r : Row) (rows : List Row)
    → (bytes_eq r.id word ≡ true → said_of word (slice_get r.values 0) ≡ None)
    → said_of word (first_of word (rows ++ r ∷ [])) ≡ said_of word (first_of word rows)
said_before word r [] quiet = go (bytes_eq r.id word) refl
  where
    go : (b : Bool) → bytes_eq r.id word ≡ b → said_of word (first_of word (r ∷ [])) ≡ said_of word None
    go true e = rw e (quiet e ∙ sym (said_none word))
    go false e = rw e refl
said_before word r (x ∷ xs) quiet = go (bytes_eq x.id word) refl (said_before word r xs quiet)
  where
    go : (b : Bool) → bytes_eq x.id word ≡ b
        → said_of word (first_of word (xs ++ r ∷ [])) ≡ said_of word (first_of word xs)
        → said_of word (first_of word ((x ∷ xs) ++ r ∷ [])) ≡ said_of word (first_of word (x ∷ xs))
    go true e rest = rw e refl
    go false e rest = rw e rest

-- a value of a flag that is not `true` says nothing
quiet_value : (id word v : Text) → is_flag id ≡ true → bytes_eq v (codes "true") ≡ false
    → bytes_eq id word ≡ true → said_of word (Some v) ≡ None
quiet_value id word v flag off same =
    let there : is_flag word ≡ true = ap is_flag (sym ((bytes_eq-Decides id word).0 same)) ∙ flag in
    rw (there, off) refl

-- the rows of a default
quiet_rows : (word : Text) (a : Rule) (values : List Text) (rows : List Row) → has_row a.id rows ≡ false
    → (has_none values || (is_flag a.id && is_no values)) ≡ true
    → said_of word (first_of word (default_rows a.id (reading_by a) values rows)) ≡ said_of word (first_of word rows)
quiet_rows word a [] rows none quiet = refl
quiet_rows word a (v ∷ vs) rows none quiet =
    let each = both (is_flag a.id) (not (bytes_eq v (codes "true"))) quiet in
    rw (at_missing a.id _ _ rows none)
    (said_before word _ rows (quiet_value a.id word v each.0 (false_of _ each.1)))

kept_one : (word : Text) (a : Rule) (rows : List Row) → says_nothing a ≡ true
    → said_of word (first_of word (with_default rows a)) ≡ said_of word (first_of word rows)
kept_one word a rows quiet = go (has_row a.id rows) refl
  where
    go : (b : Bool) → has_row a.id rows ≡ b
        → said_of word (first_of word (if b then rows else default_rows a.id (reading_by a) a.defaults rows))
        ≡ said_of word (first_of word rows)
    go true e = refl
    go false e = quiet_rows word a a.defaults rows e quiet

-- so the defaults change no option
pub kept_all : (word : Text) (rules : List Rule) (rows : List Row) → list_all says_nothing rules ≡ true
    → said_of word (first_of word (fold with_default rows rules)) ≡ said_of word (first_of word rows)
kept_all word [] rows quiet = refl
kept_all word (a ∷ rest) rows quiet =
    let each = both (says_nothing a) (list_all says_nothing rest) quiet in
    kept_all word rest (with_default rows a) each.1 ∙ kept_one word a rows each.0

-- ---- faults

none_either_way : (b : Bool) (kinds : Kinds) → kinds ≡ [] → (if b then [] else kinds) ≡ []
none_either_way true kinds is = refl
none_either_way false kinds is = is

fault_one : (a : Rule) (rows : List Row) → passes a ≡ true → default_fault rows a ≡ []
fault_one a rows ok = go (has_row a.id rows) a.defaults (given_default_fault a a.defaults) ok
  where
    go : (used : Bool) (values : List Text) (kinds : Kinds) → (has_none values || has_none kinds) ≡ true
        → (if used || is_empty values then [] else kinds) ≡ []
    go true values kinds ok = refl
    go false [] kinds ok = refl
    go false (v ∷ vs) [] ok = none_either_way (is_empty (v ∷ vs)) [] refl
    go false (v ∷ vs) (k ∷ ks) ok = absurd (true≢false (sym ok))

-- no default is a fault
pub fault_all : (rules : List Rule) (rows : List Row) → list_all passes rules ≡ true
    → defaults_fault rows rules ≡ []
unfolding defaults_fault
fault_all [] rows ok = refl
fault_all (a ∷ rest) rows ok =
    let each = both (passes a) (list_all passes rest) ok in
    rw (fault_one a rows each.0) (fault_all rest (with_default rows a) each.1)
