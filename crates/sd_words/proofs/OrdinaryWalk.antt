-- The words of ordinary settings, one setting after another: each adds one row, and none is a fault.
use Rattle.std.proofs.Common.{◌≡◌, ◌∙◌, ◌||◌, Bool, ap, sym, refl, true, false, append_assoc, codes}
use Rattle.std.proofs.Common.{List, [], ◌∷◌, ◌++◌, map, Some, None}
use Rattle.std.specs.Prelude.{fold, if◌then◌else◌, not}
use Rattle.std.specs.List.{list_all}
use Rattle.std.specs.Str.{bytes_eq}
use Rattle.std.proofs.lemmas.Slice.Eq.{bytes_eq-Decides}
use Rattle.clap.specs.Walk.{Row, Text, Walk, has_row, walked}
use Rattle.clap.specs.Faults.{walk_fault}
use Rattle.clap.specs.Simple.{built}
use Rattle.clap.proofs.WalkLemmas.{both}
use Rattle.sd_words.specs.Command.{sddc}
use Rattle.sd_words.specs.Options.{is_flag, word_of}
use Rattle.sd_words.specs.Ordinary.{Setting, attached, can_stand_apart, dashed, has_each_once, is_spelled, sets}
use Rattle.sd_words.specs.Ordinary.{words_of_settings, words_of_setting}
use Rattle.sd_words.specs.declared.options.OptionName.{OptionName}
use Rattle.sd_words.proofs.OptionSteps.{IsFresh, Left, append_nil, at, false_of, left_passes, left_used}
use Rattle.sd_words.proofs.OptionSteps.{no_fault, no_fault_flag, no_fault_name, no_fault_value, row_of}
use Rattle.sd_words.proofs.OptionSteps.{step, step_flag, step_name, step_value, the_rules, with_left}

-- ---- one setting

-- a flag is used at its word, and a value in the word of its option too
used_at_once : Setting → Bool
used_at_once s = is_flag (word_of s.option) || s.is_attached

-- the rows after a setting: of a value in a word of its own the use is still to come
next_rows : Bool → List Row → OptionName → Text → List Row
next_rows true all o v = all ++ row_of o v ∷ []
next_rows false all o v = all

-- what is left after it
next_left : Bool → OptionName → Text → Left
next_left true o v = None
next_left false o v = Some (o, v)

-- either way the setting has its row in the end
next_whole : (b : Bool) (all : List Row) (o : OptionName) (v : Text)
    → with_left (next_rows b all o v) (next_left b o v) ≡ all ++ row_of o v ∷ []
unfolding next_rows next_left
next_whole true all o v = refl
next_whole false all o v = refl

next_fresh : (s : Setting) (all : List Row) → has_row (word_of s.option) all ≡ false
    → IsFresh (next_left (used_at_once s) s.option s.value) (next_rows (used_at_once s) all s.option s.value)
unfolding next_rows next_left used_at_once
next_fresh s all none = go (is_flag (word_of s.option)) s.is_attached refl
  where
    go : (flag b : Bool) → is_flag (word_of s.option) ≡ flag
        → IsFresh (next_left (flag || b) s.option s.value) (next_rows (flag || b) all s.option s.value)
    go true b is = tt
    go false true is = tt
    go false false is = (is, none)

-- the walk over words
abbrev pub run : Walk → List Text → Walk
run w words = fold (walked the_rules []) w words

-- a setting is walked in one word or in two
setting_walked : (s : Setting) (rest : List Text) (rows : List Row) (left : Left)
    → IsFresh left rows → has_row (word_of s.option) (with_left rows left) ≡ false → is_spelled s ≡ true
    → run (at rows left) (words_of_setting s.option s.value s.is_attached rest)
    ≡ run (at (next_rows (used_at_once s) (with_left rows left) s.option s.value)
    (next_left (used_at_once s) s.option s.value)) rest
unfolding next_rows next_left used_at_once
setting_walked s rest rows left fresh none ok = go (is_flag (word_of s.option)) s.is_attached refl ok
  where
    go : (flag b : Bool) → is_flag (word_of s.option) ≡ flag
        → (if flag then bytes_eq s.value (codes "true") else b || can_stand_apart s.value) ≡ true
        → run (at rows left)
        (if flag then dashed s.option ∷ rest
        else (if b then attached s.option s.value ∷ rest else dashed s.option ∷ s.value ∷ rest))
        ≡ run (at (next_rows (flag || b) (with_left rows left) s.option s.value)
        (next_left (flag || b) s.option s.value)) rest
    go true b is ok =
        let used = left_used rows left fresh in
        ap (λ (w : Walk). run w rest)
        (step_flag s.option s.value rows left _ is ((bytes_eq-Decides _ _).0 ok) used none)
    go false true is ok =
        ap (λ (w : Walk). run w rest) (step s.option s.value rows left _ is (left_used rows left fresh) none)
    go false false is ok =
        let used = left_used rows left fresh in
        ap (λ (w : Walk). run (walked the_rules [] w s.value) rest) (step_name s.option rows left _ is used)
        ∙ ap (λ (w : Walk). run w rest) (step_value s.option s.value (with_left rows left) ok)

-- and is no fault
setting_passes : (s : Setting) (rest : List Text) (rows : List Row) (left : Left)
    → IsFresh left rows → has_row (word_of s.option) (with_left rows left) ≡ false → is_spelled s ≡ true
    → walk_fault (built sddc).top [] (at rows left) (words_of_setting s.option s.value s.is_attached rest)
    ≡ walk_fault (built sddc).top [] (at (next_rows (used_at_once s) (with_left rows left) s.option s.value)
    (next_left (used_at_once s) s.option s.value)) rest
unfolding next_rows next_left used_at_once walk_fault
setting_passes s rest rows left fresh none ok = go (is_flag (word_of s.option)) s.is_attached refl ok
  where
    go : (flag b : Bool) → is_flag (word_of s.option) ≡ flag
        → (if flag then bytes_eq s.value (codes "true") else b || can_stand_apart s.value) ≡ true
        → walk_fault (built sddc).top [] (at rows left)
        (if flag then dashed s.option ∷ rest
        else (if b then attached s.option s.value ∷ rest else dashed s.option ∷ s.value ∷ rest))
        ≡ walk_fault (built sddc).top []
        (at (next_rows (flag || b) (with_left rows left) s.option s.value)
        (next_left (flag || b) s.option s.value)) rest
    go true b is ok =
        let used = left_used rows left fresh in
        rw (
          no_fault_flag s.option rows left _ is (left_passes rows left fresh) used none,
          step_flag s.option s.value rows left _ is ((bytes_eq-Decides _ _).0 ok) used none,
        ) refl
    go false true is ok =
        let used = left_used rows left fresh in
        rw (
          no_fault s.option s.value rows left _ is (left_passes rows left fresh) used none,
          step s.option s.value rows left _ is used none,
        ) refl
    go false false is ok = rw (
      no_fault_name s.option rows left is (left_passes rows left fresh),
      step_name s.option rows left _ is (left_used rows left fresh),
      no_fault_value s.option s.value (with_left rows left) ok,
      step_value s.option s.value (with_left rows left) ok,
    ) refl

-- ---- all settings

-- the row of a setting
abbrev pub row_for : Setting → Row
row_for s = row_of s.option s.value

-- none of the settings' options was used before
abbrev pub fresh_in : List Setting → List Row → Bool
fresh_in settings rows = list_all (λ s. not (has_row (word_of s.option) rows)) settings

-- a row of another option makes no row of this one
has_more : (id : Text) (rows : List Row) (r : Row) → has_row id rows ≡ false → bytes_eq r.id id ≡ false
    → has_row id (rows ++ r ∷ []) ≡ false
has_more id [] r none other = rw other refl
has_more id (x ∷ xs) r none other = go (bytes_eq x.id id) refl (has_more id xs r)
  where
    go : (b : Bool) → bytes_eq x.id id ≡ b
        → (has_row id xs ≡ false → bytes_eq r.id id ≡ false → has_row id (xs ++ r ∷ []) ≡ false)
        → has_row id (x ∷ (xs ++ r ∷ [])) ≡ false
    go true e rest = let bad : true ≡ false = rw e at none in cc
    go false e rest = rw e (rest (rw e at none) other)

-- where no option stands twice, the later ones stay unused
still_fresh : (s : Setting) (settings : List Setting) (rows : List Row) → fresh_in settings rows ≡ true
    → list_all (λ q. not (sets (word_of q.option) s)) settings ≡ true
    → fresh_in settings (rows ++ row_for s ∷ []) ≡ true
unfolding row_of
still_fresh s [] rows fresh others = refl
still_fresh s (q ∷ rest) rows fresh others =
    let fresh_each = both _ _ fresh in
    let other_each = both _ _ others in
    rw (has_more (word_of q.option) rows (row_for s) (false_of _ fresh_each.0) (false_of _ other_each.0))
    (still_fresh s rest rows fresh_each.1 other_each.1)

-- the walk ends between two words, with all these rows once what is left is used
pub record Ends (w : Walk) (all : List Row) : Type 0 where
  pub rows : List Row
  pub left : Left
  pub is : w ≡ at rows left
  pub whole : with_left rows left ≡ all
  pub fresh : IsFresh left rows

-- the words of settings lead to the rows of the settings
pub walk_all : (settings : List Setting) (rows : List Row) (left : Left) → IsFresh left rows
    → fresh_in settings (with_left rows left) ≡ true → has_each_once settings ≡ true
    → list_all is_spelled settings ≡ true
    → Ends (run (at rows left) (words_of_settings settings)) (with_left rows left ++ map row_for settings)
walk_all [] rows left fresh unused once spelled =
    record { rows = rows; left = left; is = refl; whole = sym (append_nil (with_left rows left)); fresh = fresh }
walk_all (s ∷ rest) rows left fresh unused once spelled =
    let unused_each = both _ _ unused in
    let once_each = both _ _ once in
    let spelled_each = both (is_spelled s) (list_all is_spelled rest) spelled in
    let all = with_left rows left in
    let none = false_of _ unused_each.0 in
    let whole = next_whole (used_at_once s) all s.option s.value in
    let again = walk_all rest (next_rows (used_at_once s) all s.option s.value)
    (next_left (used_at_once s) s.option s.value)
    (next_fresh s all none)
    (rw whole (still_fresh s rest all unused_each.1 once_each.0)) once_each.1 spelled_each.1 in
    record {
      rows = again.rows;
      left = again.left;
      is = setting_walked s (words_of_settings rest) rows left fresh none spelled_each.0
          ∙ again.is;
      whole = again.whole ∙ ap (λ (rs : List Row). rs ++ map row_for rest) whole
          ∙ append_assoc all (row_for s ∷ []) (map row_for rest);
      fresh = again.fresh;
    }

-- and none of them is a fault
pub faults_all : (settings : List Setting) (rows : List Row) (left : Left) → IsFresh left rows
    → fresh_in settings (with_left rows left) ≡ true → has_each_once settings ≡ true
    → list_all is_spelled settings ≡ true
    → walk_fault (built sddc).top [] (at rows left) (words_of_settings settings) ≡ []
unfolding walk_fault
faults_all [] rows left fresh unused once spelled = refl
faults_all (s ∷ rest) rows left fresh unused once spelled =
    let unused_each = both _ _ unused in
    let once_each = both _ _ once in
    let spelled_each = both (is_spelled s) (list_all is_spelled rest) spelled in
    let all = with_left rows left in
    let none = false_of _ unused_each.0 in
    setting_passes s (words_of_settings rest) rows left fresh none spelled_each.0
    ∙ faults_all rest (next_rows (used_at_once s) all s.option s.value)
    (next_left (used_at_once s) s.option s.value)
    (next_fresh s all none)
    (rw (next_whole (used_at_once s) all s.option s.value) (still_fresh s rest all unused_each.1 once_each.0))
    once_each.1 spelled_each.1
