-- The ordinary words are accepted, and each option has the value that they give it.
use Rattle.std.proofs.Common.{arith, ◌≡◌, ◌∙◌, ◌||◌, ℕ, Bool, ap, sym, refl, true, false, subst, codes}
use Rattle.std.proofs.Common.{List, [], ◌∷◌, map, slice_index_or, None, Ok, Result, Some, zero, suc}
use Rattle.std.specs.Prelude.{if◌then◌else◌, not}
use Rattle.std.specs.List.{All, list_all}
use Rattle.std.specs.Str.{bytes_eq}
use Rattle.std.proofs.lemmas.List.Sums.{AllPass-from_list_all}
use Rattle.std.proofs.lemmas.Slice.Eq.{bytes_eq-Decides}
use Rattle.clap.specs.Walk.{Text, first_of}
use Rattle.clap.proofs.WalkLemmas.{both}
use Rattle.sd_words.specs.Command.{handed, if_true, parsed_by, said_of, sddc, usage_faults}
use Rattle.sd_words.specs.JobOf.{Answers, job_from, job_of, job_of_parsed}
use Rattle.sd_words.specs.Options.{is_flag, word_of}
use Rattle.sd_words.specs.Ordinary.{Setting, Spells, can_stand_apart, has_each_once, is_spelled, setting_of, sets}
use Rattle.sd_words.specs.Ordinary.{words_of_settings}
use Rattle.sd_words.specs.declared.faults.WordsFault.{WordsFault}
use Rattle.sd_words.specs.declared.jobs.Job.{Job}
use Rattle.sd_words.proofs.Defaults.{fault_all, kept_all, passes, said_none, says_nothing}
use Rattle.sd_words.proofs.JobLemmas.{job_where_accepted, taken}
use Rattle.sd_words.proofs.OptionSteps.{false_of, left_passes, left_used, row_of, the_rules, with_left}
use Rattle.sd_words.proofs.OrdinaryWalk.{faults_all, fresh_in, row_for, walk_all}

-- ---- after the words

defaults_pass : list_all passes the_rules ≡ true
unfolding sddc
defaults_pass = refl

defaults_say_nothing : list_all says_nothing the_rules ≡ true
unfolding sddc
defaults_say_nothing = refl

-- ---- the law

all_fresh : (settings : List Setting) → fresh_in settings [] ≡ true
all_fresh [] = refl
all_fresh (s ∷ rest) = all_fresh rest

-- the value of a setting says itself
said_own : (s : Setting) → is_spelled s ≡ true → said_of (word_of s.option) (Some s.value) ≡ Some s.value
said_own s ok = go (is_flag (word_of s.option)) ok
  where
    go : (flag : Bool)
        → (if flag then bytes_eq s.value (codes "true") else s.is_attached || can_stand_apart s.value) ≡ true
        → (if flag then if_true s.value else Some s.value) ≡ Some s.value
    go true ok = rw ok refl
    go false ok = refl

-- the rows of settings give each option its value
found : (settings : List Setting) (word : Text) → list_all is_spelled settings ≡ true
    → said_of word (first_of word (map row_for settings)) ≡ setting_of settings word
unfolding row_of
found [] word spelled = said_none word
found (s ∷ rest) word spelled =
    let each = both (is_spelled s) (list_all is_spelled rest) spelled in
    go (bytes_eq (word_of s.option) word) refl each.0 (found rest word each.1)
  where
    go : (b : Bool) → bytes_eq (word_of s.option) word ≡ b → is_spelled s ≡ true
        → said_of word (first_of word (map row_for rest)) ≡ setting_of rest word
        → said_of word (first_of word (row_for s ∷ map row_for rest)) ≡ setting_of (s ∷ rest) word
    go true e own parsed =
        let own_word = word_of s.option in
        rw e (ap (λ (w : Text). said_of w (Some s.value)) (sym ((bytes_eq-Decides own_word word).0 e)) ∙ said_own s own)
    go false e own parsed = rw e parsed

-- the ordinary words are accepted
ordinary_accepted : (settings : List Setting) → has_each_once settings ≡ true
    → list_all is_spelled settings ≡ true → usage_faults (handed (words_of_settings settings)) ≡ []
unfolding usage_faults sddc
ordinary_accepted settings once spelled =
    let ends = walk_all settings [] None tt (all_fresh settings) once spelled in
    rw (
      faults_all settings [] None tt (all_fresh settings) once spelled,
      ends.is,
      left_passes ends.rows ends.left ends.fresh,
      left_used ends.rows ends.left ends.fresh,
      fault_all the_rules (with_left ends.rows ends.left) defaults_pass,
    ) refl

-- and each option has the value that they give it
ordinary_values : (settings : List Setting) (word : Text) → has_each_once settings ≡ true
    → list_all is_spelled settings ≡ true → parsed_by (words_of_settings settings) word ≡ setting_of settings word
unfolding parsed_by sddc
ordinary_values settings word once spelled =
    let ends = walk_all settings [] None tt (all_fresh settings) once spelled in
    rw (
      ends.is,
      left_used ends.rows ends.left ends.fresh,
      kept_all word the_rules (with_left ends.rows ends.left) defaults_say_nothing,
      ends.whole,
    ) (found settings word spelled)

job_of_words_of : (settings : List Setting) → has_each_once settings ≡ true
    → list_all is_spelled settings ≡ true → job_of (words_of_settings settings) ≡ job_from (setting_of settings)
job_of_words_of settings once spelled =
    let parsed : parsed_by (words_of_settings settings) ≡ setting_of settings =
    λ i word. ordinary_values settings word once spelled i in
    taken (words_of_settings settings) (ordinary_accepted settings once spelled) ∙ ap job_from parsed

-- ordinary words have the job of their values, or the text of the first fault of these
pub job_of_ordinary : (settings : List Setting) (words : List Text) → Spells settings words
    → job_of words ≡ job_from (setting_of settings)
job_of_ordinary settings words spells = ap job_of spells.written ∙ job_of_words_of settings spells.once spells.spelled

-- and where they have one, it has these values
pub ordinary_values_kept : (settings : List Setting) (words : List Text) (job : Job) → Spells settings words
    → job_of words ≡ Ok job → job ≡ job_of_parsed (setting_of settings)
ordinary_values_kept settings words job spells named =
    job_where_accepted (setting_of settings) job (sym (job_of_ordinary settings words spells) ∙ named)

-- so an answer at such words is the one at the settings' values
pub answers_ordinary : (words : List Text) (r : Result Job WordsFault) → Answers (job_of words) r
    → (settings : List Setting) → Spells settings words → Answers (job_from (setting_of settings)) r
answers_ordinary words r answer settings spells =
    subst (λ (a : Result Job (List ℕ)). Answers a r) (job_of_ordinary settings words spells) answer

-- ---- the values that settings give

-- the first setting gives its option its value
first_value : (s : Setting) (rest : List Setting) → setting_of (s ∷ rest) (word_of s.option) ≡ Some s.value
first_value s rest =
    let own = word_of s.option in
    let same : bytes_eq own own ≡ true = (bytes_eq-Decides own own).1 refl in
    rw same refl

-- at a word that it does not set, the others do
later_value : (s : Setting) (rest : List Setting) (word : Text) → sets word s ≡ false
    → setting_of (s ∷ rest) word ≡ setting_of rest word
later_value s rest word other = rw other refl

-- where no option stands twice, each has the value of its setting
pub each_value : (settings : List Setting) → has_each_once settings ≡ true
    → All (λ s. setting_of settings (word_of s.option) ≡ Some s.value) settings
each_value [] once k d lt = absurd (omega arith)
each_value (s ∷ rest) once zero d lt = first_value s rest
each_value (s ∷ rest) once (suc k) d lt =
    let once_each = both _ _ once in
    let own = slice_index_or rest k d in
    later_value s rest (word_of own.option)
    (false_of _ (AllPass-from_list_all (λ q. not (sets (word_of q.option) s)) rest once_each.0 k d (omega arith)))
    ∙ each_value rest once_each.1 k d (omega arith)

-- an option that no setting sets has none
pub no_value : (settings : List Setting) (word : Text) → list_all (λ s. not (sets word s)) settings ≡ true
    → setting_of settings word ≡ None
no_value [] word none = refl
no_value (s ∷ rest) word none =
    let none_each = both _ _ none in
    later_value s rest word (false_of _ none_each.0) ∙ no_value rest word none_each.1
