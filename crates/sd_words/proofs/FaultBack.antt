-- No two faults have one text.
use Rattle.std.proofs.Common.{◌≡◌, ◌∙◌, false, true≢false, Option, Some, codes, sym, refl, ap}
use Rattle.std.specs.Prelude.{find}
use Rattle.std.specs.Str.{bytes_eq}
use Rattle.std.proofs.lemmas.List.{append_cancel_left}
use Rattle.std.proofs.lemmas.Slice.Eq.{bytes_eq-Decides}
use Rattle.clap.specs.Walk.{Text}
use Rattle.sd_words.specs.Options.{all_option_names, word_of}
use Rattle.sd_words.specs.Rows.{words_fault_text}
use Rattle.sd_words.specs.declared.faults.WordsFault.{WordsFault}
use Rattle.sd_words.specs.declared.faults.WordsFault.TheVariants as fault
use Rattle.sd_words.specs.declared.options.OptionName.{OptionName}
use Rattle.sd_words.specs.declared.options.OptionName.TheVariants as option

-- the option of a word
option_of : Text → Option OptionName
option_of word = find (λ o. bytes_eq (word_of o) word) all_option_names

-- an option is that of its word
of_word : (o : OptionName) → option_of (word_of o) ≡ Some o
unfolding option_of
of_word option.Cnf = refl
of_word o = refl

-- so it is determined by its word
word_back : (o p : OptionName) → word_of o ≡ word_of p → o ≡ p
word_back o p same =
    let f : Some o ≡ Some p = sym (of_word o) ∙ ap option_of same ∙ of_word p in
    cc

-- a fault is determined by its text, in which what varies is at the end
pub fault_back : (e f : WordsFault) → words_fault_text e ≡ words_fault_text f → e ≡ f
fault_back fault.Usage fault.Usage h = refl
fault_back fault.NoInput fault.NoInput h = refl
fault_back fault.TwoInputs fault.TwoInputs h = refl
fault_back fault.TwoVtrees fault.TwoVtrees h = refl
fault_back (fault.NumberRange o) (fault.NumberRange p) h =
    ap fault.NumberRange (word_back o p (append_cancel_left (codes "number out of range: --") _ _ h))
fault_back (fault.WithScript o) (fault.WithScript p) h =
    ap fault.WithScript (word_back o p (append_cancel_left (codes "not with --script: --") _ _ h))
fault_back (fault.FileTwice x) (fault.FileTwice y) h =
    ap fault.FileTwice (append_cancel_left (codes "file named twice: ") _ _ h)
fault_back fault.StartUnknown fault.StartUnknown h = refl
fault_back (fault.EmptyName o) (fault.EmptyName p) h =
    ap fault.EmptyName (word_back o p (append_cancel_left (codes "empty name: --") _ _ h))
fault_back fault.WorkersAlone fault.WorkersAlone h = refl
fault_back (fault.WithParts o) (fault.WithParts p) h =
    ap fault.WithParts (word_back o p (append_cancel_left (codes "not with --parts: --") _ _ h))
fault_back (fault.WithPortfolio o) (fault.WithPortfolio p) h =
    ap fault.WithPortfolio (word_back o p (append_cancel_left (codes "not with --portfolio: --") _ _ h))
fault_back (fault.WithAag o) (fault.WithAag p) h =
    ap fault.WithAag (word_back o p (append_cancel_left (codes "not with --aag: --") _ _ h))
fault_back (fault.WithCheck o) (fault.WithCheck p) h =
    ap fault.WithCheck (word_back o p (append_cancel_left (codes "not with --check: --") _ _ h))
fault_back fault.NoVtree fault.NoVtree h = refl
fault_back fault.OutOfMemory fault.OutOfMemory h = refl
fault_back e f h =
    let other : bytes_eq (words_fault_text e) (words_fault_text f) ≡ false = refl in
    absurd (true≢false (sym ((bytes_eq-Decides _ _).1 h) ∙ other))
