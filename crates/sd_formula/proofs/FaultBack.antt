-- No two faults have one text.
use Rattle.std.proofs.Common.{◌≡◌, ℤ, pos, negsuc, codes, refl, ap}
use Rattle.std.proofs.lemmas.List.{append_cancel_left}
use Rattle.sd_model.specs.Text.{number_text}
use Rattle.sd_model.proofs.Words.{number_back}
use Rattle.sd_base.proofs.FaultTexts.{words_alone, other_words, without_last, without_number, counts_alone}
use Rattle.sd_base.proofs.FaultTexts.{line_back, counts_back, signed_back}
use Rattle.sd_formula.specs.Dimacs.{formula_fault_text}
use Rattle.sd_formula.specs.declared.error.FormulaError.{FormulaError}
use Rattle.sd_formula.specs.declared.error.FormulaError.TheVariants as fault

-- a number with the same sign
plain_literal : ℤ → ℤ
plain_literal (pos n) = pos 0
plain_literal (negsuc i) = negsuc 0

-- a fault with such numbers
plain : FormulaError → FormulaError
plain (fault.BadHeader n) = fault.BadHeader 0
plain (fault.VariablesRange v) = fault.VariablesRange 0
plain (fault.TooManyGroups s) = fault.TooManyGroups 0
plain (fault.BadWord n) = fault.BadWord 0
plain (fault.LiteralRange n z) = fault.LiteralRange 0 (plain_literal z)
plain (fault.CountDiffers s f) = fault.CountDiffers 0 0
plain e = e

-- its words are the same
told : (e : FormulaError) → words_alone (formula_fault_text e) ≡ words_alone (formula_fault_text (plain e))
unfolding plain plain_literal number_text
told fault.NoHeader = refl
told (fault.LiteralRange n (pos m)) = simp (without_number, without_last) refl
told (fault.LiteralRange n (negsuc i)) = simp (without_number, without_last) refl
told fault.Unterminated = refl
told (fault.CountDiffers s f) = counts_alone s f
told fault.OutOfMemory = refl
told e = simp (without_number, without_last) refl

-- a fault is determined by its text
pub fault_back : (e f : FormulaError) → formula_fault_text e ≡ formula_fault_text f → e ≡ f
unfolding plain number_text
fault_back fault.NoHeader fault.NoHeader h = refl
fault_back (fault.BadHeader m) (fault.BadHeader n) h = ap fault.BadHeader (line_back m n _ _ h).0
fault_back (fault.VariablesRange v) (fault.VariablesRange w) h =
    ap fault.VariablesRange (number_back v w (append_cancel_left (codes ": variables out of range: ") _ _ h))
fault_back (fault.TooManyGroups s) (fault.TooManyGroups t) h =
    ap fault.TooManyGroups (number_back s t (append_cancel_left (codes ": too many groups: ") _ _ h))
fault_back (fault.BadWord m) (fault.BadWord n) h = ap fault.BadWord (line_back m n _ _ h).0
fault_back (fault.LiteralRange m y) (fault.LiteralRange n z) h =
    let r = line_back m n _ _ h in
    let a : m ≡ n = r.0 in
    let b : y ≡ z = signed_back y z (append_cancel_left (codes " literal out of range: ") _ _ r.1) in
    cc
fault_back fault.Unterminated fault.Unterminated h = refl
fault_back (fault.CountDiffers s f) (fault.CountDiffers t g) h =
    let r = counts_back s f t g h in
    let a : s ≡ t = r.0 in
    let b : f ≡ g = r.1 in
    cc
fault_back fault.OutOfMemory fault.OutOfMemory h = refl
fault_back e f h = absurd (other_words formula_fault_text plain told e f refl h)
