-- No two faults have one text.
use Rattle.std.proofs.Common.{◌≡◌, codes, refl, ap}
use Rattle.std.proofs.lemmas.List.{append_cancel_left}
use Rattle.sd_model.specs.Text.{number_text}
use Rattle.sd_model.proofs.Words.{number_back}
use Rattle.sd_base.proofs.FaultTexts.{words_alone, other_words, without_last, without_number, counts_alone}
use Rattle.sd_base.proofs.FaultTexts.{line_back, counts_back}
use Rattle.sd_aiger.specs.Reads.{aiger_fault_text}
use Rattle.sd_aiger.specs.declared.fault.AigerFault.{AigerFault}
use Rattle.sd_aiger.specs.declared.fault.AigerFault.TheVariants as fault

-- a fault with 0 for its numbers
plain : AigerFault → AigerFault
plain (fault.BadHeader n) = fault.BadHeader 0
plain (fault.VariablesRange n) = fault.VariablesRange 0
plain (fault.Latches n) = fault.Latches 0
plain (fault.OutputsRange n) = fault.OutputsRange 0
plain (fault.IndexRange n) = fault.IndexRange 0
plain (fault.CountDiffers s f) = fault.CountDiffers 0 0
plain (fault.BadLine n) = fault.BadLine 0
plain (fault.LiteralRange n) = fault.LiteralRange 0
plain (fault.BadDefinition n) = fault.BadDefinition 0
plain (fault.Undefined n) = fault.Undefined 0
plain (fault.Cycle n) = fault.Cycle 0
plain e = e

-- its words are the same
told : (e : AigerFault) → words_alone (aiger_fault_text e) ≡ words_alone (aiger_fault_text (plain e))
unfolding plain number_text
told fault.NoHeader = refl
told (fault.CountDiffers s f) = counts_alone s f
told fault.OutOfMemory = refl
told e = simp (without_number, without_last) refl

-- a fault is determined by its text
pub fault_back : (e f : AigerFault) → aiger_fault_text e ≡ aiger_fault_text f → e ≡ f
unfolding plain number_text
fault_back fault.NoHeader fault.NoHeader h = refl
fault_back (fault.BadHeader m) (fault.BadHeader n) h = ap fault.BadHeader (line_back m n _ _ h).0
fault_back (fault.VariablesRange m) (fault.VariablesRange n) h =
    ap fault.VariablesRange (number_back m n (append_cancel_left (codes ": variables out of range: ") _ _ h))
fault_back (fault.Latches m) (fault.Latches n) h =
    ap fault.Latches (number_back m n (append_cancel_left (codes ": latches: ") _ _ h))
fault_back (fault.OutputsRange m) (fault.OutputsRange n) h =
    ap fault.OutputsRange (number_back m n (append_cancel_left (codes ": outputs out of range: ") _ _ h))
fault_back (fault.IndexRange m) (fault.IndexRange n) h =
    ap fault.IndexRange (number_back m n (append_cancel_left (codes ": index out of range: ") _ _ h))
fault_back (fault.CountDiffers s f) (fault.CountDiffers t g) h =
    let r = counts_back s f t g h in
    let a : s ≡ t = r.0 in
    let b : f ≡ g = r.1 in
    cc
fault_back (fault.BadLine m) (fault.BadLine n) h = ap fault.BadLine (line_back m n _ _ h).0
fault_back (fault.LiteralRange m) (fault.LiteralRange n) h = ap fault.LiteralRange (line_back m n _ _ h).0
fault_back (fault.BadDefinition m) (fault.BadDefinition n) h = ap fault.BadDefinition (line_back m n _ _ h).0
fault_back (fault.Undefined m) (fault.Undefined n) h = ap fault.Undefined (line_back m n _ _ h).0
fault_back (fault.Cycle m) (fault.Cycle n) h = ap fault.Cycle (line_back m n _ _ h).0
fault_back fault.OutOfMemory fault.OutOfMemory h = refl
fault_back e f h = absurd (other_words aiger_fault_text plain told e f refl h)
