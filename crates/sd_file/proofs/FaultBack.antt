-- No two faults have one text.
use Rattle.std.proofs.Common.{◌≡◌, refl, ap}
use Rattle.sd_model.specs.Text.{number_text}
use Rattle.sd_base.proofs.FaultTexts.{words_alone, other_words, without_number, counts_alone}
use Rattle.sd_base.proofs.FaultTexts.{line_back, counts_back}
use Rattle.sd_file.specs.Reads.{sdd_fault_text}
use Rattle.sd_file.specs.declared.fault.SddFault.{SddFault}
use Rattle.sd_file.specs.declared.fault.SddFault.TheVariants as fault

-- a fault with 0 for its numbers
plain : SddFault → SddFault
plain (fault.BadLine n) = fault.BadLine 0
plain (fault.IdTwice n) = fault.IdTwice 0
plain (fault.ChildUnknown n) = fault.ChildUnknown 0
plain (fault.LiteralRange n) = fault.LiteralRange 0
plain (fault.CountDiffers s f) = fault.CountDiffers 0 0
plain e = e

-- its words are the same
told : (e : SddFault) → words_alone (sdd_fault_text e) ≡ words_alone (sdd_fault_text (plain e))
unfolding plain number_text
told fault.NoHeader = refl
told (fault.CountDiffers s f) = counts_alone s f
told fault.Empty = refl
told fault.OutOfMemory = refl
told e = simp without_number refl

-- a fault is determined by its text
pub fault_back : (e f : SddFault) → sdd_fault_text e ≡ sdd_fault_text f → e ≡ f
unfolding plain number_text
fault_back fault.NoHeader fault.NoHeader h = refl
fault_back (fault.BadLine m) (fault.BadLine n) h = ap fault.BadLine (line_back m n _ _ h).0
fault_back (fault.IdTwice m) (fault.IdTwice n) h = ap fault.IdTwice (line_back m n _ _ h).0
fault_back (fault.ChildUnknown m) (fault.ChildUnknown n) h = ap fault.ChildUnknown (line_back m n _ _ h).0
fault_back (fault.LiteralRange m) (fault.LiteralRange n) h = ap fault.LiteralRange (line_back m n _ _ h).0
fault_back (fault.CountDiffers s f) (fault.CountDiffers t g) h =
    let r = counts_back s f t g h in
    let a : s ≡ t = r.0 in
    let b : f ≡ g = r.1 in
    cc
fault_back fault.Empty fault.Empty h = refl
fault_back fault.OutOfMemory fault.OutOfMemory h = refl
fault_back e f h = absurd (other_words sdd_fault_text plain told e f refl h)
