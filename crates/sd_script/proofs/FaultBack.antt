-- No two faults have one text.
use Rattle.std.proofs.Common.{◌≡◌, refl, ap}
use Rattle.sd_model.specs.Text.{number_text}
use Rattle.sd_base.proofs.FaultTexts.{words_alone, other_words, without_number, line_back}
use Rattle.sd_script.specs.Faults.{script_fault_text}
use Rattle.sd_script.specs.declared.fault.ScriptFault.{ScriptFault}
use Rattle.sd_script.specs.declared.fault.ScriptFault.TheVariants as fault

-- a fault with 0 for its number
plain : ScriptFault → ScriptFault
plain (fault.BadLine n) = fault.BadLine 0
plain (fault.NameUnknown n) = fault.NameUnknown 0
plain (fault.NameTaken n) = fault.NameTaken 0
plain (fault.LiteralRange n) = fault.LiteralRange 0
plain (fault.NumberRange n) = fault.NumberRange 0
plain (fault.FileTwice n) = fault.FileTwice 0
plain (fault.TooManyLoads n) = fault.TooManyLoads 0
plain (fault.NoFormula n) = fault.NoFormula 0
plain e = e

-- its words are the same
told : (e : ScriptFault) → words_alone (script_fault_text e) ≡ words_alone (script_fault_text (plain e))
unfolding plain number_text
told fault.TooManyLines = refl
told fault.OutOfMemory = refl
told e = simp without_number refl

-- a fault is determined by its text
pub fault_back : (e f : ScriptFault) → script_fault_text e ≡ script_fault_text f → e ≡ f
unfolding plain number_text
fault_back (fault.BadLine m) (fault.BadLine n) h = ap fault.BadLine (line_back m n _ _ h).0
fault_back (fault.NameUnknown m) (fault.NameUnknown n) h = ap fault.NameUnknown (line_back m n _ _ h).0
fault_back (fault.NameTaken m) (fault.NameTaken n) h = ap fault.NameTaken (line_back m n _ _ h).0
fault_back (fault.LiteralRange m) (fault.LiteralRange n) h = ap fault.LiteralRange (line_back m n _ _ h).0
fault_back (fault.NumberRange m) (fault.NumberRange n) h = ap fault.NumberRange (line_back m n _ _ h).0
fault_back (fault.FileTwice m) (fault.FileTwice n) h = ap fault.FileTwice (line_back m n _ _ h).0
fault_back fault.TooManyLines fault.TooManyLines h = refl
fault_back (fault.TooManyLoads m) (fault.TooManyLoads n) h = ap fault.TooManyLoads (line_back m n _ _ h).0
fault_back (fault.NoFormula m) (fault.NoFormula n) h = ap fault.NoFormula (line_back m n _ _ h).0
fault_back fault.OutOfMemory fault.OutOfMemory h = refl
fault_back e f h = absurd (other_words script_fault_text plain told e f refl h)
