-- No two faults have one text.
use Rattle.std.proofs.Common.{◌≡◌, codes, refl, ap}
use Rattle.std.proofs.lemmas.List.{append_cancel_right}
use Rattle.sd_model.specs.Text.{number_text}
use Rattle.sd_model.proofs.Words.{number_back}
use Rattle.sd_base.proofs.FaultTexts.{words_alone, other_words, without_last, without_number, counts_alone}
use Rattle.sd_base.proofs.FaultTexts.{line_back, counts_back}
use Rattle.sd_vfile.specs.Reads.{vtree_fault_text}
use Rattle.sd_vfile.specs.declared.fault.VtreeFault.{VtreeFault}
use Rattle.sd_vfile.specs.declared.fault.VtreeFault.TheVariants as fault

-- a fault with 0 for its numbers
plain : VtreeFault → VtreeFault
plain (fault.BadLine n) = fault.BadLine 0
plain (fault.IdTwice n) = fault.IdTwice 0
plain (fault.ChildUnknown n) = fault.ChildUnknown 0
plain (fault.ChildTwice n) = fault.ChildTwice 0
plain (fault.VariableWrong n) = fault.VariableWrong 0
plain (fault.CountDiffers s f) = fault.CountDiffers 0 0
plain (fault.NotOneRoot r) = fault.NotOneRoot 0
plain (fault.VariableMissing x) = fault.VariableMissing 0
plain (fault.NodesRange n) = fault.NodesRange 0
plain e = e

-- its words are the same
told : (e : VtreeFault) → words_alone (vtree_fault_text e) ≡ words_alone (vtree_fault_text (plain e))
unfolding plain number_text
told fault.NoHeader = refl
told (fault.CountDiffers s f) = counts_alone s f
told fault.OutOfMemory = refl
told e = simp (without_number, without_last) refl

-- a fault is determined by its text
pub fault_back : (e f : VtreeFault) → vtree_fault_text e ≡ vtree_fault_text f → e ≡ f
unfolding plain number_text
fault_back fault.NoHeader fault.NoHeader h = refl
fault_back (fault.BadLine m) (fault.BadLine n) h = ap fault.BadLine (line_back m n _ _ h).0
fault_back (fault.IdTwice m) (fault.IdTwice n) h = ap fault.IdTwice (line_back m n _ _ h).0
fault_back (fault.ChildUnknown m) (fault.ChildUnknown n) h = ap fault.ChildUnknown (line_back m n _ _ h).0
fault_back (fault.ChildTwice m) (fault.ChildTwice n) h = ap fault.ChildTwice (line_back m n _ _ h).0
fault_back (fault.VariableWrong m) (fault.VariableWrong n) h = ap fault.VariableWrong (line_back m n _ _ h).0
fault_back (fault.CountDiffers s f) (fault.CountDiffers t g) h =
    let r = counts_back s f t g h in
    let a : s ≡ t = r.0 in
    let b : f ≡ g = r.1 in
    cc
fault_back (fault.NotOneRoot m) (fault.NotOneRoot n) h =
    ap fault.NotOneRoot (number_back m n (append_cancel_right _ _ (codes " roots") (cc)))
fault_back (fault.VariableMissing m) (fault.VariableMissing n) h =
    let f : number_text m ≡ number_text n = cc in
    ap fault.VariableMissing (number_back m n f)
fault_back (fault.NodesRange m) (fault.NodesRange n) h =
    let f : number_text m ≡ number_text n = cc in
    ap fault.NodesRange (number_back m n f)
fault_back fault.OutOfMemory fault.OutOfMemory h = refl
fault_back e f h = absurd (other_words vtree_fault_text plain told e f refl h)
