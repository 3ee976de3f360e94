-- What a refusal of the code says, for the contracts of private functions.
use Rattle.std.specs.Prelude.{ℕ, List, ◌++◌, codes}
use Rattle.sd_words.specs.Rows.{words_fault_text}
use Rattle.sd_aiger.specs.Reads.{aiger_fault_text}
use Rattle.sd_formula.specs.Dimacs.{formula_fault_text}
use Rattle.sd_vfile.specs.Reads.{vtree_fault_text}
use Rattle.sd_file.specs.Reads.{sdd_fault_text}
use Rattle.sd_script.specs.Faults.{script_fault_text}
use Rattle.sd_tool.specs.declared.refusal.Refusal.{Refusal}
use Rattle.sd_tool.specs.declared.refusal.Refusal.TheVariants.{BadWords, TooLong, BadFormula, BadCircuit, BadVtree}
use Rattle.sd_tool.specs.declared.refusal.Refusal.TheVariants.{LongScript, BadScript, BadSdd}

-- the status of a refusal, and the text of its line after the name of the program
abbrev pub refusal_answer : Refusal → ℕ × List ℕ
refusal_answer (BadWords fault) = (1, words_fault_text fault)
refusal_answer (TooLong file) = (2, file ++ codes ": too long")
refusal_answer (BadFormula file fault) = (2, file ++ formula_fault_text fault)
refusal_answer (BadCircuit file fault) = (2, file ++ aiger_fault_text fault)
refusal_answer (BadVtree file fault) = (2, file ++ vtree_fault_text fault)
refusal_answer (BadSdd file fault) = (2, file ++ sdd_fault_text fault)
refusal_answer (LongScript file) = (3, file ++ codes ": too long")
refusal_answer (BadScript file fault) = (3, file ++ script_fault_text fault)

-- the status
abbrev pub refusal_status : Refusal → ℕ
refusal_status refusal = (refusal_answer refusal).0

-- the text
abbrev pub refusal_text : Refusal → List ℕ
refusal_text refusal = (refusal_answer refusal).1
