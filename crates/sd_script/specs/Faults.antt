-- The text of each fault that the code answers, for the contracts of the functions that read a script.
use Rattle.std.specs.Prelude.{ℕ, List, [], codes}
use Rattle.sd_script.specs.declared.fault.ScriptFault.{ScriptFault}
use Rattle.sd_script.specs.declared.fault.ScriptFault.TheVariants as script
use Rattle.sd_base.specs.FaultTexts.{at_line}

-- the text of a fault of a script, after the file's name
abbrev pub script_fault_text : ScriptFault → List ℕ
script_fault_text (script.BadLine n) = at_line n (codes ": bad line")
script_fault_text (script.NameUnknown n) = at_line n (codes ": name unknown")
script_fault_text (script.NameTaken n) = at_line n (codes ": name taken")
script_fault_text (script.LiteralRange n) = at_line n (codes ": literal out of range")
script_fault_text (script.NumberRange n) = at_line n (codes ": number out of range")
script_fault_text (script.FileTwice n) = at_line n (codes ": file named twice")
script_fault_text script.TooManyLines = codes ": too many lines"
script_fault_text (script.TooManyLoads n) = at_line n (codes ": too many loads")
script_fault_text (script.NoFormula n) = at_line n (codes ": no formula")
script_fault_text script.OutOfMemory = []
