-- The faults that end in a number.
use Rattle.std.proofs.Common.{◌++◌, sym, ap, ◌∙◌}
use Rattle.std.specs.Prelude.{codes}
use Rattle.sd_aiger.specs.Reads.{aiger_fault_text}
use Rattle.sd_model.specs.Text.{number_text}
use Rattle.sd_tool.proofs.PartLemmas.{nothing_after}
use Rattle.sd_tool.proofs.refusal.circuit_parts.Goals as goal

pub returns-in-VariablesRange : goal.returns-in-VariablesRange
returns-in-VariablesRange c =
    c.numbered.ensures
    ∙ nothing_after c.args.file.now (codes ": variables out of range: ") (number_text c.in-VariablesRange.found)
    ∙ ap (λ fault. c.args.file.now ++ aiger_fault_text fault) (sym c.in-VariablesRange.is)

pub returns-in-Latches : goal.returns-in-Latches
returns-in-Latches c =
    c.numbered-in-Latches.ensures
    ∙ nothing_after c.args.file.now (codes ": latches: ") (number_text c.in-Latches.found)
    ∙ ap (λ fault. c.args.file.now ++ aiger_fault_text fault) (sym c.in-Latches.is)

pub returns-in-OutputsRange : goal.returns-in-OutputsRange
returns-in-OutputsRange c =
    c.numbered-in-OutputsRange.ensures
    ∙ nothing_after c.args.file.now (codes ": outputs out of range: ") (number_text c.in-OutputsRange.found)
    ∙ ap (λ fault. c.args.file.now ++ aiger_fault_text fault) (sym c.in-OutputsRange.is)

pub returns-in-IndexRange : goal.returns-in-IndexRange
returns-in-IndexRange c =
    c.numbered-in-IndexRange.ensures
    ∙ nothing_after c.args.file.now (codes ": index out of range: ") (number_text c.in-IndexRange.found)
    ∙ ap (λ fault. c.args.file.now ++ aiger_fault_text fault) (sym c.in-IndexRange.is)
