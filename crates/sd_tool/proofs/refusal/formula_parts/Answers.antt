use Rattle.std.proofs.Common.{◌++◌, sym, ap, ◌∙◌}
use Rattle.sd_formula.specs.Dimacs.{formula_fault_text}
use Rattle.sd_tool.proofs.PartLemmas.{variables_text}
use Rattle.sd_tool.proofs.refusal.formula_parts.Goals as goal

pub returns-in-VariablesRange : goal.returns-in-VariablesRange
returns-in-VariablesRange c =
    c.numbered.ensures ∙ variables_text c.args.file.now c.in-VariablesRange.found
    ∙ ap (λ fault. c.args.file.now ++ formula_fault_text fault) (sym c.in-VariablesRange.is)

pub returns-in-Unterminated : goal.returns-in-Unterminated
returns-in-Unterminated c =
    c.plain-in-Unterminated.ensures
    ∙ ap (λ fault. c.args.file.now ++ formula_fault_text fault) (sym c.in-Unterminated.is)
