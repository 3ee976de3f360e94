use Rattle.std.proofs.Common.{ℕ, [], ◌++◌, ap, ◌∙◌}
use Rattle.std.specs.Prelude.{codes}
use Rattle.std.proofs.lemmas.List.{append-nil}
use Rattle.sd_model.specs.Text.{number_text}
use Rattle.sd_tool.proofs.parts.passing.Goals as goal

pub returns : goal.returns
returns c =
    let last = codes " passes limit " in
    ap (λ (n : ℕ). codes ": size " ++ number_text n ++ last ++ number_text c.from-2.result ++ []) c.from.ensures
    ∙ ap (λ (n : ℕ). codes ": size " ++ number_text c.args.size ++ last ++ number_text n ++ []) c.from-2.ensures
    ∙ append-nil (codes ": size " ++ number_text c.args.size ++ last ++ number_text c.args.limit)
