use Rattle.std.proofs.Common.{sym, ◌∙◌}
use Rattle.sd_model.proofs.Numbers.{number_text_decimal}
use Rattle.sd_tool.proofs.parts.number_digits.Goals as goal

pub returns : goal.returns
returns c =
    c.as_bytes.ensures.value ∙ c.format.ensures.text ∙ sym (number_text_decimal c.args.number c.ranges.number.fits)
