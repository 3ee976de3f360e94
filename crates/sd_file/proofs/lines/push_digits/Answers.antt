use Rattle.sd_model.proofs.Numbers.{number_text_decimal}
use Rattle.sd_file.proofs.lines.push_digits.Goals as goal

-- what `itoa` writes is the number in decimal
pub returns : goal.returns
returns c =
    rw (
      c.in_ok-extend_from_slice.ensures.items,
      c.as_bytes.ensures.value,
      c.format.ensures.text,
      number_text_decimal c.args.n c.ranges.n.fits,
    )
