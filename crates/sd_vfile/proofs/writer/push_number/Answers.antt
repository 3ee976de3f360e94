use Rattle.std.proofs.Common.{[], ◌∷◌, append_assoc, arith}
use Rattle.std.specs.Fmt.{decimal}
use Rattle.sd_model.proofs.Numbers.{number_text_decimal}
use Rattle.sd_vfile.proofs.writer.push_number.Goals as goal

-- what `itoa` writes is the number in decimal
pub returns : goal.returns
returns c =
    rw (
      c.in_ok-extend_from_slice.ensures.items,
      c.as_bytes.ensures.value,
      c.format.ensures.text,
      c.in_ok-push.ensures.items,
      number_text_decimal c.args.n (omega (arith, c.ranges.n.fits)),
    )
    (append_assoc c.args.text.now.items (32 ∷ []) (decimal c.args.n))
