use Rattle.std.proofs.Common.{◌≡◌, arith, rules}
use Rattle.std.specs.Prelude.{decimal}
use Rattle.sd_model.specs.Text.{number_text}
use Rattle.sd_model.proofs.Numbers.{number_text_decimal}
use Rattle.sd_commands.proofs.effects.size_text.Goals as goal

pub returns : goal.returns
returns c =
    let digits : number_text c.args.size ≡ decimal c.args.size =
    number_text_decimal c.args.size (omega (arith, c.ranges.size.fits)) in
    rw (
      c.new-2.ensures,
      c.in_ok-push.ensures.items,
      c.in_ok-extend_from_slice.ensures.items,
      c.as_bytes.ensures.value,
      c.format.ensures.text,
      digits,
    )
    (search rules)
