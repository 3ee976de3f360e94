use Rattle.std.proofs.Common.{rules, ◌≡◌, ◌∙◌, ℕ, List, [], ◌∷◌, ◌++◌, ap, append_assoc}
use Rattle.sd_commands.proofs.Values.{in_digits}
use Rattle.sd_commands.proofs.effects.generated_text.Goals as goal

-- a space and a text behind it are one part of the line
spaced : (line text : List ℕ) (space end : ℕ)
    → ((line ++ space ∷ []) ++ text) ++ end ∷ [] ≡ (line ++ space ∷ text) ++ end ∷ []
spaced line text space end = ap (λ l. l ++ end ∷ []) (append_assoc line (space ∷ []) text)

pub returns : goal.returns
returns c =
    rw (
      c.new-3.ensures,
      c.in_ok-push-2.ensures.items,
      c.in_ok-extend_from_slice-2.ensures.items,
      c.as_bytes-2.ensures.value,
      c.format-2.ensures.text,
      in_digits c.args.groups c.ranges.groups.fits,
      c.in_ok-push.ensures.items,
      c.in_ok-extend_from_slice.ensures.items,
      c.as_bytes.ensures.value,
      c.format.ensures.text,
      in_digits c.args.variables c.ranges.variables.fits,
    )
    (spaced _ _ 32 10 ∙ search rules)
