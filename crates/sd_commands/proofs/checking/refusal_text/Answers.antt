use Rattle.std.proofs.Common.{◌≡◌, ◌∙◌, ℕ, List, [], ◌∷◌, ◌++◌, arith, ap, append_assoc, rules}
use Rattle.std.specs.Prelude.{decimal}
use Rattle.sd_model.specs.Text.{number_text}
use Rattle.sd_model.proofs.Numbers.{number_text_decimal}
use Rattle.sd_commands.specs.Commands.{rule_word}
use Rattle.sd_commands.proofs.checking.refusal_text.Goals as goal

-- two texts, with a space between
spaced : (line a b : List ℕ) (space end : ℕ)
    → (((line ++ a) ++ space ∷ []) ++ b) ++ end ∷ [] ≡ (line ++ (a ++ space ∷ b)) ++ end ∷ []
spaced line a b space end =
    ap (λ l. (l ++ b) ++ end ∷ []) (append_assoc line a (space ∷ []))
    ∙ ap (λ l. l ++ end ∷ [])
    (append_assoc line (a ++ space ∷ []) b ∙ ap (λ l. line ++ l) (append_assoc a (space ∷ []) b))

pub returns : goal.returns
returns c =
    let digits : number_text c.args.id ≡ decimal c.args.id =
    number_text_decimal c.args.id (omega (arith, c.ranges.id.fits)) in
    rw (
      c.new-2.ensures,
      c.in_ok-push-2.ensures.items,
      c.in_ok-extend_from_slice-2.ensures.items,
      c.as_bytes-2.ensures.value,
      c.rule_word.ensures,
      c.in_ok-push.ensures.items,
      c.in_ok-extend_from_slice.ensures.items,
      c.as_bytes.ensures.value,
      c.format.ensures.text,
      digits,
    )
    (spaced _ (decimal c.args.id) (rule_word c.args.rule) 32 10 ∙ search rules)
