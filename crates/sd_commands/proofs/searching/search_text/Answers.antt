use Rattle.std.proofs.Common.{rules, ◌≡◌, ◌∙◌, ℕ, List, [], ◌∷◌, ◌++◌, ap, append_assoc}
use Rattle.sd_commands.proofs.Values.{in_digits}
use Rattle.sd_commands.proofs.searching.search_text.Goals as goal

-- two texts, each behind a space
spaced : (line a b : List ℕ) (space end : ℕ)
    → ((((line ++ space ∷ []) ++ a) ++ space ∷ []) ++ b) ++ end ∷ []
    ≡ (line ++ space ∷ (a ++ space ∷ b)) ++ end ∷ []
spaced line a b space end =
    ap (λ l. ((l ++ space ∷ []) ++ b) ++ end ∷ []) (append_assoc line (space ∷ []) a)
    ∙ ap (λ l. l ++ end ∷ [])
    (append_assoc (line ++ space ∷ a) (space ∷ []) b ∙ append_assoc line (space ∷ a) (space ∷ b))

pub returns : goal.returns
returns c =
    rw (
      c.new-4.ensures,
      c.in_ok-push-3.ensures.items,
      c.in_ok-extend_from_slice-3.ensures.items,
      c.as_bytes-3.ensures.value,
      c.format-3.ensures.text,
      in_digits c.args.rounds c.ranges.rounds.fits,
      c.in_ok-push-2.ensures.items,
      c.in_ok-extend_from_slice-2.ensures.items,
      c.as_bytes-2.ensures.value,
      c.format-2.ensures.text,
      in_digits c.args.after c.ranges.after.fits,
      c.in_ok-push.ensures.items,
      c.in_ok-extend_from_slice.ensures.items,
      c.as_bytes.ensures.value,
      c.format.ensures.text,
      in_digits c.args.before c.ranges.before.fits,
    )
    (spaced _ _ _ 32 10 ∙ search rules)
