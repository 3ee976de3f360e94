-- What was written of an effect or of a line, by the number of its bytes.
use Rattle.std.proofs.Common.{◌≡◌, ℕ, List, Option, take, length, ◌++◌, inl, inr, refl, sym, ap, ◌∙◌}
use Rattle.std.proofs.lemmas.List.{take_at}
use Rattle.sd_base.specs.Files.{Files, told_with}
use Rattle.sd_base.specs.Sink.{told_then}
use Rattle.sd_commands.specs.Effects.{Effect, Write, Print}
use Rattle.sd_tool.specs.Devices.{WritesLine}
use Rattle.sd_tool.specs.Effects.{Contents, DoesPart}
use Rattle.sd_tool.specs.inside.Devices.{LeavesPart, AppendsLine}

-- a front of bytes is so many of them
first_of : (front rest bytes : List ℕ) → front ++ rest ≡ bytes → front ≡ take (length front) bytes
first_of front rest bytes is = sym (take_at front rest (length front) refl) ∙ ap (take (length front)) is

-- contents are equal where both parts are
contents_are : (a b : Contents) → a.files ≡ b.files → a.printed ≡ b.printed → a ≡ b
contents_are a b files printed =
    ap (λ (f : Option Files). record { files = f; printed = a.printed }) files
    ∙ ap (λ (p : Option (List ℕ)). record { files = b.files; printed = p }) printed

-- what the code leaves of an effect is nothing, or the effect with the first of its bytes
pub does_part : (effect : Effect) (old new : Contents) → LeavesPart effect old new → DoesPart effect old new
does_part (Write file bytes) old new (inl same, printed) = inl (contents_are new old same printed)
does_part (Write file bytes) old new (inr held, printed) =
    inr (
      length held.front,
      contents_are new _ (held.held ∙ ap (told_with old.files file) (first_of held.front held.rest bytes held.of_bytes))
          printed,
    )
does_part (Print line) old new (part, files) =
    inr (
      length part.front,
      contents_are new _ files
          (part.written ∙ ap (told_then old.printed) (first_of part.front part.rest line part.of_bytes)),
    )

-- so does the line of an end
pub writes_line : (line : List ℕ) (old new : Option (List ℕ)) (before now : ℕ) → AppendsLine line old new before now
    → WritesLine line old new before now
writes_line line old new before now (inl whole) = inl whole
writes_line line old new before now (inr (part, rose)) =
    inr (
      length part.front,
      part.written ∙ ap (told_then old) (first_of part.front part.rest line part.of_bytes),
      rose,
    )
