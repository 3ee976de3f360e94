-- What the effects of a run leave outside.
use Rattle.std.specs.Prelude.{◌≡◌, ◌⊎◌, ℕ, List, fold, take, Option}
use Rattle.sd_base.specs.Files.{Files, told_with}
use Rattle.sd_base.specs.Sink.{told_then}
use Rattle.sd_commands.specs.Effects.{Effect, Write, Print}

-- the files of the shelf and what was printed, as far as they are told
pub record Contents : Type 0 where
  pub files : Option Files
  pub printed : Option (List ℕ)

-- the contents after an effect
abbrev pub after_effect : Effect → Contents → Contents
after_effect (Write file bytes) contents = record contents { files = told_with contents.files file bytes }
after_effect (Print line) contents = record contents { printed = told_then contents.printed line }

-- the contents after the effects of these commands, in order
abbrev pub after : List (List Effect) → Contents → Contents
after effects contents = fold (fold (λ before effect. after_effect effect before)) contents effects

-- the effect with its first n bytes alone
abbrev pub cut : ℕ → Effect → Effect
cut n (Write file bytes) = Write file (take n bytes)
cut n (Print line) = Print (take n line)

-- nothing of the effect was done, or the effect with some first bytes alone
abbrev pub DoesPart : Effect → Contents → Contents → Type 0
DoesPart effect old new = (new ≡ old) ⊎ ((n : ℕ) × (new ≡ after_effect (cut n effect) old))
