-- What a search that inserts has found.
use Rattle.std.specs.Prelude.{ℕ}
use Rattle.sd_unique.specs.declared.found.Found.{Found}
use Rattle.sd_unique.specs.declared.found.Found.TheVariants.{Present, New}

-- this holds of the number, if the node was there
abbrev pub IfPresent : Found → (ℕ → Type 0) → Type 0
IfPresent (Present n) P = P n
IfPresent (New n) P = Unit {0}

-- this holds of the number, if the node was made
abbrev pub IfNew : Found → (ℕ → Type 0) → Type 0
IfNew (Present n) P = Unit {0}
IfNew (New n) P = P n
