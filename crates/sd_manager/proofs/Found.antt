-- What a search that inserts tells in each of its answers.
use Rattle.std.proofs.Common.{◌≡◌, ℕ, Option, Some, None, IfNone, subst}
use Rattle.sd_unique.specs.declared.found.Found.{Found}
use Rattle.sd_unique.specs.declared.found.Found.TheVariants.{Present, New}
use Rattle.sd_unique.specs.Finding.{IfPresent, IfNew}

-- of the number of a node that was there
pub if_present : (f : Found) (n : ℕ) (P : ℕ → Type 0) → f ≡ Present n → IfPresent f P → P n
if_present f n P is h = subst (λ f. IfPresent f P) is h

-- and of that of a node that was made
pub if_new : (f : Found) (n : ℕ) (P : ℕ → Type 0) → f ≡ New n → IfNew f P → P n
if_new f n P is h = subst (λ f. IfNew f P) is h

-- what an answer without a value tells, where it tells more
pub if_none : {X P Q : Type 0} (o : Option X) → IfNone o P → (P → Q) → IfNone o Q
if_none None h f = f h
if_none (Some x) h f = tt
