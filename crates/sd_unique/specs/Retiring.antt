-- Linked nodes without uses that are removed one after the other, each with the uses of its list. There a code names a
-- node where it is `first` or more: that of the number by which it is more.
use Rattle.std.specs.Prelude.{◌≡◌, ℕ, suc, ◌-◌, ◌<◌, ◌≤◌, List, [], ◌∷◌, Some}
use Rattle.std.specs.Option.{IsSome}
use Rattle.std.specs.FinMap.{get}
use Rattle.sd_unique.specs.Nodes.{Nodes, IsNodes, key_at, uses_at}
use Rattle.sd_unique.specs.Inserting.{with_uses}
use Rattle.sd_unique.specs.Relinking.{IsIdle, removed, unlinked}

-- the code names a node that is used, or none
pub record IsCodeUsed (first : ℕ) (a : Nodes) (code : ℕ) : Type 0 where
  pub node : first ≤ code → IsSome (key_at a (code - first))
  pub used : first ≤ code → 0 < uses_at a (code - first)

-- the node that the code names has a use less, where it names one, and nothing else changed
pub record DropsCode (first : ℕ) (old new : Nodes) (code : ℕ) : Type 0 where
  pub node : first ≤ code → new ≡ with_uses old (code - first) (uses_at old (code - first) - 1)
  pub none : code < first → new ≡ old

-- each code of the list names a node that is used, or none, also once those before it took a use each
abbrev pub AreCodesUsed : ℕ → Nodes → List (ℕ × ℕ) → Type 0
AreCodesUsed first a [] = Unit {0}
AreCodesUsed first a (e ∷ list) =
    IsCodeUsed first a e.0
    × ((b : Nodes) → DropsCode first a b e.0
    → IsCodeUsed first b e.1 × ((d : Nodes) → DropsCode first b d e.1 → AreCodesUsed first d list))

-- each code of the list took a use, one after the other
abbrev pub DropsCodes : ℕ → Nodes → Nodes → List (ℕ × ℕ) → Type 0
DropsCodes first old new [] = new ≡ old
DropsCodes first old new (e ∷ list) =
    (b : Nodes) × (d : Nodes) × DropsCode first old b e.0 × DropsCode first b d e.1 × DropsCodes first d new list

-- a linked node without uses was removed with the uses of its list, and what holds of all nodes holds then
pub record HasRetired (first : ℕ) (old new : Nodes) (n : ℕ) (key : ℕ × List (ℕ × ℕ)) : Type 0 where
  pub idle : IsIdle old n
  pub was : get old.linked n ≡ Some key
  pub drops : DropsCodes first (removed (unlinked old n key) n key.1) new key.1
  pub nodes : IsNodes new

-- so many were removed so, one after the other
pub data HaveRetired (first : ℕ) (old : Nodes) : Nodes → ℕ → Type 0 where
  none_retired : HaveRetired first old old 0
  one_more : {a b : Nodes} {n count : ℕ} {key : ℕ × List (ℕ × ℕ)} → HaveRetired first old a count →
      HasRetired first a b n key → HaveRetired first old b (suc count)

-- each linked node without uses may be removed so, also once others were
abbrev pub MayRetire : ℕ → Nodes → Type 0
MayRetire first old =
    (a : Nodes) (count n : ℕ) (key : ℕ × List (ℕ × ℕ)) → HaveRetired first old a count → IsIdle a n
    → get a.linked n ≡ Some key → AreCodesUsed first (removed (unlinked a n key) n key.1) key.1
