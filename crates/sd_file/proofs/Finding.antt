-- What an empty map has.
use Rattle.std.proofs.Common.{◌≡◌, ℕ, None, ap}
use Rattle.std.specs.Ordering.{nat_cmp}
use Rattle.std.specs.BTreeMap as tree
use Rattle.std.specs.BTreeMap.{BTreeMap, is_at}
use Rattle.std.specs.Map.{lookup}

-- an empty map has nothing
pub nothing : {A : Type 0} (m : BTreeMap ℕ A) → tree.IsEmpty m → (c : ℕ) → tree.get nat_cmp m c ≡ None
nothing m e c = ap (lookup (is_at (nat_cmp c))) e
