-- What holds of every manager.
use Rattle.std.specs.Prelude.{◌≡◌, ◌⊎◌, ℕ, ◌+◌, ◌<◌, ◌≤◌, ◌^◌, List, length, Some, None}
use Rattle.std.specs.List.{sum_by}
use Rattle.std.specs.Option.{IsSome}
use Rattle.std.specs.FinMap.{empty, get, len, values}
use Rattle.sd_vtree.specs.Numbered.{IsNumbered, IsUnder}
use Rattle.sd_laws.specs.Shown.{AreKeys}
use Rattle.sd_manager.specs.Table.{Table, key_at}
use Rattle.sd_manager.specs.Shown.{IsNodeOf, HasNode, AreThere}

-- the place is not above the vtree node at which a move is going on
abbrev pub IsSettled : Table → ℕ → Type 0
IsSettled t place = (x : ℕ) → t.moving ≡ Some x → (x ≡ place) ⊎ (¬ IsUnder t.vtree x place)

-- the lengths of the lists of all nodes and loose runs together
abbrev pub total_length : Table → ℕ
total_length t =
    sum_by (λ (k : ℕ × List (ℕ × ℕ)). length k.1) (values t.linked)
    + sum_by (λ (k : ℕ × List (ℕ × ℕ)). length k.1) (values t.detached)
    + sum_by length (values t.loose)

-- Every linked node shows a diagram that is canonical for the vtree, but for those above the place of a move that is
-- going on. No two linked nodes have one place and one list, and each list ascends by the codes of its primes.
-- The codes that stand in lists and loose runs and that roots hold are of constants, literals of the vtree and nodes.
pub record IsTable (t : Table) : Type 0 where
  pub numbered : IsNumbered t.vtree
  pub keys : AreKeys (get t.linked)
  pub canonical : (n : ℕ) (k : ℕ × List (ℕ × ℕ)) → get t.linked n ≡ Some k → IsSettled t k.0 → IsNodeOf t (2050 + n)
  -- each root holds a node that shows a canonical diagram
  pub held : t.moving ≡ None → (root c : ℕ) → get t.roots root ≡ Some c → IsNodeOf t c
  pub few_roots : len t.roots < 2 ^ 32
  -- no number is both linked and detached, and none is detached outside a move
  pub either : (n : ℕ) (k : ℕ × List (ℕ × ℕ)) → get t.linked n ≡ Some k → get t.detached n ≡ None
  pub at_rest : t.moving ≡ None → t.detached ≡ empty
  pub within : (n : ℕ) (k : ℕ × List (ℕ × ℕ)) → key_at t n ≡ Some k → n < t.records
  pub several : (n : ℕ) (k : ℕ × List (ℕ × ℕ)) → key_at t n ≡ Some k → 2 ≤ length k.1
  pub marked : (n : ℕ) (k : ℕ × List (ℕ × ℕ)) → key_at t n ≡ Some k → IsSome (get t.marks n)
  -- the codes in the list of a node, linked or detached, are there
  pub closed : (n : ℕ) (k : ℕ × List (ℕ × ℕ)) → key_at t n ≡ Some k → AreThere t k.1
  -- so are those in a loose run
  pub closed_runs : (start : ℕ) (list : List (ℕ × ℕ)) → get t.loose start ≡ Some list → AreThere t list
  -- and so is the code that a root holds
  pub closed_roots : (root c : ℕ) → get t.roots root ≡ Some c → HasNode t c
  -- a loose run has two elements or more, as the list of a node has
  pub several_runs : (start : ℕ) (list : List (ℕ × ℕ)) → get t.loose start ≡ Some list → 2 ≤ length list
  pub total : total_length t ≤ t.extent
  pub records_fit : t.records ≤ t.extent
  pub bounded : t.extent ≤ t.bound
  pub bound_fits : t.bound < 2 ^ 31
