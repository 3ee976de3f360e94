-- What the calls of a move make of the nodes, looked up.
use Rattle.std.proofs.Common.{◌≡◌, ◌≢◌, ℕ, List, Some, None, ◌∙◌}
use Rattle.std.specs.FinMap.{get, insert, remove}
use Rattle.sd_runs.proofs.Maps.{get_insert_same, get_insert_other, get_remove_same, get_remove_other}
use Rattle.sd_unique.specs.Nodes.{Nodes}
use Rattle.sd_unique.specs.Relinking.{unlinked, relinked, with_key, exchanged, removed}

-- an unlinked node is detached
unlinked_there : (a : Nodes) (n : ℕ) (key : ℕ × List (ℕ × ℕ)) →
    (get (unlinked a n key).linked n ≡ None) × (get (unlinked a n key).detached n ≡ Some key)
unlinked_there a n key = (get_remove_same a.linked n, get_insert_same a.detached n key)

-- a relinked one is as it was
relinked_there : (a : Nodes) (n : ℕ) (key : ℕ × List (ℕ × ℕ)) →
    (get (relinked (unlinked a n key) n key).linked n ≡ Some key)
    × (get (relinked (unlinked a n key) n key).detached n ≡ None)
relinked_there a n key = (
  get_insert_same (remove a.linked n) n key,
  get_remove_same (insert a.detached n key) n,
)

-- and so is each other node
relinked_others : (a : Nodes) (n : ℕ) (key : ℕ × List (ℕ × ℕ)) (m : ℕ) → m ≢ n →
    (get (relinked (unlinked a n key) n key).linked m ≡ get a.linked m)
    × (get (relinked (unlinked a n key) n key).detached m ≡ get a.detached m)
relinked_others a n key m d = (
  get_insert_other (remove a.linked n) n key m d ∙ get_remove_other a.linked n m d,
  get_remove_other (insert a.detached n key) n m d ∙ get_insert_other a.detached n key m d,
)

-- a node of another place has that place, and its list
retagged_there : (a : Nodes) (n place : ℕ) (list : List (ℕ × ℕ)) →
    get (with_key a n (place, list)).detached n ≡ Some (place, list)
retagged_there a n place list = get_insert_same a.detached n (place, list)

-- after an exchange the node has the list of the run, its own is loose, and the run is not
exchanged_there : (a : Nodes) (n place start : ℕ) (list : List (ℕ × ℕ)) (old : ℕ) (former : List (ℕ × ℕ)) →
    start ≢ old →
    (get (exchanged a n place start list old former).detached n ≡ Some (place, list))
    × ((get (exchanged a n place start list old former).loose old ≡ Some former)
    × (get (exchanged a n place start list old former).loose start ≡ None))
exchanged_there a n place start list old former d = (
  get_insert_same a.detached n (place, list),
  (
    get_insert_same (remove a.loose start) old former,
    get_insert_other (remove a.loose start) old former start d ∙ get_remove_same a.loose start,
  ),
)

-- a removed node is gone, with its count of uses
removed_there : (a : Nodes) (n : ℕ) (list : List (ℕ × ℕ)) →
    (get (removed a n list).detached n ≡ None) × (get (removed a n list).uses n ≡ None)
removed_there a n list = (get_remove_same a.detached n, get_remove_same a.uses n)
