-- A detached node is linked with another list: the nodes afterwards, and what they stand for.
use Rattle.std.proofs.Common.{◌≡◌, ◌⊎◌, inl, inr, ℕ, ◌+◌, ◌≤◌, List, length, Option, Some, None, sym, ap, ◌∙◌}
use Rattle.std.proofs.lemmas.Bool.{cases_eq}
use Rattle.std.specs.Ordering.{nat_cmp}
use Rattle.std.specs.FinMap.{FinMap, get, insert, remove}
use Rattle.sd_runs.proofs.Maps.{same_at_each, get_insert_other, get_remove_same, get_remove_other}
use Rattle.sd_runs.proofs.Places.{by_cases}
use Rattle.sd_vtree.specs.Numbered.{Numbered}
use Rattle.sd_unique.specs.Nodes.{Nodes, IsNodes}
use Rattle.sd_manager.specs.Table.{key_at, uses_of}
use Rattle.sd_manager.specs.Shown.{AreThere}
use Rattle.sd_manager.specs.Stored.{table_of, IsStored}
use Rattle.sd_manager.specs.Moving.{FitsNode, IsAscending, IsAbsent}
use Rattle.sd_manager.proofs.LinkedUnder.{linked_table, key_split}
use Rattle.sd_manager.proofs.Reading.{detached_key}

-- an entry that was put in and taken out again leaves what is left without its key
pub taken_again : {X : Type 0} (m : FinMap nat_cmp X) (k : ℕ) (x : X) → remove (insert m k x) k ≡ remove m k
taken_again m k x =
    same_at_each _ _ (λ q. by_cases
    (λ same.
    ap (get (remove (insert m k x) k)) same ∙ get_remove_same (insert m k x) k
    ∙ sym (ap (get (remove m k)) same ∙ get_remove_same m k))
    (λ ne.
    get_remove_other (insert m k x) k q ne ∙ get_insert_other m k x q ne ∙ sym (get_remove_other m k q ne))
    (cases_eq q k))

-- and where nothing stood there before, the whole map
pub taken_out : {X : Type 0} (m : FinMap nat_cmp X) (k : ℕ) (x : X) → get m k ≡ None → remove (insert m k x) k ≡ m
taken_out m k x none =
    same_at_each _ _ (λ q. by_cases
    (λ same.
    ap (get (remove (insert m k x) k)) same ∙ get_remove_same (insert m k x) k ∙ sym (ap (get m) same ∙ none))
    (λ ne. get_remove_other (insert m k x) k q ne ∙ get_insert_other m k x q ne)
    (cases_eq q k))

-- the nodes with a detached node linked under a key, and with other runs and uses
abbrev pub relisted : Nodes → ℕ → ℕ × List (ℕ × ℕ) → FinMap nat_cmp (List (ℕ × ℕ)) → FinMap nat_cmp ℕ →
    FinMap nat_cmp ℕ → ℕ → Nodes
relisted a n key loose uses free extent =
    record a {
      linked = insert a.linked n key;
      detached = remove a.detached n;
      loose = loose;
      uses = uses;
      free = free;
      extent = extent;
    }

module _ (v : Numbered) (a : Nodes) (m : FinMap nat_cmp ℕ) (e : ℕ) (g : Option ℕ)
    (stored : IsStored a (table_of v a m e g)) (n place : ℕ) (former : ℕ × List (ℕ × ℕ)) (list : List (ℕ × ℕ))
    (was : get a.detached n ≡ Some former) (fits : FitsNode (table_of v a m e g) place list)
    (up : IsAscending list) (absent : IsAbsent (table_of v a m e g) place list)
    (loose : FinMap nat_cmp (List (ℕ × ℕ))) (uses free : FinMap nat_cmp ℕ) (extent : ℕ) where
  -- a node afterwards is one that there was
  node_before : (q : ℕ) (k : ℕ × List (ℕ × ℕ)) →
      key_at (table_of v (relisted a n (place, list) loose uses free extent) m e g) q ≡ Some k →
      (l : ℕ × List (ℕ × ℕ)) × (key_at (table_of v a m e g) q ≡ Some l)
  node_before q k at =
      go (key_split (table_of v a m e g) stored.table n former was (place, list) q k at)
    where
      go : ((q ≡ n) × ((place, list) ≡ k)) ⊎ ((¬ (q ≡ n)) × (key_at (table_of v a m e g) q ≡ Some k)) →
          (l : ℕ × List (ℕ × ℕ)) × (key_at (table_of v a m e g) q ≡ Some l)
      go (inl same) = (
        former,
        ap (key_at (table_of v a m e g)) same.0 ∙ detached_key (table_of v a m e g) stored.table n former
            was,
      )
      go (inr other) = (k, other.1)

  -- The manager is kept as it was, where the loose runs are and the uses are counted.
  pub relisted_stored : IsNodes (relisted a n (place, list) loose uses free extent) →
      ((start : ℕ) (l : List (ℕ × ℕ)) → get loose start ≡ Some l →
      AreThere (table_of v a m e g) l × (2 ≤ length l)) →
      ((q : ℕ) (k : ℕ × List (ℕ × ℕ)) → key_at (table_of v a m e g) q ≡ Some k →
      get uses q ≡ Some (uses_of (table_of v (relisted a n (place, list) loose uses free extent) m e g) (2050 + q))) →
      IsStored (relisted a n (place, list) loose uses free extent)
      (table_of v (relisted a n (place, list) loose uses free extent) m e g)
  relisted_stored valid runs counts = record {
    table = linked_table (table_of v a m e g) stored.table n place former list was fits up absent loose free extent
        runs valid.total valid.records_fit valid.bounded;
    valid = valid;
    uses = λ q k at. let old = node_before q k at in counts q old.0 old.1;
  }
