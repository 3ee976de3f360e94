-- Marks: a table with another one is valid, and what keeps them 0.
use Rattle.std.proofs.Common.{◌≡◌, ℕ, ◌+◌, List, Option, Some, None, refl, sym, ap, subst, ◌∙◌}
use Rattle.std.specs.Option.{IsSome}
use Rattle.std.specs.FinMap.{FinMap, get, get-empty, insert, remove}
use Rattle.std.specs.Ordering.{nat_cmp}
use Rattle.std.proofs.lemmas.Bool.{cases_eq}
use Rattle.sd_runs.proofs.Maps.{get_insert_same, get_insert_other, get_remove_same, get_remove_other}
use Rattle.sd_runs.proofs.Places.{by_cases}
use Rattle.sd_vtree.specs.Numbered.{Numbered}
use Rattle.sd_unique.specs.Nodes.{Nodes, IsNodes}
use Rattle.sd_unique.specs.Relinking.{with_mark as with_mark_of_node}
use Rattle.sd_manager.specs.Table.{Table, no_table}
use Rattle.sd_manager.specs.Shown.{IsNodeOf}
use Rattle.sd_manager.specs.Valid.{IsTable}
use Rattle.sd_manager.specs.Stored.{table_of, IsStored}
use Rattle.sd_manager.specs.Making.{Extends, with_root, without_root}
use Rattle.sd_manager.specs.Marking.{with_mark, AreUnmarked}
use Rattle.sd_manager.specs.Retiring.{IsRetired}

-- one mark

-- a mark that was there is there
still_marked : (m : FinMap nat_cmp ℕ) (n value q : ℕ) → IsSome (get m q) → IsSome (get (insert m n value) q)
still_marked m n value q some =
    by_cases (λ same. subst IsSome (sym (ap (get (insert m n value)) same ∙ get_insert_same m n value)) refl)
    (λ ne. subst IsSome (sym (get_insert_other m n value q ne)) some) (cases_eq q n)

-- what a code shows does not hang on marks
known_marked : (t : Table) (n value c : ℕ) → IsNodeOf t c → IsNodeOf (with_mark t n value) c
known_marked t n value c h = record { diagram = h.diagram; is = h.is }

-- so the table with a mark is valid
pub table_marked : (t : Table) (n value : ℕ) → IsTable t → IsTable (with_mark t n value)
table_marked t n value i =
    record {
      numbered = i.numbered;
      keys = i.keys;
      canonical = λ q k e settled. known_marked t n value (2050 + q) (i.canonical q k e settled);
      held = λ still root c e. known_marked t n value c (i.held still root c e);
      few_roots = i.few_roots;
      either = i.either;
      at_rest = i.at_rest;
      within = i.within;
      several = i.several;
      marked = λ q k e. still_marked t.marks n value q (i.marked q k e);
      closed = i.closed;
      closed_runs = i.closed_runs;
      closed_roots = i.closed_roots;
      several_runs = i.several_runs;
      total = i.total;
      records_fit = i.records_fit;
      bounded = i.bounded;
      bound_fits = i.bound_fits;
    }

-- and the nodes with it stand for that table
pub stored_marked : (v : Numbered) (a b : Nodes) (m : FinMap nat_cmp ℕ) (e : ℕ) (g : Option ℕ) (n value : ℕ) →
    IsStored a (table_of v a m e g) → b ≡ with_mark_of_node a n value → IsNodes b → IsStored b (table_of v b m e g)
stored_marked v a b m e g n value stored is valid =
    subst (λ x. IsStored x (table_of v x m e g)) (sym is)
    (record {
      table = table_marked (table_of v a m e g) n value stored.table;
      valid = subst IsNodes is valid;
      uses = stored.uses;
    })

-- marks that are 0

-- a table of no nodes has no marks
pub unmarked_new : (v : Numbered) (bound : ℕ) → AreUnmarked (no_table v bound)
unmarked_new v bound n some =
    let bad = subst IsSome (get-empty nat_cmp n) some in cc

-- where nothing is marked, nothing is after new nodes
pub unmarked_extended : (old new : Table) → Extends old new → AreUnmarked old → AreUnmarked new
unmarked_extended old new x h n some = go (get old.linked n) refl
  where
    go : (o : Option (ℕ × List (ℕ × ℕ))) → get old.linked n ≡ o → get new.marks n ≡ Some 0
    go None e = x.fresh n e some
    go (Some k) e = x.marks n k e ∙ h n (subst IsSome (sym e) refl)

-- nor after a root is held, or taken away
pub unmarked_rooted : (t : Table) (root c : ℕ) → AreUnmarked t → AreUnmarked (with_root t root c)
unmarked_rooted t root c h = h

pub unmarked_unrooted : (t : Table) (root : ℕ) → AreUnmarked t → AreUnmarked (without_root t root)
unmarked_unrooted t root h = h

-- nor after a node is taken away
pub unmarked_retired : (old new : Table) (n : ℕ) → IsRetired old new n → AreUnmarked old → AreUnmarked new
unmarked_retired old new n r h =
    subst AreUnmarked (sym r.is) (λ q some.
    by_cases
    (λ same.
    let bad = subst IsSome (ap (get (remove old.linked n)) same ∙ get_remove_same old.linked n) some in
    absurd (cc (bad)))
    (λ ne.
    get_remove_other old.marks n q ne ∙ h q (subst IsSome (get_remove_other old.linked n q ne) some))
    (cases_eq q n))
