-- The node of the root of records.
use Rattle.std.proofs.Common.{◌≡◌, ℕ, Bool, List, length, sym, ◌∙◌, ap, subst}
use Rattle.sd_model.specs.Diagram.{Diagram}
use Rattle.sd_vtree.specs.Numbered.{plain_tree}
use Rattle.sd_manager.specs.Table.{Table}
use Rattle.sd_manager.specs.Shown.{ShowsCanonical}
use Rattle.sd_manager.specs.Making.{Extends}
use Rattle.sd_manager.specs.Valid.{IsTable}
use Rattle.sd_apply.specs.Answers.{HasAnswer}
use Rattle.sd_records.specs.declared.records.Head.{Head}
use Rattle.sd_records.specs.Records.{FlatDiagram, Unfolds, UnfoldsCanonical, UnfoldToValue, IsBefore, AreRecords}
use Rattle.sd_records.specs.Stored.{entries_of, flat_of, ref_of}
use Rattle.sd_records.specs.Reading.{node_of, AreRead}
use Rattle.sd_records.proofs.Entries.{length_entries}
use Rattle.sd_records.proofs.Reading.{ref_shown, root_before}
use Rattle.sd_records.proofs.Unfolding.{one_unfolding}

-- the records that are read, and the nodes of all their entries
pub record AreAllRead (t : Table) (r : FlatDiagram) (root : ℕ) (nodes : List ℕ) : Type 0 where
  pub read : AreRead t r.entries nodes
  pub all : length nodes ≡ length r.entries
  pub root_is : ref_of root ≡ r.root

-- from the parts of which records are made
pub all_read : (t : Table) (r : FlatDiagram) (inner heads : List Head) (kept pairs : List (ℕ × ℕ)) (root : ℕ)
    (nodes lent : List ℕ) → flat_of inner kept root ≡ r → heads ≡ inner → pairs ≡ kept
    → AreRead t (entries_of heads pairs) nodes → length nodes ≡ length heads → lent ≡ nodes → AreAllRead t r root lent
all_read t r inner heads kept pairs root nodes lent view first second read all same =
    let is : entries_of heads pairs ≡ r.entries =
    ap (λ l. entries_of l pairs) first ∙ ap (entries_of inner) second ∙ ap (λ f. f.entries) view in
    record {
      read = subst (AreRead t r.entries) (sym same) (subst (λ l. AreRead t l nodes) is read);
      all = ap length same ∙ all ∙ sym (length_entries heads pairs) ∙ ap length is;
      root_is = ap (λ f. f.root) view;
    }

-- the root is an entry that was read, or none
pub root_there : (t : Table) (old : Table) (r : FlatDiagram) (root : ℕ) (nodes : List ℕ)
    → AreRecords (plain_tree old.vtree) r → AreAllRead t r root nodes → IsBefore (length nodes) (ref_of root)
root_there t old r root nodes are read =
    subst (λ n. IsBefore n (ref_of root)) (sym read.all)
    (subst (IsBefore (length r.entries)) (sym read.root_is)
    (root_before (plain_tree old.vtree) r.entries r.root are.root.0 are.root.1.unfolds))

-- its node shows what it unfolds to
pub root_shown : (old new : Table) → IsTable new → Extends old new → (r : FlatDiagram) (root : ℕ) (nodes : List ℕ)
    (node : ℕ) → AreRecords (plain_tree old.vtree) r → AreAllRead new r root nodes → node ≡ node_of nodes (ref_of root)
    → (d : Diagram) → Unfolds (plain_tree old.vtree) r.entries r.root d → ShowsCanonical new node d
root_shown old new table kept r root nodes node are read is d unfolds =
    let now : AreRecords (plain_tree new.vtree) r =
    subst (λ v. AreRecords (plain_tree v) r) (sym kept.vtree) are in
    let here : Unfolds (plain_tree new.vtree) r.entries r.root d =
    subst (λ v. Unfolds (plain_tree v) r.entries r.root d) (sym kept.vtree) unfolds in
    let same : now.root.0 ≡ d =
    one_unfolding new.vtree table.numbered r.entries now.entries r.root now.root.0 d now.root.1.unfolds here in
    subst (λ c. ShowsCanonical new c d) (sym (is ∙ ap (node_of nodes) read.root_is))
    (ref_shown new table r.entries nodes read.read r.root
    (subst (IsBefore (length nodes)) read.root_is (root_there new old r root nodes are read)) d
    (subst (UnfoldsCanonical (plain_tree new.vtree) r.entries r.root) same now.root.1))

-- and so it has the value of the records
pub value_read : (old new : Table) (r : FlatDiagram) (node : ℕ)
    → ((d : Diagram) → Unfolds (plain_tree old.vtree) r.entries r.root d → ShowsCanonical new node d)
    → (f : List Bool → Bool) → UnfoldToValue (plain_tree old.vtree) r f → HasAnswer new f node
value_read old new r node shown f h =
    record { diagram = h.diagram; is = shown h.diagram h.is.unfolds; value = h.value }
