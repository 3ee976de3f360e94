-- Equal functions are equal nodes.
use Rattle.std.proofs.Common.{◌≡◌, ◌↔◌, ℕ, Bool, eqb, List, length, Some, IsTrue, Result, Ok, Err, IfOk, sym}
use Rattle.std.proofs.Common.{ap, subst, ◌∙◌}
use Rattle.std.proofs.lemmas.Bool.{eqb-true}
use Rattle.std.specs.FinMap.{get}
use Rattle.sd_runs.proofs.Places.{eqb_same}
use Rattle.sd_model.specs.Tree.{leaves}
use Rattle.sd_model.specs.Diagram.{Diagram, meaning}
use Rattle.sd_model.proofs.OverVtree.{unique_lem}
use Rattle.sd_vtree.specs.Numbered.{plain_tree}
use Rattle.sd_laws.proofs.Codes.{one_diagram, one_code}
use Rattle.sd_manager.specs.Table.{Table}
use Rattle.sd_manager.specs.Shown.{ShowsCanonical, IsNodeOf, HoldsDiagram, IsPartitionAt}
use Rattle.sd_manager.specs.Making.{IsMade}
use Rattle.sd_runs.specs.declared.error.TakeError.{TakeError}
use Rattle.sd_manager.specs.Valid.{IsTable}

-- one code shows one diagram
pub shown_once : (t : Table) → IsTable t → (c : ℕ) (x y : Diagram) → ShowsCanonical t c x → ShowsCanonical t c y → x ≡ y
shown_once t i c x y h k = one_diagram t.vtree (get t.linked) i.numbered x c y h.shows k.shows

-- and one diagram has one code
pub code_once : (t : Table) → IsTable t → (c b : ℕ) (x : Diagram) → ShowsCanonical t c x → ShowsCanonical t b x → c ≡ b
code_once t i c b x h k = one_code t.vtree (get t.linked) i.keys x c b h.shows k.shows

-- two codes show one diagram exactly where they are one code
pub same_code : (t : Table) → IsTable t → (a b : ℕ) (x y : Diagram) → ShowsCanonical t a x → ShowsCanonical t b y
    → (r : Bool) →
    r ≡ eqb a b → IsTrue r ↔ (x ≡ y)
same_code t i a b x y h k r e = (
  λ yes.
      let codes : a ≡ b = eqb-true a b (sym e ∙ yes) in
      shown_once t i b x y (subst (λ c. ShowsCanonical t c x) codes h) k,
  λ same.
      let codes : a ≡ b = code_once t i a b y (subst (ShowsCanonical t a) same h) k in
      e ∙ ap (λ c. eqb c b) codes ∙ eqb_same b,
)

-- and exactly where the diagrams are one function
pub same_function : (t : Table) → IsTable t → (a b : ℕ) (x y : Diagram) → ShowsCanonical t a x → ShowsCanonical t b y
    → (r : Bool) →
    r ≡ eqb a b →
    IsTrue r ↔ ((assignment : List Bool) → length assignment ≡ leaves (plain_tree t.vtree) → meaning x assignment
    ≡ meaning y assignment)
same_function t i a b x y h k r e =
    let both = same_code t i a b x y h k r e in (
      λ yes assignment fits. ap (λ d. meaning d assignment) (both.0 yes),
      λ same. both.1 (unique_lem (plain_tree t.vtree) x y i.numbered.vtree h.canonical k.canonical same),
    )

-- the code that a root holds
pub held_code : (t : Table) (root c : ℕ) (d : Diagram) → get t.roots root ≡ Some c → HoldsDiagram t root d →
    ShowsCanonical t c d
held_code t root c d e h =
    let there : Some h.code ≡ Some c = sym h.held ∙ e in
    let same : h.code ≡ c = cc in
    subst (λ x. ShowsCanonical t x d) same h.is

-- what was made is known
pub made_known : (old new : Table) (place : ℕ) (pairs : List (ℕ × ℕ)) (ds : List (Diagram × Diagram)) →
    IsPartitionAt old place pairs ds → (r : Result ℕ TakeError) →
    IfOk r (λ c. (ds : List (Diagram × Diagram)) → IsPartitionAt old place pairs ds → IsMade new c ds) →
    IfOk r (λ c. IsNodeOf new c)
made_known old new place pairs ds partition (Ok c) made =
    let is = made ds partition in record { diagram = is.diagram; is = is.is }
made_known old new place pairs ds partition (Err e) made = tt
