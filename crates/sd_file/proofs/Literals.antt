-- The position of a node of a vtree, and the literal that is read of a node, at its leaf.
use Rattle.std.proofs.Common.{◌≡◌, ℕ, ◌≤◌, ◌<◌, Bool, true, false, Some, length, slice_get}
use Rattle.std.proofs.Common.{refl, sym, ◌∙◌, ap, subst, arith, w32}
use Rattle.std.specs.Prelude.{ℤ, pos}
use mir.Val.{SFits, to_z, of_z}
use lib.IntN.{nat_abs}
use lib.Signed.{lt_z}
use Rattle.std.proofs.lemmas.Int.{to_z-of_z}
use Rattle.std.proofs.lemmas.Bool.Decides.{nat_tests}
use Rattle.std.proofs.lemmas.Option.{same_Some}
use Rattle.sd_model.specs.Diagram.{Diagram, Literal}
use Rattle.sd_model.specs.Tree.{leaves}
use Rattle.sd_vtree.specs.Numbered.{Numbered, IsNumbered, numbers, plain_tree, variable_at}
use Rattle.sd_vtree.proofs.Subtrees.{once_numbered, node_within}
use Rattle.sd_vtree.proofs.Times.{one_place, times_slice_get}
use Rattle.sd_laws.proofs.Codes.{leaf_range}
use Rattle.sd_laws.proofs.Leaves.{leaf_number}
use Rattle.sd_manager.specs.Table.{Table}
use Rattle.sd_manager.specs.declared.view.View.TheVariants.{Literal as LiteralView}
use Rattle.sd_manager.specs.Literals.{literal_of}
use Rattle.sd_manager.specs.Views.{IsViewOf}
use Rattle.sd_manager.specs.Valid.{IsTable}

-- a node that stands at a position is one of the vtree
pub stands_within : (t : Numbered) → IsNumbered t → (p u : ℕ) → slice_get (numbers t) p ≡ Some u →
    u < length (numbers t)
stands_within t v p u e = node_within t v u (times_slice_get (numbers t) p u e)

-- it stands at one position
pub same_position : (t : Numbered) → IsNumbered t → (u p q : ℕ) → slice_get (numbers t) p ≡ Some u →
    slice_get (numbers t) q ≡ Some u → p ≡ q
same_position t v u p q = one_place (numbers t) u p q (once_numbered t v u)

-- the variable and the sign of a literal
literal_parts : (x : ℕ) (s : Bool) → 1 ≤ x →
    (nat_abs (literal_of x s) ≡ x) × (lt_z (pos 0) (literal_of x s) ≡ s)
literal_parts x true h = (refl, grind (arith, nat_tests))
literal_parts x false h = (omega arith, refl)

-- as they are read of a signed number
literal_read : (x : ℕ) (s : Bool) (l : ℤ) → SFits w32 l → 1 ≤ x → l ≡ literal_of x s →
    (nat_abs (to_z w32 (of_z w32 l)) ≡ x) × (lt_z (pos 0) (to_z w32 (of_z w32 l)) ≡ s)
literal_read x s l fits h e =
    subst (λ z. (nat_abs z ≡ x) × (lt_z (pos 0) z ≡ s)) (sym (to_z-of_z w32 l fits ∙ e)) (literal_parts x s h)

-- the variable of a literal that is read is one of the vtree
pub literal_range : (t : Table) → IsTable t → (tree : Numbered) → tree ≡ t.vtree → (l : ℤ) → SFits w32 l → (y : ℕ) →
    y ≡ nat_abs (to_z w32 (of_z w32 l)) → (d : Diagram) → IsViewOf t (LiteralView l) d →
    (1 ≤ y) × (y ≤ leaves (plain_tree tree))
literal_range t table tree same l fits y e d h =
    let r = leaf_range (plain_tree t.vtree) table.numbered.vtree 0 h.1 h.0 h.5 in
    let k = literal_read h.1 h.2 l fits r.0 h.4 in (
      omega (arith, e, k.0, r.0),
      omega (arith, e, k.0, r.1, ap (λ z. leaves (plain_tree z)) same),
    )

-- the literal at the leaf of its variable is the one that is shown
pub literal_shown : (t : Table) → IsTable t → (tree : Numbered) → tree ≡ t.vtree → (l : ℤ) → SFits w32 l →
    (u y q : ℕ) → y ≡ nat_abs (to_z w32 (of_z w32 l)) → variable_at tree u ≡ Some y →
    slice_get (numbers tree) q ≡ Some u → (d : Diagram) → IsViewOf t (LiteralView l) d →
    Literal q y (lt_z (pos 0) (to_z w32 (of_z w32 l))) ≡ d
literal_shown t table tree same l fits u y q e leaf at d h =
    let r = leaf_range (plain_tree t.vtree) table.numbered.vtree 0 h.1 h.0 h.5 in
    let k = literal_read h.1 h.2 l fits r.0 h.4 in
    let variable : y ≡ h.1 = e ∙ k.0 in
    let has : variable_at t.vtree u ≡ Some h.1 =
    subst (λ z. variable_at z u ≡ Some y) same leaf ∙ ap (λ x. Some x) variable in
    let n = leaf_number t.vtree table.numbered u h.1 has in
    let place : q ≡ h.0 =
    same_position t.vtree table.numbered u q n.0 (subst (λ z. slice_get (numbers z) q ≡ Some u) same at) n.1
    ∙ same_Some n.0 h.0 (sym n.2 ∙ h.5) in
    ap (λ p. Literal p y (lt_z (pos 0) (to_z w32 (of_z w32 l)))) place
    ∙ ap (λ x. Literal h.0 x (lt_z (pos 0) (to_z w32 (of_z w32 l)))) variable
    ∙ ap (Literal h.0 h.1) k.1 ∙ sym h.3
