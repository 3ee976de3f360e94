-- Assignments with one variable set, and trees in which a variable occurs or not.
use Rattle.std.proofs.Common.{◌≡◌, ℕ, ◌≤◌, Bool, true, false, ◌||◌, List, Option, Some, None, inl, inr}
use Rattle.std.proofs.Common.{refl, sym, ◌∙◌, ap, subst, eq-eqb, ne_eqb, if◌then◌else◌}
use Rattle.std.proofs.lemmas.Bool.{cases_eq}
use Rattle.sd_model.specs.Assignment.{value_in, with_value}
use Rattle.sd_model.specs.Tree.{Tree, Leaf, Node, right_base}
use Rattle.sd_model.proofs.Blend.{AgreeOn, occurs}
use Rattle.sd_model.proofs.Changed.{value_changed, value_kept}
use Rattle.sd_vtree.specs.Numbered.{or_else}
use Rattle.sd_laws.specs.Parts.{leaf_position}

-- where the variable does not occur, setting it changes nothing
pub set_outside : (t : Tree) (x : ℕ) → occurs t x ≡ false → (a : List Bool) (s : Bool) →
    AgreeOn t (with_value a x s) a
set_outside t x none a s = λ y o. value_kept a x y s (λ e. apart y o e)
  where
    apart : (y : ℕ) → occurs t y ≡ true → x ≡ y → ⊥
    apart y o e = cc (ap (occurs t) e, o, none)

-- assignments that agree do so where the variable is set in both
pub set_both : (t : Tree) (x : ℕ) → 1 ≤ x → (s : Bool) (a b : List Bool) → AgreeOn t a b →
    AgreeOn t (with_value a x s) (with_value b x s)
set_both t x low s a b h = λ y o. elim (cases_eq x y) [
  | inl e ↦ subst (λ z. value_in (with_value a x s) z ≡ value_in (with_value b x s) z) e
      (value_changed a x s low ∙ sym (value_changed b x s low))
  | inr d ↦ value_kept a x y s d ∙ h y o ∙ sym (value_kept b x y s d)
]

-- a variable that occurs has a leaf
pub occurring_leaf : (t : Tree) (b x : ℕ) → occurs t x ≡ true →
    (p : ℕ) × (leaf_position t b x ≡ Some p)
occurring_leaf (Leaf y) b x o = elim (cases_eq y x) [
  | inl e ↦ (b, ap (λ c. if c then Some b else None) (eq-eqb y x e))
  | inr d ↦ absurd (cc (o, ne_eqb x y (λ e. d (sym e))))
]
occurring_leaf (Node l r) b x o =
    go (λ q. occurring_leaf l b x q) (λ q. occurring_leaf r (right_base l b) x q) (occurs l x) refl o
  where
    pick : (p : ℕ) → leaf_position r (right_base l b) x ≡ Some p → (o : Option ℕ) →
        leaf_position l b x ≡ o →
        (q : ℕ) × (or_else (leaf_position l b x) (leaf_position r (right_base l b) x) ≡ Some q)
    pick p e None k = (p, ap (λ o. or_else o (leaf_position r (right_base l b) x)) k ∙ e)
    pick p e (Some q) k = (q, ap (λ o. or_else o (leaf_position r (right_base l b) x)) k)

    go : (occurs l x ≡ true → (p : ℕ) × (leaf_position l b x ≡ Some p)) →
        (occurs r x ≡ true → (p : ℕ) × (leaf_position r (right_base l b) x ≡ Some p)) →
        (c : Bool) → occurs l x ≡ c → (c || occurs r x) ≡ true →
        (q : ℕ) × (or_else (leaf_position l b x) (leaf_position r (right_base l b) x) ≡ Some q)
    go il ir true e o =
        let i = il e in (i.0, ap (λ q. or_else q (leaf_position r (right_base l b) x)) i.1)
    go il ir false e o = let i = ir o in pick i.0 i.1 (leaf_position l b x) refl
