-- The inner nodes of a vtree by their positions.
use Rattle.std.proofs.Common.{◌≡◌, ◌⊎◌, inl, inr, ℕ, ◌+◌, ◌*◌, ◌<◌, ◌≤◌, if◌then◌else◌, ◌==◌, Option, Some, None}
use Rattle.std.proofs.Common.{refl, sym, ◌∙◌, ap, arith, length-append, ne_eqb, eq-eqb}
use Rattle.std.proofs.lemmas.Bool.{cases_eq}
use Rattle.std.proofs.lemmas.Option.{same_Some}
use Rattle.sd_model.specs.Tree.{Tree, Leaf, Node, variables, leaves, position, right_base}
use Rattle.sd_vtree.specs.Numbered.{or_else}
use Rattle.sd_laws.specs.Parts.{IsPart, here, in_left, in_right}
use Rattle.sd_laws.proofs.Places.{leaves_positive, part_range}
use Rattle.sd_check.specs.Rules.{Inner, inner_of, inner_at}

-- an inner node with these positions stands in the tree
pub record InnerPart (t : Tree) (base p : ℕ) (i : Inner) : Type 0 where
  pub left : Tree
  pub right : Tree
  pub from : ℕ
  pub part : IsPart (Node left right) from t base
  pub place : position (Node left right) from ≡ p
  pub is : i ≡ inner_of left right from

-- what is found at a position stands there
pub inner_part : (t : Tree) (base p : ℕ) (i : Inner) → inner_at t base p ≡ Some i → InnerPart t base p i
inner_part (Leaf x) base p i e = absurd (cc)
inner_part (Node l r) base p i e =
    go (λ k. inner_part l base p i k) (λ k. inner_part r (right_base l base) p i k) e
    (cases_eq (position (Node l r) base) p)
  where
    below : (inner_at l base p ≡ Some i → InnerPart l base p i) →
        (inner_at r (right_base l base) p ≡ Some i → InnerPart r (right_base l base) p i) →
        (o : Option Inner) → inner_at l base p ≡ o → or_else o (inner_at r (right_base l base) p) ≡ Some i →
        InnerPart (Node l r) base p i
    below il ir (Some j) k f =
        let w = il (k ∙ f) in
        record {
          left = w.left;
          right = w.right;
          from = w.from;
          part = in_left w.part;
          place = w.place;
          is = w.is;
        }
    below il ir None k f =
        let w = ir f in
        record {
          left = w.left;
          right = w.right;
          from = w.from;
          part = in_right w.part;
          place = w.place;
          is = w.is;
        }

    go : (inner_at l base p ≡ Some i → InnerPart l base p i) →
        (inner_at r (right_base l base) p ≡ Some i → InnerPart r (right_base l base) p i) →
        (if position (Node l r) base == p then Some (inner_of l r base)
        else or_else (inner_at l base p) (inner_at r (right_base l base) p))
        ≡ Some i →
        (position (Node l r) base ≡ p) ⊎ (position (Node l r) base ≡ p → ⊥) → InnerPart (Node l r) base p i
    go il ir f (inl h) =
        let own : Some (inner_of l r base) ≡ Some i =
        sym (ap (λ b. if b then Some (inner_of l r base)
        else or_else (inner_at l base p) (inner_at r (right_base l base) p))
        (eq-eqb (position (Node l r) base) p h))
        ∙ f in
        record {
          left = l;
          right = r;
          from = base;
          part = here;
          place = h;
          is = sym (same_Some (inner_of l r base) i own);
        }
    go il ir f (inr h) =
        below il ir (inner_at l base p) refl
        (sym (ap (λ b. if b then Some (inner_of l r base)
        else or_else (inner_at l base p) (inner_at r (right_base l base) p))
        (ne_eqb (position (Node l r) base) p h))
        ∙ f)

-- what is found stands among the tree's positions
pub inner_range : (t : Tree) (base p : ℕ) (i : Inner) → inner_at t base p ≡ Some i →
    (base ≤ p) × (p + 1 < base + 2 * leaves t)
inner_range t base p i e =
    let w = inner_part t base p i e in
    let range = part_range w.part in
    let one = leaves_positive w.left in
    let other = leaves_positive w.right in (
      omega (arith, range.0, w.place, one),
      omega (arith, range.1, w.place, one, other, length-append (variables w.left) (variables w.right)),
    )

-- nothing is found behind the tree's positions
pub none_behind : (t : Tree) (base p : ℕ) → base + 2 * leaves t ≤ p → inner_at t base p ≡ None
none_behind t base p h = go (inner_at t base p) refl
  where
    go : (o : Option Inner) → inner_at t base p ≡ o → inner_at t base p ≡ None
    go None e = e
    go (Some i) e = absurd (omega (arith, h, (inner_range t base p i e).1))

-- another node than the one in hand
pub other_node : (l r : Tree) (base p : ℕ) → (position (Node l r) base ≡ p → ⊥) →
    inner_at (Node l r) base p ≡ or_else (inner_at l base p) (inner_at r (right_base l base) p)
other_node l r base p h =
    ap (λ b. if b then Some (inner_of l r base)
    else or_else (inner_at l base p) (inner_at r (right_base l base) p))
    (ne_eqb (position (Node l r) base) p h)

-- and the node in hand
pub own_node : (l r : Tree) (base p : ℕ) → position (Node l r) base ≡ p →
    inner_at (Node l r) base p ≡ Some (inner_of l r base)
own_node l r base p h =
    ap (λ b. if b then Some (inner_of l r base)
    else or_else (inner_at l base p) (inner_at r (right_base l base) p))
    (eq-eqb (position (Node l r) base) p h)

-- a node of the tree is found at its position
pub part_inner : (l r : Tree) (c : ℕ) {t : Tree} {b : ℕ} → IsPart (Node l r) c t b →
    inner_at t b (position (Node l r) c) ≡ Some (inner_of l r c)
part_inner l r c here =
    ap (λ b. if b then Some (inner_of l r c)
    else or_else (inner_at l c (position (Node l r) c)) (inner_at r (right_base l c) (position (Node l r) c)))
    (eq-eqb (position (Node l r) c) (position (Node l r) c) refl)
part_inner l r c (in_left {l = x} {r = y} {b = b} part) =
    let range = part_range part in
    let one = leaves_positive l in
    let other = leaves_positive r in
    let p = position (Node l r) c in
    other_node x y b p (λ e. omega (arith, e, range.1, one, other, length-append (variables l) (variables r)))
    ∙ ap (λ o. or_else o (inner_at y (right_base x b) p)) (part_inner l r c part)
part_inner l r c (in_right {l = x} {r = y} {b = b} part) =
    let range = part_range part in
    let one = leaves_positive l in
    let other = leaves_positive x in
    let p = position (Node l r) c in
    other_node x y b p (λ e. omega (arith, e, range.0, one, other))
    ∙ ap (λ o. or_else o (inner_at y (right_base x b) p)) (none_behind x b p (omega (arith, range.0, one)))
    ∙ part_inner l r c part
