-- Diagrams that are canonical for a subtree, and the same ones seen from a tree above it.
use Rattle.std.proofs.Common.{◌≡◌, ℕ, ◌+◌, ◌*◌, ◌≤◌, ◌<◌, Bool, true, List, []}
use Rattle.std.proofs.Common.{sym, ◌∙◌, ap, arith}
use Rattle.std.proofs.Common.{length-append}
use Rattle.sd_model.specs.Tree.{Tree, Leaf, Node, leaves, variables, position}
use Rattle.sd_model.specs.Diagram.{Diagram, Elements, meaning, some_element}
use Rattle.sd_model.specs.Diagram.{is_constant}
use Rattle.sd_model.specs.Canonical.{IsCanonical, canonical_bottom, canonical_top, canonical_literal}
use Rattle.sd_model.specs.Canonical.{canonical_in_left, canonical_in_right, canonical_decomposition}
use Rattle.sd_model.proofs.Blend.{IsApart, AgreeOn, agree_left, agree_right, blend, blend_left, blend_right}
use Rattle.sd_model.proofs.Blend.{value_left, value_right, depends}
use Rattle.sd_model.proofs.Valued.{Decomposes, parts, constant_only}
use Rattle.sd_model.proofs.Dependence.{DependsBeside, depends_on_left, depends_on_right}
use Rattle.sd_model.proofs.Unique.{unique}
pub use Rattle.sd_laws.specs.Depends.{DependsOn}
use Rattle.sd_laws.specs.Parts.{IsPart, here, in_left, in_right, HasPosition}
use Rattle.sd_laws.proofs.Joining.{lift_left, lift_right}

-- up and down

-- what is canonical for a subtree is canonical for each tree above it
pub canonical_lifts : {s t : Tree} {c b : ℕ} → IsPart s c t b → (d : Diagram) → IsCanonical s c d → IsCanonical t b d
canonical_lifts here d k = k
canonical_lifts (in_left {l = l} {r = r} {b = b} part) d k = lift_left l r b d (canonical_lifts part d k)
canonical_lifts (in_right {l = l} {r = r} {b = b} part) d k = lift_right l r b d (canonical_lifts part d k)

-- a subtree has no variable on both sides of a node either
pub part_apart : (n : ℕ) {s t : Tree} {c b : ℕ} → IsPart s c t b → IsApart n t → IsApart n s
part_apart n here a = a
part_apart n (in_left part) a = part_apart n part a.1
part_apart n (in_right part) a = part_apart n part a.2

-- a subtree of a subtree
pub part_trans : {s t u : Tree} {c b e : ℕ} → IsPart s c t b → IsPart t b u e → IsPart s c u e
part_trans p here = p
part_trans p (in_left q) = in_left (part_trans p q)
part_trans p (in_right q) = in_right (part_trans p q)

-- two diagrams of a subtree with one meaning are equal
pub same_diagram : (n : ℕ) {s t : Tree} {c b : ℕ} → IsApart n t → IsPart s c t b → (d e : Diagram) →
    IsCanonical s c d → IsCanonical s c e → ((a : List Bool) → meaning d a ≡ meaning e a) → d ≡ e
same_diagram n apart part d e k j same = unique n (part_apart n part apart) k j same

-- what depends on a subtree's variables

-- what agrees on a tree agrees on its subtrees
pub part_agree : {s t : Tree} {c b : ℕ} → IsPart s c t b → (x y : List Bool) → AgreeOn t x y → AgreeOn s x y
part_agree here x y h = h
part_agree (in_left {l = l} {r = r} part) x y h = part_agree part x y (agree_left l r x y h)
part_agree (in_right {l = l} {r = r} part) x y h = part_agree part x y (agree_right l r x y h)

-- what depends on a subtree depends on the tree
depends_above : {s t : Tree} {c b : ℕ} → IsPart s c t b → (f : List Bool → Bool) → DependsOn s f → DependsOn t f
depends_above part f h x y a = h x y (part_agree part x y a)

-- a diagram of the right child that depends on the left child is a constant
right_constant : (n : ℕ) (l r : Tree) (base : ℕ) (d : Diagram) → IsApart n (Node l r) → IsCanonical r base d →
    DependsOn l (meaning d) → is_constant d ≡ true
right_constant n l r base d apart k h =
    constant_only n apart.2 k (meaning d [])
    (λ a. sym (value_right n l apart k [] a) ∙ h (blend n l [] a) [] (blend_left n l [] a apart.1))

-- and one of the left child that depends on the right child
left_constant : (n : ℕ) (l r : Tree) (base : ℕ) (d : Diagram) → IsApart n (Node l r) → IsCanonical l base d →
    DependsOn r (meaning d) → is_constant d ≡ true
left_constant n l r base d apart k h =
    constant_only n apart.1 k (meaning d [])
    (λ a. sym (value_left n apart.1 k a []) ∙ h (blend n l a []) [] (blend_right n l r a [] apart))

-- a canonical decomposition depends on more than the left child
not_left : (n : ℕ) (l r : Tree) (base : ℕ) (es : Elements) → IsApart n (Node l r) → Decomposes l r base es →
    DependsOn l (some_element es) → ⊥
not_left n l r base es apart dec h =
    let w : DependsBeside l (some_element es) = depends_on_right n apart dec in
    w.differ (h w.one w.another w.agree)

-- and on more than the right child
not_right : (n : ℕ) (l r : Tree) (base : ℕ) (es : Elements) → IsApart n (Node l r) → Decomposes l r base es →
    DependsOn r (some_element es) → ⊥
not_right n l r base es apart dec h =
    let w : DependsBeside r (some_element es) = depends_on_left n apart dec in
    w.differ (h w.one w.another w.agree)

-- a canonical diagram that depends on a subtree's variables alone is canonical for the subtree
pub narrowed : (n : ℕ) {s t : Tree} {c b : ℕ} {d : Diagram} → IsPart s c t b → IsApart n t → IsCanonical t b d →
    DependsOn s (meaning d) → IsCanonical s c d
narrowed n here apart k h = k
narrowed n (in_left part) apart canonical_bottom h = canonical_bottom
narrowed n (in_left part) apart canonical_top h = canonical_top
narrowed n (in_left part) apart (canonical_in_left e k) h = narrowed n part apart.1 k h
narrowed n {d = d} (in_left {l = l} {r = r} {b = b} part) apart (canonical_in_right e k) h =
    absurd (cc (right_constant n l r _ d apart k (depends_above part (meaning d) h), e))
narrowed n (in_left {l = l} {r = r} {b = b} part) apart (canonical_decomposition {elements = es} ps ss partition) h =
    absurd (not_left n l r b es apart (parts ps ss partition) (depends_above part (some_element es) h))
narrowed n (in_right part) apart canonical_bottom h = canonical_bottom
narrowed n (in_right part) apart canonical_top h = canonical_top
narrowed n {d = d} (in_right {l = l} {r = r} {b = b} part) apart (canonical_in_left e k) h =
    absurd (cc (left_constant n l r _ d apart k (depends_above part (meaning d) h), e))
narrowed n (in_right part) apart (canonical_in_right e k) h = narrowed n part apart.2 k h
narrowed n (in_right {l = l} {r = r} {b = b} part) apart (canonical_decomposition {elements = es} ps ss partition) h =
    absurd (not_right n l r b es apart (parts ps ss partition) (depends_above part (some_element es) h))

-- so the answer of an operation on two diagrams of a subtree is one of the subtree
pub narrowed_by : (n : ℕ) {s t : Tree} {c b : ℕ} (z x y : Diagram) (op : Bool → Bool → Bool) → IsPart s c t b →
    IsApart n t → IsCanonical t b z → IsCanonical s c x → IsCanonical s c y →
    ((a : List Bool) → meaning z a ≡ op (meaning x a) (meaning y a)) → IsCanonical s c z
narrowed_by n {s} z x y op part apart k j i value = narrowed n part apart k below
  where
    below : DependsOn s (meaning z)
    below p q agree =
        value p ∙ ap (λ v. op v (meaning y p)) (depends j p q agree) ∙ ap (op (meaning x q)) (depends i p q agree)
        ∙ sym (value q)

-- positions

-- a tree has a leaf
pub leaves_positive : (t : Tree) → 1 ≤ leaves t
leaves_positive (Leaf x) = omega arith
leaves_positive (Node l r) = omega (arith, leaves_positive l, length-append (variables l) (variables r))

-- a node's own position, counted from another base
pub position_from : (t : Tree) (b : ℕ) → position t b ≡ b + position t 0
position_from (Leaf x) b = omega arith
position_from (Node l r) b = omega (arith, leaves_positive l)

-- a subtree's positions are among the tree's
pub part_range : {s t : Tree} {c b : ℕ} → IsPart s c t b → (b ≤ c) × (c + 2 * leaves s ≤ b + 2 * leaves t)
part_range {b = b} here = (omega arith, omega arith)
part_range (in_left {l = l} {r = r} {b = b} part) =
    let h = part_range part in
    (h.0, omega (arith, h.1, length-append (variables l) (variables r)))
part_range (in_right {l = l} {r = r} {b = b} part) =
    let h = part_range part in
    (omega (arith, h.0), omega (arith, h.1, length-append (variables l) (variables r)))

-- a canonical diagram stands among the tree's positions
pub position_within : {t : Tree} {b p : ℕ} {d : Diagram} → IsCanonical t b d → HasPosition d p →
    (b ≤ p) × (p + 1 < b + 2 * leaves t)
position_within canonical_bottom h = absurd h
position_within canonical_top h = absurd h
position_within (canonical_literal s) h = (omega (arith, h), omega (arith, h))
position_within (canonical_in_left {l = l} {r = r} e k) h =
    let w = position_within k h in
    (w.0, omega (arith, w.1, length-append (variables l) (variables r)))
position_within (canonical_in_right {l = l} {r = r} e k) h =
    let w = position_within k h in
    (omega (arith, w.0), omega (arith, w.1, length-append (variables l) (variables r)))
position_within (canonical_decomposition {l = l} {r = r} ps ss partition) h =
    let a = leaves_positive l in
    let b = leaves_positive r in
    (omega (arith, h), omega (arith, h, length-append (variables l) (variables r)))

-- one that stands among a subtree's positions is canonical for the subtree
pub canonical_in : {s t : Tree} {c b p : ℕ} {d : Diagram} → IsPart s c t b → IsCanonical t b d → HasPosition d p →
    c ≤ p → p + 1 < c + 2 * leaves s → IsCanonical s c d
canonical_in here k h low high = k
canonical_in (in_left part) canonical_bottom h low high = absurd h
canonical_in (in_left part) canonical_top h low high = absurd h
canonical_in (in_left part) (canonical_in_left e k) h low high = canonical_in part k h low high
canonical_in (in_left part) (canonical_in_right e k) h low high =
    absurd (omega (arith, high, (part_range part).1, (position_within k h).0))
canonical_in (in_left {l = l} part) (canonical_decomposition ps ss partition) h low high =
    absurd (omega (arith, h, high, (part_range part).1, leaves_positive l))
canonical_in (in_right part) canonical_bottom h low high = absurd h
canonical_in (in_right part) canonical_top h low high = absurd h
canonical_in (in_right part) (canonical_in_left e k) h low high =
    absurd (omega (arith, low, (part_range part).0, (position_within k h).1))
canonical_in (in_right part) (canonical_in_right e k) h low high = canonical_in part k h low high
canonical_in (in_right {l = l} part) (canonical_decomposition ps ss partition) h low high =
    absurd (omega (arith, h, low, (part_range part).0, leaves_positive l))
