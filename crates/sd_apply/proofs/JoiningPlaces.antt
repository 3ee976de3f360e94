-- A node and the literals of a group below a vtree node, of which the left child may be a leaf.
use Rattle.std.proofs.Common.{◌≡◌, ℕ, zero, suc, ◌+◌, ◌≤◌, ◌<◌, ℤ, Bool}
use Rattle.std.proofs.Common.{List, [], ◌∷◌, length, drop, Option, Some, None, slice_get, refl, sym, ◌∙◌, ap, subst}
use Rattle.std.proofs.Common.{arith, option_and_then, length-append, ◌||◌, ◌&&◌}
use Rattle.std.specs.FinMap.{get}
use Rattle.std.proofs.Common.{inl, inr}
use Rattle.std.proofs.lemmas.Bool.{cases_lt}
use Rattle.std.proofs.lemmas.Option.{same_Some, none-some}
use Rattle.sd_model.specs.declared.trees.Operation.{Operation}
use Rattle.sd_model.specs.declared.trees.Operation.TheVariants.{And, Or, Xor}
use Rattle.sd_model.specs.Tree.{Tree, Leaf, Node, variables, position, right_base}
use Rattle.sd_model.specs.Assignment.{literal_holds}
use Rattle.sd_model.specs.Diagram.{Diagram, Bottom, Top, Literal, meaning}
use Rattle.sd_model.specs.Canonical.{canonical_literal}
use Rattle.sd_model.specs.Expression.{combine}
use Rattle.sd_model.proofs.Blend.{depends}
use Rattle.sd_vtree.specs.Numbered.{Numbered, NumberedLeaf, NumberedNode, plain_tree, numbers, IsNumbered}
use Rattle.sd_vtree.specs.Numbered.{leaf_variable, variable_at, subtree}
use Rattle.sd_vtree.specs.Numbered.{IsUnder as StandsUnder}
use Rattle.sd_vtree.proofs.Times.{one_place}
use Rattle.sd_vtree.proofs.Subtrees.{once_numbered, inner_part, subtree_in, node_within}
use Rattle.sd_vtree.proofs.Under.{child_right, under_trans}
use Rattle.sd_laws.specs.Depends.{DependsOn}
use Rattle.sd_laws.specs.Parts.{HasPosition}
use Rattle.sd_laws.specs.Shown.{literal_code}
use Rattle.sd_laws.proofs.Codes.{leaf_range}
use Rattle.sd_laws.proofs.Leaves.{leaf_number, literal_node}
use Rattle.sd_laws.proofs.Places.{canonical_in, position_within, leaves_positive}
use Rattle.sd_manager.specs.Table.{Table}
use Rattle.sd_manager.specs.Shown.{ShowsCanonical}
use Rattle.sd_manager.specs.Literals.{code_of_literal}
use Rattle.sd_manager.specs.Making.{Extends}
use Rattle.sd_manager.specs.Valid.{IsTable}
use Rattle.sd_apply.specs.Answers.{HasAnswer}
use Rattle.sd_apply.specs.Places.{plain, tree_at, width, IsCanonicalUnder, IsNodeUnder, IsBelow, IsThere, HasChildren}
use Rattle.sd_apply.specs.Places.{HasPlace}
use Rattle.sd_apply.specs.Group.{group_value}
use Rattle.sd_apply.specs.Halves.{IsLeafFork}
use Rattle.sd_apply.specs.GroupCalls.{IsLiteralBelow, AreLiteralsBelow, joined_value}
use Rattle.sd_apply.specs.GroupCalls.{StandsFrom, StandLower}
use Rattle.sd_apply.proofs.Trees.{children_of, canonical_below, below_canonical, right_tree, right_part}
use Rattle.sd_apply.proofs.Trees.{children_width, width_positive, there_inner, right_there, bottom_under, top_under}
use Rattle.sd_apply.proofs.Listed.{node_on}
use Rattle.sd_apply.proofs.Standing.{stands_here, shown}

-- a constant is below each vtree node
pub constant_under : (t : Table) (u c : ℕ) → c < 2 → IsBelow t u c
constant_under t u zero lt =
    record { diagram = Bottom; is = record { shows = refl; under = bottom_under t.vtree u } }
constant_under t u (suc zero) lt =
    record { diagram = Top; is = record { shows = refl; under = top_under t.vtree u } }
constant_under t u (suc (suc n)) lt = absurd (omega arith)

-- ---- a leaf on the left

-- the tree of a leaf
pub leaf_tree : (t : Numbered) (u x : ℕ) → variable_at t u ≡ Some x → tree_at t u ≡ Leaf x
leaf_tree t u x e = go (subtree t u) e
  where
    go : (o : Option Numbered) → option_and_then leaf_variable o ≡ Some x → plain o ≡ Leaf x
    go None e = absurd (none-some x e)
    go (Some (NumberedLeaf m y)) e = ap Leaf (same_Some y x e)
    go (Some (NumberedNode m l r)) e = absurd (none-some x e)

-- the variable of a leaf is one of at most 1,024
pub fork_range : (t : Numbered) → IsNumbered t → (at u w x : ℕ) → IsLeafFork t at u w x → (1 ≤ x) × (x ≤ 1024)
fork_range t v at u w x f =
    let n = leaf_number t v u x f.leaf in
    let r = leaf_range (plain_tree t) v.vtree 0 x n.0 n.2 in
    (r.0, omega (arith, r.1, v.within_limit))

-- both literals of the variable stand at the leaf
pub fork_literal : (t : Table) → IsTable t → (at u w x : ℕ) → IsLeafFork t.vtree at u w x → (s : Bool) →
    (p : ℕ) × IsNodeUnder t u (literal_code x s) (Literal p x s)
fork_literal t i at u w x f s =
    let n = leaf_number t.vtree i.numbered u x f.leaf in
    let k = literal_node t.vtree (get t.linked) x n.0 s n.2 in (
      n.0,
      record {
        shows = k.shows;
        under = record {
          canonical = k.canonical;
          depends = subst (λ q. DependsOn q (meaning (Literal n.0 x s))) (sym (leaf_tree t.vtree u x f.leaf))
              (depends {t = Leaf x} {base = n.0} (canonical_literal s));
        };
      },
    )

-- ---- to the right of a vtree node

-- what stands behind a vtree node below which it is, is below the right child
pub behind : (t : Table) → IsTable t → (p u w pp po : ℕ) → HasChildren t.vtree p u w → (x : Diagram) →
    IsCanonicalUnder t.vtree p x → HasPosition x po → slice_get (numbers t.vtree) pp ≡ Some p → pp < po →
    IsCanonicalUnder t.vtree w x
behind t i p u w pp po e x h stands np lt =
    let v = i.numbered in
    let f = children_of t.vtree v p u w e in
    let whole = Node (plain_tree f.left) (plain_tree f.right) in
    let c = canonical_below t.vtree v p whole f.base x f.whole f.inner.part h in
    let r = position_within c stands in
    let middle = one_place (numbers t.vtree) p pp (position whole f.base) (once_numbered t.vtree v p) np
    f.inner.number in
    let d = canonical_in (right_part t.vtree p u w f) h.canonical stands
    (omega (arith, middle, lt, leaves_positive (plain_tree f.left)))
    (omega (arith, r.1, length-append (variables (plain_tree f.left)) (variables (plain_tree f.right)))) in
    below_canonical t.vtree w (plain_tree f.right) (right_base (plain_tree f.left) f.base) x
    (right_tree t.vtree p u w f) (right_part t.vtree p u w f) d

-- so are the literals from one on that stands behind it
pub literals_behind : (t : Table) → IsTable t → (p u w pp from next : ℕ) (l : List (ℕ × ℤ)) (e : ℕ × ℤ) →
    HasChildren t.vtree p u w → AreLiteralsBelow t p from l → from ≤ next → slice_get l next ≡ Some e →
    slice_get (numbers t.vtree) pp ≡ Some p → pp < e.0 → AreLiteralsBelow t w next l
literals_behind t i p u w pp from next l e k h order at np lt = record {
  each = λ j d le s.
      let b = h.each j d (omega (arith, order, le)) s in
      record {
        literal = b.literal;
        diagram = b.diagram;
        is = record {
          shows = b.is.shows;
          under = behind t i p u w pp d.0 k b.diagram b.is.under b.stands np
              (omega (arith, lt, h.ascending next j e d le at s));
        };
        stands = b.stands;
        value = b.value;
      };
  ascending = h.ascending;
}

-- no literals are below every vtree node
none_at : (l : List (ℕ × ℤ)) (i : ℕ) (e : ℕ × ℤ) → length l ≤ i → slice_get l i ≡ Some e → ⊥
none_at [] i e le s = none-some e s
none_at (x ∷ l) zero e le s = omega arith
none_at (x ∷ l) (suc i) e le s = none_at l i e (omega arith) s

pub literals_none : (t : Table) (p w from next : ℕ) (l : List (ℕ × ℤ)) → AreLiteralsBelow t p from l →
    length l ≤ next → AreLiteralsBelow t w next l
literals_none t p w from next l h none = record {
  each = λ j d le s. absurd (none_at l j d (omega (arith, none, le)) s);
  ascending = h.ascending;
}

-- the literals in a larger table, and from a later one on
pub literals_on : (old new : Table) → Extends old new → (at from : ℕ) (l : List (ℕ × ℤ)) →
    AreLiteralsBelow old at from l → AreLiteralsBelow new at from l
literals_on old new x at from l h = record {
  each = λ j d le s.
      let b = h.each j d le s in
      record {
        literal = rw x.vtree b.literal;
        diagram = b.diagram;
        is = node_on old new x at (code_of_literal d.1) b.diagram b.is;
        stands = b.stands;
        value = b.value;
      };
  ascending = h.ascending;
}

pub literals_after : (t : Table) (at from next : ℕ) (l : List (ℕ × ℤ)) → from ≤ next →
    AreLiteralsBelow t at from l → AreLiteralsBelow t at next l
literals_after t at from next l order h = record {
  each = λ j d le s. h.each j d (omega (arith, order, le)) s;
  ascending = h.ascending;
}

-- the right child is narrower, and stands under its parent
pub right_narrower : (t : Numbered) → IsNumbered t → (p u w : ℕ) → HasChildren t p u w → width t w < width t p
right_narrower t v p u w e =
    let there = there_inner t v p u w e in
    omega (
      arith,
      children_width t v p u w p e (stands_here t p there.part there.is),
      width_positive t u,
    )

pub right_stands : (t : Numbered) → IsNumbered t → (p u w : ℕ) → HasChildren t p u w → StandsUnder t w p
right_stands t v p u w e = child_right t v p u w (inner_part t v p u w e)

-- a vtree node that is there has a number
pub there_within : (t : Numbered) → IsNumbered t → (u : ℕ) → IsThere t u → u < length (numbers t)
there_within t v u h = node_within t v u (subtree_in t u h.part h.is)

-- ---- down the right children

-- a constant stands nowhere, and so from each position on
pub constant_from : (t : Table) (c least : ℕ) → c < 2 → StandsFrom t c least
constant_from t c least lt = record { each = λ d low s. absurd (omega (arith, lt, low)) }

-- a node stands from the position of its place on
pub place_from : (t : Table) → IsTable t → (c own po least : ℕ) →
    ((d : Diagram) → ShowsCanonical t c d → HasPlace t.vtree own d) → slice_get (numbers t.vtree) po ≡ Some own →
    least ≤ po → StandsFrom t c least
place_from t i c own po least place at order = record {
  each = λ d low s.
      let k = place d s in
      let same = one_place (numbers t.vtree) own po k.position (once_numbered t.vtree i.numbered own) at k.number in
      (k.position, k.stands, omega (arith, same, order));
}

-- what stands behind a vtree node below which it is, is below the right child
pub node_behind : (t : Table) → IsTable t → (p u w pp least c : ℕ) → HasChildren t.vtree p u w → IsBelow t p c →
    StandsFrom t c least → slice_get (numbers t.vtree) pp ≡ Some p → pp < least → IsBelow t w c
node_behind t i p u w pp least c e b from np lt = elim (cases_lt c 2) [
  | inl low ↦ constant_under t w c low
  | inr high ↦
      let q = from.each b.diagram high (shown t p c b.diagram b.is) in
      record {
        diagram = b.diagram;
        is = record {
          shows = b.is.shows;
          under = behind t i p u w pp q.0 e b.diagram b.is.under q.1 np (omega (arith, lt, q.2));
        };
      }
]

-- the vtree node itself
pub lower_start : (t : Table) (at c from : ℕ) (l : List (ℕ × ℤ)) → IsThere t.vtree at → IsBelow t at c →
    AreLiteralsBelow t at from l → StandLower t at c from l at
lower_start t at c from l there node literals = record {
  there = there;
  under = stands_here t.vtree at there.part there.is;
  narrow = omega arith;
  node = node;
  rest = literals;
}

-- and one right child further
pub lower_next : (t : Table) → IsTable t → (at c from p u w pp least : ℕ) (l : List (ℕ × ℤ)) (e : ℕ × ℤ) →
    StandLower t at c from l p → HasChildren t.vtree p u w → slice_get (numbers t.vtree) pp ≡ Some p → pp < least →
    StandsFrom t c least → slice_get l from ≡ Some e → least ≤ e.0 → StandLower t at c from l w
lower_next t i at c from p u w pp least l e h children np lt node first order =
    let v = i.numbered in
    record {
      there = right_there t.vtree v p u w children;
      under = under_trans t.vtree (once_numbered t.vtree v) w p at (right_stands t.vtree v p u w children) h.under;
      narrow = omega (arith, right_narrower t.vtree v p u w children, h.narrow);
      node = node_behind t i p u w pp least c children h.node node np lt;
      rest = literals_behind t i p u w pp from from l e children h.rest (omega arith) first np
          (omega (arith, lt, order));
    }

-- ---- what a group depends on

pub group_depends : (o : Operation) (s : Tree) (l : List (ℕ × ℤ)) →
    ((k : ℕ) (e : ℕ × ℤ) → slice_get l k ≡ Some e → DependsOn s (λ g. literal_holds g e.1)) →
    DependsOn s (group_value o l)
group_depends And s [] h a b g = refl
group_depends Or s [] h a b g = refl
group_depends Xor s l h a b g = refl
group_depends And s (e ∷ l) h a b g =
    ap (λ z. z || group_value And l a) (h zero e refl a b g)
    ∙ ap (λ z. literal_holds b e.1 || z) (group_depends And s l (λ k d q. h (suc k) d q) a b g)
group_depends Or s (e ∷ l) h a b g =
    ap (λ z. z && group_value Or l a) (h zero e refl a b g)
    ∙ ap (λ z. literal_holds b e.1 && z) (group_depends Or s l (λ k d q. h (suc k) d q) a b g)

pub dropped_at : (l : List (ℕ × ℤ)) (from k : ℕ) (e : ℕ × ℤ) → slice_get (drop from l) k ≡ Some e →
    slice_get l (from + k) ≡ Some e
dropped_at l zero k e h =
    let q : 0 + k ≡ k = omega arith in
    ap (slice_get l) q ∙ h
dropped_at [] (suc n) k e h = absurd (none-some e h)
dropped_at (x ∷ l) (suc n) k e h =
    let q : suc n + k ≡ suc (n + k) = omega arith in
    ap (slice_get (x ∷ l)) q ∙ dropped_at l n k e h

-- what has the value of a connective at a diagram and literals that are below a vtree node is below it
pub joined_under : (old new : Table) → Extends old new → (o : Operation) (at from c : ℕ) (l : List (ℕ × ℤ))
    (x : Diagram) → IsCanonicalUnder old.vtree at x → AreLiteralsBelow old at from l →
    (h : HasAnswer new (joined_value o x from l) c) → IsNodeUnder new at c h.diagram
joined_under old new e o at from c l x under below h = record {
  shows = h.is.shows;
  under = record {
    canonical = h.is.canonical;
    depends = subst (λ t. DependsOn (tree_at t at) (meaning h.diagram)) (sym e.vtree) (λ a b g.
        h.value a
        ∙ ap (λ v. combine o v (group_value o (drop from l) a)) (under.depends a b g)
        ∙ ap (combine o (meaning x b)) (group_depends o (tree_at old.vtree at) (drop from l)
        (λ k d s. literal_depends k d (below.each (from + k) d (omega arith) (dropped_at l from k d s))) a b g)
        ∙ sym (h.value b));
  };
}
  where
    literal_depends : (k : ℕ) (d : ℕ × ℤ) → IsLiteralBelow old at d →
        DependsOn (tree_at old.vtree at) (λ g. literal_holds g d.1)
    literal_depends k d b p q g = sym (b.value p) ∙ b.is.under.depends p q g ∙ b.value q
