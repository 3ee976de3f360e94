-- What a rotation leaves of the lists of its upper place: which fit one of its two nodes, and which are divided.
use Rattle.std.proofs.Common.{◌≡◌, ℕ, Bool, true, false, List, Some, ◌||◌}
use Rattle.std.proofs.Common.{option_and_then, refl, sym, ◌∙◌, ap, subst}
use Rattle.std.specs.List.{AllByRecursion}
use Rattle.std.specs.Option.{option_map}
use Rattle.std.proofs.lemmas.Option.{same_Some}
use Rattle.sd_model.specs.Tree.{Node, leaves}
use Rattle.sd_model.proofs.Blend.{occurs, or_left, IsApart}
use Rattle.sd_model.proofs.OverVtree.{vtree_apart}
use Rattle.sd_vtree.specs.Numbered.{Numbered, NumberedLeaf, NumberedNode, IsNumbered, IsUnder, plain_tree}
use Rattle.sd_vtree.specs.Numbered.{number_of, subtree}
use Rattle.sd_vtree.specs.Numbered.{child_numbers, children_at}
use Rattle.sd_vtree.proofs.Subtrees.{InnerPart, inner_part, once_numbered}
use Rattle.sd_vtree.proofs.Under.{under_trans}
use Rattle.sd_laws.specs.Depends.{DependsOn}
use Rattle.sd_laws.specs.Values.{Valuation, IsWhole, IsPlaced}
use Rattle.sd_laws.proofs.Lists.{IsAmong, all_at, all_from, all_weaker}
use Rattle.sd_laws.proofs.Numbers.{part_of_subtree}
use Rattle.sd_laws.proofs.Places.{part_apart}
use Rattle.sd_laws.proofs.Placing.{At, at_children, right_upper_to_lower, right_upper_kept}
use Rattle.sd_laws.proofs.Placing.{depends_left, depends_right, left_upper_to_lower}
use Rattle.sd_laws.proofs.Placing.{left_upper_kept, right_written, left_written}
use Rattle.sd_apply.specs.Places.{tree_at, plain, IsThere}
use Rattle.sd_model.specs.declared.trees.Side.{Side}
use Rattle.sd_model.specs.declared.trees.Side.TheVariants.{Left, Right}
use Rattle.sd_move.specs.Steps.{IsChildNode}
use Rattle.sd_move.specs.Sorting.{on, AreRotatedOn, IsDivided}
use Rattle.sd_move.proofs.LowerNode.{left_child as left_is_child, right_child as right_is_child}

-- the two children that decide

-- the child of the lower node on the side
abbrev pub inner : (side : Side) (t u : Numbered) (x w : ℕ) → AreRotatedOn side t u x w → Numbered
inner Left t u x w h = h.b
inner Right t u x w h = h.b

-- and that of the upper node
abbrev pub outer : (side : Side) (t u : Numbered) (x w : ℕ) → AreRotatedOn side t u x w → Numbered
outer Left t u x w h = h.a
outer Right t u x w h = h.c

-- what children a subtree has
children_are : (u : Numbered) (p : ℕ) (l r : Numbered) → subtree u p ≡ Some (NumberedNode p l r) →
    children_at u p ≡ Some (number_of l, number_of r)
children_are u p l r e = ap (option_and_then child_numbers) e

-- the children of a subtree
abbrev pub left_of : Numbered → Numbered
left_of (NumberedLeaf m x) = NumberedLeaf m x
left_of (NumberedNode m l r) = l

abbrev pub right_of : Numbered → Numbered
right_of (NumberedLeaf m x) = NumberedLeaf m x
right_of (NumberedNode m l r) = r

-- the left child's tree
left_tree_at : (u : Numbered) → IsNumbered u → (p : ℕ) (l r : Numbered) → subtree u p ≡ Some (NumberedNode p l r) →
    tree_at u (number_of l) ≡ plain_tree l
left_tree_at u num p l r e =
    let i : InnerPart u p (number_of l) (number_of r) =
    inner_part u num p (number_of l) (number_of r) (sym (children_are u p l r e)) in
    let same : NumberedNode p i.left i.right ≡ NumberedNode p l r =
    same_Some (NumberedNode p i.left i.right) (NumberedNode p l r) (sym i.is ∙ e) in
    ap plain i.left_is ∙ ap (λ s. plain_tree (left_of s)) same

-- and the right one's
right_tree_at : (u : Numbered) → IsNumbered u → (p : ℕ) (l r : Numbered) → subtree u p ≡ Some (NumberedNode p l r) →
    tree_at u (number_of r) ≡ plain_tree r
right_tree_at u num p l r e =
    let i : InnerPart u p (number_of l) (number_of r) =
    inner_part u num p (number_of l) (number_of r) (sym (children_are u p l r e)) in
    let same : NumberedNode p i.left i.right ≡ NumberedNode p l r =
    same_Some (NumberedNode p i.left i.right) (NumberedNode p l r) (sym i.is ∙ e) in
    ap plain i.right_is ∙ ap (λ s. plain_tree (right_of s)) same

-- what is known of the two children in the vtree that was made
pub record AreSides (side : Side) (u : Numbered) (x w : ℕ) (a b : Numbered) : Type 0 where
  pub upper_child : option_map (on side) (children_at u x) ≡ Some (number_of a)
  pub lower_child : option_map (on side) (children_at u w) ≡ Some (number_of b)
  pub upper_tree : tree_at u (number_of a) ≡ plain_tree a
  pub lower_tree : tree_at u (number_of b) ≡ plain_tree b
  pub upper_under : IsUnder u (number_of a) x
  pub lower_under : IsUnder u (number_of b) x
  pub node : IsChildNode u x w
  pub there : IsThere u x

-- it is so after a rotation
pub are_sides : (side : Side) (t u : Numbered) (x w : ℕ) → IsNumbered u → (h : AreRotatedOn side t u x w) →
    AreSides side u x w (outer side t u x w h) (inner side t u x w h)
are_sides Left t u x w num h =
    let once = once_numbered u num in
    let lower = right_is_child u once x h.a (NumberedNode w h.b h.c) h.second_upper in
    record {
      upper_child = ap (λ o. option_map (on Left) (option_and_then child_numbers o)) h.second_upper;
      lower_child = ap (λ o. option_map (on Left) (option_and_then child_numbers o)) h.second_lower;
      upper_tree = left_tree_at u num x h.a (NumberedNode w h.b h.c) h.second_upper;
      lower_tree = left_tree_at u num w h.b h.c h.second_lower;
      upper_under = (left_is_child u once x h.a (NumberedNode w h.b h.c) h.second_upper).under;
      lower_under = under_trans u once (number_of h.b) w x (left_is_child u once w h.b h.c h.second_lower).under
          lower.under;
      node = lower;
      there = record { part = NumberedNode x h.a (NumberedNode w h.b h.c); is = h.second_upper };
    }
are_sides Right t u x w num h =
    let once = once_numbered u num in
    let lower = left_is_child u once x (NumberedNode w h.a h.b) h.c h.first_upper in
    record {
      upper_child = ap (λ o. option_map (on Right) (option_and_then child_numbers o)) h.first_upper;
      lower_child = ap (λ o. option_map (on Right) (option_and_then child_numbers o)) h.first_lower;
      upper_tree = right_tree_at u num x (NumberedNode w h.a h.b) h.c h.first_upper;
      lower_tree = right_tree_at u num w h.a h.b h.first_lower;
      upper_under = (right_is_child u once x (NumberedNode w h.a h.b) h.c h.first_upper).under;
      lower_under = under_trans u once (number_of h.b) w x (right_is_child u once w h.a h.b h.first_lower).under
          lower.under;
      node = lower;
      there = record { part = NumberedNode x (NumberedNode w h.a h.b) h.c; is = h.first_upper };
    }

-- what the codes on the side look at

or_behind : (p q r : Bool) → (p || q) ≡ true → (p || (q || r)) ≡ true
or_behind true q r o = refl
or_behind false q r o = or_left q r o

or_before : (p q r : Bool) → (q || r) ≡ true → ((p || q) || r) ≡ true
or_before true q r o = refl
or_before false q r o = o

-- all codes of the list look at what is below the upper node
pub looks_below : (side : Side) (t u : Numbered) (x w : ℕ) (v : Valuation) (l : List (ℕ × ℕ)) →
    AreRotatedOn side t u x w → IsPlaced t v x l →
    AllByRecursion (λ (e : ℕ × ℕ). DependsOn (tree_at u x) (v e.0) × DependsOn (tree_at u x) (v e.1)) l
looks_below Left t u x w v l h p =
    let k : At v l (NumberedNode w h.a h.b) h.c = at_children t v x l (NumberedNode w h.a h.b) h.c p h.first_upper in
    let a = plain_tree h.a in
    let b = plain_tree h.b in
    let c = plain_tree h.c in
    let whole : tree_at u x ≡ Node a (Node b c) = ap plain h.second_upper in
    subst (λ s. AllByRecursion (λ (e : ℕ × ℕ). DependsOn s (v e.0) × DependsOn s (v e.1)) l) (sym whole)
    (all_from (λ (e : ℕ × ℕ). DependsOn (Node a (Node b c)) (v e.0) × DependsOn (Node a (Node b c)) (v e.1)) l
    (λ e m. (
      λ y z agree.
          all_at (λ (d : ℕ × ℕ). DependsOn (Node a b) (v d.0)) l e k.primes m y z
          (λ i o. agree i (or_behind (occurs a i) (occurs b i) (occurs c i) o)),
      depends_right a (Node b c) (v e.1)
          (depends_right b c (v e.1) (all_at (λ (d : ℕ × ℕ). DependsOn c (v d.1)) l e k.subs m)),
    )))
looks_below Right t u x w v l h p =
    let k : At v l h.a (NumberedNode w h.b h.c) = at_children t v x l h.a (NumberedNode w h.b h.c) p h.second_upper in
    let a = plain_tree h.a in
    let b = plain_tree h.b in
    let c = plain_tree h.c in
    let whole : tree_at u x ≡ Node (Node a b) c = ap plain h.first_upper in
    subst (λ s. AllByRecursion (λ (e : ℕ × ℕ). DependsOn s (v e.0) × DependsOn s (v e.1)) l) (sym whole)
    (all_from (λ (e : ℕ × ℕ). DependsOn (Node (Node a b) c) (v e.0) × DependsOn (Node (Node a b) c) (v e.1)) l
    (λ e m. (
      depends_left (Node a b) c (v e.0)
          (depends_left a b (v e.0) (all_at (λ (d : ℕ × ℕ). DependsOn a (v d.0)) l e k.primes m)),
      λ y z agree.
          all_at (λ (d : ℕ × ℕ). DependsOn (Node b c) (v d.1)) l e k.subs m y z
          (λ i o. agree i (or_before (occurs a i) (occurs b i) (occurs c i) o)),
    )))

-- so do those on the side
pub looks_under : (side : Side) (t u : Numbered) (x w : ℕ) (v : Valuation) (l : List (ℕ × ℕ)) →
    AreRotatedOn side t u x w → IsPlaced t v x l →
    AllByRecursion (λ (e : ℕ × ℕ). DependsOn (tree_at u x) (v (on side e))) l
looks_under Left t u x w v l h p =
    all_weaker (λ (e : ℕ × ℕ). DependsOn (tree_at u x) (v e.0) × DependsOn (tree_at u x) (v e.1))
    (λ (e : ℕ × ℕ). DependsOn (tree_at u x) (v e.0)) (λ e d. d.0) l (looks_below Left t u x w v l h p)
looks_under Right t u x w v l h p =
    all_weaker (λ (e : ℕ × ℕ). DependsOn (tree_at u x) (v e.0) × DependsOn (tree_at u x) (v e.1))
    (λ (e : ℕ × ℕ). DependsOn (tree_at u x) (v e.1)) (λ e d. d.1) l (looks_below Right t u x w v l h p)

-- a list whose codes look at the inner child alone fits the lower node
pub fits_lower : (side : Side) (t u : Numbered) (x w : ℕ) (v : Valuation) (l : List (ℕ × ℕ)) →
    (h : AreRotatedOn side t u x w) → IsPlaced t v x l →
    AllByRecursion (λ (e : ℕ × ℕ). DependsOn (plain_tree (inner side t u x w h)) (v (on side e))) l → IsPlaced u v w l
fits_lower Left t u x w v l h p all = right_upper_to_lower t u x w v l h p all
fits_lower Right t u x w v l h p all = left_upper_to_lower t u x w v l h p all

-- and one whose codes look at the outer child alone fits the upper node
pub fits_upper : (side : Side) (t u : Numbered) (x w : ℕ) (v : Valuation) (l : List (ℕ × ℕ)) →
    (h : AreRotatedOn side t u x w) → IsPlaced t v x l →
    AllByRecursion (λ (e : ℕ × ℕ). DependsOn (plain_tree (outer side t u x w h)) (v (on side e))) l → IsPlaced u v x l
fits_upper Left t u x w v l h p all = right_upper_kept t u x w v l h p all
fits_upper Right t u x w v l h p all = left_upper_kept t u x w v l h p all

-- no variable stands on both sides of a part of the vtree
apart_at : (t : Numbered) → IsNumbered t → (x : ℕ) (s : Numbered) → subtree t x ≡ Some s →
    IsApart (leaves (plain_tree t)) (plain_tree s)
apart_at t num x s e =
    part_apart (leaves (plain_tree t)) (part_of_subtree t x s 0 e).part (vtree_apart (plain_tree t) num.vtree)

-- A list with a code that does not look at the inner child alone, and one that does not at the outer one, is divided.
pub is_divided : (side : Side) (t u : Numbered) (x w : ℕ) (v : Valuation) (l : List (ℕ × ℕ)) → IsNumbered t →
    (h : AreRotatedOn side t u x w) → IsPlaced t v x l → IsWhole v l →
    (e : ℕ × ℕ) → IsAmong e l → ¬ DependsOn (plain_tree (inner side t u x w h)) (v (on side e)) →
    (f : ℕ × ℕ) → IsAmong f l → ¬ DependsOn (plain_tree (outer side t u x w h)) (v (on side f)) →
    IsDivided u x w v l
is_divided Left t u x w v l num h p whole e me ne f mf nf =
    record {
      two_sided = record {
        left = h.a;
        right = NumberedNode w h.b h.c;
        at = h.second_upper;
        two_sided = right_written (leaves (plain_tree t)) t u x w v l h
            (apart_at t num x (NumberedNode x (NumberedNode w h.a h.b) h.c) h.first_upper) p whole e me ne;
      };
      upper = λ q.
          nf (all_at (λ (d : ℕ × ℕ). DependsOn (plain_tree h.a) (v d.0)) l f
          (at_children u v x l h.a (NumberedNode w h.b h.c) q h.second_upper).primes mf);
      lower = λ q.
          ne (all_at (λ (d : ℕ × ℕ). DependsOn (plain_tree h.b) (v d.0)) l e
          (at_children u v w l h.b h.c q h.second_lower).primes me);
    }
is_divided Right t u x w v l num h p whole e me ne f mf nf =
    record {
      two_sided = record {
        left = NumberedNode w h.a h.b;
        right = h.c;
        at = h.first_upper;
        two_sided = left_written (leaves (plain_tree t)) t u x w v l h
            (apart_at t num x (NumberedNode x h.a (NumberedNode w h.b h.c)) h.second_upper) p whole e me ne;
      };
      upper = λ q.
          nf (all_at (λ (d : ℕ × ℕ). DependsOn (plain_tree h.c) (v d.1)) l f
          (at_children u v x l (NumberedNode w h.a h.b) h.c q h.first_upper).subs mf);
      lower = λ q.
          ne (all_at (λ (d : ℕ × ℕ). DependsOn (plain_tree h.b) (v d.1)) l e
          (at_children u v w l h.a h.b q h.first_lower).subs me);
    }
