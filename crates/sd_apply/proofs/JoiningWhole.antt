-- The join of a group at the whole vtree.
use Rattle.std.proofs.Common.{◌≡◌, ℕ, suc, ◌+◌, ◌≤◌, ◌<◌, ℤ, pos, negsuc, Bool, true, false}
use Rattle.std.proofs.Common.{List, length, Some, slice_get, refl, sym}
use Rattle.std.proofs.Common.{◌∙◌, ap, subst, arith, unsigned_abs, get_or, ◌-◌, ◌++◌}
use Rattle.std.specs.FinMap.{get}
use Rattle.std.proofs.lemmas.Option.{same_Some, slice_get_within, slice_get-get_or}
use Rattle.sd_model.specs.declared.trees.Operation.{Operation}
use Rattle.sd_model.specs.Tree.{Tree, leaves}
use Rattle.sd_model.specs.Assignment.{literal_holds}
use Rattle.sd_model.specs.Diagram.{Diagram, Bottom, Top, Literal, Decomposition, meaning}
use Rattle.sd_model.specs.Canonical.{IsCanonical}
use Rattle.sd_model.specs.Expression.{combine}
use Rattle.sd_model.proofs.Blend.{depends}
use Rattle.sd_vtree.specs.Numbered.{Numbered, number_of, plain_tree, numbers, variable_at, IsNumbered}
use Rattle.sd_vtree.specs.Numbered.{IsUnder as StandsUnder}
use Rattle.sd_vtree.proofs.Times.{one_place, slice_get_append, slice_get_left, times_slice_get}
use Rattle.sd_vtree.proofs.Subtrees.{once_numbered}
use Rattle.sd_vtree.proofs.Under.{under_part}
use Rattle.sd_laws.specs.Depends.{DependsOn}
use Rattle.sd_laws.specs.Parts.{HasPosition, leaf_position}
use Rattle.sd_laws.specs.Shown.{literal_code}
use Rattle.sd_laws.proofs.Leaves.{literal_node, leaf_number}
use Rattle.sd_laws.proofs.Codes.{one_diagram}
use Rattle.sd_laws.proofs.Numbers.{literal_canonical, part_of_subtree, part_within, length_numbers}
use Rattle.sd_laws.proofs.Places.{narrowed, canonical_in, position_within}
use Rattle.sd_manager.specs.Literals.{code_of_literal}
use Rattle.sd_manager.specs.Table.{Table}
use Rattle.sd_manager.specs.Shown.{ShowsCanonical}
use Rattle.sd_manager.specs.Making.{Extends}
use Rattle.sd_manager.specs.Valid.{IsTable}
use Rattle.sd_apply.specs.Places.{plain, IsCanonicalUnder, IsNodeUnder, IsBelow, IsThere, HasPlace}
use Rattle.sd_apply.specs.Growing.{GrowsBelow}
use Rattle.sd_apply.specs.Group.{group_value, IsPlaced, AreOrdered, JoinsGroup, GrowsBelowGroup}
use Rattle.sd_apply.specs.GroupCalls.{AreLiteralsBelow, JoinsFrom}
use Rattle.sd_apply.proofs.Trees.{apart, canonical_below, below_canonical, under_number}
use Rattle.sd_apply.proofs.Standing.{place_under}
use Rattle.sd_apply.proofs.Growing.{grows_wider}
use Rattle.sd_apply.proofs.Whole.{root_under}
use Rattle.sd_apply.proofs.JoiningPlaces.{group_depends}

-- what the code of a literal shows
pub record ShowsLiteral (t : Table) (e : ℕ × ℤ) : Type 0 where
  pub diagram : Diagram
  pub is : ShowsCanonical t (code_of_literal e.1) diagram
  pub stands : HasPosition diagram e.0
  pub value : (g : List Bool) → meaning diagram g ≡ literal_holds g e.1

pub shows_literal : (t : Table) (p : ℕ) (z : ℤ) → leaf_position (plain_tree t.vtree) 0 (unsigned_abs z) ≡ Some p →
    ShowsLiteral t (p, z)
shows_literal t p (pos x) e = record {
  diagram = Literal p x true;
  is = literal_node t.vtree (get t.linked) x p true e;
  stands = refl;
  value = λ g. refl;
}
shows_literal t p (negsuc i) e =
    let code : literal_code (suc i) false ≡ code_of_literal (negsuc i) = omega arith in
    record {
      diagram = Literal p (suc i) false;
      is = subst (λ k. ShowsCanonical t k (Literal p (suc i) false)) code
          (literal_node t.vtree (get t.linked) (suc i) p false e);
      stands = refl;
      value = λ g. refl;
    }

-- all literals are below the root
pub ordered_below : (t : Table) (u : ℕ) (l : List (ℕ × ℤ)) → u ≡ number_of t.vtree → AreOrdered t.vtree l →
    AreLiteralsBelow t u 0 l
ordered_below t u l root h = record {
  each = λ i e le s.
      let p = h.placed i e s in
      let q = shows_literal t e.0 e.1 p.position in
      record {
        literal = p.literal;
        diagram = q.diagram;
        is = root_under t u (code_of_literal e.1) q.diagram root q.is;
        stands = q.stands;
        value = q.value;
      };
  ascending = h.ascending;
}

-- a literal depends on a tree that has its leaf
leaf_depends : (s : Tree) (base p : ℕ) (z : ℤ) → leaf_position s base (unsigned_abs z) ≡ Some p →
    DependsOn s (λ g. literal_holds g z)
leaf_depends s base p (pos x) e = depends (literal_canonical s base x p true e)
leaf_depends s base p (negsuc i) e = depends (literal_canonical s base (suc i) p false e)

-- the answer from the first literal on is that of the group
pub joins_group : (old new : Table) → IsTable new → (o : Operation) (u v a r : ℕ) (l : List (ℕ × ℤ)) →
    u ≡ number_of old.vtree → ((d : Diagram) → IsNodeUnder old u a d → IsNodeUnder old v a d) →
    JoinsFrom old new o v a 0 l r → JoinsGroup old new o a l r
joins_group old new i o u v a r l root lower h = record {
  each = λ x shown.
      let z = h.each x (lower x (root_under old u a x root shown)) in
      record {
        diagram = z.diagram;
        is = z.is;
        value = z.value;
        below = λ s base part k places.
            narrowed (leaves (plain_tree new.vtree)) part (apart new.vtree i.numbered) z.is.canonical (λ f g agree.
            z.value f
            ∙ ap (λ n. combine o n (group_value o l f)) (depends k f g agree)
            ∙ ap (combine o (meaning x g))
            (group_depends o s l (λ j e q. leaf_depends s base e.0 e.1 (places j e q)) f g agree)
            ∙ sym (z.value g));
      };
}

-- ---- the lowest vtree node over a node and all literals

-- where a literal stands
pub literal_place : (t : Table) → IsTable t → (u x : ℕ) (e : ℕ × ℤ) → IsPlaced t.vtree e → unsigned_abs e.1 ≡ x →
    variable_at t.vtree u ≡ Some x → (d : Diagram) → ShowsCanonical t (code_of_literal e.1) d → HasPlace t.vtree u d
literal_place t i u x e p abs at d shown =
    let q = shows_literal t e.0 e.1 p.position in
    let n = leaf_number t.vtree i.numbered u x at in
    let same : e.0 ≡ n.0 = same_Some e.0 n.0
    (sym p.position ∙ ap (leaf_position (plain_tree t.vtree) 0) abs ∙ n.2) in
    let is : q.diagram ≡ d = one_diagram t.vtree (get t.linked) i.numbered q.diagram (code_of_literal e.1) d q.is.shows
    shown.shows in
    record {
      position = e.0;
      stands = subst (λ k. HasPosition k e.0) is q.stands;
      number = subst (λ k. slice_get (numbers t.vtree) k ≡ Some u) (sym same) n.1;
    }

-- what stands between two places below a vtree node is below it
pub between_under : (t : Table) → IsTable t → (v : ℕ) → IsThere t.vtree v → (p q r : ℕ) (x y z : Diagram) →
    IsCanonicalUnder t.vtree v x → HasPosition x p → IsCanonicalUnder t.vtree v z → HasPosition z r →
    IsCanonical (plain_tree t.vtree) 0 y → HasPosition y q → p ≤ q → q ≤ r → IsCanonicalUnder t.vtree v y
between_under t i v w p q r x y z hx sx hz sz cy sy low high =
    let n = i.numbered in
    let k = part_of_subtree t.vtree v w.part 0 w.is in
    let whole = plain_tree w.part in
    let a = position_within (canonical_below t.vtree n v whole (0 + k.skip) x (ap plain w.is) k.part hx) sx in
    let b = position_within (canonical_below t.vtree n v whole (0 + k.skip) z (ap plain w.is) k.part hz) sz in
    below_canonical t.vtree v whole (0 + k.skip) y (ap plain w.is) k.part
    (canonical_in k.part cy sy (omega (arith, a.0, low)) (omega (arith, b.1, high)))

-- all literals are below a vtree node below which the first and the last are
pub ordered_between : (t : Table) → IsTable t → (v : ℕ) → IsThere t.vtree v → (l : List (ℕ × ℤ)) (n : ℕ)
    (d e : ℕ × ℤ) → AreOrdered t.vtree l → slice_get l 0 ≡ Some d → length l ≡ n + 1 → slice_get l n ≡ Some e →
    ((x : Diagram) → ShowsCanonical t (code_of_literal d.1) x → IsCanonicalUnder t.vtree v x) →
    ((x : Diagram) → ShowsCanonical t (code_of_literal e.1) x → IsCanonicalUnder t.vtree v x) → AreLiteralsBelow t v 0 l
ordered_between t i v there l n d e h one count last first_under last_under = record {
  each = λ k f le s.
      let a = shows_literal t d.0 d.1 (h.placed 0 d one).position in
      let b = shows_literal t e.0 e.1 (h.placed n e last).position in
      let q = shows_literal t f.0 f.1 (h.placed k f s).position in
      let within = slice_get_within l k f s in
      record {
        literal = (h.placed k f s).literal;
        diagram = q.diagram;
        is = record {
          shows = q.is.shows;
          under = between_under t i v there d.0 f.0 e.0 a.diagram q.diagram b.diagram (first_under a.diagram a.is)
              a.stands (last_under b.diagram b.is) b.stands q.is.canonical q.stands
              (h.ascending 0 k d f (omega arith) one s)
              (h.ascending k n f e (omega (arith, count, within)) s last);
        };
        stands = q.stands;
        value = q.value;
      };
  ascending = h.ascending;
}

-- a vtree node between two that stand under another stands under it
pub between_stands : (t : Numbered) → IsNumbered t → (v a b c p q r : ℕ) → StandsUnder t a v → StandsUnder t c v →
    slice_get (numbers t) p ≡ Some a → slice_get (numbers t) q ≡ Some b → slice_get (numbers t) r ≡ Some c →
    p ≤ q → q ≤ r → StandsUnder t b v
between_stands t n v a b c p q r x z at here there low high =
    let s = x.part in
    let k = part_of_subtree t v s 0 x.is in
    let from = part_within t n v a s k p x.has at in
    let to = part_within t n v c s k r (under_part t c v s x.is z) there in
    let j = q - k.skip in
    let same : q ≡ length k.front + j = omega (arith, from.0, low, k.starts) in
    let small : j < length (numbers s) = omega (arith, from.0, low, to.1, high, length_numbers s) in
    let found : slice_get (numbers s) j ≡ Some b =
    sym (slice_get_left (numbers s) k.back j small)
    ∙ sym (slice_get_append k.front (numbers s ++ k.back) j)
    ∙ sym (ap (λ xs. slice_get xs (length k.front + j)) k.split)
    ∙ sym (ap (slice_get (numbers t)) same) ∙ here in
    record { part = s; is = x.is; has = times_slice_get (numbers s) j b found }

-- a diagram has one position
one_position : (d : Diagram) (p q : ℕ) → HasPosition d p → HasPosition d q → p ≡ q
one_position (Literal k x s) p q h j = sym h ∙ j
one_position (Decomposition k es) p q h j = sym h ∙ j
one_position Bottom p q h j = absurd h
one_position Top p q h j = absurd h

-- the leaf of the literal at an index stands at its position
leaf_stands : (t : Table) → IsTable t → (u j p : ℕ) (l : List (ℕ × ℤ)) (e : ℕ × ℤ) → AreOrdered t.vtree l →
    ((e : ℕ × ℤ) → slice_get l j ≡ Some e → (d : Diagram) → ShowsCanonical t (code_of_literal e.1) d →
    HasPlace t.vtree u d) → slice_get l j ≡ Some e → slice_get (numbers t.vtree) p ≡ Some u → p ≡ e.0
leaf_stands t i u j p l e h place at here =
    let q = shows_literal t e.0 e.1 (h.placed j e at).position in
    let k = place e at q.diagram q.is in
    one_place (numbers t.vtree) u p k.position (once_numbered t.vtree i.numbered u) here k.number
    ∙ one_position q.diagram k.position e.0 k.stands q.stands

-- the leaves of the first and of the last literal stand in this order
pub leaves_ordered : (t : Table) → IsTable t → (u w : ℕ) (l : List (ℕ × ℤ)) → AreOrdered t.vtree l → 1 ≤ length l →
    ((e : ℕ × ℤ) → slice_get l 0 ≡ Some e → (d : Diagram) → ShowsCanonical t (code_of_literal e.1) d →
    HasPlace t.vtree u d) →
    ((e : ℕ × ℤ) → slice_get l (length l - 1) ≡ Some e → (d : Diagram) → ShowsCanonical t (code_of_literal e.1) d →
    HasPlace t.vtree w d) →
    (p q : ℕ) → slice_get (numbers t.vtree) p ≡ Some u → slice_get (numbers t.vtree) q ≡ Some w → p ≤ q
leaves_ordered t i u w l h some one two p q here there =
    let n = length l - 1 in
    let d = get_or l 0 (0, pos 0) in
    let e = get_or l n (0, pos 0) in
    let at_first = slice_get-get_or l 0 (0, pos 0) (omega (arith, some)) in
    let at_last = slice_get-get_or l n (0, pos 0) (omega (arith, some)) in
    let order : d.0 ≤ e.0 = h.ascending 0 n d e (omega arith) at_first at_last in
    omega (
      arith,
      order,
      leaf_stands t i u 0 p l d h one at_first here,
      leaf_stands t i w n q l e h two at_last there,
    )

-- new nodes below the lowest one are below each
pub grows_group : (old new : Table) → Extends old new → IsNumbered old.vtree → (p a : ℕ) (l : List (ℕ × ℤ)) →
    ((n : ℕ) → IsThere old.vtree n → IsBelow old n a →
    ((i : ℕ) (e : ℕ × ℤ) → slice_get l i ≡ Some e → IsBelow old n (code_of_literal e.1)) → StandsUnder old.vtree p n) →
    GrowsBelow old new p → GrowsBelowGroup old new a l
grows_group old new x i p a l lowest g = record {
  each = λ at there node literals.
      grows_wider old new (subst IsNumbered (sym x.vtree) i) p at
      (subst (λ t. StandsUnder t p at) (sym x.vtree) (lowest at there node literals)) g;
}

-- the literal at an index stands under each vtree node below which the literals are
pub index_stands : (t : Table) → IsTable t → (n u j : ℕ) (l : List (ℕ × ℤ)) →
    ((e : ℕ × ℤ) → slice_get l j ≡ Some e → (d : Diagram) → ShowsCanonical t (code_of_literal e.1) d →
    HasPlace t.vtree u d) → j < length l → IsThere t.vtree n →
    ((i : ℕ) (e : ℕ × ℤ) → slice_get l i ≡ Some e → IsBelow t n (code_of_literal e.1)) → StandsUnder t.vtree u n
index_stands t i n u j l place within there literals =
    let e = get_or l j (0, pos 0) in
    let at = slice_get-get_or l j (0, pos 0) within in
    place_under t i n (code_of_literal e.1) u there (literals j e at) (place e at)

-- all literals are below a vtree node over the leaves of the first and the last
pub ends_literals : (t : Table) → IsTable t → (v first last : ℕ) (l : List (ℕ × ℤ)) → AreOrdered t.vtree l →
    1 ≤ length l →
    ((e : ℕ × ℤ) → slice_get l 0 ≡ Some e → (d : Diagram) → ShowsCanonical t (code_of_literal e.1) d →
    HasPlace t.vtree first d) →
    ((e : ℕ × ℤ) → slice_get l (length l - 1) ≡ Some e → (d : Diagram) → ShowsCanonical t (code_of_literal e.1) d →
    HasPlace t.vtree last d) →
    StandsUnder t.vtree first v → StandsUnder t.vtree last v → AreLiteralsBelow t v 0 l
ends_literals t i v first last l h some one two a b =
    let n = length l - 1 in
    let d = get_or l 0 (0, pos 0) in
    let e = get_or l n (0, pos 0) in
    let at_first = slice_get-get_or l 0 (0, pos 0) (omega (arith, some)) in
    let at_last = slice_get-get_or l n (0, pos 0) (omega (arith, some)) in
    ordered_between t i v (record { part = a.part; is = a.is }) l n d e h at_first (omega (arith, some)) at_last
    (λ x s. under_number t.vtree i.numbered v first x a s.canonical (one d at_first x s))
    (λ x s. under_number t.vtree i.numbered v last x b s.canonical (two e at_last x s))
