-- The tree of each node line is a part of a root's, and so of the whole tree.
use Rattle.std.proofs.Common.{◌≡◌, ℕ, ◌+◌, Bool, true, false, not, ◌||◌, ◌==◌, cond}
use Rattle.std.proofs.Common.{List, [], ◌∷◌, ◌++◌, filter, Some, Ok, refl, sym, ap, ◌∙◌, subst, arith}
use Rattle.std.proofs.Common.{inl, inr, eq-eqb, ne_eqb}
use Rattle.std.specs.List.{list_any}
use Rattle.std.proofs.lemmas.Bool.{cases_Bool, cases_eq}
use Rattle.std.proofs.lemmas.Option.{same_Some}
use Rattle.sd_base.specs.Lines.{TextLine}
use Rattle.sd_base.specs.Reading.{each_after}
use Rattle.sd_model.specs.Tree.{Tree, Leaf, Node, right_base}
use Rattle.sd_laws.specs.Parts.{IsPart, here, in_left, in_right}
use Rattle.sd_vfile.specs.Placing.{IsPartOf, AreParts}
use Rattle.sd_vfile.specs.Reads.{Entry, tree_with_id, has_id, is_child, roots_of, one_root, entry_of}
use Rattle.sd_vfile.proofs.AreRead.{AreRead, none_read, is_child_push, no_child, ids_apart}
use Rattle.sd_vfile.proofs.Forests.{id_found, or_false}
use Rattle.sd_vfile.proofs.OneMore.{read_one_more}
use Rattle.sd_vfile.proofs.Placed.{IsPlaced, leaf_placed, inner_placed, done, read_keeps}
use Rattle.sd_vfile.proofs.Written.{found_before, found_behind}

-- ---- parts

-- a part, with all positions counted further on
shifted : (k : ℕ) {s t : Tree} {c b : ℕ} → IsPart s c t b → IsPart s (c + k) t (b + k)
shifted k here = here
shifted k (in_left part) = in_left (shifted k part)
shifted k {s} {c = c} (in_right {l = l} {r = r} {b = b} part) =
    let base : right_base l b + k ≡ right_base l (b + k) = omega arith in
    in_right (subst (λ n. IsPart s (c + k) r n) base (shifted k part))

-- a tree is a part of itself
itself : (t : Tree) → IsPartOf t t
itself t = record { base = 0; is = here }

-- a part of a child
part_left : (s l r : Tree) → IsPartOf s l → IsPartOf s (Node l r)
part_left s l r part = record { base = part.base; is = in_left part.is }

part_right : (s l r : Tree) → IsPartOf s r → IsPartOf s (Node l r)
part_right s l r part =
    let base : 0 + right_base l 0 ≡ right_base l 0 = omega arith in
    record {
      base = part.base + right_base l 0;
      is = in_right (subst (λ n. IsPart s (part.base + right_base l 0) r n) base (shifted (right_base l 0) part.is));
    }

-- ---- roots

-- a tree is a part of a root's
pub record IsRooted (es : List Entry) (s : Tree) : Type 0 where
  pub root : ℕ
  pub whole : Tree
  pub is : tree_with_id root es ≡ Some whole
  pub free : is_child root es ≡ false
  pub part : IsPartOf s whole

-- the lines are known, and each one's tree is a part of a root's
pub record AreRooted (v : ℕ) (es : List Entry) : Type 0 where
  pub read : AreRead v es
  pub rooted : (id : ℕ) (s : Tree) → tree_with_id id es ≡ Some s → IsRooted es s

-- what a look-up finds after one more line: a line that was there, or the new one
data WayFound (id : ℕ) (es : List Entry) (e : Entry) (t : Tree) : Type 0 where
  earlier : tree_with_id id es ≡ Some t → WayFound id es e t
  last : e.id ≡ id → e.tree ≡ t → WayFound id es e t

way_found : (id : ℕ) (es : List Entry) (e : Entry) (t : Tree) → tree_with_id id (es ++ e ∷ []) ≡ Some t
    → WayFound id es e t
way_found id [] e t h = elim (cases_eq e.id id) [
  | inl same ↦ last same (same_Some e.tree t (rw (eq-eqb e.id id same) at h))
  | inr other ↦ (let none = rw (ne_eqb e.id id other) at h in cc)
]
way_found id (d ∷ es) e t h = elim (cases_eq d.id id) [
  | inl same ↦ earlier (rw (eq-eqb d.id id same) (rw (eq-eqb d.id id same) at h))
  | inr other ↦
      elim (way_found id es e t (rw (ne_eqb d.id id other) at h)) [
        | earlier at ↦ earlier (rw (ne_eqb d.id id other) at)
        | last same is ↦ last same is
      ]
]

-- a root stays one where it is not among the new line's children
still_rooted : (es : List Entry) (e : Entry) (s : Tree) (r : IsRooted es s)
    → list_any (λ child. child == r.root) e.children ≡ false → IsRooted (es ++ e ∷ []) s
still_rooted es e s r apart = record {
  root = r.root;
  whole = r.whole;
  is = found_before r.root es (e ∷ []) r.whole r.is;
  free = is_child_push r.root es e ∙ rw (r.free, apart) refl;
  part = r.part;
}

-- a part of the new line's tree
new_rooted : (v : ℕ) (es : List Entry) (e : Entry) (s : Tree) → AreRead v es → has_id e.id es ≡ false
    → list_any (λ child. child == e.id) e.children ≡ false → IsPartOf s e.tree → IsRooted (es ++ e ∷ []) s
new_rooted v es e s read new apart part = record {
  root = e.id;
  whole = e.tree;
  is = found_behind e.id es (e ∷ []) new ∙ rw (eq-eqb e.id e.id refl) refl;
  free = is_child_push e.id es e ∙ rw (no_child v es e.id read new, apart) refl;
  part = part;
}

-- one more line that was placed
rooted_more : (v : ℕ) (es : List Entry) (e : Entry) → AreRooted v es → IsPlaced v es e → (id : ℕ) (s : Tree)
    → tree_with_id id (es ++ e ∷ []) ≡ Some s → IsRooted (es ++ e ∷ []) s
rooted_more v es e all (leaf_placed i y new low high own) id s h =
    let entry : Entry = record { id = i; tree = Leaf y; children = [] } in
    elim (way_found id es entry s h) [
      | earlier at ↦ still_rooted es entry s (all.rooted id s at) refl
      | last same is ↦ new_rooted v es entry s all.read new refl (subst (λ t. IsPartOf t (Leaf y)) is (itself (Leaf y)))
    ]
rooted_more v es e all (inner_placed i left right l r new at_left at_right two free_left free_right) id s h =
    let entry : Entry = record { id = i; tree = Node l r; children = left ∷ right ∷ [] } in
    let out : list_any (λ child. child == i) (left ∷ right ∷ []) ≡ false =
    rw (ids_apart left i es (id_found left es l at_left) new, ids_apart right i es (id_found right es r at_right) new)
    refl in
    elim (way_found id es entry s h) [
      | earlier at ↦ lifted entry refl out (all.rooted id s at)
      | last same is ↦
          new_rooted v es entry s all.read new out (subst (λ t. IsPartOf t (Node l r)) is (itself (Node l r)))
    ]
  where
    lifted : (d : Entry) → d ≡ record { id = i; tree = Node l r; children = left ∷ right ∷ [] }
        → list_any (λ child. child == i) (left ∷ right ∷ []) ≡ false → IsRooted es s → IsRooted (es ++ d ∷ []) s
    lifted d is out old = elim (cases_eq left old.root) [
      | inl same ↦
          let tree : old.whole ≡ l =
          same_Some old.whole l (sym old.is ∙ ap (λ k. tree_with_id k es) (sym same) ∙ at_left) in
          rw is (new_rooted v es (record { id = i; tree = Node l r; children = left ∷ right ∷ [] }) s all.read new out
          (part_left s l r (subst (IsPartOf s) tree old.part)))
      | inr not_left ↦
          elim (cases_eq right old.root) [
            | inl same ↦
                let tree : old.whole ≡ r =
                same_Some old.whole r (sym old.is ∙ ap (λ k. tree_with_id k es) (sym same) ∙ at_right) in
                rw is (new_rooted v es (record { id = i; tree = Node l r; children = left ∷ right ∷ [] }) s all.read new
                out (part_right s l r (subst (IsPartOf s) tree old.part)))
            | inr not_right ↦
                rw is (still_rooted es (record { id = i; tree = Node l r; children = left ∷ right ∷ [] }) s old
                (rw (ne_eqb left old.root not_left, ne_eqb right old.root not_right) refl))
          ]
    ]

-- lines without a fault are so
pub rooted_lines : (v : ℕ) (lines : List TextLine) (es : List Entry) → each_after (entry_of v) [] lines ≡ Ok es
    → AreRooted v es
rooted_lines v lines es e =
    read_keeps v (AreRooted v)
    (λ ds d all placed. record { read = read_one_more v ds d all.read placed; rooted = rooted_more v ds d all placed })
    [] lines es e (record { read = none_read v; rooted = λ id s h. cc })

-- ---- the whole tree

-- a node that passes no test is kept
kept_one : (test : ℕ → Bool) (root : ℕ) (es : List Entry) (whole : Tree) → tree_with_id root es ≡ Some whole
    → test root ≡ false → filter (λ e. not (test e.id)) es ≡ [] → ⊥
kept_one test root [] whole at free none = cc
kept_one test root (e ∷ es) whole at free none = elim (cases_eq e.id root) [
  | inl same ↦
      let out : test e.id ≡ false = subst (λ i. test i ≡ false) (sym same) free in
      let some = rw out at none in
      cc
  | inr other ↦
      let later : tree_with_id root es ≡ Some whole = rw (ne_eqb e.id root other) at at in
      kept_one test root es whole later free (rest (test e.id) none)
]
  where
    rest : (b : Bool) → cond (not b) (e ∷ filter (λ d. not (test d.id)) es) (filter (λ d. not (test d.id)) es) ≡ []
        → filter (λ d. not (test d.id)) es ≡ []
    rest true none = none
    rest false none = cc

-- where one is kept, it is that one
only_one : (test : ℕ → Bool) (root : ℕ) (es : List Entry) (whole t : Tree) → tree_with_id root es ≡ Some whole
    → test root ≡ false → one_root (filter (λ e. not (test e.id)) es) ≡ Ok t → whole ≡ t
only_one test root [] whole t at free one = cc
only_one test root (e ∷ es) whole t at free one = elim (cases_eq e.id root) [
  | inl same ↦
      let is : e.tree ≡ whole = same_Some e.tree whole (rw (eq-eqb e.id root same) at at) in
      let out : test e.id ≡ false = subst (λ i. test i ≡ false) (sym same) free in
      sym is ∙ first (filter (λ d. not (test d.id)) es) (rw out at one)
  | inr other ↦
      let later : tree_with_id root es ≡ Some whole = rw (ne_eqb e.id root other) at at in
      go (test e.id) (filter (λ d. not (test d.id)) es) (kept_one test root es whole later free)
      (only_one test root es whole t later free) one
]
  where
    first : (roots : List Entry) → one_root (e ∷ roots) ≡ Ok t → e.tree ≡ t
    first [] h = let same : done e.tree ≡ done t = h in cc
    first (root' ∷ roots) h = cc

    go : (b : Bool) (roots : List Entry) → (roots ≡ [] → ⊥) → (one_root roots ≡ Ok t → whole ≡ t)
        → one_root (cond (not b) (e ∷ roots) roots) ≡ Ok t → whole ≡ t
    go true roots some later h = later h
    go false [] some later h = absurd (some refl)
    go false (root' ∷ roots) some later h = cc

-- the tree of each line is a part of the one root's
pub are_parts : (v : ℕ) (es : List Entry) (t : Tree) → AreRooted v es → one_root (roots_of es) ≡ Ok t → AreParts t es
are_parts v es t all one id s h =
    let r = all.rooted id s h in
    subst (IsPartOf s) (only_one (λ i. is_child i es) r.root es r.whole t r.is r.free one) r.part
