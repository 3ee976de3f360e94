-- What the vectors tell of the tree that they hold.
use Rattle.std.proofs.Common.{◌≡◌, ℕ, zero, suc, ◌+◌, ◌-◌, ◌<◌, ◌≤◌, List, length, Option, None, Some, refl, sym, ◌∙◌}
use Rattle.std.proofs.Common.{ap, arith, slice_get, get_or, subst, IfSome, is_some, option_copied, ltb, ltb-true, Bor}
use Rattle.std.proofs.lemmas.List.{get_or_default}
use Rattle.std.proofs.lemmas.Option.{slice_get_read, slice_get-get_or, slice_get_within}
use Rattle.sd_model.specs.Tree.{leaves}
use Rattle.sd_vtree.specs.declared.shape.Shape.{Shape}
use Rattle.sd_vtree.specs.declared.shape.Shape.TheVariants.{Leaf, Inner}
use Rattle.sd_vtree.specs.Numbered.{Numbered, number_of, numbers, plain_tree, times, children_at}
use Rattle.sd_vtree.specs.Numbered.{variable_at, IsNumbered}
use Rattle.sd_vtree.specs.Stored.{HoldsTree, tree_in, tree_below}
use Rattle.sd_vtree.proofs.Times.{place, times_get_or}
use Rattle.sd_vtree.proofs.Subtrees.{node_within}
use Rattle.sd_vtree.proofs.Parts.{shape_children, shape_variable, children_at_shape, variable_at_shape}

-- the root of the tree that is read is the number that was asked for
pub number_of_tree_in : (k : ℕ) (nodes : List Shape) (n : ℕ) → number_of (tree_in k nodes n) ≡ n
unfolding tree_in
number_of_tree_in zero nodes n = refl
number_of_tree_in (suc k) nodes n = go (slice_get nodes n)
  where
    go : (o : Option Shape) → number_of (tree_below (tree_in k nodes) n o) ≡ n
    go None = refl
    go (Some (Leaf x)) = refl
    go (Some (Inner l r)) = refl

-- a number below the count of nodes is in the tree
pub times_positive : {nodes : List Shape} {positions order leaf_list : List ℕ} {t : Numbered} →
    HoldsTree nodes positions order leaf_list t →
    (n : ℕ) → n < length (numbers t) → 1 ≤ times n (numbers t)
times_positive {nodes} {positions} {order} {leaf_list} {t} kept n h = let o = kept.valid.once n h in omega arith

-- the same vectors hold the tree under its other name
pub kept_as : {nodes : List Shape} {positions order leaf_list : List ℕ} {u t : Numbered} →
    HoldsTree nodes positions order leaf_list u → u ≡ t →
    HoldsTree nodes positions order leaf_list t
kept_as {nodes} {positions} {order} {leaf_list} kept e = subst (λ t. HoldsTree nodes positions order leaf_list t) e kept

-- the shape that is read at a number tells the children
pub children_read : {nodes : List Shape} {positions order leaf_list : List ℕ} {t : Numbered} →
    HoldsTree nodes positions order leaf_list t →
    (n : ℕ) → n < length (numbers t) → (s : Shape) → s ≡ get_or nodes n s → shape_children s ≡ children_at t n
children_read {nodes} {positions} {order} {leaf_list} {t} kept n h s e =
    sym (children_at_shape t n nodes s kept.stored (times_positive kept n h)
    (let c = kept.counted in slice_get_read nodes (length nodes) n s refl (omega arith) e))

-- and it tells the variable
pub variable_read : {nodes : List Shape} {positions order leaf_list : List ℕ} {t : Numbered} →
    HoldsTree nodes positions order leaf_list t →
    (n : ℕ) → n < length (numbers t) → (s : Shape) → s ≡ get_or nodes n s → shape_variable s ≡ variable_at t n
variable_read {nodes} {positions} {order} {leaf_list} {t} kept n h s e =
    sym (variable_at_shape t n nodes s kept.stored (times_positive kept n h)
    (let c = kept.counted in slice_get_read nodes (length nodes) n s refl (omega arith) e))

-- the position that is kept for a number is the place where it stands
pub position_read : {nodes : List Shape} {positions order leaf_list : List ℕ} {t : Numbered} →
    HoldsTree nodes positions order leaf_list t →
    (n : ℕ) → n < length (numbers t) → (r : ℕ) → r ≡ get_or positions n r → slice_get (numbers t) r ≡ Some n
position_read {nodes} {positions} {order} {leaf_list} {t} kept n h r e =
    let p = place n (numbers t) (times_positive kept n h) in
    let c : n < length positions = (let placed = kept.placed in omega arith) in
    let f : r ≡ p.index = e
    ∙ (get_or_default positions n r 0 c
    ∙ (ap (λ k. get_or positions k 0) (sym p.is) ∙ kept.inverse p.index p.within)) in
    ap (λ k. slice_get (numbers t) k) f ∙ (slice_get-get_or (numbers t) p.index 0 p.within ∙ ap Some p.is)

-- the leaf that is kept for a variable has it
pub leaf_read : {nodes : List Shape} {positions order leaf_list : List ℕ} {t : Numbered} →
    HoldsTree nodes positions order leaf_list t →
    (x : ℕ) → 1 ≤ x → x ≤ leaves (plain_tree t) → (n : ℕ) → n ≡ get_or leaf_list (x - 1) n →
    (n < length (numbers t)) × (variable_at t n ≡ Some x)
leaf_read {nodes} {positions} {order} {leaf_list} {t} kept x h b n g =
    let listed = kept.listed in
    let counted = kept.counted in
    let f : n ≡ get_or leaf_list (x - 1) 0 = g ∙ get_or_default leaf_list (x - 1) n 0 (omega arith) in
    let e : slice_get nodes n ≡ Some (Leaf x) =
    ap (λ k. slice_get nodes k) f
    ∙ (kept.found (x - 1) (omega arith) ∙ ap (λ k. Some (Leaf k)) (let y : (x - 1) + 1 ≡ x = omega arith in y)) in
    let w : n < length nodes = slice_get_within nodes n (Leaf x) e in
    let v : n < length (numbers t) = omega arith in
    (v, variable_at_shape t n nodes (Leaf x) kept.stored (times_positive kept n v) e)

-- a node that is read at a position is one of the tree
pub at_within : (t : Numbered) → IsNumbered t → (seen : List ℕ) → seen ≡ numbers t → (p : ℕ) (o : Option (Bor ℕ)) →
    is_some o ≡ ltb p (length seen) → IfSome o (λ x. x.now ≡ get_or seen p x.now) →
    IfSome (option_copied o) (λ n. n < length (numbers t))
at_within t v seen e p None a b = tt
at_within t v seen e p (Some x) a b =
    let h : p < length seen = ltb-true p (length seen) (sym a) in
    let k : get_or seen p 0 ≡ x.now = get_or_default seen p 0 x.now h ∙ sym b in
    node_within t v x.now
    (subst (λ n. 1 ≤ times n (numbers t)) k
    (subst (λ xs. 1 ≤ times (get_or seen p 0) xs) e (times_get_or seen p h)))
