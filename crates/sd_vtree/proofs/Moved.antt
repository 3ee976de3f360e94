-- The vectors hold the moved tree.
use Rattle.std.proofs.Common.{◌≡◌, ◌≢◌, ℕ, zero, suc, ◌+◌, ◌<◌, ◌≤◌, List, [], ◌∷◌, ◌++◌, length, None, Some, refl}
use Rattle.std.proofs.Common.{sym, ◌∙◌, ap, subst, arith, length-append, append_assoc, slice_get, slice_index, get_or}
use Rattle.std.proofs.Common.{set}
use Rattle.std.proofs.lemmas.List.{length-set}
use Rattle.std.proofs.lemmas.Option.{same_Some, none-some}
use Rattle.sd_model.specs.declared.trees.Move.{Move}
use Rattle.sd_model.specs.Tree.{variables, leaves}
use Rattle.sd_vtree.specs.declared.shape.Shape.{Shape}
use Rattle.sd_vtree.specs.declared.shape.Shape.TheVariants.{Leaf, Inner}
use Rattle.sd_vtree.specs.Numbered.{Numbered, NumberedNode, number_of, numbers, plain_tree, times, IsNumbered}
use Rattle.sd_vtree.specs.NumberedMoves.{moved_number}
use Rattle.sd_vtree.specs.Stored.{HasShapes, HoldsTree, tree_in}
use Rattle.sd_vtree.proofs.Times.{times_append}
use Rattle.sd_vtree.proofs.Pigeons.{times_distinct, distinct_times, times_all, all_times}
use Rattle.sd_vtree.proofs.Put.{Put}
use Rattle.sd_vtree.proofs.Building.{tree_in_stored}
use Rattle.sd_vtree.proofs.Reading.{number_of_tree_in}

-- a subtree with the same numbers and the same leaves, in another order
pub record Rearranged (s s' : Numbered) : Type 0 where
  pub numbers_times : (k : ℕ) → times k (numbers s') ≡ times k (numbers s)
  pub numbers_length : length (numbers s') ≡ length (numbers s)
  pub leaves_times : (k : ℕ) → times k (variables (plain_tree s')) ≡ times k (variables (plain_tree s))
  pub leaves_length : leaves (plain_tree s') ≡ leaves (plain_tree s)

-- how often a number stands in three lists joined
times_three : (k : ℕ) (f xs b : List ℕ) → times k (f ++ (xs ++ b)) ≡ times k f + (times k xs + times k b)
times_three k f xs b = omega (arith, times_append k f (xs ++ b), times_append k xs b)

length_three : (f xs b : List ℕ) → length (f ++ (xs ++ b)) ≡ length f + (length xs + length b)
length_three f xs b = omega (arith, length-append f (xs ++ b), length-append xs b)

-- the whole tree keeps its numbers and leaves too
pub put_rearranged : {kind : Move} {t : Numbered} {n : ℕ} {s s' : Numbered} (p : Put kind t n s s') → Rearranged s s' →
    Rearranged t p.result
put_rearranged {kind} {t} {n} {s} {s'} p h = record {
  numbers_times = λ k. (ap (times k) p.new_split ∙ times_three k p.front (numbers s') p.back)
      ∙ (ap (λ i. times k p.front + (i + times k p.back)) (h.numbers_times k)
      ∙ sym (ap (times k) p.split ∙ times_three k p.front (numbers s) p.back));
  numbers_length = (ap length p.new_split ∙ length_three p.front (numbers s') p.back)
      ∙ (ap (λ i. length p.front + (i + length p.back)) h.numbers_length
      ∙ sym (ap length p.split ∙ length_three p.front (numbers s) p.back));
  leaves_times = λ k. (ap (times k) p.new_leaf_split ∙ times_three k p.first (variables (plain_tree s')) p.last)
      ∙ (ap (λ i. times k p.first + (i + times k p.last)) (h.leaves_times k)
      ∙ sym (ap (times k) p.leaf_split ∙ times_three k p.first (variables (plain_tree s)) p.last));
  leaves_length = (ap length p.new_leaf_split ∙ length_three p.first (variables (plain_tree s')) p.last)
      ∙ (ap (λ i. length p.first + (i + length p.last)) h.leaves_length
      ∙ sym (ap length p.leaf_split ∙ length_three p.first (variables (plain_tree s)) p.last));
}

-- a rearranged vtree is one
pub numbered_again : (t u : Numbered) → IsNumbered t → Rearranged t u → IsNumbered u
numbered_again t u v h = record {
  once = λ n w. h.numbers_times n ∙ v.once n (subst (λ k. n < k) h.numbers_length w);
  no_other = λ n w. h.numbers_times n ∙ v.no_other n (subst (λ k. k ≤ n) h.numbers_length w);
  vtree = record {
    in_range = all_times (λ x. (1 ≤ x) × (x ≤ leaves (plain_tree u))) (variables (plain_tree u)) (λ x w. range x w);
    distinct = distinct_times (variables (plain_tree u)) (λ x. distinct x);
  };
  within_limit = subst (λ k. k ≤ 1024) (sym h.leaves_length) v.within_limit;
}
  where
    range : (x : ℕ) → 1 ≤ times x (variables (plain_tree u)) → (1 ≤ x) × (x ≤ leaves (plain_tree u))
    range x w =
        let r = times_all (λ y. (1 ≤ y) × (y ≤ leaves (plain_tree t))) (variables (plain_tree t)) v.vtree.in_range x
        (subst (λ k. 1 ≤ k) (h.leaves_times x) w) in
        (r.0, subst (λ k. x ≤ k) (sym h.leaves_length) r.1)

    distinct : (x : ℕ) → times x (variables (plain_tree u)) ≤ 1
    distinct x = subst (λ k. k ≤ 1) (sym (h.leaves_times x))
        (times_distinct (variables (plain_tree t)) v.vtree.distinct x)

-- the vectors after a move
pub record Turned (kind : Move) (t : Numbered) (n : ℕ) (nodes : List Shape)
    (positions order leaf_list : List ℕ) : Type 0 where
  pub result : Numbered
  pub is : moved_number kind t n ≡ Some result
  pub root : number_of result ≡ number_of t
  pub kept : HoldsTree nodes positions order leaf_list result
  pub count : length (numbers result) ≡ length (numbers t)

-- the vectors after a move hold the moved tree
pub turned : {kind : Move} {t : Numbered} {n : ℕ} {s s' : Numbered} {nodes nodes' : List Shape}
    {positions positions' order order' leaf_list : List ℕ} →
    HoldsTree nodes positions order leaf_list t → (p : Put kind t n s s') → Rearranged s s' → HasShapes s' nodes' →
    ((k : ℕ) → times k (numbers s) ≡ 0 → slice_get nodes' k ≡ slice_get nodes k) →
    ((k x : ℕ) → slice_get nodes k ≡ Some (Leaf x) → slice_get nodes' k ≡ Some (Leaf x)) →
    length nodes' ≡ length nodes → order' ≡ numbers p.result → length positions' ≡ length positions →
    ((i : ℕ) → i < length order' → get_or positions' (get_or order' i 0) 0 ≡ i) →
    Turned kind t n nodes' positions' order' leaf_list
turned {kind} {t} {n} {s} {s'} {nodes} {nodes'} {positions} {positions'} {order} {order'} {leaf_list} kept p h st same
    leaf size o places inv =
    let r = put_rearranged p h in
    record {
      result = p.result;
      is = p.is;
      root = p.root;
      count = r.numbers_length;
      kept = record {
        stored = p.stored nodes nodes' kept.stored st same;
        ordered = o;
        counted = size ∙ (kept.counted ∙ sym r.numbers_length);
        placed = places ∙ (kept.placed ∙ sym r.numbers_length);
        inverse = λ i w. subst (λ xs. get_or positions' (get_or xs i 0) 0 ≡ i) o
            (inv i (subst (λ xs. i < length xs) (sym o) w));
        listed = kept.listed ∙ sym r.leaves_length;
        found = λ x w. leaf (slice_index leaf_list x) (x + 1) (kept.found x (subst (λ k. x < k) r.leaves_length w));
        valid = numbered_again t p.result kept.valid r;
      };
    }

-- what the vectors are seen as after the move
pub turned_view : {kind : Move} {t : Numbered} {n : ℕ} {nodes : List Shape} {positions order leaf_list : List ℕ}
    (u : Turned kind t n nodes positions order leaf_list) →
    (root : ℕ) → number_of t ≡ root → tree_in (length nodes) nodes root ≡ u.result
turned_view {kind} {t} {n} {nodes} u root e =
    let c = u.kept.counted in
    ap (tree_in (length nodes) nodes) (sym e ∙ sym u.root)
    ∙ tree_in_stored (length nodes) nodes u.result (omega arith) u.kept.stored

-- the number of the root that is asked for
pub view_root : {t : Numbered} (k : ℕ) (nodes : List Shape) (root : ℕ) → tree_in k nodes root ≡ t → number_of t ≡ root
view_root {t} k nodes root e = sym (ap number_of e) ∙ number_of_tree_in k nodes root

-- the clauses of a move, over what the vectors are seen as
pub turned_kept : {kind : Move} {t : Numbered} {n : ℕ} {nodes : List Shape} {positions order leaf_list : List ℕ} →
    Turned kind t n nodes positions order leaf_list →
    (root : ℕ) → number_of t ≡ root → HoldsTree nodes positions order leaf_list (tree_in (length nodes) nodes root)
turned_kept {kind} {t} {n} {nodes} {positions} {order} {leaf_list} u root e =
    subst (λ k. HoldsTree nodes positions order leaf_list k) (sym (turned_view u root e)) u.kept

pub turned_moved : {kind : Move} {t : Numbered} {n : ℕ} {nodes : List Shape} {positions order leaf_list : List ℕ} →
    Turned kind t n nodes positions order leaf_list →
    (root : ℕ) → number_of t ≡ root → moved_number kind t n ≡ Some (tree_in (length nodes) nodes root)
turned_moved u root e = u.is ∙ ap Some (sym (turned_view u root e))

pub turned_count : {kind : Move} {t : Numbered} {n : ℕ} {nodes : List Shape} {positions order leaf_list : List ℕ} →
    Turned kind t n nodes positions order leaf_list →
    (root : ℕ) → number_of t ≡ root → length (numbers (tree_in (length nodes) nodes root)) ≡ length (numbers t)
turned_count u root e = ap (λ k. length (numbers k)) (turned_view u root e) ∙ u.count

pub turned_numbered : {kind : Move} {t : Numbered} {n : ℕ} {nodes : List Shape} {positions order leaf_list : List ℕ} →
    Turned kind t n nodes positions order leaf_list →
    (root : ℕ) → number_of t ≡ root → IsNumbered (tree_in (length nodes) nodes root)
turned_numbered u root e = subst IsNumbered (sym (turned_view u root e)) u.kept.valid

-- a move that was made is defined
pub turned_some : {kind : Move} {t : Numbered} {n : ℕ} {nodes : List Shape} {positions order leaf_list : List ℕ} →
    Turned kind t n nodes positions order leaf_list →
    moved_number kind t n ≡ None → ⊥
turned_some u e = none-some u.result (sym e ∙ u.is)

-- a shape that was set, and the others
pub slice_get_set_same : {A : Type 0} (nodes : List A) (k : ℕ) (x : A) → k < length nodes →
    slice_get (set nodes k x) k ≡ Some x
slice_get_set_same [] k x h = absurd (omega arith)
slice_get_set_same (y ∷ nodes) zero x h = refl
slice_get_set_same (y ∷ nodes) (suc k) x h = slice_get_set_same nodes k x (omega arith)

pub slice_get_set_other : {A : Type 0} (nodes : List A) (k j : ℕ) (x : A) → j ≢ k →
    slice_get (set nodes k x) j ≡ slice_get nodes j
slice_get_set_other [] k j x h = refl
slice_get_set_other (y ∷ nodes) zero zero x h = absurd (h refl)
slice_get_set_other (y ∷ nodes) zero (suc j) x h = refl
slice_get_set_other (y ∷ nodes) (suc k) zero x h = refl
slice_get_set_other (y ∷ nodes) (suc k) (suc j) x h = slice_get_set_other nodes k j x (λ e. h (ap suc e))

-- an internal node is no leaf
pub not_leaf : (nodes : List Shape) (k x a b : ℕ) → slice_get nodes k ≡ Some (Leaf x) →
    slice_get nodes k ≡ Some (Inner a b) → ⊥
not_leaf nodes k x a b e f = let g : Leaf x ≡ Inner a b = same_Some (Leaf x) (Inner a b) (sym e ∙ f) in cc

-- two nodes' shapes changed, which were no leaves
pub two_set : (nodes : List Shape) (u l : ℕ) (v w : Shape) → u ≢ l → u < length nodes → l < length nodes →
    (slice_get (set (set nodes u v) l w) u ≡ Some v) × (slice_get (set (set nodes u v) l w) l ≡ Some w)
    × ((k : ℕ) → k ≢ u → k ≢ l → slice_get (set (set nodes u v) l w) k ≡ slice_get nodes k)
two_set nodes u l v w ne hu hl = (
  slice_get_set_other (set nodes u v) l u w ne ∙ slice_get_set_same nodes u v hu,
  slice_get_set_same (set nodes u v) l w (omega (arith, length-set nodes u v)),
  λ k p q. slice_get_set_other (set nodes u v) l k w q ∙ slice_get_set_other nodes u k v p,
)

-- the numbers and leaves of a rotated subtree
pub rearranged_right : (u l : ℕ) (a b c : Numbered) →
    Rearranged (NumberedNode u (NumberedNode l a b) c) (NumberedNode u a (NumberedNode l b c))
rearranged_right u l a b c = record {
  numbers_times = λ k. omega (
    arith,
    times_append k (numbers a ++ l ∷ numbers b) (u ∷ numbers c),
    times_append k (numbers a) (l ∷ numbers b),
    times_append k (numbers a) (u ∷ (numbers b ++ l ∷ numbers c)),
    times_append k (numbers b) (l ∷ numbers c),
  );
  numbers_length = omega (
    arith,
    length-append (numbers a ++ l ∷ numbers b) (u ∷ numbers c),
    length-append (numbers a) (l ∷ numbers b),
    length-append (numbers a) (u ∷ (numbers b ++ l ∷ numbers c)),
    length-append (numbers b) (l ∷ numbers c),
  );
  leaves_times = λ k. ap (times k)
      (sym (append_assoc (variables (plain_tree a)) (variables (plain_tree b)) (variables (plain_tree c))));
  leaves_length = ap length (sym (append_assoc (variables (plain_tree a)) (variables (plain_tree b))
      (variables (plain_tree c))));
}

-- the left rotation is the right one read backwards
pub rearranged_left : (u l : ℕ) (a b c : Numbered) →
    Rearranged (NumberedNode u a (NumberedNode l b c)) (NumberedNode u (NumberedNode l a b) c)
rearranged_left u l a b c =
    let r = rearranged_right u l a b c in
    record {
      numbers_times = λ k. sym (r.numbers_times k);
      numbers_length = sym r.numbers_length;
      leaves_times = λ k. sym (r.leaves_times k);
      leaves_length = sym r.leaves_length;
    }

-- a swap only exchanges the two lists
pub rearranged_swap : (u : ℕ) (a b : Numbered) → Rearranged (NumberedNode u a b) (NumberedNode u b a)
rearranged_swap u a b = record {
  numbers_times = λ k. omega
      (arith, times_append k (numbers a) (u ∷ numbers b), times_append k (numbers b) (u ∷ numbers a));
  numbers_length = omega (arith, length-append (numbers a) (u ∷ numbers b), length-append (numbers b) (u ∷ numbers a));
  leaves_times = λ k. omega (
    arith,
    times_append k (variables (plain_tree a)) (variables (plain_tree b)),
    times_append k (variables (plain_tree b)) (variables (plain_tree a)),
  );
  leaves_length = omega (
    arith,
    length-append (variables (plain_tree a)) (variables (plain_tree b)),
    length-append (variables (plain_tree b)) (variables (plain_tree a)),
  );
}
