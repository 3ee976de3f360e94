-- The parts of a list that a swap exchanges, by the names that the code has.
use Rattle.std.proofs.Common.{◌≡◌, ◌≢◌, ℕ, ◌+◌, ◌-◌, ◌*◌, ◌<◌, ◌≤◌, List, [], ◌∷◌, ◌++◌, length, sym, ◌∙◌, ap, arith}
use Rattle.std.proofs.Common.{length-append, append_assoc, get_or, take, drop}
use Rattle.std.proofs.lemmas.List.{take_at, drop_at}
use borrow.Rule.Slice.PartMut.{put_mid}
use Rattle.sd_model.specs.Tree.{variables, leaves}
use Rattle.sd_vtree.specs.Numbered.{Numbered, NumberedLeaf, NumberedNode, numbers, plain_tree, IsNumbered}
use Rattle.sd_vtree.proofs.Moved.{rearranged_swap, put_rearranged, numbered_again}
use Rattle.sd_vtree.proofs.Swapped.{Sides}

-- two neighbouring parts after a rotation of both
pub part_rotated : (f x y k xs new : List ℕ) (a m e : ℕ) → xs ≡ f ++ (x ++ (y ++ k)) → length f ≡ a → a + length x ≡ m →
    m + length y ≡ e →
    new ≡ drop (m - a) (take (e - a) (drop a xs)) ++ take (m - a) (take (e - a) (drop a xs)) →
    put_mid a (e - a) xs new ≡ f ++ (y ++ (x ++ k))
part_rotated f x y k xs new a m e s fa xm ye n =
    let d : drop a xs ≡ x ++ (y ++ k) = ap (drop a) s ∙ drop_at f (x ++ (y ++ k)) a fa in
    let w : length (x ++ y) ≡ e - a = omega (arith, length-append x y) in
    let t : take (e - a) (drop a xs) ≡ x ++ y = ap (take (e - a)) (d ∙ sym (append_assoc x y k))
    ∙ take_at (x ++ y) k (e - a) w in
    let q : length x ≡ m - a = omega arith in
    let r : new ≡ y ++ x = n
    ∙ (ap (λ zs. drop (m - a) zs ++ take (m - a) zs) t
    ∙ (ap (λ zs. zs ++ take (m - a) (x ++ y)) (drop_at x y (m - a) q)
    ∙ ap (λ zs. y ++ zs) (take_at x y (m - a) q))) in
    let b : take a xs ≡ f = ap (take a) s ∙ take_at f (x ++ (y ++ k)) a fa in
    let p : drop (e - a) (drop a xs) ≡ k = ap (drop (e - a)) (d ∙ sym (append_assoc x y k))
    ∙ drop_at (x ++ y) k (e - a) w in
    ap (λ zs. zs ++ (new ++ drop (e - a) (drop a xs))) b
    ∙ (ap (λ zs. f ++ (zs ++ drop (e - a) (drop a xs))) r
    ∙ (ap (λ zs. f ++ ((y ++ x) ++ zs)) p ∙ ap (λ zs. f ++ zs) (append_assoc y x k)))

-- two rotations that exchange the sides of a place
pub sides_exchanged : (f a b k : List ℕ) (u : ℕ) (from position to : ℕ) (old half new : List ℕ) →
    old ≡ f ++ ((a ++ u ∷ b) ++ k) → length f ≡ from → from + length a ≡ position → position + 1 + length b ≡ to →
    ((f x y k : List ℕ) → old ≡ f ++ (x ++ (y ++ k)) → length f ≡ from → from + length x ≡ position + 1 →
    position + 1 + length y ≡ to → half ≡ f ++ (y ++ (x ++ k))) →
    ((f x y k : List ℕ) → half ≡ f ++ (x ++ (y ++ k)) → length f ≡ from + (to - position - 1) →
    from + (to - position - 1) + length x ≡ to - 1 → to - 1 + length y ≡ to → new ≡ f ++ (y ++ (x ++ k))) →
    new ≡ f ++ ((b ++ u ∷ a) ++ k)
sides_exchanged f a b k u from position to old half new s fa pa eb g h =
    let au = a ++ u ∷ [] in
    let n : length au ≡ length a + 1 = length-append a (u ∷ []) in
    let o : old ≡ f ++ (au ++ (b ++ k)) =
    s ∙ ap (λ zs. f ++ zs) (append_assoc a (u ∷ b) k ∙ sym (append_assoc a (u ∷ []) (b ++ k))) in
    let x : half ≡ f ++ (b ++ (au ++ k)) = g f au b k o fa (omega arith) (omega arith) in
    let y : half ≡ (f ++ b) ++ (a ++ ((u ∷ []) ++ k)) =
    x ∙ (sym (append_assoc f b (au ++ k)) ∙ ap (λ zs. (f ++ b) ++ zs) (append_assoc a (u ∷ []) k)) in
    h (f ++ b) a (u ∷ []) k y (omega (arith, length-append f b)) (omega (arith, length-append f b)) (omega arith)
    ∙ (append_assoc f b (u ∷ (a ++ k)) ∙ ap (λ zs. f ++ zs) (sym (append_assoc b (u ∷ a) k)))

-- the order after the sides were exchanged
pub order_swapped : {t : Numbered} {n a b from position to : ℕ} (s : Sides t n a b from position to)
    → (seen after : List ℕ) →
    seen ≡ numbers t →
    ((f x y k : List ℕ) (u : ℕ) → seen ≡ f ++ ((x ++ u ∷ y) ++ k) → length f ≡ from → from + length x ≡ position →
    position + 1 + length y ≡ to → after ≡ f ++ ((y ++ u ∷ x) ++ k)) →
    after ≡ numbers s.moved.result
order_swapped {t} {n} {a} {b} {from} {position} {to} s seen after e h =
    h s.moved.front (numbers s.left) (numbers s.right) s.moved.back n (e ∙ s.moved.split) s.starts s.middle s.ends
    ∙ sym s.moved.new_split

-- the tree after a swap is numbered, and has as many nodes
pub swapped_numbered : {t : Numbered} {n a b from position to : ℕ} (s : Sides t n a b from position to) → IsNumbered t →
    IsNumbered s.moved.result
swapped_numbered {t} {n} s v = numbered_again t s.moved.result v
    (put_rearranged s.moved (rearranged_swap n s.left s.right))

pub swapped_length : {t : Numbered} {n a b from position to : ℕ} (s : Sides t n a b from position to) →
    length (numbers s.moved.result) ≡ length (numbers t)
swapped_length {t} {n} s = (put_rearranged s.moved (rearranged_swap n s.left s.right)).numbers_length

-- the bounds and the place are in order
pub sides_order : {t : Numbered} {n a b from position to : ℕ} → Sides t n a b from position to →
    (from ≤ position) × (position < to) × (to ≤ length (numbers t))
sides_order s = let m = s.middle in let e = s.ends in let w = s.within in (omega arith, omega arith, w)

-- how many nodes a tree has
pub length_numbers : (t : Numbered) → length (numbers t) + 1 ≡ 2 * leaves (plain_tree t)
length_numbers (NumberedLeaf n x) = omega arith
length_numbers (NumberedNode n l r) =
    omega (
      arith,
      length_numbers l,
      length_numbers r,
      length-append (numbers l) (n ∷ numbers r),
      length-append (variables (plain_tree l)) (variables (plain_tree r)),
    )

-- what was written, by the names that the fields have
pub inside_after : (seen order new positions : List ℕ) (from to : ℕ) → seen ≡ order → positions ≡ new →
    ((p : ℕ) → from ≤ p → p < to → get_or new (get_or seen p 0) 0 ≡ p) → (p : ℕ) → from ≤ p → p < to →
    get_or positions (get_or order p 0) 0 ≡ p
inside_after seen order new positions from to e f h p a b =
    ap (λ xs. get_or xs (get_or order p 0) 0) f ∙ (ap (λ xs. get_or new (get_or xs p 0) 0) (sym e) ∙ h p a b)

-- what was not written, likewise
pub outside_after : (seen order new positions old before : List ℕ) (from to : ℕ) → seen ≡ order → positions ≡ new →
    old ≡ before →
    ((m : ℕ) → ((p : ℕ) → from ≤ p → p < to → get_or seen p 0 ≢ m) → get_or new m 0 ≡ get_or old m 0) →
    (m : ℕ) → ((p : ℕ) → from ≤ p → p < to → get_or order p 0 ≢ m) → get_or positions m 0 ≡ get_or before m 0
outside_after seen order new positions old before from to e f g h m k =
    ap (λ xs. get_or xs m 0) f
    ∙ (h m (λ p a b z. k p a b (ap (λ xs. get_or xs p 0) (sym e) ∙ z)) ∙ ap (λ xs. get_or xs m 0) g)
