-- What stands between two nodes of a subtree is in it, so a node between two that is over both is the lowest one.
use Rattle.std.proofs.Common.{◌≡◌, ℕ, suc, ◌+◌, ◌-◌, ◌<◌, ◌≤◌, List, ◌∷◌, ◌++◌, length, Some, sym, ◌∙◌, ap, subst}
use Rattle.std.proofs.Common.{max}
use Rattle.std.proofs.Common.{arith, length-append, append_assoc, slice_get}
use Rattle.std.proofs.lemmas.Option.{same_Some, slice_get_within}
use Rattle.sd_vtree.specs.Numbered.{Numbered, NumberedNode, numbers, subtree, times, IsNumbered, IsUnder}
use Rattle.sd_vtree.specs.Lowest.{IsLowest}
use Rattle.sd_vtree.proofs.Times.{place, slice_get_append, slice_get_left, times_slice_get}
use Rattle.sd_vtree.proofs.Subtrees.{InnerPart, once_numbered, subtree_split}
use Rattle.sd_vtree.proofs.Under.{under_part, under_itself, position_in, slice_get_front}

-- what stands at a position of a subtree is in it
in_part : (t s : Numbered) (n : ℕ) → subtree t n ≡ Some s → (front back : List ℕ) →
    numbers t ≡ front ++ (numbers s ++ back) → (p x : ℕ) → length front ≤ p → p < length front + length (numbers s) →
    slice_get (numbers t) p ≡ Some x → IsUnder t x n
in_part t s n is front back e p x low high f =
    let i = p - length front in
    let q : length front + i ≡ p = omega arith in
    let g : slice_get (numbers s) i ≡ Some x = sym (slice_get_left (numbers s) back i (omega arith))
    ∙ (sym (slice_get_append front (numbers s ++ back) i)
    ∙ (ap (λ xs. slice_get xs (length front + i)) (sym e) ∙ (ap (slice_get (numbers t)) q ∙ f))) in
    record { part = s; is = is; has = times_slice_get (numbers s) i x g }

-- where what is under a node stands
position_under : (t s : Numbered) → IsNumbered t → (front back : List ℕ) → numbers t ≡ front ++ (numbers s ++ back) →
    (a low : ℕ) → 1 ≤ times a (numbers s) → slice_get (numbers t) low ≡ Some a →
    (length front ≤ low) × (low < length front + length (numbers s))
position_under t s v front back e a low h f =
    let k = place a (numbers s) h in
    let w = k.within in
    let i : low ≡ length front + k.index = position_in t s (once_numbered t v) front back e a low k.index f
    (slice_get_front (numbers s) back k.index k.within ∙ ap Some k.is) in
    (omega arith, omega arith)

-- what stands between two nodes under a third is under it
pub between : (t : Numbered) → IsNumbered t → (a b c low high here n : ℕ) → slice_get (numbers t) low ≡ Some a →
    slice_get (numbers t) high ≡ Some b → slice_get (numbers t) here ≡ Some c → low ≤ here → here ≤ high →
    IsUnder t a n → IsUnder t b n → IsUnder t c n
between t v a b c low high here n f g h x y u w =
    let s = u.part in
    let split = subtree_split t n s u.is in
    let i = position_under t s v split.front split.back split.is a low u.has f in
    let j = position_under t s v split.front split.back split.is b high (under_part t b n s u.is w) g in
    let i0 = i.0 in let j1 = j.1 in
    in_part t s n u.is split.front split.back split.is here c (omega arith) (omega arith) h

-- a node between two that is over both is the lowest one
pub lowest_between : (t : Numbered) → IsNumbered t → (a b c low high here at : ℕ) →
    slice_get (numbers t) low ≡ Some a → slice_get (numbers t) high ≡ Some b → slice_get (numbers t) here ≡ Some c →
    low ≤ here → here ≤ high → IsUnder t a c → IsUnder t b c → IsUnder t a at → IsUnder t b at → IsLowest t a b at c
lowest_between t v a b c low high here at f g h x y u w p q = record {
  within = between t v a b c low high here at f g h x y p q;
  first = u;
  second = w;
  rest = λ m k i j. between t v a b c low high here m f g h x y i j;
}

-- what stands no farther from a node than its children reach is under it
pub under_reached : (t : Numbered) → IsNumbered t → (n l r : ℕ) (part : InnerPart t n l r) (here p x : ℕ) →
    slice_get (numbers t) here ≡ Some n → slice_get (numbers t) p ≡ Some x →
    here ≤ p + length (numbers part.left) → p ≤ here + length (numbers part.right) → IsUnder t x n
under_reached t v n l r part here p x f g low high =
    let s = NumberedNode n part.left part.right in
    let split = subtree_split t n s part.is in
    let rest = n ∷ (numbers part.right ++ split.back) in
    let e : numbers t ≡ split.front ++ (numbers part.left ++ rest) = split.is
    ∙ ap (λ xs. split.front ++ xs) (append_assoc (numbers part.left) (n ∷ numbers part.right) split.back) in
    let j : here ≡ length split.front + length (numbers part.left) = position_in t part.left (once_numbered t v)
    split.front rest e n here (length (numbers part.left)) f
    (ap (slice_get (numbers part.left ++ rest))
    (let z : length (numbers part.left) ≡ length (numbers part.left) + 0 = omega arith in z)
    ∙ slice_get_append (numbers part.left) rest 0) in
    let size : length (numbers s) ≡ length (numbers part.left) + suc (length (numbers part.right)) =
    length-append (numbers part.left) (n ∷ numbers part.right) in
    in_part t s n part.is split.front split.back split.is p x (omega arith) (omega arith) g

-- a node whose children reach two others is the lowest one over them
pub lowest_reached : (t : Numbered) → IsNumbered t → (n l r : ℕ) (part : InnerPart t n l r) (low high here x y : ℕ) →
    slice_get (numbers t) here ≡ Some n → low ≤ here → here ≤ high →
    ((s : Numbered) → subtree t l ≡ Some s → x ≡ length (numbers s)) →
    ((s : Numbered) → subtree t r ≡ Some s → y ≡ length (numbers s)) →
    here ≤ low + x → high ≤ here + y → (a b at : ℕ) →
    slice_get (numbers t) low ≡ Some a → slice_get (numbers t) high ≡ Some b → IsUnder t a at → IsUnder t b at →
    IsLowest t a b at n
lowest_reached t v n l r part low high here x y h first last hx hy cx cy a b at f g u w =
    let ex = hx part.left part.left_is in
    let ey = hy part.right part.right_is in
    lowest_between t v a b n low high here at f g h first last
    (under_reached t v n l r part here low a h f (omega arith) (omega arith))
    (under_reached t v n l r part here high b h g (omega arith) (omega arith)) u w

-- the node over both that stands between them
pub lowest_at : (t : Numbered) → IsNumbered t → (a b at low high here : ℕ) → slice_get (numbers t) low ≡ Some a →
    slice_get (numbers t) high ≡ Some b → slice_get (numbers t) here ≡ Some at → low ≤ here → here ≤ high →
    IsUnder t a at → IsUnder t b at → IsLowest t a b at at
lowest_at t v a b at low high here f g h x y u w = lowest_between t v a b at low high here at f g h x y u w u w

-- a node is the lowest one over itself
pub lowest_alone : (t : Numbered) → IsNumbered t → (low high here n : ℕ) → slice_get (numbers t) here ≡ Some n →
    low ≤ here → here ≤ high → low ≡ high → (a b at : ℕ) → slice_get (numbers t) low ≡ Some a →
    slice_get (numbers t) high ≡ Some b → IsUnder t a at → IsUnder t b at → IsLowest t a b at n
lowest_alone t v low high here n h x y e a b at f g u w =
    let ea : n ≡ a = same_Some n a (sym h ∙ (ap (slice_get (numbers t)) (let z : here ≡ low = omega arith in z) ∙ f)) in
    let eb : n ≡ b = same_Some n b (sym h
    ∙ (ap (slice_get (numbers t)) (let z : here ≡ high = omega arith in z) ∙ g)) in
    let own = under_itself t n (times_slice_get (numbers t) here n h) in
    lowest_between t v a b n low high here at f g h x y (subst (λ k. IsUnder t k n) ea own)
    (subst (λ k. IsUnder t k n) eb own) u w

-- the greater of two positions is one
pub last_within : (xs : List ℕ) (p q m x y : ℕ) → slice_get xs p ≡ Some x → slice_get xs q ≡ Some y → m ≡ max p q →
    m < length xs
last_within xs p q m x y f g e = omega (arith, slice_get_within xs p x f, slice_get_within xs q y g)
