-- One code shows at most one diagram, and where no two nodes have one key, one diagram has at most one code.
use Rattle.std.proofs.Common.{◌≡◌, inl, inr, ℕ, ◌+◌, ◌*◌, ◌≤◌, ◌<◌, Bool, true, false, List, [], ◌∷◌}
use Rattle.std.proofs.Common.{Option, Some, None, refl, sym, ◌∙◌, ap, subst, arith, if◌then◌else◌}
use Rattle.std.proofs.Common.{ne_eqb}
use Rattle.std.proofs.lemmas.Bool.{cases_eq}
use Rattle.std.proofs.lemmas.List.Sorted.{IsPermutation-sym}
use Rattle.std.proofs.lemmas.Option.{same_Some, none-some, some_pair_parts}
use Rattle.sd_model.specs.Tree.{Tree, Leaf, Node, leaves, variables, IsVtree, right_base}
use Rattle.sd_model.specs.Diagram.{Diagram, Bottom, Top, Literal, Decomposition, Elements, End, Pair}
use Rattle.sd_model.specs.Diagram.{is_constant}
use Rattle.sd_model.specs.Canonical.{IsElement, first, later}
use Rattle.sd_model.proofs.Members as members
use Rattle.sd_vtree.specs.Numbered.{Numbered, numbers, plain_tree, or_else, times, IsNumbered}
use Rattle.sd_vtree.proofs.Times.{one_place, times_append, times_same}
use Rattle.sd_vtree.proofs.Subtrees.{once_numbered}
use Rattle.sd_vtree.proofs.Pigeons.{times_all}
use Rattle.sd_laws.specs.Pairs.{from_pairs, pairs_of}
use Rattle.sd_laws.specs.Parts.{leaf_position}
use Rattle.sd_laws.specs.Shown.{Lookup, literal_code, HasPairs, Shows, ShowElements, ShowPairs, AreKeys, Keeps}
use Rattle.sd_laws.proofs.Lists.{IsAmong, IsWithin, within_permuted, ascending_same}

-- the code of a literal

-- a variable with a leaf is one of the tree's
leaf_variable : (t : Tree) (base x p : ℕ) → leaf_position t base x ≡ Some p → 1 ≤ times x (variables t)
leaf_variable (Leaf y) base x p e = elim (cases_eq y x) [
  | inl h ↦ omega (arith, times_same x y [] h)
  | inr h ↦ absurd (none-some p (sym (ap (λ b. if b then Some base else None) (ne_eqb y x h)) ∙ e))
]
leaf_variable (Node l r) base x p e =
    go (λ q. leaf_variable l base x q) (λ q. leaf_variable r (right_base l base) x q) (leaf_position l base x) refl e
  where
    go : ((q : ℕ) → leaf_position l base x ≡ Some q → 1 ≤ times x (variables l)) →
        ((q : ℕ) → leaf_position r (right_base l base) x ≡ Some q → 1 ≤ times x (variables r)) →
        (o : Option ℕ) → leaf_position l base x ≡ o →
        or_else o (leaf_position r (right_base l base) x) ≡ Some p →
        1 ≤ times x (variables (Node l r))
    go il ir (Some q) k f = omega (arith, il q k, times_append x (variables l) (variables r))
    go il ir None k f = omega (arith, ir p f, times_append x (variables l) (variables r))

-- which is from 1 to the number of leaves
pub leaf_range : (t : Tree) → IsVtree t → (base x p : ℕ) → leaf_position t base x ≡ Some p → (1 ≤ x) × (x ≤ leaves t)
leaf_range t v base x p e =
    times_all (λ y. (1 ≤ y) × (y ≤ leaves t)) (variables t) v.in_range x (leaf_variable t base x p e)

-- a literal's code is from 2
literal_code_least : (x : ℕ) (s : Bool) → 1 ≤ x → 2 ≤ literal_code x s
literal_code_least x true h = omega arith
literal_code_least x false h = omega arith

-- up to twice the number of variables and one more
literal_code_most : (x n : ℕ) (s : Bool) → x ≤ n → literal_code x s < 2 * n + 2
literal_code_most x n true h = omega arith
literal_code_most x n false h = omega arith

-- what a code tells

-- a literal's code is between those of constants and those of decompositions
pub literal_range : (t : Numbered) (at : Lookup) → IsNumbered t → (c p x : ℕ) (s : Bool) →
    Shows t at c (Literal p x s) → (2 ≤ c) × (c < 2 * leaves (plain_tree t) + 2) × (c < 2050)
literal_range t at v c p x s h =
    let r = leaf_range (plain_tree t) v.vtree 0 x p h.1 in
    let a = literal_code_least x s r.0 in
    let b = literal_code_most x (leaves (plain_tree t)) s r.1 in
    let within_limit = v.within_limit in
    (omega (arith, h.0, a), omega (arith, h.0, b), omega (arith, h.0, b, within_limit))

-- the code of a decomposition is from 2,050
pub node_range : (t : Numbered) (at : Lookup) (c p : ℕ) (es : Elements) → Shows t at c (Decomposition p es) → 2050 ≤ c
node_range t at c p es h = omega (arith, h.1.code)

-- the code 0 shows false alone
pub bottom_from_code : (t : Numbered) (at : Lookup) → IsNumbered t → (d : Diagram) → Shows t at 0 d → d ≡ Bottom
bottom_from_code t at v Bottom h = refl
bottom_from_code t at v Top h = absurd (omega arith)
bottom_from_code t at v (Literal p x s) h = absurd (omega (arith, (literal_range t at v 0 p x s h).0))
bottom_from_code t at v (Decomposition p es) h = absurd (omega (arith, node_range t at 0 p es h))

-- and the code 1 shows true alone
pub top_from_code : (t : Numbered) (at : Lookup) → IsNumbered t → (d : Diagram) → Shows t at 1 d → d ≡ Top
top_from_code t at v Bottom h = absurd (omega arith)
top_from_code t at v Top h = refl
top_from_code t at v (Literal p x s) h = absurd (omega (arith, (literal_range t at v 1 p x s h).0))
top_from_code t at v (Decomposition p es) h = absurd (omega (arith, node_range t at 1 p es h))

-- a code from 2 on shows no constant
pub inner_from_code : (t : Numbered) (at : Lookup) (c : ℕ) (d : Diagram) → Shows t at c d → 2 ≤ c →
    is_constant d ≡ false
inner_from_code t at c Bottom h k = absurd (omega arith)
inner_from_code t at c Top h k = absurd (omega arith)
inner_from_code t at c (Literal p x s) h k = refl
inner_from_code t at c (Decomposition p es) h k = refl

-- what is shown by pairs of elements

-- an element is shown by one of the pairs
pub pair_of_element : (t : Numbered) (at : Lookup) (l : List (ℕ × ℕ)) (es : Elements) → ShowElements t at l es →
    {p s : Diagram} → IsElement p s es → (e : ℕ × ℕ) × IsAmong e l × Shows t at e.0 p × Shows t at e.1 s
pair_of_element t at [] (Pair p s rest) h m = absurd h
pair_of_element t at [] End h m = elim m [ ]
pair_of_element t at (e ∷ l) End h m = absurd h
pair_of_element t at (e ∷ l) (Pair p s rest) h first = (e, inl refl, h.0, h.1)
pair_of_element t at (e ∷ l) (Pair p s rest) h (later m) =
    let r = pair_of_element t at l rest h.2 m in (r.0, inr r.1, r.2, r.3)

-- and a pair shows one of the elements
pub element_of_pair : (t : Numbered) (at : Lookup) (l : List (ℕ × ℕ)) (es : Elements) → ShowElements t at l es →
    (e : ℕ × ℕ) → IsAmong e l →
    (p : Diagram) × (s : Diagram) × IsElement p s es × Shows t at e.0 p × Shows t at e.1 s
element_of_pair t at [] es h e m = absurd m
element_of_pair t at (f ∷ l) End h e m = absurd h
element_of_pair t at (f ∷ l) (Pair p s rest) h e (inl k) = (
  p,
  s,
  first,
  subst (λ (x : ℕ × ℕ). Shows t at x.0 p) (sym k) h.0,
  subst (λ (x : ℕ × ℕ). Shows t at x.1 s) (sym k) h.1,
)
element_of_pair t at (f ∷ l) (Pair p s rest) h e (inr m) =
    let r = element_of_pair t at l rest h.2 e m in (r.0, r.1, later r.2, r.3, r.4)

-- one code, one diagram

-- each code that shows the diagram shows it alone
abbrev IsOnly : Numbered → Lookup → Diagram → Type 0
IsOnly t at d = (c : ℕ) (e : Diagram) → Shows t at c d → Shows t at c e → d ≡ e

-- two literals of one code
literals_equal : (t : Tree) (p q x y : ℕ) (s r : Bool) → literal_code x s ≡ literal_code y r →
    leaf_position t 0 x ≡ Some p → leaf_position t 0 y ≡ Some q → Literal p x s ≡ Literal q y r
literals_equal t p q x y true true e h k =
    let v : x ≡ y = omega arith in
    let w : p ≡ q = same_Some p q (sym h ∙ ap (leaf_position t 0) v ∙ k) in cc
literals_equal t p q x y true false e h k = absurd (omega arith)
literals_equal t p q x y false true e h k = absurd (omega arith)
literals_equal t p q x y false false e h k =
    let v : x ≡ y = omega arith in
    let w : p ≡ q = same_Some p q (sym h ∙ ap (leaf_position t 0) v ∙ k) in cc

-- the pairs of two decompositions of one code are the same, and they stand at one position
same_pairs : (t : Numbered) (at : Lookup) → IsNumbered t → (c p q : ℕ) (l m : List (ℕ × ℕ)) → HasPairs t at c p l →
    HasPairs t at c q m → (p ≡ q) × IsWithin l m
same_pairs t at v c p q l m h k =
    let number : h.number ≡ k.number = omega (arith, h.code, k.code) in
    let keys : Some (h.place, h.list) ≡ Some (k.place, k.list) = sym h.stored ∙ ap at number ∙ k.stored in
    let parts = some_pair_parts h.place k.place h.list k.list keys in
    let once : times k.place (numbers t) ≤ 1 = once_numbered t v k.place in (
      one_place (numbers t) k.place p q once (h.position ∙ ap Some parts.0) k.position,
      λ e a. within_permuted m k.list (IsPermutation-sym k.list m k.order) e
          (subst (IsAmong e) parts.1 (within_permuted h.list l h.order e a)),
    )

-- elements that are shown by the same pairs are the same
elements_within : (t : Numbered) (at : Lookup) (l m : List (ℕ × ℕ)) (es fs : Elements) → IsWithin l m →
    ShowElements t at l es → ShowElements t at m fs →
    ((p s : Diagram) → IsElement p s es → IsOnly t at p × IsOnly t at s) → members.IsWithin es fs
elements_within t at l m es fs within h k only p s i =
    let e = pair_of_element t at l es h i in
    let f = element_of_pair t at m fs k e.0 (within e.0 e.1) in
    let o = only p s i in
    let ep : p ≡ f.0 = o.0 e.0.0 f.0 e.2 f.3 in
    let es' : s ≡ f.1 = o.1 e.0.1 f.1 e.3 f.4 in
    subst (λ x. IsElement x s fs) (sym ep) (subst (λ y. IsElement f.0 y fs) (sym es') f.2)

-- the other way round
elements_back : (t : Numbered) (at : Lookup) (l m : List (ℕ × ℕ)) (es fs : Elements) → IsWithin m l →
    ShowElements t at l es → ShowElements t at m fs →
    ((p s : Diagram) → IsElement p s es → IsOnly t at p × IsOnly t at s) → members.IsWithin fs es
elements_back t at l m es fs within h k only p s i =
    let e = pair_of_element t at m fs k i in
    let f = element_of_pair t at l es h e.0 (within e.0 e.1) in
    let o = only f.0 f.1 f.2 in
    let ep : f.0 ≡ p = o.0 e.0.0 p f.3 e.2 in
    let es' : f.1 ≡ s = o.1 e.0.1 s f.4 e.3 in
    subst (λ x. IsElement x s es) ep (subst (λ y. IsElement f.0 y es) es' f.2)

-- two decompositions of one code
decompositions_equal : (t : Numbered) (at : Lookup) → IsNumbered t → (c p q : ℕ) (es fs : Elements) →
    ((x s : Diagram) → IsElement x s es → IsOnly t at x × IsOnly t at s) →
    Shows t at c (Decomposition p es) → Shows t at c (Decomposition q fs) → Decomposition p es ≡ Decomposition q fs
decompositions_equal t at v c p q es fs only h k =
    let there = same_pairs t at v c p q h.0 k.0 h.1 k.1 in
    let back = same_pairs t at v c q p k.0 h.0 k.1 h.1 in
    let e : es ≡ fs = members.sorted_elements es fs h.3 k.3
    (elements_within t at h.0 k.0 es fs there.1 h.2 k.2 only)
    (elements_back t at h.0 k.0 es fs back.1 h.2 k.2 only) in
    ap (λ x. Decomposition x es) there.0 ∙ ap (Decomposition q) e

mutual
  -- a code shows one diagram
  pub one_diagram : (t : Numbered) (at : Lookup) → IsNumbered t → (d : Diagram) (c : ℕ) (e : Diagram) →
      Shows t at c d → Shows t at c e → d ≡ e
  one_diagram t at v Bottom c e h k = sym (bottom_from_code t at v e (subst (λ x. Shows t at x e) h k))
  one_diagram t at v Top c e h k = sym (top_from_code t at v e (subst (λ x. Shows t at x e) h k))
  one_diagram t at v (Literal p x s) c Bottom h k = absurd (omega (arith, k, (literal_range t at v c p x s h).0))
  one_diagram t at v (Literal p x s) c Top h k = absurd (omega (arith, k, (literal_range t at v c p x s h).0))
  one_diagram t at v (Literal p x s) c (Literal q y r) h k =
      literals_equal (plain_tree t) p q x y s r (sym h.0 ∙ k.0) h.1 k.1
  one_diagram t at v (Literal p x s) c (Decomposition q fs) h k =
      absurd (omega (arith, node_range t at c q fs k, (literal_range t at v c p x s h).2))
  one_diagram t at v (Decomposition p es) c Bottom h k = absurd (omega (arith, k, node_range t at c p es h))
  one_diagram t at v (Decomposition p es) c Top h k = absurd (omega (arith, k, node_range t at c p es h))
  one_diagram t at v (Decomposition p es) c (Literal q y r) h k =
      absurd (omega (arith, node_range t at c p es h, (literal_range t at v c q y r k).2))
  one_diagram t at v (Decomposition p es) c (Decomposition q fs) h k =
      decompositions_equal t at v c p q es fs (λ x s m. each_only t at v es x s m) h k

  -- and so does each code of a prime or sub
  each_only : (t : Numbered) (at : Lookup) → IsNumbered t → (es : Elements) (x s : Diagram) → IsElement x s es →
      IsOnly t at x × IsOnly t at s
  each_only t at v End x s m = elim m [ ]
  each_only t at v (Pair p q rest) x s first = (one_diagram t at v p, one_diagram t at v q)
  each_only t at v (Pair p q rest) x s (later m) = each_only t at v rest x s m

-- pairs of codes show one list of pairs
pub one_list : (t : Numbered) (at : Lookup) → IsNumbered t → (l : List (ℕ × ℕ)) (ds fs : List (Diagram × Diagram)) →
    ShowPairs t at l ds → ShowPairs t at l fs → ds ≡ fs
one_list t at v [] [] [] h k = refl
one_list t at v [] [] (f ∷ fs) h k = absurd k
one_list t at v [] (d ∷ ds) fs h k = absurd h
one_list t at v (e ∷ l) [] fs h k = absurd h
one_list t at v (e ∷ l) (d ∷ ds) [] h k = absurd k
one_list t at v (e ∷ l) (d ∷ ds) (f ∷ fs) h k =
    let a : d.0 ≡ f.0 = one_diagram t at v d.0 e.0 f.0 h.0.0 k.0.0 in
    let b : d.1 ≡ f.1 = one_diagram t at v d.1 e.1 f.1 h.0.1 k.0.1 in
    let c : ds ≡ fs = one_list t at v l ds fs h.1 k.1 in
    ap (λ (x : Diagram). (x, d.1) ∷ ds) a ∙ ap (λ (x : Diagram). (f.0, x) ∷ ds) b ∙ ap (λ xs. f ∷ xs) c

-- one diagram, one code

-- pairs of equal parts are equal
pub pair_equal : {A B : Type 0} (x y : A × B) → x.0 ≡ y.0 → x.1 ≡ y.1 → x ≡ y
pair_equal {A} {B} x y a b = ap {B = A × B} (λ v. (v, x.1)) a ∙ ap {B = A × B} (λ v. (y.0, v)) b

-- two keys of one decomposition are one, where the lists of keys ascend
same_number : (t : Numbered) (at : Lookup) → AreKeys at → (c b p : ℕ) (l m : List (ℕ × ℕ)) → l ≡ m →
    HasPairs t at c p l → HasPairs t at b p m → c ≡ b
same_number t at keys c b p l m e h k =
    let first : ℕ × ℕ → ℕ = λ x. x.0 in
    let place : h.place ≡ k.place = same_Some h.place k.place (sym h.position ∙ k.position) in
    let there : IsWithin h.list k.list = λ x a.
    within_permuted k.list m k.order x
    (subst (IsAmong x) e (within_permuted l h.list (IsPermutation-sym h.list l h.order) x a)) in
    let back : IsWithin k.list h.list = λ x a.
    within_permuted h.list l h.order x
    (subst (IsAmong x) (sym e) (within_permuted m k.list (IsPermutation-sym k.list m k.order) x a)) in
    let list : h.list ≡ k.list =
    ascending_same first h.list k.list (keys.ascending h.number (h.place, h.list) h.stored)
    (keys.ascending k.number (k.place, k.list) k.stored) there back in
    let key : ◌≡◌ {A = ℕ × List (ℕ × ℕ)} (k.place, k.list) (h.place, h.list) =
    pair_equal (k.place, k.list) (h.place, h.list) (sym place) (sym list) in
    let number : h.number ≡ k.number =
    keys.distinct h.number k.number (h.place, h.list) h.stored (k.stored ∙ ap Some key) in
    h.code ∙ ap (λ n. 2050 + n) number ∙ sym k.code

mutual
  -- a diagram has one code
  pub one_code : (t : Numbered) (at : Lookup) → AreKeys at → (d : Diagram) (c b : ℕ) → Shows t at c d →
      Shows t at b d → c ≡ b
  one_code t at keys Bottom c b h k = h ∙ sym k
  one_code t at keys Top c b h k = h ∙ sym k
  one_code t at keys (Literal p x s) c b h k = h.0 ∙ sym k.0
  one_code t at keys (Decomposition p es) c b h k =
      same_number t at keys c b p h.0 k.0 (one_pairs t at keys es h.0 k.0 h.2 k.2) h.1 k.1

  -- and elements have one list of pairs of codes
  pub one_pairs : (t : Numbered) (at : Lookup) → AreKeys at → (es : Elements) (l m : List (ℕ × ℕ)) →
      ShowElements t at l es → ShowElements t at m es → l ≡ m
  one_pairs t at keys End [] [] h k = refl
  one_pairs t at keys End [] (f ∷ m) h k = absurd k
  one_pairs t at keys End (e ∷ l) m h k = absurd h
  one_pairs t at keys (Pair p s rest) [] m h k = absurd h
  one_pairs t at keys (Pair p s rest) (e ∷ l) [] h k = absurd k
  one_pairs t at keys (Pair p s rest) (e ∷ l) (f ∷ m) h k =
      let a : e ≡ f = pair_equal e f (one_code t at keys p e.0 f.0 h.0 k.0) (one_code t at keys s e.1 f.1 h.1 k.1) in
      let b : l ≡ m = one_pairs t at keys rest l m h.2 k.2 in
      ap (λ x. x ∷ l) a ∙ ap (λ x. f ∷ x) b

-- more nodes

-- what the pairs of a node are is kept where its key is
pairs_kept : (t : Numbered) (old new : Lookup) → Keeps old new → (c p : ℕ) (l : List (ℕ × ℕ)) →
    HasPairs t old c p l → HasPairs t new c p l
pairs_kept t old new keeps c p l h =
    record {
      number = h.number;
      place = h.place;
      list = h.list;
      code = h.code;
      stored = keeps h.number (h.place, h.list) h.stored;
      position = h.position;
      order = h.order;
    }

mutual
  -- a code shows what it showed, where each node keeps its key
  pub shows_kept : (t : Numbered) (old new : Lookup) → Keeps old new → (d : Diagram) (c : ℕ) → Shows t old c d →
      Shows t new c d
  shows_kept t old new keeps Bottom c h = h
  shows_kept t old new keeps Top c h = h
  shows_kept t old new keeps (Literal p x s) c h = h
  shows_kept t old new keeps (Decomposition p es) c h =
      (h.0, pairs_kept t old new keeps c p h.0 h.1, elements_kept t old new keeps es h.0 h.2, h.3)

  -- and so do pairs of codes
  pub elements_kept : (t : Numbered) (old new : Lookup) → Keeps old new → (es : Elements) (l : List (ℕ × ℕ)) →
      ShowElements t old l es → ShowElements t new l es
  elements_kept t old new keeps End [] h = tt
  elements_kept t old new keeps End (e ∷ l) h = h
  elements_kept t old new keeps (Pair p s rest) [] h = h
  elements_kept t old new keeps (Pair p s rest) (e ∷ l) h = (
    shows_kept t old new keeps p e.0 h.0,
    shows_kept t old new keeps s e.1 h.1,
    elements_kept t old new keeps rest l h.2,
  )

-- pairs of codes show what they showed
pub list_kept : (t : Numbered) (old new : Lookup) → Keeps old new → (l : List (ℕ × ℕ)) (ds : List (Diagram × Diagram)) →
    ShowPairs t old l ds → ShowPairs t new l ds
list_kept t old new keeps [] [] h = tt
list_kept t old new keeps [] (d ∷ ds) h = h
list_kept t old new keeps (e ∷ l) [] h = h
list_kept t old new keeps (e ∷ l) (d ∷ ds) h = (
  (shows_kept t old new keeps d.0 e.0 h.0.0, shows_kept t old new keeps d.1 e.1 h.0.1),
  list_kept t old new keeps l ds h.1,
)

-- a list of pairs shows the elements that it makes
pub elements_shown : (t : Numbered) (at : Lookup) (l : List (ℕ × ℕ)) (ds : List (Diagram × Diagram)) →
    ShowPairs t at l ds → ShowElements t at l (from_pairs ds)
elements_shown t at [] [] h = tt
elements_shown t at [] (d ∷ ds) h = h
elements_shown t at (e ∷ l) [] h = h
elements_shown t at (e ∷ l) (d ∷ ds) h = (h.0.0, h.0.1, elements_shown t at l ds h.1)

-- and elements are shown as their pairs
pub pairs_shown : (t : Numbered) (at : Lookup) (l : List (ℕ × ℕ)) (es : Elements) → ShowElements t at l es →
    ShowPairs t at l (pairs_of es)
pairs_shown t at [] End h = tt
pairs_shown t at [] (Pair p s rest) h = h
pairs_shown t at (e ∷ l) End h = h
pairs_shown t at (e ∷ l) (Pair p s rest) h = ((h.0, h.1), pairs_shown t at l rest h.2)
