-- Where nodes stand after a move of the vtree: which keep their lists, and what is known of the others.
use Rattle.std.proofs.Common.{◌≡◌, ◌≢◌, inl, inr, ℕ, ◌≤◌, Bool, true, false, cond, List, [], ◌∷◌}
use Rattle.std.proofs.Common.{length, ◌||◌, Some, refl, sym, ◌∙◌, ap, subst, arith}
use Rattle.std.specs.List.{AllByRecursion}
use Rattle.std.proofs.lemmas.Option.{same_Some}
use Rattle.sd_model.specs.Tree.{Tree, Node}
use Rattle.sd_model.proofs.Blend.{occurs, or_left, or_right, IsApart, AgreeOn, blend, blend_left, blend_right}
use Rattle.sd_vtree.specs.Numbered.{Numbered, NumberedLeaf, NumberedNode, plain_tree, subtree}
use Rattle.sd_laws.specs.Depends.{DependsOn}
use Rattle.sd_laws.specs.Turned.{HasVariablesOf, Stays, KeepsOthers, AreRotated, AreSwapped}
use Rattle.sd_model.specs.Assignment.{value_in}
use Rattle.sd_laws.specs.Values.{Valuation, IsSame, pairs_value, chosen, Takes, SubsDiffer, IsWhole, IsPlaced}
use Rattle.sd_laws.specs.Values.{IsTwoSided}
use Rattle.sd_laws.proofs.Lists.{IsAmong, all_at, all_weaker}
use Rattle.sd_laws.proofs.Choosing.{value_blend, two_sided}

-- what looks at the variables of one tree looks at those of another that has them
pub depends_variables : (s r : Tree) (f : List Bool → Bool) → HasVariablesOf s r → DependsOn s f → DependsOn r f
depends_variables s r f h k a b agree = k a b (λ x o. agree x (sym (h x) ∙ o))

-- what looks at one child looks at the node
pub depends_left : (l r : Tree) (f : List Bool → Bool) → DependsOn l f → DependsOn (Node l r) f
depends_left l r f k a b agree = k a b (λ x o. agree x (or_left (occurs l x) (occurs r x) o))

pub depends_right : (l r : Tree) (f : List Bool → Bool) → DependsOn r f → DependsOn (Node l r) f
depends_right l r f k a b agree = k a b (λ x o. agree x (or_right (occurs l x) (occurs r x) o))

-- A node whose place is none of the two stays well placed, since the variables below its children are the same.
pub placed_others : (t u : Numbered) (x w : ℕ) (v : Valuation) (p : ℕ) (l : List (ℕ × ℕ)) → KeepsOthers t u x w →
    p ≢ x → p ≢ w → IsPlaced t v p l → IsPlaced u v p l
placed_others t u x w v p l keeps dx dw h =
    let s : Stays u p h.left h.right = keeps p h.left h.right dx dw h.at in
    record {
      left = s.new_left;
      right = s.new_right;
      at = s.at;
      primes = all_weaker (λ (e : ℕ × ℕ). DependsOn (plain_tree h.left) (v e.0))
          (λ (e : ℕ × ℕ). DependsOn (plain_tree s.new_left) (v e.0))
          (λ e. depends_variables (plain_tree h.left) (plain_tree s.new_left) (v e.0) s.same_left) l h.primes;
      subs = all_weaker (λ (e : ℕ × ℕ). DependsOn (plain_tree h.right) (v e.1))
          (λ (e : ℕ × ℕ). DependsOn (plain_tree s.new_right) (v e.1))
          (λ e. depends_variables (plain_tree h.right) (plain_tree s.new_right) (v e.1) s.same_right) l h.subs;
    }

-- the children of a place

-- the left child of a node
abbrev left_child : Numbered → Numbered
left_child (NumberedLeaf m x) = NumberedLeaf m x
left_child (NumberedNode m l r) = l

-- the right child of a node
abbrev right_child : Numbered → Numbered
right_child (NumberedLeaf m x) = NumberedLeaf m x
right_child (NumberedNode m l r) = r

-- what is known of a place is known at its children
pub record At (v : Valuation) (l : List (ℕ × ℕ)) (left right : Numbered) : Type 0 where
  pub primes : AllByRecursion (λ (e : ℕ × ℕ). DependsOn (plain_tree left) (v e.0)) l
  pub subs : AllByRecursion (λ (e : ℕ × ℕ). DependsOn (plain_tree right) (v e.1)) l

-- the children that a place has
pub at_children : (t : Numbered) (v : Valuation) (p : ℕ) (l : List (ℕ × ℕ)) (left right : Numbered) → IsPlaced t v p l →
    subtree t p ≡ Some (NumberedNode p left right) → At v l left right
at_children t v p l left right h e =
    let same : NumberedNode p h.left h.right ≡ NumberedNode p left right =
    same_Some (NumberedNode p h.left h.right) (NumberedNode p left right) (sym h.at ∙ e) in
    record {
      primes =
          subst (λ s. AllByRecursion (λ (d : ℕ × ℕ). DependsOn (plain_tree s) (v d.0)) l) (ap left_child same) h.primes;
      subs = subst (λ s. AllByRecursion (λ (d : ℕ × ℕ). DependsOn (plain_tree s) (v d.1)) l) (ap right_child same)
          h.subs;
    }

-- what each prime looks at, seen from a node above
primes_left : (v : Valuation) (l : List (ℕ × ℕ)) (a b : Tree) → AllByRecursion (λ (e : ℕ × ℕ). DependsOn a (v e.0)) l →
    AllByRecursion (λ (e : ℕ × ℕ). DependsOn (Node a b) (v e.0)) l
primes_left v l a b h =
    all_weaker (λ (e : ℕ × ℕ). DependsOn a (v e.0)) (λ (e : ℕ × ℕ). DependsOn (Node a b) (v e.0))
    (λ e. depends_left a b (v e.0)) l h

primes_right : (v : Valuation) (l : List (ℕ × ℕ)) (a b : Tree) → AllByRecursion (λ (e : ℕ × ℕ). DependsOn b (v e.0)) l →
    AllByRecursion (λ (e : ℕ × ℕ). DependsOn (Node a b) (v e.0)) l
primes_right v l a b h =
    all_weaker (λ (e : ℕ × ℕ). DependsOn b (v e.0)) (λ (e : ℕ × ℕ). DependsOn (Node a b) (v e.0))
    (λ e. depends_right a b (v e.0)) l h

subs_left : (v : Valuation) (l : List (ℕ × ℕ)) (a b : Tree) → AllByRecursion (λ (e : ℕ × ℕ). DependsOn a (v e.1)) l →
    AllByRecursion (λ (e : ℕ × ℕ). DependsOn (Node a b) (v e.1)) l
subs_left v l a b h =
    all_weaker (λ (e : ℕ × ℕ). DependsOn a (v e.1)) (λ (e : ℕ × ℕ). DependsOn (Node a b) (v e.1))
    (λ e. depends_left a b (v e.1)) l h

subs_right : (v : Valuation) (l : List (ℕ × ℕ)) (a b : Tree) → AllByRecursion (λ (e : ℕ × ℕ). DependsOn b (v e.1)) l →
    AllByRecursion (λ (e : ℕ × ℕ). DependsOn (Node a b) (v e.1)) l
subs_right v l a b h =
    all_weaker (λ (e : ℕ × ℕ). DependsOn b (v e.1)) (λ (e : ℕ × ℕ). DependsOn (Node a b) (v e.1))
    (λ e. depends_right a b (v e.1)) l h

-- the right rotation, from ((a b) c) to (a (b c))

-- a node of the lower place stands at the upper one
pub right_lower : (t u : Numbered) (x w : ℕ) (v : Valuation) (l : List (ℕ × ℕ)) → AreRotated t u x w →
    IsPlaced t v w l → IsPlaced u v x l
right_lower t u x w v l h p =
    let k : At v l h.a h.b = at_children t v w l h.a h.b p h.first_lower in
    record {
      left = h.a;
      right = NumberedNode w h.b h.c;
      at = h.second_upper;
      primes = k.primes;
      subs = subs_left v l (plain_tree h.b) (plain_tree h.c) k.subs;
    }

-- a node of the upper place whose primes look at b alone stands at the lower one
pub right_upper_to_lower : (t u : Numbered) (x w : ℕ) (v : Valuation) (l : List (ℕ × ℕ)) → (h : AreRotated t u x w) →
    IsPlaced t v x l → AllByRecursion (λ (e : ℕ × ℕ). DependsOn (plain_tree h.b) (v e.0)) l → IsPlaced u v w l
right_upper_to_lower t u x w v l h p bs =
    let k : At v l (NumberedNode w h.a h.b) h.c = at_children t v x l (NumberedNode w h.a h.b) h.c p h.first_upper in
    record { left = h.b; right = h.c; at = h.second_lower; primes = bs; subs = k.subs }

-- one whose primes look at a alone stays at the upper one
pub right_upper_kept : (t u : Numbered) (x w : ℕ) (v : Valuation) (l : List (ℕ × ℕ)) → (h : AreRotated t u x w) →
    IsPlaced t v x l → AllByRecursion (λ (e : ℕ × ℕ). DependsOn (plain_tree h.a) (v e.0)) l → IsPlaced u v x l
right_upper_kept t u x w v l h p as' =
    let k : At v l (NumberedNode w h.a h.b) h.c = at_children t v x l (NumberedNode w h.a h.b) h.c p h.first_upper in
    record {
      left = h.a;
      right = NumberedNode w h.b h.c;
      at = h.second_upper;
      primes = as';
      subs = subs_right v l (plain_tree h.b) (plain_tree h.c) k.subs;
    }

-- the left rotation, from (a (b c)) to ((a b) c)

-- a node of the lower place stands at the upper one
pub left_lower : (t u : Numbered) (x w : ℕ) (v : Valuation) (l : List (ℕ × ℕ)) → AreRotated u t x w →
    IsPlaced t v w l → IsPlaced u v x l
left_lower t u x w v l h p =
    let k : At v l h.b h.c = at_children t v w l h.b h.c p h.second_lower in
    record {
      left = NumberedNode w h.a h.b;
      right = h.c;
      at = h.first_upper;
      primes = primes_right v l (plain_tree h.a) (plain_tree h.b) k.primes;
      subs = k.subs;
    }

-- a node of the upper place whose subs look at b alone stands at the lower one
pub left_upper_to_lower : (t u : Numbered) (x w : ℕ) (v : Valuation) (l : List (ℕ × ℕ)) → (h : AreRotated u t x w) →
    IsPlaced t v x l → AllByRecursion (λ (e : ℕ × ℕ). DependsOn (plain_tree h.b) (v e.1)) l → IsPlaced u v w l
left_upper_to_lower t u x w v l h p bs =
    let k : At v l h.a (NumberedNode w h.b h.c) = at_children t v x l h.a (NumberedNode w h.b h.c) p h.second_upper in
    record { left = h.a; right = h.b; at = h.first_lower; primes = k.primes; subs = bs }

-- one whose subs look at c alone stays at the upper one
pub left_upper_kept : (t u : Numbered) (x w : ℕ) (v : Valuation) (l : List (ℕ × ℕ)) → (h : AreRotated u t x w) →
    IsPlaced t v x l → AllByRecursion (λ (e : ℕ × ℕ). DependsOn (plain_tree h.c) (v e.1)) l → IsPlaced u v x l
left_upper_kept t u x w v l h p cs =
    let k : At v l h.a (NumberedNode w h.b h.c) = at_children t v x l h.a (NumberedNode w h.b h.c) p h.second_upper in
    record {
      left = NumberedNode w h.a h.b;
      right = h.c;
      at = h.first_upper;
      primes = primes_left v l (plain_tree h.a) (plain_tree h.b) k.primes;
      subs = cs;
    }

-- the nodes that are written anew look at both sides

-- pairs with one sub function are one pair
same_pair : (v : Valuation) (l : List (ℕ × ℕ)) (e f : ℕ × ℕ) → SubsDiffer v l → IsAmong e l → IsAmong f l →
    IsSame (v e.1) (v f.1) → e ≡ f
same_pair v [] e f d m k s = absurd m
same_pair v (x ∷ l) e f d (inl g) (inl h) s = g ∙ sym h
same_pair v (x ∷ l) e f d (inl g) (inr k) s =
    absurd (all_at (λ (y : ℕ × ℕ). ¬ IsSame (v x.1) (v y.1)) l f d.0 k
    (λ a. ap (λ (y : ℕ × ℕ). v y.1 a) (sym g) ∙ s a))
same_pair v (x ∷ l) e f d (inr m) (inl h) s =
    absurd (all_at (λ (y : ℕ × ℕ). ¬ IsSame (v x.1) (v y.1)) l e d.0 m
    (λ a. ap (λ (y : ℕ × ℕ). v y.1 a) (sym h) ∙ sym (s a)))
same_pair v (x ∷ l) e f d (inr m) (inr k) s = same_pair v l e f d.1 m k s

-- the pair whose prime is true
record Chosen (v : Valuation) (l : List (ℕ × ℕ)) (a : List Bool) : Type 0 where
  pub pair : ℕ × ℕ
  pub among : IsAmong pair l
  pub holds : v pair.0 a ≡ true

-- where something is chosen, there is one
chosen_pair : (v : Valuation) (l : List (ℕ × ℕ)) (a : List Bool) → 1 ≤ length (chosen v l a) → Chosen v l a
chosen_pair v [] a h = absurd (omega arith)
chosen_pair v (e ∷ l) a h = go (chosen_pair v l a) (v e.0 a) refl h
  where
    go : (1 ≤ length (chosen v l a) → Chosen v l a) → (b : Bool) → v e.0 a ≡ b →
        1 ≤ length (cond (v e.0 a) (v e.1 a ∷ chosen v l a) (chosen v l a)) → Chosen v (e ∷ l) a
    go more true k h = record { pair = e; among = inl refl; holds = k }
    go more false k h =
        let h' : 1 ≤ length (chosen v l a) = rw k at h in
        let i : Chosen v l a = more h' in
        record { pair = i.pair; among = inr i.among; holds = i.holds }

-- two truth values that follow from each other are equal
both_ways : (b c : Bool) → (b ≡ true → c ≡ true) → (c ≡ true → b ≡ true) → b ≡ c
both_ways true c f g = sym (f refl)
both_ways false true f g = g refl
both_ways false false f g = refl

-- two blends with one right side agree on a part of the left side where their left sides do
blend_agree : (n : ℕ) (a b c : Tree) (x y z : List Bool) → IsApart n (Node (Node a b) c) → AgreeOn b x y →
    AgreeOn (Node b c) (blend n (Node a b) x z) (blend n (Node a b) y z)
blend_agree n a b c x y z apart agree i o = go (occurs b i) refl o
  where
    go : (d : Bool) → occurs b i ≡ d → (occurs b i || occurs c i) ≡ true →
        value_in (blend n (Node a b) x z) i ≡ value_in (blend n (Node a b) y z) i
    go true k o =
        blend_left n (Node a b) x z apart.1 i (or_right (occurs a i) (occurs b i) k) ∙ agree i k
        ∙ sym (blend_left n (Node a b) y z apart.1 i (or_right (occurs a i) (occurs b i) k))
    go false k o =
        let h : occurs c i ≡ true = rw k at o in
        blend_right n (Node a b) c x z apart i h ∙ sym (blend_right n (Node a b) c y z apart i h)

-- where the value of a partition of ((a b) c) does not look at a, no prime does
pub primes_narrow : (n : ℕ) (a b c : Tree) (v : Valuation) (l : List (ℕ × ℕ)) → IsApart n (Node (Node a b) c) →
    AllByRecursion (λ (e : ℕ × ℕ). DependsOn (Node a b) (v e.0)) l →
    AllByRecursion (λ (e : ℕ × ℕ). DependsOn c (v e.1)) l → IsWhole v l → DependsOn (Node b c) (pairs_value v l) →
    (e : ℕ × ℕ) → IsAmong e l → DependsOn b (v e.0)
primes_narrow n a b c v l apart ps ss w h e m x y agree =
    both_ways (v e.0 x) (v e.0 y) (follows x y agree) (follows y x (λ z o. sym (agree z o)))
  where
    follows : (x y : List Bool) → AgreeOn b x y → v e.0 x ≡ true → v e.0 y ≡ true
    follows x y agree holds =
        let k : Chosen v l y = chosen_pair v l y (let i = w.one_true y in omega (arith, i)) in
        let same : IsSame (v e.1) (v k.pair.1) = λ z.
        sym (value_blend n (Node a b) c v l e apart ps ss w m x z holds)
        ∙ h (blend n (Node a b) x z) (blend n (Node a b) y z) (blend_agree n a b c x y z apart agree)
        ∙ value_blend n (Node a b) c v l k.pair apart ps ss w k.among y z k.holds in
        let pair : e ≡ k.pair = same_pair v l e k.pair w.differ m k.among same in
        ap (λ (d : ℕ × ℕ). v d.0 y) pair ∙ k.holds

-- two blends with one left side agree on it, and on a part of the right side where their right sides do
blend_agree_right : (n : ℕ) (a b c : Tree) (z x y : List Bool) → IsApart n (Node a (Node b c)) → AgreeOn b x y →
    AgreeOn (Node a b) (blend n a z x) (blend n a z y)
blend_agree_right n a b c z x y apart agree i o = go (occurs a i) refl o
  where
    go : (d : Bool) → occurs a i ≡ d → (occurs a i || occurs b i) ≡ true →
        value_in (blend n a z x) i ≡ value_in (blend n a z y) i
    go true k o = blend_left n a z x apart.1 i k ∙ sym (blend_left n a z y apart.1 i k)
    go false k o =
        let h : occurs b i ≡ true = rw k at o in
        blend_right n a (Node b c) z x apart i (or_left (occurs b i) (occurs c i) h) ∙ agree i h
        ∙ sym (blend_right n a (Node b c) z y apart i (or_left (occurs b i) (occurs c i) h))

-- where the value of a partition of (a (b c)) does not look at c, no sub does
pub subs_narrow : (n : ℕ) (a b c : Tree) (v : Valuation) (l : List (ℕ × ℕ)) → IsApart n (Node a (Node b c)) →
    AllByRecursion (λ (e : ℕ × ℕ). DependsOn a (v e.0)) l →
    AllByRecursion (λ (e : ℕ × ℕ). DependsOn (Node b c) (v e.1)) l → IsWhole v l →
    DependsOn (Node a b) (pairs_value v l) →
    (e : ℕ × ℕ) → IsAmong e l → DependsOn b (v e.1)
subs_narrow n a b c v l apart ps ss w h e m x y agree =
    let p : Takes v e.0 true = all_at (λ (d : ℕ × ℕ). Takes v d.0 true) l e w.possible m in
    sym (value_blend n a (Node b c) v l e apart ps ss w m p.0 x p.1)
    ∙ h (blend n a p.0 x) (blend n a p.0 y) (blend_agree_right n a b c p.0 x y apart agree)
    ∙ value_blend n a (Node b c) v l e apart ps ss w m p.0 y p.1

-- a node of the upper place with a prime that does not look at b alone looks at both sides of ((a b) c) turned right
pub right_written : (n : ℕ) (t u : Numbered) (x w : ℕ) (v : Valuation) (l : List (ℕ × ℕ)) → (h : AreRotated t u x w) →
    IsApart n (Node (Node (plain_tree h.a) (plain_tree h.b)) (plain_tree h.c)) → IsPlaced t v x l → IsWhole v l
    → (e : ℕ × ℕ) →
    IsAmong e l → ¬ DependsOn (plain_tree h.b) (v e.0) →
    IsTwoSided (plain_tree h.a) (Node (plain_tree h.b) (plain_tree h.c)) (pairs_value v l)
right_written n t u x w v l h apart p whole e m not =
    let a = plain_tree h.a in
    let b = plain_tree h.b in
    let c = plain_tree h.c in
    let k : At v l (NumberedNode w h.a h.b) h.c = at_children t v x l (NumberedNode w h.a h.b) h.c p h.first_upper in
    record {
      not_left = λ d. (two_sided n (Node a b) c v l apart k.primes k.subs whole).not_left
          (depends_left a b (pairs_value v l) d);
      not_right = λ d. not (primes_narrow n a b c v l apart k.primes k.subs whole d e m);
    }

-- and one with a sub that does not look at b alone looks at both sides of (a (b c)) turned left
pub left_written : (n : ℕ) (t u : Numbered) (x w : ℕ) (v : Valuation) (l : List (ℕ × ℕ)) → (h : AreRotated u t x w) →
    IsApart n (Node (plain_tree h.a) (Node (plain_tree h.b) (plain_tree h.c))) → IsPlaced t v x l → IsWhole v l
    → (e : ℕ × ℕ) →
    IsAmong e l → ¬ DependsOn (plain_tree h.b) (v e.1) →
    IsTwoSided (Node (plain_tree h.a) (plain_tree h.b)) (plain_tree h.c) (pairs_value v l)
left_written n t u x w v l h apart p whole e m not =
    let a = plain_tree h.a in
    let b = plain_tree h.b in
    let c = plain_tree h.c in
    let k : At v l h.a (NumberedNode w h.b h.c) = at_children t v x l h.a (NumberedNode w h.b h.c) p h.second_upper in
    record {
      not_left = λ d. not (subs_narrow n a b c v l apart k.primes k.subs whole d e m);
      not_right = λ d. (two_sided n a (Node b c) v l apart k.primes k.subs whole).not_right
          (depends_right b c (pairs_value v l) d);
    }

-- each node of a swapped place looks at both sides
pub swap_written : (n : ℕ) (t u : Numbered) (x : ℕ) (v : Valuation) (l : List (ℕ × ℕ)) → (h : AreSwapped t u x) →
    IsApart n (Node (plain_tree h.a) (plain_tree h.b)) → IsPlaced t v x l → IsWhole v l →
    IsTwoSided (plain_tree h.b) (plain_tree h.a) (pairs_value v l)
swap_written n t u x v l h apart p whole =
    let k : At v l h.a h.b = at_children t v x l h.a h.b p h.first_upper in
    let s = two_sided n (plain_tree h.a) (plain_tree h.b) v l apart k.primes k.subs whole in
    record { not_left = s.not_right; not_right = s.not_left }
