-- The literals of a group, joined in another order and in parts.
use Rattle.std.proofs.Common.{◌≡◌, ℕ, zero, suc, ◌+◌, cond, arith, Bool, true}
use Rattle.std.proofs.Common.{false, not, ◌&&◌, ◌||◌, List, [], ◌∷◌, ◌++◌, map}
use Rattle.std.proofs.Common.{take, drop, length, slice_range, ℤ, refl, sym, ap, subst, ◌∙◌}
use Rattle.std.proofs.lemmas.List.{take_rest}
use Rattle.std.specs.List.{list_all, list_any, sum_by, AllByRecursion}
use Rattle.std.specs.List.Sorted.{IsPermutation}
use Rattle.std.proofs.lemmas.List.Sorted.{list_any-IsPermutation, sum_by-IsPermutation}
use Rattle.std.proofs.lemmas.List.Sums.{sum_by-cons}
use Rattle.sd_model.specs.declared.trees.Operation.{Operation}
use Rattle.sd_model.specs.declared.trees.Operation.TheVariants.{And, Or, Xor}
use Rattle.sd_model.specs.Assignment.{literal_holds}
use Rattle.sd_model.specs.Expression.{combine, is_odd}
use Rattle.sd_laws.proofs.Lists.{all_permuted}
use Rattle.sd_formula.specs.Formulas.{IsLiteral, AreLiterals}
use Rattle.sd_manager.specs.Table.{Table}
use Rattle.sd_apply.specs.Answers.{HasAnswer, Combines}
use Rattle.sd_manager.specs.Making.{Extends}
use Rattle.sd_compile.specs.Joined.{joined, neutral, literal_of_place, ArePlaced}
use Rattle.sd_compile.proofs.Joining.{all_joined, any_joined, joined_map, grouped, answer_on, answer_same, combined}

-- the value of none changes nothing
neutral_first : (o : Operation) (b : Bool) → b ≡ combine o (neutral o) b
neutral_first And true = refl
neutral_first And false = refl
neutral_first Or true = refl
neutral_first Or false = refl
neutral_first Xor true = refl
neutral_first Xor false = refl

-- a list in two parts
joined_append : {X : Type 0} (o : Operation) (p : X → Bool) (xs ys : List X) →
    joined o p (xs ++ ys) ≡ combine o (joined o p xs) (joined o p ys)
joined_append o p [] ys = neutral_first o (joined o p ys)
joined_append o p (x ∷ xs) ys =
    ap (combine o (p x)) (joined_append o p xs ys) ∙ grouped o (p x) (joined o p xs) (joined o p ys)

taken_dropped : {X : Type 0} (n : ℕ) (xs : List X) → take n xs ++ drop n xs ≡ xs
taken_dropped zero xs = refl
taken_dropped (suc n) [] = refl
taken_dropped (suc n) (x ∷ xs) = ap (λ l. x ∷ l) (taken_dropped n xs)

pub joined_parts : {X : Type 0} (o : Operation) (p : X → Bool) (n : ℕ) (xs : List X) →
    combine o (joined o p (take n xs)) (joined o p (drop n xs)) ≡ joined o p xs
joined_parts o p n xs = sym (joined_append o p (take n xs) (drop n xs)) ∙ ap (joined o p) (taken_dropped n xs)

-- all pass where none fails
all_by_any : {X : Type 0} (p : X → Bool) (xs : List X) → list_all p xs ≡ not (list_any (λ x. not (p x)) xs)
all_by_any p [] = refl
all_by_any p (x ∷ xs) = ap (λ b. p x && b) (all_by_any p xs) ∙ go (p x) (list_any (λ y. not (p y)) xs)
  where
    go : (a b : Bool) → (a && not b) ≡ not (not a || b)
    go true b = refl
    go false b = refl

-- the exclusive or is that an odd number of values are true
joined_odd : {X : Type 0} (p : X → Bool) (xs : List X) → joined Xor p xs ≡ is_odd (sum_by (λ x. cond (p x) 1 0) xs)
joined_odd p [] = refl
joined_odd p (x ∷ xs) =
    ap (combine Xor (p x)) (joined_odd p xs) ∙ go (p x) (sum_by (λ y. cond (p y) 1 0) xs)
    ∙ ap is_odd (sym (sum_by-cons (λ y. cond (p y) 1 0) x xs))
  where
    go : (b : Bool) (n : ℕ) → combine Xor b (is_odd n) ≡ is_odd (cond b 1 0 + n)
    go true n = let more : suc n ≡ 1 + n = omega arith in ap is_odd more
    go false n = let same : n ≡ 0 + n = omega arith in ap is_odd same

exclusive_permuted : {X : Type 0} (p : X → Bool) (xs ys : List X) → IsPermutation xs ys →
    joined Xor p xs ≡ joined Xor p ys
exclusive_permuted p xs ys h =
    joined_odd p xs ∙ ap is_odd (sym (sum_by-IsPermutation (λ x. cond (p x) 1 0) xs ys h)) ∙ sym (joined_odd p ys)

-- values are joined to the same in another order
pub joined_permuted : {X : Type 0} (o : Operation) (p : X → Bool) (xs ys : List X) → IsPermutation xs ys →
    joined o p xs ≡ joined o p ys
joined_permuted And p xs ys h =
    sym (all_joined p xs) ∙ all_by_any p xs ∙ ap not (list_any-IsPermutation (λ x. not (p x)) xs ys h)
    ∙ sym (all_by_any p ys) ∙ all_joined p ys
joined_permuted Or p xs ys h = sym (any_joined p xs) ∙ list_any-IsPermutation p xs ys h ∙ any_joined p ys
joined_permuted Xor p xs ys h = exclusive_permuted p xs ys h

-- ---- the literals with their positions

-- they are literals of the variables
pub are_placed : (v : ℕ) (xs : List ℤ) (placed : List (ℕ × ℤ)) → AreLiterals v xs →
    IsPermutation xs (map literal_of_place placed) → ArePlaced v placed
are_placed v xs placed all h = go placed (all_permuted (IsLiteral v) xs (map literal_of_place placed) h all)
  where
    go : (l : List (ℕ × ℤ)) → AllByRecursion (IsLiteral v) (map literal_of_place l) → ArePlaced v l
    go [] a = tt
    go (e ∷ l) a = (a.0, go l a.1)

-- and joined they have the value of the group
pub placed_joined : (t : Table) (o : Operation) (xs : List ℤ) (placed : List (ℕ × ℤ)) (c : ℕ) →
    IsPermutation xs (map literal_of_place placed) →
    HasAnswer t (λ a. joined o (λ e. literal_holds a (literal_of_place e)) placed) c →
    HasAnswer t (λ a. joined o (literal_holds a) xs) c
placed_joined t o xs placed c h =
    answer_same t (λ a. joined o (λ e. literal_holds a (literal_of_place e)) placed)
    (λ a. joined o (literal_holds a) xs) c
    (λ a. sym (joined_map o (literal_holds a) literal_of_place placed)
    ∙ sym (joined_permuted o (literal_holds a) xs (map literal_of_place placed) h))

-- the value of such literals, joined
abbrev pub placed_value : Operation → List (ℕ × ℤ) → List Bool → Bool
placed_value o l g = joined o (λ e. literal_holds g (literal_of_place e)) l

-- two parts that are joined
pub parts_joined : (t0 t1 t2 : Table) (o : Operation) (n : ℕ) (placed : List (ℕ × ℤ)) (a b c : ℕ) → Extends t0 t1 →
    HasAnswer t0 (λ g. joined o (λ e. literal_holds g (literal_of_place e)) (take n placed)) a →
    HasAnswer t1 (λ g. joined o (λ e. literal_holds g (literal_of_place e)) (slice_range placed n (length placed))) b →
    Combines t1 t2 o a b c → HasAnswer t2 (λ g. joined o (λ e. literal_holds g (literal_of_place e)) placed) c
parts_joined t0 t1 t2 o n placed a b c kept first second both =
    answer_same t2 (λ g. combine o (placed_value o (take n placed) g) (placed_value o (drop n placed) g))
    (placed_value o placed) c (λ g. joined_parts o (λ e. literal_holds g (literal_of_place e)) n placed)
    (combined t1 t2 o (placed_value o (take n placed)) (placed_value o (drop n placed)) a b c
    (answer_on t0 t1 (placed_value o (take n placed)) a kept first)
    (subst (λ l. HasAnswer t1 (placed_value o l) b) (take_rest placed n) second) both)
