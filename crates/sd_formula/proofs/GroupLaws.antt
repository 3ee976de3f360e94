-- The group at an index, and the groups from an index on.
use Rattle.std.proofs.Common.{◌≡◌, ℕ, zero, suc, ◌+◌, Bool, true, ◌||◌, ◌&&◌, List, [], ◌∷◌, map, drop, slice_get}
use Rattle.std.proofs.Common.{Option, Some, None, option_map, ℤ, refl, ap, sym, subst, ◌∙◌, add-one}
use Rattle.std.specs.List.{AllByRecursion, list_any, list_all}
use Rattle.sd_model.specs.Assignment.{literal_holds}
use Rattle.sd_model.specs.Expression.{Group, expression_value}
use Rattle.sd_formula.specs.declared.formula.Kind.{Kind}
use Rattle.sd_formula.specs.declared.formula.Kind.TheVariants.{Cnf, Dnf}
use Rattle.sd_formula.specs.Formulas.{AreLiterals, MayBeMarked, IsGroup, IsFormula, expression_of}
use Rattle.sd_formula.specs.Dimacs.{Groups}

-- what holds of each element holds of the one at an index
pub all_at : {X : Type 0} (P : X → Type 0) (xs : List X) (i : ℕ) (x : X) → AllByRecursion P xs
    → slice_get xs i ≡ Some x → P x
all_at P [] i x all at = absurd cc
all_at P (y ∷ ys) zero x all at = let is : y ≡ x = cc in subst P is all.0
all_at P (y ∷ ys) (suc i) x all at = all_at P ys i x all.1 at

-- each group of a formula is one of its kind and variables
pub group_at : (f : Groups) (i : ℕ) (group : Group) → IsFormula f → slice_get f.groups i ≡ Some group
    → IsGroup f.kind f.variables group
group_at f i group is at = all_at (IsGroup f.kind f.variables) f.groups i group is.groups at

-- so its literals are of the variables
pub literals_at : (f : Groups) (i : ℕ) (zs : List ℤ) → IsFormula f
    → option_map (λ group. group.literals) (slice_get f.groups i) ≡ Some zs → AreLiterals f.variables zs
literals_at f i zs is at = go (slice_get f.groups i) refl at
  where
    go : (o : Option Group) → slice_get f.groups i ≡ o → option_map (λ group. group.literals) o ≡ Some zs
        → AreLiterals f.variables zs
    go None here at = absurd cc
    go (Some g) here at =
        let same : g.literals ≡ zs = cc in subst (AreLiterals f.variables) same (group_at f i g is here).literals

-- and a marked one is one of a CNF
pub marked_is_cnf : (f : Groups) (i : ℕ) (b : Bool) → IsFormula f
    → option_map (λ group. group.exclusive) (slice_get f.groups i) ≡ Some b → b ≡ true → f.kind ≡ Cnf
marked_is_cnf f i b is at holds = go (slice_get f.groups i) refl at
  where
    by_kind : (kind : Kind) → MayBeMarked kind true → kind ≡ Cnf
    by_kind Cnf may = refl
    by_kind Dnf may = absurd cc

    go : (o : Option Group) → slice_get f.groups i ≡ o → option_map (λ group. group.exclusive) o ≡ Some b
        → f.kind ≡ Cnf
    go None here at = absurd cc
    go (Some g) here at =
        let same : g.exclusive ≡ true = cc in
        by_kind f.kind (subst (MayBeMarked f.kind) same (group_at f i g is here).mark)

-- some element of a mapped list passes a test
any_map : {X Y : Type 0} (p : Y → Bool) (g : X → Y) (xs : List X) → list_any p (map g xs) ≡ list_any (λ x. p (g x)) xs
any_map p g [] = refl
any_map p g (x ∷ xs) = ap (λ b. p (g x) || b) (any_map p g xs)

-- the value of a DNF
pub dnf_value : (f : Groups) (a : List Bool) → f.kind ≡ Dnf
    → list_any (λ term. list_all (literal_holds a) term.literals) f.groups ≡ expression_value (expression_of f) a
dnf_value f a is = rw is (sym (any_map (list_all (literal_holds a)) (λ term. term.literals) f.groups))

-- an element before those after it
at_front : {X : Type 0} (xs : List X) (i : ℕ) (x : X) → slice_get xs i ≡ Some x → drop i xs ≡ x ∷ drop (suc i) xs
at_front [] i x at = absurd cc
at_front (y ∷ ys) zero x at = let is : y ≡ x = cc in ap (λ z. z ∷ ys) is
at_front (y ∷ ys) (suc i) x at = at_front ys i x at

pub drop_at : {X : Type 0} (xs : List X) (i : ℕ) (x : X) → slice_get xs i ≡ Some x → drop i xs ≡ x ∷ drop (i + 1) xs
drop_at xs i x at = rw add-one (at_front xs i x at)

-- all pass where one passes and all behind it do
pub all_behind : {X : Type 0} (p : X → Bool) (xs : List X) (i : ℕ) → option_map p (slice_get xs i) ≡ Some true
    → list_all p (drop (i + 1) xs) ≡ list_all p (drop i xs)
all_behind {X} p xs i passes = go (slice_get xs i) refl passes
  where
    go : (o : Option X) → slice_get xs i ≡ o → option_map p o ≡ Some true
        → list_all p (drop (i + 1) xs) ≡ list_all p (drop i xs)
    go None at h = cc
    go (Some x) at h =
        let one : p x ≡ true = cc in
        sym (ap (list_all p) (drop_at xs i x at) ∙ ap (λ b. b && list_all p (drop (i + 1) xs)) one)
