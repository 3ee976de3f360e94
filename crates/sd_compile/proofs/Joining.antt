-- Nodes joined one after another show the joined values.
use Rattle.std.proofs.Common.{◌≡◌, ℕ, zero, suc, ◌+◌, ◌≤◌, Bool, true, false, ◌&&◌, ◌||◌}
use Rattle.std.proofs.Common.{List, [], ◌∷◌, ◌++◌, length, take, map, slice_get, Option, None, option_map}
use Rattle.std.proofs.Common.{Some, ℤ, pos, negsuc, refl, sym, ap, subst, ◌∙◌, arith, add-one}
use Rattle.std.specs.List.{list_all, list_any}
use Rattle.std.specs.FinMap.{get}
use Rattle.sd_model.specs.declared.trees.Operation.{Operation}
use Rattle.sd_model.specs.declared.trees.Operation.TheVariants.{And, Or, Xor}
use Rattle.sd_model.specs.Assignment.{literal_holds}
use Rattle.sd_model.specs.Diagram.{meaning}
use Rattle.sd_model.specs.Expression.{Group, combine, odd_hold, group_holds, expression_value}
use Rattle.sd_model.proofs.Parity.{odd_more}
use Rattle.sd_formula.specs.declared.formula.Kind.{Kind}
use Rattle.sd_formula.specs.declared.formula.Kind.TheVariants.{Cnf, Dnf}
use Rattle.sd_formula.specs.Dimacs.{Groups}
use Rattle.sd_formula.specs.Formulas.{IsLiteral, expression_of}
use Rattle.sd_manager.proofs.Extending.{extends_self}
use Rattle.sd_apply.proofs.Listed.{shown_on}
use Rattle.std.proofs.lemmas.Option.{same_Some}
use Rattle.sd_apply.proofs.JoiningSteps.{constant_value}
use Rattle.sd_compile.specs.Compiling.{prefix_of, HoldsFormula}
use Rattle.sd_model.specs.Expression.{Expression}
use Rattle.sd_manager.specs.Table.{Table}
use Rattle.sd_manager.specs.Shown.{ShowsCanonical, IsNodeOf, constant_diagram}
use Rattle.sd_manager.specs.Literals.{IsLiteralTo}
use Rattle.sd_manager.specs.Making.{Extends}
use Rattle.sd_apply.specs.Answers.{HasAnswer, Combines}
use Rattle.sd_compile.specs.Joined.{joined, neutral, outer, inner, value_of_group, JoinsLiterals, ImpliesOdd}

-- all and any are joined
pub all_joined : {X : Type 0} (p : X → Bool) (xs : List X) → list_all p xs ≡ joined And p xs
all_joined p [] = refl
all_joined p (x ∷ xs) = ap (λ b. p x && b) (all_joined p xs)

pub any_joined : {X : Type 0} (p : X → Bool) (xs : List X) → list_any p xs ≡ joined Or p xs
any_joined p [] = refl
any_joined p (x ∷ xs) = ap (λ b. p x || b) (any_joined p xs)

-- equal values are joined to equal ones
joined_same : {X : Type 0} (o : Operation) (p q : X → Bool) (xs : List X) → ((x : X) → p x ≡ q x)
    → joined o p xs ≡ joined o q xs
joined_same o p q [] same = refl
joined_same o p q (x ∷ xs) same =
    ap (λ b. combine o b (joined o p xs)) (same x) ∙ ap (combine o (q x)) (joined_same o p q xs same)

-- the values at what another list has
pub joined_map : {X Y : Type 0} (o : Operation) (p : Y → Bool) (f : X → Y) (xs : List X) →
    joined o p (map f xs) ≡ joined o (λ x. p (f x)) xs
joined_map o p f [] = refl
joined_map o p f (x ∷ xs) = ap (combine o (p (f x))) (joined_map o p f xs)

-- an odd number of literals hold
exclusive_joined : (a : List Bool) (zs : List ℤ) → joined Xor (literal_holds a) zs ≡ odd_hold a zs
exclusive_joined a [] = refl
exclusive_joined a (z ∷ zs) = ap (combine Xor (literal_holds a z)) (exclusive_joined a zs) ∙ sym (odd_more a z zs)

-- a group of a CNF holds
group_joined : (a : List Bool) (exclusive : Bool) (zs : List ℤ) → joined (inner Cnf exclusive) (literal_holds a) zs
    ≡ group_holds a (record { exclusive = exclusive; literals = zs })
group_joined a true zs = exclusive_joined a zs
group_joined a false zs = sym (any_joined (literal_holds a) zs)

-- the value of a formula, by its connectives
pub formula_joined : (f : Groups) (assignment : List Bool)
    → joined (outer f.kind) (value_of_group f.kind assignment) f.groups
    ≡ expression_value (expression_of f) assignment
formula_joined f assignment = go f.kind f.groups
  where
    go : (kind : Kind) (groups : List Group) → joined (outer kind) (value_of_group kind assignment) groups
        ≡ expression_value (expression_of (record { kind = kind; variables = f.variables; groups = groups })) assignment
    go Cnf groups =
        joined_same And _ _ groups (λ g. group_joined assignment g.exclusive g.literals)
        ∙ sym (all_joined (group_holds assignment) groups)
    go Dnf groups =
        joined_same Or _ _ groups (λ g. sym (all_joined (literal_holds assignment) g.literals))
        ∙ sym (joined_map Or (list_all (literal_holds assignment)) (λ (g : Group). g.literals) groups)
        ∙ sym (any_joined (list_all (literal_holds assignment)) (map (λ (g : Group). g.literals) groups))

-- connectives are associative, and have a neutral value
pub grouped : (o : Operation) (a b c : Bool) → combine o a (combine o b c) ≡ combine o (combine o a b) c
grouped And true b c = refl
grouped And false b c = refl
grouped Or true b c = refl
grouped Or false b c = refl
grouped Xor true true true = refl
grouped Xor true true false = refl
grouped Xor true false c = refl
grouped Xor false b c = refl

pub alone : (o : Operation) (b : Bool) → combine o b (neutral o) ≡ combine o (neutral o) b
alone And true = refl
alone And false = refl
alone Or true = refl
alone Or false = refl
alone Xor true = refl
alone Xor false = refl

-- one value more
joined_push : {X : Type 0} (o : Operation) (p : X → Bool) (xs : List X) (x : X)
    → joined o p (xs ++ x ∷ []) ≡ combine o (joined o p xs) (p x)
joined_push o p [] x = alone o (p x)
joined_push o p (y ∷ xs) x = ap (combine o (p y)) (joined_push o p xs x) ∙ grouped o (p y) (joined o p xs) (p x)

-- a node that shows a value is answer_node
pub answer_node : (t : Table) (f : List Bool → Bool) (c : ℕ) → HasAnswer t f c → IsNodeOf t c
answer_node t f c h = record { diagram = h.diagram; is = h.is }

-- a node shows its value in a later table
pub answer_on : (old new : Table) (f : List Bool → Bool) (c : ℕ) → Extends old new → HasAnswer old f c
    → HasAnswer new f c
answer_on old new f c kept h =
    record { diagram = h.diagram; is = shown_on old new kept c h.diagram h.is; value = h.value }

-- and with an equal value
pub answer_same : (t : Table) (f g : List Bool → Bool) (c : ℕ)
    → ((assignment : List Bool) → f assignment ≡ g assignment)
    → HasAnswer t f c → HasAnswer t g c
answer_same t f g c same h = record {
  diagram = h.diagram;
  is = h.is;
  value = λ assignment. h.value assignment ∙ same assignment;
}

-- the answer of a connective
pub combined : (old new : Table) (o : Operation) (f g : List Bool → Bool) (a b c : ℕ) → HasAnswer old f a
    → HasAnswer old g b → Combines old new o a b c
    → HasAnswer new (λ assignment. combine o (f assignment) (g assignment)) c
combined old new o f g a b c p q combines =
    let r = combines.each p.diagram q.diagram p.is q.is in record {
      diagram = r.diagram;
      is = r.is;
      value = λ assignment. r.value assignment
          ∙ ap (λ v. combine o v (meaning q.diagram assignment)) (p.value assignment)
          ∙ ap (combine o (f assignment)) (q.value assignment);
    }

-- the constant of no operands
pub none_joined : (t : Table) (o : Operation) (c : ℕ) (b : Bool) → b ≡ neutral o
    → ShowsCanonical t c (constant_diagram b)
    → HasAnswer t (λ assignment. neutral o) c
none_joined t o c b is shown = record {
  diagram = constant_diagram b;
  is = shown;
  value = λ assignment. constant_value b assignment ∙ is;
}

-- a literal of a variable from 1 to v is one of the vtree's
pub literal_of_tree : (v : ℕ) (z : ℤ) → IsLiteral v z → IsLiteralTo v z
literal_of_tree v (pos x) is = (is.low, is.high)
literal_of_tree v (negsuc i) is = let high = is.high in omega (arith, high)

-- ---- the groups

take_at : {X : Type 0} (xs : List X) (i : ℕ) (x : X) → slice_get xs i ≡ Some x
    → take (suc i) xs ≡ take i xs ++ x ∷ []
take_at [] i x at = absurd cc
take_at (y ∷ ys) zero x at = let is : y ≡ x = cc in ap (λ z. z ∷ []) is
take_at (y ∷ ys) (suc i) x at = ap (λ l. y ∷ l) (take_at ys i x at)

take_all : {X : Type 0} (xs : List X) (i : ℕ) → length xs ≤ i → take i xs ≡ xs
take_all [] zero h = refl
take_all [] (suc i) h = refl
take_all (y ∷ ys) zero h = absurd (omega (arith, h))
take_all (y ∷ ys) (suc i) h = ap (λ l. y ∷ l) (take_all ys i (omega (arith, h)))

-- the value of the first groups
abbrev pub front_value : Groups → ℕ → List Bool → Bool
front_value f i assignment = joined (outer f.kind) (value_of_group f.kind assignment) (take i f.groups)

-- a group from its parts
pub group_at : (o : Option Group) (exclusive : Bool) (zs : List ℤ) →
    option_map (λ (g : Group). g.exclusive) o ≡ Some exclusive → option_map (λ (g : Group). g.literals) o ≡ Some zs →
    o ≡ Some (record { exclusive = exclusive; literals = zs })
group_at None exclusive zs marked listed = absurd cc
group_at (Some g) exclusive zs marked listed =
    ap (λ b. Some (record { exclusive = b; literals = g.literals })) (same_Some g.exclusive exclusive marked)
    ∙ ap (λ l. Some (record { exclusive = exclusive; literals = l })) (same_Some g.literals zs listed)

-- with one group more it is joined with the value of this
front_more : (f : Groups) (i : ℕ) (g : Group) → slice_get f.groups i ≡ Some g → (assignment : List Bool) →
    combine (outer f.kind) (front_value f i assignment) (value_of_group f.kind assignment g)
    ≡ front_value f (i + 1) assignment
front_more f i g at assignment =
    sym (joined_push (outer f.kind) (value_of_group f.kind assignment) (take i f.groups) g)
    ∙ ap (joined (outer f.kind) (value_of_group f.kind assignment))
    (sym (ap (λ n. take n f.groups) (add-one i) ∙ take_at f.groups i g at))

-- one group more
pub group_more : (f : Groups) (old mid new : Table) (between within : Operation) (i : ℕ) (g : Group) (a b c : ℕ)
    → between ≡ outer f.kind → within ≡ inner f.kind g.exclusive → slice_get f.groups i ≡ Some g → Extends old mid
    → HasAnswer old (front_value f i) a → HasAnswer mid
    (λ assignment. joined within (literal_holds assignment) g.literals) b
    → Combines mid new between a b c → HasAnswer new (front_value f (i + 1)) c
group_more f old mid new between within i g a b c outside inside at kept front group combines =
    answer_same new (λ assignment. combine (outer f.kind) (front_value f i assignment)
    (value_of_group f.kind assignment g)) (front_value f (i + 1)) c
    (front_more f i g at)
    (combined mid new (outer f.kind) (front_value f i)
    (λ assignment. value_of_group f.kind assignment g) a b c
    (answer_on old mid (front_value f i) a kept front)
    (subst (λ o. HasAnswer mid (λ assignment. joined o (literal_holds assignment) g.literals) b) inside group)
    (subst (λ o. Combines mid new o a b c) outside combines))

-- the value of a prefix
pub prefix_joined : (f : Groups) (n : ℕ) (assignment : List Bool) → front_value f n assignment
    ≡ expression_value (prefix_of f n) assignment
prefix_joined f n = formula_joined (record f { groups = take n f.groups })

-- all groups are the formula
pub whole_prefix : (f : Groups) (n : ℕ) → length f.groups ≤ n → prefix_of f n ≡ expression_of f
whole_prefix f n all = ap (λ (l : List Group). expression_of (record f { groups = l })) (take_all f.groups n all)

-- a root holds a node that is one of a later table
pub prefix_node : (f : Expression) (old mid : Table) (root a : ℕ) → Extends old mid → HoldsFormula old f root →
    get mid.roots root ≡ Some a → HasAnswer mid (expression_value f) a
prefix_node f old mid root a kept h held =
    let e : h.code ≡ a = same_Some h.code a (sym (ap (λ m. get m root) kept.roots ∙ h.held) ∙ held) in
    answer_on old mid (expression_value f) a kept (subst (HasAnswer old (expression_value f)) e h.shown)

-- The node of a prefix with one group more.
pub prefix_more : (f : Groups) (old mid new : Table) (between within : Operation) (i : ℕ) (g : Group)
    (root a b c : ℕ) → between ≡ outer f.kind → within ≡ inner f.kind g.exclusive → slice_get f.groups i ≡ Some g →
    Extends old mid → HoldsFormula old (prefix_of f i) root → get mid.roots root ≡ Some a →
    HasAnswer mid (λ assignment. joined within (literal_holds assignment) g.literals) b →
    Combines mid new between a b c →
    HasAnswer new (expression_value (prefix_of f (i + 1))) c
prefix_more f old mid new between within i g root a b c outside inside at kept h held group combines =
    answer_same new (front_value f (i + 1)) (expression_value (prefix_of f (i + 1))) c (prefix_joined f (i + 1))
    (group_more f mid mid new between within i g a b c outside inside at (extends_self mid)
    (answer_same mid (expression_value (prefix_of f i)) (front_value f i) a (λ s. sym (prefix_joined f i s))
    (prefix_node (prefix_of f i) old mid root a kept h held))
    group combines)

-- the same where the node is joined with the literals of a clause or a term
pub prefix_passed : (f : Groups) (t new : Table) (i : ℕ) (g : List ℤ) (root a c : ℕ) →
    slice_get f.groups i ≡ Some (record { exclusive = false; literals = g }) → HoldsFormula t (prefix_of f i) root →
    get t.roots root ≡ Some a →
    JoinsLiterals t new f.kind a g c → HasAnswer new (expression_value (prefix_of f (i + 1))) c
prefix_passed f t new i g root a c at h held joins =
    let p = prefix_node (prefix_of f i) t t root a (extends_self t) h held in
    let o = outer f.kind in
    answer_same new
    (λ s. combine o (meaning p.diagram s) (joined (inner f.kind false) (literal_holds s) g))
    (expression_value (prefix_of f (i + 1))) c
    (λ s. ap (λ v. combine o v (joined (inner f.kind false) (literal_holds s) g))
    (p.value s ∙ sym (prefix_joined f i s))
    ∙ front_more f i (record { exclusive = false; literals = g }) at s ∙ prefix_joined f (i + 1) s)
    (joins.each p.diagram p.is)

-- a value that is true only where another one is
true_beside : (b v : Bool) → (b ≡ true → v ≡ true) → b ≡ (b && v)
true_beside true v h = sym (h refl)
true_beside false v h = refl

-- a node that implies an exclusive group of a CNF is that of the prefix with it
pub prefix_stays : (f : Groups) (t : Table) (i : ℕ) (g : List ℤ) (root a : ℕ) →
    slice_get f.groups i ≡ Some (record { exclusive = true; literals = g }) → f.kind ≡ Cnf →
    HoldsFormula t (prefix_of f i) root → get t.roots root ≡ Some a → ImpliesOdd t a g →
    HasAnswer t (expression_value (prefix_of f (i + 1))) a
prefix_stays f t i g root a at cnf h held odd =
    let p = prefix_node (prefix_of f i) t t root a (extends_self t) h held in
    let group : List Bool → Bool = λ s. joined (inner f.kind true) (literal_holds s) g in
    let stays : (s : List Bool) → meaning p.diagram s ≡ combine (outer f.kind) (meaning p.diagram s) (group s) = λ s.
    subst
    (λ k. meaning p.diagram s ≡ combine (outer k) (meaning p.diagram s) (joined (inner k true) (literal_holds s) g))
    (sym cnf)
    (true_beside (meaning p.diagram s) (joined Xor (literal_holds s) g) (odd p.diagram p.is s)) in
    record {
      diagram = p.diagram;
      is = p.is;
      value = λ s. stays s
          ∙ ap (λ v. combine (outer f.kind) v (group s)) (p.value s ∙ sym (prefix_joined f i s))
          ∙ front_more f i (record { exclusive = true; literals = g }) at s ∙ prefix_joined f (i + 1) s;
    }

-- the value of no groups
pub prefix_none : (t : Table) (f : Groups) (b : Bool) (c : ℕ) → b ≡ neutral (outer f.kind) →
    ShowsCanonical t c (constant_diagram b) → HasAnswer t (expression_value (prefix_of f 0)) c
prefix_none t f b c is shown =
    answer_same t (λ s. neutral (outer f.kind)) (expression_value (prefix_of f 0)) c (prefix_joined f 0)
    (none_joined t (outer f.kind) c b is shown)
