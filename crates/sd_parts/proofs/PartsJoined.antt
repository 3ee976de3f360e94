-- The value of a prefix from a shorter one and the groups between.
use Rattle.std.proofs.Common.{◌≡◌, ℕ, zero, suc, ◌-◌, ◌*◌, ◌/◌, ◌≤◌, Bool, List, [], ◌∷◌, length}
use Rattle.std.proofs.Common.{take, drop, slice_range, refl, sym, ap, ◌∙◌, arith}
use Rattle.std.proofs.Math.Nat.{mul-div_cancel_left}
use Rattle.sd_model.specs.Expression.{combine, expression_value}
use Rattle.sd_formula.specs.Dimacs.{Groups}
use Rattle.sd_formula.specs.Formulas.{expression_of, groups_part}
use Rattle.sd_manager.specs.Table.{Table}
use Rattle.sd_apply.specs.Answers.{HasAnswer, Combines}
use Rattle.sd_compile.specs.Joined.{joined, outer, value_of_group}
use Rattle.sd_compile.specs.Compiling.{prefix_of}
use Rattle.sd_compile.proofs.Joining.{prefix_joined, formula_joined, answer_same, combined}
use Rattle.sd_compile.proofs.Grouping.{joined_parts}
use Rattle.sd_parts.specs.Parts.{first_of_part}

-- of the first groups, fewer of them
take_fewer : {X : Type 0} (xs : List X) (from to : ℕ) → from ≤ to → take from (take to xs) ≡ take from xs
take_fewer xs zero to order = refl
take_fewer [] (suc from) (suc to) order = refl
take_fewer (x ∷ xs) (suc from) (suc to) order = ap (λ l. x ∷ l) (take_fewer xs from to (omega (arith, order)))
take_fewer xs (suc from) zero order = absurd (omega (arith, order))

-- less nothing
minus_none : (n : ℕ) → n ≡ n - 0
minus_none n = omega arith

-- no group has none among the first
take_none : {X : Type 0} (n : ℕ) → take {A = X} 0 [] ≡ take n []
take_none zero = refl
take_none (suc n) = refl

-- and those behind them
drop_fewer : {X : Type 0} (xs : List X) (from to : ℕ) → from ≤ to → drop from (take to xs) ≡ slice_range xs from to
drop_fewer xs zero to order = ap (λ n. take n xs) (minus_none to)
drop_fewer [] (suc from) (suc to) order = take_none (suc to - suc from)
drop_fewer (x ∷ xs) (suc from) (suc to) order =
    drop_fewer xs from to (omega (arith, order))
    ∙ ap (λ n. take n (drop from xs)) (omega arith)
drop_fewer xs (suc from) zero order = absurd (omega (arith, order))

-- a prefix, joined with the groups behind it
pub parts_joined : (f : Groups) (from to : ℕ) → from ≤ to → (a : List Bool) →
    combine (outer f.kind) (expression_value (prefix_of f from) a)
    (expression_value (expression_of (groups_part f from to)) a) ≡ expression_value (prefix_of f to) a
parts_joined f from to order a =
    let o = outer f.kind in
    let v = value_of_group f.kind a in
    ap (λ b. combine o b (expression_value (expression_of (groups_part f from to)) a)) (sym (prefix_joined f from a))
    ∙ ap (combine o (joined o v (take from f.groups))) (sym (formula_joined (groups_part f from to) a))
    ∙ ap (λ l. combine o (joined o v l) (joined o v (slice_range f.groups from to)))
    (sym (take_fewer f.groups from to order))
    ∙ ap (λ l. combine o (joined o v (take from (take to f.groups))) (joined o v l))
    (sym (drop_fewer f.groups from to order))
    ∙ joined_parts o v from (take to f.groups) ∙ prefix_joined f to a

-- so does the node of the connective
pub parts_node : (old new : Table) (f : Groups) (from to a b c : ℕ) → from ≤ to →
    HasAnswer old (expression_value (prefix_of f from)) a →
    HasAnswer old (expression_value (expression_of (groups_part f from to))) b →
    Combines old new (outer f.kind) a b c → HasAnswer new (expression_value (prefix_of f to)) c
parts_node old new f from to a b c order p q both =
    let v = expression_value (prefix_of f from) in
    let w = expression_value (expression_of (groups_part f from to)) in
    answer_same new (λ s. combine (outer f.kind) (v s) (w s)) (expression_value (prefix_of f to)) c
    (λ s. parts_joined f from to order s) (combined old new (outer f.kind) v w a b c p q both)

-- ---- where parts begin

-- none is none
mul_zero_both : (g k : ℕ) → 0 * g ≡ k * 0
mul_zero_both g k = omega arith

-- before the first part stands no group
pub first_none : (f : Groups) (k : ℕ) → 1 ≤ k → first_of_part f k 0 ≡ 0
first_none f k some =
    ap (λ n. n / k) (mul_zero_both (length f.groups) k) ∙ mul-div_cancel_left 0 some

-- before the part behind the last one stand all
pub first_all : (f : Groups) (k : ℕ) → 1 ≤ k → first_of_part f k k ≡ length f.groups
first_all f k some = mul-div_cancel_left (length f.groups) some
