-- What connectives give where no recursion is needed.
use Rattle.std.proofs.Common.{◌≡◌, Bool, true, false, not, refl}
use Rattle.sd_model.specs.Expression.{combine}
use Rattle.sd_model.specs.declared.trees.Operation.{Operation}
use Rattle.sd_model.specs.declared.trees.Operation.TheVariants.{And, Or, Xor}

-- the operands may be exchanged
pub combine_exchanged : (o : Operation) (b c : Bool) → combine o b c ≡ combine o c b
combine_exchanged And true true = refl
combine_exchanged And true false = refl
combine_exchanged And false true = refl
combine_exchanged And false false = refl
combine_exchanged Or true true = refl
combine_exchanged Or true false = refl
combine_exchanged Or false true = refl
combine_exchanged Or false false = refl
combine_exchanged Xor true true = refl
combine_exchanged Xor true false = refl
combine_exchanged Xor false true = refl
combine_exchanged Xor false false = refl

-- two equal operands: the conjunction and the disjunction are the operand, and the exclusive one is false
pub and_same : (c : Bool) → combine And c c ≡ c
and_same true = refl
and_same false = refl

pub or_same : (c : Bool) → combine Or c c ≡ c
or_same true = refl
or_same false = refl

pub xor_same : (c : Bool) → combine Xor c c ≡ false
xor_same true = refl
xor_same false = refl

-- an operand and its negation: the conjunction is false, and the others are true
pub and_negated : (c : Bool) → combine And c (not c) ≡ false
and_negated true = refl
and_negated false = refl

pub or_negated : (c : Bool) → combine Or c (not c) ≡ true
or_negated true = refl
or_negated false = refl

pub xor_negated : (c : Bool) → combine Xor c (not c) ≡ true
xor_negated true = refl
xor_negated false = refl
