-- The parity of literals that hold, one literal after another.
use Rattle.std.proofs.Common.{◌≡◌, ℕ, ◌+◌, ◌<◌, Bool, true, false, not, List, ◌∷◌, ℤ, pos, length, drop, get_or}
use Rattle.std.proofs.Common.{refl, sym, ap, subst, ◌∙◌, add-one}
use Rattle.std.specs.Bool.{beq}
use Rattle.std.proofs.Math.Seq.{drop-cons}
use Rattle.sd_model.specs.declared.trees.Operation.TheVariants.{Xor}
use Rattle.sd_model.specs.Assignment.{literal_holds}
use Rattle.sd_model.specs.Expression.{combine, odd_hold}
use Rattle.sd_model.proofs.Parity.{odd_more}
use Rattle.sd_formula.specs.Formulas.{AreLiterals}

-- a test that two values differ is their exclusive or
differ : (x b r : Bool) → combine Xor (not (beq x b)) r ≡ combine Xor x (combine Xor b r)
differ true true true = refl
differ true true false = refl
differ true false r = refl
differ false true r = refl
differ false false r = refl

-- the literals from an index on
from_index : (group : List ℤ) (i : ℕ) → i < length group
    → drop i group ≡ get_or group i (pos 0) ∷ drop (i + 1) group
from_index group i below =
    drop-cons group i (pos 0) below ∙ ap (λ n. get_or group i (pos 0) ∷ drop n group) (sym (add-one i))

-- are in range behind it
pub next_in_range : (v : ℕ) (group : List ℤ) (i : ℕ) → i < length group → AreLiterals v (drop i group)
    → AreLiterals v (drop (i + 1) group)
next_in_range v group i below fit = (subst (AreLiterals v) (from_index group i below) fit).1

-- the next literal joins the parity so far
pub odd_next : (a : List Bool) (odd b : Bool) (group : List ℤ) (i : ℕ) → i < length group
    → b ≡ literal_holds a (get_or group i (pos 0))
    → combine Xor odd (odd_hold a (drop i group)) ≡ odd_hold a group
    → combine Xor (not (beq odd b)) (odd_hold a (drop (i + 1) group)) ≡ odd_hold a group
odd_next a odd b group i below is same =
    let rest = drop (i + 1) group in
    let more : odd_hold a (drop i group) ≡ combine Xor b (odd_hold a rest) =
    ap (odd_hold a) (from_index group i below) ∙ odd_more a (get_or group i (pos 0)) rest
    ∙ ap (λ v. combine Xor v (odd_hold a rest)) (sym is) in
    differ odd b (odd_hold a rest) ∙ ap (combine Xor odd) (sym more) ∙ same
