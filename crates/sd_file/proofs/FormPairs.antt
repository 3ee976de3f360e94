-- A decomposition line has at least one pair.
use Rattle.std.proofs.Common.{◌≡◌, ℕ, ◌*◌, ◌≤◌, ◌==◌, ◌&&◌, Bool, true, false, List, [], ◌∷◌, length}
use Rattle.std.proofs.Common.{refl, subst, arith}
use Rattle.std.proofs.Common.{Option, Some, None, option_map, ℤ, codes, bytes_eq}
use Rattle.std.specs.Prelude.{nat_le, if◌then◌else◌, option_and_then}
use Rattle.std.specs.Option.{option_zip}
use Rattle.std.proofs.lemmas.Bool.{leb-true, eqb-true}
use Rattle.sd_base.specs.Numbers.{natural_value, integer_value}
use Rattle.sd_model.specs.Expression.{FileConstant, FileLiteral, FileDecomposition}
use Rattle.sd_file.specs.Reads.{Node, Entry, constant_form}
use Rattle.sd_file.specs.Reads.{literal_form, two_by_two, decomposition_form, all_values, form_of}

-- a decomposition has pairs
abbrev pub HasPairs : Node → Type 0
HasPairs (vtree, FileConstant value) = Unit {0}
HasPairs (vtree, FileLiteral literal) = Unit {0}
HasPairs (vtree, FileDecomposition pairs) = 1 ≤ length pairs

-- the form that was read, if any, has pairs
abbrev Gives : Option Entry → Type 0
Gives found = (form : Entry) → found ≡ Some form → HasPairs form.node

gives_none : Gives None
gives_none form h = absurd cc

gives_some : (form : Entry) → HasPairs form.node → Gives (Some form)
gives_some known has form h = let is : known ≡ form = cc in subst (λ (e : Entry). HasPairs e.node) is has

-- one of two readings
gives_either : (b : Bool) (x y : Option Entry) → Gives x → Gives y → Gives (if b then x else y)
gives_either true x y first second = first
gives_either false x y first second = second

-- a constant
constant_pairs : (value : Bool) (words : List (List ℕ)) → Gives (constant_form value words)
constant_pairs value [] = gives_none
constant_pairs value (id ∷ []) = go (natural_value id)
  where
    go : (o : Option ℕ) → Gives (option_map (λ n. record { id = n; node = (0, FileConstant value) }) o)
    go None = gives_none
    go (Some n) = gives_some (record { id = n; node = (0, FileConstant value) }) tt
constant_pairs value (id ∷ word ∷ words) = gives_none

-- a literal
literal_pairs : (words : List (List ℕ)) → Gives (literal_form words)
literal_pairs [] = gives_none
literal_pairs (id ∷ []) = gives_none
literal_pairs (id ∷ vtree ∷ []) = gives_none
literal_pairs (id ∷ vtree ∷ literal ∷ []) = go (natural_value id) (natural_value vtree) (integer_value literal)
  where
    go : (i v : Option ℕ) (z : Option ℤ)
        → Gives (option_map (λ (n, (p, z)). record { id = n; node = (p, FileLiteral z) })
        (option_zip i (option_zip v z)))
    go (Some i) (Some v) (Some z) = gives_some (record { id = i; node = (v, FileLiteral z) }) tt
    go (Some i) (Some v) None = gives_none
    go (Some i) None z = gives_none
    go None v z = gives_none
literal_pairs (id ∷ vtree ∷ literal ∷ word ∷ words) = gives_none

-- two numbers are a pair
pairs_some : (ns : List ℕ) → 2 ≤ length ns → 1 ≤ length (two_by_two ns)
pairs_some [] some = absurd (omega (arith, some))
pairs_some (p ∷ []) some = absurd (omega (arith, some))
pairs_some (p ∷ s ∷ others) some = omega arith

-- a decomposition
decomposition_pairs : (numbers : List ℕ) → Gives (decomposition_form numbers)
decomposition_pairs [] = gives_none
decomposition_pairs (id ∷ []) = gives_none
decomposition_pairs (id ∷ vtree ∷ []) = gives_none
decomposition_pairs (id ∷ vtree ∷ k ∷ children) =
    go (nat_le 1 k) (length children == 2 * k) (leb-true 1 k) (eqb-true (length children) (2 * k))
  where
    go : (some even : Bool) → (some ≡ true → 1 ≤ k) → (even ≡ true → length children ≡ 2 * k)
        → Gives (if some && even then Some (record { id = id; node = (vtree, FileDecomposition (two_by_two children)) })
        else None)
    go true true least count =
        let within_limit = least refl in
        let all = count refl in
        gives_some (record { id = id; node = (vtree, FileDecomposition (two_by_two children)) })
        (pairs_some children (omega (arith, within_limit, all)))
    go true false least count = gives_none
    go false even least count = gives_none

-- the numbers of a line, if all are there
numbers_pairs : (o : Option (List ℕ)) → Gives (option_and_then decomposition_form o)
numbers_pairs None = gives_none
numbers_pairs (Some numbers) = decomposition_pairs numbers

-- each line
pub form_pairs : (words : List (List ℕ)) → (form : Entry) → form_of words ≡ Some form → HasPairs form.node
form_pairs [] = gives_none
form_pairs (letter ∷ words) =
    gives_either (bytes_eq letter (codes "F")) _ _ (constant_pairs false words)
    (gives_either (bytes_eq letter (codes "T")) _ _ (constant_pairs true words)
    (gives_either (bytes_eq letter (codes "L")) _ _ (literal_pairs words)
    (gives_either (bytes_eq letter (codes "D")) _ _ (numbers_pairs (all_values natural_value words)) gives_none)))
