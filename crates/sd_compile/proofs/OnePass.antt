-- A node that is joined with a group in one pass.
use Rattle.std.proofs.Common.{◌≡◌, ◌≢◌, ℕ, ℤ, Bool, false, List, map, length, sym, ap, ◌∙◌}
use Rattle.std.specs.List.{AllByRecursion}
use Rattle.std.specs.List.Sorted.{IsPermutation}
use Rattle.std.proofs.lemmas.List.{length-map}
use Rattle.std.proofs.lemmas.List.Sorted.{length_permutation}
use Rattle.sd_model.specs.declared.trees.Operation.{Operation}
use Rattle.sd_model.specs.declared.trees.Operation.TheVariants.{And, Or, Xor}
use Rattle.sd_model.specs.Assignment.{literal_holds}
use Rattle.sd_model.specs.Diagram.{meaning}
use Rattle.sd_model.specs.Expression.{combine}
use Rattle.sd_laws.proofs.Lists.{all_weaker}
use Rattle.sd_formula.specs.declared.formula.Kind.{Kind}
use Rattle.sd_formula.specs.declared.formula.Kind.TheVariants.{Cnf, Dnf}
use Rattle.sd_formula.specs.Formulas.{IsLiteral, AreLiterals}
use Rattle.sd_manager.specs.Table.{Table}
use Rattle.sd_manager.specs.Literals.{IsLiteralTo}
use Rattle.sd_apply.specs.Group.{group_value, JoinsGroup}
use Rattle.sd_compile.specs.Joined.{joined, outer, inner, literal_of_place, JoinsLiterals, ImpliesOdd}
use Rattle.sd_compile.proofs.Joining.{all_joined, any_joined, joined_map, literal_of_tree}
use Rattle.sd_compile.proofs.Grouping.{joined_permuted}

-- literals of variables from 1 to v are the vtree's
pub literals_of_tree : (v : ℕ) (xs : List ℤ) → AreLiterals v xs → AllByRecursion (IsLiteralTo v) xs
literals_of_tree v xs all = all_weaker (IsLiteral v) (IsLiteralTo v) (literal_of_tree v) xs all

-- groups are not joined by exclusive or
pub outer_other : (o : Operation) (kind : Kind) → o ≡ outer kind → o ≢ Xor
outer_other o Cnf is same = absurd cc
outer_other o Dnf is same = absurd cc

-- the value of a clause or a term in the order of its leaves
group_joined : (kind : Kind) (g : List Bool) (xs : List ℤ) (placed : List (ℕ × ℤ)) →
    IsPermutation xs (map literal_of_place placed) →
    group_value (outer kind) placed g ≡ joined (inner kind false) (literal_holds g) xs
group_joined Cnf g xs placed h =
    any_joined (λ e. literal_holds g (literal_of_place e)) placed
    ∙ sym (joined_map Or (literal_holds g) literal_of_place placed)
    ∙ sym (joined_permuted Or (literal_holds g) xs (map literal_of_place placed) h)
group_joined Dnf g xs placed h =
    all_joined (λ e. literal_holds g (literal_of_place e)) placed
    ∙ sym (joined_map And (literal_holds g) literal_of_place placed)
    ∙ sym (joined_permuted And (literal_holds g) xs (map literal_of_place placed) h)

-- a node joined with such a group is joined with its literals
pub literals_joined : (old new : Table) (kind : Kind) (o : Operation) (a : ℕ) (xs : List ℤ) (placed : List (ℕ × ℤ))
    (c : ℕ) → o ≡ outer kind → IsPermutation xs (map literal_of_place placed) → JoinsGroup old new o a placed c →
    JoinsLiterals old new kind a xs c
literals_joined old new kind o a xs placed c is h joins = record {
  each = λ x s. let r = joins.each x s in record {
    diagram = r.diagram;
    is = r.is;
    value = λ g. r.value g ∙ ap (λ p. combine p (meaning x g) (group_value p placed g)) is
        ∙ ap (combine (outer kind) (meaning x g)) (group_joined kind g xs placed h);
  };
}

-- an odd number of literals hold in each order
pub odd_permuted : (t : Table) (c : ℕ) (xs : List ℤ) (placed : List (ℕ × ℤ)) →
    IsPermutation xs (map literal_of_place placed) → ImpliesOdd t c (map literal_of_place placed) → ImpliesOdd t c xs
odd_permuted t c xs placed h odd = λ d shown a holds.
    joined_permuted Xor (literal_holds a) xs (map literal_of_place placed) h ∙ odd d shown a holds

-- as many literals are placed
pub as_many_placed : (n : ℕ) (xs : List ℤ) (placed : List (ℕ × ℤ)) → IsPermutation xs (map literal_of_place placed) →
    length xs ≡ n → length placed ≡ n
as_many_placed n xs placed h is =
    sym (length-map placed literal_of_place) ∙ length_permutation xs (map literal_of_place placed) h ∙ is
