-- Worked diagrams are canonical for their vtrees, and have the values of their formulas.
use Rattle.std.proofs.Common.{◌≡◌, Bool, true, false, List, [], ◌∷◌, refl, arith, eqb, eqb-true}
use Rattle.std.specs.Prelude.{ℤ, pos, negsuc}
use Rattle.sd_model.specs.Expression.{Expression, Group, Cnf, Dnf}
use Rattle.sd_model.specs.Tree.{Leaf, Node, IsVtree}
use Rattle.sd_model.specs.Diagram.{Diagram, Bottom, Top, Literal, Elements}
use Rattle.sd_model.specs.Canonical.{IsElement, true_primes, IsCanonical, canonical_bottom, canonical_top}
use Rattle.sd_model.specs.Canonical.{canonical_literal, canonical_in_left, canonical_in_right}
use Rattle.sd_model.specs.Size.{IsDiagramOf}
use Rattle.sd_model.proofs.OverVtree.{vtree_apart, one_prime_of_fitted}
use Rattle.sd_model.proofs.WorkedDiagrams.{two, three, disjunction, one_and_two, not_one_and_two}
use Rattle.sd_model.proofs.WorkedDiagrams.{three_and_four, two_terms, not_one_and, or_and, two_and_three}
use Rattle.sd_model.proofs.WorkedDiagrams.{or_and_rotated, four_and_two, three_or, crossed_terms}
use Rattle.sd_model.proofs.WorkedDiagrams.{three_or_not_four, one_and_not_two, two_clauses}
use Rattle.sd_model.proofs.WorkedTrees.{balanced_four, left_four, rotated_four, found_four}
use Rattle.sd_model.proofs.CanonicalByCases.{each_of_two, each_of_three, Halves, Thirds, agree, agree_at}
use Rattle.sd_model.proofs.CanonicalByCases.{canonical_halves, canonical_split, canonical_thirds}

-- literals as a clause
abbrev clause : List ℤ → Group
clause literals = record { exclusive = false; literals = literals }

-- the diagram of 1 or 2
diagram_of_disjunction : IsDiagramOf (Node (Leaf 1) (Leaf 2)) (Cnf (clause (pos 1 ∷ pos 2 ∷ []) ∷ [])) disjunction
diagram_of_disjunction = record {
  canonical = canonical_split (omega arith) (canonical_literal true) canonical_top (λ e. cc) refl refl;
  same_value = agree_at 2 _ _ refl;
}

-- the primes and subs of the diagram of two terms
canonical_one_and_two : IsCanonical (Node (Leaf 1) (Leaf 2)) 0 one_and_two
canonical_one_and_two = canonical_split (omega arith) canonical_bottom (canonical_literal true) (λ e. cc) refl refl

canonical_not_one_and_two : IsCanonical (Node (Leaf 1) (Leaf 2)) 0 not_one_and_two
canonical_not_one_and_two =
    canonical_split (omega arith) canonical_top (canonical_literal false) (λ e. cc) refl refl

canonical_three_and_four : IsCanonical (Node (Leaf 3) (Leaf 4)) 4 three_and_four
canonical_three_and_four =
    canonical_split (omega arith) canonical_bottom (canonical_literal true) (λ e. cc) refl refl

-- the vtree (1 2)
vtree_of_two : IsVtree (Node (Leaf 1) (Leaf 2))
vtree_of_two = record {
  in_range = ((omega arith, omega arith), ((omega arith, omega arith), tt));
  distinct = (((λ e. omega arith), tt), (tt, tt));
}

-- exactly one prime is true, as trying the assignments of 1 and 2 shows
one_prime_of_two : (es : Elements) →
    ((p s : Diagram) → IsElement p s es → IsCanonical (Node (Leaf 1) (Leaf 2)) 0 p) →
    agree 2 (λ a. eqb (true_primes es a) 1) (λ _. true) ≡ true → (a : List Bool) → true_primes es a ≡ 1
one_prime_of_two es fits tried a =
    one_prime_of_fitted 2 (Node (Leaf 1) (Leaf 2)) 0 es (vtree_apart (Node (Leaf 1) (Leaf 2)) vtree_of_two) fits
    (λ b n. eqb-true (true_primes es b) 1 (agree_at 2 (λ a. eqb (true_primes es a) 1) (λ _. true) tried b n)) a

-- the two terms
terms_halve : Halves one_and_two Top not_one_and_two three_and_four
terms_halve = record {
  one_prime =
      one_prime_of_two (two one_and_two Top not_one_and_two three_and_four)
      (each_of_two (λ x _. IsCanonical (Node (Leaf 1) (Leaf 2)) 0 x) canonical_one_and_two canonical_not_one_and_two)
      refl;
  first_holds = (true ∷ true ∷ [], refl);
  second_holds = ([], refl);
  different = λ e. cc;
  inner = refl;
  ascending = refl;
}

-- the diagram of (1 and 2) or (3 and 4)
diagram_of_two_terms : IsDiagramOf balanced_four (Dnf ((pos 1 ∷ pos 2 ∷ []) ∷ (pos 3 ∷ pos 4 ∷ []) ∷ [])) two_terms
diagram_of_two_terms = record {
  canonical =
      canonical_halves canonical_one_and_two canonical_not_one_and_two canonical_top canonical_three_and_four
      terms_halve;
  same_value = agree_at 4 _ _ refl;
}

-- not 1 and a literal of 2
canonical_not_one_and : (positive : Bool) → IsCanonical (Node (Leaf 1) (Leaf 2)) 0 (not_one_and (Literal 2 2 positive))
canonical_not_one_and positive =
    canonical_split (omega arith) (canonical_literal positive) canonical_bottom (λ e. cc) refl refl

-- a literal of 1
canonical_one : (positive : Bool) → IsCanonical (Node (Leaf 1) (Leaf 2)) 0 (Literal 0 1 positive)
canonical_one positive = canonical_in_left refl (canonical_literal positive)

-- the cases 1, not 1 and not 2, not 1 and 2
or_and_thirds : Thirds (Literal 0 1 true) Top (not_one_and (Literal 2 2 false)) Bottom
    (not_one_and (Literal 2 2 true)) (Literal 4 3 true)
or_and_thirds = record {
  one_prime =
      one_prime_of_two
      (three (Literal 0 1 true) Top (not_one_and (Literal 2 2 false)) Bottom (not_one_and (Literal 2 2 true))
      (Literal 4 3 true))
      (each_of_three (λ x _. IsCanonical (Node (Leaf 1) (Leaf 2)) 0 x) (canonical_one true)
      (canonical_not_one_and false) (canonical_not_one_and true))
      refl;
  first_holds = (true ∷ [], refl);
  second_holds = ([], refl);
  third_holds = (false ∷ true ∷ [], refl);
  different = (((λ e. cc), ((λ e. cc), tt)), (((λ e. cc), tt), (tt, tt)));
  trimmed = refl;
  first_less = refl;
  second_less = refl;
}

-- 1 or (2 and 3)
abbrev one_or_both : Expression
one_or_both = Dnf ((pos 1 ∷ []) ∷ (pos 2 ∷ pos 3 ∷ []) ∷ [])

-- its diagram for (((1 2) 3) 4)
diagram_of_or_and : IsDiagramOf left_four one_or_both or_and
diagram_of_or_and = record {
  canonical =
      canonical_in_left refl
      (canonical_thirds (canonical_one true) (canonical_not_one_and false) (canonical_not_one_and true)
      canonical_top canonical_bottom (canonical_literal true) or_and_thirds);
  same_value = agree_at 4 _ _ refl;
}

-- 2 and 3, in the right child of (1 (2 3))
canonical_two_and_three : IsCanonical (Node (Leaf 2) (Leaf 3)) 2 two_and_three
canonical_two_and_three =
    canonical_split (omega arith) canonical_bottom (canonical_literal true) (λ e. cc) refl refl

-- its diagram for ((1 (2 3)) 4)
diagram_of_or_and_rotated : IsDiagramOf rotated_four one_or_both or_and_rotated
diagram_of_or_and_rotated = record {
  canonical =
      canonical_in_left refl (canonical_split (omega arith) canonical_two_and_three canonical_top (λ e. cc) refl refl);
  same_value = agree_at 4 _ _ refl;
}

-- 4 and 2, in the right child of (3 (4 2))
canonical_four_and_two : IsCanonical (Node (Leaf 4) (Leaf 2)) 4 four_and_two
canonical_four_and_two = canonical_split (omega arith) canonical_bottom (canonical_literal true) (λ e. cc) refl refl

-- 3 or (4 and 2)
canonical_three_or : IsCanonical (Node (Leaf 3) (Node (Leaf 4) (Leaf 2))) 2 three_or
canonical_three_or = canonical_split (omega arith) canonical_four_and_two canonical_top (λ e. cc) refl refl

-- the diagram of (1 and 3) or (2 and 4) for (1 (3 (4 2)))
diagram_of_crossed_terms : IsDiagramOf found_four (Dnf ((pos 1 ∷ pos 3 ∷ []) ∷ (pos 2 ∷ pos 4 ∷ []) ∷ []))
    crossed_terms
diagram_of_crossed_terms = record {
  canonical =
      canonical_split (omega arith) (canonical_in_right refl canonical_four_and_two) canonical_three_or (λ e. cc) refl
      refl;
  same_value = agree_at 4 _ _ refl;
}

-- 3, or neither 3 nor 4
canonical_three_or_not_four : IsCanonical (Node (Leaf 3) (Leaf 4)) 4 three_or_not_four
canonical_three_or_not_four =
    canonical_split (omega arith) (canonical_literal false) canonical_top (λ e. cc) refl refl

-- 1 and not 2
canonical_one_and_not_two : IsCanonical (Node (Leaf 1) (Leaf 2)) 0 one_and_not_two
canonical_one_and_not_two =
    canonical_split (omega arith) canonical_bottom (canonical_literal false) (λ e. cc) refl refl

-- 2, as a prime
canonical_two : IsCanonical (Node (Leaf 1) (Leaf 2)) 0 (Literal 2 2 true)
canonical_two = canonical_in_right refl (canonical_literal true)

-- the cases 2, 1 and not 2, not 1 and not 2
clauses_thirds : Thirds (Literal 2 2 true) three_or_not_four one_and_not_two Top
    (not_one_and (Literal 2 2 false)) (Literal 4 3 false)
clauses_thirds = record {
  one_prime =
      one_prime_of_two
      (three (Literal 2 2 true) three_or_not_four one_and_not_two Top (not_one_and (Literal 2 2 false))
      (Literal 4 3 false))
      (each_of_three (λ x _. IsCanonical (Node (Leaf 1) (Leaf 2)) 0 x) canonical_two canonical_one_and_not_two
      (canonical_not_one_and false))
      refl;
  first_holds = (false ∷ true ∷ [], refl);
  second_holds = (true ∷ [], refl);
  third_holds = ([], refl);
  different = (((λ e. cc), ((λ e. cc), tt)), (((λ e. cc), tt), (tt, tt)));
  trimmed = refl;
  first_less = refl;
  second_less = refl;
}

-- the diagram of (1 or 2 or not 3) and (not 2 or 3 or not 4)
diagram_of_two_clauses : IsDiagramOf balanced_four
    (Cnf (clause (pos 1 ∷ pos 2 ∷ negsuc 2 ∷ []) ∷ clause (negsuc 1 ∷ pos 3 ∷ negsuc 3 ∷ []) ∷ [])) two_clauses
diagram_of_two_clauses = record {
  canonical =
      canonical_thirds canonical_two canonical_one_and_not_two (canonical_not_one_and false)
      canonical_three_or_not_four canonical_top (canonical_in_left refl (canonical_literal false)) clauses_thirds;
  same_value = agree_at 4 _ _ refl;
}
