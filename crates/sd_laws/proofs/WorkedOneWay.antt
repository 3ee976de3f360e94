-- The diagram of `1 or 2` for the vtree over these two is canonical.
use Rattle.std.proofs.Common.{◌≡◌, suc, Bool, true, false, cond, not, List, [], ◌∷◌, refl, sym, subst, arith}
use Rattle.std.specs.List.Sorted.{IsStrictlySortedBy}
use Rattle.sd_model.specs.Assignment.{value_in}
use Rattle.sd_model.specs.Tree.{Leaf, Node}
use Rattle.sd_model.specs.Diagram.{Diagram, Top, Literal, Decomposition, Elements, End, Pair, primes, meaning}
use Rattle.sd_model.specs.Diagram.{diagram_cmp}
use Rattle.sd_model.specs.Canonical.{IsElement, first, later, IsCanonical}
use Rattle.sd_model.specs.Canonical.{canonical_top, canonical_literal, canonical_decomposition}
use Rattle.sd_laws.specs.Parts.{IsCanonicalForSome}

-- where 1 fails the value is that of 2, and else true
abbrev cases_of_one : Elements
cases_of_one = Pair (Literal 0 1 false) (Literal 2 2 true) (Pair (Literal 0 1 true) Top End)

-- the primes are literals of 1
prime_fits : (p s : Diagram) → IsElement p s cases_of_one → IsCanonical (Leaf 1) 0 p
prime_fits p s first = canonical_literal false
prime_fits p s (later first) = canonical_literal true
prime_fits p s (later (later m)) = elim m [ ]

-- the subs are the literal of 2, and true
sub_fits : (p s : Diagram) → IsElement p s cases_of_one → IsCanonical (Leaf 2) 2 s
sub_fits p s first = canonical_literal true
sub_fits p s (later first) = canonical_top
sub_fits p s (later (later m)) = elim m [ ]

-- each prime holds somewhere
prime_holds : (p s : Diagram) → IsElement p s cases_of_one → (a : List Bool) × (meaning p a ≡ true)
prime_holds p s first = ([], refl)
prime_holds p s (later first) = (true ∷ [], refl)
prime_holds p s (later (later m)) = elim m [ ]

-- and one of them at each assignment
one_holds : (b : Bool) → cond (not b) (suc (cond b 1 0)) (cond b 1 0) ≡ 1
one_holds true = refl
one_holds false = refl

-- the primes ascend
primes_ascend : IsStrictlySortedBy diagram_cmp (primes cases_of_one)
unfolding IsStrictlySortedBy
primes_ascend = ((refl, tt), (tt, tt))

-- so the diagram is canonical
canonical_cases : IsCanonical (Node (Leaf 1) (Leaf 2)) 0 (Decomposition 1 cases_of_one)
canonical_cases =
    canonical_decomposition prime_fits sub_fits
    (record {
      several = omega arith;
      one_prime = λ a. one_holds (value_in a 1);
      no_false_prime = prime_holds;
      compressed = (((λ e. cc), tt), (tt, tt));
      trimmed = refl;
      ascending = primes_ascend;
    })

-- also where it is seen of the code
pub canonical_or : (d : Diagram) → d ≡ Decomposition 1 cases_of_one → IsCanonicalForSome d
canonical_or d e = subst IsCanonicalForSome (sym e) (Node (Leaf 1) (Leaf 2), 0, canonical_cases)
