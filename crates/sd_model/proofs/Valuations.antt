-- An output of a circuit is true just where it is true in every valuation of the text.
use Rattle.std.proofs.Common.{◌≡◌, ◌↔◌, ℕ, zero, suc, Bool, true, false, not, ◌&&◌, ◌||◌, List, [], ◌∷◌, ◌++◌, length}
use Rattle.std.proofs.Common.{refl, arith, inl, inr}
use Rattle.std.specs.List.{list_all, flat_map}
use Rattle.std.proofs.lemmas.Bool.{cases_Bool}
use Rattle.sd_model.specs.Circuit.{Circuit, wire_holds, is_valuation, all_lists, output_literal, circuit_output}

-- a list and one that is longer by a value
abbrev both : List Bool → List (List Bool)
both values = (false ∷ values) ∷ (true ∷ values) ∷ []

-- a test that all of the longer lists pass, for one shorter list
abbrev passes_both : (List Bool → Bool) → List Bool → Bool
passes_both test values = test (false ∷ values) && test (true ∷ values)

-- what all longer lists pass, each pair of them passes
all_longer : (test : List Bool → Bool) (lists : List (List Bool))
    → list_all test (flat_map both lists) ≡ list_all (passes_both test) lists
all_longer test [] = refl
all_longer test (values ∷ lists) =
    go (test (false ∷ values)) (test (true ∷ values)) (all_longer test lists)
  where
    go : (b c : Bool) → list_all test (flat_map both lists) ≡ list_all (passes_both test) lists
        → (b && (c && list_all test (flat_map both lists))) ≡ ((b && c) && list_all (passes_both test) lists)
    go false c same = refl
    go true false same = refl
    go true true same = same

-- a test that all lists of n values pass is passed by each
pub all_lists_each : (test : List Bool → Bool) (n : ℕ) → list_all test (all_lists n) ≡ true
    → (values : List Bool) → length values ≡ n → test values ≡ true
all_lists_each test zero all [] e = go (test []) all
  where
    go : (b : Bool) → (b && true) ≡ true → b ≡ true
    go true h = refl
    go false h = h
all_lists_each test zero all (b ∷ values) e = absurd (omega (arith, e))
all_lists_each test (suc n) all [] e = absurd (omega (arith, e))
all_lists_each test (suc n) all (b ∷ values) e =
    let shorter = rw all_longer at all in
    pick b (all_lists_each (passes_both test) n shorter values (omega (arith, e)))
  where
    pick : (b : Bool) → passes_both test values ≡ true → test (b ∷ values) ≡ true
    pick false h = first (test (false ∷ values)) (test (true ∷ values)) h
      where
        first : (x y : Bool) → (x && y) ≡ true → x ≡ true
        first true y h = refl
        first false y h = h
    pick true h = second (test (false ∷ values)) (test (true ∷ values)) h
      where
        second : (x y : Bool) → (x && y) ≡ true → y ≡ true
        second true y h = h
        second false y h = absurd cc

-- and a test that each list of n values passes, all do
pub each_all_lists : (test : List Bool → Bool) (n : ℕ)
    → ((values : List Bool) → length values ≡ n → test values ≡ true) → list_all test (all_lists n) ≡ true
each_all_lists test zero each = rw (each [] refl) refl
each_all_lists test (suc n) each =
    rw all_longer (each_all_lists (passes_both test) n (λ values e.
    rw (each (false ∷ values) (omega (arith, e)), each (true ∷ values) (omega (arith, e))) refl))

-- an output is true just where it is in every valuation
pub in_every_valuation : (c : Circuit) (output : ℕ) (a : List Bool) → (circuit_output c output a ≡ true)
    ↔ ((values : List Bool) → length values ≡ c.variables → is_valuation c a values ≡ true
    → wire_holds values (output_literal c output) ≡ true)
unfolding circuit_output
in_every_valuation c output a = (
  λ all values e fits. forth (is_valuation c a values) _ fits (all_lists_each _ c.variables all values e),
  λ each. each_all_lists _ c.variables (λ values e. back (is_valuation c a values) _ (each values e)),
)
  where
    forth : (fits holds : Bool) → fits ≡ true → (not fits || holds) ≡ true → holds ≡ true
    forth true holds is h = h
    forth false holds is h = absurd cc

    back : (fits holds : Bool) → (fits ≡ true → holds ≡ true) → (not fits || holds) ≡ true
    back true holds h = h refl
    back false holds h = refl
