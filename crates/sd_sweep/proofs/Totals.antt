-- Listed nodes show the distinct diagrams, and the sum of their element counts is the size.
use Rattle.std.proofs.Common.{◌≡◌, ◌≢◌, inl, inr, ℕ, true, List, [], ◌∷◌, refl, sym, subst, ◌∙◌, arith}
use Rattle.std.specs.FinMap.{get}
use Rattle.std.specs.List.{AllZip, filter, sum_by, flat_map}
use Rattle.std.proofs.lemmas.List.Sorted.{sum_by-IsPermutation}
use Rattle.std.proofs.lemmas.List.Sums.{sum_by-cons}
use Rattle.sd_model.specs.Tree.{AreDistinct}
use Rattle.sd_model.specs.Diagram.{Diagram, Bottom, Top, Literal, Decomposition}
use Rattle.sd_model.specs.Canonical.{AreDifferent}
use Rattle.sd_model.specs.Size.{walk, completed, element_count, size_of}
use Rattle.sd_laws.proofs.Codes.{one_code}
use Rattle.sd_laws.proofs.Lists.{IsAmong, IsWithin, all_at, all_from, first_at}
use Rattle.sd_manager.specs.Table.{Table}
use Rattle.sd_manager.specs.Shown.{Shows, ShowsCanonical}
use Rattle.sd_manager.specs.Valid.{IsTable}
use Rattle.sd_sweep.proofs.Orders.{is_decomposition, decompositions_permutation}

-- the diagrams that codes show, in the order of the codes
pub record HasDiagrams (t : Table) (codes : List ℕ) (ds : List Diagram) : Type 0 where
  pub diagrams : List Diagram
  pub shown : AllZip (ShowsCanonical t) codes diagrams
  pub within : IsWithin diagrams ds

pub has_diagrams : (t : Table) (codes : List ℕ) (ds : List Diagram) →
    ((c : ℕ) → IsAmong c codes → (d : Diagram) × IsAmong d ds × ShowsCanonical t c d) → HasDiagrams t codes ds
has_diagrams t [] ds h = record { diagrams = []; shown = tt; within = λ x m. absurd m }
has_diagrams t (c ∷ codes) ds h =
    let k = h c (inl refl) in
    let r = has_diagrams t codes ds (λ b m. h b (inr m)) in
    record { diagrams = k.0 ∷ r.diagrams; shown = (k.2, r.shown); within = within k.0 r.diagrams k.1 r.within }
  where
    within : (d : Diagram) (xs : List Diagram) → IsAmong d ds → IsWithin xs ds → IsWithin (d ∷ xs) ds
    within d xs m w x (inl e) = subst (λ z. IsAmong z ds) (sym e) m
    within d xs m w x (inr n) = w x n

-- different codes show different diagrams
pub diagrams_differ : (t : Table) → IsTable t → (codes : List ℕ) (ds : List Diagram) → AllZip (ShowsCanonical t)
    codes ds →
    AreDistinct codes → AreDifferent ds
diagrams_differ t table [] [] h k = tt
diagrams_differ t table [] (d ∷ ds) h k = absurd h
diagrams_differ t table (c ∷ codes) [] h k = absurd h
diagrams_differ t table (c ∷ codes) (d ∷ ds) h k = (
  all_from (λ e. d ≢ e) ds differs,
  diagrams_differ t table codes ds h.1 k.1,
)
  where
    differs : (x : Diagram) → IsAmong x ds → d ≢ x
    differs x m e =
        let b = first_at (ShowsCanonical t) codes ds h.1 x m in
        let code : c ≡ b.0 =
        one_code t.vtree (get t.linked) table.keys x c b.0 (subst (Shows t c) e h.0.shows) b.2.shows in
        all_at (λ y. c ≢ y) codes b.0 k.0 b.1 code

-- what is no decomposition has no elements
elements_decomposed : (xs : List Diagram) →
    sum_by element_count (filter is_decomposition xs) ≡ sum_by element_count xs
elements_decomposed [] = refl
elements_decomposed (Bottom ∷ xs) = omega (arith, elements_decomposed xs, sum_by-cons element_count Bottom xs)
elements_decomposed (Top ∷ xs) = omega (arith, elements_decomposed xs, sum_by-cons element_count Top xs)
elements_decomposed (Literal p v s ∷ xs) =
    omega (arith, elements_decomposed xs, sum_by-cons element_count (Literal p v s) xs)
elements_decomposed (Decomposition p es ∷ xs) =
    omega (
      arith,
      elements_decomposed xs,
      sum_by-cons element_count (Decomposition p es) xs,
      sum_by-cons element_count (Decomposition p es) (filter is_decomposition xs),
    )

-- Different decompositions that are all of those under some diagrams have the elements of the size together.
pub size_of_decompositions : (ds es : List Diagram) (n : ℕ) → AreDifferent es → IsWithin es (flat_map walk ds) →
    ((x : Diagram) → IsAmong x es → is_decomposition x ≡ true) →
    ((x : Diagram) → IsAmong x (flat_map walk ds) → is_decomposition x ≡ true → IsAmong x es) →
    n ≡ sum_by element_count es → n ≡ size_of ds
unfolding size_of
size_of_decompositions ds es n h there each back e =
    e ∙ sum_by-IsPermutation element_count (filter is_decomposition (completed ds)) es
    (decompositions_permutation ds es h there each back) ∙ elements_decomposed (completed ds)
