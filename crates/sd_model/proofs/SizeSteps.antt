-- Steps of the sum of the element counts.
use Rattle.std.proofs.Common.{◌≡◌, ℕ, ◌+◌, ◌<◌, ◌^◌, List, get_or, drop, length, ap, ◌∙◌, arith}
use Rattle.std.specs.List.{fold, sum_by}
use Rattle.std.proofs.lemmas.List.Sums.{sum_by_from}
use denote.Bor.{Bor}
use Rattle.sd_model.specs.declared.diagrams.Diagram.{Diagram as OwnedDiagram}
use Rattle.sd_model.specs.Diagram.{Diagram}
use Rattle.sd_model.specs.Size.{element_count}
use Rattle.sd_model.specs.Seen.{diagram_of, diagrams_of}
use Rattle.sd_model.proofs.NodeSteps.{diagrams_of_drop}

-- the sum from an index on, added to what is summed already
abbrev pub summed : ℕ → List Diagram → ℕ
summed sum ds = fold (λ a d. a + element_count d) sum ds

-- one node more is summed
pub summed_step : (sum : ℕ) (nodes : List (Bor OwnedDiagram)) (i : ℕ) (r : Bor OwnedDiagram) → i < length nodes →
    summed sum (diagrams_of (drop i nodes))
    ≡ summed (sum + element_count (diagram_of (get_or nodes i r).now)) (diagrams_of (drop (i + 1) nodes))
summed_step sum nodes i r h = rw (diagrams_of_drop nodes i r h)

-- the whole sum is no less than a part of it, so where the part is too large the whole is
pub past_end : (sum n i : ℕ) (nodes : List (Bor OwnedDiagram)) (r : Bor OwnedDiagram) → i < length nodes →
    r ≡ get_or nodes i r → n ≡ element_count (diagram_of r.now) →
    summed sum (diagrams_of (drop i nodes)) ≡ sum_by element_count (diagrams_of nodes) →
    ¬ (sum + n < 2 ^ 64) → ¬ (sum_by element_count (diagrams_of nodes) < 2 ^ 64)
past_end sum n i nodes r h e en whole over fits =
    let step = summed_step sum nodes i r h in
    let rest = diagrams_of (drop (i + 1) nodes) in
    let from = sum_by_from element_count (sum + element_count (diagram_of (get_or nodes i r).now)) rest in
    let same : n ≡ element_count (diagram_of (get_or nodes i r).now) =
    en ∙ ap (λ x. element_count (diagram_of x.now)) e in
    over (omega arith)
