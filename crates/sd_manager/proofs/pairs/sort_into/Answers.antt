use Rattle.std.proofs.Common.{ℕ, List, subst, ◌∙◌, arith}
use Rattle.std.proofs.lemmas.List.{take_all}
use Rattle.std.specs.List.Sorted.{IsPermutation}
use Rattle.sd_manager.proofs.pairs.sort_into.Goals as goal

pub returns-clause-permutation : goal.returns-clause-permutation
returns-clause-permutation c =
    let Moved : List (ℕ × ℕ) → Type 0 = λ l. IsPermutation l c.sort.new.list.items in
    subst Moved (c.loop-element.invariant ∙ take_all c.loop-element.element-index c.args.elements.now (omega arith))
    c.sort.ensures.permutation
