use Rattle.std.proofs.Common.{◌≡◌, ◌⊎◌, ◌∙◌, sym, ℕ, ◌*◌, ◌+◌, List, [], ◌∷◌, arith}
use Rattle.std.proofs.lemmas.Result.{IfOk-weaker, on_err_weaker}
use Rattle.sd_model.specs.Diagram.{Diagram}
use Rattle.sd_manager.specs.Shown.{IsPartitionAt}
use Rattle.sd_manager.specs.Making.{IsMade, HasNewNode}
use Rattle.sd_apply.specs.Growing.{GrowsByAnswer}
use Rattle.sd_apply.specs.Halves.{MakesHalves}
use Rattle.sd_apply.proofs.Listed.{children_on}
use Rattle.sd_apply.proofs.Growing.{grows_answer, strictly_same, by_made}
use Rattle.sd_apply.proofs.JoiningPlaces.{fork_range}
use Rattle.sd_apply.proofs.Joining.{same_made, halves_partition, halves_made}
use Rattle.sd_apply.proofs.halves.make_halves.Goals as goal

pub returns-then-first-second-clause-ok : goal.returns-then-first-second-clause-ok
returns-then-first-second-clause-ok c =
    same_made c.args.m.now c.args.split.now.right c.args.split.now.variable c.args.first c.args.second c.requires.table
    (sym c.first.view_is ∙ c.if-first-second.true ∙ c.second.view_is)

pub overflow_mul-one : goal.overflow_mul-one
overflow_mul-one c =
    omega (
      arith,
      fork_range c.args.m.now.vtree c.requires.table.numbered c.args.at c.args.split.now.left c.args.split.now.right
          c.args.split.now.variable
          c.requires.split,
    )

pub overflow_mul-other : goal.overflow_mul-other
overflow_mul-other c =
    omega (
      arith,
      fork_range c.args.m.now.vtree c.requires.table.numbered c.args.at c.args.split.now.left c.args.split.now.right
          c.args.split.now.variable
          c.requires.split,
    )

pub overflow_add-other : goal.overflow_add-other
overflow_add-other c =
    omega (
      arith,
      fork_range c.args.m.now.vtree c.requires.table.numbered c.args.at c.args.split.now.left c.args.split.now.right
          c.args.split.now.variable
          c.requires.split,
    )

pub make-requires-clause-partition : goal.make-requires-clause-partition
make-requires-clause-partition c =
    halves_partition c.args.m.now c.requires.table c.args.at c.args.split.now.left c.args.split.now.right
    c.args.split.now.variable c.args.first
    c.args.second c.requires.split c.requires.first c.requires.second

pub returns-clause-ok : goal.returns-clause-ok
returns-clause-ok c =
    let m = c.args.m.now in
    let n = c.make.new.self in
    let l : List (ℕ × ℕ) = (2 * c.args.split.now.variable, c.args.first) ∷
    (2 * c.args.split.now.variable + 1, c.args.second) ∷ [] in
    IfOk-weaker c.make.result
    (λ d. (ds : List (Diagram × Diagram)) → IsPartitionAt m c.args.at l ds → IsMade n d ds)
    (λ d. MakesHalves m n c.args.split.now.right c.args.split.now.variable c.args.first c.args.second d)
    (λ d h. halves_made m n c.requires.table c.args.at c.args.split.now.left c.args.split.now.right
    c.args.split.now.variable c.args.first
    c.args.second d c.requires.split h)
    c.make.ensures.ok

pub returns-clause-grown : goal.returns-clause-grown
returns-clause-grown c =
    let m = c.args.m.now in
    let n = c.make.new.self in
    grows_answer m n c.make.ensures.table.numbered c.args.at c.args.split.now.left c.args.split.now.right
    ((2 * c.args.split.now.variable, c.args.first) ∷ (2 * c.args.split.now.variable + 1, c.args.second) ∷ [])
    (children_on m n c.make.ensures.kept c.args.at c.args.split.now.left c.args.split.now.right
    c.requires.split.children) c.make.result
    c.make.ensures.grown c.make.ensures.err

-- at the vtree node no node is new but the answer

pub returns-clause-one : goal.returns-clause-one
returns-clause-one c =
    let m = c.args.m.now in
    let n = c.make.new.self in
    let l : List (ℕ × ℕ) = (2 * c.args.split.now.variable, c.args.first) ∷
    (2 * c.args.split.now.variable + 1, c.args.second) ∷ [] in
    IfOk-weaker c.make.result (λ d. (n ≡ m) ⊎ HasNewNode m n c.args.at l d) (λ d. GrowsByAnswer m n c.args.at d)
    (λ d h. by_made m n c.args.at l d h) c.make.ensures.grown

pub returns-clause-none : goal.returns-clause-none
returns-clause-none c =
    on_err_weaker c.make.result (λ same. strictly_same c.args.m.now c.make.new.self c.args.at same)
    c.make.ensures.err
