use Rattle.std.proofs.Common.{◌≡◌, ◌⊎◌, List}
use Rattle.std.proofs.lemmas.Result.{IfOk-weaker, on_err_weaker}
use Rattle.sd_model.specs.Diagram.{Diagram}
use Rattle.sd_manager.specs.Shown.{IsPartitionAt}
use Rattle.sd_manager.specs.Making.{IsMade, HasNewNode}
use Rattle.sd_apply.specs.Growing.{GrowsByAnswer}
use Rattle.sd_apply.specs.Calls.{Joins}
use Rattle.sd_apply.proofs.Listed.{children_on}
use Rattle.sd_apply.proofs.Growing.{grows_answer, strictly_same, by_made}
use Rattle.sd_apply.proofs.Merging.{partition_at, made_joins}
use Rattle.sd_apply.proofs.making.make_apart.Goals as goal

pub make-requires-clause-partition : goal.make-requires-clause-partition
make-requires-clause-partition c =
    let h = c.requires.pairs in (
      h.shown,
      partition_at c.args.m.now c.requires.table c.args.fork.now.node c.args.fork.now.left c.args.fork.now.right
          c.requires.children c.args.pairs.now h.shown h.is.lists h.is.one_true,
    )

pub returns-clause-ok : goal.returns-clause-ok
returns-clause-ok c =
    let m = c.args.m.now in
    let n = c.make.new.self in
    let l = c.args.pairs.now in
    IfOk-weaker c.make.result
    (λ d. (ds : List (Diagram × Diagram)) → IsPartitionAt m c.args.fork.now.node l ds → IsMade n d ds)
    (λ d. Joins m n c.args.fork.now.left c.args.fork.now.right l d)
    (λ d h. made_joins m n c.args.fork.now.node c.args.fork.now.left c.args.fork.now.right l d c.requires.table
    c.requires.children h)
    c.make.ensures.ok

pub returns-clause-grown : goal.returns-clause-grown
returns-clause-grown c =
    let m = c.args.m.now in
    let n = c.make.new.self in
    grows_answer m n c.make.ensures.table.numbered c.args.fork.now.node c.args.fork.now.left c.args.fork.now.right
    c.args.pairs.now
    (children_on m n c.make.ensures.kept c.args.fork.now.node c.args.fork.now.left c.args.fork.now.right
    c.requires.children)
    c.make.result c.make.ensures.grown c.make.ensures.err

-- at the vtree node none of them but the answer

pub returns-clause-one : goal.returns-clause-one
returns-clause-one c =
    let m = c.args.m.now in
    let n = c.make.new.self in
    let p = c.args.fork.now.node in
    let l = c.args.pairs.now in
    IfOk-weaker c.make.result (λ d. (n ≡ m) ⊎ HasNewNode m n p l d) (λ d. GrowsByAnswer m n p d)
    (λ d h. by_made m n p l d h) c.make.ensures.grown

pub returns-clause-none : goal.returns-clause-none
returns-clause-none c =
    on_err_weaker c.make.result (λ same. strictly_same c.args.m.now c.make.new.self c.args.fork.now.node same)
    c.make.ensures.err
