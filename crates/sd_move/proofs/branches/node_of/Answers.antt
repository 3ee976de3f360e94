use Rattle.std.proofs.Common.{Bool, List}
use Rattle.std.proofs.lemmas.Result.{IfOk-weaker}
use Rattle.sd_model.specs.Diagram.{Diagram}
use Rattle.sd_manager.specs.Shown.{IsPartitionAt}
use Rattle.sd_manager.specs.Making.{IsMade}
use Rattle.sd_manager.proofs.Extending.{extends_on}
use Rattle.sd_apply.specs.Partitions.{IsPartitionOf}
use Rattle.sd_apply.proofs.Growing.{grows_answer, grows_both}
use Rattle.sd_apply.proofs.Listed.{children_on}
use Rattle.sd_apply.proofs.RightEntries.{knows_on}
use Rattle.sd_apply.proofs.Tried.{listed_slice}
use Rattle.sd_move.specs.Branches.{ShowsBelow}
use Rattle.sd_move.proofs.Branching.{node_shown, strictly_grows}
use Rattle.sd_move.proofs.branches.node_of.Goals as goal

pub merge_at-requires-clause-partition : goal.merge_at-requires-clause-partition
merge_at-requires-clause-partition c =
    let p = c.requires.partition.1 in
    (p.diagrams, p.is)

pub make-requires-clause-partition : goal.make-requires-clause-partition
make-requires-clause-partition c =
    let f = c.requires.partition.0 in
    let p = listed_slice c.merge_at.new.m c.args.place c.in_ok-merged.merged.items c.as_slice.result.now f
    (c.in_ok-merged.ensures.ok.each f c.requires.partition.1) c.as_slice.ensures in
    (p.diagrams, p.is)

pub returns-clause-ok : goal.returns-clause-ok
returns-clause-ok c =
    let m = c.args.m.now in
    let n = c.merge_at.new.m in
    let o = c.make.new.self in
    let p = c.args.place in
    let k = c.as_slice.result.now in
    let r = c.requires.place in
    IfOk-weaker c.make.result
    (λ d. (ds : List (Diagram × Diagram)) → IsPartitionAt n p k ds → IsMade o d ds)
    (λ d. (f : List Bool → Bool) → IsPartitionOf m p c.args.pairs.now f → ShowsBelow o p d f)
    (λ d h f part. node_shown n o c.merge_at.ensures.table c.make.ensures.table c.make.ensures.kept p r.left r.right
    (children_on m n c.merge_at.ensures.kept p r.left r.right r.children) k d f
    (listed_slice n p c.in_ok-merged.merged.items k f (c.in_ok-merged.ensures.ok.each f part) c.as_slice.ensures) h)
    c.make.ensures.ok

pub returns-clause-kept : goal.returns-clause-kept
returns-clause-kept c =
    extends_on c.args.m.now c.merge_at.new.m c.make.new.self c.merge_at.ensures.kept c.make.ensures.kept

pub returns-clause-grown : goal.returns-clause-grown
returns-clause-grown c =
    let m = c.args.m.now in
    let n = c.merge_at.new.m in
    let o = c.make.new.self in
    let p = c.args.place in
    let r = c.requires.place in
    grows_both m n o p c.make.ensures.kept (strictly_grows m n c.merge_at.ensures.table p c.merge_at.ensures.grown)
    (grows_answer n o c.make.ensures.table.numbered p r.left r.right c.as_slice.result.now
    (children_on n o c.make.ensures.kept p r.left r.right
    (children_on m n c.merge_at.ensures.kept p r.left r.right r.children))
    c.make.result c.make.ensures.grown c.make.ensures.err)

pub returns-clause-knows : goal.returns-clause-knows
returns-clause-knows c =
    knows_on c.merge_at.new.recent c.merge_at.new.m c.make.new.self c.make.ensures.kept c.merge_at.ensures.knows

pub returns-in_err-merged-clause-grown : goal.returns-in_err-merged-clause-grown
returns-in_err-merged-clause-grown c =
    strictly_grows c.args.m.now c.merge_at.new.m c.merge_at.ensures.table c.args.place c.merge_at.ensures.grown
