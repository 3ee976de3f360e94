use Rattle.std.proofs.Common.{◌≡◌, ◌-◌, length, get_or, arith, subst, sym}
use Rattle.sd_file.specs.Built.{AreReached, HasMarked}
use Rattle.sd_file.specs.Files.{entry_pairs}
use Rattle.sd_file.proofs.Marks.{reached_written, reached_other}
use Rattle.sd_file.proofs.builder.reached_nodes.Goals as goal

-- a marked node
pub loop-index-preserved-then-index : goal.loop-index-preserved-then-index
loop-index-preserved-then-index c =
    let f = c.args.file.now in
    let index = c.loop-index.index - 1 in
    let new = c.mark_children.new.marks in
    reached_written f index c.loop-index.index c.loop-index.reached.len c.loop-index.reached.items new
    (omega (arith, c.loop-index-test.true)) (omega arith) (omega (arith, c.loop-index.reached.ok))
    c.loop-index.invariant
    (subst (λ old. HasMarked f index (length (entry_pairs f index)) old new) c.deref_mut.ensures.value
    c.mark_children.ensures)

-- another one
pub loop-index-preserved : goal.loop-index-preserved
loop-index-preserved c =
    let marks = c.loop-index.reached.items in
    reached_other c.args.file.now (c.loop-index.index - 1) marks
    (subst (λ n. AreReached c.args.file.now n marks) (omega (arith, c.loop-index-test.true)) c.loop-index.invariant)
    (sym (subst (λ b. b ≡ get_or marks (c.loop-index.index - 1) b) c.if-index.false c.index.ensures))

-- the first node was the last to be looked at
pub returns : goal.returns
returns c =
    subst (λ n. AreReached c.args.file.now n c.loop-index.reached.items) (omega (arith, c.loop-index-test.false))
    c.loop-index.invariant
