use Rattle.std.proofs.Common.{◌+◌, ◌∙◌, length, arith, sym, ap, subst}
use Rattle.std.proofs.lemmas.List.{length_push}
use Rattle.sd_manager.proofs.Extending.{extends_on}
use Rattle.sd_file.specs.Built.{AreChildrenBuilt}
use Rattle.sd_file.proofs.Building.{built_more, built_past, children_built}
use Rattle.sd_file.proofs.builder.build_nodes.Goals as goal
use Rattle.sd_file.proofs.builder.build_nodes.Goals.{then-reached-index+in_ok-node+in_ok-push}
use Rattle.sd_file.proofs.builder.build_nodes.Goals.{else-reached-index+in_ok-push-2}

-- the primes and subs of a marked node are built
pub node_of-requires-clause-built : goal.node_of-requires-clause-built
node_of-requires-clause-built c =
    subst (AreChildrenBuilt c.loop-index.m c.args.file.now c.loop-index.index) (sym c.deref.ensures.value)
    (children_built c.args.file.now c.loop-index.m c.args.reached.now c.loop-index.built.items c.loop-index.index
    c.nodes-count.ensures.file c.requires.reached c.loop-index.invariant.built c.loop-index.invariant.all
    (omega (arith, c.loop-index-test.true, c.nodes-count.ensures.value)) c.if-reached-index.true)

-- one node more, or one without a mark
pub loop-index-preserved : goal.loop-index-preserved
loop-index-preserved c = elim c.if-reached-index.branch [
  | then-reached-index+in_ok-node+in_ok-push w ↦ rw (w.m-is, w.c-is, w.built-is) (record {
    built = built_more c.args.file.now c.loop-index.m _ c.args.reached.now c.loop-index.built.items
        w.push.new.self.items c.loop-index.index w.in_ok-node.node w.in_ok-node.ensures.kept
        c.loop-index.invariant.built c.loop-index.invariant.all (λ marked. w.in_ok-node.ensures.ok)
        w.in_ok-push.ensures.items;
    all = ap length w.in_ok-push.ensures.items ∙ length_push c.loop-index.built.items w.in_ok-node.node
        ∙ ap (λ n. n + 1) c.loop-index.invariant.all;
    kept = extends_on _ _ _ c.loop-index.invariant.kept w.in_ok-node.ensures.kept;
    serves = w.in_ok-node.ensures.serves;
    table = w.in_ok-node.ensures.table;
  })
  | else-reached-index+in_ok-push-2 w ↦ rw (w.m-is, w.c-is, w.built-is) (record {
    built = built_past c.args.file.now c.loop-index.m c.args.reached.now c.loop-index.built.items
        w.push-else-reached-index.new.self.items c.loop-index.index _ c.loop-index.invariant.built
        c.loop-index.invariant.all w.if-reached-index.false w.in_ok-push-2.ensures.items;
    all = ap length w.in_ok-push-2.ensures.items ∙ length_push c.loop-index.built.items _
        ∙ ap (λ n. n + 1) c.loop-index.invariant.all;
    kept = c.loop-index.invariant.kept;
    serves = c.loop-index.invariant.serves;
    table = c.loop-index.invariant.table;
  })
]
