use Rattle.sd_apply.proofs.Listed.{answer_on}
use Rattle.sd_manager.proofs.Extending.{extends_on}
use Rattle.sd_file.proofs.Building.{answer_node, child_at, pair_answer, pair_more}
use Rattle.sd_file.proofs.builder.join.Goals as goal

-- primes and subs are earlier nodes, which are built
pub and-requires-clause-first : goal.and-requires-clause-first
and-requires-clause-first c =
    answer_node _ _ _ (child_at c.args.file.now c.args.m.now c.loop-element.m c.args.built.now c.args.index
    c.pair-prime.result.0 c.index-built-prime.result c.loop-element.invariant.kept
    (c.requires.built.prime c.loop-element.element c.pair-prime.result c.pair-prime.ensures.value) c.requires.all
    c.pair-prime.ensures.earlier.prime c.index-built-prime.is)

pub and-requires-clause-second : goal.and-requires-clause-second
and-requires-clause-second c =
    answer_node _ _ _ (child_at c.args.file.now c.args.m.now c.loop-element.m c.args.built.now c.args.index
    c.pair-prime.result.1 c.index-built-sub.result c.loop-element.invariant.kept
    (c.requires.built.sub c.loop-element.element c.pair-prime.result c.pair-prime.ensures.value) c.requires.all
    c.pair-prime.ensures.earlier.sub c.index-built-sub.is)

-- the disjunction so far stays
pub or-requires-clause-first : goal.or-requires-clause-first
or-requires-clause-first c =
    answer_node _ _ _ (answer_on _ _ c.in_ok-product.ensures.kept _ _ c.loop-element.invariant.shown)

-- a conjunction has an answer
pub or-requires-clause-second : goal.or-requires-clause-second
or-requires-clause-second c =
    let first = child_at c.args.file.now c.args.m.now c.loop-element.m c.args.built.now c.args.index
    c.pair-prime.result.0 c.index-built-prime.result c.loop-element.invariant.kept
    (c.requires.built.prime c.loop-element.element c.pair-prime.result c.pair-prime.ensures.value) c.requires.all
    c.pair-prime.ensures.earlier.prime c.index-built-prime.is in
    let second = child_at c.args.file.now c.args.m.now c.loop-element.m c.args.built.now c.args.index
    c.pair-prime.result.1 c.index-built-sub.result c.loop-element.invariant.kept
    (c.requires.built.sub c.loop-element.element c.pair-prime.result c.pair-prime.ensures.value) c.requires.all
    c.pair-prime.ensures.earlier.sub c.index-built-sub.is in
    answer_node _ _ _
    (pair_answer c.args.file.now _ _ c.pair-prime.result _ _ _ first second c.in_ok-product.ensures.ok)

-- one pair more
pub loop-element-preserved : goal.loop-element-preserved
loop-element-preserved c =
    let first = child_at c.args.file.now c.args.m.now c.loop-element.m c.args.built.now c.args.index
    c.pair-prime.result.0 c.index-built-prime.result c.loop-element.invariant.kept
    (c.requires.built.prime c.loop-element.element c.pair-prime.result c.pair-prime.ensures.value) c.requires.all
    c.pair-prime.ensures.earlier.prime c.index-built-prime.is in
    let second = child_at c.args.file.now c.args.m.now c.loop-element.m c.args.built.now c.args.index
    c.pair-prime.result.1 c.index-built-sub.result c.loop-element.invariant.kept
    (c.requires.built.sub c.loop-element.element c.pair-prime.result c.pair-prime.ensures.value) c.requires.all
    c.pair-prime.ensures.earlier.sub c.index-built-sub.is in
    let product = pair_answer c.args.file.now _ _ c.pair-prime.result _ _ _ first second c.in_ok-product.ensures.ok in
    record {
      shown = pair_more c.args.file.now _ _ _ c.args.index c.loop-element.element c.pair-prime.result _ _ _
          c.pair-prime.ensures.value c.in_ok-product.ensures.kept c.loop-element.invariant.shown product
          c.in_ok-node.ensures.ok;
      kept = extends_on _ _ _ (extends_on _ _ _ c.loop-element.invariant.kept c.in_ok-product.ensures.kept)
          c.in_ok-node.ensures.kept;
      serves = c.in_ok-node.ensures.serves;
      table = c.in_ok-node.ensures.table;
    }
