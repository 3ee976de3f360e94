use Rattle.std.proofs.Common.{sym, ◌∙◌, arith}
use Rattle.sd_unique.specs.Nodes.{key_at}
use Rattle.sd_manager.proofs.CountsKept.{unused_uncounted, none_counted}
use Rattle.sd_manager.proofs.Holding.{some_value}
use Rattle.sd_manager.proofs.recount.uncount.Goals.{then-total-eq0-via-then-total-eq0}
use Rattle.sd_manager.proofs.recount.uncount.Goals.{then-total-eq0-via-else-total-eq0+then-not-is_counted}
use Rattle.sd_manager.proofs.recount.uncount.Goals as goal

pub is_counted-requires : goal.is_counted-requires
is_counted-requires c =
    let k = some_value (key_at c.args.nodes.now c.args.number) c.requires.node in
    omega (arith, c.requires.valid.numbered c.args.number k.0 k.1, c.requires.right.1.room)

pub returns-then-total-eq0-clause-uncounted : goal.returns-then-total-eq0-clause-uncounted
returns-then-total-eq0-clause-uncounted c = λ held of unused.
    elim c.then-total-eq0.branch [
      | then-total-eq0-via-then-total-eq0 w ↦
          none_counted c.args.nodes.now held c.args.counts.now c.args.number c.requires.valid of
          (omega (arith, c.total.ensures, w.if-total-eq0.true))
      | then-total-eq0-via-else-total-eq0+then-not-is_counted w ↦ sym w.is_counted.ensures ∙ w.if-not-is_counted.true
    ]

pub returns-clause-uncounted : goal.returns-clause-uncounted
returns-clause-uncounted c = λ held of unused.
    unused_uncounted c.args.nodes.now held c.settle.new.self c.args.number (c.settle.ensures.right held of)
    c.settle.ensures.settled unused
