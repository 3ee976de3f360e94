use Rattle.std.proofs.Common.{map, ap, ◌∙◌, arith}
use Rattle.sd_file.specs.Ranks.{codes_of}
use Rattle.sd_file.proofs.Grouping.{given_more, given_all, ranks_none, ranks_more, ranks_all}
use Rattle.sd_file.proofs.order.give_all.Goals as goal

pub loop-index-init : goal.loop-index-init
loop-index-init c = ((λ t groups table start. start), ranks_none c.args.o.now c.args.entries.now)

pub loop-index-preserved : goal.loop-index-preserved
loop-index-preserved c = (
  given_more c.args.o.now c.loop-index.o c.give.new.self c.args.position c.loop-index.index c.args.entries.now
      c.index-entries-index.result c.in_ok-list.list.items c.loop-index.invariant.0 (omega arith)
      c.index-entries-index.is
      (c.in_ok-list.ensures ∙ ap (map codes_of) c.deref.ensures.value) c.in_ok-give.ensures,
  ranks_more c.args.o.now c.loop-index.o c.give.new.self c.args.position c.loop-index.index c.args.entries.now
      c.index-entries-index.result c.in_ok-list.list.items c.loop-index.invariant.1 (omega arith)
      c.index-entries-index.is
      c.in_ok-give.ensures,
)

pub returns-clause-giving : goal.returns-clause-giving
returns-clause-giving c =
    given_all c.args.o.now c.loop-index.o c.args.position c.loop-index.index c.args.entries.now
    c.loop-index.invariant.0 (omega arith)

pub returns-clause-kept : goal.returns-clause-kept
returns-clause-kept c = c.loop-index.invariant.1.kept

pub returns-clause-given : goal.returns-clause-given
returns-clause-given c =
    ranks_all c.args.o.now c.loop-index.o c.loop-index.index c.args.entries.now c.loop-index.invariant.1
    (omega arith)
