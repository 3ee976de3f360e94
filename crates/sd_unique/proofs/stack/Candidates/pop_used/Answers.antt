use Rattle.std.proofs.Common.{◌-◌, false, get_or, sym, subst, arith}
use Rattle.std.proofs.Math.ListN.{set}
use Rattle.sd_unique.specs.declared.record.Record.{Record}
use Rattle.sd_unique.specs.declared.record.RecordState.TheVariants.{Free}
use Rattle.sd_unique.proofs.Entries.{slice_get_at}
use Rattle.sd_unique.proofs.Waiting.{AreLeft, left_inside, left_popped, none_wait}
use Rattle.sd_unique.proofs.stack.Candidates.pop_used.Goals as goal

abbrev blank : Record
blank = record { place = 0; start = 0; length = 0; next = 0; uses = 0; mark = 0; state = Free }

pub bounds-records-top : goal.bounds-records-top
bounds-records-top c =
    left_inside c.args.records.now c.self.inside.waits.items c.loop-self.self-inside.waits.items
    c.loop-self.self-inside.numbers.items c.loop-self.self-inside.numbers.cap c.loop-self.invariant
    (omega (arith, c.loop-self-test.true)) (c.len-in-loop-self.result - 1) c.index-top.result.now (omega arith)
    c.index-top.ensures

pub returns-then-is_unused-clause-some : goal.returns-then-is_unused-clause-some
returns-then-is_unused-clause-some c = (
  get_or c.args.records.now c.index-top.result.now blank,
  slice_get_at c.args.records.now c.index-top.result.now blank
      (left_inside c.args.records.now c.self.inside.waits.items c.loop-self.self-inside.waits.items
      c.loop-self.self-inside.numbers.items c.loop-self.self-inside.numbers.cap c.loop-self.invariant
      (omega (arith, c.loop-self-test.true)) (c.len-in-loop-self.result - 1) c.index-top.result.now (omega arith)
      c.index-top.ensures),
  c.if-is_unused.ensures,
)

pub index_mut-requires : goal.index_mut-requires
index_mut-requires c =
    omega (
      arith,
      left_inside c.args.records.now c.self.inside.waits.items c.loop-self.self-inside.waits.items
          c.loop-self.self-inside.numbers.items c.loop-self.self-inside.numbers.cap c.loop-self.invariant
          (omega (arith, c.loop-self-test.true)) (c.len-in-loop-self.result - 1) c.index-top.result.now (omega arith)
          c.index-top.ensures,
      c.loop-self.invariant.size,
    )

pub loop-self-preserved : goal.loop-self-preserved
loop-self-preserved c =
    subst (AreLeft c.args.records.now c.self.inside.waits.items
    (set c.loop-self.self-inside.waits.items c.index-top.result.now false) c.take_last.new.self.items)
    (sym c.take_last.ensures.capacity)
    (left_popped c.args.records.now c.self.inside.waits.items c.loop-self.self-inside.waits.items
    c.loop-self.self-inside.numbers.items c.loop-self.self-inside.numbers.cap c.loop-self.invariant
    (omega (arith, c.loop-self-test.true)) (c.len-in-loop-self.result - 1) c.index-top.result.now (omega arith)
    c.index-top.ensures (get_or c.args.records.now c.index-top.result.now blank)
    (slice_get_at c.args.records.now c.index-top.result.now blank
    (left_inside c.args.records.now c.self.inside.waits.items c.loop-self.self-inside.waits.items
    c.loop-self.self-inside.numbers.items c.loop-self.self-inside.numbers.cap c.loop-self.invariant
    (omega (arith, c.loop-self-test.true)) (c.len-in-loop-self.result - 1) c.index-top.result.now (omega arith)
    c.index-top.ensures))
    c.if-is_unused.ensures c.take_last.new.self.items c.take_last.result c.take_last.ensures.items)

pub returns-clause-none : goal.returns-clause-none
returns-clause-none c =
    none_wait c.loop-self.self-inside.waits.items
    (omega (arith, c.loop-self.invariant.stack.counted, c.loop-self-test.false))
