use Rattle.std.proofs.Common.{◌-◌, length, refl, sym, subst, arith}
use Rattle.sd_unique.specs.Chains.{next_of, head_of, heads_in, chain_in, under_by, chain_under, no_record}
use Rattle.sd_unique.specs.Chains.{AreChained}
use Rattle.sd_unique.specs.Filed.{IsFiled, unfiled}
use Rattle.sd_unique.specs.declared.record.Record.{Record}
use Rattle.sd_unique.specs.declared.record.RecordState.TheVariants.{Free}
use Rattle.sd_unique.proofs.Leaving.{left_as_is}
use Rattle.sd_unique.proofs.Numbered.{linked_inside}
use Rattle.sd_unique.proofs.Standing.{chain_inside, linked_head}
use Rattle.sd_unique.proofs.chains.leave_bucket.Goals as goal

abbrev blank : Record
blank = record { place = 0; start = 0; length = 0; next = 0; uses = 0; mark = 0; state = Free }

pub returns-then-not-buckets-clause-left : goal.returns-then-not-buckets-clause-left
returns-then-not-buckets-clause-left c =
    left_as_is c.args.buckets.stand c.args.runs.now c.args.records.now c.args.heads.now c.args.number c.if-not-buckets.true
    c.requires.linked c.requires.chained

pub bounds-buckets-number : goal.bounds-buckets-number
bounds-buckets-number c =
    omega (
      arith,
      (c.requires.hashed c.if-not-buckets.false).size,
      linked_inside c.args.runs.now c.args.records.now c.args.number c.requires.linked,
    )

pub cut-requires-clause-inside : goal.cut-requires-clause-inside
cut-requires-clause-inside c = linked_inside c.args.runs.now c.args.records.now c.args.number c.requires.linked

pub cut-requires-clause-chained : goal.cut-requires-clause-chained
cut-requires-clause-chained c = (
  chain_under c.args.runs.now (length c.args.heads.now - 1) c.args.records.now,
  linked_head c.args.runs.now c.args.records.now c.args.buckets.hashes.now c.args.number _ blank
      (length c.args.heads.now - 1) c.bucket_at-head.result c.requires.linked
      (c.requires.hashed c.if-not-buckets.false) refl c.bucket_at-head.ensures.is,
  chain_inside c.args.runs.now (length c.args.heads.now - 1) c.args.records.now,
  subst (λ b. AreChained b c.args.runs.now c.args.records.now c.args.heads.now) c.if-not-buckets.false
      c.requires.chained,
)

pub returns-clause-left : goal.returns-clause-left
returns-clause-left c =
    subst (λ b. IsFiled (next_of c.cut.new.records) no_record (head_of (heads_in b c.cut.new.heads))
    (unfiled c.args.number (under_by (chain_in b) c.args.runs.now (length c.args.heads.now - 1) c.args.records.now)))
    (sym c.if-not-buckets.false)
    (c.cut.ensures.chained (chain_under c.args.runs.now (length c.args.heads.now - 1) c.args.records.now)
    (linked_head c.args.runs.now c.args.records.now c.args.buckets.hashes.now c.args.number _ blank
    (length c.args.heads.now - 1) c.bucket_at-head.result c.requires.linked
    (c.requires.hashed c.if-not-buckets.false) refl c.bucket_at-head.ensures.is)
    (subst (λ b. AreChained b c.args.runs.now c.args.records.now c.args.heads.now) c.if-not-buckets.false
    c.requires.chained))
