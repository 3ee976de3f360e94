use Rattle.std.proofs.Common.{◌≡◌, ◌+◌, suc, get_or, [], ◌∷◌, Some, sym, ap, subst, ◌∙◌, arith}
use Rattle.sd_unique.specs.declared.record.Record.{Record}
use Rattle.sd_unique.specs.declared.record.RecordState.TheVariants.{Free}
use Rattle.sd_unique.specs.Record.{nodes_of}
use Rattle.sd_unique.specs.Retiring.{AreCodesUsed, DropsCodes, HaveRetired, one_more, none_retired}
use Rattle.sd_unique.proofs.Entries.{slice_get_inside}
use Rattle.sd_unique.proofs.Hashes.{hashed_retired}
use Rattle.sd_unique.proofs.Idle.{idle_some}
use Rattle.sd_unique.proofs.Numbered.{is_nodes}
use Rattle.sd_unique.proofs.Twos.{two_of, top_run, top_key, kept_without}
use Rattle.sd_unique.proofs.Waiting.{kept_queued}
use Rattle.sd_unique.proofs.sweeping.retire_twos.Goals as goal

abbrev blank : Record
blank = record { place = 0; start = 0; length = 0; next = 0; uses = 0; mark = 0; state = Free }

pub loop-count-init : goal.loop-count-init
loop-count-init c = (c.requires.kept, none_retired)

pub slice_copy_out-record : goal.slice_copy_out-record
slice_copy_out-record c =
    let top = c.in-Some.ensures.some in slice_get_inside c.loop-count.records c.in-Some.node top.0 top.1

pub get-requires : goal.get-requires
get-requires c =
    let top = c.in-Some.ensures.some in
    top_run c.loop-count.runs c.loop-count.records c.in-Some.node top.0 top.1 top.2 blank
    c.loop-count.invariant.0.stored

pub free-requires-clause-linked : goal.free-requires-clause-linked
free-requires-clause-linked c =
    let l = c.loop-count in
    let top = c.in-Some.ensures.some in
    (idle_some l.runs l.records c.in-Some.node top.0 top.1 top.2).linked

pub free-requires-clause-kept : goal.free-requires-clause-kept
free-requires-clause-kept c =
    let l = c.loop-count in (
      c.pop_used.new.self.0,
      kept_queued l.runs l.records l.links l.heads l.places l.candidates.0 c.pop_used.new.self.0
          c.pop_used.ensures.size c.pop_used.ensures.others l.invariant.0,
    )

pub returns-in_default-clause-kept : goal.returns-in_default-clause-kept
returns-in_default-clause-kept c =
    let l = c.loop-count in
    kept_queued l.runs l.records l.links l.heads l.places l.candidates.0 c.pop_used.new.self.0 c.pop_used.ensures.size
    c.pop_used.ensures.others l.invariant.0

pub returns-in_default-get-clause-kept : goal.returns-in_default-get-clause-kept
returns-in_default-get-clause-kept c =
    let l = c.loop-count in
    kept_queued l.runs l.records l.links l.heads l.places l.candidates.0 c.pop_used.new.self.0 c.pop_used.ensures.size
    c.pop_used.ensures.others l.invariant.0

pub returns-in_default-get-2-clause-kept : goal.returns-in_default-get-2-clause-kept
returns-in_default-get-2-clause-kept c =
    let l = c.loop-count in
    kept_queued l.runs l.records l.links l.heads l.places l.candidates.0 c.pop_used.new.self.0 c.pop_used.ensures.size
    c.pop_used.ensures.others l.invariant.0

pub drop_two-requires-clause-used : goal.drop_two-requires-clause-used
drop_two-requires-clause-used c =
    let l = c.loop-count in
    let top = c.in-Some.ensures.some in
    let two = two_of c.get.result.now (omega (arith, c.in-len2.len_at_least)) (omega (arith, c.in-len2.len_below)) in
    let key = top_key l.runs l.records c.in-Some.node top.0 top.1 top.2 blank _ (c.get.ensures ∙ ap Some two) in
    let idle = idle_some l.runs l.records c.in-Some.node top.0 top.1 top.2 in
    subst (λ a. AreCodesUsed c.args.first a (get_or c.get.result.now 0 (0, 0) ∷ get_or c.get.result.now 1 (0, 0) ∷ []))
    (sym (c.free.ensures.nodes _ key))
    (c.requires.may (nodes_of l.runs l.records) l.count c.in-Some.node _ l.invariant.1 idle key)

pub drop_two-requires-clause-kept : goal.drop_two-requires-clause-kept
drop_two-requires-clause-kept c =
    let l = c.loop-count in (
      c.free.new.links,
      c.free.new.heads,
      c.free.new.places,
      kept_without c.free.new.runs c.free.new.records c.free.new.links c.free.new.heads c.free.new.places
          c.pop_used.new.self.0 c.pop_top.new.self.0 c.in-Some.node c.free.ensures.free c.pop_top.ensures.size
          c.pop_top.ensures.others
          (c.free.ensures.kept c.pop_used.new.self.0
          (kept_queued l.runs l.records l.links l.heads l.places l.candidates.0 c.pop_used.new.self.0
          c.pop_used.ensures.size c.pop_used.ensures.others l.invariant.0)),
    )

pub loop-count-preserved : goal.loop-count-preserved
loop-count-preserved c =
    let l = c.loop-count in
    let top = c.in-Some.ensures.some in
    let two = two_of c.get.result.now (omega (arith, c.in-len2.len_at_least)) (omega (arith, c.in-len2.len_below)) in
    let key = top_key l.runs l.records c.in-Some.node top.0 top.1 top.2 blank _ (c.get.ensures ∙ ap Some two) in
    let kept = c.drop_two.ensures.kept c.free.new.links c.free.new.heads c.free.new.places
    (kept_without c.free.new.runs c.free.new.records c.free.new.links c.free.new.heads c.free.new.places
    c.pop_used.new.self.0 c.pop_top.new.self.0 c.in-Some.node c.free.ensures.free c.pop_top.ensures.size
    c.pop_top.ensures.others
    (c.free.ensures.kept c.pop_used.new.self.0
    (kept_queued l.runs l.records l.links l.heads l.places l.candidates.0 c.pop_used.new.self.0
    c.pop_used.ensures.size c.pop_used.ensures.others l.invariant.0))) in
    let drops = subst (λ a. DropsCodes c.args.first a (nodes_of c.free.new.runs c.drop_two.new.records)
    (get_or c.get.result.now 0 (0, 0) ∷ get_or c.get.result.now 1 (0, 0) ∷ []))
    (c.free.ensures.nodes _ key) c.drop_two.ensures.dropped in
    let count : suc l.count ≡ l.count + 1 = omega arith in (
      kept,
      subst (HaveRetired c.args.first (nodes_of c.args.runs.now c.args.records.now)
          (nodes_of c.free.new.runs c.drop_two.new.records)) count
          (one_more l.invariant.1 (record {
            idle = idle_some l.runs l.records c.in-Some.node top.0 top.1 top.2;
            was = key;
            drops = drops;
            nodes = is_nodes kept.stored;
          })),
    )

pub returns-in_default-clause-hashed : goal.returns-in_default-clause-hashed
returns-in_default-clause-hashed c = λ hashes.
    let l = c.loop-count in
    hashed_retired hashes c.args.first (nodes_of c.args.runs.now c.args.records.now) (nodes_of l.runs l.records) l.count
    l.invariant.1

pub returns-in_default-get-clause-hashed : goal.returns-in_default-get-clause-hashed
returns-in_default-get-clause-hashed c = λ hashes.
    let l = c.loop-count in
    hashed_retired hashes c.args.first (nodes_of c.args.runs.now c.args.records.now) (nodes_of l.runs l.records) l.count
    l.invariant.1

pub returns-in_default-get-2-clause-hashed : goal.returns-in_default-get-2-clause-hashed
returns-in_default-get-2-clause-hashed c = λ hashes.
    let l = c.loop-count in
    hashed_retired hashes c.args.first (nodes_of c.args.runs.now c.args.records.now) (nodes_of l.runs l.records) l.count
    l.invariant.1

pub returns-clause-hashed : goal.returns-clause-hashed
returns-clause-hashed c = λ hashes.
    let l = c.loop-count in
    hashed_retired hashes c.args.first (nodes_of c.args.runs.now c.args.records.now) (nodes_of l.runs l.records) l.count
    l.invariant.1
