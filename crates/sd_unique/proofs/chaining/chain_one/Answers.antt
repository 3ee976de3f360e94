use Rattle.std.proofs.Common.{◌≡◌, ◌-◌, ◌<◌, ◌≤◌, ◌⊎◌, ℕ, suc, get_or, length, Some}
use Rattle.std.proofs.Common.{refl, sym, ap, subst, ◌∙◌, arith}
use Rattle.std.proofs.Math.ListN.{set}
use Rattle.std.proofs.lemmas.List.{length-set}
use Rattle.sd_unique.specs.Chains.{bucket_of, chain_by, no_record}
use Rattle.sd_unique.specs.Record.{key_of}
use Rattle.sd_unique.specs.Rechaining.{IsRechained}
use Rattle.sd_unique.specs.declared.record.Record.{Record}
use Rattle.sd_unique.specs.declared.record.RecordState.TheVariants.{Free}
use Rattle.sd_unique.proofs.Cutting.{next_kept}
use Rattle.sd_unique.proofs.Entries.{slice_get_at}
use Rattle.sd_unique.proofs.Rechaining.{one_down, rechained_next}
use Rattle.sd_unique.proofs.Reading.{get_or_any}
use Rattle.sd_unique.proofs.Standing.{linked_key_is}
use Rattle.sd_unique.proofs.chaining.chain_one.Goals as goal
use Rattle.sd_unique.proofs.chaining.chain_one.Goals.{in-Free, in-Linked}

abbrev blank : Record
blank = record { place = 0; start = 0; length = 0; next = 0; uses = 0; mark = 0; state = Free }

pub bounds-hashes-number : goal.bounds-hashes-number
bounds-hashes-number c = omega (arith, c.requires.inside, c.requires.hashed.size)

pub returns-clause-kept : goal.returns-clause-kept
returns-clause-kept c =
    let r : Record = get_or c.args.records.now c.args.number blank in
    next_kept c.args.records.now c.args.number r _ (slice_get_at c.args.records.now c.args.number blank
    c.requires.inside) refl refl refl refl refl refl

pub returns-clause-chained : goal.returns-clause-chained
returns-clause-chained c =
    let count : ℕ = length c.args.heads.now - 1 in
    let head : ℕ = c.match-record.head in
    let r : Record = get_or c.args.records.now c.args.number blank in
    let t : Record = record r { next = get_or c.args.heads.now head 0 } in
    let before = λ (n : ℕ). (n < c.args.part.0) ⊎ ((c.args.number < n) × (n < c.args.part.1)) in
    let after = λ (n : ℕ). (n < c.args.part.0) ⊎ ((c.args.number ≤ n) × (n < c.args.part.1)) in
    let there = slice_get_at c.args.records.now c.args.number blank c.requires.inside in
    let goes : (chain_by r.state (bucket_of (key_of c.args.runs.now r) count) ≡ Some head)
    × (head < length c.args.heads.now) =
    elim c.match-record.branch [
      | in-Free w ↦ (
        ap (λ s. chain_by s (bucket_of (key_of c.args.runs.now r) count)) w.in-Free.is
            ∙ ap Some (omega (arith, w.head-is)),
        omega (arith, w.head-is, c.requires.at_least_one),
      )
      | in-Linked w ↦ (
        ap (λ s. chain_by s (bucket_of (key_of c.args.runs.now r) count)) w.in-Linked.is
            ∙ ap (λ b. Some (suc b)) (sym (w.bucket_at.ensures.is (key_of c.args.runs.now r)
            (c.requires.hashed.linked c.args.number (key_of c.args.runs.now r)
            (linked_key_is c.args.runs.now c.args.records.now c.args.number r there w.in-Linked.is))))
            ∙ ap Some (omega (arith, w.head-is)),
        omega (arith, w.head-is, w.bucket_at.ensures.inside, c.requires.at_least_one),
      )
    ] in
    subst (λ n. IsRechained c.args.runs.now (n - 1) after
    (set c.args.records.now c.args.number t) (set c.args.heads.now head c.args.number))
    (sym (length-set c.args.heads.now head c.args.number))
    (rechained_next c.args.runs.now c.args.records.now before after count c.args.number head c.args.heads.now r t
    (one_down c.args.part.0 c.args.part.1 c.args.number c.requires.from c.requires.before) there goes.0 goes.1
    (get_or_any c.args.heads.now head 0 no_record goes.1)
    (λ e. omega (
      arith,
      e,
      c.requires.inside,
      c.requires.stored.within_limit,
      c.requires.stored.well.bounded,
      c.requires.stored.bound_fits,
    ))
    c.requires.chained)
