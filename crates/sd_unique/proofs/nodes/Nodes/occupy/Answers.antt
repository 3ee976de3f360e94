use Rattle.std.proofs.Common.{◌≡◌, ◌+◌, ◌-◌, bit_and, ℕ, List, Some, unwrap_or, [], length, refl}
use Rattle.std.proofs.Common.{sym, ap, subst}
use Rattle.std.proofs.Common.{◌∙◌, arith}
use Rattle.std.specs.FinMap.{get}
use Rattle.sd_unique.specs.Chains.{bucket_of, hash_of, list_under, AreHashed, AreListed}
use Rattle.sd_unique.specs.Occupying.{IsFreeNumber, occupied}
use Rattle.sd_unique.specs.Relinking.{IsAbsent, IsLoose}
use Rattle.sd_unique.specs.declared.record.Record.{Record}
use Rattle.sd_unique.specs.declared.record.RecordState.TheVariants.{Linked}
use Rattle.sd_unique.proofs.Listed.{link_read}
use Rattle.sd_unique.proofs.Numbered.{is_nodes}
use Rattle.sd_unique.proofs.Occupied.{first_some, first_inside, first_linked, first_number, first_ready}
use Rattle.sd_unique.proofs.Occupied.{first_unlisted, kept_fields, kept_steps, nodes_steps}
use Rattle.sd_unique.proofs.Reading.{whole_slice}
use Rattle.sd_unique.specs.Nodes.{IsNodes}
use Rattle.sd_unique.proofs.Hashes.{hashed_put}
use Rattle.sd_unique.proofs.nodes.Nodes.occupy.Goals as goal

pub index-requires : goal.index-requires
index-requires c =
    omega (
      arith,
      first_inside c.self.inside.runs c.self.inside.records.items c.self.inside.links.items
          c.self.inside.heads.items c.self.inside.places.items c.self.inside.candidates.0 c.self.invariant.0
          c.index-number.result.now c.index-number.ensures
          (subst (λ a. (m : ℕ) × IsFreeNumber a m) (sym c.self.view_is) c.requires.free),
    )

pub index_mut-requires-2 : goal.index_mut-requires-2
index_mut-requires-2 c =
    omega (
      arith,
      first_inside c.self.inside.runs c.self.inside.records.items c.self.inside.links.items
          c.self.inside.heads.items c.self.inside.places.items c.self.inside.candidates.0 c.self.invariant.0
          c.index-number.result.now c.index-number.ensures
          (subst (λ a. (m : ℕ) × IsFreeNumber a m) (sym c.self.view_is) c.requires.free),
    )

pub index_mut-requires-4 : goal.index_mut-requires-4
index_mut-requires-4 c =
    omega (
      arith,
      c.self.invariant.1.size,
      first_inside c.self.inside.runs c.self.inside.records.items c.self.inside.links.items
          c.self.inside.heads.items c.self.inside.places.items c.self.inside.candidates.0 c.self.invariant.0
          c.index-number.result.now c.index-number.ensures
          (subst (λ a. (m : ℕ) × IsFreeNumber a m) (sym c.self.view_is) c.requires.free),
    )

pub put_first-requires-clause-inside : goal.put_first-requires-clause-inside
put_first-requires-clause-inside c = λ some.
    omega (
      arith,
      ap length c.deref_mut.ensures.value,
      first_linked c.self.inside.runs c.self.inside.records.items c.self.inside.links.items
          c.self.inside.heads.items c.self.inside.places.items c.self.inside.candidates.0 c.self.invariant.0
          c.index-number.result.now c.index-number.ensures
          (subst (λ a. (m : ℕ) × IsFreeNumber a m) (sym c.self.view_is) c.requires.free)
          (omega (arith, some, ap length c.deref_mut-2.ensures.value)),
    )

pub put_first-requires-clause-at_least_one : goal.put_first-requires-clause-at_least_one
put_first-requires-clause-at_least_one c =
    first_some c.self.inside.runs c.self.inside.records.items c.self.inside.links.items
    c.self.inside.heads.items c.self.inside.places.items c.self.inside.candidates.0 c.self.invariant.0
    c.index-number.result.now c.index-number.ensures
    (subst (λ a. (m : ℕ) × IsFreeNumber a m) (sym c.self.view_is) c.requires.free)

pub put_first-requires-clause-listed : goal.put_first-requires-clause-listed
put_first-requires-clause-listed c =
    let ready = first_ready c.self.inside.runs c.self.inside.records.items c.self.inside.links.items
    c.self.inside.heads.items c.self.inside.places.items c.self.inside.candidates.0 c.self.invariant.0
    c.index-number.result.now c.index-number.ensures
    (subst (λ a. (m : ℕ) × IsFreeNumber a m) (sym c.self.view_is) c.requires.free) in (
      ready.0,
      ready.1,
      λ some n b e. omega (
        arith,
        ap length c.deref_mut.ensures.value,
        ready.2 (omega (arith, some, ap length c.deref_mut-2.ensures.value)) n b e,
      ),
      subst (λ l. AreListed l c.deref_mut-2.result.now ready.0) (sym c.deref_mut.ensures.value)
          (subst (λ p. AreListed c.self.inside.links.items p ready.0) (sym c.deref_mut-2.ensures.value) ready.3),
    )

pub push-requires : goal.push-requires
push-requires c = record {
  inside = omega (
    arith,
    c.self.invariant.0.flags_all,
    first_inside c.self.inside.runs c.self.inside.records.items c.self.inside.links.items
        c.self.inside.heads.items c.self.inside.places.items c.self.inside.candidates.0 c.self.invariant.0
        c.index-number.result.now c.index-number.ensures
        (subst (λ a. (m : ℕ) × IsFreeNumber a m) (sym c.self.view_is) c.requires.free),
  );
}

pub returns-clause-number : goal.returns-clause-number
returns-clause-number c =
    subst (λ a. IsFreeNumber a c.index-number.result.now) c.self.view_is
    (first_number c.self.inside.runs c.self.inside.records.items c.self.inside.links.items
    c.self.inside.heads.items c.self.inside.places.items c.self.inside.candidates.0 c.self.invariant.0
    c.index-number.result.now c.index-number.ensures
    (subst (λ a. (m : ℕ) × IsFreeNumber a m) (sym c.self.view_is) c.requires.free))

pub returns-clause-ok : goal.returns-clause-ok
returns-clause-ok c = λ list loose.
    let asked = subst (λ a. (list : List (ℕ × ℕ)) × IsLoose a c.args.run.0 c.args.run.1 list
    × (c.args.hash ≡ hash_of (c.args.place, list)) × IsAbsent a (c.args.place, list)) (sym c.self.view_is)
    c.requires.run in
    let is : Some asked.0 ≡ Some list = sym asked.1.is ∙ ap (λ a. get a.loose c.args.run.0) c.self.view_is ∙ loose.is
    in
    nodes_steps c.self.inside.runs c.self.inside.records.items c.self.inside.links.items
    c.self.inside.heads.items c.self.inside.places.items c.self.inside.candidates.0 c.self.invariant.0
    c.index-number.result.now c.index-number.ensures
    (subst (λ a. (m : ℕ) × IsFreeNumber a m) (sym c.self.view_is) c.requires.free)
    (record {
      place = c.args.place;
      start = c.args.run.0;
      length = c.args.run.1;
      next = c.index-2.result.now;
      uses = 0;
      mark = 0;
      state = Linked;
    }) asked.0 refl asked.1 asked.3 refl refl
    ∙ ap (λ a. occupied a c.index-number.result.now c.args.place c.args.run.0 asked.0) c.self.view_is
    ∙ ap (λ o. occupied c.args.self.now c.index-number.result.now c.args.place c.args.run.0 (unwrap_or o [])) is

pub invariant_of-self : goal.invariant_of-self
invariant_of-self c = (
  let places = whole_slice c.put_first.new.places c.self.inside.places.items c.self.inside.places.len
      (c.put_first.auto.places ∙ c.deref_mut-2.ensures.len) in
      let links = whole_slice c.put_first.new.links c.self.inside.links.items c.self.inside.links.len
      (c.put_first.auto.links ∙ c.deref_mut.ensures.len) in
      let unlisted = first_unlisted c.self.inside.runs c.self.inside.records.items c.self.inside.links.items
      c.self.inside.heads.items c.self.inside.places.items c.self.inside.candidates.0 c.self.invariant.0
      c.index-number.result.now c.index-number.ensures
      (subst (λ a. (m : ℕ) × IsFreeNumber a m) (sym c.self.view_is) c.requires.free) in
      let inside = first_inside c.self.inside.runs c.self.inside.records.items c.self.inside.links.items
      c.self.inside.heads.items c.self.inside.places.items c.self.inside.candidates.0 c.self.invariant.0
      c.index-number.result.now c.index-number.ensures
      (subst (λ a. (m : ℕ) × IsFreeNumber a m) (sym c.self.view_is) c.requires.free) in
      let asked = subst (λ a. (list : List (ℕ × ℕ)) × IsLoose a c.args.run.0 c.args.run.1 list
      × (c.args.hash ≡ hash_of (c.args.place, list)) × IsAbsent a (c.args.place, list)) (sym c.self.view_is)
      c.requires.run in
      let count : c.self.inside.heads.len - 1 ≡ length c.self.inside.heads.items - 1 = omega arith in
      kept_fields c.self.inside.runs _ c.put_first.new.links _ _ c.put_first.new.places _
      c.push.new.self.0 links places
      (kept_steps c.self.inside.runs c.self.inside.records.items c.self.inside.links.items
      c.self.inside.heads.items c.self.inside.places.items c.self.inside.candidates.0 c.self.invariant.0
      c.index-number.result.now c.index-number.ensures
      (subst (λ a. (m : ℕ) × IsFreeNumber a m) (sym c.self.view_is) c.requires.free)
      (record {
        place = c.args.place;
        start = c.args.run.0;
        length = c.args.run.1;
        next = c.index-2.result.now;
        uses = 0;
        mark = 0;
        state = Linked;
      }) asked.0 refl asked.1 asked.3 c.index.result.now.next c.bucket_at-head.result
      (c.bucket_at-head.result + 1)
      (ap (λ (r : Record). r.next) c.index.ensures
      ∙ sym (link_read (λ (r : Record). r.next) c.self.inside.records.items c.index-number.result.now
      c.index.result.now inside))
      (c.bucket_at-head.ensures.is (c.args.place, asked.0) asked.2
      ∙ ap (bucket_of (c.args.place, asked.0)) (omega arith))
      (omega (arith, c.bucket_at-head.ensures.inside)) (omega arith) c.index-2.ensures
      c.put_first.new.links c.put_first.new.places c.push.new.self.0
      (bit_and c.args.place 2047 + 1) (omega arith)
      (c.put_first.ensures (list_under c.self.inside.records.items) unlisted
      (subst (λ l. AreListed l c.deref_mut-2.result.now (list_under c.self.inside.records.items))
      (sym c.deref_mut.ensures.value)
      (subst (λ p. AreListed c.self.inside.links.items p (list_under c.self.inside.records.items))
      (sym c.deref_mut-2.ensures.value) c.self.invariant.0.in_lists)))
      (λ some. c.put_first.auto.links ∙ ap length c.deref_mut.ensures.value)
      (c.put_first.auto.places ∙ ap length c.deref_mut-2.ensures.value)
      c.push.ensures.size c.push.ensures.others c.push.ensures.here),
  let is = returns-clause-ok c c.requires.run.0 c.requires.run.1 in
      hashed_put c.self.inside.hashes.items c.args.self.now _ c.index-number.result.now c.args.hash
      (c.args.place, c.requires.run.0)
      (omega (
        arith,
        c.self.invariant.1.size,
        first_inside c.self.inside.runs c.self.inside.records.items c.self.inside.links.items
            c.self.inside.heads.items c.self.inside.places.items c.self.inside.candidates.0 c.self.invariant.0
            c.index-number.result.now c.index-number.ensures
            (subst (λ a. (m : ℕ) × IsFreeNumber a m) (sym c.self.view_is) c.requires.free),
      ))
      c.requires.run.2 (ap (λ a. a.linked) is) (ap (λ a. a.records) is)
      (subst IsNodes c.self.view_is (is_nodes c.self.invariant.0.stored))
      (subst (AreHashed c.self.inside.hashes.items) c.self.view_is c.self.invariant.1),
  c.self.invariant.2,
)

pub returns-clause-nodes : goal.returns-clause-nodes
returns-clause-nodes c = is_nodes (invariant_of-self c).0.stored
