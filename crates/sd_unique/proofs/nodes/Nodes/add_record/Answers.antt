use Rattle.std.proofs.Common.{◌≡◌, ◌+◌, ◌<◌, bit_and, false, [], ◌∷◌, ◌++◌, length, refl, sym, ap, subst, ◌∙◌, arith}
use Rattle.std.proofs.lemmas.List.{length_push, nil_from_length}
use Rattle.sd_unique.specs.Candidates.{Waits}
use Rattle.sd_unique.specs.Chains.{bucket_of, list_under, no_links, no_record, AreHashed}
use Rattle.sd_unique.specs.Inserting.{IsFull, IsRefusal}
use Rattle.sd_unique.specs.Record.{nodes_of, AreRecordsStored}
use Rattle.sd_unique.proofs.Appended.{blank, appended_kept, appended_lists, appended_new, appended_nodes}
use Rattle.sd_unique.proofs.Appended.{none_waits, appended_ready, appended_unlisted}
use Rattle.sd_unique.proofs.Counts.{count_is}
use Rattle.sd_unique.proofs.Numbered.{is_nodes}
use Rattle.sd_unique.proofs.Occupied.{kept_fields}
use Rattle.sd_unique.proofs.Reading.{whole_slice}
use Rattle.sd_unique.proofs.Taken.{refusal_is, refused_by}
use Rattle.sd_unique.proofs.Whole.{kept_roomier}
use Rattle.sd_unique.specs.Nodes.{IsNodes}
use Rattle.sd_unique.proofs.Hashes.{hashed_pushed}
use Rattle.sd_unique.proofs.nodes.Nodes.add_record.Goals as goal

pub returns-in_err-make_room-clause-nodes : goal.returns-in_err-make_room-clause-nodes
returns-in_err-make_room-clause-nodes c =
    is_nodes (subst (AreRecordsStored c.self.inside.runs) (sym c.in_err-make_room.ensures.records)
    c.self.invariant.0.stored)

pub returns-in_err-start-clause-nodes : goal.returns-in_err-start-clause-nodes
returns-in_err-start-clause-nodes c =
    is_nodes (subst (AreRecordsStored c.take.new.self) (sym c.in_ok-make_room.ensures.records)
    (subst (λ a. AreRecordsStored a c.self.inside.records.items) (sym c.in_err-start.ensures.err)
    c.self.invariant.0.stored))

pub returns-in_err-start-clause-full : goal.returns-in_err-start-clause-full
returns-in_err-start-clause-full c =
    let refused = subst (λ a. IsRefusal a (length c.args.list.now) c.in_err-start.field-0.0) c.self.view_is
    (refusal_is c.self.inside.runs c.self.inside.records.items
    (length c.args.list.now) c.in_err-start.field-0.0 c.in_err-start.ensures.full) in
    refused_by c.from_residual-in_err-start.result c.in_err-start.field-0.0
    (λ e. IsRefusal c.args.self.now (length c.args.list.now) e) c.from_residual-in_err-start.ensures.1 refused

pub invariant_of-self : goal.invariant_of-self
invariant_of-self c =
    let e = c.in_err-make_room.ensures in
    let s = c.self.inside in
    let n = c.make_room.new in
    kept_roomier s.runs s.runs s.records.items n.records.items s.hashes.items n.hashes.items s.links.items n.links.items
    s.heads.items s.places.items s.candidates.0 n.candidates.0 s.records.len n.records.len s.links.cap n.links.cap
    s.places.cap refl e.records e.hashes e.links e.candidates (omega (arith, ap length e.records)) e.capacity
    c.self.invariant.0 c.self.invariant.1 c.self.invariant.2

pub invariant_of-self-in_err-start : goal.invariant_of-self-in_err-start
invariant_of-self-in_err-start c =
    let e = c.in_ok-make_room.ensures in
    let s = c.self.inside in
    let n = c.make_room.new in
    kept_roomier s.runs c.take.new.self s.records.items n.records.items s.hashes.items n.hashes.items s.links.items
    n.links.items s.heads.items s.places.items s.candidates.0 n.candidates.0 s.records.len n.records.len s.links.cap
    n.links.cap s.places.cap c.in_err-start.ensures.err e.records e.hashes e.links e.candidates
    (omega (arith, ap length e.records)) e.capacity c.self.invariant.0 c.self.invariant.1 c.self.invariant.2

pub put_first-requires-clause-inside : goal.put_first-requires-clause-inside
put_first-requires-clause-inside c = λ some.
    let any : 0 < length c.self.inside.places.items = omega (arith, some, ap length c.deref_mut-2.ensures.value) in
    let links : c.deref_mut.result.now ≡ c.self.inside.links.items ++ no_links ∷ [] =
    c.deref_mut.ensures.value
    ∙ c.push_links.ensures.pushed (omega (arith, any, ap length c.deref.ensures.value))
    ∙ ap (λ l. l ++ no_links ∷ []) c.in_ok-make_room.ensures.links in
    omega (
      arith,
      ap length links,
      length_push c.self.inside.links.items no_links,
      c.self.invariant.0.linked_all any,
      ap length c.in_ok-make_room.ensures.records,
    )

pub put_first-requires-clause-at_least_one : goal.put_first-requires-clause-at_least_one
put_first-requires-clause-at_least_one c = λ last.
    omega (
      arith,
      last,
      ap length c.in_ok-make_room.ensures.records,
      c.self.invariant.0.stored.within_limit,
      c.self.invariant.0.stored.well.bounded,
      c.self.invariant.0.stored.bound_fits,
    )

pub put_first-requires-clause-listed : goal.put_first-requires-clause-listed
put_first-requires-clause-listed c =
    let linked : 0 < length c.self.inside.places.items
    → c.push_links.new.links.items ≡ c.self.inside.links.items ++ no_links ∷ [] =
    λ some. c.push_links.ensures.pushed (omega (arith, some, ap length c.deref.ensures.value))
    ∙ ap (λ l. l ++ no_links ∷ []) c.in_ok-make_room.ensures.links in
    appended_ready c.self.inside.runs c.take.new.self c.self.inside.records.items c.self.inside.links.items
    c.self.inside.heads.items c.self.inside.places.items c.self.inside.candidates.0 c.self.invariant.0
    c.take.ensures.arena c.args.list.now c.in_ok-start.start c.in_ok-start.ensures.ok c.in_ok-start.ensures.start
    c.in_ok-start.ensures.fresh c.in_ok-start.ensures.kept c.args.self.now c.self.view_is no_links
    no_record (none_waits c.self.inside.runs c.self.inside.records.items c.self.inside.links.items
    c.self.inside.heads.items c.self.inside.places.items c.self.inside.candidates.0 c.self.invariant.0 c.args.self.now
    c.self.view_is c.requires.all) refl c.requires.at_least_one c.len-number.result
    (omega (arith, ap length c.in_ok-make_room.ensures.records))
    c.deref_mut.result.now c.deref_mut-2.result.now (λ some. c.deref_mut.ensures.value ∙ linked some)
    c.deref_mut-2.ensures.value

pub returns-clause-number : goal.returns-clause-number
returns-clause-number c =
    appended_new c.self.inside.runs c.take.new.self c.self.inside.records.items c.self.inside.links.items
    c.self.inside.heads.items c.self.inside.places.items c.self.inside.candidates.0 c.self.invariant.0
    c.take.ensures.arena c.args.list.now c.in_ok-start.start c.in_ok-start.ensures.ok c.in_ok-start.ensures.start
    c.in_ok-start.ensures.fresh c.in_ok-start.ensures.kept c.args.self.now c.self.view_is no_links
    no_record (none_waits c.self.inside.runs c.self.inside.records.items c.self.inside.links.items
    c.self.inside.heads.items c.self.inside.places.items c.self.inside.candidates.0 c.self.invariant.0 c.args.self.now
    c.self.view_is c.requires.all) refl c.requires.at_least_one c.len-number.result
    (omega (arith, ap length c.in_ok-make_room.ensures.records))

pub returns-clause-ok : goal.returns-clause-ok
returns-clause-ok c =
    let grown = c.push_reserved.ensures.items
    ∙ ap (λ l. l ++ c.linked.result ∷ []) c.in_ok-make_room.ensures.records
    ∙ ap (λ r. c.self.inside.records.items ++ r ∷ []) c.linked.ensures in
    appended_nodes c.self.inside.runs c.take.new.self c.self.inside.records.items c.self.inside.links.items
    c.self.inside.heads.items c.self.inside.places.items c.self.inside.candidates.0 c.self.invariant.0
    c.take.ensures.arena c.args.list.now c.in_ok-start.start c.in_ok-start.ensures.ok c.in_ok-start.ensures.start
    c.in_ok-start.ensures.fresh c.in_ok-start.ensures.kept c.args.self.now c.self.view_is no_links
    no_record (none_waits c.self.inside.runs c.self.inside.records.items c.self.inside.links.items
    c.self.inside.heads.items c.self.inside.places.items c.self.inside.candidates.0 c.self.invariant.0 c.args.self.now
    c.self.view_is c.requires.all) refl c.requires.at_least_one c.len-number.result
    (omega (arith, ap length c.in_ok-make_room.ensures.records))
    c.args.hash c.args.place c.index.result.now c.requires.hash c.requires.absent c.push_reserved.new.self.items grown

pub invariant_of-self-2 : goal.invariant_of-self-2
invariant_of-self-2 c = (
  let grown = c.push_reserved.ensures.items
      ∙ ap (λ l. l ++ c.linked.result ∷ []) c.in_ok-make_room.ensures.records
      ∙ ap (λ r. c.self.inside.records.items ++ r ∷ []) c.linked.ensures in
      let linked : 0 < length c.self.inside.places.items
      → c.push_links.new.links.items ≡ c.self.inside.links.items ++ no_links ∷ [] =
      λ some. c.push_links.ensures.pushed (omega (arith, some, ap length c.deref.ensures.value))
      ∙ ap (λ l. l ++ no_links ∷ []) c.in_ok-make_room.ensures.links in
      let places = whole_slice c.put_first.new.places c.self.inside.places.items c.self.inside.places.len
      (c.put_first.auto.places ∙ c.deref_mut-2.ensures.len) in
      let links = whole_slice c.put_first.new.links c.push_links.new.links.items c.push_links.new.links.len
      (c.put_first.auto.links ∙ c.deref_mut.ensures.len) in
      let flags : c.add.new.self.0 ≡ c.self.inside.candidates.0 ++ false ∷ [] =
      c.add.ensures ∙ ap (λ f. f ++ false ∷ []) c.in_ok-make_room.ensures.candidates in
      kept_fields c.take.new.self _ c.put_first.new.links _ _ c.put_first.new.places _
      c.push.new.self.0 links places
      (appended_kept c.self.inside.runs c.take.new.self c.self.inside.records.items c.self.inside.links.items
      c.self.inside.heads.items c.self.inside.places.items c.self.inside.candidates.0 c.self.invariant.0
      c.take.ensures.arena c.args.list.now c.in_ok-start.start c.in_ok-start.ensures.ok c.in_ok-start.ensures.start
      c.in_ok-start.ensures.fresh c.in_ok-start.ensures.kept c.args.self.now c.self.view_is no_links
      no_record (none_waits c.self.inside.runs c.self.inside.records.items c.self.inside.links.items
      c.self.inside.heads.items c.self.inside.places.items c.self.inside.candidates.0 c.self.invariant.0 c.args.self.now
      c.self.view_is c.requires.all) refl c.requires.at_least_one c.len-number.result
      (omega (arith, ap length c.in_ok-make_room.ensures.records))
      c.args.hash c.args.place c.index.result.now c.requires.hash c.requires.absent c.push_reserved.new.self.items grown
      c.bucket_at-head.result (c.bucket_at-head.result + 1)
      (c.bucket_at-head.ensures.is (c.args.place, c.args.list.now) c.requires.hash
      ∙ ap (bucket_of (c.args.place, c.args.list.now)) (omega arith))
      (omega (arith, c.bucket_at-head.ensures.inside)) (omega arith) c.index.ensures
      c.put_first.new.links c.put_first.new.places c.push.new.self.0
      (bit_and c.args.place 2047 + 1) (omega arith)
      (c.put_first.ensures (list_under (c.self.inside.records.items ++ blank ∷ []))
      (appended_unlisted c.self.inside.runs c.take.new.self c.self.inside.records.items c.self.inside.links.items
      c.self.inside.heads.items c.self.inside.places.items c.self.inside.candidates.0 c.self.invariant.0
      c.take.ensures.arena c.args.list.now c.in_ok-start.start c.in_ok-start.ensures.ok c.in_ok-start.ensures.start
      c.in_ok-start.ensures.fresh c.in_ok-start.ensures.kept c.args.self.now c.self.view_is no_links
      no_record (none_waits c.self.inside.runs c.self.inside.records.items c.self.inside.links.items
      c.self.inside.heads.items c.self.inside.places.items c.self.inside.candidates.0 c.self.invariant.0 c.args.self.now
      c.self.view_is c.requires.all) refl c.requires.at_least_one c.len-number.result
      (omega (arith, ap length c.in_ok-make_room.ensures.records)))
      (appended_lists c.self.inside.runs c.take.new.self c.self.inside.records.items c.self.inside.links.items
      c.self.inside.heads.items c.self.inside.places.items c.self.inside.candidates.0 c.self.invariant.0
      c.take.ensures.arena c.args.list.now c.in_ok-start.start c.in_ok-start.ensures.ok c.in_ok-start.ensures.start
      c.in_ok-start.ensures.fresh c.in_ok-start.ensures.kept c.args.self.now c.self.view_is no_links
      no_record (none_waits c.self.inside.runs c.self.inside.records.items c.self.inside.links.items
      c.self.inside.heads.items c.self.inside.places.items c.self.inside.candidates.0 c.self.invariant.0 c.args.self.now
      c.self.view_is c.requires.all) refl c.requires.at_least_one c.len-number.result
      (omega (arith, ap length c.in_ok-make_room.ensures.records))
      c.deref_mut.result.now c.deref_mut-2.result.now (λ some. c.deref_mut.ensures.value ∙ linked some)
      c.deref_mut-2.ensures.value))
      (λ some. c.put_first.auto.links ∙ ap length (c.deref_mut.ensures.value
      ∙ linked (omega (arith, some, c.put_first.auto.places, ap length c.deref_mut-2.ensures.value))))
      (c.put_first.auto.places ∙ ap length c.deref_mut-2.ensures.value)
      (c.push.ensures.size ∙ ap length flags)
      (λ m on. c.push.ensures.others m (subst (λ f. Waits f m) (sym flags) on)) c.push.ensures.here),
  let is = returns-clause-ok c in
      let number : c.len-number.result ≡ c.args.self.now.records = omega (
        arith,
        ap length c.in_ok-make_room.ensures.records,
        ap (λ a. a.records) c.self.view_is,
      ) in
      let pushed_hash : c.push_reserved-2.new.self.items ≡ c.self.inside.hashes.items ++ c.args.hash ∷ [] =
      c.push_reserved-2.ensures.items ∙ ap (λ l. l ++ c.args.hash ∷ []) c.in_ok-make_room.ensures.hashes in
      subst (λ h. AreHashed h (nodes_of c.take.new.self c.push_reserved.new.self.items)) (sym pushed_hash)
      (hashed_pushed c.self.inside.hashes.items c.args.self.now (nodes_of c.take.new.self c.push_reserved.new.self.items)
      c.len-number.result c.args.hash
      (c.args.place, c.args.list.now) number c.requires.hash (ap (λ a. a.linked) is)
      (ap (λ a. a.records) is ∙ omega (arith, number))
      (subst IsNodes c.self.view_is (is_nodes c.self.invariant.0.stored))
      (subst (AreHashed c.self.inside.hashes.items) c.self.view_is c.self.invariant.1)),
  record {
    links_fit = omega (
      arith,
      c.push_reserved.ensures.len,
      c.in_ok-make_room.ensures.room.2,
      c.push_links.ensures.capacity,
    );
    heads_fit = c.self.invariant.2.heads_fit;
  },
)

pub returns-clause-nodes : goal.returns-clause-nodes
returns-clause-nodes c = is_nodes (invariant_of-self-2 c).0.stored

pub returns-clause-room : goal.returns-clause-room
returns-clause-room c =
    subst (λ a. IsFull a (length c.args.list.now) → ⊥) c.self.view_is
    (λ full. c.in_ok-start.ensures.room (
      nil_from_length _ (sym (count_is c.self.inside.runs c.self.inside.records.items (length c.args.list.now))
          ∙ full.0),
      full.1,
    ))
