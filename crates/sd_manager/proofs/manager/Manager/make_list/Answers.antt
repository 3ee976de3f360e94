use Rattle.std.proofs.Common.{◌≡◌, inr, ℕ, ◌+◌, ◌<◌, ◌^◌, Some, length, refl, sym, subst, ◌∙◌, arith}
use Rattle.std.specs.FinMap.{get}
use Rattle.sd_unique.specs.Inserting.{inserted, IsNewNumber, IsFull}
use Rattle.sd_manager.specs.Table.{uses_in}
use Rattle.sd_manager.specs.Making.{Extends, IsMade, IsRefusal, KeepsRule, IsNeeded, HasNewNode}
use Rattle.sd_manager.specs.Counting.{AreCounted}
use Rattle.sd_manager.specs.Stored.{table_of, counted_roots, held_count, IsStored, IsKept}
use Rattle.sd_manager.proofs.Linking.{asked, partition_inside, made_trimmed, made_found, two_pairs, refused, kept_rule}
use Rattle.sd_manager.proofs.Linking.{list_counted, list_room, new_short, at_new, stored_new, made_new, kept_new}
use Rattle.sd_manager.proofs.Linking.{grown_new}
use Rattle.sd_manager.proofs.Needed.{needed}
use Rattle.sd_manager.proofs.Found.{if_present, if_new}
use Rattle.sd_manager.proofs.CountsAfter.{counts_made, new_alone}
use Rattle.sd_counts.proofs.StaysRight.{right_grown}
use Rattle.sd_manager.proofs.manager.Manager.make_list.Goals as goal

pub returns-in-Some-clause-ok : goal.returns-in-Some-clause-ok
returns-in-Some-clause-ok c = λ ds partition.
    let s = c.self.inside in
    let h = asked s.vtree s.nodes s.roots s.epoch s.moving c.args.self.now c.args.place c.args.place c.args.elements.now
    c.as_slice-list.result.now c.sort_into.new.list.items c.self.invariant.stored c.self.view_is refl
    c.requires.partition c.requires.differ c.in_ok-sort_into.ensures.permutation c.in_ok-sort_into.ensures.sorted
    c.as_slice-list.ensures.value in
    made_trimmed s.vtree s.nodes s.roots s.epoch s.moving c.args.place c.args.elements.now c.as_slice-list.result.now h
    c.in-Some.code (sym c.trimmed.ensures ∙ c.in-Some.is) ds
    (partition_inside (table_of s.vtree s.nodes s.roots s.epoch s.moving) c.args.self.now c.args.place c.args.place
    c.args.elements.now ds c.self.view_is refl partition)

pub returns-in-Present-clause-ok : goal.returns-in-Present-clause-ok
returns-in-Present-clause-ok c = λ ds partition.
    let s = c.self.inside in
    let h = asked s.vtree s.nodes s.roots s.epoch s.moving c.args.self.now c.place.inside.0 c.args.place
    c.args.elements.now
    c.as_slice-list.result.now c.sort_into.new.list.items c.self.invariant.stored c.self.view_is c.place.view_is
    c.requires.partition c.requires.differ c.in_ok-sort_into.ensures.permutation c.in_ok-sort_into.ensures.sorted
    c.as_slice-list.ensures.value in
    let none = sym c.trimmed.ensures ∙ c.in_default.is in
    let same = if_present c.in-Ok.found c.in-Present.number (λ n. c.find_or_insert.new.self ≡ s.nodes)
    c.in-Present.is c.in-Ok.ensures.same in
    let there = if_present c.in-Ok.found c.in-Present.number
    (λ n. get s.nodes.linked n ≡ Some (c.place.inside.0, c.as_slice-list.result.now)) c.in-Present.is
    c.in-Ok.ensures.present in
    subst (λ x. IsMade (table_of s.vtree x s.roots s.epoch s.moving) (c.in-Present.number + 2050) ds) (sym same)
    (made_found s.vtree s.nodes s.roots s.epoch s.moving c.place.inside.0 c.args.elements.now
    c.as_slice-list.result.now h none c.in-Present.number there ds
    (partition_inside (table_of s.vtree s.nodes s.roots s.epoch s.moving) c.args.self.now c.place.inside.0 c.args.place
    c.args.elements.now ds c.self.view_is c.place.view_is partition))

pub grow-requires : goal.grow-requires
grow-requires c =
    record { next = omega (arith, c.self.invariant.counted.room, c.records.ensures.records) }

pub find_or_insert-requires : goal.find_or_insert-requires
find_or_insert-requires c =
    let s = c.self.inside in
    let h = asked s.vtree s.nodes s.roots s.epoch s.moving c.args.self.now c.place.inside.0 c.args.place
    c.args.elements.now
    c.as_slice-list.result.now c.sort_into.new.list.items c.self.invariant.stored c.self.view_is c.place.view_is
    c.requires.partition c.requires.differ c.in_ok-sort_into.ensures.permutation c.in_ok-sort_into.ensures.sorted
    c.as_slice-list.ensures.value in
    let none = sym c.trimmed.ensures ∙ c.in_default.is in
    record {
      at_least_one = omega (
        arith,
        two_pairs s.vtree s.nodes s.roots s.epoch s.moving c.place.inside.0 c.args.elements.now
            c.as_slice-list.result.now h none,
      );
    }

pub returns-in-Err-clause-full : goal.returns-in-Err-clause-full
returns-in-Err-clause-full c =
    let s = c.self.inside in
    let h = asked s.vtree s.nodes s.roots s.epoch s.moving c.args.self.now c.place.inside.0 c.args.place
    c.args.elements.now
    c.as_slice-list.result.now c.sort_into.new.list.items c.self.invariant.stored c.self.view_is c.place.view_is
    c.requires.partition c.requires.differ c.in_ok-sort_into.ensures.permutation c.in_ok-sort_into.ensures.sorted
    c.as_slice-list.ensures.value in
    let none = sym c.trimmed.ensures ∙ c.in_default.is in
    subst (λ t. IsRefusal t (length c.args.elements.now) c.in-Err.error) c.self.view_is
    (refused s.vtree s.nodes s.roots s.epoch s.moving c.place.inside.0 c.args.elements.now
    c.as_slice-list.result.now h none
    c.in-Err.error c.in-Err.ensures.full)

pub returns-in-Err-clause-rule : goal.returns-in-Err-clause-rule
returns-in-Err-clause-rule c =
    let s = c.self.inside in
    let h = asked s.vtree s.nodes s.roots s.epoch s.moving c.args.self.now c.place.inside.0 c.args.place
    c.args.elements.now
    c.as_slice-list.result.now c.sort_into.new.list.items c.self.invariant.stored c.self.view_is c.place.view_is
    c.requires.partition c.requires.differ c.in_ok-sort_into.ensures.permutation c.in_ok-sort_into.ensures.sorted
    c.as_slice-list.ensures.value in
    let none = sym c.trimmed.ensures ∙ c.in_default.is in
    subst (λ x. KeepsRule (table_of s.vtree x s.roots s.epoch s.moving) c.in-Err.error) (sym c.in-Err.ensures.err)
    (kept_rule s.vtree s.nodes s.roots s.epoch s.moving c.place.inside.0 c.args.elements.now
    c.as_slice-list.result.now h none
    c.in-Err.error c.in-Err.ensures.full)

pub returns-in-Err-clause-needed : goal.returns-in-Err-clause-needed
returns-in-Err-clause-needed c =
    let s = c.self.inside in
    let h = asked s.vtree s.nodes s.roots s.epoch s.moving c.args.self.now c.place.inside.0 c.args.place
    c.args.elements.now
    c.as_slice-list.result.now c.sort_into.new.list.items c.self.invariant.stored c.self.view_is c.place.view_is
    c.requires.partition c.requires.differ c.in_ok-sort_into.ensures.permutation c.in_ok-sort_into.ensures.sorted
    c.as_slice-list.ensures.value in
    let none = sym c.trimmed.ensures ∙ c.in_default.is in
    subst (λ t. IsNeeded t c.args.place c.args.elements.now c.in-Err.error) c.self.view_is
    (subst (λ p. IsNeeded (table_of s.vtree s.nodes s.roots s.epoch s.moving) p c.args.elements.now c.in-Err.error)
    c.place.view_is
    (needed s.vtree s.nodes s.roots s.epoch s.moving c.place.inside.0 c.args.elements.now c.as_slice-list.result.now
    h none
    c.in-Err.ensures.refused c.in-Err.error))

pub add_uses-requires-clause-counted : goal.add_uses-requires-clause-counted
add_uses-requires-clause-counted c =
    let s = c.self.inside in
    let h = asked s.vtree s.nodes s.roots s.epoch s.moving c.args.self.now c.place.inside.0 c.args.place
    c.args.elements.now
    c.as_slice-list.result.now c.sort_into.new.list.items c.self.invariant.stored c.self.view_is c.place.view_is
    c.requires.partition c.requires.differ c.in_ok-sort_into.ensures.permutation c.in_ok-sort_into.ensures.sorted
    c.as_slice-list.ensures.value in
    let none = sym c.trimmed.ensures ∙ c.in_default.is in
    let number = if_new c.in-Ok.found c.in-New.number (λ n. IsNewNumber s.nodes n) c.in-New.is
    c.in-Ok.ensures.number in
    let is = if_new c.in-Ok.found c.in-New.number
    (λ n. c.find_or_insert.new.self ≡ inserted s.nodes n c.place.inside.0 c.as_slice-list.result.now) c.in-New.is
    c.in-Ok.ensures.ok in
    subst (λ x. AreCounted x c.as_slice-list.result.now) (sym is)
    (list_counted s.vtree s.nodes s.roots s.epoch s.moving c.place.inside.0 c.args.elements.now
    c.as_slice-list.result.now h none
    c.in-New.number number)

pub add_uses-requires-clause-room : goal.add_uses-requires-clause-room
add_uses-requires-clause-room c =
    let s = c.self.inside in
    let h = asked s.vtree s.nodes s.roots s.epoch s.moving c.args.self.now c.place.inside.0 c.args.place
    c.args.elements.now
    c.as_slice-list.result.now c.sort_into.new.list.items c.self.invariant.stored c.self.view_is c.place.view_is
    c.requires.partition c.requires.differ c.in_ok-sort_into.ensures.permutation c.in_ok-sort_into.ensures.sorted
    c.as_slice-list.ensures.value in
    let none = sym c.trimmed.ensures ∙ c.in_default.is in
    let number = if_new c.in-Ok.found c.in-New.number (λ n. IsNewNumber s.nodes n) c.in-New.is
    c.in-Ok.ensures.number in
    let is = if_new c.in-Ok.found c.in-New.number
    (λ n. c.find_or_insert.new.self ≡ inserted s.nodes n c.place.inside.0 c.as_slice-list.result.now) c.in-New.is
    c.in-Ok.ensures.ok in
    subst (λ x. (q k : ℕ) → get x.uses q ≡ Some k → k + uses_in (2050 + q) c.as_slice-list.result.now < 2 ^ 64)
    (sym is)
    (list_room s.vtree s.nodes s.roots s.epoch s.moving c.place.inside.0 c.args.elements.now
    c.as_slice-list.result.now h none
    c.in-New.number number
    (new_short s.vtree s.nodes s.roots s.epoch s.moving c.place.inside.0 c.args.elements.now
    c.as_slice-list.result.now h none
    c.in-New.number number c.find_or_insert.new.self is c.in-Ok.ensures.nodes))

pub invariant_of-self-in-Err : goal.invariant_of-self-in-Err
invariant_of-self-in-Err c =
    let s = c.self.inside in
    let held = held_count (counted_roots s.is_counting s.roots) in
    subst (λ x. IsKept x c.grow.new.self s.is_counting (table_of s.vtree x s.roots s.epoch s.moving))
    (sym c.in-Err.ensures.err)
    (record {
      stored = c.self.invariant.stored;
      counted = right_grown s.nodes held s.counts c.grow.new.self c.self.invariant.counted
          c.in_ok-grow.ensures.grown;
    })

pub invariant_of-self-in-Present : goal.invariant_of-self-in-Present
invariant_of-self-in-Present c =
    let s = c.self.inside in
    let held = held_count (counted_roots s.is_counting s.roots) in
    let same = if_present c.in-Ok.found c.in-Present.number (λ n. c.find_or_insert.new.self ≡ s.nodes)
    c.in-Present.is c.in-Ok.ensures.same in
    subst (λ x. IsKept x c.grow.new.self s.is_counting (table_of s.vtree x s.roots s.epoch s.moving)) (sym same)
    (record {
      stored = c.self.invariant.stored;
      counted = right_grown s.nodes held s.counts c.grow.new.self c.self.invariant.counted
          c.in_ok-grow.ensures.grown;
    })

pub invariant_of-self-2 : goal.invariant_of-self-2
invariant_of-self-2 c =
    let s = c.self.inside in
    let held = held_count (counted_roots s.is_counting s.roots) in
    let h = asked s.vtree s.nodes s.roots s.epoch s.moving c.args.self.now c.place.inside.0 c.args.place
    c.args.elements.now
    c.as_slice-list.result.now c.sort_into.new.list.items c.self.invariant.stored c.self.view_is c.place.view_is
    c.requires.partition c.requires.differ c.in_ok-sort_into.ensures.permutation c.in_ok-sort_into.ensures.sorted
    c.as_slice-list.ensures.value in
    let none = sym c.trimmed.ensures ∙ c.in_default.is in
    let number = if_new c.in-Ok.found c.in-New.number (λ n. IsNewNumber s.nodes n) c.in-New.is
    c.in-Ok.ensures.number in
    let is = if_new c.in-Ok.found c.in-New.number
    (λ n. c.find_or_insert.new.self ≡ inserted s.nodes n c.place.inside.0 c.as_slice-list.result.now) c.in-New.is
    c.in-Ok.ensures.ok in
    record {
      stored = at_new s.vtree s.nodes s.roots s.epoch s.moving c.place.inside.0 c.args.elements.now
          c.as_slice-list.result.now
          h none
          c.in-New.number number c.find_or_insert.new.self c.add_uses.new.nodes is
          c.add_uses.ensures.uses c.add_uses.ensures.valid
          (λ d. IsStored d (table_of s.vtree d s.roots s.epoch s.moving))
          (λ w counts valid. stored_new s.vtree s.nodes s.roots s.epoch s.moving c.place.inside.0 c.args.elements.now
          c.as_slice-list.result.now h none
          c.in-New.number number w counts valid);
      counted = counts_made s.nodes c.find_or_insert.new.self c.add_uses.new.nodes held s.counts
          c.grow.new.self c.self.invariant.counted c.in_ok-grow.ensures.grown
          (omega (arith, c.in_ok-grow.ensures.room, c.records.ensures.records)) c.in-New.number c.place.inside.0
          c.as_slice-list.result.now number
          (new_alone s.nodes c.in-New.number c.self.invariant.stored.valid number) is c.add_uses.ensures.uses.rest;
    }

pub returns-clause-ok : goal.returns-clause-ok
returns-clause-ok c = λ ds partition.
    let s = c.self.inside in
    let h = asked s.vtree s.nodes s.roots s.epoch s.moving c.args.self.now c.place.inside.0 c.args.place
    c.args.elements.now
    c.as_slice-list.result.now c.sort_into.new.list.items c.self.invariant.stored c.self.view_is c.place.view_is
    c.requires.partition c.requires.differ c.in_ok-sort_into.ensures.permutation c.in_ok-sort_into.ensures.sorted
    c.as_slice-list.ensures.value in
    let none = sym c.trimmed.ensures ∙ c.in_default.is in
    let number = if_new c.in-Ok.found c.in-New.number (λ n. IsNewNumber s.nodes n) c.in-New.is
    c.in-Ok.ensures.number in
    let is = if_new c.in-Ok.found c.in-New.number
    (λ n. c.find_or_insert.new.self ≡ inserted s.nodes n c.place.inside.0 c.as_slice-list.result.now) c.in-New.is
    c.in-Ok.ensures.ok in
    at_new s.vtree s.nodes s.roots s.epoch s.moving c.place.inside.0 c.args.elements.now c.as_slice-list.result.now
    h none
    c.in-New.number number c.find_or_insert.new.self c.add_uses.new.nodes is
    c.add_uses.ensures.uses c.add_uses.ensures.valid
    (λ d. IsMade (table_of s.vtree d s.roots s.epoch s.moving) (c.in-New.number + 2050) ds)
    (λ w counts valid. made_new s.vtree s.nodes s.roots s.epoch s.moving c.place.inside.0 c.args.elements.now
    c.as_slice-list.result.now h none
    c.in-New.number number w counts valid ds
    (partition_inside (table_of s.vtree s.nodes s.roots s.epoch s.moving) c.args.self.now c.place.inside.0 c.args.place
    c.args.elements.now ds c.self.view_is c.place.view_is partition))

pub returns-clause-kept : goal.returns-clause-kept
returns-clause-kept c =
    let s = c.self.inside in
    let h = asked s.vtree s.nodes s.roots s.epoch s.moving c.args.self.now c.place.inside.0 c.args.place
    c.args.elements.now
    c.as_slice-list.result.now c.sort_into.new.list.items c.self.invariant.stored c.self.view_is c.place.view_is
    c.requires.partition c.requires.differ c.in_ok-sort_into.ensures.permutation c.in_ok-sort_into.ensures.sorted
    c.as_slice-list.ensures.value in
    let none = sym c.trimmed.ensures ∙ c.in_default.is in
    let number = if_new c.in-Ok.found c.in-New.number (λ n. IsNewNumber s.nodes n) c.in-New.is
    c.in-Ok.ensures.number in
    let is = if_new c.in-Ok.found c.in-New.number
    (λ n. c.find_or_insert.new.self ≡ inserted s.nodes n c.place.inside.0 c.as_slice-list.result.now) c.in-New.is
    c.in-Ok.ensures.ok in
    subst (λ t. Extends t (table_of s.vtree c.add_uses.new.nodes s.roots s.epoch s.moving)) c.self.view_is
    (at_new s.vtree s.nodes s.roots s.epoch s.moving c.place.inside.0 c.args.elements.now c.as_slice-list.result.now
    h none
    c.in-New.number number c.find_or_insert.new.self c.add_uses.new.nodes is
    c.add_uses.ensures.uses c.add_uses.ensures.valid
    (λ d. Extends (table_of s.vtree s.nodes s.roots s.epoch s.moving) (table_of s.vtree d s.roots s.epoch s.moving))
    (λ w counts valid. kept_new s.vtree s.nodes s.roots s.epoch s.moving c.place.inside.0 c.args.elements.now
    c.as_slice-list.result.now h none
    c.in-New.number number w counts valid))

pub returns-clause-grown : goal.returns-clause-grown
returns-clause-grown c =
    let s = c.self.inside in
    let h = asked s.vtree s.nodes s.roots s.epoch s.moving c.args.self.now c.place.inside.0 c.args.place
    c.args.elements.now
    c.as_slice-list.result.now c.sort_into.new.list.items c.self.invariant.stored c.self.view_is c.place.view_is
    c.requires.partition c.requires.differ c.in_ok-sort_into.ensures.permutation c.in_ok-sort_into.ensures.sorted
    c.as_slice-list.ensures.value in
    let none = sym c.trimmed.ensures ∙ c.in_default.is in
    let number = if_new c.in-Ok.found c.in-New.number (λ n. IsNewNumber s.nodes n) c.in-New.is
    c.in-Ok.ensures.number in
    let is = if_new c.in-Ok.found c.in-New.number
    (λ n. c.find_or_insert.new.self ≡ inserted s.nodes n c.place.inside.0 c.as_slice-list.result.now) c.in-New.is
    c.in-Ok.ensures.ok in
    let room = if_new c.in-Ok.found c.in-New.number (λ n. ¬ IsFull s.nodes (length c.as_slice-list.result.now))
    c.in-New.is c.in-Ok.ensures.room in
    inr (subst (λ t. HasNewNode t (table_of s.vtree c.add_uses.new.nodes s.roots s.epoch s.moving) c.args.place
    c.args.elements.now (c.in-New.number + 2050)) c.self.view_is
    (subst (λ p. HasNewNode (table_of s.vtree s.nodes s.roots s.epoch s.moving)
    (table_of s.vtree c.add_uses.new.nodes s.roots s.epoch s.moving) p c.args.elements.now (c.in-New.number + 2050))
    c.place.view_is
    (at_new s.vtree s.nodes s.roots s.epoch s.moving c.place.inside.0 c.args.elements.now c.as_slice-list.result.now
    h none
    c.in-New.number number c.find_or_insert.new.self c.add_uses.new.nodes is
    c.add_uses.ensures.uses c.add_uses.ensures.valid
    (λ d. HasNewNode (table_of s.vtree s.nodes s.roots s.epoch s.moving) (table_of s.vtree d s.roots s.epoch s.moving)
    c.place.inside.0 c.args.elements.now (c.in-New.number + 2050))
    (λ w counts valid. grown_new s.vtree s.nodes s.roots s.epoch s.moving c.place.inside.0 c.args.elements.now
    c.as_slice-list.result.now h none
    c.in-New.number number w counts valid room))))

pub returns-clause-table : goal.returns-clause-table
returns-clause-table c = (invariant_of-self-2 c).stored.table
