-- A rotation is on its way once its first half was made, and while nodes that wait are rewritten.
use Rattle.std.proofs.Common.{◌≡◌, ◌⊎◌, inl, inr, ℕ, ◌≤◌, ◌<◌, List, Some, map}
use Rattle.std.proofs.Common.{refl, sym, ◌∙◌, ap, subst, arith}
use Rattle.std.specs.Option.{IsSome}
use Rattle.std.specs.FinMap.{get}
use Rattle.std.proofs.lemmas.Option.{same_Some}
use Rattle.sd_model.specs.Tree.{AreDistinct}
use Rattle.sd_vtree.specs.Numbered.{Numbered}
use Rattle.sd_vtree.specs.NumberedMoves.{moved_number}
use Rattle.sd_runs.specs.Arena.{IsMember, HasNoCopies}
use Rattle.sd_laws.specs.Turned.{lower_of}
use Rattle.sd_laws.proofs.Evaluated.{value_of}
use Rattle.sd_manager.specs.Table.{Table, key_at}
use Rattle.sd_manager.specs.Valid.{IsTable}
use Rattle.sd_manager.specs.Moving.{next_epoch, IsLater}
use Rattle.sd_model.specs.declared.trees.Side.{Side}
use Rattle.sd_move.specs.Journal.{Named}
use Rattle.sd_move.specs.Moving.{no_progress, HasBegun}
use Rattle.sd_move.specs.OnTheWay.{IsOnTheWay}
use Rattle.sd_move.specs.Recorded.{AreRecorded}
use Rattle.sd_move.specs.GoingBack.{numbers_of}
use Rattle.sd_move.specs.Rewriting.{CanRewriteAll, HasRewritten, GoesOn}
use Rattle.sd_move.specs.Sorting.{rotation_of, place_entry, CanRotate, HasRotated}
use Rattle.sd_move.proofs.RewrittenRecorded.{KeepLists, rewritten_recorded, first_distinct}
use Rattle.sd_move.proofs.RotatedSort.{rotated_only}
use Rattle.sd_move.proofs.RotationRecorded.{detached_first, was_there, rotation_recorded, rotation_keeps}
use Rattle.sd_move.proofs.MoveEnd.{next_later}
use Rattle.sd_move.proofs.GrownStrictly.{member_has}

module _ (old m new : Table) (side : Side) (x w : ℕ) (upper lower left : List ℕ) (u : Numbered) (b : List Named)
    (p q : List ℕ) (c : CanRotate old m side x w upper lower u)
    (r : HasRotated m new side x w upper lower left (map (place_entry w) lower) b p q) (tn : IsTable new)
    (g : HasBegun old new x) where
  tree : m.vtree ≡ old.vtree
  tree =
      ap (λ (t : Table). t.vtree) c.detached.second.same ∙ ap (λ (t : Table). t.vtree) c.detached.first.same

  new_tree : new.vtree ≡ r.u
  new_tree = ap (λ (t : Table). t.vtree) r.sorted.sorted.same ∙ ap (λ (t : Table). t.vtree) r.linked.same

  -- the vtree is the rotated one
  moved : moved_number (rotation_of side) old.vtree x ≡ Some new.vtree
  moved = ap (λ t. moved_number (rotation_of side) t x) (sym tree) ∙ r.turned ∙ ap Some (sym new_tree)

  below : lower_of (rotation_of side) old.vtree x ≡ Some w
  below = ap (λ t. lower_of (rotation_of side) t x) (sym tree) ∙ c.below

  only : (n : ℕ) → IsSome (get r.between.detached n) → IsMember n upper
  only = rotated_only old m r.between x w upper lower r.u (c.first.at_rest c.no_move) c.detached r.linked

  first_place : (n : ℕ) (k : ℕ × List (ℕ × ℕ)) → get new.detached n ≡ Some k → (k.0 ≡ x) × (get old.linked n ≡ Some k)
  first_place =
      detached_first old m new side x w upper lower left u (map (place_entry w) lower) b p q c r tn only

  -- and the epoch is the next one
  epoch_turned : new.epoch ≡ next_epoch old.epoch
  epoch_turned =
      ap (λ (t : Table). t.epoch) r.sorted.sorted.same ∙ ap (λ (t : Table). t.epoch) r.linked.same
      ∙ ap (λ (t : Table). next_epoch t.epoch) c.detached.second.same
      ∙ ap (λ (t : Table). next_epoch t.epoch) c.detached.first.same

  pub later_turned : old.epoch ≤ 18446744073709551615 → IsLater old new
  later_turned last =
      subst (λ e. (old.epoch < e) ⊎ (e ≡ 18446744073709551615)) (sym epoch_turned) (next_later old.epoch last)

  bound_same : new.bound ≡ old.bound
  bound_same =
      ap (λ (t : Table). t.bound) r.sorted.sorted.same ∙ ap (λ (t : Table). t.bound) r.linked.same
      ∙ ap (λ (t : Table). t.bound) c.detached.second.same ∙ ap (λ (t : Table). t.bound) c.detached.first.same

  extent_same : new.extent ≡ old.extent
  extent_same =
      ap (λ (t : Table). t.extent) r.sorted.sorted.same ∙ ap (λ (t : Table). t.extent) r.linked.same
      ∙ ap (λ (t : Table). t.extent) c.detached.second.same ∙ ap (λ (t : Table). t.extent) c.detached.first.same

  records_same : new.records ≡ old.records
  records_same =
      ap (λ (t : Table). t.records) r.sorted.sorted.same ∙ ap (λ (t : Table). t.records) r.linked.same
      ∙ ap (λ (t : Table). t.records) c.detached.second.same ∙ ap (λ (t : Table). t.records) c.detached.first.same

  marks_same : new.marks ≡ old.marks
  marks_same =
      ap (λ (t : Table). t.marks) r.sorted.sorted.same ∙ ap (λ (t : Table). t.marks) r.linked.same
      ∙ ap (λ (t : Table). t.marks) c.detached.second.same ∙ ap (λ (t : Table). t.marks) c.detached.first.same

  there : (n : ℕ) → IsSome (key_at new n) → IsSome (get old.linked n)
  there = was_there old m new side x w upper lower left u (map (place_entry w) lower) b p q c r tn

  told : AreRecorded old new x (Some w) b
  told = rotation_recorded old m new side x w upper lower left u (map (place_entry w) lower) b p q c r tn refl

  kept : KeepLists b
  kept = rotation_keeps old m new side x w upper lower left u (map (place_entry w) lower) b p q c r tn refl

  -- Once the vtree is rotated and nodes were sorted, all of them or the first ones, it is on its way.
  pub sorted_on_way : IsOnTheWay old new (rotation_of side) x (Some w) b
  sorted_on_way =
      record {
        first = c.first;
        no_move = c.no_move;
        progress = no_progress;
        values = value_of (get old.linked);
        going = g;
        kept_all = λ n z. z;
        moved = moved;
        lower_is = below;
        recorded = told;
        waiting = λ n k e. (first_place n k e).0;
        epoch = epoch_turned;
        bound = bound_same;
        extent = omega (arith, extent_same);
        records = omega (arith, records_same);
        marks = λ n i some e. inl (there n some, ap (λ z. get z n) (sym marks_same) ∙ e);
      }

  -- So it is while nodes that wait are rewritten.
  module _ (waits : CanRewriteAll old new x no_progress (value_of (get old.linked)) q) (last : Table)
      (tl : IsTable last) (named : List Named) (rest : List ℕ) (h : HasRewritten new last x q b named rest)
      (on : GoesOn old new last x no_progress (value_of (get old.linked)) rest) where
    once : AreDistinct (numbers_of h.entries)
    once = first_distinct (numbers_of h.entries) rest (subst HasNoCopies (sym h.first) waits.once)

    then_marks : (n i : ℕ) → IsSome (key_at last n) → get last.marks n ≡ Some i →
        (IsSome (get old.linked n) × (get old.marks n ≡ Some i)) ⊎ (i ≡ 0)
    then_marks n i some e = elim (h.done.marks n i some e) [
      | inl k ↦ inl (there n k.0, ap (λ z. get z n) (sym marks_same) ∙ k.1)
      | inr z ↦ inr z
    ]

    waiting_there : (n : ℕ) (k : ℕ × List (ℕ × ℕ)) → get last.detached n ≡ Some k → k.0 ≡ x
    waiting_there n k e =
        let i = member_has _ rest n on.can.each (on.can.only n (subst IsSome (sym e) refl)) in
        ap (λ (y : ℕ × List (ℕ × ℕ)). y.0) (same_Some k (x, i.list) (sym e ∙ i.was))

    pub rewritten_on_way : IsOnTheWay old last (rotation_of side) x (Some w) named
    rewritten_on_way =
        record {
          first = c.first;
          no_move = c.no_move;
          progress = on.progress;
          values = on.values;
          going = on.can.going;
          kept_all = λ n z. subst (IsMember n) on.discarded z;
          moved = moved ∙ ap Some (sym h.done.vtree);
          lower_is = below;
          recorded =
              subst (AreRecorded old last x (Some w)) (sym h.added)
              (rewritten_recorded old new last x (Some w) b h.entries tn tl (λ n k e. (first_place n k e).1) told kept
              h.done once);
          waiting = waiting_there;
          epoch = h.done.epoch ∙ epoch_turned;
          bound = h.done.bound ∙ bound_same;
          extent = subst (λ e. e ≤ last.extent) extent_same h.done.extent;
          records = subst (λ e. e ≤ last.records) records_same h.done.records;
          marks = then_marks;
        }

-- at the begin the epoch was the same
pub epoch_begun : (old m : Table) (side : Side) (x w : ℕ) (upper lower : List ℕ) (u : Numbered) →
    CanRotate old m side x w upper lower u → m.epoch ≡ old.epoch
epoch_begun old m side x w upper lower u c =
    ap (λ (t : Table). t.epoch) c.detached.second.same ∙ ap (λ (t : Table). t.epoch) c.detached.first.same
