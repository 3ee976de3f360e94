-- The entries of the first half of a rotation tell what it has changed.
use Rattle.std.proofs.Common.{◌≡◌, ◌⊎◌, inl, inr, ℕ, ◌+◌, List, [], ◌∷◌, ◌++◌, Some, None, map}
use Rattle.std.proofs.Common.{refl, sym, ◌∙◌, ap, subst, arith}
use Rattle.std.specs.List.{AllByRecursion}
use Rattle.std.specs.Option.{IsSome, option_map}
use Rattle.std.specs.FinMap.{get}
use Rattle.std.proofs.lemmas.Bool.{cases_lt}
use Rattle.std.proofs.lemmas.List.{append-nil}
use Rattle.std.proofs.lemmas.Option.{none-some, same_Some}
use Rattle.sd_model.specs.Tree.{AreDistinct}
use Rattle.sd_vtree.specs.Numbered.{Numbered, times, or_else}
use Rattle.sd_vtree.proofs.Times.{times_append}
use Rattle.sd_runs.specs.Arena.{IsMember, HasNoCopies}
use Rattle.sd_manager.specs.Table.{Table, key_at}
use Rattle.sd_manager.specs.Valid.{IsTable}
use Rattle.sd_manager.specs.Moving.{moving_at}
use Rattle.sd_manager.proofs.Reading.{linked_key, detached_key}
use Rattle.sd_model.specs.declared.trees.Side.{Side}
use Rattle.sd_move.specs.Journal.{Named, journal_entry, without_runs}
use Rattle.sd_move.specs.Recorded.{IsRecorded, AreRecorded}
use Rattle.sd_move.specs.GoingBack.{numbers_of}
use Rattle.sd_move.specs.Sorting.{place_entry, AreSorted, CanRotate, HasRotated}
use Rattle.sd_move.proofs.KnownAtEnd.{key_linked}
use Rattle.sd_move.proofs.LinkedAgain.{has_or_not}
use Rattle.sd_move.proofs.RewrittenRecorded.{KeepLists, none_started, distinct_both, unnamed_apart, first_distinct}
use Rattle.sd_move.proofs.Waiting.{times_permuted, member_times, times_member, once_times, times_once}
use Rattle.sd_move.proofs.RewrittenAll.{member_first, member_second}

-- the entries of nodes that keep their lists

numbers_placed : (p : ℕ) (ns : List ℕ) → numbers_of (map (place_entry p) ns) ≡ ns
numbers_placed p [] = refl
numbers_placed p (n ∷ ns) = ap (λ l. n ∷ l) (numbers_placed p ns)

pub placed_keep : (p q : ℕ) (ns ms : List ℕ) → KeepLists (map (place_entry p) ns ++ map (place_entry q) ms)
placed_keep p q [] [] = tt
placed_keep p q [] (m ∷ ms) = (refl, placed_keep p q [] ms)
placed_keep p q (n ∷ ns) ms = (refl, placed_keep p q ns ms)

distinct_placed : (p : ℕ) (ns : List ℕ) → HasNoCopies ns → AreDistinct (numbers_of (map (place_entry p) ns))
distinct_placed p ns once =
    subst AreDistinct (sym (numbers_placed p ns))
    (first_distinct ns [] (subst HasNoCopies (sym (append-nil ns)) once))

member_placed : (p n : ℕ) (ns : List ℕ) → IsMember n (numbers_of (map (place_entry p) ns)) → IsMember n ns
member_placed p n ns m = subst (IsMember n) (numbers_placed p ns) m

placed_member : (p n : ℕ) (ns : List ℕ) → IsMember n ns → IsMember n (numbers_of (map (place_entry p) ns))
placed_member p n ns m = subst (IsMember n) (sym (numbers_placed p ns)) m

-- what holds of the nodes of two places holds of their entries
all_placed : (P : Named → Type 0) (p q : ℕ) (ns ms : List ℕ) → ((n : ℕ) → IsMember n ns → P (place_entry p n)) →
    ((n : ℕ) → IsMember n ms → P (place_entry q n)) →
    AllByRecursion P (map (place_entry p) ns ++ map (place_entry q) ms)
all_placed P p q [] [] f g = tt
all_placed P p q [] (m ∷ ms) f g = (g m (inl refl), all_placed P p q [] ms f (λ n z. g n (inr z)))
all_placed P p q (n ∷ ns) ms f g = (f n (inl refl), all_placed P p q ns ms (λ k z. f k (inr z)) g)

module _ (old m new : Table) (side : Side) (x w : ℕ) (upper lower left : List ℕ) (u : Numbered) (a b : List Named)
    (p q : List ℕ) (c : CanRotate old m side x w upper lower u)
    (r : HasRotated m new side x w upper lower left a b p q) (tn : IsTable new) where
  s : AreSorted r.between new side x w upper r.sorted.moved r.sorted.kept r.sorted.waits left
  s = r.sorted.sorted

  -- a node of the lower place was linked there, and is linked at the upper one
  lower_then : (n : ℕ) → IsMember n lower →
      (list : List (ℕ × ℕ)) × (get old.linked n ≡ Some (w, list)) × (get c.detached.between.linked n ≡ Some (w, list))
      × (get m.detached n ≡ Some (w, list))
  lower_then n z =
      let k = c.detached.second.each n z in
      (k.list, c.detached.first.still n (w, k.list) k.was, k.was, k.is)

  -- one of the upper place was linked there, and is detached before the sorting
  upper_then : (n : ℕ) → IsMember n upper →
      (list : List (ℕ × ℕ)) × (get old.linked n ≡ Some (x, list)) × (get r.between.detached n ≡ Some (x, list))
  upper_then n z =
      let k = c.detached.first.each n z in
      let out : ¬ IsMember n lower = λ y.
      let l = lower_then n y in none-some (x, k.list) (sym (c.detached.table.either n (w, l.0) l.2) ∙ k.is) in
      (k.list, k.was, (r.linked.others n out).1 ∙ c.detached.second.stay n (x, k.list) k.is)

  lower_apart : (n : ℕ) → IsMember n lower → ¬ IsMember n upper
  lower_apart n z y =
      let l = lower_then n z in
      none-some (x, (upper_then n y).0)
      (sym (r.linked.gone n z) ∙ (upper_then n y).2)

  lower_now : (n : ℕ) → IsMember n lower → (list : List (ℕ × ℕ)) → get m.detached n ≡ Some (w, list) →
      get new.linked n ≡ Some (x, list)
  lower_now n z list e = (s.others n (lower_apart n z)).0 ∙ r.linked.each n (w, list) z e

  -- each node of the upper place was sorted or is left
  all_times : (n : ℕ) →
      times n upper ≡ times n r.sorted.moved + (times n r.sorted.kept + (times n r.sorted.waits + times n left))
  all_times n =
      omega (
        arith,
        times_permuted n upper (r.sorted.moved ++ (r.sorted.kept ++ (r.sorted.waits ++ left))) s.parts,
        times_append n r.sorted.moved (r.sorted.kept ++ (r.sorted.waits ++ left)),
        times_append n r.sorted.kept (r.sorted.waits ++ left),
        times_append n r.sorted.waits left,
      )

  moved_within : (n : ℕ) → IsMember n r.sorted.moved → IsMember n upper
  moved_within n z = times_member n upper (omega (arith, member_times n r.sorted.moved z, all_times n))

  moved_once : HasNoCopies r.sorted.moved
  moved_once = times_once r.sorted.moved (λ n. omega (arith, once_times upper c.detached.first.once n, all_times n))

  moved_now : (n : ℕ) → IsMember n r.sorted.moved →
      (list : List (ℕ × ℕ)) × (get old.linked n ≡ Some (x, list)) × (get new.linked n ≡ Some (w, list))
  moved_now n z =
      let k = s.lower n z in
      let l = upper_then n (moved_within n z) in
      (l.0, l.1, k.is ∙ ap (λ (y : ℕ × List (ℕ × ℕ)). Some (w, y.1)) (same_Some k.key (x, l.0) (sym k.was ∙ l.2)))

  -- their entries
  raised_entry : (n : ℕ) → IsMember n lower → IsRecorded old new x (Some w) (place_entry w n)
  raised_entry n z =
      let l = lower_then n z in
      let now = lower_now n z l.0 l.3 in
      record {
        place = x;
        list = l.0;
        former = l.0;
        linked = now;
        here = inl refl;
        was = l.1;
        before = inr refl;
        back = ap (option_map with_place) now;
        run = λ start count f. absurd (none-some (start, count) f);
        rewritten = λ z. absurd (cc (z));
      }
    where
      with_place : ℕ × List (ℕ × ℕ) → ℕ × List (ℕ × ℕ)
      with_place k = (w, k.1)

  lowered_entry : (n : ℕ) → IsMember n r.sorted.moved → IsRecorded old new x (Some w) (place_entry x n)
  lowered_entry n z =
      let l = moved_now n z in
      record {
        place = w;
        list = l.0;
        former = l.0;
        linked = l.2;
        here = inr refl;
        was = l.1;
        before = inl refl;
        back = ap (option_map with_place) l.2;
        run = λ start count f. absurd (none-some (start, count) f);
        rewritten = λ z. absurd (cc (z));
      }
    where
      with_place : ℕ × List (ℕ × ℕ) → ℕ × List (ℕ × ℕ)
      with_place k = (x, k.1)

  -- the entries
  abbrev pub named_now : List Named
  named_now = map (place_entry w) lower ++ map (place_entry x) r.sorted.moved

  -- a detached node of the upper place has its key
  waits_key : (n : ℕ) → IsMember n r.sorted.waits ⊎ IsMember n left → (k : ℕ × List (ℕ × ℕ)) →
      get r.between.detached n ≡ Some k → get new.detached n ≡ Some k
  waits_key n (inl z) k e = let d = s.waits n z in d.is ∙ sym d.was ∙ e
  waits_key n (inr z) k e = let d = s.stays n z in d.is ∙ sym d.was ∙ e

  -- what was sorted of the upper nodes
  sorts : (n : ℕ) → IsMember n upper →
      IsMember n r.sorted.moved ⊎ (IsMember n r.sorted.kept ⊎ (IsMember n r.sorted.waits ⊎ IsMember n left))
  sorts n z = elim (cases_lt 0 (times n r.sorted.moved)) [
    | inl h ↦ inl (times_member n r.sorted.moved (omega (arith, h)))
    | inr none ↦ elim (cases_lt 0 (times n r.sorted.kept)) [
      | inl h ↦ inr (inl (times_member n r.sorted.kept (omega (arith, h))))
      | inr none' ↦ elim (cases_lt 0 (times n r.sorted.waits)) [
        | inl h ↦ inr (inr (inl (times_member n r.sorted.waits (omega (arith, h)))))
        | inr none'' ↦ inr (inr (inr (times_member n left
            (omega (arith, member_times n upper z, all_times n, none, none', none'')))))
      ]
    ]
  ]

  -- a node of neither place has the key that it had
  beside_same : (n : ℕ) → ¬ IsMember n lower → ¬ IsMember n upper → key_at new n ≡ key_at (moving_at old x) n
  beside_same n out out' =
      let same = s.others n out' in
      let then = r.linked.others n out in
      ap (λ o. or_else o (get new.detached n)) (same.0 ∙ then.0)
      ∙ ap (λ o. or_else (get m.linked n) o) (same.1 ∙ then.1)
      ∙ c.detached.second.keys n ∙ c.detached.first.keys n

  -- so each node was linked in the table of the begin
  pub was_there : (n : ℕ) → IsSome (key_at new n) → IsSome (get old.linked n)
  was_there n some = elim (has_or_not n lower) [
    | inl z ↦ subst IsSome (sym (lower_then n z).1) refl
    | inr out ↦ elim (has_or_not n upper) [
      | inl z ↦ subst IsSome (sym (upper_then n z).1) refl
      | inr out' ↦ key_linked old (c.first.at_rest c.no_move) n (subst IsSome (beside_same n out out') some)
    ]
  ]

  unnamed : (n : ℕ) (k : ℕ × List (ℕ × ℕ)) → journal_entry named_now n ≡ None → get old.linked n ≡ Some k →
      key_at new n ≡ Some k
  unnamed n k none e = elim (has_or_not n lower) [
    | inl z ↦ absurd (unnamed_apart named_now n none
        (member_first (map (place_entry w) lower) (map (place_entry x) r.sorted.moved) n (placed_member w n lower z)))
    | inr out ↦ elim (has_or_not n upper) [
      | inr out' ↦ beside_same n out out' ∙ linked_key (moving_at old x) n k e
      | inl z ↦ here z (sorts n z)
    ]
  ]
    where
      here : IsMember n upper →
          IsMember n r.sorted.moved ⊎ (IsMember n r.sorted.kept ⊎ (IsMember n r.sorted.waits ⊎ IsMember n left)) →
          key_at new n ≡ Some k
      here z (inl y) =
          absurd (unnamed_apart named_now n none
          (member_second (map (place_entry w) lower) (map (place_entry x) r.sorted.moved) n
          (placed_member x n r.sorted.moved y)))
      here z (inr (inl y)) =
          let l = upper_then n z in
          let d = s.upper n y in
          linked_key new n k
          (d.is ∙ ap (λ (i : ℕ × List (ℕ × ℕ)). Some (x, i.1)) (same_Some d.key (x, l.0) (sym d.was ∙ l.2))
          ∙ sym l.1 ∙ e)
      here z (inr (inr y)) =
          let l = upper_then n z in
          detached_key new tn n k (waits_key n y k (l.2 ∙ sym l.1 ∙ e))

  loose_now : new.loose ≡ old.loose
  loose_now =
      ap (λ (t : Table). t.loose) s.same ∙ ap (λ (t : Table). t.loose) r.linked.same
      ∙ ap (λ (t : Table). t.loose) c.detached.second.same ∙ ap (λ (t : Table). t.loose) c.detached.first.same

  pub keep_lists : KeepLists named_now
  keep_lists = placed_keep w x lower r.sorted.moved

  recorded : AreRecorded old new x (Some w) named_now
  recorded =
      record {
        entries = all_placed (IsRecorded old new x (Some w)) w x lower r.sorted.moved raised_entry lowered_entry;
        numbers_once =
            distinct_both (map (place_entry w) lower) (map (place_entry x) r.sorted.moved)
            (distinct_placed w lower c.detached.second.once) (distinct_placed x r.sorted.moved moved_once)
            (λ n y z. lower_apart n (member_placed w n lower y) (moved_within n (member_placed x n r.sorted.moved z)));
        runs_once = subst AreDistinct (sym (none_started named_now keep_lists)) tt;
        unnamed = λ n k none e. unnamed n k none e;
        loose = ap (without_runs new.loose) (none_started named_now keep_lists) ∙ loose_now;
      }

  -- a detached node stands at the upper place, where it was linked
  pub detached_first : ((n : ℕ) → IsSome (get r.between.detached n) → IsMember n upper) → (n : ℕ)
      (k : ℕ × List (ℕ × ℕ)) → get new.detached n ≡ Some k → (k.0 ≡ x) × (get old.linked n ≡ Some k)
  detached_first only n k e = elim (has_or_not n upper) [
    | inr out ↦ absurd (out (only n (subst IsSome (sym (sym (s.others n out).1 ∙ e)) refl)))
    | inl z ↦ here z (sorts n z)
  ]
    where
      here : IsMember n upper →
          IsMember n r.sorted.moved ⊎ (IsMember n r.sorted.kept ⊎ (IsMember n r.sorted.waits ⊎ IsMember n left)) →
          (k.0 ≡ x) × (get old.linked n ≡ Some k)
      here z (inl y) = absurd (none-some k (sym (s.lower n y).gone ∙ e))
      here z (inr (inl y)) = absurd (none-some k (sym (s.upper n y).gone ∙ e))
      here z (inr (inr y)) =
          let l = upper_then n z in
          let same : (x, l.0) ≡ k = same_Some (x, l.0) k (sym (waits_key n y (x, l.0) l.2) ∙ e) in
          (sym (ap (λ (i : ℕ × List (ℕ × ℕ)). i.0) same), l.1 ∙ ap Some same)

  -- The entries tell what was changed, where the lower nodes were entered first.
  module _ (entered : a ≡ map (place_entry w) lower) where
    pub named_is : b ≡ named_now
    named_is = r.sorted.entered ∙ ap (λ l. l ++ map (place_entry x) r.sorted.moved) entered

    pub rotation_recorded : AreRecorded old new x (Some w) b
    rotation_recorded = subst (AreRecorded old new x (Some w)) (sym named_is) recorded

    pub rotation_keeps : KeepLists b
    rotation_keeps = subst KeepLists (sym named_is) keep_lists
