-- Nodes that were rewritten make entries: with those from before they tell what a move has changed.
use Rattle.std.proofs.Common.{◌≡◌, ◌≢◌, ◌⊎◌, inl, inr, ℕ, List, [], ◌∷◌, ◌++◌, Option, Some, None}
use Rattle.std.proofs.Common.{length, refl, sym, ◌∙◌, ap, subst, eq-eqb, ne_eqb, if◌then◌else◌}
use Rattle.std.specs.List.{AllByRecursion}
use Rattle.std.specs.Option.{IsSome, option_map}
use Rattle.std.specs.Ordering.{nat_cmp}
use Rattle.std.specs.FinMap.{FinMap, get, remove}
use Rattle.std.proofs.lemmas.Bool.{cases_eq}
use Rattle.std.proofs.lemmas.Option.{none-some, some_pair_parts}
use Rattle.sd_model.specs.Tree.{AreDistinct}
use Rattle.sd_runs.specs.Arena.{IsMember, HasNoCopies}
use Rattle.sd_runs.proofs.Maps.{same_at_each, get_remove_same}
use Rattle.sd_manager.specs.Table.{Table, key_at}
use Rattle.sd_manager.specs.Valid.{IsTable}
use Rattle.sd_manager.proofs.Reading.{linked_key, detached_key}
use Rattle.sd_move.specs.Journal.{Named, journal_entry, key_before, with_start, starts_of, without_runs}
use Rattle.sd_move.specs.Recorded.{IsRecorded, AreRecorded}
use Rattle.sd_move.specs.GoingBack.{numbers_of}
use Rattle.sd_move.specs.Rewriting.{WasRewritten, AreRewritten}
use Rattle.sd_move.proofs.LinkedAgain.{has_or_not}
use Rattle.sd_move.proofs.Recorded.{own_entry, member_own, without_other}
use Rattle.sd_move.proofs.Returning.{linked_or_detached}
use Rattle.sd_move.proofs.ThereAndBack.{own_start}

-- lists of entries

-- a number that is not named is none of the entries'
pub unnamed_apart : (es : List Named) (n : ℕ) → journal_entry es n ≡ None → ¬ IsMember n (numbers_of es)
unnamed_apart [] n none h = h
unnamed_apart (e ∷ es) n none h = elim (cases_eq e.number n) [
  | inl k ↦ absurd
      (none-some e (sym none ∙ ap (λ b. if b then Some e else journal_entry es n) (eq-eqb e.number n k)))
  | inr d ↦ later d h
      (unnamed_apart es n
      (sym (ap (λ b. if b then Some e else journal_entry es n) (ne_eqb e.number n d)) ∙ none))
]
  where
    later : (e.number ≡ n → ⊥) → IsMember n (numbers_of (e ∷ es)) → ¬ IsMember n (numbers_of es) → ⊥
    later d (inl k) out = d k
    later d (inr k) out = out k

-- the first of numbers that are all different are so
pub first_distinct : (xs ys : List ℕ) → HasNoCopies (xs ++ ys) → AreDistinct xs
first_distinct [] ys once = tt
first_distinct (x ∷ xs) ys once = (apart xs (λ m. once.0 m), first_distinct xs ys once.1)
  where
    apart : (zs : List ℕ) → ¬ IsMember x (zs ++ ys) → AllByRecursion (λ y. x ≢ y) zs
    apart [] out = tt
    apart (z ∷ zs) out = (λ e. out (inl (sym e)), apart zs (λ m. out (inr m)))

-- no run begins at one of the starts that are taken away
pub without_member : (loose : FinMap nat_cmp (List (ℕ × ℕ))) (starts : List ℕ) (s : ℕ) → IsMember s starts →
    get (without_runs loose starts) s ≡ None
without_member loose [] s h = absurd h
without_member loose (m ∷ ms) s h = go (λ k. without_member (remove loose m) ms s k) (has_or_not s ms) h
  where
    go : (IsMember s ms → get (without_runs (remove loose m) ms) s ≡ None) → IsMember s ms ⊎ (¬ IsMember s ms) →
        IsMember s (m ∷ ms) → get (without_runs (remove loose m) ms) s ≡ None
    go on (inl k) h = on k
    go on (inr out) (inr k) = absurd (out k)
    go on (inr out) (inl k) =
        without_other (remove loose m) ms s out ∙ ap (get (remove loose m)) (sym k) ∙ get_remove_same loose m

-- the entries have no runs
abbrev pub KeepLists : List Named → Type 0
KeepLists es = AllByRecursion (λ (e : Named). e.run ≡ None) es

-- so there is none before those of others
pub no_starts : (es fs : List Named) → KeepLists es → starts_of (es ++ fs) ≡ starts_of fs
no_starts [] fs k = refl
no_starts (e ∷ es) fs k = ap (λ o. with_start o (starts_of (es ++ fs))) k.0 ∙ no_starts es fs k.1

pub none_started : (es : List Named) → KeepLists es → starts_of es ≡ []
none_started [] k = refl
none_started (e ∷ es) k = ap (λ o. with_start o (starts_of es)) k.0 ∙ none_started es k.1

-- a number that two lists don't name is not named by the first
pub none_first : (es fs : List Named) (n : ℕ) → journal_entry (es ++ fs) n ≡ None → journal_entry es n ≡ None
none_first [] fs n h = refl
none_first (e ∷ es) fs n h = elim (cases_eq e.number n) [
  | inl k ↦ absurd
      (none-some e (sym h ∙ ap (λ b. if b then Some e else journal_entry (es ++ fs) n) (eq-eqb e.number n k)))
  | inr d ↦ ap (λ b. if b then Some e else journal_entry es n) (ne_eqb e.number n d)
      ∙ none_first es fs n (sym (ap (λ b. if b then Some e else journal_entry (es ++ fs) n) (ne_eqb e.number n d)) ∙ h)
]

-- nor by the second
pub none_second : (es fs : List Named) (n : ℕ) → journal_entry (es ++ fs) n ≡ None → journal_entry fs n ≡ None
none_second [] fs n h = h
none_second (e ∷ es) fs n h = elim (cases_eq e.number n) [
  | inl k ↦ absurd
      (none-some e (sym h ∙ ap (λ b. if b then Some e else journal_entry (es ++ fs) n) (eq-eqb e.number n k)))
  | inr d ↦ none_second es fs n
      (sym (ap (λ b. if b then Some e else journal_entry (es ++ fs) n) (ne_eqb e.number n d)) ∙ h)
]

-- numbers of two lists that have none in common are all different
pub distinct_both : (es fs : List Named) → AreDistinct (numbers_of es) → AreDistinct (numbers_of fs) →
    ((n : ℕ) → IsMember n (numbers_of es) → ¬ IsMember n (numbers_of fs)) → AreDistinct (numbers_of (es ++ fs))
distinct_both [] fs p q d = q
distinct_both (e ∷ es) fs p q d = (apart es p.0, distinct_both es fs p.1 q (λ n m. d n (inr m)))
  where
    beside : (gs : List Named) → ¬ IsMember e.number (numbers_of gs) →
        AllByRecursion (λ y. e.number ≢ y) (numbers_of gs)
    beside [] out = tt
    beside (g ∷ gs) out = (λ z. out (inl (sym z)), beside gs (λ m. out (inr m)))

    apart : (gs : List Named) → AllByRecursion (λ y. e.number ≢ y) (numbers_of gs) →
        AllByRecursion (λ y. e.number ≢ y) (numbers_of (gs ++ fs))
    apart [] k = beside fs (d e.number (inl refl))
    apart (g ∷ gs) k = (k.0, apart gs k.1)

module _ (m0 old new : Table) (x : ℕ) (lower : Option ℕ) (named entries : List Named) (told : IsTable old)
    (tnew : IsTable new) (was : (n : ℕ) (k : ℕ × List (ℕ × ℕ)) → get old.detached n ≡ Some k → get m0.linked n ≡ Some k)
    (before : AreRecorded m0 old x lower named) (kept : KeepLists named) (a : AreRewritten old new x entries)
    (once : AreDistinct (numbers_of entries)) where
  -- an entry with no run tells the same still
  still : (e : Named) → IsRecorded m0 old x lower e → e.run ≡ None → IsRecorded m0 new x lower e
  still e k none =
      record {
        place = k.place;
        list = k.list;
        former = k.former;
        linked = a.nodes e.number (k.place, k.list) k.linked;
        here = k.here;
        was = k.was;
        before = k.before;
        back =
            ap (key_before new e.number e.place) none
            ∙ ap (option_map with_place) (a.nodes e.number (k.place, k.list) k.linked ∙ sym k.linked)
            ∙ sym (ap (key_before old e.number e.place) none) ∙ k.back;
        run = λ start count f. absurd (none-some (start, count) (sym none ∙ f));
        rewritten = λ s. absurd (cc (subst IsSome none s));
      }
    where
      with_place : ℕ × List (ℕ × ℕ) → ℕ × List (ℕ × ℕ)
      with_place k = (e.place, k.1)

  -- one of a node that was rewritten is right
  added : (e : Named) → WasRewritten old new x e → IsRecorded m0 new x lower e
  added e w =
      record {
        place = x;
        list = w.list;
        former = w.former;
        linked = w.is;
        here = inl refl;
        was = was e.number (x, w.former) w.was ∙ ap (λ p. Some (p, w.former)) (sym w.at);
        before = inl w.at;
        back = ap (key_before new e.number e.place) w.run ∙ ap (option_map with_list) w.loose;
        run = λ start count f. has_run start count f;
        rewritten = λ s. (refl, w.at);
      }
    where
      with_list : List (ℕ × ℕ) → ℕ × List (ℕ × ℕ)
      with_list list = (e.place, list)

      has_run : (start count : ℕ) → e.run ≡ Some (start, count) →
          (former : List (ℕ × ℕ)) × (get new.loose start ≡ Some former) × (length former ≡ count)
      has_run start count f =
          let p = some_pair_parts w.start start (length w.former) count (sym w.run ∙ f) in
          (w.former, ap (get new.loose) (sym p.0) ∙ w.loose, p.1)

  all_added : (fs : List Named) → AllByRecursion (WasRewritten old new x) fs →
      AllByRecursion (IsRecorded m0 new x lower) fs
  all_added [] h = tt
  all_added (e ∷ fs) h = (added e h.0, all_added fs h.1)

  all_right : (es : List Named) → AllByRecursion (IsRecorded m0 old x lower) es → KeepLists es →
      AllByRecursion (IsRecorded m0 new x lower) (es ++ entries)
  all_right [] h k = all_added entries a.each
  all_right (e ∷ es) h k = (still e h.0 k.0, all_right es h.1 k.1)

  -- a number from before is of a node that was linked, one that is added of a node that was detached
  was_linked : (es : List Named) → AllByRecursion (IsRecorded m0 old x lower) es → (n : ℕ) →
      IsMember n (numbers_of es) → (k : ℕ × List (ℕ × ℕ)) × (get old.linked n ≡ Some k)
  was_linked [] h n m = absurd m
  was_linked (e ∷ es) h n (inl z) =
      ((h.0.place, h.0.list), subst (λ i. get old.linked i ≡ Some (h.0.place, h.0.list)) z h.0.linked)
  was_linked (e ∷ es) h n (inr m) = was_linked es h.1 n m

  was_detached : (fs : List Named) → AllByRecursion (WasRewritten old new x) fs → (n : ℕ) →
      IsMember n (numbers_of fs) → (k : ℕ × List (ℕ × ℕ)) × (get old.detached n ≡ Some k)
  was_detached [] h n m = absurd m
  was_detached (e ∷ fs) h n (inl z) =
      ((x, h.0.former), subst (λ i. get old.detached i ≡ Some (x, h.0.former)) z h.0.was)
  was_detached (e ∷ fs) h n (inr m) = was_detached fs h.1 n m

  none_twice : (n : ℕ) → IsMember n (numbers_of named) → ¬ IsMember n (numbers_of entries)
  none_twice n m i =
      let p = was_linked named before.entries n m in
      let q = was_detached entries a.each n i in
      none-some q.0 (sym (told.either n p.0 p.1) ∙ q.1)

  -- a node that is not named has its key
  unnamed : (n : ℕ) (k : ℕ × List (ℕ × ℕ)) → journal_entry (named ++ entries) n ≡ None → get m0.linked n ≡ Some k →
      key_at new n ≡ Some k
  unnamed n k none e = go (linked_or_detached old n k (before.unnamed n k (none_first named entries n none) e))
    where
      go : (get old.linked n ≡ Some k) ⊎ (get old.detached n ≡ Some k) → key_at new n ≡ Some k
      go (inl f) = linked_key new n k (a.nodes n k f)
      go (inr f) =
          detached_key new tnew n k (a.waiting n (unnamed_apart entries n (none_second named entries n none)) ∙ f)

  loose_first : old.loose ≡ m0.loose
  loose_first = sym (ap (without_runs old.loose) (none_started named kept)) ∙ before.loose

  -- the loose runs are those from before and the entries'
  runs : (s : ℕ) → get (without_runs new.loose (starts_of entries)) s ≡ get m0.loose s
  runs s = go (has_or_not s (starts_of entries))
    where
      go : IsMember s (starts_of entries) ⊎ (¬ IsMember s (starts_of entries)) →
          get (without_runs new.loose (starts_of entries)) s ≡ get m0.loose s
      go (inl h) =
          let k = own_entry entries (WasRewritten old new x) a.each s (member_own entries s h) in
          let p = some_pair_parts k.1.start s (length k.1.former) k.2.0 (sym k.1.run ∙ k.2.1) in
          without_member new.loose (starts_of entries) s h
          ∙ sym (ap (λ z. get z s) (sym loose_first) ∙ ap (get old.loose) (sym p.0) ∙ k.1.fresh)
      go (inr out) =
          without_other new.loose (starts_of entries) s out
          ∙ a.other_runs s (λ own. out (own_start entries s own)) ∙ ap (λ z. get z s) loose_first

  -- So both together tell what was changed.
  pub rewritten_recorded : AreRecorded m0 new x lower (named ++ entries)
  rewritten_recorded =
      record {
        entries = all_right named before.entries kept;
        numbers_once = distinct_both named entries before.numbers_once once none_twice;
        runs_once = subst AreDistinct (sym (no_starts named entries kept)) a.runs_once;
        unnamed = λ n k none e. unnamed n k none e;
        loose = ap (without_runs new.loose) (no_starts named entries kept) ∙ same_at_each _ _ runs;
      }
