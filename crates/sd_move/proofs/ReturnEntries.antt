-- The entries of a move on its way back, one after the other.
use Rattle.std.proofs.Common.{◌≡◌, ◌≢◌, ◌⊎◌, inl, inr, ℕ, List, [], ◌∷◌, Option, Some, None}
use Rattle.std.proofs.Common.{sym, ◌∙◌, ap, subst}
use Rattle.std.specs.List.{AllByRecursion}
use Rattle.std.specs.Option.{IsSome}
use Rattle.std.specs.FinMap.{get, remove}
use Rattle.std.proofs.lemmas.Bool.{cases_eq}
use Rattle.std.proofs.lemmas.Option.{same_Some}
use Rattle.sd_model.specs.Tree.{AreDistinct}
use Rattle.sd_runs.specs.Arena.{IsMember}
use Rattle.sd_runs.proofs.Maps.{get_remove_same, get_remove_other}
use Rattle.sd_manager.specs.Table.{Table}
use Rattle.sd_move.specs.Journal.{Named, journal_entry, starts_of, with_start, without_runs}
use Rattle.sd_move.specs.GoingBack.{Return, IsListed, KeptWait, RewrittenWait, KeepsRun, numbers_of, AreEntriesLeft}

-- numbers that are apart

-- a number that is removed is gone
removed_not : (m : Table) (n i : ℕ) → IsSome (get (remove m.detached n) i) → (i ≢ n) × IsSome (get m.detached i)
removed_not m n i h = elim (cases_eq i n) [
  | inl z ↦ absurd (cc (subst IsSome (ap (get (remove m.detached n)) z ∙ get_remove_same m.detached n) h))
  | inr d ↦ (d, subst IsSome (get_remove_other m.detached n i d) h)
]

-- an entry that is not of this number waits still
still_waits : (now new : Table) (n i : ℕ) → new.detached ≡ remove now.detached n → i ≢ n →
    IsSome (get now.detached i) → IsSome (get new.detached i)
still_waits now new n i is d h =
    subst IsSome (sym (ap (λ m. get m i) is ∙ get_remove_other now.detached n i d)) h

-- and those whose numbers are other ones do
kept_wait : (now new : Table) (n : ℕ) (es : List Named) → new.detached ≡ remove now.detached n →
    AllByRecursion (λ (e : Named). e.run ≡ None → e.number ≢ n) es → KeptWait now es → KeptWait new es
kept_wait now new n [] is apart h = tt
kept_wait now new n (e ∷ es) is apart h = (
  λ none. still_waits now new n e.number is (apart.0 none) (h.0 none),
  kept_wait now new n es is apart.1 h.1,
)

rewritten_wait : (now new : Table) (n : ℕ) (es : List Named) → new.detached ≡ remove now.detached n →
    AllByRecursion (λ (e : Named). IsSome e.run → e.number ≢ n) es → RewrittenWait now es → RewrittenWait new es
rewritten_wait now new n [] is apart h = tt
rewritten_wait now new n (e ∷ es) is apart h = (
  λ some. still_waits now new n e.number is (apart.0 some) (h.0 some),
  rewritten_wait now new n es is apart.1 h.1,
)

-- the numbers of other entries are other ones
numbers_apart : (P : Named → Type 0) (n : ℕ) (es : List Named) → AllByRecursion (λ y. n ≢ y) (numbers_of es) →
    AllByRecursion (λ (e : Named). P e → e.number ≢ n) es
numbers_apart P n [] h = tt
numbers_apart P n (e ∷ es) h = (λ p z. h.0 (sym z), numbers_apart P n es h.1)

-- two listed entries of one number are one
one_entry : (r : Return) (e f : Named) → IsListed r e → IsListed r f → f.number ≡ e.number → f ≡ e
one_entry r e f a b z = same_Some f e (sym b.own ∙ ap (journal_entry r.named) z ∙ a.own)

-- so those of another kind have other numbers
kinds_apart : (r : Return) (P : Named → Type 0) (e : Named) (es : List Named) → IsListed r e → (P e → ⊥) →
    AllByRecursion (IsListed r) es → AllByRecursion (λ (f : Named). P f → f.number ≢ e.number) es
kinds_apart r P e [] a not b = tt
kinds_apart r P e (f ∷ es) a not b = (
  λ p z. not (subst P (one_entry r e f a b.0 z) p),
  kinds_apart r P e es a not b.1,
)

-- runs

-- the runs of entries that begin elsewhere stay as they are
pub runs_still : (before now new : Table) (start : ℕ) (rest : List Named) → new.loose ≡ remove now.loose start →
    AllByRecursion (λ y. start ≢ y) (starts_of rest) → AllByRecursion (KeepsRun before now) rest →
    AllByRecursion (KeepsRun before new) rest
runs_still before now new start [] is apart h = tt
runs_still before now new start (e ∷ rest) is apart h = (
  λ s count run.
      let other : start ≢ s =
      (subst (λ o. AllByRecursion (λ y. start ≢ y) (with_start o (starts_of rest))) run apart).0 in
      ap (λ l. get l s) is ∙ get_remove_other now.loose start s (λ z. other (sym z)) ∙ h.0 s count run,
  runs_still before now new start rest is (tail e.run apart) h.1,
)
  where
    tail : (o : Option (ℕ × ℕ)) → AllByRecursion (λ y. start ≢ y) (with_start o (starts_of rest)) →
        AllByRecursion (λ y. start ≢ y) (starts_of rest)
    tail None a = a
    tail (Some run) a = a.1

-- and so do all of them where the loose runs do
pub runs_same : (before now new : Table) (es : List Named) → new.loose ≡ now.loose →
    AllByRecursion (KeepsRun before now) es → AllByRecursion (KeepsRun before new) es
runs_same before now new [] is h = tt
runs_same before now new (e ∷ es) is h = (
  λ s count run. ap (λ l. get l s) is ∙ h.0 s count run,
  runs_same before now new es is h.1,
)

-- the steps

module _ (r : Return) (now : Table) (e : Named) (rest second : List Named)
    (s : AreEntriesLeft r now (e ∷ rest) second) where
  -- an entry of the first list that has a run is passed
  pub first_passed : IsSome e.run → AreEntriesLeft r now rest second
  first_passed some =
      record {
        listed_first = s.listed_first.1;
        listed_second = s.listed_second;
        once_first = s.once_first.1;
        once_second = s.once_second;
        wait_first = s.wait_first.1;
        wait_second = s.wait_second;
        left = λ n f own d. left n f own (s.left n f own d);
        runs_once = s.runs_once;
        runs = s.runs;
        loose = s.loose;
      }
    where
      left : (n : ℕ) (f : Named) → journal_entry r.named n ≡ Some f →
          ((f.run ≡ None) × IsMember n (numbers_of (e ∷ rest))) ⊎ (IsSome f.run × IsMember n (numbers_of second)) →
          ((f.run ≡ None) × IsMember n (numbers_of rest)) ⊎ (IsSome f.run × IsMember n (numbers_of second))
      left n f own (inr h) = inr h
      left n f own (inl (none, inr m)) = inl (none, m)
      left n f own (inl (none, inl z)) =
          let same : e ≡ f = same_Some e f (sym s.listed_first.0.own ∙ ap (journal_entry r.named) z ∙ own) in
          absurd (cc (subst IsSome (ap (λ (y : Named). y.run) same ∙ none) some))

  -- one that has none is linked
  pub first_linked : e.run ≡ None → (new : Table) → new.detached ≡ remove now.detached e.number →
      new.loose ≡ now.loose → AreEntriesLeft r new rest second
  first_linked none new is loose =
      record {
        listed_first = s.listed_first.1;
        listed_second = s.listed_second;
        once_first = s.once_first.1;
        once_second = s.once_second;
        wait_first = kept_wait now new e.number rest is
            (numbers_apart (λ (f : Named). f.run ≡ None) e.number rest s.once_first.0) s.wait_first.1;
        wait_second = rewritten_wait now new e.number second is
            (kinds_apart r (λ (f : Named). IsSome f.run) e second s.listed_first.0
            (λ some. cc (subst IsSome none some)) s.listed_second) s.wait_second;
        left = λ n f own d.
            let w = removed_not now e.number n (subst (λ m. IsSome (get m n)) is d) in
            left n f own w.0 (s.left n f own w.1);
        runs_once = s.runs_once;
        runs = runs_same r.before now new second loose s.runs;
        loose = ap (λ l. without_runs l (starts_of second)) loose ∙ s.loose;
      }
    where
      left : (n : ℕ) (f : Named) → journal_entry r.named n ≡ Some f → n ≢ e.number →
          ((f.run ≡ None) × IsMember n (numbers_of (e ∷ rest))) ⊎ (IsSome f.run × IsMember n (numbers_of second)) →
          ((f.run ≡ None) × IsMember n (numbers_of rest)) ⊎ (IsSome f.run × IsMember n (numbers_of second))
      left n f own d (inr h) = inr h
      left n f own d (inl (k, inr m)) = inl (k, m)
      left n f own d (inl (k, inl z)) = absurd (d (sym z))

module _ (r : Return) (now : Table) (e : Named) (rest : List Named) (s : AreEntriesLeft r now [] (e ∷ rest)) where
  -- an entry of the second list that has no run is passed
  pub second_passed : e.run ≡ None → AreEntriesLeft r now [] rest
  second_passed none =
      record {
        listed_first = tt;
        listed_second = s.listed_second.1;
        once_first = tt;
        once_second = s.once_second.1;
        wait_first = tt;
        wait_second = s.wait_second.1;
        left = λ n f own d. left n f own (s.left n f own d);
        runs_once = subst (λ o. AreDistinct (with_start o (starts_of rest))) none s.runs_once;
        runs = s.runs.1;
        loose = subst (λ o. without_runs now.loose (with_start o (starts_of rest))
            ≡ without_runs r.before.loose (starts_of r.named)) none s.loose;
      }
    where
      left : (n : ℕ) (f : Named) → journal_entry r.named n ≡ Some f →
          ((f.run ≡ None) × IsMember n (numbers_of [])) ⊎ (IsSome f.run × IsMember n (numbers_of (e ∷ rest))) →
          ((f.run ≡ None) × IsMember n (numbers_of [])) ⊎ (IsSome f.run × IsMember n (numbers_of rest))
      left n f own (inl h) = inl h
      left n f own (inr (some, inr m)) = inr (some, m)
      left n f own (inr (some, inl z)) =
          let same : e ≡ f = same_Some e f (sym s.listed_second.0.own ∙ ap (journal_entry r.named) z ∙ own) in
          absurd (cc (subst IsSome (sym (ap (λ (y : Named). y.run) same) ∙ none) some))

  -- one that has a run is put back
  pub second_put : (start count : ℕ) → e.run ≡ Some (start, count) → (new : Table) →
      new.detached ≡ remove now.detached e.number → new.loose ≡ remove now.loose start → AreEntriesLeft r new [] rest
  second_put start count run new is loose =
      let once : AreDistinct (start ∷ starts_of rest) =
      subst (λ o. AreDistinct (with_start o (starts_of rest))) run s.runs_once in
      let same : without_runs (remove now.loose start) (starts_of rest)
      ≡ without_runs r.before.loose (starts_of r.named) =
      subst (λ o. without_runs now.loose (with_start o (starts_of rest))
      ≡ without_runs r.before.loose (starts_of r.named)) run s.loose in
      record {
        listed_first = tt;
        listed_second = s.listed_second.1;
        once_first = tt;
        once_second = s.once_second.1;
        wait_first = tt;
        wait_second = rewritten_wait now new e.number rest is
            (numbers_apart (λ (f : Named). IsSome f.run) e.number rest s.once_second.0) s.wait_second.1;
        left = λ n f own d.
            let w = removed_not now e.number n (subst (λ m. IsSome (get m n)) is d) in
            left n f own w.0 (s.left n f own w.1);
        runs_once = once.1;
        runs = runs_still r.before now new start rest loose once.0 s.runs.1;
        loose = ap (λ l. without_runs l (starts_of rest)) loose ∙ same;
      }
    where
      left : (n : ℕ) (f : Named) → journal_entry r.named n ≡ Some f → n ≢ e.number →
          ((f.run ≡ None) × IsMember n (numbers_of [])) ⊎ (IsSome f.run × IsMember n (numbers_of (e ∷ rest))) →
          ((f.run ≡ None) × IsMember n (numbers_of [])) ⊎ (IsSome f.run × IsMember n (numbers_of rest))
      left n f own d (inl h) = inl h
      left n f own d (inr (k, inr m)) = inr (k, m)
      left n f own d (inr (k, inl z)) = absurd (d (sym z))

-- where no entry is left, none of the nodes that go is named
pub none_named : (r : Return) (now new : Table) (n : ℕ) → AreEntriesLeft r now [] [] →
    new.detached ≡ remove now.detached n → new.loose ≡ now.loose → AreEntriesLeft r new [] []
none_named r now new n s is loose =
    record {
      listed_first = tt;
      listed_second = tt;
      once_first = tt;
      once_second = tt;
      wait_first = tt;
      wait_second = tt;
      left = λ i f own d. s.left i f own (removed_not now n i (subst (λ m. IsSome (get m i)) is d)).1;
      runs_once = tt;
      runs = tt;
      loose = loose ∙ s.loose;
    }
