-- A journal that is settled, one entry after the other.
use Rattle.std.proofs.Common.{◌≡◌, ◌≢◌, inl, inr, ℕ, suc, zero, ◌+◌, List, Option, [], ◌∷◌, Some, None, unwrap_or}
use Rattle.std.proofs.Common.{if◌then◌else◌, ◌==◌, eq-eqb, ne_eqb, refl, sym, ap, subst, ◌∙◌, arith}
use Rattle.std.proofs.lemmas.Bool.{cases_eq}
use Rattle.std.specs.Ordering.{nat_cmp}
use Rattle.std.specs.List.{AllByRecursion}
use Rattle.std.specs.FinMap.{FinMap, get, remove}
use Rattle.sd_model.specs.Tree.{AreDistinct}
use Rattle.sd_runs.proofs.Maps.{get_insert_same, get_insert_other, get_remove_same, get_remove_other}
use Rattle.sd_unique.specs.Inserting.{with_count}
use Rattle.sd_manager.specs.Table.{Table, free_count}
use Rattle.sd_manager.specs.Valid.{IsTable}
use Rattle.sd_manager.specs.Moving.{IsGivenBack}
use Rattle.sd_move.specs.Journal.{Journal, Named, HasLooseRun, CanSettle, IsSettledBy, starts_of, with_start}
use Rattle.sd_move.specs.Journal.{without_runs, MayGiveBack, runs_of, entries_with}

-- What is so where these entries of a journal are left: their runs are loose still, each named once, and without them
-- the loose runs are those of the table at the end.
pub record IsSettling (old now : Table) (named rest : List Named) : Type 0 where
  pub runs : AllByRecursion (HasLooseRun now) rest
  pub once : AreDistinct (starts_of rest)
  pub loose : without_runs now.loose (starts_of rest) ≡ without_runs old.loose (starts_of named)
  pub freed : (n : ℕ) → free_count now n + entries_with n rest ≡ free_count old n + entries_with n named
  pub same : now ≡ record old { loose = now.loose; free = now.free }
  pub table : IsTable now

-- at the begin all entries are left
pub settling_first : (old : Table) (j : Journal) → CanSettle j old → IsTable old → IsSettling old old j.named j.named
settling_first old j c t = record
    { runs = c.runs; once = c.once; loose = refl; freed = λ n. refl; same = refl; table = t }

-- an entry with no run is passed
pub settling_passed : (old now : Table) (named rest : List Named) (e : Named) → IsSettling old now named (e ∷ rest) →
    e.run ≡ None → IsSettling old now named rest
settling_passed old now named rest e s none =
    record {
      runs = s.runs.1;
      once = subst (λ o. AreDistinct (with_start o (starts_of rest))) none s.once;
      loose = subst (λ o. without_runs now.loose (with_start o (starts_of rest))
          ≡ without_runs old.loose (starts_of named)) none s.loose;
      freed = λ n.
          let h : free_count now n + (0 + entries_with n rest) ≡ free_count old n + entries_with n named =
          subst (λ o. free_count now n + (runs_of n o + entries_with n rest)
          ≡ free_count old n + entries_with n named) none (s.freed n) in omega (arith, h);
      same = s.same;
      table = s.table;
    }

-- the runs of entries that begin elsewhere stay loose
loose_still : (now new : Table) (start : ℕ) (rest : List Named) → new.loose ≡ remove now.loose start →
    AllByRecursion (λ y. start ≢ y) (starts_of rest) → AllByRecursion (HasLooseRun now) rest →
    AllByRecursion (HasLooseRun new) rest
loose_still now new start [] is apart h = tt
loose_still now new start (e ∷ rest) is apart h = (
  λ s count run.
      let k = h.0 s count run in
      let other : start ≢ s =
      (subst (λ o. AllByRecursion (λ y. start ≢ y) (with_start o (starts_of rest))) run apart).0 in
      (k.0, ap (λ l. get l s) is ∙ get_remove_other now.loose start s (λ z. other (sym z)) ∙ k.1, k.2),
  loose_still now new start rest is (tail e.run apart) h.1,
)
  where
    tail : (o : _) → AllByRecursion (λ y. start ≢ y) (with_start o (starts_of rest)) →
        AllByRecursion (λ y. start ≢ y) (starts_of rest)
    tail None a = a
    tail (Some run) a = a.1

-- the count at a key, and at another one
count_same : (m : FinMap nat_cmp ℕ) (count k : ℕ) → unwrap_or (get (with_count m count k) count) 0 ≡ k
count_same m count zero = ap (λ o. unwrap_or o 0) (get_remove_same m count)
count_same m count (suc k) = ap (λ o. unwrap_or o 0) (get_insert_same m count (suc k))

count_other : (m : FinMap nat_cmp ℕ) (count k n : ℕ) → ¬ (n ≡ count) → get (with_count m count k) n ≡ get m n
count_other m count zero n ne = get_remove_other m count n ne
count_other m count (suc k) n ne = get_insert_other m count (suc k) n ne

-- one more free run of a length
count_more : (m : FinMap nat_cmp ℕ) (count n : ℕ) →
    unwrap_or (get (with_count m count (unwrap_or (get m count) 0 + 1)) n) 0
    ≡ unwrap_or (get m n) 0 + (if count == n then 1 else 0)
count_more m count n = elim (cases_eq count n) [
  | inl e ↦ ap (λ q. unwrap_or (get (with_count m count (unwrap_or (get m count) 0 + 1)) q) 0) (sym e)
      ∙ count_same m count _
      ∙ ap (λ q. unwrap_or (get m q) 0 + 1) e
      ∙ ap (λ b. unwrap_or (get m n) 0 + (if b then 1 else 0)) (sym (eq-eqb count n e))
  | inr d ↦
      let same = ap (λ o. unwrap_or o 0) (count_other m count (unwrap_or (get m count) 0 + 1) n (λ z. d (sym z))) in
      let none = ap (λ b. unwrap_or (get m n) 0 + (if b then 1 else 0)) (ne_eqb count n d) in
      omega (arith, same, none)
]

-- and the run of an entry is given back
pub settling_given : (old now new : Table) (named rest : List Named) (e : Named) (start count : ℕ) →
    IsSettling old now named (e ∷ rest) → e.run ≡ Some (start, count) → IsGivenBack now new start count →
    IsTable new → IsSettling old new named rest
settling_given old now new named rest e start count s run g t =
    let once : AreDistinct (start ∷ starts_of rest) =
    subst (λ o. AreDistinct (with_start o (starts_of rest))) run s.once in
    let loose : without_runs (remove now.loose start) (starts_of rest) ≡ without_runs old.loose (starts_of named) =
    subst (λ o. without_runs now.loose (with_start o (starts_of rest))
    ≡ without_runs old.loose (starts_of named)) run s.loose in
    let is : new.loose ≡ remove now.loose start = ap (λ (t : Table). t.loose) g.is in
    record {
      runs = loose_still now new start rest is once.0 s.runs.1;
      once = once.1;
      loose = ap (λ l. without_runs l (starts_of rest)) is ∙ loose;
      freed = λ n.
          let free : free_count new n ≡ free_count now n + runs_of n (Some (start, count)) =
          ap (λ (t : Table). free_count t n) g.is ∙ count_more now.free count n in
          let left = subst (λ o. free_count now n + (runs_of n o + entries_with n rest)
          ≡ free_count old n + entries_with n named) run (s.freed n) in omega (arith, free, left);
      same = subst (λ (t : Table). t ≡ record old { loose = t.loose; free = t.free }) (sym g.is)
          (ap (λ (t : Table). record t {
            loose = remove now.loose start;
            free = with_count now.free count (free_count now count + 1);
          }) s.same);
      table = t;
    }

-- which is so of both kinds of entries
pub settling_on : (old now new : Table) (named rest : List Named) (e : Named) → IsSettling old now named (e ∷ rest) →
    MayGiveBack now new e.run → IsTable new → IsSettling old new named rest
settling_on old now new named rest e s g t = go e.run refl g
  where
    go : (o : Option (ℕ × ℕ)) → e.run ≡ o → MayGiveBack now new o → IsSettling old new named rest
    go None run same = subst (λ u. IsSettling old u named rest) (sym same) (settling_passed old now named rest e s run)
    go (Some r) run given = settling_given old now new named rest e r.0 r.1 s run given t

-- where no entry is left the journal is settled
pub settling_last : (old now : Table) (j : Journal) → IsSettling old now j.named [] → IsSettledBy old now j
settling_last old now j s =
    record {
      same = s.same ∙ ap (λ l. record old { loose = l; free = now.free }) s.loose;
      freed = λ n. let h = s.freed n in omega (arith, h);
    }
