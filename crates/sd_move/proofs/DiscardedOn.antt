-- Discarding a node on the way back keeps what holds inside a move.
use Rattle.std.proofs.Common.{◌≡◌, ◌≢◌, inl, inr, ℕ, true, List, ◌∷◌, Option, Some, None, refl, sym}
use Rattle.std.proofs.Common.{◌∙◌, ap, subst}
use Rattle.std.specs.Option.{IsSome}
use Rattle.std.specs.Ordering.{nat_cmp}
use Rattle.std.specs.FinMap.{FinMap, get, remove}
use Rattle.std.proofs.lemmas.Bool.{cases_eq}
use Rattle.std.proofs.lemmas.Option.{none-some}
use Rattle.sd_vtree.specs.Numbered.{or_else}
use Rattle.sd_runs.proofs.Maps.{get_remove_same, get_remove_other}
use Rattle.sd_laws.specs.Values.{Valuation}
use Rattle.sd_manager.specs.Table.{Table, key_at}
use Rattle.sd_manager.specs.Valid.{IsTable}
use Rattle.sd_move.specs.Moving.{Progress, IsNew, IsBelowNode, MoveInProgress}

-- the table without a detached node, and with other marks and free runs
abbrev pub discarded_from : Table → ℕ → FinMap nat_cmp ℕ → FinMap nat_cmp ℕ → Table
discarded_from m n marks free = record m { detached = remove m.detached n; marks = marks; free = free }

-- one number more was discarded
abbrev pub with_discarded : Progress → ℕ → Progress
with_discarded h n = record h { discarded = n ∷ h.discarded }

-- the key of each node afterwards
abbrev key_after : Table → ℕ → ℕ → Option (ℕ × List (ℕ × ℕ))
key_after m n i = or_else (get m.linked i) (get (remove m.detached n) i)

-- each other node keeps its key
other_key : (m : Table) (n i : ℕ) → i ≢ n → key_after m n i ≡ key_at m i
other_key m n i d = ap (or_else (get m.linked i)) (get_remove_other m.detached n i d)

-- and the discarded one has none
no_key : (m : Table) → IsTable m → (n : ℕ) (former : ℕ × List (ℕ × ℕ)) → get m.detached n ≡ Some former →
    key_after m n n ≡ None
no_key m t n former e = go (get m.linked n) refl
  where
    go : (o : Option (ℕ × List (ℕ × ℕ))) → get m.linked n ≡ o → key_after m n n ≡ None
    go None f = ap (λ o. or_else o (get (remove m.detached n) n)) f ∙ get_remove_same m.detached n
    go (Some k) f = absurd (none-some former (sym (t.either n k f) ∙ e))

-- so a node that is there is another one, and was there
still_there : (m : Table) → IsTable m → (n : ℕ) (former : ℕ × List (ℕ × ℕ)) → get m.detached n ≡ Some former →
    (i : ℕ) (k : ℕ × List (ℕ × ℕ)) → key_after m n i ≡ Some k → (i ≢ n) × (key_at m i ≡ Some k)
still_there m t n former e i k f = elim (cases_eq i n) [
  | inl z ↦ absurd (none-some k (sym (no_key m t n former e) ∙ ap (key_after m n) (sym z) ∙ f))
  | inr d ↦ (d, sym (other_key m n i d) ∙ f)
]

-- Discarding a detached node on the way back keeps what holds inside a move: what is said of discarded numbers is said
-- of one more, and each other node is as it was.
pub discarded_on : (m0 m : Table) (x : ℕ) (h : Progress) (v : Valuation) → IsTable m → MoveInProgress m0 m x h v →
    h.goes_back ≡ true → (n : ℕ) (former : ℕ × List (ℕ × ℕ)) → get m.detached n ≡ Some former →
    (marks free : FinMap nat_cmp ℕ) → MoveInProgress m0 (discarded_from m n marks free) x (with_discarded h n) v
discarded_on m0 m x h v t g way n former e marks free =
    record {
      literals = g.literals;
      moving = g.moving;
      began = λ i a b. g.began i a (λ c. b (inr c));
      kept = λ i a b. subst IsSome (sym (other_key m n i (λ z. b (inl (sym z))))) (g.kept i a (λ c. b (inr c)));
      value = λ i u l f. g.value i u l (still_there m t n former e i (u, l) f).1;
      whole = λ i u l f. g.whole i u l (still_there m t n former e i (u, l) f).1;
      placed = g.placed;
      settled = g.settled;
      above = g.above;
      lists = λ i u p l old f o b.
          g.lists i u p l old (still_there m t n former e i (u, l) f).1 o (λ c. b (inr c));
      free = λ a b. absurd (cc (sym way ∙ b));
      new_below = λ i u l f o. new_below i u l (still_there m t n former e i (u, l) f) o;
      new_linked = λ b. absurd (cc (sym way ∙ b));
      apart = λ a b ha hb same. g.apart a b (number a ha) (number b hb) same;
      roots = g.roots;
    }
  where
    new_below : (i u : ℕ) (l : List (ℕ × ℕ)) → (i ≢ n) × (key_at m i ≡ Some (u, l)) →
        IsNew m0 (with_discarded h n) i → IsBelowNode m x u
    new_below i u l w (inl z) = g.new_below i u l w.1 (inl z)
    new_below i u l w (inr (inl z)) = absurd (w.0 (sym z))
    new_below i u l w (inr (inr c)) = g.new_below i u l w.1 (inr c)

    number : (i : ℕ) → IsSome (key_after m n i) → IsSome (key_at m i)
    number i k = go (key_after m n i) refl k
      where
        go : (o : Option (ℕ × List (ℕ × ℕ))) → key_after m n i ≡ o → IsSome o → IsSome (key_at m i)
        go None f s = absurd (cc (s))
        go (Some key) f s = subst IsSome (sym (still_there m t n former e i key f).1) refl
