-- Detaching a node keeps what holds inside a move.
use Rattle.std.proofs.Common.{◌≡◌, ◌≢◌, ◌⊎◌, inl, inr, ℕ, ◌+◌, true, false, List, Some}
use Rattle.std.proofs.Common.{sym, ◌∙◌, subst}
use Rattle.std.specs.Option.{IsSome}
use Rattle.std.specs.FinMap.{get, insert, remove}
use Rattle.std.proofs.lemmas.Bool.{cases_eq}
use Rattle.std.proofs.lemmas.Option.{some_pair_parts}
use Rattle.sd_vtree.specs.Numbered.{IsNumbered}
use Rattle.sd_vtree.proofs.Subtrees.{once_numbered}
use Rattle.sd_runs.proofs.Maps.{get_insert_other, get_remove_other}
use Rattle.sd_laws.specs.Shown.{Shows}
use Rattle.sd_laws.specs.Values.{Valuation, StandsIn, ShowsValue}
use Rattle.sd_laws.proofs.Users.{users_above}
use Rattle.sd_laws.proofs.Within.{shows_within}
use Rattle.sd_manager.specs.Table.{Table}
use Rattle.sd_manager.specs.Valid.{IsSettled}
use Rattle.sd_manager.specs.Moving.{detached_from, IsTop}
use Rattle.sd_manager.proofs.Reading.{linked_key}
use Rattle.sd_manager.proofs.DetachedFrom.{keys_same, settled_below, still_linked}
use Rattle.sd_move.specs.Moving.{Progress, IsNew, MoveInProgress}
use Rattle.sd_move.proofs.UndoKept.{code_in}

-- keys

-- what is not above the moved node

-- the nodes that stay as they are shown: not the detached one, and not above the moved node
abbrev StaysShown : Table → ℕ → ℕ → Type 0
StaysShown m n i =
    (i ≢ n) × ((p : ℕ) (l : List (ℕ × ℕ)) → get m.linked i ≡ Some (p, l) → IsSettled m p)

-- what a node names stays so
stays_closed : (m0 m : Table) (x : ℕ) (h : Progress) (v : Valuation) → IsNumbered m.vtree → MoveInProgress m0 m x h v →
    (n : ℕ) → IsTop m n → (a b p : ℕ) (l : List (ℕ × ℕ)) → StaysShown m n a → get m.linked a ≡ Some (p, l) →
    StandsIn (2050 + b) l → StaysShown m n b
stays_closed m0 m x h v num g n top a b p l s e stands = (
  λ z. top a (p, l) e (s.1 p l e) (subst (λ i. StandsIn (2050 + i) l) z stands),
  λ q k f.
      let u =
      users_above m.vtree num v b p q l k (g.placed a p l e) (g.whole b q k (linked_key m b (q, k) f))
      (g.placed b q k f) (g.value b q k (linked_key m b (q, k) f)) stands in
      settled_below m (once_numbered m.vtree num) p q (s.1 p l e) u.0 u.1,
)

-- Detaching a node that no settled node has in its list keeps what holds inside a move, but between the first rewriting
-- and the way back; a new node is detached on the way back alone.
pub detached_on : (m0 m : Table) (x : ℕ) (h : Progress) (v : Valuation) → IsNumbered m.vtree →
    MoveInProgress m0 m x h v → (n : ℕ) (k : ℕ × List (ℕ × ℕ)) → get m.linked n ≡ Some k → IsTop m n →
    (h.has_rewritten ≡ true → h.goes_back ≡ false → ⊥) → (h.goes_back ≡ false → ¬ IsNew m0 h n) →
    MoveInProgress m0 (detached_from m n k) x h v
detached_on m0 m x h v num g n k e top early old =
    record {
      literals = g.literals;
      moving = g.moving;
      began = g.began;
      kept = λ i a b. subst IsSome (sym (keys_same m n k e i)) (g.kept i a b);
      value = λ i u l f. g.value i u l (sym (keys_same m n k e i) ∙ f);
      whole = λ i u l f. g.whole i u l (sym (keys_same m n k e i) ∙ f);
      placed = λ i u l f. g.placed i u l (still_linked m n i (u, l) f).1;
      settled = λ i u l f s. settled i u l (still_linked m n i (u, l) f) s;
      above = λ i u l f s. g.above i u l (still_linked m n i (u, l) f).1 s;
      lists = λ i u p l old f o d. g.lists i u p l old (sym (keys_same m n k e i) ∙ f) o d;
      free = λ a b. absurd (early a b);
      new_below = λ i u l f o. g.new_below i u l (sym (keys_same m n k e i) ∙ f) o;
      new_linked = λ a i d. new_linked a i d (cases_eq i n);
      apart = λ a b ha hb same.
          g.apart a b (subst IsSome (keys_same m n k e a) ha) (subst IsSome (keys_same m n k e b) hb) same;
      roots = g.roots;
    }
  where
    new_linked : h.goes_back ≡ false → (i : ℕ) → IsSome (get (insert m.detached n k) i) → (i ≡ n) ⊎ (i ≢ n) →
        ¬ IsNew m0 h i
    new_linked a i d (inl z) = subst (λ j. ¬ IsNew m0 h j) (sym z) (old a)
    new_linked a i d (inr z) = g.new_linked a i (subst IsSome (get_insert_other m.detached n k i z) d)

    settled : (i u : ℕ) (l : List (ℕ × ℕ)) → (i ≢ n) × (get m.linked i ≡ Some (u, l)) → IsSettled m u →
        ShowsValue m.vtree (get (remove m.linked n)) v (2050 + i)
    settled i u l w s =
        let old : ShowsValue m.vtree (get m.linked) v (2050 + i) = g.settled i u l w.1 s in
        let stays : StaysShown m n i =
        (w.0, λ p j f. subst (IsSettled m) (place_same m i u p l j w.1 f) s) in
        let shows : Shows m.vtree (get (remove m.linked n)) (2050 + i) old.diagram =
        shows_within m.vtree (get m.linked) (get (remove m.linked n)) (StaysShown m n)
        (λ a b p j own at stands. stays_closed m0 m x h v num g n top a b p j own at stands)
        (λ a key own at. get_remove_other m.linked n a own.0 ∙ at) old.diagram (2050 + i)
        (code_in (StaysShown m n) i stays) old.is.shows in
        record { diagram = old.diagram; is = record { shows = shows; canonical = old.is.canonical }; value = old.value }
      where
        place_same : (m : Table) (i u p : ℕ) (l j : List (ℕ × ℕ)) → get m.linked i ≡ Some (u, l) →
            get m.linked i ≡ Some (p, j) → u ≡ p
        place_same m i u p l j a b = (some_pair_parts u p l j (sym a ∙ b)).0
