-- Turning the vtree keeps what holds inside a move.
use Rattle.std.proofs.Common.{◌≡◌, ◌≢◌, ◌⊎◌, inl, inr, ℕ, List, Some, ◌∙◌}
use Rattle.std.specs.FinMap.{get}
use Rattle.sd_vtree.specs.Numbered.{Numbered, IsUnder}
use Rattle.sd_laws.specs.Turned.{KeepsOthers}
use Rattle.sd_laws.specs.Values.{Valuation, IsPlaced}
use Rattle.sd_laws.proofs.Placing.{placed_others}
use Rattle.sd_laws.proofs.Users.{under_turned}
use Rattle.sd_manager.specs.Table.{Table}
use Rattle.sd_manager.specs.Valid.{IsSettled}
use Rattle.sd_manager.specs.Moving.{with_vtree, KeepsMeanings}
use Rattle.sd_move.specs.Moving.{Progress, MoveInProgress}

-- what is not above the moved node afterwards was not above it before
settled_before : (m : Table) (t : Numbered) (x w p : ℕ) (v : Valuation) (l : List (ℕ × ℕ)) →
    KeepsOthers m.vtree t x w → p ≢ x → p ≢ w → IsPlaced m.vtree v p l → IsSettled (with_vtree m t) p → IsSettled m p
settled_before m t x w p v l keeps dx dw placed s y e = go (s y e)
  where
    go : (y ≡ p) ⊎ (¬ IsUnder t y p) → (y ≡ p) ⊎ (¬ IsUnder m.vtree y p)
    go (inl k) = inl k
    go (inr k) =
        inr (λ u. k (under_turned m.vtree t x w keeps p placed.left placed.right dx dw placed.at y u))

-- and the other way round
settled_after : (m : Table) (t : Numbered) (x w p : ℕ) (v : Valuation) (l : List (ℕ × ℕ)) →
    KeepsOthers t m.vtree x w → p ≢ x → p ≢ w → IsPlaced t v p l → IsSettled m p → IsSettled (with_vtree m t) p
settled_after m t x w p v l keeps dx dw placed s y e = go (s y e)
  where
    go : (y ≡ p) ⊎ (¬ IsUnder m.vtree y p) → (y ≡ p) ⊎ (¬ IsUnder t y p)
    go (inl k) = inl k
    go (inr k) =
        inr (λ u. k (under_turned t m.vtree x w keeps p placed.left placed.right dx dw placed.at y u))

-- Turning the vtree, where no linked node stands at the two nodes, keeps what holds inside a move.
pub turned_on : (m0 m : Table) (t : Numbered) (x w : ℕ) (h : Progress) (v : Valuation) → KeepsOthers m.vtree t x w →
    KeepsOthers t m.vtree x w → ((p : ℕ) → IsUnder m.vtree p x → IsUnder t p x) →
    ((n : ℕ) (k : ℕ × List (ℕ × ℕ)) → get m.linked n ≡ Some k → (k.0 ≢ x) × (k.0 ≢ w)) →
    KeepsMeanings m (with_vtree m t) → MoveInProgress m0 m x h v → MoveInProgress m0 (with_vtree m t) x h v
turned_on m0 m t x w h v there back under cleared meanings g =
    record {
      literals = g.literals;
      moving = g.moving;
      began = g.began;
      kept = g.kept;
      value = g.value;
      whole = g.whole;
      placed = λ n p l e. placed n p l e;
      settled = λ n p l e s.
          let c = cleared n (p, l) e in
          let old = g.settled n p l e (settled_before m t x w p v l there c.0 c.1 (g.placed n p l e) s) in
          let z = meanings n (p, l) old.diagram e s old.is in
          record { diagram = z.0; is = z.1; value = λ a. z.2 a ∙ old.value a };
      above = λ n p l e s.
          let c = cleared n (p, l) e in
          g.above n p l e (λ k. s (settled_after m t x w p v l back c.0 c.1 (placed n p l e) k));
      lists = g.lists;
      free = g.free;
      new_below = λ n p l e f. let b = g.new_below n p l e f in (b.0, under p b.1);
      new_linked = g.new_linked;
      apart = g.apart;
      roots = g.roots;
    }
  where
    placed : (n p : ℕ) (l : List (ℕ × ℕ)) → get m.linked n ≡ Some (p, l) → IsPlaced t v p l
    placed n p l e =
        let c = cleared n (p, l) e in placed_others m.vtree t x w v p l there c.0 c.1 (g.placed n p l e)
