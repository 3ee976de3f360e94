-- Where no node is detached any more, each node shows a canonical diagram of its function, so that the move may end.
use Rattle.std.proofs.Common.{◌≡◌, inl, inr, ℕ, ◌+◌, ◌-◌, List, [], ◌∷◌, Option, Some, None}
use Rattle.std.proofs.Common.{refl, sym, ◌∙◌, ap, subst, arith}
use Rattle.std.specs.Option.{IsSome}
use Rattle.std.specs.FinMap.{get, empty}
use Rattle.sd_vtree.specs.Numbered.{or_else}
use Rattle.sd_laws.specs.Values.{Valuation, StandsIn, ShowsValue}
use Rattle.sd_laws.proofs.Lists.{all_weaker}
use Rattle.sd_laws.proofs.GoneBack.{IsBaseOrNode}
use Rattle.sd_manager.specs.Table.{Table, key_at}
use Rattle.sd_manager.specs.Shown.{HasNode, AreThere, IsNodeOf}
use Rattle.sd_manager.specs.Valid.{IsTable}
use Rattle.sd_manager.proofs.Reading.{node_of_code, linked_key}
use Rattle.sd_manager.proofs.Valid.{nothing}
use Rattle.sd_move.specs.Moving.{Progress, MoveInProgress}
use Rattle.sd_move.proofs.BeginAndEnd.{ended}

-- a code of a list is there where all of them are
pub stands_there : (t : Table) (c : ℕ) (l : List (ℕ × ℕ)) → AreThere t l → StandsIn c l → HasNode t c
stands_there t c [] h s = absurd s
stands_there t c (e ∷ l) h (inl k) = subst (HasNode t) k h.0.0
stands_there t c (e ∷ l) h (inr (inl k)) = subst (HasNode t) k h.0.1
stands_there t c (e ∷ l) h (inr (inr k)) = stands_there t c l h.1 k

-- a code that is there is of a constant or a literal, or of a decomposition
pub base_or_node : (t : Table) (c : ℕ) → HasNode t c → IsBaseOrNode t.vtree c
base_or_node t c (inl low) = inl low
base_or_node t c (inr h) = inr (c - 2050, omega (arith, h.0))

-- what is not detached is linked
pub key_linked : (t : Table) → t.detached ≡ empty → (n : ℕ) → IsSome (key_at t n) → IsSome (get t.linked n)
key_linked t none n h = go (get t.linked n) refl h
  where
    go : (o : Option (ℕ × List (ℕ × ℕ))) → get t.linked n ≡ o → IsSome (key_at t n) → IsSome (get t.linked n)
    go (Some k) e h = subst IsSome (sym e) refl
    go None e h = none_there (get t.detached n) refl
        (subst IsSome (ap (λ o. or_else o (get t.detached n)) e) h)
      where
        none_there : (o : Option (ℕ × List (ℕ × ℕ))) → get t.detached n ≡ o → IsSome o → IsSome (get t.linked n)
        none_there None f s = absurd (cc (s))
        none_there (Some k) f s = absurd (nothing n k (ap (λ m. get m n) (sym none) ∙ f))

-- Each node that is linked shows a canonical diagram of its function.
pub known_at_end : (m0 m : Table) (x : ℕ) (h : Progress) (v : Valuation) → IsTable m → MoveInProgress m0 m x h v →
    m.detached ≡ empty → (n : ℕ) → IsSome (get m.linked n) → ShowsValue m.vtree (get m.linked) v (2050 + n)
known_at_end m0 m x h v t g none =
    ended m0 m x h v t g
    (λ n u i l e s. key_linked m none i
    (node_of_code m t.numbered i
    (stands_there m (2050 + i) l (t.closed n (u, l) (linked_key m n (u, l) e)) s)))
    (λ n u l e. all_weaker (λ (p : ℕ × ℕ). HasNode m p.0 × HasNode m p.1)
    (λ (p : ℕ × ℕ). IsBaseOrNode m.vtree p.0 × IsBaseOrNode m.vtree p.1)
    (λ p k. (base_or_node m p.0 k.0, base_or_node m p.1 k.1)) l (t.closed n (u, l) (linked_key m n (u, l) e)))

-- so the move may end
pub may_end : (m0 m : Table) (x : ℕ) (h : Progress) (v : Valuation) → IsTable m → MoveInProgress m0 m x h v →
    m.detached ≡ empty → (n : ℕ) → IsSome (get m.linked n) → IsNodeOf m (2050 + n)
may_end m0 m x h v t g none n there =
    let s = known_at_end m0 m x h v t g none n there in record { diagram = s.diagram; is = s.is }
