-- A move that went back ends: what is so then.
use Rattle.std.proofs.Common.{◌≡◌, ◌⊎◌, inl, inr, ℕ, ◌≤◌, ◌<◌, List, []}
use Rattle.std.proofs.Common.{Some, refl, sym, ◌∙◌, ap, subst}
use Rattle.std.specs.FinMap.{get, empty}
use Rattle.sd_manager.specs.Table.{Table}
use Rattle.sd_manager.specs.Valid.{IsTable}
use Rattle.sd_manager.specs.Moving.{at_rest, IsLater}
use Rattle.sd_manager.proofs.Valid.{nothing}
use Rattle.sd_move.specs.GoingBack.{Return, IsWantedBy, key_wanted, IsReturning, HasGoneBack}
use Rattle.sd_move.proofs.MoveEnd.{next_later}
use Rattle.sd_move.proofs.Returning.{linked_or_detached, wanted_there, linked_wanted, tree_now}

module _ (r : Return) (now : Table) (s : IsReturning r now [] []) (t : IsTable now) (none : now.detached ≡ empty) where
  -- each wanted node is linked under the key that it gets
  wanted_linked : (n : ℕ) → IsWantedBy r n → get now.linked n ≡ key_wanted r n
  wanted_linked n w =
      let c = wanted_there r now [] [] s t n w in
      go c.0 (linked_or_detached now n c.0 c.1)
    where
      go : (k : ℕ × List (ℕ × ℕ)) → (get now.linked n ≡ Some k) ⊎ (get now.detached n ≡ Some k) →
          get now.linked n ≡ key_wanted r n
      go k (inl e) = e ∙ sym (linked_wanted r now [] [] s t n k w e)
      go k (inr d) = absurd (nothing n k (ap (λ m. get m n) (sym none) ∙ d))

  -- the epoch is a later one
  later : r.before.epoch ≤ 18446744073709551615 → IsLater r.before now
  later small =
      subst (λ e. (r.before.epoch < e) ⊎ (e ≡ 18446744073709551615)) (sym (ap (λ (u : Table). u.epoch) s.same))
      (next_later r.before.epoch small)

  -- what the move leaves
  pub gone_back : r.before.epoch ≤ 18446744073709551615 →
      HasGoneBack r.way.target r.before (at_rest now) r.kind r.upper r.lower r.named
  gone_back small =
      record {
        vtree = s.can.turned ∙ ap Some (sym (tree_now r now [] [] s t));
        wanted = wanted_linked;
        others = s.stay;
        only = s.linked;
        roots = ap (λ (u : Table). u.roots) s.same;
        loose = s.entries.loose;
        detached = none;
        moving = refl;
        bound = ap (λ (u : Table). u.bound) s.same;
        extent = ap (λ (u : Table). u.extent) s.same;
        records = ap (λ (u : Table). u.records) s.same;
        later = later small;
        marks = s.marks;
      }
