-- At the begin of a move the nodes at its node may be detached.
use Rattle.std.proofs.Common.{◌≡◌, inl, inr, ℕ, Some, None, refl, sym, ◌∙◌}
use Rattle.std.specs.FinMap.{get}
use Rattle.std.proofs.lemmas.Option.{none-some, same_Some}
use Rattle.sd_laws.proofs.Evaluated.{value_of}
use Rattle.sd_manager.specs.Table.{Table}
use Rattle.sd_manager.specs.Valid.{IsTable, IsSettled}
use Rattle.sd_manager.specs.Moving.{moving_at}
use Rattle.sd_manager.specs.Places.{IsLinkedAt}
use Rattle.sd_move.specs.Moving.{no_progress, IsNew}
use Rattle.sd_move.specs.Steps.{CanDetachFirst, IsClearAbove}
use Rattle.sd_move.proofs.BeginAndEnd.{begun}

-- what is settled and above the place of the move stands at it
clear_above : (m : Table) (x : ℕ) → IsClearAbove (moving_at m x) x
clear_above m x n k e under other settled = elim (settled x refl) [
  | inl z ↦ other (sym z)
  | inr apart ↦ apart under
]

-- the place of the move is settled
pub settled_here : (m : Table) (x : ℕ) → m.moving ≡ Some x → IsSettled m x
settled_here m x e y f = inl (same_Some y x (sym f ∙ e))

module _ (m : Table) (x : ℕ) (t : IsTable m) (still : m.moving ≡ None) where
  pub not_new : (n : ℕ) → IsLinkedAt (moving_at m x) x n → ¬ IsNew m no_progress n
  not_new n at (inl none) = absurd (none-some (x, at.list) (sym none ∙ at.is))
  not_new n at (inr member) = member

  -- the nodes at the place may be detached
  pub first_can_detach : CanDetachFirst m (moving_at m x) x no_progress (value_of (get m.linked)) x
  first_can_detach =
      record {
        may = record {
          going = begun m x t still;
          above = clear_above m x;
          early = λ a b. absurd (cc (a));
          old = λ a n at. not_new n at;
        };
        there = refl;
        settled = settled_here (moving_at m x) x refl;
      }
