-- The begin of a rotation: once the nodes at its node are detached, those at its lower node may be; where they are not,
-- the former are linked again and the move ends, which leaves all as it was.
use Rattle.std.proofs.Common.{◌≡◌, ℕ, ◌+◌, List, None, refl, sym, ◌∙◌, ap, subst}
use Rattle.std.specs.Option.{IsSome}
use Rattle.std.specs.FinMap.{get, empty}
use Rattle.sd_laws.proofs.Evaluated.{value_of}
use Rattle.sd_manager.specs.Table.{Table}
use Rattle.sd_manager.specs.Shown.{IsNodeOf}
use Rattle.sd_manager.specs.Valid.{IsTable}
use Rattle.sd_manager.specs.Moving.{moving_at, at_rest}
use Rattle.sd_manager.specs.Places.{IsLinkedAt}
use Rattle.sd_move.specs.Moving.{no_progress, HasBegun}
use Rattle.sd_move.specs.Steps.{CanDetachFirst, CanLinkAll, AreDetached, AreLinkedAt, IsChildNode, HasDetachedBoth}
use Rattle.sd_move.proofs.BeginAndEnd.{begun}
use Rattle.sd_move.proofs.BegunAt.{first_can_detach, not_new, settled_here}
use Rattle.sd_move.proofs.KnownAtEnd.{may_end}
use Rattle.sd_move.proofs.LinkedAgain.{may_link_again, linked_again}
use Rattle.sd_move.proofs.LowerNode.{then_can_detach, still_none}

module _ (m b : Table) (x w : ℕ) (upper : List ℕ) (t : IsTable m) (still : m.moving ≡ None)
    (at_begin : IsTable (moving_at m x)) (child : IsChildNode m.vtree x w) (tb : IsTable b) (g : HasBegun m b x)
    (d : AreDetached (moving_at m x) b x upper) (none : (n : ℕ) → ¬ IsLinkedAt b x n) where
  -- the nodes at the lower node may be detached
  pub second_can_detach : CanDetachFirst m b x no_progress (value_of (get m.linked)) w
  second_can_detach =
      then_can_detach m b x w upper tb
      (subst (λ u. IsChildNode u x w) (sym (ap (λ (z : Table). z.vtree) d.same)) child) d g none

  -- where they are, both are
  pub both_detached : (new : Table) (lower : List ℕ) → HasBegun m new x → AreDetached b new w lower →
      ((n : ℕ) → ¬ IsLinkedAt new w n) → HasDetachedBoth m new x w upper lower
  both_detached new lower going second left =
      record {
        between = b;
        first = d;
        second = second;
        table = tb;
        began = g;
        going = going;
        none_upper = still_none b new x w lower second none;
        none_lower = left;
      }

  -- and where they are not, those at the upper node may be linked again
  pub upper_may_link : (now : Table) → now ≡ b →
      CanLinkAll m now x no_progress (value_of (get m.linked)) x upper
  upper_may_link now same =
      subst (λ u. CanLinkAll m u x no_progress (value_of (get m.linked)) x upper) (sym same)
      (may_link_again m (moving_at m x) x no_progress (value_of (get m.linked)) x at_begin
      (first_can_detach m x t still).may (settled_here (moving_at m x) x refl) b upper d g (not_new m x t still))

  pub linked_back : (now new : Table) → now ≡ b → AreLinkedAt now new x upper → new ≡ moving_at m x
  linked_back now new same l =
      linked_again (moving_at m x) b new x upper at_begin d (subst (λ u. AreLinkedAt u new x upper) same l)

  -- then nothing is detached
  pub none_back : (new : Table) → new ≡ moving_at m x → new.detached ≡ empty
  none_back new same = ap (λ (u : Table). u.detached) same ∙ t.at_rest still

  -- each node shows a canonical diagram
  pub known_back : (new : Table) → IsTable new → new ≡ moving_at m x → (n : ℕ) → IsSome (get new.linked n) →
      IsNodeOf new (2050 + n)
  known_back new tn same =
      may_end m new x no_progress (value_of (get m.linked)) tn
      (subst (λ u. HasBegun m u x) (sym same) (begun m x t still)) (none_back new same)

  -- and the end leaves all as it was
  pub ended_back : (new last : Table) → new ≡ moving_at m x → last ≡ at_rest new → last ≡ m
  ended_back new last same is =
      is ∙ ap (λ (u : Table). at_rest u) same ∙ ap (λ o. record m { moving = o }) (sym still)
