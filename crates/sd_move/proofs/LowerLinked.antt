-- After a rotation the nodes that stood at its lower node may be linked at its upper one, with their lists.
use Rattle.std.proofs.Common.{◌≡◌, ◌≢◌, inl, inr, ℕ, List, sym, ◌∙◌, subst, arith}
use Rattle.std.specs.FinMap.{get}
use Rattle.std.proofs.lemmas.Option.{same_Some}
use Rattle.sd_model.specs.Tree.{leaves}
use Rattle.sd_vtree.specs.Numbered.{Numbered, plain_tree, IsNumbered, IsUnder}
use Rattle.sd_vtree.proofs.Subtrees.{once_numbered}
use Rattle.sd_runs.specs.Arena.{IsMember}
use Rattle.sd_laws.specs.Values.{Valuation, IsPlaced}
use Rattle.sd_laws.proofs.ByValues.{base_shown}
use Rattle.sd_manager.specs.Table.{Table}
use Rattle.sd_manager.specs.Valid.{IsTable, IsSettled}
use Rattle.sd_manager.specs.Moving.{with_vtree}
use Rattle.sd_manager.specs.Places.{IsLinkedAt}
use Rattle.sd_manager.proofs.DetachedFrom.{under_apart}
use Rattle.sd_move.specs.Moving.{Progress, IsNew, MoveInProgress}
use Rattle.sd_move.specs.Steps.{CanDetachAt, AreDetached, CanLinkWith, CanLinkAll}
use Rattle.sd_move.proofs.LinkedAgain.{all_members, codes_still}
use Rattle.sd_move.proofs.Undoing.{under_strictly}

-- The nodes at w were detached, and the vtree was turned to u, in which x has what it had below it and each list that
-- was placed at w is placed at x.
module _ (m0 old mid : Table) (x w : ℕ) (h : Progress) (v : Valuation) (u : Numbered) (numbers : List ℕ)
    (t : IsTable old) (c : CanDetachAt m0 old x h v w) (settled : IsSettled old w)
    (d : AreDetached old mid w numbers) (g : MoveInProgress m0 (with_vtree mid u) x h v) (num : IsNumbered u)
    (count : leaves (plain_tree u) ≡ leaves (plain_tree old.vtree))
    (under : (p : ℕ) → IsUnder old.vtree p x → IsUnder u p x) (lower : IsUnder old.vtree w x)
    (placed : (l : List (ℕ × ℕ)) → IsPlaced old.vtree v w l → IsPlaced u v x l)
    (older : (n : ℕ) → IsLinkedAt old w n → ¬ IsNew m0 h n) where
  -- what stands strictly below w stands strictly below x, in the new vtree too, so it is settled
  settled_under : (q : ℕ) → IsUnder old.vtree q w → w ≢ q → IsSettled (with_vtree mid u) q
  settled_under q below other y e =
      let same : y ≡ x = same_Some y x (sym e ∙ g.moving) in
      let s = under_strictly old.vtree (once_numbered old.vtree t.numbered) q w x below other lower in
      inr (λ z. under_apart u (once_numbered u num) q x (under q s.0) (subst (λ k. IsUnder u k q) same z) s.1)

  with_list : (n : ℕ) → IsMember n numbers → CanLinkWith m0 (with_vtree mid u) h v x n
  with_list n m =
      let k = d.each n m in
      record {
        before = w;
        list = k.list;
        was = k.is;
        old = older n (record { list = k.list; is = k.was });
        placed = placed k.list (c.going.placed n w k.list k.was);
        ascending = t.keys.ascending n (w, k.list) k.was;
        codes = codes_still m0 old x h v w t c settled n k.list k.was (with_vtree mid u) g
            (λ e low. base_shown u num (get mid.linked) v g.literals e (omega (arith, low, count)))
            settled_under d.others;
      }

  -- The nodes of w may be linked at x.
  pub lower_may_link : CanLinkAll m0 (with_vtree mid u) x h v x numbers
  lower_may_link =
      record {
        going = g;
        settled = λ y e. inl (same_Some y x (sym e ∙ g.moving));
        early = c.early;
        once = d.once;
        each = all_members (CanLinkWith m0 (with_vtree mid u) h v x) numbers with_list;
      }
