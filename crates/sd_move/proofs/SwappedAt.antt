-- After a swap was turned, the nodes that stood at its node wait for another list.
use Rattle.std.proofs.Common.{◌≡◌, ◌≢◌, inl, inr, ℕ, ◌+◌, List, [], ◌∷◌, Option, Some, None}
use Rattle.std.proofs.Common.{refl, sym, ◌∙◌, ap, subst, arith}
use Rattle.std.specs.List.{AllByRecursion}
use Rattle.std.specs.Option.{IsSome}
use Rattle.std.specs.FinMap.{get}
use Rattle.std.proofs.lemmas.Option.{same_Some}
use Rattle.sd_model.specs.Tree.{Node, leaves}
use Rattle.sd_model.specs.declared.trees.Move.TheVariants.{Swap}
use Rattle.sd_model.proofs.Blend.{IsApart}
use Rattle.sd_model.proofs.OverVtree.{vtree_apart}
use Rattle.sd_vtree.specs.Numbered.{Numbered, NumberedNode, plain_tree, IsUnder}
use Rattle.sd_vtree.specs.NumberedMoves.{moved_number}
use Rattle.sd_vtree.proofs.Subtrees.{once_numbered}
use Rattle.sd_runs.specs.Arena.{IsMember}
use Rattle.sd_laws.specs.Depends.{DependsOn}
use Rattle.sd_laws.specs.Turned.{AreSwapped}
use Rattle.sd_laws.specs.Values.{Valuation, IsPlaced, ShowsValue}
use Rattle.sd_laws.proofs.ByValues.{base_shown}
use Rattle.sd_laws.proofs.Choosing.{two_sided_same}
use Rattle.sd_laws.proofs.Evaluated.{value_of}
use Rattle.sd_laws.proofs.Numbers.{PartAt, part_of_subtree}
use Rattle.sd_laws.proofs.Places.{part_apart}
use Rattle.sd_laws.proofs.Placing.{At, at_children, depends_left, depends_right, swap_written}
use Rattle.sd_laws.proofs.Turning.{turned_swap}
use Rattle.sd_manager.specs.Table.{Table}
use Rattle.sd_manager.specs.Valid.{IsTable, IsSettled}
use Rattle.sd_manager.specs.Moving.{moving_at, with_vtree}
use Rattle.sd_manager.proofs.Reading.{linked_key}
use Rattle.sd_manager.proofs.Valid.{nothing}
use Rattle.sd_manager.proofs.DetachedFrom.{under_apart}
use Rattle.sd_move.specs.Moving.{no_progress, HasBegun}
use Rattle.sd_move.specs.Steps.{CanDetachFirst, AreDetached}
use Rattle.sd_move.specs.Rewriting.{ShowsWithin, IsWaiting, CanRewriteAll}
use Rattle.sd_move.proofs.BegunAt.{first_can_detach}
use Rattle.sd_move.proofs.LinkedAgain.{all_members, codes_still}
use Rattle.sd_move.proofs.TurnedMove.{Turns, turns}

-- primes that look at a and subs that look at b look at what is below (b a)
within_swapped : (t : Numbered) (m : Table) (v : Valuation) (a b : Numbered) (l : List (ℕ × ℕ)) →
    AllByRecursion (λ (e : ℕ × ℕ). ShowsValue t (get m.linked) v e.0 × ShowsValue t (get m.linked) v e.1) l →
    AllByRecursion (λ (e : ℕ × ℕ). DependsOn (plain_tree a) (v e.0)) l →
    AllByRecursion (λ (e : ℕ × ℕ). DependsOn (plain_tree b) (v e.1)) l →
    AllByRecursion (λ (e : ℕ × ℕ). ShowsWithin t (get m.linked) v (Node (plain_tree b) (plain_tree a)) e.0
    × ShowsWithin t (get m.linked) v (Node (plain_tree b) (plain_tree a)) e.1) l
within_swapped t m v a b [] s ps ss = tt
within_swapped t m v a b (e ∷ l) s ps ss = (
  (
    record { shown = s.0.0; within = depends_right (plain_tree b) (plain_tree a) (v e.0) ps.0 },
    record { shown = s.0.1; within = depends_left (plain_tree b) (plain_tree a) (v e.1) ss.0 },
  ),
  within_swapped t m v a b l s.1 ps.1 ss.1,
)

module _ (old mid : Table) (x : ℕ) (u : Numbered) (numbers : List ℕ) (t : IsTable old) (no_move : old.moving ≡ None)
    (tb : IsTable (moving_at old x)) (d : AreDetached (moving_at old x) mid x numbers)
    (moved : moved_number Swap mid.vtree x ≡ Some u) (g : HasBegun old (with_vtree mid u) x) where
  first : CanDetachFirst old (moving_at old x) x no_progress (value_of (get old.linked)) x
  first = first_can_detach old x t no_move

  tree : mid.vtree ≡ old.vtree
  tree = ap (λ (z : Table). z.vtree) d.same

  moved_old : moved_number Swap old.vtree x ≡ Some u
  moved_old = ap (λ s. moved_number Swap s x) (sym tree) ∙ moved

  swap : AreSwapped old.vtree u x
  swap = turned_swap old.vtree u x t.numbered moved_old

  turn : Turns old.vtree u Swap x
  turn = turns old.vtree u Swap x t.numbered moved_old

  apart : IsApart (leaves (plain_tree old.vtree)) (Node (plain_tree swap.a) (plain_tree swap.b))
  apart =
      let part : PartAt old.vtree x (NumberedNode x swap.a swap.b) 0 =
      part_of_subtree old.vtree x (NumberedNode x swap.a swap.b) 0 swap.first_upper in
      part_apart (leaves (plain_tree old.vtree)) part.part (vtree_apart (plain_tree old.vtree) t.numbered.vtree)

  -- what stands strictly below the node is settled
  settled_under : (q : ℕ) → IsUnder old.vtree q x → x ≢ q → IsSettled (with_vtree mid u) q
  settled_under q below other y e =
      let same : y ≡ x = same_Some y x (sym e ∙ g.moving) in
      inr (λ z. under_apart u (once_numbered u turn.numbered) q x (turn.under q below)
      (subst (λ k. IsUnder u k q) same z) (λ k. other (sym k)))

  waits : (n : ℕ) → IsMember n numbers →
      IsWaiting old (with_vtree mid u) x no_progress (value_of (get old.linked)) (plain_tree swap.b)
      (plain_tree swap.a) n
  waits n m =
      let w = d.each n m in
      let placed : IsPlaced old.vtree (value_of (get old.linked)) x w.list = first.may.going.placed n x w.list w.was in
      let key = linked_key (moving_at old x) n (x, w.list) w.was in
      let sides : At (value_of (get old.linked)) w.list swap.a swap.b =
      at_children old.vtree (value_of (get old.linked)) x w.list swap.a swap.b placed swap.first_upper in
      record {
        list = w.list;
        was = w.is;
        old = first.may.old refl n (record { list = w.list; is = w.was });
        two_sided = two_sided_same (plain_tree swap.b) (plain_tree swap.a) (value_of (get old.linked) (2050 + n)) _
            (first.may.going.value n x w.list key)
            (swap_written (leaves (plain_tree old.vtree)) old.vtree u x (value_of (get old.linked)) w.list swap apart
            placed (first.may.going.whole n x w.list key));
        codes = within_swapped u mid (value_of (get old.linked)) swap.a swap.b w.list
            (codes_still old (moving_at old x) x no_progress (value_of (get old.linked)) x tb first.may first.settled n
            w.list w.was (with_vtree mid u) g
            (λ e low. base_shown u turn.numbered (get mid.linked) (value_of (get old.linked)) g.literals e
            (omega (arith, low, turn.leaves)))
            settled_under d.others) sides.primes sides.subs;
      }

  -- The nodes that were detached may be rewritten.
  pub swapped_may_rewrite : CanRewriteAll old (with_vtree mid u) x no_progress (value_of (get old.linked)) numbers
  swapped_may_rewrite =
      record {
        going = g;
        there = refl;
        left = swap.b;
        right = swap.a;
        at = swap.second_upper;
        once = d.once;
        only = λ n s. among n (get mid.detached n) refl s;
        each = all_members (IsWaiting old (with_vtree mid u) x no_progress (value_of (get old.linked))
            (plain_tree swap.b) (plain_tree swap.a)) numbers waits;
      }
    where
      among : (n : ℕ) (o : Option (ℕ × List (ℕ × ℕ))) → get mid.detached n ≡ o → IsSome o → IsMember n numbers
      among n None e s = absurd (cc (s))
      among n (Some k) e s = elim (d.only n k e) [
        | inl f ↦ absurd (nothing n k (ap (λ m. get m n) (sym (t.at_rest no_move)) ∙ f))
        | inr m ↦ m
      ]
