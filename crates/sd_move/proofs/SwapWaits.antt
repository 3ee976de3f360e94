-- After the turn of a swap each node that was detached waits for another list.
use Rattle.std.proofs.Common.{◌≡◌, ◌≢◌, ◌⊎◌, inl, inr, ℕ, ◌+◌, List, [], ◌∷◌, Option, Some, None}
use Rattle.std.proofs.Common.{refl, sym, ◌∙◌, ap, subst, arith}
use Rattle.std.specs.List.{AllByRecursion}
use Rattle.std.specs.Option.{IsSome}
use Rattle.std.specs.FinMap.{get}
use Rattle.std.proofs.lemmas.Option.{same_Some, none-some}
use Rattle.sd_model.specs.declared.trees.Move.TheVariants.{Swap}
use Rattle.sd_model.specs.Tree.{Node, leaves}
use Rattle.sd_model.proofs.Blend.{IsApart}
use Rattle.sd_model.proofs.OverVtree.{vtree_apart}
use Rattle.sd_vtree.specs.Numbered.{Numbered, NumberedNode, plain_tree, IsUnder}
use Rattle.sd_vtree.specs.NumberedMoves.{moved_number}
use Rattle.sd_vtree.proofs.Subtrees.{once_numbered}
use Rattle.sd_runs.specs.Arena.{IsMember}
use Rattle.sd_laws.specs.Depends.{DependsOn}
use Rattle.sd_laws.specs.Turned.{AreSwapped}
use Rattle.sd_laws.specs.Values.{Valuation, ShowsValue}
use Rattle.sd_laws.proofs.ByValues.{base_shown}
use Rattle.sd_laws.proofs.Choosing.{two_sided_same}
use Rattle.sd_laws.proofs.Evaluated.{value_of, literals_given}
use Rattle.sd_laws.proofs.Numbers.{PartAt, part_of_subtree}
use Rattle.sd_laws.proofs.Places.{part_apart}
use Rattle.sd_laws.proofs.Placing.{At, at_children, depends_left, depends_right, swap_written}
use Rattle.sd_laws.proofs.Turning.{turned_swap}
use Rattle.sd_manager.specs.Table.{Table}
use Rattle.sd_manager.specs.Valid.{IsTable, IsSettled}
use Rattle.sd_manager.specs.Moving.{moving_at, with_vtree, IsCleared, KeepsMeanings}
use Rattle.sd_manager.specs.Places.{IsLinkedAt}
use Rattle.sd_manager.proofs.Valid.{nothing}
use Rattle.sd_manager.proofs.Reading.{linked_key}
use Rattle.sd_manager.proofs.DetachedFrom.{under_apart}
use Rattle.sd_move.specs.Moving.{no_progress, HasBegun, MoveInProgress}
use Rattle.sd_move.specs.Steps.{AreDetached, WasDetached}
use Rattle.sd_move.specs.Rewriting.{ShowsWithin, IsWaiting, CanRewriteAll}
use Rattle.sd_move.proofs.BeginAndEnd.{begun}
use Rattle.sd_move.proofs.BegunAt.{first_can_detach, not_new, settled_here}
use Rattle.sd_move.proofs.LinkedAgain.{all_members, codes_still}
use Rattle.sd_move.proofs.TurnedMove.{Turns, turns, turned_move}

-- codes that show their values, and look at what is below
shows_within_both : (t u : Numbered) (d : Table) (v : Valuation) (x : ℕ) (a b : Numbered) (l : List (ℕ × ℕ)) →
    AllByRecursion (λ (e : ℕ × ℕ). ShowsValue u (get d.linked) v e.0 × ShowsValue u (get d.linked) v e.1) l →
    AllByRecursion (λ (e : ℕ × ℕ). DependsOn (plain_tree a) (v e.0)) l →
    AllByRecursion (λ (e : ℕ × ℕ). DependsOn (plain_tree b) (v e.1)) l →
    AllByRecursion (λ (e : ℕ × ℕ). ShowsWithin u (get d.linked) v (Node (plain_tree b) (plain_tree a)) e.0
    × ShowsWithin u (get d.linked) v (Node (plain_tree b) (plain_tree a)) e.1) l
shows_within_both t u d v x a b [] s p q = tt
shows_within_both t u d v x a b (e ∷ l) s p q = (
  (
    record { shown = s.0.0; within = depends_right (plain_tree b) (plain_tree a) (v e.0) p.0 },
    record { shown = s.0.1; within = depends_left (plain_tree b) (plain_tree a) (v e.1) q.0 },
  ),
  shows_within_both t u d v x a b l s.1 p.1 q.1,
)

module _ (m0 d : Table) (x : ℕ) (u : Numbered) (numbers : List ℕ) (t0 : IsTable m0) (still : m0.moving ≡ None)
    (at_begin : IsTable (moving_at m0 x)) (td : IsTable d) (g : HasBegun m0 d x)
    (det : AreDetached (moving_at m0 x) d x numbers) (none : (n : ℕ) → ¬ IsLinkedAt d x n)
    (moved : moved_number Swap m0.vtree x ≡ Some u) where
  -- the vtree is that of the begin
  pub tree_same : d.vtree ≡ m0.vtree
  tree_same = ap (λ (t : Table). t.vtree) det.same

  pub moved_there : moved_number Swap d.vtree x ≡ Some u
  moved_there = ap (λ t. moved_number Swap t x) tree_same ∙ moved

  -- nothing is linked at x
  pub cleared : IsCleared d Swap x
  cleared n k e = (
    λ z. none n (record { list = k.1; is = e ∙ ap (λ p. Some (p, k.1)) z }),
    λ z. none-some k.0 (sym z),
  )

  swapped : AreSwapped m0.vtree u x
  swapped = turned_swap m0.vtree u x t0.numbered moved

  tree : Turns m0.vtree u Swap x
  tree = turns m0.vtree u Swap x t0.numbered moved

  began : MoveInProgress m0 (moving_at m0 x) x no_progress (value_of (get m0.linked))
  began = begun m0 x t0 still

  -- a detached node had its key in m0
  pub was_linked : (n : ℕ) (k : ℕ × List (ℕ × ℕ)) → get d.detached n ≡ Some k → get m0.linked n ≡ Some k
  was_linked n k e = go (det.only n k e)
    where
      go : (get m0.detached n ≡ Some k) ⊎ IsMember n numbers → get m0.linked n ≡ Some k
      go (inl f) = absurd (nothing n k (ap (λ z. get z n) (sym (t0.at_rest still)) ∙ f))
      go (inr m) =
          let w = det.each n m in
          w.was ∙ sym w.is ∙ e

  -- what stands strictly below x is settled
  settled_under : (q : ℕ) → IsUnder m0.vtree q x → x ≢ q → IsSettled (with_vtree d u) q
  settled_under q below other y e =
      let same : y ≡ x = same_Some y x (sym e ∙ g.moving) in
      inr (λ z.
      under_apart u (once_numbered u tree.numbered) q x (tree.under q below)
      (subst (λ k. IsUnder u k q) same z) (λ s. other (sym s)))

  apart : IsApart (leaves (plain_tree m0.vtree)) (Node (plain_tree swapped.a) (plain_tree swapped.b))
  apart =
      let h : PartAt m0.vtree x (NumberedNode x swapped.a swapped.b) 0 =
      part_of_subtree m0.vtree x (NumberedNode x swapped.a swapped.b) 0 swapped.first_upper in
      part_apart (leaves (plain_tree m0.vtree)) h.part (vtree_apart (plain_tree m0.vtree) t0.numbered.vtree)

  -- each of the nodes waits
  waits : MoveInProgress m0 (with_vtree d u) x no_progress (value_of (get m0.linked)) → (n : ℕ) → IsMember n numbers →
      IsWaiting m0 (with_vtree d u) x no_progress (value_of (get m0.linked)) (plain_tree swapped.b)
      (plain_tree swapped.a) n
  waits going n m =
      let w : WasDetached (moving_at m0 x) d x n = det.each n m in
      let key = linked_key (moving_at m0 x) n (x, w.list) w.was in
      let placed = began.placed n x w.list w.was in
      let k : At (value_of (get m0.linked)) w.list swapped.a swapped.b =
      at_children m0.vtree (value_of (get m0.linked)) x w.list swapped.a swapped.b placed swapped.first_upper in
      record {
        list = w.list;
        was = w.is;
        old = not_new m0 x t0 still n (record { list = w.list; is = w.was });
        two_sided =
            two_sided_same (plain_tree swapped.b) (plain_tree swapped.a) (value_of (get m0.linked) (2050 + n)) _
            (began.value n x w.list key)
            (swap_written (leaves (plain_tree m0.vtree)) m0.vtree u x (value_of (get m0.linked)) w.list swapped apart
            placed (began.whole n x w.list key));
        codes =
            shows_within_both m0.vtree u d (value_of (get m0.linked)) x swapped.a swapped.b w.list
            (codes_still m0 (moving_at m0 x) x no_progress (value_of (get m0.linked)) x at_begin
            (first_can_detach m0 x t0 still).may (settled_here (moving_at m0 x) x refl) n w.list w.was (with_vtree d u)
            going
            (λ e low.
            base_shown u tree.numbered (get d.linked) (value_of (get m0.linked)) (literals_given (get m0.linked)) e
            (let count = tree.leaves in omega (arith, low, count))) settled_under det.others)
            k.primes k.subs;
      }

  -- So all of them may be rewritten.
  pub may_rewrite : (new : Table) → new ≡ with_vtree d u → KeepsMeanings d new →
      CanRewriteAll m0 new x no_progress (value_of (get m0.linked)) numbers
  may_rewrite new same meanings =
      let going : MoveInProgress m0 (with_vtree d u) x no_progress (value_of (get m0.linked)) =
      turned_move m0 d x no_progress (value_of (get m0.linked)) Swap u td.numbered moved_there cleared
      (subst (KeepsMeanings d) same meanings) g in
      subst (λ t. CanRewriteAll m0 t x no_progress (value_of (get m0.linked)) numbers) (sym same)
      (record {
        going = going;
        there = refl;
        left = swapped.b;
        right = swapped.a;
        at = swapped.second_upper;
        once = det.once;
        only = λ n s. only n (get d.detached n) refl s;
        each = all_members
            (IsWaiting m0 (with_vtree d u) x no_progress (value_of (get m0.linked)) (plain_tree swapped.b)
            (plain_tree swapped.a)) numbers (waits going);
      })
    where
      only : (n : ℕ) (o : Option (ℕ × List (ℕ × ℕ))) → get d.detached n ≡ o → IsSome o → IsMember n numbers
      only n None e s = absurd (cc (s))
      only n (Some k) e s = go (det.only n k e)
        where
          go : (get m0.detached n ≡ Some k) ⊎ IsMember n numbers → IsMember n numbers
          go (inl f) = absurd (nothing n k (ap (λ z. get z n) (sym (t0.at_rest still)) ∙ f))
          go (inr m) = m
