-- The vtree is turned inside a move, by each of the three kinds.
use Rattle.std.proofs.Common.{◌≡◌, ◌≢◌, ◌⊎◌, inl, inr, ℕ, ◌+◌, ◌≤◌, List, [], ◌∷◌, Some}
use Rattle.std.proofs.Common.{option_and_then, refl, sym, ◌∙◌, ap, subst, arith}
use Rattle.std.specs.Option.{option_map}
use Rattle.std.specs.FinMap.{get}
use Rattle.std.proofs.lemmas.Bool.{cases_eq}
use Rattle.std.proofs.lemmas.Option.{same_Some}
use Rattle.sd_model.specs.Tree.{leaves}
use Rattle.sd_model.specs.declared.trees.Move.{Move}
use Rattle.sd_model.specs.declared.trees.Move.TheVariants.{RotateLeft, RotateRight, Swap}
use Rattle.sd_vtree.specs.Numbered.{Numbered, NumberedNode, numbers, subtree, times, child_numbers, IsNumbered, IsUnder}
use Rattle.sd_vtree.specs.Numbered.{plain_tree, number_of}
use Rattle.sd_vtree.specs.NumberedMoves.{moved_number, moved_top}
use Rattle.sd_vtree.proofs.Subtrees.{once_numbered}
use Rattle.sd_vtree.proofs.Put.{put}
use Rattle.sd_vtree.proofs.Moved.{Rearranged, put_rearranged, numbered_again, rearranged_right, rearranged_left}
use Rattle.sd_vtree.proofs.Moved.{rearranged_swap}
use Rattle.sd_vtree.proofs.Times.{times_node, times_same, times_other}
use Rattle.sd_laws.specs.Turned.{lower_of, KeepsOthers, AreRotated}
use Rattle.sd_laws.specs.Values.{Valuation}
use Rattle.sd_laws.proofs.Turning.{turned_right, turned_left, turned_swap}
use Rattle.sd_manager.specs.Table.{Table}
use Rattle.sd_manager.specs.Moving.{with_vtree, IsCleared, KeepsMeanings}
use Rattle.sd_move.specs.Moving.{Progress, MoveInProgress}
use Rattle.sd_move.proofs.TurnedOn.{turned_on}

-- what stands under the moved node

-- a number at the front of a list
pub times_cons : (k m : ℕ) (ms : List ℕ) → times k (m ∷ ms) ≡ times k (m ∷ []) + times k ms
times_cons k m ms = elim (cases_eq m k) [
  | inl e ↦ omega (arith, times_same k m ms e, times_same k m [] e)
  | inr d ↦ omega (arith, times_other k m ms d, times_other k m [] d)
]

-- a rotation keeps what stands under its node
rotated_times : (x w k : ℕ) (a b c : Numbered) →
    times k (numbers (NumberedNode x a (NumberedNode w b c)))
    ≡ times k (numbers (NumberedNode x (NumberedNode w a b) c))
rotated_times x w k a b c =
    omega (
      arith,
      times_node k x (numbers (NumberedNode w a b)) (numbers c),
      times_node k w (numbers a) (numbers b),
      times_node k x (numbers a) (numbers (NumberedNode w b c)),
      times_node k w (numbers b) (numbers c),
      times_cons k x (numbers c),
      times_cons k w (numbers b),
      times_cons k x (numbers (NumberedNode w b c)),
      times_cons k w (numbers c),
    )

-- and so does a swap
swapped_times : (x k : ℕ) (a b : Numbered) →
    times k (numbers (NumberedNode x b a)) ≡ times k (numbers (NumberedNode x a b))
swapped_times x k a b =
    omega (
      arith,
      times_node k x (numbers a) (numbers b),
      times_node k x (numbers b) (numbers a),
      times_cons k x (numbers a),
      times_cons k x (numbers b),
    )

-- what stands under a node stands under it in another vtree that has the same numbers there
under_same : (t u s z : Numbered) (x : ℕ) → subtree t x ≡ Some s → subtree u x ≡ Some z →
    ((k : ℕ) → times k (numbers z) ≡ times k (numbers s)) → (p : ℕ) → IsUnder t p x → IsUnder u p x
under_same t u s z x at to same p h =
    let part : h.part ≡ s = same_Some h.part s (sym h.is ∙ at) in
    let has : 1 ≤ times p (numbers s) = subst (λ y. 1 ≤ times p (numbers y)) part h.has in
    record { part = z; is = to; has = omega (arith, same p, has) }

-- a subtree that is put in the place of another one with the same numbers and leaves makes a vtree of as many variables
rearranged : (t u s z : Numbered) (kind : Move) (x : ℕ) → IsNumbered t → moved_number kind t x ≡ Some u →
    subtree t x ≡ Some s → moved_top kind s ≡ Some z → number_of z ≡ number_of s → Rearranged s z →
    IsNumbered u × (leaves (plain_tree u) ≡ leaves (plain_tree t))
rearranged t u s z kind x num is at top same r =
    let p = put kind t x s z (once_numbered t num) at top same in
    let h = put_rearranged p r in
    let own : p.result ≡ u = same_Some p.result u (sym p.is ∙ is) in (
      subst IsNumbered own (numbered_again t p.result num h),
      subst (λ y. leaves (plain_tree y) ≡ leaves (plain_tree t)) own h.leaves_length,
    )

-- What a move at x makes of a vtree: w is the lower node of a rotation, and x itself in a swap.
pub record Turns (t u : Numbered) (kind : Move) (x : ℕ) : Type 0 where
  pub w : ℕ
  pub there : KeepsOthers t u x w
  pub back : KeepsOthers u t x w
  pub under : (p : ℕ) → IsUnder t p x → IsUnder u p x
  pub lower : (w ≡ x) ⊎ (lower_of kind t x ≡ Some w)
  pub numbered : IsNumbered u
  pub leaves : leaves (plain_tree u) ≡ leaves (plain_tree t)

-- each of the three kinds does so
pub turns : (t u : Numbered) (kind : Move) (x : ℕ) → IsNumbered t → moved_number kind t x ≡ Some u → Turns t u kind x
turns t u RotateRight x num is =
    let r = turned_right t u x num is in
    let h : AreRotated t u x r.0 = r.1 in
    let tree =
    rearranged t u (NumberedNode x (NumberedNode r.0 h.a h.b) h.c) (NumberedNode x h.a (NumberedNode r.0 h.b h.c))
    RotateRight x num is h.first_upper refl refl (rearranged_right x r.0 h.a h.b h.c) in
    record {
      w = r.0;
      there = h.there;
      back = h.back;
      under = under_same t u (NumberedNode x (NumberedNode r.0 h.a h.b) h.c)
          (NumberedNode x h.a (NumberedNode r.0 h.b h.c)) x h.first_upper h.second_upper
          (λ k. rotated_times x r.0 k h.a h.b h.c);
      numbered = tree.0;
      leaves = tree.1;
      lower = inr (ap (λ o. option_map (λ (c : ℕ × ℕ). c.0) (option_and_then child_numbers o)) h.first_upper);
    }
turns t u RotateLeft x num is =
    let r = turned_left t u x num is in
    let h : AreRotated u t x r.0 = r.1 in
    let tree =
    rearranged t u (NumberedNode x h.a (NumberedNode r.0 h.b h.c)) (NumberedNode x (NumberedNode r.0 h.a h.b) h.c)
    RotateLeft x num is h.second_upper refl refl (rearranged_left x r.0 h.a h.b h.c) in
    record {
      w = r.0;
      there = h.back;
      back = h.there;
      under = under_same t u (NumberedNode x h.a (NumberedNode r.0 h.b h.c))
          (NumberedNode x (NumberedNode r.0 h.a h.b) h.c) x h.second_upper h.first_upper
          (λ k. sym (rotated_times x r.0 k h.a h.b h.c));
      numbered = tree.0;
      leaves = tree.1;
      lower = inr (ap (λ o. option_map (λ (c : ℕ × ℕ). c.1) (option_and_then child_numbers o)) h.second_upper);
    }
turns t u Swap x num is =
    let h = turned_swap t u x num is in
    let tree =
    rearranged t u (NumberedNode x h.a h.b) (NumberedNode x h.b h.a) Swap x num is h.first_upper refl refl
    (rearranged_swap x h.a h.b) in
    record {
      w = x;
      there = h.there;
      back = h.back;
      under = under_same t u (NumberedNode x h.a h.b) (NumberedNode x h.b h.a) x h.first_upper h.second_upper
          (λ k. swapped_times x k h.a h.b);
      numbered = tree.0;
      leaves = tree.1;
      lower = inl refl;
    }

-- where nothing is linked at the two nodes, nothing is at the upper one and at w
apart_from : (m : Table) (kind : Move) (x w : ℕ) → IsCleared m kind x → (w ≡ x) ⊎ (lower_of kind m.vtree x ≡ Some w) →
    (n : ℕ) (k : ℕ × List (ℕ × ℕ)) → get m.linked n ≡ Some k → (k.0 ≢ x) × (k.0 ≢ w)
apart_from m kind x w cleared (inl same) n k e = let c = cleared n k e in (c.0, λ z. c.0 (z ∙ same))
apart_from m kind x w cleared (inr lower) n k e = let c = cleared n k e in (c.0, λ z. c.1 (ap Some z ∙ sym lower))

-- Turning the vtree keeps what holds inside a move.
pub turned_move : (m0 m : Table) (x : ℕ) (h : Progress) (v : Valuation) (kind : Move) (u : Numbered) →
    IsNumbered m.vtree → moved_number kind m.vtree x ≡ Some u → IsCleared m kind x →
    KeepsMeanings m (with_vtree m u) → MoveInProgress m0 m x h v → MoveInProgress m0 (with_vtree m u) x h v
turned_move m0 m x h v kind u num is cleared meanings g =
    let r = turns m.vtree u kind x num is in
    turned_on m0 m u x r.w h v r.there r.back r.under (apart_from m kind x r.w cleared r.lower) meanings g
