-- After a rotation, with the nodes of the lower place linked at the upper one, those of the upper place can be sorted.
use Rattle.std.proofs.Common.{◌≡◌, ◌≢◌, ◌⊎◌, inl, inr, ℕ, ◌+◌, List, Option, Some, None}
use Rattle.std.proofs.Common.{refl, sym, ◌∙◌, ap, subst, arith}
use Rattle.std.specs.List.{AllByRecursion}
use Rattle.std.specs.Option.{IsSome}
use Rattle.std.specs.FinMap.{empty, get, get-empty}
use Rattle.std.specs.Ordering.{nat_cmp}
use Rattle.std.proofs.lemmas.Bool.{cases_eq}
use Rattle.std.proofs.lemmas.Option.{none-some, same_Some, some_pair_parts}
use Rattle.sd_model.specs.Tree.{leaves}
use Rattle.sd_model.specs.declared.trees.Move.{Move}
use Rattle.sd_vtree.specs.Numbered.{Numbered, plain_tree, IsNumbered, IsUnder, or_else}
use Rattle.sd_vtree.specs.NumberedMoves.{moved_number}
use Rattle.sd_vtree.proofs.Subtrees.{once_numbered}
use Rattle.sd_runs.specs.Arena.{IsMember}
use Rattle.sd_laws.specs.Turned.{lower_of}
use Rattle.sd_laws.specs.Values.{StandsIn, IsCodeOf, IsPlaced, AreOrderly, ShowsValue}
use Rattle.sd_laws.proofs.Lists.{all_at, all_from}
use Rattle.sd_laws.proofs.ByValues.{base_shown}
use Rattle.sd_laws.proofs.Evaluated.{value_of, literals_given}
use Rattle.sd_laws.proofs.Turning.{turned_right, turned_left, lower_rotated}
use Rattle.sd_laws.proofs.Unturned.{IsShownNode, shown_orderly}
use Rattle.sd_laws.proofs.Users.{users_above}
use Rattle.sd_laws.proofs.Within.{prime_stands, sub_stands}
use Rattle.sd_manager.specs.Table.{Table}
use Rattle.sd_manager.specs.Valid.{IsTable, IsSettled}
use Rattle.sd_manager.specs.Moving.{with_vtree}
use Rattle.sd_manager.proofs.Reading.{linked_key}
use Rattle.sd_manager.proofs.DetachedFrom.{under_apart}
use Rattle.sd_model.specs.declared.trees.Side.{Side}
use Rattle.sd_model.specs.declared.trees.Side.TheVariants.{Left, Right}
use Rattle.sd_move.specs.Moving.{no_progress, HasBegun}
use Rattle.sd_move.specs.Journal.{Named}
use Rattle.sd_move.specs.Steps.{HasDetachedBoth, AreLinkedAt, IsReadyToRotate}
use Rattle.sd_move.specs.Sorting.{rotation_of, AreRotatedOn, CanSortNode, CanSort, MaySort, HasSorted, CanRotate}
use Rattle.sd_move.specs.Sorting.{MayRotate, HasRotated}
use Rattle.sd_move.proofs.LinkedAgain.{all_members, has_or_not}
use Rattle.sd_move.proofs.TurnedMove.{Turns, turns}

-- what each kind of rotation leaves, by its side
rotated_on : (side : Side) (t u : Numbered) (x w : ℕ) → IsNumbered t → moved_number (rotation_of side) t x ≡ Some u →
    lower_of (rotation_of side) t x ≡ Some w → AreRotatedOn side t u x w
rotated_on Left t u x w num is lower =
    let r = turned_right t u x num is in
    let same : r.0 ≡ w = same_Some r.0 w (sym (lower_rotated t u x r.0 r.1).0 ∙ lower) in
    subst (AreRotatedOn Left t u x) same r.1
rotated_on Right t u x w num is lower =
    let r = turned_left t u x num is in
    let same : r.0 ≡ w = same_Some r.0 w (sym (lower_rotated u t x r.0 r.1).1 ∙ lower) in
    subst (AreRotatedOn Right t u x) same r.1

module _ (old m new : Table) (side : Side) (x w : ℕ) (upper lower : List ℕ) (u : Numbered) (first : IsTable old)
    (t : IsTable m) (d : HasDetachedBoth old m x w upper lower) (is : lower_of (rotation_of side) m.vtree x ≡ Some w)
    (moved : moved_number (rotation_of side) m.vtree x ≡ Some u) (l : AreLinkedAt (with_vtree m u) new x lower)
    (g : HasBegun old new x) where
  -- the vtree was the same from the begin on
  tree : m.vtree ≡ old.vtree
  tree = ap (λ (z : Table). z.vtree) d.second.same ∙ ap (λ (z : Table). z.vtree) d.first.same

  new_tree : new.vtree ≡ u
  new_tree = ap (λ (z : Table). z.vtree) l.same

  what : Turns m.vtree u (rotation_of side) x
  what = turns m.vtree u (rotation_of side) x t.numbered moved

  order : AreOrderly old.vtree (get old.linked) (IsShownNode old.vtree (get old.linked)) (value_of (get old.linked))
  order = shown_orderly old.vtree first.numbered (get old.linked)

  -- each node of the begin shows a canonical diagram
  shown_first : (n : ℕ) (k : ℕ × List (ℕ × ℕ)) → get old.linked n ≡ Some k → IsShownNode old.vtree (get old.linked) n
  shown_first n k e =
      let s = d.began.began n (subst IsSome (sym e) refl) (λ z. z) in record { diagram = s.diagram; is = s.is }

  -- a lower node was linked at the lower place
  not_lower : (n q : ℕ) (k : List (ℕ × ℕ)) → get d.between.linked n ≡ Some (q, k) → q ≢ w → ¬ IsMember n lower
  not_lower n q k e other z =
      let b = d.second.each n z in other (some_pair_parts q w k b.list (sym e ∙ b.was)).0

  -- a node that was elsewhere is linked as it was
  elsewhere : (n q : ℕ) (k : List (ℕ × ℕ)) → get old.linked n ≡ Some (q, k) → q ≢ x → q ≢ w →
      get new.linked n ≡ Some (q, k)
  elsewhere n q k e dx dw =
      let b : get d.between.linked n ≡ Some (q, k) = d.first.others n (q, k) e dx in
      (l.others n (not_lower n q k b dw)).0 ∙ d.second.others n (q, k) b dw

  -- a node of the lower place is linked at the upper one
  raised : (n : ℕ) (k : List (ℕ × ℕ)) → get old.linked n ≡ Some (w, k) → w ≢ x → get new.linked n ≡ Some (x, k)
  raised n k e apart =
      let b : get d.between.linked n ≡ Some (w, k) = d.first.others n (w, k) e apart in
      go b (get m.linked n) refl
    where
      go : get d.between.linked n ≡ Some (w, k) → (o : Option (ℕ × List (ℕ × ℕ))) → get m.linked n ≡ o →
          get new.linked n ≡ Some (x, k)
      go b (Some j) f =
          let same : j ≡ (w, k) = same_Some j (w, k) (sym (d.second.still n j f) ∙ b) in
          absurd (d.none_lower n (record { list = k; is = f ∙ ap Some same }))
      go b None f =
          let there : get m.detached n ≡ Some (w, k) =
          sym (ap (λ o. or_else o (get m.detached n)) f) ∙ d.second.keys n ∙ linked_key d.between n (w, k) b in
          elim (d.second.only n (w, k) there) [
            | inl z ↦ absurd (none-some (w, k) (sym (d.table.either n (w, k) b) ∙ z))
            | inr z ↦ l.each n (w, k) z there
          ]

  -- what stands strictly below the upper node is settled
  settled_below : (q : ℕ) → IsUnder old.vtree q x → x ≢ q → IsSettled new q
  settled_below q under other y e =
      let same : x ≡ y = same_Some x y (sym g.moving ∙ e) in
      let here : IsUnder u q x = what.under q (subst (λ s. IsUnder s q x) (sym tree) under) in
      subst (λ s. (y ≡ q) ⊎ (¬ IsUnder s y q)) (sym new_tree)
      (subst (λ z. (z ≡ q) ⊎ (¬ IsUnder u z q)) same
      (inr (λ z. under_apart u (once_numbered u what.numbered) q x here z (λ k. other (sym k)))))

  settled_here : IsSettled new x
  settled_here y e = inl (same_Some y x (sym e ∙ g.moving))

  module _ (n : ℕ) (list : List (ℕ × ℕ)) (was : get old.linked n ≡ Some (x, list)) where
    own : IsShownNode old.vtree (get old.linked) n
    own = shown_first n (x, list) was

    -- a node that the list names shows its value
    node_shown : (i : ℕ) (k : ℕ × List (ℕ × ℕ)) → get old.linked i ≡ Some k → StandsIn (2050 + i) list →
        ShowsValue new.vtree (get new.linked) (value_of (get old.linked)) (2050 + i)
    node_shown i k e stands =
        let s = shown_first i k e in
        let b =
        users_above old.vtree first.numbered (value_of (get old.linked)) i x k.0 list k.1
        (order.placed n x list own was) (order.whole i k.0 k.1 s e) (order.placed i k.0 k.1 s e)
        (order.value i k.0 k.1 s e) stands in
        elim (cases_eq k.0 w) [
          | inl z ↦ g.settled i x k.1
              (raised i k.1 (e ∙ ap (λ p. Some (p, k.1)) z) (λ a. b.1 (sym (z ∙ a)))) settled_here
          | inr z ↦ g.settled i k.0 k.1 (elsewhere i k.0 k.1 e (λ a. b.1 (sym a)) z) (settled_below k.0 b.0 b.1)
        ]

    has_key : (i : ℕ) (o : Option (ℕ × List (ℕ × ℕ))) → get old.linked i ≡ o → IsSome o →
        (k : ℕ × List (ℕ × ℕ)) × (get old.linked i ≡ Some k)
    has_key i None e s = absurd (cc (s))
    has_key i (Some k) e s = (k, e)

    code_shown : (c : ℕ) → IsCodeOf old.vtree (get old.linked) (IsShownNode old.vtree (get old.linked)) c →
        ((i : ℕ) → c ≡ 2050 + i → StandsIn (2050 + i) list) →
        ShowsValue new.vtree (get new.linked) (value_of (get old.linked)) c
    code_shown c (inl low) f =
        subst (λ s. ShowsValue s (get new.linked) (value_of (get old.linked)) c) (sym new_tree)
        (base_shown u what.numbered (get new.linked) (value_of (get old.linked)) (literals_given (get old.linked)) c
        (omega (arith, low, what.leaves, ap (λ s. leaves (plain_tree s)) tree)))
    code_shown c (inr i) f =
        let k = has_key i.0 (get old.linked i.0) refl i.3 in
        subst (ShowsValue new.vtree (get new.linked) (value_of (get old.linked))) (sym i.1)
        (node_shown i.0 k.0 k.1 (f i.0 i.1))

    list_shown : AllByRecursion (λ (e : ℕ × ℕ). ShowsValue new.vtree (get new.linked) (value_of (get old.linked)) e.0
        × ShowsValue new.vtree (get new.linked) (value_of (get old.linked)) e.1) list
    list_shown =
        all_from (λ (e : ℕ × ℕ). ShowsValue new.vtree (get new.linked) (value_of (get old.linked)) e.0
        × ShowsValue new.vtree (get new.linked) (value_of (get old.linked)) e.1) list
        (λ e a.
        let b =
        all_at (λ (e : ℕ × ℕ). IsCodeOf old.vtree (get old.linked) (IsShownNode old.vtree (get old.linked)) e.0
        × IsCodeOf old.vtree (get old.linked) (IsShownNode old.vtree (get old.linked)) e.1) list e
        (order.closed n x list own was) a in (
          code_shown e.0 b.0 (λ i z. prime_stands list e (2050 + i) a z),
          code_shown e.1 b.1 (λ i z. sub_stands list e (2050 + i) a z),
        ))

  -- an upper node can be sorted
  node_sorts : (n : ℕ) → IsMember n upper → CanSortNode old new m.vtree x no_progress (value_of (get old.linked)) n
  node_sorts n z =
      let a = d.first.each n z in
      let stay : get m.detached n ≡ Some (x, a.list) = d.second.stay n (x, a.list) a.is in
      let out : ¬ IsMember n lower = λ y.
      let b = d.second.each n y in none-some (x, a.list) (sym (d.table.either n (w, b.list) b.was) ∙ a.is) in
      record {
        list = a.list;
        was = (l.others n out).1 ∙ stay;
        old = λ k. elim k [
          | inl none ↦ none-some (x, a.list) (sym none ∙ a.was)
          | inr member ↦ member
        ];
        placed = subst (λ s. IsPlaced s (value_of (get old.linked)) x a.list) (sym tree)
            (order.placed n x a.list (own n a.list a.was) a.was);
        ascending = first.keys.ascending n (x, a.list) a.was;
        codes = list_shown n a.list a.was;
      }

  -- The upper nodes can be sorted.
  pub rotated_can_sort : CanSort old new m.vtree side x w no_progress (value_of (get old.linked)) upper
  rotated_can_sort =
      record {
        going = g;
        former = t.numbered;
        rotated = subst (λ s. AreRotatedOn side m.vtree s x w) (sym new_tree)
            (rotated_on side m.vtree u x w t.numbered moved is);
        early = λ a b. absurd (cc (a));
        once = d.first.once;
        each = all_members (CanSortNode old new m.vtree x no_progress (value_of (get old.linked))) upper node_sorts;
      }

-- and they alone are detached, where none was at the begin
pub rotated_only : (old m mid : Table) (x w : ℕ) (upper lower : List ℕ) (u : Numbered) → old.detached ≡ empty →
    HasDetachedBoth old m x w upper lower → AreLinkedAt (with_vtree m u) mid x lower → (n : ℕ) →
    IsSome (get mid.detached n) → IsMember n upper
rotated_only old m mid x w upper lower u none d l n there = elim (has_or_not n lower) [
  | inl z ↦ absurd (cc (subst IsSome (l.gone n z) there))
  | inr out ↦ go (get m.detached n) refl (subst IsSome (l.others n out).1 there) out
]
  where
    at_first : (k : ℕ × List (ℕ × ℕ)) → (get old.detached n ≡ Some k) ⊎ IsMember n upper → IsMember n upper
    at_first k (inl e) = absurd (none-some k (sym (get-empty nat_cmp n) ∙ sym (ap (λ z. get z n) none) ∙ e))
    at_first k (inr z) = z

    go : (o : Option (ℕ × List (ℕ × ℕ))) → get m.detached n ≡ o → IsSome (get m.detached n) → ¬ IsMember n lower →
        IsMember n upper
    go None e some out = absurd (cc (subst IsSome e some))
    go (Some k) e some out = elim (d.second.only n k e) [
      | inl f ↦ at_first k (d.first.only n k f)
      | inr z ↦ absurd (out z)
    ]

-- the two steps as one

module _ (m mid : Table) (side : Side) (kind : Move) (x w : ℕ) (upper lower : List ℕ) (e : kind ≡ rotation_of side)
    (t : IsTable m)
    (going : (old : Table) (y : ℕ) (numbers : List ℕ) → HasDetachedBoth old m x y numbers lower →
    lower_of kind m.vtree x ≡ Some y → HasBegun old mid x)
    (linked : (u : Numbered) → moved_number kind m.vtree x ≡ Some u → AreLinkedAt (with_vtree m u) mid x lower) where
  -- once the vtree was rotated the upper nodes can be sorted
  pub then_can_sort : (old : Table) (u : Numbered) → CanRotate old m side x w upper lower u →
      CanSort old mid m.vtree side x w no_progress (value_of (get old.linked)) upper
  then_can_sort old u c =
      rotated_can_sort old m mid side x w upper lower u c.first t c.detached c.below c.turned
      (linked u (subst (λ k. moved_number k m.vtree x ≡ Some u) (sym e) c.turned))
      (going old w upper c.detached (subst (λ k. lower_of k m.vtree x ≡ Some w) (sym e) c.below))

  pub then_may_sort : MayRotate m side x w upper lower → MaySort mid side x w upper
  then_may_sort (old, u, c) = (old, m.vtree, no_progress, value_of (get old.linked), then_can_sort old u c)

  -- and where they were sorted, it was rotated
  pub has_rotated : IsTable mid → (new : Table) (left : List ℕ) (a b : List Named) (q r : List ℕ) →
      MayRotate m side x w upper lower → HasSorted mid new side x w upper left a b q r →
      HasRotated m new side x w upper lower left a b q r
  has_rotated table new left a b q r (old, u, c) s =
      record {
        u = u;
        turned = c.turned;
        between = mid;
        linked = linked u (subst (λ k. moved_number k m.vtree x ≡ Some u) (sym e) c.turned);
        table = table;
        can_sort = then_can_sort;
        sorted = s;
      }

-- what the rotation asks
pub ready_to_rotate : (m : Table) (side : Side) (kind : Move) (x w : ℕ) (upper lower : List ℕ) →
    kind ≡ rotation_of side → MayRotate m side x w upper lower → IsReadyToRotate m kind x lower
ready_to_rotate m side kind x w upper lower e (old, u, c) = (
  old,
  w,
  upper,
  u,
  c.detached,
  subst (λ k. lower_of k m.vtree x ≡ Some w) (sym e) c.below,
  subst (λ k. moved_number k m.vtree x ≡ Some u) (sym e) c.turned,
)
