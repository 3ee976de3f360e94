-- The detached nodes of the upper place of a rotation are sorted, one after the other.
use Rattle.std.proofs.Common.{◌≡◌, ◌≢◌, ◌⊎◌, inl, inr, ℕ, List, [], ◌∷◌, ◌++◌, map, Some}
use Rattle.std.proofs.Common.{refl, sym, ◌∙◌, ap, subst, append_assoc}
use Rattle.std.specs.List.{AllByRecursion}
use Rattle.std.specs.List.Sorted.{IsPermutation}
use Rattle.std.specs.Option.{IsSome}
use Rattle.std.specs.Ordering.{nat_cmp}
use Rattle.std.specs.FinMap.{FinMap, get, insert, remove}
use Rattle.std.proofs.lemmas.Bool.{cases_eq}
use Rattle.std.proofs.lemmas.List.{append-nil}
use Rattle.std.proofs.lemmas.List.Sorted.{IsPermutation-refl, IsPermutation-sym, IsPermutation-trans}
use Rattle.std.proofs.lemmas.List.Sorted.{IsPermutation-cons}
use Rattle.std.proofs.lemmas.List.Sorted.{IsPermutation-to_front, IsPermutation-append_left, IsPermutation-append_right}
use Rattle.std.proofs.lemmas.Option.{none-some, same_Some}
use Rattle.sd_vtree.specs.Numbered.{Numbered, IsUnder}
use Rattle.sd_vtree.proofs.Subtrees.{once_numbered}
use Rattle.sd_runs.specs.Arena.{IsMember}
use Rattle.sd_runs.proofs.Maps.{get_insert_same, get_insert_other, get_remove_same, get_remove_other}
use Rattle.sd_laws.specs.Values.{Valuation, IsPlaced, ShowsValue}
use Rattle.sd_laws.proofs.Lists.{all_weaker}
use Rattle.sd_manager.specs.Table.{Table}
use Rattle.sd_manager.specs.Valid.{IsTable, IsSettled}
use Rattle.sd_manager.specs.Moving.{linked_under, FitsNode, IsAscending, IsAbsent}
use Rattle.sd_manager.proofs.DetachedFrom.{under_apart}
use Rattle.sd_model.specs.declared.trees.Side.{Side}
use Rattle.sd_move.specs.declared.sorting.Fit.{Fit}
use Rattle.sd_move.specs.declared.sorting.Fit.TheVariants.{Upper, Lower, Neither}
use Rattle.sd_move.specs.Journal.{Named}
use Rattle.sd_move.specs.Moving.{Progress, MoveInProgress}
use Rattle.sd_move.specs.Steps.{CanLinkAll}
use Rattle.sd_move.specs.Sorting.{CanSortNode, CanSort, MaySort, TellsFit, WasLinked, StaysDetached}
use Rattle.sd_move.specs.Sorting.{place_entry, IsSorted, IsSortedBy, AreSorted, HasSorted, IsDivided}
use Rattle.sd_move.proofs.Divided.{are_sides}
use Rattle.sd_move.proofs.LinkedAll.{may_link, linking_first, first_linked}
use Rattle.sd_move.proofs.LinkedOn.{still_there, lifted}

-- where a node may be linked

module _ (m0 m : Table) (t : Numbered) (side : Side) (x w : ℕ) (h : Progress) (v : Valuation) (n : ℕ)
    (rest : List ℕ) (i : IsTable m) (c : CanSort m0 m t side x w h v (n ∷ rest)) where
  -- the first one alone can be sorted
  pub only_first : CanSort m0 m t side x w h v (n ∷ [])
  only_first =
      record {
        going = c.going;
        former = c.former;
        rotated = c.rotated;
        early = c.early;
        once = (λ z. z, tt);
        each = (c.each.0, tt);
      }

  -- and so can the others
  pub only_others : CanSort m0 m t side x w h v rest
  only_others =
      record {
        going = c.going;
        former = c.former;
        rotated = c.rotated;
        early = c.early;
        once = c.once.1;
        each = c.each.1;
      }

  -- both nodes of the rotation are settled
  pub upper_settled : IsSettled m x
  upper_settled y e = inl (same_Some y x (sym e ∙ c.going.moving))

  pub lower_settled : IsSettled m w
  lower_settled y e =
      let node = (are_sides side t m.vtree x w i.numbered c.rotated).node in
      let same : x ≡ y = same_Some x y (sym c.going.moving ∙ e) in
      subst (λ z. (z ≡ w) ⊎ (¬ IsUnder m.vtree z w)) same
      (inr (λ under. under_apart m.vtree (once_numbered m.vtree i.numbered) x w under node.under node.apart))

  -- the first one's list
  abbrev pub first_list : List (ℕ × ℕ)
  first_list = c.each.0.list

  -- the node may be linked where its list fits
  pub can_link : (p : ℕ) → IsSettled m p → IsPlaced m.vtree v p first_list → CanLinkAll m0 m x h v p (n ∷ [])
  can_link p settled placed =
      record {
        going = c.going;
        settled = settled;
        early = c.early;
        once = (λ z. z, tt);
        each = (
          record {
            before = x;
            list = first_list;
            was = c.each.0.was;
            old = c.each.0.old;
            placed = placed;
            ascending = c.each.0.ascending;
            codes = c.each.0.codes;
          },
          tt,
        );
      }

  -- the others can be sorted then
  others_sort : (p : ℕ) (ns : List ℕ) → ¬ IsMember n ns → AllByRecursion (CanSortNode m0 m t x h v) ns →
      AllByRecursion (CanSortNode m0 (linked_under m n (p, first_list)) t x h v) ns
  others_sort p [] new all = tt
  others_sort p (k ∷ ns) new all = (
    let s = all.0 in
        record {
          list = s.list;
          was = get_remove_other m.detached n k (λ z. new (inl z)) ∙ s.was;
          old = s.old;
          placed = s.placed;
          ascending = s.ascending;
          codes = all_weaker
              (λ (e : ℕ × ℕ). ShowsValue m.vtree (get m.linked) v e.0 × ShowsValue m.vtree (get m.linked) v e.1)
              (λ (e : ℕ × ℕ). ShowsValue m.vtree (get (insert m.linked n (p, first_list))) v e.0
              × ShowsValue m.vtree (get (insert m.linked n (p, first_list))) v e.1)
              (λ e q. (shown e.0 q.0, shown e.1 q.1)) s.list s.codes;
        },
    others_sort p ns (λ z. new (inr z)) all.1,
  )
    where
      shown : (d : ℕ) → ShowsValue m.vtree (get m.linked) v d →
          ShowsValue m.vtree (get (insert m.linked n (p, first_list))) v d
      shown d q =
          lifted m.vtree (get m.linked) (get (insert m.linked n (p, first_list))) v d
          (still_there m i n (x, first_list) (p, first_list) c.each.0.was) q

  pub others_after : (p : ℕ) → IsSettled m p → IsPlaced m.vtree v p first_list →
      IsTable (linked_under m n (p, first_list)) →
      CanSort m0 (linked_under m n (p, first_list)) t side x w h v rest
  unfolding can_link
  others_after p settled placed after =
      record {
        going = (first_linked m0 m x h v p n [] i (can_link p settled placed) after).going;
        former = c.former;
        rotated = c.rotated;
        early = c.early;
        once = c.once.1;
        each = others_sort p rest c.once.0 c.each.1;
      }

  -- the key that the node has
  first_key : (k : ℕ × List (ℕ × ℕ)) → get m.detached n ≡ Some k → (x, first_list) ≡ k
  first_key k e = same_Some (x, first_list) k (sym c.each.0.was ∙ e)

  -- what a call of `retag` asks
  pub may_retag : (p : ℕ) → IsSettled m p → IsPlaced m.vtree v p first_list → IsSome m.moving
      × IsSome (get m.detached n)
      × ((k : ℕ × List (ℕ × ℕ)) → get m.detached n ≡ Some k → FitsNode m p k.1 × IsAscending k.1)
      × ((k : ℕ × List (ℕ × ℕ)) → get m.detached n ≡ Some k → IsAbsent m p k.1)
  may_retag p settled placed =
      may_link m m p n (n ∷ []) [] (linking_first m p (n ∷ []) i) (m0, x, h, v, can_link p settled placed)

  -- the others can be sorted after a step
  pub after_one : (new : Table) (fit : Fit) (e e' : List Named) (q q' : List ℕ) → TellsFit m side x w n fit →
      IsSortedBy fit m new x w n e e' q q' → IsTable new → CanSort m0 new t side x w h v rest
  after_one new Lower e e' q q' tells by after =
      let own : new ≡ linked_under m n (w, first_list) =
      by.0.2 ∙ ap (λ (y : ℕ × List (ℕ × ℕ)). linked_under m n (w, y.1)) (sym (first_key by.0.0 by.0.1)) in
      subst (λ z. CanSort m0 z t side x w h v rest) (sym own)
      (others_after w lower_settled (tells m0 t h v only_first (x, first_list) c.each.0.was) (subst IsTable own after))
  after_one new Upper e e' q q' tells by after =
      let own : new ≡ linked_under m n (x, first_list) =
      by.0.2 ∙ ap (λ (y : ℕ × List (ℕ × ℕ)). linked_under m n (x, y.1)) (sym (first_key by.0.0 by.0.1)) in
      subst (λ z. CanSort m0 z t side x w h v rest) (sym own)
      (others_after x upper_settled (tells m0 t h v only_first (x, first_list) c.each.0.was) (subst IsTable own after))
  after_one new Neither e e' q q' tells by after =
      subst (λ z. CanSort m0 z t side x w h v rest) (sym by.0) only_others

-- what a step does to the nodes that are sorted later

-- a key that is left when a number was removed is another one's
other_key : (map : FinMap nat_cmp (ℕ × List (ℕ × ℕ))) (n i : ℕ) (k : ℕ × List (ℕ × ℕ)) →
    get (remove map n) i ≡ Some k → (i ≢ n) × (get map i ≡ Some k)
other_key map n i k e = elim (cases_eq i n) [
  | inl z ↦ absurd (none-some k (sym (get_remove_same map n) ∙ ap (get (remove map n)) (sym z) ∙ e))
  | inr d ↦ (d, sym (get_remove_other map n i d) ∙ e)
]

module _ (m new : Table) (n p q : ℕ) (l : List (ℕ × ℕ)) where
  was_linked : (i : ℕ) → WasLinked (linked_under m n (p, l)) new q i → WasLinked m new q i
  was_linked i s = record { key = s.key; was = (other_key m.detached n i s.key s.was).1; is = s.is; gone = s.gone }

  stays_detached : (i : ℕ) → StaysDetached (linked_under m n (p, l)) new i → StaysDetached m new i
  stays_detached i s =
      let o = other_key m.detached n i s.key s.was in
      record { key = s.key; was = o.1; is = s.is; linked = s.linked ∙ get_insert_other m.linked n (p, l) i o.0 }

-- parts of a list

-- an element before a list is put behind its first part
to_middle : (n : ℕ) (xs ys : List ℕ) → IsPermutation (n ∷ (xs ++ ys)) (xs ++ n ∷ ys)
to_middle n xs ys =
    IsPermutation-sym (xs ++ n ∷ ys) (n ∷ (xs ++ ys))
    (subst (λ z. IsPermutation z (n ∷ (xs ++ ys))) (append_assoc xs (n ∷ []) ys)
    (IsPermutation-append_left ys (xs ++ n ∷ []) (n ∷ xs) (IsPermutation-to_front xs n)))

-- one number more, at the front of each of the parts
first_part : (n : ℕ) (rest a b c d : List ℕ) → IsPermutation rest (a ++ (b ++ (c ++ d))) →
    IsPermutation (n ∷ rest) ((n ∷ a) ++ (b ++ (c ++ d)))
first_part n rest a b c d s = IsPermutation-cons n rest (a ++ (b ++ (c ++ d))) s

second_part : (n : ℕ) (rest a b c d : List ℕ) → IsPermutation rest (a ++ (b ++ (c ++ d))) →
    IsPermutation (n ∷ rest) (a ++ ((n ∷ b) ++ (c ++ d)))
second_part n rest a b c d s =
    IsPermutation-trans (n ∷ rest) (n ∷ (a ++ (b ++ (c ++ d)))) (a ++ n ∷ (b ++ (c ++ d)))
    (first_part n rest a b c d s) (to_middle n a (b ++ (c ++ d)))

third_part : (n : ℕ) (rest a b c d : List ℕ) → IsPermutation rest (a ++ (b ++ (c ++ d))) →
    IsPermutation (n ∷ rest) (a ++ (b ++ ((n ∷ c) ++ d)))
third_part n rest a b c d s =
    IsPermutation-trans (n ∷ rest) (a ++ n ∷ (b ++ (c ++ d))) (a ++ (b ++ n ∷ (c ++ d)))
    (second_part n rest a b c d s)
    (IsPermutation-append_right a (n ∷ (b ++ (c ++ d))) (b ++ n ∷ (c ++ d)) (to_middle n b (c ++ d)))

-- one node more

-- what holds of each number holds of a member
pub member_at : (P : ℕ → Type 0) (ns : List ℕ) → AllByRecursion P ns → (i : ℕ) → IsMember i ns → P i
member_at P [] all i k = absurd k
member_at P (n ∷ ns) all i (inl e) = subst P e all.0
member_at P (n ∷ ns) all i (inr k) = member_at P ns all.1 i k

module _ (m : Table) (side : Side) (x w n : ℕ) (rest : List ℕ) (i : IsTable m)
    (may : MaySort m side x w (n ∷ rest)) where
  abbrev chosen : CanSort may.0 m may.1 side x w may.2 may.3 (n ∷ rest)
  chosen = may.4

  -- The node was linked at p, and the others were sorted.
  module _ (new : Table) (p : ℕ) (k : ℕ × List (ℕ × ℕ)) (was : get m.detached n ≡ Some k)
      (moved kept waits left : List ℕ)
      (s : AreSorted (linked_under m n (p, k.1)) new side x w rest moved kept waits left)
      (after : (m0 : Table) (t : Numbered) (h : Progress) (v : Valuation) → CanSort m0 m t side x w h v (n ∷ rest) →
      CanSort m0 (linked_under m n (p, k.1)) t side x w h v rest) where
    own_linked : WasLinked m new p n
    own_linked =
        record {
          key = k;
          was = was;
          is = (s.others n chosen.once.0).0 ∙ get_insert_same m.linked n (p, k.1);
          gone = (s.others n chosen.once.0).1 ∙ get_remove_same m.detached n;
        }

    others_still : (j : ℕ) → ¬ IsMember j (n ∷ rest) →
        (get new.linked j ≡ get m.linked j) × (get new.detached j ≡ get m.detached j)
    others_still j out =
        let o = s.others j (λ z. out (inr z)) in (
          o.0 ∙ get_insert_other m.linked n (p, k.1) j (λ z. out (inl (sym z))),
          o.1 ∙ get_remove_other m.detached n j (λ z. out (inl (sym z))),
        )

    still_divided : (m0 : Table) (t : Numbered) (h : Progress) (v : Valuation) →
        CanSort m0 m t side x w h v (n ∷ rest) → (j : ℕ) → IsMember j waits → (key : ℕ × List (ℕ × ℕ)) →
        get m.detached j ≡ Some key → IsDivided m.vtree x w v key.1
    still_divided m0 t h v c j z key e =
        let stay = s.waits j z in
        let o = other_key m.detached n j stay.key stay.was in
        s.divided m0 t h v (after m0 t h v c) j z key (get_remove_other m.detached n j o.0 ∙ e)

    pub lower_more : p ≡ w → AreSorted m new side x w (n ∷ rest) (n ∷ moved) kept waits left
    lower_more here =
        record {
          parts = first_part n rest moved kept waits left s.parts;
          same = s.same;
          lower = λ j z. elim z [
            | inl e ↦ subst (WasLinked m new w) e (subst (λ q. WasLinked m new q n) here own_linked)
            | inr r ↦ was_linked m new n p w k.1 j (s.lower j r)
          ];
          upper = λ j z. was_linked m new n p x k.1 j (s.upper j z);
          waits = λ j z. stays_detached m new n p p k.1 j (s.waits j z);
          stays = λ j z. stays_detached m new n p p k.1 j (s.stays j z);
          others = others_still;
          divided = still_divided;
        }

    pub upper_more : p ≡ x → AreSorted m new side x w (n ∷ rest) moved (n ∷ kept) waits left
    upper_more here =
        record {
          parts = second_part n rest moved kept waits left s.parts;
          same = s.same;
          lower = λ j z. was_linked m new n p w k.1 j (s.lower j z);
          upper = λ j z. elim z [
            | inl e ↦ subst (WasLinked m new x) e (subst (λ q. WasLinked m new q n) here own_linked)
            | inr r ↦ was_linked m new n p x k.1 j (s.upper j r)
          ];
          waits = λ j z. stays_detached m new n p p k.1 j (s.waits j z);
          stays = λ j z. stays_detached m new n p p k.1 j (s.stays j z);
          others = others_still;
          divided = still_divided;
        }

  -- The node waits, and the others were sorted.
  module _ (new : Table) (moved kept waits left : List ℕ) (s : AreSorted m new side x w rest moved kept waits left)
      (tells : TellsFit m side x w n Neither) where
    own_stays : StaysDetached m new n
    own_stays =
        record {
          key = (x, chosen.each.0.list);
          was = chosen.each.0.was;
          is = (s.others n chosen.once.0).1 ∙ chosen.each.0.was;
          linked = (s.others n chosen.once.0).0;
        }

    divided_more : (m0 : Table) (t : Numbered) (h : Progress) (v : Valuation) →
        CanSort m0 m t side x w h v (n ∷ rest) → (j : ℕ) → (n ≡ j) ⊎ IsMember j waits →
        (key : ℕ × List (ℕ × ℕ)) → get m.detached j ≡ Some key → IsDivided m.vtree x w v key.1
    divided_more m0 t h v c j (inl e) key was =
        tells m0 t h v (only_first m0 m t side x w h v n rest i c) key (ap (get m.detached) e ∙ was)
    divided_more m0 t h v c j (inr z) key was =
        s.divided m0 t h v (only_others m0 m t side x w h v n rest i c) j z key was

    pub waits_more : AreSorted m new side x w (n ∷ rest) moved kept (n ∷ waits) left
    waits_more =
        record {
          parts = third_part n rest moved kept waits left s.parts;
          same = s.same;
          lower = s.lower;
          upper = s.upper;
          waits = λ j z. elim z [
            | inl e ↦ subst (StaysDetached m new) e own_stays
            | inr r ↦ s.waits j r
          ];
          stays = s.stays;
          others = λ j out. s.others j (λ z. out (inr z));
          divided = divided_more;
        }

  -- a step and the rest are the whole
  pub sorted_more : (one new : Table) (left : List ℕ) (e e' f : List Named) (q q' r : List ℕ) → (fit : Fit) →
      TellsFit m side x w n fit → IsSortedBy fit m one x w n e e' q q' → IsTable one →
      HasSorted one new side x w rest left e' f q' r → HasSorted m new side x w (n ∷ rest) left e f q r
  sorted_more one new left e e' f q q' r Lower tells by t h =
      record {
        moved = n ∷ h.moved;
        kept = h.kept;
        waits = h.waits;
        sorted = lower_more new w by.0.0 by.0.1 h.moved h.kept h.waits left
            (subst (λ z. AreSorted z new side x w rest h.moved h.kept h.waits left) by.0.2 h.sorted)
            (λ m0 u g v c. subst (λ z. CanSort m0 z u side x w g v rest) by.0.2
            (after_one m0 m u side x w g v n rest i c one Lower e e' q q' tells by t)) refl;
        entered = h.entered ∙ ap (λ z. z ++ map (place_entry x) h.moved) by.1
            ∙ append_assoc e (place_entry x n ∷ []) (map (place_entry x) h.moved);
        listed = h.listed ∙ ap (λ z. z ++ h.waits) by.2;
      }
  sorted_more one new left e e' f q q' r Upper tells by t h =
      record {
        moved = h.moved;
        kept = n ∷ h.kept;
        waits = h.waits;
        sorted = upper_more new x by.0.0 by.0.1 h.moved h.kept h.waits left
            (subst (λ z. AreSorted z new side x w rest h.moved h.kept h.waits left) by.0.2 h.sorted)
            (λ m0 u g v c. subst (λ z. CanSort m0 z u side x w g v rest) by.0.2
            (after_one m0 m u side x w g v n rest i c one Upper e e' q q' tells by t)) refl;
        entered = h.entered ∙ ap (λ z. z ++ map (place_entry x) h.moved) by.1;
        listed = h.listed ∙ ap (λ z. z ++ h.waits) by.2;
      }
  sorted_more one new left e e' f q q' r Neither tells by t h =
      record {
        moved = h.moved;
        kept = h.kept;
        waits = n ∷ h.waits;
        sorted = waits_more new h.moved h.kept h.waits left
            (subst (λ z. AreSorted z new side x w rest h.moved h.kept h.waits left) by.0 h.sorted) tells;
        entered = h.entered ∙ ap (λ z. z ++ map (place_entry x) h.moved) by.1;
        listed = h.listed ∙ ap (λ z. z ++ h.waits) by.2 ∙ append_assoc q (n ∷ []) h.waits;
      }

-- nothing was sorted where all are left
pub none_sorted : (m : Table) (side : Side) (x w : ℕ) (rest : List ℕ) (e : List Named) (q : List ℕ) →
    MaySort m side x w rest → HasSorted m m side x w rest rest e e q q
none_sorted m side x w rest e q (m0, t, h, v, c) =
    record {
      moved = [];
      kept = [];
      waits = [];
      sorted = record {
        parts = IsPermutation-refl rest;
        same = refl;
        lower = λ j z. absurd z;
        upper = λ j z. absurd z;
        waits = λ j z. absurd z;
        stays = λ j z.
            let s = member_at (CanSortNode m0 m t x h v) rest c.each j z in
            record { key = (x, s.list); was = s.was; is = s.was; linked = refl };
        others = λ j z. (refl, refl);
        divided = λ a b d g k j z. absurd z;
      };
      entered = sym (append-nil e);
      listed = sym (append-nil q);
    }

-- the loop

-- what is so where these nodes are left
pub record IsSorting (old now : Table) (side : Side) (x w : ℕ) (numbers rest : List ℕ) (before entries : List Named)
    (listed waiting : List ℕ) : Type 0 where
  pub going : (m0 : Table) (t : Numbered) (h : Progress) (v : Valuation) → CanSort m0 old t side x w h v numbers →
      CanSort m0 now t side x w h v rest
  pub done : (new : Table) (left : List ℕ) (e : List Named) (q : List ℕ) →
      HasSorted now new side x w rest left entries e waiting q →
      HasSorted old new side x w numbers left before e listed q
  pub table : IsTable now

-- at the begin all are left
pub sorting_first : (old : Table) (side : Side) (x w : ℕ) (numbers : List ℕ) (e : List Named) (q : List ℕ) →
    IsTable old → IsSorting old old side x w numbers numbers e e q q
sorting_first old side x w numbers e q i =
    record { going = λ m0 t h v c. c; done = λ new left f r s. s; table = i }

module _ (old now : Table) (side : Side) (x w : ℕ) (numbers rest : List ℕ) (before entries : List Named)
    (listed waiting : List ℕ) (s : IsSorting old now side x w numbers rest before entries listed waiting)
    (may : MaySort old side x w numbers) where
  -- those that are left can be sorted
  pub may_go_on : MaySort now side x w rest
  may_go_on = (may.0, may.1, may.2, may.3, s.going may.0 may.1 may.2 may.3 may.4)

  -- where the loop stops, these are left
  pub sorting_stopped : HasSorted old now side x w numbers rest before entries listed waiting
  sorting_stopped = s.done now rest entries waiting (none_sorted now side x w rest entries waiting may_go_on)

  -- and the move goes on
  pub sorting_going : (m0 : Table) (t : Numbered) (h : Progress) (v : Valuation) →
      CanSort m0 old t side x w h v numbers → MoveInProgress m0 now x h v
  sorting_going m0 t h v c = (s.going m0 t h v c).going

module _ (old now : Table) (side : Side) (x w n : ℕ) (numbers rest : List ℕ) (before entries : List Named)
    (listed waiting : List ℕ) (s : IsSorting old now side x w numbers (n ∷ rest) before entries listed waiting)
    (may : MaySort old side x w numbers) where
  -- the first of those that are left can be sorted
  pub may_sort_one : MaySort now side x w (n ∷ [])
  may_sort_one =
      let c = s.going may.0 may.1 may.2 may.3 may.4 in
      (may.0, may.1, may.2, may.3, only_first may.0 now may.1 side x w may.2 may.3 n rest s.table c)

  -- and then the others are left
  pub sorting_on : (new : Table) (after : List Named) (more : List ℕ) →
      IsSorted now new side x w n entries after waiting more → IsTable new →
      IsSorting old new side x w numbers rest before after listed more
  sorting_on new after more o i =
      record {
        going = λ m0 t h v c.
            after_one m0 now t side x w h v n rest s.table (s.going m0 t h v c) new o.fit entries after waiting more
            o.tells o.by i;
        done = λ z left f r d.
            s.done z left f r
            (sorted_more now side x w n rest s.table
            (may.0, may.1, may.2, may.3, s.going may.0 may.1 may.2 may.3 may.4) new z left entries after f waiting more
            r o.fit o.tells o.by i d);
        table = i;
      }
