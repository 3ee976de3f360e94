-- The nodes at a place are detached, one after the other.
use Rattle.std.proofs.Common.{◌≡◌, ◌≢◌, ◌⊎◌, inl, inr, ℕ, ◌<◌, List, [], ◌∷◌, ◌++◌, Some}
use Rattle.std.proofs.Common.{refl, sym, ◌∙◌, ap, subst, arith}
use Rattle.std.specs.Option.{IsSome}
use Rattle.std.specs.FinMap.{get, insert, remove}
use Rattle.std.proofs.lemmas.Bool.{cases_eq}
use Rattle.std.proofs.lemmas.Option.{none-some, same_Some}
use Rattle.sd_vtree.specs.Numbered.{IsUnder}
use Rattle.sd_runs.specs.Arena.{IsMember, HasNoCopies}
use Rattle.sd_runs.proofs.Maps.{get_insert_same, get_insert_other, get_remove_other}
use Rattle.sd_laws.specs.Values.{Valuation}
use Rattle.sd_laws.proofs.Users.{users_above}
use Rattle.sd_manager.specs.Table.{Table}
use Rattle.sd_manager.specs.Valid.{IsTable, IsSettled}
use Rattle.sd_manager.specs.Moving.{detached_from, IsTop}
use Rattle.sd_manager.specs.Places.{IsLinkedAt}
use Rattle.sd_manager.proofs.Reading.{linked_key}
use Rattle.sd_sweep.proofs.Used.{entry_count, fewer_entries}
use Rattle.sd_move.specs.Moving.{Progress, MoveInProgress}
use Rattle.sd_move.specs.Steps.{CanDetachAt, MayDetachAt, WasDetached, AreDetached}
use Rattle.sd_manager.proofs.DetachedFrom.{keys_same, still_linked}
use Rattle.sd_move.proofs.DetachedOn.{detached_on}

-- a number at the end of a list

-- a number of the longer list is one of the list, or the last one
member_push : (n m : ℕ) (xs : List ℕ) → IsMember n (xs ++ m ∷ []) → IsMember n xs ⊎ (m ≡ n)
member_push n m [] (inl e) = inr e
member_push n m [] (inr k) = absurd k
member_push n m (x ∷ xs) (inl e) = inl (inl e)
member_push n m (x ∷ xs) (inr k) = elim (member_push n m xs k) [
  | inl i ↦ inl (inr i)
  | inr e ↦ inr e
]

-- one of the list is one of the longer list
member_old : (n m : ℕ) (xs : List ℕ) → IsMember n xs → IsMember n (xs ++ m ∷ [])
member_old n m [] k = absurd k
member_old n m (x ∷ xs) (inl e) = inl e
member_old n m (x ∷ xs) (inr k) = inr (member_old n m xs k)

-- and so is the last one
member_last : (m : ℕ) (xs : List ℕ) → IsMember m (xs ++ m ∷ [])
member_last m [] = inl refl
member_last m (x ∷ xs) = inr (member_last m xs)

-- a new number is no copy
copies_push : (m : ℕ) (xs : List ℕ) → HasNoCopies xs → ¬ IsMember m xs → HasNoCopies (xs ++ m ∷ [])
copies_push m [] c new = (λ k. k, tt)
copies_push m (x ∷ xs) c new = (
  λ k. elim (member_push x m xs k) [
    | inl i ↦ c.0 i
    | inr e ↦ new (inl (sym e))
  ],
  copies_push m xs c.1 (λ k. new (inr k)),
)

-- one node more is detached

-- a table with the same vtree and the same move has the same nodes above the move
pub settled_same : (a b : Table) → a.vtree ≡ b.vtree → a.moving ≡ b.moving → (p : ℕ) → IsSettled a p → IsSettled b p
settled_same a b vtree moving p s x e =
    subst (λ t. (x ≡ p) ⊎ (¬ IsUnder t x p)) vtree (s x (moving ∙ e))

module _ (old now : Table) (place : ℕ) (numbers : List ℕ) (d : AreDetached old now place numbers) (t : IsTable now)
    (n : ℕ) (list : List (ℕ × ℕ)) (e : get now.linked n ≡ Some (place, list)) where
  -- a linked node is none of the detached ones
  not_detached : (k : ℕ × List (ℕ × ℕ)) → get now.detached n ≡ Some k → ⊥
  not_detached k f = none-some k (sym (t.either n (place, list) e) ∙ f)

  not_listed : ¬ IsMember n numbers
  not_listed m = let w = d.each n m in not_detached (place, w.list) w.is

  -- a detached node is another one
  other_detached : (i : ℕ) (k : ℕ × List (ℕ × ℕ)) → get now.detached i ≡ Some k → i ≢ n
  other_detached i k f z = not_detached k (ap (get now.detached) (sym z) ∙ f)

  still_detached : (i : ℕ) (k : ℕ × List (ℕ × ℕ)) → get now.detached i ≡ Some k →
      get (insert now.detached n (place, list)) i ≡ Some k
  still_detached i k f = get_insert_other now.detached n (place, list) i (other_detached i k f) ∙ f

  -- the nodes that are detached then
  one_detached : AreDetached old (detached_from now n (place, list)) place (numbers ++ n ∷ [])
  one_detached =
      record {
        same = ap (λ (u : Table). detached_from u n (place, list)) d.same
            ∙ refl;
        keys = λ i. keys_same now n (place, list) e i ∙ d.keys i;
        still = λ i k f. d.still i k (still_linked now n i k f).1;
        others = λ i k f o. others i k f o (cases_eq i n);
        stay = λ i k f. still_detached i k (d.stay i k f);
        only = λ i k f. only i k f (cases_eq i n);
        each = λ i m. each i (member_push i n numbers m);
        once = copies_push n numbers d.once not_listed;
      }
    where
      others : (i : ℕ) (k : ℕ × List (ℕ × ℕ)) → get old.linked i ≡ Some k → k.0 ≢ place → (i ≡ n) ⊎ (i ≢ n) →
          get (remove now.linked n) i ≡ Some k
      others i k f o (inl z) =
          let own : get old.linked i ≡ Some (place, list) = ap (get old.linked) z ∙ d.still n (place, list) e in
          absurd (o (ap (λ (y : ℕ × List (ℕ × ℕ)). y.0) (same_Some k (place, list) (sym f ∙ own))))
      others i k f o (inr z) = get_remove_other now.linked n i z ∙ d.others i k f o

      only : (i : ℕ) (k : ℕ × List (ℕ × ℕ)) → get (insert now.detached n (place, list)) i ≡ Some k →
          (i ≡ n) ⊎ (i ≢ n) → (get old.detached i ≡ Some k) ⊎ IsMember i (numbers ++ n ∷ [])
      only i k f (inl z) = inr (subst (λ j. IsMember j (numbers ++ n ∷ [])) (sym z) (member_last n numbers))
      only i k f (inr z) = elim (d.only i k (sym (get_insert_other now.detached n (place, list) i z) ∙ f)) [
        | inl g ↦ inl g
        | inr m ↦ inr (member_old i n numbers m)
      ]

      each : (i : ℕ) → IsMember i numbers ⊎ (n ≡ i) → WasDetached old (detached_from now n (place, list)) place i
      each i (inl m) =
          let w = d.each i m in
          record { list = w.list; was = w.was; is = still_detached i (place, w.list) w.is }
      each i (inr z) =
          record {
            list = list;
            was = ap (get old.linked) (sym z) ∙ d.still n (place, list) e;
            is = ap (get (insert now.detached n (place, list))) (sym z)
                ∙ get_insert_same now.detached n (place, list);
          }

-- the loop

-- what is so after each node
pub record IsDetaching (old now : Table) (place : ℕ) (numbers : List ℕ) : Type 0 where
  pub going : (m0 : Table) (x : ℕ) (h : Progress) (v : Valuation) → CanDetachAt m0 old x h v place →
      MoveInProgress m0 now x h v
  pub done : AreDetached old now place numbers
  pub table : IsTable now

-- at the begin nothing is detached
pub detaching_first : (old : Table) (place : ℕ) (numbers : List ℕ) → IsTable old → numbers ≡ [] →
    IsDetaching old old place numbers
detaching_first old place numbers t none =
    record {
      going = λ m0 x h v c. c.going;
      done = record {
        same = refl;
        keys = λ n. refl;
        still = λ n k e. e;
        others = λ n k e d. e;
        stay = λ n k e. e;
        only = λ n k e. inl e;
        each = λ n m. absurd (subst (IsMember n) none m);
        once = subst HasNoCopies (sym none) tt;
      };
      table = t;
    }

module _ (old now : Table) (place : ℕ) (numbers : List ℕ) (s : IsDetaching old now place numbers) (n : ℕ)
    (at : IsLinkedAt now place n) where
  same_vtree : now.vtree ≡ old.vtree
  same_vtree = ap (λ (t : Table). t.vtree) s.done.same

  same_moving : now.moving ≡ old.moving
  same_moving = ap (λ (t : Table). t.moving) s.done.same

  -- no settled node has it in its list: who has, stands strictly above
  is_top : (m0 : Table) (x : ℕ) (h : Progress) (v : Valuation) → CanDetachAt m0 old x h v place → IsTop now n
  is_top m0 x h v c i k e settled stands =
      let g = s.going m0 x h v c in
      let key = linked_key now n (place, at.list) at.is in
      let u =
      users_above now.vtree s.table.numbered v n k.0 place k.1 at.list (g.placed i k.0 k.1 e)
      (g.whole n place at.list key) (g.placed n place at.list at.is) (g.value n place at.list key) stands in
      c.above i k (s.done.still i k e) (subst (λ t. IsUnder t place k.0) same_vtree u.0) u.1
      (settled_same now old same_vtree same_moving k.0 settled)

  -- what a detachment asks
  pub may_detach : MayDetachAt old place → IsSome now.moving × IsSome (get now.linked n) × IsTop now n
  may_detach (m0, x, h, v, c) = (
    subst IsSome (sym (s.going m0 x h v c).moving) refl,
    subst IsSome (sym at.is) refl,
    is_top m0 x h v c,
  )

  -- and one node more is detached
  pub detaching_on : (new : Table) (longer : List ℕ) →
      ((k : ℕ × List (ℕ × ℕ)) → get now.linked n ≡ Some k → new ≡ detached_from now n k) → IsTable new →
      longer ≡ numbers ++ n ∷ [] → IsDetaching old new place longer
  detaching_on new longer is t l =
      record {
        going = λ m0 x h v c. subst (λ u. MoveInProgress m0 u x h v) (sym own)
            (detached_on m0 now x h v s.table.numbered (s.going m0 x h v c) n (place, at.list) at.is
            (is_top m0 x h v c) c.early
            (λ b. c.old b n (record { list = at.list; is = s.done.still n (place, at.list) at.is })));
        done = subst (λ u. AreDetached old u place longer) (sym own)
            (subst (AreDetached old (detached_from now n (place, at.list)) place) (sym l)
            (one_detached old now place numbers s.done s.table n at.list at.is));
        table = t;
      }
    where
      own : new ≡ detached_from now n (place, at.list)
      own = is (place, at.list) at.is

  -- and fewer are linked
  pub detaching_less : (new : Table) →
      ((k : ℕ × List (ℕ × ℕ)) → get now.linked n ≡ Some k → new ≡ detached_from now n k) →
      entry_count new.linked < entry_count now.linked
  detaching_less new is =
      omega (
        arith,
        fewer_entries now.linked n (place, at.list) at.is,
        ap (λ (t : Table). entry_count t.linked) (is (place, at.list) at.is),
      )
