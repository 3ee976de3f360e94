-- The entries of a move that is done make a journal that leads back.
use Rattle.std.proofs.Common.{◌≡◌, ◌≢◌, ◌⊎◌, inl, inr, ℕ, ◌+◌, ◌≤◌, List, [], ◌∷◌, Option, Some, None}
use Rattle.std.proofs.Common.{map, refl, sym, ◌∙◌, ap, subst}
use Rattle.std.specs.List.{AllByRecursion}
use Rattle.std.specs.Option.{IsSome, option_map}
use Rattle.std.specs.Ordering.{nat_cmp}
use Rattle.std.specs.FinMap.{FinMap, get, empty, remove}
use Rattle.std.proofs.lemmas.Option.{same_Some, none-some, some_pair_parts}
use Rattle.sd_model.specs.declared.trees.Move.{Move}
use Rattle.sd_model.specs.declared.trees.Move.TheVariants.{RotateLeft, RotateRight, Swap}
use Rattle.sd_model.specs.Tree.{AreDistinct}
use Rattle.sd_model.specs.Moves.{inverse_move}
use Rattle.sd_vtree.specs.Numbered.{Numbered, IsNumbered, or_else}
use Rattle.sd_vtree.specs.NumberedMoves.{moved_number}
use Rattle.sd_runs.specs.Arena.{IsMember}
use Rattle.sd_runs.proofs.Maps.{get_remove_other}
use Rattle.sd_laws.specs.Turned.{lower_of}
use Rattle.sd_laws.specs.Values.{Valuation}
use Rattle.sd_laws.proofs.Lists.{all_weaker}
use Rattle.sd_laws.proofs.Turning.{inverse_numbered, lower_rotated, turned_right, turned_left}
use Rattle.sd_manager.specs.Table.{Table, key_at}
use Rattle.sd_manager.specs.Shown.{HasNode}
use Rattle.sd_manager.specs.Valid.{IsTable}
use Rattle.sd_manager.specs.Moving.{at_rest, IsLater}
use Rattle.sd_manager.proofs.Reading.{node_of_code}
use Rattle.sd_manager.proofs.Valid.{nothing}
use Rattle.sd_sweep.specs.Reached.{reached_first, reached_below, IsReached}
use Rattle.sd_move.specs.Journal.{Named, Journal, journal_entry, key_before, key_of_entry, back, IsOwnRun, IsNamed}
use Rattle.sd_move.specs.Journal.{CanPutBack, CanUndo, with_start, starts_of, without_runs}
use Rattle.sd_move.specs.Moves.{IsMoved, StaysFunction}
use Rattle.sd_move.specs.Moving.{Progress, MoveInProgress}
use Rattle.sd_move.specs.Recorded.{IsRecorded, AreRecorded}
use Rattle.sd_move.proofs.UndoKept.{entry_found}
use Rattle.sd_move.proofs.Undoing.{closed_now}
use Rattle.sd_move.proofs.Newest.{LeadsBack, back_ascends, back_shown}
use Rattle.sd_move.proofs.ThereAndBack.{without_kept}
use Rattle.sd_move.proofs.KnownAtEnd.{known_at_end, stands_there, key_linked}

-- keys and runs

-- where nothing is detached, a node that has a key is linked under it
pub linked_again : (t : Table) → t.detached ≡ empty → (n : ℕ) (k : ℕ × List (ℕ × ℕ)) → key_at t n ≡ Some k →
    get t.linked n ≡ Some k
linked_again t none n k e = go (get t.linked n) refl
  where
    go : (o : Option (ℕ × List (ℕ × ℕ))) → get t.linked n ≡ o → get t.linked n ≡ Some k
    go (Some j) f = f ∙ sym (ap (λ o. or_else o (get t.detached n)) f) ∙ e
    go None f =
        absurd
        (nothing n k
        (ap (λ z. get z n) (sym none) ∙ sym (ap (λ o. or_else o (get t.detached n)) f) ∙ e))

-- a run that begins at none of these starts stays without them
pub without_other : (loose : FinMap nat_cmp (List (ℕ × ℕ))) (starts : List ℕ) (s : ℕ) → ¬ IsMember s starts →
    get (without_runs loose starts) s ≡ get loose s
without_other loose [] s none = refl
without_other loose (m ∷ ms) s none =
    without_other (remove loose m) ms s (λ h. none (inr h))
    ∙ get_remove_other loose m s (λ e. none (inl (sym e)))

-- each start of the entries is that of an own run
pub member_own : (es : List Named) (s : ℕ) → IsMember s (starts_of es) → IsOwnRun es s
member_own [] s h = absurd h
member_own (e ∷ es) s h = go (λ k. member_own es s k) e.run refl h
  where
    go : (IsMember s (starts_of es) → IsOwnRun es s) → (o : Option (ℕ × ℕ)) → e.run ≡ o →
        IsMember s (with_start o (starts_of es)) → IsOwnRun (e ∷ es) s
    go on None f k = inr (on k)
    go on (Some run) f (inl k) = inl (run.1, f ∙ ap (λ (z : ℕ). Some (z, run.1)) k)
    go on (Some run) f (inr k) = inr (on k)

-- an own run is that of an entry
pub own_entry : (es : List Named) (P : Named → Type 0) → AllByRecursion P es → (s : ℕ) → IsOwnRun es s →
    (e : Named) × P e × ((count : ℕ) × (e.run ≡ Some (s, count)))
own_entry [] P a s h = absurd h
own_entry (e ∷ es) P a s (inl h) = (e, a.0, h)
own_entry (e ∷ es) P a s (inr h) = own_entry es P a.1 s h

-- the key of an entry's node with no run is its list at the entry's place
kept_list : (t : Table) (n place p : ℕ) (k l : List (ℕ × ℕ)) → get t.linked n ≡ Some (p, k) →
    key_before t n place None ≡ Some (place, l) → k ≡ l
kept_list t n place p k l e f =
    (some_pair_parts place place k l (sym (ap (option_map (λ (j : ℕ × List (ℕ × ℕ)). (place, j.1))) e) ∙ f)).1

-- and with a run it is that run's list
run_list : (t : Table) (n place s count : ℕ) (l : List (ℕ × ℕ)) →
    key_before t n place (Some (s, count)) ≡ Some (place, l) → get t.loose s ≡ Some l
run_list t n place s count l f = go (get t.loose s) refl f
  where
    with_place : List (ℕ × ℕ) → ℕ × List (ℕ × ℕ)
    with_place list = (place, list)

    go : (o : Option (List (ℕ × ℕ))) → get t.loose s ≡ o → option_map with_place o ≡ Some (place, l) →
        get t.loose s ≡ Some l
    go None e g = absurd (none-some (place, l) g)
    go (Some k) e g = e ∙ ap Some ((some_pair_parts place place k l g).1)

-- the keys to which a journal goes back do not depend on whether a move goes on
back_rest : (j : Journal) (t : Table) (n : ℕ) → back j (at_rest t) n ≡ back j t n
back_rest j t n = by_entry (journal_entry j.named n)
  where
    by_entry : (o : Option Named) → key_of_entry (at_rest t) n o ≡ key_of_entry t n o
    by_entry None = refl
    by_entry (Some e) = by_run e.run
      where
        by_run : (r : Option (ℕ × ℕ)) → key_before (at_rest t) n e.place r ≡ key_before t n e.place r
        by_run None = refl
        by_run (Some run) = refl

-- the inverse move turns the same lower node
pub lower_inverse : (kind : Move) (t u : Numbered) (x : ℕ) → IsNumbered t → moved_number kind t x ≡ Some u →
    lower_of (inverse_move kind) u x ≡ lower_of kind t x
lower_inverse RotateRight t u x num is =
    let r = turned_right t u x num is in let l = lower_rotated t u x r.0 r.1 in l.1 ∙ sym l.0
lower_inverse RotateLeft t u x num is =
    let r = turned_left t u x num is in let l = lower_rotated u t x r.0 r.1 in l.0 ∙ sym l.1
lower_inverse Swap t u x num is = refl

-- the list of a node of m0 is that of the same node now, or of a loose run
abbrev pub HasListNow : Table → ℕ → List (ℕ × ℕ) → Type 0
HasListNow m n list =
    ((place : ℕ) × (get m.linked n ≡ Some (place, list))) ⊎ ((start : ℕ) × (get m.loose start ≡ Some list))

module _ (m0 m : Table) (x : ℕ) (lower : Option ℕ) (named : List Named) (r : AreRecorded m0 m x lower named)
    (none : m.detached ≡ empty) where
  -- each list of a node of m0 is there still
  pub list_now : (n p : ℕ) (l : List (ℕ × ℕ)) → get m0.linked n ≡ Some (p, l) → HasListNow m n l
  list_now n p l e = by_entry (journal_entry named n) refl
    where
      by_run : (w : Named) → w.number ≡ n → IsRecorded m0 m x lower w → (o : Option (ℕ × ℕ)) → w.run ≡ o →
          HasListNow m n l
      by_run w same k None f =
          let was : k.former ≡ l =
          (some_pair_parts w.place p k.former l (sym k.was ∙ ap (get m0.linked) same ∙ e)).1 in
          let now : k.list ≡ k.former =
          kept_list m w.number w.place k.place k.list k.former k.linked
          (ap (key_before m w.number w.place) (sym f) ∙ k.back) in
          inl (k.place, ap (get m.linked) (sym same) ∙ k.linked ∙ ap (λ z. Some (k.place, z)) (now ∙ was))
      by_run w same k (Some run) f =
          let was : k.former ≡ l =
          (some_pair_parts w.place p k.former l (sym k.was ∙ ap (get m0.linked) same ∙ e)).1 in
          inr (
            run.0,
            run_list m w.number w.place run.0 run.1 k.former (ap (key_before m w.number w.place) (sym f) ∙ k.back)
                ∙ ap Some was,
          )

      by_entry : (o : Option Named) → journal_entry named n ≡ o → HasListNow m n l
      by_entry None f = inl (p, linked_again m none n (p, l) (r.unnamed n (p, l) f e))
      by_entry (Some w) f =
          let k = entry_found named (IsRecorded m0 m x lower) r.entries n w f in by_run w k.1 k.0 w.run refl

  -- the journal leads each node of m0 back to its key
  pub back_was : (j : Journal) → j.named ≡ named → (n : ℕ) (key : ℕ × List (ℕ × ℕ)) → get m0.linked n ≡ Some key →
      back j m n ≡ Some key
  back_was j is n key e =
      ap (λ es. key_of_entry m n (journal_entry es n)) is ∙ by_entry (journal_entry named n) refl
    where
      by_entry : (o : Option Named) → journal_entry named n ≡ o → key_of_entry m n o ≡ Some key
      by_entry None f = linked_again m none n key (r.unnamed n key f e)
      by_entry (Some w) f =
          let k = entry_found named (IsRecorded m0 m x lower) r.entries n w f in
          ap (λ i. key_before m i w.place w.run) (sym k.1) ∙ k.0.back ∙ sym k.0.was
          ∙ ap (get m0.linked) k.1 ∙ e

  -- what was reached in m0 is reached when the move is done
  pub reached_still : m.roots ≡ m0.roots → {n : ℕ} → IsReached m0 n → IsReached (at_rest m) n
  reached_still roots (reached_first {n = n} (inl h)) =
      reached_first (inl (h.0, ap (λ z. get z h.0) roots ∙ h.1))
  reached_still roots (reached_first {n = n} (inr h)) =
      let k = without_kept m.loose (starts_of named) h.0 h.1 (ap (λ z. get z h.0) r.loose ∙ h.2) in
      reached_first (inr (h.0, h.1, k.0, h.3))
  reached_still roots (reached_below {m = i} {n = n} {place = p} {list = l} h e s) =
      go (reached_still roots h) (list_now i p l e)
    where
      go : IsReached (at_rest m) i → HasListNow m i l → IsReached (at_rest m) n
      go still (inl k) = reached_below still k.1 s
      go still (inr k) = reached_first (inr (k.0, l, k.1, s))

-- a move that is done

module _ (m0 m : Table) (kind : Move) (x : ℕ) (named : List Named) (h : Progress) (v : Valuation) (t0 : IsTable m0)
    (still : m0.moving ≡ None) (t : IsTable m) (g : MoveInProgress m0 m x h v)
    (kept_all : (n : ℕ) → ¬ IsMember n h.discarded) (none : m.detached ≡ empty)
    (moved : moved_number kind m0.vtree x ≡ Some m.vtree)
    (r : AreRecorded m0 m x (lower_of kind m0.vtree x) named) where
  -- a node of m0 is linked
  pub stays_linked : (n : ℕ) → IsSome (get m0.linked n) → IsSome (get m.linked n)
  stays_linked n s = key_linked m none n (g.kept n s (kept_all n))

  -- and shows its function
  pub stays_function : (n : ℕ) → IsSome (get m0.linked n) → StaysFunction m0 (at_rest m) n
  stays_function n s =
      let before = g.began n s (kept_all n) in
      let now = known_at_end m0 m x h v t g none n (stays_linked n s) in
      record {
        before = before.diagram;
        after = now.diagram;
        shown = before.is;
        moved = now.is;
        same = λ a. now.value a ∙ sym (before.value a);
      }

  -- a code of a run or a root of m0 is of a node that was linked there
  node_before : (i : ℕ) → HasNode m0 (2050 + i) → IsSome (get m0.linked i)
  node_before i there = key_linked m0 (t0.at_rest still) i (node_of_code m0 t0.numbered i there)

  -- an own run is the list of a node of m0
  own_before : (start : ℕ) (list : List (ℕ × ℕ)) → get m.loose start ≡ Some list → IsOwnRun named start →
      (n : ℕ) × (place : ℕ) × (get m0.linked n ≡ Some (place, list))
  own_before start list e own =
      let k = own_entry named (IsRecorded m0 m x (lower_of kind m0.vtree x)) r.entries start own in
      let same : k.1.former ≡ list =
      same_Some k.1.former list
      (sym (run_list m k.0.number k.0.place start k.2.0 k.1.former
      (ap (key_before m k.0.number k.0.place) (sym k.2.1) ∙ k.1.back)) ∙ e) in
      (k.0.number, k.0.place, k.1.was ∙ ap (λ z. Some (k.0.place, z)) same)

  module _ (j : Journal) (is : j.named ≡ named) where
    -- the journal leads back
    pub leads_back : LeadsBack m0 (at_rest m) j
    leads_back =
        record {
          nodes = λ n key e. back_rest j m n ∙ back_was m0 m x (lower_of kind m0.vtree x) named r none j is n key e;
          function = λ n s. stays_function n s;
          roots = g.roots;
          other_runs = λ start list e own.
              ap (λ l. get l start) (sym r.loose)
              ∙ without_other m.loose (starts_of named) start
              (λ w. own (subst (λ es. IsOwnRun es start) (sym is) (member_own named start w)))
              ∙ e;
          own_runs = λ start list e own. own_before start list e (subst (λ es. IsOwnRun es start) is own);
          named = λ n w. known n (subst (λ es. IsNamed es n) is w);
          lists_closed = λ n i place list e s. closed_now m0 t0 still n place i list e s;
          runs_closed = λ start i list e s.
              node_before i (stands_there m0 (2050 + i) list (t0.closed_runs start list e) s);
          roots_closed = λ root i e. node_before i (t0.closed_roots root (2050 + i) e);
        }
      where
        known : (n : ℕ) → IsNamed named n → IsSome (get m0.linked n)
        known n w = go (journal_entry named n) refl w
          where
            go : (o : Option Named) → journal_entry named n ≡ o → IsSome o → IsSome (get m0.linked n)
            go None f s = absurd (cc (s))
            go (Some e) f s =
                let k = entry_found named (IsRecorded m0 m x (lower_of kind m0.vtree x)) r.entries n e f in
                subst (λ i. IsSome (get m0.linked i)) k.1 (subst IsSome (sym k.0.was) refl)

    -- its inverse move gives the vtree of m0
    turned_back : j.kind ≡ kind → j.upper ≡ x → moved_number (inverse_move j.kind) m.vtree j.upper ≡ Some m0.vtree
    turned_back made upper =
        ap (λ k. moved_number (inverse_move k) m.vtree j.upper) made
        ∙ ap (moved_number (inverse_move kind) m.vtree) upper
        ∙ inverse_numbered kind m0.vtree m.vtree x t0.numbered moved

    -- and can be undone, where each node of m0 was reached
    pub can_undo : j.kind ≡ kind → j.upper ≡ x → j.lower ≡ lower_of kind m0.vtree x →
        ((n : ℕ) → IsSome (get m0.linked n) → IsReached m0 n) → CanUndo j (at_rest m)
    can_undo made upper lower all =
        record {
          no_move = refl;
          tree = m0.vtree;
          turned = turned_back made upper;
          lower =
              ap (λ k. lower_of (inverse_move k) m.vtree j.upper) made
              ∙ ap (lower_of (inverse_move kind) m.vtree) upper
              ∙ lower_inverse kind m0.vtree m.vtree x t0.numbered moved
              ∙ sym lower;
          numbers_once = subst (λ es. AreDistinct (map (λ (e : Named). e.number) es)) (sym is) r.numbers_once;
          runs_once = subst (λ es. AreDistinct (starts_of es)) (sym is) r.runs_once;
          entries =
              subst (λ es. AllByRecursion (CanPutBack (at_rest m) j.upper j.lower) es) (sym is)
              (all_weaker (IsRecorded m0 m x (lower_of kind m0.vtree x)) (CanPutBack (at_rest m) j.upper j.lower)
              (λ e k. entry e k) named r.entries);
          ascending = λ n place list needed e.
              back_ascends m0 (at_rest m) j t0.keys leads_back n place list needed e;
          shown = λ n needed. back_shown m0 (at_rest m) j leads_back n needed;
        }
      where
        here : (p : ℕ) → (p ≡ x) ⊎ (Some p ≡ lower_of kind m0.vtree x) → (p ≡ j.upper) ⊎ (Some p ≡ j.lower)
        here p (inl e) = inl (e ∙ sym upper)
        here p (inr e) = inr (e ∙ sym lower)

        entry : (e : Named) → IsRecorded m0 m x (lower_of kind m0.vtree x) e →
            CanPutBack (at_rest m) j.upper j.lower e
        entry e k =
            record {
              place = k.place;
              list = k.list;
              linked = k.linked;
              here = here k.place k.here;
              before = here e.place k.before;
              reached = reached_still m0 m x (lower_of kind m0.vtree x) named r none g.roots
                  (all e.number (subst IsSome (sym k.was) refl));
              run = k.run;
              rewritten = λ s. let w = k.rewritten s in (w.0 ∙ sym upper, w.1 ∙ sym upper);
            }

    -- so the vtree was moved
    pub is_moved : j.kind ≡ kind → j.upper ≡ x → j.lower ≡ lower_of kind m0.vtree x →
        ((n : ℕ) → IsSome (get m0.linked n) → IsReached m0 n) → m.bound ≡ m0.bound → m0.extent ≤ m.extent →
        m0.records ≤ m.records → IsLater m0 m → IsMoved m0 (at_rest m) kind x j
    is_moved made upper lower all bound extent records later =
        record {
          vtree = moved;
          function = λ n k e reached. stays_function n (subst IsSome (sym e) refl);
          outside = λ n k e reached above below. outside n k e above below;
          roots = g.roots;
          loose = ap (λ es. without_runs m.loose (starts_of es)) is ∙ r.loose;
          bound = bound;
          extent = extent;
          records = records;
          later = later;
          no_move = refl;
          made = made;
          upper = upper;
          lower = lower;
          can_undo = can_undo made upper lower all;
          before = λ n k e reached. leads_back.nodes n k e;
          turns_back = turned_back made upper;
        }
      where
        outside : (n : ℕ) (k : ℕ × List (ℕ × ℕ)) → get m0.linked n ≡ Some k → k.0 ≢ x →
            Some k.0 ≢ lower_of kind m0.vtree x → get m.linked n ≡ Some k
        outside n k e above below = by_entry (journal_entry named n) refl
          where
            by_entry : (o : Option Named) → journal_entry named n ≡ o → get m.linked n ≡ Some k
            by_entry None f = linked_again m none n k (r.unnamed n k f e)
            by_entry (Some w) f =
                let q = entry_found named (IsRecorded m0 m x (lower_of kind m0.vtree x)) r.entries n w f in
                let same : w.place ≡ k.0 =
                (some_pair_parts w.place k.0 q.0.former k.1 (sym q.0.was ∙ ap (get m0.linked) q.1 ∙ e)).0 in
                neither same q.0.before
              where
                neither : w.place ≡ k.0 → (w.place ≡ x) ⊎ (Some w.place ≡ lower_of kind m0.vtree x) →
                    get m.linked n ≡ Some k
                neither same (inl z) = absurd (above (sym same ∙ z))
                neither same (inr z) = absurd (below (ap Some (sym same) ∙ z))
