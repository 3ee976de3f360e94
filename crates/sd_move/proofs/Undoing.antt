-- Before a journal is undone: what is known of the nodes now, and in the state gone back to.
use Rattle.std.proofs.Common.{◌≡◌, ◌≢◌, ◌⊎◌, inl, inr, ℕ, ◌+◌, ◌*◌, ◌<◌, List, [], ◌∷◌, Option, Some, None}
use Rattle.std.proofs.Common.{refl, sym, ◌∙◌, ap, subst, arith}
use Rattle.std.specs.List.{AllByRecursion}
use Rattle.std.specs.Option.{IsSome, option_map}
use Rattle.std.specs.FinMap.{get}
use Rattle.std.proofs.lemmas.Bool.{cases_eq}
use Rattle.std.proofs.lemmas.Option.{none-some, some_pair_parts}
use Rattle.sd_model.specs.Tree.{leaves}
use Rattle.sd_vtree.specs.Numbered.{Numbered, plain_tree, IsNumbered, IsUnder}
use Rattle.sd_vtree.proofs.Subtrees.{AtMostOnce, once_numbered}
use Rattle.sd_vtree.proofs.Under.{under_trans}
use Rattle.sd_laws.specs.Shown.{Lookup}
use Rattle.sd_laws.specs.Turned.{KeepsOthers}
use Rattle.sd_laws.specs.Values.{StandsIn, IsCodeOf, AreOrderly, ShowsValue}
use Rattle.sd_laws.proofs.Lists.{all_weaker}
use Rattle.sd_laws.proofs.Nodes.{code_of_node}
use Rattle.sd_laws.proofs.Evaluated.{value_of, value_of_shown, literals_given}
use Rattle.sd_laws.proofs.Unturned.{IsShownNode, valued_orderly}
use Rattle.sd_laws.proofs.GoneBack.{GoesBack, IsBaseOrNode}
use Rattle.sd_manager.specs.Table.{Table}
use Rattle.sd_manager.specs.Valid.{IsTable}
use Rattle.sd_manager.proofs.AtRest.{all_shown, now_orderly, below_user}
use Rattle.sd_manager.proofs.DetachedFrom.{under_apart}
use Rattle.sd_sweep.specs.Reached.{reached_first, reached_below, IsInRun, IsReached}
use Rattle.sd_move.specs.Journal.{Named, Journal, journal_entry, key_before, key_of_entry, back, IsOwnRun}
use Rattle.sd_move.specs.Journal.{IsNeededBack, CanPutBack, CanUndo}
use Rattle.sd_move.proofs.UndoKept.{entry_found}

-- places

-- what is strictly under a node that is under x is strictly under x
pub under_strictly : (t : Numbered) → AtMostOnce t → (a m x : ℕ) → IsUnder t a m → m ≢ a → IsUnder t m x →
    IsUnder t a x × (a ≢ x)
under_strictly t once a m x u d v = (
  under_trans t once a m x u v,
  λ e. under_apart t once a m u (subst (IsUnder t m) (sym e) v) (λ z. d (sym z)),
)

-- runs

-- a run is one of the journal's, or not
own_run : (es : List Named) (start : ℕ) → IsOwnRun es start ⊎ (¬ IsOwnRun es start)
own_run [] start = inr (λ h. h)
own_run (e ∷ es) start = go (own_run es start) e.run refl
  where
    go : IsOwnRun es start ⊎ (¬ IsOwnRun es start) → (o : Option (ℕ × ℕ)) → e.run ≡ o →
        IsOwnRun (e ∷ es) start ⊎ (¬ IsOwnRun (e ∷ es) start)
    go (inl h) o k = inl (inr h)
    go (inr h) None k = inr (neither k)
      where
        neither : e.run ≡ None → ¬ IsOwnRun (e ∷ es) start
        neither k (inl w) = none-some (start, w.0) (sym k ∙ w.1)
        neither k (inr w) = h w
    go (inr h) (Some run) k = elim (cases_eq run.0 start) [
      | inl z ↦ inl (inl (run.1, k ∙ ap (λ (s : ℕ). Some (s, run.1)) z))
      | inr z ↦ inr (other k z)
    ]
      where
        other : e.run ≡ Some run → (run.0 ≡ start → ⊥) → ¬ IsOwnRun (e ∷ es) start
        other k z (inl w) =
            z ((some_pair_parts run.0 start run.1 w.0 (sym k ∙ w.1)).0)
        other k z (inr w) = h w

-- what the journal needs, and what is left below the moved node

-- a node is needed in the state gone back to, or stands strictly below the moved node
abbrev pub IsNeededOrBelow : Journal → Table → ℕ → Type 0
IsNeededOrBelow j t n =
    IsNeededBack j t n
    ⊎ ((p : ℕ) (l : List (ℕ × ℕ)) → get t.linked n ≡ Some (p, l) → IsUnder t.vtree p j.upper × (p ≢ j.upper))

-- a node in a run is needed
in_run : (j : Journal) (t : Table) (n : ℕ) → IsInRun t n → IsNeededBack j t n
in_run j t n h = go (own_run j.named h.0)
  where
    go : IsOwnRun j.named h.0 ⊎ (¬ IsOwnRun j.named h.0) → IsNeededBack j t n
    go (inl k) = reached_first (inr (inr (inl (h.0, h.1, h.2, k, h.3))))
    go (inr k) = reached_first (inr (inl (h.0, h.1, h.2, k, h.3)))

-- the nodes at the two places stand under the moved node
abbrev pub IsLowerUnder : Journal → Table → Type 0
IsLowerUnder j t = (p : ℕ) → Some p ≡ j.lower → IsUnder t.vtree p j.upper

-- a node of a list at one of the two places stands strictly below the moved node
below_places : (j : Journal) (t : Table) → (i : IsTable t) → t.moving ≡ None → IsLowerUnder j t →
    IsUnder t.vtree j.upper j.upper → (m n p : ℕ) (l : List (ℕ × ℕ)) → get t.linked m ≡ Some (p, l) →
    (p ≡ j.upper) ⊎ (Some p ≡ j.lower) → StandsIn (2050 + n) l → (q : ℕ) (k : List (ℕ × ℕ)) →
    get t.linked n ≡ Some (q, k) → IsUnder t.vtree q j.upper × (q ≢ j.upper)
below_places j t i still lower upper m n p l e place s q k f =
    let b = below_user t i still m n p q l k e f s in
    under_strictly t.vtree (once_numbered t.vtree i.numbered) q p j.upper b.0 b.1 (under place)
  where
    under : (p ≡ j.upper) ⊎ (Some p ≡ j.lower) → IsUnder t.vtree p j.upper
    under (inl z) = subst (λ y. IsUnder t.vtree y j.upper) (sym z) upper
    under (inr z) = lower p z

-- the key of a node that has another list than in the state gone back to
by_run : (j : Journal) (t : Table) → (i : IsTable t) → t.moving ≡ None → IsLowerUnder j t →
    IsUnder t.vtree j.upper j.upper → (m n p : ℕ) (l : List (ℕ × ℕ)) → IsNeededBack j t m →
    get t.linked m ≡ Some (p, l) → StandsIn (2050 + n) l → (e : Named) → journal_entry j.named m ≡ Some e →
    (p ≡ j.upper) ⊎ (Some p ≡ j.lower) → (o : Option (ℕ × ℕ)) → e.run ≡ o → IsNeededOrBelow j t n
by_run j t i still lower upper m n p l h f s e entry place None run =
    let key : back j t m ≡ Some (e.place, l) =
    ap (key_of_entry t m) entry ∙ ap (key_before t m e.place) run
    ∙ ap (option_map (λ (k : ℕ × List (ℕ × ℕ)). (e.place, k.1))) f in
    inl (reached_below h key s)
by_run j t i still lower upper m n p l h f s e entry place (Some r) run =
    inr (below_places j t i still lower upper m n p l f place s)

-- a node of the list of a needed node is needed, or stands strictly below the moved node
of_needed : (j : Journal) (t : Table) → (i : IsTable t) → t.moving ≡ None → CanUndo j t → IsLowerUnder j t →
    IsUnder t.vtree j.upper j.upper → (m n p : ℕ) (l : List (ℕ × ℕ)) → IsNeededBack j t m →
    get t.linked m ≡ Some (p, l) → StandsIn (2050 + n) l → IsNeededOrBelow j t n
of_needed j t i still c lower upper m n p l h f s = by_entry (journal_entry j.named m) refl
  where
    by_entry : (o : Option Named) → journal_entry j.named m ≡ o → IsNeededOrBelow j t n
    by_entry None k = inl (reached_below h (ap (key_of_entry t m) k ∙ f) s)
    by_entry (Some e) k =
        let x = entry_found j.named (CanPutBack t j.upper j.lower) c.entries m e k in
        let same : x.0.place ≡ p =
        (some_pair_parts x.0.place p x.0.list l
        (sym (ap (get t.linked) (sym x.1) ∙ x.0.linked) ∙ f)).0 in
        by_run j t i still lower upper m n p l h f s e k (subst (λ y. (y ≡ j.upper) ⊎ (Some y ≡ j.lower)) same x.0.here)
        e.run refl

-- each reached node is needed, or stands strictly below the moved node
pub needed_or_below : (j : Journal) (t : Table) → (i : IsTable t) → t.moving ≡ None → CanUndo j t → IsLowerUnder j t →
    IsUnder t.vtree j.upper j.upper → {n : ℕ} → IsReached t n → IsNeededOrBelow j t n
needed_or_below j t i still c lower upper (reached_first {n = n} (inl h)) = inl (reached_first (inl h))
needed_or_below j t i still c lower upper (reached_first {n = n} (inr h)) = inl (in_run j t n h)
needed_or_below j t i still c lower upper (reached_below {m = m} {n = n} {place = p} {list = l} r e s) =
    go (needed_or_below j t i still c lower upper r)
  where
    go : IsNeededOrBelow j t m → IsNeededOrBelow j t n
    go (inl h) = of_needed j t i still c lower upper m n p l h e s
    go (inr h) =
        inr (λ q k f.
        let a = h p l e in
        let b = below_user t i still m n p q l k e f s in
        under_strictly t.vtree (once_numbered t.vtree i.numbered) q p j.upper b.0 b.1 a.0)

-- the state before going back

-- codes of constants, literals and decompositions
pub base_codes : (t u : Numbered) (at : Lookup) (P : ℕ → Type 0) (l : List (ℕ × ℕ)) →
    leaves (plain_tree u) ≡ leaves (plain_tree t) →
    AllByRecursion (λ (e : ℕ × ℕ). IsCodeOf t at P e.0 × IsCodeOf t at P e.1) l →
    AllByRecursion (λ (e : ℕ × ℕ). IsBaseOrNode u e.0 × IsBaseOrNode u e.1) l
base_codes t u at P l same cs =
    all_weaker (λ (e : ℕ × ℕ). IsCodeOf t at P e.0 × IsCodeOf t at P e.1)
    (λ (e : ℕ × ℕ). IsBaseOrNode u e.0 × IsBaseOrNode u e.1) (λ e k. (code e.0 k.0, code e.1 k.1)) l cs
  where
    code : (c : ℕ) → IsCodeOf t at P c → IsBaseOrNode u c
    code c (inl lt) = inl (subst (λ n. c < 2 * n + 2) (sym same) lt)
    code c (inr w) = inr (w.0, w.1)

-- a code of a list stands for a node that is there
pub closed_now : (t : Table) → (i : IsTable t) → t.moving ≡ None → (n p k : ℕ) (l : List (ℕ × ℕ)) →
    get t.linked n ≡ Some (p, l) → StandsIn (2050 + k) l → IsSome (get t.linked k)
closed_now t i still n p k l e s = in_list l (closed n p l (all_shown t i still n (subst IsSome (sym e) refl)) e) s
  where
    closed : (n p : ℕ) (l : List (ℕ × ℕ)) → IsShownNode t.vtree (get t.linked) n → get t.linked n ≡ Some (p, l) →
        AllByRecursion (λ (e : ℕ × ℕ). IsCodeOf t.vtree (get t.linked) (IsShownNode t.vtree (get t.linked)) e.0
        × IsCodeOf t.vtree (get t.linked) (IsShownNode t.vtree (get t.linked)) e.1) l
    closed = (now_orderly t i).closed

    of_code : (c : ℕ) → IsCodeOf t.vtree (get t.linked) (IsShownNode t.vtree (get t.linked)) c → c ≡ 2050 + k →
        IsSome (get t.linked k)
    of_code c (inl lt) z = let within_limit = i.numbered.within_limit in absurd (omega arith)
    of_code c (inr w) z =
        let same : w.0 ≡ k = let y = w.1 in omega arith in subst (λ m. IsSome (get t.linked m)) same w.3

    in_list : (l : List (ℕ × ℕ)) →
        AllByRecursion (λ (e : ℕ × ℕ). IsCodeOf t.vtree (get t.linked) (IsShownNode t.vtree (get t.linked)) e.0
        × IsCodeOf t.vtree (get t.linked) (IsShownNode t.vtree (get t.linked)) e.1) l →
        StandsIn (2050 + k) l → IsSome (get t.linked k)
    in_list [] cs h = absurd h
    in_list (x ∷ l) cs (inl h) = of_code x.0 cs.0.0 h
    in_list (x ∷ l) cs (inr (inl h)) = of_code x.1 cs.0.1 h
    in_list (x ∷ l) cs (inr (inr h)) = in_list l cs.1 h

-- Before a journal is undone, and after the sweep, all is known that going back asks: of each node its function, and of
-- each needed one its place and list in the vtree gone back to.
pub goes_back : (j : Journal) (t : Table) → (i : IsTable t) → t.moving ≡ None → (c : CanUndo j t) → IsNumbered c.tree →
    leaves (plain_tree c.tree) ≡ leaves (plain_tree t.vtree) → (w : ℕ) → KeepsOthers t.vtree c.tree j.upper w →
    IsLowerUnder j t → IsUnder t.vtree j.upper j.upper → ((n : ℕ) → IsSome (get t.linked n) → IsReached t n) →
    GoesBack t.vtree c.tree j.upper w (get t.linked) (back j t) (IsNeededBack j t) (value_of (get t.linked))
goes_back j t i still c num same w keeps lower upper reached =
    record {
      literals = literals_given (get t.linked);
      keeps = keeps;
      value = λ n p l e. (now_orderly t i).value n p l (shown n p l e) e;
      whole = λ n p l e. (now_orderly t i).whole n p l (shown n p l e) e;
      placed = λ n p l e. (now_orderly t i).placed n p l (shown n p l e) e;
      closed = λ n p k l e s. closed_now t i still n p k l e s;
      codes = λ n p l e.
          base_codes t.vtree c.tree (get t.linked) (IsShownNode t.vtree (get t.linked)) l same
          ((now_orderly t i).closed n p l (shown n p l e) e);
      origin = λ n p l e. origin n p l e
          (needed_or_below j t i still c lower upper (reached n (subst IsSome (sym e) refl)));
      there = λ n h. there n h;
      old_value = λ n p l h e. then_orderly.value n p l h e;
      old_whole = λ n p l h e. then_orderly.whole n p l h e;
      old_placed = λ n p l h e. then_orderly.placed n p l h e;
      old_closed = λ n p k l h e s. reached_below h e s;
      old_codes = λ n p l h e.
          base_codes c.tree c.tree (back j t) (IsNeededBack j t) l refl (then_orderly.closed n p l h e);
    }
  where
    shown : (n p : ℕ) (l : List (ℕ × ℕ)) → get t.linked n ≡ Some (p, l) → IsShownNode t.vtree (get t.linked) n
    shown n p l e = all_shown t i still n (subst IsSome (sym e) refl)

    origin : (n p : ℕ) (l : List (ℕ × ℕ)) → get t.linked n ≡ Some (p, l) → IsNeededOrBelow j t n →
        IsNeededBack j t n ⊎ (IsUnder t.vtree p j.upper × (p ≢ j.upper))
    origin n p l e (inl h) = inl h
    origin n p l e (inr h) = inr (h p l e)

    then_value : (n : ℕ) → IsNeededBack j t n → ShowsValue c.tree (back j t) (value_of (get t.linked)) (2050 + n)
    then_value n h =
        let s = c.shown n h in
        record {
          diagram = s.there;
          is = s.shown_there;
          value = λ a. sym (s.same a) ∙ value_of_shown t.vtree (get t.linked) i.numbered (2050 + n) s.now s.shown_now a;
        }

    then_orderly : AreOrderly c.tree (back j t) (IsNeededBack j t) (value_of (get t.linked))
    then_orderly =
        valued_orderly c.tree num (back j t) (IsNeededBack j t) (value_of (get t.linked))
        (literals_given (get t.linked)) (λ m k p l h e s. reached_below h e s) then_value

    there : (n : ℕ) → IsNeededBack j t n → IsSome (back j t n)
    there n h =
        let s = c.shown n h in
        back_there (code_of_node c.tree (back j t) num (2050 + n) s.there s.shown_there.shows)
      where
        back_there : (2050 + n < 2 * leaves (plain_tree c.tree) + 2)
            ⊎ ((m : ℕ) × (2050 + n ≡ 2050 + m) × IsSome (back j t m)) → IsSome (back j t n)
        back_there (inl lt) = let within_limit = num.within_limit in absurd (omega arith)
        back_there (inr x) =
            let same : x.0 ≡ n = let y = x.1 in omega arith in subst (λ m. IsSome (back j t m)) same x.2
