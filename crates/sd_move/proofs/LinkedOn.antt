-- Linking a detached node under a list of its function keeps what holds inside a move.
use Rattle.std.proofs.Common.{◌≡◌, ◌≢◌, ◌⊎◌, inl, inr, ℕ, ◌+◌, true, false, List, Option, Some, None, refl, sym}
use Rattle.std.proofs.Common.{◌∙◌, ap, subst}
use Rattle.std.specs.List.{AllByRecursion}
use Rattle.std.specs.Option.{IsSome}
use Rattle.std.specs.Ordering.{nat_cmp}
use Rattle.std.specs.FinMap.{FinMap, get, insert, remove}
use Rattle.std.proofs.lemmas.Bool.{cases_eq}
use Rattle.std.proofs.lemmas.Option.{none-some, some_pair_parts}
use Rattle.sd_vtree.specs.Numbered.{Numbered, or_else}
use Rattle.sd_runs.specs.Arena.{IsMember}
use Rattle.sd_runs.proofs.Maps.{get_insert_same, get_insert_other, get_remove_same, get_remove_other}
use Rattle.sd_laws.specs.Shown.{Lookup, AreKeys, Keeps}
use Rattle.sd_laws.specs.Values.{Valuation, IsSame, pairs_value, IsWhole, IsPlaced, ShowsValue}
use Rattle.sd_laws.proofs.Lists.{all_weaker}
use Rattle.sd_laws.proofs.Codes.{shows_kept}
use Rattle.sd_laws.proofs.ByValues.{node_by_values}
use Rattle.sd_manager.specs.Table.{Table, key_at}
use Rattle.sd_manager.specs.Valid.{IsTable, IsSettled}
use Rattle.sd_manager.specs.Moving.{linked_under}
use Rattle.sd_manager.proofs.Reading.{detached_key}
use Rattle.sd_move.specs.Moving.{Progress, IsNew, MoveInProgress, IsDetachedCode, IsBelowNode}

-- the table with a detached node linked, and with other loose and free runs
abbrev pub linked_with : Table → ℕ → ℕ × List (ℕ × ℕ) → FinMap nat_cmp (List (ℕ × ℕ)) → FinMap nat_cmp ℕ → ℕ → Table
linked_with m n key loose free extent =
    record (linked_under m n key) { loose = loose; free = free; extent = extent }

-- the number is new beside these discarded ones
abbrev IsNewBeside : Table → ℕ → List ℕ → Type 0
IsNewBeside m0 i numbers = (get m0.linked i ≡ None) ⊎ IsMember i numbers

-- keys

-- the key of each node afterwards
abbrev key_after : Table → ℕ → ℕ × List (ℕ × ℕ) → ℕ → Option (ℕ × List (ℕ × ℕ))
key_after m n key i = or_else (get (insert m.linked n key) i) (get (remove m.detached n) i)

-- the linked node has its new key
new_key : (m : Table) (n i : ℕ) (key : ℕ × List (ℕ × ℕ)) → i ≡ n → key_after m n key i ≡ Some key
new_key m n i key z =
    ap (λ o. or_else o (get (remove m.detached n) i))
    (ap (get (insert m.linked n key)) z ∙ get_insert_same m.linked n key)

-- and each other one its own
other_key : (m : Table) (n i : ℕ) (key : ℕ × List (ℕ × ℕ)) → i ≢ n → key_after m n key i ≡ key_at m i
other_key m n i key d =
    ap (λ o. or_else o (get (remove m.detached n) i)) (get_insert_other m.linked n key i d)
    ∙ ap (or_else (get m.linked i)) (get_remove_other m.detached n i d)

-- each linked node stays linked
pub still_there : (m : Table) → IsTable m → (n : ℕ) (former key : ℕ × List (ℕ × ℕ)) → get m.detached n ≡ Some former →
    Keeps (get m.linked) (get (insert m.linked n key))
still_there m i n former key d a k e = elim (cases_eq a n) [
  | inl z ↦
      let none : get m.detached a ≡ None = i.either a k e in
      let there : get m.detached a ≡ Some former = ap (get m.detached) z ∙ d in
      absurd (none-some former (sym none ∙ there))
  | inr z ↦ get_insert_other m.linked n key a z ∙ e
]

-- what is shown stays shown
pub lifted : (t : Numbered) (old new : Lookup) (v : Valuation) (c : ℕ) → Keeps old new → ShowsValue t old v c →
    ShowsValue t new v c
lifted t old new v c keeps s =
    record {
      diagram = s.diagram;
      is = record { shows = shows_kept t old new keeps s.diagram c s.is.shows; canonical = s.is.canonical };
      value = s.value;
    }

-- What is asked for linking the node n at the place p with the list l.
pub record CanLink (m0 m : Table) (x : ℕ) (h h' : Progress) (v : Valuation) (n p : ℕ) (l : List (ℕ × ℕ)) : Type 0 where
  pub former : ℕ × List (ℕ × ℕ)
  pub detached : get m.detached n ≡ Some former
  pub settled : IsSettled m p
  pub same : IsSame (v (2050 + n)) (pairs_value v l)
  pub whole : IsWhole v l
  pub placed : IsPlaced m.vtree v p l
  pub codes : AllByRecursion (λ (e : ℕ × ℕ). ShowsValue m.vtree (get m.linked) v e.0
      × ShowsValue m.vtree (get m.linked) v e.1) l
  pub keys : AreKeys (get (insert m.linked n (p, l)))
  pub discarded : h'.discarded ≡ h.discarded
  pub others : (i : ℕ) → i ≢ n → get h'.rewritten i ≡ get h.rewritten i
  pub own : (q : ℕ) (old : List (ℕ × ℕ)) → get m0.linked n ≡ Some (q, old) →
      ((get h'.rewritten n ≡ None) × (l ≡ old)) ⊎ (get h'.rewritten n ≡ Some l)
  pub below : IsNew m0 h n → IsBelowNode m x p
  -- who goes back goes on going back
  pub way : h'.goes_back ≡ false → h.goes_back ≡ false

-- Linking it keeps what holds inside a move. Each field goes by cases: of the node itself it is one of `CanLink`, and
-- each other node has the key that it had.
pub linked_on : (m0 m : Table) (x : ℕ) (h h' : Progress) (v : Valuation) → IsTable m → MoveInProgress m0 m x h v →
    (n p : ℕ) (l : List (ℕ × ℕ)) (loose : FinMap nat_cmp (List (ℕ × ℕ))) (free : FinMap nat_cmp ℕ) (extent : ℕ) →
    CanLink m0 m x h h' v n p l →
    (h'.has_rewritten ≡ true → h'.goes_back ≡ false → (i u : ℕ) (list : List (ℕ × ℕ)) →
    get (remove m.detached n) i ≡ Some (u, list) →
    AllByRecursion (λ (e : ℕ × ℕ). (¬ IsDetachedCode (linked_with m n (p, l) loose free extent) e.0)
    × (¬ IsDetachedCode (linked_with m n (p, l) loose free extent) e.1)) list) →
    MoveInProgress m0 (linked_with m n (p, l) loose free extent) x h' v
linked_on m0 m x h h' v t g n p l loose free extent c apart_codes =
    record {
      literals = g.literals;
      moving = g.moving;
      began = λ i a b. g.began i a (subst (λ d. ¬ IsMember i d) c.discarded b);
      kept = λ i a b. kept i a (subst (λ d. ¬ IsMember i d) c.discarded b) (cases_eq i n);
      value = λ i u k e. value i u k e (cases_eq i n);
      whole = λ i u k e. whole i u k e (cases_eq i n);
      placed = λ i u k e. placed i u k e (cases_eq i n);
      settled = λ i u k e s. settled i u k e s (cases_eq i n);
      above = λ i u k e s. above i u k e s (cases_eq i n);
      lists = λ i u q k old e f b. lists i u q k old e f (subst (λ d. ¬ IsMember i d) c.discarded b) (cases_eq i n);
      free = apart_codes;
      new_below = λ i u k e f. new_below i u k e (subst (IsNewBeside m0 i) c.discarded f) (cases_eq i n);
      new_linked = λ a i d k. new_linked a i d (subst (IsNewBeside m0 i) c.discarded k) (cases_eq i n);
      apart = λ a b ha hb same. g.apart a b (number a ha (cases_eq a n)) (number b hb (cases_eq b n)) same;
      roots = g.roots;
    }
  where
    own_parts : (i u : ℕ) (k : List (ℕ × ℕ)) → i ≡ n → key_after m n (p, l) i ≡ Some (u, k) → (p ≡ u) × (l ≡ k)
    own_parts i u k z e = some_pair_parts p u l k (sym (new_key m n i (p, l) z) ∙ e)

    before : (i u : ℕ) (k : List (ℕ × ℕ)) → i ≢ n → key_after m n (p, l) i ≡ Some (u, k) → key_at m i ≡ Some (u, k)
    before i u k d e = sym (other_key m n i (p, l) d) ∙ e

    own_linked : (i u : ℕ) (k : List (ℕ × ℕ)) → i ≡ n → get (insert m.linked n (p, l)) i ≡ Some (u, k) →
        (p ≡ u) × (l ≡ k)
    own_linked i u k z e =
        some_pair_parts p u l k
        (sym (ap (get (insert m.linked n (p, l))) z ∙ get_insert_same m.linked n (p, l)) ∙ e)

    before_linked : (i u : ℕ) (k : List (ℕ × ℕ)) → i ≢ n → get (insert m.linked n (p, l)) i ≡ Some (u, k) →
        get m.linked i ≡ Some (u, k)
    before_linked i u k d e = sym (get_insert_other m.linked n (p, l) i d) ∙ e

    number : (i : ℕ) → IsSome (key_after m n (p, l) i) → (i ≡ n) ⊎ (i ≢ n) → IsSome (key_at m i)
    number i e (inl z) =
        let own : IsSome (key_at m n) = subst IsSome (sym (detached_key m t n c.former c.detached)) refl in
        subst (λ j. IsSome (key_at m j)) (sym z) own
    number i e (inr d) = subst IsSome (other_key m n i (p, l) d) e

    kept : (i : ℕ) → IsSome (get m0.linked i) → ¬ IsMember i h.discarded → (i ≡ n) ⊎ (i ≢ n) →
        IsSome (key_after m n (p, l) i)
    kept i a b (inl z) = subst IsSome (sym (new_key m n i (p, l) z)) refl
    kept i a b (inr d) = subst IsSome (sym (other_key m n i (p, l) d)) (g.kept i a b)

    value : (i u : ℕ) (k : List (ℕ × ℕ)) → key_after m n (p, l) i ≡ Some (u, k) → (i ≡ n) ⊎ (i ≢ n) →
        IsSame (v (2050 + i)) (pairs_value v k)
    value i u k e (inl z) =
        subst (λ j. IsSame (v (2050 + j)) (pairs_value v k)) (sym z)
        (subst (λ j. IsSame (v (2050 + n)) (pairs_value v j)) (own_parts i u k z e).1 c.same)
    value i u k e (inr d) = g.value i u k (before i u k d e)

    whole : (i u : ℕ) (k : List (ℕ × ℕ)) → key_after m n (p, l) i ≡ Some (u, k) → (i ≡ n) ⊎ (i ≢ n) → IsWhole v k
    whole i u k e (inl z) = subst (IsWhole v) (own_parts i u k z e).1 c.whole
    whole i u k e (inr d) = g.whole i u k (before i u k d e)

    placed : (i u : ℕ) (k : List (ℕ × ℕ)) → get (insert m.linked n (p, l)) i ≡ Some (u, k) → (i ≡ n) ⊎ (i ≢ n) →
        IsPlaced m.vtree v u k
    placed i u k e (inl z) =
        let w = own_linked i u k z e in
        subst (λ j. IsPlaced m.vtree v j k) w.0 (subst (IsPlaced m.vtree v p) w.1 c.placed)
    placed i u k e (inr d) = g.placed i u k (before_linked i u k d e)

    keeps : Keeps (get m.linked) (get (insert m.linked n (p, l)))
    keeps = still_there m t n c.former (p, l) c.detached

    node : ShowsValue m.vtree (get (insert m.linked n (p, l))) v (2050 + n)
    node =
        node_by_values m.vtree t.numbered (get (insert m.linked n (p, l))) c.keys v g.literals n p l
        (get_insert_same m.linked n (p, l)) c.whole c.placed c.same
        (all_weaker (λ (e : ℕ × ℕ). ShowsValue m.vtree (get m.linked) v e.0 × ShowsValue m.vtree (get m.linked) v e.1)
        (λ (e : ℕ × ℕ). ShowsValue m.vtree (get (insert m.linked n (p, l))) v e.0
        × ShowsValue m.vtree (get (insert m.linked n (p, l))) v e.1)
        (λ e w. (
          lifted m.vtree (get m.linked) (get (insert m.linked n (p, l))) v e.0 keeps w.0,
          lifted m.vtree (get m.linked) (get (insert m.linked n (p, l))) v e.1 keeps w.1,
        )) l c.codes)

    settled : (i u : ℕ) (k : List (ℕ × ℕ)) → get (insert m.linked n (p, l)) i ≡ Some (u, k) → IsSettled m u →
        (i ≡ n) ⊎ (i ≢ n) → ShowsValue m.vtree (get (insert m.linked n (p, l))) v (2050 + i)
    settled i u k e s (inl z) =
        subst (λ j. ShowsValue m.vtree (get (insert m.linked n (p, l))) v (2050 + j)) (sym z) node
    settled i u k e s (inr d) =
        lifted m.vtree (get m.linked) (get (insert m.linked n (p, l))) v (2050 + i) keeps
        (g.settled i u k (before_linked i u k d e) s)

    above : (i u : ℕ) (k : List (ℕ × ℕ)) → get (insert m.linked n (p, l)) i ≡ Some (u, k) → ¬ IsSettled m u →
        (i ≡ n) ⊎ (i ≢ n) → get m0.linked i ≡ Some (u, k)
    above i u k e s (inl z) = absurd (s (subst (IsSettled m) (own_linked i u k z e).0 c.settled))
    above i u k e s (inr d) = g.above i u k (before_linked i u k d e) s

    lists : (i u q : ℕ) (k old : List (ℕ × ℕ)) → key_after m n (p, l) i ≡ Some (u, k) →
        get m0.linked i ≡ Some (q, old) → ¬ IsMember i h.discarded → (i ≡ n) ⊎ (i ≢ n) →
        ((get h'.rewritten i ≡ None) × (k ≡ old)) ⊎ (get h'.rewritten i ≡ Some k)
    lists i u q k old e f b (inl z) =
        subst (λ j. ((get h'.rewritten j ≡ None) × (k ≡ old)) ⊎ (get h'.rewritten j ≡ Some k)) (sym z)
        (subst (λ j. ((get h'.rewritten n ≡ None) × (j ≡ old)) ⊎ (get h'.rewritten n ≡ Some j))
        (own_parts i u k z e).1 (c.own q old (ap (get m0.linked) (sym z) ∙ f)))
    lists i u q k old e f b (inr d) =
        subst (λ o. ((o ≡ None) × (k ≡ old)) ⊎ (o ≡ Some k)) (sym (c.others i d))
        (g.lists i u q k old (before i u k d e) f b)

    new_below : (i u : ℕ) (k : List (ℕ × ℕ)) → key_after m n (p, l) i ≡ Some (u, k) → IsNew m0 h i → (i ≡ n) ⊎ (i ≢ n) →
        IsBelowNode m x u
    new_below i u k e f (inl z) =
        subst (IsBelowNode m x) (own_parts i u k z e).0 (c.below (subst (IsNew m0 h) z f))
    new_below i u k e f (inr d) = g.new_below i u k (before i u k d e) f

    new_linked : h'.goes_back ≡ false → (i : ℕ) → IsSome (get (remove m.detached n) i) → IsNew m0 h i →
        (i ≡ n) ⊎ (i ≢ n) → ⊥
    new_linked a i d k (inl z) =
        absurd (cc (subst IsSome (ap (get (remove m.detached n)) z ∙ get_remove_same m.detached n) d))
    new_linked a i d k (inr z) =
        g.new_linked (c.way a) i (subst IsSome (get_remove_other m.detached n i z) d) k
