-- An operation below one child of the moved node keeps what holds inside a move.
use Rattle.std.proofs.Common.{◌≡◌, ◌⊎◌, inl, inr, ℕ, ◌+◌, ◌-◌, ◌*◌, ◌≤◌, ◌<◌, Bool, true, false, List}
use Rattle.std.proofs.Common.{Option, Some, None, refl, sym, ◌∙◌, ap, subst, arith}
use Rattle.std.specs.List.{AllByRecursion}
use Rattle.std.specs.Option.{IsSome}
use Rattle.std.specs.FinMap.{get}
use Rattle.std.proofs.lemmas.Bool.{cases_lt, lt-ltb}
use Rattle.std.proofs.lemmas.Option.{none-some}
use Rattle.sd_model.specs.Tree.{Tree, Node}
use Rattle.sd_model.specs.Diagram.{Diagram, Literal, meaning}
use Rattle.sd_vtree.specs.Numbered.{IsUnder, or_else}
use Rattle.sd_runs.specs.Arena.{IsMember}
use Rattle.sd_laws.specs.Depends.{DependsOn}
use Rattle.sd_laws.specs.Shown.{Lookup, literal_code, ShowsCanonical as ShowsCanonicalBy}
use Rattle.sd_laws.specs.Values.{Valuation, IsSame, pairs_value, StandsIn, IsWhole, IsPlaced, GivesLiterals, AreOrderly}
use Rattle.sd_laws.specs.Values.{ShowsValue, AreApart, IsTwoSided}
use Rattle.sd_laws.proofs.Lists.{all_from, all_weaker}
use Rattle.sd_laws.proofs.Evaluated.{value_of}
use Rattle.sd_laws.proofs.Unturned.{IsShownNode, valued_orderly, shown_closed}
use Rattle.sd_laws.proofs.SameValues.{AllSame, value_same, whole_same, placed_same, shown_value}
use Rattle.sd_laws.proofs.Within.{shows_within, prime_stands, sub_stands}
use Rattle.sd_laws.proofs.Growing.{joined_values, both_of, IsGrown, grown_values, grown_kept, grown_shown, grown_apart}
use Rattle.sd_manager.specs.Table.{Table, key_at}
use Rattle.sd_manager.specs.Making.{Extends}
use Rattle.sd_manager.specs.Valid.{IsTable, IsSettled}
use Rattle.sd_manager.proofs.Reading.{linked_key}
use Rattle.sd_manager.proofs.Holding.{some_value}
use Rattle.sd_move.specs.Moving.{Progress, IsNew, MoveInProgress, HasNumber, IsDetachedCode, IsBelowNode}
use Rattle.sd_move.proofs.UndoKept.{code_in}

-- An operation made the table m the table m': each node that is linked now is settled, or is an old one whose function
-- looks beyond the moved node; each new one stands below that node and looks at one of its two children; each detached
-- one waits for a new list and looks at both.
pub record HasGrown (m m' : Table) (x : ℕ) (left right : Tree) (v : Valuation) : Type 0 where
  pub table : IsTable m'
  pub extends : Extends m m'
  pub closed : (n i u : ℕ) (l : List (ℕ × ℕ)) → key_at m n ≡ Some (u, l) → StandsIn (2050 + i) l → HasNumber m i
  pub kind : (n : ℕ) (k : ℕ × List (ℕ × ℕ)) → get m'.linked n ≡ Some k →
      IsSettled m' k.0 ⊎ (IsSome (get m.linked n) × (¬ DependsOn (Node left right) (v (2050 + n))))
  pub fresh : (n : ℕ) (d : Diagram) → get m.linked n ≡ None → ShowsCanonicalBy m'.vtree (get m'.linked) (2050 + n) d →
      DependsOn left (meaning d) ⊎ DependsOn right (meaning d)
  pub new_below : (n : ℕ) (k : ℕ × List (ℕ × ℕ)) → key_at m n ≡ None → get m'.linked n ≡ Some k → IsBelowNode m' x k.0
  pub waiting : (n : ℕ) → IsSome (get m.detached n) → IsTwoSided left right (v (2050 + n))

-- the valuation afterwards
abbrev pub values_after : Table → Table → Valuation → Valuation
values_after m m' v = grown_values (get m.linked) (get m'.linked) (get m.detached) v

-- something, or nothing
something : {X : Type 0} (o : Option X) → IsSome o ⊎ (o ≡ None)
something None = inr refl
something (Some y) = inl refl

-- a detached node is not linked
not_linked : (m m' : Table) → IsTable m' → Extends m m' → (n : ℕ) → IsSome (get m.detached n) → get m'.linked n ≡ None
not_linked m m' t e n h = go (get m'.linked n) refl
  where
    go : (o : Option (ℕ × List (ℕ × ℕ))) → get m'.linked n ≡ o → get m'.linked n ≡ None
    go None k = k
    go (Some key) k =
        let d = some_value (get m.detached n) h in
        absurd (none-some d.0 (sym (t.either n key k) ∙ ap (λ z. get z n) e.detached ∙ d.1))

-- an old node keeps its key
key_kept : (m m' : Table) → IsTable m' → Extends m m' → (n : ℕ) (k : ℕ × List (ℕ × ℕ)) → key_at m n ≡ Some k →
    key_at m' n ≡ Some k
key_kept m m' t e n k h = go (get m.linked n) refl
  where
    detached : get m'.detached n ≡ get m.detached n
    detached = ap (λ z. get z n) e.detached

    go : (o : Option (ℕ × List (ℕ × ℕ))) → get m.linked n ≡ o → key_at m' n ≡ Some k
    go None f =
        let d : get m.detached n ≡ Some k = sym (ap (λ o. or_else o (get m.detached n)) f) ∙ h in
        let none : get m'.linked n ≡ None = not_linked m m' t e n (subst IsSome (sym d) refl) in
        ap (λ o. or_else o (get m'.detached n)) none ∙ detached ∙ d
    go (Some j) f =
        let same : Some j ≡ Some k = sym (ap (λ o. or_else o (get m.detached n)) f) ∙ h in
        ap (λ o. or_else o (get m'.detached n)) (e.nodes n j f) ∙ same

-- a node is an old one with its key, or a new linked one
data Origin (m m' : Table) (n : ℕ) (k : ℕ × List (ℕ × ℕ)) : Type 0 where
  Old : key_at m n ≡ Some k → Origin m m' n k
  New : key_at m n ≡ None → get m'.linked n ≡ Some k → Origin m m' n k

-- each is one of these
origin_of : (m m' : Table) → IsTable m' → Extends m m' → (n : ℕ) (k : ℕ × List (ℕ × ℕ)) → key_at m' n ≡ Some k →
    Origin m m' n k
origin_of m m' t e n k h = go (key_at m n) refl
  where
    go : (o : Option (ℕ × List (ℕ × ℕ))) → key_at m n ≡ o → Origin m m' n k
    go (Some j) f = Old (f ∙ sym (key_kept m m' t e n j f) ∙ h)
    go None f = New f (linked (get m'.linked n) refl)
      where
        linked : (o : Option (ℕ × List (ℕ × ℕ))) → get m'.linked n ≡ o → get m'.linked n ≡ Some k
        linked (Some j) z = z ∙ sym (ap (λ o. or_else o (get m'.detached n)) z) ∙ h
        linked None z =
            let d : get m'.detached n ≡ Some k = sym (ap (λ o. or_else o (get m'.detached n)) z) ∙ h in
            absurd (none-some k (sym f ∙ old_detached m n k (sym (ap (λ z. get z n) e.detached) ∙ d) (m_linked d)))
          where
            m_linked : get m'.detached n ≡ Some k → get m.linked n ≡ None
            m_linked d = by (get m.linked n) refl
              where
                by : (o : Option (ℕ × List (ℕ × ℕ))) → get m.linked n ≡ o → get m.linked n ≡ None
                by None y = y
                by (Some j) y = absurd (none-some j (sym z ∙ e.nodes n j y))

            old_detached : (m : Table) (n : ℕ) (k : ℕ × List (ℕ × ℕ)) → get m.detached n ≡ Some k →
                get m.linked n ≡ None → key_at m n ≡ Some k
            old_detached m n k d y = ap (λ o. or_else o (get m.detached n)) y ∙ d

-- the values of codes

-- at a constant or a literal they are the old ones
base_same : (at : Lookup) (old new : Valuation) (c : ℕ) → c < 2050 → IsSame (joined_values at old new c) (old c)
base_same at old new c lt a = rw (lt-ltb c 2050 lt) refl

-- the new valuation gives constants and literals their values
literals_after : (m m' : Table) (v : Valuation) → GivesLiterals v → GivesLiterals (values_after m m' v)
literals_after m m' v g =
    record { bottom = g.bottom; top = g.top; literal = λ p x s low high a. literal p x s low high a }
  where
    literal : (p x : ℕ) (s : Bool) → 1 ≤ x → x ≤ 1024 →
        IsSame (values_after m m' v (literal_code x s)) (meaning (Literal p x s))
    literal p x true low high a =
        base_same (both_of (get m.linked) (get m.detached)) v (value_of (get m'.linked)) (literal_code x true)
        (let e : 2 * x < 2050 = omega arith in e) a
        ∙ g.literal p x true low high a
    literal p x false low high a =
        base_same (both_of (get m.linked) (get m.detached)) v (value_of (get m'.linked)) (literal_code x false)
        (let e : 2 * x + 1 < 2050 = omega arith in e) a
        ∙ g.literal p x false low high a

-- a code of an old node's list has its old value
code_same : (m m' : Table) (v : Valuation) (c : ℕ) → ((i : ℕ) → c ≡ 2050 + i → HasNumber m i) →
    IsSame (values_after m m' v c) (v c)
code_same m m' v c h = elim (cases_lt c 2050) [
  | inl lt ↦ base_same (both_of (get m.linked) (get m.detached)) v (value_of (get m'.linked)) c lt
  | inr ge ↦
      let e : c ≡ 2050 + (c - 2050) = omega arith in
      subst (λ k. IsSame (values_after m m' v k) (v k)) (sym e)
      (grown_kept (get m.linked) (get m'.linked) (get m.detached) v (c - 2050) (h (c - 2050) e))
]

-- and so have all of them
list_same : (m m' : Table) (x : ℕ) (left right : Tree) (v : Valuation) → HasGrown m m' x left right v → (n u : ℕ)
    (l : List (ℕ × ℕ)) → key_at m n ≡ Some (u, l) → AllSame v (values_after m m' v) l
list_same m m' x left right v h n u l e =
    all_from (λ (p : ℕ × ℕ). IsSame (values_after m m' v p.0) (v p.0) × IsSame (values_after m m' v p.1) (v p.1)) l
    (λ p k. (
      code_same m m' v p.0 (λ i z. h.closed n i u l e (prime_stands l p (2050 + i) k z)),
      code_same m m' v p.1 (λ i z. h.closed n i u l e (sub_stands l p (2050 + i) k z)),
    ))

-- what is shown

-- what an old linked node shows now has its old value
old_shown : (m0 m m' : Table) (x : ℕ) (p : Progress) (left right : Tree) (v : Valuation) →
    MoveInProgress m0 m x p v → HasGrown m m' x left right v → (n : ℕ) (d : Diagram) → IsSome (get m.linked n) →
    ShowsCanonicalBy m'.vtree (get m'.linked) (2050 + n) d → IsSame (meaning d) (v (2050 + n))
old_shown m0 m m' x p left right v g h n d is shown a =
    shown_value m'.vtree (get m.linked) h.table.numbered v g.literals
    (λ i u l e. g.value i u l (linked_key m i (u, l) e)) d (2050 + n) a
    (shows_within m'.vtree (get m'.linked) (get m.linked) (HasNumber m) closed keeps d (2050 + n)
    (code_in (HasNumber m) n number) shown.shows)
  where
    number : HasNumber m n
    number = let k = some_value (get m.linked n) is in subst IsSome (sym (linked_key m n k.0 k.1)) refl

    keeps : (i : ℕ) (key : ℕ × List (ℕ × ℕ)) → HasNumber m i → get m'.linked i ≡ Some key → get m.linked i ≡ Some key
    keeps i key own e = by (something (get m.linked i))
      where
        by : IsSome (get m.linked i) ⊎ (get m.linked i ≡ None) → get m.linked i ≡ Some key
        by (inl k) = let j = some_value (get m.linked i) k in j.1 ∙ sym (h.extends.nodes i j.0 j.1) ∙ e
        by (inr z) =
            let d : IsSome (get m.detached i) = subst IsSome (ap (λ o. or_else o (get m.detached i)) z) own in
            absurd (none-some key (sym (not_linked m m' h.table h.extends i d) ∙ e))

    closed : (i j q : ℕ) (l : List (ℕ × ℕ)) → HasNumber m i → get m'.linked i ≡ Some (q, l) → StandsIn (2050 + j) l →
        HasNumber m j
    closed i j q l own e s = h.closed i j q l (old_key (something (get m.linked i))) s
      where
        old_key : IsSome (get m.linked i) ⊎ (get m.linked i ≡ None) → key_at m i ≡ Some (q, l)
        old_key (inl k) =
            let j = some_value (get m.linked i) k in
            linked_key m i (q, l) (j.1 ∙ sym (h.extends.nodes i j.0 j.1) ∙ e)
        old_key (inr z) =
            let d : IsSome (get m.detached i) = subst IsSome (ap (λ o. or_else o (get m.detached i)) z) own in
            absurd (none-some (q, l) (sym (not_linked m m' h.table h.extends i d) ∙ e))

-- a settled linked node shows something
settled_shown : (m' : Table) → IsTable m' → (n : ℕ) (k : ℕ × List (ℕ × ℕ)) → get m'.linked n ≡ Some k →
    IsSettled m' k.0 → IsShownNode m'.vtree (get m'.linked) n
settled_shown m' t n k e s = let w = t.canonical n k e s in record { diagram = w.diagram; is = w.is }

-- the linked nodes became more
is_grown : (m0 m m' : Table) (x : ℕ) (p : Progress) (left right : Tree) (v : Valuation) → MoveInProgress m0 m x p v →
    HasGrown m m' x left right v → IsGrown m'.vtree (get m.linked) (get m'.linked) (get m.detached) v left right
is_grown m0 m m' x p left right v g h =
    record {
      numbered = h.table.numbered;
      keys = h.table.keys;
      keeps = h.extends.nodes;
      either = not_linked m m' h.table h.extends;
      kind = λ n is. let k = some_value (get m'.linked n) is in kind n k.0 k.1 (h.kind n k.0 k.1);
      same = old_shown m0 m m' x p left right v g h;
      fresh = h.fresh;
      waiting = h.waiting;
      apart = g.apart;
    }
  where
    kind : (n : ℕ) (k : ℕ × List (ℕ × ℕ)) → get m'.linked n ≡ Some k →
        IsSettled m' k.0 ⊎ (IsSome (get m.linked n) × (¬ DependsOn (Node left right) (v (2050 + n)))) →
        IsShownNode m'.vtree (get m'.linked) n
        ⊎ (IsSome (get m.linked n) × (¬ DependsOn (Node left right) (v (2050 + n))))
    kind n k e (inl s) = inl (settled_shown m' h.table n k e s)
    kind n k e (inr w) = inr w

-- the shown nodes are in order by the new values
shown_order : (m0 m m' : Table) (x : ℕ) (p : Progress) (left right : Tree) (v : Valuation) →
    MoveInProgress m0 m x p v → HasGrown m m' x left right v →
    AreOrderly m'.vtree (get m'.linked) (IsShownNode m'.vtree (get m'.linked)) (values_after m m' v)
shown_order m0 m m' x p left right v g h =
    valued_orderly m'.vtree h.table.numbered (get m'.linked) (IsShownNode m'.vtree (get m'.linked))
    (values_after m m' v) (literals_after m m' v g.literals) (shown_closed m'.vtree h.table.numbered (get m'.linked))
    (grown_shown m'.vtree (get m.linked) (get m'.linked) (get m.detached) v left right
    (is_grown m0 m m' x p left right v g h))

-- a new node is shown
new_shown : (m m' : Table) (x : ℕ) (left right : Tree) (v : Valuation) → HasGrown m m' x left right v → (n : ℕ)
    (k : ℕ × List (ℕ × ℕ)) → key_at m n ≡ None → get m'.linked n ≡ Some k → IsShownNode m'.vtree (get m'.linked) n
new_shown m m' x left right v h n k none e = go (h.kind n k e)
  where
    go : IsSettled m' k.0 ⊎ (IsSome (get m.linked n) × (¬ DependsOn (Node left right) (v (2050 + n)))) →
        IsShownNode m'.vtree (get m'.linked) n
    go (inl s) = settled_shown m' h.table n k e s
    go (inr w) =
        let j = some_value (get m.linked n) w.0 in absurd (none-some j.0 (sym none ∙ linked_key m n j.0 j.1))

-- what is settled before is settled after
settled_after : (m m' : Table) → Extends m m' → (p : ℕ) → IsSettled m p → IsSettled m' p
settled_after m m' e p s y f = go (s y (sym e.moving ∙ f))
  where
    go : (y ≡ p) ⊎ (¬ IsUnder m.vtree y p) → (y ≡ p) ⊎ (¬ IsUnder m'.vtree y p)
    go (inl k) = inl k
    go (inr k) = inr (λ u. k (subst (λ t. IsUnder t y p) e.vtree u))

-- An operation keeps what holds inside a move, under a valuation that gives the old nodes the values that they had.
-- Each field goes by the origin of a node: an old one has its key and value, and a new one is shown, so all is known
-- of it.
pub grown_on : (m0 m m' : Table) (x : ℕ) (p : Progress) (left right : Tree) (v : Valuation) →
    MoveInProgress m0 m x p v → HasGrown m m' x left right v → MoveInProgress m0 m' x p (values_after m m' v)
grown_on m0 m m' x p left right v g h =
    record {
      literals = literals_after m m' v g.literals;
      moving = h.extends.moving ∙ g.moving;
      began = λ n a b. began n (g.began n a b) (g.kept n a b);
      kept = λ n a b. let k = some_value (key_at m n) (g.kept n a b) in
          subst IsSome (sym (key_kept m m' h.table h.extends n k.0 k.1)) refl;
      value = λ n u l e. value n u l (origin_of m m' h.table h.extends n (u, l) e);
      whole = λ n u l e. whole n u l (origin_of m m' h.table h.extends n (u, l) e);
      placed = λ n u l e. placed n u l e (something (get m.linked n));
      settled = λ n u l e s.
          grown_shown m'.vtree (get m.linked) (get m'.linked) (get m.detached) v left right
          (is_grown m0 m m' x p left right v g h) n (settled_shown m' h.table n (u, l) e s);
      above = λ n u l e s. above n u l e s (h.kind n (u, l) e);
      lists = λ n u q l old e f d. lists n u q l old f d (origin_of m m' h.table h.extends n (u, l) e);
      free = λ a b n u l e. free a b n u l (sym (ap (λ z. get z n) h.extends.detached) ∙ e);
      new_below = λ n u l e f. new_below n u l f (origin_of m m' h.table h.extends n (u, l) e);
      new_linked = λ a n k. g.new_linked a n (subst IsSome (ap (λ z. get z n) h.extends.detached) k);
      apart = subst (λ z. AreApart (both_of (get m'.linked) (get z)) (values_after m m' v)) (sym h.extends.detached)
          (grown_apart m'.vtree (get m.linked) (get m'.linked) (get m.detached) v left right
          (is_grown m0 m m' x p left right v g h));
      roots = h.extends.roots ∙ g.roots;
    }
  where
    began : (n : ℕ) → ShowsValue m0.vtree (get m0.linked) v (2050 + n) → HasNumber m n →
        ShowsValue m0.vtree (get m0.linked) (values_after m m' v) (2050 + n)
    began n s is =
        record {
          diagram = s.diagram;
          is = s.is;
          value = λ a. s.value a ∙ sym (grown_kept (get m.linked) (get m'.linked) (get m.detached) v n is a);
        }

    value : (n u : ℕ) (l : List (ℕ × ℕ)) → Origin m m' n (u, l) →
        IsSame (values_after m m' v (2050 + n)) (pairs_value (values_after m m' v) l)
    value n u l (Old e) a =
        grown_kept (get m.linked) (get m'.linked) (get m.detached) v n (subst IsSome (sym e) refl) a
        ∙ g.value n u l e a
        ∙ sym (value_same v (values_after m m' v) l (list_same m m' x left right v h n u l e) a)
    value n u l (New z e) a =
        (shown_order m0 m m' x p left right v g h).value n u l (new_shown m m' x left right v h n (u, l) z e) e a

    whole : (n u : ℕ) (l : List (ℕ × ℕ)) → Origin m m' n (u, l) → IsWhole (values_after m m' v) l
    whole n u l (Old e) =
        whole_same v (values_after m m' v) l (list_same m m' x left right v h n u l e) (g.whole n u l e)
    whole n u l (New z e) =
        (shown_order m0 m m' x p left right v g h).whole n u l (new_shown m m' x left right v h n (u, l) z e) e

    placed : (n u : ℕ) (l : List (ℕ × ℕ)) → get m'.linked n ≡ Some (u, l) →
        IsSome (get m.linked n) ⊎ (get m.linked n ≡ None) → IsPlaced m'.vtree (values_after m m' v) u l
    placed n u l e (inl k) =
        let j = some_value (get m.linked n) k in
        let f : get m.linked n ≡ Some (u, l) = j.1 ∙ sym (h.extends.nodes n j.0 j.1) ∙ e in
        placed_same m'.vtree v (values_after m m' v) u l
        (list_same m m' x left right v h n u l (linked_key m n (u, l) f))
        (subst (λ t. IsPlaced t v u l) (sym h.extends.vtree) (g.placed n u l f))
    placed n u l e (inr z) = fresh (h.kind n (u, l) e)
      where
        fresh : IsSettled m' u ⊎ (IsSome (get m.linked n) × (¬ DependsOn (Node left right) (v (2050 + n)))) →
            IsPlaced m'.vtree (values_after m m' v) u l
        fresh (inl s) =
            (shown_order m0 m m' x p left right v g h).placed n u l (settled_shown m' h.table n (u, l) e s) e
        fresh (inr w) = let j = some_value (get m.linked n) w.0 in absurd (none-some j.0 (sym z ∙ j.1))

    above : (n u : ℕ) (l : List (ℕ × ℕ)) → get m'.linked n ≡ Some (u, l) → ¬ IsSettled m' u →
        IsSettled m' u ⊎ (IsSome (get m.linked n) × (¬ DependsOn (Node left right) (v (2050 + n)))) →
        get m0.linked n ≡ Some (u, l)
    above n u l e s (inl k) = absurd (s k)
    above n u l e s (inr w) =
        let j = some_value (get m.linked n) w.0 in
        g.above n u l (j.1 ∙ sym (h.extends.nodes n j.0 j.1) ∙ e) (λ k. s (settled_after m m' h.extends u k))

    lists : (n u q : ℕ) (l old : List (ℕ × ℕ)) → get m0.linked n ≡ Some (q, old) → ¬ IsMember n p.discarded →
        Origin m m' n (u, l) → ((get p.rewritten n ≡ None) × (l ≡ old)) ⊎ (get p.rewritten n ≡ Some l)
    lists n u q l old f d (Old e) = g.lists n u q l old e f d
    lists n u q l old f d (New z e) =
        let k = some_value (key_at m n) (g.kept n (subst IsSome (sym f) refl) d) in absurd (none-some k.0 (sym z ∙ k.1))

    free : p.has_rewritten ≡ true → p.goes_back ≡ false → (n u : ℕ) (l : List (ℕ × ℕ)) →
        get m.detached n ≡ Some (u, l) →
        AllByRecursion (λ (e : ℕ × ℕ). (¬ IsDetachedCode m' e.0) × (¬ IsDetachedCode m' e.1)) l
    free a b n u l e =
        all_weaker (λ (e : ℕ × ℕ). (¬ IsDetachedCode m e.0) × (¬ IsDetachedCode m e.1))
        (λ (e : ℕ × ℕ). (¬ IsDetachedCode m' e.0) × (¬ IsDetachedCode m' e.1))
        (λ e w. (not_detached e.0 w.0, not_detached e.1 w.1)) l (g.free a b n u l e)
      where
        not_detached : (c : ℕ) → ¬ IsDetachedCode m c → ¬ IsDetachedCode m' c
        not_detached c w k = w (k.0, k.1, subst IsSome (ap (λ z. get z k.0) h.extends.detached) k.2)

    new_below : (n u : ℕ) (l : List (ℕ × ℕ)) → IsNew m0 p n → Origin m m' n (u, l) → IsBelowNode m' x u
    new_below n u l f (Old e) =
        let b = g.new_below n u l e f in (b.0, subst (λ t. IsUnder t u x) (sym h.extends.vtree) b.1)
    new_below n u l f (New z e) = h.new_below n (u, l) z e
