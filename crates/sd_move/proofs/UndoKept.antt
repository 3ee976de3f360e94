-- A journal that can be undone stays one where each node that is reached keeps its key.
use Rattle.std.proofs.Common.{◌≡◌, ◌⊎◌, inl, inr, ℕ, ◌+◌, ◌*◌, ◌<◌, List, [], ◌∷◌, Option, Some, None}
use Rattle.std.proofs.Common.{refl, sym, ◌∙◌, ap, subst, arith, eq-eqb, ne_eqb, if◌then◌else◌}
use Rattle.std.specs.List.{AllByRecursion}
use Rattle.std.specs.Option.{IsSome, option_map}
use Rattle.std.specs.FinMap.{get}
use Rattle.std.proofs.lemmas.Bool.{cases_eq}
use Rattle.std.proofs.lemmas.Option.{same_Some, none-some, some_pair_parts}
use Rattle.sd_model.specs.Moves.{inverse_move}
use Rattle.sd_model.specs.Tree.{leaves}
use Rattle.sd_model.specs.Diagram.{Diagram}
use Rattle.sd_model.specs.Canonical.{IsCanonical}
use Rattle.sd_vtree.specs.Numbered.{plain_tree, IsNumbered}
use Rattle.sd_vtree.specs.NumberedMoves.{moved_number}
use Rattle.sd_laws.specs.Shown.{Shows}
use Rattle.sd_laws.specs.Values.{StandsIn}
use Rattle.sd_laws.proofs.Lists.{all_weaker}
use Rattle.sd_laws.proofs.Nodes.{code_of_node}
use Rattle.sd_laws.proofs.Within.{IsCodeIn, shows_within}
use Rattle.sd_manager.specs.Table.{Table}
use Rattle.sd_manager.specs.Shown.{ShowsCanonical}
use Rattle.sd_manager.proofs.Holding.{some_value}
use Rattle.sd_laws.specs.Turned.{lower_of}
use Rattle.sd_sweep.specs.Reached.{reached_first, reached_below, IsHeldBy, IsReached, KeepsReached}
use Rattle.sd_sweep.proofs.Keeping.{reached_kept}
use Rattle.sd_move.specs.Journal.{Named, Journal, journal_entry, key_before, key_of_entry, back, IsNamed}
use Rattle.sd_move.specs.Journal.{IsInOtherRun, IsInOwnRun, IsNeededBack, IsOneFunction, CanPutBack, CanUndo}

-- entries

-- the entry of a number is one of the entries
pub entry_found : (es : List Named) (P : Named → Type 0) → AllByRecursion P es → (n : ℕ) (e : Named) →
    journal_entry es n ≡ Some e → P e × (e.number ≡ n)
entry_found [] P a n e h = absurd (none-some e h)
entry_found (x ∷ es) P a n e h = elim (cases_eq x.number n) [
  | inl k ↦
      let s : x ≡ e =
      same_Some x e (sym (ap (λ b. if b then Some x else journal_entry es n) (eq-eqb x.number n k)) ∙ h) in
      (subst P s a.0, ap (λ (z : Named). z.number) (sym s) ∙ k)
  | inr d ↦ entry_found es P a.1 n e
      (sym (ap (λ b. if b then Some x else journal_entry es n) (ne_eqb x.number n d)) ∙ h)
]

-- what is there is the image of something
image : {X Y : Type 0} (f : X → Y) (o : Option X) (y : Y) → option_map f o ≡ Some y → (x : X) × (o ≡ Some x) × (f x ≡ y)
image f None y h = absurd (none-some y h)
image f (Some x) y h = (x, refl, same_Some (f x) y h)

-- what the journal needs is reached now

-- the list that a node has in the state gone back to is a list of a reached node, or of a loose run
below_now : (j : Journal) (t : Table) (m n place : ℕ) (list : List (ℕ × ℕ)) → IsReached t m →
    back j t m ≡ Some (place, list) → StandsIn (2050 + n) list → IsReached t n
below_now j t m n place list r e s = by_entry (journal_entry j.named m) e
  where
    by_run : (p : ℕ) (o : Option (ℕ × ℕ)) → key_before t m p o ≡ Some (place, list) → IsReached t n
    by_run p None f =
        let i = image (λ (k : ℕ × List (ℕ × ℕ)). (p, k.1)) (get t.linked m) (place, list) f in
        let same : i.0.1 ≡ list = (some_pair_parts p place i.0.1 list (ap Some i.2)).1 in
        reached_below r i.1 (subst (StandsIn (2050 + n)) (sym same) s)
    by_run p (Some run) f =
        let i = image (λ (l : List (ℕ × ℕ)). (p, l)) (get t.loose run.0) (place, list) f in
        let same : i.0 ≡ list = (some_pair_parts p place i.0 list (ap Some i.2)).1 in
        reached_first (inr (run.0, list, i.1 ∙ ap Some same, s))

    by_entry : (o : Option Named) → key_of_entry t m o ≡ Some (place, list) → IsReached t n
    by_entry None f = reached_below r f s
    by_entry (Some x) f = by_run x.place x.run f

-- a named node is reached
named_now : (j : Journal) (t : Table) → CanUndo j t → (n : ℕ) → IsNamed j.named n → IsReached t n
named_now j t c n h =
    let e = some_value (journal_entry j.named n) h in
    let f = entry_found j.named (CanPutBack t j.upper j.lower) c.entries n e.0 e.1 in
    subst (IsReached t) f.1 f.0.reached

-- so is each node that the journal needs
pub needed_reached : (j : Journal) (t : Table) → CanUndo j t → {n : ℕ} → IsNeededBack j t n → IsReached t n
needed_reached j t c (reached_first {n = n} (inl h)) = reached_first (inl h)
needed_reached j t c (reached_first {n = n} (inr (inl h))) = reached_first (inr (h.0, h.1, h.2, h.4))
needed_reached j t c (reached_first {n = n} (inr (inr (inl h)))) = reached_first (inr (h.0, h.1, h.2, h.4))
needed_reached j t c (reached_first {n = n} (inr (inr (inr h)))) = named_now j t c n h
needed_reached j t c (reached_below {m = m} {n = n} {place = place} {list = list} h e s) =
    below_now j t m n place list (needed_reached j t c h) e s

-- the state gone back to

-- a node that shows something is linked
pub linked_shown : (t : Table) → IsNumbered t.vtree → (n : ℕ) (d : Diagram) → ShowsCanonical t (2050 + n) d →
    IsSome (get t.linked n)
linked_shown t v n d h = go (code_of_node t.vtree (get t.linked) v (2050 + n) d h.shows)
  where
    go : ((2050 + n) < 2 * leaves (plain_tree t.vtree) + 2)
        ⊎ ((m : ℕ) × (2050 + n ≡ 2050 + m) × IsSome (get t.linked m)) → IsSome (get t.linked n)
    go (inl lt) = let within_limit = v.within_limit in absurd (omega arith)
    go (inr w) =
        let e : w.0 ≡ n = let f = w.1 in omega arith in subst (λ k. IsSome (get t.linked k)) e w.2

-- it is the same for the nodes that the journal needs
pub back_same : (j : Journal) (t u : Table) → IsNumbered t.vtree → CanUndo j t → KeepsReached t u → (n : ℕ) →
    IsNeededBack j t n → back j u n ≡ back j t n
back_same j t u v c k n h = by_entry (journal_entry j.named n)
  where
    linked : get u.linked n ≡ get t.linked n
    linked =
        let s = c.shown n h in
        let l = some_value (get t.linked n) (linked_shown t v n s.now s.shown_now) in
        k.nodes n l.0 (needed_reached j t c h) l.1 ∙ sym l.1

    by_run : (p : ℕ) (o : Option (ℕ × ℕ)) → key_before u n p o ≡ key_before t n p o
    by_run p None = ap (option_map (λ (x : ℕ × List (ℕ × ℕ)). (p, x.1))) linked
    by_run p (Some run) = ap (λ m. option_map (λ (l : List (ℕ × ℕ)). (p, l)) (get m run.0)) k.loose

    by_entry : (o : Option Named) → key_of_entry u n o ≡ key_of_entry t n o
    by_entry None = linked
    by_entry (Some x) = by_run x.place x.run

-- what it needs then it needs now
first_back : (j : Journal) (t u : Table) → KeepsReached t u → (n : ℕ) →
    IsHeldBy u n ⊎ (IsInOtherRun j u n ⊎ (IsInOwnRun j u n ⊎ IsNamed j.named n)) →
    IsHeldBy t n ⊎ (IsInOtherRun j t n ⊎ (IsInOwnRun j t n ⊎ IsNamed j.named n))
first_back j t u k n (inl h) = inl (h.0, ap (λ m. get m h.0) (sym k.roots) ∙ h.1)
first_back j t u k n (inr (inl h)) = inr (inl (h.0, h.1, ap (λ m. get m h.0) (sym k.loose) ∙ h.2, h.3, h.4))
first_back j t u k n (inr (inr (inl h))) =
    inr (inr (inl (h.0, h.1, ap (λ m. get m h.0) (sym k.loose) ∙ h.2, h.3, h.4)))
first_back j t u k n (inr (inr (inr h))) = inr (inr (inr h))

pub needed_kept : (j : Journal) (t u : Table) → IsNumbered t.vtree → CanUndo j t → KeepsReached t u → {n : ℕ} →
    IsNeededBack j u n → IsNeededBack j t n
needed_kept j t u v c k (reached_first {n = n} h) = reached_first (first_back j t u k n h)
needed_kept j t u v c k (reached_below {m = m} {n = n} {place = place} {list = list} h e s) =
    let i : IsNeededBack j t m = needed_kept j t u v c k h in
    reached_below i (sym (back_same j t u v c k m i) ∙ e) s

-- the law

-- the only code of a node is in a set that has it
pub code_in : (P : ℕ → Type 0) (n : ℕ) → P n → IsCodeIn P (2050 + n)
code_in P n h i e = let f : n ≡ i = omega arith in subst P f h

-- A journal that can be undone can still be undone where each reached node keeps its key, under one vtree, the same
-- roots and the same loose runs: so after operations, sweeps, and later moves that were themselves undone.
pub kept : (j : Journal) (t u : Table) → IsNumbered t.vtree → CanUndo j t → KeepsReached t u → u.moving ≡ None →
    CanUndo j u
kept j t u v c k still =
    record {
      no_move = still;
      tree = c.tree;
      turned = ap (λ x. moved_number (inverse_move j.kind) x j.upper) k.vtree ∙ c.turned;
      lower = ap (λ x. lower_of (inverse_move j.kind) x j.upper) k.vtree ∙ c.lower;
      numbers_once = c.numbers_once;
      runs_once = c.runs_once;
      entries = all_weaker (CanPutBack t j.upper j.lower) (CanPutBack u j.upper j.lower) entry j.named c.entries;
      ascending = λ n place list h e.
          let i : IsNeededBack j t n = needed_kept j t u v c k h in
          c.ascending n place list i (sym (back_same j t u v c k n i) ∙ e);
      shown = λ n h. function n (needed_kept j t u v c k h);
    }
  where
    entry : (e : Named) → CanPutBack t j.upper j.lower e → CanPutBack u j.upper j.lower e
    entry e x =
        record {
          place = x.place;
          list = x.list;
          linked = k.nodes e.number (x.place, x.list) x.reached x.linked;
          here = x.here;
          before = x.before;
          reached = reached_kept t u k x.reached;
          run = λ start count h.
              let r = x.run start count h in (r.0, ap (λ m. get m start) k.loose ∙ r.1, r.2);
          rewritten = x.rewritten;
        }

    function : (n : ℕ) → IsNeededBack j t n → IsOneFunction u c.tree (back j u) n
    function n h =
        let s = c.shown n h in
        let now : Shows t.vtree (get u.linked) (2050 + n) s.now =
        shows_within t.vtree (get t.linked) (get u.linked) (IsReached t)
        (λ m i place list p e stands. reached_below p e stands) (λ i key p e. k.nodes i key p e) s.now (2050 + n)
        (code_in (IsReached t) n (needed_reached j t c h)) s.shown_now.shows in
        let afterwards : Shows c.tree (back j u) (2050 + n) s.there =
        shows_within c.tree (back j t) (back j u) (IsNeededBack j t)
        (λ m i place list p e stands. reached_below p e stands)
        (λ i key p e. back_same j t u v c k i p ∙ e) s.there (2050 + n) (code_in (IsNeededBack j t) n h)
        s.shown_there.shows in
        record {
          now = s.now;
          there = s.there;
          shown_now = record {
            shows = subst (λ x. Shows x (get u.linked) (2050 + n) s.now) (sym k.vtree) now;
            canonical = subst (λ x. IsCanonical (plain_tree x) 0 s.now) (sym k.vtree) s.shown_now.canonical;
          };
          shown_there = record { shows = afterwards; canonical = s.shown_there.canonical };
          same = s.same;
        }
