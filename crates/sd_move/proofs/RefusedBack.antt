-- A move that is refused can go back to the table at which it began.
use Rattle.std.proofs.Common.{◌≡◌, ◌⊎◌, inl, inr, ℕ, ◌+◌, List, [], Option, Some, None, refl, sym, ◌∙◌, ap, subst}
use Rattle.std.specs.List.{AllByRecursion}
use Rattle.std.specs.Option.{IsSome}
use Rattle.std.specs.FinMap.{get, empty}
use Rattle.std.proofs.lemmas.Option.{same_Some}
use Rattle.sd_model.specs.declared.trees.Move.{Move}
use Rattle.sd_model.specs.Tree.{AreDistinct}
use Rattle.sd_vtree.specs.NumberedMoves.{moved_number}
use Rattle.sd_runs.specs.Arena.{IsMember}
use Rattle.sd_laws.specs.Turned.{lower_of}
use Rattle.sd_laws.specs.Values.{Valuation, StandsIn, AreOrderly, GivesLiterals, ShowsValue}
use Rattle.sd_laws.proofs.Lists.{all_weaker}
use Rattle.sd_laws.proofs.Evaluated.{value_of, value_of_shown, literals_given}
use Rattle.sd_laws.proofs.Unturned.{valued_orderly}
use Rattle.sd_laws.proofs.GoneBack.{IsBaseOrNode}
use Rattle.sd_manager.specs.Table.{Table, key_at}
use Rattle.sd_manager.specs.Shown.{HasNode}
use Rattle.sd_manager.specs.Valid.{IsTable}
use Rattle.sd_manager.specs.Moving.{moving_at, at_rest}
use Rattle.sd_manager.proofs.Reading.{node_of_code, linked_key}
use Rattle.sd_manager.proofs.Valid.{nothing}
use Rattle.sd_sweep.specs.Reached.{KeepsReached}
use Rattle.sd_move.specs.Moving.{Progress, no_progress, IsNew, IsBelowNode, MoveInProgress}
use Rattle.sd_move.specs.Journal.{Named, journal_entry, starts_of, without_runs}
use Rattle.sd_move.specs.GoingBack.{ToTable, IsRightEntry, AreWellWanted, CanGoBack, HasGoneBack, numbers_of}
use Rattle.sd_move.proofs.KnownAtEnd.{stands_there, base_or_node, key_linked, known_at_end}
use Rattle.sd_move.proofs.BeginAndEnd.{begun}
use Rattle.sd_move.proofs.Recorded.{member_own, without_other}

-- runs

-- the table that is gone back to

module _ (m0 : Table) (t : IsTable m0) (still : m0.moving ≡ None) where
  -- a code that is there is of a linked node
  there_linked : (n : ℕ) → HasNode m0 (2050 + n) → IsSome (get m0.linked n)
  there_linked n h = key_linked m0 (t.at_rest still) n (node_of_code m0 t.numbered n h)

  -- and so is one in a list
  names_linked : (n p i : ℕ) (l : List (ℕ × ℕ)) → get m0.linked n ≡ Some (p, l) → StandsIn (2050 + i) l →
      IsSome (get m0.linked i)
  names_linked n p i l e s =
      there_linked i (stands_there m0 (2050 + i) l (t.closed n (p, l) (linked_key m0 n (p, l) e)) s)

  module _ (v : Valuation) (literals : GivesLiterals v)
      (shown : (n : ℕ) → IsSome (get m0.linked n) → ShowsValue m0.vtree (get m0.linked) v (2050 + n)) where
    orderly : AreOrderly m0.vtree (get m0.linked) (λ n. IsSome (get m0.linked n)) v
    orderly =
        valued_orderly m0.vtree t.numbered (get m0.linked) (λ n. IsSome (get m0.linked n)) v literals
        (λ n i p l h e s. names_linked n p i l e s) shown

    -- its nodes with their keys are well wanted
    well_wanted : AreWellWanted m0.vtree v (λ n. IsSome (get m0.linked n)) (λ n. get m0.linked n)
    well_wanted =
        record {
          there = λ n h. h;
          value = λ n p l h e. orderly.value n p l h e;
          whole = λ n p l h e. orderly.whole n p l h e;
          placed = λ n p l h e. orderly.placed n p l h e;
          ascending = λ n p l h e. t.keys.ascending n (p, l) e;
          closed = λ n p i l h e s. names_linked n p i l e s;
          codes = λ n p l h e.
              all_weaker (λ (d : ℕ × ℕ). HasNode m0 d.0 × HasNode m0 d.1)
              (λ (d : ℕ × ℕ). IsBaseOrNode m0.vtree d.0 × IsBaseOrNode m0.vtree d.1)
              (λ d k. (base_or_node m0 d.0 k.0, base_or_node m0 d.1 k.1)) l
              (t.closed n (p, l) (linked_key m0 n (p, l) e));
        }

    -- A move goes back to it where the nodes have the functions that they show there, the entries are right, the roots
    -- are those of it, and so are the loose runs without the entries'.
    pub back_to_table : (start m : Table) (x : ℕ) (h : Progress) (kind : Move) (lower : Option ℕ)
        (named : List Named) → MoveInProgress start m x h v → moved_number kind m.vtree x ≡ Some m0.vtree →
        lower_of kind m.vtree x ≡ lower →
        ((n : ℕ) (k : ℕ × List (ℕ × ℕ)) → get m.detached n ≡ Some k → k.0 ≡ x) →
        ((n : ℕ) → IsSome (get m0.linked n) → ¬ IsNew start h n) →
        ((n : ℕ) (k : ℕ × List (ℕ × ℕ)) → key_at m n ≡ Some k → IsSome (get m0.linked n) ⊎ IsBelowNode m x k.0) →
        m.roots ≡ m0.roots → without_runs m.loose (starts_of named) ≡ m0.loose →
        AllByRecursion (IsRightEntry m x lower (λ n. IsSome (get m0.linked n)) (λ n. get m0.linked n)) named →
        AreDistinct (numbers_of named) → AreDistinct (starts_of named) →
        ((n : ℕ) → IsSome (get m0.linked n) → journal_entry named n ≡ None → get m0.linked n ≡ key_at m n) →
        CanGoBack (record { start = start; progress = h; valuation = v; target = ToTable m0 }) m kind x lower named
    back_to_table start m x h kind lower named going turned low waiting older others roots loose entries numbers runs
        unnamed =
        record {
          going = going;
          tree = m0.vtree;
          turned = turned;
          lower_is = low;
          waiting = waiting;
          older = older;
          others = others;
          roots = λ root n e.
              there_linked n (t.closed_roots root (2050 + n) (ap (λ r. get r root) (sym roots) ∙ e));
          runs = λ s n l e out stands. there_linked n (stands_there m0 (2050 + n) l (t.closed_runs s l
              (ap (λ r. get r s) (sym loose)
              ∙ without_other m.loose (starts_of named) s (λ i. out (member_own named s i)) ∙ e)) stands);
          wanted = well_wanted;
          entries = entries;
          numbers_once = numbers;
          runs_once = runs;
          unnamed = unnamed;
        }

-- A move goes back to the table at which it began.
pub back_to_start : (m0 m : Table) (x : ℕ) (h : Progress) (v : Valuation) (kind : Move) (lower : Option ℕ)
    (named : List Named) → IsTable m0 → m0.moving ≡ None → MoveInProgress m0 m x h v → h.discarded ≡ [] →
    moved_number kind m.vtree x ≡ Some m0.vtree → lower_of kind m.vtree x ≡ lower →
    ((n : ℕ) (k : ℕ × List (ℕ × ℕ)) → get m.detached n ≡ Some k → k.0 ≡ x) →
    without_runs m.loose (starts_of named) ≡ m0.loose →
    AllByRecursion (IsRightEntry m x lower (λ n. IsSome (get m0.linked n)) (λ n. get m0.linked n)) named →
    AreDistinct (numbers_of named) → AreDistinct (starts_of named) →
    ((n : ℕ) → IsSome (get m0.linked n) → journal_entry named n ≡ None → get m0.linked n ≡ key_at m n) →
    CanGoBack (record { start = m0; progress = h; valuation = v; target = ToTable m0 }) m kind x lower named
back_to_start m0 m x h v kind lower named t still g none turned low waiting loose entries numbers runs unnamed =
    back_to_table m0 t still v g.literals (λ n there. g.began n there (kept n)) m0 m x h kind lower named g turned low
    waiting older (λ n k e. others n k e (get m0.linked n) refl) g.roots loose entries numbers runs unnamed
  where
    kept : (n : ℕ) → ¬ IsMember n h.discarded
    kept n m = subst (IsMember n) none m

    older : (n : ℕ) → IsSome (get m0.linked n) → ¬ IsNew m0 h n
    older n there (inl absent) = cc (subst IsSome absent there)
    older n there (inr m) = kept n m

    others : (n : ℕ) (k : ℕ × List (ℕ × ℕ)) → key_at m n ≡ Some k → (o : Option (ℕ × List (ℕ × ℕ))) →
        get m0.linked n ≡ o → IsSome (get m0.linked n) ⊎ IsBelowNode m x k.0
    others n k e (Some j) f = inl (subst IsSome (sym f) refl)
    others n k e None f = inr (g.new_below n k.0 k.1 e (inl f))

-- And once it has ended, another move at its node goes back to it.
module _ (m0 m : Table) (x : ℕ) (h : Progress) (v : Valuation) (t0 : IsTable m0) (still : m0.moving ≡ None)
    (t : IsTable m) (rest : IsTable (at_rest m)) (g : MoveInProgress m0 m x h v) (none : h.discarded ≡ [])
    (empty_now : m.detached ≡ empty) where
  not_discarded : (n : ℕ) → ¬ IsMember n h.discarded
  not_discarded n i = subst (IsMember n) none i

  -- its nodes are linked
  linked_at_end : (n : ℕ) → IsSome (get m0.linked n) → IsSome (get m.linked n)
  linked_at_end n there = key_linked m empty_now n (g.kept n there (not_discarded n))

  -- and show the functions that they showed at the begin
  shown_at_end : (n : ℕ) → IsSome (get m0.linked n) →
      ShowsValue m0.vtree (get m0.linked) (value_of (get m.linked)) (2050 + n)
  shown_at_end n there =
      let first = g.began n there (not_discarded n) in
      let last = known_at_end m0 m x h v t g empty_now n (linked_at_end n there) in
      record {
        diagram = first.diagram;
        is = first.is;
        value = λ a. first.value a ∙ sym (last.value a)
            ∙ value_of_shown m.vtree (get m.linked) t.numbered (2050 + n) last.diagram last.is a;
      }

  pub back_after_end : (kind : Move) (lower : Option ℕ) (named : List Named) →
      moved_number kind m.vtree x ≡ Some m0.vtree → lower_of kind m.vtree x ≡ lower →
      without_runs m.loose (starts_of named) ≡ m0.loose →
      AllByRecursion (IsRightEntry (moving_at (at_rest m) x) x lower (λ n. IsSome (get m0.linked n))
      (λ n. get m0.linked n)) named → AreDistinct (numbers_of named) → AreDistinct (starts_of named) →
      ((n : ℕ) → IsSome (get m0.linked n) → journal_entry named n ≡ None → get m0.linked n ≡ key_at m n) →
      CanGoBack (record {
        start = at_rest m;
        progress = no_progress;
        valuation = value_of (get m.linked);
        target = ToTable m0;
      }) (moving_at (at_rest m) x) kind x lower named
  back_after_end kind lower named turned low loose entries numbers runs unnamed =
      back_to_table m0 t0 still (value_of (get m.linked)) (literals_given (get m.linked)) shown_at_end (at_rest m)
      (moving_at (at_rest m) x) x no_progress kind lower named (begun (at_rest m) x rest refl) turned low waiting older
      (λ n k e. others n k e (get m0.linked n) refl) g.roots loose entries numbers runs unnamed
    where
      waiting : (n : ℕ) (k : ℕ × List (ℕ × ℕ)) → get m.detached n ≡ Some k → k.0 ≡ x
      waiting n k e = absurd (nothing n k (ap (λ d. get d n) (sym empty_now) ∙ e))

      older : (n : ℕ) → IsSome (get m0.linked n) → ¬ IsNew (at_rest m) no_progress n
      older n there (inl absent) = cc (subst IsSome absent (linked_at_end n there))
      older n there (inr i) = i

      others : (n : ℕ) (k : ℕ × List (ℕ × ℕ)) → key_at m n ≡ Some k → (o : Option (ℕ × List (ℕ × ℕ))) →
          get m0.linked n ≡ o → IsSome (get m0.linked n) ⊎ IsBelowNode (moving_at (at_rest m) x) x k.0
      others n k e (Some j) f = inl (subst IsSome (sym f) refl)
      others n k e None f = inr (g.new_below n k.0 k.1 e (inl f))

-- A move that has gone back to the table at which it began keeps what was reached there.
pub kept_by_refusal : (m0 m new : Table) (kind : Move) (x : ℕ) (lower : Option ℕ) (named : List Named) →
    HasGoneBack (ToTable m0) m new kind x lower named → moved_number kind m.vtree x ≡ Some m0.vtree →
    m.roots ≡ m0.roots → without_runs m.loose (starts_of named) ≡ m0.loose → KeepsReached m0 new
kept_by_refusal m0 m new kind x lower named g turned roots loose =
    record {
      vtree = same_Some new.vtree m0.vtree (sym g.vtree ∙ turned);
      nodes = λ n key reached e. g.wanted n (subst IsSome (sym e) refl) ∙ e;
      roots = g.roots ∙ roots;
      loose = g.loose ∙ loose;
    }
