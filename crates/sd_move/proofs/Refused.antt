-- A move that is refused on its way goes back to the table at which it began.
use Rattle.std.proofs.Common.{◌≡◌, ◌⊎◌, inl, inr, ℕ, ◌+◌, ◌*◌, ◌/◌, ◌≤◌, ◌<◌, List, Option, Some, None}
use Rattle.std.proofs.Common.{refl, sym, ◌∙◌, ap, subst}
use Rattle.std.specs.Option.{IsSome}
use Rattle.std.specs.FinMap.{get}
use Rattle.std.proofs.lemmas.Option.{same_Some}
use Rattle.sd_model.specs.declared.trees.Move.{Move}
use Rattle.sd_model.specs.Moves.{inverse_move}
use Rattle.sd_model.specs.Tree.{leaves}
use Rattle.sd_vtree.specs.Numbered.{plain_tree}
use Rattle.sd_vtree.specs.NumberedMoves.{moved_number}
use Rattle.sd_runs.specs.Arena.{IsMember}
use Rattle.sd_laws.specs.Turned.{lower_of}
use Rattle.sd_laws.specs.Values.{Valuation, AreOrderly}
use Rattle.sd_laws.proofs.Lists.{all_weaker}
use Rattle.sd_laws.proofs.Turning.{inverse_numbered}
use Rattle.sd_laws.proofs.Unturned.{valued_orderly}
use Rattle.sd_manager.specs.Table.{Table, key_at}
use Rattle.sd_manager.specs.Shown.{HasNode}
use Rattle.sd_manager.specs.Valid.{IsTable}
use Rattle.sd_manager.specs.Making.{IsPastBound}
use Rattle.sd_manager.proofs.Reading.{node_of_code}
use Rattle.sd_sweep.specs.Reached.{KeepsReached}
use Rattle.sd_move.specs.GoingBack.{ToTable, WayBack, CanGoBack, HasGoneBack, IsRightEntry}
use Rattle.sd_move.specs.Journal.{Named, journal_entry, starts_of}
use Rattle.sd_move.specs.Moving.{Progress, IsNew, IsBelowNode, MoveInProgress}
use Rattle.sd_move.specs.Recorded.{IsRecorded, AreRecorded}
use Rattle.sd_move.proofs.KnownAtEnd.{key_linked, stands_there}
use Rattle.sd_move.proofs.Recorded.{lower_inverse, member_own, without_other}
use Rattle.sd_move.proofs.TurnedMove.{Turns, turns}
use Rattle.sd_move.proofs.Undoing.{base_codes, closed_now}

-- how it goes back
abbrev pub way_to : Table → Progress → Valuation → WayBack
way_to m0 h v = record { start = m0; progress = h; valuation = v; target = ToTable m0 }

module _ (m0 m : Table) (kind : Move) (x : ℕ) (named : List Named) (h : Progress) (v : Valuation) (t0 : IsTable m0)
    (still : m0.moving ≡ None) (g : MoveInProgress m0 m x h v) (kept_all : (n : ℕ) → ¬ IsMember n h.discarded)
    (moved : moved_number kind m0.vtree x ≡ Some m.vtree)
    (r : AreRecorded m0 m x (lower_of kind m0.vtree x) named) where
  -- a code that is there in m0 is of a linked node
  node_linked : (i : ℕ) → HasNode m0 (2050 + i) → IsSome (get m0.linked i)
  node_linked i there = key_linked m0 (t0.at_rest still) i (node_of_code m0 t0.numbered i there)

  orderly : AreOrderly m0.vtree (get m0.linked) (λ n. IsSome (get m0.linked n)) v
  orderly =
      valued_orderly m0.vtree t0.numbered (get m0.linked) (λ n. IsSome (get m0.linked n)) v g.literals
      (λ n i p l s e stands. closed_now m0 t0 still n p i l e stands) (λ n s. g.began n s (kept_all n))

  -- It can go back, where each detached node waits at x.
  pub can_refuse : ((n : ℕ) (k : ℕ × List (ℕ × ℕ)) → get m.detached n ≡ Some k → k.0 ≡ x) →
      CanGoBack (way_to m0 h v) m (inverse_move kind) x (lower_of kind m0.vtree x) named
  can_refuse waiting =
      record {
        going = g;
        tree = m0.vtree;
        turned = inverse_numbered kind m0.vtree m.vtree x t0.numbered moved;
        lower_is = lower_inverse kind m0.vtree m.vtree x t0.numbered moved;
        waiting = waiting;
        older = λ n s new. older n s new;
        others = λ n k e. other n k e (get m0.linked n) refl;
        roots = λ root n e. node_linked n (t0.closed_roots root (2050 + n) (ap (λ z. get z root) (sym g.roots) ∙ e));
        runs = λ start n list e own s.
            node_linked n
            (stands_there m0 (2050 + n) list
            (t0.closed_runs start list
            (ap (λ z. get z start) (sym r.loose)
            ∙ without_other m.loose (starts_of named) start (λ k. own (member_own named start k)) ∙ e)) s);
        wanted = record {
          there = λ n s. s;
          value = λ n p l s e. orderly.value n p l s e;
          whole = λ n p l s e. orderly.whole n p l s e;
          placed = λ n p l s e. orderly.placed n p l s e;
          ascending = λ n p l s e. t0.keys.ascending n (p, l) e;
          closed = λ n p i l s e stands. closed_now m0 t0 still n p i l e stands;
          codes = λ n p l s e.
              base_codes m0.vtree m0.vtree (get m0.linked) (λ n. IsSome (get m0.linked n)) l refl
              (orderly.closed n p l s e);
        };
        entries =
            all_weaker (IsRecorded m0 m x (lower_of kind m0.vtree x))
            (IsRightEntry m x (lower_of kind m0.vtree x) (λ n. IsSome (get m0.linked n)) (get m0.linked))
            (λ e k. entry e k) named r.entries;
        numbers_once = r.numbers_once;
        runs_once = r.runs_once;
        unnamed = λ n s none. unnamed n s none (get m0.linked n) refl;
      }
    where
      older : (n : ℕ) → IsSome (get m0.linked n) → IsNew m0 h n → ⊥
      older n s (inl none) = absurd (cc (subst IsSome none s))
      older n s (inr member) = kept_all n member

      other : (n : ℕ) (k : ℕ × List (ℕ × ℕ)) → key_at m n ≡ Some k → (o : Option (ℕ × List (ℕ × ℕ))) →
          get m0.linked n ≡ o → IsSome (get m0.linked n) ⊎ IsBelowNode m x k.0
      other n k e None f = inr (g.new_below n k.0 k.1 e (inl f))
      other n k e (Some i) f = inl (subst IsSome (sym f) refl)

      entry : (e : Named) → IsRecorded m0 m x (lower_of kind m0.vtree x) e →
          IsRightEntry m x (lower_of kind m0.vtree x) (λ n. IsSome (get m0.linked n)) (get m0.linked) e
      entry e k =
          record {
            wanted = subst IsSome (sym k.was) refl;
            place = k.place;
            list = k.list;
            linked = k.linked;
            here = k.here;
            before = k.before;
            run = k.run;
            back = k.was ∙ sym k.back;
            rewritten = k.rewritten;
          }

      unnamed : (n : ℕ) → IsSome (get m0.linked n) → journal_entry named n ≡ None →
          (o : Option (ℕ × List (ℕ × ℕ))) → get m0.linked n ≡ o → get m0.linked n ≡ key_at m n
      unnamed n s none None e = absurd (cc (subst IsSome e s))
      unnamed n s none (Some k) e = e ∙ sym (r.unnamed n k none e)

  module _ (new : Table)
      (b : HasGoneBack (ToTable m0) m new (inverse_move kind) x (lower_of kind m0.vtree x) named) where
    -- then the vtree is as it was
    pub refused_tree : new.vtree ≡ m0.vtree
    refused_tree =
        same_Some new.vtree m0.vtree
        (sym b.vtree ∙ inverse_numbered kind m0.vtree m.vtree x t0.numbered moved)

    -- and so is each node, each root and each loose run
    pub refused_keeps : KeepsReached m0 new
    refused_keeps =
        record {
          vtree = refused_tree;
          nodes = λ n k s e. b.wanted n (subst IsSome (sym e) refl) ∙ e;
          roots = b.roots ∙ g.roots;
          loose = b.loose ∙ r.loose;
        }

    -- a full arena is full still
    pub refused_past : (elements : ℕ) → IsPastBound m elements → IsPastBound new elements
    refused_past elements p =
        let tree : Turns m0.vtree m.vtree kind x = turns m0.vtree m.vtree kind x t0.numbered moved in
        let count : leaves (plain_tree m.vtree) ≡ leaves (plain_tree new.vtree) =
        tree.leaves ∙ ap (λ t. leaves (plain_tree t)) (sym refused_tree) in
        record {
          past = subst (λ k. k < elements) (sym b.bound) p.past;
          least = subst (λ k. k + 2 ≤ elements) (sym b.extent) p.least;
          most =
              subst (λ k. elements ≤ k + (k / 2 + 2 * leaves (plain_tree new.vtree) + 2)) (sym b.extent)
              (subst (λ k. elements ≤ m.extent + (m.extent / 2 + 2 * k + 2)) count p.most);
        }
