-- A move whose sweep came first, and the size after it.
use Rattle.std.proofs.Common.{◌≡◌, ◌⊎◌, inl, inr, ℕ, ◌+◌, ◌≤◌, Bool, List, [], ◌∷◌, Some, None}
use Rattle.std.proofs.Common.{refl, sym, ◌∙◌, ap, subst, arith}
use Rattle.std.specs.List.{AllZip}
use Rattle.std.specs.FinMap.{get, values}
use Rattle.sd_model.specs.declared.trees.Move.{Move}
use Rattle.sd_model.specs.Size.{size_of}
use Rattle.sd_model.specs.Diagram.{Diagram, Bottom, Top, Literal, Decomposition, meaning}
use Rattle.sd_model.specs.Canonical.{IsCanonical}
use Rattle.sd_vtree.specs.Numbered.{plain_tree}
use Rattle.sd_vtree.specs.NumberedMoves.{moved_number}
use Rattle.sd_laws.specs.Shown.{Shows}
use Rattle.sd_laws.specs.Turned.{lower_of}
use Rattle.sd_laws.proofs.Codes.{shows_kept, leaf_range}
use Rattle.sd_laws.proofs.Evaluated.{value_of, value_of_shown, literals_given}
use Rattle.sd_laws.proofs.Lists.{IsAmong}
use Rattle.sd_manager.specs.Table.{Table}
use Rattle.sd_manager.specs.Shown.{ShowsCanonical}
use Rattle.sd_manager.specs.Valid.{IsTable}
use Rattle.sd_manager.specs.Moving.{IsLater}
use Rattle.sd_sweep.specs.Reached.{reached_first, IsReached, HasUnreached, IsSwept, AreHeldDiagrams}
use Rattle.sd_sweep.proofs.Keeping.{reached_kept, keeps_swept}
use Rattle.sd_sweep.proofs.Rooted.{held_shown, key_of_value}
use Rattle.sd_move.specs.Journal.{Journal}
use Rattle.sd_move.specs.Moves.{HasMoved, HasSizeAfter, IsMoved}

-- what a node shows after a sweep it showed before
shown_before : (old new : Table) → IsSwept old new → (c : ℕ) (d : Diagram) → ShowsCanonical new c d →
    ShowsCanonical old c d
shown_before old new s c d h =
    record {
      shows = shows_kept old.vtree (get new.linked) (get old.linked) (λ n key e. (s.only n key e).0) d c
          (subst (λ t. Shows t (get new.linked) c d) s.vtree h.shows);
      canonical = subst (λ t. IsCanonical (plain_tree t) 0 d) s.vtree h.canonical;
    }

-- the epoch rose on the way, or is the last one
pub later_swept : (old mid new : Table) → old.epoch ≤ 18446744073709551615 → IsSwept old mid → IsLater mid new →
    IsLater old new
later_swept old mid new most s later = go s.changed later
  where
    go : (mid ≡ old) ⊎ (IsLater old mid × HasUnreached old) → IsLater mid new → IsLater old new
    go (inl same) later = subst (λ t. IsLater t new) same later
    go (inr h) (inr last) = inr last
    go (inr h) (inl more) = rose h.0
      where
        rose : IsLater old mid → IsLater old new
        rose (inl less) = inl (omega (arith, less, more))
        rose (inr last) = inl (omega (arith, most, last, more))

-- A move after a sweep is one of the table before the sweep.
pub moved_swept : (old mid new : Table) (kind : Move) (place : ℕ) (j : Journal) → old.epoch ≤ 18446744073709551615 →
    IsSwept old mid → IsMoved mid new kind place j → IsMoved old new kind place j
moved_swept old mid new kind place j most s m =
    record {
      vtree = ap (λ t. moved_number kind t place) (sym s.vtree) ∙ m.vtree;
      function = λ n k e r.
          let f = m.function n k (s.kept n k e r) (reached_kept old mid (keeps_swept old mid s) r) in
          record {
            before = f.before;
            after = f.after;
            shown = shown_before old mid s (2050 + n) f.before f.shown;
            moved = f.moved;
            same = f.same;
          };
      outside = λ n k e r above below.
          m.outside n k (s.kept n k e r) (reached_kept old mid (keeps_swept old mid s) r) above
          (λ z. below (z ∙ ap (λ t. lower_of kind t place) s.vtree));
      roots = m.roots ∙ s.roots;
      loose = m.loose ∙ s.loose;
      bound = m.bound ∙ s.bound;
      extent = subst (λ e. e ≤ new.extent) s.extent m.extent;
      records = subst (λ e. e ≤ new.records) s.records m.records;
      later = later_swept old mid new most s m.later;
      no_move = m.no_move;
      made = m.made;
      upper = m.upper;
      lower = m.lower ∙ ap (λ t. lower_of kind t place) s.vtree;
      can_undo = m.can_undo;
      before = λ n k e r. m.before n k (s.kept n k e r) (reached_kept old mid (keeps_swept old mid s) r);
      turns_back = m.turns_back ∙ ap Some s.vtree;
    }

-- What a root shows after the move has the value of what it showed before it.
module _ (old new : Table) (kind : Move) (place : ℕ) (j : Journal) (t : IsTable old) (u : IsTable new)
    (m : IsMoved old new kind place j) where
  -- the value of a code that a root holds
  pub value_then : (c : ℕ) → ((n : ℕ) → c ≡ 2050 + n → IsReached old n) → (d : Diagram) → ShowsCanonical old c d →
      (a : List Bool) → value_of (get new.linked) c a ≡ meaning d a
  value_then c reached Bottom h a =
      subst (λ z. value_of (get new.linked) z a ≡ meaning Bottom a) (sym h.shows)
      ((literals_given (get new.linked)).bottom a)
  value_then c reached Top h a =
      subst (λ z. value_of (get new.linked) z a ≡ meaning Top a) (sym h.shows)
      ((literals_given (get new.linked)).top a)
  value_then c reached (Literal p x s) h a =
      let r = leaf_range (plain_tree old.vtree) t.numbered.vtree 0 x p h.shows.1 in
      let within_limit = t.numbered.within_limit in
      subst (λ z. value_of (get new.linked) z a ≡ meaning (Literal p x s) a) (sym h.shows.0)
      ((literals_given (get new.linked)).literal p x s r.0 (omega (arith, r.1, within_limit)) a)
  value_then c reached (Decomposition p es) h a =
      let k = h.shows.1 in
      let f = m.function k.number (k.place, k.list) k.stored (reached k.number k.code) in
      ap (λ z. value_of (get new.linked) z a) k.code
      ∙ sym (value_of_shown new.vtree (get new.linked) u.numbered (2050 + k.number) f.after f.moved a)
      ∙ f.same a
      ∙ value_of_shown old.vtree (get old.linked) t.numbered (2050 + k.number) f.before f.shown a
      ∙ ap (λ z. value_of (get old.linked) z a) (sym k.code)
      ∙ sym (value_of_shown old.vtree (get old.linked) t.numbered c (Decomposition p es) h a)

  -- two lists of what codes show, before and after
  each_moved : (cs : List ℕ) → ((c n : ℕ) → IsAmong c cs → c ≡ 2050 + n → IsReached old n) → (ds es : List Diagram) →
      AllZip (ShowsCanonical old) cs ds → AllZip (ShowsCanonical new) cs es → AllZip (HasMoved new.vtree) ds es
  each_moved [] reached [] [] h k = tt
  each_moved [] reached (d ∷ ds) es h k = absurd h
  each_moved [] reached [] (e ∷ es) h k = absurd k
  each_moved (c ∷ cs) reached [] es h k = absurd h
  each_moved (c ∷ cs) reached (d ∷ ds) [] h k = absurd k
  each_moved (c ∷ cs) reached (d ∷ ds) (e ∷ es) h k = (
    record {
      canonical = k.0.canonical;
      same = λ a.
          value_of_shown new.vtree (get new.linked) u.numbered c e k.0 a
          ∙ value_then c (λ n is. reached c n (inl refl) is) d h.0 a;
    },
    each_moved cs (λ z n i is. reached z n (inr i) is) ds es h.1 k.1,
  )

  -- The size of what all roots show after the move is that of the definition.
  pub size_after : old.moving ≡ None → (n : ℕ) → ((ds : List Diagram) → AreHeldDiagrams new ds → n ≡ size_of ds) →
      HasSizeAfter old kind place n
  size_after still n size =
      let before = held_shown old t still in
      let after = held_shown new u m.no_move in
      record {
        tree = new.vtree;
        turned = m.vtree;
        before = before.0;
        held = before.1;
        after = after.0;
        each = each_moved (values old.roots)
            (λ c i among is.
            let k = key_of_value old.roots c among in
            reached_first (inl (k.0, k.1 ∙ ap Some is))) before.0 after.0 before.1
            (subst (λ r. AllZip (ShowsCanonical new) (values r) after.0) m.roots after.1);
        size = sym (size after.0 after.1);
      }
