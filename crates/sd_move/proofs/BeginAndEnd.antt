-- A move begins with all nodes shown, and where nothing is detached any more it ends so.
use Rattle.std.proofs.Common.{◌≡◌, inl, inr, ℕ, ◌+◌, List, Option, Some, None}
use Rattle.std.proofs.Common.{refl, sym, ◌∙◌, ap, subst}
use Rattle.std.specs.List.{AllByRecursion}
use Rattle.std.specs.Option.{IsSome}
use Rattle.std.specs.Ordering.{nat_cmp}
use Rattle.std.specs.FinMap.{get, get-empty}
use Rattle.std.proofs.lemmas.Option.{some_pair_parts}
use Rattle.sd_vtree.specs.Numbered.{or_else}
use Rattle.sd_laws.specs.Values.{Valuation, StandsIn, AreOrderly, ShowsValue}
use Rattle.sd_laws.proofs.Evaluated.{value_of, literals_given, evaluated}
use Rattle.sd_laws.proofs.Unturned.{IsShownNode, shown_orderly}
use Rattle.sd_laws.proofs.Growing.{shown_apart}
use Rattle.sd_laws.proofs.GoneBack.{IsBaseOrNode, AllNodes, codes_there}
use Rattle.sd_laws.proofs.ByValues.{shown_by_values}
use Rattle.sd_manager.specs.Table.{Table, key_at}
use Rattle.sd_manager.specs.Valid.{IsTable}
use Rattle.sd_manager.specs.Moving.{moving_at}
use Rattle.sd_manager.proofs.Valid.{nothing}
use Rattle.sd_manager.proofs.AtRest.{all_shown}
use Rattle.sd_manager.proofs.Reading.{linked_key}
use Rattle.sd_move.specs.Moving.{Progress, no_progress, IsNew, MoveInProgress}

-- the begin

-- outside a move each node is linked
all_linked : (m : Table) → IsTable m → m.moving ≡ None → (n : ℕ) (k : ℕ × List (ℕ × ℕ)) → key_at m n ≡ Some k →
    get m.linked n ≡ Some k
all_linked m i still n k e = go (get m.linked n) refl
  where
    go : (o : Option (ℕ × List (ℕ × ℕ))) → get m.linked n ≡ o → get m.linked n ≡ Some k
    go (Some j) f = f ∙ sym (ap (λ o. or_else o (get m.detached n)) f) ∙ e
    go None f =
        let d : get m.detached n ≡ Some k = sym (ap (λ o. or_else o (get m.detached n)) f) ∙ e in
        absurd (nothing n k (ap (λ z. get z n) (sym (i.at_rest still)) ∙ d))

-- where there is a key there is a node
number_linked : (m : Table) → IsTable m → m.moving ≡ None → (n : ℕ) → IsSome (key_at m n) → IsSome (get m.linked n)
number_linked m i still n h = go (key_at m n) refl h
  where
    go : (o : Option (ℕ × List (ℕ × ℕ))) → key_at m n ≡ o → IsSome o → IsSome (get m.linked n)
    go None f k = absurd (cc (k))
    go (Some j) f k = subst IsSome (sym (all_linked m i still n j f)) refl

-- A move begins under the valuation of the table.
pub begun : (m : Table) (x : ℕ) → (i : IsTable m) → m.moving ≡ None →
    MoveInProgress m (moving_at m x) x no_progress (value_of (get m.linked))
begun m x i still =
    record {
      literals = literals_given (get m.linked);
      moving = refl;
      began = λ n h d. shows n h;
      kept = λ n h d. key n h;
      value = λ n u l e. let f = all_linked m i still n (u, l) e in o.value n u l (node n u l f) f;
      whole = λ n u l e. let f = all_linked m i still n (u, l) e in o.whole n u l (node n u l f) f;
      placed = λ n u l e. o.placed n u l (node n u l e) e;
      settled = λ n u l e s. shows n (subst IsSome (sym e) refl);
      above = λ n u l e s. e;
      lists = λ n u p l old e f d.
          inl (get-empty nat_cmp n, (some_pair_parts u p l old (sym (all_linked m i still n (u, l) e) ∙ f)).1);
      free = λ a. absurd (cc (a));
      new_below = λ n u l e f. absurd (not_new n f (subst IsSome (sym (all_linked m i still n (u, l) e)) refl));
      new_linked = λ a n k. absurd (none_detached n k);
      apart = λ a b ha hb same.
          shown_apart m.vtree i.numbered (get m.linked) i.keys (all_shown m i still) a b
          (number_linked m i still a ha) (number_linked m i still b hb) same;
      roots = refl;
    }
  where
    not_new : (n : ℕ) → IsNew m no_progress n → IsSome (get m.linked n) → ⊥
    not_new n (inl z) k = absurd (cc (subst IsSome z k))
    not_new n (inr d) k = d

    none_detached : (n : ℕ) → IsSome (get m.detached n) → ⊥
    none_detached n k =
        absurd (cc (subst IsSome (ap (λ z. get z n) (i.at_rest still) ∙ get-empty nat_cmp n) k))

    o : AreOrderly m.vtree (get m.linked) (IsShownNode m.vtree (get m.linked)) (value_of (get m.linked))
    o = shown_orderly m.vtree i.numbered (get m.linked)

    node : (n u : ℕ) (l : List (ℕ × ℕ)) → get m.linked n ≡ Some (u, l) → IsShownNode m.vtree (get m.linked) n
    node n u l e = all_shown m i still n (subst IsSome (sym e) refl)

    shows : (n : ℕ) → IsSome (get m.linked n) → ShowsValue m.vtree (get m.linked) (value_of (get m.linked)) (2050 + n)
    shows n h =
        let s = all_shown m i still n h in evaluated m.vtree (get m.linked) i.numbered (2050 + n) s.diagram s.is

    key : (n : ℕ) → IsSome (get m.linked n) → IsSome (key_at m n)
    key n h = go (get m.linked n) refl h
      where
        go : (o : Option (ℕ × List (ℕ × ℕ))) → get m.linked n ≡ o → IsSome o → IsSome (key_at m n)
        go None e k = absurd (cc (k))
        go (Some j) e k = subst IsSome (sym (linked_key m n j e)) refl

-- the end

-- Where nothing is detached and each list names linked nodes, each linked node shows a canonical diagram of its
-- function, those above the moved node too.
pub ended : (m0 m : Table) (x : ℕ) (h : Progress) (v : Valuation) → IsTable m → MoveInProgress m0 m x h v →
    ((n u i : ℕ) (l : List (ℕ × ℕ)) → get m.linked n ≡ Some (u, l) → StandsIn (2050 + i) l → IsSome (get m.linked i)) →
    ((n u : ℕ) (l : List (ℕ × ℕ)) → get m.linked n ≡ Some (u, l) →
    AllByRecursion (λ (e : ℕ × ℕ). IsBaseOrNode m.vtree e.0 × IsBaseOrNode m.vtree e.1) l) → (n : ℕ) →
    IsSome (get m.linked n) → ShowsValue m.vtree (get m.linked) v (2050 + n)
ended m0 m x h v i g closed codes n is =
    shown_by_values m.vtree i.numbered (get m.linked) AllNodes v i.keys
    (record {
      literals = g.literals;
      value = λ a u l t e. g.value a u l (linked_key m a (u, l) e);
      whole = λ a u l t e. g.whole a u l (linked_key m a (u, l) e);
      placed = λ a u l t e. g.placed a u l e;
      closed = λ a u l t e.
          codes_there m.vtree (get m.linked) l (codes a u l e) (λ b s. closed a u b l e s);
    }) (2050 + n) (inr (n, refl, tt, is))
