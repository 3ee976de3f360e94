-- Nodes that were detached at a place, and nothing else, may be linked there again, and then all is as it was.
use Rattle.std.proofs.Common.{◌≡◌, ◌≢◌, ◌⊎◌, inl, inr, ℕ, ◌+◌, ◌*◌, ◌<◌, List, [], ◌∷◌, Option, Some, None}
use Rattle.std.proofs.Common.{refl, sym, ◌∙◌, ap, subst}
use Rattle.std.specs.List.{AllByRecursion}
use Rattle.std.specs.Option.{IsSome}
use Rattle.std.specs.FinMap.{get}
use Rattle.std.proofs.lemmas.Bool.{cases_eq}
use Rattle.std.proofs.lemmas.Option.{none-some}
use Rattle.sd_model.specs.Tree.{leaves}
use Rattle.sd_vtree.specs.Numbered.{IsUnder, or_else, plain_tree}
use Rattle.sd_vtree.proofs.Subtrees.{once_numbered}
use Rattle.sd_runs.specs.Arena.{IsMember}
use Rattle.sd_runs.proofs.Maps.{same_at_each}
use Rattle.sd_laws.specs.Values.{Valuation, StandsIn, IsCodeOf, ShowsValue, IsPlaced}
use Rattle.sd_laws.proofs.Lists.{all_at, all_from}
use Rattle.sd_laws.proofs.ByValues.{base_shown}
use Rattle.sd_laws.proofs.Unturned.{IsShownNode, shown_orderly}
use Rattle.sd_laws.proofs.Users.{users_above}
use Rattle.sd_laws.proofs.Within.{prime_stands, sub_stands}
use Rattle.sd_manager.specs.Table.{Table}
use Rattle.sd_manager.specs.Valid.{IsTable, IsSettled}
use Rattle.sd_manager.specs.Places.{IsLinkedAt}
use Rattle.sd_manager.proofs.Reading.{linked_key}
use Rattle.sd_move.specs.Moving.{Progress, IsNew, MoveInProgress}
use Rattle.sd_move.specs.Steps.{CanDetachAt, AreDetached, CanLinkWith, CanLinkAll, AreLinkedAt}
use Rattle.sd_move.proofs.DetachedAll.{settled_same}
use Rattle.sd_manager.proofs.DetachedFrom.{settled_below}

-- a number is in a list or not
pub has_or_not : (n : ℕ) (ns : List ℕ) → IsMember n ns ⊎ (¬ IsMember n ns)
has_or_not n [] = inr (λ m. m)
has_or_not n (i ∷ ns) = elim (cases_eq i n) [
  | inl e ↦ inl (inl e)
  | inr d ↦ elim (has_or_not n ns) [
    | inl m ↦ inl (inr m)
    | inr out ↦ inr (λ m. elim m [
      | inl e ↦ d e
      | inr k ↦ out k
    ])
  ]
]

-- what holds of each member holds of each element
pub all_members : (P : ℕ → Type 0) (ns : List ℕ) → ((n : ℕ) → IsMember n ns → P n) → AllByRecursion P ns
all_members P [] f = tt
all_members P (n ∷ ns) f = (f n (inl refl), all_members P ns (λ i m. f i (inr m)))

module _ (m0 old : Table) (x : ℕ) (h : Progress) (v : Valuation) (place : ℕ) (t : IsTable old)
    (c : CanDetachAt m0 old x h v place) (settled : IsSettled old place) where
  -- what a node at the place names is a constant, a literal, or a node that is linked strictly below the place
  abbrev IsStrictlyBelow : ℕ → Type 0
  IsStrictlyBelow i =
      (q : ℕ) × (k : List (ℕ × ℕ)) × (get old.linked i ≡ Some (q, k)) × IsUnder old.vtree q place × (place ≢ q)

  -- a node that is there has a key
  linked_node : (i : ℕ) (o : Option (ℕ × List (ℕ × ℕ))) → get old.linked i ≡ o → IsSome o →
      (q : ℕ) × (k : List (ℕ × ℕ)) × (get old.linked i ≡ Some (q, k))
  linked_node i None e s = absurd (cc (s))
  linked_node i (Some k) e s = (k.0, k.1, e)

  module _ (n : ℕ) (l : List (ℕ × ℕ)) (was : get old.linked n ≡ Some (place, l)) where
    node_below : (i : ℕ) → IsSome (get old.linked i) → StandsIn (2050 + i) l → IsStrictlyBelow i
    node_below i there stands =
        let w = linked_node i (get old.linked i) refl there in
        let key = linked_key old i (w.0, w.1) w.2 in
        let u =
        users_above old.vtree t.numbered v i place w.0 l w.1 (c.going.placed n place l was)
        (c.going.whole i w.0 w.1 key) (c.going.placed i w.0 w.1 w.2) (c.going.value i w.0 w.1 key) stands in
        (w.0, w.1, w.2, u.0, u.1)

    shown_there : IsShownNode old.vtree (get old.linked) n
    shown_there =
        let s = c.going.settled n place l was settled in record { diagram = s.diagram; is = s.is }

    codes_below : AllByRecursion (λ (e : ℕ × ℕ). IsCodeOf old.vtree (get old.linked)
        (IsShownNode old.vtree (get old.linked)) e.0
        × IsCodeOf old.vtree (get old.linked) (IsShownNode old.vtree (get old.linked)) e.1) l
    codes_below = (shown_orderly old.vtree t.numbered (get old.linked)).closed n place l shown_there was

    -- so its codes show their values in each table in which constants and literals do, the nodes strictly below the
    -- place are linked, and the move is not below them
    pub codes_still : (now : Table) → MoveInProgress m0 now x h v →
        ((d : ℕ) → d < 2 * leaves (plain_tree old.vtree) + 2 → ShowsValue now.vtree (get now.linked) v d) →
        ((q : ℕ) → IsUnder old.vtree q place → place ≢ q → IsSettled now q) →
        ((i : ℕ) (k : ℕ × List (ℕ × ℕ)) → get old.linked i ≡ Some k → k.0 ≢ place → get now.linked i ≡ Some k) →
        AllByRecursion (λ (e : ℕ × ℕ). ShowsValue now.vtree (get now.linked) v e.0
        × ShowsValue now.vtree (get now.linked) v e.1) l
    codes_still now g bases below others =
        all_from (λ (e : ℕ × ℕ). ShowsValue now.vtree (get now.linked) v e.0
        × ShowsValue now.vtree (get now.linked) v e.1) l
        (λ e a.
        let b =
        all_at (λ (e : ℕ × ℕ). IsCodeOf old.vtree (get old.linked) (IsShownNode old.vtree (get old.linked)) e.0
        × IsCodeOf old.vtree (get old.linked) (IsShownNode old.vtree (get old.linked)) e.1) l e codes_below a in (
          code e.0 b.0 (λ i z. prime_stands l e (2050 + i) a z),
          code e.1 b.1 (λ i z. sub_stands l e (2050 + i) a z),
        ))
      where
        code : (d : ℕ) → IsCodeOf old.vtree (get old.linked) (IsShownNode old.vtree (get old.linked)) d →
            ((i : ℕ) → d ≡ 2050 + i → StandsIn (2050 + i) l) → ShowsValue now.vtree (get now.linked) v d
        code d (inl low) f = bases d low
        code d (inr w) f =
            let b = node_below w.0 w.3 (f w.0 w.1) in
            let there : get now.linked w.0 ≡ Some (b.0, b.1) = others w.0 (b.0, b.1) b.2 (λ z. b.4 (sym z)) in
            subst (ShowsValue now.vtree (get now.linked) v) (sym w.1)
            (g.settled w.0 b.0 b.1 there (below b.0 b.3 b.4))

  -- The nodes that were detached may be linked again.
  pub may_link_again : (now : Table) (numbers : List ℕ) → AreDetached old now place numbers →
      MoveInProgress m0 now x h v → ((n : ℕ) → IsLinkedAt old place n → ¬ IsNew m0 h n) →
      CanLinkAll m0 now x h v place numbers
  may_link_again now numbers d g older =
      record {
        going = g;
        settled = settled_same old now (sym tree) (sym moving) place settled;
        early = c.early;
        once = d.once;
        each = all_members (CanLinkWith m0 now h v place) numbers (λ n m. each n m);
      }
    where
      tree : now.vtree ≡ old.vtree
      tree = ap (λ (u : Table). u.vtree) d.same

      moving : now.moving ≡ old.moving
      moving = ap (λ (u : Table). u.moving) d.same

      each : (n : ℕ) → IsMember n numbers → CanLinkWith m0 now h v place n
      each n m =
          let w = d.each n m in
          record {
            before = place;
            list = w.list;
            was = w.is;
            old = older n (record { list = w.list; is = w.was });
            placed = subst (λ s. IsPlaced s v place w.list) (sym tree) (c.going.placed n place w.list w.was);
            ascending = t.keys.ascending n (place, w.list) w.was;
            codes = codes_still n w.list w.was now g
                (λ d low. subst (λ s. ShowsValue s (get now.linked) v d) (sym tree)
                (base_shown old.vtree t.numbered (get now.linked) v g.literals d low))
                (λ q under other. settled_same old now (sym tree) (sym moving) q
                (settled_below old (once_numbered old.vtree t.numbered) place q settled under other))
                d.others;
          }

-- and then all is as it was

module _ (old mid new : Table) (place : ℕ) (numbers : List ℕ) (t : IsTable old) (d : AreDetached old mid place numbers)
    (l : AreLinkedAt mid new place numbers) where
  -- a node that was not detached stayed linked
  stayed : (n : ℕ) → ¬ IsMember n numbers → get mid.linked n ≡ get old.linked n
  stayed n out = go (get old.linked n) refl (get mid.linked n) refl
    where
      go : (o : Option (ℕ × List (ℕ × ℕ))) → get old.linked n ≡ o → (p : Option (ℕ × List (ℕ × ℕ))) →
          get mid.linked n ≡ p → get mid.linked n ≡ get old.linked n
      go o e (Some k) f = f ∙ sym (d.still n k f)
      go None e None f = f ∙ sym e
      go (Some k) e None f =
          let there : get mid.detached n ≡ Some k =
          sym (ap (λ p. or_else p (get mid.detached n)) f) ∙ d.keys n ∙ linked_key old n k e in
          absurd (elim (d.only n k there) [
            | inl g ↦ none-some k (sym (t.either n k e) ∙ g)
            | inr m ↦ out m
          ])

  -- and no other one was detached
  others_detached : (n : ℕ) → ¬ IsMember n numbers → get mid.detached n ≡ get old.detached n
  others_detached n out = go (get old.detached n) refl (get mid.detached n) refl
    where
      go : (o : Option (ℕ × List (ℕ × ℕ))) → get old.detached n ≡ o → (p : Option (ℕ × List (ℕ × ℕ))) →
          get mid.detached n ≡ p → get mid.detached n ≡ get old.detached n
      go (Some k) e p f = d.stay n k e ∙ sym e
      go None e None f = f ∙ sym e
      go None e (Some k) f = elim (d.only n k f) [
        | inl g ↦ f ∙ sym g
        | inr m ↦ absurd (out m)
      ]

  same_linked : (n : ℕ) → get new.linked n ≡ get old.linked n
  same_linked n = elim (has_or_not n numbers) [
    | inl m ↦ (let w = d.each n m in l.each n (place, w.list) m w.is ∙ sym w.was)
    | inr out ↦ (l.others n out).0 ∙ stayed n out
  ]

  same_detached : (n : ℕ) → get new.detached n ≡ get old.detached n
  same_detached n = elim (has_or_not n numbers) [
    | inl m ↦ (let w = d.each n m in l.gone n m ∙ sym (t.either n (place, w.list) w.was))
    | inr out ↦ (l.others n out).1 ∙ others_detached n out
  ]

  pub linked_again : new ≡ old
  linked_again =
      l.same ∙ ap (λ (u : Table). record u { linked = new.linked; detached = new.detached }) d.same
      ∙ ap (λ z. record old { linked = z; detached = new.detached })
      (same_at_each new.linked old.linked same_linked)
      ∙ ap (λ z. record old { linked = old.linked; detached = z })
      (same_at_each new.detached old.detached same_detached)
