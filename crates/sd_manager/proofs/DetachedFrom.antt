-- A linked node is made a detached one: what stays, and that the table is valid and its uses are counted.
use Rattle.std.proofs.Common.{◌≡◌, ◌≢◌, ◌⊎◌, inl, inr, ℕ, ◌+◌, ◌-◌, ◌≤◌, List, length, Option, Some, None}
use Rattle.std.proofs.Common.{sym, ap, subst, ◌∙◌, arith}
use Rattle.std.proofs.lemmas.Bool.{cases_eq}
use Rattle.std.proofs.lemmas.Option.{some_pair_parts}
use Rattle.std.specs.Option.{IsSome}
use Rattle.std.specs.Ordering.{nat_cmp}
use Rattle.std.specs.List.{sum_by}
use Rattle.std.specs.FinMap.{FinMap, get, insert, remove, values}
use Rattle.sd_runs.proofs.Maps.{get_insert_same, get_insert_other, get_remove_same, get_remove_other}
use Rattle.sd_runs.proofs.Places.{by_cases}
use Rattle.sd_vtree.specs.Numbered.{Numbered, number_of, numbers, subtree, times, IsUnder, or_else}
use Rattle.sd_vtree.proofs.Subtrees.{AtMostOnce, once_numbered, subtree_some, subtree_trans, subtree_number}
use Rattle.sd_vtree.proofs.Subtrees.{subtree_once}
use Rattle.sd_vtree.proofs.Under.{under_part, under_trans}
use Rattle.sd_unique.specs.Nodes.{Nodes, IsNodes}
use Rattle.sd_unique.specs.Relinking.{unlinked}
use Rattle.sd_laws.specs.Values.{StandsIn}
use Rattle.sd_laws.proofs.Evaluated.{value_of}
use Rattle.sd_laws.proofs.GoneBack.{root_below}
use Rattle.sd_laws.proofs.Lists.{all_weaker}
use Rattle.sd_laws.proofs.Unturned.{IsShownNode, shown_orderly, shown_closed}
use Rattle.sd_laws.proofs.Users.{users_above}
use Rattle.sd_laws.proofs.Within.{shows_within}
use Rattle.sd_manager.specs.Table.{Table, key_at, uses_of, uses_in}
use Rattle.sd_manager.specs.Shown.{IsNodeOf, HasNode, AreThere}
use Rattle.sd_manager.specs.Valid.{IsTable, IsSettled}
use Rattle.sd_manager.specs.Moving.{detached_from, IsTop}
use Rattle.sd_manager.specs.Stored.{table_of, IsStored}
use Rattle.sd_manager.proofs.Holding.{some_value}
use Rattle.sd_manager.proofs.Totals.{left_was, total_new, total_without}

-- places

-- two nodes do not stand strictly under each other
pub under_apart : (t : Numbered) → AtMostOnce t → (a m : ℕ) → IsUnder t a m → IsUnder t m a → a ≢ m → ⊥
under_apart t once a m u v d =
    let s = subtree_some u.part a u.has in
    let at : subtree t a ≡ Some s.0 = subtree_trans t once m u.part u.is a s.0 s.1 in
    let has : 1 ≤ times m (numbers s.0) = under_part t m a s.0 at v in
    let number : number_of u.part ≡ m = subtree_number t m u.part u.is in
    root_below u.part s.0 a (subtree_once t m u.part once u.is) s.1 (λ e. d (e ∙ number))
    (subst (λ z. 1 ≤ times z (numbers s.0)) (sym number) has)

-- what stands strictly below a place that is not above the moved node is not above it either
pub settled_below : (t : Table) → AtMostOnce t.vtree → (p q : ℕ) → IsSettled t p → IsUnder t.vtree q p → p ≢ q →
    IsSettled t q
settled_below t once p q s u d y e = go (s y e)
  where
    go : (y ≡ p) ⊎ (¬ IsUnder t.vtree y p) → (y ≡ q) ⊎ (¬ IsUnder t.vtree y q)
    go (inl z) =
        inr (λ w. under_apart t.vtree once q p u (subst (λ k. IsUnder t.vtree k q) z w) (λ k. d (sym k)))
    go (inr n) = inr (λ w. n (under_trans t.vtree once y q p w u))

-- keys

-- each node keeps its key
pub keys_same : (t : Table) (n : ℕ) (key : ℕ × List (ℕ × ℕ)) → get t.linked n ≡ Some key → (q : ℕ) →
    key_at (detached_from t n key) q ≡ key_at t q
keys_same t n key was q =
    by_cases
    (λ same.
    ap (λ o. or_else o (get (insert t.detached n key) q))
    (ap (get (remove t.linked n)) same ∙ get_remove_same t.linked n)
    ∙ ap (get (insert t.detached n key)) same ∙ get_insert_same t.detached n key
    ∙ sym (ap (λ o. or_else o (get t.detached q)) (ap (get t.linked) same ∙ was)))
    (λ ne.
    ap (λ o. or_else o (get (insert t.detached n key) q)) (get_remove_other t.linked n q ne)
    ∙ ap (or_else (get t.linked q)) (get_insert_other t.detached n key q ne))
    (cases_eq q n)

-- a node that is linked still is another one, and was linked
pub still_linked : (t : Table) (n q : ℕ) (k : ℕ × List (ℕ × ℕ)) → get (remove t.linked n) q ≡ Some k →
    (q ≢ n) × (get t.linked q ≡ Some k)
still_linked t n q k left = (
  λ same.
      let bad : None ≡ Some k =
      sym (get_remove_same t.linked n) ∙ ap (get (remove t.linked n)) (sym same) ∙ left in
      absurd (cc),
  left_was t.linked n q k left,
)

-- the table

module _ (t : Table) (i : IsTable t) (n : ℕ) (key : ℕ × List (ℕ × ℕ)) (was : get t.linked n ≡ Some key) where
  -- the codes that are there stay
  there_detached : (c : ℕ) → HasNode t c → HasNode (detached_from t n key) c
  there_detached c (inl low) = inl low
  there_detached c (inr h) = inr (h.0, subst IsSome (sym (keys_same t n key was (c - 2050))) h.1)

  all_detached : (l : List (ℕ × ℕ)) → AreThere t l → AreThere (detached_from t n key) l
  all_detached l there =
      all_weaker (λ (p : ℕ × ℕ). HasNode t p.0 × HasNode t p.1)
      (λ (p : ℕ × ℕ). HasNode (detached_from t n key) p.0 × HasNode (detached_from t n key) p.1)
      (λ p both. (there_detached p.0 both.0, there_detached p.1 both.1)) l there

  -- sums

  -- the list goes over from the linked nodes to the detached ones
  sums_same : (f : ℕ × List (ℕ × ℕ) → ℕ) →
      sum_by f (values (remove t.linked n)) + sum_by f (values (insert t.detached n key))
      ≡ sum_by f (values t.linked) + sum_by f (values t.detached)
  sums_same f =
      omega (
        arith,
        total_without f t.linked n key was,
        total_new f t.detached n key (i.either n key was),
      )

  -- so each code is used as often as before
  uses_same : (c : ℕ) → uses_of (detached_from t n key) c ≡ uses_of t c
  uses_same c = omega (arith, sums_same (λ (k : ℕ × List (ℕ × ℕ)). uses_in c k.1))

  -- what is shown

  module _ (moves : IsSome t.moving) (top : IsTop t n) where
    -- the nodes that show what they showed: another one that is canonical, and not above the moved node
    abbrev StaysShown : ℕ → Type 0
    StaysShown q =
        (q ≢ n) × IsShownNode t.vtree (get t.linked) q
        × ((p : ℕ) (l : List (ℕ × ℕ)) → get t.linked q ≡ Some (p, l) → IsSettled t p)

    -- what such a node names is such a node
    stays_closed : (a b p : ℕ) (l : List (ℕ × ℕ)) → StaysShown a → get t.linked a ≡ Some (p, l) →
        StandsIn (2050 + b) l → StaysShown b
    stays_closed a b p l s e stands =
        let o = shown_orderly t.vtree i.numbered (get t.linked) in
        let below : IsShownNode t.vtree (get t.linked) b =
        shown_closed t.vtree i.numbered (get t.linked) a b p l s.1 e stands in (
          λ same. top a (p, l) e (s.2 p l e) (subst (λ q. StandsIn (2050 + q) l) same stands),
          below,
          λ q k f.
              let u =
              users_above t.vtree i.numbered (value_of (get t.linked)) b p q l k (o.placed a p l s.1 e)
              (o.whole b q k below f) (o.placed b q k below f) (o.value b q k below f) stands in
              settled_below t (once_numbered t.vtree i.numbered) p q (s.2 p l e) u.0 u.1,
        )

    -- each such node is canonical still
    known_detached : (q : ℕ) → StaysShown q → IsNodeOf t (2050 + q) → IsNodeOf (detached_from t n key) (2050 + q)
    known_detached q stays h = record {
      diagram = h.diagram;
      is = record {
        shows = shows_within t.vtree (get t.linked) (get (remove t.linked n)) StaysShown
            (λ a b p l own at stands. stays_closed a b p l own at stands)
            (λ a k own at. get_remove_other t.linked n a own.0 ∙ at)
            h.diagram (2050 + q) (λ a same. subst StaysShown (omega arith) stays) h.is.shows;
        canonical = h.is.canonical;
      };
    }

    -- the table is valid
    detached_table : IsTable (detached_from t n key)
    detached_table = record {
      numbered = i.numbered;
      keys = record {
        distinct = λ q r k here there. i.keys.distinct q r k (still_linked t n q k here).1
            (still_linked t n r k there).1;
        ascending = λ q k here. i.keys.ascending q k (still_linked t n q k here).1;
      };
      canonical = λ q k here settled.
          let before = still_linked t n q k here in
          let known = i.canonical q k before.1 settled in
          known_detached q (
            before.0,
            record { diagram = known.diagram; is = known.is },
            λ p l e. subst (IsSettled t) (some_pair_parts k.0 p k.1 l (sym before.1 ∙ e)).0 settled,
          )
          known;
      held = λ still. let bad = subst IsSome still moves in absurd (cc);
      few_roots = i.few_roots;
      either = λ q k here.
          let before = still_linked t n q k here in
          get_insert_other t.detached n key q before.0 ∙ i.either q k before.1;
      at_rest = λ still. let bad = subst IsSome still moves in absurd (cc);
      within = λ q k here. i.within q k (sym (keys_same t n key was q) ∙ here);
      several = λ q k here. i.several q k (sym (keys_same t n key was q) ∙ here);
      marked = λ q k here. i.marked q k (sym (keys_same t n key was q) ∙ here);
      closed = λ q k here. all_detached k.1 (i.closed q k (sym (keys_same t n key was q) ∙ here));
      closed_runs = λ start l there. all_detached l (i.closed_runs start l there);
      closed_roots = λ root c there. there_detached c (i.closed_roots root c there);
      several_runs = i.several_runs;
      total = omega (arith, i.total, sums_same (λ (k : ℕ × List (ℕ × ℕ)). length k.1));
      records_fit = i.records_fit;
      bounded = i.bounded;
      bound_fits = i.bound_fits;
    }

-- the nodes

module _ (v : Numbered) (a : Nodes) (m : FinMap nat_cmp ℕ) (e : ℕ) (g : Option ℕ)
    (stored : IsStored a (table_of v a m e g)) (n : ℕ) (linked : IsSome (get a.linked n)) (b : Nodes)
    (out : (k : ℕ × List (ℕ × ℕ)) → get a.linked n ≡ Some k → b ≡ unlinked a n k) where
  -- the table is that with the node detached
  pub detached_is : (k : ℕ × List (ℕ × ℕ)) → get a.linked n ≡ Some k →
      table_of v b m e g ≡ detached_from (table_of v a m e g) n k
  detached_is k was = ap (λ x. table_of v x m e g) (out k was)

  -- the manager is kept as it was
  pub detached_stored : IsNodes b → IsSome g → IsTop (table_of v a m e g) n → IsStored b (table_of v b m e g)
  detached_stored valid moves top =
      let k = some_value (get a.linked n) linked in
      let is = detached_is k.0 k.1 in
      record {
        table = subst IsTable (sym is) (detached_table (table_of v a m e g) stored.table n k.0 k.1 moves top);
        valid = valid;
        uses = λ q key here.
            let before : key_at (table_of v a m e g) q ≡ Some key =
            sym (keys_same (table_of v a m e g) n k.0 k.1 q)
            ∙ ap (λ x. key_at x q) (sym is) ∙ here in
            ap (λ x. get x.uses q) (out k.0 k.1) ∙ stored.uses q key before
            ∙ ap Some (sym (uses_same (table_of v a m e g) stored.table n k.0 k.1 (2050 + q))
            ∙ ap (λ x. uses_of x (2050 + q)) (sym is));
      }
