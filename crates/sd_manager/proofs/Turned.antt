-- The vtree is turned where no linked node stands at the two nodes that a move turns: each node that is not above the
-- moved one shows the function that it showed, the table is valid and its uses are counted.
use Rattle.std.proofs.Common.{◌≡◌, ◌≢◌, ◌⊎◌, inl, inr, ℕ, ◌+◌, ◌<◌, ◌≤◌, Bool, List, [], length, Option, Some, None}
use Rattle.std.proofs.Common.{option_and_then, refl, sym, ap, subst, ◌∙◌, arith}
use Rattle.std.proofs.lemmas.Bool.{cases_lt}
use Rattle.std.proofs.lemmas.Option.{none-some}
use Rattle.std.specs.Option.{option_map}
use Rattle.std.specs.Ordering.{nat_cmp}
use Rattle.std.specs.FinMap.{FinMap, get}
use Rattle.sd_model.specs.declared.trees.Move.{Move}
use Rattle.sd_model.specs.declared.trees.Move.TheVariants.{RotateLeft, RotateRight, Swap}
use Rattle.sd_model.specs.Tree.{leaves}
use Rattle.sd_model.specs.Diagram.{Diagram, meaning}
use Rattle.sd_vtree.specs.Numbered.{Numbered, NumberedLeaf, NumberedNode, plain_tree, numbers, subtree}
use Rattle.sd_vtree.specs.Numbered.{child_numbers, times, IsNumbered, IsUnder}
use Rattle.sd_vtree.specs.NumberedMoves.{moved_number}
use Rattle.sd_vtree.proofs.Put.{moved_none}
use Rattle.sd_vtree.proofs.Subtrees.{node_within, subtree_number}
use Rattle.sd_vtree.proofs.Times.{times_other}
use Rattle.sd_unique.specs.Nodes.{Nodes}
use Rattle.sd_laws.specs.Turned.{lower_of, KeepsOthers}
use Rattle.sd_laws.proofs.Lists.{all_weaker}
use Rattle.sd_laws.proofs.Numbers.{length_numbers}
use Rattle.sd_laws.proofs.Turning.{turned_right, turned_left, turned_swap}
use Rattle.sd_laws.proofs.Unturned.{turned_shown}
use Rattle.sd_laws.proofs.Users.{under_turned}
use Rattle.sd_manager.specs.Table.{Table}
use Rattle.sd_manager.specs.Shown.{HasNode, AreThere, ShowsCanonical}
use Rattle.sd_manager.specs.Valid.{IsTable, IsSettled}
use Rattle.sd_manager.specs.Moving.{with_vtree, next_epoch, IsCleared, KeepsMeanings}
use Rattle.sd_manager.specs.Stored.{table_of, IsStored}

-- What a move at x makes of a vtree: w is the lower node of a rotation, and x itself in a swap.
record IsTurnedAt (t u : Numbered) (kind : Move) (x w : ℕ) : Type 0 where
  pub keeps : KeepsOthers t u x w
  pub lower : (w ≡ x) ⊎ (lower_of kind t x ≡ Some w)

-- each of the three moves does so
turned_at : (t u : Numbered) (kind : Move) (x : ℕ) → IsNumbered t → moved_number kind t x ≡ Some u →
    (w : ℕ) × IsTurnedAt t u kind x w
turned_at t u RotateRight x num is =
    let r = turned_right t u x num is in (
      r.0,
      record {
        keeps = r.1.there;
        lower = inr (ap (λ o. option_map (λ (c : ℕ × ℕ). c.0) (option_and_then child_numbers o)) r.1.first_upper);
      },
    )
turned_at t u RotateLeft x num is =
    let r = turned_left t u x num is in (
      r.0,
      record {
        keeps = r.1.back;
        lower = inr (ap (λ o. option_map (λ (c : ℕ × ℕ). c.1) (option_and_then child_numbers o)) r.1.second_upper);
      },
    )
turned_at t u Swap x num is = (x, record { keeps = (turned_swap t u x num is).there; lower = inl refl })

-- a node with another one under it is an inner node
inner_over : (t : Numbered) (a n : ℕ) → IsUnder t a n → a ≢ n →
    (l r : Numbered) × (subtree t n ≡ Some (NumberedNode n l r))
inner_over t a n u d = go u.part u.is u.has
  where
    go : (s : Numbered) → subtree t n ≡ Some s → 1 ≤ times a (numbers s) →
        (l r : Numbered) × (subtree t n ≡ Some (NumberedNode n l r))
    go (NumberedNode m l r) is has =
        let number : m ≡ n = subtree_number t n (NumberedNode m l r) is in
        (l, r, is ∙ ap (λ k. Some (NumberedNode k l r)) number)
    go (NumberedLeaf m y) is has =
        let number : m ≡ n = subtree_number t n (NumberedLeaf m y) is in
        absurd (omega (arith, times_other a m [] (λ e. d (sym e ∙ number)), has))

module _ (t : Table) (i : IsTable t) (kind : Move) (x : ℕ) (u : Numbered) (moving : t.moving ≡ Some x)
    (moved : moved_number kind t.vtree x ≡ Some u) (num : IsNumbered u)
    (count : length (numbers u) ≡ length (numbers t.vtree)) (cleared : IsCleared t kind x) where
  -- the lower node
  lower : (w : ℕ) × IsTurnedAt t.vtree u kind x w
  lower = turned_at t.vtree u kind x i.numbered moved

  -- no linked node stands at one of the two
  apart : (n : ℕ) (k : ℕ × List (ℕ × ℕ)) → get t.linked n ≡ Some k → (k.0 ≢ x) × (k.0 ≢ lower.0)
  apart n k there = (
    (cleared n k there).0,
    λ same.
        elim lower.1.lower [
          | inl e ↦ (cleared n k there).0 (same ∙ e)
          | inr e ↦ (cleared n k there).1 (ap Some same ∙ sym e)
        ],
  )

  -- what is not above the moved node afterwards was not above it before
  settled_before : (n : ℕ) (k : ℕ × List (ℕ × ℕ)) → get t.linked n ≡ Some k → IsSettled (with_vtree t u) k.0 →
      IsSettled t k.0
  settled_before n k there settled y at = go (settled y at)
    where
      go : (y ≡ k.0) ⊎ (¬ IsUnder u y k.0) → (y ≡ k.0) ⊎ (¬ IsUnder t.vtree y k.0)
      go (inl e) = inl e
      go (inr none) =
          inr (λ under.
          let same : Some x ≡ Some y = sym moving ∙ at in
          let own : x ≡ y = cc in
          let d = apart n k there in
          let inner = inner_over t.vtree y k.0 under (λ e. d.0 (sym e ∙ sym own)) in
          none (under_turned t.vtree u x lower.0 lower.1.keeps k.0 inner.0 inner.1 d.0 d.1 inner.2 y under))

  -- as many variables as before
  same_leaves : leaves (plain_tree u) ≡ leaves (plain_tree t.vtree)
  same_leaves = omega (arith, count, length_numbers u, length_numbers t.vtree)

  -- what is shown has the function that it had
  shown_turned : (c : ℕ) (d : Diagram) → ShowsCanonical t c d →
      (e : Diagram) × ShowsCanonical (with_vtree t u) c e × ((a : List Bool) → meaning e a ≡ meaning d a)
  shown_turned c d h =
      turned_shown t.vtree u x lower.0 i.numbered num same_leaves lower.1.keeps (get t.linked) i.keys
      (λ n place l there. apart n (place, l) there) c d h

  pub turned_meanings : KeepsMeanings t (with_vtree t u)
  turned_meanings n k d there settled h = shown_turned (2050 + n) d h

  -- a code that is there stays there
  there_turned : (c : ℕ) → HasNode t c → HasNode (with_vtree t u) c
  there_turned c (inl low) = inl (omega (arith, low, same_leaves))
  there_turned c (inr h) = inr h

  all_turned : (l : List (ℕ × ℕ)) → AreThere t l → AreThere (with_vtree t u) l
  all_turned l there =
      all_weaker (λ (p : ℕ × ℕ). HasNode t p.0 × HasNode t p.1)
      (λ (p : ℕ × ℕ). HasNode (with_vtree t u) p.0 × HasNode (with_vtree t u) p.1)
      (λ p both. (there_turned p.0 both.0, there_turned p.1 both.1)) l there

  -- the table is valid
  turned_table : IsTable (with_vtree t u)
  turned_table = record {
    numbered = num;
    keys = i.keys;
    canonical = λ n k there settled.
        let before = i.canonical n k there (settled_before n k there settled) in
        let z = shown_turned (2050 + n) before.diagram before.is in
        record { diagram = z.0; is = z.1 };
    held = λ still. let bad : None ≡ Some x = sym still ∙ moving in absurd (cc);
    few_roots = i.few_roots;
    either = i.either;
    at_rest = i.at_rest;
    within = i.within;
    several = i.several;
    marked = i.marked;
    closed = λ n k there. all_turned k.1 (i.closed n k there);
    closed_runs = λ start l there. all_turned l (i.closed_runs start l there);
    closed_roots = λ root c there. there_turned c (i.closed_roots root c there);
    several_runs = i.several_runs;
    total = i.total;
    records_fit = i.records_fit;
    bounded = i.bounded;
    bound_fits = i.bound_fits;
  }

-- the nodes

-- a node that is movable is one of the vtree
movable_inside : (v u : Numbered) (kind : Move) (x : ℕ) → IsNumbered v → moved_number kind v x ≡ Some u →
    x < length (numbers v)
movable_inside v u kind x num moved = elim (cases_lt 0 (times x (numbers v))) [
  | inl h ↦ node_within v num x (omega arith)
  | inr h ↦ absurd (none-some u (sym (moved_none kind v x (omega arith)) ∙ moved))
]

module _ (v : Numbered) (a : Nodes) (m : FinMap nat_cmp ℕ) (e : ℕ) (g : Option ℕ) (t : Table)
    (stored : IsStored a (table_of v a m e g)) (same : table_of v a m e g ≡ t) (kind : Move) (x : ℕ) (here : g ≡ Some x)
    (movable : (y : ℕ) × (u : Numbered) × (t.moving ≡ Some y) × (moved_number kind t.vtree y ≡ Some u)) where
  -- the vtree is movable at the node of the move
  pub movable_here : (u : Numbered) × (moved_number kind v x ≡ Some u)
  movable_here =
      let both : Some x ≡ Some movable.0 = sym here ∙ ap (λ s. s.moving) same ∙ movable.2 in
      let own : movable.0 ≡ x = cc in (
        movable.1,
        ap (λ s. moved_number kind s.vtree x) same ∙ subst (λ y. moved_number kind t.vtree y ≡ Some movable.1)
            own movable.3,
      )

  -- which is one of its nodes
  pub turn_node : x < length (numbers v)
  turn_node = movable_inside v movable_here.0 kind x stored.table.numbered movable_here.1

  module _ (cleared : (y : ℕ) → t.moving ≡ Some y → IsCleared t kind y) (u : Numbered)
      (moved : moved_number kind v x ≡ Some u) (count : length (numbers u) ≡ length (numbers v)) (num : IsNumbered u)
      (late : ℕ) (next : late ≡ next_epoch e) where
    -- the two nodes are cleared
    cleared_here : IsCleared (table_of v a m e g) kind x
    cleared_here = subst (λ s. IsCleared s kind x) (sym same) (cleared x (sym (ap (λ s. s.moving) same) ∙ here))

    -- the manager is kept as it was
    pub turned_stored : IsStored a (table_of u a m late g)
    turned_stored =
        subst (λ k. IsStored a (table_of u a m k g)) (sym next)
        (record {
          table = turned_table (table_of v a m e g) stored.table kind x u here moved num count cleared_here;
          valid = stored.valid;
          uses = stored.uses;
        })

    -- and so are the functions of the nodes
    pub turned_keeps : KeepsMeanings t (table_of u a m late g)
    turned_keeps =
        subst (λ s. KeepsMeanings s (table_of u a m late g)) same
        (subst (λ k. KeepsMeanings (table_of v a m e g) (table_of u a m k g)) (sym next)
        (turned_meanings (table_of v a m e g) stored.table kind x u here moved num count cleared_here))
