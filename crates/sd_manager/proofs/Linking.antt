-- A node is found or linked: what it shows, what stays, and when there is no room.
use Rattle.std.proofs.Common.{◌≡◌, ◌⊎◌, inl, inr, ℕ, zero, suc, ◌+◌, ◌-◌, ◌*◌, ◌/◌, ◌^◌, ◌≤◌, ◌<◌}
use Rattle.std.proofs.Common.{Bool, true, false, ◌||◌, List, [], ◌∷◌, length, map, Option, Some, None, unwrap_or}
use Rattle.std.proofs.Common.{get_or, refl, sym, ap, subst, ◌∙◌, arith}
use Rattle.std.proofs.lemmas.Bool.{cases_eq}
use Rattle.std.proofs.lemmas.List.{length-map}
use Rattle.std.proofs.lemmas.List.Sorted.{length_permutation, IsPermutation-swap}
use Rattle.std.specs.List.{list_any}
use Rattle.std.specs.List.Sorted.{IsPermutation, IsSorted, IsStrictlySortedBy}
use Rattle.std.specs.Option.{IsSome, option_map}
use Rattle.std.specs.Ordering.{nat_cmp, eq_by_cmp, is_lt, ordering_then}
use Rattle.std.specs.declared.cmp.Ordering.TheVariants.{Greater}
use Rattle.std.specs.Cmp.{nat_cmp_is}
use Rattle.std.specs.FinMap.{FinMap, get, insert, len, len-entries, keys, entries, contains_key-keys}
use Rattle.sd_runs.proofs.Maps.{apart, get_insert_same, get_insert_other}
use Rattle.sd_runs.proofs.Places.{by_cases}
use Rattle.sd_runs.specs.declared.error.TakeError.{TakeError}
use Rattle.sd_runs.specs.declared.error.TakeError.TheVariants.{ArenaFull, OutOfMemory}
use Rattle.sd_model.specs.Tree.{leaves, AreDistinct}
use Rattle.sd_model.specs.Diagram.{Diagram}
use Rattle.sd_vtree.specs.Numbered.{Numbered, IsNumbered, or_else, plain_tree}
use Rattle.sd_unique.specs.Nodes.{Nodes, IsNodes, key_at as key_of_nodes, or_else as or_else_of_nodes, free_count}
use Rattle.sd_unique.specs.Inserting.{inserted, extent_after, IsNewNumber, IsFull as IsFullOfNodes}
use Rattle.sd_unique.specs.Inserting.{IsRefusal as IsRefusalOfNodes}
use Rattle.sd_laws.specs.Shown.{ShowPairs, Keeps}
use Rattle.sd_laws.specs.Trimming.{trim_of}
use Rattle.sd_laws.proofs.Codes.{shows_kept}
use Rattle.sd_laws.proofs.Lists.{IsAmong, all_weaker}
use Rattle.sd_laws.proofs.Made.{makes_trimmed, made_node, made_several, sorted_codes}
use Rattle.sd_laws.proofs.Nodes.{pair_cmp, partition_permuted}
use Rattle.sd_laws.proofs.Pigeons.{within_limit_pairs}
use Rattle.sd_manager.specs.Table.{Table, key_at, uses_of, uses_in}
use Rattle.sd_manager.specs.Shown.{IsNodeOf, IsPartitionAt, HasNode, AreThere}
use Rattle.sd_manager.specs.Valid.{IsTable, IsSettled}
use Rattle.sd_manager.specs.Making.{Extends, IsMade, IsFull, IsRefusal, IsPastBound, KeepsRule, HasNewNode}
use Rattle.sd_manager.specs.Making.{IsNewNumber as IsNewNumberOfTable}
use Rattle.sd_manager.specs.Stored.{table_of, IsStored}
use Rattle.sd_manager.specs.Counting.{IsCounted, AreCounted, AddsUses}
use Rattle.sd_manager.proofs.Totals.{total_new, total_without, sum_twos}
use Rattle.sd_manager.proofs.Holding.{there_counted, count_is, uses_in_le, uses_fit}
use Rattle.sd_manager.proofs.Reading.{linked_key, detached_key, key_again, shown_has_node, not_there}
use Rattle.sd_manager.proofs.Unused.{not_used}

-- the numbers of the linked nodes

or_rest : (x y : Bool) → x ≡ false → x || y ≡ true → y ≡ true
or_rest true y none e = cc
or_rest false y none e = e

any_among : (n : ℕ) (ns : List ℕ) → list_any (eq_by_cmp nat_cmp n) ns ≡ true → IsAmong n ns
any_among n [] e = cc
any_among n (k ∷ ns) e = elim (cases_eq n k) [
  | inl same ↦ inl same
  | inr ne ↦ inr (any_among n ns (or_rest (eq_by_cmp nat_cmp n k) (list_any (eq_by_cmp nat_cmp n) ns)
      (apart n k ne) e))
]

-- the number of a node is a key of the map
some_among : {X : Type 0} (m : FinMap nat_cmp X) (n : ℕ) → IsSome (get m n) → IsAmong n (keys m)
some_among m n h = any_among n (keys m) (sym (contains_key-keys m n) ∙ h)

length_keys : {X : Type 0} (m : FinMap nat_cmp X) → length (keys m) ≡ len m
length_keys {X} m = length-map (entries m) (λ (e : ℕ × X). e.0) ∙ sym (len-entries m)

-- the codes of pairs that show diagrams are there
pub pairs_there : (t : Table) → IsNumbered t.vtree → (l : List (ℕ × ℕ)) (ds : List (Diagram × Diagram)) →
    ShowPairs t.vtree (get t.linked) l ds → AreThere t l
pairs_there t numbered [] ds s = tt
pairs_there t numbered (pair ∷ l) [] s = absurd s
pairs_there t numbered (pair ∷ l) (d ∷ ds) s = (
  (shown_has_node t numbered pair.0 d.0 s.0.0, shown_has_node t numbered pair.1 d.1 s.0.1),
  pairs_there t numbered l ds s.1,
)

-- a list that is asked for
pub record IsAsked (v : Numbered) (a : Nodes) (m : FinMap nat_cmp ℕ) (e : ℕ) (g : Option ℕ) (u : ℕ)
    (elements l : List (ℕ × ℕ)) :
    Type 0 where
  pub stored : IsStored a (table_of v a m e g)
  pub one_partition : (ds : List (Diagram × Diagram)) × IsPartitionAt (table_of v a m e g) u elements ds
  pub differ : AreDistinct (map (λ e. e.1) elements)
  pub order : IsPermutation elements l
  pub up : IsSorted pair_cmp l

module _ (v : Numbered) (a : Nodes) (m : FinMap nat_cmp ℕ) (e : ℕ) (g : Option ℕ) (u : ℕ)
    (elements l : List (ℕ × ℕ))
    (h : IsAsked v a m e g u elements l) where
  -- what is trimmed shows the partition
  pub made_trimmed : (c : ℕ) → trim_of l ≡ Some c → (ds : List (Diagram × Diagram)) →
      IsPartitionAt (table_of v a m e g) u elements ds → IsMade (table_of v a m e g) c ds
  made_trimmed c trim ds partition =
      let z = makes_trimmed v (get a.linked) h.stored.table.numbered u elements l ds partition h.order c trim in
      record { diagram = z.0; is = z.1; value = z.2 }

  module _ (none : trim_of l ≡ None) where
    -- a node with the pairs shows it
    pub made_found : (n : ℕ) → get a.linked n ≡ Some (u, l) → (ds : List (Diagram × Diagram)) →
        IsPartitionAt (table_of v a m e g) u elements ds → IsMade (table_of v a m e g) (n + 2050) ds
    made_found n found ds partition =
        let z = made_node v (get a.linked) (get a.linked) h.stored.table.numbered h.stored.table.keys u n
        elements l ds
        partition h.order h.differ none (λ q k there. there) found in
        let code : 2050 + n ≡ n + 2050 = omega arith in
        subst (λ c. IsMade (table_of v a m e g) c ds) code (record { diagram = z.0; is = z.1; value = z.2 })

    -- there are two pairs or more
    pub two_pairs : 2 ≤ length l
    two_pairs =
        made_several v (get a.linked) h.stored.table.numbered h.stored.table.keys u elements l h.one_partition.0
        h.one_partition.1 h.order
        h.differ none

    few_elements : length elements ≤ a.extent / 2 + 2 * leaves (plain_tree v) + 2
    few_elements =
        let i = h.stored.table in
        let most = within_limit_pairs v (get a.linked) i.numbered (keys a.linked) (some_among a.linked) elements
        h.one_partition.0
        h.one_partition.1.shown h.differ in
        let own = sum_twos (λ (k : ℕ × List (ℕ × ℕ)). length k.1) a.linked
        (λ q k there. i.several q k (linked_key (table_of v a m e g) q k there)) in
        omega (arith, most, own, length_keys a.linked, i.total)

    -- where there is no room, the bound is passed by no more than the rule says
    pub past_bound : (n : ℕ) → a.bound < a.extent + length l → n ≡ a.extent + length l →
        IsPastBound (table_of v a m e g) n
    past_bound n full is = record {
      past = omega arith;
      least = omega (arith, two_pairs);
      most = omega (arith, few_elements, length_permutation elements l h.order);
    }

    -- a refusal of the nodes is one of the table
    pub refused : (error : TakeError) → IsRefusalOfNodes a (length l) error →
        IsRefusal (table_of v a m e g) (length elements) error
    refused error r =
        let same = length_permutation elements l h.order in
        subst (λ n. IsRefusal (table_of v a m e g) n error) same (go error r)
      where
        go : (error : TakeError) → IsRefusalOfNodes a (length l) error → IsRefusal (table_of v a m e g) (length l) error
        go (ArenaFull n) r = r
        go OutOfMemory r = tt

    -- and it keeps the arena's rule
    pub kept_rule : (error : TakeError) → IsRefusalOfNodes a (length l) error → KeepsRule (table_of v a m e g) error
    kept_rule (ArenaFull n) r = past_bound n r.0.1 r.1
    kept_rule OutOfMemory r = tt

    -- a new node

    module _ (n : ℕ) (number : IsNewNumber a n) where
      -- no node has the number
      no_key : key_of_nodes a n ≡ None
      no_key = go number (key_of_nodes a n) refl
        where
          go : IsNewNumber a n → (k : Option (ℕ × List (ℕ × ℕ))) → key_of_nodes a n ≡ k → key_of_nodes a n ≡ None
          go (inl free) k is = free.1
          go (inr end) None is = is
          go (inr end) (Some k) is = absurd (omega (arith, h.stored.valid.numbered n k is, end.0))

      -- neither a linked one nor a detached one
      neither : (get a.linked n ≡ None) × (get a.detached n ≡ None)
      neither = go (get a.linked n) (get a.detached n) no_key
        where
          go : {X : Type 0} (x y : Option X) → or_else_of_nodes x y ≡ None → (x ≡ None) × (y ≡ None)
          go None y none = (refl, none)
          go (Some k) y none = absurd (cc)

      pub absent : get a.linked n ≡ None
      absent = neither.0

      -- the node is linked
      pub linked_new : get (insert a.linked n (u, l)) n ≡ Some (u, l)
      linked_new = get_insert_same a.linked n (u, l)

      -- and all others stay
      pub keeps : Keeps (get a.linked) (get (insert a.linked n (u, l)))
      keeps q k there =
          by_cases
          (λ same. let none : None ≡ Some k = sym absent ∙ ap (get a.linked) (sym same) ∙ there in absurd (cc))
          (λ ne. get_insert_other a.linked n (u, l) q ne ∙ there)
          (cases_eq q n)

      -- the table with the new node
      abbrev grown : Table
      grown = table_of v (inserted a n u l) m e g

      -- the key of a node is that of the new one, or what it was
      pub key_split : (q : ℕ) (k : ℕ × List (ℕ × ℕ)) → key_at grown q ≡ Some k →
          ((q ≡ n) × ((u, l) ≡ k)) ⊎ (key_at (table_of v a m e g) q ≡ Some k)
      key_split q k there =
          by_cases
          (λ same.
          let both : Some (u, l) ≡ Some k =
          sym (linked_key grown n (u, l) linked_new) ∙ ap (key_at grown) (sym same) ∙ there in
          inl (same, same_key (u, l) k both))
          (λ ne.
          let rest : Option (ℕ × List (ℕ × ℕ)) → Option (ℕ × List (ℕ × ℕ)) = λ x. or_else x (get a.detached q) in
          inr (sym (ap rest (get_insert_other a.linked n (u, l) q ne)) ∙ there))
          (cases_eq q n)
        where
          same_key : (x y : ℕ × List (ℕ × ℕ)) → ◌≡◌ {A = Option (ℕ × List (ℕ × ℕ))} (Some x) (Some y) → x ≡ y
          same_key x y e = ap (λ k. unwrap_or k x) e

      -- an old node is not the new one
      not_new : (q : ℕ) (k : ℕ × List (ℕ × ℕ)) → key_at (table_of v a m e g) q ≡ Some k → ¬ (q ≡ n)
      not_new q k old same =
          let bad : None ≡ Some k =
          sym no_key ∙ ap (key_of_nodes a) (sym same) ∙ key_again (get a.linked q) (get a.detached q) ∙ old in
          absurd (cc)

      -- each old node keeps its key
      key_kept : (q : ℕ) (k : ℕ × List (ℕ × ℕ)) → key_at (table_of v a m e g) q ≡ Some k → key_at grown q ≡ Some k
      key_kept q k old =
          let rest : Option (ℕ × List (ℕ × ℕ)) → Option (ℕ × List (ℕ × ℕ)) = λ x. or_else x (get a.detached q) in
          ap rest (get_insert_other a.linked n (u, l) q (not_new q k old)) ∙ old

      -- a code that is there stays there
      there_kept : (c : ℕ) → HasNode (table_of v a m e g) c → HasNode grown c
      there_kept c (inl low) = inl low
      there_kept c (inr k) =
          inr (k.0, go (c - 2050) (key_at (table_of v a m e g) (c - 2050)) refl k.1)
        where
          go : (q : ℕ) (x : Option (ℕ × List (ℕ × ℕ))) → key_at (table_of v a m e g) q ≡ x → IsSome x →
              IsSome (key_at grown q)
          go q None is some = cc
          go q (Some k) is some = subst IsSome (sym (key_kept q k is)) refl

      -- and so do the codes of a list
      all_kept : (k : List (ℕ × ℕ)) → AreThere (table_of v a m e g) k → AreThere grown k
      all_kept k there =
          all_weaker (λ (p : ℕ × ℕ). HasNode (table_of v a m e g) p.0 × HasNode (table_of v a m e g) p.1)
          (λ (p : ℕ × ℕ). HasNode grown p.0 × HasNode grown p.1)
          (λ p both. (there_kept p.0 both.0, there_kept p.1 both.1)) k there

      -- the codes of the list are there
      pub list_there : AreThere grown l
      list_there =
          let f = partition_permuted v (get a.linked) u elements l h.one_partition.0 h.one_partition.1 h.order in
          all_kept l (pairs_there (table_of v a m e g) h.stored.table.numbered l f.0 f.2.shown)

      -- so they are counted
      pub list_counted : AreCounted (inserted a n u l) l
      list_counted =
          all_weaker (λ (p : ℕ × ℕ). HasNode grown p.0 × HasNode grown p.1)
          (λ (p : ℕ × ℕ). IsCounted (inserted a n u l) p.0 × IsCounted (inserted a n u l) p.1)
          (λ p both. (
            there_counted v (inserted a n u l) m e g p.0 h.stored.table.numbered both.0,
            there_counted v (inserted a n u l) m e g p.1 h.stored.table.numbered both.1,
          )) l list_there

      -- there is room for their uses
      pub list_room : length l < 2 ^ 31 → (q k : ℕ) → get (insert a.uses n 0) q ≡ Some k →
          k + uses_in (2050 + q) l < 2 ^ 64
      list_room short q k is =
          by_cases
          (λ same.
          let zero : Some 0 ≡ Some k = sym (get_insert_same a.uses n 0) ∙ ap (get (insert a.uses n 0))
          (sym same) ∙ is in
          let none : 0 ≡ k = cc in
          omega (arith, uses_in_le (2050 + q) l))
          (λ ne.
          let old = count_is v a m e g h.stored q k (sym (get_insert_other a.uses n 0 q ne) ∙ is) in
          omega (arith, old, uses_fit (table_of v a m e g) (2050 + q) h.stored.table, uses_in_le (2050 + q) l))
          (cases_eq q n)

      -- the manager with the new node, whose uses are w

      module _ (w : FinMap nat_cmp ℕ)
          (counts : (q : ℕ) → get w q ≡ option_map (λ k. k + uses_in (2050 + q) l) (get (insert a.uses n 0) q))
          (valid : IsNodes (record (inserted a n u l) { uses = w })) where
        -- what was known is known
        known_kept : (c : ℕ) → IsNodeOf (table_of v a m e g) c →
            IsNodeOf (table_of v (record (inserted a n u l) { uses = w }) m e g) c
        known_kept c k = record {
          diagram = k.diagram;
          is = record {
            shows = shows_kept v (get a.linked) (get (insert a.linked n (u, l))) keeps k.diagram c k.is.shows;
            canonical = k.is.canonical;
          };
        }

        -- the new node shows the partition
        pub made_new : (ds : List (Diagram × Diagram)) → IsPartitionAt (table_of v a m e g) u elements ds →
            IsMade (table_of v (record (inserted a n u l) { uses = w }) m e g) (n + 2050) ds
        made_new ds partition =
            let z = made_node v (get a.linked) (get (insert a.linked n (u, l))) h.stored.table.numbered
            h.stored.table.keys u n elements l ds partition h.order h.differ none keeps linked_new in
            let code : 2050 + n ≡ n + 2050 = omega arith in
            subst (λ c. IsMade (table_of v (record (inserted a n u l) { uses = w }) m e g) c ds) code
            (record { diagram = z.0; is = z.1; value = z.2 })

        -- a fact on the new key, and on the old ones
        each_key : (P : ℕ → ℕ × List (ℕ × ℕ) → Type 0) → P n (u, l) →
            ((q : ℕ) (k : ℕ × List (ℕ × ℕ)) → key_at (table_of v a m e g) q ≡ Some k → P q k) →
            (q : ℕ) (k : ℕ × List (ℕ × ℕ)) → key_at grown q ≡ Some k → P q k
        each_key P new old q k there =
            by_cases (λ same. subst (λ r. P r k) (sym same.0) (subst (P n) same.1 new)) (old q k)
            (key_split q k there)

        -- the same for linked nodes
        each_linked : (P : ℕ → ℕ × List (ℕ × ℕ) → Type 0) → P n (u, l) →
            ((q : ℕ) (k : ℕ × List (ℕ × ℕ)) → get a.linked q ≡ Some k → P q k) →
            (q : ℕ) (k : ℕ × List (ℕ × ℕ)) → get (insert a.linked n (u, l)) q ≡ Some k → P q k
        each_linked P new old q k there =
            by_cases (λ same. subst (λ r. P r k) (sym same.0) (subst (P n) same.1 new))
            (λ before. old q k (linked_before q k there before))
            (key_split q k (linked_key grown q k there))
          where
            linked_before : (q : ℕ) (k : ℕ × List (ℕ × ℕ)) → get (insert a.linked n (u, l)) q ≡ Some k →
                key_at (table_of v a m e g) q ≡ Some k → get a.linked q ≡ Some k
            linked_before q k there before =
                sym (get_insert_other a.linked n (u, l) q (not_new q k before)) ∙ there

        pub new_table : IsTable (table_of v (record (inserted a n u l) { uses = w }) m e g)
        new_table = record {
          numbered = h.stored.table.numbered;
          keys = record {
            distinct = λ q r k there here. valid.unique q r k there here;
            ascending = each_linked (λ q k. IsStrictlySortedBy nat_cmp (map (λ e. e.0) k.1))
                (sorted_codes v (get a.linked) h.stored.table.numbered u elements l h.one_partition.0 h.one_partition.1
                h.order h.up)
                h.stored.table.keys.ascending;
          };
          canonical = λ q k there settled. each_linked
              (λ q k. IsSettled (table_of v a m e g) k.0 →
              IsNodeOf (table_of v (record (inserted a n u l) { uses = w }) m e g) (2050 + q))
              (λ here.
              let made = made_new h.one_partition.0 h.one_partition.1 in
              let code : n + 2050 ≡ 2050 + n = omega arith in
              subst (IsNodeOf (table_of v (record (inserted a n u l) { uses = w }) m e g)) code
              (record { diagram = made.diagram; is = made.is }))
              (λ q k old here. known_kept (2050 + q) (h.stored.table.canonical q k old here))
              q k there settled;
          held = λ still root c there. known_kept c (h.stored.table.held still root c there);
          few_roots = h.stored.table.few_roots;
          either = valid.either;
          at_rest = λ still. h.stored.table.at_rest still;
          within = λ q k there. valid.numbered q k
              (key_again (get (insert a.linked n (u, l)) q) (get a.detached q) ∙ there);
          several = λ q k there. each_key (λ q k. 2 ≤ length k.1) two_pairs h.stored.table.several q k there;
          marked = λ q k there. valid.marked q k
              (key_again (get (insert a.linked n (u, l)) q) (get a.detached q) ∙ there);
          closed = λ q k there. each_key (λ q k. AreThere grown k.1) list_there
              (λ q k old. all_kept k.1 (h.stored.table.closed q k old)) q k there;
          closed_runs = λ start k there. all_kept k (h.stored.table.closed_runs start k there);
          closed_roots = λ root c there. there_kept c (h.stored.table.closed_roots root c there);
          several_runs = h.stored.table.several_runs;
          total = valid.total;
          records_fit = valid.records_fit;
          bounded = valid.bounded;
          bound_fits = h.stored.table.bound_fits;
        }

        -- how often each node is used
        new_uses : (q : ℕ) (k : ℕ × List (ℕ × ℕ)) → key_at grown q ≡ Some k →
            get w q ≡ Some (uses_of (table_of v (record (inserted a n u l) { uses = w }) m e g) (2050 + q))
        new_uses =
            each_key
            (λ q k. get w q ≡ Some (uses_of (table_of v (record (inserted a n u l) { uses = w }) m e g) (2050 + q)))
            (counts n ∙ ap (option_map (λ k. k + uses_in (2050 + n) l)) (get_insert_same a.uses n 0)
            ∙ ap Some (omega (arith, more n, unused)))
            (λ q k old.
            counts q ∙ ap (option_map (λ k. k + uses_in (2050 + q) l))
            (get_insert_other a.uses n 0 q (not_new q k old) ∙ h.stored.uses q k old)
            ∙ ap Some (omega (arith, more q)))
          where
            more : (q : ℕ) → uses_of (table_of v (record (inserted a n u l) { uses = w }) m e g) (2050 + q)
                ≡ uses_in (2050 + q) l + uses_of (table_of v a m e g) (2050 + q)
            more q =
                omega (
                  arith,
                  total_new (λ (k : ℕ × List (ℕ × ℕ)). uses_in (2050 + q) k.1) a.linked n (u, l) absent,
                )

            unused : uses_of (table_of v a m e g) (2050 + n) ≡ 0
            unused =
                not_used (table_of v a m e g) h.stored.table (2050 + n)
                (not_there (table_of v a m e g) h.stored.table.numbered n
                (sym (key_again (get a.linked n) (get a.detached n)) ∙ no_key))

        pub stored_new : IsStored (record (inserted a n u l) { uses = w })
            (table_of v (record (inserted a n u l) { uses = w }) m e g)
        stored_new = record {
          table = new_table;
          valid = valid;
          uses = new_uses;
        }

        -- all else is as before
        pub kept_new : Extends (table_of v a m e g) (table_of v (record (inserted a n u l) { uses = w }) m e g)
        kept_new = record {
          vtree = refl;
          nodes = keeps;
          marks = λ q k old. get_insert_other a.marks n 0 q
              (not_new q k (linked_key (table_of v a m e g) q k old));
          detached_marks = λ q k old. get_insert_other a.marks n 0 q
              (not_new q k (detached_key (table_of v a m e g) h.stored.table q k old));
          fresh = λ q none some.
              by_cases (λ same. ap (get (insert a.marks n 0)) same ∙ get_insert_same a.marks n 0)
              (λ ne.
              let bad = subst IsSome (get_insert_other a.linked n (u, l) q ne ∙ none) some in
              absurd (cc (bad)))
              (cases_eq q n);
          detached = refl;
          loose = refl;
          roots = refl;
          epoch = refl;
          bound = refl;
          moving = refl;
          records = omega arith;
          extent = grows (free_count a (length l));
        }
          where
            grows : (free : ℕ) → a.extent ≤ extent_after free a.extent (length l)
            grows zero = omega arith
            grows (suc k) = omega arith

        -- and one node was linked
        pub grown_new : (¬ IsFullOfNodes a (length l)) →
            HasNewNode (table_of v a m e g) (table_of v (record (inserted a n u l) { uses = w }) m e g) u elements
            (n + 2050)
        grown_new room = record {
          number = n;
          list = l;
          code = omega arith;
          absent = absent;
          order = h.order;
          linked = refl;
          mark = get_insert_same a.marks n 0;
          room = λ full.
              let same = length_permutation elements l h.order in
              room (subst (λ k. IsFull (table_of v a m e g) k) (sym same) full);
          new_number = of_nodes number;
          is = refl;
        }
          where
            -- the nodes' own word for a new number is the table's
            of_nodes : IsNewNumber a n → IsNewNumberOfTable (table_of v a m e g) n
            of_nodes (inl free) = inl (free.0, sym (key_again (get a.linked n) (get a.detached n)) ∙ free.1)
            of_nodes (inr end) =
                inr (
                  end.0,
                  λ q below. subst IsSome (key_again (get a.linked q) (get a.detached q)) (end.1 q below),
                )

      -- the new list is short
      pub new_short : (b : Nodes) → b ≡ inserted a n u l → IsNodes b → length l < 2 ^ 31
      new_short b is valid =
          let there : get b.linked n ≡ Some (u, l) = ap (λ x. get x.linked n) is ∙ linked_new in
          omega (
            arith,
            total_without (λ (k : ℕ × List (ℕ × ℕ)). length k.1) b.linked n (u, l) there,
            valid.total,
            valid.bounded,
            ap (λ x. x.bound) is,
            h.stored.table.bound_fits,
          )

      -- what holds of the nodes with the new one and its uses
      pub at_new : (b d : Nodes) → b ≡ inserted a n u l → AddsUses b d (λ c. uses_in c l) → IsNodes d →
          (P : Nodes → Type 0) →
          ((w : FinMap nat_cmp ℕ) →
          ((q : ℕ) → get w q ≡ option_map (λ k. k + uses_in (2050 + q) l) (get (insert a.uses n 0) q)) →
          IsNodes (record (inserted a n u l) { uses = w }) → P (record (inserted a n u l) { uses = w })) → P d
      at_new b d is adds valid P f =
          let with : Nodes → Nodes = λ x. record x { uses = d.uses } in
          let whole : d ≡ record (inserted a n u l) { uses = d.uses } = adds.rest ∙ ap with is in
          subst P (sym whole)
          (f d.uses (λ q. adds.uses q ∙ ap (λ x. option_map (λ k. k + uses_in (2050 + q) l) (get x.uses q)) is)
          (subst IsNodes whole valid))

-- a partition in a table that is the same
pub partition_inside : (s t : Table) (q p : ℕ) (l : List (ℕ × ℕ)) (ds : List (Diagram × Diagram)) → s ≡ t → q ≡ p →
    IsPartitionAt t p l ds → IsPartitionAt s q l ds
partition_inside s t q p l ds same at h =
    subst (λ x. IsPartitionAt x q l ds) (sym same) (subst (λ x. IsPartitionAt t x l ds) (sym at) h)

-- what is asked for, by the names of the code
pub asked : (v : Numbered) (a : Nodes) (m : FinMap nat_cmp ℕ) (e : ℕ) (g : Option ℕ) (t : Table) (u place : ℕ)
    (elements l items : List (ℕ × ℕ)) → IsStored a (table_of v a m e g) → table_of v a m e g ≡ t → u ≡ place →
    (ds : List (Diagram × Diagram)) × IsPartitionAt t place elements ds → AreDistinct (map (λ e. e.1) elements) →
    IsPermutation elements items → IsSorted pair_cmp items → l ≡ items → IsAsked v a m e g u elements l
asked v a m e g t u place elements l items stored same at some differ order up list = record {
  stored = stored;
  one_partition = (some.0, partition_inside (table_of v a m e g) t u place elements some.0 same at some.1);
  differ = differ;
  order = subst (λ x. IsPermutation elements x) (sym list) order;
  up = subst (λ x. IsSorted pair_cmp x) (sym list) up;
}

-- the same of two pairs, which the code has in ascending order beside the elements
pub asked_two : (v : Numbered) (a : Nodes) (m : FinMap nat_cmp ℕ) (e : ℕ) (g : Option ℕ) (t : Table) (u place : ℕ)
    (elements : List (ℕ × ℕ)) (first second : ℕ × ℕ) → IsStored a (table_of v a m e g) → table_of v a m e g ≡ t →
    u ≡ place → (ds : List (Diagram × Diagram)) × IsPartitionAt t place elements ds →
    AreDistinct (map (λ e. e.1) elements) → IsPermutation elements (first ∷ second ∷ []) → first.0 < second.0 →
    IsAsked v a m e g u elements (first ∷ second ∷ [])
asked_two v a m e g t u place elements first second stored same at some differ order up =
    let two : List (ℕ × ℕ) = first ∷ second ∷ [] in
    asked v a m e g t u place elements two two stored same at some differ order sorted refl
  where
    sorted : IsSorted pair_cmp (first ∷ second ∷ [])
    sorted zero d least most =
        ap (λ o. is_lt (ordering_then o (nat_cmp second.1 first.1))) (sym (nat_cmp_is second.0 first.0 Greater up))
    sorted (suc k) d least most = absurd (omega (arith, most))

-- two elements in the other order
pub turned_two : (l : List (ℕ × ℕ)) (x y p q : ℕ × ℕ) → 2 ≤ length l → length l < 3 → x ≡ get_or l 0 x →
    y ≡ get_or l 1 y → p ≡ x → q ≡ y → IsPermutation l (q ∷ p ∷ [])
turned_two [] x y p q least most first second one other = absurd (omega (arith, least))
turned_two (a ∷ []) x y p q least most first second one other = absurd (omega (arith, least))
turned_two (a ∷ b ∷ c ∷ l) x y p q least most first second one other = absurd (omega (arith, most))
turned_two (a ∷ b ∷ []) x y p q least most first second one other =
    subst (λ e. IsPermutation (a ∷ b ∷ []) (e ∷ p ∷ [])) (sym (other ∙ second))
    (subst (λ e. IsPermutation (a ∷ b ∷ []) (b ∷ e ∷ [])) (sym (one ∙ first))
    (IsPermutation-swap (a ∷ b ∷ []) (b ∷ a ∷ []) 0 1 (omega arith) (omega arith) refl))
