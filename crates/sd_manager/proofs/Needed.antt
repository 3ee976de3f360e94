-- Where the sorted pairs are not trimmed and no node has them, no node has the value of the partition.
use Rattle.std.proofs.Common.{◌≡◌, ◌⊎◌, inl, inr, ℕ, ◌+◌, List, map, Option, Some, None}
use Rattle.std.proofs.Common.{unwrap_or, refl, sym, ap, subst, ◌∙◌, arith}
use Rattle.std.proofs.lemmas.Bool.{cases_eq}
use Rattle.std.specs.List.Sorted.{IsStrictlySortedBy}
use Rattle.std.specs.Ordering.{nat_cmp}
use Rattle.std.specs.FinMap.{FinMap, get, insert}
use Rattle.sd_runs.proofs.Maps.{get_insert_same, get_insert_other}
use Rattle.sd_runs.proofs.Places.{by_cases}
use Rattle.sd_runs.specs.declared.error.TakeError.{TakeError}
use Rattle.sd_runs.specs.declared.error.TakeError.TheVariants.{ArenaFull, OutOfMemory}
use Rattle.sd_model.specs.Diagram.{Diagram, meaning}
use Rattle.sd_model.proofs.OverVtree.{unique_lem}
use Rattle.sd_vtree.specs.Numbered.{Numbered, plain_tree}
use Rattle.sd_unique.specs.Nodes.{Nodes}
use Rattle.sd_laws.specs.Shown.{Shows, Keeps, AreKeys}
use Rattle.sd_laws.specs.Trimming.{trim_of}
use Rattle.sd_laws.proofs.Codes.{shows_kept, one_code}
use Rattle.sd_laws.proofs.Joining.{same_values}
use Rattle.sd_laws.proofs.Made.{made_node, sorted_codes}
use Rattle.sd_manager.specs.Table.{key_at}
use Rattle.sd_manager.specs.Shown.{IsPartitionAt, HasNode}
use Rattle.sd_manager.specs.Making.{IsMade, IsNeeded}
use Rattle.sd_manager.specs.Stored.{table_of}
use Rattle.sd_manager.proofs.Holding.{some_value}
use Rattle.sd_manager.proofs.Linking.{IsAsked}
use Rattle.sd_manager.proofs.Reading.{linked_key, shown_has_node, node_of_code}

module _ (v : Numbered) (a : Nodes) (m : FinMap nat_cmp ℕ) (e : ℕ) (g : Option ℕ) (u : ℕ)
    (elements l : List (ℕ × ℕ))
    (h : IsAsked v a m e g u elements l) where
  -- no linked node has the number that comes after those of all records
  past_end : get a.linked a.records ≡ None
  past_end = go (get a.linked a.records) refl
    where
      go : (o : Option (ℕ × List (ℕ × ℕ))) → get a.linked a.records ≡ o → o ≡ None
      go None is = refl
      go (Some k) is =
          absurd (omega (arith, h.stored.table.within a.records k (linked_key (table_of v a m e g) a.records k is)))

  -- the nodes with one more that has the list
  abbrev more : FinMap nat_cmp (ℕ × List (ℕ × ℕ))
  more = insert a.linked a.records (u, l)

  has_list : get more a.records ≡ Some (u, l)
  has_list = get_insert_same a.linked a.records (u, l)

  others : Keeps (get a.linked) (get more)
  others q k there =
      by_cases
      (λ same. let none : None ≡ Some k = sym past_end ∙ ap (get a.linked) (sym same) ∙ there in absurd (cc))
      (λ ne. get_insert_other a.linked a.records (u, l) q ne ∙ there)
      (cases_eq q a.records)

  -- each of them is the one more or stood there
  either_key : (q : ℕ) (k : ℕ × List (ℕ × ℕ)) → get more q ≡ Some k →
      ((q ≡ a.records) × ((u, l) ≡ k)) ⊎ (get a.linked q ≡ Some k)
  either_key q k there =
      by_cases
      (λ same.
      let both : Some (u, l) ≡ Some k = sym has_list ∙ ap (get more) (sym same) ∙ there in
      inl (same, ap (λ o. unwrap_or o (u, l)) both))
      (λ ne. inr (sym (get_insert_other a.linked a.records (u, l) q ne) ∙ there))
      (cases_eq q a.records)

  module _ (none : trim_of l ≡ None) (unfound : (n : ℕ) → ¬ (get a.linked n ≡ Some (u, l))) where
    keys_more : AreKeys (get more)
    keys_more = record {
      distinct = λ n q k here there. alone n q k (either_key n k here) (either_key q k there);
      ascending = λ n k here. up n k (either_key n k here);
    }
      where
        alone : (n q : ℕ) (k : ℕ × List (ℕ × ℕ)) → ((n ≡ a.records) × ((u, l) ≡ k)) ⊎ (get a.linked n ≡ Some k) →
            ((q ≡ a.records) × ((u, l) ≡ k)) ⊎ (get a.linked q ≡ Some k) → n ≡ q
        alone n q k (inl x) (inl y) = x.0 ∙ sym y.0
        alone n q k (inl x) (inr y) = absurd (unfound q (y ∙ ap Some (sym x.1)))
        alone n q k (inr x) (inl y) = absurd (unfound n (x ∙ ap Some (sym y.1)))
        alone n q k (inr x) (inr y) = h.stored.table.keys.distinct n q k x y

        up : (n : ℕ) (k : ℕ × List (ℕ × ℕ)) → ((n ≡ a.records) × ((u, l) ≡ k)) ⊎ (get a.linked n ≡ Some k) →
            IsStrictlySortedBy nat_cmp (map (λ e. e.0) k.1)
        up n k (inl x) =
            subst (λ (r : ℕ × List (ℕ × ℕ)). IsStrictlySortedBy nat_cmp (map (λ e. e.0) r.1)) x.1
            (sorted_codes v (get a.linked) h.stored.table.numbered u elements l h.one_partition.0 h.one_partition.1
            h.order h.up)
        up n k (inr x) = h.stored.table.keys.ascending n k x

    -- a code that has the value is that of the one more, which is not there
    pub no_node : (c : ℕ) (ds : List (Diagram × Diagram)) → IsPartitionAt (table_of v a m e g) u elements ds →
        ¬ (IsMade (table_of v a m e g) c ds)
    no_node c ds partition made =
        let z = made_node v (get a.linked) (get more) h.stored.table.numbered h.stored.table.keys u a.records
        elements l ds partition h.order h.differ none others has_list in
        let same : made.diagram ≡ z.0 =
        unique_lem (plain_tree v) made.diagram z.0 h.stored.table.numbered.vtree made.is.canonical z.1.canonical
        (λ assignment fits. same_values ds (meaning made.diagram) (meaning z.0) made.value z.2 assignment) in
        let code : c ≡ 2050 + a.records =
        one_code v (get more) keys_more z.0 c (2050 + a.records)
        (subst (λ d. Shows v (get more) c d) same
        (shows_kept v (get a.linked) (get more) others made.diagram c made.is.shows)) z.1.shows in
        let there : HasNode (table_of v a m e g) c =
        shown_has_node (table_of v a m e g) h.stored.table.numbered c made.diagram made.is.shows in
        let key = some_value (key_at (table_of v a m e g) a.records)
        (node_of_code (table_of v a m e g) h.stored.table.numbered a.records
        (subst (HasNode (table_of v a m e g)) code there)) in
        absurd (omega (arith, h.stored.table.within a.records key.0 key.1))

    -- so a full arena is answered only where a node is needed
    pub needed : (error : TakeError) → IsNeeded (table_of v a m e g) u elements error
    needed (ArenaFull n) = no_node
    needed OutOfMemory = tt
