-- The code of a node without uses stands in the list of no linked node, and the subs of two pairs are counted.
use Rattle.std.proofs.Common.{◌≡◌, ℕ, ◌+◌, ◌-◌, List, [], ◌∷◌, Option, sym, subst, arith}
use Rattle.std.specs.Ordering.{nat_cmp}
use Rattle.std.specs.FinMap.{FinMap, get}
use Rattle.sd_vtree.specs.Numbered.{Numbered}
use Rattle.sd_unique.specs.Nodes.{Nodes}
use Rattle.sd_manager.specs.Table.{uses_of}
use Rattle.sd_manager.specs.Stored.{table_of, IsStored}
use Rattle.sd_manager.specs.Counting.{IsCounted, AreNamesUsed}
use Rattle.sd_manager.proofs.Holding.{count_is, there_counted}
use Rattle.sd_manager.proofs.Linking.{IsAsked, pairs_there}
use Rattle.sd_manager.proofs.Unused.{not_in_linked}
use Rattle.sd_laws.proofs.Nodes.{partition_permuted}

module _ (v : Numbered) (a : Nodes) (m : FinMap nat_cmp ℕ) (e : ℕ) (g : Option ℕ) where
  -- the uses of a manager are whole
  pub names_used : IsStored a (table_of v a m e g) → AreNamesUsed a
  names_used stored = record {
    each = λ c none.
        let count = count_is v a m e g stored (c - 2050) 0 none.1 in
        let back : 2050 + (c - 2050) ≡ c = omega (arith, none.0) in
        not_in_linked (table_of v a m e g) c (subst (λ d. uses_of (table_of v a m e g) d ≡ 0) back (sym count));
  }

  -- the subs of two pairs that are asked for are counted
  pub subs_counted : (u : ℕ) (first second : ℕ × ℕ) (elements : List (ℕ × ℕ)) →
      IsAsked v a m e g u elements (first ∷ second ∷ []) → IsCounted a first.1 × IsCounted a second.1
  subs_counted u first second elements h =
      let numbered = h.stored.table.numbered in
      let f = partition_permuted v (get a.linked) u elements (first ∷ second ∷ []) h.one_partition.0
      h.one_partition.1 h.order in
      let there = pairs_there (table_of v a m e g) numbered (first ∷ second ∷ []) f.0 f.2.shown in
      (there_counted v a m e g first.1 numbered there.0.1, there_counted v a m e g second.1 numbered there.1.0.1)
