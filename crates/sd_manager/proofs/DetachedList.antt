-- The list of a detached node: its codes are counted, and used as often as they stand there.
use Rattle.std.proofs.Common.{◌≡◌, ℕ, ◌+◌, ◌≤◌, List, [], Option, Some, unwrap_or, refl, sym, ap, subst, ◌∙◌, arith}
use Rattle.std.specs.Option.{IsSome, option_map}
use Rattle.std.specs.Ordering.{nat_cmp}
use Rattle.std.specs.FinMap.{FinMap, get}
use Rattle.sd_vtree.specs.Numbered.{Numbered}
use Rattle.sd_unique.specs.Nodes.{Nodes, key_at as key_of_nodes}
use Rattle.sd_manager.specs.Table.{uses_in}
use Rattle.sd_manager.specs.Counting.{AreCounted, DropsUses, list_at}
use Rattle.sd_manager.specs.Stored.{table_of, IsStored}
use Rattle.sd_manager.proofs.GivenBack.{list_counted}
use Rattle.sd_manager.proofs.Holding.{count_is}
use Rattle.sd_manager.proofs.Reading.{detached_key, key_again}
use Rattle.sd_manager.proofs.Totals.{total_without}

module _ (v : Numbered) (a : Nodes) (m : FinMap nat_cmp ℕ) (e : ℕ) (g : Option ℕ)
    (stored : IsStored a (table_of v a m e g)) (n : ℕ) (former : ℕ × List (ℕ × ℕ))
    (was : get a.detached n ≡ Some former) where
  -- the node has a key
  key_of_node : key_of_nodes a n ≡ Some former
  key_of_node =
      key_again (get a.linked n) (get a.detached n) ∙ detached_key (table_of v a m e g) stored.table n former was

  pub detached_node : IsSome (key_of_nodes a n)
  detached_node = subst IsSome (sym key_of_node) refl

  -- and its list is that of the key
  pub detached_list : list_at a n ≡ former.1
  detached_list = ap (λ o. unwrap_or (option_map (λ (k : ℕ × List (ℕ × ℕ)). k.1) o) []) key_of_node

  -- the codes of its list are counted
  pub detached_counted : AreCounted a (list_at a n)
  detached_counted =
      subst (AreCounted a) (sym detached_list)
      (list_counted v a m e g stored former.1
      (stored.table.closed n former (detached_key (table_of v a m e g) stored.table n former was)))

  -- and each is used as often as it stands there, or more
  pub detached_used : (q k : ℕ) → get a.uses q ≡ Some k → uses_in (2050 + q) (list_at a n) ≤ k
  detached_used q k at =
      subst (λ l. uses_in (2050 + q) l ≤ k) (sym detached_list)
      (omega (
        arith,
        count_is v a m e g stored q k at,
        total_without (λ (k : ℕ × List (ℕ × ℕ)). uses_in (2050 + q) k.1) a.detached n former was,
      ))

  -- what was dropped along its list
  pub detached_drops : (b : Nodes) → DropsUses a b (λ c. uses_in c (list_at a n)) →
      DropsUses a b (λ c. uses_in c former.1)
  detached_drops b drops = subst (λ l. DropsUses a b (λ c. uses_in c l)) detached_list drops
