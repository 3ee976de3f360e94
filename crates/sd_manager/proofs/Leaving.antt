-- A node that nothing uses has left the nodes with the uses of its list: what stays, and that the counts are right.
use Rattle.std.proofs.Common.{◌≡◌, ◌≢◌, ℕ, ◌+◌, ◌≤◌, false, List, Option, Some, sym, ap, subst, ◌∙◌, arith}
use Rattle.std.specs.Ordering.{nat_cmp}
use Rattle.std.specs.FinMap.{FinMap, get}
use Rattle.sd_vtree.specs.Numbered.{Numbered}
use Rattle.sd_laws.specs.Values.{StandsIn}
use Rattle.sd_unique.specs.Nodes.{Nodes, IsNodes, key_at}
use Rattle.sd_unique.specs.Relinking.{unlinked, removed}
use Rattle.sd_counts.specs.Counts.{Counts, counted_at}
use Rattle.sd_counts.specs.Right.{AreOf}
use Rattle.sd_manager.specs.Table.{uses_in}
use Rattle.sd_manager.specs.Counting.{AreCounted}
use Rattle.sd_manager.specs.Stored.{table_of, IsStored}
use Rattle.sd_manager.specs.Moving.{next_epoch}
use Rattle.sd_manager.specs.Retiring.{IsIdle, IsRetired}
use Rattle.sd_manager.specs.Leaving.{MayLeave, HasLeft}
use Rattle.sd_manager.proofs.CountsKept.{counts_but_one}
use Rattle.sd_manager.proofs.Holding.{some_value}
use Rattle.sd_manager.proofs.Retired.{idle_of_table, retiring_counted, retiring_used, retired_is, retired_stored}
use Rattle.sd_manager.proofs.TakenAway.{linked_list, others_kept}
use Rattle.sd_manager.proofs.Unused.{not_in_linked}

module _ (v : Numbered) (a : Nodes) (m : FinMap nat_cmp ℕ) (e : ℕ) (g : Option ℕ)
    (stored : IsStored a (table_of v a m e g)) (n : ℕ) (idle : IsIdle (table_of v a m e g) n) where
  -- the node has a key
  key : (k : ℕ × List (ℕ × ℕ)) × (get a.linked n ≡ Some k)
  key = some_value (get a.linked n) idle.linked

  -- it may leave
  pub may_leave : MayLeave a n
  may_leave =
      let list = sym (linked_list a n key.0 key.1) in
      record {
        idle = idle_of_table v a m e g stored n idle;
        alone = subst (λ l. ¬ StandsIn (2050 + n) l) list
            (not_in_linked (table_of v a m e g) (2050 + n) idle.unused n key.0 key.1);
        counted = subst (AreCounted a) list (retiring_counted v a m e g stored n key.0.0 key.0.1 key.1);
        used = subst (λ l. (q k : ℕ) → get a.uses q ≡ Some k → uses_in (2050 + q) l ≤ k) list
            (retiring_used v a m e g stored n key.0.0 key.0.1 key.1);
      }

  module _ (f : Nodes) (left : (k : ℕ × List (ℕ × ℕ)) → get a.linked n ≡ Some k → HasLeft a f n k) (valid : IsNodes f)
    where
      has : HasLeft a f n key.0
      has = left key.0 key.1

      -- the nodes before, but for their uses
      others : (q : ℕ) → q ≢ n → key_at f q ≡ key_at a q
      others q ne =
          ap (λ x. key_at x q) (has.is ∙ ap (λ x. removed (unlinked x n key.0) n key.0.1) has.drops.rest)
          ∙ others_kept a n key.0 q ne

      -- where the node was not counted, and not held, the counts are right
      pub left_counts : (held : ℕ → ℕ) (w : Counts) → AreOf a held w → counted_at w n ≡ false → held n ≡ 0 →
          AreOf f held w
      left_counts held w of off free =
          counts_but_one a f held w n of off free others
          (omega (arith, of.room, ap (λ x. x.records) has.is, ap (λ x. x.records) has.drops.rest))

      module _ (late : ℕ) (next : late ≡ next_epoch e) where
        -- the manager is kept as it was
        pub left_stored : IsStored f (table_of v f m late g)
        left_stored =
            subst (λ x. IsStored f (table_of v f m x g)) (sym next)
            (retired_stored v a m e g stored n key.0.0 key.0.1 key.1 idle.unused has.dropped has.drops f has.is valid)

        -- and the node was taken away
        pub left_retired : IsRetired (table_of v a m e g) (table_of v f m late g) n
        left_retired = record {
          place = key.0.0;
          list = key.0.1;
          was = key.1;
          is = ap (λ x. table_of v f m x g) next
              ∙ retired_is v a m e g stored n key.0.0 key.0.1 key.1 idle.unused has.dropped has.drops f has.is valid;
        }
