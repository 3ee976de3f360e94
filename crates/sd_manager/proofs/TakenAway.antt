-- A linked node without uses is removed before the uses of its list are dropped, or after: the nodes are the same.
use Rattle.std.proofs.Common.{◌≡◌, ◌≢◌, inl, inr, ℕ, ◌+◌, ◌-◌, ◌≤◌, List, [], ◌∷◌, Some, None, unwrap_or}
use Rattle.std.proofs.Common.{refl, sym, ap, subst, ◌∙◌, arith}
use Rattle.std.proofs.lemmas.Bool.{cases_eq}
use Rattle.std.specs.Option.{IsSome, option_map}
use Rattle.std.specs.FinMap.{get, insert, remove}
use Rattle.sd_runs.proofs.Maps.{same_at_each, get_insert_same, get_insert_other, get_remove_same, get_remove_other}
use Rattle.sd_runs.proofs.Places.{by_cases}
use Rattle.sd_laws.specs.Values.{StandsIn}
use Rattle.sd_unique.specs.Nodes.{Nodes, key_at, or_else}
use Rattle.sd_unique.specs.Relinking.{IsIdle, unlinked, removed}
use Rattle.sd_manager.specs.Table.{uses_in}
use Rattle.sd_manager.specs.Counting.{IsCounted, AreCounted, DropsUses, list_at}
use Rattle.sd_manager.specs.Leaving.{MayLeave, HasLeft}
use Rattle.sd_manager.proofs.Holding.{some_value}

-- a linked node has its key, and the list of that
pub linked_list : (a : Nodes) (n : ℕ) (k : ℕ × List (ℕ × ℕ)) → get a.linked n ≡ Some k → list_at a n ≡ k.1
linked_list a n k at =
    ap (λ o. unwrap_or (option_map (λ (k : ℕ × List (ℕ × ℕ)). k.1) (or_else o (get a.detached n))) []) at

-- each other node keeps its key where one is removed
pub others_kept : (a : Nodes) (n : ℕ) (k : ℕ × List (ℕ × ℕ)) (q : ℕ) → q ≢ n →
    key_at (removed (unlinked a n k) n k.1) q ≡ key_at a q
others_kept a n k q ne =
    ap (λ o. or_else o (get (remove (insert a.detached n k) n) q)) (get_remove_other a.linked n q ne)
    ∙ ap (or_else (get a.linked q))
    (get_remove_other (insert a.detached n k) n q ne ∙ get_insert_other a.detached n k q ne)

module _ (a : Nodes) (n : ℕ) (may : MayLeave a n) where
  key : (k : ℕ × List (ℕ × ℕ)) × (get a.linked n ≡ Some k)
  key = some_value (get a.linked n) may.idle.linked

  -- removed first

  module _ (b : Nodes) (gone : (k : ℕ × List (ℕ × ℕ)) → get a.linked n ≡ Some k → b ≡ removed (unlinked a n k) n k.1)
    where
      gone_is : b ≡ removed (unlinked a n key.0) n key.0.1
      gone_is = gone key.0 key.1

      -- a code that is not that of the node is counted still
      one_counted : (c : ℕ) → ¬ (c ≡ 2050 + n) → IsCounted a c → IsCounted b c
      one_counted c ne h least =
          let other : c - 2050 ≢ n = λ same. ne (omega (arith, least, same)) in
          subst IsSome (sym (ap (λ x. key_at x (c - 2050)) gone_is ∙ others_kept a n key.0 (c - 2050) other)) (h least)

      all_counted : (l : List (ℕ × ℕ)) → ¬ StandsIn (2050 + n) l → AreCounted a l → AreCounted b l
      all_counted [] none h = tt
      all_counted (e ∷ l) none h = (
        (one_counted e.0 (λ same. none (inl same)) h.0.0, one_counted e.1 (λ same. none (inr (inl same))) h.0.1),
        all_counted l (λ stands. none (inr (inr stands))) h.1,
      )

      -- and so are the codes of its list
      pub gone_counted : AreCounted b (list_at a n)
      gone_counted = all_counted (list_at a n) may.alone may.counted

      uses_gone : (q : ℕ) → get b.uses q ≡ get (remove a.uses n) q
      uses_gone q = ap (λ x. get x.uses q) gone_is

      -- each is used as often as it stands there
      pub gone_used : (q k : ℕ) → get b.uses q ≡ Some k → uses_in (2050 + q) (list_at a n) ≤ k
      gone_used q k is =
          by_cases
          (λ same.
          let bad : None ≡ Some k =
          sym (get_remove_same a.uses n) ∙ ap (get (remove a.uses n)) (sym same) ∙ sym (uses_gone q) ∙ is in
          absurd (cc))
          (λ ne. may.used q k (sym (get_remove_other a.uses n q ne) ∙ sym (uses_gone q) ∙ is))
          (cases_eq q n)

      module _ (d : Nodes) (drops : DropsUses b d (λ c. uses_in c (list_at a n))) where
        -- the node has no count then
        same_uses : remove (insert d.uses n 0) n ≡ d.uses
        same_uses =
            same_at_each _ _ (λ q. by_cases
            (λ same.
            ap (get (remove (insert d.uses n 0) n)) same ∙ get_remove_same (insert d.uses n 0) n
            ∙ sym (ap (get d.uses) same ∙ drops.uses n
            ∙ ap (option_map (λ k. k - uses_in (2050 + n) (list_at a n))) (uses_gone n ∙ get_remove_same a.uses n)))
            (λ ne. get_remove_other (insert d.uses n 0) n q ne ∙ get_insert_other d.uses n 0 q ne)
            (cases_eq q n))

        -- the uses might have been dropped before
        before : DropsUses a (record a { uses = insert d.uses n 0 }) (λ c. uses_in c (list_at a n))
        before = record {
          rest = refl;
          uses = λ q. by_cases
              (λ same.
              ap (get (insert d.uses n 0)) same ∙ get_insert_same d.uses n 0
              ∙ ap Some (omega arith)
              ∙ ap (option_map (λ k. k - uses_in (2050 + q) (list_at a n))) (sym (ap (get a.uses) same
              ∙ may.idle.unused)))
              (λ ne.
              get_insert_other d.uses n 0 q ne ∙ drops.uses q
              ∙ ap (option_map (λ k. k - uses_in (2050 + q) (list_at a n)))
              (uses_gone q ∙ get_remove_other a.uses n q ne))
              (cases_eq q n);
        }

        pub left_first : (k : ℕ × List (ℕ × ℕ)) → get a.linked n ≡ Some k → HasLeft a d n k
        left_first k at = record {
          dropped = record a { uses = insert d.uses n 0 };
          drops = subst (λ l. DropsUses a (record a { uses = insert d.uses n 0 }) (λ c. uses_in c l))
              (linked_list a n k at) before;
          is = drops.rest ∙ ap (λ (x : Nodes). record x { uses = d.uses }) (gone k at)
              ∙ ap (λ u. record (removed (unlinked a n k) n k.1) { uses = u }) (sym same_uses);
        }

  -- removed afterwards

  module _ (b : Nodes) (drops : DropsUses a b (λ c. uses_in c (list_at a n))) where
    pub idle_still : IsIdle b n
    idle_still = record {
      linked = subst (λ x. IsSome (get x.linked n)) (sym drops.rest) may.idle.linked;
      unused = drops.uses n
          ∙ ap (option_map (λ k. k - uses_in (2050 + n) (list_at a n))) may.idle.unused
          ∙ ap Some (omega arith);
    }

    pub left_last : (d : Nodes) →
        ((k : ℕ × List (ℕ × ℕ)) → get b.linked n ≡ Some k → d ≡ removed (unlinked b n k) n k.1) →
        (k : ℕ × List (ℕ × ℕ)) → get a.linked n ≡ Some k → HasLeft a d n k
    left_last d gone k at = record {
      dropped = b;
      drops = subst (λ l. DropsUses a b (λ c. uses_in c l)) (linked_list a n k at) drops;
      is = gone k (ap (λ x. get x.linked n) drops.rest ∙ at);
    }
