-- A detached node gets another place and is linked again, step by step.
use Rattle.std.proofs.Common.{◌≡◌, ℕ, ◌+◌, List, Option, Some, unwrap_or, refl, sym, ap, subst, ◌∙◌, arith}
use Rattle.std.proofs.lemmas.Bool.{cases_eq}
use Rattle.std.specs.Option.{IsSome}
use Rattle.std.specs.Ordering.{nat_cmp}
use Rattle.std.specs.FinMap.{FinMap, get, insert, remove}
use Rattle.sd_runs.proofs.Maps.{same_at_each, get_insert_same, get_insert_other, get_remove_same, get_remove_other}
use Rattle.sd_runs.proofs.Places.{by_cases}
use Rattle.sd_vtree.specs.Numbered.{Numbered}
use Rattle.sd_unique.specs.Nodes.{Nodes, IsNodes}
use Rattle.sd_unique.specs.Relinking.{relinked, with_key, IsAbsent as IsAbsentKey}
use Rattle.sd_manager.specs.Table.{Table, key_at, uses_of}
use Rattle.sd_manager.specs.Valid.{IsTable, total_length}
use Rattle.sd_manager.specs.Moving.{FitsNode, IsAscending, IsAbsent, linked_under}
use Rattle.sd_manager.specs.Stored.{table_of, IsStored}
use Rattle.sd_manager.proofs.Holding.{some_value}
use Rattle.sd_manager.proofs.LinkedUnder.{linked_table, key_split, uses_linked}
use Rattle.sd_manager.proofs.Reading.{detached_key}

-- an entry that was exchanged and taken away is taken away
pub remove_insert : {X : Type 0} (m : FinMap nat_cmp X) (n : ℕ) (x : X) → remove (insert m n x) n ≡ remove m n
remove_insert m n x =
    same_at_each _ _ (λ q. by_cases
    (λ same.
    ap (get (remove (insert m n x) n)) same ∙ get_remove_same (insert m n x) n
    ∙ sym (ap (get (remove m n)) same ∙ get_remove_same m n))
    (λ ne. get_remove_other (insert m n x) n q ne ∙ get_insert_other m n x q ne ∙ sym (get_remove_other m n q ne))
    (cases_eq q n))

-- what is asked for before a detached node gets the place and is linked again
pub record MayRetag (t : Table) (n place : ℕ) : Type 0 where
  pub former : ℕ × List (ℕ × ℕ)
  pub was : get t.detached n ≡ Some former
  pub fits : FitsNode t place former.1
  pub ascending : IsAscending former.1
  pub absent : IsAbsent t place former.1

-- it holds of the table that a manager stands for where it holds of what is seen
pub may_retag : (t u : Table) (n p q : ℕ) → t ≡ u → p ≡ q → IsSome (get u.detached n) →
    ((k : ℕ × List (ℕ × ℕ)) → get u.detached n ≡ Some k → FitsNode u q k.1 × IsAscending k.1) →
    ((k : ℕ × List (ℕ × ℕ)) → get u.detached n ≡ Some k → IsAbsent u q k.1) → MayRetag t n p
may_retag t u n p q same at detached fits absent =
    let k = some_value (get u.detached n) detached in
    subst (λ x. MayRetag x n p) (sym same)
    (subst (MayRetag u n) (sym at) (record {
      former = k.0;
      was = k.1;
      fits = (fits k.0 k.1).0;
      ascending = (fits k.0 k.1).1;
      absent = absent k.0 k.1;
    }))

module _ (v : Numbered) (a : Nodes) (m : FinMap nat_cmp ℕ) (e : ℕ) (g : Option ℕ)
    (stored : IsStored a (table_of v a m e g)) (n place : ℕ) (may : MayRetag (table_of v a m e g) n place) (b : Nodes)
    (tagged : (k : ℕ × List (ℕ × ℕ)) → get a.detached n ≡ Some k → b ≡ with_key a n (place, k.1)) where
  -- the node has its list at the new place
  tagged_is : get b.detached n ≡ Some (place, may.former.1)
  tagged_is =
      ap (λ x. get x.detached n) (tagged may.former may.was)
      ∙ get_insert_same a.detached n (place, may.former.1)

  pub tagged_detached : IsSome (get b.detached n)
  tagged_detached = subst IsSome (sym tagged_is) refl

  -- no linked node has its new key
  pub tagged_absent : (k : ℕ × List (ℕ × ℕ)) → get b.detached n ≡ Some k → IsAbsentKey b k
  tagged_absent k is =
      let both : Some (place, may.former.1) ≡ Some k = sym tagged_is ∙ is in
      let same : (place, may.former.1) ≡ k = ap (λ o. unwrap_or o (place, may.former.1)) both in
      let nodes : IsAbsentKey a (place, may.former.1) = may.absent in
      subst (IsAbsentKey b) same
      (subst (λ x. IsAbsentKey x (place, may.former.1)) (sym (tagged may.former may.was)) nodes)

  module _ (d : Nodes) (linked : (k : ℕ × List (ℕ × ℕ)) → get b.detached n ≡ Some k → d ≡ relinked b n k) where
    -- the nodes afterwards
    nodes_is : d ≡ record (relinked a n (place, may.former.1)) {
      detached = remove (insert a.detached n (place, may.former.1)) n;
    }
    nodes_is =
        linked (place, may.former.1) tagged_is
        ∙ ap (λ x. relinked x n (place, may.former.1)) (tagged may.former may.was)

    -- the table is that with the node linked
    retagged : table_of v d m e g ≡ linked_under (table_of v a m e g) n (place, may.former.1)
    retagged =
        ap (λ x. table_of v x m e g) nodes_is
        ∙ ap (λ x. record (linked_under (table_of v a m e g) n (place, may.former.1)) { detached = x })
        (remove_insert a.detached n (place, may.former.1))

    pub retagged_is : (t : Table) (q : ℕ) → table_of v a m e g ≡ t → place ≡ q → (k : ℕ × List (ℕ × ℕ)) →
        get t.detached n ≡ Some k → table_of v d m e g ≡ linked_under t n (q, k.1)
    retagged_is t q same at k was =
        let both : Some may.former ≡ Some k = sym may.was ∙ ap (λ x. get x.detached n) same ∙ was in
        let key : may.former ≡ k = ap (λ o. unwrap_or o may.former) both in
        retagged ∙ ap (λ x. linked_under x n (place, may.former.1)) same
        ∙ ap (λ (x : ℕ × List (ℕ × ℕ)). linked_under t n (place, x.1)) key
        ∙ ap (λ x. linked_under t n (x, k.1)) at

    module _ (valid : IsNodes d) where
      -- the table is valid
      retagged_table : IsTable (linked_under (table_of v a m e g) n (place, may.former.1))
      retagged_table =
          let i = stored.table in
          linked_table (table_of v a m e g) i n place may.former may.former.1 may.was may.fits may.ascending may.absent
          a.loose a.free a.extent
          (λ start l there. (i.closed_runs start l there, i.several_runs start l there))
          (omega (arith, valid.total, ap total_length retagged, ap (λ x. x.extent) nodes_is))
          i.records_fit i.bounded

      -- the manager is kept as it was
      pub retagged_stored : IsStored d (table_of v d m e g)
      retagged_stored = record {
        table = subst IsTable (sym retagged) retagged_table;
        valid = valid;
        uses = λ q k here.
            let c : ℕ = 2050 + q in
            let more =
            uses_linked (table_of v a m e g) stored.table n may.former may.was (place, may.former.1) c in
            let same : uses_of (table_of v a m e g) c ≡ uses_of (table_of v d m e g) c =
            omega (arith, more, ap (λ x. uses_of x c) retagged) in
            ap (λ x. get x.uses q) nodes_is ∙ before q k (sym (ap (λ x. key_at x q) retagged) ∙ here)
            ∙ ap Some same;
      }
        where
          before : (q : ℕ) (k : ℕ × List (ℕ × ℕ)) →
              key_at (linked_under (table_of v a m e g) n (place, may.former.1)) q ≡ Some k →
              get a.uses q ≡ Some (uses_of (table_of v a m e g) (2050 + q))
          before q k here =
              by_cases
              (λ own. subst (λ r. get a.uses r ≡ Some (uses_of (table_of v a m e g) (2050 + r))) (sym own.0)
              (stored.uses n may.former
              (detached_key (table_of v a m e g) stored.table n may.former may.was)))
              (λ other. stored.uses q k other.1)
              (key_split (table_of v a m e g) stored.table n may.former may.was (place, may.former.1) q k here)
