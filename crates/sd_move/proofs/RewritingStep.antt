-- One node that waits is rewritten: its list is made, then it is linked.
use Rattle.std.proofs.Common.{◌≡◌, ◌≢◌, ◌⊎◌, inl, inr, ℕ, zero, suc, ◌+◌, ◌-◌, ◌≤◌, List, [], ◌∷◌, map, length, Option}
use Rattle.std.proofs.Common.{Some, None, Result, Ok, Err, IfOk, OnOk, OnErr}
use Rattle.std.proofs.Common.{refl, sym, ◌∙◌, ap, subst, arith}
use Rattle.std.specs.List.Sorted.{IsPermutation}
use Rattle.std.specs.Option.{IsSome}
use Rattle.std.specs.FinMap.{get, insert, remove}
use Rattle.std.proofs.lemmas.Bool.{cases_eq}
use Rattle.std.proofs.lemmas.Option.{none-some, same_Some}
use Rattle.sd_model.specs.Tree.{AreDistinct}
use Rattle.sd_vtree.specs.Numbered.{or_else}
use Rattle.sd_runs.proofs.Maps.{get_insert_same, get_insert_other, get_remove_same, get_remove_other}
use Rattle.sd_laws.specs.Values.{Valuation, IsSame, pairs_value}
use Rattle.sd_laws.proofs.Evaluated.{value_of}
use Rattle.sd_unique.specs.Inserting.{with_count, extent_after}
use Rattle.sd_manager.specs.Table.{Table, key_at, free_count}
use Rattle.sd_manager.specs.Making.{Extends}
use Rattle.sd_manager.specs.Valid.{IsTable}
use Rattle.sd_manager.specs.Views.{pairs_at}
use Rattle.sd_manager.specs.Moving.{FitsNode, IsAscending, IsAbsent, IsRewritten}
use Rattle.sd_manager.proofs.Reading.{linked_key, detached_key}
use Rattle.sd_apply.specs.Growing.{GrowsStrictlyBelow}
use Rattle.sd_apply.specs.Partitions.{IsPartitionOf}
use Rattle.sd_move.specs.Moving.{Progress, HasNumber}
use Rattle.sd_move.specs.Rewriting.{AreRewritten, CanRewriteAll, GoesOn}
use Rattle.sd_move.proofs.GrownOn.{values_after}
use Rattle.sd_move.proofs.GrownStrictly.{values_kept, rewrite_after}
use Rattle.sd_move.proofs.LinkedOn.{linked_with, still_there}
use Rattle.sd_move.proofs.RewrittenAll.{rewritten_both, grown_rewritten}
use Rattle.sd_move.proofs.RewrittenOne.{list_value, fits_one, absent_one, progress_after, rewritten_one}

-- the node is linked

-- the arena does not shrink
extent_grows : (k e n : ℕ) → e ≤ extent_after k e n
extent_grows zero e n = omega arith
extent_grows (suc k) e n = omega arith

-- a node of the old table is one of the new one where it stays linked or detached
stays_there : (a b : Table) → ((n : ℕ) (k : ℕ × List (ℕ × ℕ)) → get a.linked n ≡ Some k → get b.linked n ≡ Some k) →
    (n : ℕ) → get b.detached n ≡ get a.detached n → HasNumber a n → HasNumber b n
stays_there a b keeps n same is = go (get a.linked n) refl (get b.linked n) refl
  where
    go : (o : Option (ℕ × List (ℕ × ℕ))) → get a.linked n ≡ o → (p : Option (ℕ × List (ℕ × ℕ))) →
        get b.linked n ≡ p → HasNumber b n
    go o f (Some k) g = subst IsSome (sym (linked_key b n k g)) refl
    go (Some k) f None g = absurd (none-some k (sym g ∙ keeps n k f))
    go None f None g =
        subst IsSome (sym (ap (λ p. or_else p (get b.detached n)) g ∙ same))
        (subst IsSome (ap (λ o. or_else o (get a.detached n)) f) is)

-- the table in which the node is linked with the list, and its old one is a loose run
abbrev table_after : Table → ℕ → ℕ → List (ℕ × ℕ) → List (ℕ × ℕ) → ℕ → Table
table_after a n x list former start =
    linked_with a n (x, list) (insert a.loose start former)
    (with_count a.free (length list) (free_count a (length list) - 1))
    (extent_after (free_count a (length list)) a.extent (length list))

module _ (a : Table) (x n start : ℕ) (list former : List (ℕ × ℕ)) (t : IsTable a)
    (was : get a.detached n ≡ Some (x, former)) where
  own_is : get (insert a.linked n (x, list)) n ≡ Some (x, list)
  own_is = get_insert_same a.linked n (x, list)

  linked_there : (i : ℕ) → HasNumber a i → HasNumber (table_after a n x list former start) i
  linked_there i is = elim (cases_eq i n) [
    | inl z ↦
        subst (HasNumber (table_after a n x list former start)) (sym z)
        (subst IsSome (sym (linked_key (table_after a n x list former start) n (x, list) own_is)) refl)
    | inr d ↦
        stays_there a (table_after a n x list former start) (still_there a t n (x, former) (x, list) was) i
        (get_remove_other a.detached n i d) is
  ]

  linked_rewritten : get a.loose start ≡ None →
      AreRewritten a (table_after a n x list former start) x
      (record { number = n; place = x; run = Some (start, length former) } ∷ [])
  linked_rewritten fresh =
      record {
        vtree = refl;
        roots = refl;
        epoch = refl;
        bound = refl;
        moving = refl;
        extent = extent_grows (free_count a (length list)) a.extent (length list);
        records = omega arith;
        nodes = still_there a t n (x, former) (x, list) was;
        new_below = λ i k none is. absurd (new_node i k none is (cases_eq i n));
        each = (
          record {
            former = former;
            list = list;
            start = start;
            was = was;
            is = own_is;
            at = refl;
            run = refl;
            fresh = fresh;
            loose = get_insert_same a.loose start former;
          },
          tt,
        );
        gone = λ i m. elim m [
          | inl z ↦ ap (get (remove a.detached n)) (sym z) ∙ get_remove_same a.detached n
          | inr k ↦ absurd k
        ];
        waiting = λ i out. get_remove_other a.detached n i (λ z. out (inl (sym z)));
        marks = λ i m some e. inl (known i some (cases_eq i n), e);
        runs_once = (tt, tt);
        other_runs = λ s out. get_insert_other a.loose start former s
            (λ z. out (inl (length former, ap (λ (q : ℕ). Some (q, length former)) (sym z))));
      }
    where
      known : (i : ℕ) → IsSome (key_at (table_after a n x list former start) i) → (i ≡ n) ⊎ (i ≢ n) →
          IsSome (key_at a i)
      known i some (inl z) =
          subst (λ k. IsSome (key_at a k)) (sym z) (subst IsSome (sym (detached_key a t n (x, former) was)) refl)
      known i some (inr d) =
          subst IsSome
          (ap (λ o. or_else o (get (remove a.detached n) i)) (get_insert_other a.linked n (x, list) i d)
          ∙ ap (λ o. or_else (get a.linked i) o) (get_remove_other a.detached n i d)) some

      new_node : (i : ℕ) (k : ℕ × List (ℕ × ℕ)) → key_at a i ≡ None → get (insert a.linked n (x, list)) i ≡ Some k →
          (i ≡ n) ⊎ (i ≢ n) → ⊥
      new_node i k none is (inl z) =
          none-some (x, former) (sym none ∙ ap (key_at a) z ∙ detached_key a t n (x, former) was)
      new_node i k none is (inr d) =
          none-some k (sym none ∙ linked_key a i k (sym (get_insert_other a.linked n (x, list) i d) ∙ is))

-- what `rewrite` did is that
module _ (a b : Table) (x n start count : ℕ) (elements former : List (ℕ × ℕ)) (t : IsTable a)
    (was : get a.detached n ≡ Some (x, former)) (w : IsRewritten a b n elements start count) where
  same_key : ◌≡◌ {A = ℕ × List (ℕ × ℕ)} (w.place, w.former) (x, former)
  same_key = same_Some (w.place, w.former) (x, former) (sym w.was ∙ was)

  pub table_is : b ≡ table_after a n x w.list former start
  table_is =
      w.is
      ∙ ap (λ (y : ℕ × List (ℕ × ℕ)). table_after a n y.0 w.list y.1 start) same_key

  pub run_rewritten : AreRewritten a b x (record { number = n; place = x; run = Some (start, count) } ∷ [])
  run_rewritten =
      let length_is : length former ≡ count =
      ap (λ (y : ℕ × List (ℕ × ℕ)). length y.1) (sym same_key) ∙ sym w.counted in
      subst (λ (u : Table). AreRewritten a u x (record { number = n; place = x; run = Some (start, count) } ∷ []))
      (sym table_is)
      (subst (λ (q : ℕ). AreRewritten a (table_after a n x w.list former start) x
      (record { number = n; place = x; run = Some (start, q) } ∷ [])) length_is
      (linked_rewritten a x n start w.list former t was w.fresh))

-- the list was made, in the table m1

module _ (m0 m m1 : Table) (x : ℕ) (h : Progress) (v : Valuation) (n : ℕ) (rest : List ℕ) (t : IsTable m)
    (t1 : IsTable m1) (c : CanRewriteAll m0 m x h v (n ∷ rest)) (e : Extends m m1)
    (grows : GrowsStrictlyBelow m m1 x) where
  after : CanRewriteAll m0 m1 x h (values_after m m1 v) (n ∷ rest)
  after = rewrite_after m0 m m1 x h v (n ∷ rest) t t1 c e grows

  -- the node waits still
  pub waits_still : get m1.detached n ≡ Some (x, c.each.0.list)
  waits_still = ap (λ z. get z n) e.detached ∙ c.each.0.was

  -- so do all
  pub goes_still : GoesOn m0 m m1 x h v (n ∷ rest)
  goes_still =
      record {
        progress = h;
        values = values_after m m1 v;
        can = after;
        discarded = refl;
        numbers = λ i is. stays_there m m1 e.nodes i (ap (λ z. get z i) e.detached) is;
        kept = values_kept m0 m m1 x h v (n ∷ rest) t t1 c e grows;
      }

  module _ (d : ℕ) (code : d ≡ 2050 + n) (elements : List (ℕ × ℕ))
      (p : IsPartitionOf m1 x elements (pairs_value (value_of (get m.linked)) (pairs_at m d))) where
    same : IsSame (pairs_value (value_of (get m.linked)) (pairs_at m d)) (values_after m m1 v (2050 + n))
    same a =
        list_value m0 m x h v n rest t c d code a
        ∙ sym (values_kept m0 m m1 x h v (n ∷ rest) t t1 c e grows n
        (subst IsSome (sym (detached_key m t n (x, c.each.0.list) c.each.0.was)) refl) a)

    pub new_list_fits : AreDistinct (map (λ (e : ℕ × ℕ). e.1) elements) → (k : ℕ × List (ℕ × ℕ)) →
        get m1.detached n ≡ Some k → FitsNode m1 k.0 elements
    new_list_fits differ =
        fits_one m0 m1 x h (values_after m m1 v) n rest t1 after elements
        (pairs_value (value_of (get m.linked)) (pairs_at m d)) p same differ

    pub new_list_absent : (k : ℕ × List (ℕ × ℕ)) (list : List (ℕ × ℕ)) → get m1.detached n ≡ Some k →
        IsPermutation elements list → IsAscending list → IsAbsent m1 k.0 list
    new_list_absent =
        absent_one m0 m1 x h (values_after m m1 v) n rest t1 after elements
        (pairs_value (value_of (get m.linked)) (pairs_at m d)) p same

    -- The node is linked with the list, and the move goes on.
    pub goes_one : (b : Table) (start count : ℕ) → IsRewritten m1 b n elements start count → IsTable b →
        GoesOn m0 m b x h v rest
    goes_one b start count w tb =
        let is = table_is m1 b x n start count elements c.each.0.list t1 waits_still w in
        let all = table_after m1 n x w.list c.each.0.list start in
        record {
          progress = progress_after h n w.list;
          values = values_after m m1 v;
          can = subst (λ (u : Table). CanRewriteAll m0 u x (progress_after h n w.list) (values_after m m1 v) rest)
              (sym is)
              (rewritten_one m0 m1 x h (values_after m m1 v) n rest t1 after elements
              (pairs_value (value_of (get m.linked)) (pairs_at m d)) p same w.list w.order
              (insert m1.loose start c.each.0.list)
              (with_count m1.free (length w.list) (free_count m1 (length w.list) - 1))
              (extent_after (free_count m1 (length w.list)) m1.extent (length w.list))
              (subst IsTable is tb));
          discarded = refl;
          numbers = λ i k. subst (λ (u : Table). HasNumber u i) (sym is)
              (linked_there m1 x n start w.list c.each.0.list t1 waits_still i
              (stays_there m m1 e.nodes i (ap (λ z. get z i) e.detached) k));
          kept = values_kept m0 m m1 x h v (n ∷ rest) t t1 c e grows;
        }

  -- and that is all that was done
  pub one_rewritten : (b : Table) (elements : List (ℕ × ℕ)) (start count : ℕ) →
      IsRewritten m1 b n elements start count →
      AreRewritten m b x (record { number = n; place = x; run = Some (start, count) } ∷ [])
  one_rewritten b elements start count w =
      rewritten_both m m1 b x [] (record { number = n; place = x; run = Some (start, count) } ∷ [])
      (grown_rewritten m m1 x t1 e grows)
      (run_rewritten m1 b x n start count elements c.each.0.list t1 waits_still w)

-- the answers of linking

-- where it was done, the node was rewritten
pub rewritten_answer : {E : Type 0} (m0 m m1 : Table) (x : ℕ) (h : Progress) (v : Valuation) (n : ℕ) (rest : List ℕ) →
    IsTable m → IsTable m1 → CanRewriteAll m0 m x h v (n ∷ rest) → Extends m m1 → GrowsStrictlyBelow m m1 x →
    (b : Table) (elements : List (ℕ × ℕ)) (r : Result (ℕ × ℕ) E) →
    IfOk r (λ run. IsRewritten m1 b n elements run.0 run.1) →
    IfOk r (λ run. AreRewritten m b x (record { number = n; place = x; run = Some run } ∷ []))
rewritten_answer m0 m m1 x h v n rest t t1 c e grows b elements (Ok run) w =
    one_rewritten m0 m m1 x h v n rest t t1 c e grows b elements run.0 run.1 w
rewritten_answer m0 m m1 x h v n rest t t1 c e grows b elements (Err y) w = tt

-- over the table in which its list was made, that is all that was done
pub linked_answer : {E : Type 0} (m1 b : Table) (x n : ℕ) (former elements : List (ℕ × ℕ)) → IsTable m1 →
    get m1.detached n ≡ Some (x, former) → (r : Result (ℕ × ℕ) E) →
    IfOk r (λ run. IsRewritten m1 b n elements run.0 run.1) →
    IfOk r (λ run. AreRewritten m1 b x (record { number = n; place = x; run = Some run } ∷ []))
linked_answer m1 b x n former elements t was (Ok run) w = run_rewritten m1 b x n run.0 run.1 elements former t was w
linked_answer m1 b x n former elements t was (Err y) w = tt

-- and each move goes on
pub going_answer : {E : Type 0} (m m1 b : Table) (x n : ℕ) → IsTable m → IsTable m1 → IsTable b → Extends m m1 →
    GrowsStrictlyBelow m m1 x → (elements : List (ℕ × ℕ)) →
    IsPartitionOf m1 x elements (pairs_value (value_of (get m.linked)) (pairs_at m (n + 2050))) →
    (r : Result (ℕ × ℕ) E) → IfOk r (λ run. IsRewritten m1 b n elements run.0 run.1) →
    OnOk r ((m0 : Table) (h : Progress) (v : Valuation) (rest : List ℕ) → CanRewriteAll m0 m x h v (n ∷ rest) →
    GoesOn m0 m b x h v rest)
going_answer m m1 b x n t t1 tb e grows elements p (Ok run) w = λ m0 h v rest c.
    goes_one m0 m m1 x h v n rest t t1 c e grows (n + 2050) (omega arith) elements p b run.0 run.1 w tb
going_answer m m1 b x n t t1 tb e grows elements p (Err y) w = tt

-- where it was refused, all wait still
pub still_answer : {E : Type 0} (m m1 b : Table) (x n : ℕ) → IsTable m → IsTable m1 → Extends m m1 →
    GrowsStrictlyBelow m m1 x → (r : Result (ℕ × ℕ) E) → OnErr r (b ≡ m1) →
    OnErr r ((m0 : Table) (h : Progress) (v : Valuation) (rest : List ℕ) → CanRewriteAll m0 m x h v (n ∷ rest) →
    GoesOn m0 m b x h v (n ∷ rest))
still_answer m m1 b x n t t1 e grows (Ok run) is = tt
still_answer m m1 b x n t t1 e grows (Err y) is = λ m0 h v rest c.
    subst (λ (u : Table). GoesOn m0 m u x h v (n ∷ rest)) (sym is) (goes_still m0 m m1 x h v n rest t t1 c e grows)
