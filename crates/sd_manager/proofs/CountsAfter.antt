-- The counts of what roots hold after each step of the calls: roots come and go, and nodes are made, detached, linked,
-- and removed.
use Rattle.std.proofs.Common.{◌≡◌, ◌≢◌, inl, inr, ℕ, ◌+◌, ◌-◌, ◌^◌, ◌<◌, ◌≤◌, max, true, false, List}
use Rattle.std.proofs.Common.{[], ◌∷◌, length, unwrap_or, Option, Some, None, refl, sym, ap, subst, ◌∙◌, arith}
use Rattle.std.proofs.lemmas.Bool.{cases_eq}
use Rattle.std.specs.Option.{IsSome, option_map}
use Rattle.std.specs.Ordering.{nat_cmp}
use Rattle.std.specs.FinMap.{FinMap, get, insert, remove, len, empty}
use Rattle.sd_runs.proofs.Maps.{get_insert_same, get_insert_other, get_remove_same, get_remove_other}
use Rattle.sd_runs.proofs.Places.{by_cases}
use Rattle.sd_unique.specs.Nodes.{Nodes, IsNodes, key_at, or_else, total_length}
use Rattle.sd_unique.specs.Inserting.{no_nodes, IsNewNumber, inserted}
use Rattle.sd_unique.specs.Relinking.{IsLoose, unlinked, relinked, with_key, without_loose, removed}
use Rattle.sd_counts.specs.Counts.{Counts, Adds, IsGrown, counted_at, no_counts}
use Rattle.sd_counts.specs.Right.{AreOf, AreClosed, IsThere}
use Rattle.sd_counts.proofs.StaysRight.{right_held, right_released, right_grown}
use Rattle.sd_manager.specs.Counting.{counts_one, AreCounted}
use Rattle.sd_manager.specs.Stored.{held_count}
use Rattle.sd_manager.specs.Recounting.{HasOtherList}
use Rattle.sd_manager.proofs.CountsKept.{held_none, held_few, held_more, held_less, held_again, counts_same_keys}
use Rattle.sd_manager.proofs.CountsKept.{counts_other_uses, counts_same_list, counts_but_one, not_counted, not_held}
use Rattle.sd_manager.proofs.Holding.{some_value, len_more, len_again}

-- no nodes, and no roots that are counted
pub counts_none : (bound : ℕ) (a : Nodes) (v : Counts) → a ≡ no_nodes bound → v ≡ no_counts →
    AreOf a (held_count empty) v
counts_none bound a v none no_numbers =
    subst (λ x. AreOf x (held_count empty) v) (sym none)
    (subst (λ w. AreOf (no_nodes bound) (held_count empty) w) (sym no_numbers)
    (record {
      right = record { live = λ n. omega (arith, nobody n); total = refl };
      nodes = λ n on. let bad : false ≡ true = on in absurd (cc);
      held_nodes = λ n some. absurd (omega (arith, some, nobody n));
      few = λ n. omega (arith, nobody n);
      room = omega arith;
      within = refl;
    }))
  where
    nobody : (n : ℕ) → held_count empty n ≡ 0
    nobody n = held_none n

-- roots

module _ (a : Nodes) (m : FinMap nat_cmp ℕ) (v : Counts) (of : AreOf a (held_count m) v) where
  -- a root more
  pub counts_root : (b : Nodes) (root c : ℕ) → get m root ≡ None → len m < 2 ^ 32 - 1 → IsThere a c →
      b ≡ record a { uses = b.uses } → (w : Counts) → Adds v w (λ d. counts_one d c) →
      AreOf b (held_count (insert m root c)) w
  counts_root b root c none room there rest w adds =
      counts_other_uses a b (held_count (insert m root c)) w
      (right_held a (held_count m) (held_count (insert m root c)) v w c of adds (held_more m root c none) there
      (λ n. held_few (insert m root c) n (omega (arith, len_more m root c none, room)))) rest

  -- a root less
  pub counts_left : (root c : ℕ) → get m root ≡ Some c → (w : Counts) → Adds w v (λ d. counts_one d c) →
      AreOf a (held_count (remove m root)) w
  counts_left root c some w less =
      right_released a (held_count m) (held_count (remove m root)) v w c of less (held_less m root c some)

  -- a root that holds another code
  pub counts_rebound : (b d : Nodes) (root c new : ℕ) → get m root ≡ Some c → len m < 2 ^ 32 → IsThere a new →
      b ≡ record a { uses = b.uses } → d ≡ record b { uses = d.uses } → (w x : Counts) →
      Adds w v (λ d. counts_one d c) → Adds w x (λ d. counts_one d new) → AreOf d (held_count (insert m root new)) x
  counts_rebound b d root c new some few there first second w x less more =
      counts_other_uses b d (held_count (insert m root new)) x
      (counts_other_uses a b (held_count (insert m root new)) x
      (right_held a (held_count (remove m root)) (held_count (insert m root new)) w x new
      (counts_left root c some w less) more (held_again m root c new some) there
      (λ n. held_few (insert m root new) n (omega (arith, len_again m root c new some, few)))) first) second

-- nodes

-- a detached node is no linked one
detached_alone : (a : Nodes) (n : ℕ) (k : ℕ × List (ℕ × ℕ)) → IsNodes a → get a.detached n ≡ Some k →
    get a.linked n ≡ None
detached_alone a n k valid was = go (get a.linked n) refl
  where
    go : (o : Option (ℕ × List (ℕ × ℕ))) → get a.linked n ≡ o → get a.linked n ≡ None
    go None e = e
    go (Some l) e = let bad : None ≡ Some k = sym (valid.either n l e) ∙ was in absurd (cc)

-- so it has its key
detached_key : (a : Nodes) (n : ℕ) (k : ℕ × List (ℕ × ℕ)) → IsNodes a → get a.detached n ≡ Some k →
    key_at a n ≡ Some k
detached_key a n k valid was = ap (λ o. or_else o (get a.detached n)) (detached_alone a n k valid was) ∙ was

-- a linked node has a key
pub linked_there : (a : Nodes) (n : ℕ) → IsSome (get a.linked n) → IsSome (key_at a n)
linked_there a n linked =
    let k = some_value (get a.linked n) linked in
    subst IsSome (sym (ap (λ o. or_else o (get a.detached n)) k.1)) refl

module _ (a b : Nodes) (held : ℕ → ℕ) (v : Counts) (of : AreOf a held v) (n : ℕ) where
  -- a linked node is a detached one now
  pub counts_detached : IsSome (get a.linked n) →
      ((k : ℕ × List (ℕ × ℕ)) → get a.linked n ≡ Some k → b ≡ unlinked a n k) → AreOf b held v
  counts_detached linked out =
      let k = some_value (get a.linked n) linked in
      let is = out k.0 k.1 in
      counts_same_keys a b held v of (λ q. ap (λ x. key_at x q) is ∙ moved k.0 k.1 q) (ap (λ x. x.records) is)
    where
      moved : (k : ℕ × List (ℕ × ℕ)) → get a.linked n ≡ Some k → (q : ℕ) →
          or_else (get (remove a.linked n) q) (get (insert a.detached n k) q)
          ≡ or_else (get a.linked q) (get a.detached q)
      moved k was q =
          by_cases
          (λ same.
          ap (λ r. or_else (get (remove a.linked n) r) (get (insert a.detached n k) r)) same
          ∙ ap (λ o. or_else o (get (insert a.detached n k) n)) (get_remove_same a.linked n)
          ∙ get_insert_same a.detached n k
          ∙ sym (ap (λ r. or_else (get a.linked r) (get a.detached r)) same
          ∙ ap (λ o. or_else o (get a.detached n)) was))
          (λ ne.
          ap (λ o. or_else o (get (insert a.detached n k) q)) (get_remove_other a.linked n q ne)
          ∙ ap (or_else (get a.linked q)) (get_insert_other a.detached n k q ne))
          (cases_eq q n)

  -- a detached node is at another place
  pub counts_retagged : (place : ℕ) → IsNodes a → IsSome (get a.detached n) →
      ((k : ℕ × List (ℕ × ℕ)) → get a.detached n ≡ Some k → b ≡ with_key a n (place, k.1)) → AreOf b held v
  counts_retagged place valid detached tagged =
      let k = some_value (get a.detached n) detached in
      let is = tagged k.0 k.1 in
      counts_same_list a b held v n k.0 (place, k.0.1) of (detached_key a n k.0 valid k.1)
      (ap (λ x. key_at x n) is
      ∙ ap (λ o. or_else o (get (insert a.detached n (place, k.0.1)) n)) (detached_alone a n k.0 valid k.1)
      ∙ get_insert_same a.detached n (place, k.0.1)) refl
      (λ q ne. ap (λ x. key_at x q) is ∙ ap (or_else (get a.linked q)) (get_insert_other a.detached n
      (place, k.0.1) q ne))
      (ap (λ x. x.records) is)

  -- a detached node is a linked one now
  pub counts_relinked : IsNodes a → IsSome (get a.detached n) →
      ((k : ℕ × List (ℕ × ℕ)) → get a.detached n ≡ Some k → b ≡ relinked a n k) → AreOf b held v
  counts_relinked valid detached linked =
      let k = some_value (get a.detached n) detached in
      let is = linked k.0 k.1 in
      counts_same_list a b held v n k.0 k.0 of (detached_key a n k.0 valid k.1)
      (ap (λ x. key_at x n) is ∙ ap (λ o. or_else o (get (remove a.detached n) n))
      (get_insert_same a.linked n k.0)) refl
      (λ q ne.
      ap (λ x. key_at x q) is
      ∙ ap (λ o. or_else o (get (remove a.detached n) q)) (get_insert_other a.linked n k.0 q ne)
      ∙ ap (or_else (get a.linked q)) (get_remove_other a.detached n q ne))
      (ap (λ x. x.records) is)

  -- a detached node is removed that is not counted and not held
  pub counts_removed : counted_at v n ≡ false → held n ≡ 0 → IsSome (get a.detached n) →
      ((k : ℕ × List (ℕ × ℕ)) → get a.detached n ≡ Some k → b ≡ removed a n k.1) → AreOf b held v
  counts_removed off free detached gone =
      let k = some_value (get a.detached n) detached in
      let is = gone k.0 k.1 in
      counts_but_one a b held v n of off free
      (λ q ne. ap (λ x. key_at x q) is ∙ ap (or_else (get a.linked q)) (get_remove_other a.detached n q ne))
      (omega (arith, of.room, ap (λ x. x.records) is))

-- a loose run is given back
pub counts_given : (a b : Nodes) (held : ℕ → ℕ) (v : Counts) → AreOf a held v → (start count : ℕ) →
    (l : List (ℕ × ℕ)) × IsLoose a start count l →
    ((l : List (ℕ × ℕ)) → IsLoose a start count l → b ≡ without_loose a start l) → AreOf b held v
counts_given a b held v of start count loose given =
    let is = given loose.0 loose.1 in
    counts_same_keys a b held v of (λ n. ap (λ x. key_at x n) is) (ap (λ x. x.records) is)

-- no node has a new number
pub new_alone : (a : Nodes) (n : ℕ) → IsNodes a → IsNewNumber a n → key_at a n ≡ None
new_alone a n valid (inl free) = free.1
new_alone a n valid (inr end) = go (key_at a n) refl
  where
    go : (o : Option (ℕ × List (ℕ × ℕ))) → key_at a n ≡ o → key_at a n ≡ None
    go None e = e
    go (Some k) e = absurd (omega (arith, valid.numbered n k e, end.0))

-- a node is made, where there is a count for it
pub counts_made : (a b d : Nodes) (held : ℕ → ℕ) (v w : Counts) → AreOf a held v → IsGrown v w →
    a.records < length w.live → (n place : ℕ) (l : List (ℕ × ℕ)) → IsNewNumber a n → key_at a n ≡ None →
    b ≡ inserted a n place l → d ≡ record b { uses = d.uses } → AreOf d held w
counts_made a b d held v w of grown room n place l number none is rest =
    let before = right_grown a held v w of grown in
    counts_other_uses b d held w
    (counts_but_one a b held w n before (not_counted a held w n before none) (not_held a held w n before none)
    (λ q ne. ap (λ x. key_at x q) is ∙ ap (λ o. or_else o (get a.detached q)) (get_insert_other a.linked n
    (place, l) q ne))
    (omega (arith, ap (λ x. x.records) is, bound number, room)))
    rest
  where
    bound : IsNewNumber a n → max a.records (n + 1) ≤ a.records + 1
    bound (inl free) = omega (arith, free.0)
    bound (inr end) = omega (arith, end.0)

-- another list

-- the list of a key
abbrev list_of : Option (ℕ × List (ℕ × ℕ)) → List (ℕ × ℕ)
list_of o = unwrap_or (option_map (λ (k : ℕ × List (ℕ × ℕ)). k.1) o) []

-- A detached node has another list, whose codes are there, and the list that it had is in a loose run.
pub counts_exchanged : (a b : Nodes) (n place start count : ℕ) (k : ℕ × List (ℕ × ℕ)) (l : List (ℕ × ℕ)) → IsNodes a →
    AreClosed a → total_length a < 2 ^ 31 → get a.detached n ≡ Some k → AreCounted a l → b.linked ≡ a.linked →
    b.detached ≡ insert a.detached n (place, l) → get b.loose start ≡ Some k.1 → count ≡ length k.1 →
    b.records ≡ a.records → b.bound < 2 ^ 31 → IsNodes b → HasOtherList a b n start count
counts_exchanged a b n place start count k l valid closed few was there linked detached loose size records small after =
    record {
      valid = after;
      closed = λ q key at. all key.1 (by_cases
          (λ same.
          let both : Some (place, l) ≡ Some key = sym here ∙ ap (key_at b) (sym same) ∙ at in
          let is : (place, l) ≡ key = cc in
          subst (λ x. AreCounted a x.1) is there)
          (λ ne. closed q key (sym (others q ne) ∙ at))
          (cases_eq q n));
      node = subst IsSome (sym here) refl;
      former = record {
        is = loose ∙ ap Some (sym (ap list_of (detached_key a n k valid was)));
        counted = sym (size ∙ ap length (sym (ap list_of (detached_key a n k valid was))));
      };
      others = λ q ne. ap list_of (others q ne);
      kept = λ q h. kept q h;
      records = omega (arith, records);
      few = few;
      few_after = omega (arith, after.total, after.bounded, small);
    }
  where
    keys : (q : ℕ) → key_at b q ≡ or_else (get a.linked q) (get (insert a.detached n (place, l)) q)
    keys q =
        ap (λ x. or_else (get x q) (get b.detached q)) linked ∙ ap (λ x. or_else (get a.linked q) (get x q)) detached

    here : key_at b n ≡ Some (place, l)
    here =
        keys n
        ∙ ap (λ o. or_else o (get (insert a.detached n (place, l)) n)) (detached_alone a n k valid was)
        ∙ get_insert_same a.detached n (place, l)

    others : (q : ℕ) → q ≢ n → key_at b q ≡ key_at a q
    others q ne = keys q ∙ ap (or_else (get a.linked q)) (get_insert_other a.detached n (place, l) q ne)

    kept : (q : ℕ) → IsSome (key_at a q) → IsSome (key_at b q)
    kept q h =
        by_cases (λ same. subst IsSome (sym (ap (key_at b) same ∙ here)) refl)
        (λ ne. subst IsSome (sym (others q ne)) h) (cases_eq q n)

    one : (c : ℕ) → IsThere a c → IsThere b c
    one c h least = kept (c - 2050) (h least)

    all : (x : List (ℕ × ℕ)) → AreCounted a x → AreCounted b x
    all [] h = tt
    all (e ∷ x) h = ((one e.0 h.0.0, one e.1 h.0.1), all x h.1)
