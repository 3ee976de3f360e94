-- A key is sought among all records, and along the chain of its bucket.
use Rattle.std.proofs.Common.{◌≡◌, ◌≢◌, inl, inr, ℕ, suc, ◌+◌, ◌<◌, ◌≤◌, List, [], ◌∷◌, length, get_or, slice_get}
use Rattle.std.proofs.Common.{Some, unwrap_or, ◌&&◌, eqb, refl, sym, ◌∙◌, ap, subst, arith}
use Rattle.std.proofs.lemmas.Bool.{cases_eq}
use Rattle.std.proofs.lemmas.Bool.Decides.{Decides-and, Decides-eqb}
use Rattle.std.specs.Bool.{Decides}
use Rattle.std.specs.Option.{option_and_then}
use Rattle.std.specs.FinMap.{get}
use Rattle.sd_runs.specs.Arena.{Arena, IsMember}
use Rattle.sd_runs.proofs.Places.{by_cases}
use Rattle.sd_unique.specs.declared.record.Record.{Record}
use Rattle.sd_unique.specs.declared.record.RecordState.{RecordState}
use Rattle.sd_unique.specs.declared.record.RecordState.TheVariants.{Free, Linked, Detached}
use Rattle.sd_unique.specs.Filed.{IsChain, IsFiled}
use Rattle.sd_unique.specs.Record.{if_linked, IsNode, key_of, linked_key, nodes_of, AreRecordsStored}
use Rattle.sd_unique.specs.Chains.{IsRecordAt, chain_by, chain_under, bucket_of, next_of, head_of, no_record}
use Rattle.sd_unique.proofs.Both.{chain_short}
use Rattle.sd_unique.proofs.Entries.{slice_get_at, slice_get_inside}
use Rattle.sd_unique.proofs.Numbered.{length_there, linked_at, linked_record, picked_from}

-- the test of two pairs
pub pair_decides : (a b : ℕ × ℕ) → Decides (eqb a.0 b.0 && eqb a.1 b.1) (a ≡ b)
pair_decides a b =
    let d = Decides-and (eqb a.0 b.0) (eqb a.1 b.1) (Decides-eqb a.0 b.0) (Decides-eqb a.1 b.1) in
    (λ e i. ((d.0 e).0 i, (d.0 e).1 i), λ e. d.1 (ap (λ p. p.0) e, ap (λ p. p.1) e))

module _ (arena : Arena) (rs : List Record) (key : ℕ × List (ℕ × ℕ)) (n : ℕ) (t : Record)
    (there : slice_get rs n ≡ Some t) (linked : t.state ≡ Linked) where
  key_there : get (nodes_of arena rs).linked n ≡ Some (key_of arena t)
  key_there =
      linked_at arena rs n ∙ ap (option_and_then (λ r. linked_key arena r)) there
      ∙ ap (λ s. if_linked s (key_of arena t)) linked

  -- a linked record with this place and list is that of the node with the key
  pub key_found : (l : List (ℕ × ℕ)) → t.place ≡ key.0 → get arena.live t.start ≡ Some l → l ≡ key.1
      → get (nodes_of arena rs).linked n ≡ Some key
  key_found l p g e = key_there ∙ ap Some (λ i. (p i, (ap (λ o. unwrap_or o []) g ∙ e) i))

  key_same : get (nodes_of arena rs).linked n ≡ Some key → key_of arena t ≡ key
  key_same e = ap (λ o. unwrap_or o key) (sym key_there ∙ e)

  -- one with another place is not, nor one with another list
  pub other_place : ¬ (t.place ≡ key.0) → get (nodes_of arena rs).linked n ≢ Some key
  other_place differ e = differ (ap (λ k. k.0) (key_same e))

  pub other_length : AreRecordsStored arena rs → ¬ (t.length ≡ length key.1)
      → get (nodes_of arena rs).linked n ≢ Some key
  other_length st differ e = differ (sym length_of ∙ ap (λ k. length k.1) (key_same e))
    where
      length_of : length (unwrap_or (get arena.live t.start) []) ≡ t.length
      length_of =
          length_there (get arena.live t.start) t.length (st.live n t there (subst IsNode (sym linked) tt))

  pub other_list : (l : List (ℕ × ℕ)) → get arena.live t.start ≡ Some l → ¬ (l ≡ key.1)
      → get (nodes_of arena rs).linked n ≢ Some key
  other_list l g differ e = differ (sym (ap (λ o. unwrap_or o []) g) ∙ ap (λ k. k.1) (key_same e))

-- nor is one that is not linked at this place
pub other_record : (arena : Arena) (rs : List Record) (place : ℕ) (list : List (ℕ × ℕ)) (n : ℕ) (t : Record)
    → slice_get rs n ≡ Some t → ¬ IsRecordAt t place → get (nodes_of arena rs).linked n ≢ Some (place, list)
other_record arena rs place list n t there differ e =
    let r = linked_record arena rs n (place, list) e in
    let same : Some r.0 ≡ Some t = sym r.1 ∙ there in
    let is : r.0 ≡ t = cc in
    differ (subst (λ x. IsRecordAt x place) is (record { linked = r.2; at = ap (λ k. k.0) r.3 }))

-- one record more was passed
pub passed_on : (arena : Arena) (rs : List Record) (key : ℕ × List (ℕ × ℕ)) (number : ℕ)
    → ((n : ℕ) → n < number → get (nodes_of arena rs).linked n ≢ Some key)
    → get (nodes_of arena rs).linked number ≢ Some key
    → (n : ℕ) → n < number + 1 → get (nodes_of arena rs).linked n ≢ Some key
passed_on arena rs key number before here n inside e =
    by_cases (λ same. here (subst (λ k. get (nodes_of arena rs).linked k ≡ Some key) same e))
    (λ ne. before n (omega (arith, ne)) e)
    (cases_eq n number)

-- and all were
pub passed_all : (arena : Arena) (rs : List Record) (key : ℕ × List (ℕ × ℕ)) (number : ℕ) → length rs ≤ number
    → ((n : ℕ) → n < number → get (nodes_of arena rs).linked n ≢ Some key)
    → (n : ℕ) → get (nodes_of arena rs).linked n ≢ Some key
passed_all arena rs key number all before n e =
    let r = linked_record arena rs n key e in
    before n (omega (arith, slice_get_inside rs n r.0 r.1)) e

-- What is known on the way: the rest of the chain is as short as the steps that are left, each of its records is
-- linked, and a linked node with the key is in it.
pub record IsSought (arena : Arena) (rs : List Record) (key : ℕ × List (ℕ × ℕ)) (at step : ℕ) (rest : List ℕ) : Type 0
  where
    pub chain : IsChain (next_of rs) no_record at rest
    pub short : length rest + step ≤ length rs
    pub linked : (y : ℕ) → IsMember y rest → (r : Record) × (slice_get rs y ≡ Some r) × (r.state ≡ Linked)
    pub left : (n : ℕ) → get (nodes_of arena rs).linked n ≡ Some key → IsMember n rest

of_bucket : (s : RecordState) (b c : ℕ) → chain_by s b ≡ Some (suc c) → s ≡ Linked
of_bucket Free b c e = let no : 0 ≡ suc c = cc in absurd (omega arith)
of_bucket Linked b c e = refl
of_bucket Detached b c e = cc

module _ (arena : Arena) (rs : List Record) (heads : List ℕ) (key : ℕ × List (ℕ × ℕ)) where
  -- a record of a bucket's chain is linked
  pub bucket_linked : (count n b : ℕ) → chain_under arena count rs n ≡ Some (suc b)
      → (r : Record) × (slice_get rs n ≡ Some r) × (r.state ≡ Linked)
  bucket_linked count n b e =
      let r = picked_from (λ (r : Record). chain_by r.state (bucket_of (key_of arena r) count)) (slice_get rs n)
      (suc b) e in
      (r.0, r.1, of_bucket (r.0).state (bucket_of (key_of arena r.0) count) b r.2)

  -- the chain of the key's bucket has the node with the key
  pub sought_first : (count at : ℕ) → IsFiled (next_of rs) no_record (head_of heads) (chain_under arena count rs)
      → at ≡ head_of heads (suc (bucket_of key count)) → (xs : List ℕ) × IsSought arena rs key at 0 xs
  sought_first count at f is = (
    f.lists (suc (bucket_of key count)),
    record {
      chain = subst (λ k. IsChain (next_of rs) no_record k (f.lists (suc (bucket_of key count)))) (sym is)
          (f.chained (suc (bucket_of key count)));
      short = omega (
        arith,
        chain_short (length rs) (f.lists (suc (bucket_of key count)))
            (f.once (suc (bucket_of key count)))
            (λ y h. let r = linked y h in slice_get_inside rs y r.0 r.1),
      );
      linked = linked;
      left = λ n e.
          let r = linked_record arena rs n key e in
          f.filed (suc (bucket_of key count)) n
          (ap (option_and_then (λ (x : Record). chain_by x.state (bucket_of (key_of arena x) count))) r.1
          ∙ ap (λ s. chain_by s (bucket_of (key_of arena r.0) count)) r.2
          ∙ ap (λ k. Some (suc (bucket_of k count))) r.3);
    },
  )
    where
      linked : (y : ℕ) → IsMember y (f.lists (suc (bucket_of key count)))
          → (r : Record) × (slice_get rs y ≡ Some r) × (r.state ≡ Linked)
      linked y h =
          bucket_linked count y (bucket_of key count) (f.only (suc (bucket_of key count)) y h)

  -- the chain is at its end
  pub sought_end : (at step n : ℕ) (rest : List ℕ) → IsSought arena rs key at step rest → at ≡ no_record
      → get (nodes_of arena rs).linked n ≢ Some key
  sought_end at step n [] s e there = s.left n there
  sought_end at step n (y ∷ ys) s e there = (s.chain).1 (sym (s.chain).0 ∙ e)

  -- the steps are at their end
  pub sought_out : (at step n : ℕ) (rest : List ℕ) → IsSought arena rs key at step rest → length rs ≤ step
      → get (nodes_of arena rs).linked n ≢ Some key
  sought_out at step n [] s e there = s.left n there
  sought_out at step n (y ∷ ys) s e there = omega (arith, s.short)

  -- the record that is reached is linked
  pub sought_record : (at step : ℕ) (rest : List ℕ) → IsSought arena rs key at step rest → at ≢ no_record
      → (r : Record) × (slice_get rs at ≡ Some r) × (r.state ≡ Linked)
  sought_record at step [] s ne = absurd (ne s.chain)
  sought_record at step (y ∷ ys) s ne = s.linked at (inl (sym (s.chain).0))

  pub sought_inside : (at step : ℕ) (rest : List ℕ) → IsSought arena rs key at step rest → at ≢ no_record
      → at < length rs
  sought_inside at step rest s ne = let r = sought_record at step rest s ne in slice_get_inside rs at r.0 r.1

  module _ (at step : ℕ) (rest : List ℕ) (s : IsSought arena rs key at step rest) (ne : at ≢ no_record) (t : Record)
      (read : t ≡ get_or rs at t) where
    -- the record that was read
    pub sought_read : (slice_get rs at ≡ Some t) × (t.state ≡ Linked)
    sought_read =
        let r = sought_record at step rest s ne in
        let inside = sought_inside at step rest s ne in
        let there : slice_get rs at ≡ Some t = slice_get_at rs at t inside ∙ ap Some (sym read) in
        let same : Some r.0 ≡ Some t = sym r.1 ∙ there in
        let is : r.0 ≡ t = cc in
        (there, ap (λ (x : Record). x.state) (sym is) ∙ r.2)

    -- one step on
    pub sought_on : get (nodes_of arena rs).linked at ≢ Some key → (next : ℕ) → next ≡ next_of rs at
        → (more : List ℕ) × IsSought arena rs key next (step + 1) more
    sought_on differ next is = on rest s
      where
        on : (ys : List ℕ) → IsSought arena rs key at step ys
            → (more : List ℕ) × IsSought arena rs key next (step + 1) more
        on [] w = absurd (ne w.chain)
        on (y ∷ ys) w = (
          ys,
          record {
            chain = subst (λ z. IsChain (next_of rs) no_record z ys)
                (ap (next_of rs) (sym (w.chain).0) ∙ sym is) (w.chain).2;
            short = omega (arith, w.short);
            linked = λ z h. w.linked z (inr h);
            left = λ n e. by_cases
                (λ same. absurd (differ (subst (λ k. get (nodes_of arena rs).linked k ≡ Some key)
                (sym ((w.chain).0 ∙ same)) e)))
                (λ k. k)
                (w.left n e);
          },
        )
