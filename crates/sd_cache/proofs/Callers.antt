-- What a caller's proof cites: which entries there are after a look-up, after `keep`, and in a table that was lent.
use Rattle.std.proofs.Common.{◌≡◌, ℕ, ◌<◌, ◌≤◌, true, ◌⊎◌, inl, inr, Some, [], Contains, ap, subst, arith}
use Rattle.std.proofs.Common.{Result, Ok, Err, OnOk, OnErr, IsOk}
use Rattle.std.specs.Map.{lookup}
use Rattle.std.proofs.lemmas.Bool.{cases_eq, cases_lt}
use Rattle.std.proofs.lemmas.Bool.Decides.{nat_tests}
use Rattle.lru.specs.LruCache.{lru_cache}
use Rattle.lru.proofs.CallerLemmas.{Contains-lookup, Contains-promoted, Contains-put_entries}
use Rattle.sd_cache.specs.Entries.{Answers, Call, Entries, is_call, kept, looked}

-- two calls have the same four numbers
pub record AreOne (c d : Call) : Type 0 where
  pub epoch : d.epoch ≡ c.epoch
  pub operation : d.operation ≡ c.operation
  pub a : d.a ≡ c.a
  pub b : d.b ≡ c.b

one_call : (c d : Call) → is_call c d ≡ true → AreOne c d
one_call c d h =
    record {
      epoch = grind (arith, nat_tests);
      operation = grind (arith, nat_tests);
      a = grind (arith, nat_tests);
      b = grind (arith, nat_tests);
    }

same_call : (c d : Call) → d ≡ c → AreOne c d
same_call c d e =
    record {
      epoch = ap (λ (z : Call). z.epoch) e;
      operation = ap (λ (z : Call). z.operation) e;
      a = ap (λ (z : Call). z.a) e;
      b = ap (λ (z : Call). z.b) e;
    }

-- an answer that is found is one of an entry
pub found_entry : (es : Entries) (c : Call) (r : ℕ) → lookup (is_call c) es ≡ Some r →
    (d : Call) × Contains es (d, r) × AreOne c d
found_entry es c r e = let m = Contains-lookup (is_call c) es r e in (m.0, m.1, one_call c m.0 m.2)

-- a look-up adds no entry
pub looked_entry : (c : Answers) (k : Call) (e : Call × ℕ) → Contains (looked c k).entries e → Contains c.entries e
looked_entry c k e m = Contains-promoted (is_call k) c.entries e m

-- keeping an answer adds the entry of the call alone
pub kept_entry : (c : Answers) (k : Call) (r : ℕ) (e : Call × ℕ) → Contains (kept c k r).entries e →
    Contains c.entries e ⊎ ((e.1 ≡ r) × AreOne k e.0)
kept_entry c k r e m = elim (Contains-put_entries is_call (lru_cache c.entries 65536) k r e m) [
  | inl old ↦ inl old
  | inr put ↦ elim put.1 [
    | inl same ↦ inr (put.0, same_call k e.0 same)
    | inr there ↦ inr (put.0, one_call k e.0 there.2)
  ]
]

-- after `keep` the answer is kept, or the entries are as they were
pub kept_or_same : {X E : Type 0} (c c1 : Answers) (k : Call) (r : ℕ) (x : Result X E) →
    OnOk x (k.epoch < 72057594037927936 → c1 ≡ kept c k r) → OnErr x (c1 ≡ c) →
    (72057594037927936 ≤ k.epoch → IsOk x × (c1 ≡ c)) → (c1 ≡ kept c k r) ⊎ (c1 ≡ c)
kept_or_same c c1 k r (Err e) ok err late = inr err
kept_or_same c c1 k r (Ok u) ok err late = elim (cases_lt k.epoch 72057594037927936) [
  | inl early ↦ inl (ok early)
  | inr past ↦ inr (late past).1
]

-- an entry that was lent is one of that epoch
pub record IsOfEpoch (c : Answers) (epoch : ℕ) (e : Call × ℕ) : Type 0 where
  pub held : Contains c.computed e
  pub epoch_is : c.epoch ≡ epoch
  pub early : epoch < 72057594037927936

-- nothing is in an empty table
none_lent : {X : Type 0} (es : Entries) (e : Call × ℕ) → es ≡ [] → Contains es e → X
none_lent es e is m = let gone = subst (λ l. Contains l e) is m in absurd (omega (arith, gone.1))

pub lent_entry : (c : Answers) (es : Entries) (epoch : ℕ) →
    (c.epoch ≡ epoch → epoch < 72057594037927936 → es ≡ c.computed) →
    (¬ (c.epoch ≡ epoch) → es ≡ []) → (72057594037927936 ≤ epoch → es ≡ []) →
    (e : Call × ℕ) → Contains es e → IsOfEpoch c epoch e
lent_entry c es epoch lent other late e m = elim (cases_eq c.epoch epoch) [
  | inl same ↦ elim (cases_lt epoch 72057594037927936) [
    | inl early ↦ record {
      held = subst (λ l. Contains l e) (lent same early) m;
      epoch_is = same;
      early = early;
    }
    | inr past ↦ none_lent es e (late past) m
  ]
  | inr differ ↦ none_lent es e (other differ) m
]
