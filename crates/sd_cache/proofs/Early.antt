-- A call of an epoch past all keys is in no cache.
use Rattle.std.proofs.Common.{◌≡◌, ℕ, ◌<◌, ◌≤◌, false, [], ◌∷◌}
use Rattle.std.proofs.Common.{None, refl, inl, inr, arith}
use Rattle.std.specs.Map.{lookup, lookup_entry}
use Rattle.std.proofs.lemmas.Bool.Decides.{nat_tests}
use Rattle.lru.specs.LruCache.{LruCache, put_entries, promoted}
use Rattle.lru.proofs.Splits.{Contains-head, Contains-tail}
use Rattle.lru.proofs.CallerLemmas.{Contains-promoted, Contains-put_entries}
use Rattle.sd_cache.specs.Entries.{Call, Entries, AreEarly, is_call}

-- two calls of different epochs are two
apart : (c d : Call) → d.epoch < c.epoch → is_call c d ≡ false
apart c d h = grind (arith, nat_tests)

-- what holds of all holds of the others
rest_early : (e : Call × ℕ) (es : Entries) → AreEarly (e ∷ es) → AreEarly es
rest_early e es h = λ f c. h f (Contains-tail e es f c)

-- no answer is found past all epochs
pub no_entry : (c : Call) (es : Entries) → AreEarly es → 72057594037927936 ≤ c.epoch
    → lookup_entry (is_call c) es ≡ None
no_entry c [] h late = refl
no_entry c (e ∷ es) h late =
    let early : e.0.epoch < 72057594037927936 = h e (Contains-head e es) in
    let below : e.0.epoch < c.epoch = omega arith in
    rw (apart c e.0 below) (no_entry c es (rest_early e es h) late)

pub no_answer : (c : Call) (es : Entries) → AreEarly es → 72057594037927936 ≤ c.epoch
    → lookup (is_call c) es ≡ None
no_answer c [] h late = refl
no_answer c (e ∷ es) h late =
    let early : e.0.epoch < 72057594037927936 = h e (Contains-head e es) in
    let below : e.0.epoch < c.epoch = omega arith in
    rw (apart c e.0 below) (no_answer c es (rest_early e es h) late)

-- and nothing is moved
pub not_promoted : (c : Call) (es : Entries) → AreEarly es → 72057594037927936 ≤ c.epoch
    → es ≡ promoted (is_call c) es
not_promoted c es h late = rw (no_entry c es h late) refl

-- a look-up adds no call
pub promoted_early : (c : Call) (es : Entries) → AreEarly es → AreEarly (promoted (is_call c) es)
promoted_early c es h = λ e d. h e (Contains-promoted (is_call c) es e d)

-- the call that is put is early
pub put_early : (es : LruCache Call ℕ) (c : Call) (answer : ℕ) → AreEarly es.entries
    → c.epoch < 72057594037927936 → AreEarly (put_entries is_call es c answer)
put_early es c answer h early = λ e d. elim (Contains-put_entries is_call es c answer e d) [
  | inl old ↦ h e old
  | inr put ↦ elim put.1 [
    | inl same ↦ rw same early
    | inr there ↦ h (e.0, there.0) there.1
  ]
]
