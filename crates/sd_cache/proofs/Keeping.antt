-- What keeping an answer does to the entries, and what a look-up past all epochs finds.
use Rattle.std.proofs.Common.{◌≡◌, ◌∙◌, ◌<◌, ap, ℕ}
use Rattle.lru.specs.LruCache.{LruCache, lru_cache, promoted, put_entries}
use Rattle.sd_cache.specs.Entries.{Answers, AreEarly, Call, Entries, answers_of, is_call, kept}
use Rattle.sd_cache.proofs.Early.{promoted_early, put_early}

-- `put` at the capacity of the cache is `kept`
pub kept_put : (c r : LruCache Call ℕ) (computed : Entries) (epoch : ℕ) (es : Answers) (k l : Call) (v : ℕ) →
    c.cap ≡ 65536 → answers_of c.entries computed epoch ≡ es → k ≡ l →
    r ≡ lru_cache (put_entries is_call c k v) c.cap → answers_of r.entries computed epoch ≡ kept es l v
kept_put c r computed epoch es k l v n e f h = ap (λ (x : LruCache Call ℕ). answers_of x.entries computed epoch) h
    ∙ (λ i. answers_of (put_entries is_call (lru_cache (e i).entries (n i)) (f i) v) (e i).computed (e i).epoch)

-- and the cache still has its capacity and early calls alone
pub put_kept : (c r : LruCache Call ℕ) (k l : Call) (v : ℕ)
    → (c.cap ≡ 65536) × AreEarly c.entries → k ≡ l
    → r ≡ lru_cache (put_entries is_call c k v) c.cap → l.epoch < 72057594037927936
    → (r.cap ≡ 65536) × AreEarly r.entries
put_kept c r k l v h same is early =
    let early' : k.epoch < 72057594037927936 = rw same early in
    (ap (λ x. x.cap) is ∙ h.0, rw is (put_early c k v h.1 early'))

-- the cache after a look-up has its capacity and early calls alone
pub looked_kept : (c r : LruCache Call ℕ) (k : Call) → (c.cap ≡ 65536) × AreEarly c.entries
    → r ≡ lru_cache (promoted (is_call k) c.entries) c.cap
    → (r.cap ≡ 65536) × AreEarly r.entries
looked_kept c r k h is = (ap (λ x. x.cap) is ∙ h.0, rw is (promoted_early k c.entries h.1))
