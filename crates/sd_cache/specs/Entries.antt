-- What a contract sees of the cache: its entries, the most recently used first, and the answers of one epoch.
use Rattle.std.specs.Prelude.{◌≡◌, ℕ, ◌<◌, ◌≤◌, Bool, ◌==◌, ◌&&◌, ◌⊎◌, List, [], length, Contains, refl}
use Rattle.std.specs.List.{All, IsDistinct}
use Rattle.std.specs.Map.{keys_of}
use Rattle.std.specs.Coded.{Coded, code_by, coded×, coded_list, coded_ℕ}
use Rattle.lru.specs.LruCache.{lru_cache, promoted, put_entries}

-- an operation at two numbers of nodes, in one epoch
pub record Call : Type 0 where
  pub epoch : ℕ
  pub operation : ℕ
  pub a : ℕ
  pub b : ℕ

-- the call with these four numbers
abbrev pub call : ℕ → ℕ → ℕ → ℕ → Call
call epoch operation a b = record { epoch = epoch; operation = operation; a = a; b = b }

-- a call is stored as its numbers
abbrev pub call_code : Coded Call
call_code = code_by ((ℕ × ℕ) × (ℕ × ℕ))
    (coded× (coded× coded_ℕ coded_ℕ) (coded× coded_ℕ coded_ℕ))
    (λ c. ((c.epoch, c.operation), (c.a, c.b))) (λ p. call p.0.0 p.0.1 p.1.0 p.1.1) (λ _. refl)

-- whether two calls are one: all four numbers are equal
abbrev pub is_call : Call → Call → Bool
is_call c d =
    (c.a == d.a) && ((c.b == d.b) && ((c.operation == d.operation) && (c.epoch == d.epoch)))

-- the calls with their answers, the most recently used first
abbrev pub Entries : Type 0
Entries = List (Call × ℕ)

-- and so are the entries
abbrev pub entries_code : Coded Entries
entries_code = coded_list (coded× call_code coded_ℕ)

-- what a cache holds: the entries in the order of their use, and the answers computed in one epoch
pub record Answers : Type 0 where
  pub entries : Entries
  pub computed : Entries
  pub epoch : ℕ

-- these entries, and these answers of an epoch
abbrev pub answers_of : Entries → Entries → ℕ → Answers
answers_of entries computed epoch = record { entries = entries; computed = computed; epoch = epoch }

-- and so are they stored
abbrev pub answers_code : Coded Answers
answers_code = code_by ((Entries × Entries) × ℕ)
    (coded× (coded× entries_code entries_code) coded_ℕ)
    (λ c. ((c.entries, c.computed), c.epoch)) (λ p. answers_of p.0.0 p.0.1 p.1) (λ _. refl)

-- no answers
abbrev pub no_answers : Answers
no_answers = answers_of [] [] 0

-- the answers once the call was looked up: where it has an entry, that goes first
abbrev pub looked : Answers → Call → Answers
looked c k = answers_of (promoted (is_call k) c.entries) c.computed c.epoch

-- the answers once one is put in: its call goes first, and past 65,536 entries the last is dropped
abbrev pub kept : Answers → Call → ℕ → Answers
kept c k answer = answers_of (put_entries is_call (lru_cache c.entries 65536) k answer) c.computed c.epoch

-- the answers once those of the epoch are lent
abbrev pub all_lent : Answers → Answers
all_lent c = answers_of c.entries [] c.epoch

-- the entry where nothing was computed: a call of zeros, with the answer 0
abbrev pub blank : Call × ℕ
blank = (call 0 0 0 0, 0)

-- each entry is blank or one of the others
abbrev pub AreAmong : (es others : Entries) → Type 0
AreAmong es others = All (λ e. (e ≡ blank) ⊎ Contains others e) es

-- no call has an epoch of 2^56 or more, which a key has no room for
abbrev pub AreEarly : Entries → Type 0
AreEarly es = (e : Call × ℕ) → Contains es e → e.0.epoch < 72057594037927936

-- what holds of each cache: each call has one answer, and there are at most 65,536
pub record IsCache (es : Entries) : Type 0 where
  pub distinct : IsDistinct is_call (keys_of es)
  pub within : length es ≤ 65536
  pub early : AreEarly es
