-- Entries that are blank or among others.
use Rattle.std.proofs.Common.{ℕ, inl, inr, Contains, get_or}
use Rattle.std.proofs.lemmas.List.Elements.{Contains-get_or}
use Rattle.sd_cache.specs.Entries.{AreAmong, Call, Entries}

-- each entry is among its own
pub among_itself : (es : Entries) → AreAmong es es
among_itself es = λ k d lt. inr (Contains-get_or es k d lt)

-- what is among some is among more
pub among_more : (es some more : Entries) → ((e : Call × ℕ) → Contains some e → Contains more e) → AreAmong es some →
    AreAmong es more
among_more es some more wider h = λ k d lt. elim (h k d lt) [
  | inl none ↦ inl none
  | inr held ↦ inr (wider (get_or es k d) held)
]
