-- Codes show what they showed where the nodes below them keep their keys.
use Rattle.std.proofs.Common.{◌≡◌, inl, inr, ℕ, ◌+◌, List, [], ◌∷◌, Some, refl, sym, ◌∙◌, ap}
use Rattle.sd_model.specs.Diagram.{Diagram, Bottom, Top, Literal, Decomposition, Elements, End, Pair}
use Rattle.sd_vtree.specs.Numbered.{Numbered}
use Rattle.sd_laws.specs.Shown.{Lookup, HasPairs, Shows, ShowElements}
use Rattle.sd_laws.specs.Values.{StandsIn}
use Rattle.sd_laws.proofs.Lists.{IsAmong, within_permuted}

-- where a code of a list stands

-- the prime of a pair of the list stands in it
pub prime_stands : (l : List (ℕ × ℕ)) (e : ℕ × ℕ) (c : ℕ) → IsAmong e l → e.0 ≡ c → StandsIn c l
prime_stands [] e c m k = absurd m
prime_stands (x ∷ l) e c (inl h) k = inl (ap (λ (z : ℕ × ℕ). z.0) (sym h) ∙ k)
prime_stands (x ∷ l) e c (inr m) k = inr (inr (prime_stands l e c m k))

-- and so does its sub
pub sub_stands : (l : List (ℕ × ℕ)) (e : ℕ × ℕ) (c : ℕ) → IsAmong e l → e.1 ≡ c → StandsIn c l
sub_stands [] e c m k = absurd m
sub_stands (x ∷ l) e c (inl h) k = inr (inl (ap (λ (z : ℕ × ℕ). z.1) (sym h) ∙ k))
sub_stands (x ∷ l) e c (inr m) k = inr (inr (sub_stands l e c m k))

-- the nodes that P names

-- a node's list names nodes of P alone
abbrev pub IsClosed : Lookup → (ℕ → Type 0) → Type 0
IsClosed at P = (m n place : ℕ) (list : List (ℕ × ℕ)) → P m → at m ≡ Some (place, list) → StandsIn (2050 + n) list → P n

-- each node of P keeps its key
abbrev pub KeepsOf : Lookup → Lookup → (ℕ → Type 0) → Type 0
KeepsOf old new P = (n : ℕ) (key : ℕ × List (ℕ × ℕ)) → P n → old n ≡ Some key → new n ≡ Some key

-- the code is of no node, or of one of P
abbrev pub IsCodeIn : (ℕ → Type 0) → ℕ → Type 0
IsCodeIn P c = (n : ℕ) → c ≡ 2050 + n → P n

mutual
  -- a code of P shows what it showed
  pub shows_within : (t : Numbered) (old new : Lookup) (P : ℕ → Type 0) → IsClosed old P → KeepsOf old new P →
      (d : Diagram) (c : ℕ) → IsCodeIn P c → Shows t old c d → Shows t new c d
  shows_within t old new P closed keeps Bottom c p h = h
  shows_within t old new P closed keeps Top c p h = h
  shows_within t old new P closed keeps (Literal q x s) c p h = h
  shows_within t old new P closed keeps (Decomposition q es) c p h =
      let k : HasPairs t old c q h.0 = h.1 in
      let own : P k.number = p k.number k.code in (
        h.0,
        record {
          number = k.number;
          place = k.place;
          list = k.list;
          code = k.code;
          stored = keeps k.number (k.place, k.list) own k.stored;
          position = k.position;
          order = k.order;
        },
        elements_within t old new P closed keeps k.number k.place k.list own k.stored es h.0
            (within_permuted k.list h.0 k.order) h.2,
        h.3,
      )

  -- and so do pairs of a list of such a node
  elements_within : (t : Numbered) (old new : Lookup) (P : ℕ → Type 0) → IsClosed old P → KeepsOf old new P →
      (m place : ℕ) (list : List (ℕ × ℕ)) → P m → old m ≡ Some (place, list) → (es : Elements) (l : List (ℕ × ℕ)) →
      ((e : ℕ × ℕ) → IsAmong e l → IsAmong e list) → ShowElements t old l es → ShowElements t new l es
  elements_within t old new P closed keeps m place list own stored End [] there h = tt
  elements_within t old new P closed keeps m place list own stored End (e ∷ l) there h = h
  elements_within t old new P closed keeps m place list own stored (Pair p s rest) [] there h = h
  elements_within t old new P closed keeps m place list own stored (Pair p s rest) (e ∷ l) there h = (
    shows_within t old new P closed keeps p e.0
        (λ n k. closed m n place list own stored (prime_stands list e (2050 + n) (there e (inl refl)) k)) h.0,
    shows_within t old new P closed keeps s e.1
        (λ n k. closed m n place list own stored (sub_stands list e (2050 + n) (there e (inl refl)) k)) h.1,
    elements_within t old new P closed keeps m place list own stored rest l (λ x k. there x (inr k)) h.2,
  )
