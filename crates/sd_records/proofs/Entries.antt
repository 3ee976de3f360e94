-- The entries that heads and pairs stand for.
use Rattle.std.proofs.Common.{◌≡◌, ℕ, zero, suc, ◌+◌, ◌-◌, ◌≤◌, ◌<◌, List, [], ◌∷◌, ◌++◌, map, length, take, drop}
use Rattle.std.proofs.Common.{get_or}
use Rattle.std.proofs.Common.{Some, slice_get, refl, sym, ◌∙◌, ap, arith, length-append}
use Rattle.std.proofs.Math.Seq.{drop-cons}
use Rattle.std.proofs.lemmas.List.{take-append-le, drop-append-le, length-drop, take_all}
use Rattle.sd_records.specs.declared.records.Head.{Head}
use Rattle.sd_records.specs.Stored.{refs_of, entries_of, pair_count}
use Rattle.sd_records.proofs.Lists.{drop_sum}

-- there are as many as heads
pub length_entries : (heads : List Head) (pairs : List (ℕ × ℕ)) → length (entries_of heads pairs) ≡ length heads
length_entries [] pairs = refl
length_entries (h ∷ heads) pairs = ap suc (length_entries heads (drop h.count pairs))

-- a list of no elements
nothing : {X : Type 0} (xs : List X) → 0 ≡ length xs → xs ≡ []
nothing [] e = refl
nothing (x ∷ xs) e = absurd (omega (arith, e))

-- an entry behind all others
pub entries_push : (heads : List Head) (pairs more : List (ℕ × ℕ)) (h : Head) → pair_count heads ≡ length pairs
    → h.count ≡ length more
    → entries_of (heads ++ h ∷ []) (pairs ++ more) ≡ entries_of heads pairs ++ (h.position, map refs_of more) ∷ []
entries_push [] pairs more h counted long =
    let none : pairs ≡ [] = nothing pairs counted in
    ap (λ l. (h.position, map refs_of l) ∷ [])
    (ap (λ l. take h.count (l ++ more)) none ∙ take_all h.count more (omega (arith, long)))
entries_push (g ∷ heads) pairs more h counted long =
    let within : g.count ≤ length pairs = omega (arith, counted) in
    let rest : pair_count heads ≡ length (drop g.count pairs) =
    omega (arith, counted, length-drop g.count pairs) in
    ap (λ l. (g.position, map refs_of l) ∷ entries_of (heads ++ h ∷ []) (drop g.count (pairs ++ more)))
    (take-append-le g.count pairs more within)
    ∙ ap (λ l. (g.position, map refs_of (take g.count pairs)) ∷ l)
    (ap (entries_of (heads ++ h ∷ [])) (drop-append-le g.count pairs more within)
    ∙ entries_push heads (drop g.count pairs) more h rest long)

-- with as many pairs more
pairs_push : (heads : List Head) (h : Head) → pair_count (heads ++ h ∷ []) ≡ pair_count heads + h.count
pairs_push [] h = omega arith
pairs_push (g ∷ heads) h = omega (arith, pairs_push heads h)

pub count_push : (heads : List Head) (pairs more : List (ℕ × ℕ)) (h : Head) → pair_count heads ≡ length pairs
    → h.count ≡ length more → pair_count (heads ++ h ∷ []) ≡ length (pairs ++ more)
count_push heads pairs more h counted long =
    omega (arith, counted, long, pairs_push heads h, length-append pairs more)

-- ---- what is left to read

-- the pairs from a place on that belong to a head
abbrev pub slice_of : List (ℕ × ℕ) → ℕ → Head → List (ℕ × ℕ)
slice_of pairs start head = take (start + head.count - start) (drop start pairs)

-- the next entry, and those behind it
pub record IsNext (heads : List Head) (pairs : List (ℕ × ℕ)) (i start : ℕ) (head : Head) : Type 0 where
  pub is : slice_get (entries_of heads pairs) i
      ≡ Some (head.position, map refs_of (slice_of pairs start head))
  pub within : start + head.count ≤ length pairs
  pub left : entries_of (drop (i + 1) heads) (drop (start + head.count) pairs)
      ≡ drop (i + 1) (entries_of heads pairs)
  pub counted : pair_count (drop (i + 1) heads) ≡ length (drop (start + head.count) pairs)

-- the first of what is left of a list stands at its index
first_left : {X : Type 0} (xs ys : List X) (i : ℕ) (x : X) → drop i xs ≡ x ∷ ys
    → (slice_get xs i ≡ Some x) × (drop (i + 1) xs ≡ ys)
first_left [] ys zero x e = absurd (cc)
first_left [] ys (suc i) x e = absurd (cc)
first_left (z ∷ xs) ys zero x e = let a : z ≡ x = cc in let b : xs ≡ ys = cc in (ap (λ y. Some y) a, b)
first_left {X} (z ∷ xs) ys (suc i) x e =
    let r = first_left xs ys i x e in
    let n : suc i + 1 ≡ suc (i + 1) = omega arith in
    (r.0, ap (λ k. drop k (z ∷ xs)) n ∙ r.1)

pub next_entry : (heads : List Head) (pairs : List (ℕ × ℕ)) (i start : ℕ) (head : Head) → start ≤ length pairs
    → entries_of (drop i heads) (drop start pairs) ≡ drop i (entries_of heads pairs)
    → pair_count (drop i heads) ≡ length (drop start pairs)
    → drop i heads ≡ head ∷ drop (i + 1) heads → IsNext heads pairs i start head
next_entry heads pairs i start head low left counted next =
    let rest = drop start pairs in
    let count : head.count + pair_count (drop (i + 1) heads) ≡ length rest = sym (ap pair_count next) ∙ counted in
    let both : drop i (entries_of heads pairs)
    ≡ (head.position, map refs_of (take head.count rest)) ∷ entries_of (drop (i + 1) heads) (drop head.count rest) =
    sym left ∙ ap (λ l. entries_of l rest) next in
    let w = first_left (entries_of heads pairs) (entries_of (drop (i + 1) heads) (drop head.count rest)) i
    (head.position, map refs_of (take head.count rest)) both in
    let count_again : head.count ≡ start + head.count - start = omega arith in
    let past : drop head.count rest ≡ drop (start + head.count) pairs = drop_sum pairs start head.count in
    record {
      is = w.0 ∙ ap (λ n. Some (head.position, map refs_of (take n rest))) count_again;
      within = omega (arith, low, count, length-drop start pairs);
      left = ap (entries_of (drop (i + 1) heads)) (sym past) ∙ sym w.1;
      counted = omega (arith, count, length-drop head.count rest, ap length past);
    }

-- the head at an index is the next one
pub next_turn : (heads : List Head) (pairs : List (ℕ × ℕ)) (i start : ℕ) → i < length heads → start ≤ length pairs
    → entries_of (drop i heads) (drop start pairs) ≡ drop i (entries_of heads pairs)
    → pair_count (drop i heads) ≡ length (drop start pairs)
    → IsNext heads pairs i start (get_or heads i (record { position = 0; count = 0 }))
next_turn heads pairs i start lt low left counted =
    let none : Head = record { position = 0; count = 0 } in
    let e : suc i ≡ i + 1 = omega arith in
    next_entry heads pairs i start (get_or heads i none) low left counted
    (drop-cons heads i none lt ∙ ap (λ n. get_or heads i none ∷ drop n heads) e)
