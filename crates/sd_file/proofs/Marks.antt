-- The marks of the nodes that the last one of a file reaches.
use Rattle.std.proofs.Common.{◌≡◌, ◌≢◌, inl, inr, ℕ, ◌+◌, ◌-◌, ◌≤◌, ◌<◌, Bool, true, false, List, ◌++◌}
use Rattle.std.proofs.Common.{length, take, drop, get_or, set, slice_get, Some, refl, sym, ap, subst, ◌∙◌, arith}
use Rattle.std.proofs.Math.Seq.{take-append_seam}
use Rattle.std.proofs.lemmas.Bool.{cases_lt}
use Rattle.std.proofs.lemmas.Bool.Decides.{eqb_tells}
use Rattle.std.proofs.lemmas.List.{length-set, get_or-set_same, get_or-set_other, get_or_past}
use Rattle.std.proofs.lemmas.Option.{same_Some, slice_get_within}
use Rattle.sd_file.specs.Built.{IsMarked, AreBothMarked, AreReached, HasMarked}
use Rattle.sd_file.specs.Files.{IsEarlier, entry_pairs}
use Rattle.sd_file.specs.Reads.{File}

-- ---- one mark more

-- the node has it
marked_here : (marks : List Bool) (i : ℕ) → i < length marks → IsMarked (set marks i true) i
marked_here marks i below = get_or-set_same marks i true false below

-- what had a mark keeps it
mark_keeps : (marks : List Bool) (i n : ℕ) → i < length marks → IsMarked marks n → IsMarked (set marks i true) n
mark_keeps marks i n below h = elim (eqb_tells n i) [
  | inl same ↦ subst (IsMarked (set marks i true)) (sym same.1) (marked_here marks i below)
  | inr other ↦ get_or-set_other marks i n true false other.1 ∙ h
]

-- no other node gets one
mark_alone : (marks : List Bool) (i n : ℕ) → n ≢ i → IsMarked (set marks i true) n → IsMarked marks n
mark_alone marks i n other h = sym (get_or-set_other marks i n true false other) ∙ h

-- ---- the pairs of a node

-- none yet
pub marked_none : (f : File) (index : ℕ) (marks : List Bool) → HasMarked f index 0 marks marks
marked_none f index marks = record {
  size = refl;
  more = λ n h. h;
  above = λ n from h. h;
  children = λ element pair below at. absurd (omega (arith, below));
}

-- one pair more
pub marked_pair : (f : File) (index i : ℕ) (old mid : List Bool) (pair : ℕ × ℕ) → index < length old
    → slice_get (entry_pairs f index) i ≡ Some pair → IsEarlier index pair → HasMarked f index i old mid
    → HasMarked f index (i + 1) old (set (set mid pair.0 true) pair.1 true)
marked_pair f index i old mid pair below at earlier k =
    record { size = longer ∙ k.size; more = λ n h. keeps n (k.more n h); above = above; children = children }
  where
    first : pair.0 < length mid
    first = omega (arith, k.size, below, earlier.prime)

    second : pair.1 < length (set mid pair.0 true)
    second = omega (arith, length-set mid pair.0 true, k.size, below, earlier.sub)

    longer : length (set (set mid pair.0 true) pair.1 true) ≡ length mid
    longer = length-set (set mid pair.0 true) pair.1 true ∙ length-set mid pair.0 true

    keeps : (n : ℕ) → IsMarked mid n → IsMarked (set (set mid pair.0 true) pair.1 true) n
    keeps n h = mark_keeps (set mid pair.0 true) pair.1 n second (mark_keeps mid pair.0 n first h)

    above : (n : ℕ) → index ≤ n → IsMarked (set (set mid pair.0 true) pair.1 true) n → IsMarked old n
    above n from h =
        k.above n from
        (mark_alone mid pair.0 n (λ same. omega (arith, from, earlier.prime, same))
        (mark_alone (set mid pair.0 true) pair.1 n (λ same. omega (arith, from, earlier.sub, same)) h))

    here : AreBothMarked (set (set mid pair.0 true) pair.1 true) pair
    here = record {
      prime = mark_keeps (set mid pair.0 true) pair.1 pair.0 second (marked_here mid pair.0 first);
      sub = marked_here (set mid pair.0 true) pair.1 second;
    }

    children : (element : ℕ) (other : ℕ × ℕ) → element < i + 1 → slice_get (entry_pairs f index) element ≡ Some other
        → AreBothMarked (set (set mid pair.0 true) pair.1 true) other
    children element other lt there = elim (cases_lt element i) [
      | inl before ↦
          let marked = k.children element other before there in
          record { prime = keeps other.0 marked.prime; sub = keeps other.1 marked.sub }
      | inr last ↦
          let same : i ≡ element = omega (arith, lt, last) in
          subst (AreBothMarked (set (set mid pair.0 true) pair.1 true))
          (same_Some pair other (sym at ∙ ap (slice_get (entry_pairs f index)) same ∙ there)) here
    ]

-- ---- the nodes of a file

-- the last node alone
pub reached_last : (f : File) (marks : List Bool) (end : ℕ) → length marks ≡ length f.nodes
    → end + 1 ≡ length f.nodes → AreReached f (length f.nodes) (set marks end true)
reached_last f marks end size is = record {
  size = length-set marks end true ∙ size;
  last = λ index last. subst (IsMarked (set marks end true)) (omega (arith, is, last))
      (marked_here marks end (omega (arith, size, is)));
  children = λ index element pair from h at. absurd (cc (sym h ∙ past index from));
}
  where
    past : (index : ℕ) → length f.nodes ≤ index → get_or (set marks end true) index false ≡ false
    past index from =
        get_or_past (set marks end true) index false (omega (arith, length-set marks end true, size, from))

-- a node whose children got marks
pub reached_marked : (f : File) (index : ℕ) (old new : List Bool) → AreReached f (index + 1) old
    → HasMarked f index (length (entry_pairs f index)) old new → AreReached f index new
reached_marked f index old new reached k =
    record { size = k.size ∙ reached.size; last = λ n last. k.more n (reached.last n last); children = children }
  where
    children : (n element : ℕ) (pair : ℕ × ℕ) → index ≤ n → IsMarked new n
        → slice_get (entry_pairs f n) element ≡ Some pair → AreBothMarked new pair
    children n element pair from h at = elim (cases_lt index n) [
      | inl later ↦
          let marked = reached.children n element pair (omega (arith, later)) (k.above n from h) at in
          record { prime = k.more pair.0 marked.prime; sub = k.more pair.1 marked.sub }
      | inr here ↦
          let same : n ≡ index = omega (arith, from, here) in
          let there = subst (λ j. slice_get (entry_pairs f j) element ≡ Some pair) same at in
          k.children element pair (slice_get_within (entry_pairs f index) element pair there) there
    ]

-- the same, where the marks were lent and written back
pub reached_written : (f : File) (index count size : ℕ) (old new : List Bool) → 0 < count → index ≡ count - 1
    → length old ≡ size → AreReached f count old → HasMarked f index (length (entry_pairs f index)) old new
    → AreReached f index (take size (new ++ drop (length new) old))
reached_written f index count size old new some is all reached k =
    let whole : take size (new ++ drop (length new) old) ≡ new =
    ap (λ n. take n (new ++ drop (length new) old)) (sym (k.size ∙ all))
    ∙ take-append_seam new (drop (length new) old) in
    subst (AreReached f index) (sym whole)
    (reached_marked f index old new (subst (λ n. AreReached f n old) (omega (arith, some, is)) reached) k)

-- a node without a mark
pub reached_other : (f : File) (index : ℕ) (marks : List Bool) → AreReached f (index + 1) marks
    → get_or marks index false ≡ false → AreReached f index marks
reached_other f index marks reached none =
    record { size = reached.size; last = reached.last; children = children }
  where
    children : (n element : ℕ) (pair : ℕ × ℕ) → index ≤ n → IsMarked marks n
        → slice_get (entry_pairs f n) element ≡ Some pair → AreBothMarked marks pair
    children n element pair from h at = elim (cases_lt index n) [
      | inl later ↦ reached.children n element pair (omega (arith, later)) h at
      | inr here ↦
          let same : n ≡ index = omega (arith, from, here) in
          absurd (cc (sym h ∙ ap (λ j. get_or marks j false) same ∙ none))
    ]
