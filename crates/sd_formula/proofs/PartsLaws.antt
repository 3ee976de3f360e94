-- The parts that a reader keeps are the groups of the whole list of words between zeros.
use Rattle.std.proofs.Common.{◌≡◌, ℕ, suc, ◌==◌, ◌<◌, Bool, true, false, not, ◌&&◌, List, [], ◌∷◌, ◌++◌, length}
use Rattle.std.proofs.Common.{if◌then◌else◌}
use Rattle.std.proofs.Common.{ℤ, unsigned_abs, ltb, Option, Some, None, ok_or, Result, Ok, Err}
use Rattle.std.proofs.Common.{refl, sym, ap, subst, ◌∙◌, append_assoc, arith, inl, inr}
use Rattle.std.specs.Prelude.{codes, bytes_eq}
use Rattle.std.specs.List.{slice_split, onto_first}
use Rattle.std.specs.Option.{option_map_or}
use Rattle.std.proofs.lemmas.List.{append-nil}
use Rattle.std.proofs.lemmas.Bool.{cases_Bool, and_parts, not-true, not-false, not_from_false, eqb-true, ltb-true}
use Rattle.std.proofs.lemmas.Slice.Eq.{bytes_eq-Decides}
use Rattle.sd_base.specs.Numbers.{integer_value}
use Rattle.sd_base.specs.Reading.{◌>>=◌, ◌>>◌, fault_if, each}
use Rattle.sd_base.proofs.Pieces.{split_is_filled}
use Rattle.sd_model.specs.Expression.{Group}
use Rattle.sd_formula.specs.declared.error.FormulaError.TheVariants.{BadWord, LiteralRange}
use Rattle.sd_formula.specs.declared.formula.Kind.{Kind}
use Rattle.sd_formula.specs.declared.formula.Kind.TheVariants.{Cnf, Dnf}
use Rattle.sd_formula.specs.Dimacs.{BodyWord, literal_of_word, group_of, has_begun, formula_fault_text}
use Rattle.sd_formula.specs.Dimacs.{is_mark, is_zero, is_end_word}
use Rattle.sd_formula.specs.Steps.{Parts, no_group, no_parts, ended, put_literal}
use Rattle.sd_formula.specs.Steps.{put_word, put_words, all_groups}

-- a number that is a zero
abbrev pub ends : Option ℤ → Bool
ends z = option_map_or is_zero z false

abbrev pub done : {A : Type 0} → A → Result A (List ℕ)
done x = Ok x

-- the literal, or the zero, of what was read of a word of a line
abbrev pub in_range : ℕ → ℕ → Option ℤ → Result ℤ (List ℕ)
in_range v line read =
    ok_or read (formula_fault_text (BadWord line))
    >>= λ z. fault_if (ltb v (unsigned_abs z)) (formula_fault_text (LiteralRange line z)) >> Ok z

-- ---- the group in hand, and the words behind it

-- a group that has not begun has nothing
not_begun : (o : Group) → has_begun o ≡ false → o ≡ no_group
not_begun o h = go o.exclusive o.literals h
  where
    go : (b : Bool) (zs : List ℤ) → has_begun (record { exclusive = b; literals = zs }) ≡ false
        → record { exclusive = b; literals = zs } ≡ no_group
    go true zs h = absurd cc
    go false [] h = refl
    go false (z ∷ zs) h = absurd (omega (arith, eqb-true (suc (length zs)) 0 (not-false (suc (length zs) == 0) h)))

-- with one literal more a group has begun
begun_more : (b : Bool) (zs : List ℤ) (z : ℤ)
    → has_begun (record { exclusive = b; literals = zs ++ z ∷ [] }) ≡ true
begun_more true zs z = refl
begun_more false [] z = refl
begun_more false (x ∷ zs) z =
    let more = length (zs ++ z ∷ []) in
    not_from_false (suc more == 0) (not_zero_length more)
  where
    not_zero_length : (n : ℕ) → (suc n == 0) ≡ false
    not_zero_length n = elim (cases_Bool (suc n == 0)) [
      | inl is ↦ absurd (omega (arith, eqb-true (suc n) 0 is))
      | inr other ↦ other
    ]

-- the words as further literals of a group
abbrev literals_behind : ℕ → Group → List BodyWord → Result Group (List ℕ)
literals_behind v o words =
    each (literal_of_word v) words >>= λ zs. Ok (record { exclusive = o.exclusive; literals = o.literals ++ zs })

-- the group in hand with the words up to the next zero
abbrev goes_on : Kind → ℕ → Group → List BodyWord → Result Group (List ℕ)
goes_on kind v o words = if has_begun o then literals_behind v o words else group_of kind v words

-- no words are left for it
goes_nowhere : (kind : Kind) (v : ℕ) (o : Group) → goes_on kind v o [] ≡ Ok o
goes_nowhere kind v o = elim (cases_Bool (has_begun o)) [
  | inl begun ↦
      rw begun (ap (λ zs. done (record { exclusive = o.exclusive; literals = zs })) (append-nil o.literals))
  | inr fresh ↦ rw fresh (ap done (sym (not_begun o fresh)))
]

-- where a mark might stand, there is none
unmarked : (a c : Bool) → (a && not c) ≡ false → c ≡ false → a ≡ false
unmarked true true h fresh = absurd cc
unmarked true false h fresh = absurd cc
unmarked false c h fresh = refl

-- a word that is no mark, or stands where none may, is a literal
go_literal : (kind : Kind) (v : ℕ) (o : Group) (w : BodyWord) (ws : List BodyWord)
    → (is_mark kind w && not (has_begun o)) ≡ false → goes_on kind v o (w ∷ ws) ≡ literals_behind v o (w ∷ ws)
go_literal kind v o w ws other = elim (cases_Bool (has_begun o)) [
  | inl begun ↦ rw begun refl
  | inr fresh ↦
      let plain = unmarked (is_mark kind w) (has_begun o) other fresh in
      let same = ap (λ g. literals_behind v g (w ∷ ws)) (sym (not_begun o fresh)) in
      rw (fresh, plain) same
]

-- ---- the parts so far, and the words behind them

-- the groups before, one more, and those after it
abbrev with_more : List Group → Result Group (List ℕ) → Result (List Group) (List ℕ)
    → Result (List Group) (List ℕ)
with_more closed r rs = r >>= λ g. rs >>= λ gs. Ok (closed ++ g ∷ gs)

-- the parts with the words behind them, which are cut at zeros
abbrev resumed : Kind → ℕ → Parts → List (List BodyWord) → Result (List Group) (List ℕ)
resumed kind v p [] = Ok p.closed
resumed kind v p (part ∷ parts) =
    with_more p.closed (goes_on kind v p.open_part part) (each (group_of kind v) parts)

-- a literal that was read is put before the others
literal_more : (kind : Kind) (v : ℕ) (p : Parts) (r : Result ℤ (List ℕ)) (part : List BodyWord)
    (parts : List (List BodyWord)) → ((z : ℤ) → r ≡ Ok z → is_zero z ≡ false)
    → ((r >>= λ z. done (put_literal p z)) >>= λ q. resumed kind v q (part ∷ parts))
    ≡ with_more p.closed ((r >>= λ z. each (literal_of_word v) part >>= λ zs. done (z ∷ zs)) >>= λ zs.
    done (record { exclusive = p.open_part.exclusive; literals = p.open_part.literals ++ zs }))
    (each (group_of kind v) parts)
literal_more kind v p (Err e) part parts other = refl
literal_more kind v p (Ok z) part parts other =
    rw (other z refl, begun_more p.open_part.exclusive p.open_part.literals z)
    (regroup (each (literal_of_word v) part))
  where
    regroup : (r : Result (List ℤ) (List ℕ)) →
        with_more p.closed (r >>= λ zs.
        done (record { exclusive = p.open_part.exclusive; literals = (p.open_part.literals ++ z ∷ []) ++ zs }))
        (each (group_of kind v) parts)
        ≡ with_more p.closed ((r >>= λ zs. done (z ∷ zs)) >>= λ zs.
        done (record { exclusive = p.open_part.exclusive; literals = p.open_part.literals ++ zs }))
        (each (group_of kind v) parts)
    regroup (Err e) = refl
    regroup (Ok zs) =
        ap (λ ys. with_more p.closed (Ok (record { exclusive = p.open_part.exclusive; literals = ys }))
        (each (group_of kind v) parts)) (append_assoc p.open_part.literals (z ∷ []) zs)

-- what was read of a word that ends no group is not zero
not_zero : (v line : ℕ) (o : Option ℤ) (z : ℤ) → ends o ≡ false → in_range v line o ≡ Ok z → is_zero z ≡ false
not_zero v line None z other e = absurd cc
not_zero v line (Some y) z other e = elim (cases_Bool (ltb v (unsigned_abs y))) [
  | inl past ↦ let refused : Err (formula_fault_text (LiteralRange line y)) ≡ Ok z = rw past at e in absurd cc
  | inr within ↦
      let same : done y ≡ done z = rw within at e in
      let is : y ≡ z = cc in
      subst (λ x. is_zero x ≡ false) is other
]

-- a word that ends no group is put before the others of its group
word_more : (kind : Kind) (v : ℕ) (p : Parts) (w : BodyWord) (part : List BodyWord) (parts : List (List BodyWord))
    → is_end_word w ≡ false
    → (put_word kind v p w >>= λ q. resumed kind v q (part ∷ parts)) ≡ resumed kind v p ((w ∷ part) ∷ parts)
word_more kind v p w part parts other = elim (cases_Bool (is_mark kind w && not (has_begun p.open_part))) [
  | inl both ↦
      let facts = and_parts (is_mark kind w) (not (has_begun p.open_part)) both in
      let fresh = not-true (has_begun p.open_part) facts.1 in
      let same = ap (λ g. with_more p.closed
      (literals_behind v (record { exclusive = true; literals = g.literals }) part)
      (each (group_of kind v) parts)) (not_begun p.open_part fresh) in
      rw (both, fresh, facts.0) same
  | inr plain ↦
      let read = literal_more kind v p (literal_of_word v w) part parts
      (λ z is. not_zero v w.line (integer_value w.bytes) z other is) in
      let behind = ap (λ g. with_more p.closed g (each (group_of kind v) parts))
      (go_literal kind v p.open_part w part plain) in
      rw plain (read ∙ sym behind)
]

-- ---- a zero

zero_read : (v line : ℕ) (o : Option ℤ) (p : Parts) → ends o ≡ true
    → (in_range v line o >>= λ z. done (put_literal p z)) ≡ Ok (ended p)
zero_read v line None p is = absurd cc
zero_read v line (Some z) p is = elim (cases_Bool (ltb v (unsigned_abs z))) [
  | inl past ↦ absurd (omega (arith, eqb-true (unsigned_abs z) 0 is, ltb-true v (unsigned_abs z) past))
  | inr within ↦ rw (within, is) refl
]

-- the mark ends no group
mark_ends_none : (kind : Kind) (w : BodyWord) → is_end_word w ≡ true → is_mark kind w ≡ false
mark_ends_none Dnf w at = refl
mark_ends_none Cnf w at = elim (cases_Bool (bytes_eq w.bytes (codes "x"))) [
  | inl mark ↦
      let is : w.bytes ≡ codes "x" = (bytes_eq-Decides w.bytes (codes "x")).0 mark in
      let fails : false ≡ true = subst (λ bytes. is_end_word (record { line = w.line; bytes = bytes }) ≡ true) is at in
      absurd cc
  | inr other ↦ other
]

-- a word that ends a group is put
end_put : (kind : Kind) (v : ℕ) (p : Parts) (w : BodyWord) → is_end_word w ≡ true → put_word kind v p w ≡ Ok (ended p)
end_put kind v p w is =
    rw (mark_ends_none kind w is) (zero_read v w.line (integer_value w.bytes) p is)

-- the groups behind a zero
end_more : (kind : Kind) (v : ℕ) (p : Parts) (parts : List (List BodyWord)) → 0 < length parts
    → resumed kind v (ended p) parts ≡ resumed kind v p ([] ∷ parts)
end_more kind v p [] h = absurd (omega arith)
end_more kind v p (part ∷ parts) h =
    go (group_of kind v part) (each (group_of kind v) parts)
    ∙ sym (ap (λ g. with_more p.closed g (each (group_of kind v) (part ∷ parts)))
    (goes_nowhere kind v p.open_part))
  where
    go : (r : Result Group (List ℕ)) (rs : Result (List Group) (List ℕ))
        → with_more (p.closed ++ p.open_part ∷ []) r rs
        ≡ with_more p.closed (Ok p.open_part) (r >>= λ g. rs >>= λ gs. done (g ∷ gs))
    go (Err e) rs = refl
    go (Ok g) (Err e) = refl
    go (Ok g) (Ok gs) = ap done (append_assoc p.closed (p.open_part ∷ []) (g ∷ gs))

-- ---- words that are put one after another

-- the words of the part in hand are in front
onto_more : (kind : Kind) (v : ℕ) (p : Parts) (w : BodyWord) (parts : List (List BodyWord)) → 0 < length parts
    → is_end_word w ≡ false
    → (put_word kind v p w >>= λ q. resumed kind v q parts) ≡ resumed kind v p (onto_first w parts)
onto_more kind v p w [] h other = absurd (omega arith)
onto_more kind v p w (part ∷ parts) h other = word_more kind v p w part parts other

-- the groups of the parts with these words
abbrev all_put : Kind → ℕ → Parts → List BodyWord → Result (List Group) (List ℕ)
all_put kind v p words = put_words kind v p words >>= λ q. Ok (all_groups q)

-- putting word by word is reading the parts between zeros
puts_are : (kind : Kind) (v : ℕ) (p : Parts) (words : List BodyWord)
    → all_put kind v p words ≡ resumed kind v p (slice_split is_end_word words)
puts_are kind v p [] = sym (ap (λ g. with_more p.closed g (Ok [])) (goes_nowhere kind v p.open_part))
puts_are kind v p (w ∷ ws) = elim (cases_Bool (is_end_word w)) [
  | inl is ↦
      let put = ap (λ r. r >>= (λ q. put_words kind v q ws) >>= λ q. done (all_groups q)) (end_put kind v p w is) in
      let later = puts_are kind v (ended p) ws in
      let behind = end_more kind v p (slice_split is_end_word ws) (split_is_filled is_end_word ws) in
      rw is (put ∙ later ∙ behind)
  | inr other ↦
      let later = after (put_word kind v p w) (λ q. puts_are kind v q ws) in
      let behind = onto_more kind v p w (slice_split is_end_word ws) (split_is_filled is_end_word ws) other in
      rw other (later ∙ behind)
]
  where
    after : (r : Result Parts (List ℕ))
        → ((q : Parts) → all_put kind v q ws ≡ resumed kind v q (slice_split is_end_word ws))
        → ((r >>= λ q. put_words kind v q ws) >>= λ q. done (all_groups q))
        ≡ (r >>= λ q. resumed kind v q (slice_split is_end_word ws))
    after (Ok q) shorter = shorter q
    after (Err e) shorter = refl

-- from the start on, they are the groups of all the words
from_none : (kind : Kind) (v : ℕ) (parts : List (List BodyWord)) → 0 < length parts
    → resumed kind v no_parts parts ≡ each (group_of kind v) parts
from_none kind v [] h = absurd (omega arith)
from_none kind v (part ∷ parts) h = refl

-- what comes after the words sees the groups of the whole list of words
pub by_parts : {Y : Type 0} (kind : Kind) (v : ℕ) (words : List BodyWord)
    (next : List Group → Result Y (List ℕ)) → (each (group_of kind v) (slice_split is_end_word words) >>= next)
    ≡ (put_words kind v no_parts words >>= λ p. next (all_groups p))
by_parts kind v words next =
    let filled = split_is_filled is_end_word words in
    let whole = puts_are kind v no_parts words ∙ from_none kind v (slice_split is_end_word words) filled in
    sym (ap (λ r. r >>= next) whole) ∙ at (put_words kind v no_parts words)
  where
    at : (r : Result Parts (List ℕ))
        → ((r >>= λ p. done (all_groups p)) >>= next) ≡ (r >>= λ p. next (all_groups p))
    at (Ok p) = refl
    at (Err e) = refl
