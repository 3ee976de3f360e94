-- The numbers of codes are the places of the diagrams that they show.
use Rattle.std.proofs.Common.{◌≡◌, inl, inr, ℕ, suc, ◌-◌, ◌<◌, ◌^◌, Bool, true, false, ◌||◌, ◌==◌}
use Rattle.std.proofs.Common.{Option, Some, None, List, [], ◌∷◌, ◌++◌, length}
use Rattle.std.proofs.Common.{refl, sym, ◌∙◌, ap, subst, arith, length-append}
use Rattle.std.specs.List.{AllByRecursion}
use Rattle.std.specs.Option.{IsSome}
use Rattle.std.specs.FinMap.{get}
use Rattle.std.proofs.lemmas.Bool.{cases_eq, eq-eqb, ne_eqb}
use Rattle.sd_model.specs.Diagram.{Diagram, Elements, End, Pair}
use Rattle.sd_model.specs.Canonical.{IsElement, first, later}
use Rattle.sd_model.specs.Size.{is_same}
use Rattle.sd_model.specs.Listing.{is_among}
use Rattle.sd_model.specs.Text.{index_of, element_words, node_words}
use Rattle.sd_model.proofs.Adding.{is_among_append, equal_from_same}
use Rattle.sd_model.proofs.ClosedLists.{ChildrenAmong}
use Rattle.sd_laws.specs.Shown.{ShowElements}
use Rattle.sd_laws.proofs.Codes.{one_diagram}
use Rattle.sd_laws.proofs.Codes as codes
use Rattle.sd_laws.proofs.Nodes.{code_of_node}
use Rattle.sd_manager.specs.Table.{Table}
use Rattle.sd_manager.specs.Shown.{Shows}
use Rattle.sd_manager.specs.Valid.{IsTable}
use Rattle.sd_manager.proofs.Reading.{linked_key}
use Rattle.sd_file.specs.declared.lines.Listing.{Listing}
use Rattle.sd_file.specs.declared.numbers.Numbers.{Numbers}
use Rattle.sd_file.specs.Numbers.{mark_at, CanGive, HasNextNumber, HaveNumbers, pair_words}
use Rattle.sd_file.specs.Lines.{mark_in, AreNumbered, HasNodeLines, HasNodeLine}
use Rattle.sd_file.proofs.Complete.{among_more, among_last, complete_push, index_kept, index_last, lines_push}

-- the mark of a new diagram
mark_last : (ds : List Diagram) (d : Diagram) → is_among d ds ≡ false → mark_in (ds ++ d ∷ []) d ≡ suc (length ds)
mark_last ds d h = rw (among_last ds d) (ap suc (index_last d ds h))

-- the marks of others stay
mark_kept : (ds : List Diagram) (d x : Diagram) → (x ≡ d → ⊥) → mark_in (ds ++ d ∷ []) x ≡ mark_in ds x
mark_kept ds d x differ = go (is_among x ds) refl
  where
    lacks : (b : Bool) → is_same x d ≡ b → (b || false) ≡ false
    lacks true e = absurd (differ (equal_from_same x d e))
    lacks false e = refl

    go : (b : Bool) → is_among x ds ≡ b → mark_in (ds ++ d ∷ []) x ≡ mark_in ds x
    go true e = rw (among_more x ds (d ∷ []) e, e) (ap suc (index_kept x ds (d ∷ []) e))
    go false e = rw (is_among_append x ds (d ∷ []), e, lacks (is_same x d) refl)

-- the numbers of one diagram more
pub numbered_more : (t : Table) → IsTable t → (old new : Numbers) (c : ℕ) (d : Diagram) (ds : List Diagram) →
    Shows t c d → AreNumbered t old ds → is_among d ds ≡ false → HasNextNumber old new c
    → AreNumbered t new (ds ++ d ∷ [])
numbered_more t table old new c d ds shown h lacks given =
    record {
      marks = λ b x k. elim (cases_eq b c) [
        | inl same ↦
            let is : d ≡ x = one_diagram t.vtree (get t.linked) table.numbered d c x shown
            (subst (λ y. Shows t y x) same k) in
            let test : (b == c) ≡ true = eq-eqb b c same in
            given.marks b ∙ rw test (omega (arith, h.count))
            ∙ sym (mark_last ds d lacks) ∙ ap (mark_in (ds ++ d ∷ [])) is
        | inr differ ↦
            let test : (b == c) ≡ false = ne_eqb b c differ in
            given.marks b ∙ rw test (h.marks b x k) ∙ sym (mark_kept ds d x (λ e. differ (one_code b x k e)))
      ];
      count = omega (arith, given.count, h.count, length-append ds (d ∷ []));
      room = given.room;
    }
  where
    one_code : (b : ℕ) (x : Diagram) → Shows t b x → x ≡ d → b ≡ c
    one_code b x k e = codes.one_code t.vtree (get t.linked) table.keys d b c (subst (Shows t b) e k) shown

-- the code of a new diagram can get a number
pub can_give : (t : Table) → IsTable t → (numbers : Numbers) (c : ℕ) (d : Diagram) (ds : List Diagram) →
    Shows t c d → AreNumbered t numbers ds → is_among d ds ≡ false → CanGive numbers c
can_give t table numbers c d ds shown h lacks =
    record { none = h.marks c d shown ∙ rw lacks; low = low; room = h.room }
  where
    within : (n : ℕ) (o : Option (ℕ × List (ℕ × ℕ))) → get t.linked n ≡ o → IsSome o → n < 2 ^ 31
    within n None e s = cc
    within n (Some k) e s =
        omega (arith, table.within n k (linked_key t n k e), table.records_fit, table.bounded, table.bound_fits)

    low : c < 2 ^ 32 - 1
    low = elim (code_of_node t.vtree (get t.linked) table.numbered c d shown) [
      | inl small ↦ omega (arith, small, table.numbered.within_limit)
      | inr k ↦ omega (arith, k.1, within k.0 (get t.linked k.0) refl k.2)
    ]

-- what stands among the complete ones has a number
pub has_number : (t : Table) (numbers : Numbers) (ds : List Diagram) → AreNumbered t numbers ds → (c : ℕ)
    (d : Diagram) → Shows t c d → is_among d ds ≡ true → mark_at numbers c ≡ suc (index_of d ds)
has_number t numbers ds h c d shown there = h.marks c d shown ∙ rw there

-- the codes of primes and subs that are there have numbers
pub have_numbers : (t : Table) (numbers : Numbers) (ds : List Diagram) → AreNumbered t numbers ds →
    (l : List (ℕ × ℕ)) (es : Elements) → ShowElements t.vtree (get t.linked) l es →
    ((p s : Diagram) → IsElement p s es → (is_among p ds ≡ true) × (is_among s ds ≡ true)) →
    AllByRecursion (HaveNumbers numbers) l
have_numbers t numbers ds h [] es shown there = tt
have_numbers t numbers ds h (e ∷ l) End shown there = absurd shown
have_numbers t numbers ds h (e ∷ l) (Pair p s rest) shown there = (
  (
    omega (arith, has_number t numbers ds h e.0 p shown.0 (there p s first).0),
    omega (arith, has_number t numbers ds h e.1 s shown.1 (there p s first).1),
  ),
  have_numbers t numbers ds h l rest shown.2 (λ x y m. there x y (later m)),
)

-- and their words are those of the elements
pub words_are : (t : Table) (numbers : Numbers) (ds : List Diagram) → AreNumbered t numbers ds →
    (l : List (ℕ × ℕ)) (es : Elements) → ShowElements t.vtree (get t.linked) l es →
    ((p s : Diagram) → IsElement p s es → (is_among p ds ≡ true) × (is_among s ds ≡ true)) →
    pair_words numbers l ≡ element_words ds es
words_are t numbers ds h [] End shown there = refl
words_are t numbers ds h [] (Pair p s rest) shown there = absurd shown
words_are t numbers ds h (e ∷ l) End shown there = absurd shown
words_are t numbers ds h (e ∷ l) (Pair p s rest) shown there =
    let prime : mark_at numbers e.0 - 1 ≡ index_of p ds =
    omega (arith, has_number t numbers ds h e.0 p shown.0 (there p s first).0) in
    let sub : mark_at numbers e.1 - 1 ≡ index_of s ds =
    omega (arith, has_number t numbers ds h e.1 s shown.1 (there p s first).1) in
    rw (prime, sub, words_are t numbers ds h l rest shown.2 (λ x y m. there x y (later m)))

-- the line of a new diagram
pub line_written : (t : Table) → IsTable t → (old new : Listing) (c : ℕ) (d : Diagram) (ds : List Diagram) →
    Shows t c d → HasNodeLines t old ds → is_among d ds ≡ false → ChildrenAmong ds d → (words : List (List ℕ)) →
    HasNodeLine old new c words → words ≡ node_words (ds ++ d ∷ []) d → HasNodeLines t new (ds ++ d ∷ [])
line_written t table old new c d ds shown h lacks children words line is =
    record {
      numbered = numbered_more t table old.numbers new.numbers c d ds shown h.numbered lacks line.given;
      complete = complete_push ds d h.complete children;
      text = line.text ∙ rw (h.text, is) (sym (lines_push ds d h.complete));
    }
