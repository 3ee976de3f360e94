-- The index of an id after one more id.
use Rattle.std.proofs.Common.{◌≡◌, ℕ, ◌+◌, Bool, true, false, not, cond, eqb, ltb, List, [], ◌∷◌, ◌++◌, length}
use Rattle.std.proofs.Common.{Option, Some, None, refl, sym, ap, ◌∙◌, arith, inl, inr}
use Rattle.std.specs.List.{position, position_or_len}
use Rattle.std.proofs.lemmas.List.{length_push}
use Rattle.std.proofs.lemmas.List.Folds.{position_or_len_push}
use Rattle.std.proofs.lemmas.List.Sums.{prefix_len-le-length}
use Rattle.std.proofs.lemmas.Bool.{cases_Bool, cases_lt, lt-ltb, le-ltb, eq-eqb, ne_eqb, eqb-true}
use Rattle.std.proofs.lemmas.Bool.Decides.{nat_tests}
use Rattle.std.specs.Ordering.{nat_cmp}
use Rattle.std.specs.BTreeMap.{is_at}
use Rattle.sd_file.specs.Reads.{index_of_id}

-- the first place in a list with one more element
push_index : {X : Type 0} (p : X → Bool) (xs : List X) (x : X)
    → position p (xs ++ x ∷ []) ≡ cond (ltb (position_or_len p xs) (length xs)) (position p xs)
    (cond (p x) (Some (length xs)) None)
push_index p xs x = elim (cases_lt (position_or_len p xs) (length xs)) [
  | inl found ↦
      let apart : eqb (position_or_len p xs) (length xs) ≡ false = ne_eqb _ _ (λ e. omega arith) in
      let index : position_or_len p (xs ++ x ∷ []) ≡ position_or_len p xs =
      position_or_len_push p xs x ∙ rw apart refl in
      let inside : ltb (position_or_len p xs) (length xs + 1) ≡ true = lt-ltb _ _ (omega arith) in
      rw (length_push xs x, index, inside, lt-ltb _ _ found) refl
  | inr past ↦
      let same : position_or_len p xs ≡ length xs = omega (arith, prefix_len-le-length (λ y. not (p y)) xs) in
      let index : position_or_len p (xs ++ x ∷ []) ≡ length xs + cond (p x) 0 1 =
      position_or_len_push p xs x ∙ rw (eq-eqb _ _ same) refl in
      rw (length_push xs x, index, le-ltb _ _ past) (at (p x) (length xs))
]
  where
    at : (b : Bool) (n : ℕ) → cond (ltb (n + cond b 0 1) (n + 1)) (Some (n + cond b 0 1)) None ≡ cond b (Some n) None
    at true n = grind arith
    at false n = grind arith

-- a new id has the place behind the others
pub index_push : (q : ℕ) (ids : List ℕ) (id : ℕ) → index_of_id id ids ≡ None
    → index_of_id q (ids ++ id ∷ []) ≡ cond (eqb id q) (Some (length ids)) (index_of_id q ids)
index_push q ids id fresh =
    let p : ℕ → Bool = λ x. eqb x q in
    push_index p ids id ∙ elim (cases_lt (position_or_len p ids) (length ids)) [
      | inl found ↦
          let some : index_of_id q ids ≡ Some (position_or_len p ids) = rw (lt-ltb _ _ found) refl in
          elim (cases_Bool (eqb id q)) [
            | inl same ↦
                let none : index_of_id q ids ≡ None = ap (λ k. index_of_id k ids) (sym (eqb-true id q same)) ∙ fresh in
                absurd cc
            | inr other ↦ rw (lt-ltb _ _ found, other) refl
          ]
      | inr past ↦ rw (le-ltb _ _ past) refl
    ]

-- two tests of one number
is_at_eqb : (k q : ℕ) → is_at (nat_cmp k) q ≡ eqb k q
is_at_eqb k q = grind (arith, nat_tests)

-- what the map has after an insert, against the places after a push
pub still_indexed : (q id n : ℕ) (ids later : List ℕ) (before after : Option ℕ) → index_of_id id ids ≡ None
    → n ≡ length ids → later ≡ ids ++ id ∷ [] → before ≡ index_of_id q ids
    → after ≡ cond (is_at (nat_cmp id) q) (Some n) before → after ≡ index_of_id q later
still_indexed q id n ids later before after fresh n_is later_is before_is after_is =
    let new : index_of_id q later ≡ cond (eqb id q) (Some (length ids)) (index_of_id q ids) =
    ap (index_of_id q) later_is ∙ index_push q ids id fresh in
    after_is ∙ rw (is_at_eqb id q, n_is, before_is) (sym new)
