-- The values of codes, computed from the lists: as deep as the vtree they are the meanings of what is shown.
use Rattle.std.proofs.Common.{◌≡◌, inl, inr, ℕ, zero, suc, ◌+◌, ◌-◌, ◌*◌, ◌/◌, ◌%◌, ◌≤◌, ◌<◌, Bool, true, false}
use Rattle.std.proofs.Common.{◌&&◌, ◌||◌, List, [], ◌∷◌, Option, Some, None, refl, sym, ◌∙◌, ap, arith, ne_eqb}
use Rattle.std.specs.Prelude.{not, ◌==◌, nat_lt, if◌then◌else◌}
use Rattle.std.proofs.lemmas.Bool.{lt-ltb, le-ltb}
use Rattle.std.specs.List.Sorted.{IsPermutation}
use Rattle.std.proofs.lemmas.List.Sorted.{IsPermutation-sym}
use Rattle.sd_model.specs.Assignment.{value_in}
use Rattle.sd_model.specs.Diagram.{Diagram, Bottom, Top, Literal, Decomposition, Elements, End, Pair}
use Rattle.sd_model.specs.Diagram.{meaning, some_element}
use Rattle.sd_vtree.specs.Numbered.{Numbered, plain_tree, IsNumbered}
use Rattle.sd_laws.specs.Depth.{depth, depth_of}
use Rattle.sd_laws.specs.Shown.{Lookup, literal_code, HasPairs, Shows, ShowElements, ShowsCanonical}
use Rattle.sd_laws.specs.Values.{Valuation, IsSame, pairs_value, GivesLiterals, ShowsValue}
use Rattle.sd_laws.proofs.Lists.{IsAmong, IsWithin, within_permuted}
use Rattle.sd_laws.proofs.Codes.{leaf_range}
use Rattle.sd_laws.proofs.Depths.{depth_canonical}

-- values by recursion

-- the value of a node with a key
abbrev key_value : Valuation → Option (ℕ × List (ℕ × ℕ)) → List Bool → Bool
key_value v None a = false
key_value v (Some key) a = pairs_value v key.1 a

-- the value of the literal with a code
abbrev literal_value : ℕ → List Bool → Bool
literal_value c a = if c % 2 == 0 then value_in a (c / 2) else not (value_in a (c / 2))

-- the value of a code, where its lists are followed so many levels down
abbrev value_with : ℕ → Lookup → Valuation
value_with zero at c a = false
value_with (suc k) at c a =
    if c == 0 then false
    else (if c == 1 then true
    else (if nat_lt c 2050 then literal_value c a
    else key_value (value_with k at) (at (c - 2050)) a))

-- a list in another order

-- a pair that is true
record IsTruePair (v : Valuation) (l : List (ℕ × ℕ)) (a : List Bool) : Type 0 where
  pub pair : ℕ × ℕ
  pub among : IsAmong pair l
  pub holds : (v pair.0 a && v pair.1 a) ≡ true

-- a true list has one
true_pair : (v : Valuation) (l : List (ℕ × ℕ)) (a : List Bool) → pairs_value v l a ≡ true → IsTruePair v l a
true_pair v [] a e = absurd (cc)
true_pair v (x ∷ l) a e = go (true_pair v l a) (v x.0 a && v x.1 a) refl
  where
    go : (pairs_value v l a ≡ true → IsTruePair v l a) → (b : Bool) → (v x.0 a && v x.1 a) ≡ b → IsTruePair v (x ∷ l) a
    go more true h = record { pair = x; among = inl refl; holds = h }
    go more false h =
        let f : pairs_value v l a ≡ true = rw h at e in
        let i : IsTruePair v l a = more f in
        record { pair = i.pair; among = inr i.among; holds = i.holds }

-- and one makes the list true
pair_true : (v : Valuation) (l : List (ℕ × ℕ)) (a : List Bool) (e : ℕ × ℕ) → IsAmong e l →
    (v e.0 a && v e.1 a) ≡ true → pairs_value v l a ≡ true
pair_true v [] a e m h = absurd m
pair_true v (x ∷ l) a e (inl k) h =
    let f : (v x.0 a && v x.1 a) ≡ true = ap (λ (z : ℕ × ℕ). v z.0 a && v z.1 a) (sym k) ∙ h in rw f refl
pair_true v (x ∷ l) a e (inr m) h = or_true (v x.0 a && v x.1 a) (pairs_value v l a) (pair_true v l a e m h)
  where
    or_true : (b c : Bool) → c ≡ true → (b || c) ≡ true
    or_true true c h = refl
    or_true false c h = h

-- so a list with the same pairs has the same value
pub value_within : (v : Valuation) (l k : List (ℕ × ℕ)) (a : List Bool) → IsWithin l k → IsWithin k l →
    pairs_value v l a ≡ pairs_value v k a
value_within v l k a there back =
    both_ways (pairs_value v l a) (pairs_value v k a)
    (λ e. let i : IsTruePair v l a = true_pair v l a e in pair_true v k a i.pair (there i.pair i.among) i.holds)
    (λ e. let i : IsTruePair v k a = true_pair v k a e in pair_true v l a i.pair (back i.pair i.among) i.holds)
  where
    both_ways : (b c : Bool) → (b ≡ true → c ≡ true) → (c ≡ true → b ≡ true) → b ≡ c
    both_ways true c f g = sym (f refl)
    both_ways false true f g = g refl
    both_ways false false f g = refl

-- a list in another order has the same value
pub value_permuted : (v : Valuation) (l k : List (ℕ × ℕ)) (a : List Bool) → IsPermutation l k →
    pairs_value v l a ≡ pairs_value v k a
value_permuted v l k a h =
    value_within v l k a (within_permuted k l (IsPermutation-sym l k h)) (within_permuted l k h)

-- constants and literals

-- the value of a literal's code
literal_computed : (k : ℕ) (at : Lookup) (p x : ℕ) (s : Bool) (a : List Bool) → 1 ≤ x → x ≤ 1024 →
    value_with (suc k) at (literal_code x s) a ≡ meaning (Literal p x s) a
literal_computed k at p x true a low high =
    rw (
      ne_eqb (2 * x) 0 (λ e. absurd (omega arith)),
      ne_eqb (2 * x) 1 (λ e. absurd (omega arith)),
      lt-ltb (2 * x) 2050 (omega arith),
      (let e : (2 * x) % 2 ≡ 0 = omega arith in e),
      (let e : (2 * x) / 2 ≡ x = omega arith in e),
    ) refl
literal_computed k at p x false a low high =
    rw (
      ne_eqb (2 * x + 1) 0 (λ e. absurd (omega arith)),
      ne_eqb (2 * x + 1) 1 (λ e. absurd (omega arith)),
      lt-ltb (2 * x + 1) 2050 (omega arith),
      (let e : (2 * x + 1) % 2 ≡ 1 = omega arith in e),
      (let e : (2 * x + 1) / 2 ≡ x = omega arith in e),
    ) refl

-- nodes

-- the value of a node's code
node_computed : (k : ℕ) (at : Lookup) (c n u : ℕ) (l : List (ℕ × ℕ)) (a : List Bool) → c ≡ 2050 + n →
    at n ≡ Some (u, l) → value_with (suc k) at c a ≡ pairs_value (value_with k at) l a
node_computed k at c n u l a code stored =
    let number : c - 2050 ≡ n = omega arith in
    let key : at (c - 2050) ≡ Some (u, l) = ap at number ∙ stored in
    rw (
      ne_eqb c 0 (λ e. absurd (omega arith)),
      ne_eqb c 1 (λ e. absurd (omega arith)),
      le-ltb c 2050 (omega arith),
      key,
    ) refl

mutual
  -- the value of a code, followed further down than its diagram is deep, is the diagram's meaning
  pub computed : (t : Numbered) (at : Lookup) → IsNumbered t → (d : Diagram) (k c : ℕ) (a : List Bool) →
      Shows t at c d → depth d < k → value_with k at c a ≡ meaning d a
  computed t at n d zero c a h lt = absurd (omega arith)
  computed t at n Bottom (suc k) c a h lt = ap (λ z. value_with (suc k) at z a) h
  computed t at n Top (suc k) c a h lt = ap (λ z. value_with (suc k) at z a) h
  computed t at n (Literal p x s) (suc k) c a h lt =
      let within_limit = n.within_limit in
      let r = leaf_range (plain_tree t) n.vtree 0 x p h.1 in
      ap (λ z. value_with (suc k) at z a) h.0
      ∙ literal_computed k at p x s a r.0 (omega (arith, r.1, within_limit))
  computed t at n (Decomposition p es) (suc k) c a h lt =
      let i : HasPairs t at c p h.0 = h.1 in
      node_computed k at c i.number i.place i.list a i.code i.stored
      ∙ value_permuted (value_with k at) i.list h.0 a i.order
      ∙ elements_computed t at n es h.0 k a h.2 (omega arith)

  -- and so is that of a list of pairs
  elements_computed : (t : Numbered) (at : Lookup) → IsNumbered t → (es : Elements) (l : List (ℕ × ℕ)) (k : ℕ)
      (a : List Bool) → ShowElements t at l es → depth_of es < k → pairs_value (value_with k at) l a ≡ some_element es a
  elements_computed t at n End [] k a h lt = refl
  elements_computed t at n End (e ∷ l) k a h lt = absurd h
  elements_computed t at n (Pair p s rest) [] k a h lt = absurd h
  elements_computed t at n (Pair p s rest) (e ∷ l) k a h lt =
      let x : depth p < k = omega arith in
      let y : depth s < k = omega arith in
      let z : depth_of rest < k = omega arith in
      rw (
        computed t at n p k e.0 a h.0 x,
        computed t at n s k e.1 a h.1 y,
        elements_computed t at n rest l k a h.2 z,
      ) refl

-- the valuation of a table, whose vtree has at most 1,024 variables
abbrev pub value_of : Lookup → Valuation
value_of at = value_with 1025 at

-- it gives constants and literals their values
pub literals_given : (at : Lookup) → GivesLiterals (value_of at)
literals_given at =
    record {
      bottom = λ a. refl;
      top = λ a. refl;
      literal = λ p x s low high a. literal_computed 1024 at p x s a low high;
    }

-- and each code the value of the canonical diagram that it shows
pub value_of_shown : (t : Numbered) (at : Lookup) → IsNumbered t → (c : ℕ) (d : Diagram) → ShowsCanonical t at c d →
    IsSame (meaning d) (value_of at c)
value_of_shown t at n c d h a =
    let within_limit = n.within_limit in
    let deep = depth_canonical h.canonical in
    sym (computed t at n d 1025 c a h.shows (omega (arith, deep, within_limit)))

-- so it shows its value
pub evaluated : (t : Numbered) (at : Lookup) → IsNumbered t → (c : ℕ) (d : Diagram) → ShowsCanonical t at c d →
    ShowsValue t at (value_of at) c
evaluated t at n c d h = record { diagram = d; is = h; value = value_of_shown t at n c d h }
