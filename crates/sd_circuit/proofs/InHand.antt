-- The stack of a search: an and-line more, one less, and a cycle.
use Rattle.std.proofs.Common.{◌≡◌, ℕ, zero, suc, ◌+◌, ◌-◌, ◌<◌, Bool, true, false, List, [], ◌∷◌, ◌++◌, length}
use Rattle.std.proofs.Common.{get_or, take, refl, sym, ◌∙◌, ap, subst, inl, inr, arith}
use Rattle.std.proofs.Math.ListN.{set}
use Rattle.std.proofs.lemmas.List.{length-set, length-take-le, get_or-take}
use Rattle.std.proofs.lemmas.Bool.{cases_eq}
use Rattle.sd_model.specs.Circuit.{AndLine}
use Rattle.sd_circuit.specs.Order.{Uses, reaches, defined_at}
use Rattle.sd_circuit.specs.Placing.{AreInHand, HasCycle, is_marked}
use Rattle.sd_circuit.proofs.Grown.{grown_length, grown_old, each_grown, stands_grown, last_stands}
use Rattle.sd_circuit.proofs.Grown.{once_grown, set_marked, set_stays, set_either, set_unmarked, set_other}
use Rattle.sd_circuit.proofs.Paths.{reaches_here, reaches_use, leads_from}

-- an and-line that the top one uses comes above it
pub hand_more : (ands : List AndLine) (stack : List ℕ) (met placed : List Bool) (k : ℕ)
    → AreInHand ands stack met placed → k < length ands → is_marked met k ≡ false → is_marked placed k ≡ false
    → ((i : ℕ) → suc i ≡ length stack → Uses ands (get_or stack i 0) k)
    → AreInHand ands (stack ++ k ∷ []) (set met k true) placed
hand_more ands stack met placed k old inside new waits link =
    let near : k < length met = omega (arith, inside, old.size) in
    record {
      size = length-set met k true ∙ old.size;
      inside = each_grown (λ i x. x < length ands) stack k old.inside inside;
      entered =
          each_grown (λ i x. is_marked (set met k true) x ≡ true) stack k
          (λ i below. set_stays met k (get_or stack i 0) (old.entered i below)) (set_marked met k near);
      waits = each_grown (λ i x. is_marked placed x ≡ false) stack k old.waits waits;
      once =
          once_grown stack k old.once
          (λ i below same. let on : is_marked met k ≡ true =
          subst (λ x. is_marked met x ≡ true) same (old.entered i below) in cc);
      has = λ j below on off. elim (set_either met k j on) [
        | inl is ↦ last_stands stack k j is
        | inr was ↦ stands_grown stack k j (old.has j below was off)
      ];
      linked = λ i below.
          let less : i < length stack = omega (arith, below, grown_length stack k) in
          each_grown (λ j x. j ≡ suc i → Uses ands (get_or (stack ++ k ∷ []) i 0) x) stack k
          (λ j below' e. subst (λ x. Uses ands x (get_or stack j 0)) (sym (grown_old stack k i less))
          (subst (λ n. Uses ands (get_or stack i 0) (get_or stack n 0)) (sym e)
          (old.linked i (subst (λ n. n < length stack) e below'))))
          (λ e. subst (λ x. Uses ands x k) (sym (grown_old stack k i less)) (link i (sym e))) (suc i) below refl;
    }

-- the top one is placed
pub hand_less : (ands : List AndLine) (stack : List ℕ) (met placed : List Bool) (last k : ℕ)
    → AreInHand ands stack met placed → length stack ≡ suc last → get_or stack last 0 ≡ k → k < length placed
    → AreInHand ands (take last stack) met (set placed k true)
hand_less ands stack met placed last k old size top near =
    let short : length (take last stack) ≡ last = length-take-le last stack (omega (arith, size)) in
    record {
      size = old.size;
      inside = λ i below. subst (λ x. x < length ands) (sym (at i (subst (λ n. i < n) short below)))
          (old.inside i (omega (arith, below, short, size)));
      entered = λ i below. subst (λ x. is_marked met x ≡ true) (sym (at i (subst (λ n. i < n) short below)))
          (old.entered i (omega (arith, below, short, size)));
      waits = λ i below.
          let less : i < last = subst (λ n. i < n) short below in
          subst (λ x. is_marked (set placed k true) x ≡ false) (sym (at i less))
          (set_other placed k (get_or stack i 0)
          (λ same. old.once i last less (omega (arith, size)) (same ∙ sym top))
          (old.waits i (omega (arith, less, size))));
      once = λ i j before below.
          let less : j < last = subst (λ n. j < n) short below in
          λ same. old.once i j before (omega (arith, less, size))
          (sym (at i (omega (arith, before, less))) ∙ same ∙ at j less);
      has = λ j below on off. kept j off (old.has j below on (set_unmarked placed k j off));
      linked = λ i below.
          let less : suc i < last = subst (λ n. suc i < n) short below in
          subst (λ x. Uses ands x (get_or (take last stack) (suc i) 0)) (sym (at i (omega (arith, less))))
          (subst (λ x. Uses ands (get_or stack i 0) x) (sym (at (suc i) less))
          (old.linked i (omega (arith, less, size))));
    }
  where
    at : (i : ℕ) → i < last → get_or (take last stack) i 0 ≡ get_or stack i 0
    at i less = get_or-take last stack i 0 less

    kept : (j : ℕ) → is_marked (set placed k true) j ≡ false → (i : ℕ) × (i < length stack) × (get_or stack i 0 ≡ j)
        → (i : ℕ) × (i < length (take last stack)) × (get_or (take last stack) i 0 ≡ j)
    kept j off (i, below, is) = elim (cases_eq i last) [
      | inl e ↦
          let same : k ≡ j = sym top ∙ ap (λ n. get_or stack n 0) (sym e) ∙ is in
          let on : is_marked (set placed k true) j ≡ true =
          subst (λ n. is_marked (set placed k true) n ≡ true) same (set_marked placed k near) in
          cc
      | inr other ↦
          let less : i < last = omega (arith, below, size, other) in
          (i, subst (λ n. i < n) (sym (length-take-le last stack (omega (arith, size)))) less, at i less ∙ is)
    ]

-- from each and-line of the stack the top one is reached
climb : (ands : List AndLine) (stack : List ℕ) (met placed : List Bool) (last : ℕ) → AreInHand ands stack met placed
    → length stack ≡ suc last → (d i : ℕ) → i + d ≡ last
    → reaches ands d (defined_at ands (get_or stack i 0)) (defined_at ands (get_or stack last 0)) ≡ true
climb ands stack met placed last hand size zero i e =
    subst (λ n. reaches ands zero (defined_at ands (get_or stack i 0)) (defined_at ands (get_or stack n 0)) ≡ true)
    (let same : i ≡ last = omega (arith, e) in same) (reaches_here ands zero (defined_at ands (get_or stack i 0)))
climb ands stack met placed last hand size (suc d) i e =
    let above : suc i + d ≡ last = omega (arith, e) in
    reaches_use ands d (get_or stack i 0) (get_or stack (suc i) 0) (defined_at ands (get_or stack last 0))
    (hand.inside i (omega (arith, e, size))) (hand.linked i (omega (arith, e, size)))
    (climb ands stack met placed last hand size d (suc i) above)

-- where the top one uses one that is in hand there is a cycle
pub hand_cycle : (ands : List AndLine) (stack : List ℕ) (met placed : List Bool) (last top used : ℕ)
    → AreInHand ands stack met placed → length stack ≡ suc last → get_or stack last 0 ≡ top
    → used < length ands → Uses ands top used → is_marked met used ≡ true → is_marked placed used ≡ false
    → HasCycle ands
hand_cycle ands stack met placed last top used hand size is there uses on off = around (hand.has used there on off)
  where
    around : (i : ℕ) × (i < length stack) × (get_or stack i 0 ≡ used) → HasCycle ands
    around (i, below, same) =
        let path : reaches ands (last - i) (defined_at ands used) (defined_at ands top) ≡ true =
        subst (λ n. reaches ands (last - i) (defined_at ands n) (defined_at ands top) ≡ true) same
        (subst (λ n. reaches ands (last - i) (defined_at ands (get_or stack i 0)) (defined_at ands n) ≡ true) is
        (climb ands stack met placed last hand size (last - i) i (omega (arith, below, size)))) in (
          top,
          subst (λ n. n < length ands) is (hand.inside last (omega (arith, size))),
          (last - i, leads_from ands (last - i) top used top uses path),
        )
