-- A search that places and-lines: its begin, its steps and its end.
use Rattle.std.proofs.Common.{◌≡◌, ℕ, suc, ◌+◌, ◌-◌, ◌<◌, ◌≤◌, Bool, true, false, List, [], ◌∷◌, ◌++◌, length}
use Rattle.std.proofs.Common.{get_or, take, sym, ◌∙◌, ap, subst, arith, below_more}
use Rattle.std.proofs.Math.ListN.{set}
use Rattle.std.proofs.lemmas.List.{get_or_default}
use Rattle.std.proofs.lemmas.Bool.{false_from_ne_true, true_from_ne_false}
use Rattle.sd_model.specs.Circuit.{AndLine}
use Rattle.sd_circuit.specs.Order.{Uses, IsOrdered}
use Rattle.sd_circuit.specs.Placing.{AreInHand, IsPlacing, BeganAt, HasPlacedBelow, StayMarked}
use Rattle.sd_circuit.specs.Placing.{is_marked, unmarked_count, placing_work}
use Rattle.sd_circuit.specs.Reaching.{AreUsesMarked}
use Rattle.sd_circuit.proofs.Grown.{set_marked, set_fewer}
use Rattle.sd_circuit.proofs.Placed.{placed_more, all_placed}
use Rattle.sd_circuit.proofs.InHand.{hand_more, hand_less}

-- the top of the stack, as it is read
pub top_is : (stack : List ℕ) (len x : ℕ) → len ≡ length stack → 0 < length stack → x ≡ get_or stack (len - 1) x
    → get_or stack (length stack - 1) 0 ≡ x
top_is stack len x size some is =
    get_or_default stack (length stack - 1) 0 x (omega (arith, some))
    ∙ sym (subst (λ n. x ≡ get_or stack (n - 1) x) size is)

-- the top one is placed
pub place_step : (ands : List AndLine) (order order' stack stack' : List ℕ) (met placed placed' : List Bool)
    (last top : ℕ) → IsPlacing ands order stack met placed → length stack ≡ suc last → get_or stack last 0 ≡ top
    → AreUsesMarked ands placed top → order' ≡ order ++ top ∷ [] → stack' ≡ take last stack
    → placed' ≡ set placed top true → IsPlacing ands order' stack' met placed'
place_step ands order order' stack stack' met placed placed' last top state size is uses eo es ep =
    let inside : top < length ands =
    subst (λ k. k < length ands) is (state.hand.inside last (omega (arith, size))) in
    let off : is_marked placed top ≡ false =
    subst (λ k. is_marked placed k ≡ false) is (state.hand.waits last (omega (arith, size))) in
    subst (λ o. IsPlacing ands o stack' met placed') (sym eo)
    (subst (λ s. IsPlacing ands (order ++ top ∷ []) s met placed') (sym es)
    (subst (λ p. IsPlacing ands (order ++ top ∷ []) (take last stack) met p) (sym ep)
    (record {
      done = placed_more ands order placed top state.done inside off uses;
      hand =
          hand_less ands stack met placed last top state.hand size is
          (omega (arith, inside, state.done.size));
    })))

-- that is one less to place
pub place_less : (ands : List AndLine) (order stack : List ℕ) (met placed placed' : List Bool)
    (last top : ℕ) → IsPlacing ands order stack met placed → length stack ≡ suc last → get_or stack last 0 ≡ top
    → placed' ≡ set placed top true → placing_work met placed' < placing_work met placed
place_less ands order stack met placed placed' last top state size is ep =
    let inside : top < length ands =
    subst (λ k. k < length ands) is (state.hand.inside last (omega (arith, size))) in
    let off : is_marked placed top ≡ false =
    subst (λ k. is_marked placed k ≡ false) is (state.hand.waits last (omega (arith, size))) in
    let fewer : unmarked_count (set placed top true) + 1 ≡ unmarked_count placed =
    set_fewer placed top (omega (arith, inside, state.done.size)) off in
    omega (arith, ap unmarked_count ep, fewer)

-- one that the top one uses comes above it
pub enter_step : (ands : List AndLine) (order stack stack' : List ℕ) (met met' placed : List Bool)
    (last top used : ℕ) → IsPlacing ands order stack met placed → length stack ≡ suc last → get_or stack last 0 ≡ top
    → used < length ands → Uses ands top used → is_marked met used ≡ false → is_marked placed used ≡ false
    → stack' ≡ stack ++ used ∷ [] → met' ≡ set met used true → IsPlacing ands order stack' met' placed
enter_step ands order stack stack' met met' placed last top used state size is inside uses new waits es em =
    subst (λ s. IsPlacing ands order s met' placed) (sym es)
    (subst (λ m. IsPlacing ands order (stack ++ used ∷ []) m placed) (sym em)
    (record {
      done = state.done;
      hand =
          hand_more ands stack met placed used state.hand inside new waits
          (λ i e. let at : i ≡ last = omega (arith, e, size) in
          subst (λ x. Uses ands x used) (sym (ap (λ n. get_or stack n 0) at ∙ is)) uses);
    }))

-- where none is in hand, one that is not placed was not met
not_met : (ands : List AndLine) (met placed : List Bool) (k : ℕ) → AreInHand ands [] met placed → k < length ands
    → is_marked placed k ≡ false → is_marked met k ≡ false
not_met ands met placed k hand inside off = false_from_ne_true (is_marked met k) (λ on. none (hand.has k inside on off))
  where
    none : (i : ℕ) × (i < length {A = ℕ} []) × (get_or {A = ℕ} [] i 0 ≡ k) → ⊥
    none (i, below, is) = omega arith

-- and one that was met is placed
pub met_placed : (ands : List AndLine) (met placed : List Bool) (k : ℕ) → AreInHand ands [] met placed
    → k < length ands → is_marked met k ≡ true → is_marked placed k ≡ true
met_placed ands met placed k hand inside on =
    true_from_ne_false (is_marked placed k) (λ off. none (hand.has k inside on off))
  where
    none : (i : ℕ) × (i < length {A = ℕ} []) × (get_or {A = ℕ} [] i 0 ≡ k) → ⊥
    none (i, below, is) = omega arith

-- the search begins with one that is not placed
pub begin_from : (ands : List AndLine) (order stack stack' : List ℕ) (met met' placed : List Bool) (k : ℕ)
    → IsPlacing ands order stack met placed → stack ≡ [] → k < length ands → is_marked placed k ≡ false
    → stack' ≡ stack ++ k ∷ [] → met' ≡ set met k true → BeganAt ands order stack' met' placed placed k
begin_from ands order stack stack' met met' placed k state empty inside off es em =
    let hand : AreInHand ands [] met placed = subst (λ s. AreInHand ands s met placed) empty state.hand in
    let more : AreInHand ands (k ∷ []) (set met k true) placed =
    hand_more ands [] met placed k hand inside (not_met ands met placed k hand inside off) off
    (λ i e. absurd (omega (arith, e))) in
    record {
      state =
          record {
            done = state.done;
            hand =
                subst (λ s. AreInHand ands s met' placed) (sym (es ∙ ap (λ s. s ++ k ∷ []) empty))
                (subst (λ m. AreInHand ands (k ∷ []) m placed) (sym em) more);
          };
      entered =
          ap (λ m. is_marked m k) em ∙ set_marked met k (omega (arith, inside, hand.size));
      kept = λ j on. on;
    }

-- all below one more are placed
pub one_more_placed : (ands : List AndLine) (order stack : List ℕ) (met placed placed' met' : List Bool)
    (order' stack' : List ℕ) (line : ℕ) → HasPlacedBelow ands order stack met placed line
    → IsPlacing ands order' stack' met' placed' → stack' ≡ [] → StayMarked placed placed'
    → is_marked placed' line ≡ true → HasPlacedBelow ands order' stack' met' placed' (line + 1)
one_more_placed ands order stack met placed placed' met' order' stack' line old state empty kept here =
    record {
      state = state;
      empty = empty;
      below = below_more (λ k. is_marked placed' k ≡ true) line (λ k less. kept k (old.below k less)) here;
    }

-- all are placed
pub end_all : (ands : List AndLine) (order stack : List ℕ) (met placed : List Bool) (line : ℕ)
    → HasPlacedBelow ands order stack met placed line → length ands ≤ line → IsOrdered ands order
end_all ands order stack met placed line all most =
    all_placed ands order placed all.state.done (λ k below. all.below k (omega (arith, below, most)))
