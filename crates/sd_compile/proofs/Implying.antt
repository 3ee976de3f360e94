-- A node that is false wherever all literals of a list hold, or wherever none does.
use Rattle.std.proofs.Common.{◌≡◌, ◌≢◌, ◌⊎◌, inl, inr, ℕ, zero, suc, ◌+◌, ◌≤◌, ◌<◌, Bool, true, false, not, ◌&&◌}
use Rattle.std.proofs.Common.{List, [], ◌∷◌, length, map, Some, slice_get, get_or, refl, sym, ap, subst, ◌∙◌}
use Rattle.std.proofs.Common.{arith, w32}
use Rattle.std.specs.Prelude.{ℤ, pos, negsuc, unsigned_abs}
use Rattle.std.specs.FinMap.{get}
use Rattle.std.specs.List.{list_any}
use Rattle.std.proofs.lemmas.Bool.{cases_eq}
use Rattle.std.proofs.lemmas.List.Folds.{list_any_at}
use Rattle.std.proofs.lemmas.Option.{get_or_from_slice_get, slice_get_within}
use Rattle.std.proofs.lemmas.Int.{to_z-of_z}
use mir.Val.{SFits, to_z, of_z}
use Rattle.sd_model.specs.declared.trees.Operation.TheVariants.{And, Xor}
use Rattle.sd_model.specs.Assignment.{literal_holds, value_in}
use Rattle.sd_model.specs.Expression.{combine}
use Rattle.sd_model.specs.Diagram.{Diagram, Decomposition, Elements, End, Pair, meaning, some_element}
use Rattle.sd_model.specs.Canonical.{IsElement, first, later}
use Rattle.sd_laws.proofs.Lists.{IsAmong}
use Rattle.sd_laws.proofs.Nodes.{elements_canonical, pair_stored}
use Rattle.sd_manager.specs.Table.{Table}
use Rattle.sd_manager.specs.Shown.{Shows, ShowsCanonical, IsNodeOf}
use Rattle.sd_manager.specs.declared.view.View.TheVariants.{Decomposition as DecompositionView}
use Rattle.sd_manager.specs.Views.{pairs_at, view_of, IsViewOf}
use Rattle.sd_manager.specs.Valid.{IsTable}
use Rattle.sd_manager.proofs.Reading.{linked_key, pairs_node}
use Rattle.sd_manager.proofs.Evaluating.{children, count_is}
use Rattle.sd_apply.specs.Group.{group_value, JoinsGroup}
use Rattle.sd_compile.specs.Joined.{HaveValue, IsFalseBeside, ImpliesOdd, literal_of_place}

-- where no element of a list passes a test, one of them does not
any_none : {X : Type 0} (p : X → Bool) (xs : List X) (i : ℕ) (d : X) → list_any p xs ≡ false → i < length xs →
    p (get_or xs i d) ≡ false
any_none {X} p xs i d none inside = go (p (get_or xs i d)) refl
  where
    go : (b : Bool) → p (get_or xs i d) ≡ b → p (get_or xs i d) ≡ false
    go false f = f
    go true f =
        let some : list_any p xs ≡ true = list_any_at p xs i d inside f in
        let bad : true ≡ false = sym some ∙ none in absurd cc

-- where a clause is false none of its literals holds
none_hold : (clause : List (ℕ × ℤ)) (a : List Bool) → group_value And clause a ≡ false → HaveValue clause false a
none_hold clause a none = record {
  each = λ i e at.
      ap (λ (x : ℕ × ℤ). literal_holds a x.1) (sym (get_or_from_slice_get clause i e e at))
      ∙ any_none (λ (x : ℕ × ℤ). literal_holds a x.1) clause i e none (slice_get_within clause i e at);
}

-- a literal of the same variable that is another one has the opposite value
pub other_false : (other literal : ℤ) → other ≢ literal → unsigned_abs other ≡ unsigned_abs literal →
    (a : List Bool) → literal_holds a other ≡ true → literal_holds a literal ≡ false
other_false (pos x) (pos y) differ same a holds = absurd (differ (ap pos same))
other_false (pos x) (negsuc i) differ same a holds =
    let is : value_in a (suc i) ≡ true = subst (λ n. value_in a n ≡ true) same holds in ap not is
other_false (negsuc i) (pos y) differ same a holds =
    subst (λ n. value_in a n ≡ false) same (not_true (value_in a (suc i)) holds)
  where
    not_true : (b : Bool) → not b ≡ true → b ≡ false
    not_true false h = refl
    not_true true h = absurd cc
other_false (negsuc i) (negsuc j) differ same a holds =
    let e : i ≡ j = omega (arith, same) in absurd (differ (ap negsuc e))

-- the same literal has the same value
pub same_false : (other literal : ℤ) (holds : Bool) → SFits w32 other → SFits w32 literal →
    of_z w32 other ≡ of_z w32 literal → not holds ≡ true → (a : List Bool) → literal_holds a other ≡ holds →
    literal_holds a literal ≡ false
same_false other literal true one two same is a h = absurd cc
same_false other literal false one two same is a h =
    let equal : other ≡ literal = sym (to_z-of_z w32 other one) ∙ ap (to_z w32) same ∙ to_z-of_z w32 literal two in
    ap (literal_holds a) (sym equal) ∙ h

-- of each pair before this place the sub or the prime is false beside the literals
pub record HaveFalse (t : Table) (c i : ℕ) (literals : List (ℕ × ℤ)) (holds : Bool) : Type 0 where
  pub each : (k : ℕ) (e : ℕ × ℕ) → k < i → slice_get (pairs_at t c) k ≡ Some e →
      IsFalseBeside t e.1 literals holds ⊎ IsFalseBeside t e.0 literals holds

pub none_yet : (t : Table) (c : ℕ) (literals : List (ℕ × ℤ)) (holds : Bool) → HaveFalse t c 0 literals holds
none_yet t c literals holds = record { each = λ k e below is. absurd (omega arith) }

-- one pair more
pub one_more : (t : Table) (c i : ℕ) (literals : List (ℕ × ℤ)) (holds : Bool) (e : ℕ × ℕ) →
    HaveFalse t c i literals holds → slice_get (pairs_at t c) i ≡ Some e →
    IsFalseBeside t e.1 literals holds ⊎ IsFalseBeside t e.0 literals holds → HaveFalse t c (i + 1) literals holds
one_more t c i literals holds e h is here = record {
  each = λ k f below there. elim (cases_eq k i) [
    | inl same ↦
        let both : Some f ≡ Some e = sym there ∙ ap (slice_get (pairs_at t c)) same ∙ is in
        let pair : e ≡ f = cc in
        subst (λ (g : ℕ × ℕ). IsFalseBeside t g.1 literals holds ⊎ IsFalseBeside t g.0 literals holds) pair here
    | inr differ ↦ h.each k f (omega arith) there
  ];
}

-- a false prime or a false sub makes the product false
product_false : (b d : Bool) → (d ≡ false) ⊎ (b ≡ false) → (b && d) ≡ false
product_false false d h = refl
product_false true d (inl f) = f
product_false true d (inr f) = absurd cc

-- where each product is false the value is
none_holds : (es : Elements) (a : List Bool) →
    ((x s : Diagram) → IsElement x s es → (meaning x a && meaning s a) ≡ false) → some_element es a ≡ false
none_holds End a h = refl
none_holds (Pair p s rest) a h =
    rw (h p s first) (none_holds rest a (λ x y m. h x y (later m)))

-- one of a list stands at a place
record StandsAt (e : ℕ × ℕ) (l : List (ℕ × ℕ)) : Type 0 where
  pub place : ℕ
  pub inside : place < length l
  pub is : slice_get l place ≡ Some e

stands_at : (e : ℕ × ℕ) (l : List (ℕ × ℕ)) → IsAmong e l → StandsAt e l
stands_at e [] m = absurd m
stands_at e (f ∷ l) (inl same) =
    record { place = 0; inside = omega arith; is = ap (λ x. Some x) (sym same) }
stands_at e (f ∷ l) (inr m) =
    let r = stands_at e l m in record { place = suc r.place; inside = omega (arith, r.inside); is = r.is }

-- a decomposition of such pairs is false beside the literals
pub all_false : (t : Table) → IsTable t → (c p i : ℕ) (es : Elements) (literals : List (ℕ × ℤ)) (holds : Bool) →
    ShowsCanonical t c (Decomposition p es) → HaveFalse t c i literals holds → length (pairs_at t c) ≤ i →
    (a : List Bool) → HaveValue literals holds a → meaning (Decomposition p es) a ≡ false
all_false t table c p i es literals holds shown h done a none = none_holds es a product
  where
    product : (x s : Diagram) → IsElement x s es → (meaning x a && meaning s a) ≡ false
    product x s m =
        let k = shown.shows.1 in
        let pairs : pairs_at t c ≡ k.list =
        pairs_node t c k.number (k.place, k.list) k.code (linked_key t k.number (k.place, k.list) k.stored) in
        let r = pair_stored t.vtree (get t.linked) c p es shown.shows k.number k.place k.list k.code k.stored x s m in
        let w = stands_at r.0 k.list r.1 in
        let fits = elements_canonical shown.canonical x s m in
        product_false (meaning x a) (meaning s a) (elim (h.each w.place r.0 (omega (arith, w.inside, ap length pairs, done))
        (subst (λ l. slice_get l w.place ≡ Some r.0) (sym pairs) w.is)) [
          | inl sub ↦ inl (sub s (record { shows = r.3; canonical = fits.1 }) a none)
          | inr prime ↦ inr (prime x (record { shows = r.2; canonical = fits.0 }) a none)
        ])

-- the value beside a clause that is implied
beside : (b v : Bool) → (v ≡ false → b ≡ false) → b ≡ (b && v)
beside true true h = refl
beside true false h = let bad : true ≡ false = h refl in absurd cc
beside false v h = refl

-- such a node is joined with the clause as it is
pub implied_joins : (t : Table) (c : ℕ) (clause : List (ℕ × ℤ)) → IsFalseBeside t c clause false →
    JoinsGroup t t And c clause c
implied_joins t c clause h = record {
  each = λ x is. record {
    diagram = x;
    is = is;
    value = λ a. beside (meaning x a) (group_value And clause a) (λ none. h x is a (none_hold clause a none));
    below = λ s base part fits placed. fits;
  };
}

-- a node whose pairs are all so, where its view tells how many there are
pub pairs_imply : (t : Table) → IsTable t → (c place n i : ℕ) (literals : List (ℕ × ℤ)) (holds : Bool) →
    ((d : Diagram) → Shows t c d → IsViewOf t (DecompositionView place n) d) → DecompositionView place n ≡ view_of t c →
    HaveFalse t c i literals holds → n ≤ i → IsFalseBeside t c literals holds
pairs_imply t table c place n i literals holds viewed view h done d shown a none =
    let k = viewed d shown.shows in
    let at : ShowsCanonical t c (Decomposition k.0 k.1) = subst (ShowsCanonical t c) k.2 shown in
    ap (λ x. meaning x a) k.2
    ∙ all_false t table c k.0 i k.1 literals holds at h
    (omega (arith, count_is t c place n k.0 k.1 at view, done)) a none

-- the pairs of such a node are within its view's number, and show nodes
pub pairs_within : (t : Table) (c place n : ℕ) → IsNodeOf t c →
    ((d : Diagram) → Shows t c d → IsViewOf t (DecompositionView place n) d) → DecompositionView place n ≡ view_of t c →
    length (pairs_at t c) ≡ n
pairs_within t c place n node viewed view =
    let k = viewed node.diagram node.is.shows in
    count_is t c place n k.0 k.1 (subst (ShowsCanonical t c) k.2 node.is) view

pub pair_nodes : (t : Table) (c place n i : ℕ) (e : ℕ × ℕ) → IsNodeOf t c →
    ((d : Diagram) → Shows t c d → IsViewOf t (DecompositionView place n) d) → slice_get (pairs_at t c) i ≡ Some e →
    IsNodeOf t e.0 × IsNodeOf t e.1
pair_nodes t c place n i e node viewed is =
    let k = viewed node.diagram node.is.shows in
    let h = children t c k.0 i k.1 e (subst (ShowsCanonical t c) k.2 node.is) is in
    (record { diagram = h.prime; is = h.prime_is }, record { diagram = h.sub; is = h.sub_is })

-- by the values of two literals
odd_of_two : (b p q : Bool) → (p ≡ false → q ≡ false → b ≡ false) → (p ≡ true → q ≡ true → b ≡ false) → b ≡ true →
    combine Xor p (combine Xor q false) ≡ true
odd_of_two b true true none both holds = let bad : true ≡ false = sym holds ∙ both refl refl in absurd cc
odd_of_two b true false none both holds = refl
odd_of_two b false true none both holds = refl
odd_of_two b false false none both holds = let bad : true ≡ false = sym holds ∙ none refl refl in absurd cc

-- two literals with one value
both_have : (x y : ℕ × ℤ) (a : List Bool) (b : Bool) → literal_holds a (literal_of_place x) ≡ b →
    literal_holds a (literal_of_place y) ≡ b → HaveValue (x ∷ y ∷ []) b a
both_have x y a b one other = record { each = go }
  where
    go : (i : ℕ) (e : ℕ × ℤ) → slice_get (x ∷ y ∷ []) i ≡ Some e → literal_holds a (literal_of_place e) ≡ b
    go zero e at = let is : x ≡ e = cc in subst (λ z. literal_holds a (literal_of_place z) ≡ b) is one
    go (suc zero) e at = let is : y ≡ e = cc in subst (λ z. literal_holds a (literal_of_place z) ≡ b) is other
    go (suc (suc i)) e at = absurd cc

-- a node that is false wherever none of two literals holds, and wherever both do, implies their exclusive or
pub odd_implied : (t : Table) (c : ℕ) (pair : List (ℕ × ℤ)) → length pair ≡ 2 → IsFalseBeside t c pair false →
    IsFalseBeside t c pair true → ImpliesOdd t c (map literal_of_place pair)
odd_implied t c [] two none both = absurd cc
odd_implied t c (x ∷ []) two none both = absurd cc
odd_implied t c (x ∷ y ∷ z ∷ zs) two none both = absurd (omega (arith, two))
odd_implied t c (x ∷ y ∷ []) two none both = λ d shown a holds.
    odd_of_two (meaning d a) (literal_holds a (literal_of_place x)) (literal_holds a (literal_of_place y))
    (λ f s. none d shown a (both_have x y a false f s)) (λ f s. both d shown a (both_have x y a true f s)) holds
