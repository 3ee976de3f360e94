-- The value of a node: that of the sub whose prime is true.
use Rattle.std.proofs.Common.{◌≡◌, inl, inr, ℕ, suc, ◌+◌, ◌≤◌, ◌<◌, Bool, true, false}
use Rattle.std.proofs.Common.{List, [], ◌∷◌, length, Some, slice_get, refl, sym, ap, subst, ◌∙◌, arith}
use Rattle.std.specs.Prelude.{ℤ}
use Rattle.std.proofs.lemmas.Bool.{cases_eq}
use Rattle.std.specs.FinMap.{get}
use Rattle.sd_model.specs.Tree.{leaves}
use Rattle.sd_model.specs.Diagram.{Diagram, Decomposition, Elements, End, Pair, meaning, some_element}
use Rattle.sd_model.specs.Canonical.{IsElement, first, later}
use Rattle.sd_vtree.specs.Numbered.{plain_tree}
use Rattle.sd_laws.specs.Depth.{depth}
use Rattle.sd_laws.proofs.Codes.{leaf_range}
use Rattle.sd_laws.proofs.Depths.{depth_element}
use Rattle.sd_laws.proofs.Lists.{IsAmong}
use Rattle.sd_laws.proofs.Nodes.{elements_canonical, chosen_value, pair_stored, partition_of_canonical}
use Rattle.sd_manager.specs.declared.view.View.TheVariants.{Literal as LiteralView, Decomposition as DecompositionView}
use Rattle.sd_manager.specs.Table.{Table}
use Rattle.sd_manager.specs.Shown.{ShowsCanonical}
use Rattle.sd_manager.specs.Literals.{literal_of, IsLiteralTo}
use Rattle.sd_manager.specs.Views.{view_of, pairs_at, IsViewOf}
use Rattle.sd_manager.specs.Valid.{IsTable}
use Rattle.sd_manager.proofs.Reading.{linked_key, pairs_node, view_node, element_fits, among_at}

-- a literal that is read of a node is one of the vtree
literal_range : (x n : ℕ) (s : Bool) → 1 ≤ x → x ≤ n → IsLiteralTo n (literal_of x s)
literal_range x n true low high = (low, high)
literal_range x n false low high = omega arith

pub literal_fits : (t : Table) → IsTable t → (l : ℤ) (d : Diagram) → IsViewOf t (LiteralView l) d →
    IsLiteralTo (leaves (plain_tree t.vtree)) l
literal_fits t i l d h =
    let r = leaf_range (plain_tree t.vtree) i.numbered.vtree 0 h.1 h.0 h.5 in
    subst (IsLiteralTo (leaves (plain_tree t.vtree))) (sym h.4)
    (literal_range h.1 (leaves (plain_tree t.vtree)) h.2 r.0 r.1)

-- A pair that is read of a decomposition shows a prime and a sub that are canonical and less deep.
pub record HasChildren (t : Table) (pair : ℕ × ℕ) (p : ℕ) (es : Elements) : Type 0 where
  pub prime : Diagram
  pub sub : Diagram
  pub prime_is : ShowsCanonical t pair.0 prime
  pub sub_is : ShowsCanonical t pair.1 sub
  pub prime_depth : depth prime < depth (Decomposition p es)
  pub sub_depth : depth sub < depth (Decomposition p es)

pub children : (t : Table) (c p i : ℕ) (es : Elements) (e : ℕ × ℕ) → ShowsCanonical t c (Decomposition p es) →
    slice_get (pairs_at t c) i ≡ Some e → HasChildren t e p es
children t c p i es e h is =
    let k = element_fits t c p i es e is h.shows in
    let fits = elements_canonical h.canonical k.prime k.sub k.member in
    let deep = depth_element p k.member in
    record {
      prime = k.prime;
      sub = k.sub;
      prime_is = record { shows = k.shows_prime; canonical = fits.0 };
      sub_is = record { shows = k.shows_sub; canonical = fits.1 };
      prime_depth = deep.0;
      sub_depth = deep.1;
    }

-- the primes of the pairs before this place are false
pub record HasPassed (t : Table) (c i : ℕ) (a : List Bool) : Type 0 where
  pub each : (k : ℕ) (e : ℕ × ℕ) (x : Diagram) → k < i → slice_get (pairs_at t c) k ≡ Some e → ShowsCanonical t e.0 x →
      meaning x a ≡ false

pub passed_none : (t : Table) (c : ℕ) (a : List Bool) → HasPassed t c 0 a
passed_none t c a = record { each = λ k e x below is h. absurd (omega arith) }

-- one pair more
pub passed_more : (t : Table) (c i : ℕ) (a : List Bool) (e : ℕ × ℕ) → HasPassed t c i a →
    slice_get (pairs_at t c) i ≡ Some e → ((x : Diagram) → ShowsCanonical t e.0 x → meaning x a ≡ false) →
    HasPassed t c (i + 1) a
passed_more t c i a e h is here = record {
  each = λ k f x below there shown. elim (cases_eq k i) [
    | inl same ↦
        let both : Some f ≡ Some e = sym there ∙ ap (slice_get (pairs_at t c)) same ∙ is in
        let pair : f ≡ e = cc in
        here x (subst (λ g. ShowsCanonical t g.0 x) pair shown)
    | inr differ ↦ h.each k f x (omega arith) there shown
  ];
}

-- where a prime is true the value is that of its sub
pub chosen : (t : Table) → IsTable t → (c p i : ℕ) (es : Elements) (e : ℕ × ℕ)
    → ShowsCanonical t c (Decomposition p es) →
    slice_get (pairs_at t c) i ≡ Some e → (a : List Bool) → (h : HasChildren t e p es) → meaning h.prime a ≡ true →
    meaning (Decomposition p es) a ≡ meaning h.sub a
chosen t i c p j es e shown is a h holds =
    let k = shown.shows.1 in
    let pairs : pairs_at t c ≡ k.list =
    pairs_node t c k.number (k.place, k.list) k.code (linked_key t k.number (k.place, k.list) k.stored) in
    chosen_value t.vtree (get t.linked) i.numbered c p es shown.shows
    (partition_of_canonical shown.canonical) k.number k.place k.list k.code
    k.stored e (among_at k.list j e (subst (λ l. slice_get l j ≡ Some e) pairs is)) h.prime h.sub h.prime_is.shows
    h.sub_is.shows a holds

-- where no prime is true the value is false

-- one of a list stands at a place
record StandsAt (e : ℕ × ℕ) (l : List (ℕ × ℕ)) : Type 0 where
  pub place : ℕ
  pub inside : place < length l
  pub is : slice_get l place ≡ Some e

stands_at : (e : ℕ × ℕ) (l : List (ℕ × ℕ)) → IsAmong e l → StandsAt e l
stands_at e [] m = absurd m
stands_at e (f ∷ l) (inl same) =
    record { place = 0; inside = omega arith; is = ap (λ x. Some x) (sym same) }
stands_at e (f ∷ l) (inr m) =
    let r = stands_at e l m in record { place = suc r.place; inside = omega (arith, r.inside); is = r.is }

none_true : (es : Elements) (a : List Bool) → ((x s : Diagram) → IsElement x s es → meaning x a ≡ false) →
    some_element es a ≡ false
none_true End a h = refl
none_true (Pair p s rest) a h =
    rw (h p s first) (none_true rest a (λ x y m. h x y (later m)))

pub all_passed : (t : Table) → IsTable t → (c p i : ℕ) (es : Elements) → ShowsCanonical t c (Decomposition p es) →
    (a : List Bool) → HasPassed t c i a → length (pairs_at t c) ≤ i → meaning (Decomposition p es) a ≡ false
all_passed t i c p j es shown a h done = none_true es a no_prime
  where
    no_prime : (x s : Diagram) → IsElement x s es → meaning x a ≡ false
    no_prime x s m =
        let k = shown.shows.1 in
        let pairs : pairs_at t c ≡ k.list =
        pairs_node t c k.number (k.place, k.list) k.code (linked_key t k.number (k.place, k.list) k.stored) in
        let r = pair_stored t.vtree (get t.linked) c p es shown.shows k.number k.place k.list k.code k.stored x s m in
        let w = stands_at r.0 k.list r.1 in
        let fits = elements_canonical shown.canonical x s m in
        h.each w.place r.0 x (omega (arith, w.inside, ap length pairs))
        (subst (λ l. slice_get l w.place ≡ Some r.0) (sym pairs) w.is)
        (record { shows = r.2; canonical = fits.0 })

-- the number of elements that is read is that of the pairs
pub count_is : (t : Table) (c place n p : ℕ) (es : Elements) → ShowsCanonical t c (Decomposition p es) →
    DecompositionView place n ≡ view_of t c → length (pairs_at t c) ≡ n
count_is t c place n p es shown e =
    let k = shown.shows.1 in
    let key = linked_key t k.number (k.place, k.list) k.stored in
    let view : DecompositionView place n ≡ DecompositionView k.place (length k.list) =
    e ∙ view_node t c k.number (k.place, k.list) k.code key in
    let same : n ≡ length k.list = cc in
    ap length (pairs_node t c k.number (k.place, k.list) k.code key) ∙ sym same
