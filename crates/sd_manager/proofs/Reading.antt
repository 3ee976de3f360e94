-- What is read of a node fits what it shows.
use Rattle.std.proofs.Common.{◌≡◌, ◌⊎◌, inl, inr, ℕ, zero, suc, ◌+◌, ◌-◌, ◌*◌, ◌/◌, ◌%◌, ◌^◌, ◌≤◌, ◌<◌, ltb}
use Rattle.std.proofs.Common.{Bool, true, false, List, [], ◌∷◌, length, Option, Some, None, unwrap_or, slice_get}
use Rattle.std.proofs.Common.{refl, sym, ap, subst, ◌∙◌, arith}
use Rattle.std.specs.Prelude.{ℤ, pos, negsuc}
use Rattle.std.proofs.lemmas.Bool.Decides.{nat_tests}
use Rattle.std.proofs.lemmas.List.Sorted.{length_permutation}
use Rattle.std.specs.Option.{IsSome, option_map}
use Rattle.std.specs.Ordering.{nat_cmp}
use Rattle.std.specs.FinMap.{FinMap, get}
use Rattle.sd_model.specs.Tree.{leaves}
use Rattle.sd_model.specs.Assignment.{literal_holds}
use Rattle.sd_model.specs.Diagram.{Diagram, Bottom, Top, Literal, Decomposition, Elements, End, Pair, count, meaning}
use Rattle.sd_vtree.specs.Numbered.{Numbered, IsNumbered, or_else, plain_tree}
use Rattle.sd_unique.specs.Nodes.{Nodes, key_at as key_of_nodes, or_else as or_else_of_nodes}
use Rattle.sd_laws.specs.Shown.{Lookup, ShowElements, literal_code}
use Rattle.sd_laws.proofs.Codes.{literal_range}
use Rattle.sd_laws.proofs.Lists.{IsAmong}
use Rattle.sd_laws.proofs.Nodes.{code_of_node, element_shown}
use Rattle.sd_laws.proofs.Numbers.{leaf_of_vtree, literal_canonical}
use Rattle.sd_manager.specs.declared.view.View.TheVariants.{Literal as LiteralView}
use Rattle.sd_manager.specs.declared.view.View.TheVariants.{Decomposition as DecompositionView}
use Rattle.sd_manager.specs.Table.{Table, key_at}
use Rattle.sd_manager.specs.Shown.{Shows, ShowsCanonical, HasNode, ShowsElement}
use Rattle.sd_manager.specs.Literals.{literal_of, literal_at, code_of_literal, IsLiteralTo}
use Rattle.sd_manager.specs.Views.{view_of, view_of_key, pairs_at, IsViewOf}
use Rattle.sd_manager.specs.Stored.{table_of}
use Rattle.sd_manager.specs.Valid.{IsTable, total_length}
use Rattle.sd_manager.proofs.Totals.{total_without}

-- the key of a linked node
pub linked_key : (t : Table) (n : ℕ) (k : ℕ × List (ℕ × ℕ)) → get t.linked n ≡ Some k → key_at t n ≡ Some k
linked_key t n k e = ap (λ o. or_else o (get t.detached n)) e

-- the key of a detached node
pub detached_key : (t : Table) → IsTable t → (n : ℕ) (k : ℕ × List (ℕ × ℕ)) → get t.detached n ≡ Some k →
    key_at t n ≡ Some k
detached_key t i n k e = go (get t.linked n) refl
  where
    go : (o : Option (ℕ × List (ℕ × ℕ))) → get t.linked n ≡ o → key_at t n ≡ Some k
    go None none = ap (λ o. or_else o (get t.detached n)) none ∙ e
    go (Some l) some = let bad : None ≡ Some k = sym (i.either n l some) ∙ e in absurd (cc)

-- what is read by code

-- of a literal's code
view_literal : (t : Table) (c : ℕ) → 2 ≤ c → c < 2050 → view_of t c ≡ LiteralView (literal_at c)
view_literal t c low high =
    let first : ltb c 2 ≡ false = grind (arith, nat_tests) in
    let second : ltb c 2050 ≡ true = grind (arith, nat_tests) in
    rw (first, second) refl

-- of a node's code
pub view_node : (t : Table) (c n : ℕ) (k : ℕ × List (ℕ × ℕ)) → c ≡ 2050 + n → key_at t n ≡ Some k →
    view_of t c ≡ DecompositionView k.0 (length k.1)
view_node t c n k at e =
    let first : ltb c 2 ≡ false = grind (arith, nat_tests) in
    let second : ltb c 2050 ≡ false = grind (arith, nat_tests) in
    let number : c - 2050 ≡ n = omega arith in
    let key : key_at t (c - 2050) ≡ Some k = ap (key_at t) number ∙ e in
    rw (first, second) (ap view_of_key key)

-- the pairs of a node
pub pairs_node : (t : Table) (c n : ℕ) (k : ℕ × List (ℕ × ℕ)) → c ≡ 2050 + n → key_at t n ≡ Some k → pairs_at t
    c ≡ k.1
pairs_node t c n k at e =
    let second : ltb c 2050 ≡ false = grind (arith, nat_tests) in
    let number : c - 2050 ≡ n = omega arith in
    let list : Option (ℕ × List (ℕ × ℕ)) → List (ℕ × ℕ) = λ o. unwrap_or (option_map (λ k. k.1) o) [] in
    rw second (ap list (ap (key_at t) number ∙ e))

-- the literal that a literal's code stands for
pub literal_back : (x : ℕ) (s : Bool) → literal_at (literal_code x s) ≡ literal_of x s
literal_back x true =
    let half : 2 * x / 2 ≡ x = omega arith in
    let rest : 2 * x % 2 ≡ 0 = omega arith in
    rw (half, rest) refl
literal_back x false =
    let half : (2 * x + 1) / 2 ≡ x = omega arith in
    let rest : (2 * x + 1) % 2 ≡ 1 = omega arith in
    rw (half, rest) refl

-- as many pairs as elements
pub pairs_count : (t : Numbered) (at : Lookup) (l : List (ℕ × ℕ)) (es : Elements) → ShowElements t at l es →
    length l ≡ count es
pairs_count t at [] End h = refl
pairs_count t at [] (Pair p s rest) h = absurd h
pairs_count t at (e ∷ l) End h = absurd h
pairs_count t at (e ∷ l) (Pair p s rest) h = omega (arith, pairs_count t at l rest h.2)

-- what is read of a node fits the diagram that it shows
pub view_fits : (t : Table) → IsNumbered t.vtree → (c : ℕ) (d : Diagram) → Shows t c d → IsViewOf t (view_of t c) d
view_fits t v c Bottom h = subst (λ x. IsViewOf t (view_of t x) Bottom) (sym h) refl
view_fits t v c Top h = subst (λ x. IsViewOf t (view_of t x) Top) (sym h) refl
view_fits t v c (Literal p x s) h =
    let r = literal_range t.vtree (get t.linked) v c p x s h in
    subst (λ w. IsViewOf t w (Literal p x s))
    (sym (view_literal t c r.0 r.2 ∙ ap LiteralView (ap literal_at h.0 ∙ literal_back x s)))
    (p, x, s, refl, refl, h.1)
view_fits t v c (Decomposition p es) h =
    let k = h.1 in
    subst (λ w. IsViewOf t w (Decomposition p es))
    (sym (view_node t c k.number (k.place, k.list) k.code (linked_key t k.number (k.place, k.list) k.stored))) (
      p,
      es,
      refl,
      sym (length_permutation k.list h.0 k.order) ∙ pairs_count t.vtree (get t.linked) h.0 es h.2,
      k.position,
    )

-- an element is shown by the pair that is read

-- what stands at a place of a list is one of the list
pub among_at : {X : Type 0} (xs : List X) (i : ℕ) (x : X) → slice_get xs i ≡ Some x → IsAmong x xs
among_at [] i x e = cc
among_at (y ∷ xs) zero x e = let same : x ≡ y = cc in inl same
among_at (y ∷ xs) (suc i) x e = inr (among_at xs i x e)

pub element_fits : (t : Table) (c p i : ℕ) (es : Elements) (e : ℕ × ℕ) → slice_get (pairs_at t c) i ≡ Some e →
    Shows t c (Decomposition p es) → ShowsElement t e es
element_fits t c p i es e is h =
    let k = h.1 in
    let pairs : pairs_at t c ≡ k.list =
    pairs_node t c k.number (k.place, k.list) k.code (linked_key t k.number (k.place, k.list) k.stored) in
    let r = element_shown t.vtree (get t.linked) c p es h k.number k.place k.list k.code k.stored e
    (among_at k.list i e (subst (λ l. slice_get l i ≡ Some e) pairs is)) in
    record { prime = r.0; sub = r.1; member = r.2; shows_prime = r.3; shows_sub = r.4 }

-- a code that shows something is that of a node
pub shown_has_node : (t : Table) → IsNumbered t.vtree → (c : ℕ) (d : Diagram) → Shows t c d → HasNode t c
shown_has_node t v c d h = go (code_of_node t.vtree (get t.linked) v c d h)
  where
    some_key : (n : ℕ) (o : Option (ℕ × List (ℕ × ℕ))) → get t.linked n ≡ o → IsSome o → IsSome (key_at t n)
    some_key n None e s = cc
    some_key n (Some k) e s = subst IsSome (sym (linked_key t n k e)) s

    go : (c < 2 * leaves (plain_tree t.vtree) + 2) ⊎ ((n : ℕ) × (c ≡ 2050 + n) × IsSome (get t.linked n)) → HasNode t c
    go (inl low) = inl low
    go (inr k) =
        let number : k.0 ≡ c - 2050 = omega (arith, k.1) in
        inr (omega (arith, k.1), subst (λ n. IsSome (key_at t n)) number (some_key k.0 (get t.linked k.0) refl k.2))

-- a number whose code is there is that of a node
pub node_of_code : (t : Table) → IsNumbered t.vtree → (n : ℕ) → HasNode t (2050 + n) → IsSome (key_at t n)
node_of_code t v n (inl low) = absurd (omega (arith, v.within_limit))
node_of_code t v n (inr h) =
    let number : 2050 + n - 2050 ≡ n = omega arith in
    subst (λ q. IsSome (key_at t q)) number h.1

-- so the code of a number without a node is not there
pub not_there : (t : Table) → IsNumbered t.vtree → (n : ℕ) → key_at t n ≡ None → ¬ HasNode t (2050 + n)
not_there t v n none h =
    let gone : IsSome {T = ℕ × List (ℕ × ℕ)} None = subst IsSome none (node_of_code t v n h) in
    cc

-- the list of a node is not longer than all lists together
pub list_within : (t : Table) (n : ℕ) (k : ℕ × List (ℕ × ℕ)) → key_at t n ≡ Some k → length k.1 ≤ total_length t
list_within t n k e = go (get t.linked n) refl
  where
    detached : get t.linked n ≡ None → get t.detached n ≡ Some k
    detached none = sym (ap (λ o. or_else o (get t.detached n)) none) ∙ e

    go : (o : Option (ℕ × List (ℕ × ℕ))) → get t.linked n ≡ o → length k.1 ≤ total_length t
    go None none =
        omega (arith, total_without (λ (k : ℕ × List (ℕ × ℕ)). length k.1) t.detached n k (detached none))
    go (Some l) some =
        let there : Some l ≡ Some k = sym (linked_key t n l some) ∙ e in
        let same : l ≡ k = cc in
        omega (arith, total_without (λ (k : ℕ × List (ℕ × ℕ)). length k.1) t.linked n k (some ∙ there))

-- literals

-- a literal of fewer variables is one of more
pub literal_more : (n m : ℕ) (l : ℤ) → n ≤ m → IsLiteralTo n l → IsLiteralTo m l
literal_more n m (pos x) le h = (h.0, omega (arith, h.1))
literal_more n m (negsuc i) le h = omega arith

-- the code of a literal shows it
pub literal_shown : (t : Table) → IsNumbered t.vtree → (l : ℤ) (c : ℕ) → IsLiteralTo (leaves (plain_tree t.vtree)) l →
    c ≡ code_of_literal l →
    (d : Diagram) × ShowsCanonical t c d
    × ((assignment : List Bool) → meaning d assignment ≡ literal_holds assignment l)
literal_shown t v (pos x) c h e =
    let p = leaf_of_vtree (plain_tree t.vtree) v.vtree x h.0 h.1 in (
      Literal p.0 x true,
      record { shows = (e, p.1); canonical = literal_canonical (plain_tree t.vtree) 0 x p.0 true p.1 },
      λ assignment. refl,
    )
literal_shown t v (negsuc i) c h e =
    let p = leaf_of_vtree (plain_tree t.vtree) v.vtree (suc i) (omega arith) (omega arith) in (
      Literal p.0 (suc i) false,
      record {
        shows = (e ∙ omega arith, p.1);
        canonical = literal_canonical (plain_tree t.vtree) 0 (suc i) p.0 false p.1;
      },
      λ assignment. refl,
    )

-- the nodes' own word for a key is the table's
pub key_again : {X : Type 0} (a b : Option X) → or_else_of_nodes a b ≡ or_else a b
key_again None b = refl
key_again (Some x) b = refl

-- a value that a map of an option has comes from one of the option
option_map_some : {X Y : Type 0} (f : X → Y) (o : Option X) (y : Y) → option_map f o ≡ Some y →
    (x : X) × (o ≡ Some x) × (f x ≡ y)
option_map_some f None y e = cc
option_map_some f (Some x) y e = let same : f x ≡ y = cc in (x, refl, same)

-- a list that is read of the nodes is short
pub list_short : (v : Numbered) (a : Nodes) (m : FinMap nat_cmp ℕ) (e : ℕ) (g : Option ℕ) (n : ℕ)
    (l : List (ℕ × ℕ)) → IsTable (table_of v a m e g) →
    option_map (λ (k : ℕ × List (ℕ × ℕ)). k.1) (key_of_nodes a n) ≡ Some l → length l < 2 ^ 31
list_short v a m e g n l i is =
    let second : ℕ × List (ℕ × ℕ) → List (ℕ × ℕ) = λ k. k.1 in
    let k = option_map_some second (key_of_nodes a n) l is in
    let there : key_at (table_of v a m e g) n ≡ Some k.0 =
    sym (key_again (get a.linked n) (get a.detached n)) ∙ k.1 in
    omega (arith, list_within (table_of v a m e g) n k.0 there, i.total, i.bounded, i.bound_fits, ap length k.2)
