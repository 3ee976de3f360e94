-- A table whose places a move does not turn shows the same functions before and after the move.
use Rattle.std.proofs.Common.{◌≡◌, ◌≢◌, ◌⊎◌, inl, inr, ℕ, ◌+◌, ◌*◌, ◌<◌, List, [], ◌∷◌, Some, refl}
use Rattle.std.proofs.Common.{sym, ◌∙◌, subst, arith}
use Rattle.std.specs.List.{AllByRecursion}
use Rattle.std.specs.Option.{IsSome}
use Rattle.sd_model.specs.Tree.{leaves}
use Rattle.sd_model.specs.Diagram.{Diagram, Bottom, Top, Literal, Decomposition, meaning}
use Rattle.sd_vtree.specs.Numbered.{Numbered, plain_tree, IsNumbered}
use Rattle.sd_laws.specs.Shown.{Lookup, Shows, AreKeys, ShowsCanonical}
use Rattle.sd_laws.specs.Turned.{KeepsOthers}
use Rattle.sd_laws.specs.Values.{Valuation, IsSame, GivesLiterals, StandsIn, IsCodeOf, AreOrderly, ShowsValue}
use Rattle.sd_laws.proofs.Lists.{IsAmong, all_from, all_weaker}
use Rattle.sd_laws.proofs.Codes.{literal_range}
use Rattle.sd_laws.proofs.Nodes.{element_shown, elements_canonical, code_of_node}
use Rattle.sd_laws.proofs.Evaluated.{value_of, literals_given, value_of_shown, evaluated}
use Rattle.sd_laws.proofs.Orderly.{IsOrderly, node_orderly}
use Rattle.sd_laws.proofs.Placing.{placed_others}
use Rattle.sd_laws.proofs.ByValues.{base_shown, shown_by_values}
use Rattle.sd_laws.proofs.Within.{IsClosed, prime_stands, sub_stands}

-- the node shows some canonical diagram
pub record IsShownNode (t : Numbered) (at : Lookup) (n : ℕ) : Type 0 where
  pub diagram : Diagram
  pub is : ShowsCanonical t at (2050 + n) diagram

-- a code shows some canonical diagram, and is that of a constant, a literal or a node that does
record IsShownCode (t : Numbered) (at : Lookup) (c : ℕ) : Type 0 where
  pub value : ShowsValue t at (value_of at) c
  pub code : IsCodeOf t at (IsShownNode t at) c

-- where it shows one
shown_code : (t : Numbered) → IsNumbered t → (at : Lookup) (c : ℕ) (d : Diagram) → ShowsCanonical t at c d
    → IsShownCode t at c
shown_code t num at c d h = record { value = evaluated t at num c d h; code = go (code_of_node t at num c d h.shows) }
  where
    go : (c < 2 * leaves (plain_tree t) + 2) ⊎ ((n : ℕ) × (c ≡ 2050 + n) × IsSome (at n)) →
        IsCodeOf t at (IsShownNode t at) c
    go (inl lt) = inl lt
    go (inr w) = inr (w.0, w.1, record { diagram = d; is = subst (λ b. ShowsCanonical t at b d) w.1 h }, w.2)

-- the codes of a shown node's list are shown
codes_shown : (t : Numbered) → IsNumbered t → (at : Lookup) (n u : ℕ) (l : List (ℕ × ℕ)) → IsShownNode t at n →
    at n ≡ Some (u, l) → (e : ℕ × ℕ) → IsAmong e l → IsShownCode t at e.0 × IsShownCode t at e.1
codes_shown t num at n u l h stored e m = go h.diagram h.is
  where
    go : (d : Diagram) → ShowsCanonical t at (2050 + n) d → IsShownCode t at e.0 × IsShownCode t at e.1
    go Bottom is = absurd (let z : 2050 + n ≡ 0 = is.shows in omega arith)
    go Top is = absurd (let z : 2050 + n ≡ 1 = is.shows in omega arith)
    go (Literal p x s) is = absurd (omega (arith, (literal_range t at num (2050 + n) p x s is.shows).2))
    go (Decomposition p es) is =
        let w = element_shown t at (2050 + n) p es is.shows n u l refl stored e m in
        let c = elements_canonical is.canonical w.0 w.1 w.2 in (
          shown_code t num at e.0 w.0 (record { shows = w.3; canonical = c.0 }),
          shown_code t num at e.1 w.1 (record { shows = w.4; canonical = c.1 }),
        )

-- the codes of a node's list show their values, where each node of P does and P is closed under lists
codes_valued : (t : Numbered) → IsNumbered t → (at : Lookup) (P : ℕ → Type 0) (v : Valuation) → GivesLiterals v →
    IsClosed at P → ((n : ℕ) → P n → ShowsValue t at v (2050 + n)) → (n u : ℕ) (l : List (ℕ × ℕ)) → P n →
    at n ≡ Some (u, l) → (e : ℕ × ℕ) → IsAmong e l →
    (ShowsValue t at v e.0 × IsCodeOf t at P e.0) × (ShowsValue t at v e.1 × IsCodeOf t at P e.1)
codes_valued t num at P v g closed shown n u l own stored e m = go (shown n own).diagram (shown n own).is
  where
    code : (c : ℕ) (d : Diagram) → Shows t at c d → ((i : ℕ) → c ≡ 2050 + i → P i) →
        ShowsValue t at v c × IsCodeOf t at P c
    code c d h f = by_kind (code_of_node t at num c d h)
      where
        by_kind : (c < 2 * leaves (plain_tree t) + 2) ⊎ ((i : ℕ) × (c ≡ 2050 + i) × IsSome (at i)) →
            ShowsValue t at v c × IsCodeOf t at P c
        by_kind (inl lt) = (base_shown t num at v g c lt, inl lt)
        by_kind (inr w) =
            let p : P w.0 = f w.0 w.1 in
            (subst (ShowsValue t at v) (sym w.1) (shown w.0 p), inr (w.0, w.1, p, w.2))

    go : (d : Diagram) → ShowsCanonical t at (2050 + n) d →
        (ShowsValue t at v e.0 × IsCodeOf t at P e.0) × (ShowsValue t at v e.1 × IsCodeOf t at P e.1)
    go Bottom is = absurd (let z : 2050 + n ≡ 0 = is.shows in omega arith)
    go Top is = absurd (let z : 2050 + n ≡ 1 = is.shows in omega arith)
    go (Literal p x s) is = absurd (omega (arith, (literal_range t at num (2050 + n) p x s is.shows).2))
    go (Decomposition p es) is =
        let w = element_shown t at (2050 + n) p es is.shows n u l refl stored e m in (
          code e.0 w.0 w.3 (λ i k. closed n i u l own stored (prime_stands l e (2050 + i) m k)),
          code e.1 w.1 w.4 (λ i k. closed n i u l own stored (sub_stands l e (2050 + i) m k)),
        )

-- nodes that show their values are in order by them
pub valued_orderly : (t : Numbered) → IsNumbered t → (at : Lookup) (P : ℕ → Type 0) (v : Valuation) → GivesLiterals v →
    IsClosed at P → ((n : ℕ) → P n → ShowsValue t at v (2050 + n)) → AreOrderly t at P v
valued_orderly t num at P v g closed shown =
    record {
      literals = g;
      value = λ n u l h stored. (order n u l h stored).value;
      whole = λ n u l h stored. (order n u l h stored).whole;
      placed = λ n u l h stored. (order n u l h stored).placed;
      closed = λ n u l h stored.
          all_from (λ (e : ℕ × ℕ). IsCodeOf t at P e.0 × IsCodeOf t at P e.1) l
          (λ e m. let c = codes_valued t num at P v g closed shown n u l h stored e m in (c.0.1, c.1.1));
    }
  where
    order : (n u : ℕ) (l : List (ℕ × ℕ)) → P n → at n ≡ Some (u, l) → IsOrderly t v n u l
    order n u l h stored =
        node_orderly t num at v n u l stored (shown n h)
        (all_from (λ (e : ℕ × ℕ). ShowsValue t at v e.0 × ShowsValue t at v e.1) l
        (λ e m. let c = codes_valued t num at P v g closed shown n u l h stored e m in (c.0.0, c.1.0)))

-- what a shown node's list is by values
node_order : (t : Numbered) → IsNumbered t → (at : Lookup) (n u : ℕ) (l : List (ℕ × ℕ)) → IsShownNode t at n →
    at n ≡ Some (u, l) → IsOrderly t (value_of at) n u l
node_order t num at n u l h stored =
    node_orderly t num at (value_of at) n u l stored (evaluated t at num (2050 + n) h.diagram h.is)
    (all_from (λ (e : ℕ × ℕ). ShowsValue t at (value_of at) e.0 × ShowsValue t at (value_of at) e.1) l
    (λ e m. let c = codes_shown t num at n u l h stored e m in (c.0.value, c.1.value)))

-- the shown nodes of a table, by values
pub shown_orderly : (t : Numbered) → IsNumbered t → (at : Lookup) → AreOrderly t at (IsShownNode t at) (value_of at)
shown_orderly t num at =
    record {
      literals = literals_given at;
      value = λ n u l h stored. (node_order t num at n u l h stored).value;
      whole = λ n u l h stored. (node_order t num at n u l h stored).whole;
      placed = λ n u l h stored. (node_order t num at n u l h stored).placed;
      closed = λ n u l h stored.
          all_from (λ (e : ℕ × ℕ). IsCodeOf t at (IsShownNode t at) e.0 × IsCodeOf t at (IsShownNode t at) e.1) l
          (λ e m. let c = codes_shown t num at n u l h stored e m in (c.0.code, c.1.code));
    }

-- what a shown node names is shown
pub shown_closed : (t : Numbered) → IsNumbered t → (at : Lookup) → IsClosed at (IsShownNode t at)
shown_closed t num at m n place list h stored s =
    in_list list ((shown_orderly t num at).closed m place list h stored) s
  where
    of_code : (c : ℕ) → IsCodeOf t at (IsShownNode t at) c → c ≡ 2050 + n → IsShownNode t at n
    of_code c (inl lt) z = let within_limit = num.within_limit in absurd (omega arith)
    of_code c (inr w) z = let e : w.0 ≡ n = let f = w.1 in omega arith in subst (IsShownNode t at) e w.2

    in_list : (l : List (ℕ × ℕ)) →
        AllByRecursion (λ (e : ℕ × ℕ). IsCodeOf t at (IsShownNode t at) e.0 × IsCodeOf t at (IsShownNode t at) e.1) l →
        StandsIn (2050 + n) l → IsShownNode t at n
    in_list [] cs k = absurd k
    in_list (e ∷ l) cs (inl k) = of_code e.0 cs.0.0 k
    in_list (e ∷ l) cs (inr (inl k)) = of_code e.1 cs.0.1 k
    in_list (e ∷ l) cs (inr (inr k)) = in_list l cs.1 k

-- a code for one vtree is one for another with as many variables
code_turned : (t u : Numbered) (at : Lookup) (P : ℕ → Type 0) (c : ℕ) → leaves (plain_tree u) ≡ leaves (plain_tree t) →
    IsCodeOf t at P c → IsCodeOf u at P c
code_turned t u at P c e (inl lt) = inl (omega (arith, lt, e))
code_turned t u at P c e (inr w) = inr w

-- Where no node stands at the two places that a move turns, each code that showed a canonical diagram shows one of the
-- same function for the moved vtree.
pub turned_shown : (t u : Numbered) (x w : ℕ) → IsNumbered t → IsNumbered u → leaves (plain_tree u)
    ≡ leaves (plain_tree t) →
    KeepsOthers t u x w → (at : Lookup) → AreKeys at →
    ((n place : ℕ) (l : List (ℕ × ℕ)) → at n ≡ Some (place, l) → (place ≢ x) × (place ≢ w)) → (c : ℕ) (d : Diagram) →
    ShowsCanonical t at c d → (e : Diagram) × ShowsCanonical u at c e × IsSame (meaning e) (meaning d)
turned_shown t u x w num num' same keeps at keys cleared c d h =
    let v = value_of at in
    let P = IsShownNode t at in
    let o : AreOrderly t at P v = shown_orderly t num at in
    let q : AreOrderly u at P v = record {
      literals = o.literals;
      value = o.value;
      whole = o.whole;
      placed = λ n p l is stored.
          let k = cleared n p l stored in placed_others t u x w v p l keeps k.0 k.1 (o.placed n p l is stored);
      closed = λ n p l is stored.
          all_weaker (λ (e : ℕ × ℕ). IsCodeOf t at P e.0 × IsCodeOf t at P e.1)
          (λ (e : ℕ × ℕ). IsCodeOf u at P e.0 × IsCodeOf u at P e.1)
          (λ e k. (code_turned t u at P e.0 same k.0, code_turned t u at P e.1 same k.1)) l (o.closed n p l is stored);
    } in
    let i : IsShownCode t at c = shown_code t num at c d h in
    let z : ShowsValue u at v c = shown_by_values u num' at P v keys q c (code_turned t u at P c same i.code) in
    (z.diagram, z.is, λ a. z.value a ∙ sym (value_of_shown t at num c d h a))
