-- Unions of nodes of which no two are true together.
use Rattle.std.proofs.Common.{◌≡◌, ◌≢◌, ℕ, zero, suc, ◌+◌, ◌<◌, ◌≤◌, Bool, true, false, cond, not, ◌&&◌, ◌||◌}
use Rattle.std.proofs.Common.{List, [], ◌∷◌, ◌++◌, length, map, drop, get_or, Some}
use Rattle.std.proofs.Common.{refl, sym, ◌∙◌, ap, subst, arith}
use Rattle.std.specs.List.{AllZip}
use Rattle.std.proofs.Math.Seq.{drop-cons}
use Rattle.std.proofs.lemmas.List.{drop-append-le}
use Rattle.std.proofs.lemmas.Grind.{get_or_default_zero}
use Rattle.sd_model.specs.declared.trees.Operation.{Operation}
use Rattle.sd_model.specs.declared.trees.Operation.TheVariants.{And, Or}
use Rattle.sd_model.specs.Tree.{leaves}
use Rattle.sd_model.specs.Diagram.{Diagram, Bottom, Top, meaning}
use Rattle.sd_model.proofs.OverVtree.{vtree_apart}
use Rattle.sd_model.proofs.Valued.{true_somewhere, false_somewhere}
use Rattle.sd_vtree.specs.Numbered.{plain_tree}
use Rattle.sd_laws.proofs.Codes.{bottom_from_code, top_from_code}
use Rattle.sd_laws.proofs.Lists.{zip_push, zip_weaker, all_weaker}
use Rattle.std.specs.FinMap.{get}
use Rattle.sd_manager.specs.Table.{Table}
use Rattle.sd_manager.specs.Shown.{Shows, ShowsCanonical, IsNodeOf}
use Rattle.sd_manager.specs.Valid.{IsTable}
use Rattle.sd_manager.specs.Making.{Extends}
use Rattle.sd_manager.proofs.Same.{shown_once}
use Rattle.sd_apply.specs.Answers.{Combines, Negates}
use Rattle.sd_apply.proofs.Listed.{shown_on}
use Rattle.sd_apply.proofs.Opposite.{node_of_on}
use Rattle.sd_check.specs.declared.rules.Rule.TheVariants.{Cover}
use Rattle.sd_check.specs.Unions.{AreNodes, count_true, CountsTo, TellsPrimes}

-- ---- tables that grow

-- nodes stay nodes
pub nodes_on : (old new : Table) → Extends old new → (codes : List ℕ) → AreNodes old codes → AreNodes new codes
nodes_on old new x codes h = all_weaker (IsNodeOf old) (IsNodeOf new) (node_of_on old new x) codes h

-- and count as before
pub counts_on : (old new : Table) → Extends old new → (n : List Bool → ℕ) (codes : List ℕ) → CountsTo old n codes →
    CountsTo new n codes
counts_on old new x n codes h =
    record {
      diagrams = h.diagrams;
      shown = zip_weaker (ShowsCanonical old) (ShowsCanonical new) (λ c d k. shown_on old new x c d k) codes h.diagrams
          h.shown;
      count = h.count;
    }

-- a node among nodes
pub node_at : (t : Table) (codes : List ℕ) (i : ℕ) → AreNodes t codes → i < length codes → IsNodeOf t (get_or codes i 0)
node_at t [] i h below = absurd (omega arith)
node_at t (c ∷ codes) zero h below = h.0
node_at t (c ∷ codes) (suc i) h below = node_at t codes i h.1 (omega arith)

-- one node more
pub nodes_push : (t : Table) (codes : List ℕ) (c : ℕ) → AreNodes t codes → IsNodeOf t c → AreNodes t (codes ++ c ∷ [])
nodes_push t [] c h k = (k, tt)
nodes_push t (x ∷ codes) c h k = (h.0, nodes_push t codes c h.1 k)

-- the answer of a connective is a node
pub combined_node : (old new : Table) (o : Operation) (a b c : ℕ) → IsNodeOf old a → IsNodeOf old b →
    Combines old new o a b c → IsNodeOf new c
combined_node old new o a b c h k combines =
    let r = combines.each h.diagram k.diagram h.is k.is in record { diagram = r.diagram; is = r.is }

-- ---- a step

-- the two nodes in hand, and those behind them
pub drop_two : (xs : List ℕ) (i : ℕ) → i + 1 < length xs →
    drop i xs ≡ get_or xs i 0 ∷ get_or xs (i + 1) 0 ∷ drop (i + 2) xs
drop_two xs i below =
    let one : suc i ≡ i + 1 = omega arith in
    let two : suc (i + 1) ≡ i + 2 = omega arith in
    drop-cons xs i 0 (omega arith)
    ∙ ap (λ n. get_or xs i 0 ∷ drop n xs) one
    ∙ ap (λ l. get_or xs i 0 ∷ l) (drop-cons xs (i + 1) 0 below)
    ∙ ap (λ n. get_or xs i 0 ∷ get_or xs (i + 1) 0 ∷ drop n xs) two

-- one diagram more
count_push : (ds : List Diagram) (d : Diagram) (a : List Bool) →
    count_true (ds ++ d ∷ []) a ≡ count_true ds a + cond (meaning d a) 1 0
count_push [] d a = go (meaning d a)
  where
    go : (b : Bool) → cond b (suc 0) 0 ≡ 0 + cond b 1 0
    go true = refl
    go false = refl
count_push (e ∷ ds) d a = go (meaning e a) (count_push ds d a)
  where
    go : (b : Bool) → count_true (ds ++ d ∷ []) a ≡ count_true ds a + cond (meaning d a) 1 0 →
        cond b (suc (count_true (ds ++ d ∷ []) a)) (count_true (ds ++ d ∷ []) a)
        ≡ cond b (suc (count_true ds a)) (count_true ds a) + cond (meaning d a) 1 0
    go true h = omega arith
    go false h = h

-- two that are not true together count as their union
count_union : (b c d : Bool) (k : ℕ) → (b && c) ≡ false → d ≡ (b || c) →
    k + cond d 1 0 ≡ cond b (suc (cond c (suc k) k)) (cond c (suc k) k)
count_union true true d k h e = absurd (cc)
count_union true false true k h e = omega arith
count_union true false false k h e = absurd (cc)
count_union false true true k h e = omega arith
count_union false true false k h e = absurd (cc)
count_union false false true k h e = absurd (cc)
count_union false false false k h e = omega arith

-- two true ones are at least two
count_both : (b c : Bool) (k : ℕ) → (b && c) ≡ true → 2 ≤ cond b (suc (cond c (suc k) k)) (cond c (suc k) k)
count_both true true k h = omega arith
count_both true false k h = absurd (cc)
count_both false c k h = absurd (cc)

-- the union of two nodes in place of them
union_counts : (old mid new : Table) (x y w z : ℕ) (rest : List ℕ) (n : List Bool → ℕ) → IsTable mid → Extends old mid →
    Extends mid new → Combines old mid And x y w → w ≡ 0 → Combines mid new Or x y z → CountsTo old n (x ∷ y ∷ rest) →
    CountsTo new n (rest ++ z ∷ [])
union_counts old mid new x y w z rest n table first second both none either h =
    go h.diagrams h.shown h.count
  where
    go : (ds : List Diagram) → AllZip (ShowsCanonical old) (x ∷ y ∷ rest) ds →
        ((a : List Bool) → count_true ds a ≡ n a) → CountsTo new n (rest ++ z ∷ [])
    go [] shown count = absurd shown
    go (d ∷ []) shown count = absurd shown.1
    go (d ∷ e ∷ ds) shown count =
        let v = both.each d e shown.0 shown.1.0 in
        let u = either.each d e (shown_on old mid first x d shown.0) (shown_on old mid first y e shown.1.0) in
        let bottom : v.diagram ≡ Bottom =
        bottom_from_code mid.vtree (get mid.linked) table.numbered v.diagram
        (subst (λ c. Shows mid c v.diagram) none v.is.shows) in
        record {
          diagrams = ds ++ u.diagram ∷ [];
          shown = zip_push (ShowsCanonical new) rest ds z u.diagram
              (zip_weaker (ShowsCanonical old) (ShowsCanonical new)
              (λ c f k. shown_on mid new second c f (shown_on old mid first c f k)) rest ds shown.1.1)
              u.is;
          count = λ a.
              count_push ds u.diagram a
              ∙ count_union (meaning d a) (meaning e a) (meaning u.diagram a) (count_true ds a)
              (sym (v.value a) ∙ ap (λ f. meaning f a) bottom) (u.value a)
              ∙ count a;
        }

-- the step over the list
pub join_step : (old mid new : Table) (xs ys : List ℕ) (i x y w z : ℕ) → IsTable mid → Extends old mid →
    Extends mid new → i + 1 < length xs → x ≡ get_or xs i x → y ≡ get_or xs (i + 1) y → Combines old mid And x y w →
    w ≡ 0 → Combines mid new Or x y z → ys ≡ xs ++ z ∷ [] → (n : List Bool → ℕ) → CountsTo old n (drop i xs) →
    CountsTo new n (drop (i + 2) ys)
join_step old mid new xs ys i x y w z table first second below ex ey both none either same n h =
    let one : x ≡ get_or xs i 0 = ex ∙ get_or_default_zero xs i x (omega arith) in
    let other : y ≡ get_or xs (i + 1) 0 = ey ∙ get_or_default_zero xs (i + 1) y below in
    let list : drop i xs ≡ x ∷ y ∷ drop (i + 2) xs =
    drop_two xs i below ∙ ap (λ c. c ∷ get_or xs (i + 1) 0 ∷ drop (i + 2) xs) (sym one)
    ∙ ap (λ c. x ∷ c ∷ drop (i + 2) xs) (sym other) in
    let last : drop (i + 2) ys ≡ drop (i + 2) xs ++ z ∷ [] =
    ap (drop (i + 2)) same ∙ drop-append-le (i + 2) xs (z ∷ []) (omega arith) in
    subst (CountsTo new n) (sym last)
    (union_counts old mid new x y w z (drop (i + 2) xs) n table first second both none either
    (subst (CountsTo old n) list h))

-- where two nodes are true together
pub join_met : (old mid : Table) (xs : List ℕ) (i x y w : ℕ) → IsTable mid → i + 1 < length xs → x ≡ get_or xs i x →
    y ≡ get_or xs (i + 1) y → Combines old mid And x y w → w ≢ 0 → (n : List Bool → ℕ) → CountsTo old n (drop i xs) →
    (a : List Bool) × (2 ≤ n a)
join_met old mid xs i x y w table below ex ey both some n h =
    let one : x ≡ get_or xs i 0 = ex ∙ get_or_default_zero xs i x (omega arith) in
    let other : y ≡ get_or xs (i + 1) 0 = ey ∙ get_or_default_zero xs (i + 1) y below in
    let list : drop i xs ≡ x ∷ y ∷ drop (i + 2) xs =
    drop_two xs i below ∙ ap (λ c. c ∷ get_or xs (i + 1) 0 ∷ drop (i + 2) xs) (sym one)
    ∙ ap (λ c. x ∷ c ∷ drop (i + 2) xs) (sym other) in
    let k = subst (CountsTo old n) list h in
    go k.diagrams k.shown k.count
  where
    go : (ds : List Diagram) → AllZip (ShowsCanonical old) (x ∷ y ∷ drop (i + 2) xs) ds →
        ((a : List Bool) → count_true ds a ≡ n a) → (a : List Bool) × (2 ≤ n a)
    go [] shown count = absurd shown
    go (d ∷ []) shown count = absurd shown.1
    go (d ∷ e ∷ ds) shown count =
        let v = both.each d e shown.0 shown.1.0 in
        let not_bottom : v.diagram ≢ Bottom = λ b. some (subst (λ f. Shows mid w f) b v.is.shows) in
        let s = true_somewhere (leaves (plain_tree mid.vtree)) (vtree_apart (plain_tree mid.vtree) table.numbered.vtree)
        v.is.canonical not_bottom in (
          s.assignment,
          omega (
            arith,
            count_both (meaning d s.assignment) (meaning e s.assignment) (count_true ds s.assignment)
                (sym (v.value s.assignment) ∙ s.value),
            count s.assignment,
          ),
        )

-- ---- the end

-- at the end one node is left
pub one_left : (t : Table) (xs : List ℕ) (i x : ℕ) (n : List Bool → ℕ) → i < length xs → length xs ≤ i + 1 →
    x ≡ get_or xs i x → CountsTo t n (drop i xs) → CountsTo t n (x ∷ [])
one_left t xs i x n below most e h =
    let one : x ≡ get_or xs i 0 = e ∙ get_or_default_zero xs i x below in
    let none : drop (suc i) xs ≡ [] = dropped xs (suc i) (omega arith) in
    subst (CountsTo t n)
    (drop-cons xs i 0 below ∙ ap (λ l. get_or xs i 0 ∷ l) none ∙ ap (λ c. c ∷ []) (sym one)) h
  where
    dropped : (ys : List ℕ) (k : ℕ) → length ys ≤ k → drop k ys ≡ []
    dropped [] zero h = refl
    dropped [] (suc k) h = refl
    dropped (y ∷ ys) zero h = absurd (omega arith)
    dropped (y ∷ ys) (suc k) h = dropped ys k (omega arith)

-- the union true
pub union_true : (t : Table) (c : ℕ) (n : List Bool → ℕ) → IsTable t → c ≡ 1 → CountsTo t n (c ∷ []) →
    (a : List Bool) → n a ≡ 1
union_true t c n table e h a = go h.diagrams h.shown h.count
  where
    go : (ds : List Diagram) → AllZip (ShowsCanonical t) (c ∷ []) ds → ((a : List Bool) → count_true ds a ≡ n a) →
        n a ≡ 1
    go [] shown count = absurd shown
    go (d ∷ []) shown count =
        let top : d ≡ Top =
        top_from_code t.vtree (get t.linked) table.numbered d (subst (λ k. Shows t k d) e shown.0.shows) in
        sym (count a) ∙ ap (λ f. count_true (f ∷ []) a) top
    go (d ∷ f ∷ ds) shown count = absurd shown.1

-- another union is false under some assignment, and no two were true together
pub union_else : (t : Table) (c : ℕ) (n : List Bool → ℕ) → IsTable t → c ≢ 1 → CountsTo t n (c ∷ []) →
    TellsPrimes n (Some Cover)
union_else t c n table ne h = go h.diagrams h.shown h.count
  where
    most : (b : Bool) → cond b (suc 0) 0 ≤ 1
    most true = omega arith
    most false = omega arith

    go : (ds : List Diagram) → AllZip (ShowsCanonical t) (c ∷ []) ds → ((a : List Bool) → count_true ds a ≡ n a) →
        TellsPrimes n (Some Cover)
    go [] shown count = absurd shown
    go (d ∷ []) shown count =
        let not_top : d ≢ Top = λ b. ne (subst (λ f. Shows t c f) b shown.0.shows) in
        let s = false_somewhere (leaves (plain_tree t.vtree)) (vtree_apart (plain_tree t.vtree) table.numbered.vtree)
        shown.0.canonical not_top in (
          λ a. omega (arith, count a, most (meaning d a)),
          s.assignment,
          sym (count s.assignment) ∙ ap (λ b. cond b (suc 0) 0) s.value,
        )
    go (d ∷ f ∷ ds) shown count = absurd shown.1

-- ---- two primes

-- a prime and its negation
pub opposite_counts : (old new : Table) (x y w : ℕ) (n : List Bool → ℕ) → IsTable new → Extends old new →
    Negates old new x w → w ≡ y → CountsTo old n (x ∷ y ∷ []) → (a : List Bool) → n a ≡ 1
opposite_counts old new x y w n table kept negates same h a = go h.diagrams h.shown h.count
  where
    one : (b c : Bool) → c ≡ not b → cond b (suc (cond c (suc 0) 0)) (cond c (suc 0) 0) ≡ 1
    one true true e = absurd (cc)
    one true false e = refl
    one false true e = refl
    one false false e = absurd (cc)

    go : (ds : List Diagram) → AllZip (ShowsCanonical old) (x ∷ y ∷ []) ds →
        ((a : List Bool) → count_true ds a ≡ n a) → n a ≡ 1
    go [] shown count = absurd shown
    go (d ∷ []) shown count = absurd shown.1
    go (d ∷ e ∷ []) shown count =
        let v = negates.each d shown.0 in
        let there : ShowsCanonical new w e =
        subst (λ c. ShowsCanonical new c e) (sym same) (shown_on old new kept y e shown.1.0) in
        let equal : v.diagram ≡ e = shown_once new table w v.diagram e v.is there in
        sym (count a)
        ∙ one (meaning d a) (meaning e a) (ap (λ f. meaning f a) (sym equal) ∙ v.value a)
    go (d ∷ e ∷ f ∷ ds) shown count = absurd shown.1.1

-- the two primes of two elements
pub two_primes : (elements : List (ℕ × ℕ)) (first second : ℕ × ℕ) → length elements ≡ 2 →
    map (λ e. e.0) elements ≡ (get_or elements 0 first).0 ∷ (get_or elements 1 second).0 ∷ []
two_primes [] first second two = absurd (omega arith)
two_primes (x ∷ []) first second two = absurd (omega arith)
two_primes (x ∷ y ∷ []) first second two = refl
two_primes (x ∷ y ∷ z ∷ es) first second two = absurd (omega arith)
