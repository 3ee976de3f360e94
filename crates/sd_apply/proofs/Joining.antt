-- The halves of a node, and halves joined with literals: their values.
use Rattle.std.proofs.Common.{◌≡◌, ◌≢◌, ℕ, zero, suc, ◌+◌, ◌-◌, ◌*◌, ◌/◌, ◌%◌, ◌≤◌, ◌<◌, ℤ, Bool, true, false}
use Rattle.std.proofs.Common.{not, cond, List, [], ◌∷◌, length, drop, Some, None, slice_get, refl, sym, ◌∙◌, ap, subst}
use Rattle.std.proofs.Common.{arith, ◌==◌, nat_lt, if◌then◌else◌, unwrap_or, Option}
use Rattle.std.specs.Option.{option_map}
use Rattle.std.proofs.lemmas.Bool.Decides.{nat_tests}
use Rattle.std.specs.FinMap.{get}
use Rattle.std.proofs.lemmas.Option.{same_Some, none-some}
use Rattle.sd_model.specs.declared.trees.Operation.{Operation}
use Rattle.sd_model.specs.declared.trees.Operation.TheVariants.{And, Or, Xor}
use Rattle.sd_model.specs.Assignment.{literal_holds, value_in}
use Rattle.sd_model.specs.Diagram.{Diagram, Bottom, Top, Literal, meaning}
use Rattle.sd_model.specs.Expression.{combine}
use Rattle.sd_laws.specs.Pairs.{answers}
use Rattle.sd_laws.specs.Shown.{literal_code}
use Rattle.sd_laws.proofs.Codes.{one_diagram}
use Rattle.sd_laws.proofs.Leaves.{literal_of_code}
use Rattle.sd_manager.specs.Table.{Table, key_at}
use Rattle.sd_manager.specs.Shown.{Shows, ShowsCanonical, IsPartitionAt}
use Rattle.sd_manager.specs.Views.{pairs_at, view_of, view_of_key}
use Rattle.sd_manager.specs.declared.view.View.TheVariants.{Constant as ConstantView, Literal as LiteralView}
use Rattle.sd_manager.specs.declared.view.View.TheVariants.{Decomposition as DecompositionView}
use Rattle.sd_manager.specs.Literals.{literal_at}
use Rattle.sd_manager.specs.Making.{Extends, IsMade}
use Rattle.sd_manager.specs.Valid.{IsTable}
use Rattle.sd_apply.specs.Answers.{HasAnswer}
use Rattle.sd_apply.specs.Places.{IsNodeUnder, IsBelow, HasPlace}
use Rattle.sd_apply.specs.Elements.{ListsElements}
use Rattle.sd_apply.specs.Group.{group_value}
use Rattle.sd_apply.specs.Halves.{HasHalves, Halves, MakesHalves, IsLeafFork}
use Rattle.sd_apply.specs.GroupCalls.{deciding, between}
use Rattle.sd_apply.proofs.Trees.{bottom_under, top_under}
use Rattle.sd_apply.proofs.Listed.{node_on}
use Rattle.sd_apply.proofs.Standing.{shown}
use Rattle.sd_apply.proofs.Rows.{not_bottom}
use Rattle.sd_apply.proofs.Merging.{partition_at, head_same}
use Rattle.sd_apply.proofs.Expanding.{own_list}
use Rattle.sd_apply.proofs.JoiningPlaces.{fork_literal, fork_range}

-- ---- halves

same_halves : (v x : Bool) → cond v x x ≡ x
same_halves true x = refl
same_halves false x = refl

-- a node below the right child has itself as both halves
pub whole_halves : (t : Table) (v w x c : ℕ) → IsTable t → IsBelow t w c → Halves t v w x c (c, c)
whole_halves t v w x c i h = record {
  each = λ d k.
      let same : h.diagram ≡ d = one_diagram t.vtree (get t.linked) i.numbered h.diagram c d h.is.shows k.shows in
      let here : IsNodeUnder t w c d = subst (IsNodeUnder t w c) same h.is in
      record {
        first = d;
        second = d;
        first_is = here;
        second_is = here;
        value = λ g. same_halves (value_in g x) (meaning d g);
      };
}

-- the constants are the halves of a literal
first_constant : (v : Bool) → cond v true false ≡ v
first_constant true = refl
first_constant false = refl

second_constant : (v : Bool) → cond v false true ≡ not v
second_constant true = refl
second_constant false = refl

pub positive_halves : (t : Table) (v w x c : ℕ) → IsTable t → 2 ≤ c → c < 2050 → c / 2 ≡ x → c % 2 ≡ 0 →
    Halves t v w x c (1, 0)
positive_halves t v w x c i low high half even = record {
  each = λ d k.
      let q = literal_of_code t.vtree (get t.linked) i.numbered c d k.shows low high in
      record {
        first = Top;
        second = Bottom;
        first_is = record { shows = refl; under = top_under t.vtree w };
        second_is = record { shows = refl; under = bottom_under t.vtree w };
        value = λ g. first_constant (value_in g x)
            ∙ sym (go q.0 q.1 (subst (Shows t c) q.2 k.shows).0 g
            ∙ ap (λ y. value_in g y) half) ∙ ap (λ z. meaning z g) (sym q.2);
      };
}
  where
    go : (p : ℕ) (s : Bool) → c ≡ literal_code (c / 2) s → (g : List Bool) →
        meaning (Literal p (c / 2) s) g ≡ value_in g (c / 2)
    go p true e g = refl
    go p false e g = absurd (omega (arith, e, even))

pub negative_halves : (t : Table) (v w x c : ℕ) → IsTable t → 2 ≤ c → c < 2050 → c / 2 ≡ x → c % 2 ≢ 0 →
    Halves t v w x c (0, 1)
negative_halves t v w x c i low high half odd = record {
  each = λ d k.
      let q = literal_of_code t.vtree (get t.linked) i.numbered c d k.shows low high in
      record {
        first = Bottom;
        second = Top;
        first_is = record { shows = refl; under = bottom_under t.vtree w };
        second_is = record { shows = refl; under = top_under t.vtree w };
        value = λ g. second_constant (value_in g x)
            ∙ sym (go q.0 q.1 (subst (Shows t c) q.2 k.shows).0 g
            ∙ ap (λ y. not (value_in g y)) half) ∙ ap (λ z. meaning z g) (sym q.2);
      };
}
  where
    go : (p : ℕ) (s : Bool) → c ≡ literal_code (c / 2) s → (g : List Bool) →
        meaning (Literal p (c / 2) s) g ≡ not (value_in g (c / 2))
    go p true e g = absurd (odd (omega (arith, e)))
    go p false e g = refl

-- the values of two elements whose primes are the literals of a variable
two_values : (v x y : Bool) → cond v (x ∷ cond (not v) (y ∷ []) []) (cond (not v) (y ∷ []) []) ≡ cond v x y ∷ []
two_values true x y = refl
two_values false x y = refl

first_same : (x y : Bool) (l : List Bool) → x ∷ l ≡ y ∷ [] → x ≡ y
first_same x y l e = cc

-- where one of two elements holds it is the second exactly where the first does not hold
one_of_two : (v q y z w : Bool) → cond v (y ∷ cond q (z ∷ []) []) (cond q (z ∷ []) []) ≡ w ∷ [] → cond v y z ≡ w
one_of_two true q y z w e = first_same y w (cond q (z ∷ []) []) e
one_of_two false true y z w e = head_same z w e
one_of_two false false y z w e = cc

-- two pairs are the list
pub two_pairs : (l : List (ℕ × ℕ)) (e f : ℕ × ℕ) → length l ≡ 2 → slice_get l 0 ≡ Some e → slice_get l 1 ≡ Some f →
    l ≡ e ∷ f ∷ []
two_pairs [] e f n a b = absurd (omega (arith, n))
two_pairs (x ∷ []) e f n a b = absurd (omega (arith, n))
two_pairs (x ∷ y ∷ []) e f n a b =
    ap (λ z. z ∷ y ∷ []) (same_Some x e a) ∙ ap (λ z. e ∷ z ∷ []) (same_Some y f b)
two_pairs (x ∷ y ∷ z ∷ l) e f n a b = absurd (omega (arith, n))

-- a decomposition has as many pairs as its view tells
pub count_pairs : (t : Table) (c place n : ℕ) → 2050 ≤ c → DecompositionView place n ≡ view_of t c →
    length (pairs_at t c) ≡ n
count_pairs t c place n code e =
    let low : nat_lt c 2050 ≡ false = grind (arith, nat_tests) in
    let least : nat_lt c 2 ≡ false = grind (arith, nat_tests) in
    let k = key_at t (c - 2050) in
    ap (λ b. length (if b then [] else unwrap_or (option_map (λ (k : ℕ × List (ℕ × ℕ)). k.1) k) [])) low
    ∙ go k (e
    ∙ ap (λ b. if b then ConstantView (c == 1) else (if nat_lt c 2050 then LiteralView (literal_at c) else
    view_of_key k))
    least
    ∙ ap (λ b. if b then LiteralView (literal_at c) else view_of_key k) low)
  where
    go : (o : Option (ℕ × List (ℕ × ℕ))) → DecompositionView place n ≡ view_of_key o →
        length (unwrap_or (option_map (λ (k : ℕ × List (ℕ × ℕ)). k.1) o) []) ≡ n
    go None e = cc
    go (Some k) e = cc

-- the subs of a decomposition of two elements, of which the first has the variable as its prime, are its halves
pub decomposed_halves : (t : Table) (at u w x c : ℕ) (e f : ℕ × ℕ) → IsTable t → IsLeafFork t.vtree at u w x →
    ((d : Diagram) → ShowsCanonical t c d → HasPlace t.vtree at d) → 2050 ≤ c → length (pairs_at t c) ≡ 2 →
    slice_get (pairs_at t c) 0 ≡ Some e → slice_get (pairs_at t c) 1 ≡ Some f → e.0 ≡ 2 * x →
    Halves t at w x c (e.1, f.1)
decomposed_halves t at u w x c e f i fork place code two one other prime = record {
  each = λ d k.
      let s = shown t at c d k in
      let list = own_list t i at u w c fork.children d s (place d s) code in
      let L : List (ℕ × ℕ) → Type 0 = λ l. ListsElements t u w l list.shown in
      go list.shown (subst L (two_pairs (pairs_at t c) e f two one other) list.lists) (meaning d) list.value;
}
  where
    go : (ds : List (Diagram × Diagram)) → ListsElements t u w (e ∷ f ∷ []) ds → (h : List Bool → Bool) →
        ((g : List Bool) → answers g ds ≡ h g ∷ []) → HasHalves t w x e.1 f.1 h
    go [] lists h value = absurd lists.pairs
    go (a ∷ []) lists h value = absurd lists.pairs.1
    go (a ∷ b ∷ []) lists h value =
        let p = fork_literal t i at u w x fork true in
        let first : a.0 ≡ Literal p.0 x true = one_diagram t.vtree (get t.linked) i.numbered a.0 e.0
        (Literal p.0 x true) lists.pairs.0.prime_shows
        (subst (λ k. Shows t k (Literal p.0 x true)) (omega (arith, prime)) p.1.shows) in
        record {
          first = a.1;
          second = b.1;
          first_is = record { shows = lists.pairs.0.sub_shows; under = lists.pairs.0.sub };
          second_is = record { shows = lists.pairs.1.0.sub_shows; under = lists.pairs.1.0.sub };
          value = λ g.
              let y = meaning a.1 g in
              let z = meaning b.1 g in
              let q = meaning b.0 g in
              one_of_two (value_in g x) q y z (h g)
              (sym (ap (λ d. cond (meaning d g) (y ∷ cond q (z ∷ []) []) (cond q (z ∷ []) [])) first) ∙ value g);
        }
    go (a ∷ b ∷ k ∷ ds) lists h value = absurd lists.pairs.1.1

-- ---- the node of two halves

-- equal halves are the node
pub same_made : (t : Table) (w x a b : ℕ) → IsTable t → a ≡ b → MakesHalves t t w x a b a
same_made t w x a b i same = record {
  each = λ f h.
      let one : h.first ≡ h.second = one_diagram t.vtree (get t.linked) i.numbered h.first a h.second
      h.first_is.shows (subst (λ k. Shows t k h.second) (sym same) h.second_is.shows) in
      record {
        diagram = h.first;
        is = shown t w a h.first h.first_is;
        value = λ g.
            sym (same_halves (value_in g x) (meaning h.first g))
            ∙ ap (λ d. cond (value_in g x) (meaning h.first g) (meaning d g)) one ∙ h.value g;
      };
}

-- and where they are a node's own halves it is the node
pub same_answer : (old new : Table) → IsTable new → Extends old new → (v w x c : ℕ) (h r : ℕ × ℕ) →
    Halves old v w x c h → r.0 ≡ h.0 → r.1 ≡ h.1 → (d : Diagram) → IsNodeUnder old v c d → (f : List Bool → Bool) →
    HasHalves new w x r.0 r.1 f → HasAnswer new f c
same_answer old new i e v w x c h r k one other d q f z =
    let p = k.each d q in
    let first : z.first ≡ p.first = one_diagram new.vtree (get new.linked) i.numbered z.first r.0 p.first
    z.first_is.shows (subst (λ n. Shows new n p.first) (sym one)
    (node_on old new e w h.0 p.first p.first_is).shows) in
    let second : z.second ≡ p.second = one_diagram new.vtree (get new.linked) i.numbered z.second r.1 p.second
    z.second_is.shows (subst (λ n. Shows new n p.second) (sym other)
    (node_on old new e w h.1 p.second p.second_is).shows) in
    record {
      diagram = d;
      is = shown new v c d (node_on old new e v c d q);
      value = λ g.
          sym (p.value g)
          ∙ ap (λ y. cond (value_in g x) (meaning y g) (meaning p.second g)) (sym first)
          ∙ ap (λ y. cond (value_in g x) (meaning z.first g) (meaning y g)) (sym second)
          ∙ z.value g;
    }

-- the two elements
pub record ListsHalves (t : Table) (u w x a b : ℕ) (f : List Bool → Bool) : Type 0 where
  pub shown : List (Diagram × Diagram)
  pub lists : ListsElements t u w ((2 * x, a) ∷ (2 * x + 1, b) ∷ []) shown
  pub value : (g : List Bool) → answers g shown ≡ f g ∷ []

pub lists_halves : (t : Table) → IsTable t → (at u w x a b : ℕ) → IsLeafFork t.vtree at u w x → (f : List Bool → Bool) →
    HasHalves t w x a b f → ListsHalves t u w x a b f
lists_halves t i at u w x a b fork f h =
    let p = fork_literal t i at u w x fork true in
    let n = fork_literal t i at u w x fork false in
    let range = fork_range t.vtree i.numbered at u w x fork in
    record {
      shown = (Literal p.0 x true, h.first) ∷ (Literal n.0 x false, h.second) ∷ [];
      lists = record {
        pairs = (
          record {
            prime_shows = p.1.shows;
            sub_shows = h.first_is.shows;
            prime = p.1.under;
            sub = h.first_is.under;
            possible = not_bottom t (2 * x) (Literal p.0 x true) p.1.shows (λ e. omega (arith, e, range.0));
          },
          (
            record {
              prime_shows = n.1.shows;
              sub_shows = h.second_is.shows;
              prime = n.1.under;
              sub = h.second_is.under;
              possible = not_bottom t (2 * x + 1) (Literal n.0 x false) n.1.shows (λ e. omega (arith, e));
            },
            tt,
          ),
        );
      };
      value = λ g. two_values (value_in g x) (meaning h.first g) (meaning h.second g)
          ∙ ap (λ v. v ∷ []) (h.value g);
    }

-- two nodes below the right child are halves
pub some_halves : (t : Table) (w x a b : ℕ) (p : IsBelow t w a) (q : IsBelow t w b) →
    HasHalves t w x a b (λ g. cond (value_in g x) (meaning p.diagram g) (meaning q.diagram g))
some_halves t w x a b p q = record {
  first = p.diagram;
  second = q.diagram;
  first_is = p.is;
  second_is = q.is;
  value = λ g. refl;
}

pub halves_partition : (t : Table) → IsTable t → (at u w x a b : ℕ) → IsLeafFork t.vtree at u w x → IsBelow t w a →
    IsBelow t w b → (ds : List (Diagram × Diagram)) × IsPartitionAt t at ((2 * x, a) ∷ (2 * x + 1, b) ∷ []) ds
halves_partition t i at u w x a b fork p q =
    let l = lists_halves t i at u w x a b fork _ (some_halves t w x a b p q) in (
      l.shown,
      partition_at t i at u w fork.children ((2 * x, a) ∷ (2 * x + 1, b) ∷ []) l.shown l.lists (λ g.
          ap length (l.value g)),
    )

-- what is made of the two elements
pub halves_made : (old new : Table) → IsTable old → (at u w x a b c : ℕ) → IsLeafFork old.vtree at u w x →
    ((ds : List (Diagram × Diagram)) → IsPartitionAt old at ((2 * x, a) ∷ (2 * x + 1, b) ∷ []) ds → IsMade new c ds) →
    MakesHalves old new w x a b c
halves_made old new i at u w x a b c fork made = record {
  each = λ f h.
      let l = lists_halves old i at u w x a b fork f h in
      let z = made l.shown (partition_at old i at u w fork.children ((2 * x, a) ∷ (2 * x + 1, b) ∷ []) l.shown l.lists
      (λ g. ap length (l.value g))) in
      record {
        diagram = z.diagram;
        is = z.is;
        value = λ g. head_same (meaning z.diagram g) (f g) (sym (z.value g) ∙ l.value g);
      };
}

-- ---- literals

-- one literal more
group_more : (o : Operation) → o ≢ Xor → (e : ℕ × ℤ) (l : List (ℕ × ℤ)) (g : List Bool) →
    group_value o (e ∷ l) g ≡ combine (between o) (literal_holds g e.1) (group_value o l g)
group_more And other e l g = refl
group_more Or other e l g = refl
group_more Xor other e l g = absurd (other refl)

group_none : (o : Operation) → o ≢ Xor → (g : List Bool) → group_value o [] g ≡ deciding o
group_none And other g = refl
group_none Or other g = refl
group_none Xor other g = absurd (other refl)

-- the literals from an index on
drop_more : (l : List (ℕ × ℤ)) (i : ℕ) (e : ℕ × ℤ) → slice_get l i ≡ Some e → drop i l ≡ e ∷ drop (suc i) l
drop_more [] i e h = absurd (none-some e h)
drop_more (x ∷ l) zero e h = ap (λ z. z ∷ l) (same_Some x e h)
drop_more (x ∷ l) (suc i) e h = drop_more l i e h

drop_none : (l : List (ℕ × ℤ)) (i : ℕ) → length l ≤ i → drop i l ≡ []
drop_none [] zero h = refl
drop_none [] (suc i) h = refl
drop_none (x ∷ l) zero h = absurd (omega (arith, h))
drop_none (x ∷ l) (suc i) h = drop_none l i (omega (arith, h))

pub from_more : (o : Operation) → o ≢ Xor → (l : List (ℕ × ℤ)) (i : ℕ) (e : ℕ × ℤ) → slice_get l i ≡ Some e →
    (g : List Bool) → group_value o (drop i l) g
    ≡ combine (between o) (literal_holds g e.1) (group_value o (drop (i + 1) l) g)
from_more o other l i e h g =
    let next : suc i ≡ i + 1 = omega arith in
    ap (λ k. group_value o k g) (drop_more l i e h) ∙ group_more o other e (drop (suc i) l) g
    ∙ ap (λ k. combine (between o) (literal_holds g e.1) (group_value o (drop k l) g)) next

pub from_none : (o : Operation) → o ≢ Xor → (l : List (ℕ × ℤ)) (i : ℕ) → length l ≤ i → (g : List Bool) →
    group_value o (drop i l) g ≡ deciding o
from_none o other l i h g = ap (λ k. group_value o k g) (drop_none l i h) ∙ group_none o other g

-- the constant that decides
pub decides : (o : Operation) → o ≢ Xor → (b : Bool) → combine o b (deciding o) ≡ deciding o
decides And other true = refl
decides And other false = refl
decides Or other true = refl
decides Or other false = refl
decides Xor other b = absurd (other refl)

pub decides_first : (o : Operation) → o ≢ Xor → (b : Bool) → combine o (deciding o) b ≡ deciding o
decides_first And other true = refl
decides_first And other false = refl
decides_first Or other true = refl
decides_first Or other false = refl
decides_first Xor other b = absurd (other refl)
