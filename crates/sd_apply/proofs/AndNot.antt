-- The difference of two nodes: what needs no node, what the tables know, and the answer from the halves or from a
-- negation.
use Rattle.std.proofs.Common.{◌≡◌, ◌∙◌, sym, ap, subst, refl, ℕ, ◌/◌, ◌≤◌, ◌<◌, Bool, true, false, not, ◌&&◌}
use Rattle.std.proofs.Common.{cond, List, ◌⊎◌, inl, inr, Some, None, arith, Option}
use Rattle.std.specs.FinMap.{get}
use Rattle.std.specs.Map.{lookup}
use Rattle.std.proofs.lemmas.Bool.Decides.{nat_tests}
use Rattle.sd_model.specs.declared.trees.Operation.TheVariants.{And}
use Rattle.sd_model.specs.Tree.{leaves}
use Rattle.sd_model.specs.Assignment.{value_in}
use Rattle.sd_model.specs.Diagram.{Diagram, meaning}
use Rattle.sd_vtree.specs.Numbered.{number_of, plain_tree}
use Rattle.sd_cache.specs.Entries.{Answers, call, is_call}
use Rattle.sd_laws.proofs.Codes.{one_diagram}
use Rattle.sd_laws.proofs.Places.{narrowed_by}
use Rattle.sd_manager.specs.Table.{Table}
use Rattle.sd_manager.specs.Shown.{ShowsCanonical}
use Rattle.sd_manager.specs.Making.{Extends}
use Rattle.sd_manager.specs.Valid.{IsTable}
use Rattle.sd_apply.specs.declared.halves.BothHalves.{BothHalves}
use Rattle.sd_apply.specs.Answers.{HasAnswer}
use Rattle.sd_apply.specs.Serving.{IsRight, Serves}
use Rattle.sd_apply.specs.Places.{IsCanonicalUnder, IsNodeUnder, IsBelow}
use Rattle.sd_apply.specs.Calls.{Applies, NegatesAt}
use Rattle.sd_apply.specs.Halves.{AreHalvesOf, MakesHalves}
use Rattle.sd_apply.specs.Difference.{Subtracts, SubtractsAt, SubtractsHalves, known_difference}
use Rattle.sd_apply.proofs.Trees.{apart, not_under}
use Rattle.sd_apply.proofs.Standing.{shown}
use Rattle.sd_apply.proofs.Listed.{node_on, shown_on, under_on}
use Rattle.sd_apply.proofs.Expanding.{node_at}
use Rattle.sd_apply.proofs.Joining.{same_answer}
use Rattle.sd_apply.proofs.Rows.{false_value}
use Rattle.sd_apply.proofs.TerminalLaws.{AreOpposite, answer_false, answer_node, shows_true, shows_same}
use Rattle.sd_apply.proofs.TerminalLaws.{opposite_value}
use Rattle.sd_apply.proofs.Served.{looked_right, right_same}
use Rattle.sd_apply.proofs.Whole.{root_under}

-- ---- what needs no node

known_cases : (a b r : ℕ) → known_difference a b ≡ Some r → ((a ≡ b) × (r ≡ 0))
    ⊎ (((a ≡ 0) × (r ≡ 0)) ⊎ (((b ≡ 1) × (r ≡ 0)) ⊎ (((b ≡ 0) × (r ≡ a)) ⊎ (AreOpposite a b × (r ≡ a)))))
known_cases a b r e = grind (arith, nat_tests)

no_rest : (u : Bool) → false ≡ (u && not u)
no_rest true = refl
no_rest false = refl

no_part : (u : Bool) → false ≡ (u && false)
no_part true = refl
no_part false = refl

all_left : (u : Bool) → u ≡ (u && true)
all_left true = refl
all_left false = refl

all_apart : (u : Bool) → u ≡ (u && not (not u))
all_apart true = refl
all_apart false = refl

-- what is known without a node is right
pub known_subtracts : (t : Table) → IsTable t → (v a b r : ℕ) → known_difference a b ≡ Some r →
    SubtractsAt t t v a b r
known_subtracts t i v a b r e = record {
  each = λ x y p q.
      let f : List Bool → Bool = λ g. meaning x g && not (meaning y g) in
      let A : ℕ → Type 0 = λ c. HasAnswer t f c in
      elim (known_cases a b r e) [
        | inl w ↦ subst A (sym w.1) (answer_false t f (λ g. no_rest (meaning x g)
            ∙ ap (λ u. meaning x g && not u) (sym (shows_same t i a b x y p.shows q.shows w.0 g))))
        | inr (inl w) ↦ subst A (sym w.1) (answer_false t f (λ g. ap (λ u. u && not (meaning y g))
            (sym (false_value t i a x p.shows w.0 g))))
        | inr (inr (inl w)) ↦ subst A (sym w.1) (answer_false t f (λ g. no_part (meaning x g)
            ∙ ap (λ u. meaning x g && not u) (sym (shows_true t i b y q.shows w.0 g))))
        | inr (inr (inr (inl w))) ↦ subst A (sym w.1) (answer_node t v a f x p (λ g. all_left (meaning x g)
            ∙ ap (λ u. meaning x g && not u) (sym (false_value t i b y q.shows w.0 g))))
        | inr (inr (inr (inr w))) ↦ subst A (sym w.1) (answer_node t v a f x p (λ g. all_apart (meaning x g)
            ∙ ap (λ u. meaning x g && not u) (sym (opposite_value t i a b x y p.shows q.shows w.0 g))))
      ];
}

-- an answer that was asked for
pub known_at : (a b x y : ℕ) (r : Option ℕ) → x ≡ a → y ≡ b → r ≡ known_difference x y → known_difference a b ≡ r
known_at a b x y r p q h = sym (h ∙ ap (λ x. known_difference x y) p ∙ ap (known_difference a) q)

-- where nothing is known, and the first node is not true
pub record AreUnknown (a b : ℕ) : Type 0 where
  pub first : ¬ (a ≡ 1) → 2 ≤ a
  pub second : 2 ≤ b
  pub differ : ¬ (a ≡ 1) → a / 2 ≡ b / 2 → 2050 ≤ a

unknown_first : (a b : ℕ) → known_difference a b ≡ None → ¬ (a ≡ 1) → 2 ≤ a
unknown_first a b e n = grind (arith, nat_tests)

unknown_second : (a b : ℕ) → known_difference a b ≡ None → 2 ≤ b
unknown_second a b e = grind (arith, nat_tests)

unknown_differ : (a b : ℕ) → known_difference a b ≡ None → ¬ (a ≡ 1) → a / 2 ≡ b / 2 → 2050 ≤ a
unknown_differ a b e n h = grind (arith, nat_tests)

pub are_unknown : (a b : ℕ) → known_difference a b ≡ None → AreUnknown a b
are_unknown a b e = record {
  first = unknown_first a b e;
  second = unknown_second a b e;
  differ = unknown_differ a b e;
}

-- what true leaves without a node is its negation
pub true_subtracts : (old new : Table) → IsTable old → (v a b r : ℕ) → a ≡ 1 → NegatesAt old new v b r →
    SubtractsAt old new v a b r
true_subtracts old new i v a b r one h = record {
  each = λ x y p q.
      let k = h.each y q in
      record {
        diagram = k.diagram;
        is = k.is;
        value = λ g. k.value g ∙ ap (λ u. u && not (meaning y g)) (sym (shows_true old i a x p.shows one g));
      };
}

-- ---- what the tables know

-- an answer that is right is the difference
pub right_subtracts : (t : Table) (v a b epoch x y r : ℕ) → IsTable t → x ≡ a → y ≡ b →
    IsRight t (call epoch 6 x y, r) → SubtractsAt t t v a b r
right_subtracts t v a b epoch x y r i ex ey h =
    let w = right_same t (call epoch 6 a b) (call epoch 6 x y) r r refl (sym ex) (sym ey) refl h in
    record {
      each = λ d f p q.
          let one : w.first ≡ d =
          one_diagram t.vtree (get t.linked) i.numbered w.first a d w.first_is.shows p.shows in
          let two : w.second ≡ f =
          one_diagram t.vtree (get t.linked) i.numbered w.second b f w.second_is.shows q.shows in
          record {
            diagram = w.answer.diagram;
            is = w.answer.is;
            value = λ g. w.answer.value g ∙ ap (λ d. meaning d g && not (meaning w.second g)) one
                ∙ ap (λ f. meaning d g && not (meaning f g)) two;
          };
    }

-- so is one that was looked up
pub looked_subtracts : (c : Answers) (t : Table) (v a b epoch x y r : ℕ) → IsTable t → Serves c t →
    epoch ≡ t.epoch → x ≡ a → y ≡ b → epoch < 72057594037927936 →
    Some r ≡ lookup (is_call (call epoch 6 x y)) c.entries → SubtractsAt t t v a b r
looked_subtracts c t v a b epoch x y r i h ee ex ey early e =
    let found : lookup (is_call (call t.epoch 6 x y)) c.entries ≡ Some r =
    sym (e ∙ ap (λ z. lookup (is_call (call z 6 x y)) c.entries) ee) in
    right_subtracts t v a b t.epoch x y r i ex ey (looked_right c t 6 x y r h (omega (arith, early, ee)) found)

-- and a difference is right to keep
pub subtracts_right : (old new : Table) (epoch v a b r x y z : ℕ) → Extends old new → x ≡ a → y ≡ b → z ≡ r →
    IsBelow old v a → IsBelow old v b → SubtractsAt old new v a b r → IsRight new (call epoch 6 x y, z)
subtracts_right old new epoch v a b r x y z e ex ey ez p q h =
    let k = h.each p.diagram q.diagram p.is q.is in
    right_same new (call epoch 6 x y) (call epoch 6 a b) z r refl ex ey ez
    (record {
      served = omega arith;
      first = p.diagram;
      second = q.diagram;
      first_is = shown_on old new e a p.diagram (shown old v a p.diagram p.is);
      second_is = shown_on old new e b q.diagram (shown old v b q.diagram q.is);
      argument = record { negation = λ e. cc; given = λ e. cc; forget = λ e. cc };
      answer = record { diagram = k.diagram; is = k.is; value = k.value };
    })

-- ---- at other vtree nodes

-- what was answered at a lower vtree node below which both stand
pub subtracts_over : (m n : Table) (v p a b r : ℕ)
    → ((d : Diagram) → ShowsCanonical m a d → IsCanonicalUnder m.vtree p d)
    → ((d : Diagram) → ShowsCanonical m b d → IsCanonicalUnder m.vtree p d) → SubtractsAt m n p a b r
    → SubtractsAt m n v a b r
subtracts_over m n v p a b r under_a under_b h = record {
  each = λ x y px py. h.each x y (node_at m v p a x under_a px) (node_at m v p b y under_b py);
}

-- what was answered at the root
pub subtracts : (old new : Table) → IsTable new → (u a b c : ℕ) → u ≡ number_of old.vtree →
    SubtractsAt old new u a b c → Subtracts old new a b c
subtracts old new i u a b c e h = record {
  each = λ x y p q.
      let z = h.each x y (root_under old u a x e p) (root_under old u b y e q) in
      record {
        diagram = z.diagram;
        is = z.is;
        value = z.value;
        below = λ s base part k j.
            narrowed_by (leaves (plain_tree new.vtree)) z.diagram x y (λ v w. v && not w) part
            (apart new.vtree i.numbered) z.is.canonical k j z.value;
      };
}

-- ---- by a negation

-- the negation of a node below a vtree node is below it
pub negation_below : (old new : Table) → Extends old new → (v b r : ℕ) → IsBelow old v b → NegatesAt old new v b r →
    IsBelow new v r
negation_below old new x v b r p h =
    let k = h.each p.diagram p.is in
    record {
      diagram = k.diagram;
      is = record {
        shows = k.is.shows;
        under = not_under new.vtree v p.diagram k.diagram (under_on old new x v p.diagram p.is.under)
            k.is.canonical k.value;
      };
    }

-- the conjunction with a negation is the difference
pub anded_negation : (m0 m1 m2 : Table) → Extends m0 m1 → (v a b s r : ℕ) → NegatesAt m0 m1 v b s →
    Applies m1 m2 And v a s r → SubtractsAt m0 m2 v a b r
anded_negation m0 m1 m2 e v a b s r p q = record {
  each = λ x y px py.
      let k = p.each y py in
      let under = not_under m1.vtree v y k.diagram (under_on m0 m1 e v y py.under) k.is.canonical k.value in
      let z = q.each x k.diagram (node_on m0 m1 e v a x px) (record { shows = k.is.shows; under = under }) in
      record {
        diagram = z.diagram;
        is = z.is;
        value = λ g. z.value g ∙ ap (λ u. meaning x g && u) (k.value g);
      };
}

-- ---- by halves

-- a difference below a vtree node is below it
subtracted_node : (old new : Table) → Extends old new → (w c : ℕ) (x y : Diagram) → IsCanonicalUnder old.vtree w x →
    IsCanonicalUnder old.vtree w y → (h : HasAnswer new (λ g. meaning x g && not (meaning y g)) c) →
    IsNodeUnder new w c h.diagram
subtracted_node old new e w c x y a b h =
    let k = under_on old new e w x a in
    let j = under_on old new e w y b in
    record {
      shows = h.is.shows;
      under = record {
        canonical = h.is.canonical;
        depends = λ p q g. h.value p ∙ ap (λ v. v && not (meaning y p)) (k.depends p q g)
            ∙ ap (λ v. meaning x q && not v) (j.depends p q g) ∙ sym (h.value q);
      };
    }

-- the difference goes into both values of a variable
split_difference : (v a b c d : Bool) → cond v (a && not b) (c && not d) ≡ (cond v a c && not (cond v b d))
split_difference true a b c d = refl
split_difference false a b c d = refl

pub subtracts_halves : (m0 m1 m2 : Table) → Extends m0 m1 → Extends m1 m2 → (w : ℕ) (h k : ℕ × ℕ) (r s : ℕ) →
    SubtractsAt m0 m1 w h.0 k.0 r → SubtractsAt m1 m2 w h.1 k.1 s → SubtractsHalves m0 m2 w h k (r, s)
subtracts_halves m0 m1 m2 e1 e2 w h k r s p q = record {
  each = λ n f g x y.
      let z = p.each x.first y.first x.first_is y.first_is in
      let x1 = node_on m0 m1 e1 w h.1 x.second x.second_is in
      let y1 = node_on m0 m1 e1 w k.1 y.second y.second_is in
      let u = q.each x.second y.second x1 y1 in
      record {
        first = z.diagram;
        second = u.diagram;
        first_is = node_on m1 m2 e2 w r z.diagram
            (subtracted_node m0 m1 e1 w r x.first y.first x.first_is.under y.first_is.under z);
        second_is = subtracted_node m1 m2 e2 w s x.second y.second x1.under y1.under u;
        value = λ i.
            let v = value_in i n in
            let c = meaning x.first i in
            let d = meaning y.first i in
            let l = meaning x.second i in
            let j = meaning y.second i in
            ap (λ b. cond v b (meaning u.diagram i)) (z.value i)
            ∙ ap (λ b. cond v (c && not d) b) (u.value i)
            ∙ split_difference v c d l j
            ∙ ap (λ b. b && not (cond v d j)) (x.value i)
            ∙ ap (λ b. f i && not b) (y.value i);
      };
}

-- the answers are below the right child
pub high_subtracted : (m0 m1 : Table) (f : BothHalves) (a b : ℕ) (r : ℕ × ℕ) → AreHalvesOf m0 f a b →
    SubtractsHalves m0 m1 f.split.right f.first f.second r → IsBelow m1 f.split.right r.0
high_subtracted m0 m1 f a b r h k =
    let x = h.first_below in
    let y = h.second_below in
    let q = k.each f.split.variable (meaning x.diagram) (meaning y.diagram) (h.first.each x.diagram x.is)
    (h.second.each y.diagram y.is) in
    record { diagram = q.first; is = q.first_is }

pub low_subtracted : (m0 m1 : Table) (f : BothHalves) (a b : ℕ) (r : ℕ × ℕ) → AreHalvesOf m0 f a b →
    SubtractsHalves m0 m1 f.split.right f.first f.second r → IsBelow m1 f.split.right r.1
low_subtracted m0 m1 f a b r h k =
    let x = h.first_below in
    let y = h.second_below in
    let q = k.each f.split.variable (meaning x.diagram) (meaning y.diagram) (h.first.each x.diagram x.is)
    (h.second.each y.diagram y.is) in
    record { diagram = q.second; is = q.second_is }

-- the node of both answers is the difference
pub subtracted_made : (m0 m1 m2 : Table) (f : BothHalves) (a b n : ℕ) (r : ℕ × ℕ) → AreHalvesOf m0 f a b →
    SubtractsHalves m0 m1 f.split.right f.first f.second r →
    MakesHalves m1 m2 f.split.right f.split.variable r.0 r.1 n → SubtractsAt m0 m2 f.node a b n
subtracted_made m0 m1 m2 f a b n r h k made = record {
  each = λ x y p q. made.each (λ g. meaning x g && not (meaning y g))
      (k.each f.split.variable (meaning x) (meaning y) (h.first.each x p) (h.second.each y q));
}

-- where they are the first node's own halves it is that node
pub subtracted_same : (m0 m1 : Table) → IsTable m1 → Extends m0 m1 → (f : BothHalves) (a b : ℕ) (r : ℕ × ℕ) →
    AreHalvesOf m0 f a b → SubtractsHalves m0 m1 f.split.right f.first f.second r →
    r.0 ≡ f.first.0 → r.1 ≡ f.first.1 → SubtractsAt m0 m1 f.node a b a
subtracted_same m0 m1 i e f a b r h k one other = record {
  each = λ x y p q. same_answer m0 m1 i e f.node f.split.right f.split.variable a f.first r h.first one other x p
      (λ g. meaning x g && not (meaning y g))
      (k.each f.split.variable (meaning x) (meaning y) (h.first.each x p) (h.second.each y q));
}
