-- Forgetting: at constants and literals, at a node without the variable, and in the subs of elements.
use Rattle.std.proofs.Common.{◌≡◌, ◌≢◌, ℕ, ◌+◌, ◌≤◌, ◌<◌, ◌/◌, ◌%◌, Bool, true, false, ◌||◌, cond}
use Rattle.std.proofs.Common.{List, [], ◌∷◌, ◌++◌, length, take, get_or, Some, suc, arith}
use Rattle.std.proofs.Common.{refl, sym, ◌∙◌, ap, subst, nat_eq, append-nil, append_assoc}
use mathlib.Core.Bool.{beq}
use Rattle.std.specs.List.{AllZip}
use Rattle.sd_model.specs.declared.trees.Operation.TheVariants.{Or}
use Rattle.sd_model.specs.Assignment.{with_value}
use Rattle.sd_model.specs.Diagram.{Diagram, Top, meaning}
use Rattle.sd_model.specs.Canonical.{IsCanonical, canonical_top}
use Rattle.sd_vtree.specs.Numbered.{Numbered, plain_tree, variable_at, IsUnder}
use Rattle.sd_cache.specs.Entries.{Answers}
use Rattle.sd_laws.specs.Pairs.{answers}
use Rattle.sd_manager.specs.Table.{Table}
use Rattle.sd_manager.specs.Shown.{ShowsCanonical, IsNodeOf}
use Rattle.sd_manager.specs.Views.{pairs_at}
use Rattle.sd_manager.specs.Making.{Extends}
use Rattle.sd_manager.specs.Valid.{IsTable}
use Rattle.sd_apply.specs.Answers.{Combines}
use Rattle.sd_apply.specs.Places.{tree_at, IsCanonicalUnder, IsBelow, IsThere, HasPlace, HasChildren}
use Rattle.sd_apply.specs.Elements.{IsPair, ListsElements, HasList, beside}
use Rattle.sd_apply.proofs.Listed.{pair_on, lists_on, lists_push}
use Rattle.sd_apply.proofs.Listed.{lists_at, take_all, shown_on, IsAt, one_answer, answers_push}
use Rattle.sd_apply.proofs.Rows.{pair_sub}
use Rattle.sd_apply.proofs.Expanding.{own_list}
use Rattle.sd_apply.proofs.Standing.{shown}
use Rattle.sd_cond.specs.Calls.{conditioned, forgotten, answers_by, AnswersOf, IsStep, ForgetsSubs}
use Rattle.sd_cond.specs.declared.kept.ForgetAnswers.{ForgetAnswers}
use Rattle.sd_cond.specs.Kept.{AreForgetAnswers}
use Rattle.sd_cond.proofs.Changing.{set_both}
use Rattle.sd_cond.proofs.Terminals.{terminal_value, terminal_fixed}
use Rattle.sd_cond.proofs.Answering.{outside_value, conditioned_under}
use Rattle.sd_cond.proofs.Steps.{InSubs}

or_self : (b c d : Bool) → b ≡ c → b ≡ d → b ≡ (c || d)
or_self true c d e f = go c d e f
  where
    go : (c d : Bool) → true ≡ c → true ≡ d → true ≡ (c || d)
    go true d e f = refl
    go false d e f = f
or_self false c d e f = go c d e f
  where
    go : (c d : Bool) → false ≡ c → false ≡ d → false ≡ (c || d)
    go true d e f = e
    go false d e f = f

-- a constant, or a literal of another variable, is its own answer
pub forget_own : (t : Table) → IsTable t → (x a : ℕ) → a < 2050 → (2 ≤ a → a / 2 ≢ x) →
    AnswersOf t t (forgotten x) a a
forget_own t i x a low differ = record {
  each = λ d h. record {
    diagram = d;
    is = h;
    value = λ g. or_self (meaning d g) (meaning d (with_value g x true)) (meaning d (with_value g x false))
        (terminal_value t i x true a low differ d h g) (terminal_value t i x false a low differ d h g);
  };
}

either_sign : (b : Bool) → true ≡ (beq b true || beq b false)
either_sign true = refl
either_sign false = refl

-- a literal of the variable is true for one of both values
pub forget_top : (t : Table) → IsTable t → (x a : ℕ) → 1 ≤ x → 2 ≤ a → a < 2050 → a / 2 ≡ x →
    AnswersOf t t (forgotten x) a 1
forget_top t i x a one two low same = record {
  each = λ d h. record {
    diagram = Top;
    is = record { shows = refl; canonical = canonical_top };
    value = λ g. either_sign (nat_eq (a % 2) 0)
        ∙ ap (λ v. v || beq (nat_eq (a % 2) 0) false) (sym (terminal_fixed t i x true a one two low same d h g))
        ∙ ap (λ v. meaning d (with_value g x true) || v)
        (sym (terminal_fixed t i x false a one two low same d h g));
  };
}

-- so is a node below a vtree node without the variable
pub forget_outside : (t : Table) → IsTable t → (v leaf x a : ℕ) → IsThere t.vtree v →
    variable_at t.vtree leaf ≡ Some x → ¬ IsUnder t.vtree leaf v →
    ((d : Diagram) → ShowsCanonical t a d → IsCanonicalUnder t.vtree v d) →
    AnswersOf t t (forgotten x) a a
forget_outside t i v leaf x a there e apart under = record {
  each = λ d h. record {
    diagram = d;
    is = h;
    value = λ g. or_self (meaning d g) (meaning d (with_value g x true)) (meaning d (with_value g x false))
        (sym (outside_value t.vtree i.numbered v leaf x true d there e apart (under d h) g))
        (sym (outside_value t.vtree i.numbered v leaf x false d there e apart (under d h) g));
  };
}

-- the answer at a diagram below a vtree node is below it
pub forgotten_under : (t : Numbered) (v x : ℕ) (d z : Diagram) → 1 ≤ x → IsCanonicalUnder t v d →
    IsCanonical (plain_tree t) 0 z → ((g : List Bool) → meaning z g ≡ forgotten x d g) →
    IsCanonicalUnder t v z
forgotten_under t v x d z low h c e = record {
  canonical = c;
  depends = λ a b g. e a
      ∙ ap (λ k. k || meaning d (with_value a x false))
      (h.depends (with_value a x true) (with_value b x true) (set_both (tree_at t v) x low true a b g))
      ∙ ap (λ k. meaning d (with_value b x true) || k)
      (h.depends (with_value a x false) (with_value b x false) (set_both (tree_at t v) x low false a b g))
      ∙ sym (e b);
}

-- ---- the elements

-- the answer of one element
abbrev one_by : (Diagram → List Bool → Bool) → List Bool → Diagram × Diagram → List Bool
one_by f a d = cond (meaning d.0 a) (f d.1 a ∷ []) []

by_cons : (f : Diagram → List Bool → Bool) (a : List Bool) (d : Diagram × Diagram) (ds : List (Diagram × Diagram)) →
    answers_by f a (d ∷ ds) ≡ one_by f a d ++ answers_by f a ds
by_cons f a d ds =
    elim (meaning d.0 a)
    as (λ v. cond v (f d.1 a ∷ answers_by f a ds) (answers_by f a ds)
    ≡ cond v (f d.1 a ∷ []) [] ++ answers_by f a ds) [
      | true ↦ refl
      | false ↦ refl
    ]

by_push : (f : Diagram → List Bool → Bool) (a : List Bool) (ds : List (Diagram × Diagram)) (d : Diagram × Diagram) →
    answers_by f a (ds ++ d ∷ []) ≡ answers_by f a ds ++ one_by f a d
by_push f a [] d = by_cons f a d [] ∙ append-nil (one_by f a d)
by_push f a (e ∷ ds) d =
    by_cons f a e (ds ++ d ∷ []) ∙ ap (λ l. one_by f a e ++ l) (by_push f a ds d)
    ∙ sym (append_assoc (one_by f a e) (answers_by f a ds) (one_by f a d))
    ∙ ap (λ l. l ++ one_by f a d) (sym (by_cons f a e ds))

-- up to the next index
take_by : (f : Diagram → List Bool → Bool) (a : List Bool) (t : Table) (u w : ℕ) (e : ℕ × ℕ)
    (ds : List (Diagram × Diagram)) (i : ℕ) (d : Diagram × Diagram) → IsAt t u w e ds i d →
    answers_by f a (take (i + 1) ds) ≡ answers_by f a (take i ds) ++ one_by f a d
take_by f a t u w e ds i d h =
    let next : i + 1 ≡ suc i = omega arith in
    ap (λ k. answers_by f a (take k ds)) next ∙ ap (answers_by f a) h.more ∙ by_push f a (take i ds) d

-- one more
pub subs_next : (m0 m m1 : Table) (at : ℕ) (k k1 : ForgetAnswers) (c c1 : Answers) (x u w : ℕ)
    (l r r1 : List (ℕ × ℕ)) (i : ℕ) (e : ℕ × ℕ) (sub : ℕ) → 1 ≤ x → InSubs m0 m at k c x u w l r i →
    Extends m m1 → IsStep m0 m1 at c1 → AreForgetAnswers m1 x k1 → i < length l →
    ◌≡◌ {A = ℕ × ℕ} e (get_or l i (0, 0)) → AnswersOf m m1 (forgotten x) e.1 sub → r1 ≡ r ++ (e.0, sub) ∷ [] →
    InSubs m0 m1 at k1 c1 x u w l r1 (i + 1)
subs_next m0 m m1 at k k1 c c1 x u w l r r1 i e sub low h x1 n kn lt here p pushed = record {
  step = n;
  knows = kn;
  subs = λ ds hd.
      let q = h.subs ds hd in
      let d = lists_at m0 u w l ds hd i lt e here in
      let d0 = pair_on m0 m h.step.kept u w e d.0 d.1.pair in
      let d1 = pair_on m m1 x1 u w e d.0 d0 in
      let z = p.each d.0.1 (shown m w e.1 d.0.1 (pair_sub m u w e d.0 d0)) in
      let new : Diagram × Diagram = (d.0.0, z.diagram) in
      let pair : IsPair m1 u w (e.0, sub) new = record {
        prime_shows = d1.prime_shows;
        sub_shows = z.is.shows;
        prime = d1.prime;
        sub = forgotten_under m1.vtree w x d.0.1 z.diagram low d1.sub z.is.canonical z.value;
        possible = d1.possible;
      } in
      let L : List (ℕ × ℕ) → Type 0 = λ j. ListsElements m1 u w j (q.shown ++ new ∷ []) in
      record {
        shown = q.shown ++ new ∷ [];
        lists = subst L (sym pushed)
            (lists_push m1 u w r q.shown (e.0, sub) new (lists_on m m1 x1 u w r q.shown q.lists)
            pair);
        value = λ a.
            let old = answers_by (forgotten x) a (take i ds) in
            answers_push a q.shown new
            ∙ ap (λ v. v ++ one_answer a new) (q.value a)
            ∙ ap (λ v. old ++ cond (meaning d.0.0 a) (v ∷ []) []) (z.value a)
            ∙ sym (take_by (forgotten x) a m0 u w e ds i d.0 d.1);
      };
}

-- all of them
pub subs_done : (m0 m : Table) (at : ℕ) (k : ForgetAnswers) (c : Answers) (x u w : ℕ)
    (l r : List (ℕ × ℕ)) (i : ℕ) → InSubs m0 m at k c x u w l r i → length l ≤ i → i ≤ length l →
    ForgetsSubs m0 m x u w l r
subs_done m0 m at k c x u w l r i h lo hi = record {
  each = λ ds hd.
      let q = h.subs ds hd in
      record {
        shown = q.shown;
        lists = q.lists;
        value = λ a. q.value a ∙ ap (λ j. answers_by (forgotten x) a j) (take_all m0 u w l ds i hd lo hi);
      };
}

-- where no prime has the variable, the answers are those for both of its values, side by side
split_one : (x : ℕ) (a : List Bool) (d : Diagram × Diagram) (ds : List (Diagram × Diagram)) →
    meaning d.0 (with_value a x true) ≡ meaning d.0 a → meaning d.0 (with_value a x false) ≡ meaning d.0 a →
    answers_by (forgotten x) a ds ≡ beside Or (answers (with_value a x true) ds) (answers (with_value a x false) ds) →
    answers_by (forgotten x) a (d ∷ ds)
    ≡ beside Or (answers (with_value a x true) (d ∷ ds)) (answers (with_value a x false) (d ∷ ds))
split_one x a d ds e f rest =
    go (meaning d.0 a)
    ∙ ap (λ v. beside Or (cond v (meaning d.1 (with_value a x true) ∷ answers (with_value a x true) ds)
    (answers (with_value a x true) ds))
    (cond (meaning d.0 a) (meaning d.1 (with_value a x false) ∷ answers (with_value a x false) ds)
    (answers (with_value a x false) ds))) (sym e)
    ∙ ap (λ v. beside Or (answers (with_value a x true) (d ∷ ds))
    (cond v (meaning d.1 (with_value a x false) ∷ answers (with_value a x false) ds)
    (answers (with_value a x false) ds))) (sym f)
  where
    go : (v : Bool) →
        cond v (forgotten x d.1 a ∷ answers_by (forgotten x) a ds) (answers_by (forgotten x) a ds)
        ≡ beside Or (cond v (meaning d.1 (with_value a x true) ∷ answers (with_value a x true) ds)
        (answers (with_value a x true) ds))
        (cond v (meaning d.1 (with_value a x false) ∷ answers (with_value a x false) ds)
        (answers (with_value a x false) ds))
    go true = ap (λ l. forgotten x d.1 a ∷ l) rest
    go false = rest

split_all : (t : Table) → IsTable t → (u w leaf x : ℕ) → IsThere t.vtree u → variable_at t.vtree leaf ≡ Some x →
    ¬ IsUnder t.vtree leaf u → (a : List Bool) (l : List (ℕ × ℕ)) (ds : List (Diagram × Diagram)) →
    AllZip (IsPair t u w) l ds →
    answers_by (forgotten x) a ds ≡ beside Or (answers (with_value a x true) ds) (answers (with_value a x false) ds)
split_all t i u w leaf x there e apart a [] [] h = refl
split_all t i u w leaf x there e apart a [] (d ∷ ds) h = absurd h
split_all t i u w leaf x there e apart a (k ∷ l) [] h = absurd h
split_all t i u w leaf x there e apart a (k ∷ l) (d ∷ ds) h =
    split_one x a d ds
    (outside_value t.vtree i.numbered u leaf x true d.0 there e apart h.0.prime a)
    (outside_value t.vtree i.numbered u leaf x false d.0 there e apart h.0.prime a)
    (split_all t i u w leaf x there e apart a l ds h.1)

-- the elements of a decomposition with the variable forgotten
pub forgotten_list : (m0 m1 : Table) → IsTable m0 → (leaf x p u w a : ℕ) (r : List (ℕ × ℕ)) →
    IsThere m0.vtree u → variable_at m0.vtree leaf ≡ Some x → ¬ IsUnder m0.vtree leaf u →
    HasChildren m0.vtree p u w →
    ((d : Diagram) → ShowsCanonical m0 a d → HasPlace m0.vtree p d) → 2050 ≤ a →
    ForgetsSubs m0 m1 x u w (pairs_at m0 a) r → (d : Diagram) → ShowsCanonical m0 a d →
    HasList m1 u w r (λ g. forgotten x d g ∷ [])
forgotten_list m0 m1 i leaf x p u w a r there leaf_is apart e place code h d sd =
    let own = own_list m0 i p u w a e d sd (place d sd) code in
    let gs = h.each own.shown own.lists in
    record {
      shown = gs.shown;
      lists = gs.lists;
      value = λ g. gs.value g
          ∙ split_all m0 i u w leaf x there leaf_is apart g (pairs_at m0 a) own.shown own.lists.pairs
          ∙ ap (λ l. beside Or l (answers (with_value g x false) own.shown)) (own.value (with_value g x true))
          ∙ ap (λ l. beside Or (meaning d (with_value g x true) ∷ []) l) (own.value (with_value g x false));
    }

-- ---- the disjunction of both conditionings

-- a node that was answered is one, later too
pub answered_node : (m0 m1 m2 : Table) → Extends m1 m2 → (f : Diagram → List Bool → Bool) (a c : ℕ) →
    IsNodeOf m0 a → AnswersOf m0 m1 f a c → IsNodeOf m2 c
answered_node m0 m1 m2 x f a c node h =
    let z = h.each node.diagram node.is in
    record { diagram = z.diagram; is = shown_on m1 m2 x c z.diagram z.is }

-- and below the vtree node
pub answered_below : (m0 m1 m2 : Table) → Extends m0 m1 → Extends m1 m2 → (v x : ℕ) (s : Bool) (a c : ℕ) →
    1 ≤ x → IsNodeOf m0 a →
    ((d : Diagram) → ShowsCanonical m0 a d → IsCanonicalUnder m0.vtree v d) →
    AnswersOf m0 m1 (conditioned x s) a c → IsBelow m2 v c
answered_below m0 m1 m2 x1 x2 v x s a c low node under h =
    let z = h.each node.diagram node.is in
    let C : Numbered → Type 0 = λ t. IsCanonicalUnder t v node.diagram in
    let d1 : IsCanonicalUnder m1.vtree v node.diagram = subst C (sym x1.vtree) (under node.diagram node.is) in
    let z1 : IsCanonicalUnder m1.vtree v z.diagram =
    conditioned_under m1.vtree v x s node.diagram z.diagram low d1 z.is.canonical z.value in
    let D : Numbered → Type 0 = λ t. IsCanonicalUnder t v z.diagram in
    record {
      diagram = z.diagram;
      is = record {
        shows = (shown_on m1 m2 x2 c z.diagram z.is).shows;
        under = subst D (sym x2.vtree) z1;
      };
    }

-- the disjunction is the answer
pub forget_both : (m0 m1 m2 m3 : Table) → Extends m0 m1 → Extends m1 m2 → (x a b c r : ℕ) →
    AnswersOf m0 m1 (conditioned x true) a b → AnswersOf m1 m2 (conditioned x false) a c →
    Combines m2 m3 Or b c r → AnswersOf m0 m3 (forgotten x) a r
forget_both m0 m1 m2 m3 x1 x2 x a b c r first second join = record {
  each = λ d h.
      let y = first.each d h in
      let z = second.each d (shown_on m0 m1 x1 a d h) in
      let k = join.each y.diagram z.diagram (shown_on m1 m2 x2 b y.diagram y.is) z.is in
      record {
        diagram = k.diagram;
        is = k.is;
        value = λ g. k.value g ∙ ap (λ v. v || meaning z.diagram g) (y.value g)
            ∙ ap (λ v. meaning d (with_value g x true) || v) (z.value g);
      };
}
