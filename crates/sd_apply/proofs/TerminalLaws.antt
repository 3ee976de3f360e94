-- The answers that need no node are right.
use Rattle.std.proofs.Common.{◌≡◌, ◌∙◌, sym, ap, subst, refl, ℕ, ◌+◌, ◌-◌, ◌/◌, ◌%◌, ◌≤◌}
use Rattle.std.proofs.Common.{◌<◌, Bool, true, false, not}
use Rattle.std.proofs.Common.{◌==◌, if◌then◌else◌, ◌⊎◌, inl, inr, Option}
use Rattle.std.proofs.Common.{Some, None, arith, List}
use Rattle.std.specs.FinMap.{get}
use Rattle.std.proofs.lemmas.Bool.Decides.{nat_tests}
use Rattle.std.proofs.lemmas.Bool.{cases_lt}
use Rattle.sd_model.specs.declared.trees.Operation.{Operation}
use Rattle.sd_model.specs.declared.trees.Operation.TheVariants.{And, Or, Xor}
use Rattle.sd_model.specs.Assignment.{value_in}
use Rattle.sd_model.specs.Diagram.{Diagram, Bottom, Top, Literal, Decomposition, meaning}
use Rattle.sd_model.specs.Canonical.{canonical_bottom, canonical_top}
use Rattle.sd_model.specs.Expression.{combine}
use Rattle.sd_vtree.specs.Numbered.{plain_tree}
use Rattle.sd_laws.specs.Shown.{literal_code}
use Rattle.sd_laws.specs.Parts.{leaf_position}
use Rattle.sd_laws.proofs.Codes.{one_diagram, top_from_code, literal_range}
use Rattle.sd_laws.proofs.Codes.{node_range}
use Rattle.sd_laws.proofs.Connectives.{combine_exchanged}
use Rattle.sd_laws.proofs.Numbers.{literal_canonical}
use Rattle.sd_manager.specs.Table.{Table}
use Rattle.sd_manager.specs.Shown.{Shows}
use Rattle.sd_manager.specs.Valid.{IsTable}
use Rattle.sd_apply.specs.Operations.{operation_number}
use Rattle.sd_apply.specs.Answers.{HasAnswer}
use Rattle.sd_apply.specs.Terminal.{terminal_of, opposite_of}
use Rattle.sd_apply.specs.Places.{IsNodeUnder}
use Rattle.sd_apply.specs.Calls.{Applies, NegatesAt}
use Rattle.sd_apply.proofs.Rows.{false_value}

-- an answer that is an argument or a constant
pub answer_node : (t : Table) (v c : ℕ) (f : List Bool → Bool) (x : Diagram) → IsNodeUnder t v c x →
    ((a : List Bool) → meaning x a ≡ f a) → HasAnswer t f c
answer_node t v c f x h e =
    record {
      diagram = x;
      is = record { shows = h.shows; canonical = h.under.canonical };
      value = e;
    }

pub answer_false : (t : Table) (f : List Bool → Bool) → ((a : List Bool) → false ≡ f a) →
    HasAnswer t f 0
answer_false t f e =
    record {
      diagram = Bottom;
      is = record { shows = refl; canonical = canonical_bottom };
      value = e;
    }

pub answer_true : (t : Table) (f : List Bool → Bool) → ((a : List Bool) → true ≡ f a) →
    HasAnswer t f 1
answer_true t f e = record {
  diagram = Top;
  is = record {
    shows = refl;
    canonical = canonical_top;
  };
  value = e;
}

-- two literals of one variable that differ
abbrev pub AreOpposite : ℕ → ℕ → Type 0
AreOpposite a b = (2 ≤ a) × (2 ≤ b) × (a ≡ b → ⊥) × (a / 2 ≡ b / 2) × (a < 2050)

-- the cases in which an answer is known

and_cases : (a b r : ℕ) → terminal_of 0 a b ≡ Some r → ((a ≡ b) × (r ≡ a))
    ⊎ (((a ≡ 0) × (r ≡ 0)) ⊎ (((b ≡ 0) × (r ≡ 0)) ⊎ (((a ≡ 1) × (r ≡ b)) ⊎ (((b ≡ 1) × (r ≡ a)) ⊎
    (AreOpposite a b × (r ≡ 0))))))
and_cases a b r e = grind (arith, nat_tests)

or_cases : (a b r : ℕ) → terminal_of 1 a b ≡ Some r → ((a ≡ b) × (r ≡ a))
    ⊎ (((a ≡ 0) × (r ≡ b)) ⊎ (((b ≡ 0) × (r ≡ a)) ⊎ (((a ≡ 1) × (r ≡ 1)) ⊎ (((b ≡ 1) × (r ≡ 1)) ⊎
    (AreOpposite a b × (r ≡ 1))))))
or_cases a b r e = grind (arith, nat_tests)

xor_cases : (a b r : ℕ) → terminal_of 2 a b ≡ Some r → ((a ≡ b) × (r ≡ 0))
    ⊎ (((a ≡ 0) × (r ≡ b)) ⊎ (((b ≡ 0) × (r ≡ a)) ⊎ (AreOpposite a b × (r ≡ 1))))
xor_cases a b r e = grind (arith, nat_tests)

-- values of equal, constant and opposite arguments

same_and : (u : Bool) → u ≡ combine And u u
same_and true = refl
same_and false = refl

same_or : (u : Bool) → u ≡ combine Or u u
same_or true = refl
same_or false = refl

same_xor : (u : Bool) → false ≡ combine Xor u u
same_xor true = refl
same_xor false = refl

and_true : (u : Bool) → u ≡ combine And u true
and_true true = refl
and_true false = refl

and_false : (u : Bool) → false ≡ combine And u false
and_false true = refl
and_false false = refl

or_true : (u : Bool) → true ≡ combine Or u true
or_true true = refl
or_true false = refl

or_false : (u : Bool) → u ≡ combine Or u false
or_false true = refl
or_false false = refl

xor_false : (u : Bool) → u ≡ combine Xor u false
xor_false true = refl
xor_false false = refl

xor_true : (u : Bool) → not u ≡ combine Xor u true
xor_true true = refl
xor_true false = refl

pub opposite_and : (u : Bool) → false ≡ combine And u (not u)
opposite_and true = refl
opposite_and false = refl

pub opposite_or : (u : Bool) → true ≡ combine Or u (not u)
opposite_or true = refl
opposite_or false = refl

pub opposite_xor : (u : Bool) → true ≡ combine Xor u (not u)
opposite_xor true = refl
opposite_xor false = refl

pub not_not : (u : Bool) → u ≡ not (not u)
not_not true = refl
not_not false = refl

-- values of codes

code_at : (t : Table) (a b : ℕ) (x : Diagram) → Shows t a x → a ≡ b → Shows t b x
code_at t a b x h e = let S : ℕ → Type 0 = λ c. Shows t c x in subst S e h

pub shows_true : (t : Table) → IsTable t → (a : ℕ) (x : Diagram) → Shows t a x → a ≡ 1 →
    (g : List Bool) → meaning x g ≡ true
shows_true t i a x h e g =
    ap (λ d. meaning d g) (top_from_code t.vtree (get t.linked) i.numbered x (code_at t a 1 x h e))

pub shows_same : (t : Table) → IsTable t → (a b : ℕ) (x y : Diagram) → Shows t a x → Shows t b y →
    a ≡ b → (g : List Bool) →
    meaning y g ≡ meaning x g
shows_same t i a b x y h k e g =
    ap (λ d. meaning d g) (one_diagram t.vtree (get t.linked) i.numbered y b x k (code_at t a b x
    h e))

half_literal : (v w : ℕ) (s r : Bool) → literal_code v s / 2 ≡ literal_code w r / 2 → v ≡ w
half_literal v w true true e = omega arith
half_literal v w true false e = omega arith
half_literal v w false true e = omega arith
half_literal v w false false e = omega arith

literal_opposite : (p q v : ℕ) (s r : Bool) (g : List Bool) →
    (literal_code v s ≡ literal_code v r → ⊥) →
    meaning (Literal q v r) g ≡ not (meaning (Literal p v s) g)
literal_opposite p q v true true g n = absurd (n refl)
literal_opposite p q v true false g n = refl
literal_opposite p q v false true g n = not_not (value_in g v)
literal_opposite p q v false false g n = absurd (n refl)

pub opposite_value : (t : Table) → IsTable t → (a b : ℕ) (x y : Diagram) → Shows t a x →
    Shows t b y → AreOpposite a b →
    (g : List Bool) → meaning y g ≡ not (meaning x g)
opposite_value t i a b Bottom y h k o g = absurd (omega (arith, h, o.0))
opposite_value t i a b Top y h k o g = absurd (omega (arith, h, o.0))
opposite_value t i a b (Decomposition p es) y h k o g =
    absurd (omega (arith, node_range t.vtree (get t.linked) a p es h, o.4))
opposite_value t i a b (Literal p v s) Bottom h k o g = absurd (omega (arith, k, o.1))
opposite_value t i a b (Literal p v s) Top h k o g = absurd (omega (arith, k, o.1))
opposite_value t i a b (Literal p v s) (Decomposition q es) h k o g =
    absurd (omega (arith, node_range t.vtree (get t.linked) b q es k, o.3, o.4))
opposite_value t i a b (Literal p v s) (Literal q w r) h k o g =
    let same : v ≡ w = half_literal v w s r (ap (λ c. c / 2) (sym h.0) ∙ o.3
    ∙ ap (λ c. c / 2) k.0) in
    let apart : literal_code v s ≡ literal_code v r → ⊥ = λ e. o.2 (h.0 ∙ e
    ∙ ap (λ c. literal_code c r) same ∙ sym k.0) in
    ap (λ c. meaning (Literal q c r) g) (sym same) ∙ literal_opposite p q v s r g apart

and_terminal : (t : Table) → IsTable t → (v a b r : ℕ) → terminal_of 0 a b ≡ Some r →
    Applies t t And v a b r
and_terminal t i v a b r e = record {
  each = λ x y p q.
      let f : List Bool → Bool = λ g. combine And (meaning x g) (meaning y g) in
      let A : ℕ → Type 0 = λ c. HasAnswer t f c in
      elim (and_cases a b r e) [
        | inl w ↦ subst A (sym w.1) (answer_node t v a f x p (λ g. same_and (meaning x g)
            ∙ ap (combine And (meaning x g)) (sym (shows_same t i a b x y p.shows q.shows w.0 g))))
        | inr (inl w) ↦ subst A (sym w.1) (answer_false t f (λ g. ap (λ u. combine And u
            (meaning y g))
            (sym (false_value t i a x p.shows w.0 g))))
        | inr (inr (inl w)) ↦ subst A (sym w.1) (answer_false t f (λ g. and_false (meaning x g)
            ∙ ap (combine And (meaning x g)) (sym (false_value t i b y q.shows w.0 g))))
        | inr (inr (inr (inl w))) ↦ subst A (sym w.1) (answer_node t v b f y q
            (λ g. ap (λ u. combine And u (meaning y g))
            (sym (shows_true t i a x p.shows w.0 g))))
        | inr (inr (inr (inr (inl w)))) ↦ subst A (sym w.1) (answer_node t v a f x p
            (λ g. and_true (meaning x g)
            ∙ ap (combine And (meaning x g)) (sym (shows_true t i b y q.shows w.0 g))))
        | inr (inr (inr (inr (inr w)))) ↦ subst A (sym w.1) (answer_false t f (λ g. opposite_and
            (meaning x g)
            ∙ ap (combine And (meaning x g)) (sym (opposite_value t i a b x y p.shows q.shows w.0
            g))))
      ];
}

or_terminal : (t : Table) → IsTable t → (v a b r : ℕ) → terminal_of 1 a b ≡ Some r →
    Applies t t Or v a b r
or_terminal t i v a b r e = record {
  each = λ x y p q.
      let f : List Bool → Bool = λ g. combine Or (meaning x g) (meaning y g) in
      let A : ℕ → Type 0 = λ c. HasAnswer t f c in
      elim (or_cases a b r e) [
        | inl w ↦ subst A (sym w.1) (answer_node t v a f x p (λ g. same_or (meaning x g)
            ∙ ap (combine Or (meaning x g)) (sym (shows_same t i a b x y p.shows q.shows w.0 g))))
        | inr (inl w) ↦ subst A (sym w.1) (answer_node t v b f y q
            (λ g. ap (λ u. combine Or u (meaning y g))
            (sym (false_value t i a x p.shows w.0 g))))
        | inr (inr (inl w)) ↦ subst A (sym w.1) (answer_node t v a f x p (λ g. or_false
            (meaning x g)
            ∙ ap (combine Or (meaning x g)) (sym (false_value t i b y q.shows w.0 g))))
        | inr (inr (inr (inl w))) ↦ subst A (sym w.1) (answer_true t f
            (λ g. ap (λ u. combine Or u (meaning y g))
            (sym (shows_true t i a x p.shows w.0 g))))
        | inr (inr (inr (inr (inl w)))) ↦ subst A (sym w.1) (answer_true t f
            (λ g. or_true (meaning x g)
            ∙ ap (combine Or (meaning x g)) (sym (shows_true t i b y q.shows w.0 g))))
        | inr (inr (inr (inr (inr w)))) ↦ subst A (sym w.1) (answer_true t f (λ g. opposite_or
            (meaning x g)
            ∙ ap (combine Or (meaning x g)) (sym (opposite_value t i a b x y p.shows q.shows w.0
            g))))
      ];
}

xor_terminal : (t : Table) → IsTable t → (v a b r : ℕ) → terminal_of 2 a b ≡ Some r →
    Applies t t Xor v a b r
xor_terminal t i v a b r e = record {
  each = λ x y p q.
      let f : List Bool → Bool = λ g. combine Xor (meaning x g) (meaning y g) in
      let A : ℕ → Type 0 = λ c. HasAnswer t f c in
      elim (xor_cases a b r e) [
        | inl w ↦ subst A (sym w.1) (answer_false t f (λ g. same_xor (meaning x g)
            ∙ ap (combine Xor (meaning x g)) (sym (shows_same t i a b x y p.shows q.shows w.0 g))))
        | inr (inl w) ↦ subst A (sym w.1) (answer_node t v b f y q (λ g. ap (λ u. combine Xor u
            (meaning y g))
            (sym (false_value t i a x p.shows w.0 g))))
        | inr (inr (inl w)) ↦ subst A (sym w.1) (answer_node t v a f x p (λ g. xor_false
            (meaning x g)
            ∙ ap (combine Xor (meaning x g)) (sym (false_value t i b y q.shows w.0 g))))
        | inr (inr (inr w)) ↦ subst A (sym w.1) (answer_true t f (λ g. opposite_xor (meaning x g)
            ∙ ap (combine Xor (meaning x g)) (sym (opposite_value t i a b x y p.shows q.shows w.0
            g))))
      ];
}

-- what is known without a node is right
pub terminal_applies : (t : Table) → IsTable t → (o : Operation) (v a b r : ℕ) →
    terminal_of (operation_number o) a b ≡ Some r →
    Applies t t o v a b r
terminal_applies t i And v a b r e = and_terminal t i v a b r e
terminal_applies t i Or v a b r e = or_terminal t i v a b r e
terminal_applies t i Xor v a b r e = xor_terminal t i v a b r e

-- where nothing is known
pub record IsUnknown (o : Operation) (a b : ℕ) : Type 0 where
  pub first : 1 ≤ a
  pub second : 1 ≤ b
  pub one : a ≡ 1 → o ≡ Xor
  pub other : b ≡ 1 → o ≡ Xor
  pub apart : 2 ≤ a → 2 ≤ b → a / 2 ≡ b / 2 → a < 2050 → ⊥

unknown_at : (n a b : ℕ) → n < 3 → terminal_of n a b ≡ None → (1 ≤ a) × (1 ≤ b) × (a ≡ 1 →
    n ≡ 2) × (b ≡ 1 → n ≡ 2)
unknown_at n a b lt e = (
  grind (arith, nat_tests),
  grind (arith, nat_tests),
  λ h. grind
      (arith, nat_tests),
  λ h. grind (arith, nat_tests),
)

unknown_apart : (n a b : ℕ) → n < 3 → terminal_of n a b ≡ None → 2 ≤ a → 2 ≤ b → a / 2 ≡ b / 2 →
    a < 2050 → ⊥
unknown_apart n a b lt e p q h k = grind (arith, nat_tests)

number_small : (o : Operation) → operation_number o < 3
number_small And = omega arith
number_small Or = omega arith
number_small Xor = omega arith

number_xor : (o : Operation) → operation_number o ≡ 2 → o ≡ Xor
number_xor And e = absurd (omega (arith, e))
number_xor Or e = absurd (omega (arith, e))
number_xor Xor e = refl

pub unknown : (o : Operation) (a b : ℕ) → terminal_of (operation_number o) a b ≡ None → IsUnknown o a b
unknown o a b e =
    let u = unknown_at (operation_number o) a b (number_small o) e in
    record {
      first = u.0;
      second = u.1;
      one = λ h. number_xor o (u.2 h);
      other = λ h. number_xor o (u.3 h);
      apart = unknown_apart (operation_number o) a b (number_small o) e;
    }

-- exclusive or with true is negation
pub xor_negation : (old new : Table) → IsTable old → (o : Operation) (v a b r : ℕ) → o ≡ Xor →
    a ≡ 1 →
    NegatesAt old new v b r → Applies old new o v a b r
xor_negation old new i o v a b r e one h = record {
  each = λ x y p q.
      let k = h.each y q in
      record {
        diagram = k.diagram;
        is = k.is;
        value = λ g. k.value g ∙ ap (λ u. combine Xor u (meaning y g))
            (sym (shows_true old i a x p.shows one g))
            ∙ ap (λ o. combine o (meaning x g) (meaning y g)) (sym e);
      };
}

pub xor_negation_second : (old new : Table) → IsTable old → (o : Operation) (v a b r : ℕ) →
    o ≡ Xor → b ≡ 1 →
    NegatesAt old new v a r → Applies old new o v a b r
xor_negation_second old new i o v a b r e one h = record {
  each = λ x y p q.
      let k = h.each x p in
      record {
        diagram = k.diagram;
        is = k.is;
        value = λ g. k.value g ∙ xor_true (meaning x g)
            ∙ ap (combine Xor (meaning x g)) (sym (shows_true old i b y q.shows one g))
            ∙ ap (λ o. combine o (meaning x g) (meaning y g)) (sym e);
      };
}

pub applies_commutes : (old new : Table) (o : Operation) (v a b r : ℕ) → Applies old new o v b a r →
    Applies old new o v a b r
applies_commutes old new o v a b r h = record {
  each = λ x y p q.
      let k = h.each y x q p in
      record {
        diagram = k.diagram;
        is = k.is;
        value = λ g. k.value g
            ∙ combine_exchanged o (meaning y g) (meaning x g);
      };
}

-- negation of constants and literals

constant_answer : (t : Table) → IsTable t → (a : ℕ) → a < 2 → (x : Diagram) → Shows t a x →
    HasAnswer t (λ g. not (meaning x g)) (1 - a)
constant_answer t i a lt Bottom h =
    let S : ℕ → Type 0 = λ c. HasAnswer t (λ g. not (meaning Bottom g)) c in
    let e : 1 ≡ 1 - a = omega (arith, h) in
    subst S e (answer_true t (λ g. not (meaning Bottom g)) (λ g. refl))
constant_answer t i a lt Top h =
    let S : ℕ → Type 0 = λ c. HasAnswer t (λ g. not (meaning Top g)) c in
    let e : 0 ≡ 1 - a = omega (arith, h) in
    subst S e (answer_false t (λ g. not (meaning Top g)) (λ g. refl))
constant_answer t i a lt (Literal p v s) h =
    absurd (omega (arith, (literal_range t.vtree (get t.linked) i.numbered a p v s h).0))
constant_answer t i a lt (Decomposition p es) h = absurd (omega (
  arith,
  node_range t.vtree
      (get t.linked) a p es h,
))

pub negate_constant : (t : Table) → IsTable t → (v a : ℕ) → a < 2 → NegatesAt t t v a (1 - a)
negate_constant t i v a lt = record { each = λ x h. constant_answer t i a lt x h.shows }

-- the other literal of a variable
abbrev other_sign : Bool → Bool
other_sign true = false
other_sign false = true

other_value : (p v : ℕ) (s : Bool) (g : List Bool) → meaning (Literal p v (other_sign s)) g ≡ not
    (meaning (Literal p v s) g)
other_value p v true g = refl
other_value p v false g = not_not (value_in g v)

other_answer : (t : Table) (p v : ℕ) (s : Bool) (c : ℕ) → c ≡ literal_code v (other_sign s) →
    leaf_position (plain_tree t.vtree) 0 v ≡ Some p →
    HasAnswer t (λ g. not (meaning (Literal p v s) g)) c
other_answer t p v s c e at =
    record {
      diagram = Literal p v (other_sign s);
      is = record {
        shows = (e, at);
        canonical = literal_canonical (plain_tree t.vtree) 0 v p
            (other_sign s) at;
      };
      value = λ g. other_value p v s g;
    }

-- the code of the other literal of a variable
abbrev pub other_code : ℕ → ℕ
other_code a = if a % 2 == 0 then a + 1 else a - 1

other_code_of_literal : (v : ℕ) (s : Bool) (a : ℕ) → a ≡ literal_code v s → other_code a ≡ literal_code v
    (other_sign s)
other_code_of_literal v true a e = grind (arith, nat_tests)
other_code_of_literal v false a e = grind (arith, nat_tests)

literal_answer : (t : Table) → IsTable t → (a : ℕ) → 2 ≤ a → a < 2050 → (x : Diagram) →
    Shows t a x →
    HasAnswer t (λ g. not (meaning x g)) (other_code a)
literal_answer t i a two lt Bottom h = absurd (omega (arith, h))
literal_answer t i a two lt Top h = absurd (omega (arith, h))
literal_answer t i a two lt (Decomposition p es) h = absurd (omega (
  arith,
  node_range t.vtree
      (get t.linked) a p es h,
))
literal_answer t i a two lt (Literal p v s) h = other_answer t p v s (other_code a)
    (other_code_of_literal v s a h.0) h.1

pub negate_literal : (t : Table) → IsTable t → (v a : ℕ) → 2 ≤ a → a < 2050 →
    NegatesAt t t v a (other_code a)
negate_literal t i v a two lt = record { each = λ x h. literal_answer t i a two lt x h.shows }

-- an answer that was asked for is that of the connective
pub terminal_at : (o : Operation) (n a b x y : ℕ) (r : Option ℕ) → n ≡ operation_number o → x ≡ a → y ≡ b →
    r ≡ terminal_of n x y →
    terminal_of (operation_number o) a b ≡ r
terminal_at o n a b x y r e p q h =
    sym (h ∙ ap (λ n. terminal_of n x y) e ∙ ap (λ x. terminal_of (operation_number o) x y) p
    ∙ ap (terminal_of (operation_number o) a) q)

opposite_cases : (a r : ℕ) → opposite_of a ≡ Some r →
    ((a < 2) × (r ≡ 1 - a)) ⊎ ((2 ≤ a) × (a < 2050) × (r ≡ other_code a))
opposite_cases a r e = grind (arith, nat_tests)

-- the negation that needs no node is right
pub opposite_negates : (t : Table) → IsTable t → (v a r : ℕ) → opposite_of a ≡ Some r →
    NegatesAt t t v a r
opposite_negates t i v a r e = elim (opposite_cases a r e) [
  | inl h ↦ subst (NegatesAt t t v a) (sym h.1) (negate_constant t i v a h.0)
  | inr h ↦ subst (NegatesAt t t v a) (sym h.2) (negate_literal t i v a h.0 h.1)
]

-- and where one is needed the code is of a decomposition
pub opposite_none : (a : ℕ) → opposite_of a ≡ None → 2050 ≤ a
opposite_none a e = grind (arith, nat_tests)

-- two nodes at which nothing is known are not the literals of one variable
pub unknown_differ : (o : Operation) (a b : ℕ) → IsUnknown o a b → 2 ≤ a → 2 ≤ b → a / 2 ≡ b / 2 →
    2050 ≤ a
unknown_differ o a b h la lb e = elim (cases_lt a 2050) [
  | inl lt ↦ absurd (h.apart la lb e lt)
  | inr ge ↦ ge
]

pub unknown_commutes : (o : Operation) (a b : ℕ) → IsUnknown o a b → 2 ≤ a → 2 ≤ b → b / 2 ≡ a / 2 →
    2050 ≤ b
unknown_commutes o a b h la lb e = let k = unknown_differ o a b h la lb (sym e) in omega (arith, k, e)
