-- What the cache knows of conditioning and forgetting.
use Rattle.std.proofs.Common.{◌≡◌, ℕ, ◌/◌, ◌%◌, ◌≤◌, ◌<◌, Bool, true, false, Some}
use Rattle.std.proofs.Common.{refl, sym, ◌∙◌, ap, subst, arith, nat_eq}
use Rattle.std.specs.FinMap.{get}
use Rattle.std.specs.Map.{lookup}
use Rattle.sd_model.specs.Assignment.{with_value}
use Rattle.sd_model.specs.Tree.{leaves}
use Rattle.sd_model.specs.Diagram.{Literal, meaning}
use Rattle.sd_vtree.specs.Numbered.{plain_tree}
use Rattle.sd_cache.specs.Entries.{Answers, call, is_call}
use Rattle.sd_laws.specs.Shown.{literal_code}
use Rattle.sd_laws.proofs.Codes.{one_diagram}
use Rattle.sd_laws.proofs.Numbers.{leaf_of_vtree}
use Rattle.sd_laws.proofs.Leaves.{literal_node}
use Rattle.sd_manager.specs.Table.{Table}
use Rattle.sd_manager.specs.Shown.{ShowsCanonical, IsNodeOf}
use Rattle.sd_manager.specs.Making.{Extends}
use Rattle.sd_manager.specs.Valid.{IsTable}
use Rattle.sd_apply.specs.Operations.{operation_value}
use Rattle.sd_apply.specs.Serving.{IsRight, Serves}
use Rattle.sd_apply.proofs.Listed.{shown_on}
use Rattle.sd_apply.proofs.Served.{looked_right, right_same}
use Rattle.sd_cond.specs.Calls.{conditioned, forgotten, AnswersOf}

-- the code of a literal, by its variable and its sign
code_split : (c : ℕ) → c ≡ literal_code (c / 2) (nat_eq (c % 2) 0)
code_split c = go (nat_eq (c % 2) 0) refl
  where
    go : (b : Bool) → nat_eq (c % 2) 0 ≡ b → c ≡ literal_code (c / 2) b
    go true e = grind (arith, Rattle.std.proofs.lemmas.Bool.Decides.nat_tests, e)
    go false e = grind (arith, Rattle.std.proofs.lemmas.Bool.Decides.nat_tests, e)

-- the literal of a variable of the vtree
pub record LiteralAt (t : Table) (c x : ℕ) (s : Bool) : Type 0 where
  pub position : ℕ
  pub is : ShowsCanonical t c (Literal position x s)

pub literal_at : (t : Table) → IsTable t → (c x : ℕ) (s : Bool) → c ≡ literal_code x s → 1 ≤ x →
    x ≤ leaves (plain_tree t.vtree) → LiteralAt t c x s
literal_at t i c x s e low high =
    let k = leaf_of_vtree (plain_tree t.vtree) i.numbered.vtree x low high in
    record {
      position = k.0;
      is = subst (λ n. ShowsCanonical t n (Literal k.0 x s)) (sym e)
          (literal_node t.vtree (get t.linked) x k.0 s k.1);
    }

-- the same by its code
pub literal_of : (t : Table) → IsTable t → (c : ℕ) → 2 ≤ c → c / 2 ≤ leaves (plain_tree t.vtree) →
    LiteralAt t c (c / 2) (nat_eq (c % 2) 0)
literal_of t i c low high =
    literal_at t i c (c / 2) (nat_eq (c % 2) 0) (code_split c) (omega arith) high

-- an entry that is right for conditioning tells the answer
pub right_given : (t : Table) → IsTable t → (epoch a c n b r x : ℕ) (s : Bool) → n ≡ a → b ≡ c →
    LiteralAt t c x s → IsRight t (call epoch 4 n b, r) → AnswersOf t t (conditioned x s) a r
right_given t i epoch a c n b r x s en eb literal h =
    let w = right_same t (call epoch 4 a c) (call epoch 4 n b) r r refl (sym en) (sym eb) refl h in
    let two : w.second ≡ Literal literal.position x s =
    one_diagram t.vtree (get t.linked) i.numbered w.second c (Literal literal.position x s)
    w.second_is.shows literal.is.shows in
    record {
      each = λ d p.
          let one : w.first ≡ d =
          one_diagram t.vtree (get t.linked) i.numbered w.first a d w.first_is.shows p.shows in
          record {
            diagram = w.answer.diagram;
            is = w.answer.is;
            value = λ g. w.answer.value g ∙ ap (λ y. operation_value 4 w.first y g) two
                ∙ ap (λ y. meaning y (with_value g x s)) one;
          };
    }

-- and an answer is right to keep
pub given_right : (old new : Table) → Extends old new → (epoch a c n b r z x : ℕ) (s : Bool) → n ≡ a →
    b ≡ c → z ≡ r → LiteralAt new c x s → IsNodeOf old a → AnswersOf old new (conditioned x s) a r →
    IsRight new (call epoch 4 n b, z)
given_right old new ext epoch a c n b r z x s en eb ez literal node h =
    let k = h.each node.diagram node.is in
    right_same new (call epoch 4 n b) (call epoch 4 a c) z r refl en eb ez
    (record {
      served = omega arith;
      first = node.diagram;
      second = Literal literal.position x s;
      first_is = shown_on old new ext a node.diagram node.is;
      second_is = literal.is;
      argument = record { negation = λ e. cc; given = λ e. tt; forget = λ e. cc };
      answer = record { diagram = k.diagram; is = k.is; value = k.value };
    })

-- an answer that was looked up
pub looked_given : (c : Answers) (t : Table) (epoch a l n r x : ℕ) (s : Bool) → IsTable t → Serves c t →
    epoch ≡ t.epoch → n ≡ a → LiteralAt t l x s → epoch < 72057594037927936 →
    Some r ≡ lookup (is_call (call epoch 4 n l)) c.entries → AnswersOf t t (conditioned x s) a r
looked_given c t epoch a l n r x s i h ee en literal early e =
    let found : lookup (is_call (call t.epoch 4 n l)) c.entries ≡ Some r =
    sym (e ∙ ap (λ z. lookup (is_call (call z 4 n l)) c.entries) ee) in
    right_given t i t.epoch a l n l r x s en refl literal
    (looked_right c t 4 n l r h (omega (arith, early, ee)) found)

-- the literal's node, later
pub literal_on : (old new : Table) → Extends old new → (c x : ℕ) (s : Bool) → LiteralAt old c x s →
    LiteralAt new c x s
literal_on old new ext c x s h = record {
  position = h.position;
  is = shown_on old new ext c (Literal h.position x s) h.is;
}

-- the same for forgetting
pub right_forget : (t : Table) → IsTable t → (epoch a c n b r x : ℕ) → n ≡ a → b ≡ c →
    LiteralAt t c x true → IsRight t (call epoch 5 n b, r) → AnswersOf t t (forgotten x) a r
right_forget t i epoch a c n b r x en eb literal h =
    let w = right_same t (call epoch 5 a c) (call epoch 5 n b) r r refl (sym en) (sym eb) refl h in
    let two : w.second ≡ Literal literal.position x true =
    one_diagram t.vtree (get t.linked) i.numbered w.second c (Literal literal.position x true)
    w.second_is.shows literal.is.shows in
    record {
      each = λ d p.
          let one : w.first ≡ d =
          one_diagram t.vtree (get t.linked) i.numbered w.first a d w.first_is.shows p.shows in
          record {
            diagram = w.answer.diagram;
            is = w.answer.is;
            value = λ g. w.answer.value g ∙ ap (λ y. operation_value 5 w.first y g) two
                ∙ ap (λ y. forgotten x y g) one;
          };
    }

pub forget_right : (old new : Table) → Extends old new → (epoch a c n b r z x : ℕ) → n ≡ a → b ≡ c →
    z ≡ r → LiteralAt new c x true → IsNodeOf old a → AnswersOf old new (forgotten x) a r →
    IsRight new (call epoch 5 n b, z)
forget_right old new ext epoch a c n b r z x en eb ez literal node h =
    let k = h.each node.diagram node.is in
    right_same new (call epoch 5 n b) (call epoch 5 a c) z r refl en eb ez
    (record {
      served = omega arith;
      first = node.diagram;
      second = Literal literal.position x true;
      first_is = shown_on old new ext a node.diagram node.is;
      second_is = literal.is;
      argument = record { negation = λ e. cc; given = λ e. cc; forget = λ e. tt };
      answer = record { diagram = k.diagram; is = k.is; value = k.value };
    })

pub looked_forget : (c : Answers) (t : Table) (epoch a l n r x : ℕ) → IsTable t → Serves c t →
    epoch ≡ t.epoch → n ≡ a → LiteralAt t l x true → epoch < 72057594037927936 →
    Some r ≡ lookup (is_call (call epoch 5 n l)) c.entries → AnswersOf t t (forgotten x) a r
looked_forget c t epoch a l n r x i h ee en literal early e =
    let found : lookup (is_call (call t.epoch 5 n l)) c.entries ≡ Some r =
    sym (e ∙ ap (λ z. lookup (is_call (call z 5 n l)) c.entries) ee) in
    right_forget t i t.epoch a l n l r x en refl literal
    (looked_right c t 5 n l r h (omega (arith, early, ee)) found)
