-- A node and its negation, as the cache knows them.
use Rattle.std.proofs.Common.{◌≡◌, ◌∙◌, sym, ap, subst, refl, ℕ, ◌<◌, Bool, not}
use Rattle.std.proofs.Common.{List, Some, arith, ◌==◌, IsTrue}
use Rattle.std.proofs.lemmas.Bool.Decides.{nat_tests}
use Rattle.std.specs.FinMap.{get}
use Rattle.std.specs.Map.{lookup}
use Rattle.sd_model.specs.declared.trees.Operation.{Operation}
use Rattle.sd_model.specs.declared.trees.Operation.TheVariants.{And, Or, Xor}
use Rattle.sd_model.specs.Diagram.{Bottom, meaning}
use Rattle.sd_model.specs.Canonical.{canonical_bottom}
use Rattle.sd_model.specs.Expression.{combine}
use Rattle.sd_cache.specs.Entries.{Answers, call, is_call}
use Rattle.sd_laws.proofs.Codes.{one_diagram}
use Rattle.sd_manager.specs.Table.{Table}
use Rattle.sd_manager.specs.Shown.{ShowsCanonical, IsNodeOf}
use Rattle.sd_manager.specs.Making.{Extends}
use Rattle.sd_manager.specs.Valid.{IsTable}
use Rattle.sd_apply.specs.Answers.{HasAnswer, Combines}
use Rattle.sd_apply.specs.Terminal.{opposites_code}
use Rattle.sd_apply.specs.Serving.{IsRight, Serves}
use Rattle.sd_apply.specs.Places.{IsBelow}
use Rattle.sd_apply.specs.Calls.{Applies, AreOpposite, NegatesAt}
use Rattle.sd_apply.proofs.TerminalLaws.{answer_false, answer_true, opposite_and, opposite_or}
use Rattle.sd_apply.proofs.TerminalLaws.{opposite_xor, not_not}
use Rattle.sd_apply.proofs.Listed.{shown_on}
use Rattle.sd_apply.proofs.Served.{looked_right, right_same}
use Rattle.sd_apply.proofs.Standing.{shown}

pub from_test : (a b : ℕ) → IsTrue (a == b) → a ≡ b
from_test a b h = grind (arith, nat_tests)

-- what the cache names as the negation of a node is that
pub looked_opposite : (c : Answers) (t : Table) (a b epoch x y r : ℕ) → IsTable t → Serves c t →
    epoch ≡ t.epoch → x ≡ a → y ≡ b → epoch < 72057594037927936 →
    Some r ≡ lookup (is_call (call epoch 3 x 0)) c.entries → r ≡ y → AreOpposite t a b
looked_opposite c t a b epoch x y r i h ee ex ey early e same =
    let found : lookup (is_call (call t.epoch 3 a 0)) c.entries ≡ Some r =
    sym (e ∙ ap (λ z. lookup (is_call (call z 3 x 0)) c.entries) ee
    ∙ ap (λ z. lookup (is_call (call t.epoch 3 z 0)) c.entries) ex) in
    let w = looked_right c t 3 a 0 r h (omega (arith, early, ee)) found in
    let answer : ShowsCanonical t b w.answer.diagram =
    subst (λ z. ShowsCanonical t z w.answer.diagram) (same ∙ ey) w.answer.is in
    record {
      each = λ d f p q g.
          let one : w.first ≡ d =
          one_diagram t.vtree (get t.linked) i.numbered w.first a d w.first_is.shows p.shows in
          let two : w.answer.diagram ≡ f =
          one_diagram t.vtree (get t.linked) i.numbered w.answer.diagram b f answer.shows q.shows in
          ap (λ z. meaning z g) (sym two) ∙ w.answer.value g ∙ ap (λ z. not (meaning z g)) one;
    }

-- a connective at a value and its negation
opposite_answer : (t : Table) (o : Operation) (f k : List Bool → Bool) →
    ((g : List Bool) → k g ≡ not (f g)) →
    HasAnswer t (λ g. combine o (f g) (k g)) (opposites_code o)
opposite_answer t And f k e =
    answer_false t (λ g. combine And (f g) (k g))
    (λ g. opposite_and (f g) ∙ ap (combine And (f g)) (sym (e g)))
opposite_answer t Or f k e =
    answer_true t (λ g. combine Or (f g) (k g))
    (λ g. opposite_or (f g) ∙ ap (combine Or (f g)) (sym (e g)))
opposite_answer t Xor f k e =
    answer_true t (λ g. combine Xor (f g) (k g))
    (λ g. opposite_xor (f g) ∙ ap (combine Xor (f g)) (sym (e g)))

-- a connective at a node and its negation
pub opposite_applies : (old new : Table) → Extends old new → (o : Operation) (v a b r : ℕ) →
    AreOpposite new a b → r ≡ opposites_code o → Applies old new o v a b r
opposite_applies old new x o v a b r h e =
    subst (λ z. Applies old new o v a b z) (sym e) (record {
      each = λ d f p q.
          opposite_answer new o (meaning d) (meaning f)
          (h.each d f (shown_on old new x a d (shown old v a d p))
          (shown_on old new x b f (shown old v b f q)));
    })

-- what negation answered is the opposite of its operand
pub negates_opposite : (old new : Table) → IsTable new → Extends old new → (v a r : ℕ) →
    NegatesAt old new v a r → IsBelow old v a → AreOpposite new a r
negates_opposite old new i x v a r h p =
    let k = h.each p.diagram p.is in
    let s = shown_on old new x a p.diagram (shown old v a p.diagram p.is) in
    record {
      each = λ d f m n g.
          let one : p.diagram ≡ d =
          one_diagram new.vtree (get new.linked) i.numbered p.diagram a d s.shows m.shows in
          let two : k.diagram ≡ f =
          one_diagram new.vtree (get new.linked) i.numbered k.diagram r f k.is.shows n.shows in
          ap (λ z. meaning z g) (sym two) ∙ k.value g ∙ ap (λ z. not (meaning z g)) one;
    }

-- the operand is still known
pub operand_node_of : (old new : Table) → Extends old new → (v a : ℕ) → IsBelow old v a →
    IsNodeOf new a
operand_node_of old new x v a p =
    record {
      diagram = p.diagram;
      is = shown_on old new x a p.diagram (shown old v a p.diagram p.is);
    }

-- and so is the answer
pub negation_node_of : (old new : Table) → (v a r : ℕ) → NegatesAt old new v a r →
    IsBelow old v a → IsNodeOf new r
negation_node_of old new v a r h p =
    let k = h.each p.diagram p.is in record { diagram = k.diagram; is = k.is }

-- to keep that a node is the negation of another is right
pub opposite_right : (t : Table) (epoch a b x z : ℕ) → x ≡ a → z ≡ b → IsNodeOf t a → IsNodeOf t b →
    AreOpposite t a b → IsRight t (call epoch 3 x 0, z)
opposite_right t epoch a b x z ex ez p q h =
    right_same t (call epoch 3 x 0) (call epoch 3 a 0) z b refl ex refl ez
    (record {
      served = omega arith;
      first = p.diagram;
      second = Bottom;
      first_is = p.is;
      second_is = record { shows = refl; canonical = canonical_bottom };
      argument = record { negation = λ e. refl; given = λ e. cc; forget = λ e. cc };
      answer = record {
        diagram = q.diagram;
        is = q.is;
        value = h.each p.diagram q.diagram p.is q.is;
      };
    })

-- opposites are so both ways round
pub opposite_back : (t : Table) (a b : ℕ) → AreOpposite t a b → AreOpposite t b a
opposite_back t a b h =
    record {
      each = λ x y p q g. not_not (meaning y g) ∙ ap not (sym (h.each y x q p g));
    }

-- a node that a connective answered is known
pub combined_node_of : (old new : Table) (o : Operation) (a b r : ℕ) → Combines old new o a b r →
    IsNodeOf old a → IsNodeOf old b → IsNodeOf new r
combined_node_of old new o a b r h p q =
    let k = h.each p.diagram q.diagram p.is q.is in record { diagram = k.diagram; is = k.is }

-- a known node stays known
pub node_of_on : (old new : Table) → Extends old new → (c : ℕ) → IsNodeOf old c → IsNodeOf new c
node_of_on old new x c h =
    record { diagram = h.diagram; is = shown_on old new x c h.diagram h.is }
