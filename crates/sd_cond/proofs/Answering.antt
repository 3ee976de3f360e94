-- Answers of conditioning and forgetting at a node: its own, one that is kept, one that was found.
use Rattle.std.proofs.Common.{◌≡◌, ℕ, ◌≤◌, Bool, true, false, List, get_or, Some, sym, ◌∙◌, subst}
use Rattle.std.specs.FinMap.{get}
use Rattle.sd_model.specs.Assignment.{with_value}
use Rattle.sd_model.specs.Diagram.{Diagram, meaning}
use Rattle.sd_model.specs.Canonical.{IsCanonical}
use Rattle.sd_vtree.specs.Numbered.{Numbered, plain_tree, variable_at, IsNumbered, IsUnder}
use Rattle.sd_laws.proofs.Codes.{one_diagram}
use Rattle.sd_manager.specs.Table.{Table}
use Rattle.sd_manager.specs.Shown.{ShowsCanonical, IsNodeOf}
use Rattle.sd_manager.specs.Making.{Extends}
use Rattle.sd_manager.specs.Valid.{IsTable}
use Rattle.sd_apply.specs.Answers.{HasAnswer}
use Rattle.sd_apply.specs.Places.{tree_at, IsCanonicalUnder, IsBelow, IsThere, HasPlace}
use Rattle.sd_apply.proofs.Trees.{under_number}
use Rattle.sd_apply.proofs.Standing.{stands_here, shown}
use Rattle.sd_apply.proofs.Listed.{shown_on, answer_on}
use Rattle.sd_cond.specs.Calls.{conditioned, forgotten, AnswersOf, IsAnswer, Tells}
use Rattle.sd_cond.specs.declared.kept.ForgetAnswers.{ForgetAnswers}
use Rattle.sd_cond.specs.declared.kept.KeptAnswers.{KeptAnswers}
use Rattle.sd_cond.specs.Kept.{AreAnswers, AreForgetAnswers}
use Rattle.sd_cond.proofs.Changing.{set_outside, set_both}
use Rattle.sd_cond.proofs.Sides.{not_below}

-- what is kept stays right in a larger table
answer_grown : (old new : Table) → Extends old new → (f : Diagram → List Bool → Bool) (a c : ℕ) →
    IsAnswer old f a c → IsAnswer new f a c
answer_grown old new x f a c h = record {
  diagram = h.diagram;
  is = shown_on old new x a h.diagram h.is;
  answer = answer_on old new x (f h.diagram) c h.answer;
}

pub answers_on : (old new : Table) → Extends old new → (f : Diagram → List Bool → Bool)
    (kept : KeptAnswers) → AreAnswers old f kept → AreAnswers new f kept
answers_on old new x f kept h = record {
  right = λ k d lt some.
      let e = get_or kept.entries.items k d in
      answer_grown old new x f e.code e.answer (h.right k d lt some);
}

-- so does what forgetting keeps
pub forget_answers_on : {old new : Table} {x : ℕ} {kept : ForgetAnswers} → Extends old new →
    AreForgetAnswers old x kept → AreForgetAnswers new x kept
forget_answers_on {old} {new} {x} {kept} e h = record {
  alone = answers_on old new e (forgotten x) kept.forgotten h.alone;
  where_true = answers_on old new e (conditioned x true) kept.with_true h.where_true;
  where_false = answers_on old new e (conditioned x false) kept.with_false h.where_false;
}

-- a kept answer
pub answer_kept : (t : Table) → IsTable t → (f : Diagram → List Bool → Bool) (a c : ℕ) →
    IsAnswer t f a c → AnswersOf t t f a c
answer_kept t i f a c h = record {
  each = λ d s. subst (λ z. HasAnswer t (f z) c)
      (one_diagram t.vtree (get t.linked) i.numbered h.diagram a d h.is.shows s.shows) h.answer;
}

-- an answer that was found is one to keep
pub answer_found : (old new : Table) → Extends old new → (f : Diagram → List Bool → Bool) (a c : ℕ) →
    IsNodeOf old a → AnswersOf old new f a c → IsAnswer new f a c
answer_found old new x f a c node h = record {
  diagram = node.diagram;
  is = shown_on old new x a node.diagram node.is;
  answer = h.each node.diagram node.is;
}

-- a node below a vtree node is one
pub below_node : (t : Table) (v a : ℕ) → IsBelow t v a → IsNodeOf t a
below_node t v a h = record { diagram = h.diagram; is = shown t v a h.diagram h.is }

-- and whatever it shows is below it
pub below_each : (t : Table) → IsTable t → (v a : ℕ) → IsBelow t v a → (d : Diagram) →
    ShowsCanonical t a d → IsCanonicalUnder t.vtree v d
below_each t i v a h d s =
    subst (λ z. IsCanonicalUnder t.vtree v z)
    (one_diagram t.vtree (get t.linked) i.numbered h.diagram a d h.is.shows s.shows) h.is.under

-- what stands at a vtree node is below it
pub place_each : (t : Table) → IsTable t → (v a : ℕ) → IsThere t.vtree v →
    ((d : Diagram) → ShowsCanonical t a d → HasPlace t.vtree v d) → (d : Diagram) →
    ShowsCanonical t a d → IsCanonicalUnder t.vtree v d
place_each t i v a there place d s =
    under_number t.vtree i.numbered v v d (stands_here t.vtree v there.part there.is) s.canonical
    (place d s)

-- a diagram below a vtree node without the variable has one value, however that is set
pub outside_value : (t : Numbered) → IsNumbered t → (v leaf x : ℕ) (s : Bool) (d : Diagram) → IsThere t v →
    variable_at t leaf ≡ Some x → ¬ IsUnder t leaf v → IsCanonicalUnder t v d → (g : List Bool) →
    meaning d (with_value g x s) ≡ meaning d g
outside_value t n v leaf x s d there e apart h g =
    h.depends (with_value g x s) g
    (set_outside (tree_at t v) x (not_below t n v leaf x there e apart) g s)

-- so it is its own answer
pub outside_own : (t : Table) → IsTable t → (v leaf x : ℕ) (s : Bool) (a : ℕ) → IsThere t.vtree v →
    variable_at t.vtree leaf ≡ Some x → ¬ IsUnder t.vtree leaf v →
    ((d : Diagram) → ShowsCanonical t a d → IsCanonicalUnder t.vtree v d) →
    AnswersOf t t (conditioned x s) a a
outside_own t i v leaf x s a there e apart under = record {
  each = λ d h. record {
    diagram = d;
    is = h;
    value = λ g. sym (outside_value t.vtree i.numbered v leaf x s d there e apart (under d h) g);
  };
}

-- and so is one below the other side
pub other_side : (t : Table) → IsTable t → (v leaf x : ℕ) (s : Bool) (a : ℕ) → IsThere t.vtree v →
    variable_at t.vtree leaf ≡ Some x → ¬ IsUnder t.vtree leaf v → IsBelow t v a →
    AnswersOf t t (conditioned x s) a a
other_side t i v leaf x s a there e apart h =
    outside_own t i v leaf x s a there e apart (below_each t i v a h)

-- the answer at a diagram below a vtree node is below it
pub conditioned_under : (t : Numbered) (v x : ℕ) (s : Bool) (d z : Diagram) → 1 ≤ x →
    IsCanonicalUnder t v d → IsCanonical (plain_tree t) 0 z →
    ((g : List Bool) → meaning z g ≡ meaning d (with_value g x s)) → IsCanonicalUnder t v z
conditioned_under t v x s d z low h c e = record {
  canonical = c;
  depends = λ a b g. e a
      ∙ h.depends (with_value a x s) (with_value b x s) (set_both (tree_at t v) x low s a b g)
      ∙ sym (e b);
}

-- what the vtree tells, in a larger table
pub leaf_on : (old new : Table) → Extends old new → (leaf x : ℕ) → variable_at old.vtree leaf ≡ Some x →
    variable_at new.vtree leaf ≡ Some x
leaf_on old new x leaf v e = subst (λ t. variable_at t leaf ≡ Some v) (sym x.vtree) e

pub tells_on : (old new : Table) → Extends old new → (leaf at : ℕ) (here : Bool) →
    Tells old.vtree leaf at here → Tells new.vtree leaf at here
tells_on old new x leaf at here h = subst (λ t. Tells t leaf at here) (sym x.vtree) h

-- the place of a node, in a larger table
pub place_on : (old new : Table) → Extends old new → IsTable new → (a p : ℕ) → IsNodeOf old a →
    ((d : Diagram) → ShowsCanonical old a d → HasPlace old.vtree p d) →
    (d : Diagram) → ShowsCanonical new a d → HasPlace new.vtree p d
place_on old new x i a p node place d h =
    let now = shown_on old new x a node.diagram node.is in
    let same : node.diagram ≡ d =
    one_diagram new.vtree (get new.linked) i.numbered node.diagram a d now.shows h.shows in
    subst (λ z. HasPlace new.vtree p z) same
    (subst (λ t. HasPlace t p node.diagram) (sym x.vtree) (place node.diagram node.is))
