-- The operations at the whole vtree.
use Rattle.std.proofs.Common.{◌≡◌, ℕ, ◌+◌, ◌/◌, ◌%◌, ◌≤◌, Bool, true, false, ◌||◌, List, suc}
use Rattle.std.proofs.Common.{sym, ◌∙◌, ap, arith, nat_eq}
use Rattle.std.specs.Prelude.{ℤ, pos, negsuc}
use Rattle.sd_model.specs.Assignment.{with_value, with_literal}
use Rattle.sd_model.specs.Tree.{leaves}
use Rattle.sd_model.specs.Diagram.{meaning}
use Rattle.sd_model.proofs.Blend.{depends}
use Rattle.sd_vtree.specs.Numbered.{plain_tree}
use Rattle.sd_laws.proofs.Places.{narrowed}
use Rattle.sd_manager.specs.Table.{Table}
use Rattle.sd_manager.specs.Shown.{IsNodeOf}
use Rattle.sd_manager.specs.Literals.{code_of_literal, IsLiteralTo}
use Rattle.sd_manager.specs.Valid.{IsTable}
use Rattle.sd_apply.proofs.Trees.{apart}
use Rattle.sd_cond.specs.Answers.{Conditions, Forgets}
use Rattle.sd_cond.specs.Calls.{conditioned, forgotten, AnswersOf}
use Rattle.sd_cond.proofs.Changing.{set_both}
use Rattle.sd_cond.proofs.Terminals.{half, sign}

-- the code of a literal of the vtree
pub literal_low : (n : ℕ) (l : ℤ) → IsLiteralTo n l → 2 ≤ code_of_literal l
literal_low n (pos x) h = let k = h.0 in omega arith
literal_low n (negsuc i) h = omega arith

pub literal_within : (n : ℕ) (l : ℤ) → IsLiteralTo n l → code_of_literal l / 2 ≤ n
literal_within n (pos x) h = let k = h.1 in omega arith
literal_within n (negsuc i) h = omega (arith, h)

-- the assignment where the literal with the code holds
literal_set : (l : ℤ) (g : List Bool) →
    with_value g (code_of_literal l / 2) (nat_eq (code_of_literal l % 2) 0) ≡ with_literal g l
literal_set (pos x) g =
    ap (λ y. with_value g y (nat_eq (code_of_literal (pos x) % 2) 0)) (half x true)
    ∙ ap (with_value g x) (sign x true)
literal_set (negsuc i) g =
    let next : i + 1 ≡ suc i = omega arith in
    ap (λ y. with_value g y (nat_eq (code_of_literal (negsuc i) % 2) 0)) (half (i + 1) false)
    ∙ ap (with_value g (i + 1)) (sign (i + 1) false) ∙ ap (λ y. with_value g y false) next

-- what conditioning answers
pub conditions : (old new : Table) → IsTable new → (a c r : ℕ) (l : ℤ) → c ≡ code_of_literal l →
    2 ≤ c → AnswersOf old new (conditioned (c / 2) (nat_eq (c % 2) 0)) a r → Conditions old new a l r
conditions old new i a c r l e low h = record {
  each = λ x p.
      let z = h.each x p in
      record {
        diagram = z.diagram;
        is = z.is;
        value = λ g. z.value g
            ∙ ap (λ k. meaning x (with_value g (k / 2) (nat_eq (k % 2) 0))) e
            ∙ ap (meaning x) (literal_set l g);
        below = λ s base part k.
            narrowed (leaves (plain_tree new.vtree)) part (apart new.vtree i.numbered) z.is.canonical
            (λ f g agree. z.value f
            ∙ depends k (with_value f (c / 2) (nat_eq (c % 2) 0))
            (with_value g (c / 2) (nat_eq (c % 2) 0))
            (set_both s (c / 2) (omega arith) (nat_eq (c % 2) 0) f g agree)
            ∙ sym (z.value g));
      };
}

-- and forgetting
pub forgets : (old new : Table) → IsTable new → (a x r : ℕ) → 1 ≤ x →
    AnswersOf old new (forgotten x) a r → Forgets old new a x r
forgets old new i a x r low h = record {
  each = λ y p.
      let z = h.each y p in
      record {
        diagram = z.diagram;
        is = z.is;
        value = z.value;
        below = λ s base part k.
            narrowed (leaves (plain_tree new.vtree)) part (apart new.vtree i.numbered) z.is.canonical
            (λ f g agree. z.value f
            ∙ ap (λ v. v || meaning y (with_value f x false))
            (depends k (with_value f x true) (with_value g x true) (set_both s x low true f g agree))
            ∙ ap (λ v. meaning y (with_value g x true) || v)
            (depends k (with_value f x false) (with_value g x false) (set_both s x low false f g agree))
            ∙ sym (z.value g));
      };
}

-- the answers are nodes
pub conditioned_node : (old new : Table) (a r : ℕ) (l : ℤ) → Conditions old new a l r → IsNodeOf old a → IsNodeOf new r
conditioned_node old new a r l h node =
    let k = h.each node.diagram node.is in record { diagram = k.diagram; is = k.is }

pub forgotten_node : (old new : Table) (a x r : ℕ) → Forgets old new a x r → IsNodeOf old a → IsNodeOf new r
forgotten_node old new a x r h node =
    let k = h.each node.diagram node.is in record { diagram = k.diagram; is = k.is }
