-- What the loops of the operations know, and steps one after the other.
use Rattle.std.proofs.Common.{ℕ, Bool, List, take, sym, subst}
use Rattle.sd_model.specs.Assignment.{with_value}
use Rattle.sd_model.specs.Diagram.{Diagram}
use Rattle.sd_vtree.specs.Numbered.{IsUnder}
use Rattle.sd_cache.specs.Entries.{Answers}
use Rattle.sd_laws.specs.Pairs.{answers}
use Rattle.sd_manager.specs.Table.{Table}
use Rattle.sd_manager.specs.Valid.{IsTable}
use Rattle.sd_apply.specs.Elements.{ListsElements, HasList}
use Rattle.sd_apply.specs.Places.{HasChildren}
use Rattle.sd_manager.proofs.Extending.{extends_on}
use Rattle.sd_apply.proofs.Growing.{grows_both, grows_left, grows_right, grows_over, grows_wider}
use Rattle.sd_apply.proofs.Listed.{children_on}
use Rattle.sd_cond.specs.Calls.{conditioned, forgotten, answers_by, IsStep}
use Rattle.sd_cond.specs.declared.kept.ForgetAnswers.{ForgetAnswers}
use Rattle.sd_cond.specs.declared.kept.KeptAnswers.{KeptAnswers}
use Rattle.sd_cond.specs.Kept.{AreAnswers, AreForgetAnswers}

-- the first i elements where the variable x has the value s, without those whose prime is false
pub record InPairs (old new : Table) (at : ℕ) (kept : KeptAnswers) (c : Answers) (x : ℕ) (s : Bool) (u w : ℕ)
    (l r : List (ℕ × ℕ)) (i : ℕ) : Type 0 where
  pub step : IsStep old new at c
  pub knows : AreAnswers new (conditioned x s) kept
  pub pairs : (ds : List (Diagram × Diagram)) → ListsElements old u w l ds →
      HasList new u w r (λ a. answers (with_value a x s) (take i ds))

-- the first i elements with the variable x forgotten in their subs
pub record InSubs (old new : Table) (at : ℕ) (kept : ForgetAnswers) (c : Answers) (x u w : ℕ)
    (l r : List (ℕ × ℕ)) (i : ℕ) : Type 0 where
  pub step : IsStep old new at c
  pub knows : AreForgetAnswers new x kept
  pub subs : (ds : List (Diagram × Diagram)) → ListsElements old u w l ds →
      HasList new u w r (λ a. answers_by (forgotten x) a (take i ds))

-- ---- one step after another

-- a step after another one
pub step_on : {m0 m1 m2 : Table} {at : ℕ} {c c1 : Answers} → IsStep m0 m1 at c → IsStep m1 m2 at c1 →
    IsStep m0 m2 at c1
step_on {m0} {m1} {m2} {at} {c} {c1} f g = record {
  kept = extends_on m0 m1 m2 f.kept g.kept;
  grown = grows_both m0 m1 m2 at g.kept f.grown g.grown;
  serves = g.serves;
  table = g.table;
}

-- a step below a vtree node is one below each that stands over it
pub step_wider : {old new : Table} {p at : ℕ} {c : Answers} → IsTable old → IsUnder old.vtree p at →
    IsStep old new p c → IsStep old new at c
step_wider {old} {new} {p} {at} {c} i under f = record {
  kept = f.kept;
  grown = grows_wider old new f.table.numbered p at (subst (λ t. IsUnder t p at) (sym f.kept.vtree) under) f.grown;
  serves = f.serves;
  table = f.table;
}

-- a step below the left child
pub left_step : {old new : Table} {c : Answers} (p u w : ℕ) → HasChildren old.vtree p u w → IsStep old new u c →
    IsStep old new p c
left_step {old} {new} {c} p u w children f = record {
  kept = f.kept;
  grown = grows_over old new f.table.numbered p u w (children_on old new f.kept p u w children)
      (grows_left old new u w f.grown);
  serves = f.serves;
  table = f.table;
}

-- a step below the right child
pub right_step : {old new : Table} {c : Answers} (p u w : ℕ) → HasChildren old.vtree p u w → IsStep old new w c →
    IsStep old new p c
right_step {old} {new} {c} p u w children f = record {
  kept = f.kept;
  grown = grows_over old new f.table.numbered p u w (children_on old new f.kept p u w children)
      (grows_right old new u w f.grown);
  serves = f.serves;
  table = f.table;
}

-- one more step below the left child, or below the right one
pub left_next : {m0 m1 m2 : Table} {c c1 : Answers} (p u w : ℕ) → HasChildren m0.vtree p u w → IsStep m0 m1 p c →
    IsStep m1 m2 u c1 → IsStep m0 m2 p c1
left_next {m0} {m1} {m2} {c} {c1} p u w children f g =
    step_on f (left_step p u w (children_on m0 m1 f.kept p u w children) g)

pub right_next : {m0 m1 m2 : Table} {c c1 : Answers} (p u w : ℕ) → HasChildren m0.vtree p u w → IsStep m0 m1 p c →
    IsStep m1 m2 w c1 → IsStep m0 m2 p c1
right_next {m0} {m1} {m2} {c} {c1} p u w children f g =
    step_on f (right_step p u w (children_on m0 m1 f.kept p u w children) g)
