-- A part that was compiled alone: its answer, and where it passes the limit.
use Rattle.std.proofs.Common.{◌≡◌, ℕ, ◌+◌, ◌-◌, ◌<◌, ◌^◌, List, [], ◌∷◌, length, Some, Result, Ok, Err}
use Rattle.std.proofs.Common.{IfOk, IfErr, sym, ap, subst, ◌∙◌, arith}
use Rattle.std.specs.FinMap.{FinMap, get, get-empty, len, len-empty, remove, empty}
use Rattle.std.specs.Ordering.{nat_cmp}
use Rattle.std.proofs.lemmas.Option.{none-some}
use Rattle.sd_model.specs.Diagram.{Diagram}
use Rattle.sd_model.specs.Expression.{Expression, expression_value}
use Rattle.sd_model.specs.Size.{HasSize}
use Rattle.sd_vtree.specs.Numbered.{plain_tree}
use Rattle.sd_formula.specs.Dimacs.{Groups}
use Rattle.sd_formula.specs.Formulas.{expression_of}
use Rattle.sd_manager.specs.Table.{Table, no_table}
use Rattle.sd_compile.specs.declared.error.CompileError.{CompileError}
use Rattle.sd_compile.specs.declared.error.CompileError.TheVariants.{OverLimit, ArenaFull, OutOfMemory}
use Rattle.sd_compile.specs.Total.{HasTotalWith, AreHeldFormulas}
use Rattle.sd_compile.specs.Compiling.{prefix_of, HoldsFormula, KeepsAll, KeepsOtherRoots}
use Rattle.sd_compile.specs.Compiling.{AreWithinLimit, IsFormulaRefused}
use Rattle.sd_compile.proofs.Kept.{without_absent}
use Rattle.sd_records.specs.Records.{FlatDiagram, AreRecords, UnfoldToValue}
use Rattle.sd_parts.specs.Parts.{PartFits}
use Rattle.sd_parts.specs.Seen.{PartWork}
use Rattle.sd_parts.specs.Work.{AnswersPart, IsPartOutcome, IsPartRefused, work_of}
use Rattle.sd_parts.specs.Alone.{IsEmptied, FitsBehind, in_whole}

-- ---- a manager without roots

-- no root holds anything
no_root : (t : Table) → t.roots ≡ empty → (root c : ℕ) → get t.roots root ≡ Some c → ⊥
no_root t none root c held =
    none-some c (sym (ap (λ (m : FinMap nat_cmp ℕ). get m root) none ∙ get-empty nat_cmp root) ∙ held)

-- so roots hold just the formulas of no list
pub none_held : (t : Table) → t.roots ≡ empty → AreHeldFormulas t []
none_held t none = record {
  each = λ g m. absurd m;
  only = λ d h. absurd (no_root t none h.root h.code h.held);
}

-- without a root none is left
left_empty : (t : Table) (root : ℕ) → t.roots ≡ empty → remove t.roots root ≡ empty
left_empty t root none =
    ap (λ (k : Table). k.roots)
    (without_absent t root (ap (λ (m : FinMap nat_cmp ℕ). get m root) none ∙ get-empty nat_cmp root)) ∙ none

-- ---- sizes

-- the total beside nothing is the size alone
abbrev pub AloneLaw : Table → Type 0
AloneLaw t = (f : Expression) (fs : List Expression) (n : ℕ) → AreHeldFormulas t fs → HasTotalWith t f n →
    HasSize (f ∷ fs) (plain_tree t.vtree) n

module _ (t : Table) (none : t.roots ≡ empty) (law : AloneLaw t) (f : Groups) (limit : ℕ) where
  -- prefixes within the limit
  pub fits_alone : (n : ℕ) → AreWithinLimit t f limit 0 n → PartFits (plain_tree t.vtree) limit f n
  fits_alone n h m low high =
      let w = h m (omega (arith, low)) high in
      (w.size, law (prefix_of f m) [] w.size (none_held t none) w.total, w.within)

  -- a refusal of the part
  pub refused_alone : (new : Table) (number first bound : ℕ) (e : CompileError) →
      IsFormulaRefused t new f limit 0 e →
      IsPartRefused (work_of number f first (plain_tree t.vtree) limit bound) new (in_whole first e)
  refused_alone new number first bound (OverLimit group size most) h =
      let same : (group - 1) + 1 ≡ group = omega (arith, h.0) in (
        record {
          before = group - 1;
          left = omega (arith, h.0, h.1);
          fits = λ m low high.
              let w = h.3 m (omega (arith, low)) (omega (arith, high, h.0)) in
              (w.size, law (prefix_of f m) [] w.size (none_held t none) w.total, w.within);
          number = omega (arith, h.0);
          total =
              subst (λ n. HasSize (prefix_of f n ∷ []) (plain_tree t.vtree) size) (sym same)
              (law (prefix_of f group) [] size (none_held t none) h.2.total);
          passes = h.2.passes;
        },
        h.2.most_is,
      )
  refused_alone new number first bound (ArenaFull elements) h = h
  refused_alone new number first bound OutOfMemory h = tt

-- a group of the part fits behind those before it
pub fits_behind : (t new : Table) (f : Groups) (limit first : ℕ) (e : CompileError) →
    first + length f.groups < 2 ^ 32 → IsFormulaRefused t new f limit 0 e → FitsBehind first e
fits_behind t new f limit first (OverLimit group size most) few h = omega (arith, few, h.1)
fits_behind t new f limit first (ArenaFull elements) few h = tt
fits_behind t new f limit first OutOfMemory few h = tt

-- ---- the answer

-- records, or no memory for them
pub outcome_of : (work : PartWork) (mid m : Table) (root : ℕ) (r : Result FlatDiagram CompileError) →
    plain_tree mid.vtree ≡ work.tree → PartFits work.tree work.limit work.formula (length work.formula.groups) →
    HoldsFormula mid (expression_of work.formula) root → IfOk r (λ x. AreRecords (plain_tree mid.vtree) x) →
    IfOk r (λ x. (f : Expression) → HoldsFormula mid f root →
    UnfoldToValue (plain_tree mid.vtree) x (expression_value f)) →
    IfErr r (λ e. e ≡ OutOfMemory) → IsPartOutcome work m r
outcome_of work mid m root (Ok records) same fits holds are value err = (
  fits,
  subst (λ t. AreRecords t records) same are,
  subst (λ t. UnfoldToValue t records (expression_value (expression_of work.formula))) same
      (value (expression_of work.formula) holds),
)
outcome_of work mid m root (Err e) same fits holds are value err = subst (IsPartRefused work m) (sym err) tt

module _ (work : PartWork) (old : Table) (is : old ≡ no_table old.vtree work.bound)
    (tree : plain_tree old.vtree ≡ work.tree) where
  -- a refused part gives its manager back
  pub answer_refused : (new : Table) (e : CompileError) → KeepsAll old new → IsPartRefused work new e →
      AnswersPart work (record { manager = new; outcome = Err e })
  answer_refused new e k h = record {
    tree = ap plain_tree k.reached.vtree ∙ tree;
    bound = k.bound ∙ ap (λ (t : Table). t.bound) is;
    roots = k.reached.roots ∙ ap (λ (t : Table). t.roots) is;
    moving = k.moving ∙ ap (λ (t : Table). t.moving) is;
    outcome = h;
  }

  -- a compiled part gives an emptied one back
  pub answer_compiled : (mid new : Table) (root : ℕ) (r : Result FlatDiagram CompileError) →
      KeepsOtherRoots old mid root → IsEmptied mid new → IsPartOutcome work new r →
      AnswersPart work (record { manager = new; outcome = r })
  answer_compiled mid new root r k e h = record {
    tree = e.tree ∙ ap plain_tree k.reached.vtree ∙ tree;
    bound = e.bound ∙ k.bound ∙ ap (λ (t : Table). t.bound) is;
    roots = e.roots;
    moving = e.moving;
    outcome = h;
  }

-- no other root is left
pub none_left : (old mid : Table) (root : ℕ) → old.roots ≡ empty → KeepsOtherRoots old mid root →
    remove mid.roots root ≡ empty
none_left old mid root none k = k.reached.roots ∙ left_empty old root none

-- there is room for roots
pub few_roots : (m : FinMap nat_cmp ℕ) → m ≡ empty → len m < 4294967295
few_roots m none = subst (λ (k : FinMap nat_cmp ℕ). len k < 4294967295) (sym none) (omega (arith, len-empty nat_cmp ℕ))
