-- The answer of a part among those of all parts.
use Rattle.std.proofs.Common.{◌≡◌, ℕ, zero, suc, ◌+◌, ◌<◌, ◌≤◌, List, [], ◌∷◌, length, map, drop, get_or, inl, inr}
use Rattle.std.proofs.Common.{Option, Some, None, Result, Ok, Err, refl, sym, ap, subst, ◌∙◌, arith}
use Rattle.std.specs.List.{AllZip, range_with_len}
use Rattle.std.proofs.Math.Seq.{drop-cons}
use Rattle.std.proofs.lemmas.Bool.{cases_eq}
use Rattle.std.proofs.lemmas.Option.{same_Some, none-some}
use Rattle.sd_model.specs.Tree.{Tree}
use Rattle.sd_model.specs.Expression.{Expression}
use Rattle.sd_formula.specs.Dimacs.{Groups}
use Rattle.sd_manager.specs.Table.{Table}
use Rattle.sd_compile.specs.declared.error.CompileError.{CompileError}
use Rattle.sd_compile.specs.declared.error.CompileError.TheVariants.{OverLimit, ArenaFull, OutOfMemory}
use Rattle.sd_records.specs.Records.{FlatDiagram}
use Rattle.sd_parts.specs.Parts.{AllPartsFit, PartFits, part_of}
use Rattle.sd_parts.specs.Join.{IsCompiledPart}
use Rattle.sd_parts.specs.Work.{AnswersPart, AreAnswers, IsPartOutcome, IsPartRefused}
use Rattle.sd_parts.specs.Work.{IsPassedByParts, first_refusal, refusal_or, part_work}
use Rattle.sd_parts.specs.declared.part.PartAnswer.{PartAnswer}

-- two lists that fit place by place, the first of which is numbered
zipped_at : {A B : Type 0} (R : A → B → Type 0) (w : ℕ → A) (s : ℕ) (ys : List B) (i : ℕ) (y : B) →
    AllZip R (map w (range_with_len s (length ys))) ys → i < length ys → y ≡ get_or ys i y → R (w (s + i)) y
zipped_at R w s [] i y h low at = absurd (omega (arith, low))
zipped_at R w s (x ∷ ys) zero y h low at =
    subst (λ n. R (w n) y) (omega arith) (subst (R (w s)) (sym at) h.0)
zipped_at R w s (x ∷ ys) (suc i) y h low at =
    subst (λ n. R (w n) y) (omega arith) (zipped_at R w (s + 1) ys i y h.1 (omega (arith, low)) at)

-- the answer at an index is that of its part
pub answer_at : (f : Groups) (t : Tree) (limit : ℕ) (answers : List PartAnswer) (h : AreAnswers f t limit answers)
    (i : ℕ) (a : PartAnswer) → i < length answers → a ≡ get_or answers i a →
    AnswersPart (part_work f t limit h.bound (length answers) i) a
answer_at f t limit answers h i a low at =
    subst (λ n. AnswersPart (part_work f t limit h.bound (length answers) n) a) (omega arith)
    (zipped_at AnswersPart (part_work f t limit h.bound (length answers)) 0 answers i a h.each low at)

-- a refusal stands before the end of none
later_none : (r : Result FlatDiagram CompileError) (o : Option CompileError) → refusal_or r o ≡ None → o ≡ None
later_none (Ok records) o h = h
later_none (Err x) o h = absurd (none-some x (sym h))

-- where no part was refused, none of them is
pub not_refused : (answers : List PartAnswer) (i : ℕ) (a : PartAnswer) → first_refusal answers ≡ None →
    i < length answers → a ≡ get_or answers i a → (e : CompileError) → a.outcome ≡ Err e → ⊥
not_refused [] i a none low at e is = absurd (omega (arith, low))
not_refused (b ∷ answers) zero a none low at e is =
    none-some e (sym none ∙ ap (λ (x : PartAnswer). refusal_or x.outcome (first_refusal answers)) (sym at)
    ∙ ap (λ r. refusal_or r (first_refusal answers)) is)
not_refused (b ∷ answers) (suc i) a none low at e is =
    not_refused answers i a (later_none b.outcome (first_refusal answers) none) (omega (arith, low)) at e is

-- the answer of a part that was compiled
pub compiled_at : (f : Groups) (t : Tree) (limit : ℕ) (answers : List PartAnswer) →
    AreAnswers f t limit answers → (i : ℕ) (a : PartAnswer) → i < length answers → a ≡ get_or answers i a →
    (records : FlatDiagram) → a.outcome ≡ Ok records → IsCompiledPart f t limit (length answers) i records
compiled_at f t limit answers h i a low at records is =
    let r = answer_at f t limit answers h i a low at in
    let w = part_work f t limit h.bound (length answers) i in
    let o : IsPartOutcome w a.manager (Ok records) = subst (IsPartOutcome w a.manager) is r.outcome in
    record { fits = o.0; are = o.1; value = o.2 }

-- the same at a tree that is given by an equation, and of an item that is
pub compiled_on : (f : Groups) (t u : Tree) (limit : ℕ) (answers : List PartAnswer) →
    AreAnswers f t limit answers → (i : ℕ) (a : PartAnswer) → i < length answers → a ≡ get_or answers i a →
    (records : FlatDiagram) → (get_or answers i a).outcome ≡ Ok records → u ≡ t →
    IsCompiledPart f u limit (length answers) i records
compiled_on f t u limit answers h i a low at records is same =
    subst (λ x. IsCompiledPart f x limit (length answers) i records) (sym same)
    (compiled_at f t limit answers h i a low at records (ap (λ (x : PartAnswer). x.outcome) at ∙ is))

-- where none was refused, all are within the limit
pub all_fit : (f : Groups) (t : Tree) (limit : ℕ) (answers : List PartAnswer) →
    AreAnswers f t limit answers → first_refusal answers ≡ None →
    AllPartsFit t limit f (length answers) (length answers)
all_fit f t limit answers h none i low = at (item answers i low)
  where
    item : (xs : List PartAnswer) (i : ℕ) → i < length xs → (a : PartAnswer) × (a ≡ get_or xs i a)
    item [] i low = absurd (omega (arith, low))
    item (x ∷ xs) zero low = (x, refl)
    item (x ∷ xs) (suc i) low = item xs i (omega (arith, low))

    at : (a : PartAnswer) × (a ≡ get_or answers i a) →
        PartFits t limit (part_of f (length answers) i) (length (part_of f (length answers) i).groups)
    at k = go k.0.outcome refl
      where
        go : (r : Result FlatDiagram CompileError) → k.0.outcome ≡ r →
            PartFits t limit (part_of f (length answers) i) (length (part_of f (length answers) i).groups)
        go (Ok records) is = (compiled_at f t limit answers h i k.0 low k.1 records is).fits
        go (Err e) is = absurd (not_refused answers i k.0 none low k.1 e is)

-- ---- the first refusal behind an index

-- it is that of the answer there, or one behind it
pub refusal_next : (answers : List PartAnswer) (i : ℕ) (a : PartAnswer) → i < length answers →
    a ≡ get_or answers i a →
    first_refusal (drop i answers) ≡ refusal_or a.outcome (first_refusal (drop (i + 1) answers))
refusal_next answers i a low at =
    ap first_refusal
    (drop-cons answers i a low ∙ ap (λ (x : PartAnswer). x ∷ drop (suc i) answers) (sym at)
    ∙ ap (λ n. a ∷ drop n answers) (suc_is i))
  where
    suc_is : (n : ℕ) → suc n ≡ n + 1
    suc_is n = omega arith

-- behind the last answer there is none
pub refusal_end : (answers : List PartAnswer) (i : ℕ) → length answers ≤ i → first_refusal (drop i answers) ≡ None
refusal_end [] zero h = refl
refusal_end [] (suc i) h = refl
refusal_end (a ∷ answers) zero h = absurd (omega (arith, h))
refusal_end (a ∷ answers) (suc i) h = refusal_end answers i (omega (arith, h))

-- ---- the first refusal is the outcome

module _ (f : Groups) (t : Tree) (limit : ℕ) (all : List Expression) (bound k : ℕ) where
  -- the outcome of a part that was refused
  part_passed : (i : ℕ) → i < k → AllPartsFit t limit f k i → (m : Table) (e : CompileError) →
      IsPartRefused (part_work f t limit bound k i) m e → IsPassedByParts t limit all f k e
  part_passed i there before m (OverLimit group size most) h =
      (inl (record { part = i; there = there; earlier = before; passes = h.0 }), h.1)
  part_passed i there before m (ArenaFull elements) h = tt
  part_passed i there before m OutOfMemory h = tt

  -- that of a part, or of one behind it
  part_or : (i : ℕ) → i < k → AllPartsFit t limit f k i → (m : Table) (r : Result FlatDiagram CompileError)
      (o : Option CompileError) (e : CompileError) → IsPartOutcome (part_work f t limit bound k i) m r →
      (AllPartsFit t limit f k (i + 1) → o ≡ Some e → IsPassedByParts t limit all f k e) → refusal_or r o ≡ Some e →
      IsPassedByParts t limit all f k e
  part_or i there before m (Ok records) o e h later is = later more is
    where
      more : AllPartsFit t limit f k (i + 1)
      more n low = elim (cases_eq n i) [
        | inl same ↦
            subst (λ x. PartFits t limit (part_of f k x) (length (part_of f k x).groups)) (sym same) h.0
        | inr other ↦ before n (omega (arith, low, other))
      ]
  part_or i there before m (Err x) o e h later is =
      subst (IsPassedByParts t limit all f k) (same_Some x e is) (part_passed i there before m x h)

  -- that of the first refusal from a part on
  passed_from : (s : ℕ) (answers : List PartAnswer) (e : CompileError) → s + length answers ≡ k →
      AllZip AnswersPart (map (part_work f t limit bound k) (range_with_len s (length answers))) answers →
      AllPartsFit t limit f k s → first_refusal answers ≡ Some e → IsPassedByParts t limit all f k e
  passed_from s [] e count h before is = absurd (none-some e is)
  passed_from s (a ∷ answers) e count h before is =
      part_or s (omega (arith, count)) before a.manager a.outcome (first_refusal answers) e h.0.outcome
      (λ more rest. passed_from (s + 1) answers e (omega (arith, count)) h.1 more rest) is

-- the first refusal of the answers is that of the parts
pub refusal_passed : (f : Groups) (t : Tree) (limit : ℕ) (all : List Expression) (answers : List PartAnswer)
    (e : CompileError) → AreAnswers f t limit answers → first_refusal answers ≡ Some e →
    IsPassedByParts t limit all f (length answers) e
refusal_passed f t limit all answers e h is =
    passed_from f t limit all h.bound (length answers) 0 answers e (omega arith) h.each
    (λ i low. absurd (omega (arith, low))) is
