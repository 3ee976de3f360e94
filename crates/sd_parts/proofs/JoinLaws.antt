-- One part more is joined, or its join is refused; and the outcome of all.
use Rattle.std.proofs.Common.{◌≡◌, inl, inr, ℕ, ◌+◌, ◌<◌, List, ◌∷◌, None, refl, sym, ap, subst, ◌∙◌, arith}
use Rattle.std.proofs.lemmas.Bool.{cases_eq}
use Rattle.std.specs.FinMap.{get}
use Rattle.sd_model.specs.Expression.{Expression, expression_value}
use Rattle.sd_model.specs.Size.{HasSize}
use Rattle.sd_vtree.specs.Numbered.{plain_tree, IsNumbered}
use Rattle.sd_formula.specs.Dimacs.{Groups}
use Rattle.sd_manager.specs.Table.{Table}
use Rattle.sd_manager.specs.Valid.{IsTable}
use Rattle.sd_manager.specs.Making.{Extends, with_root, without_root}
use Rattle.sd_apply.specs.Answers.{HasAnswer}
use Rattle.sd_sweep.specs.Reached.{KeepsReached}
use Rattle.sd_compile.specs.Total.{HasTotalWith, IsWithinLimit, IsTotal, IsTotalWithin, AreHeldFormulas}
use Rattle.sd_compile.specs.Compiling.{prefix_of, HoldsFormula, PassesLimit, KeepsAll}
use Rattle.sd_compile.specs.declared.error.CompileError.{CompileError}
use Rattle.sd_compile.specs.declared.error.CompileError.TheVariants.{OverLimit, ArenaFull, OutOfMemory}
use Rattle.sd_compile.proofs.Kept.{kept_answer}
use Rattle.sd_compile.proofs.Totals.{HoldNodes, of_answer, total_over, total_within, total_back, within_back}
use Rattle.sd_parts.specs.Parts.{HasGroup, first_of_part, AllPartsFit, JoinFits, IsPartsOutcome, Joined}
use Rattle.sd_parts.specs.Work.{IsPassedByParts, KeepsArenaRule}
use Rattle.sd_parts.specs.Join.{AreJoinsWithin, IsTurnRefused, IsJoinRefused}

-- ---- one part

-- with the prefix held the total size passes the limit
pub turn_over : (old mid : Table) (root node : ℕ) (f : Groups) (limit last size : ℕ) → IsTable old →
    old.moving ≡ None → Extends old mid → HasAnswer mid (expression_value (prefix_of f last)) node → limit < size →
    IsTotal (with_root mid root node) size → PassesLimit (without_root old root) f limit last size limit
turn_over old mid root node f limit last size i still x h less total =
    record {
      total =
          total_over old mid root node (prefix_of f last) i still x h.diagram h.is
          (of_answer old mid (prefix_of f last) node x h) size total;
      passes = less;
      most_is = refl;
    }

-- or it is within
pub turn_within : (old mid : Table) (root node : ℕ) (f : Groups) (limit last : ℕ) → IsTable old →
    old.moving ≡ None → Extends old mid → HasAnswer mid (expression_value (prefix_of f last)) node →
    IsTotalWithin (with_root mid root node) limit → IsWithinLimit (without_root old root) (prefix_of f last) limit
turn_within old mid root node f limit last i still x h total =
    total_within old mid root node (prefix_of f last) i still x h.diagram h.is
    (of_answer old mid (prefix_of f last) node x h) limit total

-- a formula that a root holds stays
pub holds_kept : (old new : Table) (f : Expression) (root : ℕ) → KeepsAll old new → HoldsFormula old f root →
    HoldsFormula new f root
holds_kept old new f root k h =
    record {
      code = h.code;
      held = ap (λ m. get m root) k.reached.roots ∙ h.held;
      shown = kept_answer old new k.reached root h.code (expression_value f) h.held h.shown;
    }

-- ---- several parts

module _ (a b : Table) (numbered : IsNumbered a.vtree) (nodes : HoldNodes a) (k : KeepsReached a b) (f : Groups)
    (count limit part : ℕ) (within : AreJoinsWithin a f count limit part) where
  -- one part more is within the limit
  pub joins_more :
      (HasGroup f count part → IsWithinLimit b (prefix_of f (first_of_part f count (part + 1))) limit) →
      AreJoinsWithin a f count limit (part + 1)
  joins_more h i low has = elim (cases_eq i part) [
    | inl same ↦
        subst (λ x. IsWithinLimit a (prefix_of f (first_of_part f count (x + 1))) limit) (sym same)
        (within_back a b numbered nodes k (prefix_of f (first_of_part f count (part + 1))) limit
        (h (subst (HasGroup f count) same has)))
    | inr other ↦ within i (omega (arith, low, other)) has
  ]

  -- or its join was refused
  pub joins_refused : (new : Table) (first last : ℕ) (e : CompileError) → part < count →
      first ≡ first_of_part f count part → last ≡ first_of_part f count (part + 1) →
      IsTurnRefused b new f first last limit e → IsJoinRefused a new f count limit e
  joins_refused new first last (OverLimit group size most) there first_is last_is h =
      record {
        part = part;
        there = there;
        has_group = omega (arith, h.0, first_is, last_is);
        number = h.1 ∙ last_is;
        earlier = within;
        passes =
            record {
              total = total_back a b numbered nodes k (prefix_of f group) size h.2.total;
              passes = h.2.passes;
              most_is = h.2.most_is;
            };
      }
  joins_refused new first last (ArenaFull elements) there first_is last_is h = h
  joins_refused new first last OutOfMemory there first_is last_is h = tt

-- ---- the outcome

-- the total beside the formulas that are held is the size of all
abbrev pub TotalLaw : Table → Type 0
TotalLaw t = (f : Expression) (fs : List Expression) (n : ℕ) → AreHeldFormulas t fs → HasTotalWith t f n →
    HasSize (f ∷ fs) (plain_tree t.vtree) n

module _ (t : Table) (law : TotalLaw t) (f : Groups) (k limit : ℕ) (fit : AllPartsFit (plain_tree t.vtree) limit f k k)
    (all : List Expression) (held : AreHeldFormulas t all) where
  -- joins within the limit
  joins_fit : (n : ℕ) → AreJoinsWithin t f k limit n → JoinFits (plain_tree t.vtree) limit all f k n
  joins_fit n h i low has =
      let w = h i low has in
      (w.size, law (prefix_of f (first_of_part f k (i + 1))) all w.size held w.total, w.within)

  -- all were joined
  pub outcome_joined : AreJoinsWithin t f k limit k → IsPartsOutcome (plain_tree t.vtree) limit all f k Joined
  outcome_joined h = (fit, joins_fit k h)

  -- or a join passed the limit
  pub outcome_passed : (new : Table) (e : CompileError) → IsJoinRefused t new f k limit e →
      IsPassedByParts (plain_tree t.vtree) limit all f k e
  outcome_passed new (OverLimit group size most) h = (
    inr (record {
      parts = fit;
      part = h.part;
      there = h.there;
      has_group = h.has_group;
      earlier = joins_fit h.part h.earlier;
      number = h.number;
      total = law (prefix_of f group) all size held h.passes.total;
      passes = h.passes.passes;
    }),
    h.passes.most_is,
  )
  outcome_passed new (ArenaFull elements) h = tt
  outcome_passed new OutOfMemory h = tt

-- a refusal outlasts the release of the root
pub refused_released : (others last new : Table) (f : Groups) (k limit root : ℕ) (e : CompileError) →
    new ≡ without_root last root → IsJoinRefused others last f k limit e → KeepsArenaRule new e
refused_released others last new f k limit root (OverLimit group size most) is h = tt
refused_released others last new f k limit root (ArenaFull elements) is h =
    subst (λ t. KeepsArenaRule t (ArenaFull elements)) (sym is)
    (record { past = h.past; least = h.least; most = h.most })
refused_released others last new f k limit root OutOfMemory is h = tt
