-- The parts have one outcome.
use Rattle.std.proofs.Common.{◌≡◌, ◌⊎◌, inl, inr, ℕ, ◌+◌, ◌<◌, List, ◌∷◌, [], length, refl, sym, ap, subst, ◌∙◌, arith}
use Rattle.std.proofs.lemmas.Bool.{cases_order}
use Rattle.sd_model.specs.Tree.{Tree, IsVtree}
use Rattle.sd_model.specs.Expression.{Expression}
use Rattle.sd_model.specs.Size.{HasSize}
use Rattle.sd_model.proofs.Determined.{size_determined}
use Rattle.sd_formula.specs.Dimacs.{Groups}
use Rattle.sd_compile.specs.Compiling.{prefix_of}
use Rattle.sd_parts.specs.Parts.{SizeIsWithin, PartFits, AllPartsFit, PassesAlone, PartPasses, JoinFits}
use Rattle.sd_parts.specs.Parts.{part_of, first_of_part, IsFirstPart, IsFirstJoin, PartsOutcome, Joined, Passed}
use Rattle.sd_parts.specs.Parts.{IsPartsOutcome}

module _ (t : Tree) (valid : IsVtree t) (limit : ℕ) where
  -- a size within the limit does not pass it
  not_both : (fs : List Expression) (size : ℕ) → SizeIsWithin t limit fs → HasSize fs t size → limit < size → ⊥
  not_both fs size h total passes =
      let same = size_determined t fs h.0 size valid h.1 total in omega (arith, h.2, passes, same)

  -- a part whose prefixes are within the limit does not pass it
  pub not_passed : (part : Groups) (first group size : ℕ) → PartFits t limit part (length part.groups) →
      PassesAlone t limit part first group size → ⊥
  not_passed part first group size h p =
      not_both (prefix_of part (p.before + 1) ∷ []) size
      (h (p.before + 1) (omega arith) (omega (arith, p.left))) p.total p.passes

  -- a part has one group that does, with one size
  pub one_group : (part : Groups) (first g h m n : ℕ) → PassesAlone t limit part first g m →
      PassesAlone t limit part first h n → (g ≡ h) × (m ≡ n)
  one_group part first g h m n p q = go (cases_order p.before q.before)
    where
      same : p.before ≡ q.before → (g ≡ h) × (m ≡ n)
      same e = (
        p.number ∙ ap (λ b. first + (b + 1)) e ∙ sym q.number,
        size_determined t (prefix_of part (q.before + 1) ∷ []) m n valid
            (subst (λ b. HasSize (prefix_of part (b + 1) ∷ []) t m) e p.total) q.total,
      )

      go : (p.before ≡ q.before) ⊎ (p.before < q.before) ⊎ (q.before < p.before) → (g ≡ h) × (m ≡ n)
      go (inr (inl less)) =
          absurd (not_both (prefix_of part (p.before + 1) ∷ []) m
          (q.fits (p.before + 1) (omega arith) (omega (arith, less))) p.total p.passes)
      go (inl e) = same e
      go (inr (inr more)) =
          absurd (not_both (prefix_of part (q.before + 1) ∷ []) n
          (p.fits (q.before + 1) (omega arith) (omega (arith, more))) q.total q.passes)

  module _ (all : List Expression) (f : Groups) (k : ℕ) where
    -- the first part that passes the limit is one
    first_once : (g h m n : ℕ) → IsFirstPart t limit f k g m → IsFirstPart t limit f k h n → (g ≡ h) × (m ≡ n)
    first_once g h m n p q = go (cases_order p.part q.part)
      where
        go : (p.part ≡ q.part) ⊎ (p.part < q.part) ⊎ (q.part < p.part) → (g ≡ h) × (m ≡ n)
        go (inr (inl less)) =
            absurd (not_passed (part_of f k p.part) (first_of_part f k p.part) g m (q.earlier p.part less) p.passes)
        go (inl e) =
            one_group (part_of f k q.part) (first_of_part f k q.part) g h m n
            (subst (λ i. PartPasses t limit f k i g m) e p.passes) q.passes
        go (inr (inr more)) =
            absurd (not_passed (part_of f k q.part) (first_of_part f k q.part) h n (p.earlier q.part more) q.passes)

    -- where each part is within the limit, none passes it
    no_first : (g m : ℕ) → AllPartsFit t limit f k k → IsFirstPart t limit f k g m → ⊥
    no_first g m h p =
        not_passed (part_of f k p.part) (first_of_part f k p.part) g m (h p.part p.there) p.passes

    -- where the joins before a later one are within the limit, an earlier one does not pass it
    no_join : (g m before : ℕ) → JoinFits t limit all f k before → (p : IsFirstJoin t limit all f k g m) →
        p.part < before → ⊥
    no_join g m before h p low =
        not_both (prefix_of f g ∷ all) m
        (subst (λ n. SizeIsWithin t limit (prefix_of f n ∷ all)) (sym p.number) (h p.part low p.has_group))
        p.total p.passes

    -- so the first join that does is one
    join_once : (g h m n : ℕ) → IsFirstJoin t limit all f k g m → IsFirstJoin t limit all f k h n →
        (g ≡ h) × (m ≡ n)
    join_once g h m n p q = go (cases_order p.part q.part)
      where
        same : g ≡ h → (g ≡ h) × (m ≡ n)
        same e = (
          e,
          size_determined t (prefix_of f h ∷ all) m n valid
              (subst (λ x. HasSize (prefix_of f x ∷ all) t m) e p.total) q.total,
        )

        go : (p.part ≡ q.part) ⊎ (p.part < q.part) ⊎ (q.part < p.part) → (g ≡ h) × (m ≡ n)
        go (inr (inl less)) = absurd (no_join g m q.part q.earlier p less)
        go (inl e) = same (p.number ∙ ap (λ i. first_of_part f k (i + 1)) e ∙ sym q.number)
        go (inr (inr more)) = absurd (no_join h n p.part p.earlier q more)

    -- parts that are joined pass no limit
    not_joined : (g m : ℕ) → IsPartsOutcome t limit all f k Joined → IsPartsOutcome t limit all f k (Passed g m) → ⊥
    not_joined g m h (inl p) = no_first g m h.0 p
    not_joined g m h (inr p) = no_join g m k h.1 p p.there

    -- the parts of a formula have one outcome
    pub one_outcome : (o p : PartsOutcome) → IsPartsOutcome t limit all f k o → IsPartsOutcome t limit all f k p →
        o ≡ p
    one_outcome Joined Joined h q = refl
    one_outcome Joined (Passed g m) h q = absurd (not_joined g m h q)
    one_outcome (Passed g m) Joined h q = absurd (not_joined g m q h)
    one_outcome (Passed g m) (Passed h n) x y = passed (both x y)
      where
        both : IsFirstPart t limit f k g m ⊎ IsFirstJoin t limit all f k g m →
            IsFirstPart t limit f k h n ⊎ IsFirstJoin t limit all f k h n → (g ≡ h) × (m ≡ n)
        both (inl p) (inl q) = first_once g h m n p q
        both (inl p) (inr q) = absurd (no_first g m q.parts p)
        both (inr p) (inl q) = absurd (no_first h n p.parts q)
        both (inr p) (inr q) = join_once g h m n p q

        passed : (g ≡ h) × (m ≡ n) → Passed g m ≡ Passed h n
        passed e = ap (λ x. Passed x m) e.0 ∙ ap (Passed h) e.1
