-- The conjunction of two functions from nodes that show them or their negations.
use Rattle.std.proofs.Common.{◌≡◌, ◌∙◌, ℕ, Bool, true, false, not, ◌&&◌, ◌||◌, List, refl, ap}
use Rattle.sd_model.specs.Diagram.{meaning}
use Rattle.sd_model.specs.declared.trees.Operation.TheVariants.{And, Or}
use Rattle.sd_manager.specs.Table.{Table}
use Rattle.sd_apply.specs.Answers.{HasAnswer, Combines, Negates}
use Rattle.sd_apply.specs.Difference.{Subtracts}
use Rattle.sd_circuit.specs.Circuits.{signed_value}
use Rattle.sd_gates.specs.declared.sharing.SignedNode.{SignedNode}
use Rattle.sd_gates.specs.Making.{HasSignedAnswer}
use Rattle.sd_compile.proofs.Joining.{answer_same, combined}
use Rattle.sd_compile.proofs.Parities.{negated}

-- the difference of two functions
pub subtracted : (old new : Table) (f g : List Bool → Bool) (a b c : ℕ) → HasAnswer old f a → HasAnswer old g b
    → Subtracts old new a b c → HasAnswer new (λ x. f x && not (g x)) c
subtracted old new f g a b c p q h =
    let r = h.each p.diagram q.diagram p.is q.is in record {
      diagram = r.diagram;
      is = r.is;
      value = λ x. r.value x ∙ ap (λ v. v && not (meaning q.diagram x)) (p.value x)
          ∙ ap (λ v. f x && not v) (q.value x);
    }

-- ---- one law for each two signs

without_negation : (u v : Bool) → (u && not (not v)) ≡ (u && v)
without_negation true true = refl
without_negation true false = refl
without_negation false v = refl

turned : (u v : Bool) → (v && not (not u)) ≡ (u && v)
turned true true = refl
turned true false = refl
turned false true = refl
turned false false = refl

neither : (u v : Bool) → (not u || not v) ≡ not (u && v)
neither true v = refl
neither false v = refl

pub by_and : (old new : Table) (first second : SignedNode) (c : ℕ) → first.positive ≡ true → second.positive ≡ true
    → Combines old new And first.node second.node c → (f g : List Bool → Bool) → HasSignedAnswer old f first
    → HasSignedAnswer old g second
    → HasAnswer new (λ x. signed_value (first.positive || second.positive) (f x && g x)) c
by_and old new first second c one other h f g = go first.positive second.positive one other
  where
    go : (s t : Bool) → s ≡ true → t ≡ true → HasAnswer old (λ x. signed_value s (f x)) first.node
        → HasAnswer old (λ x. signed_value t (g x)) second.node
        → HasAnswer new (λ x. signed_value (s || t) (f x && g x)) c
    go true true e d p q = combined old new And f g first.node second.node c p q h
    go true false e d p q = absurd cc
    go false t e d p q = absurd cc

pub by_first : (old new : Table) (first second : SignedNode) (c : ℕ) → first.positive ≡ true
    → second.positive ≡ false → Subtracts old new first.node second.node c → (f g : List Bool → Bool)
    → HasSignedAnswer old f first → HasSignedAnswer old g second
    → HasAnswer new (λ x. signed_value (first.positive || second.positive) (f x && g x)) c
by_first old new first second c one other h f g = go first.positive second.positive one other
  where
    go : (s t : Bool) → s ≡ true → t ≡ false → HasAnswer old (λ x. signed_value s (f x)) first.node
        → HasAnswer old (λ x. signed_value t (g x)) second.node
        → HasAnswer new (λ x. signed_value (s || t) (f x && g x)) c
    go true false e d p q =
        answer_same new (λ x. f x && not (not (g x))) (λ x. f x && g x) c (λ x. without_negation (f x) (g x))
        (subtracted old new f (λ x. not (g x)) first.node second.node c p q h)
    go true true e d p q = absurd cc
    go false t e d p q = absurd cc

pub by_second : (old new : Table) (first second : SignedNode) (c : ℕ) → first.positive ≡ false
    → second.positive ≡ true → Subtracts old new second.node first.node c → (f g : List Bool → Bool)
    → HasSignedAnswer old f first → HasSignedAnswer old g second
    → HasAnswer new (λ x. signed_value (first.positive || second.positive) (f x && g x)) c
by_second old new first second c one other h f g = go first.positive second.positive one other
  where
    go : (s t : Bool) → s ≡ false → t ≡ true → HasAnswer old (λ x. signed_value s (f x)) first.node
        → HasAnswer old (λ x. signed_value t (g x)) second.node
        → HasAnswer new (λ x. signed_value (s || t) (f x && g x)) c
    go false true e d p q =
        answer_same new (λ x. g x && not (not (f x))) (λ x. f x && g x) c (λ x. turned (f x) (g x))
        (subtracted old new g (λ x. not (f x)) second.node first.node c q p h)
    go false false e d p q = absurd cc
    go true t e d p q = absurd cc

pub by_or : (old new : Table) (first second : SignedNode) (c : ℕ) → first.positive ≡ false → second.positive ≡ false
    → Combines old new Or first.node second.node c → (f g : List Bool → Bool) → HasSignedAnswer old f first
    → HasSignedAnswer old g second
    → HasAnswer new (λ x. signed_value (first.positive || second.positive) (f x && g x)) c
by_or old new first second c one other h f g = go first.positive second.positive one other
  where
    go : (s t : Bool) → s ≡ false → t ≡ false → HasAnswer old (λ x. signed_value s (f x)) first.node
        → HasAnswer old (λ x. signed_value t (g x)) second.node
        → HasAnswer new (λ x. signed_value (s || t) (f x && g x)) c
    go false false e d p q =
        answer_same new (λ x. not (f x) || not (g x)) (λ x. not (f x && g x)) c (λ x. neither (f x) (g x))
        (combined old new Or (λ x. not (f x)) (λ x. not (g x)) first.node second.node c p q h)
    go false true e d p q = absurd cc
    go true t e d p q = absurd cc

-- ---- a negative node, and what it stands for

not_not : (v : Bool) → not (not v) ≡ v
not_not true = refl
not_not false = refl

-- the negation of a node that shows the negation
pub twice_negated : (old new : Table) (f : List Bool → Bool) (signed : SignedNode) (c : ℕ) → signed.positive ≡ false
    → HasSignedAnswer old f signed → Negates old new signed.node c → HasAnswer new f c
twice_negated old new f signed c negative p h = go signed.positive negative p
  where
    go : (s : Bool) → s ≡ false → HasAnswer old (λ x. signed_value s (f x)) signed.node → HasAnswer new f c
    go true e q = absurd cc
    go false e q =
        answer_same new (λ x. not (not (f x))) f c (λ x. not_not (f x))
        (negated old new (λ x. not (f x)) signed.node c q h)
