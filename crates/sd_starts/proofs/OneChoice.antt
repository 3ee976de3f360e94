-- What a formula comes to over a tree is one, and so is the choice among the starts.
use Rattle.std.proofs.Common.{◌≡◌, ◌⊎◌, inl, inr, ℕ, ◌<◌, [], ◌∷◌, Option, Some, None}
use Rattle.std.proofs.Common.{refl, sym, ap, ◌∙◌, arith}
use Rattle.std.specs.Prelude.{MatchOption}
use Rattle.std.proofs.lemmas.Bool.{cases_order}
use Rattle.sd_model.specs.Tree.{Tree, IsVtree}
use Rattle.sd_model.specs.Size.{HasSize}
use Rattle.sd_model.proofs.Determined.{size_determined}
use Rattle.sd_formula.specs.Dimacs.{Groups}
use Rattle.sd_formula.specs.Formulas.{expression_of}
use Rattle.sd_search.specs.Search.{Found, IsSearch}
use Rattle.sd_search.proofs.Determined.{search_determined}
use Rattle.sd_parts.proofs.OneOutcome.{not_passed, one_group}
use Rattle.sd_starts.specs.Starts.{StartEnd, Ended, Passed, IsEndAt, IsFinalSize, tree_of_start, rank}
use Rattle.sd_starts.specs.Starts.{Choice, Chosen, AllPassed, IsChoice, IsChoiceOf, IsLeast}
use Rattle.sd_starts.specs.declared.start.Start.{Start}
use Rattle.sd_starts.specs.declared.start.Start.TheVariants.{Balanced, Right, Left}
use Rattle.sd_starts.specs.declared.start.Settings.{Settings}
use Rattle.sd_starts.proofs.StartLeaves.{start_vtree}

-- ---- at one start

-- the size at the end is one
final_once : (f : Groups) (settings : Settings) (t : Tree) → IsVtree t → (m n : ℕ) → IsFinalSize f settings t m
    → IsFinalSize f settings t n → m ≡ n
final_once f settings t valid m n p q = go settings.rounds p q
  where
    of : Option ℕ → ℕ → Type 0
    of rounds size = MatchOption rounds (HasSize (expression_of f ∷ []) t size)
        (λ rounds. (found : Found) × IsSearch (expression_of f ∷ []) settings.slack rounds t found
        × (found.after ≡ size))

    go : (rounds : Option ℕ) → of rounds m → of rounds n → m ≡ n
    go None p q = size_determined t (expression_of f ∷ []) m n valid p q
    go (Some rounds) p q = sym p.2 ∙ ap (λ (a : Found). a.after) (search_determined valid p.1 q.1) ∙ q.2

-- what the formula comes to over a tree is one
pub one_end : (f : Groups) (settings : Settings) (t : Tree) (x y : StartEnd) → IsVtree t → IsEndAt f settings t x
    → IsEndAt f settings t y → x ≡ y
one_end f settings t (Ended m) (Ended n) valid p q = ap Ended (final_once f settings t valid m n p.1 q.1)
one_end f settings t (Ended m) (Passed g n) valid p q = absurd (not_passed t valid settings.limit f 0 g n p.0 q)
one_end f settings t (Passed g m) (Ended n) valid p q = absurd (not_passed t valid settings.limit f 0 g m q.0 p)
one_end f settings t (Passed g m) (Passed h n) valid p q =
    let e = one_group t valid settings.limit f 0 g h m n p q in ap (λ x. Passed x m) e.0 ∙ ap (Passed h) e.1

-- ---- the choice

-- a place in the order is that of one start
one_rank : (s r : Start) → rank s ≡ rank r → s ≡ r
one_rank Balanced Balanced e = refl
one_rank Balanced Right e = absurd (omega (arith, e))
one_rank Balanced Left e = absurd (omega (arith, e))
one_rank Right Balanced e = absurd (omega (arith, e))
one_rank Right Right e = refl
one_rank Right Left e = absurd (omega (arith, e))
one_rank Left Balanced e = absurd (omega (arith, e))
one_rank Left Right e = absurd (omega (arith, e))
one_rank Left Left e = refl

ended_size : (m n : ℕ) → Ended m ≡ Ended n → m ≡ n
ended_size m n e = cc

passed_size : (g h m n : ℕ) → Passed g m ≡ Passed h n → (g ≡ h) × (m ≡ n)
passed_size g h m n e = (cc, cc)

not_both : (g m n : ℕ) → Ended n ≡ Passed g m → ⊥
not_both g m n e = cc

-- a start of a lesser place is no other than the least one
none_before : (a b : Start → StartEnd) → ((s : Start) → a s ≡ b s) → (s r : Start) (m n : ℕ) → IsLeast a s m
    → IsLeast b r n → rank s < rank r → ⊥
none_before a b same s r m n p q less =
    let more = q.first s m less (sym (same s) ∙ p.ended) in
    let most = p.least r n (same r ∙ q.ended) in omega (arith, more, most)

-- the choice among equal ends is one
choice_once : (a b : Start → StartEnd) → ((s : Start) → a s ≡ b s) → (s r : Start) (m n : ℕ) → IsLeast a s m
    → IsLeast b r n → Chosen s m ≡ Chosen r n
choice_once a b same s r m n p q = go (cases_order (rank s) (rank r))
  where
    at : s ≡ r → Chosen s m ≡ Chosen r n
    at e = let size : m ≡ n = ended_size m n (sym p.ended ∙ same s ∙ ap b e ∙ q.ended) in
        ap (λ x. Chosen x m) e ∙ ap (Chosen r) size

    go : (rank s ≡ rank r) ⊎ (rank s < rank r) ⊎ (rank r < rank s) → Chosen s m ≡ Chosen r n
    go (inl e) = at (one_rank s r e)
    go (inr (inl less)) = absurd (none_before a b same s r m n p q less)
    go (inr (inr more)) = absurd (none_before b a (λ x. sym (same x)) r s n m q p more)

-- The choice is one: one start with one size, or one refusal.
pub one_choice : (f : Groups) (settings : Settings) (x y : Choice) → IsChoice f settings x → IsChoice f settings y
    → x ≡ y
one_choice f settings x y p q = go x y p.choice_is q.choice_is
  where
    same : (s : Start) → p.end_of s ≡ q.end_of s
    same s = one_end f settings (tree_of_start s f.variables) (p.end_of s) (q.end_of s)
        (start_vtree s f.variables) (p.each s) (q.each s)

    go : (x y : Choice) → IsChoiceOf p.end_of x → IsChoiceOf q.end_of y → x ≡ y
    go (Chosen s m) (Chosen r n) h k = choice_once p.end_of q.end_of same s r m n h k
    go (Chosen s m) (AllPassed g n) h k =
        let other = k.0 s in absurd (not_both other.0 other.1 m (sym h.ended ∙ same s ∙ other.2))
    go (AllPassed g n) (Chosen s m) h k =
        let other = h.0 s in absurd (not_both other.0 other.1 m (sym k.ended ∙ sym (same s) ∙ other.2))
    go (AllPassed g m) (AllPassed h n) p q =
        let e = passed_size g h m n (sym p.1 ∙ same Balanced ∙ q.1) in
        ap (λ x. AllPassed x m) e.0 ∙ ap (AllPassed h) e.1
