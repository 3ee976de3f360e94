-- A file has one verdict.
use Rattle.std.proofs.Common.{◌≡◌, ◌⊎◌, inl, inr, ℕ, ◌<◌, ◌≤◌, refl, sym, ◌∙◌, ap, subst, arith, ◌==◌}
use Rattle.std.proofs.Common.{if◌then◌else◌}
use Rattle.std.proofs.lemmas.Bool.{cases_lt}
use Rattle.sd_model.specs.Tree.{Tree}
use Rattle.sd_file.specs.Reads.{File}
use Rattle.sd_check.specs.declared.rules.Rule.{Rule}
use Rattle.sd_check.specs.declared.rules.Rule.TheVariants.{Vtree, Prime, Sub, Count, Overlap, Cover, Subs, Trim}
use Rattle.sd_check.specs.declared.rules.Verdict.{Verdict}
use Rattle.sd_check.specs.declared.rules.Verdict.TheVariants.{Yes, No}
use Rattle.sd_check.specs.Rules.{Places, BreaksRule, HasVerdict, rank}

-- the rule with a rank
abbrev rule_at : ℕ → Rule
rule_at n =
    if n == 0 then Vtree
    else (if n == 1 then Prime
    else (if n == 2 then Sub
    else (if n == 3 then Count
    else (if n == 4 then Overlap else (if n == 5 then Cover else (if n == 6 then Subs else Trim))))))

-- it is the one rule with this rank
rule_back : (r : Rule) → rule_at (rank r) ≡ r
rule_back Vtree = refl
rule_back Prime = refl
rule_back Sub = refl
rule_back Count = refl
rule_back Overlap = refl
rule_back Cover = refl
rule_back Subs = refl
rule_back Trim = refl

-- two rules with one rank are one
pub same_rule : (r q : Rule) → rank r ≡ rank q → r ≡ q
same_rule r q e = sym (rule_back r) ∙ ap rule_at e ∙ rule_back q

-- two first rules of one node are one
one_rule : (t : Tree) (ids : Places) (f : File) (i : ℕ) (r q : Rule) → BreaksRule t ids f i r → BreaksRule t ids f i q →
    r ≡ q
one_rule t ids f i r q h k = go (cases_lt (rank r) (rank q)) (cases_lt (rank q) (rank r))
  where
    go : (rank r < rank q) ⊎ (rank q ≤ rank r) → (rank q < rank r) ⊎ (rank r ≤ rank q) → r ≡ q
    go (inl less) other = absurd (k.first_rule r less h.broken)
    go (inr le) (inl less) = absurd (h.first_rule q less k.broken)
    go (inr le) (inr ge) =
        same_rule r q (omega arith)

-- two first nodes are one
one_node : (t : Tree) (ids : Places) (f : File) (i j : ℕ) (r q : Rule) → BreaksRule t ids f i r →
    BreaksRule t ids f j q → i ≡ j
one_node t ids f i j r q h k = go (cases_lt i j) (cases_lt j i)
  where
    go : (i < j) ⊎ (j ≤ i) → (j < i) ⊎ (i ≤ j) → i ≡ j
    go (inl less) other = absurd (k.first_node i r less h.broken)
    go (inr le) (inl less) = absurd (h.first_node j q less k.broken)
    go (inr le) (inr ge) = omega arith

-- one verdict
pub verdict_once : (t : Tree) (ids : Places) (f : File) (v w : Verdict) → HasVerdict t ids f v → HasVerdict t ids f w →
    v ≡ w
verdict_once t ids f Yes Yes h k = refl
verdict_once t ids f Yes (No j q) h k = absurd (h j q k.0 k.1.broken)
verdict_once t ids f (No i r) Yes h k = absurd (k i r h.0 h.1.broken)
verdict_once t ids f (No i r) (No j q) h k =
    let same : i ≡ j = one_node t ids f i j r q h.1 k.1 in
    let rule : r ≡ q = one_rule t ids f i r q h.1 (subst (λ n. BreaksRule t ids f n q) (sym same) k.1) in
    ap (λ n. No n r) same ∙ ap (No j) rule
