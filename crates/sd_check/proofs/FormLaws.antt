-- The first four rules by the table of inner nodes.
use Rattle.std.proofs.Common.{◌≡◌, ℕ, ◌+◌, ◌*◌, ◌<◌, Bool, true, false, not, ◌||◌, List, Option, Some, None}
use Rattle.std.proofs.Common.{refl, sym, ◌∙◌, ap, arith, option_and_then}
use Rattle.std.specs.List.{list_any}
use Rattle.std.specs.Option.{option_map_or}
use Rattle.sd_model.specs.Tree.{Tree, leaves}
use Rattle.sd_file.specs.Reads.{File}
use Rattle.sd_check.specs.declared.rules.Rule.{Rule}
use Rattle.sd_check.specs.declared.rules.Rule.TheVariants.{Vtree, Prime, Sub}
use Rattle.sd_check.specs.Rules.{Places, Inner, inner_at, inner_named, node_at, is_constant_node, stands_among}
use Rattle.sd_check.specs.Rules.{ElementsBreak}
use Rattle.sd_check.specs.Judging.{IsFirst, HoldBefore}
use Rattle.sd_check.proofs.Inners.{inner_part, inner_range}
use Rattle.sd_check.proofs.Judged.{hold_next}

-- where an inner node that is named stands
pub named_middle : (t : Tree) (ids : Places) (vtree : ℕ) (i : Inner) → inner_named t ids vtree ≡ Some i →
    (ids vtree ≡ Some i.middle) × (i.middle + 1 < 2 * leaves t)
named_middle t ids vtree i e = go (ids vtree) refl
  where
    go : (o : Option ℕ) → ids vtree ≡ o → (ids vtree ≡ Some i.middle) × (i.middle + 1 < 2 * leaves t)
    go None h = absurd (cc (ap (option_and_then (inner_at t 0)) h, e))
    go (Some q) h =
        let found : inner_at t 0 q ≡ Some i = sym (ap (option_and_then (inner_at t 0)) h) ∙ e in
        let w = inner_part t 0 q i found in
        let middle : i.middle ≡ q = ap (λ j. j.middle) w.is ∙ w.place in
        let range = inner_range t 0 q i found in
        (h ∙ ap Some (sym middle), omega (arith, range.1, middle))

-- what primes and subs outside an inner node's positions tell
abbrev pub PrimesOutside : Places → File → Inner → List (ℕ × ℕ) → Bool
PrimesOutside ids f i pairs = list_any (λ (e : ℕ × ℕ). not (stands_among ids i.first i.middle (node_at f e.0))) pairs

abbrev pub SubsOutside : Places → File → Inner → List (ℕ × ℕ) → Bool
SubsOutside ids f i pairs =
    list_any (λ (e : ℕ × ℕ). not (is_constant_node (node_at f e.1)
    || stands_among ids (i.middle + 1) i.end (node_at f e.1))) pairs

-- two rules hold
pub two_hold : (t : Tree) (ids : Places) (f : File) (vtree : ℕ) (pairs : List (ℕ × ℕ)) (i : Inner) →
    inner_named t ids vtree ≡ Some i → PrimesOutside ids f i pairs ≡ false →
    HoldBefore (ElementsBreak t ids f vtree pairs) 2
two_hold t ids f vtree pairs i named primes =
    let B : Rule → Type 0 = ElementsBreak t ids f vtree pairs in
    let none : HoldBefore B 0 = record { each = λ r lt b. absurd (omega (arith, lt)) } in
    let same = ap (λ o. list_any (λ (e : ℕ × ℕ). not (option_map_or
    (λ j. stands_among ids j.first j.middle (node_at f e.0)) o false)) pairs) named ∙ primes in
    hold_next B 1 Prime refl (hold_next B 0 Vtree refl none (λ b. absurd (cc (named, b)))) (λ b. absurd (cc (same, b)))

-- a sub outside
pub sub_first : (t : Tree) (ids : Places) (f : File) (vtree : ℕ) (pairs : List (ℕ × ℕ)) (i : Inner) →
    inner_named t ids vtree ≡ Some i → PrimesOutside ids f i pairs ≡ false → SubsOutside ids f i pairs ≡ true →
    IsFirst (ElementsBreak t ids f vtree pairs) Sub
sub_first t ids f vtree pairs i named primes subs =
    record {
      broken = ap (λ o. list_any (λ (e : ℕ × ℕ). not (is_constant_node (node_at f e.1)
          || option_map_or (λ j. stands_among ids (j.middle + 1) j.end (node_at f e.1)) o false)) pairs) named ∙ subs;
      others = (two_hold t ids f vtree pairs i named primes).each;
    }

-- three rules hold
pub three_hold : (t : Tree) (ids : Places) (f : File) (vtree : ℕ) (pairs : List (ℕ × ℕ)) (i : Inner) →
    inner_named t ids vtree ≡ Some i → PrimesOutside ids f i pairs ≡ false → SubsOutside ids f i pairs ≡ false →
    HoldBefore (ElementsBreak t ids f vtree pairs) 3
three_hold t ids f vtree pairs i named primes subs =
    let same = ap (λ o. list_any (λ (e : ℕ × ℕ). not (is_constant_node (node_at f e.1)
    || option_map_or (λ j. stands_among ids (j.middle + 1) j.end (node_at f e.1)) o false)) pairs) named ∙ subs in
    hold_next (ElementsBreak t ids f vtree pairs) 2 Sub refl (two_hold t ids f vtree pairs i named primes)
    (λ b. absurd (cc (same, b)))
