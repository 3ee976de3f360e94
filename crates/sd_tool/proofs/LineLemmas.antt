-- Numbers in a row, and commands in lines.
use Rattle.std.proofs.Common.{◌≡◌, ℕ, zero, suc, ◌+◌, ◌<◌, ◌≤◌, List, [], ◌∷◌, ◌++◌, length, map, take}
use Rattle.std.proofs.Common.{refl, sym, ap, ◌∙◌, arith, get_or, append_assoc}
use Rattle.std.specs.List.{range_with_len}
use Rattle.std.proofs.lemmas.List.{map-append, take_more}
use Rattle.sd_commands.specs.declared.command.RunCommand.{RunCommand}
use Rattle.sd_commands.specs.declared.command.NumberedCommand.{NumberedCommand}
use Rattle.sd_tool.specs.Readings.{first_names}
use Rattle.sd_tool.specs.inside.Readings.{in_lines}

-- one number more
pub range_more : (from n : ℕ) → range_with_len from (suc n) ≡ range_with_len from n ++ (from + n) ∷ []
range_more from zero = ap (λ (k : ℕ). k ∷ []) (let e : from ≡ from + 0 = omega arith in e)
range_more from (suc n) =
    ap (λ (l : List ℕ). from ∷ l) (range_more (from + 1) n
    ∙ ap (λ (k : ℕ). range_with_len (from + 1) n ++ k ∷ [])
    (let e : from + 1 + n ≡ from + suc n = omega arith in e))

pub numbers_more : (n : ℕ) (names : List ℕ) → names ≡ range_with_len 0 n → names ++ n ∷ [] ≡ range_with_len 0 (n + 1)
numbers_more n names are =
    ap (λ (l : List ℕ). l ++ n ∷ []) are
    ∙ ap (λ (k : ℕ). range_with_len 0 n ++ k ∷ []) (let e : n ≡ 0 + n = omega arith in e) ∙ sym (range_more 0 n)
    ∙ ap (range_with_len 0) (let e : suc n ≡ n + 1 = omega arith in e)

pub length_range : (from n : ℕ) → length (range_with_len from n) ≡ n
length_range from zero = refl
length_range from (suc n) = ap suc (length_range (from + 1) n)

-- one line more
pub lines_more : (first : ℕ) (cs : List RunCommand) (c : RunCommand)
    → in_lines first (cs ++ c ∷ []) ≡ in_lines first cs ++ record { line = first + length cs; command = c } ∷ []
lines_more first [] c =
    ap (λ (n : ℕ). record { line = n; command = c } ∷ []) (let e : first ≡ first + 0 = omega arith in e)
lines_more first (d ∷ cs) c =
    ap (λ (l : List NumberedCommand). record { line = first; command = d } ∷ l) (lines_more (first + 1) cs c
    ∙ ap (λ (n : ℕ). in_lines (first + 1) cs ++ record { line = n; command = c } ∷ [])
    (let e : first + 1 + length cs ≡ first + suc (length cs) = omega arith in e))

pub length_lines : (first : ℕ) (cs : List RunCommand) → length (in_lines first cs) ≡ length cs
length_lines first [] = refl
length_lines first (c ∷ cs) = ap suc (length_lines (first + 1) cs)

-- one name more has its command
pub commands_more : (f : ℕ → RunCommand) (old : List RunCommand) (names : List ℕ) (index name : ℕ)
    → index < length names → name ≡ get_or names index name
    → old ++ map f (take index names) ++ f name ∷ [] ≡ old ++ map f (take (index + 1) names)
commands_more f old names index name within is =
    append_assoc old (map f (take index names)) (f name ∷ [])
    ∙ ap (λ (l : List RunCommand). old ++ l) (sym (map-append f (take index names) (name ∷ []))
    ∙ ap (map f) (ap (λ (n : ℕ). take index names ++ n ∷ []) is ∙ sym (take_more names index name within)))

-- there are few names
pub first_few : (o : ℕ) → o ≤ 1024 → length (first_names o) ≤ 1024
first_few zero few = omega arith
first_few (suc o) few = omega (arith, length_range 0 (suc o), few)
