-- What a list of pairs of codes is trimmed to.
use Rattle.std.specs.Prelude.{ℕ, List, [], ◌∷◌, Option, Some, None, ◌==◌, ◌&&◌, if◌then◌else◌}

-- two pairs with the subs true and false are trimmed to the prime of the true one
abbrev pub trim_two : ℕ × ℕ → ℕ × ℕ → Option ℕ
trim_two e f =
    if e.1 == 1 && f.1 == 0 then Some e.0
    else (if e.1 == 0 && f.1 == 1 then Some f.0 else None)

-- one pair is trimmed to its sub
abbrev pub trim_of : List (ℕ × ℕ) → Option ℕ
trim_of [] = None
trim_of (e ∷ []) = Some e.1
trim_of (e ∷ f ∷ []) = trim_two e f
trim_of (e ∷ f ∷ g ∷ rest) = None
