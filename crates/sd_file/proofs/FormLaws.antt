-- Lists that are read to their end.
use Rattle.std.proofs.Common.{◌≡◌, ℕ, List, [], ◌∷◌, ◌++◌, Option, Some, None, refl, ap, option_map, append_assoc}

-- one more number in front of what is left
pub front_more : (front : List ℕ) (n : ℕ) (rest : Option (List ℕ))
    → option_map (λ ns. (front ++ n ∷ []) ++ ns) rest ≡ option_map (λ ns. front ++ ns) (option_map (λ ns. n ∷ ns) rest)
front_more front n None = refl
front_more front n (Some ns) = ap Some (append_assoc front (n ∷ []) ns)
