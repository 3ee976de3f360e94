-- What a part is made of, and a list of parts with one more.
use Rattle.std.proofs.Common.{◌≡◌, ℕ, ◌+◌, List, [], ◌∷◌, ◌++◌, length, map, refl, sym, arith}
use Rattle.std.specs.List.{range_with_len}
use Rattle.std.proofs.lemmas.List.FromFn.{map-range_with_len_more}
use Rattle.sd_model.specs.Tree.{Tree}
use Rattle.sd_formula.specs.Dimacs.{Groups}
use Rattle.sd_formula.specs.Formulas.{groups_part}
use Rattle.sd_parts.specs.Parts.{part_begin}
use Rattle.sd_parts.specs.Work.{part_work, work_of}

-- a part of its groups and its tree
pub part_made : (f part : Groups) (t made : Tree) (limit bound k i g first end : ℕ) → g ≡ length f.groups →
    first ≡ part_begin g k i → end ≡ part_begin g k (i + 1) → part ≡ groups_part f first end → made ≡ t →
    work_of i part first made limit bound ≡ part_work f t limit bound k i
part_made f part t made limit bound k i g first end count begin_is end_is part_is made_is =
    rw (made_is, part_is, begin_is, end_is, count) refl

-- one more of a list of parts
pub one_more : {X : Type 0} (w : ℕ → X) (xs ys : List X) (x : X) (n i : ℕ) → xs ≡ map w (range_with_len 0 n) →
    x ≡ w i → i ≡ n → ys ≡ xs ++ x ∷ [] → ys ≡ map w (range_with_len 0 (n + 1))
one_more w xs ys x n i so_far is same pushed =
    rw (pushed, so_far, is, same) (sym (map-range_with_len_more w 0 n n (omega arith)))
