use Rattle.std.proofs.Common.{◌≡◌, ◌∙◌, ap, subst, length, map, take, arith}
use Rattle.std.specs.List.Sorted.{IsPermutation}
use Rattle.std.proofs.Math.Seq.{take-length}
use Rattle.std.proofs.lemmas.List.Sorted.{IsPermutation-map}
use Rattle.sd_compile.specs.Joined.{literal_of_place}
use Rattle.sd_compile.proofs.groups.by_position.Goals as goal

pub returns : goal.returns
returns c =
    let xs = c.args.literals.now in
    let s = c.sort_unstable.new.self.items in
    let l = c.loop-i.placed.items in
    let n : c.loop-i.i ≡ length xs = omega arith in
    let all : map literal_of_place l ≡ xs = c.loop-i.invariant ∙ ap (λ n. take n xs) n ∙ take-length xs in
    subst (λ x. IsPermutation x (map literal_of_place s)) all
    (IsPermutation-map literal_of_place l s c.sort_unstable.ensures.permutation)
