use Rattle.std.proofs.Common.{◌≡◌, ◌<◌, ◌∙◌, ◌++◌, ◌∷◌, [], false, true, sym, ap, subst, length, map, take, set, get_or}
use Rattle.std.proofs.Common.{arith, ℕ, List}
use Rattle.std.proofs.lemmas.List.{take_more}
use Rattle.std.proofs.Math.Seq.{take-length}
use Rattle.sd_model.specs.Tree.{AreDistinct}
use Rattle.sd_apply.proofs.Listed.{pair_at}
use Rattle.sd_apply.proofs.Marking.{AreMarked, marked_next}
use Rattle.sd_apply.proofs.lists.are_marked_apart.Goals as goal

pub loop-i-init : goal.loop-i-init
loop-i-init c = record { marked = tt; distinct = tt }

pub loop-i-preserved : goal.loop-i-preserved
loop-i-preserved c =
    let l = c.args.pairs.now in
    let i = c.loop-i.i in
    let marks = c.loop-i.seen.items in
    let n = c.node.inside.0 in
    let e : ℕ × ℕ = get_or l i (0, 0) in
    let at : n ≡ e.1 = c.node.view_is
    ∙ ap (λ (x : ℕ × ℕ). x.1) (pair_at l i c.index-pairs-i.result c.index-pairs-i.result c.loop-i-test.true) in
    let free : get_or marks n false ≡ false =
    sym (subst (λ b. b ≡ get_or marks n b) c.if-index.false c.index.ensures) in
    let within : n < length marks = omega (arith, c.if-sub-len.false, c.len.ensures, c.loop-i.seen.ok) in
    subst (λ (x : List (ℕ × ℕ)). AreMarked (set marks n true) x) (sym (take_more l i (0, 0) c.loop-i-test.true))
    (subst (λ k. AreMarked (set marks k true) (take i l ++ e ∷ [])) (sym at)
    (marked_next marks (take i l) e (subst (λ k. k < length marks) at within)
    (subst (λ k. get_or marks k false ≡ false) at free) c.loop-i.invariant))

pub returns : goal.returns
returns c = λ yes.
    let l = c.args.pairs.now in
    let n : c.loop-i.i ≡ length l = omega arith in
    subst (λ (x : List (ℕ × ℕ)). AreDistinct (map (λ (e : ℕ × ℕ). e.1) x)) (ap (λ k. take k l) n ∙ take-length l)
    c.loop-i.invariant.distinct
