use Rattle.std.proofs.Common.{◌∙◌, sym, ap, ℕ, ◌++◌, List, get_or}
use Rattle.std.proofs.lemmas.List.{take_rest}
use Rattle.sd_apply.proofs.Listed.{pair_at}
use Rattle.sd_apply.proofs.Matching.{walk_both, walk_first, walk_second, walk_ends}
use Rattle.sd_apply.proofs.matched.match_primes.Goals as goal

pub loop-i-preserved-then-prime-other : goal.loop-i-preserved-then-prime-other
loop-i-preserved-then-prime-other c =
    let l = c.args.first.now in
    let k = c.args.second.now in
    let i = c.loop-i.i in
    let j = c.loop-i.j in
    let e : ℕ × ℕ = (
      (get_or l i c.index-first-i.result).0,
      (get_or l i c.index-first-i-in-loop-i.result).1,
    ) in
    let f : ℕ × ℕ = (
      (get_or k j c.index-second-j.result).0,
      (get_or k j c.index-second-j-in-loop-i.result).1,
    ) in
    walk_both l k c.loop-i.ones.items c.loop-i.others.items c.loop-i.first_rest.items
    c.loop-i.second_rest.items c.push.new.self.items c.push-then-prime-other.new.self.items i j e f
    c.loop-i.invariant c.loop-i-test.true c.if-j-second.true
    (pair_at l i c.index-first-i.result c.index-first-i-in-loop-i.result c.loop-i-test.true)
    (pair_at k j c.index-second-j.result c.index-second-j-in-loop-i.result c.if-j-second.true)
    (sym c.prime.view_is ∙ c.if-prime-other.true ∙ c.other.view_is) c.in-Ok.ensures.items
    c.in-Ok-push.ensures.items

pub loop-i-preserved-then-prime-other-2 : goal.loop-i-preserved-then-prime-other-2
loop-i-preserved-then-prime-other-2 c =
    let l = c.args.first.now in
    let i = c.loop-i.i in
    let e : ℕ × ℕ = (
      (get_or l i c.index-first-i.result).0,
      (get_or l i c.index-first-i-in-loop-i.result).1,
    ) in
    walk_first l c.args.second.now c.loop-i.ones.items c.loop-i.others.items c.loop-i.first_rest.items
    c.loop-i.second_rest.items c.push-then-prime-other-2.new.self.items i c.loop-i.j e
    c.loop-i.invariant c.loop-i-test.true
    (pair_at l i c.index-first-i.result c.index-first-i-in-loop-i.result c.loop-i-test.true)
    c.in-Ok-push-2.ensures.items

pub loop-i-preserved : goal.loop-i-preserved
loop-i-preserved c =
    let k = c.args.second.now in
    let j = c.loop-i.j in
    let f : ℕ × ℕ = (
      (get_or k j c.index-second-j.result).0,
      (get_or k j c.index-second-j-in-loop-i.result).1,
    ) in
    walk_second c.args.first.now k c.loop-i.ones.items c.loop-i.others.items c.loop-i.first_rest.items
    c.loop-i.second_rest.items c.push-else-prime-other-2.new.self.items c.loop-i.i j f
    c.loop-i.invariant c.if-j-second.true
    (pair_at k j c.index-second-j.result c.index-second-j-in-loop-i.result c.if-j-second.true)
    c.in-Ok-push-3.ensures.items

pub returns-clause-ok : goal.returns-clause-ok
returns-clause-ok c =
    let l = c.args.first.now in
    let k = c.args.second.now in
    walk_ends l k c.loop-i.ones.items c.loop-i.others.items c.loop-i.first_rest.items
    c.loop-i.second_rest.items c.extend_from_slice.new.self.items c.extend_from_slice-2.new.self.items
    c.loop-i.i c.loop-i.j c.loop-i.invariant
    (c.in-Ok-extend_from_slice.ensures.items
    ∙ ap (λ (z : List (ℕ × ℕ)). c.loop-i.first_rest.items ++ z) (take_rest l c.loop-i.i))
    (c.in-Ok-extend_from_slice-2.ensures.items
    ∙ ap (λ (z : List (ℕ × ℕ)). c.loop-i.second_rest.items ++ z) (take_rest k c.loop-i.j))
