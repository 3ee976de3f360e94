use Rattle.std.proofs.Common.{not}
use Rattle.sd_apply.proofs.Opposite.{node_of_on}
use Rattle.sd_compile.proofs.Joining.{answer_node}
use Rattle.sd_compile.proofs.Parities.{exclusive_both, both_on}
use Rattle.sd_compile.proofs.parity.parity_of_both.Goals as goal

pub either-requires-2-clause-a : goal.either-requires-2-clause-a
either-requires-2-clause-a c =
    node_of_on c.args.m.now c.either.new.m c.in_ok-odd.ensures.kept c.args.first.odd
    (answer_node _ _ _ c.requires.first.1.one)

pub either-requires-2-clause-b : goal.either-requires-2-clause-b
either-requires-2-clause-b c =
    node_of_on c.args.m.now c.either.new.m c.in_ok-odd.ensures.kept c.args.second.odd
    (answer_node _ _ _ c.requires.second.1.one)

pub either-requires-2-clause-d : goal.either-requires-2-clause-d
either-requires-2-clause-d c =
    node_of_on c.args.m.now c.either.new.m c.in_ok-odd.ensures.kept c.args.first.even
    (answer_node _ _ _ c.requires.first.1.other)

pub either-requires-2-clause-e : goal.either-requires-2-clause-e
either-requires-2-clause-e c =
    node_of_on c.args.m.now c.either.new.m c.in_ok-odd.ensures.kept c.args.second.even
    (answer_node _ _ _ c.requires.second.1.other)

pub returns-clause-ok : goal.returns-clause-ok
returns-clause-ok c = λ f g hf hg.
    let old = c.args.m.now in
    let mid = c.either.new.m in
    let p = both_on old mid f c.args.first.odd c.args.first.even c.in_ok-odd.ensures.kept hf in
    let q = both_on old mid g c.args.second.odd c.args.second.even c.in_ok-odd.ensures.kept hg in
    exclusive_both mid c.either-2.new.m f g c.in_ok-odd.odd c.in_ok-even.even c.in_ok-even.ensures.kept
    (c.in_ok-odd.ensures.ok f (λ s. not (g s)) (λ s. not (f s)) g hf.one hg.other hf.other hg.one)
    (c.in_ok-even.ensures.ok f g (λ s. not (f s)) (λ s. not (g s)) p.one q.one p.other q.other)
