use Rattle.std.proofs.Common.{◌&&◌, ◌||◌}
use Rattle.std.proofs.lemmas.Result.{IfOk-weaker}
use Rattle.sd_model.specs.declared.trees.Operation.TheVariants.{And, Or}
use Rattle.sd_apply.specs.Answers.{HasAnswer, Combines}
use Rattle.sd_apply.proofs.Opposite.{combined_node_of, node_of_on}
use Rattle.sd_compile.proofs.Parities.{one_of_both}
use Rattle.sd_compile.proofs.parity.either.Goals as goal

pub and-requires-2-clause-first : goal.and-requires-2-clause-first
and-requires-2-clause-first c =
    node_of_on c.args.m.now c.and.new.m c.in_ok-one.ensures.kept c.args.d c.requires.d

pub and-requires-2-clause-second : goal.and-requires-2-clause-second
and-requires-2-clause-second c =
    node_of_on c.args.m.now c.and.new.m c.in_ok-one.ensures.kept c.args.e c.requires.e

pub or-requires-clause-first : goal.or-requires-clause-first
or-requires-clause-first c =
    node_of_on c.and.new.m c.and-2.new.m c.in_ok-other.ensures.kept c.in_ok-one.one
    (combined_node_of c.args.m.now c.and.new.m And c.args.a c.args.b c.in_ok-one.one c.in_ok-one.ensures.ok
    c.requires.a c.requires.b)

pub or-requires-clause-second : goal.or-requires-clause-second
or-requires-clause-second c =
    combined_node_of c.and.new.m c.and-2.new.m And c.args.d c.args.e c.in_ok-other.other c.in_ok-other.ensures.ok
    (node_of_on c.args.m.now c.and.new.m c.in_ok-one.ensures.kept c.args.d c.requires.d)
    (node_of_on c.args.m.now c.and.new.m c.in_ok-one.ensures.kept c.args.e c.requires.e)

pub returns-clause-ok : goal.returns-clause-ok
returns-clause-ok c = λ p q r s hp hq hr hs.
    IfOk-weaker c.or.result (λ n. Combines c.and-2.new.m c.or.new.m Or c.in_ok-one.one c.in_ok-other.other n)
    (λ n. HasAnswer c.or.new.m (λ g. (p g && q g) || (r g && s g)) n)
    (λ n both. one_of_both c.args.m.now c.and.new.m c.and-2.new.m c.or.new.m p q r s c.args.a c.args.b c.args.d
    c.args.e c.in_ok-one.one c.in_ok-other.other n c.in_ok-one.ensures.kept c.in_ok-other.ensures.kept hp hq hr hs
    c.in_ok-one.ensures.ok c.in_ok-other.ensures.ok both) c.or.ensures.ok
