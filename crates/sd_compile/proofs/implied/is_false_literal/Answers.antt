use Rattle.std.proofs.Common.{get_or, ap, sym, ◌∙◌, rules, w32, arith}
use Rattle.std.specs.Prelude.{pos}
use Rattle.std.proofs.lemmas.Int.{to_z-of_z}
use Rattle.std.proofs.lemmas.Option.{slice_get-get_or}
use mir.Val.{SFits}
use Rattle.sd_model.specs.Assignment.{literal_holds}
use Rattle.sd_compile.proofs.implied.is_false_literal.Goals as goal

pub returns-then-makes_false : goal.returns-then-makes_false
returns-then-makes_false c =
    let e = get_or c.args.literals.now c.loop-index.index (0, pos 0) in
    let range : SFits w32 e.1 = search rules in
    λ _ a all.
    ap (literal_holds a) (sym (to_z-of_z w32 c.args.literal c.ranges.literal))
    ∙ c.makes_false.ensures c.if-makes_false.true a
    (ap (literal_holds a) (to_z-of_z w32 e.1 range)
    ∙ all.each c.loop-index.index e
    (slice_get-get_or c.args.literals.now c.loop-index.index (0, pos 0)
    (omega (arith, c.loop-index-test.true, c.requires))))
