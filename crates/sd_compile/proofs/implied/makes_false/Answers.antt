use Rattle.std.proofs.Common.{ap, sym, ◌∙◌, w32}
use Rattle.std.specs.Prelude.{unsigned_abs}
use Rattle.std.proofs.lemmas.Bool.{eqb-true}
use Rattle.std.proofs.lemmas.Int.{to_z-of_z}
use mir.Val.{of_z}
use Rattle.sd_compile.proofs.Implying.{other_false, same_false}
use Rattle.sd_compile.proofs.implied.makes_false.Goals as goal

pub returns-then-other-literal : goal.returns-then-other-literal
returns-then-other-literal c =
    same_false c.args.other c.args.literal c.args.holds c.ranges.other c.ranges.literal c.if-other-literal.true

pub returns-then-holds : goal.returns-then-holds
returns-then-holds c = λ yes a h.
    let one = c.unsigned_abs.ensures.value ∙ ap unsigned_abs (to_z-of_z w32 c.args.other c.ranges.other) in
    let two =
    c.unsigned_abs-then-holds.ensures.value ∙ ap unsigned_abs (to_z-of_z w32 c.args.literal c.ranges.literal) in
    other_false c.args.other c.args.literal (λ e. c.if-other-literal.false (ap (of_z w32) e))
    (sym one ∙ eqb-true c.unsigned_abs.result c.unsigned_abs-then-holds.result yes ∙ two) a (h ∙ c.if-holds.true)
