use Rattle.std.proofs.Common.{◌∙◌, ◌&&◌, List, Bool, not, ap}
use Rattle.std.specs.Prelude.{position}
use Rattle.sd_model.specs.Circuit.{AndLine}
use Rattle.sd_aiger.specs.Steps.{header_view, body_view, is_known}
use Rattle.sd_aiger.proofs.Marks.{unknown_ands}
use Rattle.sd_aiger.proofs.uses.undefined_and.Goals as goal

-- a right side has no mark where it is not defined
pub returns-clause-value : goal.returns-clause-value
returns-clause-value c =
    let marks = c.args.body.now.marks.items in
    let first = λ (m : List Bool) (xs : List AndLine).
    position (λ line. not (is_known m line.first && is_known m line.second)) xs in
    c.unknown_and.ensures.value
    ∙ ap (λ m. first m c.deref-2.result.now) c.deref.ensures.value
    ∙ ap (first marks) c.deref-2.ensures.value
    ∙ unknown_ands (header_view c.args.header.now) (body_view c.args.body.now) marks c.requires.read
    c.requires.marked
