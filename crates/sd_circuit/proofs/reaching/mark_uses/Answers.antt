use Rattle.std.proofs.Common.{◌≡◌, ◌/◌, get_or, sym, ◌∙◌, ap, subst}
use Rattle.sd_model.specs.Circuit.{AndLine}
use Rattle.sd_circuit.specs.Order.{line_at, variable_of}
use Rattle.sd_circuit.specs.Reaching.{AreReached, AddsTo, AreUsesMarked, Marks}
use Rattle.sd_circuit.proofs.Paths.{line_is}
use Rattle.sd_circuit.proofs.Reached.{both_marked}
use Rattle.sd_circuit.proofs.reaching.mark_uses.Goals as goal
use Rattle.sd_circuit.proofs.reaching.mark_uses.Goals.{In_ok-mark-2}

-- what both marks do together
both : (c : In_ok-mark-2) → AreReached c.args.ands.now c.args.source c.mark-2.new.queue.items c.mark-2.new.marks
    × AddsTo c.args.queue.now.items c.mark-2.new.queue.items c.args.marks.now c.mark-2.new.marks
    × AreUsesMarked c.args.ands.now c.mark-2.new.marks c.args.line
both c =
    let is : line_at c.args.ands.now c.args.line ≡ c.index-ands-line.result =
    line_is c.args.ands.now c.args.line c.index-ands-line.result c.requires.inside c.index-ands-line.is in
    let first : c.and.inside.first / 2 ≡ variable_of (line_at c.args.ands.now c.args.line).first =
    ap (λ (l : AndLine). l.first / 2) (c.and.view_is ∙ sym is) in
    let second : c.and.inside.second / 2 ≡ variable_of (line_at c.args.ands.now c.args.line).second =
    ap (λ (l : AndLine). l.second / 2) (c.and.view_is ∙ sym is) in
    both_marked c.requires.lines.0 c.args.ands.now c.args.definers.now c.args.source c.args.line c.args.queue.now.items
    c.mark.new.queue.items c.mark-2.new.queue.items c.args.marks.now c.mark.new.marks c.mark-2.new.marks
    c.requires.lines.1 c.requires.lines.2 c.requires.inside c.requires.state c.requires.in_time
    (subst (λ v. Marks (get_or c.args.definers.now v 0) c.args.queue.now.items c.mark.new.queue.items c.args.marks.now
    c.mark.new.marks) first c.in_ok-mark.ensures)
    (subst (λ v. Marks (get_or c.args.definers.now v 0) c.mark.new.queue.items c.mark-2.new.queue.items c.mark.new.marks
    c.mark-2.new.marks) second c.in_ok-mark-2.ensures)

pub returns-clause-state : goal.returns-clause-state
returns-clause-state c = (both c).0

pub returns-clause-added : goal.returns-clause-added
returns-clause-added c = (both c).1

pub returns-clause-marked : goal.returns-clause-marked
returns-clause-marked c = (both c).2
