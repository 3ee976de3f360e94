use Rattle.std.proofs.Common.{arith}
use Rattle.sd_formula.proofs.FlatLaws.{part_at}
use Rattle.sd_formula.proofs.flat.group_between.Goals as goal

pub offset_bounds-literals-start_of : goal.offset_bounds-literals-start_of
offset_bounds-literals-start_of c =
    let part = part_at 0 c.args.index c.args.ends.now c.args.literals.now c.requires.rise c.requires.below in
    omega (arith, part.order, part.within, c.start_of.ensures)

pub slice_bounds-result-count : goal.slice_bounds-result-count
slice_bounds-result-count c =
    let part = part_at 0 c.args.index c.args.ends.now c.args.literals.now c.requires.rise c.requires.below in
    omega (arith, part.order, c.start_of.ensures)

pub slice_bounds-result-start : goal.slice_bounds-result-start
slice_bounds-result-start c =
    let part = part_at 0 c.args.index c.args.ends.now c.args.literals.now c.requires.rise c.requires.below in
    omega (arith, part.order, c.start_of.ensures)

pub slice_bounds-result-end : goal.slice_bounds-result-end
slice_bounds-result-end c =
    let part = part_at 0 c.args.index c.args.ends.now c.args.literals.now c.requires.rise c.requires.below in
    omega (arith, part.within)

-- the group is the part between its start and its end
pub returns : goal.returns
returns c =
    let part = part_at 0 c.args.index c.args.ends.now c.args.literals.now c.requires.rise c.requires.below in
    rw c.start_of.ensures part.is
