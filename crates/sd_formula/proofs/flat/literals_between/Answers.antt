use Rattle.std.proofs.Common.{arith}
use Rattle.sd_formula.proofs.Cutting.{cut_out}
use Rattle.sd_formula.proofs.flat.literals_between.Goals as goal

pub offset_bounds-literals-start_of : goal.offset_bounds-literals-start_of
offset_bounds-literals-start_of c =
    let part = cut_out c.args.literals.now c.args.ends.now c.args.from c.args.to c.requires.rise c.requires.order in
    omega (arith, part.order, part.within, c.start_of.ensures)

pub slice_bounds-result-count : goal.slice_bounds-result-count
slice_bounds-result-count c =
    let part = cut_out c.args.literals.now c.args.ends.now c.args.from c.args.to c.requires.rise c.requires.order in
    omega (arith, part.order, c.start_of.ensures, c.start_of-2.ensures)

pub slice_bounds-result-start : goal.slice_bounds-result-start
slice_bounds-result-start c =
    let part = cut_out c.args.literals.now c.args.ends.now c.args.from c.args.to c.requires.rise c.requires.order in
    omega (arith, part.order, c.start_of.ensures, c.start_of-2.ensures)

pub slice_bounds-result-end : goal.slice_bounds-result-end
slice_bounds-result-end c =
    let part = cut_out c.args.literals.now c.args.ends.now c.args.from c.args.to c.requires.rise c.requires.order in
    omega (arith, part.order, part.within, c.start_of.ensures, c.start_of-2.ensures)
