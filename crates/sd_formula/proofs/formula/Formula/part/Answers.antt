use Rattle.std.proofs.Common.{◌≡◌, length, map, slice_range, ap, ◌∙◌, arith, ◌++◌, List, ℤ}
use Rattle.sd_formula.specs.Flat.{start_at, end_without}
use Rattle.sd_formula.specs.Dimacs.{Groups}
use Rattle.sd_formula.specs.Formulas.{groups_part}
use Rattle.sd_formula.proofs.FlatLaws.{length_cut}
use Rattle.sd_formula.proofs.Cutting.{cut_out, part_made}
use Rattle.sd_formula.proofs.formula.Formula.part.Goals as goal

pub literals_between-part-requires-clause-within : goal.literals_between-part-requires-clause-within
literals_between-part-requires-clause-within c =
    let count = length_cut 0 c.self.inside.ends.items c.self.inside.literals.items in
    let same = ap (λ (f : Groups). length f.groups) c.self.view_is in
    omega (arith, count, same, ap length c.deref-2.ensures.value, c.requires.within)

pub start_of-before-requires : goal.start_of-before-requires
start_of-before-requires c =
    let count = length_cut 0 c.self.inside.ends.items c.self.inside.literals.items in
    let same = ap (λ (f : Groups). length f.groups) c.self.view_is in
    omega (arith, count, same, ap length c.deref-3.ensures.value, c.requires.within, c.requires.order)

pub slice_bounds-ends_without-end : goal.slice_bounds-ends_without-end
slice_bounds-ends_without-end c =
    let count = length_cut 0 c.self.inside.ends.items c.self.inside.literals.items in
    let same = ap (λ (f : Groups). length f.groups) c.self.view_is in
    omega (arith, count, same, ap length c.deref-4.ensures.value, c.requires.within)

-- all of them end behind where they begin
pub ends_without-requires : goal.ends_without-requires
ends_without-requires c =
    let out = cut_out c.self.inside.literals.items c.self.inside.ends.items c.args.from c.args.to
    c.self.invariant.0 c.requires.order in
    rw (c.start_of-before.ensures, c.deref-3.ensures.value, c.deref-4.ensures.value) out.behind

-- the literals and the ends are those of the part
pub invariant_of-result : goal.invariant_of-result
invariant_of-result c =
    let zs = c.self.inside.literals.items in
    let ends = c.self.inside.ends.items in
    let cut : c.literals_between-part.result.now
    ≡ slice_range zs (start_at 0 ends c.args.from) (start_at 0 ends c.args.to) =
    rw (c.deref.ensures.value, c.deref-2.ensures.value) at c.literals_between-part.ensures in
    let literals : c.extend_from_slice.new.self.items
    ≡ slice_range zs (start_at 0 ends c.args.from) (start_at 0 ends c.args.to) =
    c.in_ok-extend_from_slice.ensures.items
    ∙ ap (λ (l : List ℤ). l ++ c.literals_between-part.result.now) c.in_ok-literals.ensures.items ∙ cut in
    let moved : c.in_ok-ends.ends.items
    ≡ map (end_without (start_at 0 ends c.args.from)) (slice_range ends c.args.from c.args.to) =
    rw (c.start_of-before.ensures, c.deref-3.ensures.value, c.deref-4.ensures.value) at c.in_ok-ends.ensures in
    let made = part_made c.self.inside.kind c.self.inside.variables zs _ ends _ c.args.from c.args.to
    c.self.invariant.0 c.self.invariant.1 c.requires.order literals moved in
    (made.rise, made.formula)

pub returns : goal.returns
returns c =
    let zs = c.self.inside.literals.items in
    let ends = c.self.inside.ends.items in
    let cut : c.literals_between-part.result.now
    ≡ slice_range zs (start_at 0 ends c.args.from) (start_at 0 ends c.args.to) =
    rw (c.deref.ensures.value, c.deref-2.ensures.value) at c.literals_between-part.ensures in
    let literals : c.extend_from_slice.new.self.items
    ≡ slice_range zs (start_at 0 ends c.args.from) (start_at 0 ends c.args.to) =
    c.in_ok-extend_from_slice.ensures.items
    ∙ ap (λ (l : List ℤ). l ++ c.literals_between-part.result.now) c.in_ok-literals.ensures.items ∙ cut in
    let moved : c.in_ok-ends.ends.items
    ≡ map (end_without (start_at 0 ends c.args.from)) (slice_range ends c.args.from c.args.to) =
    rw (c.start_of-before.ensures, c.deref-3.ensures.value, c.deref-4.ensures.value) at c.in_ok-ends.ensures in
    let made = part_made c.self.inside.kind c.self.inside.variables zs _ ends _ c.args.from c.args.to
    c.self.invariant.0 c.self.invariant.1 c.requires.order literals moved in
    made.is ∙ ap (λ (f : Groups). groups_part f c.args.from c.args.to) c.self.view_is
