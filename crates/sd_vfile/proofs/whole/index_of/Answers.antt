use Rattle.std.proofs.Common.{◌≡◌, ◌<◌, ◌+◌, ◌==◌, true, false, length, get_or, refl, sym, ◌∙◌, eq-eqb, ne_eqb, arith}
use Rattle.sd_vfile.specs.Steps.{entries_of, no_entry}
use Rattle.sd_vfile.proofs.Places.{length_entries_of, line_id, more_lines, here_found, later_found}
use Rattle.sd_vfile.proofs.whole.index_of.Goals as goal

pub loop-index-init : goal.loop-index-init
loop-index-init c =
    let nodes = entries_of c.args.forms.now in
    let within = more_lines c.args.id 0 nodes c.requires in
    record { within = omega (arith, within, length_entries_of c.args.forms.now); there = c.requires; same = refl }

-- the line in hand has another id
pub loop-index-preserved : goal.loop-index-preserved
loop-index-preserved c =
    let nodes = entries_of c.args.forms.now in
    let index = c.loop-index.index in
    let within : index < length nodes =
    omega (arith, length_entries_of c.args.forms.now, c.loop-index.invariant.within) in
    let is : (get_or nodes index no_entry).id ≡ c.id.result =
    line_id c.args.forms.now index _ c.loop-index.invariant.within ∙ sym c.id.ensures in
    let other : (c.id.result == c.args.id) ≡ false =
    ne_eqb c.id.result c.args.id c.loop-index-test.true in
    let later = later_found c.args.id index nodes within (rw is other) c.loop-index.invariant.there in
    let further = more_lines c.args.id (index + 1) nodes later.0 in
    record {
      within = omega (arith, further, length_entries_of c.args.forms.now);
      there = later.0;
      same = later.1 ∙ c.loop-index.invariant.same;
    }

-- the line in hand has the id
pub returns-clause-tree : goal.returns-clause-tree
returns-clause-tree c =
    let nodes = entries_of c.args.forms.now in
    let index = c.loop-index.index in
    let within : index < length nodes =
    omega (arith, length_entries_of c.args.forms.now, c.loop-index.invariant.within) in
    let is : (get_or nodes index no_entry).id ≡ c.id.result =
    line_id c.args.forms.now index _ c.loop-index.invariant.within ∙ sym c.id.ensures in
    let found : (c.id.result == c.args.id) ≡ true =
    eq-eqb c.id.result c.args.id c.loop-index-test.false in
    sym (here_found c.args.id index nodes within (rw is found)) ∙ c.loop-index.invariant.same
