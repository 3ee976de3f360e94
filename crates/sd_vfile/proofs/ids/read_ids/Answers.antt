use Rattle.std.proofs.Common.{arith}
use Rattle.sd_model.specs.Seen.{tree_of}
use Rattle.sd_vfile.specs.Steps.{entries_of}
use Rattle.sd_vfile.proofs.IdsRead.{is_read, ids_are, has_places, are_positions}
use Rattle.sd_vfile.proofs.Places.{well_formed_below}
use Rattle.sd_vfile.proofs.ids.read_ids.Goals as goal

-- the tree is a vtree over the variables asked for
pub places_of-requires-clause-vtree : goal.places_of-requires-clause-vtree
places_of-requires-clause-vtree c =
    (is_read c.args.variables c.args.bytes.now (tree_of c.in_ok-whole.whole.tree)
    (entries_of c.in_ok-whole.whole.forms.items) c.in_ok-whole.ensures.tree c.in_ok-whole.ensures.lines).over.vtree

pub places_of-requires-clause-within_limit : goal.places_of-requires-clause-within_limit
places_of-requires-clause-within_limit c =
    let known = is_read c.args.variables c.args.bytes.now (tree_of c.in_ok-whole.whole.tree)
    (entries_of c.in_ok-whole.whole.forms.items) c.in_ok-whole.ensures.tree c.in_ok-whole.ensures.lines in
    omega (arith, known.over.count, c.requires.within_limit)

-- the lines that were read are known
pub places_of-requires-clause-well_formed : goal.places_of-requires-clause-well_formed
places_of-requires-clause-well_formed c =
    let nodes = entries_of c.in_ok-whole.whole.forms.items in
    let known = is_read c.args.variables c.args.bytes.now (tree_of c.in_ok-whole.whole.tree) nodes
    c.in_ok-whole.ensures.tree c.in_ok-whole.ensures.lines in
    rw c.deref.ensures.value
    (well_formed_below c.args.variables 1024 nodes c.requires.within_limit known.rooted.read.well_formed)

pub places_of-requires-clause-parts : goal.places_of-requires-clause-parts
places_of-requires-clause-parts c =
    let known = is_read c.args.variables c.args.bytes.now (tree_of c.in_ok-whole.whole.tree)
    (entries_of c.in_ok-whole.whole.forms.items) c.in_ok-whole.ensures.tree c.in_ok-whole.ensures.lines in
    rw c.deref.ensures.value known.parts

-- the map is that of the text
pub returns-clause-ok : goal.returns-clause-ok
returns-clause-ok c =
    ids_are c.args.variables c.args.bytes.now (tree_of c.in_ok-whole.whole.tree)
    (entries_of c.in_ok-whole.whole.forms.items) c.in_ok-places.places c.in_ok-whole.ensures.tree
    c.in_ok-whole.ensures.lines (rw (← c.deref.ensures.value) c.in_ok-places.ensures)

pub returns-clause-places : goal.returns-clause-places
returns-clause-places c =
    has_places c.args.variables c.args.bytes.now (tree_of c.in_ok-whole.whole.tree)
    (entries_of c.in_ok-whole.whole.forms.items) c.in_ok-places.places c.in_ok-whole.ensures.tree
    c.in_ok-whole.ensures.lines (rw (← c.deref.ensures.value) c.in_ok-places.ensures)

pub returns-clause-positions : goal.returns-clause-positions
returns-clause-positions c =
    are_positions c.args.variables c.args.bytes.now _
    (has_places c.args.variables c.args.bytes.now (tree_of c.in_ok-whole.whole.tree)
    (entries_of c.in_ok-whole.whole.forms.items) c.in_ok-places.places c.in_ok-whole.ensures.tree
    c.in_ok-whole.ensures.lines (rw (← c.deref.ensures.value) c.in_ok-places.ensures))
