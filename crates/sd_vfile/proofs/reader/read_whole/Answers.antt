use Rattle.std.proofs.Common.{◌≡◌, ◌∷◌, Some, Ok, rules, arith}
use Rattle.std.proofs.lemmas.Grind.{common_steps}
use Rattle.sd_base.specs.Lines.{content_of}
use Rattle.sd_base.specs.Views.{content_left, line_view}
use Rattle.sd_model.specs.Seen.{tree_of}
use Rattle.sd_vfile.specs.Steps.{stated_by, whole_tree}
use Rattle.sd_vfile.specs.Steps.{entries_of}
use Rattle.sd_vfile.proofs.Accepted.{lines_read}
use Rattle.sd_vfile.proofs.ByLines.{lines_are}
use Rattle.sd_vfile.proofs.Places.{well_formed_below}
use Rattle.sd_vfile.proofs.reader.read_whole.Goals as goal

-- the lines that were read are known
pub whole_tree-requires-clause-well_formed : goal.whole_tree-requires-clause-well_formed
whole_tree-requires-clause-well_formed c =
    let nodes = entries_of c.in_ok-forms.forms.items in
    let read = lines_read c.args.variables (content_left c.next.new.self) nodes c.in_ok-forms.ensures in
    rw c.deref.ensures.value (well_formed_below c.args.variables 1024 nodes c.requires.within_limit read.well_formed)

-- the node lines are those of the text
pub returns-clause-lines : goal.returns-clause-lines
returns-clause-lines c =
    let content : content_of 99 c.args.bytes.now ≡ line_view c.in-Some.header ∷ content_left c.next.new.self =
    first_of (search rules, grind (arith, common_steps)) in
    let has : stated_by (line_view c.in-Some.header).words ≡ Some c.in-Some-stated_by.stated =
    first_of (search rules, grind (arith, common_steps)) in
    let whole : whole_tree c.args.variables c.in-Some-stated_by.stated (entries_of c.in_ok-forms.forms.items)
    ≡ Ok (tree_of c.in_ok-tree.tree) =
    rw (← c.deref.ensures.value) c.in_ok-tree.ensures in
    lines_are c.args.variables c.args.bytes.now (line_view c.in-Some.header) (content_left c.next.new.self)
    c.in-Some-stated_by.stated (entries_of c.in_ok-forms.forms.items) (tree_of c.in_ok-tree.tree)
    content has c.in_ok-forms.ensures whole
