use Rattle.std.proofs.Common.{ap, arith, ◌∙◌, []}
use Rattle.std.specs.List.{flat_map}
use Rattle.sd_model.specs.Listing.{add}
use Rattle.sd_model.specs.Size.{walk}
use Rattle.sd_model.specs.Tree.{leaves}
use Rattle.sd_vtree.specs.Numbered.{plain_tree}
use Rattle.sd_file.proofs.Added.{whole_text, none_written}
use Rattle.sd_file.proofs.FewNodes.{written_reads_back}
use Rattle.sd_file.proofs.Roots.{roots_walkable, shown_diagrams, roots_numbered, roots_complete, naming_complete}
use Rattle.sd_file.proofs.writer.write_nodes.Goals as goal

-- the walk may begin at each node
pub add_roots-requires-clause-shown : goal.add_roots-requires-clause-shown
add_roots-requires-clause-shown c =
    roots_walkable c.args.m.now _ c.variables.result c.args.nodes.now
    (omega (arith, c.variables.ensures.count, ap (λ t. leaves (plain_tree t)) c.vtree.ensures.vtree)) c.requires.shown
    c.in_ok-ordered.ensures

-- each node has its number afterwards
pub push_naming-requires : goal.push_naming-requires
push_naming-requires c =
    let s = shown_diagrams c.args.m.now c.args.nodes.now c.requires.shown in
    let w = c.in_ok-add_roots.ensures s.0 [] s.1
    (none_written c.args.m.now c.new-listing.result c.new-listing.ensures.marks c.new-listing.ensures.count
    c.new-listing.ensures.text) in
    roots_numbered c.args.m.now c.add_roots.new.listing.numbers (add [] (flat_map walk s.0)) w.numbered
    c.args.nodes.now s.0 s.1 (roots_complete s.0)

-- the header, the lines and those that name the roots make the text
pub returns-clause-text : goal.returns-clause-text
returns-clause-text c = λ ds shown.
    let w = c.in_ok-add_roots.ensures ds [] shown
    (none_written c.args.m.now c.new-listing.result c.new-listing.ensures.marks c.new-listing.ensures.count
    c.new-listing.ensures.text) in
    c.new.ensures ∙ c.in_ok-push_naming.ensures
    ∙ rw (
      c.in_ok-extend_from_slice.ensures.items,
      c.in_ok-text.ensures,
      c.deref.ensures.value,
      c.count.ensures,
      naming_complete c.args.m.now c.add_roots.new.listing.numbers c.args.nodes.now ds w.numbered shown,
    ) (whole_text c.args.m.now c.add_roots.new.listing ds w)

-- and the text is read back
pub returns-clause-read_back : goal.returns-clause-read_back
returns-clause-read_back c =
    written_reads_back c.args.m.now c.args.nodes.now _ c.vtree.ensures.table (returns-clause-text c)
