use Rattle.std.proofs.Common.{◌∙◌, ap, arith}
use Rattle.sd_model.specs.Tree.{leaves}
use Rattle.sd_vtree.specs.Numbered.{plain_tree}
use Rattle.sd_vtree.proofs.Building.{leaves_positive}
use Rattle.sd_vfile.specs.Reads.{vtree_file}
use Rattle.sd_vfile.proofs.Back.{read_back}
use Rattle.sd_vfile.proofs.Writing.{whole_text}
use Rattle.sd_vfile.proofs.writer.write_vtree.Goals as goal

-- a vtree has a leaf
pub overflow_sub-variables : goal.overflow_sub-variables
overflow_sub-variables c =
    omega (arith, c.variables.ensures.count, leaves_positive (plain_tree c.args.vtree.now))

-- the pieces make the text
pub returns-clause-text : goal.returns-clause-text
returns-clause-text c =
    rw (
      c.new.ensures,
      c.in_ok-_root.ensures.text,
      c.in_ok-push_feed.ensures,
      c.in_ok-push_number.ensures,
      c.in_ok-text.ensures.items,
      c.variables.ensures.count,
      c.in_ok-tree.ensures.tree,
    )
    (whole_text (plain_tree c.args.vtree.now))

-- and the text is read back
pub returns-clause-read_back : goal.returns-clause-read_back
returns-clause-read_back c =
    let tree = plain_tree c.args.vtree.now in
    let valid = c.variables.ensures.numbered in
    ap (vtree_file (leaves tree)) (returns-clause-text c) ∙ read_back tree valid.vtree valid.within_limit
