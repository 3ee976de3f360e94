use Rattle.std.proofs.Common.{◌≡◌, ◌++◌, subst, length}
use Rattle.sd_model.specs.Seen.{tree_of}
use Rattle.sd_vtree.specs.Numbered.{plain_tree}
use Rattle.sd_check.specs.Forks.{forks_from}
use Rattle.sd_check.proofs.ForkTables.{forks_all}
use Rattle.sd_check.proofs.forks.forks_of.Goals as goal

pub returns : goal.returns
returns c =
    forks_all (plain_tree c.args.vtree.now) (tree_of c.in_ok-tree.tree) _ c.in_ok-tree.ensures.tree
    (subst (λ xs. c.push_forks.new.forks.items ≡ xs ++ forks_from (tree_of c.in_ok-tree.tree) (length xs))
    c.new-forks.ensures.items c.in_ok-push_forks.ensures)
