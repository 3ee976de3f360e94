-- The start tree of a run is a vtree over the variables of its formula.
use Rattle.std.proofs.Common.{ℕ, ◌≤◌, sym, subst}
use Rattle.sd_base.specs.Files.{Files}
use Rattle.sd_model.specs.Tree.{Tree}
use Rattle.sd_vfile.proofs.Accepted.{IsVtreeOver, accepted}
use Rattle.sd_words.specs.declared.jobs.TreeWord.{TreeWord}
use Rattle.sd_words.specs.declared.jobs.TreeWord.TheVariants as trees
use Rattle.sd_tool.specs.Written.{IsStartTree}
use Rattle.sd_tool.proofs.StartTrees.{balanced_fits, right_fits, left_fits}

pub start_tree_fits : (files : Files) (word : TreeWord) (v : ℕ) (tree : Tree) → 1 ≤ v
    → IsStartTree files word v tree → IsVtreeOver v tree
start_tree_fits files trees.Balanced v tree some is = subst (IsVtreeOver v) (sym is) (balanced_fits v some)
start_tree_fits files trees.Right v tree some is = subst (IsVtreeOver v) (sym is) (right_fits v some)
start_tree_fits files trees.Left v tree some is = subst (IsVtreeOver v) (sym is) (left_fits v some)
start_tree_fits files (trees.File file) v tree some (bytes, there, short, reads) = accepted v bytes tree reads
