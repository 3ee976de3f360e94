use Rattle.std.proofs.Common.{ap, arith}
use Rattle.sd_model.specs.Tree.{leaves}
use Rattle.sd_vtree.specs.Numbered.{plain_tree}
use Rattle.sd_search.proofs.WalksInARow.{some_leaf}
use Rattle.sd_search.proofs.searching.inner_nodes.Goals as goal

pub overflow_sub-result : goal.overflow_sub-result
overflow_sub-result c =
    omega (arith, c.variables.ensures.count, some_leaf (plain_tree c.vtree.result.now))

pub returns-clause-count : goal.returns-clause-count
returns-clause-count c =
    omega (
      arith,
      c.variables.ensures.count,
      some_leaf (plain_tree c.vtree.result.now),
      ap (λ v. leaves (plain_tree v)) c.vtree.ensures.vtree,
    )
