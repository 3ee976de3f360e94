use Rattle.sd_vtree.proofs.Between.{lowest_at}
use Rattle.sd_vtree.proofs.vtree.Vtree.lca_between.Goals as goal

pub returns-then-here-high : goal.returns-then-here-high
returns-then-here-high c = λ a b f g u w.
    lowest_at c.args.self.now c.position-here.ensures.numbered a b c.args.at c.args.low c.args.high
    c.position-here.result f g c.position-here.ensures.position c.if-low-here.true c.if-here-high.true u w
