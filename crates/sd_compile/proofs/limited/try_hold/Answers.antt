use Rattle.std.proofs.Common.{◌∙◌, subst, sym}
use Rattle.sd_compile.specs.Total.{IsTotal}
use Rattle.sd_manager.proofs.Extending.{extends_self}
use Rattle.sd_apply.specs.Serving.{Serves}
use Rattle.sd_compile.specs.Total.{IsTotalWithin}
use Rattle.sd_compile.proofs.Kept.{tried_back, tried_held, tried_node, serves_rebound}
use Rattle.sd_compile.proofs.Totals.{total_over, total_within}
use Rattle.sd_compile.proofs.limited.try_hold.Goals as goal

pub rebind-requires-clause-root : goal.rebind-requires-clause-root
rebind-requires-clause-root c =
    tried_held c.args.m.now c.total_over.new.m c.args.root.now c.rebind-former.new.root c.args.node
    (c.total_over.ensures.same ∙ c.rebind-former.ensures.rebound) c.rebind-former.ensures.root

pub rebind-requires-clause-shown : goal.rebind-requires-clause-shown
rebind-requires-clause-shown c =
    tried_node c.args.m.now c.total_over.new.m c.args.root.now c.args.node c.rebind-former.result
    (c.total_over.ensures.same ∙ c.rebind-former.ensures.rebound)
    (c.vtree.ensures.table.held c.requires.no_move c.args.root.now c.rebind-former.result c.rebind-former.ensures.held)

pub returns-clause-some : goal.returns-clause-some
returns-clause-some c = (
  c.in-Some.ensures.some.0,
  subst (λ t. IsTotal t c.in-Some.size) c.rebind-former.ensures.rebound c.in-Some.ensures.some.1,
  tried_back c.args.m.now c.total_over.new.m c.rebind.new.self c.args.root.now c.rebind-former.new.root c.args.node
      c.rebind-former.result (c.total_over.ensures.same ∙ c.rebind-former.ensures.rebound) c.rebind-former.ensures.root
      c.rebind.ensures.rebound c.rebind-former.ensures.held,
)

-- ---- with the formula that the node shows

pub returns-in_default-clause-within : goal.returns-in_default-clause-within
returns-in_default-clause-within c f d is of =
    total_within c.args.m.now c.args.m.now c.args.root.now c.args.node f c.vtree.ensures.table c.requires.no_move
    (extends_self c.args.m.now) d is of c.args.limit
    (subst (λ t. IsTotalWithin t c.args.limit) c.rebind-former.ensures.rebound c.in_default.ensures.none)

pub returns-in_default-clause-serves : goal.returns-in_default-clause-serves
returns-in_default-clause-serves c cache was =
    serves_rebound cache c.args.m.now c.total_over.new.m c.args.root.now c.args.node
    (c.total_over.ensures.same ∙ c.rebind-former.ensures.rebound) was

pub returns-clause-over : goal.returns-clause-over
returns-clause-over c f d is of =
    total_over c.args.m.now c.args.m.now c.args.root.now c.args.node f c.vtree.ensures.table c.requires.no_move
    (extends_self c.args.m.now) d is of c.in-Some.size
    (subst (λ t. IsTotal t c.in-Some.size) c.rebind-former.ensures.rebound c.in-Some.ensures.some.1)

pub returns-clause-serves : goal.returns-clause-serves
returns-clause-serves c cache was =
    subst (Serves cache)
    (sym (tried_back c.args.m.now c.total_over.new.m c.rebind.new.self c.args.root.now c.rebind-former.new.root
    c.args.node c.rebind-former.result (c.total_over.ensures.same ∙ c.rebind-former.ensures.rebound)
    c.rebind-former.ensures.root c.rebind.ensures.rebound c.rebind-former.ensures.held)) was
