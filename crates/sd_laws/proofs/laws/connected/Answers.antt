use Rattle.sd_laws.proofs.Products.{products_value, negated_value}
use Rattle.sd_laws.proofs.laws.connected.Goals as goal

pub returns-clause-products : goal.returns-clause-products
returns-clause-products c op ds fs gs f g h k e = products_value op ds fs gs f g h k e

pub returns-clause-negated : goal.returns-clause-negated
returns-clause-negated c ds gs f h e = negated_value ds gs f h e
