use Rattle.std.proofs.Common.{◌∙◌, sym, subst, eqb-true}
use Rattle.sd_check.specs.Unions.{CountsTo}
use Rattle.sd_check.proofs.Unions.{opposite_counts, two_primes}
use Rattle.sd_check.proofs.primes.are_opposite.Goals as goal

-- the negation is the other prime
pub returns-clause-ok : goal.returns-clause-ok
returns-clause-ok c same n h =
    opposite_counts _ _ _ _ _ n c.in_ok-negation.ensures.table c.in_ok-negation.ensures.kept
    c.in_ok-negation.ensures.ok (sym c.negation.view_is ∙ eqb-true _ _ same ∙ c.other.view_is)
    (subst (CountsTo _ n) (two_primes _ _ _ c.if-elements-ne2.false) h)
