use Rattle.std.proofs.Common.{inl, inr, sym, subst}
use Rattle.std.proofs.lemmas.Bool.{cases_eq}
use Rattle.sd_check.specs.Unions.{AreNodes, CountsTo, TellsPrimes, TellsUnion}
use Rattle.sd_check.proofs.Unions.{nodes_on, counts_on, union_true, union_else}
use Rattle.sd_check.proofs.primes.prime_rule.Goals as goal

-- a prime and its negation
pub returns-then-branch-clause-ok : goal.returns-then-branch-clause-ok
returns-then-branch-clause-ok c = c.in_ok-are_opposite.ensures.ok c.if-branch.true

-- the primes are still nodes
pub joined-requires-clause-nodes : goal.joined-requires-clause-nodes
joined-requires-clause-nodes c =
    subst (AreNodes _) (sym c.in_ok-unions.ensures)
    (nodes_on _ _ c.in_ok-are_opposite.ensures.kept _ c.requires.nodes)

-- two that are true together
pub returns-in-None-clause-ok : goal.returns-in-None-clause-ok
returns-in-None-clause-ok c n h =
    subst (TellsUnion _ n) c.in-None.is
    (c.in_ok-joined.ensures.ok n
    (subst (CountsTo _ n) (sym c.in_ok-unions.ensures) (counts_on _ _ c.in_ok-are_opposite.ensures.kept n _ h)))

-- one union of all
pub returns-clause-ok : goal.returns-clause-ok
returns-clause-ok c n h =
    let one = subst (TellsUnion _ n) c.in-Some.is
    (c.in_ok-joined.ensures.ok n
    (subst (CountsTo _ n) (sym c.in_ok-unions.ensures) (counts_on _ _ c.in_ok-are_opposite.ensures.kept n _ h))) in
    elim (cases_eq c.in-Some.union 1) [
      | inl e ↦ subst (TellsPrimes n) (sym (c.cover_rule.ensures.covers e))
          (union_true _ _ n c.in_ok-joined.ensures.table e one)
      | inr ne ↦ subst (TellsPrimes n) (sym (c.cover_rule.ensures.else_not ne))
          (union_else _ _ n c.in_ok-joined.ensures.table ne one)
    ]
