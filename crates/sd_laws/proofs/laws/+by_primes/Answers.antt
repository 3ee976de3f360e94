use Rattle.std.proofs.Common.{rules, sym, ◌∙◌, subst}
use Rattle.sd_model.specs.declared.diagrams.Diagram.{the_lemmas}
use Rattle.sd_model.proofs.SeenLemmas.{seen_in_range}
use Rattle.sd_laws.proofs.OneWay.{canonical_elements, at_index, AreLeft, first_prime, first_sub, first_value, rest_left}
use Rattle.sd_laws.proofs.laws.+by_primes.Goals as goal

-- the elements are smaller than the diagram, canonical, and have variables in range as it has
pub value_by_primes-value_of_chosen-requires : goal.value_by_primes-value_of_chosen-requires
value_by_primes-value_of_chosen-requires t c =
    let k = canonical_elements _ _ _ _ c.in-Decomposition.is c.deref.ensures.value c.requires.canonical
    c.args.assignment.now in (
      search (rules, the_lemmas),
      (k.0, (k.1, seen_in_range _ _ _ _ _ c.in-Decomposition.is c.deref.ensures.value c.requires.in_range)),
    )

-- the first of the elements that are left, and those behind it
pub value_of_chosen-value_by_primes-requires : goal.value_of_chosen-value_by_primes-requires
value_of_chosen-value_by_primes-requires t c =
    let e = at_index c.args.elements.now c.loop-element.element-index c.element-item.result c.loop-element-test.true
    c.element-item.is in (
      search (rules, the_lemmas),
      first_prime _ _ _ _ _ (subst (AreLeft _ _) e c.loop-element.invariant),
    )

pub value_of_chosen-value_by_primes-requires-then-value_by_primes :
    goal.value_of_chosen-value_by_primes-requires-then-value_by_primes
value_of_chosen-value_by_primes-requires-then-value_by_primes t c =
    let e = at_index c.args.elements.now c.loop-element.element-index c.element-item.result c.loop-element-test.true
    c.element-item.is in (
      search (rules, the_lemmas),
      first_sub _ _ _ _ _ (subst (AreLeft _ _) e c.loop-element.invariant),
    )

pub value_of_chosen-returns-then-value_by_primes : goal.value_of_chosen-returns-then-value_by_primes
value_of_chosen-returns-then-value_by_primes t c =
    let e = at_index c.args.elements.now c.loop-element.element-index c.element-item.result c.loop-element-test.true
    c.element-item.is in
    c.value_by_primes-then-value_by_primes.ensures
    ∙ first_value _ _ _ _ _ (subst (AreLeft _ _) e c.loop-element.invariant)
    (sym c.value_by_primes.ensures ∙ c.if-value_by_primes.true)

pub value_of_chosen-loop-element-preserved : goal.value_of_chosen-loop-element-preserved
value_of_chosen-loop-element-preserved t c =
    let e = at_index c.args.elements.now c.loop-element.element-index c.element-item.result c.loop-element-test.true
    c.element-item.is in
    rest_left _ _ _ _ _ (subst (AreLeft _ _) e c.loop-element.invariant)
    (sym c.value_by_primes.ensures ∙ c.if-value_by_primes.false)
