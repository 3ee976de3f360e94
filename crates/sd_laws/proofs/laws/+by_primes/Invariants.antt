use Rattle.std.proofs.Common.{drop}
use Rattle.sd_model.specs.Diagram.{some_element}
use Rattle.sd_model.specs.Seen.{elements_of}
use Rattle.sd_laws.proofs.OneWay.{AreLeft}
use Rattle.sd_laws.proofs.laws.+by_primes.Given as goal

-- no element so far has a true prime
abbrev pub invariant-value_of_chosen-loop-element : goal.invariant-value_of_chosen-loop-element
invariant-value_of_chosen-loop-element l =
    AreLeft l.assignment (some_element (elements_of l.elements) l.assignment)
    (elements_of (drop l.element-index l.elements))
