use Rattle.std.proofs.Common.{◌≡◌, true, subst, arith}
use Rattle.sd_circuit.specs.Ranks.{NeverRise, FallBefore}
use Rattle.sd_circuit.proofs.Falling.{none_before}
use Rattle.sd_circuit.proofs.cycles.first_by_ranks.Goals as goal

pub returns : goal.returns
returns c =
    let lies : c.in_ok-lies_on_cycle.field-0 ≡ true = grind arith in
    let never : c.never_rise.result ≡ true = grind arith in
    record {
      first = (
        c.in-Some.ensures.inside,
        c.in_ok-lies_on_cycle.ensures.yes lies,
        none_before c.args.ands.now c.in_ok-ranks.ranks.items c.in-Some.line
            (subst (λ r. NeverRise c.args.ands.now r) c.deref.ensures.value (c.never_rise.ensures never))
            (subst (λ r. FallBefore c.args.ands.now r c.in-Some.line) c.deref-2.ensures.value c.in-Some.ensures.before)
            c.in-Some.ensures.inside,
      );
    }
