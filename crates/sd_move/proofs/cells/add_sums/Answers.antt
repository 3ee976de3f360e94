use Rattle.std.proofs.Common.{refl, sym, subst}
use Rattle.sd_model.specs.Diagram.{meaning}
use Rattle.sd_apply.specs.Partitions.{IsPartitionOf}
use Rattle.sd_apply.specs.Places.{IsNodeUnder}
use Rattle.sd_apply.proofs.AtNode.{elements_of_on}
use Rattle.sd_move.proofs.Calls.{as_step, no_step, step_on}
use Rattle.sd_move.proofs.Cutting.{disjoint_on, sums_with_false}
use Rattle.sd_move.proofs.cells.add_sums.Goals as goal

pub multiply_at-requires-clause-first : goal.multiply_at-requires-clause-first
multiply_at-requires-clause-first c =
    disjoint_on c.args.m.now c.expand_at.new.m c.expand_at.ensures.kept c.args.place c.args.list.now c.requires.list

pub returns-clause-ok : goal.returns-clause-ok
returns-clause-ok c =
    let m = c.args.m.now in
    let n = c.expand_at.new.m in
    let p = c.args.place in
    let l = c.args.list.now in
    record {
      more = c.in_ok-joined.joined.items;
      added = c.in-Ok-append.ensures.ok;
      each = λ values d h node. c.in_ok-joined.ensures.ok.part values (meaning d)
          (elements_of_on m n c.expand_at.ensures.kept p l values h)
          (subst (λ q. IsPartitionOf n p q (meaning d)) (sym c.as_slice-sums.ensures)
          (c.in_ok-other.ensures.ok.each d node));
    }

pub returns-then-is_false-clause-ok : goal.returns-then-is_false-clause-ok
returns-then-is_false-clause-ok c =
    let m = c.args.m.now in
    let p = c.args.place in
    record {
      more = c.args.list.now;
      added = c.in-Ok.ensures.ok;
      each = λ values d h node. sums_with_false m c.requires.table p c.args.list.now values d h
          (subst (λ s. IsNodeUnder m p s d) (c.if-is_false.ensures.0 refl) node);
    }

pub returns-clause-step : goal.returns-clause-step
returns-clause-step c =
    let e = c.expand_at.ensures in
    let f = c.multiply_at.ensures in
    step_on (as_step e.kept e.grown e.knows e.table) (as_step f.kept f.grown f.knows f.table)

pub returns-in_err-joined-clause-step : goal.returns-in_err-joined-clause-step
returns-in_err-joined-clause-step c =
    let e = c.expand_at.ensures in
    let f = c.multiply_at.ensures in
    step_on (as_step e.kept e.grown e.knows e.table) (as_step f.kept f.grown f.knows f.table)

pub returns-in_default-append-clause-step : goal.returns-in_default-append-clause-step
returns-in_default-append-clause-step c =
    let e = c.expand_at.ensures in
    let f = c.multiply_at.ensures in
    step_on (as_step e.kept e.grown e.knows e.table) (as_step f.kept f.grown f.knows f.table)

pub returns-in_default-clause-step : goal.returns-in_default-clause-step
returns-in_default-clause-step c = no_step c.requires.table c.requires.knows

pub returns-in_err-other-clause-step : goal.returns-in_err-other-clause-step
returns-in_err-other-clause-step c =
    let e = c.expand_at.ensures in as_step e.kept e.grown e.knows e.table

pub returns-then-is_false-clause-step : goal.returns-then-is_false-clause-step
returns-then-is_false-clause-step c = no_step c.requires.table c.requires.knows
