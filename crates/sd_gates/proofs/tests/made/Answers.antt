-- A new manager and a new cache are what an output asks for, and they stay so.
use Rattle.std.proofs.Common.{◌≡◌, ℕ, length, sym, ap, subst, ◌∙◌, arith}
use Rattle.std.specs.Ordering.{nat_cmp}
use Rattle.std.specs.FinMap.{len, len-empty}
use Rattle.sd_model.specs.Tree.{leaves}
use Rattle.sd_vtree.specs.Numbered.{plain_tree}
use Rattle.sd_manager.specs.Table.{Table}
use Rattle.sd_manager.specs.Marking.{AreUnmarked}
use Rattle.sd_manager.proofs.Marking.{unmarked_new}
use Rattle.sd_apply.proofs.Tried.{empty_serves}
use Rattle.sd_gates.proofs.tests.made.Goals as goal

pub outputs-init : goal.outputs-init
outputs-init c =
    let is = c.in_ok-m.ensures.ok in
    let count : leaves (plain_tree c.in_ok-vtree.vtree) ≡ length c.args.circuit.now.text.inputs =
    omega (arith, c.variables.ensures.count, c.if-variables-inputs.false, c.inputs-inputs.ensures.value) in
    record {
      variables = ap (λ (t : Table). leaves (plain_tree t.vtree)) is ∙ count;
      no_move = ap (λ (t : Table). t.moving) is;
      unmarked = subst AreUnmarked (sym is) (unmarked_new c.in_ok-vtree.vtree c.min.result);
      serves = empty_serves c.in_ok-c.c c.in_ok-m.m c.in_ok-c.ensures;
      shares = c.new-gates.ensures c.args.circuit.now c.in_ok-m.m;
      room = let none = ap (λ (t : Table). len t.roots) is ∙ len-empty nat_cmp ℕ in omega (arith, none);
    }

pub outputs-preserved : goal.outputs-preserved
outputs-preserved c =
    let kept = c.output_node.ensures.kept in
    let roots = ap len kept.reached.roots in
    record {
      variables = ap (λ v. leaves (plain_tree v)) kept.reached.vtree ∙ c.outputs.invariant.variables;
      no_move = kept.moving ∙ c.outputs.invariant.no_move;
      unmarked = c.output_node.ensures.unmarked;
      serves = c.output_node.ensures.serves;
      shares = c.output_node.ensures.shares;
      room = omega (arith, roots, c.outputs.invariant.room);
    }
