-- One node after the other is held.
use Rattle.std.proofs.Common.{◌≡◌, ◌+◌, ◌≤◌, get_or, Some, None, sym, ap, subst, ◌∙◌, arith}
use Rattle.std.specs.FinMap.{len}
use Rattle.sd_manager.proofs.Held.{held_value}
use Rattle.sd_manager.specs.Table.{Table}
use Rattle.sd_manager.specs.Valid.{IsTable}
use Rattle.sd_gates.specs.Holding.{HoldsMore, AreHeldBelow}
use Rattle.sd_gates.proofs.Holding.{more_node, more_one, count_one, below_more, below_blank, below_all}
use Rattle.sd_gates.proofs.sweeping.hold_all.Goals.{in-Some+in_ok-hold_one, in_default}
use Rattle.sd_gates.proofs.sweeping.hold_all.Goals as goal

pub hold_one-requires-clause-shown : goal.hold_one-requires-clause-shown
hold_one-requires-clause-shown c =
    more_node c.args.m.now c.holding.m c.holding.held.items c.in-Some.node c.holding.invariant.more
    (c.requires.shown c.holding.index c.in-Some.node
    (sym (held_value c.args.nodes.now c.holding.index _ c.holding-test.true) ∙ c.in-Some.is))

pub holding-preserved : goal.holding-preserved
holding-preserved c =
    let nodes = c.args.nodes.now in
    let i = c.holding.index in
    let old = c.args.m.now in
    let now = c.holding.m in
    let xs = c.holding.held.items in
    let was = c.holding.invariant in
    elim c.match-nodes-index.branch [
      | in-Some+in_ok-hold_one w ↦
          let new = w.hold_one.new.m in
          let ys = w.hold_one.new.held.items in
          let node = w.in-Some.node in
          let one = w.in_ok-hold_one.ensures.ok in
          let here : get_or nodes i None ≡ Some node = sym (held_value nodes i _ c.holding-test.true) ∙ w.in-Some.is in
          let count : len new.roots ≡ len now.roots + 1 = count_one now new xs ys node one in
          record {
            more = subst (λ (t : Table). HoldsMore old t c.match-nodes-index.held.items) (sym w.m-is)
                (subst (HoldsMore old new) (sym (ap (λ v. v.items) w.held-is))
                (more_one old now new xs ys node was.more one));
            held = subst (λ t. AreHeldBelow t nodes (i + 1)) (sym w.m-is)
                (below_more now new xs ys nodes i node was.held here one);
            count = subst (λ (t : Table). len t.roots ≤ len old.roots + (i + 1)) (sym w.m-is)
                (omega (arith, count, was.count));
            table = subst IsTable (sym w.m-is) w.hold_one.ensures.table;
          }
      | in_default w ↦ record {
        more = subst (λ (t : Table). HoldsMore old t c.match-nodes-index.held.items) (sym w.m-is)
            (subst (HoldsMore old now) (sym (ap (λ v. v.items) w.held-is)) was.more);
        held = subst (λ t. AreHeldBelow t nodes (i + 1)) (sym w.m-is)
            (below_blank now nodes i was.held (sym (held_value nodes i _ c.holding-test.true) ∙ w.in_default.is));
        count = subst (λ (t : Table). len t.roots ≤ len old.roots + (i + 1)) (sym w.m-is) (omega (arith, was.count));
        table = subst IsTable (sym w.m-is) was.table;
      }
    ]

pub returns-clause-held : goal.returns-clause-held
returns-clause-held c =
    below_all c.holding.m c.args.nodes.now c.holding.index (omega (arith, c.holding-test.false))
    c.holding.invariant.held
