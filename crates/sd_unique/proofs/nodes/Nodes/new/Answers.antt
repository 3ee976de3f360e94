use Rattle.std.proofs.Common.{arith}
use Rattle.sd_unique.proofs.Nothing.{nodes_new, kept_new}
use Rattle.sd_unique.proofs.Numbered.{is_nodes}
use Rattle.sd_unique.proofs.Hashes.{hashed_none}
use Rattle.sd_unique.proofs.nodes.Nodes.new.Goals as goal

pub returns-clause-empty : goal.returns-clause-empty
returns-clause-empty c =
    nodes_new c.new.result c.args.bound c.in_ok-with_capacity.field-0.items c.new.ensures.empty
    c.in_ok-with_capacity.ensures.items

pub invariant_of-result : goal.invariant_of-result
invariant_of-result c = (
  kept_new c.new.result c.args.bound c.in_ok-with_capacity.field-0.items c.new.ensures.empty
      c.in_ok-with_capacity.ensures.items c.in_ok-with_capacity-3.field-0.items c.in_ok-empty_heads.field-0.items
      c.in_ok-with_capacity-4.field-0.items c.in_ok-with_capacity-5.field-0.0 17 c.new.ensures.arena c.requires
      c.in_ok-with_capacity-3.ensures.items c.in_ok-empty_heads.ensures c.in_ok-with_capacity-4.ensures.items
      c.in_ok-with_capacity-5.ensures (omega arith),
  hashed_none c.in_ok-with_capacity-2.field-0.items _ c.args.bound c.in_ok-with_capacity-2.ensures.items
      (returns-clause-empty c),
  record {
    links_fit = omega (arith, c.in_ok-with_capacity.ensures.len);
    heads_fit = omega (arith, c.in_ok-with_capacity-4.ensures.capacity);
  },
)

pub returns-clause-nodes : goal.returns-clause-nodes
returns-clause-nodes c = is_nodes (invariant_of-result c).0.stored
