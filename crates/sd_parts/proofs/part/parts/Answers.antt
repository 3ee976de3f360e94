-- One part more, of a number below the number of gates.
use Rattle.std.proofs.Common.{rules, ◌≡◌, ◌+◌, [], ◌∷◌, ◌++◌, length, ap, sym, ◌∙◌, arith, append_assoc}
use Rattle.std.specs.List.{range_with_len}
use Rattle.std.proofs.lemmas.List.{length-append}
use Rattle.std.proofs.lemmas.List.FromFn.{length-map-range_with_len}
use Rattle.sd_model.specs.Seen.{tree_of}
use Rattle.sd_parts.specs.Work.{part_work}
use Rattle.sd_parts.proofs.Made.{one_more}
use Rattle.sd_parts.proofs.part.parts.Goals as goal

pub new_part-requires-clause-number : goal.new_part-requires-clause-number
new_part-requires-clause-number g c =
    let w = part_work c.args.f.now (tree_of c.args.tree.now) c.args.limit c.args.bound c.len-count.result in
    let left : c.loop-gate.yielded ++ c.in-Some.gate ∷ c.next.new.self.rest.items ≡ c.args.gates.items =
    search rules in
    let number : c.len-number.result ≡ length c.loop-gate.list.items = search rules in
    let count : c.len-count.result ≡ length c.args.gates.items = search rules in
    let made = ap length c.loop-gate.invariant.made
    ∙ length-map-range_with_len w 0 (length c.loop-gate.yielded) in
    let all = sym (length-append c.loop-gate.yielded (c.in-Some.gate ∷ c.next.new.self.rest.items)) ∙ ap length left in
    omega (arith, number, count, made, all)

pub loop-gate-preserved : goal.loop-gate-preserved
loop-gate-preserved g c =
    let w = part_work c.args.f.now (tree_of c.args.tree.now) c.args.limit c.args.bound c.len-count.result in
    let number : c.len-number.result ≡ length c.loop-gate.list.items = search rules in
    let same = number ∙ ap length c.loop-gate.invariant.made
    ∙ length-map-range_with_len w 0 (length c.loop-gate.yielded) in
    let left : c.loop-gate.yielded ++ c.in-Some.gate ∷ c.next.new.self.rest.items ≡ c.args.gates.items =
    search rules in
    let pushed : c.push.new.self.items ≡ c.loop-gate.list.items ++ c.in_ok-part.part ∷ [] = search rules in
    record {
      made =
          rw (length-append c.loop-gate.yielded (c.in-Some.gate ∷ []))
          (one_more w c.loop-gate.list.items c.push.new.self.items c.in_ok-part.part (length c.loop-gate.yielded)
          c.len-number.result c.loop-gate.invariant.made c.in_ok-part.ensures same pushed);
      left = append_assoc c.loop-gate.yielded (c.in-Some.gate ∷ []) c.next.new.self.rest.items ∙ left;
    }
