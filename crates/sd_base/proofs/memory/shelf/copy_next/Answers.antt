use Rattle.std.proofs.Common.{◌≡◌, ◌-◌, length, take, drop, arith, ap, ◌∙◌}
use Rattle.std.proofs.lemmas.List.{take_at, take_all, length-drop}
use Rattle.std.proofs.lemmas.Grind.{common_steps}
use Rattle.sd_base.proofs.memory.shelf.copy_next.Goals as goal

pub returns-clause-next : goal.returns-clause-next
returns-clause-next c =
    let count = c.min-count.result in
    let rest = drop c.args.offset c.args.bytes.now in
    let whole : take (length c.args.bytes.now - c.args.offset) rest ≡ rest =
    take_all _ _ (omega (arith, length-drop c.args.offset c.args.bytes.now)) in
    let copied : c.copy_from_slice.new.self ≡ take count rest =
    c.copy_from_slice.ensures.after ∙ ap (take count) whole in
    let long : length c.copy_from_slice.new.self ≡ count = grind (arith, common_steps) in
    record {
      same = take_at c.copy_from_slice.new.self _ count long ∙ copied;
      there = omega (arith, length-drop c.args.offset c.args.bytes.now);
      end = (λ none. omega (arith, length-drop c.args.offset c.args.bytes.now), λ past. omega arith);
    }
