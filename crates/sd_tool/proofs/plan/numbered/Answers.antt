-- One line more.
use Rattle.std.proofs.Common.{rules, ◌≡◌, ℕ, ◌+◌, [], ◌∷◌, ◌++◌, length, ap, sym, ◌∙◌, arith, append_assoc}
use Rattle.std.proofs.lemmas.List.{length-append}
use Rattle.sd_tool.specs.inside.Readings.{in_lines}
use Rattle.sd_tool.proofs.LineLemmas.{length_lines, lines_more}
use Rattle.sd_tool.proofs.plan.numbered.Goals as goal

-- the number of lines is that of the commands so far
pub overflow_cast-line : goal.overflow_cast-line
overflow_cast-line c =
    let yielded = c.loop-command.yielded in
    let rest = c.in-Some.command ∷ c.next.new.self.rest.items in
    let left : yielded ++ rest ≡ c.args.commands.items = search rules in
    let count : c.len-in-loop-command.result ≡ length c.loop-command.lines.items = search rules in
    let many = ap length c.loop-command.invariant.lines ∙ length_lines 1 yielded in
    let all = sym (length-append yielded rest) ∙ ap length left in
    omega (arith, count, many, all, c.requires.few)

pub overflow_add-line : goal.overflow_add-line
overflow_add-line c =
    let yielded = c.loop-command.yielded in
    let rest = c.in-Some.command ∷ c.next.new.self.rest.items in
    let left : yielded ++ rest ≡ c.args.commands.items = search rules in
    let count : c.len-in-loop-command.result ≡ length c.loop-command.lines.items = search rules in
    let many = ap length c.loop-command.invariant.lines ∙ length_lines 1 yielded in
    let all = sym (length-append yielded rest) ∙ ap length left in
    omega (arith, count, many, all, c.requires.few)

pub loop-command-preserved : goal.loop-command-preserved
loop-command-preserved c =
    let yielded = c.loop-command.yielded in
    let command = c.in-Some.command in
    let rest = command ∷ c.next.new.self.rest.items in
    let left : yielded ++ rest ≡ c.args.commands.items = search rules in
    let count : c.len-in-loop-command.result ≡ length c.loop-command.lines.items = search rules in
    let many = ap length c.loop-command.invariant.lines ∙ length_lines 1 yielded in
    record {
      lines = c.in_ok-push.ensures.items
          ∙ ap (λ l. l ++ record { line = c.len-in-loop-command.result + 1; command = command } ∷ [])
          c.loop-command.invariant.lines
          ∙ ap (λ (n : ℕ). in_lines 1 yielded ++ record { line = n; command = command } ∷ [])
          (let e : c.len-in-loop-command.result + 1 ≡ 1 + length yielded = omega (arith, count, many) in e)
          ∙ sym (lines_more 1 yielded command);
      left = append_assoc yielded (command ∷ []) c.next.new.self.rest.items ∙ left;
    }
