use Rattle.std.proofs.Common.{ℤ, ◌≤◌, length, None, IfOk, IfErr, OnErr, refl, sym, ap, subst, rules, w32}
use Rattle.std.specs.List.{AllByRecursion}
use Rattle.std.proofs.lemmas.Int.{to_z-of_z}
use mir.Val.{SFits}
use Rattle.sd_commands.specs.Commands.{dropped}
use Rattle.sd_commands.specs.Fits.{uses, binds}
use Rattle.sd_commands.specs.Standing.{StepsTo, StopsAt, IsAsBefore, IsLeft, HasRoot}
use Rattle.sd_commands.specs.declared.command.RunCommand.TheVariants.{Literal, Given, Write}
use Rattle.sd_commands.proofs.Stepping.{first_used, second_used, all_used, some_named, binds_free, handed_steps}
use Rattle.sd_commands.proofs.Stepping.{output_there}
use Rattle.sd_commands.proofs.Standing.{as_before_self}
use Rattle.sd_commands.proofs.steps.step.Goals as goal

-- ---- the names that a command uses have roots

pub bind_combination-requires-clause-first : goal.bind_combination-requires-clause-first
bind_combination-requires-clause-first c =
    first_used c.args.state.now c.requires.represents.0 _ _ _ _ _ c.requires.represents.1 c.requires.represents.2
    (ap uses c.in-Combine.is)

pub bind_combination-requires-clause-second : goal.bind_combination-requires-clause-second
bind_combination-requires-clause-second c =
    second_used c.args.state.now c.requires.represents.0 _ _ _ _ _ _ c.requires.represents.1 c.requires.represents.2
    (ap uses c.in-Combine.is)

pub bind_negation-requires-clause-bound : goal.bind_negation-requires-clause-bound
bind_negation-requires-clause-bound c =
    first_used c.args.state.now c.requires.represents.0 _ _ _ _ _ c.requires.represents.1 c.requires.represents.2
    (ap uses c.in-Negate.is)

pub bind_condition-requires-clause-bound : goal.bind_condition-requires-clause-bound
bind_condition-requires-clause-bound c =
    first_used c.args.state.now c.requires.represents.0 _ _ _ _ _ c.requires.represents.1 c.requires.represents.2
    (ap uses c.in-Given.is)

pub bind_forgotten-requires-clause-bound : goal.bind_forgotten-requires-clause-bound
bind_forgotten-requires-clause-bound c =
    first_used c.args.state.now c.requires.represents.0 _ _ _ _ _ c.requires.represents.1 c.requires.represents.2
    (ap uses c.in-Forget.is)

pub print_same-requires-clause-first : goal.print_same-requires-clause-first
print_same-requires-clause-first c =
    first_used c.args.state.now c.requires.represents.0 _ _ _ _ _ c.requires.represents.1 c.requires.represents.2
    (ap uses c.in-Same.is)

pub print_same-requires-clause-second : goal.print_same-requires-clause-second
print_same-requires-clause-second c =
    second_used c.args.state.now c.requires.represents.0 _ _ _ _ _ _ c.requires.represents.1 c.requires.represents.2
    (ap uses c.in-Same.is)

pub print_size-requires-clause-bound : goal.print_size-requires-clause-bound
print_size-requires-clause-bound c =
    first_used c.args.state.now c.requires.represents.0 _ _ _ _ _ c.requires.represents.1 c.requires.represents.2
    (ap uses c.in-Size.is)

pub print_value-requires-clause-bound : goal.print_value-requires-clause-bound
print_value-requires-clause-bound c =
    first_used c.args.state.now c.requires.represents.0 _ _ _ _ _ c.requires.represents.1 c.requires.represents.2
    (ap uses c.in-Value.is)

pub write_diagrams-requires-clause-bound : goal.write_diagrams-requires-clause-bound
write_diagrams-requires-clause-bound c =
    subst (AllByRecursion (HasRoot c.args.state.now)) (sym c.as_slice.ensures)
    (all_used c.args.state.now c.requires.represents.0 _ _ _ _ c.requires.represents.1 c.requires.represents.2
    (ap uses c.in-Write.is))

pub write_diagrams-requires-clause-some : goal.write_diagrams-requires-clause-some
write_diagrams-requires-clause-some c =
    subst (λ names. 1 ≤ length names) (sym c.as_slice.ensures)
    (some_named c.args.input.now.variables _ _ c.args.command.now _ _ c.requires.represents.2 c.in-Write.is)

-- ---- the name that a command binds is free

pub bind_input-requires-clause-free : goal.bind_input-requires-clause-free
bind_input-requires-clause-free c =
    binds_free c.args.state.now c.requires.represents.0 _ _ _ _ c.requires.represents.1 c.requires.represents.2
    (ap binds c.in-Input.is)

pub bind_file-requires-clause-free : goal.bind_file-requires-clause-free
bind_file-requires-clause-free c =
    binds_free c.args.state.now c.requires.represents.0 _ _ _ _ c.requires.represents.1 c.requires.represents.2
    (ap binds c.in-Load.is)

pub bind_literal-requires-clause-free : goal.bind_literal-requires-clause-free
bind_literal-requires-clause-free c =
    binds_free c.args.state.now c.requires.represents.0 _ _ _ _ c.requires.represents.1 c.requires.represents.2
    (ap binds c.in-Literal.is)

pub bind_constant-requires-clause-free : goal.bind_constant-requires-clause-free
bind_constant-requires-clause-free c =
    binds_free c.args.state.now c.requires.represents.0 _ _ _ _ c.requires.represents.1 c.requires.represents.2
    (ap binds c.in-Constant.is)

pub bind_combination-requires-clause-free : goal.bind_combination-requires-clause-free
bind_combination-requires-clause-free c =
    binds_free c.args.state.now c.requires.represents.0 _ _ _ _ c.requires.represents.1 c.requires.represents.2
    (ap binds c.in-Combine.is)

pub bind_negation-requires-clause-free : goal.bind_negation-requires-clause-free
bind_negation-requires-clause-free c =
    binds_free c.args.state.now c.requires.represents.0 _ _ _ _ c.requires.represents.1 c.requires.represents.2
    (ap binds c.in-Negate.is)

pub bind_condition-requires-clause-free : goal.bind_condition-requires-clause-free
bind_condition-requires-clause-free c =
    binds_free c.args.state.now c.requires.represents.0 _ _ _ _ c.requires.represents.1 c.requires.represents.2
    (ap binds c.in-Given.is)

pub bind_forgotten-requires-clause-free : goal.bind_forgotten-requires-clause-free
bind_forgotten-requires-clause-free c =
    binds_free c.args.state.now c.requires.represents.0 _ _ _ _ c.requires.represents.1 c.requires.represents.2
    (ap binds c.in-Forget.is)

pub bind_output-requires-clause-free : goal.bind_output-requires-clause-free
bind_output-requires-clause-free c =
    binds_free c.args.state.now c.requires.represents.0 _ _ _ _ c.requires.represents.1 c.requires.represents.2
    (ap binds c.in-Output.is)

-- ---- its numbers are in range

pub bind_output-requires-clause-index : goal.bind_output-requires-clause-index
bind_output-requires-clause-index c =
    output_there c.args.state.now c.requires.represents.0 _ _ _ _ c.requires.represents.1 c.requires.represents.2
    c.in-Output.is

-- it has fewer roots than an output asks for
pub bind_output-requires-clause-room : goal.bind_output-requires-clause-room
bind_output-requires-clause-room c = c.requires.output_room _ _ c.in-Output.is

-- ---- what each command comes to

pub returns-in-Input-clause-done : goal.returns-in-Input-clause-done
returns-in-Input-clause-done c = λ seen was.
    subst (λ command. IfOk c.bind_input.result
    (λ effect. StepsTo c.args.input.now seen command c.bind_input.new.state effect)) (sym c.in-Input.is)
    (c.bind_input.ensures.done seen was)

pub returns-in-Input-clause-stops : goal.returns-in-Input-clause-stops
returns-in-Input-clause-stops c = λ seen was.
    subst (λ command. IfErr c.bind_input.result
    (λ e. StopsAt c.args.input.now seen command c.bind_input.new.state.manager e)) (sym c.in-Input.is)
    (c.bind_input.ensures.stops seen was)

pub returns-in-Turn-clause-done : goal.returns-in-Turn-clause-done
returns-in-Turn-clause-done c = λ seen was.
    subst (λ command. IfOk c.turn_at.result
    (λ effect. StepsTo c.args.input.now seen command c.turn_at.new.state effect)) (sym c.in-Turn.is)
    (c.turn_at.ensures.done c.args.input.now seen was)

pub returns-in-Minimise-clause-done : goal.returns-in-Minimise-clause-done
returns-in-Minimise-clause-done c = λ seen was.
    subst (λ command. IfOk c.search.result
    (λ effect. StepsTo c.args.input.now seen command c.search.new.state effect)) (sym c.in-Minimise.is)
    (c.search.ensures.done c.args.input.now seen was)

pub returns-in-Generated-clause-done : goal.returns-in-Generated-clause-done
returns-in-Generated-clause-done c = λ seen was.
    let input = c.args.input.now in
    let code = c.args.state.now in
    subst (λ command. IfOk c.or_out_of_memory.result (λ effect. StepsTo input seen command code effect))
    (sym c.in-Generated.is)
    (handed_steps input seen _ code _ _ (c.print_generated.ensures input seen code was) c.or_out_of_memory.ensures)

pub returns-in-Literal-clause-done : goal.returns-in-Literal-clause-done
returns-in-Literal-clause-done c = λ seen was.
    let input = c.args.input.now in
    let range : SFits w32 c.in-Literal.literal = search rules in
    subst (λ command. IfOk c.bind_literal.result (λ effect. StepsTo input seen command c.bind_literal.new.state effect))
    (sym c.in-Literal.is)
    (subst (λ (z : ℤ). IfOk c.bind_literal.result
    (λ effect. StepsTo input seen (Literal c.in-Literal.name z) c.bind_literal.new.state effect))
    (to_z-of_z w32 c.in-Literal.literal range) (c.bind_literal.ensures.done input seen was))

pub returns-in-Given-clause-done : goal.returns-in-Given-clause-done
returns-in-Given-clause-done c = λ seen was.
    let input = c.args.input.now in
    let result = c.bind_condition.result in
    let state = c.bind_condition.new.state in
    let range : SFits w32 c.in-Given.literal = search rules in
    subst (λ command. IfOk result (λ effect. StepsTo input seen command state effect)) (sym c.in-Given.is)
    (subst (λ (z : ℤ). IfOk result
    (λ effect. StepsTo input seen (Given c.in-Given.name c.in-Given.a z) state effect))
    (to_z-of_z w32 c.in-Given.literal range) (c.bind_condition.ensures.done input seen was))

pub returns-in-Drop-clause-done : goal.returns-in-Drop-clause-done
returns-in-Drop-clause-done c = λ seen was.
    subst (λ command. StepsTo c.args.input.now seen command c.free.new.self None) (sym c.in-Drop.is)
    (record { next = dropped seen c.in-Drop.name; step = refl; represents = c.free.ensures.represents seen was })

pub returns-in-Same-clause-done : goal.returns-in-Same-clause-done
returns-in-Same-clause-done c = λ seen was.
    let input = c.args.input.now in
    let code = c.args.state.now in
    subst (λ command. IfOk c.or_out_of_memory-in-Same.result (λ effect. StepsTo input seen command code effect))
    (sym c.in-Same.is)
    (handed_steps input seen _ code _ _ (c.print_same.ensures input seen was) c.or_out_of_memory-in-Same.ensures)

pub returns-in-Size-clause-done : goal.returns-in-Size-clause-done
returns-in-Size-clause-done c = λ seen was.
    let input = c.args.input.now in
    let code = c.print_size.new.state in
    subst (λ command. IfOk c.or_out_of_memory-in-Size.result (λ effect. StepsTo input seen command code effect))
    (sym c.in-Size.is)
    (handed_steps input seen _ code _ _ (c.print_size.ensures.done input seen was) c.or_out_of_memory-in-Size.ensures)

pub returns-in-Value-clause-done : goal.returns-in-Value-clause-done
returns-in-Value-clause-done c = λ seen was.
    let input = c.args.input.now in
    let code = c.args.state.now in
    subst (λ command. IfOk c.or_out_of_memory-in-Value.result (λ effect. StepsTo input seen command code effect))
    (sym c.in-Value.is)
    (handed_steps input seen _ code _ _ (c.print_value.ensures input seen was) c.or_out_of_memory-in-Value.ensures)

pub returns-in-Write-clause-done : goal.returns-in-Write-clause-done
returns-in-Write-clause-done c = λ seen was.
    let input = c.args.input.now in
    let code = c.args.state.now in
    subst (λ command. IfOk c.or_out_of_memory-in-Write.result (λ effect. StepsTo input seen command code effect))
    (sym c.in-Write.is)
    (subst (λ names. IfOk c.or_out_of_memory-in-Write.result
    (λ effect. StepsTo input seen (Write names c.in-Write.file) code effect)) c.as_slice.ensures
    (handed_steps input seen _ code _ _ (c.write_diagrams.ensures input seen was)
    c.or_out_of_memory-in-Write.ensures))

pub returns-in-WriteVtree-clause-done : goal.returns-in-WriteVtree-clause-done
returns-in-WriteVtree-clause-done c = λ seen was.
    let input = c.args.input.now in
    let code = c.args.state.now in
    subst (λ command. IfOk c.or_out_of_memory-in-WriteVtree.result (λ effect. StepsTo input seen command code effect))
    (sym c.in-WriteVtree.is)
    (handed_steps input seen _ code _ _ (c.write_vtree_text.ensures input seen was)
    c.or_out_of_memory-in-WriteVtree.ensures)

-- ---- why it stops

pub returns-in-Literal-clause-stops : goal.returns-in-Literal-clause-stops
returns-in-Literal-clause-stops c = λ seen was.
    let input = c.args.input.now in
    let table = c.bind_literal.new.state.manager in
    let range : SFits w32 c.in-Literal.literal = search rules in
    subst (λ command. IfErr c.bind_literal.result (λ e. StopsAt input seen command table e)) (sym c.in-Literal.is)
    (subst (λ (z : ℤ). IfErr c.bind_literal.result (λ e. StopsAt input seen (Literal c.in-Literal.name z) table e))
    (to_z-of_z w32 c.in-Literal.literal range) (c.bind_literal.ensures.stops input seen was))

pub returns-in-Given-clause-stops : goal.returns-in-Given-clause-stops
returns-in-Given-clause-stops c = λ seen was.
    let input = c.args.input.now in
    let table = c.bind_condition.new.state.manager in
    let range : SFits w32 c.in-Given.literal = search rules in
    subst (λ command. IfErr c.bind_condition.result (λ e. StopsAt input seen command table e)) (sym c.in-Given.is)
    (subst (λ (z : ℤ). IfErr c.bind_condition.result
    (λ e. StopsAt input seen (Given c.in-Given.name c.in-Given.a z) table e))
    (to_z-of_z w32 c.in-Given.literal range) (c.bind_condition.ensures.stops input seen was))

pub returns-in-Load-clause-stops : goal.returns-in-Load-clause-stops
returns-in-Load-clause-stops c = λ seen was.
    let input = c.args.input.now in
    let table = c.bind_file.new.state.manager in
    subst (λ command. IfErr c.bind_file.result (λ e. StopsAt input seen command table e)) (sym c.in-Load.is)
    (c.bind_file.ensures.stops input seen was)

pub returns-in-Constant-clause-stops : goal.returns-in-Constant-clause-stops
returns-in-Constant-clause-stops c = λ seen was.
    let input = c.args.input.now in
    let table = c.bind_constant.new.state.manager in
    subst (λ command. IfErr c.bind_constant.result (λ e. StopsAt input seen command table e)) (sym c.in-Constant.is)
    (c.bind_constant.ensures.stops input seen was)

pub returns-in-Combine-clause-stops : goal.returns-in-Combine-clause-stops
returns-in-Combine-clause-stops c = λ seen was.
    let input = c.args.input.now in
    let table = c.bind_combination.new.state.manager in
    subst (λ command. IfErr c.bind_combination.result (λ e. StopsAt input seen command table e)) (sym c.in-Combine.is)
    (c.bind_combination.ensures.stops input seen was)

pub returns-in-Negate-clause-stops : goal.returns-in-Negate-clause-stops
returns-in-Negate-clause-stops c = λ seen was.
    let input = c.args.input.now in
    let table = c.bind_negation.new.state.manager in
    subst (λ command. IfErr c.bind_negation.result (λ e. StopsAt input seen command table e)) (sym c.in-Negate.is)
    (c.bind_negation.ensures.stops input seen was)

pub returns-in-Forget-clause-stops : goal.returns-in-Forget-clause-stops
returns-in-Forget-clause-stops c = λ seen was.
    let input = c.args.input.now in
    let table = c.bind_forgotten.new.state.manager in
    subst (λ command. IfErr c.bind_forgotten.result (λ e. StopsAt input seen command table e)) (sym c.in-Forget.is)
    (c.bind_forgotten.ensures.stops input seen was)

pub returns-in-Turn-clause-stops : goal.returns-in-Turn-clause-stops
returns-in-Turn-clause-stops c = λ seen was.
    let input = c.args.input.now in
    let table = c.turn_at.new.state.manager in
    subst (λ command. IfErr c.turn_at.result (λ e. StopsAt input seen command table e)) (sym c.in-Turn.is)
    (c.turn_at.ensures.stops input seen was)

pub returns-in-Limit-clause-stops : goal.returns-in-Limit-clause-stops
returns-in-Limit-clause-stops c = λ seen was.
    let input = c.args.input.now in
    let table = c.set_limit.new.state.manager in
    subst (λ command. IfErr c.set_limit.result (λ e. StopsAt input seen command table e)) (sym c.in-Limit.is)
    (c.set_limit.ensures.stops input seen was)

pub returns-in-Minimise-clause-stops : goal.returns-in-Minimise-clause-stops
returns-in-Minimise-clause-stops c = λ seen was.
    let input = c.args.input.now in
    let table = c.search.new.state.manager in
    subst (λ command. IfErr c.search.result (λ e. StopsAt input seen command table e)) (sym c.in-Minimise.is)
    (c.search.ensures.stops input seen was)

pub returns-in-Output-clause-stops : goal.returns-in-Output-clause-stops
returns-in-Output-clause-stops c = λ seen was.
    let input = c.args.input.now in
    let table = c.bind_output.new.state.manager in
    subst (λ command. IfErr c.bind_output.result (λ e. StopsAt input seen command table e)) (sym c.in-Output.is)
    (c.bind_output.ensures.stops input seen was)

pub returns-in-Check-clause-stops : goal.returns-in-Check-clause-stops
returns-in-Check-clause-stops c = λ seen was.
    let input = c.args.input.now in
    let table = c.print_verdict.new.state.manager in
    subst (λ command. IfErr c.print_verdict.result (λ e. StopsAt input seen command table e)) (sym c.in-Check.is)
    (c.print_verdict.ensures.stops input seen was)

-- ---- what it leaves

pub returns-in-Input-clause-err : goal.returns-in-Input-clause-err
returns-in-Input-clause-err c =
    subst (λ command. OnErr c.bind_input.result
    (IsLeft c.args.input.now command c.args.state.now c.bind_input.new.state))
    (sym c.in-Input.is)
    c.bind_input.ensures.err

pub returns-in-Load-clause-err : goal.returns-in-Load-clause-err
returns-in-Load-clause-err c =
    subst (λ command. OnErr c.bind_file.result (IsLeft c.args.input.now command c.args.state.now c.bind_file.new.state))
    (sym c.in-Load.is)
    c.bind_file.ensures.err

pub returns-in-Literal-clause-err : goal.returns-in-Literal-clause-err
returns-in-Literal-clause-err c =
    subst (λ command. OnErr c.bind_literal.result
    (IsLeft c.args.input.now command c.args.state.now c.bind_literal.new.state))
    (sym c.in-Literal.is)
    c.bind_literal.ensures.err

pub returns-in-Constant-clause-err : goal.returns-in-Constant-clause-err
returns-in-Constant-clause-err c =
    subst (λ command. OnErr c.bind_constant.result
    (IsLeft c.args.input.now command c.args.state.now c.bind_constant.new.state))
    (sym c.in-Constant.is)
    c.bind_constant.ensures.err

pub returns-in-Combine-clause-err : goal.returns-in-Combine-clause-err
returns-in-Combine-clause-err c =
    subst (λ command. OnErr c.bind_combination.result
    (IsLeft c.args.input.now command c.args.state.now c.bind_combination.new.state))
    (sym c.in-Combine.is)
    c.bind_combination.ensures.err

pub returns-in-Negate-clause-err : goal.returns-in-Negate-clause-err
returns-in-Negate-clause-err c =
    subst (λ command. OnErr c.bind_negation.result
    (IsLeft c.args.input.now command c.args.state.now c.bind_negation.new.state))
    (sym c.in-Negate.is)
    c.bind_negation.ensures.err

pub returns-in-Given-clause-err : goal.returns-in-Given-clause-err
returns-in-Given-clause-err c =
    subst (λ command. OnErr c.bind_condition.result
    (IsLeft c.args.input.now command c.args.state.now c.bind_condition.new.state))
    (sym c.in-Given.is)
    c.bind_condition.ensures.err

pub returns-in-Forget-clause-err : goal.returns-in-Forget-clause-err
returns-in-Forget-clause-err c =
    subst (λ command. OnErr c.bind_forgotten.result
    (IsLeft c.args.input.now command c.args.state.now c.bind_forgotten.new.state))
    (sym c.in-Forget.is)
    c.bind_forgotten.ensures.err

pub returns-in-Turn-clause-err : goal.returns-in-Turn-clause-err
returns-in-Turn-clause-err c =
    subst (λ command. OnErr c.turn_at.result
    (IsLeft c.args.input.now command c.args.state.now c.turn_at.new.state)) (sym c.in-Turn.is)
    c.turn_at.ensures.err

pub returns-in-Minimise-clause-err : goal.returns-in-Minimise-clause-err
returns-in-Minimise-clause-err c =
    subst (λ command. OnErr c.search.result
    (IsLeft c.args.input.now command c.args.state.now c.search.new.state)) (sym c.in-Minimise.is)
    c.search.ensures.err

pub returns-in-Output-clause-err : goal.returns-in-Output-clause-err
returns-in-Output-clause-err c =
    subst (λ command. OnErr c.bind_output.result
    (IsLeft c.args.input.now command c.args.state.now c.bind_output.new.state)) (sym c.in-Output.is)
    c.bind_output.ensures.err

pub returns-in-Check-clause-err : goal.returns-in-Check-clause-err
returns-in-Check-clause-err c =
    subst (λ command. OnErr c.print_verdict.result
    (IsLeft c.args.input.now command c.args.state.now c.print_verdict.new.state)) (sym c.in-Check.is)
    c.print_verdict.ensures.err

pub returns-in-Limit-clause-err : goal.returns-in-Limit-clause-err
returns-in-Limit-clause-err c =
    subst (λ command. OnErr c.set_limit.result (IsLeft c.args.input.now command c.args.state.now c.set_limit.new.state))
    (sym c.in-Limit.is)
    c.set_limit.ensures.err

-- ---- a command that reads the state leaves it

pub returns-in-Generated-clause-err : goal.returns-in-Generated-clause-err
returns-in-Generated-clause-err c =
    subst (λ command. OnErr c.or_out_of_memory.result
    (IsLeft c.args.input.now command c.args.state.now c.args.state.now))
    (sym c.in-Generated.is)
    (as_before_self c.args.state.now _)

pub returns-in-Same-clause-err : goal.returns-in-Same-clause-err
returns-in-Same-clause-err c =
    subst (λ command. OnErr c.or_out_of_memory-in-Same.result
    (IsLeft c.args.input.now command c.args.state.now c.args.state.now))
    (sym c.in-Same.is)
    (as_before_self c.args.state.now _)

pub returns-in-Value-clause-err : goal.returns-in-Value-clause-err
returns-in-Value-clause-err c =
    subst (λ command. OnErr c.or_out_of_memory-in-Value.result
    (IsLeft c.args.input.now command c.args.state.now c.args.state.now))
    (sym c.in-Value.is)
    (as_before_self c.args.state.now _)

pub returns-in-Write-clause-err : goal.returns-in-Write-clause-err
returns-in-Write-clause-err c =
    subst (λ command. OnErr c.or_out_of_memory-in-Write.result
    (IsLeft c.args.input.now command c.args.state.now c.args.state.now))
    (sym c.in-Write.is)
    (as_before_self c.args.state.now _)

pub returns-in-WriteVtree-clause-err : goal.returns-in-WriteVtree-clause-err
returns-in-WriteVtree-clause-err c =
    subst (λ command. OnErr c.or_out_of_memory-in-WriteVtree.result
    (IsLeft c.args.input.now command c.args.state.now c.args.state.now))
    (sym c.in-WriteVtree.is)
    (as_before_self c.args.state.now _)

pub returns-in-Size-clause-err : goal.returns-in-Size-clause-err
returns-in-Size-clause-err c =
    subst (λ command. OnErr c.or_out_of_memory-in-Size.result
    (IsLeft c.args.input.now command c.args.state.now c.print_size.new.state))
    (sym c.in-Size.is)
    (subst (λ code. OnErr c.or_out_of_memory-in-Size.result (IsAsBefore c.args.state.now code))
    (sym c.print_size.ensures.same) (as_before_self c.args.state.now _))
