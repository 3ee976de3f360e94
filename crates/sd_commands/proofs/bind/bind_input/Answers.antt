-- The nodes of gates are forgotten, and else the state is as before: so it is what the binding begins with.
use Rattle.std.proofs.Common.{◌≡◌, ◌+◌, ◌≤◌, sym, ap, subst, ◌∙◌, OnErr}
use Rattle.sd_model.specs.Tree.{leaves}
use Rattle.sd_vtree.specs.Numbered.{plain_tree}
use Rattle.sd_commands.specs.Standing.{IsLeftByInput, IsFree, root_count}
use Rattle.sd_commands.specs.declared.state.RunState.{RunState}
use Rattle.sd_commands.proofs.Standing.{input_forgotten}
use Rattle.sd_commands.proofs.bind.bind_input.Goals as goal

pub bind_compiled-requires-clause-free : goal.bind_compiled-requires-clause-free
bind_compiled-requires-clause-free c =
    subst (λ (s : RunState). IsFree s c.args.name) (sym c.forget_gates.ensures.rest) c.requires.free

pub bind_grown-requires-clause-free : goal.bind_grown-requires-clause-free
bind_grown-requires-clause-free c =
    subst (λ (s : RunState). IsFree s c.args.name) (sym c.forget_gates.ensures.rest) c.requires.free

pub returns-in-None-clause-done : goal.returns-in-None-clause-done
returns-in-None-clause-done c = λ seen was.
    c.bind_compiled.ensures.done seen (c.forget_gates.ensures.represents seen was)

pub returns-in-Some-clause-done : goal.returns-in-Some-clause-done
returns-in-Some-clause-done c = λ seen was.
    c.bind_grown.ensures.done seen (c.forget_gates.ensures.represents seen was)

pub returns-in-None-clause-stops : goal.returns-in-None-clause-stops
returns-in-None-clause-stops c = λ seen was.
    c.bind_compiled.ensures.stops seen (c.forget_gates.ensures.represents seen was)

pub returns-in-Some-clause-stops : goal.returns-in-Some-clause-stops
returns-in-Some-clause-stops c = λ seen was.
    c.bind_grown.ensures.stops seen (c.forget_gates.ensures.represents seen was)

pub returns-in-None-clause-err : goal.returns-in-None-clause-err
returns-in-None-clause-err c =
    let code = c.forget_gates.new.self in
    input_forgotten c.bind_compiled.result c.args.input.now c.args.state.now code c.bind_compiled.new.state
    c.forget_gates.ensures.kept (ap (λ (s : RunState). s.every) c.forget_gates.ensures.rest)
    (subst (λ e. OnErr c.bind_compiled.result (IsLeftByInput e c.args.input.now code c.bind_compiled.new.state))
    (sym c.in-None.is) c.bind_compiled.ensures.err)

pub returns-in-Some-clause-err : goal.returns-in-Some-clause-err
returns-in-Some-clause-err c =
    let code = c.forget_gates.new.self in
    input_forgotten c.bind_grown.result c.args.input.now c.args.state.now code c.bind_grown.new.state
    c.forget_gates.ensures.kept (ap (λ (s : RunState). s.every) c.forget_gates.ensures.rest)
    (subst (λ e. OnErr c.bind_grown.result (IsLeftByInput e c.args.input.now code c.bind_grown.new.state))
    (sym c.in-Some.is) c.bind_grown.ensures.err)

pub returns-in-None-clause-variables : goal.returns-in-None-clause-variables
returns-in-None-clause-variables c =
    ap (λ v. leaves (plain_tree v)) c.bind_compiled.ensures.vtree
    ∙ ap (λ (s : RunState). leaves (plain_tree s.manager.vtree)) c.forget_gates.ensures.rest

pub returns-in-Some-clause-variables : goal.returns-in-Some-clause-variables
returns-in-Some-clause-variables c =
    c.bind_grown.ensures.variables
    ∙ ap (λ (s : RunState). leaves (plain_tree s.manager.vtree)) c.forget_gates.ensures.rest

pub returns-in-None-clause-roots : goal.returns-in-None-clause-roots
returns-in-None-clause-roots c =
    subst (λ (s : RunState). root_count c.bind_compiled.new.state ≤ root_count s + 1) c.forget_gates.ensures.rest
    c.bind_compiled.ensures.roots

pub returns-in-Some-clause-roots : goal.returns-in-Some-clause-roots
returns-in-Some-clause-roots c =
    subst (λ (s : RunState). root_count c.bind_grown.new.state ≤ root_count s + 1) c.forget_gates.ensures.rest
    c.bind_grown.ensures.roots
