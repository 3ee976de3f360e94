use Rattle.std.proofs.Common.{◌≤◌, List, length, subst, sym}
use Rattle.sd_script.specs.declared.command.Command.{Command}
use Rattle.sd_script.specs.Read.{IsScript}
use Rattle.sd_script.specs.Steps.{script_view}
use Rattle.sd_script.proofs.FewLines.{few_commands}
use Rattle.sd_script.proofs.script.read_script.Goals as goal

-- what was read is a script, and its words are copied
pub returns-clause-script : goal.returns-clause-script
returns-clause-script c =
    subst (IsScript c.args.variables c.args.outputs)
    (cc (c.into_commands-commands.ensures, c.in_ok-names.ensures.names, c.in_ok-names.ensures.files))
    c.in_ok-reader.ensures.script

-- and it has a line of the text for each command
pub returns-clause-within_limit : goal.returns-clause-within_limit
returns-clause-within_limit c =
    subst (λ (l : List Command). length l ≤ 100000) (sym c.into_commands-commands.ensures)
    (few_commands c.args.variables c.args.outputs c.args.bytes.now (script_view c.in_ok-reader.reader)
    c.in_ok-reader.ensures.value)
