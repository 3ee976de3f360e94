use Rattle.std.proofs.Common.{refl, sym, subst}
use Rattle.sd_script.specs.Read.{IsScript}
use Rattle.sd_script.specs.Scripts.{Script}
use Rattle.sd_script.specs.Steps.{script_view}
use Rattle.sd_script.specs.Tables.{table_words}
use Rattle.sd_script.proofs.Allowed.{more}
use Rattle.sd_script.proofs.reader.Reader.read_command.Goals as goal

-- the command can be done after the others
pub returns-clause-script : goal.returns-clause-script
returns-clause-script c = λ h.
    let v = c.args.variables in
    let o = c.args.outputs in
    let s = script_view c.args.self.now in
    let t : Script = record {
      commands = s.commands;
      names = table_words c.command.new.self.names;
      files = table_words c.command.new.self.files;
    } in
    subst (IsScript v o) (sym c.in_ok-put.ensures)
    (more v o s t c.args.line.now.number c.in-Ok.action refl c.in-Ok.ensures.makes c.in_ok-check.ensures.value h)
