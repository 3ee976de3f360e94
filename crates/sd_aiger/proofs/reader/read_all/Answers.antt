use Rattle.std.proofs.Common.{subst, arith}
use Rattle.sd_base.specs.Views.{lines_left}
use Rattle.sd_aiger.specs.Reads.{Gives}
use Rattle.sd_aiger.specs.Steps.{header_view, body_view}
use Rattle.sd_aiger.proofs.Read.{read_where_ok}
use Rattle.sd_aiger.proofs.Sections.{by_sections}
use Rattle.sd_aiger.proofs.reader.read_all.Goals as goal

-- there are enough lines, so those that were read are the sections
pub returns-clause-value : goal.returns-clause-value
returns-clause-value c =
    let enough = by_sections (header_view c.args.header.now) (lines_left c.args.lines)
    (omega (arith, c.lines-stated.ensures.value, c.if-found-stated.false, c.requires.found)) in
    subst (Gives body_view c.read_body.result) enough c.read_body.ensures.value

pub returns-clause-read : goal.returns-clause-read
returns-clause-read c =
    read_where_ok (header_view c.args.header.now) (lines_left c.args.lines) c.read_body.result
    (returns-clause-value c)
