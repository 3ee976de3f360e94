use Rattle.std.proofs.Common.{sym, ◌∙◌, arith, []}
use Rattle.sd_base.specs.Views.{content_left}
use Rattle.sd_file.specs.Steps.{nodes_view}
use Rattle.sd_file.proofs.FitLaws.{no_entries, after_fits}
use Rattle.sd_file.proofs.FewWords.{few_words}
use Rattle.sd_file.proofs.reader.read_text.Goals as goal

-- there are no more words than bytes
pub read_nodes-requires-clause-within_limit : goal.read_nodes-requires-clause-within_limit
read_nodes-requires-clause-within_limit c =
    let lines = sym c.new-lines.ensures ∙ c.in-Some.ensures.steps in
    omega (arith, few_words c.args.bytes.now _ _ lines, c.requires.fits)

-- an accepted text fits, and its ids are distinct
pub finish-requires-clause-fit : goal.finish-requires-clause-fit
finish-requires-clause-fit c =
    (after_fits c.args.variables (content_left c.next.new.self) [] (nodes_view c.in_ok-nodes.nodes) no_entries
    c.in_ok-nodes.ensures.value).fit

pub finish-requires-clause-distinct : goal.finish-requires-clause-distinct
finish-requires-clause-distinct c =
    (after_fits c.args.variables (content_left c.next.new.self) [] (nodes_view c.in_ok-nodes.nodes) no_entries
    c.in_ok-nodes.ensures.value).distinct
