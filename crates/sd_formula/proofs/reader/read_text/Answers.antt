use Rattle.std.proofs.Common.{sym, ◌∙◌, arith}
use Rattle.std.proofs.lemmas.Result.{err_from_is_err_and}
use Rattle.std.specs.List.{flat_map}
use Rattle.sd_base.specs.Views.{content_left}
use Rattle.sd_formula.specs.Dimacs.{body_words, word_pieces}
use Rattle.sd_formula.specs.Steps.{no_parts, body_view}
use Rattle.sd_formula.proofs.FewWords.{few_words}
use Rattle.sd_formula.proofs.FitLaws.{nothing_fits, words_fit}
use Rattle.sd_formula.proofs.ReaderLaws.{whole, body_fails}
use Rattle.sd_formula.proofs.reader.read_text.Goals as goal

-- the fault of the body is that of the text
pub returns-in_err-body : goal.returns-in_err-body
returns-in_err-body c =
    let p = err_from_is_err_and c.from_residual-in_err-body.result c.from_residual-in_err-body.ensures.1 in
    let lines = sym c.new-lines.ensures ∙ c.in-Some.ensures.steps in
    rw (p.1, p.2) (body_fails _ _ _ _ _ _ lines c.in_ok-header.ensures.value c.in_err-body.ensures)

-- header and body have no fault
pub returns : goal.returns
returns c =
    let lines = sym c.new-lines.ensures ∙ c.in-Some.ensures.steps in
    let reading = whole _ _ _ _ _ _ lines c.in_ok-header.ensures.value c.in_ok-body.ensures in
    rw reading c.finish.ensures

-- the literals of the body are in range
pub finish-requires-clause-literals : goal.finish-requires-clause-literals
finish-requires-clause-literals c =
    let kind = c.args.kind in
    let v = c.in_ok-header.header.variables in
    let words = flat_map (word_pieces kind) (body_words (content_left c.next.new.self)) in
    words_fit kind v no_parts (body_view c.in_ok-body.body) words
    (record { closed = tt; open_part = nothing_fits kind v }) c.in_ok-body.ensures

-- there are no more words than bytes
pub read_body-requires-clause-within_limit : goal.read_body-requires-clause-within_limit
read_body-requires-clause-within_limit c =
    let lines = sym c.new-lines.ensures ∙ c.in-Some.ensures.steps in
    omega (arith, few_words c.args.bytes.now _ _ lines, c.requires)
