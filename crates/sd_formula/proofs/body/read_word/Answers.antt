use Rattle.std.proofs.Common.{◌≡◌, ◌==◌, false, length, Some, sym, ap, subst, ◌∙◌}
use Rattle.sd_formula.specs.Dimacs.{BodyWord, Gives, after_mark, has_begun}
use Rattle.sd_formula.specs.Steps.{body_view, literal_read}
use Rattle.sd_formula.proofs.ReaderLaws.{mark_joined}
use Rattle.sd_formula.proofs.body.read_word.Goals as goal

-- the mark is put, and then what is joined to it
pub returns-clause-read : goal.returns-clause-read
returns-clause-read c =
    let before = body_view c.args.body.now in
    let rest = c.in-Some.rest.now in
    let joined : BodyWord = record { line = c.args.line; bytes = rest } in
    let marks = c.in-Some.ensures in
    let begins = c.if-has_begun.ensures in
    let fills = c.if-is_empty.ensures in
    let mark : after_mark c.args.kind c.args.word.now ≡ Some rest = cc in
    let fresh : has_begun before.open_part ≡ false = cc in
    let filled : (length rest == 0) ≡ false = cc in
    let whole = mark_joined c.args.kind c.args.variables before c.args.line c.args.word.now rest mark fresh filled
    ∙ ap (λ p. literal_read c.args.variables p joined) (sym c.mark.ensures.marked) in
    subst (Gives (λ (_ : Unit {0}). body_view c.read_literal-2.new.body) c.read_literal-2.result) (sym whole)
    c.read_literal-2.ensures.read
