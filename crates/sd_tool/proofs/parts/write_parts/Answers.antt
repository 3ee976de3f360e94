use Rattle.std.proofs.lemmas.Result.{on_err_weaker}
use Rattle.std.proofs.Common.{◌++◌, List, ℕ, subst}
use Rattle.sd_base.proofs.FileLemmas.{told_then_more}
use Rattle.sd_base.specs.Sink.{AppendsPart}
use Rattle.sd_tool.specs.Parts.{number_seen}
use Rattle.sd_tool.proofs.PartLemmas.{part_of_first, part_of_second, at_err, parts_joined}
use Rattle.sd_tool.proofs.parts.write_parts.Goals as goal

pub returns-in_err-write_both-clause-err : goal.returns-in_err-write_both-clause-err
returns-in_err-write_both-clause-err g c =
    let p = c.args.parts.now in
    let a = p.subject.now ++ p.before.now in
    let b = number_seen p.first ++ p.between.now in
    let d = number_seen p.second ++ p.after.now in
    at_err _
    (subst (λ (l : List ℕ). AppendsPart (g.E.Sink.written c.args.err.now) l (g.E.Sink.written c.write_both.new.err))
    (parts_joined a (number_seen p.first) p.between.now (number_seen p.second) p.after.now)
    (part_of_first _ _ (a ++ b) d (part_of_first _ _ a b c.in_err-write_both.ensures.err)))

pub returns-in_err-write_number-clause-err : goal.returns-in_err-write_number-clause-err
returns-in_err-write_number-clause-err g c =
    let p = c.args.parts.now in
    let a = p.subject.now ++ p.before.now in
    let b = number_seen p.first ++ p.between.now in
    let d = number_seen p.second ++ p.after.now in
    at_err _
    (subst (λ (l : List ℕ). AppendsPart (g.E.Sink.written c.args.err.now) l (g.E.Sink.written c.write_number.new.err))
    (parts_joined a (number_seen p.first) p.between.now (number_seen p.second) p.after.now)
    (part_of_first _ _ (a ++ b) d
    (part_of_second _ _ _ a b c.in_ok-write_both.ensures.ok c.in_err-write_number.ensures.err)))

pub returns-clause-err : goal.returns-clause-err
returns-clause-err g c =
    let p = c.args.parts.now in
    let a = p.subject.now ++ p.before.now in
    let b = number_seen p.first ++ p.between.now in
    let d = number_seen p.second ++ p.after.now in
    let two = told_then_more _ _ _ a b c.in_ok-write_both.ensures.ok c.in_ok-write_number.ensures.ok in
    on_err_weaker c.write_number-2.result
    (λ part.
    subst (λ (l : List ℕ). AppendsPart (g.E.Sink.written c.args.err.now) l (g.E.Sink.written c.write_number-2.new.err))
    (parts_joined a (number_seen p.first) p.between.now (number_seen p.second) p.after.now)
    (part_of_second _ _ _ (a ++ b) d two part))
    c.write_number-2.ensures.err
