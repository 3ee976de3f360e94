use Rattle.std.proofs.Common.{◌++◌, ◌∷◌, [], List, ℕ, subst, ◌∙◌, ap}
use Rattle.std.specs.Prelude.{codes}
use Rattle.sd_base.proofs.FileLemmas.{told_then_more}
use Rattle.sd_base.specs.Sink.{told_then, AppendsPart}
use Rattle.sd_tool.specs.Parts.{parts_text}
use Rattle.sd_tool.proofs.PartLemmas.{part_of_first, part_of_second, line_is}
use Rattle.sd_tool.proofs.parts.write_halves.Goals as goal

pub returns-in_default-clause-err : goal.returns-in_default-clause-err
returns-in_default-clause-err g c =
    let a = parts_text c.args.line.now.front in
    let b = parts_text c.args.line.now.back in
    subst (λ (l : List ℕ). AppendsPart (g.E.Sink.written c.args.err.now) l (g.E.Sink.written c.write_all.new.sink))
    (line_is a b)
    (part_of_first _ _ (codes "sddc: " ++ a ++ b) (10 ∷ []) (part_of_first _ _ (codes "sddc: " ++ a) b
    (part_of_first _ _ (codes "sddc: ") a c.in_default.ensures.err)))

pub returns-in_default-write_parts-clause-err : goal.returns-in_default-write_parts-clause-err
returns-in_default-write_parts-clause-err g c =
    let a = parts_text c.args.line.now.front in
    let b = parts_text c.args.line.now.back in
    subst (λ (l : List ℕ). AppendsPart (g.E.Sink.written c.args.err.now) l (g.E.Sink.written c.write_parts.new.err))
    (line_is a b)
    (part_of_first _ _ (codes "sddc: " ++ a ++ b) (10 ∷ []) (part_of_first _ _ (codes "sddc: " ++ a) b
    (part_of_second _ _ _ (codes "sddc: ") a c.in-Ok.ensures.ok c.in_default-write_parts.ensures.err)))

pub returns-in_default-write_parts-2-clause-err : goal.returns-in_default-write_parts-2-clause-err
returns-in_default-write_parts-2-clause-err g c =
    let a = parts_text c.args.line.now.front in
    let b = parts_text c.args.line.now.back in
    let two = told_then_more _ _ _ (codes "sddc: ") a c.in-Ok.ensures.ok c.in-Ok-write_parts.ensures.ok in
    subst (λ (l : List ℕ). AppendsPart (g.E.Sink.written c.args.err.now) l (g.E.Sink.written c.write_parts-2.new.err))
    (line_is a b)
    (part_of_first _ _ (codes "sddc: " ++ a ++ b) (10 ∷ [])
    (part_of_second _ _ _ (codes "sddc: " ++ a) b two c.in_default-write_parts-2.ensures.err))

pub returns-in-Ok-write_all-clause-ok : goal.returns-in-Ok-write_all-clause-ok
returns-in-Ok-write_all-clause-ok g c =
    let a = parts_text c.args.line.now.front in
    let b = parts_text c.args.line.now.back in
    let two = told_then_more _ _ _ (codes "sddc: ") a c.in-Ok.ensures.ok c.in-Ok-write_parts.ensures.ok in
    let three = told_then_more _ _ _ (codes "sddc: " ++ a) b two c.in-Ok-write_parts-2.ensures.ok in
    told_then_more _ _ _ (codes "sddc: " ++ a ++ b) (10 ∷ []) three c.in-Ok-write_all.ensures.ok
    ∙ ap (told_then (g.E.Sink.written c.args.err.now)) (line_is a b)

pub returns-in-Err-clause-err : goal.returns-in-Err-clause-err
returns-in-Err-clause-err g c =
    let a = parts_text c.args.line.now.front in
    let b = parts_text c.args.line.now.back in
    let two = told_then_more _ _ _ (codes "sddc: ") a c.in-Ok.ensures.ok c.in-Ok-write_parts.ensures.ok in
    let three = told_then_more _ _ _ (codes "sddc: " ++ a) b two c.in-Ok-write_parts-2.ensures.ok in
    subst (λ (l : List ℕ). AppendsPart (g.E.Sink.written c.args.err.now) l (g.E.Sink.written c.write_all-2.new.sink))
    (line_is a b)
    (part_of_second _ _ _ (codes "sddc: " ++ a ++ b) (10 ∷ []) three c.in-Err.ensures.err)
