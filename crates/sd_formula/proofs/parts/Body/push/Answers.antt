use mir.Val.{SFits}
use Rattle.std.proofs.Common.{ap, ◌∙◌, rules, w32}
use Rattle.std.specs.Prelude.{is_ok}
use Rattle.std.proofs.lemmas.Int.{to_z-of_z}
use Rattle.sd_formula.specs.Steps.{parts_of, extended}
use Rattle.sd_formula.proofs.FlatLaws.{ends_after, literal_is}
use Rattle.sd_formula.proofs.parts.Body.push.Goals as goal

pub invariant_of-self : goal.invariant_of-self
invariant_of-self c =
    let body = c.args.self.now in
    let later = c.put_last.new.list.items in
    record { rise = ends_after (is_ok c.put_last.result) _ body.literals.items later _ body.rise c.put_last.ensures }

-- the literal is the last of the part in hand
pub returns-clause-ok : goal.returns-clause-ok
returns-clause-ok c =
    let body = c.args.self.now in
    let fits : SFits w32 c.args.literal = search rules in
    let exact = to_z-of_z w32 c.args.literal fits in
    ap (λ literals. parts_of body.ends.items literals body.exclusive) c.in_ok-put_last.ensures
    ∙ literal_is body.ends.items body.literals.items body.exclusive _ body.rise
    ∙ ap (extended (parts_of body.ends.items body.literals.items body.exclusive)) exact
