use Rattle.std.proofs.Common.{◌≤◌, sym, subst, map}
use Rattle.std.proofs.lemmas.List.{length-map}
use Rattle.sd_model.specs.Seen.{diagram_of}
use Rattle.sd_model.proofs.TextBack.{roots_text_back}
use Rattle.sd_model.proofs.laws.text_injective.Goals as goal

-- each list of roots is determined by its text
pub returns : goal.returns
returns c =
    roots_text_back (map diagram_of c.args.a.now) (map diagram_of c.args.b.now)
    (subst (λ n. 1 ≤ n) (sym (length-map c.args.a.now diagram_of)) c.requires.first_some)
    (subst (λ n. 1 ≤ n) (sym (length-map c.args.b.now diagram_of)) c.requires.second_some) c.requires.same_text
