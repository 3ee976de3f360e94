use Rattle.sd_apply.proofs.JoiningPlaces.{lower_start}
use Rattle.sd_apply.proofs.join.lower_right.Goals as goal

pub returns-then-place_of-at : goal.returns-then-place_of-at
returns-then-place_of-at c =
    lower_start c.args.m.now c.args.at c.args.node c.args.from c.args.literals.now c.requires.at c.requires.node
    c.requires.literals
