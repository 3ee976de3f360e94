use Rattle.sd_apply.proofs.Survivors.{blank_sifted, numbers_survive, sifted_kept}
use Rattle.sd_apply.proofs.surviving.drop_unless_standing.Goals as goal

-- all three numbers stand
pub returns-then-is_standing-3-clause-sifted : goal.returns-then-is_standing-3-clause-sifted
returns-then-is_standing-3-clause-sifted c = λ before h.
    let seen = c.numbers-first.ensures in
    sifted_kept c.args.m.now before c.args.c.now.computed c.args.index h
    (numbers_survive c.args.m.now c.args.c.now.computed c.computed.result.now c.args.index c.numbers-first.result.0
    c.numbers-first.result.1 c.numbers-first.result.2 c.computed.ensures seen.first seen.second seen.answer
    (c.is_standing.ensures c.if-is_standing.true)
    (c.is_standing-then-is_standing.ensures c.if-is_standing-2.true)
    (c.is_standing-then-is_standing-2.ensures c.if-is_standing-3.true))

-- the entry is blank
pub returns-clause-sifted : goal.returns-clause-sifted
returns-clause-sifted c = λ before h.
    blank_sifted c.args.m.now before c.args.c.now c.blank.new.self c.args.index c.blank.ensures c.requires h
