use Rattle.sd_unique.proofs.sweeping.drop_two.Goals as goal

pub drop_code-requires-clause-kept : goal.drop_code-requires-clause-kept
drop_code-requires-clause-kept c = c.requires.kept

pub drop_code-requires-2-clause-kept : goal.drop_code-requires-2-clause-kept
drop_code-requires-2-clause-kept c =
    let k = c.requires.kept in (k.0, k.1, k.2, c.drop_code.ensures.kept k.0 k.1 k.2 k.3)

pub drop_code-requires-3-clause-kept : goal.drop_code-requires-3-clause-kept
drop_code-requires-3-clause-kept c =
    let k = c.requires.kept in (
      k.0,
      k.1,
      k.2,
      c.drop_code-2.ensures.kept k.0 k.1 k.2 (c.drop_code.ensures.kept k.0 k.1 k.2 k.3),
    )

pub drop_code-requires-4-clause-kept : goal.drop_code-requires-4-clause-kept
drop_code-requires-4-clause-kept c =
    let k = c.requires.kept in (
      k.0,
      k.1,
      k.2,
      c.drop_code-3.ensures.kept k.0 k.1 k.2
          (c.drop_code-2.ensures.kept k.0 k.1 k.2 (c.drop_code.ensures.kept k.0 k.1 k.2 k.3)),
    )

pub returns-clause-kept : goal.returns-clause-kept
returns-clause-kept c = λ links heads places k.
    c.drop_code-4.ensures.kept links heads places
    (c.drop_code-3.ensures.kept links heads places
    (c.drop_code-2.ensures.kept links heads places (c.drop_code.ensures.kept links heads places k)))
