use Rattle.std.proofs.lemmas.Result.{on_err_weaker}
use Rattle.sd_tool.proofs.PartLemmas.{part_of_first, part_of_second, at_err}
use Rattle.sd_tool.proofs.parts.write_both.Goals as goal

pub returns-in_err-write_all-clause-err : goal.returns-in_err-write_all-clause-err
returns-in_err-write_all-clause-err g c =
    at_err _ (part_of_first _ _ c.args.first.now c.args.second.now c.in_err-write_all.ensures.err)

pub returns-clause-err : goal.returns-clause-err
returns-clause-err g c =
    on_err_weaker c.write_all-2.result
    (part_of_second _ _ _ c.args.first.now c.args.second.now c.in_ok-write_all.ensures.ok) c.write_all-2.ensures.err
