use Rattle.std.proofs.Common.{inl, ap, arith, length}
use Rattle.sd_aiger.proofs.Counting.{few_lines}
use Rattle.sd_aiger.proofs.reader.count_lines.Goals as goal

-- there are not many more lines than bytes
pub count-requires-clause-fits : goal.count-requires-clause-fits
count-requires-clause-fits c =
    inl (omega (arith, ap length c.new.ensures, few_lines 1 c.args.bytes.now, c.requires))
