use Rattle.sd_cond.proofs.kept.refill.Goals as goal

pub loop-i-preserved : goal.loop-i-preserved
loop-i-preserved c = λ t f h w.
    c.put_entry.ensures t f (c.loop-i.invariant t f h w) (h c.loop-i.i _ c.loop-i-test.true)
