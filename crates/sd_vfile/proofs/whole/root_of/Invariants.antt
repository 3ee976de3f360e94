use Rattle.sd_vfile.specs.Steps.{entries_of}
use Rattle.sd_vfile.proofs.Roots.{RootsTo}
use Rattle.sd_vfile.proofs.whole.root_of.Given as goal

-- the roots so far, and the last of them
abbrev pub invariant-loop-index : goal.invariant-loop-index
invariant-loop-index l = RootsTo (entries_of l.forms) l.index l.roots l.root
