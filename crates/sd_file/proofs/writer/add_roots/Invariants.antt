use Rattle.sd_file.proofs.Roots.{HaveWalked}
use Rattle.sd_file.proofs.writer.add_roots.Given as goal

-- the roots so far are walked
abbrev pub invariant-loop-node : goal.invariant-loop-node
invariant-loop-node l = HaveWalked l.m l.nodes l.node-index l.fn.listing l.listing
