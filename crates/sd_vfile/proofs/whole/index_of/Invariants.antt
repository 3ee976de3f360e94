use Rattle.std.proofs.Common.{◌≡◌, ◌<◌, ◌-◌, length, true, drop}
use Rattle.sd_vfile.specs.Reads.{has_id}
use Rattle.sd_vfile.specs.Steps.{entries_of, tree_with}
use Rattle.sd_vfile.proofs.whole.index_of.Given as goal

-- the first line with the id is still to come
abbrev pub invariant-loop-index : goal.invariant-loop-index
invariant-loop-index l = record {
  within : l.index < length l.forms;
  there : has_id l.id (drop l.index (entries_of l.forms)) ≡ true;
  same : tree_with l.id (drop l.index (entries_of l.forms)) ≡ tree_with l.id (entries_of l.forms);
}

abbrev pub decreases-loop-index : goal.decreases-loop-index
decreases-loop-index l = length l.forms - l.index
