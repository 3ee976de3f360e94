use Rattle.sd_apply.specs.Serving.{Serves}
use Rattle.sd_sweep.specs.Falling.{NeverFalls}
use Rattle.sd_search.specs.WalksInARow.{KeepBefore}
use Rattle.sd_search.proofs.SearchOn.{IsSearching}
use Rattle.sd_search.proofs.searching.minimise.Given as goal

-- what the rounds so far led to
abbrev pub invariant-loop-done : goal.invariant-loop-done
invariant-loop-done l = record {
  searching : IsSearching l.fn.m l.m l.rounds l.slack l.root l.before l.done l.reached.size;
  in_a_row : KeepBefore l.m l.slack l.root l.reached.kept;
  serves : Serves l.c l.m;
  never : NeverFalls l.fn.m l.m;
}
