use Rattle.std.proofs.Common.{◌≡◌}
use Rattle.sd_commands.specs.Commands.{State}
use Rattle.sd_commands.specs.Growing.{IsGrowing, IsSameBeside}
use Rattle.sd_commands.proofs.growth.grow_all.Given as goal

-- what the groups so far led to
abbrev pub invariant-loop-index : goal.invariant-loop-index
invariant-loop-index l = record {
  growing : (seen : State) → IsGrowing l.input seen l.fn.state l.fn.work → IsGrowing l.input seen l.state l.work;
  groups : l.work.groups ≡ l.index;
  root : l.work.root ≡ l.fn.work.root;
  beside : IsSameBeside l.fn.state l.state l.fn.work.root;
}
