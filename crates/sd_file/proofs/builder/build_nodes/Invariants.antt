use Rattle.std.proofs.Common.{◌≡◌, length}
use Rattle.sd_manager.specs.Valid.{IsTable}
use Rattle.sd_manager.specs.Making.{Extends}
use Rattle.sd_apply.specs.Serving.{Serves}
use Rattle.sd_file.specs.Built.{AreBuilt}
use Rattle.sd_file.proofs.builder.build_nodes.Given as goal

-- the first nodes are built
abbrev pub invariant-loop-index : goal.invariant-loop-index
invariant-loop-index l = record {
  built : AreBuilt l.m l.file l.reached l.built.items;
  all : length l.built.items ≡ l.index;
  kept : Extends l.fn.m l.m;
  serves : Serves l.c l.m;
  table : IsTable l.m;
}
