use Rattle.sd_manager.specs.Valid.{IsTable}
use Rattle.sd_manager.specs.Making.{Extends}
use Rattle.sd_apply.specs.Answers.{HasAnswer}
use Rattle.sd_apply.specs.Serving.{Serves}
use Rattle.sd_file.proofs.Building.{front_value}
use Rattle.sd_file.proofs.builder.join.Given as goal

-- the node has the value of the first pairs
abbrev pub invariant-loop-element : goal.invariant-loop-element
invariant-loop-element l = record {
  shown : HasAnswer l.m (front_value l.file l.index l.element) l.node;
  kept : Extends l.fn.m l.m;
  serves : Serves l.c l.m;
  table : IsTable l.m;
}
