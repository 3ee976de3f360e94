use Rattle.std.proofs.Common.{◌≡◌, ℕ, ◌<◌, length}
use Rattle.std.specs.FinMap.{get}
use Rattle.sd_vtree.specs.Numbered.{plain_tree}
use Rattle.sd_manager.specs.Valid.{IsTable}
use Rattle.sd_manager.specs.Making.{Extends}
use Rattle.sd_apply.specs.Serving.{Serves}
use Rattle.sd_check.specs.declared.rules.Rule.{Rule}
use Rattle.sd_check.specs.Judging.{AreSound}
use Rattle.sd_check.specs.Rules.{IsBroken}
use Rattle.sd_check.proofs.checker.check.Given as goal

-- the first nodes break no rule, and stand for theirs
abbrev pub invariant-loop-index : goal.invariant-loop-index
invariant-loop-index l = record {
  sound : AreSound l.m (get l.ids) l.file l.built.items;
  unbroken : (j : ℕ) (r : Rule) → j < l.index → ¬ IsBroken (plain_tree l.fn.m.vtree) (get l.ids) l.file j r;
  all : length l.built.items ≡ l.index;
  kept : Extends l.fn.m l.m;
  serves : Serves l.c l.m;
  table : IsTable l.m;
}
