-- An input that is compiled with searches behind its groups: what is so between two groups, and at the end.
use Rattle.std.specs.Prelude.{◌≡◌, ℕ, suc, length}
use Rattle.std.specs.Option.{IsSome}
use Rattle.std.specs.FinMap.{get, remove}
use Rattle.sd_model.specs.Tree.{leaves}
use Rattle.sd_formula.specs.Dimacs.{Groups}
use Rattle.sd_formula.specs.Formulas.{expression_of}
use Rattle.sd_vtree.specs.Numbered.{plain_tree}
use Rattle.sd_compile.specs.Compiling.{CompiledPrefix, HoldsPrefix}
use Rattle.sd_commands.specs.Commands.{State, AreWithin, Grows, with_groups}
use Rattle.sd_commands.specs.Standing.{Represents, HoldsValue, IsGrown, AreForgotten, without}
use Rattle.sd_commands.specs.declared.state.RunState.{RunState}

-- So many groups are compiled into a root that no name has. Without it the code represents the state over the tree to
-- which they lead. No node of the circuit's gates is kept.
pub record IsGrowing (input : Groups) (seen : State) (code : RunState) (work : CompiledPrefix) : Type 0 where
  pub represents : Represents (without code work.root) (record seen { tree = plain_tree code.manager.vtree })
  pub holds : HoldsPrefix code.manager input work
  pub course : Grows input seen work.groups (plain_tree code.manager.vtree)
  pub forgotten : AreForgotten code.shared

-- The same before the search behind the last of them, if one is due.
pub record IsAdded (input : Groups) (seen : State) (code : RunState) (work : CompiledPrefix) : Type 0 where
  pub represents : Represents (without code work.root) (record seen { tree = plain_tree code.manager.vtree })
  pub holds : HoldsPrefix code.manager input work
  pub done : ℕ
  pub next : work.groups ≡ suc done
  pub course : Grows input seen done (plain_tree code.manager.vtree)
  pub within : AreWithin (with_groups input seen (suc done)) (plain_tree code.manager.vtree) seen.limit
  pub forgotten : AreForgotten code.shared

-- It was broken off: without the root the code represents the state over the tree after the walks that were finished.
pub record IsBrokenOff (input : Groups) (seen : State) (code : RunState) (root : ℕ) : Type 0 where
  pub represents : Represents (without code root) (record seen { tree = plain_tree code.manager.vtree })
  pub held : IsSome (get code.manager.roots root)
  pub grown : IsGrown input seen (plain_tree code.manager.vtree)

-- all groups are compiled into a root that no name has
pub record HasGrown (input : Groups) (seen : State) (code : RunState) (root : ℕ) : Type 0 where
  pub represents : Represents (without code root) (record seen { tree = plain_tree code.manager.vtree })
  pub holds : HoldsValue code.manager root (expression_of input)
  pub course : Grows input seen (length input.groups) (plain_tree code.manager.vtree)

-- the code is the same but for the manager, the cache and the roots without this one
pub record IsSameBeside (old new : RunState) (root : ℕ) : Type 0 where
  pub rest : new ≡ record old { manager = new.manager; cache = new.cache }
  pub roots : remove new.manager.roots root ≡ remove old.manager.roots root
  pub variables : leaves (plain_tree new.manager.vtree) ≡ leaves (plain_tree old.manager.vtree)
