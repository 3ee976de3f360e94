-- The parts of the footprint of a command one by one, and of earlier commands together, for the contracts of private
-- functions, and for proofs.
use Rattle.std.specs.Prelude.{ℕ, Bool, not, List, ◌++◌, filter, flat_map, count_by}
use Rattle.sd_script.specs.declared.command.Action.{Action}
use Rattle.sd_script.specs.declared.command.Command.{Command}
use Rattle.sd_script.specs.Footprints.{footprint}
pub use Rattle.sd_script.specs.Footprints.{has, bound}

-- the names that must be bound
abbrev pub uses : Action → List ℕ
uses action = (footprint action).uses

-- the name that must be free, and is bound then
abbrev pub binds : Action → List ℕ
binds action = (footprint action).binds

-- the name that is free then
abbrev pub frees : Action → List ℕ
frees action = (footprint action).frees

-- the file that is written
abbrev pub writes : Action → List ℕ
writes action = (footprint action).writes

-- the command reads a file
abbrev pub is_load : Action → Bool
is_load action = (footprint action).loads

-- ---- what earlier commands leave

-- the bound names after one more command
abbrev pub bound_after : List ℕ → Command → List ℕ
bound_after names c = (footprint c.action).binds ++ filter (λ n. not (has (footprint c.action).frees n)) names

-- the files that commands write
abbrev pub written_files : List Command → List ℕ
written_files earlier = flat_map (λ c. (footprint c.action).writes) earlier

-- how many commands load a file
abbrev pub loads : List Command → ℕ
loads earlier = count_by (λ c. (footprint c.action).loads) earlier
