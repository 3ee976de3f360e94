-- What a footprint of the code stands for.
use Rattle.std.specs.Prelude.{ℕ, List, [], ◌∷◌, option_to_list}
use Rattle.sd_script.specs.declared.footprint.Footprint as code
use Rattle.sd_script.specs.declared.footprint.Uses.{Uses}
use Rattle.sd_script.specs.declared.footprint.Uses.TheVariants.{Nothing, One, Two, All}
use Rattle.sd_script.specs.Footprints.{Footprint}

-- the names that are used
abbrev pub uses_view : Uses → List ℕ
uses_view Nothing = []
uses_view (One a) = a ∷ []
uses_view (Two a b) = a ∷ b ∷ []
uses_view (All names) = names.now

-- a footprint of lists
abbrev pub footprint_view : code.Footprint → Footprint
footprint_view f = record {
  uses = uses_view f.uses;
  binds = option_to_list f.binds;
  frees = option_to_list f.frees;
  writes = option_to_list f.writes;
  variables = option_to_list f.variable;
  loads = f.loads;
}
