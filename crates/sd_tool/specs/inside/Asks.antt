-- Where a run goes by its readings and then by its plan, and what it asks of the shelf: the files of its readings, in
-- order, and then those that its effects write. For the contracts of private functions and for proofs.
use Rattle.std.specs.Prelude.{◌≡◌, ◌⊎◌, ℕ, List, [], ◌∷◌, ◌++◌, map, flat_map, Option, None}
use Rattle.sd_base.specs.Asked.{Request, ToRead}
use Rattle.sd_base.specs.Files.{Files}
use Rattle.sd_manager.specs.Table.{Table}
use Rattle.sd_commands.specs.Effects.{Effect}
use Rattle.sd_tool.specs.Readings.{Point, Refuses, Reads, reading_of}
use Rattle.sd_tool.specs.Course.{Goes, asked_by}
use Rattle.sd_tool.specs.Ends.{End, Refused, Unreadable, Unwritable, OutOfMemory}
use Rattle.sd_tool.specs.inside.Course.{EndsAmong}
use Rattle.sd_tool.specs.inside.Kept.{KeepsOf}
use Rattle.sd_tool.specs.inside.Plans.{Plan, point_of}

-- no request at all
abbrev pub IsNone : List Request → Type 0
IsNone requests = requests ≡ []

-- ---- the readings

-- over these files, the readings ask for files of these names, in order, each of which is read, and come to this point
abbrev pub ReadsBy : Option Files → Point → List (List ℕ) → Point → Type 0
ReadsBy files reading names point = Goes files reading names [] point

-- they come to it by some files
abbrev pub MayComeTo : Option Files → Point → Point → Type 0
MayComeTo files reading point = (names : List (List ℕ)) × ReadsBy files reading names point

-- the readings come to this point, and no more is asked than the files that are read
pub record ComesTo (asks : List Request → Type 0) (files : Option Files) (reading point : Point) : Type 0 where
  pub names : List (List ℕ)
  pub asked : asks (map ToRead names)
  pub reads : ReadsBy files reading names point

-- the readings come to this file, and it is the last that is asked for
abbrev pub AsksLast : (List Request → Type 0) → Option Files → Point → List ℕ → Type 0
AsksLast asks files reading file = (next : Option (List ℕ) → Point)
    × ComesTo (λ earlier. asks (earlier ++ ToRead file ∷ [])) files reading (Reads file next)

-- the readings break off between two files, or at a file that is asked for
abbrev pub BreaksOff : (List Request → Type 0) → Option Files → Point → Type 0
BreaksOff asks files reading =
    ((point : Point) × ComesTo asks files reading point) ⊎ ((file : List ℕ) × AsksLast asks files reading file)

-- ---- the whole run

-- the writings of these effects, in order
abbrev pub writings : List Effect → List Request
writings effects = flat_map asked_by effects

-- the effects that are begun: where the effect in hand fails, it is the last
abbrev pub begun : List Effect → End → List Effect
begun effects (Unwritable effect) = effects ++ effect ∷ []
begun effects end = effects

-- the run ends at its readings, before any command, and asks for no more than they do
abbrev pub EndsAsking : (List Request → Type 0) → Option Files → Point → End → Type 0
EndsAsking asks files reading (Refused answer) = ComesTo asks files reading (Refuses answer)
EndsAsking asks files reading (Unreadable file) = AsksLast asks files reading file
EndsAsking asks files reading OutOfMemory = BreaksOff asks files reading
EndsAsking asks files reading end = ⊥

-- After these effects, a run with these words over these files comes to this end, at which this is kept, and it asks of
-- the shelf what its readings ask, and then the writings of the effects that are begun.
abbrev pub GoesTo : (List Request → Type 0) → List (List ℕ) → Option Files → List Effect → End → Option Table → Type 0
GoesTo asks words files effects end kept =
    (EndsAsking asks files (reading_of words) end × (effects ≡ []) × (kept ≡ None))
    ⊎ ((plan : Plan)
    × ComesTo (λ readings. asks (readings ++ writings (begun effects end))) files (reading_of words) (point_of plan)
    × EndsAmong plan effects end × KeepsOf plan effects end kept)
