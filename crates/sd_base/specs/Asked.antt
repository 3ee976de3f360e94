-- What is asked of a shelf: which files it is to read and to write, in order.
use Rattle.std.specs.Prelude.{◌≡◌, ℕ, ◌+◌, ◌-◌, ◌^◌, min, List, [], ◌∷◌, ◌++◌}
use Rattle.sd_base.specs.declared.memory.fault_plan.FaultPlan.{FaultPlan}
use Rattle.sd_base.specs.declared.memory.fault_plan.ShelfCall.{ShelfCall}
use Rattle.sd_base.specs.declared.memory.fault_plan.ShelfCall.TheVariants.{StartRead, StartWrite}

-- a reading or a writing of a file that is begun, also where it fails
pub data Request : Type 0 where
  ToRead : (name : List ℕ) → Request
  ToWrite : (name : List ℕ) → Request

-- Between two moments of a shelf these requests are made, in order, and no others: what may have been asked before,
-- with these behind it, may have been asked afterwards.
abbrev pub Adds : {F : Type 0} → (F → List Request → Type 0) → F → F → List Request → Type 0
Adds asked old new requests = (before : List Request) → asked old before → asked new (before ++ requests)

-- between two moments nothing is asked of a shelf
abbrev pub AsksNothing : {F : Type 0} → (F → List Request → Type 0) → F → F → Type 0
AsksNothing asked old new = (before : List Request) → asked old before → asked new before

-- how many of the requests are readings
abbrev pub readings_among : List Request → ℕ
readings_among [] = 0
readings_among (ToRead name ∷ requests) = readings_among requests + 1
readings_among (ToWrite name ∷ requests) = readings_among requests

-- how many of the requests are writings
abbrev pub writings_among : List Request → ℕ
writings_among [] = 0
writings_among (ToRead name ∷ requests) = writings_among requests
writings_among (ToWrite name ∷ requests) = writings_among requests + 1

-- These are the numbers of the readings and of the writings among the requests. A count stands at its last value.
pub record AreCounts (n m : ℕ) (requests : List Request) : Type 0 where
  pub readings : n ≡ min (readings_among requests) (2 ^ 64 - 1)
  pub writings : m ≡ min (writings_among requests) (2 ^ 64 - 1)

-- the plan of faults has counted these requests
abbrev pub AreCalls : FaultPlan → List Request → Type 0
AreCalls plan requests = AreCounts plan.start_reads plan.start_writes requests

-- a call that begins a reading or a writing is counted as one more request, and no other call is
abbrev pub CountsRequests : FaultPlan → ShelfCall → FaultPlan → Type 0
CountsRequests old StartRead new = (name : List ℕ) (before : List Request) → AreCalls old before
    → AreCalls new (before ++ ToRead name ∷ [])
CountsRequests old StartWrite new = (name : List ℕ) (before : List Request) → AreCalls old before
    → AreCalls new (before ++ ToWrite name ∷ [])
CountsRequests old call new = (before : List Request) → AreCalls old before → AreCalls new before
