-- Faults that come by plan.
use Rattle.std.specs.Prelude.{◌≡◌, ◌≢◌, ℕ, ◌+◌, ◌-◌, ◌^◌, min, List, Contains, Result, IsErr}
use Rattle.sd_base.specs.declared.memory.fault_plan.FaultPlan.{FaultPlan}
use Rattle.sd_base.specs.declared.memory.fault_plan.PlannedFault.{PlannedFault}
use Rattle.sd_base.specs.declared.memory.fault_plan.ShelfCall.{ShelfCall}
use Rattle.sd_base.specs.declared.memory.fault_plan.ShelfCall.TheVariants.{StartRead, Read, StartWrite, Append, Finish}

-- how many calls of this kind there were
abbrev pub calls_of : FaultPlan → ShelfCall → ℕ
calls_of plan StartRead = plan.start_reads
calls_of plan Read = plan.reads
calls_of plan StartWrite = plan.start_writes
calls_of plan Append = plan.appends
calls_of plan Finish = plan.finishes

-- the nth call of this kind is to fail
abbrev pub IsPlanned : FaultPlan → ShelfCall → ℕ → Type 0
IsPlanned plan call nth = Contains plan.planned.items (record { call = call; nth = nth })

-- the counts of the other kinds of calls are as they were
abbrev pub AreOthersKept : FaultPlan → ShelfCall → FaultPlan → Type 0
AreOthersKept old call new = (other : ShelfCall) → other ≢ call → calls_of new other ≡ calls_of old other

-- a call of this kind is counted, alone, and fails where that is planned; the plan stays
pub record GoesByPlan {T E : Type 0} (old : FaultPlan) (call : ShelfCall) (new : FaultPlan) (result : Result T E)
    : Type 0 where
  pub counted : calls_of new call ≡ min (calls_of old call + 1) (2 ^ 64 - 1)
  pub others : AreOthersKept old call new
  pub fails : IsPlanned old call (calls_of new call) → IsErr result
  pub kept : new.planned.items ≡ old.planned.items

-- these faults are planned, and no call was made yet
pub record IsNewPlan (planned : List PlannedFault) (plan : FaultPlan) : Type 0 where
  pub faults : plan.planned.items ≡ planned
  pub calls : (call : ShelfCall) → calls_of plan call ≡ 0
