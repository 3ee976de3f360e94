-- What is asked of a shelf, in steps, and as its counts.
use Rattle.std.proofs.Common.{◌≡◌, ◌≢◌, ℕ, ◌+◌, ◌-◌, ◌^◌, min, List, [], ◌∷◌, ◌++◌, sym, ap, subst, ◌∙◌, refl, arith}
use Rattle.std.proofs.Common.{append_assoc}
use Rattle.std.proofs.lemmas.List.{append-nil}
use Rattle.sd_base.specs.Asked.{Request, ToRead, ToWrite, Adds, AsksNothing, AreCounts, AreCalls, CountsRequests}
use Rattle.sd_base.specs.Asked.{readings_among, writings_among}
use Rattle.sd_base.specs.FaultPlan.{calls_of, AreOthersKept}
use Rattle.sd_base.specs.declared.memory.fault_plan.FaultPlan.{FaultPlan}
use Rattle.sd_base.specs.declared.memory.fault_plan.ShelfCall.{ShelfCall}
use Rattle.sd_base.specs.declared.memory.fault_plan.ShelfCall.TheVariants.{StartRead, Read, StartWrite, Append, Finish}

-- requests of two parts of a time are those of the whole
pub adds_then : {F : Type 0} (asked : F → List Request → Type 0) (old mid new : F) (first later : List Request)
    → Adds asked old mid first → Adds asked mid new later → Adds asked old new (first ++ later)
adds_then asked old mid new first later a b = λ before had.
    subst (asked new) (append_assoc before first later) (b (before ++ first) (a before had))

-- a time in which nothing is asked adds no request
pub adds_none : {F : Type 0} (asked : F → List Request → Type 0) (old new : F) → AsksNothing asked old new
    → Adds asked old new []
adds_none asked old new kept = λ before had. subst (asked new) (sym (append-nil before)) (kept before had)

-- one reading more is counted
readings_more : (requests : List Request) (name : List ℕ)
    → readings_among (requests ++ ToRead name ∷ []) ≡ readings_among requests + 1
readings_more [] name = refl
readings_more (ToRead other ∷ requests) name = ap (λ n. n + 1) (readings_more requests name)
readings_more (ToWrite other ∷ requests) name = readings_more requests name

-- and is no writing
writings_same : (requests : List Request) (name : List ℕ)
    → writings_among (requests ++ ToRead name ∷ []) ≡ writings_among requests
writings_same [] name = refl
writings_same (ToRead other ∷ requests) name = writings_same requests name
writings_same (ToWrite other ∷ requests) name = ap (λ n. n + 1) (writings_same requests name)

-- one writing more is counted
writings_more : (requests : List Request) (name : List ℕ)
    → writings_among (requests ++ ToWrite name ∷ []) ≡ writings_among requests + 1
writings_more [] name = refl
writings_more (ToRead other ∷ requests) name = writings_more requests name
writings_more (ToWrite other ∷ requests) name = ap (λ n. n + 1) (writings_more requests name)

-- and is no reading
readings_same : (requests : List Request) (name : List ℕ)
    → readings_among (requests ++ ToWrite name ∷ []) ≡ readings_among requests
readings_same [] name = refl
readings_same (ToRead other ∷ requests) name = ap (λ n. n + 1) (readings_same requests name)
readings_same (ToWrite other ∷ requests) name = readings_same requests name

-- a count that stands at its last value, and one more
more : (count n : ℕ) → count ≡ min n (2 ^ 64 - 1) → min (count + 1) (2 ^ 64 - 1) ≡ min (n + 1) (2 ^ 64 - 1)
more count n is = omega (arith, is)

-- the counts after one more reading
pub counts_reading : (name : List ℕ) (readings writings after : ℕ) → after ≡ min (readings + 1) (2 ^ 64 - 1)
    → (before : List Request) → AreCounts readings writings before
    → AreCounts after writings (before ++ ToRead name ∷ [])
counts_reading name readings writings after is before was = record {
  readings = is ∙ more readings (readings_among before) was.readings
      ∙ ap (λ n. min n (2 ^ 64 - 1)) (sym (readings_more before name));
  writings = was.writings ∙ ap (λ n. min n (2 ^ 64 - 1)) (sym (writings_same before name));
}

-- the counts after one more writing
pub counts_writing : (name : List ℕ) (readings writings after : ℕ) → after ≡ min (writings + 1) (2 ^ 64 - 1)
    → (before : List Request) → AreCounts readings writings before
    → AreCounts readings after (before ++ ToWrite name ∷ [])
counts_writing name readings writings after is before was = record {
  readings = was.readings ∙ ap (λ n. min n (2 ^ 64 - 1)) (sym (readings_same before name));
  writings = is ∙ more writings (writings_among before) was.writings
      ∙ ap (λ n. min n (2 ^ 64 - 1)) (sym (writings_more before name));
}

-- the plan counts a reading that is begun
calls_reading : (name : List ℕ) (old new : FaultPlan)
    → calls_of new StartRead ≡ min (calls_of old StartRead + 1) (2 ^ 64 - 1) → AreOthersKept old StartRead new
    → (before : List Request) → AreCalls old before → AreCalls new (before ++ ToRead name ∷ [])
calls_reading name old new is others before was =
    subst (λ w. AreCounts new.start_reads w (before ++ ToRead name ∷ [])) (sym (others StartWrite (λ e. cc)))
    (counts_reading name old.start_reads old.start_writes new.start_reads is before was)

-- the plan counts a writing that is begun
calls_writing : (name : List ℕ) (old new : FaultPlan)
    → calls_of new StartWrite ≡ min (calls_of old StartWrite + 1) (2 ^ 64 - 1) → AreOthersKept old StartWrite new
    → (before : List Request) → AreCalls old before → AreCalls new (before ++ ToWrite name ∷ [])
calls_writing name old new is others before was =
    subst (λ r. AreCounts r new.start_writes (before ++ ToWrite name ∷ [])) (sym (others StartRead (λ e. cc)))
    (counts_writing name old.start_reads old.start_writes new.start_writes is before was)

-- the other calls count neither
calls_other : (old new : FaultPlan) (call : ShelfCall) → StartRead ≢ call → StartWrite ≢ call
    → AreOthersKept old call new → (before : List Request) → AreCalls old before → AreCalls new before
calls_other old new call no_reading no_writing others before was = record {
  readings = others StartRead no_reading ∙ was.readings;
  writings = others StartWrite no_writing ∙ was.writings;
}

-- what each call counts
pub counts_requests : (old new : FaultPlan) (call : ShelfCall)
    → calls_of new call ≡ min (calls_of old call + 1) (2 ^ 64 - 1) → AreOthersKept old call new
    → CountsRequests old call new
counts_requests old new StartRead is others = λ name. calls_reading name old new is others
counts_requests old new StartWrite is others = λ name. calls_writing name old new is others
counts_requests old new Read is others = calls_other old new Read (λ e. cc) (λ e. cc) others
counts_requests old new Append is others = calls_other old new Append (λ e. cc) (λ e. cc) others
counts_requests old new Finish is others = calls_other old new Finish (λ e. cc) (λ e. cc) others
