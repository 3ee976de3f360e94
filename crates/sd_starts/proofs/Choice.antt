-- The choice among three answers, by what the one that decides comes to.
use Rattle.std.proofs.Common.{◌≡◌, ℕ, ◌<◌, Bool, true, false, refl, sym, ap, subst, ◌∙◌, arith, Result, Ok, Err}
use Rattle.std.specs.Prelude.{MatchResult, IfOk, IfErr, List, [], ◌∷◌, slice_index_or, ◌&&◌, if◌then◌else◌}
use Rattle.std.specs.declared.alloc.AllocError.{AllocError}
use Rattle.sd_vtree.specs.Numbered.{plain_tree}
use Rattle.sd_formula.specs.Dimacs.{Groups}
use Rattle.sd_compile.specs.declared.error.CompileError.{CompileError}
use Rattle.sd_compile.specs.declared.error.CompileError.TheVariants as refused
use Rattle.sd_starts.specs.Starts.{StartEnd, Ended, Passed, IsLeast, PassesAtEach, AllPassed}
use Rattle.sd_starts.specs.Starts.{IsChoice, IsChosenStart, IsChoiceRefused, IsNoChoice, IsEndAt}
use Rattle.sd_starts.specs.Starts.{rank, tree_of_start, AnswersStart, IsDoneAt, IsStoppedAt, IsSearchedTo}
use Rattle.sd_starts.specs.Starts.{HadRoom, MayHaveRoom}
use Rattle.sd_starts.specs.Deciding.{decider, judged, judged_end, is_stopped, is_less, Decides}
use Rattle.sd_starts.specs.Deciding.{IsHeldAt, IsRefusedStart, AnswerEach}
use Rattle.sd_starts.specs.declared.start.Start.{Start}
use Rattle.sd_starts.specs.declared.start.Start.TheVariants.{Balanced, Right, Left}
use Rattle.sd_starts.specs.declared.start.Settings.{Settings}
use Rattle.sd_starts.specs.declared.work.Done.{Done}
use Rattle.sd_starts.specs.declared.work.StartAnswer.{StartAnswer}
use Rattle.sd_starts.specs.declared.choosing.Judged.{Judged}
use Rattle.sd_starts.specs.declared.choosing.Judged.TheVariants as shown
use Rattle.sd_starts.specs.declared.choosing.Chosen.{Chosen}
use Rattle.sd_starts.specs.declared.choosing.Refused.{Refused}
use Rattle.sd_starts.proofs.BestOfThree.{ends, shown_of, decided, least_decided, passed_decided}

-- what the answer of a start shows
abbrev pub shown_at : Judged → Judged → Judged → Start → Judged
shown_at x y z Balanced = x
shown_at x y z Right = y
shown_at x y z Left = z

ended_goes_on : (j : Judged) (n : ℕ) → is_stopped j ≡ true → j ≡ shown.Ended n → ⊥
ended_goes_on j n stops is = let bad : false ≡ true = ap is_stopped (sym is) ∙ stops in absurd cc

passed_goes_on : (j : Judged) → is_stopped j ≡ true → j ≡ shown.Passed → ⊥
passed_goes_on j stops is = let bad : false ≡ true = ap is_stopped (sym is) ∙ stops in absurd cc

-- Where room or memory lacked at the start that decides, and the work ended at each before it, its refusal is that of
-- the choice.
refused_stop : (f : Groups) (settings : Settings) (start : Start)
    → ((other : Start) → rank other < rank start → MayHaveRoom f settings other) → (j : Judged)
    → (result : Result Chosen Refused) → is_stopped j ≡ true → Decides f settings start j result
    → MatchResult result (IsChosenStart f settings) (IsChoiceRefused f settings)
refused_stop f settings start earlier j (Ok chosen) stops d = absurd (ended_goes_on j chosen.size stops d.1)
refused_stop f settings start earlier j (Err refusal) stops d = go refusal.error d
  where
    go : (e : CompileError) → IsRefusedStart f settings start j e refusal.manager
        → IsNoChoice f settings e refusal.manager
    go (refused.OverLimit group size limit) k = absurd (passed_goes_on j stops k.3)
    go (refused.ArenaFull elements) k = (k.0, k.1, record { start = start; full = k.2; earlier = earlier })
    go refused.OutOfMemory k = k.0

-- what the formula comes to at a start, by an answer of it
end_shown : (f : Groups) (settings : Settings) (start : Start) (a : Result StartAnswer AllocError)
    → IfOk a (AnswersStart f settings start) → is_stopped (judged a) ≡ false
    → (e : StartEnd) × IsEndAt f settings (tree_of_start start f.variables) e × (judged a ≡ shown_of e)
end_shown f settings start (Err e) answers goes = absurd cc
end_shown f settings start (Ok a) answers goes = go a.end answers.end goes
  where
    go : (end : Result Done CompileError)
        → MatchResult end (IsDoneAt f settings (tree_of_start start f.variables) a.manager)
        (IsStoppedAt f settings (tree_of_start start f.variables) a.manager)
        → is_stopped (judged_end end) ≡ false
        → (e : StartEnd) × IsEndAt f settings (tree_of_start start f.variables) e × (judged_end end ≡ shown_of e)
    go (Ok done) k goes = (Ended done.size, k.end, refl)
    go (Err (refused.OverLimit group size limit)) k goes = (Passed group size, k.refused.0, refl)
    go (Err (refused.ArenaFull elements)) k goes = absurd cc
    go (Err refused.OutOfMemory) k goes = absurd cc

-- so the work there may end
may_have_room : (f : Groups) (settings : Settings) (start : Start) (a : Result StartAnswer AllocError)
    → IfOk a (AnswersStart f settings start) → is_stopped (judged a) ≡ false → MayHaveRoom f settings start
may_have_room f settings start (Err e) answers goes = absurd cc
may_have_room f settings start (Ok a) answers goes = (a, answers, go a.end goes)
  where
    go : (end : Result Done CompileError) → is_stopped (judged_end end) ≡ false → HadRoom end
    go (Ok done) goes = tt
    go (Err (refused.OverLimit group size limit)) goes = tt
    go (Err (refused.ArenaFull elements)) goes = absurd cc
    go (Err refused.OutOfMemory) goes = absurd cc

never_stopped : (e : StartEnd) → shown_of e ≡ shown.Stopped → ⊥
never_stopped (Ended n) is = cc
never_stopped (Passed group n) is = cc

module _ (f : Groups) (settings : Settings) (a b c : StartEnd)
    (first : IsEndAt f settings (tree_of_start Balanced f.variables) a)
    (second : IsEndAt f settings (tree_of_start Right f.variables) b)
    (third : IsEndAt f settings (tree_of_start Left f.variables) c) where
  each : (start : Start) → IsEndAt f settings (tree_of_start start f.variables) (ends a b c start)
  each Balanced = first
  each Right = second
  each Left = third

  -- the start with the least size, with what stands behind it
  made : (start : Start) (chosen : Chosen) → IsHeldAt f settings start chosen
      → IsLeast (ends a b c) start chosen.size → IsChosenStart f settings chosen
  made start chosen held least = record {
    choice = record {
      end_of = ends a b c;
      each = each;
      choice_is = subst (λ s. IsLeast (ends a b c) s chosen.size) (sym held.is) least;
    };
    holds = held.holds;
    searched = subst (λ s. IsSearchedTo f settings (tree_of_start s f.variables) chosen.search chosen.size
        (plain_tree chosen.manager.vtree)) (sym held.is) held.searched;
    ready = held.ready;
  }

  -- the limit is passed at each start, with this group and size at the balanced one
  all_passed : (group size : ℕ) → IsEndAt f settings (tree_of_start Balanced f.variables) (Passed group size)
      → PassesAtEach (ends a b c) → IsChoice f settings (AllPassed group size)
  all_passed group size is passes = record {
    end_of = ends (Passed group size) b c;
    each = λ start. go start;
    choice_is = (λ start. at start, refl);
  }
    where
      go : (start : Start) → IsEndAt f settings (tree_of_start start f.variables) (ends (Passed group size) b c start)
      go Balanced = is
      go Right = second
      go Left = third

      at : (start : Start) → (g n : ℕ) × (ends (Passed group size) b c start ≡ Passed g n)
      at Balanced = (group, size, refl)
      at Right = passes Right
      at Left = passes Left

  -- the choice where neither room nor memory lacked
  choice_ended : (result : Result Chosen Refused)
      → Decides f settings (decided a b c) (shown_of (ends a b c (decided a b c))) result
      → MatchResult result (IsChosenStart f settings) (IsChoiceRefused f settings)
  choice_ended (Ok chosen) d = made (decided a b c) chosen d.0 (least_decided a b c chosen.size d.1)
  choice_ended (Err refusal) d = go refusal.error d
    where
      go : (e : CompileError)
          → IsRefusedStart f settings (decided a b c) (shown_of (ends a b c (decided a b c))) e refusal.manager
          → IsNoChoice f settings e refusal.manager
      go (refused.OverLimit group size limit) k =
          let passed = passed_decided a b c k.3 in (
            all_passed group size
                (subst (λ s. IsEndAt f settings (tree_of_start s f.variables) (Passed group size)) passed.0 k.0)
                passed.1,
            k.1,
            k.2,
          )
      go (refused.ArenaFull elements) k = absurd (never_stopped (ends a b c (decided a b c)) k.3)
      go refused.OutOfMemory k = absurd (never_stopped (ends a b c (decided a b c)) k.1)

shown_ends : (a b c : StartEnd) (s : Start)
    → shown_at (shown_of a) (shown_of b) (shown_of c) s ≡ shown_of (ends a b c s)
shown_ends a b c Balanced = refl
shown_ends a b c Right = refl
shown_ends a b c Left = refl

-- the start with the least size, the first among equals, or else the balanced one
abbrev least_shown : Judged → Judged → Judged → Start
least_shown x y z = if is_less z x && is_less z y then Left else if is_less y x then Right else Balanced

-- where neither room nor memory lacked it is the one that decides
goes_on : (a b c : StartEnd) → least_shown (shown_of a) (shown_of b) (shown_of c) ≡ decided a b c
goes_on (Ended a) (Ended b) (Ended c) = refl
goes_on (Ended a) (Ended b) (Passed h c) = refl
goes_on (Ended a) (Passed k b) (Ended c) = refl
goes_on (Ended a) (Passed k b) (Passed h c) = refl
goes_on (Passed o a) (Ended b) (Ended c) = refl
goes_on (Passed o a) (Ended b) (Passed h c) = refl
goes_on (Passed o a) (Passed k b) (Ended c) = refl
goes_on (Passed o a) (Passed k b) (Passed h c) = refl

-- where the work ended at the balanced start, it did at each before the right one
before_right : (f : Groups) (settings : Settings) (x : Result StartAnswer AllocError)
    → IfOk x (AnswersStart f settings Balanced) → is_stopped (judged x) ≡ false → (other : Start)
    → rank other < rank Right → MayHaveRoom f settings other
before_right f settings x hx e Balanced less = may_have_room f settings Balanced x hx e
before_right f settings x hx e Right less = absurd (omega (arith, less))
before_right f settings x hx e Left less = absurd (omega (arith, less))

-- where it ended at the right one too, it did at each before the left one
before_left : (f : Groups) (settings : Settings) (x y : Result StartAnswer AllocError)
    → IfOk x (AnswersStart f settings Balanced) → IfOk y (AnswersStart f settings Right)
    → is_stopped (judged x) ≡ false → is_stopped (judged y) ≡ false → (other : Start)
    → rank other < rank Left → MayHaveRoom f settings other
before_left f settings x y hx hy e g Balanced less = may_have_room f settings Balanced x hx e
before_left f settings x y hx hy e g Right less = may_have_room f settings Right y hy g
before_left f settings x y hx hy e g Left less = absurd (omega (arith, less))

-- The choice among three answers is what the one that decides comes to.
pub choice_of_three : (f : Groups) (settings : Settings) (x y z : Result StartAnswer AllocError)
    → IfOk x (AnswersStart f settings Balanced) → IfOk y (AnswersStart f settings Right)
    → IfOk z (AnswersStart f settings Left) → (result : Result Chosen Refused)
    → Decides f settings (decider (judged x) (judged y) (judged z))
    (shown_at (judged x) (judged y) (judged z) (decider (judged x) (judged y) (judged z))) result
    → MatchResult result (IsChosenStart f settings) (IsChoiceRefused f settings)
choice_of_three f settings x y z hx hy hz result d =
    go (is_stopped (judged x)) refl (is_stopped (judged y)) refl (is_stopped (judged z)) refl d
  where
    go : (bx : Bool) → is_stopped (judged x) ≡ bx → (by : Bool) → is_stopped (judged y) ≡ by
        → (bz : Bool) → is_stopped (judged z) ≡ bz
        → (let s = if bx then Balanced else if by then Right else if bz then Left
        else least_shown (judged x) (judged y) (judged z) in
        Decides f settings s (shown_at (judged x) (judged y) (judged z) s) result)
        → MatchResult result (IsChosenStart f settings) (IsChoiceRefused f settings)
    go true e by g bz h d =
        refused_stop f settings Balanced (λ other less. absurd (omega (arith, less))) (judged x) result e d
    go false e true g bz h d =
        refused_stop f settings Right (λ other less. before_right f settings x hx e other less) (judged y) result g d
    go false e false g true h d =
        refused_stop f settings Left (λ other less. before_left f settings x y hx hy e g other less) (judged z) result
        h d
    go false e false g false h d =
        let a = end_shown f settings Balanced x hx e in
        let b = end_shown f settings Right y hy g in
        let c = end_shown f settings Left z hz h in
        let first = subst (λ (u : Judged). Decides f settings (least_shown u (judged y) (judged z))
        (shown_at u (judged y) (judged z) (least_shown u (judged y) (judged z))) result) a.2 d in
        let second = subst (λ (u : Judged). Decides f settings (least_shown (shown_of a.0) u (judged z))
        (shown_at (shown_of a.0) u (judged z) (least_shown (shown_of a.0) u (judged z))) result) b.2 first in
        let third = subst (λ (u : Judged). Decides f settings (least_shown (shown_of a.0) (shown_of b.0) u)
        (shown_at (shown_of a.0) (shown_of b.0) u (least_shown (shown_of a.0) (shown_of b.0) u)) result) c.2 second in
        let whole = subst (λ (s : Start). Decides f settings s
        (shown_at (shown_of a.0) (shown_of b.0) (shown_of c.0) s) result) (goes_on a.0 b.0 c.0) third in
        choice_ended f settings a.0 b.0 c.0 a.1 b.1 c.1 result
        (subst (λ (u : Judged). Decides f settings (decided a.0 b.0 c.0) u result)
        (shown_ends a.0 b.0 c.0 (decided a.0 b.0 c.0)) whole)

-- The same of a list of them, from which the one that decides was taken.
pub choice_of_list : (f : Groups) (settings : Settings) (l : List (Result StartAnswer AllocError))
    → AnswerEach f settings l → (p q r : Result StartAnswer AllocError) → p ≡ slice_index_or l 0 p
    → q ≡ slice_index_or l 1 q → r ≡ slice_index_or l 2 r → (s : Start)
    → s ≡ decider (judged p) (judged q) (judged r) → (taken : Result StartAnswer AllocError)
    → taken ≡ slice_index_or l (rank s) taken → (result : Result Chosen Refused)
    → Decides f settings s (judged taken) result
    → MatchResult result (IsChosenStart f settings) (IsChoiceRefused f settings)
choice_of_list f settings [] h p q r ep eq er s es taken et result d = absurd h
choice_of_list f settings (x ∷ []) h p q r ep eq er s es taken et result d = absurd h.1
choice_of_list f settings (x ∷ y ∷ []) h p q r ep eq er s es taken et result d = absurd h.1.1
choice_of_list f settings (x ∷ y ∷ z ∷ w ∷ l) h p q r ep eq er s es taken et result d = absurd h.1.1.1
choice_of_list f settings (x ∷ y ∷ z ∷ []) h p q r ep eq er s es taken et result d =
    let is : s ≡ decider (judged x) (judged y) (judged z) = subst (λ u. s ≡ decider (judged x) (judged y) (judged u)) er
    (subst (λ u. s ≡ decider (judged x) (judged u) (judged r)) eq
    (subst (λ u. s ≡ decider (judged u) (judged q) (judged r)) ep es)) in
    choice_of_three f settings x y z h.0 h.1.0 h.1.1.0 result
    (subst (λ u. Decides f settings u (shown_at (judged x) (judged y) (judged z) u) result) is
    (subst (λ u. Decides f settings s u result) (at s et) d))
  where
    at : (s : Start) → taken ≡ slice_index_or (x ∷ y ∷ z ∷ []) (rank s) taken
        → judged taken ≡ shown_at (judged x) (judged y) (judged z) s
    at Balanced e = ap judged e
    at Right e = ap judged e
    at Left e = ap judged e

-- what was taken is an answer of its start
pub taken_answers : (f : Groups) (settings : Settings) (l : List (Result StartAnswer AllocError))
    → AnswerEach f settings l → (s : Start) (taken : Result StartAnswer AllocError)
    → taken ≡ slice_index_or l (rank s) taken → IfOk taken (AnswersStart f settings s)
taken_answers f settings [] h s taken e = absurd h
taken_answers f settings (x ∷ []) h s taken e = absurd h.1
taken_answers f settings (x ∷ y ∷ []) h s taken e = absurd h.1.1
taken_answers f settings (x ∷ y ∷ z ∷ w ∷ l) h s taken e = absurd h.1.1.1
taken_answers f settings (x ∷ y ∷ z ∷ []) h Balanced taken e =
    subst (λ u. IfOk u (AnswersStart f settings Balanced)) (sym e) h.0
taken_answers f settings (x ∷ y ∷ z ∷ []) h Right taken e =
    subst (λ u. IfOk u (AnswersStart f settings Right)) (sym e) h.1.0
taken_answers f settings (x ∷ y ∷ z ∷ []) h Left taken e =
    subst (λ u. IfOk u (AnswersStart f settings Left)) (sym e) h.1.1.0

-- what a result comes to, where it is Ok, and where it is Err
pub if_ok : {X E : Type 0} (P : X → Type 0) (Q : E → Type 0) (result : Result X E) → MatchResult result P Q
    → IfOk result P
if_ok P Q (Ok x) h = h
if_ok P Q (Err e) h = tt

pub if_err : {X E : Type 0} (P : X → Type 0) (Q : E → Type 0) (result : Result X E) → MatchResult result P Q
    → IfErr result Q
if_err P Q (Ok x) h = tt
if_err P Q (Err e) h = h
