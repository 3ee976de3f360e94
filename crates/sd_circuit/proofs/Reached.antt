-- What a search has marked, and one more.
use Rattle.std.proofs.Common.{◌≡◌, ℕ, suc, ◌+◌, ◌<◌, ◌≤◌, Bool, true, false, List, [], ◌∷◌, ◌++◌, length, get_or}
use Rattle.std.proofs.Common.{sym, ◌∙◌, ap, subst, inl, inr, arith, below_more}
use Rattle.std.proofs.Math.ListN.{set}
use Rattle.std.proofs.lemmas.List.{length-set, get_or_default}
use Rattle.sd_model.specs.Circuit.{AndLine}
use Rattle.sd_circuit.specs.Order.{line_at, variable_of, DefineOnce, Uses, leads_within, is_on_cycle}
use Rattle.sd_circuit.specs.Definers.{AreDefiners}
use Rattle.sd_circuit.specs.Placing.{is_marked, HasCycle}
use Rattle.sd_circuit.specs.Reaching.{AreReached, AddsTo, AreUsesMarked, AreExpanded, IsReaching}
use Rattle.sd_circuit.specs.Reaching.{Marks}
use Rattle.sd_circuit.proofs.Grown.{grown_length, grown_old, each_grown, stands_grown, last_stands}
use Rattle.sd_circuit.proofs.Grown.{set_marked, set_stays, set_either, set_fewer}
use Rattle.sd_circuit.proofs.Paths.{leads_on, leads_more, never_leads}

-- an and-line that is reached in time comes to the end of the queue
reached_more : (ands : List AndLine) (source : ℕ) (queue : List ℕ) (marks : List Bool) (k : ℕ)
    → AreReached ands source queue marks → k < length ands → is_marked marks k ≡ false
    → leads_within ands (length queue) source k ≡ true
    → AreReached ands source (queue ++ k ∷ []) (set marks k true)
reached_more ands source queue marks k old inside off on =
    let near : k < length marks = omega (arith, inside, old.size) in
    record {
      size = length-set marks k true ∙ old.size;
      counted = omega (arith, grown_length queue k, set_fewer marks k near off, old.counted);
      inside = each_grown (λ j x. x < length ands) queue k old.inside inside;
      has = λ j below marked. elim (set_either marks k j marked) [
        | inl is ↦ last_stands queue k j is
        | inr was ↦ stands_grown queue k j (old.has j below was)
      ];
      reached = each_grown (λ j x. leads_within ands j source x ≡ true) queue k old.reached on;
    }

-- what one mark does
pub marks_one : (ands : List AndLine) (source k : ℕ) (old new : List ℕ) (marks marks' : List Bool)
    → AreReached ands source old marks → Marks k old new marks marks'
    → (k < length ands → leads_within ands (length old) source k ≡ true)
    → AreReached ands source new marks' × AddsTo old new marks marks'
    × (k < length ands → is_marked marks' k ≡ true)
marks_one ands source k old new marks marks' before marking in_time = elim marking [
  | inl (same, same', on) ↦ (
    subst (λ q. AreReached ands source q marks') (sym same)
        (subst (λ m. AreReached ands source old m) (sym same') before),
    record {
      longer = omega (arith, ap (λ (q : List ℕ). length q) same);
      same = λ j below. ap (λ q. get_or q j 0) same;
      kept = λ j marked. ap (λ m. is_marked m j) same' ∙ marked;
    },
    λ below. ap (λ m. is_marked m k) same' ∙ on (omega (arith, below, before.size)),
  )
  | inr (inside, off, is, is') ↦
      let near : k < length ands = omega (arith, inside, before.size) in (
        subst (λ q. AreReached ands source q marks') (sym is)
            (subst (λ m. AreReached ands source (old ++ k ∷ []) m) (sym is')
            (reached_more ands source old marks k before near off (in_time near))),
        record {
          longer = omega (arith, ap (λ (q : List ℕ). length q) is, grown_length old k);
          same = λ j below. ap (λ q. get_or q j 0) is ∙ grown_old old k j below;
          kept = λ j marked. ap (λ m. is_marked m j) is' ∙ set_stays marks k j marked;
        },
        λ below. ap (λ m. is_marked m k) is' ∙ set_marked marks k inside,
      )
]

-- what is added twice
pub adds_twice : (q q' q'' : List ℕ) (m m' m'' : List Bool) → AddsTo q q' m m' → AddsTo q' q'' m' m''
    → AddsTo q q'' m m''
adds_twice q q' q'' m m' m'' first second =
    record {
      longer = omega (arith, first.longer, second.longer);
      same = λ j below. second.same j (omega (arith, below, first.longer)) ∙ first.same j below;
      kept = λ k on. second.kept k (first.kept k on);
    }

-- both right sides of an and-line are marked
pub both_marked : (variables : ℕ) (ands : List AndLine) (table : List ℕ) (source line : ℕ) (q q' q'' : List ℕ)
    (m m' m'' : List Bool) → DefineOnce variables ands → AreDefiners variables ands (length ands) table
    → line < length ands → AreReached ands source q m
    → ((used : ℕ) → used < length ands → Uses ands line used → leads_within ands (length q) source used ≡ true)
    → Marks (get_or table (variable_of (line_at ands line).first) 0) q q' m m'
    → Marks (get_or table (variable_of (line_at ands line).second) 0) q' q'' m' m''
    → AreReached ands source q'' m'' × AddsTo q q'' m m'' × AreUsesMarked ands m'' line
both_marked variables ands table source line q q' q'' m m' m'' lines right inside before in_time marking marking' =
    let first = get_or table (variable_of (line_at ands line).first) 0 in
    let second = get_or table (variable_of (line_at ands line).second) 0 in
    let one = marks_one ands source first q q' m m' before marking
    (λ below. in_time first below (inl (sym (right.only _ (lines.first line inside) below)))) in
    let two = marks_one ands source second q' q'' m' m'' one.0 marking'
    (λ below. leads_more ands (length q) (length q') source second one.1.longer
    (in_time second below (inr (sym (right.only _ (lines.second line inside) below))))) in (
      two.0,
      adds_twice q q' q'' m m' m'' one.1 two.1,
      λ used below uses. elim uses [
        | inl e ↦
            let is : first ≡ used = ap (λ v. get_or table v 0) e ∙ right.right used below in
            two.1.kept used
            (subst (λ k. is_marked m' k ≡ true) is (one.2 (subst (λ k. k < length ands) (sym is) below)))
        | inr e ↦
            let is : second ≡ used = ap (λ v. get_or table v 0) e ∙ right.right used below in
            subst (λ k. is_marked m'' k ≡ true) is (two.2 (subst (λ k. k < length ands) (sym is) below))
      ],
    )

-- what the one that is looked at uses is reached in time
pub in_time_next : (ands : List AndLine) (source next x : ℕ) (queue : List ℕ) (marks : List Bool)
    → IsReaching ands source queue marks next → next < length queue → x ≡ get_or queue next x
    → (used : ℕ) → Uses ands x used → leads_within ands (length queue) source used ≡ true
in_time_next ands source next x queue marks so below is used uses =
    let at : x ≡ get_or queue next 0 = is ∙ get_or_default queue next x 0 below in
    leads_more ands (suc next) (length queue) source used (omega (arith, below))
    (leads_on ands next source (get_or queue next 0) used (so.state.inside next below)
    (subst (λ y. Uses ands y used) at uses) (so.state.reached next below))

-- one more was looked at
pub expanded_more : (ands : List AndLine) (old new : List ℕ) (marks marks' : List Bool) (next : ℕ)
    → AddsTo old new marks marks' → next < length old → AreExpanded ands old marks next
    → AreUsesMarked ands marks' (get_or old next 0) → AreExpanded ands new marks' (next + 1)
expanded_more ands old new marks marks' next added below before here =
    below_more (λ j. AreUsesMarked ands marks' (get_or new j 0)) next
    (λ j less used inside uses.
    added.kept used
    (before j less used inside
    (subst (λ x. Uses ands x used) (added.same j (omega (arith, less, below))) uses)))
    (subst (λ x. AreUsesMarked ands marks' x) (sym (added.same next below)) here)

pub reaching_more : (ands : List AndLine) (source next x : ℕ) (old new : List ℕ) (marks marks' : List Bool)
    → IsReaching ands source old marks next → next < length old → x ≡ get_or old next x
    → AreReached ands source new marks' → AddsTo old new marks marks' → AreUsesMarked ands marks' x
    → IsReaching ands source new marks' (next + 1)
reaching_more ands source next x old new marks marks' so below is state added here =
    record {
      state = state;
      begun = λ used inside uses. added.kept used (so.begun used inside uses);
      expanded =
          expanded_more ands old new marks marks' next added below so.expanded
          (subst (λ y. AreUsesMarked ands marks' y) (is ∙ get_or_default old next x 0 below) here);
    }

-- an and-line that is marked in the search from itself lies on a cycle
pub marked_cycle : (ands : List AndLine) (k : ℕ) (queue : List ℕ) (marks : List Bool) → AreReached ands k queue marks
    → k < length ands → is_marked marks k ≡ true → is_on_cycle ands k ≡ true
marked_cycle ands k queue marks state inside on = met (state.has k inside on)
  where
    met : (j : ℕ) × (j < length queue) × (get_or queue j 0 ≡ k) → is_on_cycle ands k ≡ true
    met (j, below, is) =
        leads_more ands j (length ands) k k (omega (arith, below, state.counted))
        (subst (λ n. leads_within ands j k n ≡ true) is (state.reached j below))

-- an and-line that is not marked in the end does not lead to itself
pub unmarked_never : (ands : List AndLine) (k next : ℕ) (queue : List ℕ) (marks : List Bool)
    → IsReaching ands k queue marks next → length queue ≤ next → k < length ands → is_marked marks k ≡ false
    → (n : ℕ) → leads_within ands n k k ≡ false
unmarked_never ands k next queue marks so all inside off =
    never_leads ands (λ j. is_marked marks j ≡ true) k
    (λ j used below below' on uses. closed j (so.state.has j below on) used below' uses) so.begun inside (λ on. cc)
  where
    closed : (j : ℕ) → (p : ℕ) × (p < length queue) × (get_or queue p 0 ≡ j) → AreUsesMarked ands marks j
    closed j (p, below, is) =
        subst (λ x. AreUsesMarked ands marks x) is (so.expanded p (omega (arith, below, all)))

-- a mark, as it is read
pub mark_is : (marks : List Bool) (k : ℕ) (x : Bool) → k < length marks → x ≡ get_or marks k x → is_marked marks k ≡ x
mark_is marks k x inside is = get_or_default marks k false x inside ∙ sym is

-- where none leads to itself there is no cycle
pub no_cycle : (ands : List AndLine) (below : ℕ) → HasCycle ands → length ands ≤ below
    → ((k : ℕ) → k < below → (n : ℕ) → leads_within ands n k k ≡ false) → ⊥
no_cycle ands below (k, inside, (n, on)) most none =
    let off : leads_within ands n k k ≡ false = none k (omega (arith, inside, most)) n in cc
