-- Groups that stand one after another: their number, the group of a number, and one more literal or end.
use Rattle.std.proofs.Common.{◌≡◌, ℕ, zero, suc, ◌==◌, ◌+◌, ◌-◌, ◌<◌, ◌≤◌, List, [], ◌∷◌, ◌++◌, length}
use Rattle.std.proofs.Common.{Bool, true, false, cond, length-append, sym, subst}
use Rattle.std.proofs.Common.{get_or, take, drop, slice_get, slice_range, option_map, Some, ℤ, refl, ap, ◌∙◌, arith}
use Rattle.std.proofs.Common.{length-drop}
use Rattle.std.proofs.lemmas.List.{take_rest, take-append-le, drop-append-le, drop_all}
use Rattle.std.proofs.lemmas.Bool.Decides.{nat_tests}
use Rattle.sd_formula.specs.declared.flat.End.{End}
use Rattle.sd_formula.specs.Flat.{AreEnds, last_end, start_at, cut}
use Rattle.sd_formula.specs.Steps.{parts_of, ended, extended}

-- as many groups as ends
pub length_cut : (from : ℕ) (ends : List End) (zs : List ℤ) → length (cut from ends zs) ≡ length ends
length_cut from [] zs = refl
length_cut from (e ∷ es) zs = ap suc (length_cut e.index es zs)

-- the last end is among the places
pub last_within : (from : ℕ) (ends : List End) (total : ℕ) → AreEnds from ends total
    → (from ≤ last_end from ends) × (last_end from ends ≤ total)
last_within from [] total rise = (omega arith, rise)
last_within from (e ∷ es) total rise =
    let later = last_within e.index es total rise.1 in
    (omega (arith, rise.0, later.0), later.1)

-- ---- one more literal

-- a part is the same of a longer list
slice_range_more : (zs ws : List ℤ) (from to : ℕ) → from ≤ to → to ≤ length zs
    → slice_range (zs ++ ws) from to ≡ slice_range zs from to
slice_range_more zs ws from to order within =
    let begins : from ≤ length zs = omega arith in
    let short : to - from ≤ length (drop from zs) = omega (arith, length-drop from zs) in
    let behind = take-append-le (to - from) (drop from zs) ws short in
    ap (take (to - from)) (drop-append-le from zs ws begins) ∙ behind

-- and so are the groups
pub cut_more : (from : ℕ) (ends : List End) (zs ws : List ℤ) → AreEnds from ends (length zs)
    → cut from ends (zs ++ ws) ≡ cut from ends zs
cut_more from [] zs ws rise = refl
cut_more from (e ∷ es) zs ws rise =
    let within = last_within e.index es (length zs) rise.1 in
    let here = slice_range_more zs ws from e.index rise.0 (omega (arith, within.0, within.1)) in
    let later = cut_more e.index es zs ws rise.1 in
    rw (here, later) refl

-- a literal goes behind the open part
pub literal_is : (ends : List End) (zs : List ℤ) (marked : Bool) (z : ℤ) → AreEnds 0 ends (length zs)
    → parts_of ends (zs ++ z ∷ []) marked ≡ extended (parts_of ends zs marked) z
literal_is ends zs marked z rise =
    let within = last_within 0 ends (length zs) rise in
    rw (cut_more 0 ends zs (z ∷ []) rise, drop-append-le (last_end 0 ends) zs (z ∷ []) within.1) refl

-- the ends stay below a longer list
pub ends_more : (from : ℕ) (ends : List End) (total : ℕ) → AreEnds from ends total → AreEnds from ends (total + 1)
ends_more from [] total rise = omega arith
ends_more from (e ∷ es) total rise = (rise.0, ends_more e.index es total rise.1)

-- also where there was no room for the literal
pub ends_after : (put : Bool) (ends : List End) (zs later : List ℤ) (z : ℤ) → AreEnds 0 ends (length zs)
    → later ≡ cond put (zs ++ z ∷ []) zs → AreEnds 0 ends (length later)
ends_after true ends zs later z rise is =
    let longer : length later ≡ length zs + 1 = ap length is ∙ length-append zs (z ∷ []) in
    subst (AreEnds 0 ends) (sym longer) (ends_more 0 ends (length zs) rise)
ends_after false ends zs later z rise is = subst (λ (l : List ℤ). AreEnds 0 ends (length l)) (sym is) rise

-- ---- one more end

-- the open part is one more group
cut_end : (from : ℕ) (ends : List End) (zs : List ℤ) (last : End) → last.index ≡ length zs
    → cut from (ends ++ last ∷ []) zs
    ≡ cut from ends zs ++ record { exclusive = last.exclusive; literals = drop (last_end from ends) zs } ∷ []
cut_end from [] zs last is =
    ap (λ part. record { exclusive = last.exclusive; literals = part } ∷ [])
    (ap (slice_range zs from) is ∙ take_rest zs from)
cut_end from (e ∷ es) zs last is =
    ap (λ groups. record { exclusive = e.exclusive; literals = slice_range zs from e.index } ∷ groups)
    (cut_end e.index es zs last is)

-- and the next begins at the new end
last_end_push : (from : ℕ) (ends : List End) (e : End) → last_end from (ends ++ e ∷ []) ≡ e.index
last_end_push from [] e = refl
last_end_push from (x ∷ xs) e = last_end_push x.index xs e

-- an end closes the open part
pub end_is : (ends : List End) (zs : List ℤ) (last : End) → last.index ≡ length zs
    → parts_of (ends ++ last ∷ []) zs false ≡ ended (parts_of ends zs last.exclusive)
end_is ends zs last is =
    let behind : drop (last_end 0 (ends ++ last ∷ [])) zs ≡ [] =
    ap (λ n. drop n zs) (last_end_push 0 ends last ∙ is) ∙ drop_all (length zs) zs (omega arith) in
    rw (cut_end 0 ends zs last is, behind) refl

-- an end at the total rises
pub ends_push : (from : ℕ) (ends : List End) (last : End) (total : ℕ) → last.index ≡ total → AreEnds from ends total
    → AreEnds from (ends ++ last ∷ []) total
ends_push from [] last total is rise = (subst (λ n. from ≤ n) (sym is) rise, omega (arith, is))
ends_push from (e ∷ es) last total is rise = (rise.0, ends_push e.index es last total is rise.1)

-- ---- the group of a number

-- what is answered where there is no end
abbrev no_end : End
no_end = record { index = 0; exclusive = false }

-- a later group begins where the one before it ends
pub start_is : (from : ℕ) (ends : List End) (i : ℕ) → i < length ends
    → start_at from ends (suc i) ≡ (get_or ends i no_end).index
start_is from [] i h = absurd (omega arith)
start_is from (e ∷ es) zero h = refl
start_is from (e ∷ es) (suc i) h = start_is e.index es i (omega arith)

-- the mark of a group is that of its end
pub mark_at : (from : ℕ) (ends : List End) (i : ℕ) (zs : List ℤ) → i < length ends
    → option_map (λ group. group.exclusive) (slice_get (cut from ends zs) i) ≡ Some (get_or ends i no_end).exclusive
mark_at from [] i zs h = absurd (omega arith)
mark_at from (e ∷ es) zero zs h = refl
mark_at from (e ∷ es) (suc i) zs h = mark_at e.index es i zs (omega arith)

-- the group of a number is a part of the list
pub record IsPart (from i : ℕ) (ends : List End) (zs : List ℤ) : Type 0 where
  pub order : start_at from ends i ≤ (get_or ends i no_end).index
  pub within : (get_or ends i no_end).index ≤ length zs
  pub is : option_map (λ group. group.literals) (slice_get (cut from ends zs) i)
      ≡ Some (slice_range zs (start_at from ends i) (get_or ends i no_end).index)

pub part_at : (from i : ℕ) (ends : List End) (zs : List ℤ) → AreEnds from ends (length zs) → i < length ends
    → IsPart from i ends zs
part_at from i [] zs rise h = absurd (omega arith)
part_at from zero (e ∷ es) zs rise h =
    let later = last_within e.index es (length zs) rise.1 in
    record { order = rise.0; within = omega (arith, later.0, later.1); is = refl }
part_at from (suc i) (e ∷ es) zs rise h =
    let later = part_at e.index i es zs rise.1 (omega arith) in
    record { order = later.order; within = later.within; is = later.is }

-- ---- the open part

-- it begins where one more group would
start_at_length : (from : ℕ) (ends : List End) → start_at from ends (length ends) ≡ last_end from ends
start_at_length from [] = refl
start_at_length from (e ∷ es) = start_at_length e.index es

-- it has literals where the list goes on there
pub open_is : (ends : List End) (zs : List ℤ) (start : ℕ) → AreEnds 0 ends (length zs)
    → start ≡ start_at 0 ends (length ends)
    → (length (drop (last_end 0 ends) zs) == 0) ≡ (start == length zs)
open_is ends zs start rise same_start =
    let within = last_within 0 ends (length zs) rise in
    let last : start ≡ last_end 0 ends = same_start ∙ start_at_length 0 ends in
    rw (length-drop, last) (tests (last_end 0 ends) (length zs) within.1)
  where
    tests : (a b : ℕ) → a ≤ b → (b - a == 0) ≡ (a == b)
    tests a b h = grind (arith, nat_tests)
