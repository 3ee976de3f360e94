-- A part of the groups that stand one after another: its ends, its literals, and its groups.
use Rattle.std.proofs.Common.{◌≡◌, ℕ, zero, suc, ◌+◌, ◌-◌, ◌≤◌, List, [], ◌∷◌, length, map}
use Rattle.std.proofs.Common.{take, drop, slice_range, ℤ, refl, sym, ap, ◌∙◌, subst, arith, length-drop, length-take}
use Rattle.std.proofs.lemmas.List.{take-append-drop, drop-drop}
use Rattle.std.specs.List.{AllByRecursion}
use Rattle.sd_model.specs.Expression.{Group}
use Rattle.sd_formula.specs.declared.flat.End.{End}
use Rattle.sd_formula.specs.declared.formula.Kind.{Kind}
use Rattle.sd_formula.specs.Flat.{AreEnds, start_at, cut, end_without}
use Rattle.sd_formula.specs.Dimacs.{Groups}
use Rattle.sd_formula.specs.Formulas.{IsFormula, IsGroup, groups_between, groups_part}
use Rattle.sd_formula.proofs.FlatLaws.{last_within, cut_more}

-- ---- the ends from a number on, and up to one

-- the groups from a number on
cut_drop : (from : ℕ) (ends : List End) (zs : List ℤ) (k : ℕ)
    → drop k (cut from ends zs) ≡ cut (start_at from ends k) (drop k ends) zs
cut_drop from [] zs zero = refl
cut_drop from [] zs (suc k) = refl
cut_drop from (e ∷ es) zs zero = refl
cut_drop from (e ∷ es) zs (suc k) = cut_drop e.index es zs k

-- the first of the groups
cut_take : (from : ℕ) (ends : List End) (zs : List ℤ) (n : ℕ)
    → take n (cut from ends zs) ≡ cut from (take n ends) zs
cut_take from ends zs zero = refl
cut_take from [] zs (suc n) = refl
cut_take from (e ∷ es) zs (suc n) =
    ap (λ groups. record { exclusive = e.exclusive; literals = slice_range zs from e.index } ∷ groups)
    (cut_take e.index es zs n)

-- they rise
ends_drop : (from : ℕ) (ends : List End) (total k : ℕ) → AreEnds from ends total
    → AreEnds (start_at from ends k) (drop k ends) total
ends_drop from [] total zero rise = rise
ends_drop from [] total (suc k) rise = rise
ends_drop from (e ∷ es) total zero rise = rise
ends_drop from (e ∷ es) total (suc k) rise = ends_drop e.index es total k rise.1

ends_take : (from : ℕ) (ends : List End) (total n : ℕ) → AreEnds from ends total
    → AreEnds from (take n ends) (start_at from ends n)
ends_take from ends total zero rise = omega arith
ends_take from [] total (suc n) rise = omega arith
ends_take from (e ∷ es) total (suc n) rise = (rise.0, ends_take e.index es total n rise.1)

-- where a group begins, among none
start_none : (from n : ℕ) → start_at from [] n ≡ from
start_none from zero = refl
start_none from (suc n) = refl

-- a number of ends behind others
start_drop : (from : ℕ) (ends : List End) (k n m : ℕ) → m ≡ k + n
    → start_at (start_at from ends k) (drop k ends) n ≡ start_at from ends m
start_drop from ends zero n m e =
    let same : n ≡ m = omega (arith, e) in
    ap (start_at from ends) same
start_drop from [] (suc k) n m e = start_none from n ∙ sym (start_none from m)
start_drop from (x ∷ es) (suc k) n zero e = absurd (omega (arith, e))
start_drop from (x ∷ es) (suc k) n (suc m) e = start_drop x.index es k n m (omega (arith, e))

-- where a group begins is among the literals
pub start_within : (from : ℕ) (ends : List End) (total k : ℕ) → AreEnds from ends total
    → (from ≤ start_at from ends k) × (start_at from ends k ≤ total)
start_within from ends total zero rise =
    let all = last_within from ends total rise in (omega arith, omega (arith, all.0, all.1))
start_within from [] total (suc k) rise = (omega arith, rise)
start_within from (e ∷ es) total (suc k) rise =
    let later = start_within e.index es total k rise.1 in (omega (arith, rise.0, later.0), later.1)

-- ---- without the literals before them

-- the ends still rise
ends_back : (before from : ℕ) (ends : List End) (total : ℕ) → before ≤ from → AreEnds from ends total
    → AreEnds (from - before) (map (end_without before) ends) (total - before)
ends_back before from [] total low rise = omega (arith, rise)
ends_back before from (e ∷ es) total low rise =
    (omega (arith, rise.0), ends_back before e.index es total (omega (arith, rise.0)) rise.1)

-- a part is the same
slice_back : (before from to : ℕ) (zs : List ℤ) → before ≤ from
    → slice_range (drop before zs) (from - before) (to - before) ≡ slice_range zs from to
slice_back before from to zs low =
    let behind : before + (from - before) ≡ from = omega arith in
    let long : to - before - (from - before) ≡ to - from = omega arith in
    rw (drop-drop (from - before) before zs, behind, long) refl

-- and so are the groups
cut_back : (before from : ℕ) (ends : List End) (zs : List ℤ) (total : ℕ) → before ≤ from → AreEnds from ends total
    → cut (from - before) (map (end_without before) ends) (drop before zs) ≡ cut from ends zs
cut_back before from [] zs total low rise = refl
cut_back before from (e ∷ es) zs total low rise =
    let here = slice_back before from e.index zs low in
    let later = cut_back before e.index es zs total (omega (arith, rise.0)) rise.1 in
    rw (here, later) refl

-- ---- a part of a formula

-- all of them end behind where they begin
pub all_behind_start : (before from : ℕ) (ends : List End) (total : ℕ) → before ≤ from → AreEnds from ends total
    → AllByRecursion (λ end. before ≤ end.index) ends
all_behind_start before from [] total low rise = tt
all_behind_start before from (e ∷ es) total low rise =
    let here : before ≤ e.index = omega (arith, rise.0) in
    (here, all_behind_start before e.index es total here rise.1)

-- the ends from a number up to another
pub record IsCutOut (zs : List ℤ) (ends : List End) (from to : ℕ) : Type 0 where
  pub order : start_at 0 ends from ≤ start_at 0 ends to
  pub within : start_at 0 ends to ≤ length zs
  pub behind : AllByRecursion (λ end. start_at 0 ends from ≤ end.index) (slice_range ends from to)
  pub rise : AreEnds 0 (map (end_without (start_at 0 ends from)) (slice_range ends from to))
      (length (slice_range zs (start_at 0 ends from) (start_at 0 ends to)))
  pub groups : cut 0 (map (end_without (start_at 0 ends from)) (slice_range ends from to))
      (slice_range zs (start_at 0 ends from) (start_at 0 ends to)) ≡ slice_range (cut 0 ends zs) from to

pub cut_out : (zs : List ℤ) (ends : List End) (from to : ℕ) → AreEnds 0 ends (length zs) → from ≤ to
    → IsCutOut zs ends from to
cut_out zs ends from to rise order =
    let first = start_at 0 ends from in
    let last = start_at 0 ends to in
    let behind = ends_drop 0 ends (length zs) from rise in
    let ends_here : start_at first (drop from ends) (to - from) ≡ last =
    start_drop 0 ends from (to - from) to (omega arith) in
    let range = start_within first (drop from ends) (length zs) (to - from) behind in
    let some : AreEnds first (slice_range ends from to) last =
    subst (λ n. AreEnds first (slice_range ends from to) n) ends_here
    (ends_take first (drop from ends) (length zs) (to - from) behind) in
    let moved = map (end_without first) (slice_range ends from to) in
    let zero_first : first - first ≡ 0 = omega arith in
    let long : length (slice_range zs first last) ≡ last - first =
    omega (arith, length-take (last - first) (drop first zs), length-drop first zs, range.1, ends_here) in
    let back : AreEnds 0 moved (last - first) =
    subst (λ n. AreEnds n moved (last - first)) zero_first
    (ends_back first first (slice_range ends from to) last (omega arith) some) in
    let here : AreEnds 0 moved (length (slice_range zs first last)) =
    subst (λ n. AreEnds 0 moved n) (sym long) back in
    let longer = cut_more 0 moved (slice_range zs first last) (drop (last - first) (drop first zs)) here in
    let whole = ap (cut 0 moved) (take-append-drop (last - first) (drop first zs)) in
    let all = ap (λ n. cut n moved (drop first zs)) (sym zero_first)
    ∙ cut_back first first (slice_range ends from to) zs last (omega arith) some in
    let taken = ap (take (to - from)) (cut_drop 0 ends zs from) ∙ cut_take first (drop from ends) zs (to - from) in
    record {
      order = omega (arith, range.0, ends_here);
      within = omega (arith, range.1, ends_here);
      behind = all_behind_start first first (slice_range ends from to) last (omega arith) some;
      rise = here;
      groups = sym longer ∙ whole ∙ all ∙ sym taken;
    }

-- what holds of all holds of those from a number on, and of the first
all_from : {X : Type 0} (P : X → Type 0) (k : ℕ) (xs : List X) → AllByRecursion P xs → AllByRecursion P (drop k xs)
all_from P zero xs all = all
all_from P (suc k) [] all = tt
all_from P (suc k) (x ∷ xs) all = all_from P k xs all.1

all_first : {X : Type 0} (P : X → Type 0) (n : ℕ) (xs : List X) → AllByRecursion P xs → AllByRecursion P (take n xs)
all_first P zero xs all = tt
all_first P (suc n) [] all = tt
all_first P (suc n) (x ∷ xs) all = (all.0, all_first P n xs all.1)

-- a part of a formula is one
pub part_is_formula : (f : Groups) (from to : ℕ) → IsFormula f → IsFormula (groups_part f from to)
part_is_formula f from to is = record {
  at_least_one = is.at_least_one;
  within_limit = is.within_limit;
  count = omega (arith, is.count, length-take (to - from) (drop from f.groups), length-drop from f.groups);
  groups = all_first (IsGroup f.kind f.variables) (to - from) (drop from f.groups)
      (all_from (IsGroup f.kind f.variables) from f.groups is.groups);
}

-- what is made of the ends and the literals of a part
pub record IsPartMade (f made : Groups) (from to : ℕ) (ends : List End) (zs : List ℤ) : Type 0 where
  pub rise : AreEnds 0 ends (length zs)
  pub formula : IsFormula made
  pub is : made ≡ groups_part f from to

pub part_made : (kind : Kind) (v : ℕ) (zs part : List ℤ) (ends moved : List End) (from to : ℕ)
    → AreEnds 0 ends (length zs) → IsFormula (groups_between kind v ends zs) → from ≤ to
    → part ≡ slice_range zs (start_at 0 ends from) (start_at 0 ends to)
    → moved ≡ map (end_without (start_at 0 ends from)) (slice_range ends from to)
    → IsPartMade (groups_between kind v ends zs) (groups_between kind v moved part) from to moved part
part_made kind v zs part ends moved from to rise is order part_is moved_is =
    let out = cut_out zs ends from to rise order in
    let f = groups_between kind v ends zs in
    let groups : cut 0 moved part ≡ slice_range f.groups from to = rw (part_is, moved_is) out.groups in
    let same : groups_between kind v moved part ≡ groups_part f from to =
    ap (λ (gs : List Group). record { kind = kind; variables = v; groups = gs }) groups in
    record {
      rise = rw (part_is, moved_is) out.rise;
      formula = subst IsFormula (sym same) (part_is_formula f from to is);
      is = same;
    }
