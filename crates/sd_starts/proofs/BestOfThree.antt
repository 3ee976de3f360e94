-- Which start decides among three, by what the formula comes to at each.
use Rattle.std.proofs.Common.{◌≡◌, ℕ, ◌<◌, ◌≤◌, Bool, true, false, refl, ap, arith}
use Rattle.std.specs.Prelude.{nat_lt, ◌&&◌, if◌then◌else◌}
use Rattle.std.proofs.lemmas.Bool.Decides.{nat_tests}
use Rattle.sd_starts.specs.Starts.{StartEnd, Ended, Passed, IsLeast, PassesAtEach, rank}
use Rattle.sd_starts.specs.Deciding.{decider}
use Rattle.sd_starts.specs.declared.start.Start.{Start}
use Rattle.sd_starts.specs.declared.start.Start.TheVariants.{Balanced, Right, Left}
use Rattle.sd_starts.specs.declared.choosing.Judged.{Judged}
use Rattle.sd_starts.specs.declared.choosing.Judged.TheVariants as judged

-- what the formula comes to at each start
abbrev pub ends : StartEnd → StartEnd → StartEnd → Start → StartEnd
ends x y z Balanced = x
ends x y z Right = y
ends x y z Left = z

-- a size is at most the one at the end
abbrev AtMost : ℕ → StartEnd → Type 0
AtMost n (Ended m) = n ≤ m
AtMost n (Passed group m) = Unit {0}

-- a size is less than the one at the end
abbrev Below : ℕ → StartEnd → Type 0
Below n (Ended m) = n < m
Below n (Passed group m) = Unit {0}

at_most : (n : ℕ) (e : StartEnd) → AtMost n e → (m : ℕ) → e ≡ Ended m → n ≤ m
at_most n (Ended k) h m same = let e : k ≡ m = cc in omega (arith, h, e)
at_most n (Passed group k) h m same = absurd cc

below : (n : ℕ) (e : StartEnd) → Below n e → (m : ℕ) → e ≡ Ended m → n < m
below n (Ended k) h m same = let e : k ≡ m = cc in omega (arith, h, e)
below n (Passed group k) h m same = absurd cc

below_most : (n : ℕ) (e : StartEnd) → Below n e → AtMost n e
below_most n (Ended k) h = omega (arith, h)
below_most n (Passed group k) h = tt

same_most : (n m : ℕ) (e : StartEnd) → e ≡ Ended n → e ≡ Ended m → n ≤ m
same_most n m (Ended k) is same = let a : k ≡ n = cc in let b : k ≡ m = cc in omega (arith, a, b)
same_most n m (Passed group k) is same = absurd cc

-- the balanced one is chosen
least_balanced : (x y z : StartEnd) (n : ℕ) → x ≡ Ended n → AtMost n y → AtMost n z → IsLeast (ends x y z) Balanced n
least_balanced x y z n is second third = record {
  ended = is;
  least = go;
  first = λ other m before e. absurd (omega (arith, before));
}
  where
    go : (other : Start) (m : ℕ) → ends x y z other ≡ Ended m → n ≤ m
    go Balanced m e = same_most n m x is e
    go Right m e = at_most n y second m e
    go Left m e = at_most n z third m e

-- the right one is chosen
least_right : (x y z : StartEnd) (n : ℕ) → y ≡ Ended n → Below n x → AtMost n z → IsLeast (ends x y z) Right n
least_right x y z n is first third = record { ended = is; least = go; first = before }
  where
    go : (other : Start) (m : ℕ) → ends x y z other ≡ Ended m → n ≤ m
    go Balanced m e = at_most n x (below_most n x first) m e
    go Right m e = same_most n m y is e
    go Left m e = at_most n z third m e

    before : (other : Start) (m : ℕ) → rank other < 1 → ends x y z other ≡ Ended m → n < m
    before Balanced m less e = below n x first m e
    before Right m less e = absurd (omega (arith, less))
    before Left m less e = absurd (omega (arith, less))

-- the left one is chosen
least_left : (x y z : StartEnd) (n : ℕ) → z ≡ Ended n → Below n x → Below n y → IsLeast (ends x y z) Left n
least_left x y z n is first second = record { ended = is; least = go; first = before }
  where
    go : (other : Start) (m : ℕ) → ends x y z other ≡ Ended m → n ≤ m
    go Balanced m e = at_most n x (below_most n x first) m e
    go Right m e = at_most n y (below_most n y second) m e
    go Left m e = same_most n m z is e

    before : (other : Start) (m : ℕ) → rank other < 2 → ends x y z other ≡ Ended m → n < m
    before Balanced m less e = below n x first m e
    before Right m less e = below n y second m e
    before Left m less e = absurd (omega (arith, less))

-- what an end shows
abbrev pub shown_of : StartEnd → Judged
shown_of (Ended n) = judged.Ended n
shown_of (Passed group n) = judged.Passed

-- the start that decides among three ends
abbrev pub decided : StartEnd → StartEnd → StartEnd → Start
decided a b c = decider (shown_of a) (shown_of b) (shown_of c)

same_size : (n m : ℕ) → judged.Ended n ≡ judged.Ended m → n ≡ m
same_size n m e = cc

no_pass : (n : ℕ) → judged.Ended n ≡ judged.Passed → ⊥
no_pass n e = cc

-- where the start that decides ended, its size is the least
pub least_decided : (a b c : StartEnd) (n : ℕ) → shown_of (ends a b c (decided a b c)) ≡ judged.Ended n
    → IsLeast (ends a b c) (decided a b c) n
least_decided (Ended a) (Ended b) (Ended c) n = go (nat_lt c a) refl (nat_lt c b) refl (nat_lt b a) refl
  where
    go : (ca : Bool) → nat_lt c a ≡ ca → (cb : Bool) → nat_lt c b ≡ cb → (ba : Bool) → nat_lt b a ≡ ba
        → let s = if ca && cb then Left else if ba then Right else Balanced in
        shown_of (ends (Ended a) (Ended b) (Ended c) s) ≡ judged.Ended n
        → IsLeast (ends (Ended a) (Ended b) (Ended c)) s n
    go true e true f ba g is =
        let same = same_size c n is in
        least_left (Ended a) (Ended b) (Ended c) n (ap Ended same) (grind (arith, nat_tests)) (grind (arith, nat_tests))
    go true e false f true g is =
        let same = same_size b n is in
        least_right (Ended a) (Ended b) (Ended c) n (ap Ended same)
        (grind (arith, nat_tests)) (grind (arith, nat_tests))
    go true e false f false g is =
        let same = same_size a n is in
        least_balanced (Ended a) (Ended b) (Ended c) n (ap Ended same)
        (grind (arith, nat_tests)) (grind (arith, nat_tests))
    go false e cb f true g is =
        let same = same_size b n is in
        least_right (Ended a) (Ended b) (Ended c) n (ap Ended same)
        (grind (arith, nat_tests)) (grind (arith, nat_tests))
    go false e cb f false g is =
        let same = same_size a n is in
        least_balanced (Ended a) (Ended b) (Ended c) n (ap Ended same)
        (grind (arith, nat_tests)) (grind (arith, nat_tests))
least_decided (Ended a) (Ended b) (Passed h c) n = go (nat_lt b a) refl
  where
    go : (ba : Bool) → nat_lt b a ≡ ba → let s = if ba then Right else Balanced in
        shown_of (ends (Ended a) (Ended b) (Passed h c) s) ≡ judged.Ended n
        → IsLeast (ends (Ended a) (Ended b) (Passed h c)) s n
    go true g is =
        let same = same_size b n is in
        least_right (Ended a) (Ended b) (Passed h c) n (ap Ended same) (grind (arith, nat_tests)) tt
    go false g is =
        let same = same_size a n is in
        least_balanced (Ended a) (Ended b) (Passed h c) n (ap Ended same) (grind (arith, nat_tests)) tt
least_decided (Ended a) (Passed k b) (Ended c) n = go (nat_lt c a) refl
  where
    go : (ca : Bool) → nat_lt c a ≡ ca → let s = if ca && true then Left else Balanced in
        shown_of (ends (Ended a) (Passed k b) (Ended c) s) ≡ judged.Ended n
        → IsLeast (ends (Ended a) (Passed k b) (Ended c)) s n
    go true g is =
        let same = same_size c n is in
        least_left (Ended a) (Passed k b) (Ended c) n (ap Ended same) (grind (arith, nat_tests)) tt
    go false g is =
        let same = same_size a n is in
        least_balanced (Ended a) (Passed k b) (Ended c) n (ap Ended same) tt (grind (arith, nat_tests))
least_decided (Ended a) (Passed k b) (Passed h c) n = λ is.
    let same = same_size a n is in
    least_balanced (Ended a) (Passed k b) (Passed h c) n (ap Ended same) tt tt
least_decided (Passed o a) (Ended b) (Ended c) n = go (nat_lt c b) refl
  where
    go : (cb : Bool) → nat_lt c b ≡ cb → let s = if true && cb then Left else Right in
        shown_of (ends (Passed o a) (Ended b) (Ended c) s) ≡ judged.Ended n
        → IsLeast (ends (Passed o a) (Ended b) (Ended c)) s n
    go true g is =
        let same = same_size c n is in
        least_left (Passed o a) (Ended b) (Ended c) n (ap Ended same) tt (grind (arith, nat_tests))
    go false g is =
        let same = same_size b n is in
        least_right (Passed o a) (Ended b) (Ended c) n (ap Ended same) tt (grind (arith, nat_tests))
least_decided (Passed o a) (Ended b) (Passed h c) n = λ is.
    let same = same_size b n is in
    least_right (Passed o a) (Ended b) (Passed h c) n (ap Ended same) tt tt
least_decided (Passed o a) (Passed k b) (Ended c) n = λ is.
    let same = same_size c n is in
    least_left (Passed o a) (Passed k b) (Ended c) n (ap Ended same) tt tt
least_decided (Passed o a) (Passed k b) (Passed h c) n = λ is. absurd (no_size n is)
  where
    no_size : (n : ℕ) → judged.Passed ≡ judged.Ended n → ⊥
    no_size n e = cc

-- where the start that decides passed the limit, each does, and it is the balanced one
pub passed_decided : (a b c : StartEnd) → shown_of (ends a b c (decided a b c)) ≡ judged.Passed
    → (decided a b c ≡ Balanced) × PassesAtEach (ends a b c)
passed_decided (Passed o a) (Passed k b) (Passed h c) is = (refl, passes)
  where
    passes : (start : Start)
        → (group size : ℕ) × (ends (Passed o a) (Passed k b) (Passed h c) start ≡ Passed group size)
    passes Balanced = (o, a, refl)
    passes Right = (k, b, refl)
    passes Left = (h, c, refl)
passed_decided (Passed o a) (Passed k b) (Ended c) is = absurd (no_pass c is)
passed_decided (Passed o a) (Ended b) (Passed h c) is = absurd (no_pass b is)
passed_decided (Passed o a) (Ended b) (Ended c) is = go (nat_lt c b) is
  where
    go : (cb : Bool) → let s = if true && cb then Left else Right in
        shown_of (ends (Passed o a) (Ended b) (Ended c) s) ≡ judged.Passed
        → (s ≡ Balanced) × PassesAtEach (ends (Passed o a) (Ended b) (Ended c))
    go true is = absurd (no_pass c is)
    go false is = absurd (no_pass b is)
passed_decided (Ended a) (Passed k b) (Passed h c) is = absurd (no_pass a is)
passed_decided (Ended a) (Passed k b) (Ended c) is = go (nat_lt c a) is
  where
    go : (ca : Bool) → let s = if ca && true then Left else Balanced in
        shown_of (ends (Ended a) (Passed k b) (Ended c) s) ≡ judged.Passed
        → (s ≡ Balanced) × PassesAtEach (ends (Ended a) (Passed k b) (Ended c))
    go true is = absurd (no_pass c is)
    go false is = absurd (no_pass a is)
passed_decided (Ended a) (Ended b) (Passed h c) is = go (nat_lt b a) is
  where
    go : (ba : Bool) → let s = if ba then Right else Balanced in
        shown_of (ends (Ended a) (Ended b) (Passed h c) s) ≡ judged.Passed
        → (s ≡ Balanced) × PassesAtEach (ends (Ended a) (Ended b) (Passed h c))
    go true is = absurd (no_pass b is)
    go false is = absurd (no_pass a is)
passed_decided (Ended a) (Ended b) (Ended c) is = go (nat_lt c a) (nat_lt c b) (nat_lt b a) is
  where
    go : (ca cb ba : Bool) → let s = if ca && cb then Left else if ba then Right else Balanced in
        shown_of (ends (Ended a) (Ended b) (Ended c) s) ≡ judged.Passed
        → (s ≡ Balanced) × PassesAtEach (ends (Ended a) (Ended b) (Ended c))
    go true true ba is = absurd (no_pass c is)
    go true false true is = absurd (no_pass b is)
    go true false false is = absurd (no_pass a is)
    go false cb true is = absurd (no_pass b is)
    go false cb false is = absurd (no_pass a is)
