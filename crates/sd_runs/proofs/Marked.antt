-- What the marks tell is kept.
use Rattle.std.proofs.Common.{◌≡◌, ℕ, suc, zero, ◌+◌, ◌-◌, ◌<◌, List, [], ◌∷◌, ◌++◌, length, get_or, take, eqb}
use Rattle.std.proofs.Common.{refl, sym, ap, subst, ◌∙◌, arith}
use Rattle.std.proofs.Math.ListN.{set, replicate}
use Rattle.std.proofs.lemmas.List.{length-set, length-append, length-replicate, take_all, append_assoc}
use Rattle.sd_runs.specs.Fields.{before_start, is_in, lengths_of}
use Rattle.sd_runs.specs.Stored.{AreMarked}
use Rattle.sd_runs.proofs.Places.{placed}

-- so many zeros
abbrev pub zeros : ℕ → List ℕ
zeros n = replicate n 0

-- a run of this length: its length at its start, and 0 at its other elements
abbrev pub block : ℕ → List ℕ
block zero = []
block (suc n) = suc n ∷ zeros n

before_zeros : (n : ℕ) → before_start (zeros n) ≡ n
before_zeros zero = refl
before_zeros (suc n) = ap suc (before_zeros n)

lengths_zeros : (n : ℕ) → lengths_of (zeros n) ≡ zeros n
lengths_zeros zero = refl
lengths_zeros (suc n) = ap (λ l. 0 ∷ l) (lengths_zeros n)

before_push : (marks : List ℕ) (n : ℕ) → before_start (marks ++ 1 ∷ zeros n) ≡ before_start marks
before_push [] n = refl
before_push (zero ∷ marks) n = ap suc (before_push marks n)
before_push (suc m ∷ marks) n = refl

-- with the marks of one more run behind, the lengths are the old ones and then that of the run
pub lengths_push : (marks : List ℕ) (n : ℕ) → lengths_of (marks ++ 1 ∷ zeros n) ≡ lengths_of marks ++ block (suc n)
lengths_push [] n =
    ap (λ k. suc k ∷ lengths_of (zeros n)) (before_zeros n) ∙ ap (λ l. suc n ∷ l) (lengths_zeros n)
lengths_push (zero ∷ marks) n = ap (λ l. 0 ∷ l) (lengths_push marks n)
lengths_push (suc m ∷ marks) n =
    ap (λ k. suc k ∷ lengths_of (marks ++ 1 ∷ zeros n)) (before_push marks n)
    ∙ ap (λ l. suc (before_start marks) ∷ l) (lengths_push marks n)

before_set : (marks : List ℕ) (s m : ℕ) → 0 < get_or marks s 0 → before_start (set marks s (suc m)) ≡ before_start marks
before_set [] s m h = refl
before_set (zero ∷ marks) zero m h = absurd (omega arith)
before_set (suc x ∷ marks) zero m h = refl
before_set (zero ∷ marks) (suc s) m h = ap suc (before_set marks s m h)
before_set (suc x ∷ marks) (suc s) m h = refl

lengths_set_suc : (marks : List ℕ) (s m : ℕ) → 0 < get_or marks s 0
    → lengths_of (set marks s (suc m)) ≡ lengths_of marks
lengths_set_suc [] s m h = refl
lengths_set_suc (zero ∷ marks) zero m h = absurd (omega arith)
lengths_set_suc (suc x ∷ marks) zero m h = refl
lengths_set_suc (zero ∷ marks) (suc s) m h = ap (λ l. 0 ∷ l) (lengths_set_suc marks s m h)
lengths_set_suc (suc x ∷ marks) (suc s) m h =
    ap (λ k. suc k ∷ lengths_of (set marks s (suc m))) (before_set marks s m h)
    ∙ ap (λ l. suc (before_start marks) ∷ l) (lengths_set_suc marks s m h)

-- where a run has a length a start is marked
start_marked : (marks : List ℕ) (s : ℕ) → 0 < get_or (lengths_of marks) s 0 → 0 < get_or marks s 0
start_marked [] s h = h
start_marked (zero ∷ marks) zero h = h
start_marked (suc m ∷ marks) zero h = omega arith
start_marked (zero ∷ marks) (suc s) h = start_marked marks s h
start_marked (suc m ∷ marks) (suc s) h = start_marked marks s h

-- another mark at a start changes no length
pub lengths_set : (marks : List ℕ) (s m : ℕ) → 0 < get_or (lengths_of marks) s 0 → 0 < m
    → lengths_of (set marks s m) ≡ lengths_of marks
lengths_set marks s zero h pos = absurd (omega arith)
lengths_set marks s (suc m) h pos = lengths_set_suc marks s m (start_marked marks s h)

zero_there : (n s : ℕ) → get_or (zeros n) s 0 ≡ 0
zero_there zero s = refl
zero_there (suc n) zero = refl
zero_there (suc n) (suc s) = zero_there n s

-- behind the old marks no free run is marked
none_behind : (marks : List ℕ) (n s : ℕ) → eqb (get_or (marks ++ 1 ∷ zeros n) s 0) 2 ≡ eqb (get_or marks s 0) 2
none_behind [] n zero = refl
none_behind [] n (suc s) = ap (λ m. eqb m 2) (zero_there n s)
none_behind (m ∷ marks) n zero = refl
none_behind (m ∷ marks) n (suc s) = none_behind marks n s

module _ {marks : List ℕ} {stacks after : List (List ℕ)} {extent : ℕ} (m : AreMarked marks stacks extent) where
  -- the same runs are free
  pub marked_same : ((s : ℕ) → is_in s (get_or after 2 []) ≡ is_in s (get_or stacks 2 []))
      → AreMarked marks after extent
  marked_same same = record { size = m.size; marked = λ s. m.marked s ∙ sym (same s) }

  -- the fields tell the same stacks
  pub marked_as : {more : ℕ} → after ≡ stacks → more ≡ extent → AreMarked marks after more
  marked_as p q =
      record { size = m.size ∙ sym q; marked = λ s. m.marked s ∙ ap (λ l. is_in s (get_or l 2 [])) (sym p) }

  -- one run was freed, or used again
  pub marked_one : (s b : ℕ) → s < extent → eqb b 2 ≡ is_in s (get_or after 2 [])
      → ((t : ℕ) → ¬ (t ≡ s) → is_in t (get_or after 2 []) ≡ is_in t (get_or stacks 2 []))
      → AreMarked (set marks s b) after extent
  marked_one s b inside here there =
      record {
        size = length-set marks s b ∙ m.size;
        marked = λ t. placed marks s b 0 t (λ x. eqb x 2 ≡ is_in t (get_or after 2 []))
            (omega (arith, inside, m.size))
            (λ e. here ∙ ap (λ j. is_in j (get_or after 2 [])) (sym e))
            (λ ne. m.marked t ∙ sym (there t ne));
      }

-- a run was added at the end
pub marked_grown : {marks : List ℕ} {stacks : List (List ℕ)} {extent : ℕ} → AreMarked marks stacks extent
    → (n : ℕ) → AreMarked (marks ++ 1 ∷ zeros n) stacks (extent + suc n)
marked_grown {marks} m n =
    record {
      size = omega (arith, length-append marks (1 ∷ zeros n), length-replicate {A = ℕ} n 0, m.size);
      marked = λ s. none_behind marks n s ∙ m.marked s;
    }

-- the marks behind which a start was pushed, and zeros up to the end
pub marks_pushed : (marks : List ℕ) (end n : ℕ) → end ≡ length marks + suc n
    → take end (marks ++ 1 ∷ []) ++ replicate (end - length (marks ++ 1 ∷ [])) 0 ≡ marks ++ 1 ∷ zeros n
marks_pushed marks end n e =
    let left : end - length (marks ++ 1 ∷ []) ≡ n = omega (arith, e, length-append marks (1 ∷ [])) in
    ap (λ l. l ++ replicate (end - length (marks ++ 1 ∷ [])) 0)
    (take_all end (marks ++ 1 ∷ []) (omega (arith, e, length-append marks (1 ∷ []))))
    ∙ ap (λ k. (marks ++ 1 ∷ []) ++ replicate k 0) left
    ∙ append_assoc marks (1 ∷ []) (zeros n)

-- so the lengths are the old ones and then that of the run
pub sizes_more : (marks more : List ℕ) (end n : ℕ) → 0 < n → end ≡ length marks + n
    → more ≡ take end (marks ++ 1 ∷ []) ++ replicate (end - length (marks ++ 1 ∷ [])) 0
    → lengths_of more ≡ lengths_of marks ++ block n
sizes_more marks more end zero pos e is = absurd (omega arith)
sizes_more marks more end (suc k) pos e is = ap lengths_of (is ∙ marks_pushed marks end k e) ∙ lengths_push marks k

-- and the same runs are marked as free
pub marked_more : {marks : List ℕ} {stacks : List (List ℕ)} {extent : ℕ} → AreMarked marks stacks extent
    → (more : List ℕ) (end n : ℕ) → 0 < n → end ≡ length marks + n
    → more ≡ take end (marks ++ 1 ∷ []) ++ replicate (end - length (marks ++ 1 ∷ [])) 0
    → AreMarked more stacks end
marked_more m more end zero pos e is = absurd (omega arith)
marked_more {marks} {stacks} {extent} m more end (suc k) pos e is =
    let far : end ≡ extent + suc k = omega (arith, e, m.size) in
    subst (λ l. AreMarked l stacks end) (sym (is ∙ marks_pushed marks end k e))
    (subst (λ x. AreMarked (marks ++ 1 ∷ zeros k) stacks x) (sym far) (marked_grown m k))
