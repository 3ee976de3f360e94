-- The stack of candidates: a number is put on it, or its top is taken off, and who has to wait still does.
use Rattle.std.proofs.Common.{◌≡◌, ◌≢◌, ℕ, zero, suc, ◌+◌, ◌-◌, ◌<◌, ◌≤◌, ◌++◌, Bool, true, false, cond}
use Rattle.std.proofs.Common.{List, [], ◌∷◌, length, get_or, slice_get, Some, sym, ap, subst, ◌∙◌, arith}
use Rattle.std.proofs.Math.ListN.{set}
use Rattle.std.proofs.lemmas.Bool.{cases_eq}
use Rattle.std.proofs.lemmas.List.{length-set, length_push}
use Rattle.std.proofs.lemmas.List.Sums.{sum_by-set, sum_by-cons}
use Rattle.sd_runs.proofs.Places.{by_cases}
use Rattle.sd_runs.specs.Arena.{Arena}
use Rattle.sd_unique.specs.declared.record.Record.{Record}
use Rattle.sd_unique.specs.declared.record.Links.{Links}
use Rattle.sd_unique.specs.Candidates.{Waits, AreCandidates, waiting_count}
use Rattle.sd_unique.specs.Chains.{HoldsNodes, IsUnused}
use Rattle.sd_unique.proofs.Entries.{slice_get_at, slice_get_inside, slice_get_set, slice_get_set_other}
use Rattle.sd_unique.proofs.Entries.{slice_get_push, slice_get_before}

one_value : (b : Bool) → cond {A = ℕ} b 1 0 ≤ 1
one_value true = omega arith
one_value false = omega arith

-- no more numbers stand in the stack than there are
no_more_wait : (flags : List Bool) → waiting_count flags ≤ length flags
no_more_wait [] = omega arith
no_more_wait (b ∷ flags) =
    omega (arith, no_more_wait flags, one_value b, sum_by-cons (λ (c : Bool). cond {A = ℕ} c 1 0) b flags)

-- and fewer where one does not
fewer_wait : (flags : List Bool) (n : ℕ) → slice_get flags n ≡ Some false → waiting_count flags < length flags
fewer_wait [] n off = cc
fewer_wait (b ∷ flags) zero off =
    let is : b ≡ false = cc in
    omega (
      arith,
      no_more_wait flags,
      ap (λ c. cond {A = ℕ} c 1 0) is,
      sum_by-cons (λ (c : Bool). cond {A = ℕ} c 1 0) b flags,
    )
fewer_wait (b ∷ flags) (suc n) off =
    omega (
      arith,
      fewer_wait flags n off,
      one_value b,
      sum_by-cons (λ (c : Bool). cond {A = ℕ} c 1 0) b flags,
    )

-- where none of the flags counts, none is on
pub none_wait : (flags : List Bool) → waiting_count flags ≡ 0 → (n : ℕ) → ¬ Waits flags n
none_wait [] none n on = cc
none_wait (b ∷ flags) none zero on =
    let is : b ≡ true = cc in
    omega (
      arith,
      none,
      ap (λ c. cond {A = ℕ} c 1 0) is,
      sum_by-cons (λ (c : Bool). cond {A = ℕ} c 1 0) b flags,
    )
none_wait (b ∷ flags) none (suc n) on =
    none_wait flags (omega (arith, none, sum_by-cons (λ (c : Bool). cond {A = ℕ} c 1 0) b flags)) n on

-- where one more does not stand in the stack, as many do
count_push : (flags : List Bool) → waiting_count (flags ++ false ∷ []) ≡ waiting_count flags
count_push [] = omega (arith, sum_by-cons (λ (c : Bool). cond {A = ℕ} c 1 0) false [])
count_push (b ∷ flags) =
    omega (
      arith,
      count_push flags,
      sum_by-cons (λ (c : Bool). cond {A = ℕ} c 1 0) b flags,
      sum_by-cons (λ (c : Bool). cond {A = ℕ} c 1 0) b (flags ++ false ∷ []),
    )

-- one flag is set
count_set : (flags : List Bool) (n : ℕ) (was now : Bool) → slice_get flags n ≡ Some was
    → waiting_count (set flags n now) + cond {A = ℕ} was 1 0 ≡ waiting_count flags + cond {A = ℕ} now 1 0
count_set flags n was now there =
    let inside = slice_get_inside flags n was there in
    let read : Some (get_or flags n was) ≡ Some was = sym (slice_get_at flags n was inside) ∙ there in
    let is : get_or flags n was ≡ was = cc in
    omega (
      arith,
      sum_by-set (λ (c : Bool). cond {A = ℕ} c 1 0) flags n now was inside,
      ap (λ c. cond {A = ℕ} c 1 0) is,
    )

pub waits_here : (flags : List Bool) (n : ℕ) → n < length flags → Waits (set flags n true) n
waits_here flags n inside = slice_get_set flags n true inside

pub waits_still : (flags : List Bool) (n m : ℕ) → n < length flags → Waits flags m → Waits (set flags n true) m
waits_still flags n m inside on =
    by_cases
    (λ same. ap (slice_get (set flags n true)) same ∙ slice_get_set flags n true inside)
    (λ ne. slice_get_set_other flags n true m ne ∙ on)
    (cases_eq m n)

pub waits_other : (flags : List Bool) (n m : ℕ) → m ≢ n → Waits flags m → Waits (set flags n false) m
waits_other flags n m ne on = slice_get_set_other flags n false m ne ∙ on

not_both : (flags : List Bool) (n : ℕ) → Waits flags n → slice_get flags n ≡ Some false → ⊥
not_both flags n on off =
    let no : Some true ≡ Some false = sym on ∙ off in
    let same : true ≡ false = cc in cc

module _ (numbers : List ℕ) (flags : List Bool) (room : ℕ) (k : AreCandidates numbers flags room) where
  -- no more numbers stand in the stack than there are flags
  pub depth_inside : length numbers ≤ length flags
  depth_inside = omega (arith, k.counted, no_more_wait flags)

  -- the number that is read on the top
  pub read_top : 0 < length numbers → (top n : ℕ) → top ≡ length numbers - 1 → n ≡ get_or numbers top n
      → slice_get numbers (length numbers - 1) ≡ Some n
  read_top some top n at read =
      ap (slice_get numbers) (sym at) ∙ slice_get_at numbers top n (omega (arith, some, at)) ∙ ap Some (sym read)

  -- there is one more number, which does not stand in the stack
  pub number_added : length flags < room → AreCandidates numbers (flags ++ false ∷ []) room
  number_added h =
      record {
        counted = k.counted ∙ sym (count_push flags);
        waiting = λ i n there.
            let on = k.waiting i n there in
            slice_get_before flags false n
            (λ same. let inside = slice_get_inside flags n true on in omega (arith, same, inside)) ∙ on;
        apart = k.apart;
        fits = omega (arith, length_push flags false, h);
      }

  module _ (n : ℕ) (off : slice_get flags n ≡ Some false) where
    -- there is room for a number that does not stand in the stack
    pub push_fits : length numbers < room
    push_fits = omega (arith, k.counted, k.fits, fewer_wait flags n off)

    -- such a number is put on it
    pub number_pushed : AreCandidates (numbers ++ n ∷ []) (set flags n true) room
    number_pushed =
        record {
          counted = omega (arith, length_push numbers n, k.counted, count_set flags n false true off);
          waiting = λ i m there. by_cases
              (λ last. ap (slice_get (set flags n true)) (same_as i m last there)
              ∙ waits_here flags n (slice_get_inside flags n false off))
              (λ ne. waits_still flags n m (slice_get_inside flags n false off) (k.waiting i m (before i m ne there)))
              (cases_eq i (length numbers));
          apart = λ i j m there here. by_cases
              (λ last. by_cases
              (λ too. last ∙ sym too)
              (λ ne. absurd (twice i m j last there (before j m ne here)))
              (cases_eq j (length numbers)))
              (λ ne. by_cases
              (λ last. absurd (twice j m i last here (before i m ne there)))
              (λ other. k.apart i j m (before i m ne there) (before j m other here))
              (cases_eq j (length numbers)))
              (cases_eq i (length numbers));
          fits = omega (arith, length-set flags n true, k.fits);
        }
      where
        before : (i m : ℕ) → ¬ (i ≡ length numbers) → slice_get (numbers ++ n ∷ []) i ≡ Some m
            → slice_get numbers i ≡ Some m
        before i m ne there = sym (slice_get_before numbers n i ne) ∙ there

        same_as : (i m : ℕ) → i ≡ length numbers → slice_get (numbers ++ n ∷ []) i ≡ Some m → m ≡ n
        same_as i m last there =
            let is : Some n ≡ Some m = sym (slice_get_push numbers n)
            ∙ ap (slice_get (numbers ++ n ∷ [])) (sym last) ∙ there in cc

        twice : (i m j : ℕ) → i ≡ length numbers → slice_get (numbers ++ n ∷ []) i ≡ Some m
            → slice_get numbers j ≡ Some m → ⊥
        twice i m j last there here =
            not_both flags n (ap (slice_get flags) (sym (same_as i m last there)) ∙ k.waiting j m here) off

  module _ (n : ℕ) (there : slice_get numbers (length numbers - 1) ≡ Some n) where
    pub top_waits : Waits flags n
    top_waits = k.waiting (length numbers - 1) n there

    pub top_inside : n < length flags
    top_inside = slice_get_inside flags n true top_waits

    -- the top is taken off
    pub number_popped : (rest : List ℕ) (last : ℕ) → numbers ≡ rest ++ last ∷ []
        → AreCandidates rest (set flags n false) room
    number_popped rest last is =
        record {
          counted = omega (arith, shorter, k.counted, count_set flags n true false top_waits);
          waiting = λ i m here. waits_other flags n m
              (λ same.
              let at : i ≡ length numbers - 1 = k.apart i (length numbers - 1) n (old i m here ∙ ap Some same) there in
              omega (arith, at, shorter, slice_get_inside rest i m here))
              (k.waiting i m (old i m here));
          apart = λ i j m here beneath. k.apart i j m (old i m here) (old j m beneath);
          fits = omega (arith, length-set flags n false, k.fits);
        }
      where
        shorter : length numbers ≡ length rest + 1
        shorter = ap length is ∙ length_push rest last

        old : (i m : ℕ) → slice_get rest i ≡ Some m → slice_get numbers i ≡ Some m
        old i m here =
            ap (λ l. slice_get l i) is
            ∙ slice_get_before rest last i (λ same. omega (arith, same, slice_get_inside rest i m here))
            ∙ here

-- what is left of the stack: all that stand for linked nodes without uses
pub record AreLeft (records : List Record) (old flags : List Bool) (numbers : List ℕ) (room : ℕ) : Type 0 where
  pub stack : AreCandidates numbers flags room
  pub size : length flags ≡ length records
  pub others : (n : ℕ) (r : Record) → slice_get records n ≡ Some r → IsUnused r → Waits old n → Waits flags n

module _ (records : List Record) (old flags : List Bool) (numbers : List ℕ) (room : ℕ)
    (k : AreLeft records old flags numbers room) (some : 0 < length numbers) (i top : ℕ)
    (at : i ≡ length numbers - 1) (read : top ≡ get_or numbers i top) where
  there : slice_get numbers (length numbers - 1) ≡ Some top
  there = read_top numbers flags room k.stack some i top at read

  -- the top has a record
  pub left_inside : top < length records
  left_inside = omega (arith, k.size, top_inside numbers flags room k.stack top there)

  -- a top that is not that of a linked node without uses is taken off
  pub left_popped : (r : Record) → slice_get records top ≡ Some r → ¬ IsUnused r
      → (rest : List ℕ) (last : ℕ) → numbers ≡ rest ++ last ∷ []
      → AreLeft records old (set flags top false) rest room
  left_popped r e used rest last is =
      record {
        stack = number_popped numbers flags room k.stack top there rest last is;
        size = length-set flags top false ∙ k.size;
        others = λ n x has unused waits. waits_other flags top n
            (λ same.
            let both : Some x ≡ Some r = sym has ∙ ap (slice_get records) same ∙ e in
            let r_is : x ≡ r = cc in
            used (subst IsUnused r_is unused))
            (k.others n x has unused waits);
      }

-- what holds of the fields is kept where the stack has all linked nodes without uses
pub kept_queued : {chained : Bool} (arena : Arena) (rs : List Record) (links : List Links) (heads places : List ℕ)
    (flags new : List Bool) → length new ≡ length flags
    → ((n : ℕ) (r : Record) → slice_get rs n ≡ Some r → IsUnused r → Waits flags n → Waits new n)
    → HoldsNodes chained arena rs links heads places flags → HoldsNodes chained arena rs links heads places new
kept_queued arena rs links heads places flags new size others k =
    record {
      stored = k.stored;
      linked_all = k.linked_all;
      flags_all = size ∙ k.flags_all;
      at_least_one = k.at_least_one;
      places_all = k.places_all;
      in_chains = k.in_chains;
      in_lists = k.in_lists;
      queued = λ i r e linked none.
          others i r e (record { linked = linked; none = none }) (k.queued i r e linked none);
    }
