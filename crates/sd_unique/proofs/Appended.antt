-- The record of a new node is put behind the others at once, which is as if a free one were put there and occupied.
use Rattle.std.proofs.Common.{◌≡◌, ◌-◌, bit_and, false, ℕ, suc, ◌+◌, ◌<◌, List, [], ◌∷◌, ◌++◌, length}
use Rattle.std.proofs.Common.{Bool, get_or, Option, None, Some, unwrap_or, refl, sym, ap, subst, ◌∙◌, arith}
use Rattle.std.proofs.Math.ListN.{set}
use Rattle.std.proofs.lemmas.List.{length-set, get_or-set_same}
use Rattle.std.specs.FinMap.{get}
use Rattle.std.specs.Option.{IsSome}
use Rattle.sd_runs.proofs.Places.{by_cases}
use Rattle.std.proofs.lemmas.Bool.{cases_eq}
use Rattle.sd_runs.specs.Arena.{Arena, IsArena}
use Rattle.sd_runs.specs.Taking.{taken, next_start, KeepsLive}
use Rattle.sd_unique.specs.Candidates.{Waits}
use Rattle.sd_unique.specs.declared.record.Record.{Record}
use Rattle.sd_unique.specs.declared.record.Links.{Links}
use Rattle.sd_unique.specs.declared.record.RecordState.TheVariants.{Free, Linked}
use Rattle.sd_unique.specs.Nodes.{Nodes, key_at}
use Rattle.sd_unique.specs.Occupying.{occupied, IsFreeNumber}
use Rattle.sd_unique.specs.Inserting.{inserted, IsNewNumber}
use Rattle.sd_unique.specs.Relinking.{with_loose, IsLoose, IsAbsent}
use Rattle.sd_unique.specs.Record.{nodes_of}
use Rattle.sd_unique.specs.Filed.{filed_at}
use Rattle.sd_unique.specs.Chains.{next_of, head_of, list_under, bucket_of, hash_of, no_record}
use Rattle.sd_unique.specs.Chains.{HoldsNodes, AreInLists, AreListed}
use Rattle.sd_unique.proofs.Occupied.{first_number, kept_steps, nodes_steps}
use Rattle.sd_unique.proofs.Occupied.{first_unlisted, free_first, all_nodes}
use Rattle.sd_unique.proofs.Pushed.{link_last, run_taken, pushed_kept, pushed_number, pushed_view, pushed_new}
use Rattle.sd_unique.proofs.Pushed.{pushed_inserted, with_records}
use Rattle.sd_unique.proofs.Reading.{get_or_any}
use Rattle.sd_unique.proofs.Standing.{list_inside}

set_last : {X : Type 0} (xs : List X) (x y : X) → set (xs ++ x ∷ []) (length xs) y ≡ xs ++ y ∷ []
set_last [] x y = refl
set_last (z ∷ xs) x y = ap (λ l. z ∷ l) (set_last xs x y)

-- the first head is set to another value, and back
set_back : (heads : List ℕ) (n none : ℕ) → 0 < length heads → get_or heads 0 none ≡ none
    → set (set heads 0 n) 0 none ≡ heads
set_back [] n none h e = refl
set_back (x ∷ xs) n none h e = ap (λ y. y ∷ xs) (sym e)

-- where each number is that of a node, no record is free
pub none_waits : {chained : Bool} (arena : Arena) (rs : List Record) (links : List Links) (heads places : List ℕ)
    (flags : List Bool) → HoldsNodes chained arena rs links heads places flags → (a : Nodes) → nodes_of arena rs ≡ a
    → ((m : ℕ) → m < a.records → IsSome (key_at a m)) → no_record ≡ get_or heads 0 no_record
none_waits {chained} arena rs links heads places flags k a view all =
    by_cases
    (λ e. sym e)
    (λ ne. let free = free_first chained arena rs heads (length heads - 1) k.in_chains ne in
    let node = subst (λ b. IsSome (key_at b (head_of heads 0))) (sym view)
    (all (head_of heads 0) (omega (arith, free.0, ap (λ b. b.records) view))) in
    let no = subst IsSome free.1 node in cc)
    (cases_eq (head_of heads 0) no_record)

-- and the reverse
pub all_named : {chained : Bool} (arena : Arena) (rs : List Record) (links : List Links) (heads places : List ℕ)
    (flags : List Bool) → HoldsNodes chained arena rs links heads places flags → (a : Nodes) → nodes_of arena rs ≡ a
    → (first : ℕ)
    → first ≡ get_or heads 0 first → first ≡ no_record → (m : ℕ) → m < a.records → IsSome (key_at a m)
all_named {chained} arena rs links heads places flags k a view first read last m below =
    subst (λ b. IsSome (key_at b m)) view
    (all_nodes chained arena rs heads (length heads - 1) k.in_chains
    (get_or_any heads 0 no_record first (omega (arith, k.at_least_one)) ∙ sym read ∙ last) m
    (omega (arith, below, ap (λ b. b.records) view)))

abbrev pub blank : Record
blank = record { place = 0; start = 0; length = 0; next = no_record; uses = 0; mark = 0; state = Free }

abbrev pub made : ℕ → ℕ → ℕ → ℕ → Record
made place start size next =
    record { place = place; start = start; length = size; next = next; uses = 0; mark = 0; state = Linked }

module _ {chained : Bool} (arena new : Arena) (rs : List Record) (links : List Links) (heads places : List ℕ)
    (flags : List Bool) (k : HoldsNodes chained arena rs links heads places flags) (well : IsArena new)
    (list : List (ℕ × ℕ)) (start : ℕ)
    (is : new ≡ taken arena list) (at : start ≡ next_start arena (length list))
    (fresh : get arena.live start ≡ None) (keeps : KeepsLive arena new) (a : Nodes)
    (view : nodes_of arena rs ≡ a) (l : Links) (first : ℕ)
    (read : first ≡ get_or heads 0 first) (last : first ≡ no_record) (some : 0 < length list) (n : ℕ)
    (size : n ≡ length rs) where
  -- what would hold with a free record
  held : HoldsNodes chained new (rs ++ blank ∷ []) (links ++ l ∷ []) (set heads 0 n) places (flags ++ false ∷ [])
  held =
      pushed_kept arena new rs links heads places flags k well list start is at fresh keeps a view (rs ++ blank ∷ [])
      (links ++ l ∷ []) blank l refl refl refl refl first read last some n size

  number : (m : ℕ) × IsFreeNumber (nodes_of new (rs ++ blank ∷ [])) m
  number =
      pushed_number arena new rs links heads places flags k well list start is at fresh keeps a view (rs ++ blank ∷ [])
      (links ++ l ∷ []) blank l refl refl refl refl first read last some

  here : n ≡ get_or (set heads 0 n) 0 n
  here = sym (get_or-set_same heads 0 n n (omega (arith, k.at_least_one)))

  pub appended_unlisted : list_under (rs ++ blank ∷ []) n ≡ None
  appended_unlisted =
      first_unlisted new (rs ++ blank ∷ []) (links ++ l ∷ []) (set heads 0 n) places (flags ++ false ∷ []) held n here
      number

  pub appended_lists : (ls : List Links) (ps : List ℕ) → (0 < length places → ls ≡ links ++ l ∷ []) → ps ≡ places
      → AreListed ls ps (list_under (rs ++ blank ∷ []))
  appended_lists ls ps linked same = λ some.
      let any : 0 < length places = omega (arith, some, ap length same) in
      subst (λ x. AreInLists x ps (list_under (rs ++ blank ∷ []))) (sym (linked any))
      (subst (λ p. AreInLists (links ++ l ∷ []) p (list_under (rs ++ blank ∷ []))) (sym same) (held.in_lists any))

  pub appended_ready : (ls : List Links) (ps : List ℕ) → (0 < length places → ls ≡ links ++ l ∷ []) → ps ≡ places
      → (under : ℕ → Option ℕ) × (under n ≡ None)
      × (0 < length ps → (m b : ℕ) → under m ≡ Some b → m < length ls) × AreListed ls ps under
  appended_ready ls ps linked same = (
    list_under (rs ++ blank ∷ []),
    appended_unlisted,
    λ some m b e.
        let any : 0 < length places = omega (arith, some, ap length same) in
        omega (arith, held.linked_all any, list_inside (rs ++ blank ∷ []) m b e, ap length (linked any)),
    appended_lists ls ps linked same,
  )

  free : IsFreeNumber (nodes_of new (rs ++ blank ∷ [])) n
  free =
      first_number new (rs ++ blank ∷ []) (links ++ l ∷ []) (set heads 0 n) places (flags ++ false ∷ []) held n here
      number

  pub appended_new : IsNewNumber a n
  appended_new =
      pushed_new arena new rs links heads places flags k well list start is at fresh keeps a view (rs ++ blank ∷ [])
      (links ++ l ∷ []) blank l refl refl refl refl first read last some n free

  seen : nodes_of new (rs ++ blank ∷ []) ≡ with_records (with_loose a start list) (a.records + 1)
  seen =
      pushed_view arena new rs links heads places flags k well list start is at fresh keeps a view (rs ++ blank ∷ [])
      (links ++ l ∷ []) blank l refl refl refl refl first read last some

  run : IsLoose (nodes_of new (rs ++ blank ∷ [])) start (length list) list
  run = subst (λ b. IsLoose b start (length list) list) (sym seen) (run_taken a (a.records + 1) start list)

  module _ (hash place next : ℕ) (hashed : hash ≡ hash_of (place, list)) (absent : IsAbsent a (place, list))
      (ts : List Record) (grown : ts ≡ rs ++ made place start (length list) next ∷ []) where
    gone : IsAbsent (nodes_of new (rs ++ blank ∷ [])) (place, list)
    gone = subst (λ b. IsAbsent b (place, list)) (sym seen) absent

    whole : set (rs ++ blank ∷ []) n (made place start (length list) next) ≡ ts
    whole =
        ap (λ m. set (rs ++ blank ∷ []) m (made place start (length list) next)) size
        ∙ set_last rs blank (made place start (length list) next) ∙ sym grown

    back : set (set heads 0 n) 0 no_record ≡ heads
    back =
        set_back heads n no_record (omega (arith, k.at_least_one))
        (get_or_any heads 0 no_record first (omega (arith, k.at_least_one)) ∙ sym read ∙ last)

    pub appended_kept : (b head : ℕ) → b ≡ bucket_of (place, list) (length heads - 1) → b < length heads - 1
        → head ≡ suc b → next ≡ get_or heads head next
        → (ends : List Links) (places' : List ℕ) (flags' : List Bool) (list_at : ℕ)
        → list_at ≡ suc (bit_and place 2047)
        → AreListed ends places' (filed_at n list_at (list_under (rs ++ blank ∷ [])))
        → (0 < length places' → length ends ≡ length (links ++ l ∷ [])) → length places' ≡ length places
        → length flags' ≡ length (flags ++ false ∷ [])
        → ((m : ℕ) → Waits (flags ++ false ∷ []) m → Waits flags' m) → Waits flags' n
        → HoldsNodes chained new ts ends (set heads head n) places' flags'
    appended_kept b head bucket fits head_is next_is ends places' flags' list_at at_is listed same_links sizes fsize
        wait waits =
        subst (λ x. HoldsNodes chained new x ends (set heads head n) places' flags') whole
        (subst (λ h. HoldsNodes chained new (set (rs ++ blank ∷ []) n (made place start (length list) next)) ends
        (set h head n) places' flags') back
        (kept_steps new (rs ++ blank ∷ []) (links ++ l ∷ []) (set heads 0 n) places (flags ++ false ∷ []) held n here
        number
        (made place start (length list) next) list refl run gone no_record b head
        (sym (ap (next_of (rs ++ blank ∷ [])) size ∙ link_last (λ (x : Record). x.next) rs blank))
        (bucket ∙ ap (λ s. bucket_of (place, list) (s - 1)) (sym (length-set heads 0 n)))
        (omega (arith, fits, length-set heads 0 n)) head_is
        (next_is ∙ ap (λ h. get_or h head next) (sym back)) ends places' flags' list_at at_is listed same_links
        sizes fsize wait waits))

    pub appended_nodes : nodes_of new ts ≡ inserted a n place list
    appended_nodes =
        ap (nodes_of new) (sym whole)
        ∙ pushed_inserted arena new rs links heads places flags k well list start is at fresh keeps a view
        (rs ++ blank ∷ []) (links ++ l ∷ []) blank l refl refl refl refl first read last some n place
        (nodes_of new (set (rs ++ blank ∷ []) n (made place start (length list) next))) free
        (λ x loose. nodes_steps new (rs ++ blank ∷ []) (links ++ l ∷ []) (set heads 0 n) places (flags ++ false ∷ [])
        held n here number
        (made place start (length list) next) list refl run gone refl refl
        ∙ ap (λ o. occupied (nodes_of new (rs ++ blank ∷ [])) n place start (unwrap_or o [])) (sym run.is ∙ loose.is))
