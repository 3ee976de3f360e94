-- A run is taken from the arena or given back.
use Rattle.std.proofs.Common.{Bool, true, false, ◌≡◌, ℕ, suc, zero, ◌+◌, ◌-◌, ◌<◌, ◌≤◌, ◌^◌, List, [], ◌∷◌, length}
use Rattle.std.proofs.Common.{slice_get, Option, Some, None, unwrap_or, refl, sym, ap, subst, ◌∙◌, arith}
use Rattle.std.proofs.lemmas.Bool.{cases_eq}
use Rattle.std.specs.Option.{option_map, option_and_then}
use Rattle.std.proofs.Common.{Result, Ok, Err, IfErr}
use Rattle.std.specs.Result.{IsErrAnd}
use Rattle.std.specs.Ordering.{nat_cmp}
use Rattle.std.specs.FinMap.{FinMap, get, insert, remove, from_entries}
use Rattle.sd_runs.specs.Arena.{Arena, IsArena, free_of, with_list}
use Rattle.sd_runs.specs.Taking.{taken, taken_at, given_back, KeepsLive, next_start, first, IsRefusal as ArenaRefusal}
use Rattle.sd_runs.specs.declared.error.TakeError.{TakeError}
use Rattle.sd_runs.specs.declared.error.TakeError.TheVariants.{ArenaFull, OutOfMemory}
use Rattle.sd_runs.proofs.Maps.{same_at_each, get_insert_same, get_insert_other, get_remove_same, get_remove_other}
use Rattle.sd_runs.proofs.Maps.{shown, get_with_list_same, get_with_list_other}
use Rattle.sd_runs.proofs.Places.{by_cases}
use Rattle.sd_unique.specs.declared.record.Record.{Record}
use Rattle.sd_unique.specs.declared.record.Links.{Links}
use Rattle.sd_unique.specs.declared.record.RecordState.{RecordState}
use Rattle.sd_unique.specs.declared.record.RecordState.TheVariants.{Free, Linked, Detached}
use Rattle.sd_unique.specs.Inserting.{with_count, extent_after, IsRefusal}
use Rattle.sd_unique.specs.Relinking.{with_loose, without_loose}
use Rattle.sd_unique.specs.Record.{if_linked, if_detached, IsNode, picked_map, key_of, linked_key, detached_key}
use Rattle.sd_unique.specs.Record.{uses_of_record, mark_of_record, loose_of, counts_of, nodes_of, AreRecordsStored}
use Rattle.sd_unique.specs.Chains.{chain_in, under_by, bucket_of, no_record, HoldsNodes}
use Rattle.sd_unique.proofs.Counts.{get_counts, count_is}
use Rattle.sd_unique.proofs.Entries.{option_map_some}
use Rattle.sd_unique.proofs.Filed.{filed_same}
use Rattle.sd_unique.proofs.Loose.{IsUntaken, loose_taken, loose_given}
use Rattle.sd_unique.proofs.Picked.{picked_by}

-- nothing for no run
abbrev count_shown : ℕ → Option ℕ
count_shown zero = None
count_shown (suc n) = Some (suc n)

shown_length : (l : List ℕ) → option_map length (shown l) ≡ count_shown (length l)
shown_length [] = refl
shown_length (x ∷ xs) = refl

get_with_count_same : (m : FinMap nat_cmp ℕ) (n k : ℕ) → get (with_count m n k) n ≡ count_shown k
get_with_count_same m n zero = get_remove_same m n
get_with_count_same m n (suc k) = get_insert_same m n (suc k)

get_with_count_other : (m : FinMap nat_cmp ℕ) (n k q : ℕ) → ¬ (q ≡ n) → get (with_count m n k) q ≡ get m q
get_with_count_other m n zero q ne = get_remove_other m n q ne
get_with_count_other m n (suc k) q ne = get_insert_other m n (suc k) q ne

-- the counts after the free starts of one length were replaced
counts_with_list : (f : FinMap nat_cmp (List ℕ)) (n : ℕ) (rest : List ℕ)
    → counts_of (with_list f n rest) ≡ with_count (counts_of f) n (length rest)
counts_with_list f n rest =
    same_at_each _ _ (λ q. by_cases
    (λ e. ap (get (counts_of (with_list f n rest))) e ∙ get_counts (with_list f n rest) n
    ∙ ap (option_map length) (get_with_list_same f n rest) ∙ shown_length rest
    ∙ sym (ap (get (with_count (counts_of f) n (length rest))) e ∙ get_with_count_same (counts_of f) n (length rest)))
    (λ ne. get_counts (with_list f n rest) q ∙ ap (option_map length) (get_with_list_other f n rest q ne)
    ∙ sym (get_counts f q) ∙ sym (get_with_count_other (counts_of f) n (length rest) q ne))
    (cases_eq q n))

absent_list : (o : Option (List ℕ)) → ¬ (o ≡ Some []) → unwrap_or o [] ≡ [] → o ≡ None
absent_list None h e = refl
absent_list (Some []) h e = absurd (h refl)
absent_list (Some (x ∷ xs)) h e = cc

counts_without : (f : FinMap nat_cmp (List ℕ)) (n : ℕ) → get f n ≡ None → counts_of f ≡ with_count (counts_of f) n 0
counts_without f n none =
    same_at_each _ _ (λ q. by_cases
    (λ e. ap (get (counts_of f)) e ∙ get_counts f n ∙ ap (option_map length) none
    ∙ sym (ap (get (remove (counts_of f) n)) e ∙ get_remove_same (counts_of f) n))
    (λ ne. sym (get_remove_other (counts_of f) n q ne))
    (cases_eq q n))

-- the counts of free runs after a run was taken
free_taken : (arena : Arena) (list : List (ℕ × ℕ)) (stack : List ℕ) → IsArena arena
    → stack ≡ free_of arena (length list)
    → counts_of (taken_at stack arena list).free ≡ with_count (counts_of arena.free) (length list) (length stack - 1)
free_taken arena list [] well e =
    counts_without arena.free (length list) (absent_list (get arena.free (length list)) (well.listed (length list))
    (sym e))
free_taken arena list (s ∷ rest) well e =
    counts_with_list arena.free (length list) rest
    ∙ ap (with_count (counts_of arena.free) (length list)) (omega arith)

-- the extent after a run was taken
extent_taken : (arena : Arena) (list : List (ℕ × ℕ)) (stack : List ℕ)
    → (taken_at stack arena list).extent ≡ extent_after (length stack) arena.extent (length list)
extent_taken arena list [] = refl
extent_taken arena list (s ∷ rest) = refl

bound_taken : (arena : Arena) (list : List (ℕ × ℕ)) (stack : List ℕ) → (taken_at stack arena list).bound ≡ arena.bound
bound_taken arena list [] = refl
bound_taken arena list (s ∷ rest) = refl

-- a refusal of the arena, as the nodes show it
pub refusal_is : (arena : Arena) (rs : List Record) (n : ℕ) (e : TakeError) → ArenaRefusal arena n e
    → IsRefusal (nodes_of arena rs) n e
refusal_is arena rs n (ArenaFull elements) h = ((count_is arena rs n ∙ ap length h.0.0, h.0.1), h.1)
refusal_is arena rs n OutOfMemory h = tt

live_taken_at : (stack : List ℕ) (a : Arena) (list : List (ℕ × ℕ))
    → (taken_at stack a list).live ≡ insert a.live (unwrap_or (first stack) a.extent) list
live_taken_at [] a list = refl
live_taken_at (start ∷ rest) a list = refl

module _ {X : Type 0} where
  linked_by : (s : RecordState) (x y : X) → (IsNode s → x ≡ y) → if_linked s x ≡ if_linked s y
  linked_by Free x y e = refl
  linked_by Linked x y e = ap Some (e tt)
  linked_by Detached x y e = refl

  detached_by : (s : RecordState) (x y : X) → (IsNode s → x ≡ y) → if_detached s x ≡ if_detached s y
  detached_by Free x y e = refl
  detached_by Linked x y e = refl
  detached_by Detached x y e = ap Some (e tt)

chain_of : (chained : Bool) (s : RecordState) (b c : ℕ) → (IsNode s → b ≡ c)
    → chain_in chained s b ≡ chain_in chained s c
chain_of true Free b c e = refl
chain_of true Linked b c e = ap (λ n. Some (suc n)) (e tt)
chain_of true Detached b c e = refl
chain_of false Free b c e = refl
chain_of false Linked b c e = refl
chain_of false Detached b c e = refl

pub linked_state : (s : RecordState) → s ≡ Linked → IsNode s
linked_state s e = subst IsNode (sym e) tt

-- what is read of elements by two functions that agree on them
read_by : {X Y : Type 0} (f g : X → Option Y) (o : Option X) → ((x : X) → o ≡ Some x → f x ≡ g x)
    → option_and_then f o ≡ option_and_then g o
read_by f g None h = refl
read_by f g (Some x) h = h x refl

-- an arena in which the nodes keep their runs
module _ (arena new : Arena) (rs : List Record) (st : AreRecordsStored arena rs) (well : IsArena new)
    (same : (i : ℕ) (r : Record) → slice_get rs i ≡ Some r → IsNode r.state
    → get new.live r.start ≡ get arena.live r.start)
    (extent : arena.extent ≤ new.extent) (bound : new.bound ≡ arena.bound) where
  pub key_kept : (i : ℕ) (r : Record) → slice_get rs i ≡ Some r → IsNode r.state → key_of new r ≡ key_of arena r
  key_kept i r e node j = (r.place, unwrap_or (same i r e node j) [])

  pub stored_arena : AreRecordsStored new rs
  stored_arena =
      record {
        well = well;
        live = λ i r e node. ap (option_map length) (same i r e node) ∙ st.live i r e node;
        apart = st.apart;
        unique = λ i j r t p q nr nt e. st.unique i j r t p q nr nt
            (sym (key_kept i r p (linked_state r.state nr)) ∙ e ∙ key_kept j t q (linked_state t.state nt));
        within_limit = omega (arith, st.within_limit);
        bound_fits = subst (λ b. b < 2 ^ 31) (sym bound) st.bound_fits;
      }

  pub linked_arena : picked_map (λ r. linked_key new r) rs ≡ picked_map (λ r. linked_key arena r) rs
  linked_arena =
      ap from_entries (picked_by (λ (r : Record). linked_key new r) (λ (r : Record). linked_key arena r) rs
      (λ i r e. linked_by r.state (key_of new r) (key_of arena r) (key_kept i r e)) 0)

  pub detached_arena : picked_map (λ r. detached_key new r) rs ≡ picked_map (λ r. detached_key arena r) rs
  detached_arena =
      ap from_entries (picked_by (λ (r : Record). detached_key new r) (λ (r : Record). detached_key arena r) rs
      (λ i r e. detached_by r.state (key_of new r) (key_of arena r) (key_kept i r e)) 0)

  pub chain_arena : (chained : Bool) (count n : ℕ)
      → under_by (chain_in chained) new count rs n ≡ under_by (chain_in chained) arena count rs n
  chain_arena chained count n =
      read_by (λ (r : Record). chain_in chained r.state (bucket_of (key_of new r) count))
      (λ (r : Record). chain_in chained r.state (bucket_of (key_of arena r) count)) (slice_get rs n)
      (λ r e. chain_of chained r.state (bucket_of (key_of new r) count) (bucket_of (key_of arena r) count)
      (λ node. ap (λ k. bucket_of k count) (key_kept n r e node)))

  -- the chains stay as they are
  pub kept_arena : {chained : Bool} (links : List Links) (heads places : List ℕ) (flags : List Bool)
      → HoldsNodes chained arena rs links heads places flags
      → HoldsNodes chained new rs links heads places flags
  kept_arena {chained} links heads places flags k =
      record {
        stored = stored_arena;
        linked_all = k.linked_all;
        flags_all = k.flags_all;
        at_least_one = k.at_least_one;
        places_all = k.places_all;
        in_chains = filed_same _ _ no_record _ _ _ _ (λ b i e. refl) (λ b. refl)
            (chain_arena chained (length heads - 1)) k.in_chains;
        in_lists = k.in_lists;
        queued = k.queued;
      }

-- what is live stays so
module _ (arena new : Arena) (rs : List Record) (st : AreRecordsStored arena rs) (well : IsArena new)
    (list : List (ℕ × ℕ))
    (start : ℕ) (is : new ≡ taken arena list) (at : start ≡ next_start arena (length list))
    (fresh : get arena.live start ≡ None) (kept : KeepsLive arena new) where
  pub taken_same : (i : ℕ) (r : Record) → slice_get rs i ≡ Some r → IsNode r.state
      → get new.live r.start ≡ get arena.live r.start
  taken_same i r e node =
      let l = option_map_some length (get arena.live r.start) r.length (st.live i r e node) in
      kept r.start l.0 l.1 ∙ sym l.1

  extent_longer : (n e m : ℕ) → e ≤ extent_after n e m
  extent_longer zero e m = omega arith
  extent_longer (suc n) e m = omega arith

  extent_is : new.extent ≡ extent_after (length (free_of arena (length list))) arena.extent (length list)
  extent_is = ap (λ a. a.extent) is ∙ extent_taken arena list (free_of arena (length list))

  pub taken_longer : arena.extent ≤ new.extent
  taken_longer =
      subst (λ e. arena.extent ≤ e) (sym extent_is)
      (extent_longer (length (free_of arena (length list))) arena.extent (length list))

  pub taken_bound : new.bound ≡ arena.bound
  taken_bound = ap (λ a. a.bound) is ∙ bound_taken arena list (free_of arena (length list))

  untaken : IsUntaken rs start
  untaken i r e node same =
      let l = option_map_some length (get arena.live r.start) r.length (st.live i r e node) in
      let no : None ≡ Some l.0 = sym fresh ∙ ap (get arena.live) same ∙ l.1 in cc

  -- the nodes with a new loose run
  pub nodes_taken : nodes_of new rs ≡ with_loose (nodes_of arena rs) start list
  nodes_taken i =
      record {
        linked = linked_arena arena new rs st well taken_same taken_longer taken_bound i;
        detached = detached_arena arena new rs st well taken_same taken_longer taken_bound i;
        loose = (ap (λ a. loose_of a.live rs) is
            ∙ ap (λ m. loose_of m rs) (live_taken_at (free_of arena (length list)) arena list)
            ∙ ap (λ k. loose_of (insert arena.live k list) rs) (sym at)
            ∙ loose_taken arena.live rs start list untaken) i;
        uses = picked_map (λ r. uses_of_record r) rs;
        marks = picked_map (λ r. mark_of_record r) rs;
        free = (ap (λ a. counts_of a.free) is ∙ free_taken arena list (free_of arena (length list)) st.well refl
            ∙ ap (λ k. with_count (counts_of arena.free) (length list) (k - 1))
            (sym (count_is arena rs (length list)))) i;
        records = length rs;
        extent = (extent_is ∙ ap (λ k. extent_after k arena.extent (length list))
            (sym (count_is arena rs (length list)))) i;
        bound = taken_bound i;
      }

-- a run that is that of no node is given back
module _ (arena new : Arena) (rs : List Record) (st : AreRecordsStored arena rs) (well : IsArena new)
    (list : List (ℕ × ℕ))
    (start n : ℕ) (is : new ≡ given_back arena start n) (size : length list ≡ n) (untaken : IsUntaken rs start) where
  pub given_same : (i : ℕ) (r : Record) → slice_get rs i ≡ Some r → IsNode r.state
      → get new.live r.start ≡ get arena.live r.start
  given_same i r e node =
      ap (λ a. get a.live r.start) is
      ∙ get_remove_other arena.live start r.start (λ same. untaken i r e node (sym same))

  pub given_longer : arena.extent ≤ new.extent
  given_longer = omega (arith, ap (λ a. a.extent) is)

  pub given_bound : new.bound ≡ arena.bound
  given_bound = ap (λ a. a.bound) is

  more : counts_of (insert arena.free n (start ∷ free_of arena n))
      ≡ with_count (counts_of arena.free) n (length (free_of arena n) + 1)
  more =
      let one : length (start ∷ free_of arena n) ≡ length (free_of arena n) + 1 = omega arith in
      counts_with_list arena.free n (start ∷ free_of arena n) ∙ ap (with_count (counts_of arena.free) n) one

  pub free_given : counts_of new.free
      ≡ with_count (counts_of arena.free) (length list) (length (free_of arena (length list)) + 1)
  free_given =
      ap (λ a. counts_of a.free) is ∙ more
      ∙ ap (λ k. with_count (counts_of arena.free) k (length (free_of arena k) + 1)) (sym size)

  -- the nodes without this loose run
  pub nodes_given : nodes_of new rs ≡ without_loose (nodes_of arena rs) start list
  nodes_given i =
      record {
        linked = linked_arena arena new rs st well given_same given_longer given_bound i;
        detached = detached_arena arena new rs st well given_same given_longer given_bound i;
        loose = (ap (λ a. loose_of a.live rs) is ∙ loose_given arena.live rs start) i;
        uses = picked_map (λ r. uses_of_record r) rs;
        marks = picked_map (λ r. mark_of_record r) rs;
        free = (free_given ∙ ap (λ k. with_count (counts_of arena.free) (length list) (k + 1))
            (sym (count_is arena rs (length list)))) i;
        records = length rs;
        extent = ap (λ a. a.extent) is i;
        bound = given_bound i;
      }

-- what holds of an error holds of the answer that hands it on
pub refused_by : {X : Type 0} (r : Result X TakeError) (cause : TakeError) (P : TakeError → Type 0)
    → IsErrAnd r (λ e. e ≡ cause) → P cause → IfErr r P
refused_by (Ok x) cause P h p = tt
refused_by (Err e) cause P h p = subst P (sym h) p
