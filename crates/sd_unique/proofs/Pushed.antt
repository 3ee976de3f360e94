-- A free record is put behind the others, and the numbers and nodes that come of taking it.
use Rattle.std.proofs.Common.{◌≡◌, ◌≢◌, ◌-◌, ◌⊎◌, inl, inr, bit_and, ℕ, suc, zero, ◌+◌, ◌<◌, ◌≤◌, ◌^◌, max}
use Rattle.std.proofs.Common.{Bool, false}
use Rattle.std.proofs.Common.{List, [], ◌∷◌, ◌++◌, length, map, get_or, slice_get, Option, Some, None}
use Rattle.std.proofs.Common.{refl, sym, ap, subst, ◌∙◌, arith}
use Rattle.std.proofs.Math.ListN.{set}
use Rattle.std.proofs.lemmas.Bool.{cases_eq}
use Rattle.std.proofs.lemmas.List.{length-set, length_push}
use Rattle.std.proofs.lemmas.List.Sums.{sum_by-cons}
use Rattle.std.specs.List.{sum_by}
use Rattle.std.specs.Option.{option_and_then, IsSome}
use Rattle.std.specs.FinMap.{get}
use Rattle.sd_runs.specs.Arena.{Arena, IsArena, live_length}
use Rattle.sd_runs.specs.Taking.{taken, next_start, KeepsLive}
use Rattle.sd_runs.proofs.Maps.{same_at_each, get_insert_same}
use Rattle.sd_runs.proofs.Places.{by_cases}
use Rattle.sd_unique.specs.declared.record.Record.{Record}
use Rattle.sd_unique.specs.declared.record.Links.{Links}
use Rattle.sd_unique.specs.declared.record.RecordState.{RecordState}
use Rattle.sd_unique.specs.declared.record.RecordState.TheVariants.{Free, Linked, Detached}
use Rattle.sd_unique.specs.Nodes.{Nodes, key_at}
use Rattle.sd_unique.specs.Occupying.{occupied, IsFreeNumber}
use Rattle.sd_unique.specs.Inserting.{inserted, IsNewNumber}
use Rattle.sd_unique.specs.Relinking.{with_loose, IsLoose, IsAbsent}
use Rattle.sd_unique.specs.Record.{if_linked, if_detached, if_node, IsNode, without_run, picked_map, key_of}
use Rattle.sd_unique.specs.Record.{linked_key}
use Rattle.sd_unique.specs.Record.{detached_key, uses_of_record, mark_of_record, loose_of, counts_of}
use Rattle.sd_unique.specs.Record.{nodes_of, AreRecordsStored}
use Rattle.sd_unique.specs.Filed.{IsFiled}
use Rattle.sd_unique.specs.Chains.{next_of, head_of, heads_in, chain_in, list_by, under_by, list_under}
use Rattle.sd_unique.specs.Chains.{bucket_of, hash_of, no_record, HoldsNodes}
use Rattle.sd_unique.proofs.Entries.{slice_get_inside, slice_get_push, slice_get_before}
use Rattle.sd_unique.proofs.Filed.{filed_first, both_same}
use Rattle.sd_unique.proofs.FirstChain.{free_in, head_first, head_set, head_kept}
use Rattle.sd_unique.proofs.Loose.{loose_none, loose_push, length_in, total_remove, total_loose, remove_insert}
use Rattle.sd_unique.proofs.Entries.{option_map_some}
use Rattle.sd_unique.proofs.Moved.{free_not_linked, not_free}
use Rattle.sd_unique.proofs.Numbered.{some_length, length_there, picked_from, key_at_is, node_key}
use Rattle.sd_unique.proofs.Occupied.{free_first, none_free, all_nodes}
use Rattle.sd_unique.proofs.Reading.{get_or_any}
use Rattle.sd_unique.proofs.Taken.{kept_arena, taken_same, taken_longer, taken_bound, nodes_taken}
use Rattle.sd_unique.proofs.Picked.{get_picked}

-- the nodes with so many records
abbrev pub with_records : Nodes → ℕ → Nodes
with_records a m = record a { records = m }

no_place : {X : Type 0} (xs : List X) → slice_get xs (length xs) ≡ None
no_place [] = refl
no_place (x ∷ xs) = no_place xs

module _ {X : Type 0} (xs : List X) (x : X) where
  -- an element is the last, or was there before
  pub push_which : (i : ℕ) (y : X) → slice_get (xs ++ x ∷ []) i ≡ Some y
      → ((i ≡ length xs) × (x ≡ y)) ⊎ (slice_get xs i ≡ Some y)
  push_which i y e =
      by_cases
      (λ last. let same : Some x ≡ Some y = sym (ap (slice_get (xs ++ x ∷ [])) last ∙ slice_get_push xs x) ∙ e in
      let is : x ≡ y = cc in inl (last, is))
      (λ ne. inr (sym (slice_get_before xs x i ne) ∙ e))
      (cases_eq i (length xs))

  -- what is read is as before where nothing is read of the last
  pub read_push : {Y : Type 0} (f : X → Option Y) → f x ≡ None → (i : ℕ)
      → option_and_then f (slice_get (xs ++ x ∷ []) i) ≡ option_and_then f (slice_get xs i)
  read_push f none i =
      by_cases
      (λ last. ap (λ k. option_and_then f (slice_get (xs ++ x ∷ []) k)) last
      ∙ ap (option_and_then f) (slice_get_push xs x) ∙ none
      ∙ sym (ap (λ k. option_and_then f (slice_get xs k)) last ∙ ap (option_and_then f) (no_place xs)))
      (λ ne. ap (option_and_then f) (slice_get_before xs x i ne))
      (cases_eq i (length xs))

-- a link of the others, and of the last
link_before : {X : Type 0} (f : X → ℕ) (xs : List X) (x : X) (i : ℕ) → ¬ (i ≡ length xs)
    → get_or (map f (xs ++ x ∷ [])) i 0 ≡ get_or (map f xs) i 0
link_before f [] x zero h = absurd (h refl)
link_before f [] x (suc i) h = refl
link_before f (y ∷ xs) x zero h = refl
link_before f (y ∷ xs) x (suc i) h = link_before f xs x i (λ e. h (omega arith))

pub link_last : {X : Type 0} (f : X → ℕ) (xs : List X) (x : X) → get_or (map f (xs ++ x ∷ [])) (length xs) 0 ≡ f x
link_last f [] x = refl
link_last f (y ∷ xs) x = link_last f xs x

picked_push : {X Y : Type 0} (f : X → Option Y) (xs : List X) (x : X) → f x ≡ None
    → picked_map f (xs ++ x ∷ []) ≡ picked_map f xs
picked_push f xs x none =
    same_at_each _ _ (λ q. get_picked f (xs ++ x ∷ []) q ∙ read_push xs x f none q ∙ sym (get_picked f xs q))

module _ (arena : Arena) (rs : List Record) (r : Record) (free : r.state ≡ Free) where
  stored_free : length rs + 1 ≤ arena.extent → AreRecordsStored arena rs → AreRecordsStored arena (rs ++ r ∷ [])
  stored_free room st =
      record {
        well = st.well;
        live = λ i x e node. by_cases
            (λ h. absurd (not_free r.state free (subst (λ z. IsNode z.state) (sym h.1) node)))
            (λ h. st.live i x h node)
            (push_which rs r i x e);
        apart = λ i j x y p q nx ny same. by_cases
            (λ a. absurd (not_free r.state free (subst (λ z. IsNode z.state) (sym a.1) nx)))
            (λ a. by_cases
            (λ b. absurd (not_free r.state free (subst (λ z. IsNode z.state) (sym b.1) ny)))
            (λ b. st.apart i j x y a b nx ny same)
            (push_which rs r j y q))
            (push_which rs r i x p);
        unique = λ i j x y p q nx ny same. by_cases
            (λ a. absurd (free_not_linked r.state free (ap (λ z. z.state) a.1 ∙ nx)))
            (λ a. by_cases
            (λ b. absurd (free_not_linked r.state free (ap (λ z. z.state) b.1 ∙ ny)))
            (λ b. st.unique i j x y a b nx ny same)
            (push_which rs r j y q))
            (push_which rs r i x p);
        within_limit = omega (arith, room, length_push rs r);
        bound_fits = st.bound_fits;
      }

  chains_free : (chained : Bool) (heads : List ℕ) (count : ℕ) → 0 < length heads → head_of heads 0 ≡ r.next
      → length rs < 2 ^ 32 - 1
      → IsFiled (next_of rs) no_record (head_of (heads_in chained heads)) (under_by (chain_in chained) arena count rs)
      → IsFiled (next_of (rs ++ r ∷ [])) no_record (head_of (heads_in chained (set heads 0 (length rs))))
      (under_by (chain_in chained) arena count (rs ++ r ∷ []))
  chains_free chained heads count some next fits f =
      filed_first (next_of rs) (next_of (rs ++ r ∷ [])) no_record (head_of (heads_in chained heads))
      (head_of (heads_in chained (set heads 0 (length rs))))
      (under_by (chain_in chained) arena count rs) (under_by (chain_in chained) arena count (rs ++ r ∷ [])) 0
      (length rs) (λ e. omega arith)
      (ap (option_and_then (λ x. chain_in chained x.state (bucket_of (key_of arena x) count))) (no_place rs))
      (record {
        after = link_last (λ (x : Record). x.next) rs r ∙ sym (head_first chained heads ∙ next);
        kept = λ y c e ne. link_before (λ (x : Record). x.next) rs r y ne;
        first = head_set chained heads (length rs) some;
        heads = head_kept chained heads (length rs);
        there = ap (option_and_then (λ x. chain_in chained x.state (bucket_of (key_of arena x) count)))
            (slice_get_push rs r)
            ∙ ap (λ s. chain_in chained s (bucket_of (key_of arena r) count)) free
            ∙ free_in chained (bucket_of (key_of arena r) count);
        others = λ y ne. ap (option_and_then (λ x. chain_in chained x.state (bucket_of (key_of arena x) count)))
            (slice_get_before rs r y ne);
      })
      f

  -- what holds of the fields is kept when a free record is put behind the others
  pub kept_free : {chained : Bool} (links : List Links) (l : Links) (heads places : List ℕ) (flags : List Bool)
      → length rs + 1 ≤ arena.extent → length rs < 2 ^ 32 - 1 → head_of heads 0 ≡ r.next
      → HoldsNodes chained arena rs links heads places flags
      → HoldsNodes chained arena (rs ++ r ∷ []) (links ++ l ∷ []) (set heads 0 (length rs)) places
      (flags ++ false ∷ [])
  kept_free {chained} links l heads places flags room fits next k =
      record {
        stored = stored_free room k.stored;
        linked_all = λ some. omega (arith, length_push rs r, length_push links l, k.linked_all some);
        flags_all = omega (arith, length_push rs r, length_push flags false, k.flags_all);
        at_least_one = omega (arith, length-set heads 0 (length rs), k.at_least_one);
        places_all = k.places_all;
        in_chains = subst (λ s. IsFiled (next_of (rs ++ r ∷ [])) no_record
            (head_of (heads_in chained (set heads 0 (length rs))))
            (under_by (chain_in chained) arena (s - 1) (rs ++ r ∷ []))) (sym (length-set heads 0 (length rs)))
            (chains_free chained heads (length heads - 1) (omega (arith, k.at_least_one)) next fits k.in_chains);
        in_lists = λ some. both_same _ _ _ _ no_record _ _ _ _
            (λ b i e. link_before (λ (x : Links). x.after) links l i (listed_other some i b e))
            (λ b i e. link_before (λ (x : Links). x.before) links l i (listed_other some i b e)) (λ b. refl)
            (read_push rs r (λ x. list_by x.state (bit_and x.place 2047))
            (ap (λ s. list_by s (bit_and r.place 2047)) free)) (k.in_lists some);
        queued = λ i x e linked none. by_cases
            (λ h. absurd (free_not_linked r.state free (ap (λ z. z.state) h.1 ∙ linked)))
            (λ h. slice_get_before flags false i
            (λ same. let inside = slice_get_inside rs i x h in omega (arith, same, inside, k.flags_all))
            ∙ k.queued i x h linked none)
            (push_which rs r i x e);
      }
    where
      listed_other : 0 < length places → (i b : ℕ) → list_under rs i ≡ Some b → ¬ (i ≡ length links)
      listed_other some i b e same =
          let x = picked_from (λ (x : Record). list_by x.state (bit_and x.place 2047)) (slice_get rs i) b e in
          let inside = slice_get_inside rs i x.0 x.1 in omega (arith, inside, k.linked_all some)

  -- the nodes are as before but for the number of records
  pub nodes_free : nodes_of arena (rs ++ r ∷ []) ≡ with_records (nodes_of arena rs) (length rs + 1)
  nodes_free i =
      record {
        linked = picked_push (λ (x : Record). linked_key arena x) rs r (ap (λ s. if_linked s (key_of arena r)) free)
            i;
        detached = picked_push (λ (x : Record). detached_key arena x) rs r
            (ap (λ s. if_detached s (key_of arena r)) free) i;
        loose = (loose_push arena.live rs r ∙ ap (λ s. loose_of (without_run s r.start arena.live) rs) free) i;
        uses = picked_push (λ (x : Record). uses_of_record x) rs r (ap (λ s. if_node s r.uses) free) i;
        marks = picked_push (λ (x : Record). mark_of_record x) rs r (ap (λ s. if_node s r.mark) free) i;
        free = counts_of arena.free;
        records = length_push rs r i;
        extent = arena.extent;
        bound = arena.bound;
      }

-- a sum of positive numbers is no less than their number
positive_sum : (f : Record → ℕ) (rs : List Record) → ((i : ℕ) (r : Record) → slice_get rs i ≡ Some r → 0 < f r)
    → length rs ≤ sum_by f rs
positive_sum f [] h = omega arith
positive_sum f (r ∷ rs) h =
    let rest : length rs ≤ sum_by f rs = positive_sum f rs (λ i. h (suc i)) in
    omega (arith, rest, h 0 r refl, sum_by-cons f r rs)

length_node : (arena : Arena) (s : RecordState) (start n : ℕ) → IsNode s → live_length arena start ≡ Some n
    → length_in arena.live s start ≡ n
length_node arena Free start n node e = absurd node
length_node arena Linked start n node e = length_there (get arena.live start) n e
length_node arena Detached start n node e = length_there (get arena.live start) n e

-- where each record is that of a node, a loose run leaves room for one more record
pub few_free : (arena : Arena) (rs : List Record) (start : ℕ) (list : List (ℕ × ℕ)) → AreRecordsStored arena rs
    → ((m : ℕ) (r : Record) → slice_get rs m ≡ Some r → IsNode r.state)
    → get (loose_of arena.live rs) start ≡ Some list → 0 < length list → length rs + 1 ≤ arena.extent
few_free arena rs start list st nodes run some =
    let total = total_loose arena.live rs
    (λ i r e node. let l = option_map_some length (get arena.live r.start) r.length (st.live i r e node) in (
      l.0,
      l.1,
    ))
    st.apart in
    let least : length rs ≤ sum_by (λ (r : Record). length_in arena.live r.state r.start) rs =
    positive_sum (λ (r : Record). length_in arena.live r.state r.start) rs
    (λ i r e. let node = nodes i r e in
    let size = length_node arena r.state r.start r.length node (st.live i r e node) in
    omega (arith, size, some_length st i r e node)) in
    omega (arith, total, least, total_remove (loose_of arena.live rs) start list run, some, (st.well).used)

-- what comes of a run that was taken and a free record that was occupied over it is an insertion
pub inserted_is : (a : Nodes) (records n place start : ℕ) (list : List (ℕ × ℕ)) → get a.loose start ≡ None
    → records ≡ max a.records (n + 1)
    → occupied (with_records (with_loose a start list) records) n place start list ≡ inserted a n place list
inserted_is a records n place start list fresh most i =
    record (inserted a n place list) { loose = remove_insert a.loose start list fresh i; records = most i }

-- a loose run is there after it was taken
pub run_taken : (a : Nodes) (records start : ℕ) (list : List (ℕ × ℕ))
    → IsLoose (with_records (with_loose a start list) records) start (length list) list
run_taken a records start list = record { is = get_insert_same a.loose start list; counted = refl }

-- the number that was free is a new one, whether its record was there before
pub number_old : (a : Nodes) (n : ℕ) → IsFreeNumber a n → IsNewNumber a n × (a.records ≡ max a.records (n + 1))
number_old a n free = (inl free, most a.records n free.0)
  where
    most : (m n : ℕ) → n < m → m ≡ max m (n + 1)
    most m n h = omega arith

pub number_new : (a : Nodes) (n : ℕ) → ((m : ℕ) → m < a.records → IsSome (key_at a m))
    → IsFreeNumber (with_records a (a.records + 1)) n
    → IsNewNumber a n × (a.records + 1 ≡ max a.records (n + 1))
number_new a n all free =
    by_cases
    (λ e. (inr (e, λ m below. all m (omega (arith, e))), most a.records n e))
    (λ ne. absurd (node (all n (omega (arith, free.0)))))
    (cases_eq n a.records)
  where
    most : (m n : ℕ) → n ≡ m → m + 1 ≡ max m (n + 1)
    most m n h = omega arith

    node : IsSome (key_at a n) → ⊥
    node h = let no = subst IsSome free.1 h in cc

module _ {chained : Bool} (arena new : Arena) (rs : List Record) (links : List Links) (heads places : List ℕ)
    (flags : List Bool) (k : HoldsNodes chained arena rs links heads places flags) (well : IsArena new)
    (list : List (ℕ × ℕ)) (start : ℕ)
    (is : new ≡ taken arena list) (at : start ≡ next_start arena (length list))
    (fresh : get arena.live start ≡ None) (keeps : KeepsLive arena new) (a : Nodes)
    (view : nodes_of arena rs ≡ a) where
  kept_taken : HoldsNodes chained new rs links heads places flags
  kept_taken =
      kept_arena arena new rs k.stored well
      (taken_same arena new rs k.stored well list start is at fresh keeps)
      (taken_longer arena new rs k.stored well list start is at fresh keeps)
      (taken_bound arena new rs k.stored well list start is at fresh keeps) links heads places flags k

  view_taken : nodes_of new rs ≡ with_loose a start list
  view_taken =
      nodes_taken arena new rs k.stored well list start is at fresh keeps
      ∙ ap (λ b. with_loose b start list) view

  loose_fresh : get a.loose start ≡ None
  loose_fresh = ap (λ b. get b.loose start) (sym view) ∙ loose_none arena.live rs start fresh

  -- a free record is there
  module _ (ts : List Record) (ls : List Links) (same : ts ≡ rs) (alike : ls ≡ links) where
    pub free_kept : HoldsNodes chained new ts ls heads places flags
    free_kept =
        subst (λ x. HoldsNodes chained new x ls heads places flags) (sym same)
        (subst (λ x. HoldsNodes chained new rs x heads places flags) (sym alike) kept_taken)

    free_view : nodes_of new ts ≡ with_loose a start list
    free_view = ap (nodes_of new) same ∙ view_taken

    pub free_run : (hash place : ℕ) → hash ≡ hash_of (place, list) → IsAbsent a (place, list)
        → (x : List (ℕ × ℕ)) × IsLoose (nodes_of new ts) start (length list) x × (hash ≡ hash_of (place, x))
        × IsAbsent (nodes_of new ts) (place, x)
    free_run hash place hashed absent =
        subst (λ b. (x : List (ℕ × ℕ)) × IsLoose b start (length list) x × (hash ≡ hash_of (place, x))
        × IsAbsent b (place, x)) (sym free_view) (list, run_taken a a.records start list, hashed, absent)

    pub free_number : (first : ℕ) → first ≡ get_or heads 0 first → first ≢ no_record
        → (n : ℕ) × IsFreeNumber (nodes_of new ts) n
    free_number first read ne =
        let head : head_of heads 0 ≡ first = get_or_any heads 0 no_record first (omega (arith, k.at_least_one))
        ∙ sym read in (
          head_of heads 0,
          subst (λ x. IsFreeNumber (nodes_of new x) (head_of heads 0)) (sym same)
              (free_first chained new rs heads (length heads - 1) kept_taken.in_chains (λ e. ne (sym head ∙ e))),
        )

    pub free_new : (n : ℕ) → IsFreeNumber (nodes_of new ts) n → IsNewNumber a n
    free_new n free = (number_old a n (subst (λ b. IsFreeNumber b n) free_view free)).0

    pub free_inserted : (n place : ℕ) (b : Nodes) → IsFreeNumber (nodes_of new ts) n
        → ((x : List (ℕ × ℕ)) → IsLoose (nodes_of new ts) start (length list) x
        → b ≡ occupied (nodes_of new ts) n place start x)
        → b ≡ inserted a n place list
    free_inserted n place b free ok =
        ok list (subst (λ c. IsLoose c start (length list) list) (sym free_view) (run_taken a a.records start list))
        ∙ ap (λ c. occupied c n place start list) free_view
        ∙ inserted_is a a.records n place start list loose_fresh
        (number_old a n (subst (λ b. IsFreeNumber b n) free_view free)).1

  -- each record is that of a node, so a free one is put behind them
  module _ (ts : List Record) (ls : List Links) (r : Record) (l : Links) (grown : ts ≡ rs ++ r ∷ [])
      (linked : ls ≡ links ++ l ∷ []) (free : r.state ≡ Free)
      (next : r.next ≡ no_record) (first : ℕ) (read : first ≡ get_or heads 0 first) (last : first ≡ no_record)
      (some : 0 < length list) where
    none_first : head_of heads 0 ≡ no_record
    none_first = get_or_any heads 0 no_record first (omega (arith, k.at_least_one)) ∙ sym read ∙ last

    room : length rs + 1 ≤ new.extent
    room =
        few_free new rs start list kept_taken.stored
        (none_free chained new rs heads (length heads - 1) kept_taken.in_chains none_first)
        (ap (λ b. get b.loose start) view_taken ∙ get_insert_same a.loose start list) some

    pub pushed_kept : (n : ℕ) → n ≡ length rs
        → HoldsNodes chained new ts ls (set heads 0 n) places (flags ++ false ∷ [])
    pushed_kept n size =
        subst (λ x. HoldsNodes chained new x ls (set heads 0 n) places (flags ++ false ∷ [])) (sym grown)
        (subst (λ x. HoldsNodes chained new (rs ++ r ∷ []) x (set heads 0 n) places (flags ++ false ∷ [])) (sym linked)
        (subst (λ x. HoldsNodes chained new (rs ++ r ∷ []) (links ++ l ∷ []) (set heads 0 x) places
        (flags ++ false ∷ []))
        (sym size)
        (kept_free new rs r free links l heads places flags room
        (omega (arith, room, (kept_taken.stored).bound_fits, ((kept_taken.stored).well).bounded))
        (none_first ∙ sym next) kept_taken)))

    pub pushed_view : nodes_of new ts ≡ with_records (with_loose a start list) (a.records + 1)
    pushed_view =
        ap (nodes_of new) grown ∙ nodes_free new rs r free
        ∙ ap (λ b. with_records b (length rs + 1)) view_taken
        ∙ ap (λ m. with_records (with_loose a start list) (m + 1)) (ap (λ b. b.records) view)

    pub pushed_number : (n : ℕ) × IsFreeNumber (nodes_of new ts) n
    pushed_number = (
      length rs,
      subst (λ x. IsFreeNumber (nodes_of new x) (length rs)) (sym grown) (
        omega (arith, length_push rs r),
        key_at_is new (rs ++ r ∷ []) (length rs)
            ∙ ap (option_and_then (λ r. node_key new r)) (slice_get_push rs r)
            ∙ ap (λ s. if_node s (key_of new r)) free,
      ),
    )

    all : (m : ℕ) → m < a.records → IsSome (key_at a m)
    all m below =
        subst (λ b. IsSome (key_at b m)) view_taken
        (all_nodes chained new rs heads (length heads - 1) kept_taken.in_chains none_first m
        (omega (arith, below, ap (λ b. b.records) view)))

    pub pushed_new : (n : ℕ) → IsFreeNumber (nodes_of new ts) n → IsNewNumber a n
    pushed_new n free = (number_new a n all (subst (λ b. IsFreeNumber b n) pushed_view free)).0

    pub pushed_inserted : (n place : ℕ) (b : Nodes) → IsFreeNumber (nodes_of new ts) n
        → ((x : List (ℕ × ℕ)) → IsLoose (nodes_of new ts) start (length list) x
        → b ≡ occupied (nodes_of new ts) n place start x)
        → b ≡ inserted a n place list
    pushed_inserted n place b free ok =
        ok list (subst (λ c. IsLoose c start (length list) list) (sym pushed_view)
        (run_taken a (a.records + 1) start list))
        ∙ ap (λ c. occupied c n place start list) pushed_view
        ∙ inserted_is a (a.records + 1) n place start list loose_fresh
        (number_new a n all (subst (λ b. IsFreeNumber b n) pushed_view free)).1
