-- What is listed after one entry more.
use Rattle.std.proofs.Common.{◌≡◌, inl, inr, ℕ, ◌+◌, ◌-◌, ◌≤◌, ◌<◌, true, false, ltb, ◌==◌}
use Rattle.std.proofs.Common.{if◌then◌else◌, List, [], ◌∷◌, ◌++◌, map, length, take, Some, slice_get}
use Rattle.std.proofs.Common.{refl, sym, ◌∙◌, ap, subst, arith, length-append}
use Rattle.std.specs.List.{AllByRecursion}
use Rattle.std.specs.FinMap.{get}
use Rattle.std.proofs.lemmas.Bool.{cases_eq, cases_lt, eq-eqb, ne_eqb}
use Rattle.std.proofs.lemmas.Bool.Decides.{nat_tests}
use Rattle.std.proofs.lemmas.List.{length-map}
use Rattle.std.proofs.lemmas.Option.{some_pair_parts, same_Some}
use Rattle.sd_model.specs.Diagram.{Diagram, Decomposition}
use Rattle.sd_vtree.specs.Numbered.{numbers}
use Rattle.sd_laws.proofs.Codes.{pair_equal}
use Rattle.sd_laws.proofs.Lists.{all_weaker}
use Rattle.sd_manager.specs.Table.{Table}
use Rattle.sd_manager.specs.Shown.{ShowsCanonical, IsNodeOf}
use Rattle.sd_manager.specs.Valid.{IsTable}
use Rattle.sd_manager.specs.Views.{pairs_at, IsViewOf}
use Rattle.sd_manager.specs.declared.view.View.TheVariants.{Decomposition as DecompositionView}
use Rattle.sd_manager.proofs.Reading.{pairs_node, linked_key}
use Rattle.sd_records.specs.declared.records.Head.{Head}
use Rattle.sd_records.specs.declared.records.Ref.{Ref}
use Rattle.sd_records.specs.declared.listing.Listing.{Listing}
use Rattle.sd_records.specs.Stored.{refs_of, entries_of, pair_count}
use Rattle.sd_records.specs.Listed.{mark_at, code_in, codes_in, IsListed, BothListed, IsListedBefore, BothListedBefore}
use Rattle.sd_records.specs.Listed.{AreMarks, IsEntryOf, AreListed, KeepsMarks, IsAdded, HasEntryNow}
use Rattle.sd_records.proofs.Entries.{length_entries, entries_push, count_push}
use Rattle.sd_records.proofs.Lists.{slice_get_left, slice_get_last, mapped_same, all_taken}

-- what the codes of a pair refer to
abbrev pub refs_in : List ℕ → ℕ × ℕ → Ref × Ref
refs_in marks e = refs_of (codes_in marks e)

-- ---- marks

-- a mark that is kept
pub mark_kept : (old new : List ℕ) (n count k : ℕ) → mark_at old n ≡ 0
    → ((j : ℕ) → mark_at new j ≡ (if j == n then count else mark_at old j)) → 0 < mark_at old k
    → mark_at new k ≡ mark_at old k
mark_kept old new n count k none marks has = elim (cases_eq k n) [
  | inl same ↦ absurd (omega (arith, has, none, ap (mark_at old) same))
  | inr differ ↦ marks k ∙ ap (λ b. if b then count else mark_at old k) (ne_eqb k n differ)
]

-- the new mark
mark_new : (old new : List ℕ) (n count : ℕ)
    → ((j : ℕ) → mark_at new j ≡ (if j == n then count else mark_at old j)) → mark_at new n ≡ count
mark_new old new n count marks = marks n ∙ ap (λ b. if b then count else mark_at old n) (eq-eqb n n refl)

-- what is listed keeps its code
code_kept : (old new : List ℕ) (c : ℕ) → ((k : ℕ) → 0 < mark_at old k → mark_at new k ≡ mark_at old k)
    → IsListed old c → code_in new c ≡ code_in old c
code_kept old new c kept listed = elim (cases_lt c 2050) [
  | inl low ↦ let test : ltb c 2050 ≡ true = grind (arith, nat_tests) in rw test refl
  | inr high ↦
      let test : ltb c 2050 ≡ false = grind (arith, nat_tests) in
      rw test (ap (λ n. n + 2049) (kept (c - 2050) (listed high)))
]

-- so do pairs
codes_kept : (old new : List ℕ) → ((k : ℕ) → 0 < mark_at old k → mark_at new k ≡ mark_at old k) → (e : ℕ × ℕ)
    → BothListed old e → codes_in new e ≡ codes_in old e
codes_kept old new kept e listed =
    pair_equal (codes_in new e) (codes_in old e) (code_kept old new e.0 kept listed.0)
    (code_kept old new e.1 kept listed.1)

-- what is listed before stays so
before_kept : (old new : List ℕ) (i : ℕ) → ((k : ℕ) → 0 < mark_at old k → mark_at new k ≡ mark_at old k) → (c : ℕ)
    → IsListedBefore old i c → IsListedBefore new i c
before_kept old new i kept c h high =
    let same = kept (c - 2050) (h high).0 in
    let k = h high in (omega (arith, same, k.0), omega (arith, same, k.1))

-- what is listed is so before the number of all
before_all : (marks : List ℕ) (count : ℕ) → AreMarks marks count → (c : ℕ) → IsListed marks c
    → IsListedBefore marks count c
before_all marks count are c h high = (h high, are.low (c - 2050))

-- what is listed before is listed
pub listed_from_before : (marks : List ℕ) (i : ℕ) (e : ℕ × ℕ) → BothListedBefore marks i e → BothListed marks e
listed_from_before marks i e h = (λ high. (h.0 high).0, λ high. (h.1 high).0)

-- what is listed stays so
pub listed_kept : (old new : List ℕ) → ((k : ℕ) → 0 < mark_at old k → mark_at new k ≡ mark_at old k) → (c : ℕ)
    → IsListed old c → IsListed new c
listed_kept old new kept c h high = omega (arith, h high, kept (c - 2050) (h high))

pub both_kept : (old new : List ℕ) → ((k : ℕ) → 0 < mark_at old k → mark_at new k ≡ mark_at old k) → (e : ℕ × ℕ)
    → BothListed old e → BothListed new e
both_kept old new kept e h = (listed_kept old new kept e.0 h.0, listed_kept old new kept e.1 h.1)

-- ---- entries

-- what pairs refer to, in two steps
mapped_twice : (old new : List ℕ) → ((e : ℕ × ℕ) → BothListed old e → codes_in new e ≡ codes_in old e)
    → (list : List (ℕ × ℕ)) → AllByRecursion (BothListed old) list
    → map refs_of (map (codes_in old) list) ≡ map (refs_in new) list
mapped_twice old new same [] all = refl
mapped_twice old new same (e ∷ list) all =
    ap (λ x. x ∷ map refs_of (map (codes_in old) list)) (ap refs_of (sym (same e all.0)))
    ∙ ap (λ l. refs_in new e ∷ l) (mapped_twice old new same list all.1)

-- the entries with one more
entries_more : (old new : Listing) (n position : ℕ) (list : List (ℕ × ℕ))
    → pair_count old.heads.items ≡ length old.pairs.items → IsAdded old new n position list
    → entries_of new.heads.items new.pairs.items
    ≡ entries_of old.heads.items old.pairs.items ++ (position, map refs_of (map (codes_in old.marks.items) list)) ∷ []
entries_more old new n position list counted h =
    let head : Head = record { position = position; count = length list } in
    let more = map (codes_in old.marks.items) list in
    ap (λ l. entries_of l new.pairs.items) h.heads ∙ ap (entries_of (old.heads.items ++ head ∷ [])) h.pairs
    ∙ entries_push old.heads.items old.pairs.items more head counted
    (sym (length-map list (codes_in old.marks.items)))

-- and all that is so of what is listed
pub listed_more : (t : Table) (old new : Listing) (n place position : ℕ) (list : List (ℕ × ℕ)) → AreListed t old
    → get t.linked n ≡ Some (place, list)
    → slice_get (numbers t.vtree) position ≡ Some place → IsNodeOf t (2050 + n)
    → AllByRecursion (BothListed old.marks.items) list → IsAdded old new n position list
    → AreListed t new × KeepsMarks old new × (0 < mark_at new.marks.items n)
listed_more t old new n place position list h linked stands node all added = (
  record { counted = counted; marks = marks; listed = listed; nodes = nodes },
  kept,
  omega (arith, new_mark),
)
  where
    count : ℕ
    count = length old.heads.items

    head : Head
    head = record { position = position; count = length list }

    more : List (ℕ × ℕ)
    more = map (codes_in old.marks.items) list

    kept : (k : ℕ) → 0 < mark_at old.marks.items k → mark_at new.marks.items k ≡ mark_at old.marks.items k
    kept k has = mark_kept old.marks.items new.marks.items n (length old.heads.items + 1) k added.none added.marks has

    new_mark : mark_at new.marks.items n ≡ length old.heads.items + 1
    new_mark = mark_new old.marks.items new.marks.items n (length old.heads.items + 1) added.marks

    long : length new.heads.items ≡ length old.heads.items + 1
    long = ap length added.heads
        ∙ length-append old.heads.items ((record { position = position; count = length list }) ∷ [])

    grown : entries_of new.heads.items new.pairs.items
        ≡ entries_of old.heads.items old.pairs.items
        ++ (position, map refs_of (map (codes_in old.marks.items) list)) ∷ []
    grown = entries_more old new n position list h.counted added

    same_codes : (e : ℕ × ℕ) → BothListed old.marks.items e → codes_in new.marks.items e ≡ codes_in old.marks.items e
    same_codes = codes_kept old.marks.items new.marks.items kept

    counted : pair_count new.heads.items ≡ length new.pairs.items
    counted =
        ap pair_count added.heads
        ∙ count_push old.heads.items old.pairs.items (map (codes_in old.marks.items) list)
        (record { position = position; count = length list }) h.counted
        (sym (length-map list (codes_in old.marks.items)))
        ∙ sym (ap length added.pairs)

    low : (k : ℕ) → mark_at new.marks.items k ≤ length new.heads.items
    low k = elim (cases_eq k n) [
      | inl same ↦ omega (arith, ap (mark_at new.marks.items) same, new_mark, long)
      | inr differ ↦
          let m = added.marks k
          ∙ ap (λ b. if b then length old.heads.items + 1 else mark_at old.marks.items k) (ne_eqb k n differ) in
          omega (arith, m, h.marks.low k, long)
    ]

    marks : AreMarks new.marks.items (length new.heads.items)
    marks = record { low = low; few = omega (arith, long, added.few) }

    old_entry : (m place : ℕ) (l : List (ℕ × ℕ)) → IsEntryOf t old m place l → 0 < mark_at old.marks.items m
        → IsEntryOf t new m place l
    old_entry m place l e has =
        let same : mark_at new.marks.items m ≡ mark_at old.marks.items m = kept m has in
        let inside : mark_at old.marks.items m - 1 < length (entries_of old.heads.items old.pairs.items) =
        omega (arith, has, h.marks.low m, length_entries old.heads.items old.pairs.items) in
        let listed_all : AllByRecursion (BothListed old.marks.items) l =
        all_weaker (BothListedBefore old.marks.items (mark_at old.marks.items m - 1)) (BothListed old.marks.items)
        (listed_from_before old.marks.items (mark_at old.marks.items m - 1)) l e.earlier in
        record {
          position = e.position;
          is = ap (λ k. slice_get (entries_of new.heads.items new.pairs.items) (k - 1)) same
              ∙ ap (λ z. slice_get z (mark_at old.marks.items m - 1)) grown
              ∙ slice_get_left (entries_of old.heads.items old.pairs.items)
              ((position, map refs_of (map (codes_in old.marks.items) list)) ∷ [])
              (mark_at old.marks.items m - 1) inside
              ∙ e.is
              ∙ ap (λ z. Some (e.position, z))
              (mapped_same (refs_in old.marks.items) (refs_in new.marks.items) (BothListed old.marks.items)
              (λ x k. ap refs_of (sym (same_codes x k))) l listed_all);
          stands = e.stands;
          earlier = subst (λ k. AllByRecursion (BothListedBefore new.marks.items (k - 1)) l) (sym same)
              (all_weaker (BothListedBefore old.marks.items (mark_at old.marks.items m - 1))
              (BothListedBefore new.marks.items (mark_at old.marks.items m - 1))
              (λ x k. (
                before_kept old.marks.items new.marks.items (mark_at old.marks.items m - 1) kept x.0 k.0,
                before_kept old.marks.items new.marks.items (mark_at old.marks.items m - 1) kept x.1 k.1,
              )) l e.earlier);
        }

    new_entry : IsEntryOf t new n place list
    new_entry =
        let entries = entries_of old.heads.items old.pairs.items in
        let long_entries : length entries ≡ mark_at new.marks.items n - 1 =
        omega (arith, new_mark, length_entries old.heads.items old.pairs.items) in
        let at : length old.heads.items ≡ mark_at new.marks.items n - 1 = omega (arith, new_mark) in
        record {
          position = position;
          is = ap (λ z. slice_get z (mark_at new.marks.items n - 1)) grown
              ∙ ap (slice_get (entries ++ (position, map refs_of (map (codes_in old.marks.items) list)) ∷ []))
              (sym long_entries)
              ∙ slice_get_last entries (position, map refs_of (map (codes_in old.marks.items) list))
              ∙ ap (λ z. Some (position, z)) (mapped_twice old.marks.items new.marks.items same_codes list all);
          stands = stands;
          earlier = subst (λ k. AllByRecursion (BothListedBefore new.marks.items k) list) at
              (all_weaker (BothListed old.marks.items) (BothListedBefore new.marks.items (length old.heads.items))
              (λ x k. (
                before_kept old.marks.items new.marks.items (length old.heads.items) kept x.0
                    (before_all old.marks.items (length old.heads.items) h.marks x.0 k.0),
                before_kept old.marks.items new.marks.items (length old.heads.items) kept x.1
                    (before_all old.marks.items (length old.heads.items) h.marks x.1 k.1),
              )) list all);
        }

    listed : (m place : ℕ) (l : List (ℕ × ℕ)) → get t.linked m ≡ Some (place, l) → 0 < mark_at new.marks.items m
        → IsEntryOf t new m place l
    listed m u l at has = elim (cases_eq m n) [
      | inl same ↦
          let both : ◌≡◌ (Some (place, list)) (Some (u, l)) = sym linked ∙ ap (get t.linked) (sym same) ∙ at in
          let parts = some_pair_parts place u list l both in
          subst (λ k. IsEntryOf t new k u l) (sym same)
          (subst (λ k. IsEntryOf t new n k l) parts.0 (subst (IsEntryOf t new n place) parts.1 new_entry))
      | inr differ ↦
          let m_same = added.marks m
          ∙ ap (λ b. if b then length old.heads.items + 1 else mark_at old.marks.items m) (ne_eqb m n differ) in
          let old_has : 0 < mark_at old.marks.items m = omega (arith, m_same, has) in
          old_entry m u l (h.listed m u l at old_has) old_has
    ]

    nodes : (i : ℕ) → i < length new.heads.items
        → (m : ℕ) × (mark_at new.marks.items m ≡ i + 1) × IsNodeOf t (2050 + m)
    nodes i lt = elim (cases_lt i (length old.heads.items)) [
      | inl below ↦
          let w = h.nodes i below in
          (w.0, kept w.0 (omega (arith, w.1)) ∙ w.1, w.2)
      | inr past ↦ (n, omega (arith, new_mark, long, lt, past), node)
    ]

-- nothing is listed yet
pub none_listed : (t : Table) (l : Listing) → l.marks.items ≡ [] → l.heads.items ≡ [] → l.pairs.items ≡ []
    → AreListed t l
none_listed t l marks heads pairs =
    let zero : (n : ℕ) → mark_at l.marks.items n ≡ 0 = λ n. ap (λ m. mark_at m n) marks in
    let long : length l.heads.items ≡ 0 = ap length heads in
    record {
      counted = ap pair_count heads ∙ sym (ap length pairs);
      marks = record { low = λ n. omega (arith, zero n); few = omega (arith, long) };
      listed = λ n place list at has. absurd (omega (arith, has, zero n));
      nodes = λ i lt. absurd (omega (arith, lt, long));
    }

-- ---- the walk

-- a node that is visited, and its key
pub record IsVisited (t : Table) (c place : ℕ) : Type 0 where
  pub number : ℕ
  pub list : List (ℕ × ℕ)
  pub is : c ≡ 2050 + number
  pub linked : get t.linked number ≡ Some (place, list)
  pub pairs : pairs_at t c ≡ list
  pub node : IsNodeOf t (2050 + number)
  pub own : ℕ
  pub stands : slice_get (numbers t.vtree) own ≡ Some place

-- what is read as a decomposition is one
pub visited : (t : Table) → IsTable t → (c place n : ℕ) (d : Diagram) → ShowsCanonical t c d
    → IsViewOf t (DecompositionView place n) d → IsVisited t c place
visited t table c place n d is view =
    let w : ShowsCanonical t c (Decomposition view.0 view.1) = subst (ShowsCanonical t c) view.2 is in
    let k = w.shows.1 in
    let same : k.place ≡ place = same_Some k.place place (sym k.position ∙ view.4) in
    record {
      number = k.number;
      list = k.list;
      is = k.code;
      linked = k.stored ∙ ap (λ u. Some (u, k.list)) same;
      pairs = pairs_node t c k.number (k.place, k.list) k.code
          (linked_key t k.number (k.place, k.list) k.stored);
      node = record { diagram = d; is = subst (λ x. ShowsCanonical t x d) k.code is };
      own = view.0;
      stands = view.4;
    }

-- its entry is listed, now or before
pub visited_listed : (t : Table) (old new : Listing) (c place position : ℕ) → AreListed t old → IsVisited t c place
    → slice_get (numbers t.vtree) position ≡ Some place → AllByRecursion (BothListed old.marks.items) (pairs_at t c)
    → HasEntryNow old new (c - 2050) position (pairs_at t c)
    → AreListed t new × KeepsMarks old new × IsListed new.marks.items c
visited_listed t old new c place position h v stands all (inl had) = (
  subst (AreListed t) (sym had.1) h,
  λ n has. ap (λ (l : Listing). mark_at l.marks.items n) had.1,
  λ high. subst (λ (l : Listing). 0 < mark_at l.marks.items (c - 2050)) (sym had.1) had.0,
)
visited_listed t old new c place position h v stands all (inr added) =
    let number : c - 2050 ≡ v.number = omega (arith, v.is) in
    let w = listed_more t old new v.number place position v.list h v.linked stands v.node
    (subst (AllByRecursion (BothListed old.marks.items)) v.pairs all)
    (subst (λ n. IsAdded old new n position v.list) number
    (subst (IsAdded old new (c - 2050) position) v.pairs added)) in
    (w.0, w.1, λ high. subst (λ n. 0 < mark_at new.marks.items n) (sym number) w.2)

-- one element more
pub elements_more : (old mid now new : Listing) (pairs : List (ℕ × ℕ)) (i : ℕ) (e : ℕ × ℕ) → KeepsMarks old mid
    → AllByRecursion (BothListed mid.marks.items) (take i pairs) → slice_get pairs i ≡ Some e → KeepsMarks mid now
    → IsListed now.marks.items e.0 → KeepsMarks now new → IsListed new.marks.items e.1
    → KeepsMarks old new × AllByRecursion (BothListed new.marks.items) (take (i + 1) pairs)
elements_more old mid now new pairs i e first all at second prime third sub = (
  λ n has.
      let a = first n has in
      let b = both n (omega (arith, a, has)) in
      b ∙ a,
  all_taken (BothListed new.marks.items) pairs i e
      (all_weaker (BothListed mid.marks.items) (BothListed new.marks.items)
      (both_kept mid.marks.items new.marks.items both) (take i pairs) all) at
      (listed_kept now.marks.items new.marks.items third e.0 prime, sub),
)
  where
    both : (k : ℕ) → 0 < mark_at mid.marks.items k → mark_at new.marks.items k ≡ mark_at mid.marks.items k
    both k has = let s = second k has in third k (omega (arith, s, has)) ∙ s
