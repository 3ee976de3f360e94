-- The lists are made: each record that is that of a node is put in its list, one after another. What is found without
-- lists is a linked or detached node.
use Rattle.std.proofs.Common.{Bool, ◌≡◌, ◌+◌, ◌-◌, ◌<◌, ◌==◌, true, false, ℕ, zero, suc, Bool, if◌then◌else◌}
use Rattle.std.proofs.Common.{bit_and, List, [], ◌∷◌, ◌++◌, length}
use Rattle.std.proofs.Common.{take, replicate, get_or, slice_get, Option, Some, None, IfNone}
use Rattle.std.proofs.Common.{refl, sym, ap, subst, ◌∙◌, arith}
use Rattle.std.proofs.lemmas.Bool.{cases_eq, eqb-true}
use Rattle.std.proofs.lemmas.List.{nil_from_length, take_more, length-take-le}
use Rattle.std.proofs.lemmas.Option.{slice_get_past}
use Rattle.std.specs.FinMap.{get, empty, get-empty}
use Rattle.std.specs.Option.{option_and_then, IsSome}
use Rattle.std.specs.Ordering.{nat_cmp}
use Rattle.sd_runs.specs.Arena.{Arena}
use Rattle.sd_runs.proofs.Maps.{same_at_each}
use Rattle.sd_runs.proofs.Places.{by_cases}
use Rattle.sd_unique.specs.declared.record.Record.{Record}
use Rattle.sd_unique.specs.declared.record.Links.{Links}
use Rattle.sd_unique.specs.declared.record.RecordState.TheVariants.{Detached}
use Rattle.sd_unique.specs.Filed.{filed_at}
use Rattle.sd_unique.specs.Record.{detached_key, if_detached, key_of, nodes_of}
use Rattle.sd_unique.specs.Relinking.{IsLinkedAt}
use Rattle.sd_unique.specs.Chains.{AreInLists, HoldsNodes, IsRecordAt, head_of, list_by}
use Rattle.sd_unique.specs.Chains.{list_under, no_record}
use Rattle.sd_unique.proofs.Both.{filed_here, filed_other}
use Rattle.sd_unique.proofs.Entries.{slice_get_push, slice_get_before}
use Rattle.sd_unique.proofs.Filed.{both_same}
use Rattle.sd_unique.proofs.Numbered.{detached_at, detached_record, linked_record}
use Rattle.sd_unique.proofs.Pushed.{read_push}
use Rattle.sd_unique.proofs.Reading.{none_or}
use Rattle.sd_unique.proofs.Standing.{list_inside}

-- where all lists are empty, they have all of no records
pub listed_none : (links : List Links) (places : List ℕ) (rs : List Record) → ((b : ℕ) → head_of places b ≡ no_record)
    → AreInLists links places (list_under (take 0 rs))
listed_none links places rs no_heads =
    record {
      forth = record {
        lists = λ b. [];
        chained = no_heads;
        once = λ b. tt;
        filed = λ b n e. cc;
        only = λ b n h. absurd h;
      };
      back = λ b. tt;
    }

-- whether there are heads, by what the code tests
pub any_heads : (size : ℕ) → (size == 0) ≡ false → 0 < size
any_heads zero e = cc
any_heads (suc size) e = omega arith

-- as many heads as there are lists, where there were none
pub all_heads : (old new : List ℕ) (size count : ℕ) (ok : Bool) → ok ≡ true → (size == 0) ≡ true → length old ≡ size
    → new ≡ (if ok then (take count old ++ replicate (count - size) no_record) else old)
    → new ≡ replicate count no_record
all_heads old new size count ok done none same is =
    is ∙ ap (λ b. if b then (take count old ++ replicate (count - size) no_record) else old) done
    ∙ ap (λ l. take count l ++ replicate (count - size) no_record)
    (nil_from_length old (same ∙ eqb-true size 0 none))
    ∙ ap (λ l. l ++ replicate (count - size) no_record) (take_none count)
    ∙ ap (λ k. replicate (count - k) no_record) (eqb-true size 0 none)
    ∙ ap (λ k. replicate k no_record) (omega arith)
  where
    take_none : (k : ℕ) → take {A = ℕ} k [] ≡ []
    take_none zero = refl
    take_none (suc k) = refl

-- what follows where nothing is found
pub if_none : {X P Q : Type 0} (o : Option X) → IfNone o P → (P → Q) → IfNone o Q
if_none None h f = f h
if_none (Some x) h f = tt

module _ (rs : List Record) (n : ℕ) (d : Record) (inside : n < length rs) where
  size : length (take n rs) ≡ n
  size = length-take-le n rs (omega arith)

  -- the next number stands in no list yet
  pub next_unlisted : list_under (take n rs) n ≡ None
  next_unlisted =
      ap (option_and_then (λ x. list_by x.state (bit_and x.place 2047)))
      (slice_get_past (take n rs) n (omega (arith, size)))

  pub listed_inside : (i b : ℕ) → list_under (take n rs) i ≡ Some b → i < length rs
  listed_inside i b e = omega (arith, list_inside (take n rs) i b e, size, inside)

  module _ (links : List Links) (places : List ℕ) where
    -- it stays so where it is free
    pub listed_free : list_by (get_or rs n d).state (bit_and (get_or rs n d).place 2047) ≡ None
        → AreInLists links places (list_under (take n rs)) → AreInLists links places (list_under (take (n + 1) rs))
    listed_free none f =
        both_same _ _ _ _ no_record _ _ _ _ (λ b i e. refl) (λ b i e. refl) (λ b. refl)
        (λ m. ap (λ l. list_under l m) (take_more rs n d inside)
        ∙ read_push (take n rs) (get_or rs n d) (λ x. list_by x.state (bit_and x.place 2047)) none m)
        f

    -- and else it was put in its list
    pub listed_next : (b : ℕ) → list_by (get_or rs n d).state (bit_and (get_or rs n d).place 2047) ≡ Some b
        → AreInLists links places (filed_at n b (list_under (take n rs)))
        → AreInLists links places (list_under (take (n + 1) rs))
    listed_next b some f =
        both_same _ _ _ _ no_record _ _ (filed_at n b (list_under (take n rs))) _ (λ b i e. refl) (λ b i e. refl)
        (λ b. refl)
        (λ m. ap (λ l. list_under l m) (take_more rs n d inside)
        ∙ by_cases
        (λ e. ap (λ k. list_under (take n rs ++ get_or rs n d ∷ []) k) (e ∙ sym size)
        ∙ ap (option_and_then (λ x. list_by x.state (bit_and x.place 2047)))
        (slice_get_push (take n rs) (get_or rs n d))
        ∙ some ∙ sym (filed_here n b (list_under (take n rs)) m e))
        (λ ne. ap (option_and_then (λ x. list_by x.state (bit_and x.place 2047)))
        (slice_get_before (take n rs) (get_or rs n d) m (λ e. ne (e ∙ size)))
        ∙ sym (filed_other n b (list_under (take n rs)) m ne))
        (cases_eq m n))
        f

-- what holds of the fields is kept when the lists are made
pub kept_listed : {chained : Bool} (arena : Arena) (rs : List Record) (links new : List Links)
    (heads places places' : List ℕ) (flags : List Bool) → length places' ≡ 2049
    → AreInLists new places' (list_under rs) → length new ≡ length rs
    → HoldsNodes chained arena rs links heads places flags
    → HoldsNodes chained arena rs new heads places' flags
kept_listed arena rs links new heads places places' flags size lists links_size k =
    record {
      stored = k.stored;
      flags_all = k.flags_all;
      at_least_one = k.at_least_one;
      places_all = λ some. size;
      linked_all = λ some. links_size;
      in_chains = k.in_chains;
      in_lists = λ some. lists;
      queued = λ i r e linked none. k.queued i r e linked none;
    }

module _ (arena : Arena) (rs : List Record) where
  -- where no record is that of a node at a place, none is linked there
  pub none_at : (place : ℕ) → ((n : ℕ) (r : Record) → slice_get rs n ≡ Some r → ¬ IsRecordAt r place) → (n : ℕ)
      → ¬ IsLinkedAt (nodes_of arena rs) place n
  none_at place none n at =
      let r = linked_record arena rs n (place, at.list) at.is in
      none n r.0 r.1 (record { linked = r.2; at = ap (λ k. k.0) r.3 })

  -- a detached record is that of a detached node
  pub found_detached : (n : ℕ) (r : Record) → slice_get rs n ≡ Some r → r.state ≡ Detached
      → IsSome (get (nodes_of arena rs).detached n)
  found_detached n r there detached =
      subst IsSome (sym (detached_at arena rs n ∙ ap (option_and_then (λ x. detached_key arena x)) there
      ∙ ap (λ s. if_detached s (key_of arena r)) detached)) refl

  -- and where there is none, no node is detached
  pub none_detached : ((n : ℕ) (r : Record) → slice_get rs n ≡ Some r → ¬ (r.state ≡ Detached))
      → (nodes_of arena rs).detached ≡ empty
  none_detached none =
      same_at_each _ _ (λ n. none_or (get (nodes_of arena rs).detached n) (λ k there.
      let r = detached_record arena rs n k there in none n r.0 r.1 r.2)
      ∙ sym (get-empty nat_cmp n))
