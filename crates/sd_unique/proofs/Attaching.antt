-- A detached record becomes a linked one.
use Rattle.std.proofs.Common.{Bool, ◌≡◌, ◌≢◌, ℕ, ◌+◌, ◌-◌, ◌<◌, bit_and, List, length, slice_get, unwrap_or}
use Rattle.std.proofs.Common.{true, false, [], Some, refl, sym, ap, subst, ◌∙◌, arith}
use Rattle.std.proofs.Math.ListN.{set}
use Rattle.std.proofs.lemmas.List.{length-set, get_or-set_same, get_or-set_other}
use Rattle.std.specs.FinMap.{get}
use Rattle.sd_runs.specs.Arena.{Arena}
use Rattle.sd_runs.proofs.Places.{by_cases}
use Rattle.sd_unique.specs.Candidates.{Waits}
use Rattle.sd_unique.specs.declared.record.Record.{Record}
use Rattle.sd_unique.specs.declared.record.Links.{Links}
use Rattle.sd_unique.specs.declared.record.RecordState.TheVariants.{Linked, Detached}
use Rattle.sd_unique.specs.Filed.{IsFiled, unfiled, filed_at}
use Rattle.sd_unique.specs.Record.{key_of, nodes_of}
use Rattle.sd_unique.specs.Chains.{next_of, chain_by, free_by, chain_in, list_by, under_by, chain_under, list_under}
use Rattle.sd_unique.specs.Chains.{bucket_of, heads_in, head_of, no_record, HoldsNodes, AreListed}
use Rattle.sd_unique.specs.Relinking.{relinked, IsAbsent}
use Rattle.sd_unique.proofs.Changed.{set_which}
use Rattle.sd_unique.proofs.Cutting.{all_kept}
use Rattle.sd_unique.proofs.Entries.{slice_get_inside}
use Rattle.sd_unique.proofs.Filed.{filed_same, filed_first, both_same, none_is}
use Rattle.sd_unique.proofs.Leaving.{bucket_in, unfiled_none}
use Rattle.sd_unique.proofs.Moved.{stored_relinked, nodes_relinked}
use Rattle.sd_unique.proofs.Numbered.{detached_is}
use Rattle.sd_unique.proofs.Reading.{link_there, link_other}
use Rattle.sd_unique.proofs.Standing.{chain_here, chain_other, unchained, listed_at, is_record, detached_chain}

-- the bucket that the code computed is that of the key
pub bucket_at : (arena : Arena) (r : Record) (list : List (ℕ × ℕ)) (count b : ℕ)
    → get arena.live r.start ≡ Some list → b ≡ bucket_of (r.place, list) count → bucket_of (key_of arena r) count ≡ b
bucket_at arena r list count b live is =
    ap (λ o. bucket_of (r.place, unwrap_or o []) count) live ∙ sym is

-- the records stand in the chains, among so many buckets
abbrev AreFiled : Bool → Arena → ℕ → List Record → List ℕ → Type 0
AreFiled chained arena count records heads =
    IsFiled (next_of records) no_record (head_of (heads_in chained heads))
    (under_by (chain_in chained) arena count records)

module _ (arena : Arena) (rs : List Record) (n : ℕ) (r t : Record) (there : slice_get rs n ≡ Some r)
    (place : t.place ≡ r.place) (start : t.start ≡ r.start) (size : t.length ≡ r.length) (uses : t.uses ≡ r.uses)
    (mark : t.mark ≡ r.mark) (was : r.state ≡ Detached) (is : t.state ≡ Linked) where
  key_same : key_of arena t ≡ key_of arena r
  key_same i = (place i, unwrap_or (get arena.live (start i)) [])

  chain_new : (count b : ℕ) → bucket_of (key_of arena r) count ≡ b
      → chain_under arena count (set rs n t) n ≡ Some (b + 1)
  chain_new count b at =
      chain_here arena rs rs n r t (all_kept rs) there chain_by count
      ∙ ap (λ s. chain_by s (bucket_of (key_of arena t) count)) is
      ∙ ap Some (omega (arith, ap (λ k. bucket_of k count) key_same, at))

  list_new : list_by t.state (bit_and t.place 2047) ≡ Some (bit_and r.place 2047 + 1)
  list_new =
      ap (λ s. list_by s (bit_and t.place 2047)) is
      ∙ ap Some (omega (arith, ap (λ p. bit_and p 2047) place))

  -- where the chains of the buckets don't stand, it stood in none and stands in none
  chain_none : (count i : ℕ) → under_by free_by arena count (set rs n t) i ≡ under_by free_by arena count rs i
  chain_none count i =
      unchained arena rs rs n r t (all_kept rs) there free_by count
      (ap (λ s. free_by s (bucket_of (key_of arena t) count)) is) i
      ∙ unfiled_none (under_by free_by arena count rs) n (detached_chain arena rs n r there was false count) i

  -- the record is put first in the chain of its bucket, where that one stands
  put_in : (chained : Bool) (heads : List ℕ) (b : ℕ) → n ≢ no_record
      → bucket_of (key_of arena r) (length heads - 1) ≡ b
      → b + 1 < length heads → t.next ≡ head_of heads (b + 1)
      → AreFiled chained arena (length heads - 1) rs heads
      → AreFiled chained arena (length heads - 1) (set rs n t) (set heads (b + 1) n)
  put_in true heads b some at inside next f =
      filed_first (next_of rs) (next_of (set rs n t)) no_record (head_of heads) (head_of (set heads (b + 1) n))
      (chain_under arena (length heads - 1) rs) (chain_under arena (length heads - 1) (set rs n t)) (b + 1) n some
      (detached_chain arena rs n r there was true (length heads - 1))
      (record {
        after = link_there (λ (x : Record). x.next) rs n t (slice_get_inside rs n r there) ∙ next;
        kept = λ y c e ne. link_other (λ (x : Record). x.next) rs n t y ne;
        first = get_or-set_same heads (b + 1) n no_record inside;
        heads = λ c ne. get_or-set_other heads (b + 1) c n no_record ne;
        there = chain_new (length heads - 1) b at;
        others = λ y ne. chain_other arena rs rs n r t (all_kept rs) there chain_by (length heads - 1) y ne;
      })
      f
  put_in false heads b some at inside next f =
      filed_same (next_of rs) (next_of (set rs n t)) no_record (head_of (heads_in false heads))
      (head_of (heads_in false (set heads (b + 1) n))) (under_by free_by arena (length heads - 1) rs)
      (under_by free_by arena (length heads - 1) (set rs n t))
      (λ c y e. link_other (λ (x : Record). x.next) rs n t y
      (λ same. none_is (detached_chain arena rs n r there was false (length heads - 1))
      (ap (under_by free_by arena (length heads - 1) rs) (sym same) ∙ e)))
      (λ c. ap (λ l. head_of l c) (bucket_in heads b n)) (chain_none (length heads - 1)) f

  -- what holds of the fields is kept
  pub attached_kept : {chained : Bool} (links new : List Links) (heads places places' : List ℕ) (flags : List Bool)
      (b : ℕ)
      → bucket_of (key_of arena r) (length heads - 1) ≡ b → b + 1 < length heads → t.next ≡ head_of heads (b + 1)
      → length places' ≡ length places → length new ≡ length links
      → AreListed new places' (filed_at n (bit_and r.place 2047 + 1) (unfiled n (list_under rs)))
      → IsAbsent (nodes_of arena rs) (key_of arena r) → (r.uses ≡ 0 → Waits flags n)
      → HoldsNodes chained arena rs links heads places flags
      → HoldsNodes chained arena (set rs n t) new (set heads (b + 1) n) places' flags
  attached_kept {chained} links new heads places places' flags b at inside next same_places same_links lists absent
      queued k =
      record {
        stored = stored_relinked arena rs n r t there (slice_get_inside rs n r there) place start size uses mark
            was is absent k.stored;
        linked_all = λ some. same_links ∙ k.linked_all (omega (arith, some, same_places)) ∙ sym (length-set rs n t);
        flags_all = k.flags_all ∙ sym (length-set rs n t);
        at_least_one = omega (arith, k.at_least_one, length-set heads (b + 1) n);
        places_all = λ some. same_places ∙ k.places_all (omega (arith, some, same_places));
        in_chains = subst (λ h. AreFiled chained arena (h - 1) (set rs n t) (set heads (b + 1) n))
            (sym (length-set heads (b + 1) n))
            (put_in chained heads b (is_record n k.stored (slice_get_inside rs n r there)) at inside next k.in_chains);
        in_lists = λ some. both_same _ _ _ _ no_record _ _
            (filed_at n (bit_and r.place 2047 + 1) (unfiled n (list_under rs))) (list_under (set rs n t))
            (λ b i e. refl) (λ b i e. refl) (λ b. refl)
            (listed_at arena rs rs n r t (all_kept rs) there (bit_and r.place 2047 + 1) list_new) (lists some);
        queued = λ i x e linked none. by_cases
            (λ h. ap (slice_get flags) h.0
            ∙ queued (sym uses ∙ ap (λ (y : Record). y.uses) h.1 ∙ none))
            (λ h. k.queued i x h.1 linked none)
            (set_which rs n r t there i x e);
      }

  pub nodes_attached : (k : ℕ × List (ℕ × ℕ)) → get (nodes_of arena rs).detached n ≡ Some k
      → nodes_of arena (set rs n t) ≡ relinked (nodes_of arena rs) n k
  nodes_attached k e =
      nodes_relinked arena rs n r t there (slice_get_inside rs n r there) place start size uses mark was is
      ∙ ap (relinked (nodes_of arena rs) n) (detached_is arena rs n r k there e)
