-- Where the chains of the buckets need not stand any more, that of the free records still does.
use Rattle.std.proofs.Common.{Bool, true, false, ◌≡◌, ℕ, suc, zero, ◌-◌, List, [], length, slice_get, Some}
use Rattle.std.proofs.Common.{take, refl, sym, ap, subst, ◌∙◌, arith}
use Rattle.std.specs.Option.{option_and_then}
use Rattle.sd_runs.specs.Arena.{Arena, IsMember, HasNoCopies}
use Rattle.sd_unique.specs.declared.record.Record.{Record}
use Rattle.sd_unique.specs.declared.record.Links.{Links}
use Rattle.sd_unique.specs.declared.record.RecordState.{RecordState}
use Rattle.sd_unique.specs.declared.record.RecordState.TheVariants.{Free, Linked, Detached}
use Rattle.sd_unique.specs.Filed.{IsChain}
use Rattle.sd_unique.specs.Record.{key_of}
use Rattle.sd_unique.specs.Chains.{AreChained, HoldsNodes, bucket_of, chain_by, free_by, under_by, head_of, next_of}
use Rattle.sd_unique.specs.Chains.{no_record}
use Rattle.sd_unique.proofs.FirstChain.{in_first, head_first, no_others}
use Rattle.sd_unique.proofs.Numbered.{picked_from}

free_first : (s : RecordState) (x b : ℕ) → free_by s x ≡ Some b → (s ≡ Free) × (b ≡ 0)
free_first Free x b e = let same : b ≡ 0 = cc in (refl, same)
free_first Linked x b e = cc
free_first Detached x b e = cc

-- the first list alone
abbrev first_alone : (ℕ → List ℕ) → ℕ → List ℕ
first_alone lists zero = lists 0
first_alone lists (suc b) = []

-- Where all chains stand, that of the free records does, by any number of buckets.
pub free_chained : (arena : Arena) (rs : List Record) (heads : List ℕ) → AreChained true arena rs heads
    → AreChained false arena rs heads
free_chained arena rs heads f =
    record {
      lists = first_alone f.lists;
      chained = chained;
      once = once;
      filed = filed;
      only = only;
    }
  where
    chained : (b : ℕ) → IsChain (next_of rs) no_record (head_of (take 1 heads) b) (first_alone f.lists b)
    chained zero =
        subst (λ k. IsChain (next_of rs) no_record k (f.lists 0)) (sym (head_first false heads)) (f.chained 0)
    chained (suc b) = no_others heads (suc b) (λ e. omega (arith, e))

    once : (b : ℕ) → HasNoCopies (first_alone f.lists b)
    once zero = f.once 0
    once (suc b) = tt

    filed : (b n : ℕ) → under_by free_by arena (length heads - 1) rs n ≡ Some b → IsMember n (first_alone f.lists b)
    filed b n e =
        let r = picked_from (λ (r : Record). free_by r.state (bucket_of (key_of arena r) (length heads - 1)))
        (slice_get rs n) b e in
        let free = free_first (r.0).state (bucket_of (key_of arena r.0) (length heads - 1)) b r.2 in
        subst (λ z. IsMember n (first_alone f.lists z)) (sym free.1)
        (f.filed 0 n
        (ap (option_and_then (λ (x : Record). chain_by x.state (bucket_of (key_of arena x) (length heads - 1)))) r.1
        ∙ ap (λ s. chain_by s (bucket_of (key_of arena r.0) (length heads - 1))) free.0))

    only : (b n : ℕ) → IsMember n (first_alone f.lists b) → under_by free_by arena (length heads - 1) rs n ≡ Some b
    only zero n h =
        let r = picked_from (λ (r : Record). chain_by r.state (bucket_of (key_of arena r) (length heads - 1)))
        (slice_get rs n) 0 (f.only 0 n h) in
        ap (option_and_then (λ (x : Record). free_by x.state (bucket_of (key_of arena x) (length heads - 1)))) r.1
        ∙ ap (λ s. free_by s (bucket_of (key_of arena r.0) (length heads - 1)))
        (in_first true (r.0).state (bucket_of (key_of arena r.0) (length heads - 1)) r.2)
    only (suc b) n h = absurd h

-- what holds of the fields is kept where the chains of the buckets need not stand
pub kept_unchained : {chained : Bool} {arena : Arena} {rs : List Record} {links : List Links} {heads places : List ℕ}
    {flags : List Bool} → HoldsNodes chained arena rs links heads places flags
    → HoldsNodes false arena rs links heads places flags
kept_unchained {chained = true} {arena = arena} {rs = rs} {heads = heads} k =
    record {
      stored = k.stored;
      linked_all = k.linked_all;
      flags_all = k.flags_all;
      at_least_one = k.at_least_one;
      places_all = k.places_all;
      in_chains = free_chained arena rs heads k.in_chains;
      in_lists = k.in_lists;
      queued = k.queued;
    }
kept_unchained {chained = false} k = k
