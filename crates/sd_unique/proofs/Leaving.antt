-- A record leaves the chain of its bucket, and another comes first among the free ones, whether the chains of the
-- buckets stand or not.
use Rattle.std.proofs.Common.{◌≡◌, ◌≢◌, Bool, true, false, ℕ, suc, ◌+◌, ◌-◌, ◌<◌, List, [], ◌∷◌, length, take}
use Rattle.std.proofs.Common.{slice_get, Option, Some, None, refl, sym, ap, subst, ◌∙◌, arith}
use Rattle.std.proofs.Math.ListN.{set}
use Rattle.std.proofs.lemmas.Bool.{cases_eq}
use Rattle.std.specs.Option.{IsSome}
use Rattle.std.specs.FinMap.{get}
use Rattle.sd_runs.specs.Arena.{Arena}
use Rattle.sd_runs.proofs.Places.{by_cases}
use Rattle.sd_unique.specs.declared.record.Record.{Record}
use Rattle.sd_unique.specs.declared.record.RecordState.TheVariants.{Free}
use Rattle.sd_unique.specs.Filed.{IsFiled, unfiled}
use Rattle.sd_unique.specs.Record.{key_of, nodes_of}
use Rattle.sd_unique.specs.Chains.{next_of, head_of, heads_in, chain_in, free_by, under_by, bucket_of, no_record}
use Rattle.sd_unique.specs.Chains.{AreChained, KeepsRecords}
use Rattle.sd_unique.proofs.Both.{unfiled_here, unfiled_other}
use Rattle.sd_unique.proofs.Entries.{slice_get_inside}
use Rattle.sd_unique.proofs.Filed.{filed_same, filed_first}
use Rattle.sd_unique.proofs.Numbered.{linked_there}
use Rattle.sd_unique.proofs.Reading.{link_there, link_other}
use Rattle.sd_unique.proofs.FirstChain.{free_in, head_first, head_set, head_kept}
use Rattle.sd_unique.proofs.Standing.{chain_here, chain_other, linked_in_none}

-- the heads of the buckets are not described where their chains don't stand
pub bucket_in : (heads : List ℕ) (b n : ℕ) → heads_in false (set heads (b + 1) n) ≡ heads_in false heads
bucket_in heads b n = subst (λ i. take 1 (set heads i n) ≡ take 1 heads) (omega arith) (behind heads)
  where
    behind : (xs : List ℕ) → take 1 (set xs (suc b) n) ≡ take 1 xs
    behind [] = refl
    behind (x ∷ xs) = refl

-- what is filed nowhere need not be taken out
pub unfiled_none : (under : ℕ → Option ℕ) (n : ℕ) → under n ≡ None → (i : ℕ) → unfiled n under i ≡ under i
unfiled_none under n none i =
    by_cases
    (λ e. unfiled_here n under i e ∙ sym (ap under e ∙ none))
    (λ ne. unfiled_other n under i ne)
    (cases_eq i n)

pub filed_nowhere : (next head : ℕ → ℕ) (under : ℕ → Option ℕ) (n : ℕ) → under n ≡ None
    → IsFiled next no_record head under → IsFiled next no_record head (unfiled n under)
filed_nowhere next head under n none f =
    filed_same next next no_record head head under (unfiled n under) (λ b i e. refl) (λ b. refl)
    (unfiled_none under n none) f

-- where the chains of the buckets don't stand, nothing is left to do for a linked record
pub left_as_is : (chained : Bool) (arena : Arena) (rs : List Record) (heads : List ℕ) (n : ℕ) → chained ≡ false
    → IsSome (get (nodes_of arena rs).linked n) → AreChained chained arena rs heads
    → IsFiled (next_of rs) no_record (head_of (heads_in chained heads))
    (unfiled n (under_by (chain_in chained) arena (length heads - 1) rs))
left_as_is true arena rs heads n e was f = absurd (true_not_false e)
  where
    true_not_false : true ≡ false → ⊥
    true_not_false e = cc
left_as_is false arena rs heads n e was f =
    let r = linked_there arena rs n was in
    filed_nowhere (next_of rs) (head_of (heads_in false heads)) (under_by free_by arena (length heads - 1) rs) n
    (linked_in_none arena rs n r.0 r.1 r.2 (length heads - 1)) f

-- A record that was taken out is put first in the chain of the free ones.
module _ (arena : Arena) (rs mid : List Record) (n : ℕ) (m t : Record) (kept : KeepsRecords rs mid)
    (there : slice_get mid n ≡ Some m) (is : t.state ≡ Free) where
  pub freed_first : (chained : Bool) (count : ℕ) (heads : List ℕ) → n ≢ no_record → 0 < length heads
      → t.next ≡ head_of heads 0
      → IsFiled (next_of mid) no_record (head_of (heads_in chained heads))
      (unfiled n (under_by (chain_in chained) arena count rs))
      → IsFiled (next_of (set mid n t)) no_record (head_of (heads_in chained (set heads 0 n)))
      (under_by (chain_in chained) arena count (set mid n t))
  freed_first chained count heads some at_least_one next f =
      filed_first (next_of mid) (next_of (set mid n t)) no_record (head_of (heads_in chained heads))
      (head_of (heads_in chained (set heads 0 n))) (unfiled n (under_by (chain_in chained) arena count rs))
      (under_by (chain_in chained) arena count (set mid n t)) 0 n some
      (unfiled_here n (under_by (chain_in chained) arena count rs) n refl)
      (record {
        after = link_there (λ (x : Record). x.next) mid n t (slice_get_inside mid n m there) ∙ next
            ∙ sym (head_first chained heads);
        kept = λ y c e ne. link_other (λ (x : Record). x.next) mid n t y ne;
        first = head_set chained heads n at_least_one;
        heads = λ c ne. head_kept chained heads n c ne;
        there = chain_here arena rs mid n m t kept there (chain_in chained) count
            ∙ ap (λ s. chain_in chained s (bucket_of (key_of arena t) count)) is
            ∙ free_in chained (bucket_of (key_of arena t) count);
        others = λ y ne. chain_other arena rs mid n m t kept there (chain_in chained) count y ne
            ∙ sym (unfiled_other n (under_by (chain_in chained) arena count rs) y ne);
      })
      f
