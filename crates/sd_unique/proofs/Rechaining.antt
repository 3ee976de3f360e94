-- The records come into the chains, one after the other.
use Rattle.std.proofs.Common.{◌≡◌, ◌≢◌, ℕ, ◌-◌, ◌<◌, ◌≤◌, ◌⊎◌, true, List, [], length, slice_get}
use Rattle.std.proofs.Common.{Option, Some, None, inl, inr, refl, sym, ap, subst, ◌∙◌, arith}
use Rattle.std.proofs.Math.ListN.{set}
use Rattle.std.proofs.lemmas.Bool.{cases_eq, cases_lt}
use Rattle.std.proofs.lemmas.List.{get_or-set_same, get_or-set_other}
use Rattle.std.specs.Option.{option_and_then}
use Rattle.sd_runs.specs.Arena.{Arena}
use Rattle.sd_runs.proofs.Places.{by_cases}
use Rattle.sd_unique.specs.declared.record.Record.{Record}
use Rattle.sd_unique.specs.Record.{key_of}
use Rattle.sd_unique.specs.Filed.{filed_at}
use Rattle.sd_unique.specs.Rechaining.{IsRechained}
use Rattle.sd_unique.specs.Chains.{next_of, head_of, chain_by, chain_under, bucket_of, no_record, AreChained}
use Rattle.sd_unique.proofs.Both.{filed_here, filed_other}
use Rattle.sd_unique.proofs.Entries.{slice_get_inside, slice_get_set, slice_get_set_other}
use Rattle.sd_unique.proofs.Filed.{filed_first, filed_same}
use Rattle.sd_unique.proofs.Reading.{link_there, link_other}

-- with `k` one number more is passed
pub record IsOneMore (before after : ℕ → Type 0) (k : ℕ) : Type 0 where
  pub is_new : ¬ before k
  pub is_passed : after k
  pub kept : (n : ℕ) → before n → after n
  pub others : (n : ℕ) → after n → n ≢ k → before n

-- from the end of a part down
pub one_down : (below above k : ℕ) → below ≤ k → k < above
    → IsOneMore (λ n. (n < below) ⊎ ((k < n) × (n < above))) (λ n. (n < below) ⊎ ((k ≤ n) × (n < above))) k
one_down below above k from inside =
    record {
      is_new = by_cases (λ h. omega (arith, h, from)) (λ h. omega (arith, h.0));
      is_passed = inr (omega arith, inside);
      kept = λ n. by_cases (λ h. inl h) (λ h. inr (omega (arith, h.0), h.1));
      others = λ n. by_cases
          (λ h ne. inl h)
          (λ h ne. by_cases (λ e. absurd (ne e)) (λ d. inr (omega (arith, h.0, d), h.1)) (cases_eq n k));
    }

-- a number is below another one, or it is not
pub below_or_not : (n k : ℕ) → (n < k) ⊎ ¬ (n < k)
below_or_not n k = by_cases (λ h. inl h) (λ h. inr (λ less. omega (arith, h, less))) (cases_lt n k)

module _ (arena : Arena) (rs : List Record) where
  -- before the first step all chains are empty
  pub rechained_none : (count : ℕ) (heads : List ℕ) → ((b : ℕ) → head_of heads b ≡ no_record)
      → IsRechained arena count (λ n. n < 0) rs heads
  rechained_none count heads empty =
      record {
        under = λ n. None;
        filed = record {
          lists = λ b. [];
          chained = empty;
          once = λ b. tt;
          filed = λ b n e. cc;
          only = λ b n h. absurd h;
        };
        done = λ n h. absurd (omega (arith, h));
        others = λ n h. refl;
      }

  -- one that stands in a chain is put first in it
  pub rechained_next : (before after : ℕ → Type 0) (count k head : ℕ) (heads : List ℕ) (r t : Record)
      → IsOneMore before after k → slice_get rs k ≡ Some r
      → chain_by t.state (bucket_of (key_of arena t) count) ≡ Some head → head < length heads
      → t.next ≡ head_of heads head → k ≢ no_record
      → IsRechained arena count before rs heads
      → IsRechained arena count after (set rs k t) (set heads head k)
  rechained_next before after count k head heads r t more there goes fits next some l =
      record {
        under = filed_at k head l.under;
        filed = filed_first (next_of rs) (next_of (set rs k t)) no_record (head_of heads) (head_of (set heads head k))
            l.under (filed_at k head l.under) head k some (l.others k more.is_new)
            (record {
              after = link_there (λ (x : Record). x.next) rs k t inside ∙ next;
              kept = λ y c e ne. link_other (λ (x : Record). x.next) rs k t y ne;
              first = get_or-set_same heads head k no_record fits;
              heads = λ c ne. get_or-set_other heads head c k no_record ne;
              there = filed_here k head l.under k refl;
              others = λ y ne. filed_other k head l.under y ne;
            })
            l.filed;
        done = λ n h. by_cases
            (λ e. filed_here k head l.under n e ∙ sym goes
            ∙ sym (ap (chain_under arena count (set rs k t)) e
            ∙ ap (option_and_then (λ (x : Record). chain_by x.state (bucket_of (key_of arena x) count)))
            (slice_get_set rs k t inside)))
            (λ ne. filed_other k head l.under n ne ∙ l.done n (more.others n h ne)
            ∙ sym (ap (option_and_then (λ (x : Record). chain_by x.state (bucket_of (key_of arena x) count)))
            (slice_get_set_other rs k t n ne)))
            (cases_eq n k);
        others = λ n h. filed_other k head l.under n (later n h) ∙ l.others n (λ was. h (more.kept n was));
      }
    where
      inside : k < length rs
      inside = slice_get_inside rs k r there

      later : (n : ℕ) → ¬ after n → n ≢ k
      later n h e = h (subst after (sym e) more.is_passed)

  -- other words for the records that were passed
  pub rechained_same : (before after : ℕ → Type 0) (count : ℕ) (heads : List ℕ)
      → ((n : ℕ) → before n → after n) → ((n : ℕ) → after n → before n)
      → IsRechained arena count before rs heads → IsRechained arena count after rs heads
  rechained_same before after count heads there back l =
      record {
        under = l.under;
        filed = l.filed;
        done = λ n h. l.done n (back n h);
        others = λ n h. l.others n (λ was. h (there n was));
      }

  -- after the last step each record stands where its state says
  pub rechained_end : (passed : ℕ → Type 0) (heads : List ℕ) → ((n : ℕ) → n < length rs → passed n)
      → ((n : ℕ) → passed n ⊎ ¬ passed n) → IsRechained arena (length heads - 1) passed rs heads
      → AreChained true arena rs heads
  rechained_end passed heads all either l =
      filed_same _ _ no_record _ _ _ _ (λ b i e. refl) (λ b. refl) (λ n. at_each n (slice_get rs n) refl) l.filed
    where
      at_each : (n : ℕ) (o : Option Record) → slice_get rs n ≡ o
          → chain_under arena (length heads - 1) rs n ≡ l.under n
      at_each n None e =
          by_cases
          (λ h. sym (l.done n h))
          (λ h. ap (option_and_then
          (λ (x : Record). chain_by x.state (bucket_of (key_of arena x) (length heads - 1)))) e ∙ sym (l.others n h))
          (either n)
      at_each n (Some r) e = sym (l.done n (all n (slice_get_inside rs n r e)))
