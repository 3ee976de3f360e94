-- Which records stand in the chain of the free ones, and its head: where all chains stand, and where it stands alone.
use Rattle.std.proofs.Common.{Bool, true, false, ◌≡◌, ◌≢◌, ℕ, suc, zero, ◌<◌, List, [], ◌∷◌, length, Some, None}
use Rattle.std.proofs.Common.{refl, sym, ◌∙◌, arith}
use Rattle.std.proofs.Math.ListN.{set}
use Rattle.std.proofs.lemmas.List.{get_or-set_same, get_or-set_other}
use Rattle.sd_unique.specs.declared.record.RecordState.{RecordState}
use Rattle.sd_unique.specs.declared.record.RecordState.TheVariants.{Free, Linked, Detached}
use Rattle.sd_unique.specs.Chains.{chain_in, heads_in, head_of, no_record}

-- a detached record stands in no chain
pub detached_in : (chained : Bool) (b : ℕ) → chain_in chained Detached b ≡ None
detached_in true b = refl
detached_in false b = refl

-- a free one stands in the first, and no other does
pub free_in : (chained : Bool) (b : ℕ) → chain_in chained Free b ≡ Some 0
free_in true b = refl
free_in false b = refl

pub in_first : (chained : Bool) (s : RecordState) (b : ℕ) → chain_in chained s b ≡ Some 0 → s ≡ Free
in_first chained Free b e = refl
in_first true Linked b e = let no : suc b ≡ 0 = cc in absurd (omega arith)
in_first true Detached b e = cc
in_first false Linked b e = cc
in_first false Detached b e = cc

-- its head is the first one
pub head_first : (chained : Bool) (heads : List ℕ) → head_of (heads_in chained heads) 0 ≡ head_of heads 0
head_first true heads = refl
head_first false [] = refl
head_first false (x ∷ xs) = refl

pub head_set : (chained : Bool) (heads : List ℕ) (value : ℕ) → 0 < length heads
    → head_of (heads_in chained (set heads 0 value)) 0 ≡ value
head_set chained heads value some =
    head_first chained (set heads 0 value) ∙ get_or-set_same heads 0 value no_record some

-- where it stands alone, no other head leads to a record
pub no_others : (heads : List ℕ) (c : ℕ) → c ≢ 0 → head_of (heads_in false heads) c ≡ no_record
no_others heads zero ne = absurd (ne refl)
no_others [] (suc c) ne = refl
no_others (x ∷ xs) (suc c) ne = refl

-- setting it changes no other head
pub head_kept : (chained : Bool) (heads : List ℕ) (value c : ℕ) → c ≢ 0
    → head_of (heads_in chained (set heads 0 value)) c ≡ head_of (heads_in chained heads) c
head_kept true heads value c ne = get_or-set_other heads 0 c value no_record ne
head_kept false heads value c ne = no_others (set heads 0 value) c ne ∙ sym (no_others heads c ne)
