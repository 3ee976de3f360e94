-- What is read of links that were set, of vectors that were lent whole, and of the lists of the detached.
use Rattle.std.proofs.Common.{◌≡◌, ◌≢◌, inl, bit_and, ℕ, suc, zero, ◌<◌, ◌++◌}
use Rattle.std.proofs.Common.{List, [], ◌∷◌}
use Rattle.std.proofs.Common.{length, map, take, drop, get_or, slice_get, Option, Some, None, refl, sym, ap, subst}
use Rattle.std.proofs.Common.{◌∙◌, arith}
use Rattle.std.proofs.Math.ListN.{set}
use Rattle.std.proofs.Math.Seq.{take-append_seam}
use Rattle.std.proofs.lemmas.Bool.{cases_eq}
use Rattle.std.proofs.lemmas.List.{length-map, map-set, get_or-set_same, get_or-set_other}
use Rattle.std.specs.Option.{option_and_then, IsSome}
use Rattle.std.specs.Ordering.{nat_cmp}
use Rattle.std.specs.FinMap.{empty, get, get-empty}
use Rattle.sd_runs.specs.Arena.{Arena, IsMember}
use Rattle.sd_runs.proofs.Maps.{same_at_each}
use Rattle.sd_runs.proofs.Places.{by_cases}
use Rattle.sd_unique.specs.declared.record.Record.{Record}
use Rattle.sd_unique.specs.declared.record.Links.{Links}
use Rattle.sd_unique.specs.declared.record.RecordState.{RecordState}
use Rattle.sd_unique.specs.declared.record.RecordState.TheVariants.{Free, Linked, Detached}
use Rattle.sd_unique.specs.Filed.{IsChain}
use Rattle.sd_unique.specs.Record.{detached_key, key_of, if_detached, nodes_of}
use Rattle.sd_unique.specs.Chains.{after_of, list_under, list_by}
use Rattle.sd_unique.specs.Chains.{head_of, no_record, AreInLists}
use Rattle.sd_unique.proofs.Entries.{slice_get_inside}
use Rattle.sd_unique.proofs.Numbered.{detached_at, detached_record, picked_from}

module _ {X : Type 0} (f : X → ℕ) (xs : List X) (n : ℕ) (t : X) where
  pub link_there : n < length xs → get_or (map f (set xs n t)) n 0 ≡ f t
  link_there inside =
      ap (λ l. get_or l n 0) (map-set f xs n t)
      ∙ get_or-set_same (map f xs) n (f t) 0 (omega (arith, inside, length-map xs f))

  pub link_other : (y : ℕ) → y ≢ n → get_or (map f (set xs n t)) y 0 ≡ get_or (map f xs) y 0
  link_other y ne = ap (λ l. get_or l y 0) (map-set f xs n t) ∙ get_or-set_other (map f xs) n y (f t) 0 ne

  pub link_same : (x : X) → slice_get xs n ≡ Some x → f t ≡ f x → (y : ℕ)
      → get_or (map f (set xs n t)) y 0 ≡ get_or (map f xs) y 0
  link_same x there e y =
      by_cases
      (λ same. ap (λ k. get_or (map f (set xs n t)) k 0) same ∙ link_there (slice_get_inside xs n x there) ∙ e
      ∙ sym (ap (λ k. get_or (map f xs) k 0) same ∙ was xs n there))
      (λ ne. link_other y ne)
      (cases_eq y n)
    where
      was : (l : List X) (i : ℕ) → slice_get l i ≡ Some x → get_or (map f l) i 0 ≡ f x
      was [] i e = cc
      was (z ∷ l) zero e = let same : z ≡ x = cc in ap f same
      was (z ∷ l) (suc i) e = was l i e

-- a slice of a whole vector, written back
pub whole_slice : {X : Type 0} (new old : List X) (size : ℕ) → length new ≡ size
    → take size (new ++ drop (length new) old) ≡ new
whole_slice new old size e =
    ap (λ k. take k (new ++ drop (length new) old)) (sym e) ∙ take-append_seam new (drop (length new) old)

-- what is read at a place inside does not depend on the default
pub get_or_any : {X : Type 0} (xs : List X) (i : ℕ) (d e : X) → i < length xs → get_or xs i d ≡ get_or xs i e
get_or_any [] i d e h = absurd (omega arith)
get_or_any (x ∷ xs) zero d e h = refl
get_or_any (x ∷ xs) (suc i) d e h = get_or_any xs i d e (omega arith)

-- a chain whose head is no record has no numbers, and another has its head
pub chain_empty : (next : ℕ → ℕ) (none at n : ℕ) (xs : List ℕ) → IsChain next none at xs → at ≡ none → ¬ IsMember n xs
chain_empty next none at n [] c e h = h
chain_empty next none at n (x ∷ xs) c e h = c.1 (sym c.0 ∙ e)

pub head_has : (next : ℕ → ℕ) (none at : ℕ) (xs : List ℕ) → IsChain next none at xs → at ≢ none → IsMember at xs
head_has next none at [] c ne = absurd (ne c)
head_has next none at (x ∷ xs) c ne = inl (sym c.0)

pub none_or : {X : Type 0} (o : Option X) → ((x : X) → o ≡ Some x → ⊥) → o ≡ None
none_or None h = refl
none_or (Some x) h = absurd (h x refl)

first_list : (s : RecordState) (b : ℕ) → list_by s b ≡ Some 0 → s ≡ Detached
first_list Free b e = cc
first_list Linked b e = let same : suc b ≡ 0 = cc in absurd (omega arith)
first_list Detached b e = refl

module _ (arena : Arena) (rs : List Record) (links : List Links) (places : List ℕ)
    (f : AreInLists links places (list_under rs)) where
  -- where the first list is empty, no node is detached
  pub detached_none : head_of places 0 ≡ no_record → (nodes_of arena rs).detached ≡ empty
  detached_none e =
      same_at_each _ _ (λ n. none_or (get (nodes_of arena rs).detached n) (λ k there.
      let r = detached_record arena rs n k there in
      chain_empty (after_of links) no_record (head_of places 0) n ((f.forth).lists 0) ((f.forth).chained 0) e
      ((f.forth).filed 0 n
      (ap (option_and_then (λ (x : Record). list_by x.state (bit_and x.place 2047))) r.1
      ∙ ap (λ s. list_by s (bit_and (r.0).place 2047)) r.2)))
      ∙ sym (get-empty nat_cmp n))

  -- and else its first number is that of a detached node
  pub detached_some : head_of places 0 ≢ no_record → IsSome (get (nodes_of arena rs).detached (head_of places 0))
  detached_some ne =
      let under = (f.forth).only 0 (head_of places 0)
      (head_has (after_of links) no_record (head_of places 0) ((f.forth).lists 0) ((f.forth).chained 0) ne) in
      let r = picked_from (λ (x : Record). list_by x.state (bit_and x.place 2047)) (slice_get rs (head_of places 0)) 0
      under in
      subst IsSome (sym (detached_at arena rs (head_of places 0)
      ∙ ap (option_and_then (λ x. detached_key arena x)) r.1
      ∙ ap (λ s. if_detached s (key_of arena r.0)) (first_list (r.0).state (bit_and (r.0).place 2047) r.2))) refl
