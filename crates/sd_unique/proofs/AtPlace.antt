-- A walk along the list of a place to a node of that very place.
use Rattle.std.proofs.Common.{◌≡◌, ◌≢◌, inr, ℕ, ◌+◌, ◌<◌, ◌≤◌, bit_and, List, [], ◌∷◌, length, slice_get}
use Rattle.std.proofs.Common.{get_or, unwrap_or, Some, refl, sym, ap, subst, ◌∙◌, arith}
use Rattle.std.proofs.lemmas.Nat.{and_le_r}
use Rattle.std.specs.Option.{option_and_then}
use Rattle.std.specs.FinMap.{get}
use Rattle.sd_runs.specs.Arena.{Arena, IsMember}
use Rattle.sd_runs.proofs.Places.{by_cases}
use Rattle.sd_unique.specs.declared.record.Record.{Record}
use Rattle.sd_unique.specs.declared.record.Links.{Links}
use Rattle.sd_unique.specs.declared.record.RecordState.{RecordState}
use Rattle.sd_unique.specs.declared.record.RecordState.TheVariants.{Free, Linked, Detached}
use Rattle.sd_unique.specs.Filed.{IsChain, IsWalkable}
use Rattle.sd_unique.specs.Record.{if_linked, key_of, linked_key, nodes_of}
use Rattle.sd_unique.specs.Relinking.{IsLinkedAt}
use Rattle.sd_unique.specs.Chains.{AreInLists, IsRecordAt, after_of, head_of, list_by, list_under, no_record}
use Rattle.sd_unique.proofs.Both.{chain_short}
use Rattle.sd_unique.proofs.Numbered.{linked_at, linked_record}
use Rattle.sd_unique.proofs.Reading.{chain_empty, head_has, get_or_any}
use Rattle.sd_unique.proofs.Standing.{list_inside, linked_list}
use Rattle.sd_unique.proofs.Walked.{chain_one}

-- what is known on the way: the rest of the chain is as short as the steps that are left, and has all of this place
pub record OnPlace (records : List Record) (next : ℕ → ℕ) (none first place size at step : ℕ) (rest : List ℕ) : Type 0
  where
    pub walk : IsWalkable next none at size rest
    pub short : length rest + step ≤ size
    pub part : (xs : List ℕ) → IsChain next none first xs → (y : ℕ) → IsMember y rest → IsMember y xs
    pub passed : (xs : List ℕ) → IsChain next none first xs → (n : ℕ) (r : Record) → IsMember n xs
        → slice_get records n ≡ Some r → r.place ≡ place → IsMember n rest

module _ {records : List Record} {next : ℕ → ℕ} {none first place size : ℕ} where
  pub place_first : {xs : List ℕ} → IsWalkable next none first size xs
      → OnPlace records next none first place size first 0 xs
  place_first {xs} w =
      record {
        walk = w;
        short = omega (arith, chain_short size xs w.once w.below);
        part = λ ys c y h. subst (λ z. IsMember y z) (chain_one next none first xs ys w.chain c) h;
        passed = λ ys c n r h e p. subst (λ z. IsMember n z) (chain_one next none first ys xs c w.chain) h;
      }

  -- the number that is reached is in the chain
  pub place_has : {at step : ℕ} {rest : List ℕ} → at ≢ none
      → OnPlace records next none first place size at step rest → IsMember at rest
  place_has {at} {step} {rest} ne w = head_has next none at rest (w.walk).chain ne

  -- at the end no number of this place was passed
  pub place_end : {at step : ℕ} {rest : List ℕ} → at ≡ none
      → OnPlace records next none first place size at step rest → (xs : List ℕ) → IsChain next none first xs
      → (n : ℕ) (r : Record) → IsMember n xs → slice_get records n ≡ Some r → r.place ≢ place
  place_end {at} {step} {rest} e w xs c n r h there p =
      chain_empty next none at n rest (w.walk).chain e (w.passed xs c n r h there p)

  -- one step on from a number of another place
  pub place_on : {at step : ℕ} (rest : List ℕ) (r : Record) → at ≢ none → slice_get records at ≡ Some r
      → r.place ≢ place → OnPlace records next none first place size at step rest
      → (more : List ℕ) × OnPlace records next none first place size (next at) (step + 1) more
  place_on {at} {step} [] r ne there other w = absurd (ne (w.walk).chain)
  place_on {at} {step} (y ∷ ys) r ne there other w = (
    ys,
    record {
      walk = record {
        chain = subst (λ z. IsChain next none (next z) ys) (sym ((w.walk).chain).0) ((w.walk).chain).2;
        once = ((w.walk).once).1;
        below = λ z h. (w.walk).below z (inr h);
      };
      short = omega (arith, w.short);
      part = λ xs c z h. w.part xs c z (inr h);
      passed = λ xs c n x h e p. by_cases
          (λ same.
          let is : Some x ≡ Some r = sym e
          ∙ ap (slice_get records) (sym same ∙ sym ((w.walk).chain).0) ∙ there in
          let x_is : x ≡ r = cc in
          absurd (other (ap (λ (z : Record). z.place) (sym x_is) ∙ p)))
          (λ k. k)
          (w.passed xs c n x h e p);
    },
  )

in_place : (s : RecordState) (b c : ℕ) → list_by s b ≡ Some (c + 1) → s ≡ Linked
in_place Free b c e = cc
in_place Linked b c e = refl
in_place Detached b c e = let same : 0 ≡ c + 1 = cc in absurd (omega arith)

-- a record that is that of a linked node at a place
pub found_at : (arena : Arena) (rs : List Record) (place n : ℕ) (r : Record) → slice_get rs n ≡ Some r
    → IsRecordAt r place → IsLinkedAt (nodes_of arena rs) place n
found_at arena rs place n r there is =
    record {
      list = unwrap_or (get arena.live r.start) [];
      is = linked_at arena rs n ∙ ap (option_and_then (λ (x : Record). linked_key arena x)) there
          ∙ ap (λ s. if_linked s (key_of arena r)) is.linked
          ∙ ap (λ p. Some (p, unwrap_or (get arena.live r.start) [])) is.at;
    }

module _ (arena : Arena) (rs : List Record) (links : List Links) (places : List ℕ)
    (f : AreInLists links places (list_under rs)) (place : ℕ) where
  -- the list of a remainder can be walked
  pub place_walk : (b : ℕ)
      → IsWalkable (after_of links) no_record (head_of places b) (length rs) ((f.forth).lists b)
  place_walk b =
      record {
        chain = (f.forth).chained b;
        once = (f.forth).once b;
        below = λ y h. list_inside rs y b ((f.forth).only b y h);
      }

  -- a number in it whose record has this place is that of a node at it
  pub at_some : (n : ℕ) (r : Record) → IsMember n ((f.forth).lists (bit_and place 2047 + 1))
      → slice_get rs n ≡ Some r → r.place ≡ place → IsLinkedAt (nodes_of arena rs) place n
  at_some n r h there e =
      let under = (f.forth).only (bit_and place 2047 + 1) n h in
      let linked = in_place r.state (bit_and r.place 2047) (bit_and place 2047)
      (sym (ap (option_and_then (λ (x : Record). list_by x.state (bit_and x.place 2047))) there) ∙ under) in
      found_at arena rs place n r there (record { linked = linked; at = e })

  -- and where there is none, no node is at it
  pub at_none : ((n : ℕ) (r : Record) → IsMember n ((f.forth).lists (bit_and place 2047 + 1))
      → slice_get rs n ≡ Some r → r.place ≢ place) → (n : ℕ) → ¬ IsLinkedAt (nodes_of arena rs) place n
  at_none none n at =
      let r = linked_record arena rs n (place, at.list) at.is in
      let e : (r.0).place ≡ place = ap (λ k. k.0) r.3 in
      none n r.0
      ((f.forth).filed (bit_and place 2047 + 1) n
      (linked_list arena rs n r.0 r.1 r.2 ∙ ap (λ p. Some (bit_and p 2047 + 1)) e))
      r.1 e

-- the walk as the code begins it
pub walk_of : (arena : Arena) (rs rs' : List Record) (links links' : List Links) (places : List ℕ)
    (f : AreInLists links places (list_under rs)) (place first : ℕ) → length places ≡ 2049 → rs' ≡ rs → links' ≡ links
    → first ≡ get_or places (bit_and place 2047 + 1) first
    → IsWalkable (after_of links') no_record first (length rs') ((f.forth).lists (bit_and place 2047 + 1))
walk_of arena rs rs' links links' places f place first size same_records same_links is =
    let low : bit_and place 2047 ≤ 2047 = and_le_r place 2047 in
    let inside : bit_and place 2047 + 1 < length places = omega arith in
    subst (λ k. IsWalkable (after_of links') no_record k (length rs') ((f.forth).lists (bit_and place 2047 + 1)))
    (get_or_any places (bit_and place 2047 + 1) no_record first inside ∙ sym is)
    (subst (λ l. IsWalkable (after_of l) no_record (head_of places (bit_and place 2047 + 1)) (length rs')
    ((f.forth).lists (bit_and place 2047 + 1))) (sym same_links)
    (subst (λ l. IsWalkable (after_of links) no_record (head_of places (bit_and place 2047 + 1)) (length l)
    ((f.forth).lists (bit_and place 2047 + 1))) (sym same_records)
    (place_walk arena rs links places f place (bit_and place 2047 + 1))))
