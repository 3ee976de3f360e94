-- The hashes that are kept, as nodes come and go.
use Rattle.std.proofs.Common.{◌≡◌, ◌≢◌, ℕ, suc, ◌+◌, ◌<◌, List, [], ◌∷◌, ◌++◌, length, get_or, None, Some}
use Rattle.std.proofs.Common.{take, drop, nat_lt, Bool, true, false}
use Rattle.std.proofs.Common.{refl, sym, ap, subst, ◌∙◌, arith}
use Rattle.std.proofs.Math.ListN.{set}
use Rattle.std.proofs.lemmas.Bool.{cases_eq, ltb-true, ltb-false}
use Rattle.std.proofs.lemmas.List.{length-set, length_push, get_or-set_same, get_or-set_other}
use Rattle.std.proofs.lemmas.List.{get_or_append_left, get_or_push}
use Rattle.std.specs.FinMap.{get, insert, remove, get-empty}
use Rattle.std.specs.Ordering.{nat_cmp}
use Rattle.sd_runs.specs.Arena.{Arena}
use Rattle.sd_runs.proofs.Maps.{get_insert_same, get_insert_other, get_remove_same, get_remove_other}
use Rattle.sd_runs.proofs.Places.{by_cases}
use Rattle.sd_unique.specs.declared.record.Record.{Record}
use Rattle.sd_unique.specs.Nodes.{Nodes, IsNodes, or_else}
use Rattle.sd_unique.specs.Inserting.{no_nodes}
use Rattle.sd_unique.specs.Record.{nodes_of}
use Rattle.sd_unique.specs.Relinking.{removed, unlinked}
use Rattle.sd_unique.specs.Retiring.{DropsCode, DropsCodes, HaveRetired, none_retired, one_more}
use Rattle.sd_unique.specs.Chains.{hash_of, AreHashed, KeepsRecords}
use Rattle.sd_unique.proofs.Reading.{whole_slice}
use Rattle.sd_unique.proofs.Relinked.{nodes_kept}

-- where no more nodes are linked
pub hashed_fewer : (hs : List ℕ) (old new : Nodes)
    → ((n : ℕ) (k : ℕ × List (ℕ × ℕ)) → get new.linked n ≡ Some k → get old.linked n ≡ Some k)
    → new.records ≡ old.records → AreHashed hs old → AreHashed hs new
hashed_fewer hs old new fewer records h =
    record { size = h.size ∙ sym records; linked = λ n k e. h.linked n k (fewer n k e) }

-- where the same nodes are linked
pub hashed_same : (hs : List ℕ) (old new : Nodes) → new.linked ≡ old.linked → new.records ≡ old.records
    → AreHashed hs old → AreHashed hs new
hashed_same hs old new linked records h =
    hashed_fewer hs old new (λ n k e. ap (λ m. get m n) (sym linked) ∙ e) records h

-- the same, from what a value showed before
pub hashed_seen : (hs : List ℕ) (inside old new : Nodes) → inside ≡ old → new.linked ≡ old.linked
    → new.records ≡ old.records → AreHashed hs inside → AreHashed hs new
hashed_seen hs inside old new view linked records h =
    hashed_same hs old new linked records (subst (AreHashed hs) view h)

-- where one was taken out
pub hashed_without : (hs : List ℕ) (old new : Nodes) (n : ℕ) → new.linked ≡ remove old.linked n
    → new.records ≡ old.records → AreHashed hs old → AreHashed hs new
hashed_without hs old new n linked records h = hashed_fewer hs old new fewer records h
  where
    fewer : (m : ℕ) (k : ℕ × List (ℕ × ℕ)) → get new.linked m ≡ Some k → get old.linked m ≡ Some k
    fewer m k e =
        let left : get (remove old.linked n) m ≡ Some k = ap (λ l. get l m) (sym linked) ∙ e in
        by_cases
        (λ same. let none : None ≡ Some k = sym (get_remove_same old.linked n)
        ∙ ap (get (remove old.linked n)) (sym same) ∙ left in absurd (cc))
        (λ ne. sym (get_remove_other old.linked n m ne) ∙ left)
        (cases_eq m n)

-- where one came, whose hash was written
pub hashed_new : (hs hs' : List ℕ) (old new : Nodes) (n : ℕ) (key : ℕ × List (ℕ × ℕ)) → get_or hs' n 0 ≡ hash_of key
    → ((m : ℕ) → m ≢ n → m < old.records → get_or hs' m 0 ≡ get_or hs m 0) → length hs' ≡ new.records
    → new.linked ≡ insert old.linked n key → IsNodes old → AreHashed hs old → AreHashed hs' new
hashed_new hs hs' old new n key here others size linked nodes h =
    record {
      size = size;
      linked = λ m k e.
          let there : get (insert old.linked n key) m ≡ Some k = ap (λ l. get l m) (sym linked) ∙ e in
          by_cases
          (λ same. let is : Some key ≡ Some k = sym (get_insert_same old.linked n key)
          ∙ ap (get (insert old.linked n key)) (sym same) ∙ there in
          let key_is : key ≡ k = cc in ap (λ i. get_or hs' i 0) same ∙ here ∙ ap hash_of key_is)
          (λ ne. let was : get old.linked m ≡ Some k = sym (get_insert_other old.linked n key m ne) ∙ there in
          others m ne (nodes.numbered m k (ap (λ o. or_else o (get old.detached m)) was)) ∙ h.linked m k was)
          (cases_eq m n);
    }

-- at a number that was there
pub hashed_put : (hs : List ℕ) (old new : Nodes) (n hash : ℕ) (key : ℕ × List (ℕ × ℕ)) → n < length hs
    → hash ≡ hash_of key → new.linked ≡ insert old.linked n key → new.records ≡ old.records → IsNodes old
    → AreHashed hs old → AreHashed (set hs n hash) new
hashed_put hs old new n hash key inside is linked records nodes h =
    hashed_new hs (set hs n hash) old new n key (get_or-set_same hs n hash 0 inside ∙ is)
    (λ m ne below. get_or-set_other hs n m hash 0 ne) (length-set hs n hash ∙ h.size ∙ sym records) linked nodes h

-- at a number behind them all
pub hashed_pushed : (hs : List ℕ) (old new : Nodes) (n hash : ℕ) (key : ℕ × List (ℕ × ℕ)) → n ≡ old.records
    → hash ≡ hash_of key → new.linked ≡ insert old.linked n key → new.records ≡ old.records + 1 → IsNodes old
    → AreHashed hs old → AreHashed (hs ++ hash ∷ []) new
hashed_pushed hs old new n hash key at is linked records nodes h =
    hashed_new hs (hs ++ hash ∷ []) old new n key
    (ap (λ i. get_or (hs ++ hash ∷ []) i 0) (at ∙ sym h.size) ∙ get_or_push hs hash 0 (length hs) refl ∙ is)
    (λ m ne below. get_or_append_left hs (hash ∷ []) 0 m (omega (arith, below, h.size)))
    (omega (arith, length_push hs hash, h.size, records)) linked nodes h

-- where the records are in other chains
pub hashed_kept : (arena : Arena) (rs ts : List Record) (hs : List ℕ) → KeepsRecords rs ts
    → AreHashed hs (nodes_of arena rs) → AreHashed hs (nodes_of arena ts)
hashed_kept arena rs ts hs keeps h = subst (AreHashed hs) (sym (nodes_kept rs ts keeps arena)) h

-- where no node is linked
pub hashed_none : (hs : List ℕ) (a : Nodes) (bound : ℕ) → hs ≡ [] → a ≡ no_nodes bound → AreHashed hs a
hashed_none hs a bound none is =
    record {
      size = ap length none ∙ sym (ap (λ b. b.records) is);
      linked = λ n k e. let bad : None ≡ Some k = sym (get-empty nat_cmp n) ∙ ap (λ b. get b.linked n) (sym is) ∙ e in
          absurd (cc);
    }

-- with the records that a slice wrote back
pub hashed_whole : (arena new : Arena) (rs rs' lent : List Record) (hs hs' : List ℕ) (size : ℕ) → lent ≡ rs'
    → length rs ≡ size → (AreHashed hs (nodes_of arena lent) → AreHashed hs' (nodes_of new rs))
    → AreHashed hs (nodes_of arena rs') → AreHashed hs' (nodes_of new (take size (rs ++ drop (length rs) rs')))
hashed_whole arena new rs rs' lent hs hs' size same len step h =
    subst (λ l. AreHashed hs' (nodes_of new l)) (sym (whole_slice rs rs' size len))
    (step (subst (λ l. AreHashed hs (nodes_of arena l)) (sym same) h))

-- a code that takes a use changes no key
drop_same : (first : ℕ) (old new : Nodes) (code : ℕ) → DropsCode first old new code
    → (new.linked ≡ old.linked) × (new.records ≡ old.records)
drop_same first old new code h = go (nat_lt code first) refl
  where
    go : (low : Bool) → nat_lt code first ≡ low → (new.linked ≡ old.linked) × (new.records ≡ old.records)
    go true low = let is = h.none (ltb-true code first low) in (ap (λ a. a.linked) is, ap (λ a. a.records) is)
    go false high = let is = h.node (ltb-false code first high) in (ap (λ a. a.linked) is, ap (λ a. a.records) is)

drops_same : (first : ℕ) (list : List (ℕ × ℕ)) (old new : Nodes) → DropsCodes first old new list
    → (new.linked ≡ old.linked) × (new.records ≡ old.records)
drops_same first [] old new h = (ap (λ a. a.linked) h, ap (λ a. a.records) h)
drops_same first (e ∷ list) old new h =
    let one = drop_same first old h.0 e.0 h.2 in
    let other = drop_same first h.0 h.1 e.1 h.3 in
    let rest = drops_same first list h.1 new h.4 in (rest.0 ∙ other.0 ∙ one.0, rest.1 ∙ other.1 ∙ one.1)

-- where some were taken away, one after the other
pub hashed_retired : (hs : List ℕ) (first : ℕ) (old new : Nodes) (count : ℕ) → HaveRetired first old new count
    → AreHashed hs old → AreHashed hs new
hashed_retired hs first old new count none_retired h = h
hashed_retired hs first old new (suc _) (one_more {a = a} {n = n} {count = count} {key = key} have has) h =
    let same = drops_same first key.1 (removed (unlinked a n key) n key.1) new has.drops in
    hashed_without hs a new n same.0 same.1 (hashed_retired hs first old a count have h)
