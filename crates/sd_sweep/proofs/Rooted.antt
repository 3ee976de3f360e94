-- The diagrams of the held roots, and what stands under them.
use Rattle.std.proofs.Common.{◌≡◌, ◌⊎◌, inl, inr, ℕ, ◌≤◌, List, [], ◌∷◌, Some, None}
use Rattle.std.proofs.Common.{refl, sym, ap, subst, ◌∙◌, arith}
use Rattle.std.proofs.lemmas.Bool.{cases_eq}
use Rattle.std.proofs.lemmas.List.Sums.{sum_by-cons}
use Rattle.std.specs.List.{AllZip, sum_by, flat_map}
use Rattle.std.specs.Ordering.{nat_cmp}
use Rattle.std.specs.FinMap.{FinMap, get, values}
use Rattle.sd_model.specs.Diagram.{Diagram}
use Rattle.sd_model.specs.Size.{walk}
use Rattle.sd_laws.proofs.Lists.{IsAmong, IsWithin}
use Rattle.sd_manager.specs.Table.{Table}
use Rattle.sd_manager.specs.Shown.{ShowsCanonical, IsNodeOf}
use Rattle.sd_manager.specs.Valid.{IsTable}
use Rattle.sd_manager.specs.Counting.{counts_one}
use Rattle.sd_manager.proofs.Counted.{counts_same, counts_other}
use Rattle.sd_sweep.specs.Reached.{AreHeldDiagrams}
use Rattle.sd_sweep.proofs.Below.{among_left, among_right, among_split, below_closed}
use Rattle.sd_sweep.proofs.Used.{sum_some}

-- the values of a map

-- a number in a list counts
pub among_sum : (c : ℕ) (xs : List ℕ) → IsAmong c xs → 1 ≤ sum_by (counts_one c) xs
among_sum c [] m = absurd m
among_sum c (x ∷ xs) (inl e) = omega (arith, sum_by-cons (counts_one c) x xs, counts_same c x (sym e))
among_sum c (x ∷ xs) (inr m) = omega (arith, sum_by-cons (counts_one c) x xs, among_sum c xs m)

-- and what counts is in it
pub sum_among : (c : ℕ) (xs : List ℕ) → 1 ≤ sum_by (counts_one c) xs → IsAmong c xs
sum_among c [] h = absurd (omega arith)
sum_among c (x ∷ xs) h = elim (cases_eq x c) [
  | inl e ↦ inl (sym e)
  | inr d ↦ inr (sum_among c xs (omega (arith, h, sum_by-cons (counts_one c) x xs, counts_other c x d)))
]

-- each value has a key
pub key_of_value : (m : FinMap nat_cmp ℕ) (c : ℕ) → IsAmong c (values m) → (k : ℕ) × (get m k ≡ Some c)
key_of_value m c h =
    let w = sum_some (counts_one c) m (among_sum c (values m) h) in
    elim (cases_eq w.1 c) [
      | inl e ↦ (w.0, w.2 ∙ ap Some e)
      | inr d ↦ absurd (omega (arith, w.3, counts_other c w.1 d))
    ]

-- what stands under several diagrams

pub flat_among : (ds : List Diagram) (x : Diagram) → IsAmong x (flat_map walk ds) →
    (d : Diagram) × IsAmong d ds × IsAmong x (walk d)
flat_among [] x m = absurd m
flat_among (d ∷ ds) x m = go (λ k. flat_among ds x k) (among_split x (walk d) (flat_map walk ds) m)
  where
    go : (IsAmong x (flat_map walk ds) → (e : Diagram) × IsAmong e ds × IsAmong x (walk e)) →
        IsAmong x (walk d) ⊎ IsAmong x (flat_map walk ds) → (e : Diagram) × IsAmong e (d ∷ ds) × IsAmong x (walk e)
    go f (inl k) = (d, inl refl, k)
    go f (inr k) = let r = f k in (r.0, inr r.1, r.2)

pub among_flat : (ds : List Diagram) (d : Diagram) → IsAmong d ds → IsWithin (walk d) (flat_map walk ds)
among_flat [] d m x k = absurd m
among_flat (e ∷ ds) d (inl same) x k =
    among_left x (walk e) (flat_map walk ds) (subst (λ z. IsAmong x (walk z)) same k)
among_flat (e ∷ ds) d (inr m) x k = among_right x (walk e) (flat_map walk ds) (among_flat ds d m x k)

-- all that stands under what is there is there
pub flat_closed : (ds : List Diagram) (d : Diagram) → IsAmong d (flat_map walk ds) →
    IsWithin (walk d) (flat_map walk ds)
flat_closed ds d m x w =
    let f = flat_among ds d m in among_flat ds f.0 f.1 x (below_closed f.0 d f.2 x w)

-- the diagrams of the held roots

-- codes of nodes show diagrams
pub shown_all : (t : Table) (cs : List ℕ) → ((c : ℕ) → IsAmong c cs → IsNodeOf t c) →
    (ds : List Diagram) × AllZip (ShowsCanonical t) cs ds
shown_all t [] h = ([], tt)
shown_all t (c ∷ cs) h =
    let k = h c (inl refl) in
    let r = shown_all t cs (λ b m. h b (inr m)) in (k.diagram ∷ r.0, (k.is, r.1))

-- so do the held ones outside a move
pub held_shown : (t : Table) → IsTable t → t.moving ≡ None → (ds : List Diagram) × AreHeldDiagrams t ds
held_shown t i still =
    shown_all t (values t.roots) (λ c m. let k = key_of_value t.roots c m in i.held still k.0 c k.1)
