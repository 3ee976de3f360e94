-- Worked rows of journals: what one goes back to, and which runs it spends.
use Rattle.std.proofs.Common.{◌≡◌, ℕ, List, [], ◌∷◌, Some, None, refl, ap}
use Rattle.std.specs.Option.{option_map}
use Rattle.std.specs.FinMap.{get}
use Rattle.sd_model.specs.declared.trees.Move.TheVariants.{RotateLeft, Swap}
use Rattle.sd_runs.proofs.Maps.{get_remove_same, get_remove_other}
use Rattle.sd_manager.specs.Table.{Table}
use Rattle.sd_move.specs.Journal.{Journal, back, starts_of, without_runs}

-- the journal of a swap at the node 1, which rewrote the node 0 and left its old run loose at 7
abbrev rewrote : Journal
rewrote =
    record { kind = Swap; upper = 1; lower = None; named = record { number = 0; place = 1; run = Some (7, 2) } ∷ [] }

-- the journal of a rotation that retagged the node 0 from the place 3
abbrev retagged : Journal
retagged =
    record { kind = RotateLeft; upper = 1; lower = Some 3; named = record { number = 0; place = 3; run = None } ∷ [] }

-- a rewritten node goes back to its run
run_back : (t : Table) → get t.loose 7 ≡ Some ((2, 4) ∷ (3, 0) ∷ []) →
    back rewrote t 0 ≡ Some (1, (2, 4) ∷ (3, 0) ∷ [])
run_back t e = ap (option_map (λ (list : List (ℕ × ℕ)). (1, list))) e

-- a retagged one to its place, with the list that it has
place_back : (t : Table) → get t.linked 0 ≡ Some (1, (4, 2) ∷ (5, 0) ∷ []) →
    back retagged t 0 ≡ Some (3, (4, 2) ∷ (5, 0) ∷ [])
place_back t e = ap (option_map (λ (k : ℕ × List (ℕ × ℕ)). (3, k.1))) e

-- one that is not named stays
other_stays : (t : Table) → back rewrote t 1 ≡ get t.linked 1
other_stays t = refl

-- the own run is spent
own_spent : (t : Table) → get (without_runs t.loose (starts_of rewrote.named)) 7 ≡ None
own_spent t = get_remove_same t.loose 7

-- and no other one
other_loose : (t : Table) → get (without_runs t.loose (starts_of rewrote.named)) 9 ≡ get t.loose 9
other_loose t = get_remove_other t.loose 7 9 (λ e. absurd (cc (e)))
