-- A detached node may be linked under a list of its function: the list fits, and no linked node has the key.
use Rattle.std.proofs.Common.{◌≡◌, ℕ, ◌+◌, List, Some, None, refl, sym, ◌∙◌, ap, subst}
use Rattle.std.specs.List.{AllByRecursion}
use Rattle.std.specs.Option.{IsSome}
use Rattle.std.specs.FinMap.{get}
use Rattle.sd_laws.specs.Values.{Valuation, IsSame, pairs_value, IsWhole, IsPlaced, ShowsValue}
use Rattle.sd_laws.proofs.ByValues.{FitsBy, fits_by_values}
use Rattle.sd_laws.proofs.OneKey.{key_once}
use Rattle.std.proofs.lemmas.Option.{none-some}
use Rattle.sd_manager.specs.Table.{Table, key_at}
use Rattle.sd_manager.specs.Valid.{IsTable}
use Rattle.sd_manager.specs.Moving.{FitsNode, IsAbsent}
use Rattle.sd_manager.proofs.Reading.{linked_key, detached_key}
use Rattle.sd_move.specs.Moving.{Progress, MoveInProgress}

-- Inside a move the list fits the place, where its values make a compressed and trimmed partition of it and its codes
-- show their values.
pub may_fit : (m0 m : Table) (x : ℕ) (h : Progress) (v : Valuation) → IsTable m → MoveInProgress m0 m x h v → (p : ℕ)
    (l : List (ℕ × ℕ)) → IsWhole v l → IsPlaced m.vtree v p l →
    AllByRecursion (λ (e : ℕ × ℕ). ShowsValue m.vtree (get m.linked) v e.0
    × ShowsValue m.vtree (get m.linked) v e.1) l →
    FitsNode m p l
may_fit m0 m x h v i g p l whole placed codes =
    let f : FitsBy m.vtree (get m.linked) v p l =
    fits_by_values m.vtree i.numbered (get m.linked) v g.literals p l whole placed codes in
    record { diagrams = f.diagrams; partition = f.partition; differ = f.differ; untrimmed = f.untrimmed }

-- And no linked node has the key, where the list has the function of a detached node: who had it would be that node.
pub key_absent : (m0 m : Table) (x : ℕ) (h : Progress) (v : Valuation) → IsTable m → MoveInProgress m0 m x h v →
    (n p : ℕ) (k : ℕ × List (ℕ × ℕ)) (l : List (ℕ × ℕ)) → get m.detached n ≡ Some k →
    IsSame (v (2050 + n)) (pairs_value v l) → IsAbsent m p l
key_absent m0 m x h v i g n p k l detached same r e =
    let one : r ≡ n =
    key_once (key_at m) v g.apart g.value r n p l (linked_key m r (p, l) e)
    (subst IsSome (sym (detached_key m i n k detached)) refl) same in
    let none : get m.detached r ≡ None = i.either r (p, l) e in
    let there : get m.detached r ≡ Some k = ap (get m.detached) one ∙ detached in
    absurd (none-some k (sym none ∙ there))
