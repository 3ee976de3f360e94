-- Outside a move: each linked node is shown, and stands strictly below those that have it in their lists.
use Rattle.std.proofs.Common.{◌≡◌, ◌≢◌, ℕ, ◌+◌, List, Option, Some, None, refl, sym, ◌∙◌, subst}
use Rattle.std.specs.Option.{IsSome}
use Rattle.std.specs.FinMap.{get}
use Rattle.std.proofs.lemmas.Option.{none-some}
use Rattle.sd_vtree.specs.Numbered.{IsUnder}
use Rattle.sd_laws.specs.Values.{StandsIn, AreOrderly}
use Rattle.sd_laws.proofs.Evaluated.{value_of}
use Rattle.sd_laws.proofs.Unturned.{IsShownNode, shown_orderly}
use Rattle.sd_laws.proofs.Users.{users_above}
use Rattle.sd_manager.specs.Table.{Table}
use Rattle.sd_manager.specs.Valid.{IsTable}

-- outside a move each linked node is shown
pub all_shown : (t : Table) → IsTable t → t.moving ≡ None → (n : ℕ) → IsSome (get t.linked n) →
    IsShownNode t.vtree (get t.linked) n
all_shown t i still n h = go (get t.linked n) refl h
  where
    go : (o : Option (ℕ × List (ℕ × ℕ))) → get t.linked n ≡ o → IsSome o → IsShownNode t.vtree (get t.linked) n
    go None e k = absurd (cc (k))
    go (Some key) e k =
        let w = i.canonical n key e (λ x f. absurd (none-some x (sym still ∙ f))) in
        record { diagram = w.diagram; is = w.is }

-- the nodes of a table, by their values
pub now_orderly : (t : Table) → IsTable t → AreOrderly t.vtree (get t.linked) (IsShownNode t.vtree (get t.linked))
    (value_of (get t.linked))
now_orderly t i = shown_orderly t.vtree i.numbered (get t.linked)

-- a node of a list of a node stands strictly below it
pub below_user : (t : Table) → (i : IsTable t) → t.moving ≡ None → (m n p q : ℕ) (l k : List (ℕ × ℕ)) →
    get t.linked m ≡ Some (p, l) → get t.linked n ≡ Some (q, k) → StandsIn (2050 + n) l → IsUnder t.vtree q p × (p ≢ q)
below_user t i still m n p q l k e f s =
    let o = now_orderly t i in
    let a = all_shown t i still m (subst IsSome (sym e) refl) in
    let b = all_shown t i still n (subst IsSome (sym f) refl) in
    users_above t.vtree i.numbered (value_of (get t.linked)) n p q l k (o.placed m p l a e) (o.whole n q k b f)
    (o.placed n q k b f) (o.value n q k b f) s
