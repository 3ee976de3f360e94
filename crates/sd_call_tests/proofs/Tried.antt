-- What tests join are nodes of the manager.
use Rattle.std.proofs.Common.{◌≡◌, ℕ, ◌+◌, ◌-◌, ◌^◌, ◌<◌, ◌≤◌, Bool}
use Rattle.std.proofs.Common.{true, false, cond, refl, sym, ap, ◌∙◌, subst, arith}
use Rattle.std.proofs.lemmas.Cmp.{nat_cmp_total}
use Rattle.std.specs.Option.{IsSome}
use Rattle.std.specs.FinMap.{get, len, len-insert, contains_key}
use Rattle.sd_runs.proofs.Maps.{get_insert_same}
use Rattle.sd_model.specs.declared.trees.Operation.{Operation}
use Rattle.sd_manager.specs.Table.{Table}
use Rattle.sd_manager.specs.Shown.{IsNodeOf}
use Rattle.sd_manager.specs.Making.{Extends, with_root}
use Rattle.sd_apply.specs.Answers.{Combines}
use Rattle.sd_apply.proofs.Listed.{shown_on}

-- a node stays one
pub node_on : (old new : Table) → Extends old new → (c : ℕ) → IsNodeOf old c → IsNodeOf new c
node_on old new kept c k = record { diagram = k.diagram; is = shown_on old new kept c k.diagram k.is }

-- the answer of a connective is one
pub combined_node : (old new : Table) (o : Operation) (a b r : ℕ) → IsNodeOf old a → IsNodeOf old b →
    Combines old new o a b r → IsNodeOf new r
combined_node old new o a b r x y h =
    let k = h.each x.diagram y.diagram x.is y.is in record { diagram = k.diagram; is = k.is }

-- the root is held
pub tried_held : (t u : Table) (root c : ℕ) → u ≡ with_root t root c → IsSome (get u.roots root)
tried_held t u root c held =
    subst IsSome (sym (ap (λ (w : Table). get w.roots root) held ∙ get_insert_same t.roots root c)) refl

-- one root more is few
pub tried_room : (t u : Table) (root c : ℕ) → u ≡ with_root t root c → len t.roots ≡ 0 → len u.roots < 2 ^ 32 - 1
tried_room t u root c held none =
    omega (
      arith,
      ap (λ (w : Table). len w.roots) held,
      len-insert nat_cmp_total t.roots root c,
      one
          (contains_key t.roots root),
    )
  where
    one : (b : Bool) → cond b (len t.roots) (len t.roots + 1) ≤ 1
    one true = omega (arith, none)
    one false = omega (arith, none)
