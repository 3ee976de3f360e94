-- Tables that grow.
use Rattle.std.proofs.Common.{◌≡◌, ℕ, List, Option, Some, None, refl, sym, ap, subst, ◌∙◌, arith}
use Rattle.std.specs.Option.{IsSome}
use Rattle.std.specs.FinMap.{get}
use Rattle.sd_manager.specs.Table.{Table}
use Rattle.sd_manager.specs.Making.{Extends}

-- a table extends itself
pub extends_self : (t : Table) → Extends t t
extends_self t =
    record {
      vtree = refl;
      nodes = λ n k e. e;
      marks = λ n k e. refl;
      detached_marks = λ n k e. refl;
      fresh = λ n none some. let bad = subst IsSome none some in cc;
      detached = refl;
      loose = refl;
      roots = refl;
      epoch = refl;
      bound = refl;
      moving = refl;
      records = omega arith;
      extent = omega arith;
    }

-- one table after another
pub extends_on : (a b c : Table) → Extends a b → Extends b c → Extends a c
extends_on a b c h k =
    record {
      vtree = k.vtree ∙ h.vtree;
      nodes = λ n key e. k.nodes n key (h.nodes n key e);
      marks = λ n key e. k.marks n key (h.nodes n key e) ∙ h.marks n key e;
      detached_marks = λ n key e.
          k.detached_marks n key (ap (λ m. get m n) h.detached ∙ e) ∙ h.detached_marks n key e;
      fresh = λ n none some. fresh n none some (get b.linked n) refl;
      detached = k.detached ∙ h.detached;
      loose = k.loose ∙ h.loose;
      roots = k.roots ∙ h.roots;
      epoch = k.epoch ∙ h.epoch;
      bound = k.bound ∙ h.bound;
      moving = k.moving ∙ h.moving;
      records = omega (arith, h.records, k.records);
      extent = omega (arith, h.extent, k.extent);
    }
  where
    fresh : (n : ℕ) → get a.linked n ≡ None → IsSome (get c.linked n) → (o : Option (ℕ × List (ℕ × ℕ))) →
        get b.linked n ≡ o → get c.marks n ≡ Some 0
    fresh n none some None e = k.fresh n e some
    fresh n none some (Some key) e = k.marks n key e ∙ h.fresh n none (subst IsSome (sym e) refl)
