-- A move begins, and it ends: what is valid, and that the uses are counted.
use Rattle.std.proofs.Common.{◌≡◌, inl, inr, ℕ, ◌+◌, ◌-◌, List, Option, Some, None, refl, sym, ap, subst, ◌∙◌, arith}
use Rattle.std.specs.Option.{IsSome}
use Rattle.std.specs.Ordering.{nat_cmp}
use Rattle.std.specs.FinMap.{FinMap, empty, get, get-empty}
use Rattle.sd_vtree.specs.Numbered.{Numbered, or_else}
use Rattle.sd_unique.specs.Nodes.{Nodes}
use Rattle.sd_laws.proofs.Evaluated.{value_of, literals_given}
use Rattle.sd_laws.proofs.ByValues.{base_shown}
use Rattle.sd_manager.specs.Table.{Table, key_at}
use Rattle.sd_manager.specs.Shown.{IsNodeOf, HasNode}
use Rattle.sd_manager.specs.Valid.{IsTable}
use Rattle.sd_manager.specs.Moving.{moving_at, at_rest}
use Rattle.sd_manager.specs.Stored.{table_of, IsStored}

-- the begin

-- what a code shows does not hang on a move
known_begun : (t : Table) (x c : ℕ) → IsNodeOf t c → IsNodeOf (moving_at t x) c
known_begun t x c h = record { diagram = h.diagram; is = h.is }

-- a table at rest is valid at the begin of a move
begun_table : (t : Table) (x : ℕ) → t.moving ≡ None → IsTable t → IsTable (moving_at t x)
begun_table t x still i = record {
  numbered = i.numbered;
  keys = i.keys;
  canonical = λ n k there settled.
      known_begun t x (2050 + n) (i.canonical n k there (λ y at. let bad : None ≡ Some y = sym still ∙ at in cc));
  held = λ none. let bad : Some x ≡ None = none in cc;
  few_roots = i.few_roots;
  either = i.either;
  at_rest = λ none. let bad : Some x ≡ None = none in cc;
  within = i.within;
  several = i.several;
  marked = i.marked;
  closed = i.closed;
  closed_runs = i.closed_runs;
  closed_roots = i.closed_roots;
  several_runs = i.several_runs;
  total = i.total;
  records_fit = i.records_fit;
  bounded = i.bounded;
  bound_fits = i.bound_fits;
}

-- and its uses are counted as before
pub begun_stored : (v : Numbered) (a : Nodes) (m : FinMap nat_cmp ℕ) (e : ℕ) (g : Option ℕ) (x : ℕ) →
    IsStored a (table_of v a m e g) → g ≡ None → IsStored a (table_of v a m e (Some x))
begun_stored v a m e g x stored still = record {
  table = begun_table (table_of v a m e g) x still stored.table;
  valid = stored.valid;
  uses = stored.uses;
}

-- the end

module _ (t : Table) (i : IsTable t) (none_detached : t.detached ≡ empty)
    (known : (n : ℕ) → IsSome (get t.linked n) → IsNodeOf t (2050 + n)) where
  -- what a code shows stays
  known_ended : (c : ℕ) → IsNodeOf t c → IsNodeOf (at_rest t) c
  known_ended c h = record { diagram = h.diagram; is = h.is }

  -- where nothing is detached each code that is there shows a canonical diagram
  all_known : (c : ℕ) → HasNode t c → IsNodeOf t c
  all_known c (inl low) =
      let h = base_shown t.vtree i.numbered (get t.linked) (value_of (get t.linked)) (literals_given (get t.linked)) c
      low in
      record { diagram = h.diagram; is = h.is }
  all_known c (inr h) =
      let back : 2050 + (c - 2050) ≡ c = omega (arith, h.0) in
      subst (IsNodeOf t) back (known (c - 2050) (linked (get t.linked (c - 2050)) refl h.1))
    where
      linked : (o : Option (ℕ × List (ℕ × ℕ))) → get t.linked (c - 2050) ≡ o → IsSome (key_at t (c - 2050)) →
          IsSome (get t.linked (c - 2050))
      linked (Some k) e some = subst IsSome (sym e) refl
      linked None e some =
          let none : key_at t (c - 2050) ≡ None =
          ap (λ o. or_else o (get t.detached (c - 2050))) e ∙ ap (λ m. get m (c - 2050)) none_detached
          ∙ get-empty nat_cmp (c - 2050) in
          let bad = subst IsSome none some in
          cc

  -- the table is valid at rest
  ended_table : IsTable (at_rest t)
  ended_table = record {
    numbered = i.numbered;
    keys = i.keys;
    canonical = λ n k there settled. known_ended (2050 + n) (known n (subst IsSome (sym there) refl));
    held = λ still root c there. known_ended c (all_known c (i.closed_roots root c there));
    few_roots = i.few_roots;
    either = i.either;
    at_rest = λ still. none_detached;
    within = i.within;
    several = i.several;
    marked = i.marked;
    closed = i.closed;
    closed_runs = i.closed_runs;
    closed_roots = i.closed_roots;
    several_runs = i.several_runs;
    total = i.total;
    records_fit = i.records_fit;
    bounded = i.bounded;
    bound_fits = i.bound_fits;
  }

-- and its uses are counted as before
ended_stored : (v : Numbered) (a : Nodes) (m : FinMap nat_cmp ℕ) (e : ℕ) (g : Option ℕ) →
    IsStored a (table_of v a m e g) → a.detached ≡ empty →
    ((n : ℕ) → IsSome (get a.linked n) → IsNodeOf (table_of v a m e g) (2050 + n)) →
    IsStored a (table_of v a m e None)
ended_stored v a m e g stored none_detached known = record {
  table = ended_table (table_of v a m e g) stored.table none_detached known;
  valid = stored.valid;
  uses = stored.uses;
}

-- the same, asked of a table that is the one of the parts
pub ended_of : (v : Numbered) (a : Nodes) (m : FinMap nat_cmp ℕ) (e : ℕ) (g : Option ℕ) (t : Table) →
    IsStored a (table_of v a m e g) → table_of v a m e g ≡ t → t.detached ≡ empty →
    ((n : ℕ) → IsSome (get t.linked n) → IsNodeOf t (2050 + n)) → IsStored a (table_of v a m e None)
ended_of v a m e g t stored same =
    subst
    (λ t. t.detached ≡ empty → ((n : ℕ) → IsSome (get t.linked n) → IsNodeOf t (2050 + n)) →
    IsStored a (table_of v a m e None)) same
    (λ none_detached known. ended_stored v a m e g stored none_detached known)
