-- What holds of managers: the empty one, and one whose roots or uses changed.
use Rattle.std.proofs.Common.{◌≡◌, ℕ, ◌+◌, ◌^◌, ◌<◌}
use Rattle.std.proofs.Common.{List, length, map, Option, Some, None, refl, sym, ap, subst, ◌∙◌, arith}
use Rattle.std.specs.List.{sum_by}
use Rattle.std.specs.Ordering.{nat_cmp}
use Rattle.std.specs.FinMap.{FinMap, empty, get, get-empty, len, len-empty, values}
use Rattle.sd_runs.proofs.Maps.{no_entries}
use Rattle.sd_vtree.specs.Numbered.{Numbered, IsNumbered, or_else}
use Rattle.sd_unique.specs.Nodes.{Nodes, IsNodes}
use Rattle.sd_unique.specs.Inserting.{no_nodes}
use Rattle.sd_manager.specs.Table.{Table, no_table, key_at, uses_of}
use Rattle.sd_manager.specs.Shown.{IsNodeOf}
use Rattle.sd_manager.specs.Valid.{IsTable}
use Rattle.sd_manager.specs.Stored.{table_of, IsStored}
use Rattle.sd_manager.proofs.Reading.{shown_has_node}

-- nothing stands in the empty map
pub nothing : {X : Type 0} (n : ℕ) (x : X) → get (empty {X = X} {R = nat_cmp}) n ≡ Some x → ⊥
nothing n x e = let h : None ≡ Some x = sym (get-empty nat_cmp n) ∙ e in cc

-- a sum over no values
pub no_total : {X : Type 0} (f : X → ℕ) → sum_by f (values (empty {X = X} {R = nat_cmp})) ≡ 0
no_total {X} f = ap (λ es. sum_by f (map (λ e. e.1) es)) (no_entries X)

-- no node has a key in the table of no nodes
no_key : (v : Numbered) (bound n : ℕ) (k : ℕ × List (ℕ × ℕ)) → key_at (no_table v bound) n ≡ Some k → ⊥
no_key v bound n k e =
    let both : Option (ℕ × List (ℕ × ℕ)) → Option (ℕ × List (ℕ × ℕ)) = λ o. or_else o o in
    let none : None ≡ Some k = sym (ap both (get-empty nat_cmp n)) ∙ e in
    cc

-- the table of no nodes is valid
empty_valid : (v : Numbered) (bound : ℕ) → IsNumbered v → bound < 2 ^ 31 → IsTable (no_table v bound)
empty_valid v bound numbered small = record {
  numbered = numbered;
  keys = record {
    distinct = λ n m k e f. absurd (nothing n k e);
    ascending = λ n k e. absurd (nothing n k e);
  };
  canonical = λ n k e settled. absurd (nothing n k e);
  held = λ still root c e. absurd (nothing root c e);
  few_roots = omega (arith, len-empty nat_cmp ℕ);
  either = λ n k e. absurd (nothing n k e);
  at_rest = λ still. refl;
  within = λ n k e. absurd (no_key v bound n k e);
  several = λ n k e. absurd (no_key v bound n k e);
  marked = λ n k e. absurd (no_key v bound n k e);
  closed = λ n k e. absurd (no_key v bound n k e);
  closed_runs = λ start list e. absurd (nothing start list e);
  closed_roots = λ root c e. absurd (nothing root c e);
  several_runs = λ start list e. absurd (nothing start list e);
  total = omega (
    arith,
    no_total (λ (k : ℕ × List (ℕ × ℕ)). length k.1),
    no_total {X = List (ℕ × ℕ)} length,
  );
  records_fit = omega arith;
  bounded = omega arith;
  bound_fits = small;
}

-- so a manager of no nodes and no roots may be made
pub empty_stored : (v : Numbered) (bound : ℕ) (a : Nodes) (m : FinMap nat_cmp ℕ) → IsNumbered v → bound < 2 ^ 31 →
    IsNodes a → a ≡ no_nodes bound → m ≡ empty → IsStored a (table_of v a m 0 None)
empty_stored v bound a m numbered small valid none no_roots =
    subst (λ r. IsStored a (table_of v a r 0 None)) (sym no_roots)
    (subst (λ b. IsNodes b → IsStored b (table_of v b empty 0 None)) (sym none)
    (λ valid.
    record {
      table = empty_valid v bound numbered small;
      valid = valid;
      uses = λ n k e. absurd (no_key v bound n k e);
    }) valid)

-- what a code shows does not hang on the roots
known_again : (t : Table) (m : FinMap nat_cmp ℕ) (c : ℕ) → IsNodeOf t c → IsNodeOf (record t { roots = m }) c
known_again t m c h = record { diagram = h.diagram; is = h.is }

-- a table with other roots is valid
pub valid_roots : (t : Table) (m : FinMap nat_cmp ℕ) → IsTable t →
    ((root c : ℕ) → get m root ≡ Some c → IsNodeOf t c) → len m < 2 ^ 32 → IsTable (record t { roots = m })
valid_roots t m i held within_limit = record {
  numbered = i.numbered;
  keys = i.keys;
  canonical = λ n k e settled. known_again t m (2050 + n) (i.canonical n k e settled);
  held = λ still root c e. known_again t m c (held root c e);
  few_roots = within_limit;
  either = i.either;
  at_rest = i.at_rest;
  within = i.within;
  several = i.several;
  marked = i.marked;
  closed = i.closed;
  closed_runs = i.closed_runs;
  closed_roots = λ root c e. let k = held root c e in shown_has_node t i.numbered c k.diagram k.is.shows;
  several_runs = i.several_runs;
  total = i.total;
  records_fit = i.records_fit;
  bounded = i.bounded;
  bound_fits = i.bound_fits;
}

-- nodes of which only the uses changed stand for the same table
pub stored_with : (v : Numbered) (a b : Nodes) (m : FinMap nat_cmp ℕ) (e : ℕ) (g : Option ℕ) →
    b ≡ record a { uses = b.uses } → IsNodes b → IsTable (table_of v a m e g) →
    ((n : ℕ) (k : ℕ × List (ℕ × ℕ)) → key_at (table_of v a m e g) n ≡ Some k →
    get b.uses n ≡ Some (uses_of (table_of v a m e g) (2050 + n))) → IsStored b (table_of v b m e g)
stored_with v a b m e g rest valid i uses =
    let Good : Nodes → Type 0 = λ x. IsNodes x → ((n : ℕ) (k : ℕ × List (ℕ × ℕ)) →
    key_at (table_of v a m e g) n ≡ Some k → get x.uses n ≡ Some (uses_of (table_of v a m e g) (2050 + n))) →
    IsStored x (table_of v x m e g) in
    subst Good (sym rest) (λ valid uses. record { table = i; valid = valid; uses = uses }) valid uses

-- what a code shows in a table that is the same
pub known_inside : (t u : Table) (c d : ℕ) → t ≡ u → c ≡ d → IsNodeOf u d → IsNodeOf t c
known_inside t u c d same code h = subst (λ x. IsNodeOf x c) (sym same) (subst (IsNodeOf u) (sym code) h)
