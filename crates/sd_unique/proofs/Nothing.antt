-- No nodes: what holds of new fields, and the nodes that they stand for.
use Rattle.std.proofs.Common.{◌≡◌, Bool, true, ℕ, ◌<◌, ◌^◌, List, [], length, map, replicate, sym, ap, subst, ◌∙◌}
use Rattle.std.proofs.Common.{arith}
use Rattle.std.proofs.lemmas.List.{length-replicate}
use Rattle.std.specs.FinMap.{empty, from_entries}
use Rattle.sd_runs.specs.Arena.{Arena, IsArena}
use Rattle.sd_runs.specs.Taking.{empty_arena}
use Rattle.sd_runs.proofs.Maps.{no_entries}
use Rattle.sd_unique.specs.declared.record.Record.{Record}
use Rattle.sd_unique.specs.declared.record.Links.{Links}
use Rattle.sd_unique.specs.Inserting.{no_nodes}
use Rattle.sd_unique.specs.Record.{nodes_of}
use Rattle.sd_unique.specs.Chains.{HoldsNodes, no_record}
use Rattle.sd_unique.proofs.Empty.{kept_nothing}
use Rattle.sd_unique.proofs.Growing.{no_heads}
use Rattle.sd_unique.proofs.Occupied.{kept_fields}
use Rattle.sd_unique.proofs.Rechained.{kept_tables}

-- no records stand for no nodes
nodes_of_nothing : (bound : ℕ) → nodes_of (empty_arena bound) [] ≡ no_nodes bound
nodes_of_nothing bound i =
    record {
      linked = empty;
      detached = empty;
      loose = empty;
      uses = empty;
      marks = empty;
      free = from_entries (map (λ (e : ℕ × List ℕ). (e.0, length e.1)) (no_entries (List ℕ) i));
      records = 0;
      extent = 0;
      bound = bound;
    }

module _ (arena : Arena) (bound : ℕ) (rs : List Record) (is : arena ≡ empty_arena bound) (none : rs ≡ []) where
  pub nodes_new : nodes_of arena rs ≡ no_nodes bound
  nodes_new = ap (λ a. nodes_of a rs) is ∙ ap (nodes_of (empty_arena bound)) none ∙ nodes_of_nothing bound

  pub kept_new : (links : List Links) (heads places : List ℕ) (flags : List Bool) (buckets : ℕ)
      → IsArena arena → bound < 2 ^ 31 → links ≡ []
      → heads ≡ replicate buckets no_record → places ≡ [] → flags ≡ [] → 1 < buckets
      → HoldsNodes true arena rs links heads places flags
  kept_new links heads places flags buckets well fits no_links no_chains no_lists no_flags some =
      subst (HoldsNodes true arena rs links heads places) (sym no_flags)
      (kept_tables arena [] rs links (replicate buckets no_record) heads places [] none no_chains
      (kept_fields arena [] [] links (replicate buckets no_record) [] places []
      no_links no_lists
      (kept_nothing arena (replicate buckets no_record) well
      (subst (λ b. b < 2 ^ 31) (sym (ap (λ a. a.bound) is)) fits)
      (omega (arith, some, length-replicate buckets no_record)) (no_heads buckets))))
