-- Linked nodes without uses, and the stack of candidates.
use Rattle.std.proofs.Common.{◌≡◌, Bool, ℕ, List, slice_get, Some, refl, sym, ap, subst, ◌∙◌}
use Rattle.std.specs.Option.{option_and_then, IsSome}
use Rattle.sd_runs.specs.Arena.{Arena}
use Rattle.sd_unique.specs.declared.record.Record.{Record}
use Rattle.sd_unique.specs.declared.record.RecordState.TheVariants.{Linked}
use Rattle.sd_unique.specs.Record.{if_linked, key_of, linked_key, uses_of_record, nodes_of}
use Rattle.sd_unique.specs.Relinking.{IsIdle}
use Rattle.sd_unique.specs.Candidates.{Waits}
use Rattle.sd_unique.specs.Chains.{IsUnused}
use Rattle.sd_unique.proofs.Numbered.{linked_at, linked_there, uses_in_at, node_some}
use Rattle.sd_unique.proofs.Taken.{linked_state}

-- the record of a linked node without uses
pub idle_some : (arena : Arena) (rs : List Record) (n : ℕ) (r : Record) → slice_get rs n ≡ Some r → IsUnused r
    → IsIdle (nodes_of arena rs) n
idle_some arena rs n r there u =
    record {
      linked = subst IsSome (sym (linked_at arena rs n
          ∙ ap (option_and_then (λ (x : Record). linked_key arena x)) there
          ∙ ap (λ s. if_linked s (key_of arena r)) u.linked)) refl;
      unused = uses_in_at arena rs n ∙ ap (option_and_then (λ (x : Record). uses_of_record x)) there
          ∙ node_some r.state r.uses (linked_state r.state u.linked) ∙ ap Some u.none;
    }

idle_record : (arena : Arena) (rs : List Record) (n : ℕ) → IsIdle (nodes_of arena rs) n
    → (r : Record) × (slice_get rs n ≡ Some r) × (r.state ≡ Linked) × (r.uses ≡ 0)
idle_record arena rs n idle =
    let r = linked_there arena rs n idle.linked in
    let uses : Some (r.0).uses ≡ Some 0 =
    sym (uses_in_at arena rs n ∙ ap (option_and_then (λ (x : Record). uses_of_record x)) r.1
    ∙ node_some (r.0).state (r.0).uses (linked_state (r.0).state r.2)) ∙ idle.unused in
    let none : (r.0).uses ≡ 0 = cc in
    (r.0, r.1, r.2, none)

-- where the stack is empty, and has all linked nodes without uses, there is none
pub idle_none : (arena : Arena) (rs : List Record) (flags : List Bool)
    → ((n : ℕ) (r : Record) → slice_get rs n ≡ Some r → IsUnused r → Waits flags n) → ((n : ℕ) → ¬ Waits flags n)
    → (n : ℕ) → ¬ IsIdle (nodes_of arena rs) n
idle_none arena rs flags queued empty n idle =
    let r = idle_record arena rs n idle in
    empty n (queued n r.0 r.1 (record { linked = r.2; none = r.3 }))
