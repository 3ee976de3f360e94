-- Nodes of gates: one more that is kept, and a later table.
use Rattle.std.proofs.Common.{◌≡◌, ◌≢◌, ◌⊎◌, ℕ, zero, suc, ◌*◌, ◌<◌, ◌≤◌, Bool, true, false, List, [], ◌∷◌}
use Rattle.std.proofs.Common.{length, get_or, slice_set, replicate, Some, None, refl, sym, ◌∙◌, ap, subst, arith}
use Rattle.std.proofs.Common.{inl, inr}
use Rattle.std.specs.Prelude.{Option}
use Rattle.std.specs.Option.{IsSome}
use Rattle.std.proofs.lemmas.Bool.{cases_eq}
use Rattle.std.proofs.lemmas.List.{get_or-set_same, get_or-set_other, length-set}
use Rattle.sd_manager.specs.Table.{Table}
use Rattle.sd_manager.specs.Making.{Extends}
use Rattle.sd_manager.specs.Moving.{IsLater}
use Rattle.sd_laws.specs.Shown.{ShowsCanonical as ShowsBy}
use Rattle.std.specs.FinMap.{get}
use Rattle.sd_apply.specs.Answers.{HasAnswer}
use Rattle.sd_apply.specs.Serving.{last_epoch}
use Rattle.sd_circuit.specs.Circuits.{OrderedCircuit, IsWireWithin, gate_values, signed_value}
use Rattle.sd_circuit.specs.declared.wire.Wire.{Wire}
use Rattle.sd_circuit.specs.declared.wire.Wire.TheVariants.{Constant, Input, Gate}
use Rattle.sd_sweep.specs.Reached.{IsSwept, HasUnreached}
use Rattle.sd_compile.specs.Compiling.{MaySweep}
use Rattle.sd_compile.proofs.Joining.{answer_on, answer_same}
use Rattle.sd_gates.specs.declared.sharing.GateNodes.{GateNodes}
use Rattle.sd_gates.specs.Sharing.{wire_function, place_of, node_at, AreShared, Shares}
use Rattle.sd_gates.specs.Making.{AreCurrent, blanks, either_at, either_of, with_wire}

-- ---- places

-- two places are one only of one gate and one sign
same_place : (g h : ℕ) (p q : Bool) → place_of g p ≡ place_of h q → (g ≡ h) × (p ≡ q)
same_place g h true true e = (omega (arith, e), refl)
same_place g h false false e = (omega (arith, e), refl)
same_place g h true false e = absurd (omega (arith, e))
same_place g h false true e = absurd (omega (arith, e))

-- a place of a gate is below twice the number of gates
pub place_inside : (g n : ℕ) (p : Bool) → g < n → place_of g p < 2 * n
place_inside g n true h = omega (arith, h)
place_inside g n false h = omega (arith, h)

-- what is kept stands there
pub put_there : (nodes : List (Option ℕ)) (g n : ℕ) (p : Bool) → place_of g p < length nodes
    → node_at (slice_set nodes (place_of g p) (Some n)) g p ≡ Some n
put_there nodes g n p h = get_or-set_same nodes (place_of g p) (Some n) None h

-- and what stood elsewhere stays
pub put_elsewhere : (nodes : List (Option ℕ)) (g n h : ℕ) (p q : Bool) → place_of h q ≢ place_of g p
    → node_at (slice_set nodes (place_of g p) (Some n)) h q ≡ node_at nodes h q
put_elsewhere nodes g n h p q ne = get_or-set_other nodes (place_of g p) (place_of h q) (Some n) None ne

-- a gate has a node once one is kept for it or for its negation
either_some : (o q : Option ℕ) (n : ℕ) → ((o ≡ Some n) ⊎ (q ≡ Some n)) → IsSome (either_of o q)
either_some (Some m) q n h = refl
either_some None q n (inl e) = cc
either_some None q n (inr e) = rw e refl

pub put_known : (nodes : List (Option ℕ)) (g n : ℕ) (p : Bool) → place_of g p < length nodes
    → IsSome (either_at (slice_set nodes (place_of g p) (Some n)) g)
put_known nodes g n true h = either_some _ _ n (inl (put_there nodes g n true h))
put_known nodes g n false h = either_some _ _ n (inr (put_there nodes g n false h))

-- and other gates have what they had
pub put_other : (nodes : List (Option ℕ)) (g n h : ℕ) (p : Bool) → h ≢ g
    → either_at (slice_set nodes (place_of g p) (Some n)) h ≡ either_at nodes h
put_other nodes g n h p ne =
    rw (
      put_elsewhere nodes g n h p true (λ e. ne (same_place h g true p e).0),
      put_elsewhere nodes g n h p false (λ e. ne (same_place h g false p e).0),
    ) refl

-- where neither has a node, none stands at either place
either_none : (o q : Option ℕ) → either_of o q ≡ None → (o ≡ None) × (q ≡ None)
either_none (Some m) q e = absurd cc
either_none None q e = (refl, e)

pub none_at : (nodes : List (Option ℕ)) (g : ℕ) (p : Bool) → either_at nodes g ≡ None → node_at nodes g p ≡ None
none_at nodes g true e = (either_none (node_at nodes g true) (node_at nodes g false) e).0
none_at nodes g false e = (either_none (node_at nodes g true) (node_at nodes g false) e).1

-- ---- blanks

blanks_less : (nodes : List (Option ℕ)) (i n : ℕ) → i < length nodes → get_or nodes i None ≡ None
    → blanks (slice_set nodes i (Some n)) < blanks nodes
blanks_less [] i n h e = absurd (omega (arith, h))
blanks_less (None ∷ nodes) zero n h e = omega arith
blanks_less (Some m ∷ nodes) zero n h e = absurd cc
blanks_less (None ∷ nodes) (suc i) n h e =
    let k = blanks_less nodes i n (omega (arith, h)) e in omega (arith, k)
blanks_less (Some m ∷ nodes) (suc i) n h e = blanks_less nodes i n (omega (arith, h)) e

-- a gate that had no node has one, so there are fewer blanks
pub gate_fewer : (nodes : List (Option ℕ)) (g n : ℕ) (p : Bool) → place_of g p < length nodes
    → either_at nodes g ≡ None → blanks (slice_set nodes (place_of g p) (Some n)) < blanks nodes
gate_fewer nodes g n p h e = blanks_less nodes (place_of g p) n h (none_at nodes g p e)

-- ---- what is shared

-- one more node
shared_put : (c : OrderedCircuit) (nodes : List (Option ℕ)) (t : Table) (g n : ℕ) (p : Bool)
    → AreShared c nodes t → place_of g p < length nodes → HasAnswer t (wire_function c (Gate g p)) n
    → AreShared c (slice_set nodes (place_of g p) (Some n)) t
shared_put c nodes t g n p shared inside answer h node q e = go (cases_eq (place_of h q) (place_of g p))
  where
    some_same : (x y : ℕ) → Some x ≡ Some y → x ≡ y
    some_same x y e = cc

    go : ((place_of h q ≡ place_of g p) ⊎ (place_of h q ≢ place_of g p))
        → HasAnswer t (wire_function c (Gate h q)) node
    go (inl same) =
        let both = same_place h g q p same in
        let is : n ≡ node = some_same n node (sym (put_there nodes g n p inside)
        ∙ ap (λ i. get_or (slice_set nodes (place_of g p) (Some n)) i None) (sym same) ∙ e) in
        subst (λ m. HasAnswer t (wire_function c (Gate h q)) m) is
        (subst (λ b. HasAnswer t (wire_function c (Gate h b)) n) (sym both.1)
        (subst (λ k. HasAnswer t (wire_function c (Gate k p)) n) (sym both.0) answer))
    go (inr other) = shared h node q (sym (put_elsewhere nodes g n h p q other) ∙ e)

-- a later table
pub shared_on : (c : OrderedCircuit) (nodes : List (Option ℕ)) (old new : Table) → Extends old new
    → AreShared c nodes old → AreShared c nodes new
shared_on c nodes old new kept shared g node p e =
    answer_on old new (wire_function c (Gate g p)) node kept (shared g node p e)

-- the table is ready for each later table
pub ready_on : (c : OrderedCircuit) (gates : GateNodes) (old new : Table) → Extends old new → AreCurrent c gates old
    → AreCurrent c gates new
ready_on c gates old new kept ready = record {
  epoch = ready.epoch ∙ ap Some (sym kept.epoch);
  size = ready.size;
  shared = shared_on c gates.nodes.items old new kept ready.shared;
}

-- and with the same nodes
ready_same : (c : OrderedCircuit) (before after : GateNodes) (t : Table) → AreCurrent c before t
    → after.nodes.items ≡ before.nodes.items → after.epoch ≡ before.epoch → AreCurrent c after t
ready_same c before after t ready nodes epoch = record {
  epoch = epoch ∙ ready.epoch;
  size = ap length nodes ∙ ready.size;
  shared = subst (λ l. AreShared c l t) (sym nodes) ready.shared;
}

-- and with one more node
pub ready_put : (c : OrderedCircuit) (before after : GateNodes) (t : Table) (g n : ℕ) (p : Bool) → AreCurrent c before t
    → g < length c.order → HasAnswer t (wire_function c (Gate g p)) n
    → after.nodes.items ≡ slice_set before.nodes.items (place_of g p) (Some n) → after.epoch ≡ before.epoch
    → AreCurrent c after t
ready_put c before after t g n p ready h answer nodes epoch =
    let inside : place_of g p < length before.nodes.items = rw ready.size (place_inside g (length c.order) p h) in
    record {
      epoch = epoch ∙ ready.epoch;
      size = ap length nodes ∙ length-set before.nodes.items (place_of g p) (Some n) ∙ ready.size;
      shared = subst (λ l. AreShared c l t) (sym nodes)
          (shared_put c before.nodes.items t g n p ready.shared inside answer);
    }

-- and with that of a wire
pub ready_kept : (c : OrderedCircuit) (before after : GateNodes) (t : Table) (wire : Wire) (n : ℕ)
    → AreCurrent c before t → IsWireWithin c (length c.order) wire → HasAnswer t (wire_function c wire) n
    → after.nodes.items ≡ with_wire before.nodes.items wire n → after.epoch ≡ before.epoch → AreCurrent c after t
ready_kept c before after t (Constant value) n ready h answer nodes epoch =
    ready_same c before after t ready nodes epoch
ready_kept c before after t (Input x p) n ready h answer nodes epoch = ready_same c before after t ready nodes epoch
ready_kept c before after t (Gate g p) n ready h answer nodes epoch =
    ready_put c before after t g n p ready h answer nodes epoch

-- ---- signs

-- a sign before a sign
signed_twice : (s p v : Bool) → signed_value (signed_value s p) v ≡ signed_value s (signed_value p v)
signed_twice true p v = refl
signed_twice false true v = refl
signed_twice false false true = refl
signed_twice false false false = refl

-- what stands for a gate or for its negation stands for each of both by a sign
pub signed_shared : (c : OrderedCircuit) (nodes : List (Option ℕ)) (t : Table) → AreShared c nodes t → (g node : ℕ)
    (s p : Bool) → node_at nodes g (signed_value s p) ≡ Some node
    → HasAnswer t (λ a. signed_value s (wire_function c (Gate g p) a)) node
signed_shared c nodes t shared g node s p e =
    answer_same t (wire_function c (Gate g (signed_value s p))) (λ a. signed_value s (wire_function c (Gate g p) a))
    node (λ a. signed_twice s p (get_or (gate_values c a) g false)) (shared g node (signed_value s p) e)

-- what is ready is shared
pub ready_shares : (c : OrderedCircuit) (gates : GateNodes) (t : Table) → AreCurrent c gates t → Shares c gates t
ready_shares c gates t ready = record {
  early = λ e h. go e (sym ready.epoch ∙ h);
  right = λ n h. ready.shared;
}
  where
    go : (e : ℕ) → Some t.epoch ≡ Some e → e ≤ t.epoch
    go e h = let k : t.epoch ≡ e = cc in omega (arith, k)

-- no nodes are there at first
blank_at : (n i : ℕ) → get_or {A = Option ℕ} (replicate n None) i None ≡ None
blank_at zero i = refl
blank_at (suc n) zero = refl
blank_at (suc n) (suc i) = blank_at n i

pub none_shared : (c : OrderedCircuit) (n : ℕ) (t : Table) → AreShared c (replicate n None) t
none_shared c n t g node p e = absurd (go _ (blank_at n (place_of g p)) e)
  where
    go : (o : Option ℕ) → o ≡ None → o ≡ Some node → ⊥
    go o is too = cc

-- ---- for crates above: how what is shared comes through a change of the manager

-- what is right in the one table is so in the other one
shares_while : (c : OrderedCircuit) (gates : GateNodes) (old new : Table) → new.epoch ≡ old.epoch
    → (AreShared c gates.nodes.items old → AreShared c gates.nodes.items new) → Shares c gates old → Shares c gates new
shares_while c gates old new same still h = record {
  early = λ e is. let k = h.early e is in omega (arith, k, same);
  right = λ n is. still (h.right (λ q. n (same ∙ q)) (is ∙ ap Some same));
}

-- a larger table
pub shares_on : (c : OrderedCircuit) (gates : GateNodes) (old new : Table) → Extends old new → Shares c gates old
    → Shares c gates new
shares_on c gates old new kept h =
    shares_while c gates old new kept.epoch (shared_on c gates.nodes.items old new kept) h

-- a table with the same nodes, whatever the roots hold
pub shared_beside : (c : OrderedCircuit) (nodes : List (Option ℕ)) (old new : Table) → new.vtree ≡ old.vtree
    → new.linked ≡ old.linked → AreShared c nodes old → AreShared c nodes new
shared_beside c nodes old new tree linked shared g node p e =
    let k = shared g node p e in record {
      diagram = k.diagram;
      is = subst (λ v. ShowsBy v (get new.linked) node k.diagram) (sym tree)
          (subst (λ l. ShowsBy old.vtree (get l) node k.diagram) (sym linked) k.is);
      value = k.value;
    }

pub shares_beside : (c : OrderedCircuit) (gates : GateNodes) (old new : Table) → new.vtree ≡ old.vtree
    → new.linked ≡ old.linked → new.epoch ≡ old.epoch → Shares c gates old → Shares c gates new
shares_beside c gates old new tree linked same h =
    shares_while c gates old new same (shared_beside c gates.nodes.items old new tree linked) h

-- at a later epoch none of the nodes is used
pub shares_past : (c : OrderedCircuit) (gates : GateNodes) (old new : Table) → old.epoch ≤ last_epoch
    → IsLater old new → Shares c gates old → Shares c gates new
shares_past c gates old new last (inl less) h = record {
  early = λ e is. let k = h.early e is in omega (arith, k, less);
  right = λ n is. absurd (omega (arith, h.early new.epoch is, less));
}
shares_past c gates old new last (inr is) h = record {
  early = λ e has. let k = h.early e has in omega (arith, k, last, is);
  right = λ n has. absurd (n is);
}

-- behind a sweep
pub shares_swept : (c : OrderedCircuit) (gates : GateNodes) (old new : Table) → old.epoch ≤ last_epoch
    → IsSwept old new → Shares c gates old → Shares c gates new
shares_swept c gates old new last s h = go s.changed
  where
    go : (new ≡ old) ⊎ (IsLater old new × HasUnreached old) → Shares c gates new
    go (inl same) = subst (Shares c gates) (sym same) h
    go (inr k) = shares_past c gates old new last k.0 h

-- and where there may have been one
pub shares_may : (c : OrderedCircuit) (gates : GateNodes) (old new : Table) → old.epoch ≤ last_epoch
    → MaySweep old new → Shares c gates old → Shares c gates new
shares_may c gates old new last (inl same) h = subst (Shares c gates) (sym same) h
shares_may c gates old new last (inr s) h = shares_swept c gates old new last s h
