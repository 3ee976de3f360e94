-- What the steps of a test leave.
use Rattle.std.proofs.Common.{◌≡◌, ◌≢◌, ◌⊎◌, inl, inr, ℕ, ◌+◌, ◌<◌, ◌≤◌}
use Rattle.std.proofs.Common.{List, [], None, Some, Result, Ok, Err, IfOk, OnErr}
use Rattle.std.proofs.Common.{refl, sym, ap, subst, ◌∙◌, arith}
use Rattle.std.proofs.lemmas.Bool.{cases_eq}
use Rattle.std.specs.Option.{IsSome}
use Rattle.std.specs.Ordering.{nat_cmp}
use Rattle.std.specs.FinMap.{FinMap, get, len, len-empty}
use Rattle.sd_runs.proofs.Maps.{get_insert_same, get_insert_other}
use Rattle.sd_cache.specs.Entries.{Answers, no_answers}
use Rattle.sd_vtree.specs.Numbered.{Numbered, or_else}
use Rattle.sd_laws.proofs.Lists.{all_weaker}
use Rattle.sd_manager.specs.Table.{Table, no_table}
use Rattle.sd_manager.specs.Shown.{IsNodeOf}
use Rattle.sd_manager.specs.Making.{Extends, with_root}
use Rattle.sd_manager.specs.Marking.{AreUnmarked}
use Rattle.sd_manager.proofs.Marking.{unmarked_new, unmarked_extended}
use Rattle.sd_apply.specs.Serving.{Serves, last_epoch}
use Rattle.sd_apply.proofs.Served.{serves_beside as serves_same}
use Rattle.sd_apply.proofs.Tried.{empty_serves}
use Rattle.sd_manager.specs.Valid.{IsTable}
use Rattle.sd_sweep.specs.Reached.{reached_first, IsReached, KeepsReached}
use Rattle.sd_move.specs.Journal.{Journal, Named, CanUndo, CanPutBack, AreNamedReached, IsSettledBy, Rollback}
use Rattle.sd_move.specs.Journal.{without_runs, starts_of}
use Rattle.sd_move.proofs.ServesLater.{serves_later}
use Rattle.sd_call_tests.specs.Ready.{IsFresh, IsReady, IsAlone}

-- a new manager with a new cache
pub fresh_new : (t : Table) (c : Answers) (v : Numbered) (bound : ℕ)
    → t ≡ no_table v bound → c ≡ no_answers → IsFresh t c
fresh_new t c v bound is none =
    record {
      no_move = ap (λ (u : Table). u.moving) is;
      unmarked = subst AreUnmarked (sym is) (unmarked_new v bound);
      serves = empty_serves c t none;
      no_roots = ap (λ (u : Table). u.roots) is;
    }

-- new nodes leave a manager fresh
pub fresh_on : (old new : Table) (c d : Answers) → IsFresh old c → Extends old new → Serves d new → IsFresh new d
fresh_on old new c d f x serves =
    record {
      no_move = x.moving ∙ f.no_move;
      unmarked = unmarked_extended old new x f.unmarked;
      serves = serves;
      no_roots = x.roots ∙ f.no_roots;
    }

-- none of its roots is held
pub no_root : (t : Table) (c : Answers) → IsFresh t c → len t.roots ≡ 0
no_root t c f = ap len f.no_roots ∙ len-empty nat_cmp ℕ

-- the cache serves, whatever is held, and whatever runs are loose or free
serves_beside : (c : Answers) (t : Table) (roots free : FinMap nat_cmp ℕ) (loose : FinMap nat_cmp (List (ℕ × ℕ))) →
    Serves c t → Serves c (record t { roots = roots; loose = loose; free = free })
serves_beside c t roots free loose serves =
    serves_same c t (record t { roots = roots; loose = loose; free = free }) refl refl refl serves

-- a root beside one that is held

pub serves_held : (c : Answers) (t u : Table) (root code : ℕ) → u ≡ with_root t root code → Serves c t → Serves c u
serves_held c t u root code is serves =
    subst (Serves c) (sym is) (serves_beside c t (with_root t root code).roots t.free t.loose serves)

pub node_held : (t u : Table) (root code c : ℕ) → u ≡ with_root t root code → IsNodeOf t c → IsNodeOf u c
node_held t u root code c is k = subst (λ v. IsNodeOf v c) (sym is) (record { diagram = k.diagram; is = k.is })

pub root_held : (t u : Table) (root code : ℕ) → u ≡ with_root t root code → get u.roots root ≡ Some code
root_held t u root code is = ap (λ (w : Table). get w.roots root) is ∙ get_insert_same t.roots root code

pub ready_held : (t u : Table) (c : Answers) (first second code : ℕ) → t.moving ≡ None → AreUnmarked t → Serves c t →
    IsSome (get t.roots first) → get t.roots second ≡ None → u ≡ with_root t second code → IsReady u c first second
ready_held t u c first second code rest unmarked serves held absent is =
    let other : first ≢ second =
    λ e. absurd (cc (subst IsSome absent (subst (λ q. IsSome (get t.roots q)) e held))) in
    record {
      no_move = ap (λ (w : Table). w.moving) is ∙ rest;
      unmarked = subst AreUnmarked (sym is) unmarked;
      serves = serves_held c t u second code is serves;
      first_held = subst IsSome
          (sym (ap (λ (w : Table). get w.roots first) is ∙ get_insert_other t.roots second code first other))
          held;
      second_held = subst IsSome (sym (root_held t u second code is)) refl;
    }

-- a state stays ready where its roots stay
pub ready_on : (old new : Table) (c d : Answers) (first second : ℕ) → IsReady old c first second →
    new.roots ≡ old.roots → new.moving ≡ None → AreUnmarked new → Serves d new → IsReady new d first second
ready_on old new c d first second r same rest unmarked serves =
    record {
      no_move = rest;
      unmarked = unmarked;
      serves = serves;
      first_held = subst (λ m. IsSome (get m first)) (sym same) r.first_held;
      second_held = subst (λ m. IsSome (get m second)) (sym same) r.second_held;
    }

-- so where the vtree is moved, or is not
pub ready_moved : {A E : Type 0} (r : Result A E) (P : A → Type 0) (old new : Table) (c d : Answers)
    (first second : ℕ) → IsReady old c first second →
    ((a : A) → P a → (new.roots ≡ old.roots) × (new.moving ≡ None)) → IfOk r P →
    OnErr r (KeepsReached old new × (new.moving ≡ None)) → AreUnmarked new → Serves d new → IsReady new d first second
ready_moved (Ok a) P old new c d first second r same moved back unmarked serves =
    let s = same a moved in ready_on old new c d first second r s.0 s.1 unmarked serves
ready_moved (Err e) P old new c d first second r same moved back unmarked serves =
    ready_on old new c d first second r back.0.roots back.1 unmarked serves

-- so where a move is undone
pub ready_back : (old new : Table) (c : Answers) (first second : ℕ) (j : Journal) → IsReady old c first second →
    old.epoch ≤ last_epoch → Rollback j old new → (AreUnmarked old → AreUnmarked new) → IsReady new c first second
ready_back old new c first second j r last b unmarked =
    ready_on old new c c first second r b.roots b.moving (unmarked r.unmarked)
    (serves_later c old new last b.later r.serves)

-- and where it is settled
pub ready_settled : (old new : Table) (c : Answers) (first second : ℕ) (j : Journal) → IsReady old c first second →
    IsSettledBy old new j → IsReady new c first second
ready_settled old new c first second j r is =
    subst (λ t. IsReady t c first second) (sym is.same)
    (record {
      no_move = r.no_move;
      unmarked = r.unmarked;
      serves = serves_beside c old old.roots new.free (without_runs old.loose (starts_of j.named)) r.serves;
      first_held = r.first_held;
      second_held = r.second_held;
    })

-- a table keeps what is reached in itself
pub keeps_itself : (t : Table) → KeepsReached t t
keeps_itself t = record { vtree = refl; nodes = λ n k r e. e; roots = refl; loose = refl }

-- Where a journal of a swap is the newer one and its node is alone at the vtree node and held, its entries are reached
-- once the older one is settled.
pub named_held : (t u : Table) (older newer : Journal) (root place : ℕ) → CanUndo newer t → newer.upper ≡ place →
    newer.lower ≡ None → IsSettledBy t u older → IsAlone u root place → AreNamedReached newer u
named_held t u older newer root place can upper lower is alone =
    all_weaker (CanPutBack t newer.upper newer.lower) (λ (e : Named). IsReached u e.number) entry newer.named
    can.entries
  where
    here : (p : ℕ) → (p ≡ newer.upper) ⊎ (Some p ≡ newer.lower) → p ≡ place
    here p (inl e) = e ∙ upper
    here p (inr e) = absurd (cc (e, lower))

    entry : (e : Named) → CanPutBack t newer.upper newer.lower e → IsReached u e.number
    entry e h =
        let linked = ap (λ (w : Table). get w.linked e.number) is.same ∙ h.linked in
        let at = ap (λ p. Some (p, h.list)) (here h.place h.here) in
        reached_first (inl (root, alone e.number h.list (linked ∙ at)))

-- what a loop over the numbers knows: each of the nodes so far that stands at the place is the one with this code
abbrev pub IsAloneBelow : Table → ℕ → ℕ → ℕ → Type 0
IsAloneBelow t place node count = (n : ℕ) (list : List (ℕ × ℕ)) → n < count →
    get t.linked n ≡ Some (place, list) → node ≡ 2050 + n

-- one number more
pub alone_more : (t : Table) (place node count : ℕ) → IsAloneBelow t place node count →
    ((list : List (ℕ × ℕ)) → get t.linked count ≡ Some (place, list) → node ≡ 2050 + count) →
    IsAloneBelow t place node (count + 1)
alone_more t place node count was this n list less e = go (cases_eq n count)
  where
    go : (n ≡ count) ⊎ (n ≢ count) → node ≡ 2050 + n
    go (inl same) =
        subst (λ k. node ≡ 2050 + k) (sym same) (this list (ap (λ k. get t.linked k) (sym same) ∙ e))
    go (inr other) = was n list (omega (arith, less, other)) e

-- all numbers
pub alone_all : (t : Table) (root place node count : ℕ) → IsTable t → get t.roots root ≡ Some node →
    IsAloneBelow t place node count → t.records ≤ count → IsAlone t root place
alone_all t root place node count table held below all n list e =
    let less = table.within n (place, list) (ap (λ o. or_else o (get t.detached n)) e) in
    held ∙ ap Some (below n list (omega (arith, less, all)) e)
