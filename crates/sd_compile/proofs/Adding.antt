-- One group more: the prefix is held, or the total size passes the limit.
use Rattle.std.proofs.Common.{◌≡◌, Bool, true, false, cond, ◌-◌, inl, inr, ◌+◌, ◌<◌, ◌≤◌, ℕ}
use Rattle.std.proofs.Common.{length, None, refl, sym, ap, subst, ◌∙◌, arith}
use Rattle.std.specs.FinMap.{FinMap, get, remove, len, len-remove, contains_key}
use Rattle.std.specs.Ordering.{nat_cmp}
use Rattle.std.proofs.lemmas.Cmp.{nat_cmp_total}
use Rattle.std.proofs.lemmas.Bool.{cases_eq}
use Rattle.sd_runs.proofs.Maps.{get_insert_same}
use Rattle.sd_model.specs.declared.trees.Operation.{Operation}
use Rattle.sd_model.specs.Expression.{Expression, expression_value}
use Rattle.sd_formula.specs.Dimacs.{Groups}
use Rattle.sd_vtree.specs.Numbered.{IsNumbered}
use Rattle.sd_manager.specs.Table.{Table}
use Rattle.sd_manager.specs.Shown.{ShowsCanonical, constant_diagram}
use Rattle.sd_manager.specs.Valid.{IsTable}
use Rattle.sd_manager.specs.Making.{Extends, with_root, without_root}
use Rattle.sd_cache.specs.Entries.{Answers}
use Rattle.sd_apply.specs.Answers.{HasAnswer}
use Rattle.sd_apply.specs.Serving.{Serves}
use Rattle.sd_sweep.specs.Reached.{KeepsReached}
use Rattle.sd_compile.specs.Total.{HasTotalWith, IsWithinLimit, IsTotal, IsTotalWithin}
use Rattle.sd_compile.specs.Compiling.{CompiledPrefix, prefix_of, HoldsFormula, IsBegun, KeepsOtherRoots, KeepsAll}
use Rattle.sd_compile.specs.Compiling.{PassesLimit, AreWithinLimit, IsGroupRefused, IsFormulaRefused}
use Rattle.sd_compile.specs.declared.error.CompileError.{CompileError}
use Rattle.sd_compile.specs.declared.error.CompileError.TheVariants.{OverLimit, ArenaFull, OutOfMemory}
use Rattle.sd_compile.specs.Joined.{outer, neutral}
use Rattle.sd_compile.proofs.Joining.{prefix_none}
use Rattle.sd_compile.proofs.Kept.{kept_holds, others_kept, without_rebound, without_new, serves_roots}
use Rattle.sd_compile.proofs.Totals.{HoldNodes, of_answer, total_over, total_within, total_back, within_back}

-- a new root holds the value of no groups
pub begun : (old new : Table) (f : Groups) (o : Operation) (b : Bool) (root c : ℕ) → o ≡ outer f.kind →
    b ≡ neutral o → c ≡ cond b 1 0 → ShowsCanonical old c (constant_diagram b) → get old.roots root ≡ None →
    new ≡ with_root old root c → IsBegun old new f (record { root = root; groups = 0 })
begun old new f o b root c outside value code shown absent is =
    let b_is : b ≡ neutral (outer f.kind) = value ∙ ap neutral outside in
    let h = prefix_none old f b c b_is shown in
    record {
      absent = absent;
      none = refl;
      holds = (
        omega arith,
        record {
          code = c;
          held = ap (λ (t : Table). get t.roots root) is ∙ get_insert_same old.roots root c;
          shown =
              subst (λ t. HasAnswer t (expression_value (prefix_of f 0)) c) (sym is)
              (record {
                diagram = h.diagram;
                is = record { shows = h.is.shows; canonical = h.is.canonical };
                value = h.value;
              });
        },
      );
      is = is ∙ ap (with_root old root) (code ∙ ap (λ v. cond v 1 0) b_is);
    }

-- with the next prefix held the total size passes the limit
pub group_over : (old mid : Table) (root again node : ℕ) (f : Groups) (limit groups group size : ℕ) → IsTable old →
    old.moving ≡ None → Extends old mid → HasAnswer mid (expression_value (prefix_of f (groups + 1))) node →
    root ≡ again → group ≡ groups + 1 → limit < size → IsTotal (with_root mid again node) size →
    PassesLimit (without_root old root) f limit group size limit
group_over old mid root again node f limit groups group size i still x h same next less total =
    record {
      total =
          subst (λ n. HasTotalWith (without_root old root) (prefix_of f n) size) (sym next)
          (total_over old mid root node (prefix_of f (groups + 1)) i still x h.diagram h.is
          (of_answer old mid (prefix_of f (groups + 1)) node x h) size
          (subst (λ r. IsTotal (with_root mid r node) size) (sym same) total));
      passes = less;
      most_is = refl;
    }

-- or it is within
pub group_within : (old mid : Table) (root again node : ℕ) (f : Groups) (limit groups : ℕ) → IsTable old →
    old.moving ≡ None → Extends old mid → HasAnswer mid (expression_value (prefix_of f (groups + 1))) node →
    root ≡ again → IsTotalWithin (with_root mid again node) limit →
    IsWithinLimit (without_root old root) (prefix_of f (groups + 1)) limit
group_within old mid root again node f limit groups i still x h same total =
    total_within old mid root node (prefix_of f (groups + 1)) i still x h.diagram h.is
    (of_answer old mid (prefix_of f (groups + 1)) node x h) limit
    (subst (λ r. IsTotalWithin (with_root mid r node) limit) (sym same) total)

-- and then the root holds it
pub group_held : (mid new : Table) (root node : ℕ) (f : Expression) → HasAnswer mid (expression_value f) node →
    new ≡ with_root mid root node → HoldsFormula new f root
group_held mid new root node f h is =
    subst (λ t. HoldsFormula t f root) (sym is)
    (record {
      code = node;
      held = get_insert_same mid.roots root node;
      shown = record {
        diagram = h.diagram;
        is = record { shows = h.is.shows; canonical = h.is.canonical };
        value = h.value;
      };
    })

-- ---- several groups

module _ (a b : Table) (numbered : IsNumbered a.vtree) (nodes : HoldNodes a) (k : KeepsReached a b) (f : Groups)
    (limit first groups : ℕ) (within : AreWithinLimit a f limit first groups) where
  -- one group more is within the limit
  pub more_within : (next : ℕ) → next ≡ groups + 1 → IsWithinLimit b (prefix_of f (groups + 1)) limit →
      AreWithinLimit a f limit first next
  more_within next is h n low high = elim (cases_eq n next) [
    | inl same ↦
        subst (λ x. IsWithinLimit a (prefix_of f x) limit) (sym (same ∙ is))
        (within_back a b numbered nodes k (prefix_of f (groups + 1)) limit h)
    | inr other ↦ within n low (omega (arith, high, is, other))
  ]

  -- or one was refused
  pub more_refused : (new : Table) (e : CompileError) → first ≤ groups → groups < length f.groups →
      IsGroupRefused b new f limit groups e → IsFormulaRefused a new f limit first e
  more_refused new (OverLimit group size most) far left h = (
    omega (arith, far, h.0),
    omega (arith, left, h.0),
    record {
      total = total_back a b numbered nodes k (prefix_of f group) size h.1.total;
      passes = h.1.passes;
      most_is = h.1.most_is;
    },
    λ n low high. within n low (omega (arith, high, h.0)),
  )
  more_refused new (ArenaFull elements) far left h = h
  more_refused new OutOfMemory far left h = tt

-- ---- the whole formula

-- what stays apart from a new root is all that there was
pub new_others : (old mid new : Table) (f : Groups) (work : CompiledPrefix) → IsBegun old mid f work →
    KeepsOtherRoots mid new work.root → KeepsOtherRoots old new work.root
new_others old mid new f work b k =
    let c : ℕ = cond (neutral (outer f.kind)) 1 0 in
    others_kept old new work.root
    (subst (λ t. KeepsReached t (without_root new work.root))
    (ap (λ t. without_root t work.root) b.is ∙ without_rebound old work.root c) k.reached)
    (k.bound ∙ ap (λ (t : Table). t.bound) b.is) (k.moving ∙ ap (λ (t : Table). t.moving) b.is)

-- and where it is released, all stays
pub new_all : (old mid last new : Table) (f : Groups) (work : CompiledPrefix) → IsBegun old mid f work →
    KeepsOtherRoots mid last work.root → new ≡ without_root last work.root → KeepsAll old new
new_all old mid last new f work b k is =
    let c : ℕ = cond (neutral (outer f.kind)) 1 0 in
    let same = ap (λ t. without_root t work.root) b.is ∙ without_new old work.root c b.absent in
    let reached : KeepsReached old new =
    subst (KeepsReached old) (sym is) (subst (λ t. KeepsReached t (without_root last work.root)) same k.reached) in
    record {
      reached = reached;
      holds = λ root d h. kept_holds old new reached root d h;
      bound = ap (λ (t : Table). t.bound) is ∙ k.bound ∙ ap (λ (t : Table). t.bound) b.is;
      moving = ap (λ (t : Table). t.moving) is ∙ k.moving ∙ ap (λ (t : Table). t.moving) b.is;
    }

-- the others are all that there was
pub new_table : (old mid : Table) (f : Groups) (work : CompiledPrefix) → IsBegun old mid f work →
    without_root mid work.root ≡ old
new_table old mid f work b =
    ap (λ t. without_root t work.root) b.is
    ∙ without_new old work.root (cond (neutral (outer f.kind)) 1 0) b.absent

-- a refusal outlasts the release of the root
pub new_refused : (old mid last new : Table) (f : Groups) (work : CompiledPrefix) (limit : ℕ) (e : CompileError) →
    IsBegun old mid f work → new ≡ without_root last work.root →
    IsFormulaRefused (without_root mid work.root) last f limit work.groups e → IsFormulaRefused old new f limit 0 e
new_refused old mid last new f work limit e b is h =
    subst (λ t. IsFormulaRefused old t f limit 0 e) (sym is)
    (subst (λ t. IsFormulaRefused t (without_root last work.root) f limit 0 e) (new_table old mid f work b)
    (subst (λ n. IsFormulaRefused (without_root mid work.root) (without_root last work.root) f limit n e) b.none
    (released e h)))
  where
    released : (e : CompileError) → IsFormulaRefused (without_root mid work.root) last f limit work.groups e →
        IsFormulaRefused (without_root mid work.root) (without_root last work.root) f limit work.groups e
    released (OverLimit group size most) h = h
    released (ArenaFull elements) h = record { past = h.past; least = h.least; most = h.most }
    released OutOfMemory h = tt

-- so do the cache's answers
pub new_serves : (c : Answers) (last new : Table) (root : ℕ) → new ≡ without_root last root → Serves c last →
    Serves c new
new_serves c last new root is h = subst (Serves c) (sym is) (serves_roots c last (remove last.roots root) h)

-- the prefixes are within the limit beside all that there was
pub new_within : (old mid : Table) (f : Groups) (work : CompiledPrefix) (limit last : ℕ) → IsBegun old mid f work →
    AreWithinLimit (without_root mid work.root) f limit work.groups last → AreWithinLimit old f limit 0 last
new_within old mid f work limit last b h =
    subst (λ t. AreWithinLimit t f limit 0 last) (new_table old mid f work b)
    (subst (λ n. AreWithinLimit (without_root mid work.root) f limit n last) b.none h)

-- ---- the number of roots

-- without an entry there is at most one less
fewer_removed : (m : FinMap nat_cmp ℕ) (k : ℕ) → (len (remove m k) ≤ len m) × (len m ≤ len (remove m k) + 1)
fewer_removed m k = at (contains_key m k) (len-remove nat_cmp_total m k)
  where
    at : (b : Bool) → len (remove m k) ≡ cond b (len m - 1) (len m) →
        (len (remove m k) ≤ len m) × (len m ≤ len (remove m k) + 1)
    at true e = (omega (arith, e), omega (arith, e))
    at false e = (omega (arith, e), omega (arith, e))

-- so there is at most one more where all others stay
pub one_more : (old new : Table) (root : ℕ) → KeepsOtherRoots old new root → len new.roots ≤ len old.roots + 1
one_more old new root k =
    let same : len (remove new.roots root) ≡ len (remove old.roots root) = ap len k.reached.roots in
    omega (arith, same, (fewer_removed new.roots root).1, (fewer_removed old.roots root).0)

-- and no more where all stay
pub no_more : (old new : Table) → KeepsAll old new → len new.roots ≤ len old.roots + 1
no_more old new k = let same : len new.roots ≡ len old.roots = ap len k.reached.roots in omega (arith, same)
