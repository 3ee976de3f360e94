-- An input that is compiled with searches behind its groups: the steps of the state that the code represents.
use Rattle.std.proofs.Common.{◌≡◌, ℕ, suc, ◌+◌, ◌-◌, ◌<◌, ◌≤◌, cond, Bool, true, false}
use Rattle.std.proofs.Common.{List, ◌∷◌, length, take, Some, None, Result, Ok, Err, OnOk}
use Rattle.std.proofs.Common.{◌↔◌, IsTrue, eqb, refl, sym, ap, subst, ◌∙◌, inl, inr, arith}
use Rattle.std.proofs.Math.Seq.{take-length}
use Rattle.std.proofs.lemmas.Bool.{cases_eq, eq-eqb, ne_eqb}
use Rattle.std.proofs.lemmas.Option.{same_Some}
use Rattle.std.proofs.lemmas.Cmp.{nat_cmp_total}
use Rattle.std.specs.Option.{IsSome}
use Rattle.std.specs.FinMap.{get, get-empty, empty, remove, len, len-empty, len-remove}
use Rattle.std.specs.Ordering.{nat_cmp}
use Rattle.sd_runs.proofs.Maps.{get_remove_same, get_remove_other, same_at_each}
use Rattle.sd_model.specs.Diagram.{Diagram, meaning}
use Rattle.sd_model.specs.Expression.{Expression}
use Rattle.sd_model.specs.Size.{HasSize, IsDiagramOf}
use Rattle.sd_formula.specs.Dimacs.{Groups}
use Rattle.sd_vtree.specs.Numbered.{plain_tree, IsNumbered}
use Rattle.sd_laws.proofs.Codes.{one_diagram}
use Rattle.sd_laws.proofs.Lists.{IsAmong}
use Rattle.sd_cache.specs.Entries.{Answers}
use Rattle.sd_manager.specs.Table.{Table}
use Rattle.sd_manager.specs.Shown.{ShowsCanonical}
use Rattle.sd_manager.specs.Marking.{AreUnmarked}
use Rattle.sd_manager.specs.Making.{without_root}
use Rattle.sd_manager.proofs.Totals.{left_was}
use Rattle.sd_apply.specs.Serving.{Serves}
use Rattle.sd_compile.specs.Compiling.{CompiledPrefix, HoldsFormula, HoldsPrefix, KeepsOtherRoots, KeepsAll, IsBegun}
use Rattle.sd_compile.specs.Compiling.{prefix_of, IsGroupRefused}
use Rattle.sd_compile.specs.Total.{HasTotalWith, IsWithinLimit, IsHeldFormula, IsHeldDiagram, IsOfSome, AreHeldFormulas}
use Rattle.sd_compile.specs.declared.error.CompileError.{CompileError}
use Rattle.sd_compile.specs.declared.error.CompileError.TheVariants as compiling
use Rattle.sd_compile.proofs.Kept.{kept_holds, serves_roots}
use Rattle.sd_compile.proofs.Named.{total_formulas}
use Rattle.sd_starts.specs.Starts.{HoldsAlone}
use Rattle.sd_search.specs.Search.{Found, IsSearch, IsSearchBegun}
use Rattle.sd_search.specs.Kept.{KeepsRoots, StaysShown, IsSearchRefusal}
use Rattle.sd_search.specs.declared.error.SearchError.{SearchError}
use Rattle.sd_search.specs.declared.error.SearchError.TheVariants as searching
use Rattle.sd_commands.specs.Commands.{State, OverLimit, Step, AreWithin, Grows, Follows, FollowsBy, formulas_of}
use Rattle.sd_commands.specs.Commands.{is_due, with_groups, with_name}
use Rattle.sd_formula.specs.Formulas.{expression_of}
use Rattle.sd_commands.specs.Standing.{Represents, StopsAt, AreForgotten, without, error_of_compiling}
use Rattle.sd_commands.specs.Standing.{error_of_search, IsLeftByGroups, IsAsBefore, HoldsValue, StepsTo, root_count}
use Rattle.sd_commands.specs.declared.error.CommandError.{CommandError}
use Rattle.sd_commands.specs.declared.error.CommandError.TheVariants as errors
use Rattle.sd_commands.specs.Growing.{IsGrowing, IsAdded, IsBrokenOff, HasGrown, IsSameBeside}
use Rattle.sd_commands.specs.declared.command.RunCommand.TheVariants.{Input}
use Rattle.sd_commands.specs.declared.state.RunState.{RunState}
use Rattle.sd_commands.proofs.Limits.{held_formulas, within_with, passes_with}
use Rattle.sd_commands.proofs.Begun.{grows_begun}
use Rattle.sd_commands.proofs.Searched.{stands_searched}
use Rattle.sd_commands.proofs.Standing.{stands_kept, code_regained, holds_compiled}

-- ---- one root left out

-- what stays of all other roots is all that stays without the root
all_beside : (old new : Table) (root : ℕ) → KeepsOtherRoots old new root
    → KeepsAll (without_root old root) (without_root new root)
all_beside old new root kept = record {
  reached = kept.reached;
  holds = λ other d h. kept_holds (without_root old root) (without_root new root) kept.reached other d h;
  bound = kept.bound;
  moving = kept.moving;
}

-- a search keeps the roots without one
roots_beside : (old new : Table) (root : ℕ) → KeepsRoots old new
    → KeepsRoots (without_root old root) (without_root new root)
roots_beside old new root kept = record {
  variables = kept.variables;
  roots = ap (λ m. remove m root) kept.roots;
  functions = λ other c held. stays (kept.functions other c (left_was old.roots root other c held));
  loose = kept.loose;
  bound = kept.bound;
  no_move = kept.no_move;
}
  where
    stays : {c : ℕ} → StaysShown old new c → StaysShown (without_root old root) (without_root new root) c
    stays h = record {
      before = h.before;
      after = h.after;
      shown = record { shows = h.shown.shows; canonical = h.shown.canonical };
      shown_now = record { shows = h.shown_now.shows; canonical = h.shown_now.canonical };
      same = h.same;
    }

-- ---- the formulas of the names with a prefix

-- where the other roots hold these formulas, and this root one more, they are all that is held
pub held_with : (t : Table) (root : ℕ) (f : Expression) (fs : List Expression) → IsNumbered t.vtree
    → AreHeldFormulas (without_root t root) fs → HoldsFormula t f root → AreHeldFormulas t (f ∷ fs)
held_with t root f fs numbered others holds = record { each = each; only = only }
  where
    of_prefix : IsDiagramOf (plain_tree t.vtree) f holds.shown.diagram
    of_prefix = record { canonical = holds.shown.is.canonical; same_value = λ a fits. holds.shown.value a }

    each : (g : Expression) → IsAmong g (f ∷ fs) → IsHeldFormula t g
    each g (inl same) =
        subst (IsHeldFormula t) (sym same)
        (record {
          diagram = holds.shown.diagram;
          held = record { root = root; code = holds.code; held = holds.held; is = holds.shown.is };
          of_formula = of_prefix;
        })
    each g (inr among) =
        let h = others.each g among in
        record {
          diagram = h.diagram;
          held = record {
            root = h.held.root;
            code = h.held.code;
            held = left_was t.roots root h.held.root h.held.code h.held.held;
            is = record { shows = h.held.is.shows; canonical = h.held.is.canonical };
          };
          of_formula = h.of_formula;
        }

    only : (d : Diagram) → IsHeldDiagram t d → IsOfSome (plain_tree t.vtree) (f ∷ fs) d
    only d h = elim (cases_eq h.root root) [
      | inl same ↦
          let code : holds.code ≡ h.code =
          same_Some holds.code h.code (sym holds.held ∙ ap (get t.roots) (sym same) ∙ h.held) in
          let one : holds.shown.diagram ≡ d =
          one_diagram t.vtree (get t.linked) numbered holds.shown.diagram h.code d
          (subst (λ c. ShowsCanonical t c holds.shown.diagram) code holds.shown.is).shows h.is.shows in
          record { formula = f; among = inl refl; is = subst (IsDiagramOf (plain_tree t.vtree) f) one of_prefix }
      | inr differ ↦
          let o = others.only d
          (record {
            root = h.root;
            code = h.code;
            held = get_remove_other t.roots root h.root differ ∙ h.held;
            is = record { shows = h.is.shows; canonical = h.is.canonical };
          }) in
          record { formula = o.formula; among = inr o.among; is = o.is }
    ]

-- the cache serves the manager with the root
pub growing_serves : (code : RunState) (root : ℕ) (state : State) → Represents (without code root) state
    → Serves code.cache code.manager
growing_serves code root state was =
    serves_roots code.cache (without_root code.manager root) code.manager.roots was.serves

-- ---- the begin

-- a root that is new and holds no group is a prefix
pub growing_first : (input : Groups) (seen : State) (code : RunState) (t : Table) (work : CompiledPrefix)
    → Represents code seen → AreForgotten code.shared → IsBegun code.manager t input work
    → IsGrowing input seen (record code { manager = t }) work
growing_first input seen code t work was forgotten begun =
    let same = code_regained code t work.root _ begun.absent begun.is in
    let tree : plain_tree t.vtree ≡ plain_tree code.manager.vtree = ap (λ u. plain_tree u.vtree) begun.is in
    record {
      represents =
          subst (λ u. Represents (record code { manager = without_root t work.root }) (record seen { tree = u }))
          (was.tree ∙ sym tree) (subst (λ c. Represents c seen) (sym same) was);
      holds = begun.holds;
      course = subst (λ n. Grows input seen n (plain_tree t.vtree)) (sym begun.none) (tree ∙ sym was.tree);
      forgotten = forgotten;
    }

-- ---- a group more

module _ (input : Groups) (seen : State) (code : RunState) (work : CompiledPrefix)
    (numbered : IsNumbered code.manager.vtree) (was : IsGrowing input seen code work) where
  -- the state over the tree that is there
  abbrev here : State
  here = record seen { tree = plain_tree code.manager.vtree }

  -- the total with a formula beside the names is the size of them all
  law : (f : Expression) (n : ℕ) → AreHeldFormulas (without_root code.manager work.root) (formulas_of here)
      → HasTotalWith (without_root code.manager work.root) f n
      → HasSize (f ∷ formulas_of here) (plain_tree code.manager.vtree) n
  law f n are total = total_formulas (without_root code.manager work.root) numbered f (formulas_of here) n are total

  -- it is added
  pub grown_added : (t : Table) (cache : Answers) (new : CompiledPrefix)
      → KeepsOtherRoots code.manager t work.root → Serves cache t → AreUnmarked t → new.root ≡ work.root
      → new.groups ≡ work.groups + 1 → HoldsPrefix t input new
      → IsWithinLimit (without_root code.manager work.root) (prefix_of input (work.groups + 1)) code.limit
      → IsAdded input seen (record code { manager = t; cache = cache }) new
  grown_added t cache new kept serves unmarked same more holds within =
      let tree : plain_tree code.manager.vtree ≡ plain_tree t.vtree = ap plain_tree (sym kept.reached.vtree) in
      let next : work.groups + 1 ≡ suc work.groups = omega arith in
      let in_ = within_with (without code work.root) here numbered was.represents law
      (prefix_of input (work.groups + 1))
      code.limit refl within in
      record {
        represents = subst (λ r. Represents (without (record code { manager = t; cache = cache }) r)
            (record seen { tree = plain_tree t.vtree })) (sym same)
            (subst (λ u. Represents (without (record code { manager = t; cache = cache }) work.root)
            (record seen { tree = u })) tree
            (stands_kept (without code work.root) (without_root t work.root) cache here was.represents
            (all_beside code.manager t work.root kept) (serves_roots cache t (remove t.roots work.root) serves)
            unmarked (was.forgotten (without_root t work.root))));
        holds = holds;
        done = work.groups;
        next = more ∙ next;
        course = subst (Grows input seen work.groups) tree was.course;
        within =
            subst (λ u. AreWithin (with_groups input seen (suc work.groups)) u seen.limit) tree
            (subst (λ n. AreWithin (with_groups input seen n) (plain_tree code.manager.vtree) seen.limit) next in_);
        forgotten = was.forgotten;
      }

  -- or not, and all stays
  pub not_added : (t : Table) (cache : Answers) (new : CompiledPrefix) → KeepsOtherRoots code.manager t work.root
      → Serves cache t → AreUnmarked t → new ≡ work → t.roots ≡ code.manager.roots
      → IsBrokenOff input seen (record code { manager = t; cache = cache }) new.root
  not_added t cache new kept serves unmarked same roots =
      let tree : plain_tree code.manager.vtree ≡ plain_tree t.vtree = ap plain_tree (sym kept.reached.vtree) in
      subst (λ (w : CompiledPrefix). IsBrokenOff input seen (record code { manager = t; cache = cache }) w.root)
      (sym same)
      (record {
        represents = subst (λ u. Represents (without (record code { manager = t; cache = cache }) work.root)
            (record seen { tree = u })) tree
            (stands_kept (without code work.root) (without_root t work.root) cache here was.represents
            (all_beside code.manager t work.root kept) (serves_roots cache t (remove t.roots work.root) serves)
            unmarked (was.forgotten (without_root t work.root)));
        held = subst (λ o. IsSome o) (sym (ap (λ r. get r work.root) roots ∙ was.holds.1.held)) refl;
        grown = (
          work.groups,
          was.holds.0,
          grows_begun input seen work.groups (plain_tree t.vtree)
              (subst (Grows input seen work.groups) tree was.course),
        );
      })

  -- so the command stops
  pub growth_stops : (name : ℕ) (t : Table) (e : CompileError) → t.bound ≡ 2147483647
      → work.groups < length input.groups
      → IsGroupRefused (without_root code.manager work.root) t input code.limit work.groups e
      → StopsAt input seen (Input name) t (error_of_compiling e)
  growth_stops name t (compiling.OverLimit group size most) bound left h =
      let next : group ≡ suc work.groups = let e = h.0 in omega (arith, e) in
      let passes = passes_with (without code work.root) here numbered was.represents law (prefix_of input group)
      code.limit size refl h.1.total h.1.passes in
      subst (λ l. Step input seen (Input name) (OverLimit (Some group) size l)) (was.represents.limit ∙ sym h.1.most_is)
      (inr (
        group,
        size,
        (
          work.groups,
          plain_tree code.manager.vtree,
          next,
          omega (arith, next, left),
          was.course,
          passes,
        ),
        refl,
      ))
  growth_stops name t (compiling.ArenaFull elements) bound left h = (tt, record { whole = bound; rule = h })
  growth_stops name t compiling.OutOfMemory bound left h = tt

-- ---- the search behind it

module _ (input : Groups) (seen : State) (code : RunState) (work : CompiledPrefix)
    (was : IsAdded input seen code work) where
  -- none is due
  pub not_searched : is_due seen.every work.groups ≡ false → IsGrowing input seen code work
  not_searched none = record {
    represents = was.represents;
    holds = was.holds;
    course = subst (λ n. Grows input seen n (plain_tree code.manager.vtree)) (sym was.next) (
      plain_tree code.manager.vtree,
      was.course,
      was.within,
      follows _ (ap (is_due seen.every) (sym was.next) ∙ none),
    );
    forgotten = was.forgotten;
  }
    where
      follows : (due : Bool) → due ≡ false
          → Follows due (with_groups input seen (suc was.done)) seen.slack (plain_tree code.manager.vtree)
          (plain_tree code.manager.vtree)
      follows true is = absurd cc
      follows false is = refl

module _ (input : Groups) (seen : State) (code : RunState) (work : CompiledPrefix)
    (numbered : IsNumbered code.manager.vtree) (was : IsAdded input seen code work) where
  -- the formulas that are held
  held_here : AreHeldFormulas code.manager (with_groups input seen (suc was.done))
  held_here =
      subst (λ n. AreHeldFormulas code.manager (with_groups input seen n)) was.next
      (held_with code.manager work.root (prefix_of input work.groups) (formulas_of seen) numbered
      (held_formulas (without code work.root) (record seen { tree = plain_tree code.manager.vtree }) numbered
      was.represents) was.holds.1)

  -- without the root the code represents the state over the tree that is there then
  stands_beside : (t : Table) (cache : Answers) → KeepsRoots code.manager t → Serves cache t → AreUnmarked t
      → Represents (without (record code { manager = t; cache = cache }) work.root)
      (record seen { tree = plain_tree t.vtree })
  stands_beside t cache kept serves unmarked =
      stands_searched (without code work.root) (without_root t work.root) cache numbered
      (roots_beside code.manager t work.root kept) (serves_roots cache t (remove t.roots work.root) serves) unmarked
      was.forgotten (record seen { tree = plain_tree code.manager.vtree }) was.represents

  -- it is done
  pub grown_searched : (t : Table) (cache : Answers) (found : Found) → KeepsRoots code.manager t → Serves cache t
      → AreUnmarked t → is_due seen.every work.groups ≡ true → plain_tree t.vtree ≡ found.tree
      → ((fs : List Expression) → AreHeldFormulas code.manager fs
      → IsSearch fs code.slack 1 (plain_tree code.manager.vtree) found)
      → IsGrowing input seen (record code { manager = t; cache = cache }) work
  grown_searched t cache found kept serves unmarked due same search = record {
    represents = stands_beside t cache kept serves unmarked;
    holds = (was.holds.0, still);
    course = subst (λ n. Grows input seen n (plain_tree t.vtree)) (sym was.next) (
      plain_tree code.manager.vtree,
      was.course,
      was.within,
      follows _ (ap (is_due seen.every) (sym was.next) ∙ due),
    );
    forgotten = was.forgotten;
  }
    where
      follows : (due : Bool) → due ≡ true
          → Follows due (with_groups input seen (suc was.done)) seen.slack (plain_tree code.manager.vtree)
          (plain_tree t.vtree)
      follows true is = (
        found,
        subst (λ s. IsSearch (with_groups input seen (suc was.done)) s 1 (plain_tree code.manager.vtree) found)
            (sym was.represents.slack) (search (with_groups input seen (suc was.done)) held_here),
        same,
      )
      follows false is = absurd cc

      still : HoldsFormula t (prefix_of input work.groups) work.root
      still =
          let h = was.holds.1 in
          let stays = kept.functions work.root h.code h.held in
          let one = one_diagram code.manager.vtree (get code.manager.linked) numbered stays.before h.code
          h.shown.diagram stays.shown.shows h.shown.is.shows in
          record {
            code = h.code;
            held = ap (λ r. get r work.root) kept.roots ∙ h.held;
            shown = record {
              diagram = stays.after;
              is = stays.shown_now;
              value = λ a. stays.same a ∙ ap (λ d. meaning d a) one ∙ h.shown.value a;
            };
          }

  -- or it was broken off
  pub growth_broken : (t : Table) (cache : Answers) → KeepsRoots code.manager t → Serves cache t → AreUnmarked t
      → is_due seen.every work.groups ≡ true
      → ((fs : List Expression) → AreHeldFormulas code.manager fs
      → IsSearchBegun fs code.slack 1 (plain_tree code.manager.vtree) (plain_tree t.vtree))
      → IsBrokenOff input seen (record code { manager = t; cache = cache }) work.root
  growth_broken t cache kept serves unmarked due begun = record {
    represents = stands_beside t cache kept serves unmarked;
    held =
        subst (λ o. IsSome o) (sym (ap (λ r. get r work.root) kept.roots ∙ was.holds.1.held)) refl;
    grown = (
      suc was.done,
      subst (λ n. n ≤ length input.groups) was.next was.holds.0,
      (plain_tree code.manager.vtree, was.course, was.within, follows _ (ap (is_due seen.every) (sym was.next) ∙ due)),
    );
  }
    where
      follows : (due : Bool) → due ≡ true
          → FollowsBy IsSearchBegun due (with_groups input seen (suc was.done)) seen.slack
          (plain_tree code.manager.vtree) (plain_tree t.vtree)
      follows true is =
          subst (λ s. IsSearchBegun (with_groups input seen (suc was.done)) s 1 (plain_tree code.manager.vtree)
          (plain_tree t.vtree)) (sym was.represents.slack) (begun (with_groups input seen (suc was.done)) held_here)
      follows false is = absurd cc

-- why it stops
pub searches_stop : (input : Groups) (seen : State) (name : ℕ) (t : Table) (e : SearchError) → t.bound ≡ 2147483647
    → IsSearchRefusal t e → StopsAt input seen (Input name) t (error_of_search e)
searches_stop input seen name t (searching.ArenaFull elements) bound h = (tt, record { whole = bound; rule = h })
searches_stop input seen name t searching.OutOfMemory bound h = tt

-- ---- whether one is due

-- a test that tells where a number is 0
pub tells_zero : (b : Bool) (n : ℕ) → IsTrue b ↔ (n ≡ 0) → b ≡ eqb n 0
tells_zero true n iff = sym (eq-eqb n 0 (iff.0 refl))
tells_zero false n iff = sym (ne_eqb n 0 (λ e. let bad : IsTrue false = iff.1 e in absurd cc))

-- ---- how many roots there are

-- at most one more than without one of them
pub one_beside : (t : Table) (root : ℕ) → len t.roots ≤ len (remove t.roots root) + 1
one_beside t root = at _ (len-remove nat_cmp_total t.roots root)
  where
    at : (b : Bool) → len (remove t.roots root) ≡ cond b (len t.roots - 1) (len t.roots)
        → len t.roots ≤ len (remove t.roots root) + 1
    at true e = omega (arith, e)
    at false e = omega (arith, e)

-- a manager that holds nothing but one root has one at most
pub one_root : (t : Table) (root : ℕ) (f : Groups) → HoldsAlone t f root → len t.roots ≤ 1
one_root t root f holds =
    let more = one_beside t root in
    let none : len (remove t.roots root) ≡ 0 =
    ap (λ r. len r) (same_at_each (remove t.roots root) empty (λ q. nothing q ∙ sym (get-empty nat_cmp q)))
    ∙ len-empty nat_cmp ℕ in
    omega (arith, more, none)
  where
    nothing : (q : ℕ) → get (remove t.roots root) q ≡ None
    nothing q = elim (cases_eq q root) [
      | inl same ↦ subst (λ k. get (remove t.roots root) k ≡ None) (sym same) (get_remove_same t.roots root)
      | inr differ ↦ get_remove_other t.roots root q differ ∙ holds.only q differ
    ]

-- ---- steps one after another, and the end

-- what holds, whatever a call answered
pub on_ok : {X E P : Type 0} (result : Result X E) → P → OnOk result P
on_ok (Ok x) h = h
on_ok (Err e) h = tt

-- the rest stays over two steps
pub beside_both : (a b c : RunState) (root : ℕ) → IsSameBeside a b root → IsSameBeside b c root → IsSameBeside a c root
beside_both a b c root p q = record {
  rest = q.rest ∙ ap (λ (s : RunState). record s { manager = c.manager; cache = c.cache }) p.rest;
  roots = q.roots ∙ p.roots;
  variables = q.variables ∙ p.variables;
}

-- where all groups are compiled, the root holds the formula
pub grown_all : (input : Groups) (seen : State) (code : RunState) (work : CompiledPrefix) (root : ℕ)
    → IsGrowing input seen code work → work.groups ≡ length input.groups → root ≡ work.root
    → HasGrown input seen code root
grown_all input seen code work root was all same =
    subst (HasGrown input seen code) (sym same)
    (record {
      represents = was.represents;
      holds = holds_compiled code.manager work.root (expression_of input)
          (subst (λ gs. HoldsFormula code.manager (expression_of (record input { groups = gs })) work.root)
          (ap (λ n. take n input.groups) all ∙ take-length input.groups) was.holds.1);
      course = subst (λ n. Grows input seen n (plain_tree code.manager.vtree)) all was.course;
    })

module _ (input : Groups) (code : RunState) (t : Table) (work : CompiledPrefix)
    (begun : IsBegun code.manager t input work) (forgotten : AreForgotten code.shared) (new : RunState)
    (beside : IsSameBeside (record code { manager = t }) new work.root) where
  -- the other roots are those of the begin
  pub roots_again : remove new.manager.roots work.root ≡ code.manager.roots
  roots_again =
      beside.roots ∙ ap (λ (c : RunState). c.manager.roots) (code_regained code t work.root _ begun.absent begun.is)

  -- so there is at most one more
  pub one_grown : root_count new ≤ root_count code + 1
  one_grown =
      let more = one_beside new.manager work.root in
      let same = ap (λ r. len r) roots_again in
      omega (arith, more, same)

  -- and none once it is released
  pub none_grown : (m : Table) → m ≡ without_root new.manager work.root
      → root_count (record new { manager = m }) ≤ root_count code + 1
  none_grown m is =
      let same = ap (λ r. len r) (ap (λ (u : Table). u.roots) is ∙ roots_again) in
      omega (arith, same)

  -- what is left where it was broken off
  pub left_released : (m : Table) → m ≡ without_root new.manager work.root
      → ((seen : State) → IsGrowing input seen (record code { manager = t }) work
      → IsBrokenOff input seen new work.root)
      → IsLeftByGroups input code (record new { manager = m })
  left_released m is broken =
      subst (λ u. IsLeftByGroups input code (record new { manager = u })) (sym is)
      (record {
        represents = λ seen was. (broken seen (growing_first input seen code t work was forgotten begun)).represents;
        grown = λ seen was. (broken seen (growing_first input seen code t work was forgotten begun)).grown;
        roots = roots_again;
      })

-- a root that is released changes no cause
pub stops_released : (input : Groups) (seen : State) (name : ℕ) (t m : Table) (root : ℕ) (e : CommandError)
    → m ≡ without_root t root → StopsAt input seen (Input name) t e → StopsAt input seen (Input name) m e
stops_released input seen name t m root e is h =
    subst (λ u. StopsAt input seen (Input name) u e) (sym is) (go e h)
  where
    go : (e : CommandError) → StopsAt input seen (Input name) t e
        → StopsAt input seen (Input name) (without_root t root) e
    go (errors.OverLimit group size limit) h = h
    go (errors.ArenaFull elements) h = (
      h.0,
      record {
        whole = h.1.whole;
        rule = record { past = h.1.rule.past; least = h.1.rule.least; most = h.1.rule.most };
      },
    )
    go errors.NotMovable h = h
    go errors.OutOfMemory h = tt

-- nothing was begun
pub left_at_once : (input : Groups) (code new : RunState) → new ≡ code → IsLeftByGroups input code new
left_at_once input code new same = subst (IsLeftByGroups input code) (sym same)
    (record {
      represents = λ seen was. subst (λ t. Represents code (record seen { tree = t })) was.tree was;
      grown = λ seen was. (0, omega arith, sym was.tree);
      roots = refl;
    })

-- the last step that may stop, where the root gets no name
pub left_unnamed : (input : Groups) (code mid new : RunState) (root : ℕ)
    → ((seen : State) → Represents code seen → HasGrown input seen mid root)
    → IsAsBefore (without mid root) new → remove mid.manager.roots root ≡ code.manager.roots
    → IsLeftByGroups input code new
left_unnamed input code mid new root grown left roots = record {
  represents = λ seen was.
      let now = left.represents (record seen { tree = plain_tree mid.manager.vtree }) (grown seen was).represents in
      subst (λ t. Represents new (record seen { tree = t })) now.tree now;
  grown = λ seen was.
      let had = grown seen was in
      let now = left.represents (record seen { tree = plain_tree mid.manager.vtree }) had.represents in (
        length input.groups,
        omega arith,
        grows_begun input seen (length input.groups) (plain_tree new.manager.vtree)
            (subst (Grows input seen (length input.groups)) now.tree had.course),
      );
  roots = left.roots ∙ roots;
}

-- the command is done
pub grown_steps : (input : Groups) (seen : State) (name : ℕ) (mid new : RunState) (root : ℕ)
    → HasGrown input seen mid root
    → ((state : State) (f : Expression) → Represents (without mid root) state → HoldsValue mid.manager root f
    → Represents new (with_name state name f))
    → StepsTo input seen (Input name) new None
grown_steps input seen name mid new root grown named_ = record {
  next = with_name (record seen { tree = plain_tree mid.manager.vtree }) name (expression_of input);
  step = inl (plain_tree mid.manager.vtree, grown.course, refl);
  represents =
      named_ (record seen { tree = plain_tree mid.manager.vtree }) (expression_of input) grown.represents grown.holds;
}
