-- What the work at a start holds, and what it comes to, by the clauses of compiling and of the search.
use Rattle.std.proofs.Common.{◌≡◌, inl, inr, ℕ, zero, suc, ◌+◌, ◌<◌, ◌≤◌, List, [], ◌∷◌, length, Some, None}
use Rattle.std.proofs.Common.{refl, sym, ap, subst, ◌∙◌, arith}
use Rattle.std.specs.FinMap.{empty, get, remove, get-empty}
use Rattle.std.specs.Ordering.{nat_cmp}
use Rattle.std.proofs.lemmas.Bool.{cases_eq}
use Rattle.std.proofs.lemmas.Option.{same_Some, none-some}
use Rattle.sd_runs.proofs.Maps.{get_remove_same, get_remove_other}
use Rattle.std.specs.Prelude.{Option, MatchOption}
use Rattle.sd_model.specs.Tree.{Tree}
use Rattle.sd_model.specs.Diagram.{Diagram, meaning}
use Rattle.sd_model.specs.Expression.{Expression}
use Rattle.sd_model.specs.Size.{HasSize, IsDiagramOf}
use Rattle.sd_vtree.specs.Numbered.{plain_tree, IsNumbered}
use Rattle.sd_laws.proofs.Codes.{one_diagram}
use Rattle.sd_laws.proofs.Lists.{IsAmong}
use Rattle.sd_formula.specs.Dimacs.{Groups}
use Rattle.sd_formula.specs.Formulas.{expression_of}
use Rattle.sd_manager.specs.Table.{Table}
use Rattle.sd_manager.specs.Shown.{Shows}
use Rattle.sd_manager.specs.Valid.{IsTable}
use Rattle.sd_manager.specs.Making.{without_root}
use Rattle.sd_manager.specs.Marking.{AreUnmarked}
use Rattle.sd_cache.specs.Entries.{Answers}
use Rattle.sd_apply.specs.Serving.{Serves}
use Rattle.sd_compile.specs.declared.error.CompileError.{CompileError}
use Rattle.sd_compile.specs.declared.error.CompileError.TheVariants as refused
use Rattle.sd_compile.specs.Compiling.{HoldsFormula, KeepsOtherRoots, AreWithinLimit, PassesLimit, prefix_of}
use Rattle.sd_compile.specs.Compiling.{IsFormulaRefused}
use Rattle.sd_compile.proofs.Kept.{serves_roots}
use Rattle.sd_compile.specs.Total.{HasTotalWith, AreHeldFormulas, IsHeldDiagram}
use Rattle.sd_compile.specs.Total.{IsHeldFormula, IsOfSome}
use Rattle.sd_search.specs.Search.{Found, IsSearch}
use Rattle.sd_search.specs.Kept.{KeepsRoots}
use Rattle.sd_search.specs.declared.searching.Outcome.{Outcome}
use Rattle.sd_parts.specs.Parts.{PartFits, PassesAlone}
use Rattle.sd_starts.specs.Starts.{HoldsAlone, HoldsNothing, IsSearchedTo, IsFinalSize, IsRefusedAt, IsAtRest}
use Rattle.sd_starts.specs.declared.start.Settings.{Settings}

-- ---- nothing is held

-- where there are no roots, no formula is held
pub none_held : (t : Table) → HoldsNothing t → AreHeldFormulas t []
none_held t none = record {
  each = λ g m. absurd m;
  only = λ d h. absurd (none-some h.code (sym (none h.root) ∙ h.held));
}

pub nothing_of_empty : (t : Table) → t.roots ≡ empty → HoldsNothing t
nothing_of_empty t is root = ap (λ r. get r root) is ∙ get-empty nat_cmp root

module _ (t : Table) (none : HoldsNothing t) (f : Groups) (limit : ℕ)
    (total : (g : Expression) (fs : List Expression) (n : ℕ) → AreHeldFormulas t fs → HasTotalWith t g n
    → HasSize (g ∷ fs) (plain_tree t.vtree) n) where
  -- prefixes that are within the limit are so alone
  pub fit_alone : (last : ℕ) → AreWithinLimit t f limit 0 last → PartFits (plain_tree t.vtree) limit f last
  fit_alone last within m some most =
      let k = within m (omega (arith, some)) most in
      (k.size, total (prefix_of f m) [] k.size (none_held t none) k.total, k.within)

  -- and so passes the first that isn't
  pub passes_alone : (group size most : ℕ) → 0 < group → group ≤ length f.groups → PassesLimit t f limit group size most
      → ((n : ℕ) → 0 < n → n < group
      → (size : ℕ) × HasSize (prefix_of f n ∷ []) (plain_tree t.vtree) size × (size ≤ limit))
      → PassesAlone (plain_tree t.vtree) limit f 0 group size
  passes_alone (suc before) size most some there passes fits =
      let same : suc before ≡ before + 1 = omega arith in record {
        before = before;
        left = omega (arith, there);
        fits = λ m one up. fits m (omega (arith, one)) (omega (arith, up));
        number = omega arith;
        total = subst (λ n. HasSize (prefix_of f n ∷ []) (plain_tree t.vtree) size) same
            (total (prefix_of f (suc before)) [] size (none_held t none) passes.total);
        passes = passes.passes;
      }
  passes_alone zero size most some there passes fits = absurd (omega (arith, some))

-- ---- the formula alone is held

-- a root that is new where there was none is alone
pub alone : (old new : Table) (f : Groups) (root : ℕ) → HoldsNothing old → KeepsOtherRoots old new root
    → HoldsFormula new (expression_of f) root → HoldsAlone new f root
alone old new f root none kept holds = record {
  holds = holds;
  only = λ other ne.
      sym (get_remove_other new.roots root other ne)
      ∙ ap (λ r. get r other) kept.reached.roots
      ∙ get_remove_other old.roots root other ne ∙ none other;
}

-- what a root holds is held by this one
same_root : (t : Table) (f : Groups) (root : ℕ) (h : HoldsAlone t f root) → (other c : ℕ)
    → get t.roots other ≡ Some c → c ≡ h.holds.code
same_root t f root h other c held = elim (cases_eq other root) [
  | inl same ↦ same_Some c h.holds.code (sym held ∙ ap (get t.roots) same ∙ h.holds.held)
  | inr apart ↦ absurd (none-some c (sym (h.only other apart) ∙ held))
]

-- the diagram that the root holds is that of the formula
pub held_alone : (t : Table) (f : Groups) (root : ℕ) → IsNumbered t.vtree → HoldsAlone t f root
    → AreHeldFormulas t (expression_of f ∷ [])
held_alone t f root numbered h = record { each = each; only = only }
  where
    of_root : IsDiagramOf (plain_tree t.vtree) (expression_of f) h.holds.shown.diagram
    of_root = record {
      canonical = h.holds.shown.is.canonical;
      same_value = λ a fits. h.holds.shown.value a;
    }

    each : (g : Expression) → IsAmong g (expression_of f ∷ []) → IsHeldFormula t g
    each g (inl same) = subst (IsHeldFormula t) (sym same) (record {
      diagram = h.holds.shown.diagram;
      held = record { root = root; code = h.holds.code; held = h.holds.held; is = h.holds.shown.is };
      of_formula = of_root;
    })
    each g (inr more) = absurd more

    only : (d : Diagram) → IsHeldDiagram t d → IsOfSome (plain_tree t.vtree) (expression_of f ∷ []) d
    only d k =
        let code : k.code ≡ h.holds.code = same_root t f root h k.root k.code k.held in
        let one : h.holds.shown.diagram ≡ d =
        one_diagram t.vtree (get t.linked) numbered h.holds.shown.diagram k.code d
        (subst (λ c. Shows t c h.holds.shown.diagram) (sym code) h.holds.shown.is.shows) k.is.shows in
        record {
          formula = expression_of f;
          among = inl refl;
          is = subst (IsDiagramOf (plain_tree t.vtree) (expression_of f)) one of_root;
        }

-- behind a search the root holds the formula still
pub alone_searched : (old new : Table) (f : Groups) (root : ℕ) → IsNumbered old.vtree → KeepsRoots old new
    → HoldsAlone old f root → HoldsAlone new f root
alone_searched old new f root numbered kept h =
    let stays = kept.functions root h.holds.code h.holds.held in
    let one = one_diagram old.vtree (get old.linked) numbered stays.before h.holds.code h.holds.shown.diagram
    stays.shown.shows h.holds.shown.is.shows in
    record {
      holds = record {
        code = h.holds.code;
        held = ap (λ r. get r root) kept.roots ∙ h.holds.held;
        shown = record {
          diagram = stays.after;
          is = stays.shown_now;
          value = λ a. stays.same a ∙ ap (λ d. meaning d a) one ∙ h.holds.shown.value a;
        };
      };
      only = λ other ne. ap (λ r. get r other) kept.roots ∙ h.only other ne;
    }

-- without this root nothing is held
pub nothing_left : (old new : Table) (f : Groups) (root : ℕ) → HoldsAlone old f root → new ≡ without_root old root
    → HoldsNothing new
nothing_left old new f root h is other =
    ap (λ t. get t.roots other) is
    ∙ elim (cases_eq other root) [
      | inl same ↦ ap (get (remove old.roots root)) same ∙ get_remove_same old.roots root
      | inr apart ↦ get_remove_other old.roots root other apart ∙ h.only other apart
    ]

-- where nothing was held before, nothing is held after what keeps all roots
pub nothing_kept : (old new : Table) → HoldsNothing old → new.roots ≡ old.roots → HoldsNothing new
nothing_kept old new none is root = ap (λ r. get r root) is ∙ none root

-- ---- the size at the end

-- what the search found tells the size at the end
pub final_size : (f : Groups) (settings : Settings) (t : Tree) (search : Option Outcome) (size : ℕ) (new : Tree)
    → IsSearchedTo f settings t search size new → IsFinalSize f settings t size
final_size f settings t search size new h = go settings.rounds h
  where
    go : (rounds : Option ℕ) → MatchOption rounds
        ((search ≡ None) × (new ≡ t) × HasSize (expression_of f ∷ []) t size)
        (λ rounds. (outcome : Outcome) × (search ≡ Some outcome) × (size ≡ outcome.after)
        × IsSearch (expression_of f ∷ []) settings.slack rounds t
        (record { tree = new; before = outcome.before; after = outcome.after; rounds = outcome.rounds }))
        → MatchOption rounds (HasSize (expression_of f ∷ []) t size)
        (λ rounds. (found : Found) × IsSearch (expression_of f ∷ []) settings.slack rounds t found
        × (found.after ≡ size))
    go None h = h.2
    go (Some rounds) h = (
      record { tree = new; before = h.0.before; after = h.0.after; rounds = h.0.rounds },
      h.3,
      sym h.2,
    )

-- ---- a refusal

-- why compiling refused is why the work did
pub refused_alone : (old new : Table) → HoldsNothing old → (f : Groups) (settings : Settings)
    → ((g : Expression) (fs : List Expression) (n : ℕ) → AreHeldFormulas old fs → HasTotalWith old g n
    → HasSize (g ∷ fs) (plain_tree old.vtree) n) → (e : CompileError)
    → IsFormulaRefused old new f settings.limit 0 e → IsRefusedAt f settings (plain_tree old.vtree) new e
refused_alone old new none f settings total (refused.OverLimit group size most) h = (
  passes_alone old none f settings.limit total group size most h.0 h.1 h.2
      (λ n some less. let k = h.3 n some less in
      (k.size, total (prefix_of f n) [] k.size (none_held old none) k.total, k.within)),
  h.2.most_is,
)
refused_alone old new none f settings total (refused.ArenaFull elements) h = h
refused_alone old new none f settings total refused.OutOfMemory h = tt

-- a manager is ready still without a root
pub ready_left : (old new : Table) (cache : Answers) (root : ℕ) → IsAtRest old cache → new ≡ without_root old root
    → IsTable new → IsAtRest new cache
ready_left old new cache root ready is table = record {
  table = table;
  no_move = ap (λ t. t.moving) is ∙ ready.no_move;
  bound = ap (λ t. t.bound) is ∙ ready.bound;
  unmarked = subst AreUnmarked (sym is) ready.unmarked;
  serves = subst (Serves cache) (sym is) (serves_roots cache old (remove old.roots root) ready.serves);
}
