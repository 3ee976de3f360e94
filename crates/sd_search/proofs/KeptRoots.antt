-- What the held roots show after moves, after the way back, and after a journal was settled.
use Rattle.std.proofs.Common.{◌≡◌, ℕ, List, [], ◌∷◌, Some, None, inl, inr, refl, sym, ap}
use Rattle.std.proofs.Common.{subst, ◌∙◌}
use Rattle.std.specs.List.{AllZip}
use Rattle.std.specs.Ordering.{nat_cmp}
use Rattle.std.specs.FinMap.{FinMap, get}
use Rattle.sd_model.specs.declared.trees.Move.{Move}
use Rattle.sd_model.specs.Tree.{Tree, leaves, IsVtree}
use Rattle.sd_model.specs.Diagram.{Diagram, meaning}
use Rattle.sd_model.specs.Expression.{Expression}
use Rattle.sd_model.specs.Size.{HasSize, IsDiagramOf, size_of}
use Rattle.sd_model.proofs.Determined.{diagram_determined}
use Rattle.sd_vtree.specs.Numbered.{Numbered, plain_tree, IsNumbered}
use Rattle.sd_laws.proofs.Codes.{one_diagram}
use Rattle.sd_laws.proofs.Evaluated.{value_of_shown}
use Rattle.sd_laws.proofs.Lists.{IsAmong, IsWithin, first_at, second_at}
use Rattle.sd_manager.specs.Table.{Table}
use Rattle.sd_manager.specs.Valid.{IsTable}
use Rattle.sd_sweep.specs.Reached.{reached_first, KeepsReached}
use Rattle.sd_move.specs.Journal.{Journal}
use Rattle.sd_move.specs.Moves.{HasMoved, HasSizeAfter, IsMoved}
use Rattle.sd_move.proofs.AfterSweep.{value_then}
use Rattle.sd_compile.specs.Total.{AreHeldFormulas}
use Rattle.sd_compile.proofs.Holding.{held_among, among_held, same_size}
use Rattle.sd_compile.proofs.Kept.{kept_shown}
use Rattle.sd_search.specs.Kept.{StaysShown, KeepsRoots}

-- the roots are the same and show the same functions, over as many variables
pub record ShowsOn (old new : Table) : Type 0 where
  pub variables : leaves (plain_tree new.vtree) ≡ leaves (plain_tree old.vtree)
  pub roots : new.roots ≡ old.roots
  pub functions : (root c : ℕ) → get old.roots root ≡ Some c → StaysShown old new c

pub shows_kept : (a b : Table) → KeepsRoots a b → ShowsOn a b
shows_kept a b k = record { variables = k.variables; roots = k.roots; functions = k.functions }

-- ---- one after the other, and back

pub shows_same : (t : Table) → IsTable t → t.moving ≡ None → ShowsOn t t
shows_same t table still = record {
  variables = refl;
  roots = refl;
  functions = λ root c held.
      let is = table.held still root c held in
      record { before = is.diagram; after = is.diagram; shown = is.is; shown_now = is.is; same = λ a. refl };
}

pub shows_both : (a b c : Table) → IsTable b → ShowsOn a b → ShowsOn b c → ShowsOn a c
shows_both a b c table h k = record {
  variables = k.variables ∙ h.variables;
  roots = k.roots ∙ h.roots;
  functions = λ root z held.
      let f = h.functions root z held in
      let g = k.functions root z (ap (λ r. get r root) h.roots ∙ held) in
      let one : g.before ≡ f.after =
      one_diagram b.vtree (get b.linked) table.numbered g.before z f.after g.shown.shows f.shown_now.shows in
      record {
        before = f.before;
        after = g.after;
        shown = f.shown;
        shown_now = g.shown_now;
        same = λ a. g.same a ∙ ap (λ d. meaning d a) one ∙ f.same a;
      };
}

pub shows_back : (a b : Table) → ShowsOn a b → ShowsOn b a
shows_back a b h = record {
  variables = sym h.variables;
  roots = sym h.roots;
  functions = λ root c held.
      let f = h.functions root c (ap (λ r. get r root) (sym h.roots) ∙ held) in
      record {
        before = f.after;
        after = f.before;
        shown = f.shown_now;
        shown_now = f.shown;
        same = λ a. sym (f.same a);
      };
}

-- each reached node stays with its key
pub shows_reached : (a b : Table) → IsTable a → a.moving ≡ None → KeepsReached a b → ShowsOn a b
shows_reached a b table still k = record {
  variables = ap (λ t. leaves (plain_tree t)) k.vtree;
  roots = k.roots;
  functions = λ root c held.
      let is = table.held still root c held in
      record {
        before = is.diagram;
        after = is.diagram;
        shown = is.is;
        shown_now = kept_shown a b k root c is.diagram held is.is;
        same = λ a. refl;
      };
}

-- the vtree was moved
pub shows_moved : (a b : Table) (kind : Move) (place : ℕ) (j : Journal) → IsTable a → IsTable b → a.moving ≡ None
    → leaves (plain_tree b.vtree) ≡ leaves (plain_tree a.vtree) → IsMoved a b kind place j → ShowsOn a b
shows_moved a b kind place j t u still count m = record {
  variables = count;
  roots = m.roots;
  functions = λ root c held.
      let was = t.held still root c held in
      let is = u.held m.no_move root c (ap (λ r. get r root) m.roots ∙ held) in
      record {
        before = was.diagram;
        after = is.diagram;
        shown = was.is;
        shown_now = is.is;
        same = λ x.
            value_of_shown b.vtree (get b.linked) u.numbered c is.diagram is.is x
            ∙ value_then a b kind place j t u m c (λ n same. reached_first (inl (root, held ∙ ap Some same)))
            was.diagram was.is x;
      };
}

-- runs are loose no more
pub shows_runs : (a b c : Table) (loose : FinMap nat_cmp (List (ℕ × ℕ))) (free : FinMap nat_cmp ℕ)
    → c ≡ record b { loose = loose; free = free } → ShowsOn a b → ShowsOn a c
shows_runs a b c loose free is h = subst (ShowsOn a) (sym is) (record {
  variables = h.variables;
  roots = h.roots;
  functions = λ root z held.
      let f = h.functions root z held in
      record {
        before = f.before;
        after = f.after;
        shown = f.shown;
        shown_now = record { shows = f.shown_now.shows; canonical = f.shown_now.canonical };
        same = f.same;
      };
})

-- ---- what a search keeps

pub kept_itself : (t : Table) → IsTable t → t.moving ≡ None → KeepsRoots t t
kept_itself t table still =
    let h = shows_same t table still in
    record {
      variables = h.variables;
      roots = h.roots;
      functions = h.functions;
      loose = refl;
      bound = refl;
      no_move = still;
    }

pub kept_both : (a b c : Table) → IsTable b → KeepsRoots a b → KeepsRoots b c → KeepsRoots a c
kept_both a b c table h k =
    let s = shows_both a b c table (shows_kept a b h) (shows_kept b c k) in
    record {
      variables = s.variables;
      roots = s.roots;
      functions = s.functions;
      loose = k.loose ∙ h.loose;
      bound = k.bound ∙ h.bound;
      no_move = k.no_move;
    }

pub kept_reached : (a b : Table) → IsTable a → a.moving ≡ None → KeepsReached a b → b.bound ≡ a.bound → b.moving ≡ None
    → KeepsRoots a b
kept_reached a b table was k bound still =
    let s = shows_reached a b table was k in
    record {
      variables = s.variables;
      roots = s.roots;
      functions = s.functions;
      loose = k.loose;
      bound = bound;
      no_move = still;
    }

-- ---- the formulas that roots hold

pub formulas_on : (a b : Table) (fs : List Expression) → IsTable a → IsTable b → ShowsOn a b → AreHeldFormulas a fs
    → AreHeldFormulas b fs
formulas_on a b fs t u h are = record {
  each = λ g m.
      let f = are.each g m in
      let s = h.functions f.held.root f.held.code f.held.held in
      let one : s.before ≡ f.diagram =
      one_diagram a.vtree (get a.linked) t.numbered s.before f.held.code f.diagram s.shown.shows f.held.is.shows in
      record {
        diagram = s.after;
        held = record {
          root = f.held.root;
          code = f.held.code;
          held = ap (λ r. get r f.held.root) h.roots ∙ f.held.held;
          is = s.shown_now;
        };
        of_formula = record {
          canonical = s.shown_now.canonical;
          same_value = λ x fits.
              s.same x ∙ ap (λ d. meaning d x) one ∙ f.of_formula.same_value x (fits ∙ h.variables);
        };
      };
  only = λ d held.
      let was : get a.roots held.root ≡ Some held.code = ap (λ r. get r held.root) (sym h.roots) ∙ held.held in
      let s = h.functions held.root held.code was in
      let one : s.after ≡ d =
      one_diagram b.vtree (get b.linked) u.numbered s.after held.code d s.shown_now.shows held.is.shows in
      let f = are.only s.before (record { root = held.root; code = held.code; held = was; is = s.shown }) in
      record {
        formula = f.formula;
        among = f.among;
        is = record {
          canonical = held.is.canonical;
          same_value = λ x fits.
              ap (λ e. meaning e x) (sym one) ∙ s.same x ∙ f.is.same_value x (fits ∙ h.variables);
        };
      };
}

-- ---- the size of formulas whose diagrams are those of a list

-- one more of the list
both_within : (e : Diagram) (ds es : List Diagram) → IsAmong e es → IsWithin ds es → IsWithin (e ∷ ds) es
both_within e ds es m h x (inl same) = subst (λ z. IsAmong z es) (sym same) m
both_within e ds es m h x (inr k) = h x k

-- the diagrams of the formulas, which are in the list
diagrams_among : (t : Tree) (fs : List Expression) (es : List Diagram)
    → ((g : Expression) → IsAmong g fs → (e : Diagram) × IsDiagramOf t g e × IsAmong e es)
    → (ds : List Diagram) × AllZip (IsDiagramOf t) fs ds × IsWithin ds es
diagrams_among t [] es h = ([], tt, λ x m. absurd m)
diagrams_among t (g ∷ fs) es h =
    let a = h g (inl refl) in
    let r = diagrams_among t fs es (λ k m. h k (inr m)) in
    (a.0 ∷ r.0, (a.1, r.1), both_within a.0 r.0 es a.2 r.2)

-- each of the list is one of them
among_diagrams : (t : Tree) (fs : List Expression) (ds es : List Diagram) → IsVtree t
    → AllZip (IsDiagramOf t) fs ds
    → ((e : Diagram) → IsAmong e es → (g : Expression) × IsAmong g fs × IsDiagramOf t g e) → IsWithin es ds
among_diagrams t fs ds es valid each only e m =
    let k = only e m in
    let w = second_at (IsDiagramOf t) fs ds each k.0 k.1 in
    subst (λ z. IsAmong z ds) (diagram_determined t k.0 w.0 e valid w.2 k.2) w.1

-- so the formulas have the size of the list
size_of_list : (t : Tree) (fs : List Expression) (es : List Diagram) (n : ℕ) → IsVtree t
    → ((g : Expression) → IsAmong g fs → (e : Diagram) × IsDiagramOf t g e × IsAmong e es)
    → ((e : Diagram) → IsAmong e es → (g : Expression) × IsAmong g fs × IsDiagramOf t g e)
    → size_of es ≡ n → HasSize fs t n
size_of_list t fs es n valid each only is =
    let ds = diagrams_among t fs es each in
    record {
      diagrams = ds.0;
      each = ds.1;
      size = same_size ds.0 es ds.2 (among_diagrams t fs ds.0 es valid ds.1 only) ∙ is;
    }

-- a diagram that a move leads to is that of the formula
of_moved : (old : Tree) (tree : Numbered) (g : Expression) (d e : Diagram) → leaves (plain_tree tree) ≡ leaves old
    → IsDiagramOf old g d → HasMoved tree d e → IsDiagramOf (plain_tree tree) g e
of_moved old tree g d e count of h = record {
  canonical = h.canonical;
  same_value = λ a fits. h.same a ∙ of.same_value a (fits ∙ count);
}

-- the size of all held diagrams after a move is that of the formulas
pub size_moved : (t : Table) (fs : List Expression) (kind : Move) (place n : ℕ) → IsNumbered t.vtree
    → AreHeldFormulas t fs → (h : HasSizeAfter t kind place n) → IsVtree (plain_tree h.tree)
    → leaves (plain_tree h.tree) ≡ leaves (plain_tree t.vtree) → HasSize fs (plain_tree h.tree) n
size_moved t fs kind place n numbered are h valid count =
    size_of_list (plain_tree h.tree) fs h.after n valid
    (λ g m.
    let f = are.each g m in
    let w = second_at (HasMoved h.tree) h.before h.after h.each f.diagram
    (held_among t numbered h.before h.held f.held.root f.held.code f.diagram f.held.held f.held.is) in
    (w.0, of_moved (plain_tree t.vtree) h.tree g f.diagram w.0 count f.of_formula w.2, w.1))
    (λ e m.
    let w = first_at (HasMoved h.tree) h.before h.after h.each e m in
    let f = are.only w.0 (among_held t h.before h.held w.0 w.1) in
    (f.formula, f.among, of_moved (plain_tree t.vtree) h.tree f.formula w.0 e count f.is w.2))
    h.size
