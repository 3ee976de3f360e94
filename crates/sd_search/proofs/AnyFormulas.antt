-- The formulas that diagrams are, and those that the held roots stand for.
use Rattle.std.proofs.Common.{◌≡◌, inl, inr, pos, Bool, true, false, ◌&&◌, ◌||◌, List, [], ◌∷◌, map, None}
use Rattle.std.proofs.Common.{refl, sym, ◌∙◌, ap, subst}
use Rattle.sd_model.specs.declared.trees.Operation.TheVariants.{And, Or}
use Rattle.sd_model.specs.Tree.{Tree}
use Rattle.sd_model.specs.Canonical.{IsCanonical}
use Rattle.sd_model.specs.Diagram.{Diagram, Bottom, Top, Literal, Decomposition, Elements, End, Pair}
use Rattle.sd_model.specs.Diagram.{meaning, some_element}
use Rattle.sd_model.specs.Expression.{Expression, Constant, Atom, Combined, Negated, expression_value}
use Rattle.sd_model.specs.Size.{IsDiagramOf}
use Rattle.sd_vtree.specs.Numbered.{plain_tree}
use Rattle.sd_laws.proofs.Lists.{IsAmong}
use Rattle.sd_manager.specs.Table.{Table}
use Rattle.sd_manager.specs.Valid.{IsTable}
use Rattle.sd_sweep.specs.Reached.{AreHeldDiagrams}
use Rattle.sd_compile.specs.Total.{IsHeldDiagram, IsHeldFormula, IsOfSome, AreHeldFormulas}
use Rattle.sd_compile.proofs.Holding.{held_among, among_held, held_list}

abbrev mutual
  -- a diagram as a formula
  formula_of : Diagram → Expression
  formula_of Bottom = Constant false
  formula_of Top = Constant true
  formula_of (Literal position variable true) = Atom (pos variable)
  formula_of (Literal position variable false) = Negated (Atom (pos variable))
  formula_of (Decomposition position elements) = formula_of_elements elements

  -- the disjunction of elements
  formula_of_elements : Elements → Expression
  formula_of_elements End = Constant false
  formula_of_elements (Pair p s rest) =
      Combined Or (Combined And (formula_of p) (formula_of s)) (formula_of_elements rest)

mutual
  -- it has the diagram's value
  same_meaning : (d : Diagram) (a : List Bool) → meaning d a ≡ expression_value (formula_of d) a
  same_meaning Bottom a = refl
  same_meaning Top a = refl
  same_meaning (Literal position variable true) a = refl
  same_meaning (Literal position variable false) a = refl
  same_meaning (Decomposition position elements) a = same_elements elements a

  -- and so has that of elements
  same_elements : (es : Elements) (a : List Bool) → some_element es a ≡ expression_value (formula_of_elements es) a
  same_elements End a = refl
  same_elements (Pair p s rest) a =
      ap (λ b. (b && meaning s a) || some_element rest a) (same_meaning p a)
      ∙ ap (λ b. (expression_value (formula_of p) a && b) || some_element rest a) (same_meaning s a)
      ∙ ap (λ b. (expression_value (formula_of p) a && expression_value (formula_of s) a) || b) (same_elements rest a)

-- a canonical diagram is that of its formula
is_of_itself : (t : Tree) (d : Diagram) → IsCanonical t 0 d → IsDiagramOf t (formula_of d) d
is_of_itself t d canonical = record { canonical = canonical; same_value = λ a n. same_meaning d a }

-- ---- lists

-- the formula of one of the list is one of the formulas
formula_among : (ds : List Diagram) (d : Diagram) → IsAmong d ds → IsAmong (formula_of d) (map formula_of ds)
formula_among [] d m = absurd m
formula_among (e ∷ ds) d (inl same) = inl (ap formula_of same)
formula_among (e ∷ ds) d (inr m) = inr (formula_among ds d m)

-- and each of these is that of one of the list
among_formula : (ds : List Diagram) (g : Expression) → IsAmong g (map formula_of ds) →
    (d : Diagram) × IsAmong d ds × (g ≡ formula_of d)
among_formula [] g m = absurd m
among_formula (e ∷ ds) g (inl same) = (e, inl refl, same)
among_formula (e ∷ ds) g (inr m) = let r = among_formula ds g m in (r.0, inr r.1, r.2)

-- ---- what the roots hold

module _ (t : Table) (table : IsTable t) (ds : List Diagram) (are : AreHeldDiagrams t ds) where
  each_held : (g : Expression) → IsAmong g (map formula_of ds) → IsHeldFormula t g
  each_held g m =
      let w = among_formula ds g m in
      let held = among_held t ds are w.0 w.1 in
      record {
        diagram = w.0;
        held = held;
        of_formula = subst (λ f. IsDiagramOf (plain_tree t.vtree) f w.0) (sym w.2)
            (is_of_itself (plain_tree t.vtree) w.0 held.is.canonical);
      }

  only_held : (d : Diagram) → IsHeldDiagram t d → IsOfSome (plain_tree t.vtree) (map formula_of ds) d
  only_held d held = record {
    formula = formula_of d;
    among = formula_among ds d (held_among t table.numbered ds are held.root held.code d held.held held.is);
    is = is_of_itself (plain_tree t.vtree) d held.is.canonical;
  }

-- The held roots of a valid table stand for some formulas.
pub any_formulas : (t : Table) → IsTable t → t.moving ≡ None → (fs : List Expression) × AreHeldFormulas t fs
any_formulas t table still =
    let held = held_list t (λ root c is. table.held still root c is) in (
      map formula_of held.0,
      record { each = each_held t table held.0 held.1; only = only_held t table held.0 held.1 },
    )
