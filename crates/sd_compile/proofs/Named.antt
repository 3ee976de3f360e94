-- Where each root holds a formula of a list, the total size with one formula more is that of all of them.
use Rattle.std.proofs.Common.{◌≡◌, inl, inr, ℕ, ◌≤◌, List, [], ◌∷◌, None, refl, sym, subst, ◌∙◌}
use Rattle.std.specs.List.{AllZip}
use Rattle.sd_model.specs.Diagram.{Diagram}
use Rattle.sd_model.specs.Expression.{Expression}
use Rattle.sd_model.specs.Size.{IsDiagramOf, HasSize, size_of}
use Rattle.sd_model.proofs.Determined.{diagram_determined}
use Rattle.sd_vtree.specs.Numbered.{plain_tree, IsNumbered}
use Rattle.sd_laws.proofs.Lists.{IsAmong, IsWithin, second_at, first_at}
use Rattle.sd_manager.specs.Table.{Table}
use Rattle.sd_manager.specs.Valid.{IsTable}
use Rattle.sd_sweep.specs.Reached.{AreHeldDiagrams}
use Rattle.sd_compile.specs.Total.{HasTotalWith, IsHeldDiagram, IsHeldFormula, IsOfSome, AreHeldFormulas}
use Rattle.sd_compile.specs.Total.{IsTotal, IsTotalWithin}
use Rattle.sd_compile.proofs.Holding.{held_among, among_held, held_list, same_size}
use Rattle.sd_compile.proofs.Totals.{beside_within, hold_nodes}

-- the diagrams of formulas that are held
formula_list : (t : Table) (fs : List Expression) → ((g : Expression) → IsAmong g fs → IsHeldFormula t g) →
    (ds : List Diagram) × AllZip (IsDiagramOf (plain_tree t.vtree)) fs ds
formula_list t [] h = ([], tt)
formula_list t (g ∷ fs) h =
    let a = h g (inl refl) in
    let r = formula_list t fs (λ k m. h k (inr m)) in
    (a.diagram ∷ r.0, (a.of_formula, r.1))

module _ (t : Table) (numbered : IsNumbered t.vtree) (fs : List Expression)
    (each : (g : Expression) → IsAmong g fs → IsHeldFormula t g)
    (all : (d : Diagram) → IsHeldDiagram t d → IsOfSome (plain_tree t.vtree) fs d) where
  formulas_there : (ds es : List Diagram) → AllZip (IsDiagramOf (plain_tree t.vtree)) fs ds → AreHeldDiagrams t es →
      IsWithin ds es
  formulas_there ds es h held d m =
      let w = first_at (IsDiagramOf (plain_tree t.vtree)) fs ds h d m in
      let k = each w.0 w.1 in
      let e : k.diagram ≡ d =
      diagram_determined (plain_tree t.vtree) w.0 k.diagram d numbered.vtree k.of_formula w.2 in
      subst (λ z. IsAmong z es) e
      (held_among t numbered es held k.held.root k.held.code k.diagram k.held.held k.held.is)

  formulas_back : (ds es : List Diagram) → AllZip (IsDiagramOf (plain_tree t.vtree)) fs ds → AreHeldDiagrams t es →
      IsWithin es ds
  formulas_back ds es h held d m =
      let k = all d (among_held t es held d m) in
      let w = second_at (IsDiagramOf (plain_tree t.vtree)) fs ds h k.formula k.among in
      let e : w.0 ≡ d =
      diagram_determined (plain_tree t.vtree) k.formula w.0 d numbered.vtree w.2 k.is in
      subst (λ z. IsAmong z ds) e w.1

  -- The total size with a formula is the size of it and all formulas that are held.
  pub total_named : (f : Expression) (n : ℕ) → HasTotalWith t f n → HasSize (f ∷ fs) (plain_tree t.vtree) n
  total_named f n h =
      let k = formula_list t fs each in
      record {
        diagrams = h.diagram ∷ k.0;
        each = (h.of_formula, k.1);
        size =
            same_size (h.diagram ∷ k.0) (h.diagram ∷ h.held)
            (beside_within h.diagram k.0 h.held (formulas_there k.0 h.held k.1 h.are_held))
            (beside_within h.diagram h.held k.0 (formulas_back k.0 h.held k.1 h.are_held))
            ∙ h.size;
      }

  -- So is the size of what roots hold.
  pub size_named : (es : List Diagram) → AreHeldDiagrams t es → HasSize fs (plain_tree t.vtree) (size_of es)
  size_named es held =
      let k = formula_list t fs each in
      record {
        diagrams = k.0;
        each = k.1;
        size = same_size k.0 es (formulas_there k.0 es k.1 held) (formulas_back k.0 es k.1 held);
      }

-- The same of formulas that are held and no others.
pub total_formulas : (t : Table) → IsNumbered t.vtree → (f : Expression) (fs : List Expression) (n : ℕ) →
    AreHeldFormulas t fs → HasTotalWith t f n → HasSize (f ∷ fs) (plain_tree t.vtree) n
total_formulas t numbered f fs n are h = total_named t numbered fs are.each are.only f n h

module _ (t : Table) (i : IsTable t) (still : t.moving ≡ None) (fs : List Expression) (are : AreHeldFormulas t fs) where
  -- the total is the size of all formulas that are held
  pub held_size : (n : ℕ) → IsTotal t n → HasSize fs (plain_tree t.vtree) n
  held_size n total =
      let k = held_list t (hold_nodes t i still) in
      subst (HasSize fs (plain_tree t.vtree)) (sym (total k.0 k.1))
      (size_named t i.numbered fs are.each are.only k.0 k.1)

  -- or that size is within a limit
  pub held_within : (limit : ℕ) → IsTotalWithin t limit → (n : ℕ) × HasSize fs (plain_tree t.vtree) n × (n ≤ limit)
  held_within limit total =
      let k = held_list t (hold_nodes t i still) in
      (size_of k.0, size_named t i.numbered fs are.each are.only k.0 k.1, total k.0 k.1)
