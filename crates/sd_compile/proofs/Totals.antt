-- The total size with a prefix held, as a function of what roots hold.
use Rattle.std.proofs.Common.{◌≡◌, ◌≢◌, inl, inr, ℕ, ◌≤◌, List, ◌∷◌, Some, None, sym, ap, subst, ◌∙◌}
use Rattle.std.proofs.lemmas.Bool.{cases_eq}
use Rattle.std.proofs.lemmas.Option.{same_Some, none-some}
use Rattle.std.specs.FinMap.{get}
use Rattle.sd_runs.proofs.Maps.{get_insert_same, get_insert_other, get_remove_same, get_remove_other}
use Rattle.sd_model.specs.Diagram.{Diagram}
use Rattle.sd_model.specs.Canonical.{IsCanonical}
use Rattle.sd_model.specs.Tree.{leaves}
use Rattle.sd_model.specs.Expression.{Expression, expression_value}
use Rattle.sd_model.specs.Size.{size_of, IsDiagramOf}
use Rattle.sd_model.proofs.Determined.{diagram_determined}
use Rattle.sd_vtree.specs.Numbered.{Numbered, plain_tree, IsNumbered}
use Rattle.sd_laws.proofs.Codes.{one_diagram}
use Rattle.sd_laws.proofs.Lists.{IsAmong, IsWithin}
use Rattle.sd_manager.specs.Table.{Table}
use Rattle.sd_manager.specs.Shown.{ShowsCanonical, IsNodeOf}
use Rattle.sd_manager.specs.Valid.{IsTable}
use Rattle.sd_manager.specs.Making.{Extends, with_root, without_root}
use Rattle.sd_manager.proofs.Totals.{left_was}
use Rattle.sd_manager.proofs.Extending.{extends_self}
use Rattle.sd_apply.specs.Answers.{HasAnswer}
use Rattle.sd_apply.proofs.Listed.{shown_on}
use Rattle.sd_sweep.specs.Reached.{AreHeldDiagrams, KeepsReached}
use Rattle.sd_compile.specs.Total.{HasTotalWith, IsWithinLimit, IsTotal, IsTotalWithin, IsHeldDiagram}
use Rattle.sd_compile.proofs.Holding.{held_among, among_held, held_list, same_size}
use Rattle.sd_compile.proofs.Kept.{kept_shown, without_absent}

-- each root holds a node
abbrev pub HoldNodes : Table → Type 0
HoldNodes t = (root c : ℕ) → get t.roots root ≡ Some c → IsNodeOf t c

-- outside a move they do, also without one of them
pub hold_nodes : (t : Table) → IsTable t → t.moving ≡ None → HoldNodes t
hold_nodes t i still root c held = i.held still root c held

pub hold_without : (t : Table) (root : ℕ) → HoldNodes t → HoldNodes (without_root t root)
hold_without t root h other c held =
    let k = h other c (left_was t.roots root other c held) in
    record { diagram = k.diagram; is = record { shows = k.is.shows; canonical = k.is.canonical } }

-- one list of diagrams beside the same one
pub beside_within : (d : Diagram) (xs ys : List Diagram) → IsWithin xs ys → IsWithin (d ∷ xs) (d ∷ ys)
beside_within d xs ys h x (inl e) = inl e
beside_within d xs ys h x (inr m) = inr (h x m)

-- the diagram of an answer is that of the formula
pub of_answer : (old mid : Table) (f : Expression) (node : ℕ) → Extends old mid →
    (h : HasAnswer mid (expression_value f) node) → IsDiagramOf (plain_tree old.vtree) f h.diagram
of_answer old mid f node x h =
    record {
      canonical = subst (λ (v : Numbered). IsCanonical (plain_tree v) 0 h.diagram) x.vtree h.is.canonical;
      same_value = λ a n. h.value a;
    }

-- ---- a root gets another node

module _ (old mid : Table) (root node : ℕ) (f : Expression) (i : IsTable old) (still : old.moving ≡ None)
    (x : Extends old mid) (shown : Diagram) (is : ShowsCanonical mid node shown)
    (of : IsDiagramOf (plain_tree old.vtree) f shown) where
  -- the table in which it holds the node
  abbrev held_table : Table
  held_table = with_root mid root node

  -- the table without it
  abbrev others : Table
  others = without_root old root

  -- the vtree is numbered still
  numbered : IsNumbered mid.vtree
  numbered = subst IsNumbered (sym x.vtree) i.numbered

  -- another root holds what it held
  same_other : (other : ℕ) → other ≢ root → get held_table.roots other ≡ get old.roots other
  same_other other ne = get_insert_other mid.roots root node other ne ∙ ap (λ m. get m other) x.roots

  -- a root that is there without this one is another
  is_other : (other c : ℕ) → get others.roots other ≡ Some c → other ≢ root
  is_other other c held same =
      none-some c (sym (get_remove_same old.roots root) ∙ ap (get others.roots) (sym same) ∙ held)

  -- each root holds a node
  pub held_nodes : HoldNodes held_table
  held_nodes other c held = elim (cases_eq other root) [
    | inl same ↦
        let e : node ≡ c =
        same_Some node c (sym (get_insert_same mid.roots root node) ∙ ap (get held_table.roots) (sym same) ∙ held) in
        subst (IsNodeOf held_table) e
        (record { diagram = shown; is = record { shows = is.shows; canonical = is.canonical } })
    | inr ne ↦
        let k = i.held still other c (sym (same_other other ne) ∙ held) in
        let m = shown_on old mid x c k.diagram k.is in
        record { diagram = k.diagram; is = record { shows = m.shows; canonical = m.canonical } }
  ]

  module _ (ds es : List Diagram) (are : AreHeldDiagrams held_table ds) (were : AreHeldDiagrams others es) where
    -- the prefix and what others hold are held
    there : IsWithin (shown ∷ es) ds
    there d (inl e) =
        subst (λ z. IsAmong z ds) (sym e)
        (held_among held_table numbered ds are root node shown (get_insert_same mid.roots root node) is)
    there d (inr m) =
        let w = among_held others es were d m in
        let held = same_other w.root (is_other w.root w.code w.held) ∙ left_was old.roots root w.root w.code w.held in
        held_among held_table numbered ds are w.root w.code d held (shown_on old mid x w.code d w.is)

    -- and nothing else
    back : IsWithin ds (shown ∷ es)
    back d m = go (among_held held_table ds are d m)
      where
        go : IsHeldDiagram held_table d → IsAmong d (shown ∷ es)
        go w = elim (cases_eq w.root root) [
          | inl same ↦
              let e : node ≡ w.code =
              same_Some node w.code
              (sym (get_insert_same mid.roots root node) ∙ ap (get held_table.roots) (sym same) ∙ w.held) in
              inl (one_diagram mid.vtree (get mid.linked) numbered d w.code shown w.is.shows
              (subst (λ c. ShowsCanonical mid c shown) e is).shows)
          | inr ne ↦
              let was = sym (same_other w.root ne) ∙ w.held in
              let k = i.held still w.root w.code was in
              let e : k.diagram ≡ d =
              one_diagram mid.vtree (get mid.linked) numbered k.diagram w.code d
              (shown_on old mid x w.code k.diagram k.is).shows w.is.shows in
              inr (subst (λ z. IsAmong z es) e
              (held_among others i.numbered es were w.root w.code k.diagram
              (get_remove_other old.roots root w.root ne ∙ was) k.is))
        ]

    with_others : HasTotalWith others f (size_of ds)
    with_others =
        record {
          held = es;
          are_held = were;
          diagram = shown;
          of_formula = of;
          size = same_size (shown ∷ es) ds there back;
        }

  -- The size of what all roots hold is that of the prefix and what the others held.
  pub total_with : (ds : List Diagram) → AreHeldDiagrams held_table ds → HasTotalWith others f (size_of ds)
  total_with ds are =
      let k = held_list others (hold_without old root (hold_nodes old i still)) in with_others ds k.0 are k.1

  -- so it passes a limit
  pub total_over : (n : ℕ) → IsTotal held_table n → HasTotalWith others f n
  total_over n total =
      let k = held_list held_table held_nodes in
      subst (HasTotalWith others f) (sym (total k.0 k.1)) (total_with k.0 k.1)

  -- or it is within
  pub total_within : (limit : ℕ) → IsTotalWithin held_table limit → IsWithinLimit others f limit
  total_within limit total =
      let k = held_list held_table held_nodes in
      record { size = size_of k.0; total = total_with k.0 k.1; within = total k.0 k.1 }

-- ---- a new root

module _ (t : Table) (root node : ℕ) (f : Expression) (d : Diagram) (i : IsTable t) (still : t.moving ≡ None)
    (is : ShowsCanonical t node d) (of : IsDiagramOf (plain_tree t.vtree) f d) (absent : get t.roots root ≡ None) where
  -- with it the total size passes a limit
  pub hold_over : (n : ℕ) → IsTotal (with_root t root node) n → HasTotalWith t f n
  hold_over n total =
      subst (λ s. HasTotalWith s f n) (without_absent t root absent)
      (total_over t t root node f i still (extends_self t) d is of n total)

  -- or it is within
  pub hold_within : (limit : ℕ) → IsTotalWithin (with_root t root node) limit → IsWithinLimit t f limit
  hold_within limit total =
      subst (λ s. IsWithinLimit s f limit) (without_absent t root absent)
      (total_within t t root node f i still (extends_self t) d is of limit total)

-- ---- what stays with what roots hold

module _ (a b : Table) (numbered : IsNumbered a.vtree) (nodes : HoldNodes a) (k : KeepsReached a b) where
  numbered_on : IsNumbered b.vtree
  numbered_on = subst IsNumbered (sym k.vtree) numbered

  held_there : (ds es : List Diagram) → AreHeldDiagrams a ds → AreHeldDiagrams b es → IsWithin ds es
  held_there ds es h g d m =
      let w = among_held a ds h d m in
      held_among b numbered_on es g w.root w.code d (ap (λ r. get r w.root) k.roots ∙ w.held)
      (kept_shown a b k w.root w.code d w.held w.is)

  held_back : (ds es : List Diagram) → AreHeldDiagrams a ds → AreHeldDiagrams b es → IsWithin es ds
  held_back ds es h g d m =
      let w = among_held b es g d m in
      let was = ap (λ r. get r w.root) (sym k.roots) ∙ w.held in
      let n = nodes w.root w.code was in
      let e : n.diagram ≡ d =
      one_diagram b.vtree (get b.linked) numbered_on n.diagram w.code d
      (kept_shown a b k w.root w.code n.diagram was n.is).shows w.is.shows in
      subst (λ z. IsAmong z ds) e (held_among a numbered ds h w.root w.code n.diagram was n.is)

  -- the total size beside a formula is what it was
  pub total_back : (f : Expression) (n : ℕ) → HasTotalWith b f n → HasTotalWith a f n
  total_back f n h =
      let g = held_list a nodes in
      record {
        held = g.0;
        are_held = g.1;
        diagram = h.diagram;
        of_formula =
            record {
              canonical =
                  subst (λ (v : Numbered). IsCanonical (plain_tree v) 0 h.diagram) k.vtree h.of_formula.canonical;
              same_value = λ x l.
                  h.of_formula.same_value x (l ∙ ap (λ (v : Numbered). leaves (plain_tree v)) (sym k.vtree));
            };
        size =
            same_size (h.diagram ∷ g.0) (h.diagram ∷ h.held)
            (beside_within h.diagram g.0 h.held (held_there g.0 h.held g.1 h.are_held))
            (beside_within h.diagram h.held g.0 (held_back g.0 h.held g.1 h.are_held))
            ∙ h.size;
      }

  pub within_back : (f : Expression) (limit : ℕ) → IsWithinLimit b f limit → IsWithinLimit a f limit
  within_back f limit h = record { size = h.size; total = total_back f h.size h.total; within = h.within }

-- ---- the total size with a formula is one number

module _ (t : Table) (numbered : IsNumbered t.vtree) where
  -- two lists of what is held have the same diagrams
  held_same : (ds es : List Diagram) → AreHeldDiagrams t ds → AreHeldDiagrams t es → IsWithin ds es
  held_same ds es h g d m =
      let w = among_held t ds h d m in held_among t numbered es g w.root w.code d w.held w.is

  -- so a formula has at most one total
  pub total_once : (f : Expression) (m n : ℕ) → HasTotalWith t f m → HasTotalWith t f n → m ≡ n
  total_once f m n h g =
      let one : h.diagram ≡ g.diagram =
      diagram_determined (plain_tree t.vtree) f h.diagram g.diagram numbered.vtree h.of_formula g.of_formula in
      sym h.size
      ∙ same_size (h.diagram ∷ h.held) (h.diagram ∷ g.held)
      (beside_within h.diagram h.held g.held (held_same h.held g.held h.are_held g.are_held))
      (beside_within h.diagram g.held h.held (held_same g.held h.held g.are_held h.are_held))
      ∙ ap (λ d. size_of (d ∷ g.held)) one ∙ g.size

  -- and one that is within a limit passes it not
  pub not_both : (f : Expression) (limit n : ℕ) → IsWithinLimit t f limit → HasTotalWith t f n → n ≤ limit
  not_both f limit n h g = subst (λ k. k ≤ limit) (total_once f h.size n h.total g) h.within
