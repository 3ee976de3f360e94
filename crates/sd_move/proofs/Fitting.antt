-- Where the list of a detached node fits that can be sorted after a rotation.
use Rattle.std.proofs.Common.{◌≡◌, inl, inr, ℕ, ◌+◌, ◌<◌, List, [], ◌∷◌, length, Some, refl, sym, ◌∙◌, ap, subst}
use Rattle.std.specs.List.{AllByRecursion}
use Rattle.std.specs.Option.{IsSome, option_map}
use Rattle.std.specs.FinMap.{get}
use Rattle.std.proofs.lemmas.Option.{same_Some}
use Rattle.sd_vtree.specs.Numbered.{Numbered, IsUnder, plain_tree, numbers, number_of, children_at}
use Rattle.sd_vtree.proofs.Under.{under_within}
use Rattle.sd_laws.specs.Depends.{DependsOn}
use Rattle.sd_laws.specs.Values.{Valuation, IsWhole, IsPlaced, ShowsValue}
use Rattle.sd_laws.proofs.Lists.{IsAmong, all_at, all_from}
use Rattle.sd_manager.specs.Table.{Table, key_at}
use Rattle.sd_manager.specs.Valid.{IsTable}
use Rattle.sd_manager.specs.Views.{pairs_at}
use Rattle.sd_manager.proofs.Reading.{pairs_node, detached_key}
use Rattle.sd_apply.specs.Places.{tree_at, IsThere, IsBelow}
use Rattle.sd_apply.proofs.Standing.{stands_here}
use Rattle.sd_model.specs.declared.trees.Side.{Side}
use Rattle.sd_model.specs.declared.trees.Side.TheVariants.{Left, Right}
use Rattle.sd_move.specs.Moving.{Progress}
use Rattle.sd_move.specs.Sorting.{on, HasOneBeside, IsDivided, CanSort}
use Rattle.sd_move.proofs.Below.{below_by_value, value_of_below}
use Rattle.sd_move.proofs.Divided.{inner, outer, AreSides, are_sides, looks_under, fits_lower, fits_upper, is_divided}

-- one code of the list shows nothing below the vtree node
record IsBeside (t : Table) (child : ℕ) (side : Side) (l : List (ℕ × ℕ)) : Type 0 where
  pub pair : ℕ × ℕ
  pub among : IsAmong pair l
  pub beside : ¬ IsBelow t child (on side pair)

-- where one does not, there it is
beside_pair : (t : Table) (child : ℕ) (side : Side) (l : List (ℕ × ℕ)) → HasOneBeside t child side l →
    IsBeside t child side l
beside_pair t child side [] h = absurd h
beside_pair t child side (e ∷ l) (inl not) = record { pair = e; among = inl refl; beside = not }
beside_pair t child side (e ∷ l) (inr h) =
    let i = beside_pair t child side l h in
    record { pair = i.pair; among = inr i.among; beside = i.beside }

module _ (m0 m : Table) (t : Numbered) (side : Side) (x w : ℕ) (h : Progress) (v : Valuation) (n : ℕ) (i : IsTable m)
    (c : CanSort m0 m t side x w h v (n ∷ [])) where
  abbrev own : List (ℕ × ℕ)
  own = c.each.0.list

  own_key : key_at m n ≡ Some (x, own)
  own_key = detached_key m i n (x, own) c.each.0.was

  pub there : IsSome (key_at m n)
  there = subst IsSome (sym own_key) refl

  own_pairs : pairs_at m (2050 + n) ≡ own
  own_pairs = pairs_node m (2050 + n) n (x, own) refl own_key

  whole : IsWhole v own
  whole = c.going.whole n x own own_key

  sides : AreSides side m.vtree x w (outer side t m.vtree x w c.rotated) (inner side t m.vtree x w c.rotated)
  sides = are_sides side t m.vtree x w i.numbered c.rotated

  pub upper_there : IsThere m.vtree x
  upper_there = sides.there

  -- both nodes are numbers of the vtree
  pub lower_within : w < length (numbers m.vtree)
  lower_within = under_within m.vtree i.numbered w x sides.node.under

  pub upper_within : x < length (numbers m.vtree)
  upper_within =
      under_within m.vtree i.numbered x x (stands_here m.vtree x sides.there.part sides.there.is)

  -- a code of the list on the side shows its value
  shown : (s : Side) (e : ℕ × ℕ) → IsAmong e own → ShowsValue m.vtree (get m.linked) v (on s e)
  shown Left e a =
      (all_at (λ (d : ℕ × ℕ). ShowsValue m.vtree (get m.linked) v d.0 × ShowsValue m.vtree (get m.linked) v d.1) own e
      c.each.0.codes a).0
  shown Right e a =
      (all_at (λ (d : ℕ × ℕ). ShowsValue m.vtree (get m.linked) v d.0 × ShowsValue m.vtree (get m.linked) v d.1) own e
      c.each.0.codes a).1

  -- all codes on the side stand below the upper node
  pub under_upper : AllByRecursion (λ (e : ℕ × ℕ). IsBelow m x (on side e)) (pairs_at m (2050 + n))
  under_upper =
      subst (AllByRecursion (λ (e : ℕ × ℕ). IsBelow m x (on side e))) (sym own_pairs)
      (all_from (λ (e : ℕ × ℕ). IsBelow m x (on side e)) own
      (λ e a. below_by_value m v x (on side e) (shown side e a)
      (all_at (λ (d : ℕ × ℕ). DependsOn (tree_at m.vtree x) (v (on side d))) own e
      (looks_under side t m.vtree x w v own c.rotated c.each.0.placed) a)))

  -- the children on the side
  pub lower_child : IsSome (option_map (on side) (children_at m.vtree w))
  lower_child = subst IsSome (sym sides.lower_child) refl

  pub upper_child : IsSome (option_map (on side) (children_at m.vtree x))
  upper_child = subst IsSome (sym sides.upper_child) refl

  pub under_lower_child : (child : ℕ) → option_map (on side) (children_at m.vtree w) ≡ Some child →
      IsUnder m.vtree child x
  under_lower_child child e =
      subst (λ k. IsUnder m.vtree k x)
      (same_Some (number_of (inner side t m.vtree x w c.rotated)) child (sym sides.lower_child ∙ e)) sides.lower_under

  pub under_upper_child : (child : ℕ) → option_map (on side) (children_at m.vtree x) ≡ Some child →
      IsUnder m.vtree child x
  under_upper_child child e =
      subst (λ k. IsUnder m.vtree k x)
      (same_Some (number_of (outer side t m.vtree x w c.rotated)) child (sym sides.upper_child ∙ e)) sides.upper_under

  -- what is below a child looks at its variables alone
  looks_at : (child : ℕ) (s : Numbered) → tree_at m.vtree child ≡ plain_tree s →
      AllByRecursion (λ (e : ℕ × ℕ). IsBelow m child (on side e)) (pairs_at m (2050 + n)) →
      AllByRecursion (λ (e : ℕ × ℕ). DependsOn (plain_tree s) (v (on side e))) own
  looks_at child s same all =
      let here = subst (AllByRecursion (λ (e : ℕ × ℕ). IsBelow m child (on side e))) own_pairs all in
      all_from (λ (e : ℕ × ℕ). DependsOn (plain_tree s) (v (on side e))) own
      (λ e a. subst (λ z. DependsOn z (v (on side e))) same
      (value_of_below m i v child (on side e) (shown side e a)
      (all_at (λ (d : ℕ × ℕ). IsBelow m child (on side d)) own e here a)))

  -- what is not below a child looks at others
  looks_beside : (child : ℕ) (s : Numbered) → tree_at m.vtree child ≡ plain_tree s → (e : ℕ × ℕ) → IsAmong e own →
      ¬ IsBelow m child (on side e) → ¬ DependsOn (plain_tree s) (v (on side e))
  looks_beside child s same e a not d =
      not (below_by_value m v child (on side e) (shown side e a)
      (subst (λ z. DependsOn z (v (on side e))) (sym same) d))

  -- the trees of the two children
  lower_tree : (child : ℕ) → option_map (on side) (children_at m.vtree w) ≡ Some child →
      tree_at m.vtree child ≡ plain_tree (inner side t m.vtree x w c.rotated)
  lower_tree child e =
      ap (tree_at m.vtree)
      (sym (same_Some (number_of (inner side t m.vtree x w c.rotated)) child (sym sides.lower_child ∙ e)))
      ∙ sides.lower_tree

  upper_tree : (child : ℕ) → option_map (on side) (children_at m.vtree x) ≡ Some child →
      tree_at m.vtree child ≡ plain_tree (outer side t m.vtree x w c.rotated)
  upper_tree child e =
      ap (tree_at m.vtree)
      (sym (same_Some (number_of (outer side t m.vtree x w c.rotated)) child (sym sides.upper_child ∙ e)))
      ∙ sides.upper_tree

  list_of : (k : ℕ × List (ℕ × ℕ)) → get m.detached n ≡ Some k → own ≡ k.1
  list_of k e = ap (λ (y : ℕ × List (ℕ × ℕ)). y.1) (same_Some (x, own) k (sym c.each.0.was ∙ e))

  -- a list whose codes on the side are all below the lower node's child fits the lower node
  pub goes_lower : (child : ℕ) → option_map (on side) (children_at m.vtree w) ≡ Some child →
      AllByRecursion (λ (e : ℕ × ℕ). IsBelow m child (on side e)) (pairs_at m (2050 + n)) →
      (k : ℕ × List (ℕ × ℕ)) → get m.detached n ≡ Some k → IsPlaced m.vtree v w k.1
  goes_lower child e all k was =
      subst (IsPlaced m.vtree v w) (list_of k was)
      (fits_lower side t m.vtree x w v own c.rotated c.each.0.placed
      (looks_at child (inner side t m.vtree x w c.rotated) (lower_tree child e) all))

  -- one whose codes are below the upper node's child fits the upper node
  pub goes_upper : (child : ℕ) → option_map (on side) (children_at m.vtree x) ≡ Some child →
      AllByRecursion (λ (e : ℕ × ℕ). IsBelow m child (on side e)) (pairs_at m (2050 + n)) →
      (k : ℕ × List (ℕ × ℕ)) → get m.detached n ≡ Some k → IsPlaced m.vtree v x k.1
  goes_upper child e all k was =
      subst (IsPlaced m.vtree v x) (list_of k was)
      (fits_upper side t m.vtree x w v own c.rotated c.each.0.placed
      (looks_at child (outer side t m.vtree x w c.rotated) (upper_tree child e) all))

  -- and one with a code beside each of the two is divided
  pub goes_nowhere : (lower upper : ℕ) → option_map (on side) (children_at m.vtree w) ≡ Some lower →
      option_map (on side) (children_at m.vtree x) ≡ Some upper →
      HasOneBeside m lower side (pairs_at m (2050 + n)) → HasOneBeside m upper side (pairs_at m (2050 + n)) →
      (k : ℕ × List (ℕ × ℕ)) → get m.detached n ≡ Some k → IsDivided m.vtree x w v k.1
  goes_nowhere lower upper el eu hl hu k was =
      let a = beside_pair m lower side own (subst (HasOneBeside m lower side) own_pairs hl) in
      let b = beside_pair m upper side own (subst (HasOneBeside m upper side) own_pairs hu) in
      subst (IsDivided m.vtree x w v) (list_of k was)
      (is_divided side t m.vtree x w v own c.former c.rotated c.each.0.placed whole a.pair a.among
      (looks_beside lower (inner side t m.vtree x w c.rotated) (lower_tree lower el) a.pair a.among a.beside)
      b.pair b.among
      (looks_beside upper (outer side t m.vtree x w c.rotated) (upper_tree upper eu) b.pair b.among b.beside))
