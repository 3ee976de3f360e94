-- What the codes of a list show in a larger table, and which primes stand below a child of its place.
use Rattle.std.proofs.Common.{◌≡◌, ◌≢◌, inl, inr, ℕ, ◌-◌, ◌≤◌, Bool, true, false, cond, List, [], ◌∷◌, ◌++◌}
use Rattle.std.proofs.Common.{refl, sym, ◌∙◌, ap, subst, arith}
use Rattle.std.specs.List.{AllByRecursion}
use Rattle.std.specs.FinMap.{get}
use Rattle.std.specs.Option.{IsSome}
use Rattle.std.proofs.lemmas.Bool.{false≢true}
use Rattle.sd_model.specs.Diagram.{Diagram, Bottom, meaning}
use Rattle.sd_vtree.specs.Numbered.{IsUnder}
use Rattle.sd_vtree.proofs.Subtrees.{inner_part}
use Rattle.sd_vtree.proofs.Under.{child_left}
use Rattle.sd_laws.specs.Values.{IsSame}
use Rattle.sd_laws.proofs.Evaluated.{value_of, value_of_shown}
use Rattle.sd_laws.proofs.Lists.{all_weaker}
use Rattle.sd_manager.specs.Table.{Table, key_at}
use Rattle.sd_manager.specs.Shown.{HasNode}
use Rattle.sd_manager.specs.Making.{Extends}
use Rattle.sd_manager.specs.Valid.{IsTable}
use Rattle.sd_manager.specs.Views.{pairs_at}
use Rattle.sd_apply.specs.Places.{HasChildren, IsBelow, IsNodeUnder}
use Rattle.sd_apply.proofs.Listed.{node_on}
use Rattle.sd_model.specs.declared.trees.Side.TheVariants.{Left, Right}
use Rattle.sd_move.specs.Rewriting.{AreBelow}
use Rattle.sd_move.specs.Sorting.{on}

-- a code that shows a diagram below a place has its value
pub shown_value : (t : Table) → IsTable t → (p c : ℕ) (d : Diagram) → IsNodeUnder t p c d →
    IsSame (meaning d) (value_of (get t.linked) c)
shown_value t i p c d h =
    value_of_shown t.vtree (get t.linked) i.numbered c d
    (record { shows = h.shows; canonical = h.under.canonical })

-- and keeps it in a larger table
pub value_on : (a b : Table) → IsTable a → IsTable b → Extends a b → (p c : ℕ) → IsBelow a p c →
    IsSame (value_of (get b.linked) c) (value_of (get a.linked) c)
value_on a b i j x p c h w =
    sym (shown_value b j p c h.diagram (node_on a b x p c h.diagram h.is) w)
    ∙ shown_value a i p c h.diagram h.is w

-- what is true somewhere is not false
pub possible_diagram : (d : Diagram) (a : List Bool) → meaning d a ≡ true → d ≢ Bottom
possible_diagram d a is none = false≢true (sym (ap (λ e. meaning e a) none) ∙ is)

-- one value before others
pub before_rest : (b s : Bool) (rest : List Bool) → cond b (s ∷ []) [] ++ rest ≡ cond b (s ∷ rest) rest
before_rest true s rest = refl
before_rest false s rest = refl

-- a node that is no constant and no literal has a number
pub node_key : (m : Table) → IsTable m → (c n : ℕ) → HasNode m c → 2050 ≤ c → n ≡ c - 2050 → IsSome (key_at m n)
node_key m t c n (inl lt) low e = absurd (omega (arith, lt, low, t.numbered.within_limit))
node_key m t c n (inr w) low e = subst (λ k. IsSome (key_at m k)) (sym e) w.1

-- its primes stand below the place
pub primes_below : (m : Table) (p c d : ℕ) → c ≡ d → AreBelow m p (pairs_at m c) →
    AllByRecursion (λ (e : ℕ × ℕ). IsBelow m p (on Left e)) (pairs_at m d)
primes_below m p c d same h =
    subst (λ k. AllByRecursion (λ (e : ℕ × ℕ). IsBelow m p (on Left e)) (pairs_at m k)) same
    (all_weaker (λ (e : ℕ × ℕ). IsBelow m p e.0 × IsBelow m p e.1) (λ (e : ℕ × ℕ). IsBelow m p (on Left e))
    (λ e k. k.0) (pairs_at m c) h)

-- and so do its subs
pub subs_below : (m : Table) (p c d : ℕ) → c ≡ d → AreBelow m p (pairs_at m c) →
    AllByRecursion (λ (e : ℕ × ℕ). IsBelow m p (on Right e)) (pairs_at m d)
subs_below m p c d same h =
    subst (λ k. AllByRecursion (λ (e : ℕ × ℕ). IsBelow m p (on Right e)) (pairs_at m k)) same
    (all_weaker (λ (e : ℕ × ℕ). IsBelow m p e.0 × IsBelow m p e.1) (λ (e : ℕ × ℕ). IsBelow m p (on Right e))
    (λ e k. k.1) (pairs_at m c) h)

-- the left child stands below the place
pub left_child_under : (m : Table) → IsTable m → (p left right : ℕ) → HasChildren m.vtree p left right →
    IsUnder m.vtree left p
left_child_under m t p left right e =
    child_left m.vtree t.numbered p left right (inner_part m.vtree t.numbered p left right e)
