-- New nodes below a child of the moved node leave all nodes apart.
use Rattle.std.specs.Prelude.{nat_lt, if◌then◌else◌}
use Rattle.std.proofs.Common.{◌≡◌, ◌⊎◌, inl, inr, ℕ, ◌+◌, ◌-◌, ◌*◌, ◌<◌, Bool, List, Option, Some, None, refl}
use Rattle.std.proofs.Common.{sym, ◌∙◌, ap, subst, arith}
use Rattle.std.specs.Option.{IsSome, is_some}
use Rattle.std.proofs.lemmas.Bool.{le-ltb}
use Rattle.std.proofs.lemmas.Option.{none-some}
use Rattle.sd_model.specs.Tree.{Tree, Node, leaves}
use Rattle.sd_model.specs.Diagram.{Diagram, meaning}
use Rattle.sd_vtree.specs.Numbered.{Numbered, plain_tree, IsNumbered, or_else}
use Rattle.sd_laws.proofs.Nodes.{code_of_node}
use Rattle.sd_laws.specs.Depends.{DependsOn}
use Rattle.sd_laws.specs.Shown.{Lookup, AreKeys, Keeps, ShowsCanonical}
use Rattle.sd_laws.specs.Values.{Valuation, IsSame, ShowsValue, AreApart, KeepsValues, IsTwoSided}
use Rattle.sd_laws.proofs.Evaluated.{value_of, value_of_shown, evaluated}
use Rattle.sd_laws.proofs.Choosing.{depends_same}
use Rattle.sd_laws.proofs.Placing.{depends_left, depends_right}
use Rattle.sd_laws.proofs.Unturned.{IsShownNode}
use Rattle.sd_laws.proofs.OneKey.{one_shown, still_apart}

-- the nodes of two maps
abbrev pub both_of : Lookup → Lookup → Lookup
both_of linked detached n = or_else (linked n) (detached n)

-- joined values

-- the first value where a node is there, and else the second
abbrev where_there : Option (ℕ × List (ℕ × ℕ)) → Bool → Bool → Bool
where_there None b c = c
where_there (Some key) b c = b

-- the one valuation at the nodes of a table, and the other one elsewhere
abbrev pub joined_values : Lookup → Valuation → Valuation → Valuation
joined_values at old new c a = if nat_lt c 2050 then old c a else where_there (at (c - 2050)) (old c a) (new c a)

-- at a node that is there they are the old ones
pub joined_old : (at : Lookup) (old new : Valuation) (n : ℕ) → IsSome (at n) →
    IsSame (joined_values at old new (2050 + n)) (old (2050 + n))
joined_old at old new n h a = go (at n) refl h
  where
    go : (o : Option (ℕ × List (ℕ × ℕ))) → at n ≡ o → IsSome o →
        joined_values at old new (2050 + n) a ≡ old (2050 + n) a
    go None e h = absurd (cc (h))
    go (Some k) e h =
        let number : 2050 + n - 2050 ≡ n = omega arith in
        let key : at (2050 + n - 2050) ≡ Some k = ap at number ∙ e in
        rw (le-ltb (2050 + n) 2050 (omega arith), key) refl

-- and elsewhere the new ones
pub joined_new : (at : Lookup) (old new : Valuation) (n : ℕ) → at n ≡ None →
    IsSame (joined_values at old new (2050 + n)) (new (2050 + n))
joined_new at old new n e a =
    let number : 2050 + n - 2050 ≡ n = omega arith in
    let key : at (2050 + n - 2050) ≡ None = ap at number ∙ e in
    rw (le-ltb (2050 + n) 2050 (omega arith), key) refl

-- more nodes

-- Inside a move the linked nodes became more: each is shown, or is an old one whose function looks beyond the moved
-- node; each new one looks at one of its two children alone, and each detached one at both.
pub record IsGrown (t : Numbered) (old new detached : Lookup) (v : Valuation) (left right : Tree) : Type 0 where
  pub numbered : IsNumbered t
  pub keys : AreKeys new
  pub keeps : Keeps old new
  pub either : (n : ℕ) → IsSome (detached n) → new n ≡ None
  pub kind : (n : ℕ) → IsSome (new n) →
      IsShownNode t new n ⊎ (IsSome (old n) × (¬ DependsOn (Node left right) (v (2050 + n))))
  pub same : (n : ℕ) (d : Diagram) → IsSome (old n) → ShowsCanonical t new (2050 + n) d
      → IsSame (meaning d) (v (2050 + n))
  pub fresh : (n : ℕ) (d : Diagram) → old n ≡ None → ShowsCanonical t new (2050 + n) d →
      DependsOn left (meaning d) ⊎ DependsOn right (meaning d)
  pub waiting : (n : ℕ) → IsSome (detached n) → IsTwoSided left right (v (2050 + n))
  pub apart : AreApart (both_of old detached) v

-- something or nothing
data IsThere (at : Lookup) (n : ℕ) : Type 0 where
  There : IsSome (at n) → IsThere at n
  Absent : at n ≡ None → IsThere at n

-- a map has a number or not
is_there : (at : Lookup) (n : ℕ) → IsThere at n
is_there at n = go (at n) refl
  where
    go : (o : Option (ℕ × List (ℕ × ℕ))) → at n ≡ o → IsThere at n
    go None e = Absent e
    go (Some k) e = There (subst IsSome (sym e) refl)

-- a node of both maps is one of the first or of the second
split_both : (at other : Lookup) (n : ℕ) → IsSome (both_of at other n) →
    IsSome (at n) ⊎ ((at n ≡ None) × IsSome (other n))
split_both at other n h = go (at n) refl
  where
    go : (o : Option (ℕ × List (ℕ × ℕ))) → at n ≡ o → IsSome (at n) ⊎ ((at n ≡ None) × IsSome (other n))
    go None e = inr (e, subst IsSome (ap (λ o. or_else o (other n)) e) h)
    go (Some k) e = inl (subst IsSome (sym e) refl)

-- one of the first is one of both
first_both : (at other : Lookup) (n : ℕ) → IsSome (at n) → IsSome (both_of at other n)
first_both at other n h = go (at n) refl h
  where
    go : (o : Option (ℕ × List (ℕ × ℕ))) → at n ≡ o → IsSome o → IsSome (both_of at other n)
    go None e k = absurd (cc (k))
    go (Some key) e k = subst IsSome (ap (λ o. or_else o (other n)) (sym e)) refl

-- and so is one of the second
second_both : (at other : Lookup) (n : ℕ) → at n ≡ None → IsSome (other n) → IsSome (both_of at other n)
second_both at other n e h = subst IsSome (ap (λ o. or_else o (other n)) (sym e)) h

-- an old node is still there
old_there : (old new : Lookup) → Keeps old new → (n : ℕ) → IsSome (old n) → IsSome (new n)
old_there old new keeps n h = go (old n) refl h
  where
    go : (o : Option (ℕ × List (ℕ × ℕ))) → old n ≡ o → IsSome o → IsSome (new n)
    go None e k = absurd (cc (k))
    go (Some key) e k = subst IsSome (sym (keeps n key e)) refl

-- a shown node is there
pub shown_there : (t : Numbered) → IsNumbered t → (at : Lookup) (n : ℕ) → IsShownNode t at n → IsSome (at n)
shown_there t num at n s = go (code_of_node t at num (2050 + n) s.diagram s.is.shows)
  where
    go : (2050 + n < 2 * leaves (plain_tree t) + 2) ⊎ ((m : ℕ) × (2050 + n ≡ 2050 + m) × IsSome (at m)) → IsSome (at n)
    go (inl lt) = let within_limit = num.within_limit in absurd (omega arith)
    go (inr w) = let e : w.0 ≡ n = let f = w.1 in omega arith in subst (λ k. IsSome (at k)) e w.2

-- the valuation of the grown table
abbrev pub grown_values : Lookup → Lookup → Lookup → Valuation → Valuation
grown_values old new detached v = joined_values (both_of old detached) v (value_of new)

-- a shown node shows its value
pub grown_shown : (t : Numbered) (old new detached : Lookup) (v : Valuation) (left right : Tree) →
    IsGrown t old new detached v left right → (n : ℕ) → IsShownNode t new n →
    ShowsValue t new (grown_values old new detached v) (2050 + n)
grown_shown t old new detached v left right g n s = go (is_there old n) (is_there detached n)
  where
    go : IsThere old n → IsThere detached n → ShowsValue t new (grown_values old new detached v) (2050 + n)
    go (There h) k =
        record {
          diagram = s.diagram;
          is = s.is;
          value = λ a. g.same n s.diagram h s.is a
              ∙ sym (joined_old (both_of old detached) v (value_of new) n (first_both old detached n h) a);
        }
    go (Absent e) (There k) =
        let h : IsSome (new n) = shown_there t g.numbered new n s in absurd (cc (h, ap is_some (g.either n k)))
    go (Absent e) (Absent f) =
        record {
          diagram = s.diagram;
          is = s.is;
          value = λ a. value_of_shown t new g.numbered (2050 + n) s.diagram s.is a
              ∙ sym (joined_new (both_of old detached) v (value_of new) n
              (ap (λ o. or_else o (detached n)) e ∙ f) a);
        }

-- the old nodes keep their values
pub grown_kept : (old new detached : Lookup) (v : Valuation) →
    KeepsValues (both_of old detached) v (grown_values old new detached v)
grown_kept old new detached v n h = joined_old (both_of old detached) v (value_of new) n h

-- what no map has the first one has not
first_absent : (at other : Lookup) (n : ℕ) → both_of at other n ≡ None → at n ≡ None
first_absent at other n h = go (at n) refl
  where
    go : (o : Option (ℕ × List (ℕ × ℕ))) → at n ≡ o → at n ≡ None
    go None e = e
    go (Some key) e =
        absurd (none-some key (sym h ∙ ap (λ o. or_else o (other n)) e))

-- a shown node that neither map had before
pub record IsNewNode (t : Numbered) (old new detached : Lookup) (n : ℕ) : Type 0 where
  pub absent : both_of old detached n ≡ None
  pub shown : IsShownNode t new n

-- where each node of the grown table comes from
origin : (t : Numbered) (old new detached : Lookup) (v : Valuation) (left right : Tree) →
    IsGrown t old new detached v left right → (n : ℕ) → IsSome (both_of new detached n) →
    IsSome (both_of old detached n) ⊎ (IsShownNode t new n × IsNewNode t old new detached n)
origin t old new detached v left right g n h = go (is_there old n) (is_there detached n) (split_both new detached n h)
  where
    fresh : old n ≡ None → detached n ≡ None → IsShownNode t new n ⊎ (IsSome (old n) × (¬ DependsOn (Node left right)
        (v (2050 + n)))) → IsSome (both_of old detached n) ⊎ (IsShownNode t new n × IsNewNode t old new detached n)
    fresh e f (inl s) =
        inr (s, record { absent = ap (λ o. or_else o (detached n)) e ∙ f; shown = s })
    fresh e f (inr k) = inl (first_both old detached n k.0)

    go : IsThere old n → IsThere detached n → IsSome (new n) ⊎ ((new n ≡ None) × IsSome (detached n)) →
        IsSome (both_of old detached n) ⊎ (IsShownNode t new n × IsNewNode t old new detached n)
    go (There k) d w = inl (first_both old detached n k)
    go (Absent e) (There k) w = inl (second_both old detached n e k)
    go (Absent e) (Absent f) (inl k) = fresh e f (g.kind n k)
    go (Absent e) (Absent f) (inr k) = inl (second_both old detached n e k.1)

-- a new node looks at one child alone
looks_below : (t : Numbered) (old new detached : Lookup) (v : Valuation) (left right : Tree) →
    IsGrown t old new detached v left right → (m : ℕ) → IsNewNode t old new detached m →
    DependsOn left (grown_values old new detached v (2050 + m))
    ⊎ DependsOn right (grown_values old new detached v (2050 + m))
looks_below t old new detached v left right g m h =
    go (g.fresh m h.shown.diagram (first_absent old detached m h.absent) h.shown.is)
  where
    go : DependsOn left (meaning h.shown.diagram) ⊎ DependsOn right (meaning h.shown.diagram) →
        DependsOn left (grown_values old new detached v (2050 + m))
        ⊎ DependsOn right (grown_values old new detached v (2050 + m))
    go (inl d) =
        inl (depends_same left (grown_values old new detached v (2050 + m)) (meaning h.shown.diagram)
        (λ a. joined_new (both_of old detached) v (value_of new) m h.absent a
        ∙ sym (value_of_shown t new g.numbered (2050 + m) h.shown.diagram h.shown.is a)) d)
    go (inr d) =
        inr (depends_same right (grown_values old new detached v (2050 + m)) (meaning h.shown.diagram)
        (λ a. joined_new (both_of old detached) v (value_of new) m h.absent a
        ∙ sym (value_of_shown t new g.numbered (2050 + m) h.shown.diagram h.shown.is a)) d)

-- Each other node is none of these: one whose function looks beyond the moved node, or at both of its children, is no
-- function of one child alone, as a new one is.
kind : (t : Numbered) (old new detached : Lookup) (v : Valuation) (left right : Tree) →
    IsGrown t old new detached v left right → (n : ℕ) → IsSome (both_of new detached n) →
    IsShownNode t new n
    ⊎ ((m : ℕ) → IsNewNode t old new detached m →
    ¬ IsSame (grown_values old new detached v (2050 + m)) (grown_values old new detached v (2050 + n)))
kind t old new detached v left right g n h = go (split_both new detached n h)
  where
    far : IsSome (old n) → ¬ DependsOn (Node left right) (v (2050 + n)) → (m : ℕ) → IsNewNode t old new detached m →
        ¬ IsSame (grown_values old new detached v (2050 + m)) (grown_values old new detached v (2050 + n))
    far k not m new' same = side (looks_below t old new detached v left right g m new')
      where
        value : IsSame (v (2050 + n)) (grown_values old new detached v (2050 + m))
        value a = sym (grown_kept old new detached v n (first_both old detached n k) a) ∙ sym (same a)

        side : DependsOn left (grown_values old new detached v (2050 + m))
            ⊎ DependsOn right (grown_values old new detached v (2050 + m)) → ⊥
        side (inl d) =
            not (depends_left left right (v (2050 + n))
            (depends_same left (v (2050 + n)) (grown_values old new detached v (2050 + m)) value d))
        side (inr d) =
            not (depends_right left right (v (2050 + n))
            (depends_same right (v (2050 + n)) (grown_values old new detached v (2050 + m)) value d))

    waits : IsSome (both_of old detached n) → IsTwoSided left right (v (2050 + n)) → (m : ℕ) →
        IsNewNode t old new detached m →
        ¬ IsSame (grown_values old new detached v (2050 + m)) (grown_values old new detached v (2050 + n))
    waits k two m new' same = side (looks_below t old new detached v left right g m new')
      where
        value : IsSame (v (2050 + n)) (grown_values old new detached v (2050 + m))
        value a = sym (grown_kept old new detached v n k a) ∙ sym (same a)

        side : DependsOn left (grown_values old new detached v (2050 + m))
            ⊎ DependsOn right (grown_values old new detached v (2050 + m)) → ⊥
        side (inl d) =
            two.not_left (depends_same left (v (2050 + n)) (grown_values old new detached v (2050 + m)) value d)
        side (inr d) =
            two.not_right (depends_same right (v (2050 + n)) (grown_values old new detached v (2050 + m)) value d)

    linked : IsShownNode t new n ⊎ (IsSome (old n) × (¬ DependsOn (Node left right) (v (2050 + n)))) →
        IsShownNode t new n
        ⊎ ((m : ℕ) → IsNewNode t old new detached m →
        ¬ IsSame (grown_values old new detached v (2050 + m)) (grown_values old new detached v (2050 + n)))
    linked (inl s) = inl s
    linked (inr k) = inr (far k.0 k.1)

    there : IsThere old n → IsSome (detached n) → IsSome (both_of old detached n)
    there (There k) d = first_both old detached n k
    there (Absent e) d = second_both old detached n e d

    go : IsSome (new n) ⊎ ((new n ≡ None) × IsSome (detached n)) →
        IsShownNode t new n
        ⊎ ((m : ℕ) → IsNewNode t old new detached m →
        ¬ IsSame (grown_values old new detached v (2050 + m)) (grown_values old new detached v (2050 + n)))
    go (inl k) = linked (g.kind n k)
    go (inr k) = inr (waits (there (is_there old n) k.1) (g.waiting n k.1))

-- no two nodes, old or new, are one function
pub grown_apart : (t : Numbered) (old new detached : Lookup) (v : Valuation) (left right : Tree) →
    IsGrown t old new detached v left right → AreApart (both_of new detached) (grown_values old new detached v)
grown_apart t old new detached v left right g =
    still_apart t g.numbered new (both_of new detached) (both_of old detached) g.keys (grown_values old new detached v)
    (IsShownNode t new) (IsNewNode t old new detached) (grown_shown t old new detached v left right g)
    (origin t old new detached v left right g) (kind t old new detached v left right g)
    (λ m n hm hn same. g.apart m n hm hn
    (λ a. sym (grown_kept old new detached v m hm a) ∙ same a ∙ grown_kept old new detached v n hn a))

-- at the start of a move all nodes are shown, and so no two are one function
pub shown_apart : (t : Numbered) → IsNumbered t → (at : Lookup) → AreKeys at →
    ((n : ℕ) → IsSome (at n) → IsShownNode t at n) → AreApart at (value_of at)
shown_apart t num at keys shown m n hm hn same =
    let s = shown m hm in
    let r = shown n hn in
    let e : 2050 + m ≡ 2050 + n =
    one_shown t num at keys (value_of at) (2050 + m) (2050 + n) (evaluated t at num (2050 + m) s.diagram s.is)
    (evaluated t at num (2050 + n) r.diagram r.is) same in
    omega (arith, e)
