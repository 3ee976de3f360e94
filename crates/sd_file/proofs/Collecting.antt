-- The ranks of constants and literals, and that all that a node shows is in order.
use Rattle.std.proofs.Common.{◌≡◌, ◌≢◌, ◌⊎◌, inl, inr, ℕ, ◌==◌, Bool, true, false}
use Rattle.std.proofs.Common.{List, [], ◌∷◌, Some, refl, sym, ◌∙◌, ap, subst, arith}
use Rattle.std.proofs.Common.{if◌then◌else◌}
use Rattle.std.proofs.lemmas.Option.{same_Some}
use Rattle.std.proofs.lemmas.Map.Lookups.{exact_unsigned}
use Rattle.std.specs.List.{AllByRecursion}
use Rattle.std.specs.Option.{IsSome}
use Rattle.std.specs.FinMap.{get}
use Rattle.std.specs.Ordering.{nat_cmp, bool_cmp, ordering_then}
use Rattle.std.specs.declared.cmp.Ordering.{Ordering}
use Rattle.std.specs.declared.cmp.Ordering.TheVariants.{Less, Equal, Greater}
use Rattle.sd_model.specs.Tree.{Tree, right_base}
use Rattle.sd_model.specs.Diagram.{Diagram, Bottom, Top, Literal, Decomposition, Elements, End, Pair, diagram_cmp}
use Rattle.sd_model.specs.Canonical.{IsCanonical, canonical_literal, canonical_in_left, canonical_in_right}
use Rattle.sd_vtree.specs.Numbered.{plain_tree}
use Rattle.sd_laws.specs.Shown.{ShowElements}
use Rattle.sd_laws.proofs.Codes.{one_code}
use Rattle.sd_laws.proofs.Numbers.{literal_canonical}
use Rattle.sd_laws.proofs.Places.{position_within}
use Rattle.sd_manager.specs.Table.{Table}
use Rattle.sd_manager.specs.Shown.{Shows, constant_diagram}
use Rattle.sd_manager.specs.Valid.{IsTable}
use Rattle.sd_manager.proofs.Holding.{some_value}
use Rattle.sd_file.specs.declared.known.Ordered.{Ordered}
use Rattle.sd_file.specs.declared.known.Rank.TheVariants as rank
use Rattle.sd_file.specs.Ordered.{Rank, rank_of, list_of, IsOrdered, AreOrdered}
use Rattle.sd_file.specs.Ranks.{rank_cmp, FitsRank, HasRanks, AreRanks, FitsPlain, ArePlain, AreLeft, AreCollected}
use Rattle.sd_file.specs.declared.order.Found.{Found}
use Rattle.sd_file.proofs.Ranking.{nat_same, if_tells}

-- the rank of a constant fits it
pub constant_fits : (value : Bool) → FitsPlain (constant_diagram value) (rank.Constant value)
constant_fits true = refl
constant_fits false = refl

-- literals

-- the rank of a literal fits it
pub literal_fits : (q y : ℕ) (s : Bool) (d : Diagram) → Literal q y s ≡ d → FitsPlain d (rank.Literal q s)
literal_fits q y s d e = subst (λ x. FitsPlain x (rank.Literal q s)) e refl

-- constants and literals

-- two literals at one position are of one variable
one_variable : {t : Tree} {b c p q x y : ℕ} {s u : Bool} → IsCanonical t b (Literal p x s) →
    IsCanonical t c (Literal q y u) → b ≡ c → p ≡ q → x ≡ y
one_variable (canonical_literal s) (canonical_literal u) e f = refl
one_variable (canonical_in_left m k) (canonical_in_left n j) e f = one_variable k j e f
one_variable (canonical_in_right {l = l} m k) (canonical_in_right n j) e f = one_variable k j (ap (right_base l) e) f
one_variable (canonical_in_left m k) (canonical_in_right n j) e f =
    absurd (omega (arith, e, f, (position_within k refl).1, (position_within j refl).0))
one_variable (canonical_in_right m k) (canonical_in_left n j) e f =
    absurd (omega (arith, e, f, (position_within j refl).1, (position_within k refl).0))

-- two literals are compared as their positions and signs
literals_compared : (o k m : Ordering) → (o ≡ Equal → m ≡ Equal) →
    ordering_then o k ≡ ordering_then o (ordering_then k m)
literals_compared Less k m h = refl
literals_compared Equal k m h = sym (last k (h refl))
  where
    last : (k : Ordering) → m ≡ Equal → ordering_then k m ≡ k
    last Less e = refl
    last Equal e = e
    last Greater e = refl
literals_compared Greater k m h = refl

-- ranks of constants and literals are compared as these are
plain_order : (t : Table) → IsTable t → (c b : ℕ) (r s : Rank) (d e : Diagram) → FitsPlain d r → FitsPlain e s →
    Shows t c d → Shows t b e → rank_cmp r s ≡ diagram_cmp d e
plain_order t table c b r s Bottom Bottom f g h k = ap (λ x. rank_cmp x s) f ∙ ap (rank_cmp (rank.Constant false)) g
plain_order t table c b r s Bottom Top f g h k = ap (λ x. rank_cmp x s) f ∙ ap (rank_cmp (rank.Constant false)) g
plain_order t table c b r s Bottom (Literal q y u) f g h k =
    ap (λ x. rank_cmp x s) f ∙ ap (rank_cmp (rank.Constant false)) g
plain_order t table c b r s Top Bottom f g h k = ap (λ x. rank_cmp x s) f ∙ ap (rank_cmp (rank.Constant true)) g
plain_order t table c b r s Top Top f g h k = ap (λ x. rank_cmp x s) f ∙ ap (rank_cmp (rank.Constant true)) g
plain_order t table c b r s Top (Literal q y u) f g h k =
    ap (λ x. rank_cmp x s) f ∙ ap (rank_cmp (rank.Constant true)) g
plain_order t table c b r s (Literal p x v) Bottom f g h k =
    ap (λ z. rank_cmp z s) f ∙ ap (rank_cmp (rank.Literal p v)) g
plain_order t table c b r s (Literal p x v) Top f g h k =
    ap (λ z. rank_cmp z s) f ∙ ap (rank_cmp (rank.Literal p v)) g
plain_order t table c b r s (Literal p x v) (Literal q y u) f g h k =
    ap (λ z. rank_cmp z s) f ∙ ap (rank_cmp (rank.Literal p v)) g
    ∙ literals_compared (nat_cmp p q) (bool_cmp v u) (nat_cmp x y)
    (λ e.
    let at : p ≡ q = exact_unsigned p q e in
    nat_same x y
    (one_variable (literal_canonical (plain_tree t.vtree) 0 x p v h.1)
    (literal_canonical (plain_tree t.vtree) 0 y q u k.1) refl
    at))
plain_order t table c b r s (Decomposition p es) e f g h k = absurd f
plain_order t table c b r s Bottom (Decomposition q fs) f g h k = absurd g
plain_order t table c b r s Top (Decomposition q fs) f g h k = absurd g
plain_order t table c b r s (Literal p x v) (Decomposition q fs) f g h k = absurd g

-- a rank of a constant or a literal is a rank
plain_fits : (d : Diagram) (r : Rank) → FitsPlain d r → FitsRank d r
plain_fits Bottom r h = h
plain_fits Top r h = h
plain_fits (Literal p x s) r h = h
plain_fits (Decomposition p es) r h = absurd h

-- before decompositions have ranks, all of them are left
pub all_left : (t : Table) → IsTable t → (o : Ordered) (f : Found) → AreCollected t o f → AreLeft t o f.groups
all_left t table o f h =
    record {
      ranks =
          record {
            fits = λ c r d is shows. plain_fits d r (h.plain c r d is shows);
            order = λ c b r s d e is at shows seen. plain_order t table c b r s d e (h.plain c r d is shows)
                (h.plain b s e at seen) shows seen;
            lists = λ c p r es is shows. absurd (h.plain c r (Decomposition p es) is shows);
          };
      each = h.found.each;
      fresh = λ c p r es v is shows. absurd (h.plain c r (Decomposition p es) is shows);
      closed = h.closed;
    }

-- one more rank of a constant or a literal
pub plain_given : (t : Table) (old new : Ordered) (c : ℕ) (r : Rank) → ArePlain t old →
    ((b : ℕ) → rank_of new b ≡ (if b == c then Some r else rank_of old b)) →
    ((d : Diagram) → Shows t c d → FitsPlain d r) → ArePlain t new
plain_given t old new c r h given fits b s d is shows = go (if_tells b c (Some r) (rank_of old b))
  where
    go : ((b ≡ c) × ((if b == c then Some r else rank_of old b) ≡ Some r))
        ⊎ ((b ≢ c) × ((if b == c then Some r else rank_of old b) ≡ rank_of old b)) → FitsPlain d s
    go (inl k) =
        subst (FitsPlain d) (same_Some r s (sym k.1 ∙ sym (given b) ∙ is))
        (fits d (subst (λ x. Shows t x d) k.0 shows))
    go (inr k) = h b s d (sym k.1 ∙ sym (given b) ∙ is) shows

-- all that a node with a rank shows is in order
mutual
  pub in_order_below : (t : Table) → IsTable t → (o : Ordered) → AreRanks t o → (d : Diagram) (c : ℕ) →
      IsSome (rank_of o c) → Shows t c d → IsOrdered t d (list_of o)
  in_order_below t table o ranks Bottom c is shows = tt
  in_order_below t table o ranks Top c is shows = tt
  in_order_below t table o ranks (Literal p x s) c is shows = tt
  in_order_below t table o ranks (Decomposition p es) c is shows =
      let r = some_value (rank_of o c) is in
      let l = ranks.lists c p r.0 es r.1 shows in (
        λ b seen.
            record {
              list = l.list;
              is =
                  ap (list_of o) (one_code t.vtree (get t.linked) table.keys (Decomposition p es) b c seen shows)
                  ∙ l.is;
              shown = l.shown;
            },
        in_order_elements t table o ranks es l.list l.shown l.ranked,
      )

  pub in_order_elements : (t : Table) → IsTable t → (o : Ordered) → AreRanks t o → (es : Elements)
      (list : List (ℕ × ℕ)) → ShowElements t.vtree (get t.linked) list es → AllByRecursion (HasRanks o) list →
      AreOrdered t es (list_of o)
  in_order_elements t table o ranks End list shown ranked = tt
  in_order_elements t table o ranks (Pair p s rest) [] shown ranked = absurd shown
  in_order_elements t table o ranks (Pair p s rest) (e ∷ list) shown ranked = (
    in_order_below t table o ranks p e.0 ranked.0.0 shown.0,
    in_order_below t table o ranks s e.1 ranked.0.1 shown.1,
    in_order_elements t table o ranks rest list shown.2 ranked.1,
  )
