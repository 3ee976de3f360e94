-- Lists of complete diagrams: what is added to them, and their lines.
use Rattle.std.proofs.Common.{◌≡◌, ◌⊎◌, inl, inr, ℕ, suc, ◌≤◌, Bool, true, false, cond, ◌||◌}
use Rattle.std.proofs.Common.{List, [], ◌∷◌, ◌++◌, map, length, refl, sym, ◌∙◌, ap, subst, arith, append-nil}
use Rattle.std.specs.List.{flat_map}
use Rattle.std.proofs.lemmas.List.{map-append}
use Rattle.std.proofs.lemmas.List.Concat.{flat_map-append}
use Rattle.sd_model.specs.Diagram.{Diagram, Bottom, Top, Literal, Decomposition, Elements, End, Pair}
use Rattle.sd_model.specs.Canonical.{IsElement, first, later}
use Rattle.sd_model.specs.Size.{is_same, walk, walk_elements}
use Rattle.sd_model.specs.Listing.{is_among, add_one, add}
use Rattle.sd_model.specs.Text.{index_of, element_words, node_words, line_text}
use Rattle.sd_model.proofs.Blend.{or_left, or_right}
use Rattle.sd_model.proofs.Adding.{equal_from_same, same_itself, add_append, add_pair, is_among_append}
use Rattle.sd_model.proofs.ClosedLists.{ChildrenAmong}
use Rattle.sd_laws.specs.Depth.{depth, depth_of}
use Rattle.sd_file.specs.Lines.{AreComplete, diagram_lines}

-- what stands in a list

-- what stands in a list stands in a longer one
pub among_more : (x : Diagram) (ds es : List Diagram) → is_among x ds ≡ true → is_among x (ds ++ es) ≡ true
among_more x ds es h = is_among_append x ds es ∙ or_left (is_among x ds) (is_among x es) h

-- so does the last
pub among_last : (ds : List Diagram) (d : Diagram) → is_among d (ds ++ d ∷ []) ≡ true
among_last ds d =
    is_among_append d ds (d ∷ [])
    ∙ or_right (is_among d ds) (is_among d (d ∷ [])) (or_left (is_same d d) false (same_itself d))

-- one of two tests holds
either_test : (b c : Bool) → (b || c) ≡ true → (b ≡ true) ⊎ (c ≡ true)
either_test true c h = inl refl
either_test false c h = inr h

-- what stands in two joined lists stands in one of them
among_either : (x : Diagram) (ds es : List Diagram) → is_among x (ds ++ es) ≡ true →
    (is_among x ds ≡ true) ⊎ (is_among x es ≡ true)
among_either x ds es h = either_test (is_among x ds) (is_among x es) (sym (is_among_append x ds es) ∙ h)

-- what stands in a list of one is that one
among_one : (x d : Diagram) → is_among x (d ∷ []) ≡ true → x ≡ d
among_one x d h = elim (either_test (is_same x d) false h) [
  | inl same ↦ equal_from_same x d same
  | inr never ↦ cc
]

-- what stands in a list stays when others are added
add_keeps : (x : Diagram) (ds es : List Diagram) → is_among x ds ≡ true → is_among x (add ds es) ≡ true
add_keeps x ds [] h = h
add_keeps x ds (e ∷ es) h = add_keeps x (add_one ds e) es (one (is_among e ds))
  where
    one : (b : Bool) → is_among x (cond b ds (ds ++ e ∷ [])) ≡ true
    one true = h
    one false = among_more x ds (e ∷ []) h

-- what is added stands there
add_has : (x : Diagram) (ds es : List Diagram) → is_among x es ≡ true → is_among x (add ds es) ≡ true
add_has x ds [] h = cc
add_has x ds (e ∷ es) h = elim (either_test (is_same x e) (is_among x es) h) [
  | inl same ↦
      add_keeps x (add_one ds e) es
      (subst (λ y. is_among y (add_one ds e) ≡ true) (sym (equal_from_same x e same)) (added (is_among e ds) refl))
  | inr there ↦ add_has x (add_one ds e) es there
]
  where
    added : (b : Bool) → is_among e ds ≡ b → is_among e (cond b ds (ds ++ e ∷ [])) ≡ true
    added true k = k
    added false k = among_last ds e

-- nothing else does
add_only : (x : Diagram) (ds es : List Diagram) → is_among x (add ds es) ≡ true →
    (is_among x ds ≡ true) ⊎ (is_among x es ≡ true)
add_only x ds [] h = inl h
add_only x ds (e ∷ es) h = elim (add_only x (add_one ds e) es h) [
  | inl there ↦ one (is_among e ds) there
  | inr later' ↦ inr (or_right (is_same x e) (is_among x es) later')
]
  where
    one : (b : Bool) → is_among x (cond b ds (ds ++ e ∷ [])) ≡ true →
        (is_among x ds ≡ true) ⊎ (is_among x (e ∷ es) ≡ true)
    one true k = inl k
    one false k = elim (among_either x ds (e ∷ []) k) [
      | inl there ↦ inl there
      | inr last ↦ inr (elim (either_test (is_same x e) false last) [
        | inl same ↦ or_left (is_same x e) (is_among x es) same
        | inr never ↦ cc
      ])
    ]

-- what is there is not added
pub add_there : (ds : List Diagram) (d : Diagram) → is_among d ds ≡ true → add ds (d ∷ []) ≡ ds
add_there ds d h = rw h

-- what is new is added at the end
pub add_new : (ds : List Diagram) (d : Diagram) → is_among d ds ≡ false → add ds (d ∷ []) ≡ ds ++ d ∷ []
add_new ds d h = rw h

-- complete lists

-- a diagram may follow whose primes and subs are there
pub complete_push : (ds : List Diagram) (d : Diagram) → AreComplete ds → ChildrenAmong ds d →
    AreComplete (ds ++ d ∷ [])
complete_push ds d c k = λ q es h p s m. elim (among_either (Decomposition q es) ds (d ∷ []) h) [
  | inl there ↦ both p s (c q es there p s m)
  | inr last ↦
      let same : Decomposition q es ≡ d = among_one (Decomposition q es) d last in
      both p s (subst (ChildrenAmong ds) (sym same) k p s m)
]
  where
    both : (p s : Diagram) → (is_among p ds ≡ true) × (is_among s ds ≡ true) →
        (is_among p (ds ++ d ∷ []) ≡ true) × (is_among s (ds ++ d ∷ []) ≡ true)
    both p s w = (among_more p ds (d ∷ []) w.0, among_more s ds (d ∷ []) w.1)

mutual
  -- nothing is added where the diagram is there
  pub walk_there : (ds : List Diagram) → AreComplete ds → (d : Diagram) → is_among d ds ≡ true →
      add ds (walk d) ≡ ds
  walk_there ds c Bottom h = add_there ds Bottom h
  walk_there ds c Top h = add_there ds Top h
  walk_there ds c (Literal p x s) h = add_there ds (Literal p x s) h
  walk_there ds c (Decomposition q es) h =
      add_append ds (walk_elements es) (Decomposition q es ∷ [])
      ∙ ap (λ l. add l (Decomposition q es ∷ [])) (walks_there ds c es (c q es h))
      ∙ add_there ds (Decomposition q es) h

  -- nor where the primes and subs are
  pub walks_there : (ds : List Diagram) → AreComplete ds → (es : Elements) →
      ((p s : Diagram) → IsElement p s es → (is_among p ds ≡ true) × (is_among s ds ≡ true)) →
      add ds (walk_elements es) ≡ ds
  walks_there ds c End h = refl
  walks_there ds c (Pair p s rest) h =
      add_pair ds p s rest
      ∙ ap (λ l. add (add l (walk s)) (walk_elements rest)) (walk_there ds c p (h p s first).0)
      ∙ ap (λ l. add l (walk_elements rest)) (walk_there ds c s (h p s first).1)
      ∙ walks_there ds c rest (λ x y m. h x y (later m))

-- a diagram stands in its walk
walk_has : (d : Diagram) → is_among d (walk d) ≡ true
walk_has Bottom = refl
walk_has Top = refl
walk_has (Literal p x s) = among_last [] (Literal p x s)
walk_has (Decomposition q es) = among_last (walk_elements es) (Decomposition q es)

-- and so do the primes and subs of elements in theirs
walks_have : {p s : Diagram} {es : Elements} → IsElement p s es →
    (is_among p (walk_elements es) ≡ true) × (is_among s (walk_elements es) ≡ true)
walks_have {p} {s} (first {rest = rest}) = (
  among_more p (walk p ++ walk s) (walk_elements rest) (among_more p (walk p) (walk s) (walk_has p)),
  among_more s (walk p ++ walk s) (walk_elements rest)
      (is_among_append s (walk p) (walk s) ∙ or_right (is_among s (walk p)) (is_among s (walk s)) (walk_has s)),
)
walks_have {p} {s} (later {q = q} {t = t} {rest = rest} m) =
    let h = walks_have m in (
      is_among_append p (walk q ++ walk t) (walk_elements rest)
          ∙ or_right (is_among p (walk q ++ walk t)) (is_among p (walk_elements rest)) h.0,
      is_among_append s (walk q ++ walk t) (walk_elements rest)
          ∙ or_right (is_among s (walk q ++ walk t)) (is_among s (walk_elements rest)) h.1,
    )

-- the primes and subs are there once the elements are walked
pub children_added : (ds : List Diagram) (es : Elements) (p s : Diagram) → IsElement p s es →
    (is_among p (add ds (walk_elements es)) ≡ true) × (is_among s (add ds (walk_elements es)) ≡ true)
children_added ds es p s m =
    let h = walks_have m in
    (add_has p ds (walk_elements es) h.0, add_has s ds (walk_elements es) h.1)

mutual
  -- what stands in a walk is no deeper than its root
  walk_depth : (x d : Diagram) → is_among x (walk d) ≡ true → depth x ≤ depth d
  walk_depth x Bottom h = omega (arith, ap depth (among_one x Bottom h))
  walk_depth x Top h = omega (arith, ap depth (among_one x Top h))
  walk_depth x (Literal p y s) h = omega (arith, ap depth (among_one x (Literal p y s) h))
  walk_depth x (Decomposition q es) h = elim (among_either x (walk_elements es) (Decomposition q es ∷ []) h) [
    | inl under ↦ omega (arith, walks_depth x es under)
    | inr last ↦ omega (arith, ap depth (among_one x (Decomposition q es) last))
  ]

  -- nor deeper than the elements
  walks_depth : (x : Diagram) (es : Elements) → is_among x (walk_elements es) ≡ true → depth x ≤ depth_of es
  walks_depth x End h = cc
  walks_depth x (Pair p s rest) h = elim (among_either x (walk p ++ walk s) (walk_elements rest) h) [
    | inl here ↦ elim (among_either x (walk p) (walk s) here) [
      | inl prime ↦ omega (arith, walk_depth x p prime)
      | inr sub ↦ omega (arith, walk_depth x s sub)
    ]
    | inr under ↦ omega (arith, walks_depth x rest under)
  ]

-- so a decomposition is new until its elements are walked
pub still_new : (ds : List Diagram) (q : ℕ) (es : Elements) → is_among (Decomposition q es) ds ≡ false →
    is_among (Decomposition q es) (add ds (walk_elements es)) ≡ false
still_new ds q es h = go (is_among (Decomposition q es) (add ds (walk_elements es))) refl
  where
    go : (b : Bool) → is_among (Decomposition q es) (add ds (walk_elements es)) ≡ b →
        is_among (Decomposition q es) (add ds (walk_elements es)) ≡ false
    go true e = elim (add_only (Decomposition q es) ds (walk_elements es) e) [
      | inl there ↦ absurd (cc)
      | inr under ↦
          let deep : suc (depth_of es) ≤ depth_of es = walks_depth (Decomposition q es) es under in
          absurd (omega arith)
    ]
    go false e = e

-- the walk of a new decomposition ends in it
pub walk_new : (ds : List Diagram) (q : ℕ) (es : Elements) → is_among (Decomposition q es) ds ≡ false →
    add ds (walk (Decomposition q es)) ≡ add ds (walk_elements es) ++ Decomposition q es ∷ []
walk_new ds q es h =
    add_append ds (walk_elements es) (Decomposition q es ∷ [])
    ∙ add_new (add ds (walk_elements es)) (Decomposition q es) (still_new ds q es h)

-- places and lines

-- a diagram keeps its place when others follow
pub index_kept : (d : Diagram) (ds es : List Diagram) → is_among d ds ≡ true →
    index_of d (ds ++ es) ≡ index_of d ds
index_kept d [] es h = cc
index_kept d (x ∷ ds) es h = go (is_same d x) refl (index_kept d ds es)
  where
    go : (b : Bool) → is_same d x ≡ b → (is_among d ds ≡ true → index_of d (ds ++ es) ≡ index_of d ds) →
        cond b 0 (suc (index_of d (ds ++ es))) ≡ cond b 0 (suc (index_of d ds))
    go true e ih = refl
    go false e ih = ap suc (ih (rw e at h))

-- the place of a new one is the number of those before
pub index_last : (d : Diagram) (ds : List Diagram) → is_among d ds ≡ false → index_of d (ds ++ d ∷ []) ≡ length ds
index_last d [] h = rw (same_itself d)
index_last d (x ∷ ds) h = go (is_same d x) refl (index_last d ds)
  where
    go : (b : Bool) → is_same d x ≡ b → (is_among d ds ≡ false → index_of d (ds ++ d ∷ []) ≡ length ds) →
        cond b 0 (suc (index_of d (ds ++ d ∷ []))) ≡ suc (length ds)
    go true e ih = absurd (let k : true ≡ false = rw e at h in cc)
    go false e ih = ap suc (ih (rw e at h))

-- the words of elements whose primes and subs are there stay
elements_kept : (ds fs : List Diagram) (es : Elements) →
    ((p s : Diagram) → IsElement p s es → (is_among p ds ≡ true) × (is_among s ds ≡ true)) →
    element_words (ds ++ fs) es ≡ element_words ds es
elements_kept ds fs End h = refl
elements_kept ds fs (Pair p s rest) h =
    rw (
      index_kept p ds fs (h p s first).0,
      index_kept s ds fs (h p s first).1,
      elements_kept ds fs rest (λ x y m. h x y (later m)),
    )

-- and so does the line of a node
words_kept : (ds fs : List Diagram) → AreComplete ds → (d : Diagram) → is_among d ds ≡ true →
    node_words (ds ++ fs) d ≡ node_words ds d
words_kept ds fs c Bottom h = rw (index_kept Bottom ds fs h)
words_kept ds fs c Top h = rw (index_kept Top ds fs h)
words_kept ds fs c (Literal p x s) h = rw (index_kept (Literal p x s) ds fs h)
words_kept ds fs c (Decomposition q es) h =
    rw (index_kept (Decomposition q es) ds fs h, elements_kept ds fs es (c q es h))

-- and so do the lines of several
lines_kept : (ds fs : List Diagram) → AreComplete ds → (es : List Diagram) →
    ((x : Diagram) → is_among x es ≡ true → is_among x ds ≡ true) →
    map (node_words (ds ++ fs)) es ≡ map (node_words ds) es
lines_kept ds fs c [] h = refl
lines_kept ds fs c (e ∷ es) h =
    rw (
      words_kept ds fs c e (h e (or_left (is_same e e) (is_among e es) (same_itself e))),
      lines_kept ds fs c es (λ x m. h x (or_right (is_same x e) (is_among x es) m)),
    )

-- the lines of one diagram more
pub lines_push : (ds : List Diagram) (d : Diagram) → AreComplete ds →
    diagram_lines (ds ++ d ∷ []) ≡ diagram_lines ds ++ line_text (node_words (ds ++ d ∷ []) d)
lines_push ds d c =
    let new : List Diagram = ds ++ d ∷ [] in
    ap (flat_map line_text) (map-append (node_words new) ds (d ∷ []))
    ∙ flat_map-append line_text (map (node_words new) ds) (node_words new d ∷ [])
    ∙ ap (λ l. flat_map line_text l ++ (line_text (node_words new d) ++ [])) (lines_kept ds (d ∷ []) c ds (λ x m. m))
    ∙ ap (λ l. diagram_lines ds ++ l) (append-nil (line_text (node_words new d)))
