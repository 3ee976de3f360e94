-- Diagrams added to a list that lacks them: the first occurrences of a list are what is added to the empty list.
use Rattle.std.proofs.Common.{◌≡◌, Bool, true, false, not, ◌||◌, List, [], ◌∷◌, ◌++◌}
use Rattle.std.proofs.Common.{refl, sym, ◌∙◌, ap, subst, append_assoc, append-nil}
use Rattle.std.specs.Ordering.{is_eq, ordering_reverse}
use Rattle.std.specs.declared.cmp.Ordering.{Ordering}
use Rattle.std.specs.declared.cmp.Ordering.TheVariants.{Less, Equal, Greater}
use Rattle.std.specs.List.{filter, flat_map}
use Rattle.sd_model.specs.Diagram.{Diagram, Elements, Pair, diagram_cmp}
use Rattle.sd_model.specs.Size.{is_same, first_occurrences, walk, walk_elements, completed}
use Rattle.sd_model.specs.Listing.{is_among, add_one, add}
use Rattle.sd_model.proofs.Order.{exact, antisymm, reflexive}

-- `is_same` is equality

-- the test of `Equal`
is_eq_Equal : (o : Ordering) → is_eq o ≡ true → o ≡ Equal
is_eq_Equal Less h = cc
is_eq_Equal Equal h = refl
is_eq_Equal Greater h = cc

-- diagrams that are the same are equal
pub equal_from_same : (d e : Diagram) → is_same d e ≡ true → d ≡ e
equal_from_same d e h = exact d e (is_eq_Equal (diagram_cmp d e) h)

-- the reverse of `Equal` is `Equal`
same_reverse : (o : Ordering) → is_eq (ordering_reverse o) ≡ is_eq o
same_reverse Less = refl
same_reverse Equal = refl
same_reverse Greater = refl

-- sameness is symmetric
same_flip : (d e : Diagram) → is_same d e ≡ is_same e d
same_flip d e = ap is_eq (antisymm d e) ∙ same_reverse (diagram_cmp e d)

-- a diagram is the same as itself
pub same_itself : (d : Diagram) → is_same d d ≡ true
same_itself d = ap is_eq (reflexive d d refl)

-- the list with others added

-- two lists are added one after the other
pub add_append : (ds es fs : List Diagram) → add ds (es ++ fs) ≡ add (add ds es) fs
add_append ds [] fs = refl
add_append ds (e ∷ es) fs = add_append (add_one ds e) es fs

-- adding the walk of elements adds the walks of the first prime, of its sub and of the rest
pub add_pair : (ds : List Diagram) (p s : Diagram) (rest : Elements) → add ds (walk_elements (Pair p s rest))
    ≡ add (add (add ds (walk p)) (walk s)) (walk_elements rest)
add_pair ds p s rest =
    ap (λ v. add ds v) (append_assoc (walk p) (walk s) (walk_elements rest))
    ∙ add_append ds (walk p) (walk s ++ walk_elements rest)
    ∙ add_append (add ds (walk p)) (walk s) (walk_elements rest)

-- a diagram stands in one of two joined lists
pub is_among_append : (d : Diagram) (es fs : List Diagram) → is_among d (es ++ fs) ≡ (is_among d es || is_among d fs)
is_among_append d [] fs = refl
is_among_append d (e ∷ es) fs =
    go (is_same d e) (is_among d es) (is_among d (es ++ fs)) (is_among d fs) (is_among_append d es fs)
  where
    go : (b c r f : Bool) → r ≡ (c || f) → (b || r) ≡ ((b || c) || f)
    go true c r f h = refl
    go false c r f h = h

-- a diagram that the list lacks
abbrev IsNew : List Diagram → Diagram → Bool
IsNew ds e = not (is_among e ds)

-- what is no copy of a listed diagram, is new without the test of that copy
filter_listed : (ds : List Diagram) (d : Diagram) → is_among d ds ≡ true → (xs : List Diagram) →
    filter (IsNew ds) (filter (λ e. not (is_same d e)) xs) ≡ filter (IsNew ds) xs
filter_listed ds d h [] = refl
filter_listed ds d h (x ∷ xs) = go (filter_listed ds d h xs) (is_same d x) refl
  where
    go : filter (IsNew ds) (filter (λ e. not (is_same d e)) xs) ≡ filter (IsNew ds) xs → (b : Bool) → is_same d x ≡ b →
        filter (IsNew ds) (filter (λ e. not (is_same d e)) (x ∷ xs)) ≡ filter (IsNew ds) (x ∷ xs)
    go ih true e =
        let f : is_among x ds ≡ true = subst (λ v. is_among v ds ≡ true) (equal_from_same d x e) h in
        rw (e, f) ih
    go ih false e = rw (e, ih)

-- what is new beside the list and a copy of d is new beside the list with d
filter_added : (ds : List Diagram) (d : Diagram) (xs : List Diagram) →
    filter (IsNew ds) (filter (λ e. not (is_same d e)) xs) ≡ filter (IsNew (ds ++ d ∷ [])) xs
filter_added ds d [] = refl
filter_added ds d (x ∷ xs) = go (filter_added ds d xs) (is_same d x) (is_among x ds) refl refl
  where
    among : is_among x (ds ++ d ∷ []) ≡ (is_among x ds || (is_same d x || false))
    among = is_among_append x ds (d ∷ []) ∙ ap (λ v. is_among x ds || (v || false)) (same_flip x d)

    go : filter (IsNew ds) (filter (λ e. not (is_same d e)) xs) ≡ filter (IsNew (ds ++ d ∷ [])) xs → (b c : Bool) →
        is_same d x ≡ b → is_among x ds ≡ c →
        filter (IsNew ds) (filter (λ e. not (is_same d e)) (x ∷ xs)) ≡ filter (IsNew (ds ++ d ∷ [])) (x ∷ xs)
    go ih true true e f = rw (among, e, f) ih
    go ih true false e f = rw (among, e, f) ih
    go ih false true e f = rw (among, e, f) ih
    go ih false false e f = rw (among, e, f, ih)

-- what is added are the first occurrences that are new
add_first_occurrences : (ds es : List Diagram) → add ds es ≡ ds ++ filter (IsNew ds) (first_occurrences es)
add_first_occurrences ds [] = sym (append-nil ds)
add_first_occurrences ds (e ∷ es) =
    go (add_first_occurrences ds es) (add_first_occurrences (ds ++ e ∷ []) es) (is_among e ds) refl
  where
    go : add ds es ≡ ds ++ filter (IsNew ds) (first_occurrences es) →
        add (ds ++ e ∷ []) es ≡ (ds ++ e ∷ []) ++ filter (IsNew (ds ++ e ∷ [])) (first_occurrences es) →
        (b : Bool) → is_among e ds ≡ b → add ds (e ∷ es) ≡ ds ++ filter (IsNew ds) (first_occurrences (e ∷ es))
    go ih ih' true h = rw (h, filter_listed ds e h (first_occurrences es)) ih
    go ih ih' false h =
        rw (h, filter_added ds e (first_occurrences es), ih')
        (append_assoc ds (e ∷ []) (filter (IsNew (ds ++ e ∷ [])) (first_occurrences es)))

-- all are new beside the empty list
filter_all : (xs : List Diagram) → filter (IsNew []) xs ≡ xs
filter_all [] = refl
filter_all (x ∷ xs) = ap (λ v. x ∷ v) (filter_all xs)

-- the first occurrences are what is added to the empty list
pub first_occurrences_add : (es : List Diagram) → first_occurrences es ≡ add [] es
first_occurrences_add es = sym (add_first_occurrences [] es ∙ filter_all (first_occurrences es))

-- so the distinct diagrams under roots are their walks added to the empty list
pub completed_walks : (roots : List Diagram) → completed roots ≡ add [] (flat_map walk roots)
unfolding completed
completed_walks roots = first_occurrences_add (flat_map walk roots)

-- and those under one diagram its walk
pub completed_add : (d : Diagram) → completed (d ∷ []) ≡ add [] (walk d)
completed_add d = completed_walks (d ∷ []) ∙ ap (λ v. add [] v) (append-nil (walk d))
