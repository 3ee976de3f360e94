-- In the list of the distinct diagrams under a diagram the diagram itself is last.
use Rattle.std.proofs.Common.{◌≡◌, ℕ, suc, ◌+◌, ◌≤◌, Bool, true, false, cond}
use Rattle.std.proofs.Common.{List, [], ◌∷◌, ◌++◌, refl, sym, ◌∙◌, subst, arith}
use Rattle.std.specs.List.{AllByRecursion}
use Rattle.sd_model.specs.Diagram.{Diagram, Bottom, Top, Literal, Decomposition, Elements, End, Pair}
use Rattle.sd_model.specs.Size.{is_same, walk, walk_elements, completed}
use Rattle.sd_model.specs.Listing.{is_among, add_one, add}
use Rattle.sd_model.proofs.Adding.{equal_from_same, add_append, completed_add}

abbrev mutual
  -- how deep and wide a diagram is: more than what is under it
  weight : Diagram → ℕ
  weight (Decomposition p es) = suc (elements_weight es)
  weight _ = 0

  -- the weights of the primes and subs together
  elements_weight : Elements → ℕ
  elements_weight End = 0
  elements_weight (Pair p s rest) = weight p + weight s + elements_weight rest

-- no diagram of the list weighs more than n
abbrev AreLight : ℕ → List Diagram → Type 0
AreLight n ds = AllByRecursion (λ d. weight d ≤ n) ds

-- two light lists joined
light_append : (n : ℕ) (ds es : List Diagram) → AreLight n ds → AreLight n es → AreLight n (ds ++ es)
light_append n [] es h k = k
light_append n (d ∷ ds) es h k = (h.0, light_append n ds es h.1 k)

-- a list that is light is so at a greater bound
lighter : (m n : ℕ) (ds : List Diagram) → m ≤ n → AreLight m ds → AreLight n ds
lighter m n [] le h = tt
lighter m n (d ∷ ds) le h = (omega (arith, h.0), lighter m n ds le h.1)

mutual
  -- no diagram of a walk outweighs its root
  light_walk : (d : Diagram) → AreLight (weight d) (walk d)
  light_walk Bottom = (omega arith, tt)
  light_walk Top = (omega arith, tt)
  light_walk (Literal p x s) = (omega arith, tt)
  light_walk (Decomposition p es) =
      let of_elements : AreLight (suc (elements_weight es)) (walk_elements es) =
      lighter (elements_weight es) (suc (elements_weight es)) (walk_elements es) (omega arith)
      (light_walk_elements es) in
      light_append (suc (elements_weight es)) (walk_elements es) (Decomposition p es ∷ [])
      of_elements (omega arith, tt)

  -- nor the elements together
  light_walk_elements : (es : Elements) → AreLight (elements_weight es) (walk_elements es)
  light_walk_elements End = tt
  light_walk_elements (Pair p s rest) =
      let n : ℕ = weight p + weight s + elements_weight rest in
      let of_prime : AreLight n (walk p) = lighter (weight p) n (walk p) (omega arith) (light_walk p) in
      let of_sub : AreLight n (walk s) = lighter (weight s) n (walk s) (omega arith) (light_walk s) in
      let of_rest : AreLight n (walk_elements rest) =
      lighter (elements_weight rest) n (walk_elements rest) (omega arith) (light_walk_elements rest) in
      light_append n (walk p ++ walk s) (walk_elements rest) (light_append n (walk p) (walk s) of_prime of_sub) of_rest

-- adding keeps a list light
light_add : (n : ℕ) (ds es : List Diagram) → AreLight n ds → AreLight n es → AreLight n (add ds es)
light_add n ds [] h k = h
light_add n ds (e ∷ es) h k =
    go (light_add n ds es h k.1) (light_add n (ds ++ e ∷ []) es (light_append n ds (e ∷ []) h (k.0, tt)) k.1)
    (is_among e ds)
  where
    go : AreLight n (add ds es) → AreLight n (add (ds ++ e ∷ []) es) → (b : Bool) →
        AreLight n (add (cond b ds (ds ++ e ∷ [])) es)
    go there new true = there
    go there new false = new

-- a member of a light list is light
light_member : (n : ℕ) (d : Diagram) (ds : List Diagram) → AreLight n ds → is_among d ds ≡ true → weight d ≤ n
light_member n d [] h e = cc
light_member n d (x ∷ ds) h e = go (light_member n d ds h.1) (is_same d x) refl
  where
    go : (is_among d ds ≡ true → weight d ≤ n) → (b : Bool) → is_same d x ≡ b → weight d ≤ n
    go ih true f = rw (equal_from_same d x f) h.0
    go ih false f = ih (rw f at e)

-- a list that ends in a diagram
pub record EndsIn (d : Diagram) (ds : List Diagram) : Type 0 where
  pub before : List Diagram
  pub whole : ds ≡ before ++ d ∷ []

-- a list of one
ends_alone : (d : Diagram) → EndsIn d (d ∷ [])
ends_alone d = record { before = []; whole = refl }

-- the root outweighs what is under it, so the list lacks it until the end
ends_walk : (d : Diagram) → EndsIn d (add [] (walk d))
ends_walk Bottom = ends_alone Bottom
ends_walk Top = ends_alone Top
ends_walk (Literal p x s) = ends_alone (Literal p x s)
ends_walk (Decomposition p es) =
    record {
      before = add [] (walk_elements es);
      whole =
          add_append [] (walk_elements es) (Decomposition p es ∷ [])
          ∙ new (is_among (Decomposition p es) (add [] (walk_elements es))) refl;
    }
  where
    light : AreLight (elements_weight es) (add [] (walk_elements es))
    light = light_add (elements_weight es) [] (walk_elements es) tt (light_walk_elements es)

    new : (b : Bool) → is_among (Decomposition p es) (add [] (walk_elements es)) ≡ b →
        add_one (add [] (walk_elements es)) (Decomposition p es) ≡ add [] (walk_elements es) ++ Decomposition p es ∷ []
    new true e =
        let h : suc (elements_weight es) ≤ elements_weight es =
        light_member (elements_weight es) (Decomposition p es) (add [] (walk_elements es)) light e in
        absurd (omega arith)
    new false e = rw e

-- the list of the distinct diagrams ends in the diagram itself
pub ends_completed : (d : Diagram) → EndsIn d (completed (d ∷ []))
ends_completed d = subst (EndsIn d) (sym (completed_add d)) (ends_walk d)
