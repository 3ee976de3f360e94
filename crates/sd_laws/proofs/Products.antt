-- The products of two partitions: each prime of the one with each of the other, where both can be true at once.
use Rattle.std.proofs.Common.{◌≡◌, ◌≢◌, ℕ, Bool, true, false, cond, ◌&&◌, not, List, [], ◌∷◌, ◌++◌, length, map}
use Rattle.std.proofs.Common.{refl, sym, ◌∙◌, ap, append_assoc, append-nil}
use Rattle.std.specs.List.{AllByRecursion}
use Rattle.sd_model.specs.Tree.{Tree, right_base}
use Rattle.sd_model.specs.Diagram.{Diagram, Bottom, meaning}
use Rattle.sd_model.specs.Canonical.{IsCanonical}
use Rattle.sd_laws.specs.Pairs.{answers, AreElements, IsPartition, HasValue}
use Rattle.sd_laws.specs.Products.{row, products}

-- lists that grow

-- what two lists choose, one after the other
pub answers_append : (a : List Bool) (ds fs : List (Diagram × Diagram)) →
    answers a (ds ++ fs) ≡ answers a ds ++ answers a fs
answers_append a [] fs = refl
answers_append a (d ∷ ds) fs =
    elim (meaning d.0 a)
    as (λ b. cond b (meaning d.1 a ∷ answers a (ds ++ fs)) (answers a (ds ++ fs))
    ≡ cond b (meaning d.1 a ∷ answers a ds) (answers a ds) ++ answers a fs) [
      | true ↦ ap (λ l. meaning d.1 a ∷ l) (answers_append a ds fs)
      | false ↦ answers_append a ds fs
    ]

-- what holds of each element holds with one more
pub all_push : {X : Type 0} (P : X → Type 0) (xs : List X) (x : X) → AllByRecursion P xs → P x →
    AllByRecursion P (xs ++ x ∷ [])
all_push P [] x a p = (p, tt)
all_push P (y ∷ xs) x a p = (a.0, all_push P xs x a.1 p)

-- no elements
pub elements_none : (left right : Tree) (base : ℕ) → AreElements left right base []
elements_none left right base = record { primes = tt; subs = tt; possible = tt }

-- one element more
pub elements_push : (left right : Tree) (base : ℕ) (ds : List (Diagram × Diagram)) (d : Diagram × Diagram) →
    AreElements left right base ds → IsCanonical left base d.0 → d.0 ≢ Bottom →
    IsCanonical right (right_base left base) d.1 → AreElements left right base (ds ++ d ∷ [])
elements_push left right base ds d h prime possible sub =
    record {
      primes = all_push (λ (e : Diagram × Diagram). IsCanonical left base e.0) ds d h.primes prime;
      subs = all_push (λ (e : Diagram × Diagram). IsCanonical right (right_base left base) e.1) ds d h.subs sub;
      possible = all_push (λ (e : Diagram × Diagram). e.0 ≢ Bottom) ds d h.possible possible;
    }

-- elements with a value are a partition
pub partition_from_value : (left right : Tree) (base : ℕ) (ds : List (Diagram × Diagram)) (f : List Bool → Bool) →
    AreElements left right base ds → HasValue ds f → IsPartition left right base ds
partition_from_value left right base ds f h k = record { elements = h; one_true = λ a. ap length (k a) }

-- rows and products of values

-- a function of each of two lists joined
map_append : (f : Bool → Bool) (xs ys : List Bool) → map f (xs ++ ys) ≡ map f xs ++ map f ys
map_append f [] ys = refl
map_append f (x ∷ xs) ys = ap (λ l. f x ∷ l) (map_append f xs ys)

-- a row of two lists joined
pub row_append : (op : Bool → Bool → Bool) (p s : Bool) (xs ys : List Bool) →
    row op p s (xs ++ ys) ≡ row op p s xs ++ row op p s ys
row_append op true s xs ys = map_append (op s) xs ys
row_append op false s xs ys = refl

-- an empty row
pub row_none : (op : Bool → Bool → Bool) (p s : Bool) → row op p s [] ≡ []
row_none op true s = refl
row_none op false s = refl

-- the products of two lists joined
pub products_append : (op : Bool → Bool → Bool) (xs ys bs : List Bool) →
    products op (xs ++ ys) bs ≡ products op xs bs ++ products op ys bs
products_append op [] ys bs = refl
products_append op (x ∷ xs) ys bs =
    ap (λ l. map (op x) bs ++ l) (products_append op xs ys bs)
    ∙ sym (append_assoc (map (op x) bs) (products op xs bs) (products op ys bs))

-- the products of one element's value are its row
pub products_row : (op : Bool → Bool → Bool) (a : List Bool) (d : Diagram × Diagram) (bs : List Bool) →
    products op (answers a (d ∷ [])) bs ≡ row op (meaning d.0 a) (meaning d.1 a) bs
products_row op a d bs =
    elim (meaning d.0 a)
    as (λ b. products op (cond b (meaning d.1 a ∷ []) []) bs ≡ cond b (map (op (meaning d.1 a)) bs) []) [
      | true ↦ append-nil (map (op (meaning d.1 a)) bs)
      | false ↦ refl
    ]

-- the steps

-- a product that is kept: its prime is the conjunction of the two, and its sub has the value of the operation
pub row_kept : (op : Bool → Bool → Bool) (a : List Bool) (d f g : Diagram × Diagram) →
    meaning g.0 a ≡ (meaning d.0 a && meaning f.0 a) → meaning g.1 a ≡ op (meaning d.1 a) (meaning f.1 a) →
    answers a (g ∷ []) ≡ row op (meaning d.0 a) (meaning d.1 a) (answers a (f ∷ []))
row_kept op a d f g prime sub =
    rw (prime, sub) (go (meaning d.0 a) (meaning f.0 a) (meaning d.1 a) (meaning f.1 a))
  where
    go : (p q s t : Bool) → cond (p && q) (op s t ∷ []) [] ≡ cond p (map (op s) (cond q (t ∷ []) [])) []
    go true true s t = refl
    go true false s t = refl
    go false q s t = refl

-- a product that is dropped: the conjunction of the two primes is false
pub row_dropped : (op : Bool → Bool → Bool) (a : List Bool) (d f : Diagram × Diagram) →
    (meaning d.0 a && meaning f.0 a) ≡ false →
    [] ≡ row op (meaning d.0 a) (meaning d.1 a) (answers a (f ∷ []))
row_dropped op a d f h = go (meaning d.0 a) (meaning f.0 a) (meaning d.1 a) (meaning f.1 a) h
  where
    go : (p q s t : Bool) → (p && q) ≡ false → [] ≡ cond p (map (op s) (cond q (t ∷ []) [])) []
    go true true s t e = absurd (cc)
    go true false s t e = refl
    go false q s t e = refl

-- the row of one element, as far as the other list is read, with one product more
pub row_next : (op : Bool → Bool → Bool) (a : List Bool) (d f g : Diagram × Diagram)
    (gs hs fs : List (Diagram × Diagram)) →
    answers a hs ≡ answers a gs ++ row op (meaning d.0 a) (meaning d.1 a) (answers a fs) →
    meaning g.0 a ≡ (meaning d.0 a && meaning f.0 a) → meaning g.1 a ≡ op (meaning d.1 a) (meaning f.1 a) →
    answers a (hs ++ g ∷ [])
    ≡ answers a gs ++ row op (meaning d.0 a) (meaning d.1 a) (answers a (fs ++ f ∷ []))
row_next op a d f g gs hs fs h prime sub =
    let p = meaning d.0 a in
    let s = meaning d.1 a in
    answers_append a hs (g ∷ []) ∙ ap (λ l. l ++ answers a (g ∷ [])) h
    ∙ append_assoc (answers a gs) (row op p s (answers a fs)) (answers a (g ∷ []))
    ∙ ap (λ l. answers a gs ++ l)
    (ap (λ l. row op p s (answers a fs) ++ l) (row_kept op a d f g prime sub)
    ∙ sym (row_append op p s (answers a fs) (answers a (f ∷ [])))
    ∙ ap (row op p s) (sym (answers_append a fs (f ∷ []))))

-- the same with a product dropped
pub row_skip : (op : Bool → Bool → Bool) (a : List Bool) (d f : Diagram × Diagram)
    (gs hs fs : List (Diagram × Diagram)) →
    answers a hs ≡ answers a gs ++ row op (meaning d.0 a) (meaning d.1 a) (answers a fs) →
    (meaning d.0 a && meaning f.0 a) ≡ false →
    answers a hs ≡ answers a gs ++ row op (meaning d.0 a) (meaning d.1 a) (answers a (fs ++ f ∷ []))
row_skip op a d f gs hs fs h none =
    let p = meaning d.0 a in
    let s = meaning d.1 a in
    h
    ∙ ap (λ l. answers a gs ++ l)
    (sym (append-nil (row op p s (answers a fs)))
    ∙ ap (λ l. row op p s (answers a fs) ++ l) (row_dropped op a d f none)
    ∙ sym (row_append op p s (answers a fs) (answers a (f ∷ [])))
    ∙ ap (row op p s) (sym (answers_append a fs (f ∷ []))))

-- the products, as far as the first list is read, with one row more
pub products_next : (op : Bool → Bool → Bool) (a : List Bool) (d : Diagram × Diagram)
    (gs hs ds fs : List (Diagram × Diagram)) → answers a gs ≡ products op (answers a ds) (answers a fs) →
    answers a hs ≡ answers a gs ++ row op (meaning d.0 a) (meaning d.1 a) (answers a fs) →
    answers a hs ≡ products op (answers a (ds ++ d ∷ [])) (answers a fs)
products_next op a d gs hs ds fs h k =
    k ∙ ap (λ l. l ++ row op (meaning d.0 a) (meaning d.1 a) (answers a fs)) h
    ∙ ap (λ l. products op (answers a ds) (answers a fs) ++ l) (sym (products_row op a d (answers a fs)))
    ∙ sym (products_append op (answers a ds) (answers a (d ∷ [])) (answers a fs))
    ∙ ap (λ l. products op l (answers a fs)) (sym (answers_append a ds (d ∷ [])))

-- the products of two partitions have the value of the operation
pub products_value : (op : Bool → Bool → Bool) (ds fs gs : List (Diagram × Diagram)) (f g : List Bool → Bool) →
    HasValue ds f → HasValue fs g → ((a : List Bool) → answers a gs ≡ products op (answers a ds) (answers a fs)) →
    HasValue gs (λ a. op (f a) (g a))
products_value op ds fs gs f g h k e a =
    e a ∙ ap (λ l. products op l (answers a fs)) (h a) ∙ ap (products op (f a ∷ [])) (k a)

-- negation

-- a sub negated
pub negated_one : (a : List Bool) (d : Diagram × Diagram) (n : Diagram) → meaning n a ≡ not (meaning d.1 a) →
    answers a ((d.0, n) ∷ []) ≡ map not (answers a (d ∷ []))
negated_one a d n e =
    rw e (elim (meaning d.0 a)
    as (λ b. cond b (not (meaning d.1 a) ∷ []) [] ≡ map not (cond b (meaning d.1 a ∷ []) [])) [
      | true ↦ refl
      | false ↦ refl
    ])

-- negated subs, as far as the list is read, with one more
pub negated_next : (a : List Bool) (d : Diagram × Diagram) (n : Diagram) (gs ds : List (Diagram × Diagram)) →
    answers a gs ≡ map not (answers a ds) → meaning n a ≡ not (meaning d.1 a) →
    answers a (gs ++ (d.0, n) ∷ []) ≡ map not (answers a (ds ++ d ∷ []))
negated_next a d n gs ds h e =
    answers_append a gs ((d.0, n) ∷ []) ∙ ap (λ l. l ++ answers a ((d.0, n) ∷ [])) h
    ∙ ap (λ l. map not (answers a ds) ++ l) (negated_one a d n e)
    ∙ sym (map_append not (answers a ds) (answers a (d ∷ []))) ∙ ap (map not) (sym (answers_append a ds (d ∷ [])))

-- a partition with negated subs has the negated value
pub negated_value : (ds gs : List (Diagram × Diagram)) (f : List Bool → Bool) → HasValue ds f →
    ((a : List Bool) → answers a gs ≡ map not (answers a ds)) → HasValue gs (λ a. not (f a))
negated_value ds gs f h e a = e a ∙ ap (map not) (h a)
