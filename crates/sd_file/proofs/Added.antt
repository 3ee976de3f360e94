-- One node more is complete: what the lines of its kind bring about.
use Rattle.std.proofs.Common.{◌≡◌, ℕ, suc, ltb, Bool, true, false, cond, List, [], ◌∷◌, ◌++◌, length}
use Rattle.std.proofs.Common.{refl, sym, ◌∙◌, ap, subst, arith, append_assoc, append-nil, map, Some}
use Rattle.std.specs.Prelude.{codes, slice_index_or}
use Rattle.std.specs.FinMap.{get}
use Rattle.std.specs.List.{flat_map}
use Rattle.std.proofs.lemmas.Bool.Decides.{nat_tests}
use Rattle.std.proofs.lemmas.List.Concat.{flat_map-append}
use Rattle.std.proofs.lemmas.Option.{same_Some}
use Rattle.sd_model.specs.Diagram.{Diagram, Bottom, Top, Literal, Decomposition, Elements}
use Rattle.sd_model.specs.Canonical.{IsElement}
use Rattle.sd_model.specs.Size.{walk, walk_elements, completed}
use Rattle.sd_model.specs.Listing.{is_among, add}
use Rattle.sd_model.specs.Text.{number_text, literal_text, line_text, index_of, node_words, element_words}
use Rattle.sd_model.specs.Text.{naming_lines, sdd_lines, roots_text}
use Rattle.sd_model.proofs.Adding.{completed_walks}
use Rattle.sd_model.proofs.PlainTexts.{roots_text_plain}
use Rattle.sd_laws.specs.Shown.{ShowElements}
use Rattle.sd_manager.specs.Table.{Table}
use Rattle.sd_manager.specs.Shown.{Shows, ShowsCanonical, HoldsDiagram, constant_diagram}
use Rattle.sd_manager.specs.Valid.{IsTable}
use Rattle.sd_manager.proofs.Reading.{pairs_count}
use Rattle.sd_file.specs.declared.lines.Listing.{Listing}
use Rattle.sd_file.specs.Numbers.{mark_at, CanGive, pair_words}
use Rattle.sd_file.specs.Lines.{diagram_lines, HasNodeLines, HasNodeLine}
use Rattle.sd_file.proofs.Complete.{among_more, add_new, children_added, index_last, still_new, walk_new, walk_there}
use Rattle.sd_file.proofs.Numbering.{numbered_more, can_give, words_are, line_written}

-- a successor is greater than 0
positive : (n : ℕ) → ltb 0 (suc n) ≡ true
positive n = grind (arith, nat_tests)

-- whether a diagram is there is whether its code has a number
pub is_marked : (t : Table) (listing : Listing) (c : ℕ) (d : Diagram) (ds : List Diagram) → Shows t c d →
    HasNodeLines t listing ds → is_among d ds ≡ ltb 0 (mark_at listing.numbers c)
is_marked t listing c d ds shown w = go (is_among d ds) refl
  where
    go : (b : Bool) → is_among d ds ≡ b → is_among d ds ≡ ltb 0 (mark_at listing.numbers c)
    go true e = rw (w.numbered.marks c d shown, e) (sym (positive (index_of d ds)))
    go false e = rw (w.numbered.marks c d shown, e) refl

-- a node that has its line brings nothing new
pub walk_done : (t : Table) (listing : Listing) (c : ℕ) (d : Diagram) (ds : List Diagram) → Shows t c d →
    HasNodeLines t listing ds → ltb 0 (mark_at listing.numbers c) ≡ true → HasNodeLines t listing (add ds (walk d))
walk_done t listing c d ds shown w h =
    subst (HasNodeLines t listing)
    (sym (walk_there ds w.complete d (is_marked t listing c d ds shown w ∙ h))) w

-- a node without a line is new
pub is_new : (t : Table) (listing : Listing) (c : ℕ) (d : Diagram) (ds : List Diagram) → Shows t c d →
    HasNodeLines t listing ds → ltb 0 (mark_at listing.numbers c) ≡ false → is_among d ds ≡ false
is_new t listing c d ds shown w h = is_marked t listing c d ds shown w ∙ h

-- and can get a number
pub new_can_give : (t : Table) → IsTable t → (listing : Listing) (c : ℕ) (d : Diagram) (ds : List Diagram) →
    Shows t c d → HasNodeLines t listing ds → ltb 0 (mark_at listing.numbers c) ≡ false → CanGive listing.numbers c
new_can_give t table listing c d ds shown w h =
    can_give t table listing.numbers c d ds shown w.numbered (is_new t listing c d ds shown w h)

-- the line of a constant
pub constant_written : (t : Table) → IsTable t → (old new : Listing) (c : ℕ) (value : Bool) (ds : List Diagram) →
    Shows t c (constant_diagram value) → HasNodeLines t old ds → ltb 0 (mark_at old.numbers c) ≡ false →
    HasNodeLine old new c (cond value (codes "T") (codes "F") ∷ number_text old.numbers.count ∷ []) →
    HasNodeLines t new (add ds (walk (constant_diagram value)))
constant_written t table old new c true ds shown w h line =
    let lacks : is_among Top ds ≡ false = is_new t old c Top ds shown w h in
    subst (HasNodeLines t new) (sym (add_new ds Top lacks))
    (line_written t table old new c Top ds shown w lacks tt _ line
    (rw (index_last Top ds lacks, w.numbered.count) refl))
constant_written t table old new c false ds shown w h line =
    let lacks : is_among Bottom ds ≡ false = is_new t old c Bottom ds shown w h in
    subst (HasNodeLines t new) (sym (add_new ds Bottom lacks))
    (line_written t table old new c Bottom ds shown w lacks tt _ line
    (rw (index_last Bottom ds lacks, w.numbered.count) refl))

-- the line of a literal
pub literal_written : (t : Table) → IsTable t → (old new : Listing) (c p x : ℕ) (s : Bool) (ds : List Diagram) →
    Shows t c (Literal p x s) → HasNodeLines t old ds → ltb 0 (mark_at old.numbers c) ≡ false →
    HasNodeLine old new c
    (codes "L" ∷ number_text old.numbers.count ∷ number_text p ∷ literal_text x s ∷ []) →
    HasNodeLines t new (add ds (walk (Literal p x s)))
literal_written t table old new c p x s ds shown w h line =
    let lacks : is_among (Literal p x s) ds ≡ false = is_new t old c (Literal p x s) ds shown w h in
    subst (HasNodeLines t new) (sym (add_new ds (Literal p x s) lacks))
    (line_written t table old new c (Literal p x s) ds shown w lacks tt _ line
    (rw (index_last (Literal p x s) ds lacks, w.numbered.count) refl))

-- a decomposition can get a number once its elements are complete
pub inner_can_give : (t : Table) → IsTable t → (listing : Listing) (c q : ℕ) (es : Elements) (ds : List Diagram) →
    Shows t c (Decomposition q es) → HasNodeLines t listing (add ds (walk_elements es)) →
    is_among (Decomposition q es) ds ≡ false → CanGive listing.numbers c
inner_can_give t table listing c q es ds shown w lacks =
    can_give t table listing.numbers c (Decomposition q es) (add ds (walk_elements es)) shown w.numbered
    (still_new ds q es lacks)

-- the line of a decomposition
pub decomposition_written : (t : Table) → IsTable t → (old new : Listing) (c p q : ℕ) (es : Elements)
    (l : List (ℕ × ℕ)) (ds : List Diagram) → Shows t c (Decomposition q es) →
    HasNodeLines t old (add ds (walk_elements es)) → is_among (Decomposition q es) ds ≡ false →
    ShowElements t.vtree (get t.linked) l es → p ≡ q →
    HasNodeLine old new c
    (codes "D" ∷ number_text old.numbers.count ∷ number_text p ∷ number_text (length l) ∷ pair_words new.numbers l) →
    HasNodeLines t new (add ds (walk (Decomposition q es)))
decomposition_written t table old new c p q es l ds shown w lacks pairs index line =
    subst (HasNodeLines t new) (sym (walk_new ds q es lacks))
    (line_written t table old new c d under shown w keeps_all (children_added ds es) _ line
    (rw (index, pairs_count t.vtree (get t.linked) l es pairs, words, index_last d under keeps_all, w.numbered.count)
    refl))
  where
    d : Diagram
    d = Decomposition q es

    under : List Diagram
    under = add ds (walk_elements es)

    keeps_all : is_among d under ≡ false
    keeps_all = still_new ds q es lacks

    there : (x s : Diagram) → IsElement x s es →
        (is_among x (under ++ d ∷ []) ≡ true) × (is_among s (under ++ d ∷ []) ≡ true)
    there x s m =
        let h = children_added ds es x s m in
        (among_more x under (d ∷ []) h.0, among_more s under (d ∷ []) h.1)

    words : pair_words new.numbers l ≡ element_words (under ++ d ∷ []) es
    words =
        words_are t new.numbers (under ++ d ∷ [])
        (numbered_more t table old.numbers new.numbers c d under shown w.numbered keeps_all line.given) l es pairs there

-- the whole text

-- at the start nothing is complete
pub none_written : (t : Table) (listing : Listing) → listing.numbers.marks.items ≡ [] → listing.numbers.count ≡ 0 →
    listing.text.items ≡ [] → HasNodeLines t listing []
none_written t listing marks number text =
    record {
      numbered = record {
        marks = λ c d h. ap (λ m. slice_index_or m c 0) marks;
        count = number;
        room = record {
          counted = rw (marks, number) refl;
          within_limit = rw marks (omega arith);
        };
      };
      complete = λ q es h. cc;
      text = text;
    }

-- the header, the lines and those that name the roots are the lines of the text
whole_lines : (t : Table) (listing : Listing) (roots : List Diagram) →
    HasNodeLines t listing (add [] (flat_map walk roots)) →
    (((115 ∷ 100 ∷ 100 ∷ []) ++ 32 ∷ number_text listing.numbers.count ++ 10 ∷ []) ++ listing.text.items)
    ++ flat_map line_text (naming_lines (completed roots) roots) ≡ flat_map line_text (sdd_lines roots)
whole_lines t listing roots w =
    let ds : List Diagram = add [] (flat_map walk roots) in
    let naming : List ℕ = flat_map line_text (naming_lines ds roots) in
    subst
    (λ ns. (((115 ∷ 100 ∷ 100 ∷ []) ++ 32 ∷ number_text listing.numbers.count ++ 10 ∷ []) ++ listing.text.items)
    ++ flat_map line_text (naming_lines ns roots)
    ≡ flat_map line_text
    ((codes "sdd" ∷ number_text (length ns) ∷ []) ∷ map (node_words ns) ns ++ naming_lines ns roots))
    (sym (completed_walks roots))
    (rw (w.numbered.count, w.text, flat_map-append line_text (map (node_words ds) ds) (naming_lines ds roots))
    (append_assoc (115 ∷ 100 ∷ 100 ∷ 32 ∷ (number_text (length ds) ++ 10 ∷ [])) (diagram_lines ds) naming
    ∙ ap (λ number. 115 ∷ 100 ∷ 100 ∷ 32 ∷ ((number ++ 10 ∷ []) ++ (diagram_lines ds ++ naming)))
    (sym (append-nil (number_text (length ds))))))

-- they are the text
pub whole_text : (t : Table) (listing : Listing) (roots : List Diagram) →
    HasNodeLines t listing (add [] (flat_map walk roots)) →
    (((115 ∷ 100 ∷ 100 ∷ []) ++ 32 ∷ number_text listing.numbers.count ++ 10 ∷ []) ++ listing.text.items)
    ++ flat_map line_text (naming_lines (completed roots) roots) ≡ roots_text roots
whole_text t listing roots w = whole_lines t listing roots w ∙ sym (roots_text_plain roots)

-- the node that a root holds shows the root's diagram
pub held_shown : (t : Table) (root c : ℕ) (d : Diagram) → HoldsDiagram t root d → get t.roots root ≡ Some c →
    ShowsCanonical t c d
held_shown t root c d h e = subst (λ x. ShowsCanonical t x d) (same_Some h.code c (sym h.held ∙ e)) h.is
