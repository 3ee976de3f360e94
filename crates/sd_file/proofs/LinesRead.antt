-- The lines of diagrams, each behind those under it, are read as their nodes.
use Rattle.std.proofs.Common.{◌≡◌, ℕ, ◌+◌, ◌^◌, ◌<◌, ◌≤◌, true, false, List, [], ◌∷◌, ◌++◌, map, length, Ok}
use Rattle.std.proofs.Common.{refl, sym, ap, ◌∙◌, subst, arith, append_assoc, append-nil, eq-eqb, ne_eqb}
use Rattle.std.specs.Prelude.{codes}
use Rattle.std.specs.List.{AllByRecursion, flat_map}
use Rattle.std.proofs.lemmas.List.{map_push, length-map, length_push}
use Rattle.sd_base.specs.Lines.{content_of}
use Rattle.sd_base.specs.Reading.{each_after}
use Rattle.sd_model.specs.Diagram.{Diagram, Bottom, Top, Literal, Decomposition, Elements, End, Pair, count}
use Rattle.sd_model.specs.Text.{number_text, literal_text, line_text, element_words, node_words}
use Rattle.sd_model.specs.Text.{index_of as index_in}
use Rattle.sd_model.proofs.ClosedLists.{IsClosed}
use Rattle.sd_model.proofs.Words.{number_is_word}
use Rattle.sd_vfile.proofs.Texts.{IsFullWord, IsTextLine, numbered, full_number, natural_back}
use Rattle.sd_file.proofs.Comments.{IsComment, lines_before_comments}
use Rattle.sd_file.specs.Reads.{Entry, entry_of}
use Rattle.sd_file.specs.Steps.{file_of_lines}
use Rattle.sd_file.proofs.IdPlaces.{AreOwnPlaces, no_ids, next_id}
use Rattle.sd_file.proofs.DiagramPlaces.{AreNew, index_new, index_below, index_most}
use Rattle.sd_file.proofs.NodeLines.{written_entry, IsReadable, HaveIds, line_back}

-- ---- the lines are lines of words

-- the words of elements
element_lines : (nodes : List Diagram) (es : Elements) → length nodes < 10 ^ 18
    → AllByRecursion IsFullWord (element_words nodes es)
element_lines nodes End small = tt
element_lines nodes (Pair p s rest) small = (
  full_number (index_in p nodes) (omega (arith, index_most p nodes)),
  (full_number (index_in s nodes) (omega (arith, index_most s nodes)), element_lines nodes rest small),
)

-- the text of a literal
full_literal : (x : ℕ) (positive : _) → x < 10 ^ 18 → IsFullWord (literal_text x positive)
full_literal x true small = full_number x small
full_literal x false small = record { bytes = (omega arith, number_is_word x); filled = refl }

-- a word of one letter
letter : (b : ℕ) → 33 ≤ b → IsFullWord (b ∷ [])
letter b h = record { bytes = (h, tt); filled = refl }

-- the line of a node
node_line : (v : ℕ) (nodes : List Diagram) (d : Diagram) → length nodes < 10 ^ 18 → IsReadable v d
    → IsTextLine 99 (node_words nodes d)
node_line v nodes Bottom small fits =
    let id = full_number (index_in Bottom nodes) (omega (arith, index_most Bottom nodes)) in
    record { words = (letter 70 (omega arith), (id, tt)); not_blank = refl; plain = refl }
node_line v nodes Top small fits =
    let id = full_number (index_in Top nodes) (omega (arith, index_most Top nodes)) in
    record { words = (letter 84 (omega arith), (id, tt)); not_blank = refl; plain = refl }
node_line v nodes (Literal p x positive) small fits =
    let d = Literal p x positive in
    let id = full_number (index_in d nodes) (omega (arith, index_most d nodes)) in
    record {
      words = (letter 76 (omega arith), (id, (full_number p fits.0, (full_literal x positive fits.3, tt))));
      not_blank = refl;
      plain = refl;
    }
node_line v nodes (Decomposition p es) small fits =
    let d = Decomposition p es in
    let id = full_number (index_in d nodes) (omega (arith, index_most d nodes)) in
    record {
      words = (
        letter 68 (omega arith),
        (id, (full_number p fits.0, (full_number (count es) fits.2, element_lines nodes es small))),
      );
      not_blank = refl;
      plain = refl;
    }

-- the lines of nodes
node_lines : (v : ℕ) (nodes ds : List Diagram) → length nodes < 10 ^ 18 → AllByRecursion (IsReadable v) ds
    → AllByRecursion (IsTextLine 99) (map (node_words nodes) ds)
node_lines v nodes [] small fit = tt
node_lines v nodes (d ∷ ds) small fit = (node_line v nodes d small fit.0, node_lines v nodes ds small fit.1)

-- ---- the lines are read one after the other

-- the ids of entries
abbrev ids_of : List Entry → List ℕ
ids_of entries = map (λ e. e.id) entries

-- the lines of diagrams behind earlier ones
lines_read : (v n : ℕ) (nodes before ds : List Diagram) (earlier : List Entry) → nodes ≡ before ++ ds
    → length nodes < 10 ^ 18 → IsClosed before ds → AreNew before ds → AllByRecursion (IsReadable v) ds
    → AreOwnPlaces (ids_of earlier) → length earlier ≡ length before
    → each_after (entry_of v) earlier (numbered n (map (node_words nodes) ds))
    ≡ Ok (earlier ++ map (written_entry nodes) ds)
lines_read v n nodes before [] earlier is small closed new fit own same = ap Ok (sym (append-nil earlier))
lines_read v n nodes before (d ∷ ds) earlier is small closed new fit own same =
    let ids = ids_of earlier in
    let entry = written_entry nodes d in
    let count : length ids ≡ length before = length-map earlier (λ (e : Entry). e.id) ∙ same in
    let index : index_in d nodes ≡ length ids =
    ap (index_in d) is ∙ index_new d before ds new.0 ∙ sym count in
    let known : HaveIds before nodes ids = λ x there.
    own.known (index_in x nodes) (omega (arith, count, ap (index_in x) is, index_below x before (d ∷ ds) there)) in
    let fresh = own.new (index_in d nodes) (omega (arith, index)) in
    let line : entry_of v earlier (record { number = n; words = node_words nodes d }) ≡ Ok entry =
    line_back v n before nodes ids d small fit.0 closed.0 known fresh in
    let pushed : ids_of (earlier ++ entry ∷ []) ≡ ids ++ length ids ∷ [] =
    map_push (λ (e : Entry). e.id) earlier entry ∙ ap (λ i. ids ++ i ∷ []) index in
    let longer : length (earlier ++ entry ∷ []) ≡ length (before ++ d ∷ []) =
    length_push earlier entry ∙ ap (λ k. k + 1) same ∙ sym (length_push before d) in
    let rest = lines_read v (n + 1) nodes (before ++ d ∷ []) ds (earlier ++ entry ∷ [])
    (is ∙ sym (append_assoc before (d ∷ []) ds)) small closed.1 new.1 fit.1
    (subst AreOwnPlaces (sym pushed) (next_id ids own)) longer in
    rw line (rest ∙ ap Ok (append_assoc earlier (entry ∷ []) (map (written_entry nodes) ds)))

-- the text of all nodes, behind a header with their number and before comments
pub text_read : (v : ℕ) (nodes : List Diagram) (comments : List (List (List ℕ))) → 1 ≤ length nodes
    → length nodes < 10 ^ 18 → IsClosed [] nodes → AreNew [] nodes → AllByRecursion (IsReadable v) nodes
    → AllByRecursion IsComment comments
    → file_of_lines v (content_of 99 (flat_map line_text
    ((codes "sdd" ∷ number_text (length nodes) ∷ []) ∷ map (node_words nodes) nodes ++ comments)))
    ≡ Ok (record { variables = v; nodes = map (written_entry nodes) nodes })
text_read v nodes comments some small closed new fit passed =
    let header : List (List ℕ) = codes "sdd" ∷ number_text (length nodes) ∷ [] in
    let lines = map (node_words nodes) nodes in
    let entries = map (written_entry nodes) nodes in
    let name : IsFullWord (codes "sdd") =
    record { bytes = (omega arith, (omega arith, (omega arith, tt))); filled = refl } in
    let head : IsTextLine 99 header =
    record { words = (name, (full_number (length nodes) small, tt)); not_blank = refl; plain = refl } in
    let read = lines_read v 2 nodes [] nodes [] refl small closed new fit no_ids refl in
    let count : length nodes ≡ length entries = sym (length-map nodes (written_entry nodes)) in
    ap (file_of_lines v)
    (lines_before_comments 1 (header ∷ lines) comments (head, node_lines v nodes nodes small fit) passed)
    ∙ rw (
      natural_back (length nodes) small,
      read,
      eq-eqb (length nodes) (length entries) count,
      ne_eqb (length entries) 0 (λ e. omega (arith, count)),
    ) refl
