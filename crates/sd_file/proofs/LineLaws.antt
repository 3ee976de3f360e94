-- One more line after earlier nodes.
use Rattle.std.proofs.Common.{◌≡◌, ℕ, true, false, List, [], ◌∷◌, ◌++◌, map, length, sym, ap, ◌∙◌, subst}
use Rattle.std.proofs.Common.{Option, Some, None, Result, Ok, Err, ok_or}
use Rattle.std.specs.Prelude.{is_some, codes}
use Rattle.std.specs.List.{AllByRecursion}
use Rattle.sd_base.specs.Lines.{TextLine}
use Rattle.sd_base.specs.Reading.{◌>>=◌, ◌>>◌, fault_if, read_more}
use Rattle.sd_file.specs.declared.fault.SddFault.{SddFault}
use Rattle.sd_file.specs.declared.fault.SddFault.TheVariants.{OutOfMemory}
use Rattle.sd_file.specs.declared.file.FileNode.{FileNode}
use Rattle.sd_file.specs.declared.file.FileEntry.{FileEntry}
use Rattle.sd_base.specs.FaultTexts.{at_line}
use Rattle.sd_file.specs.Reads.{Node, Entry, Fails, form_of, index_of_id, node_of, entry_with, entry_of}
use Rattle.sd_file.specs.Steps.{node_in, entries_of, IsWithin, IsPutIn}
use Rattle.sd_file.proofs.Growing.{ids_same, entries_push}

-- an id and a node
abbrev entry : ℕ → Node → Entry
entry id node = record { id = id; node = node }

-- a node of an id behind earlier ones
abbrev put_entry : List Entry → ℕ → Result Node (List ℕ) → Result (List Entry) (List ℕ)
put_entry earlier id reading = (reading >>= λ node. Ok (entry id node)) >>= λ e. Ok (earlier ++ e ∷ [])

-- the entry of a form
abbrev placed : ℕ → List ℕ → ℕ → Entry → Result Entry (List ℕ)
placed v ids line form =
    fault_if (is_some (index_of_id form.id ids)) (at_line line (codes ": id twice"))
    >> (node_of v ids line form.node >>= λ node. Ok (entry form.id node))

-- the ids of nodes as they are kept
abbrev kept_ids : List FileEntry → List ℕ
kept_ids kept = map (λ k. k.id) kept

-- the reading of a line of a form
with_form : (v : ℕ) (kept : List FileEntry) (pairs : List (ℕ × ℕ)) (line : TextLine) (form : Entry)
    → form_of line.words ≡ Some form
    → read_more (entry_of v) (entries_of kept pairs) line
    ≡ (placed v (kept_ids kept) line.number form >>= λ e. Ok (entries_of kept pairs ++ e ∷ []))
with_form v kept pairs line form form_is =
    let put : Result Entry (List ℕ) → Result (List Entry) (List ℕ) =
    λ r. r >>= λ e. Ok (entries_of kept pairs ++ e ∷ []) in
    let rest : Entry → Result Entry (List ℕ) = placed v (kept_ids kept) line.number in
    ap (λ ids. put (entry_with v ids line)) (ids_same kept pairs)
    ∙ ap (λ (o : Option Entry). put (ok_or o (at_line line.number (codes ": bad line")) >>= rest)) form_is

-- the line has no form
pub no_form : (v : ℕ) (kept : List FileEntry) (pairs : List (ℕ × ℕ)) (line : TextLine) → form_of line.words ≡ None
    → read_more (entry_of v) (entries_of kept pairs) line ≡ Err (at_line line.number (codes ": bad line"))
no_form v kept pairs line none =
    let put : Result Entry (List ℕ) → Result (List Entry) (List ℕ) =
    λ r. r >>= λ e. Ok (entries_of kept pairs ++ e ∷ []) in
    let rest : Entry → Result Entry (List ℕ) = placed v (map (λ e. e.id) (entries_of kept pairs)) line.number in
    ap (λ (o : Option Entry). put (ok_or o (at_line line.number (codes ": bad line")) >>= rest)) none

-- the id is that of an earlier node
pub id_twice : (v : ℕ) (kept : List FileEntry) (pairs : List (ℕ × ℕ)) (line : TextLine) (form : Entry) (id : ℕ)
    → form_of line.words ≡ Some form → id ≡ form.id → true ≡ is_some (index_of_id id (kept_ids kept))
    → read_more (entry_of v) (entries_of kept pairs) line ≡ Err (at_line line.number (codes ": id twice"))
id_twice v kept pairs line form id form_is id_is known =
    let here : is_some (index_of_id form.id (kept_ids kept)) ≡ true =
    ap (λ i. is_some (index_of_id i (kept_ids kept))) (sym id_is) ∙ sym known in
    let node = node_of v (kept_ids kept) line.number form.node >>= λ node. Ok (entry form.id node) in
    let twice = at_line line.number (codes ": id twice") in
    with_form v kept pairs line form form_is
    ∙ ap (λ b. (fault_if b twice >> node) >>= λ e. Ok (entries_of kept pairs ++ e ∷ [])) here

-- the id is new
new_id : (v : ℕ) (kept : List FileEntry) (pairs : List (ℕ × ℕ)) (line : TextLine) (form : Entry) (id : ℕ)
    → form_of line.words ≡ Some form → id ≡ form.id → false ≡ is_some (index_of_id id (kept_ids kept))
    → read_more (entry_of v) (entries_of kept pairs) line
    ≡ put_entry (entries_of kept pairs) form.id (node_of v (kept_ids kept) line.number form.node)
new_id v kept pairs line form id form_is id_is fresh =
    let here : is_some (index_of_id form.id (kept_ids kept)) ≡ false =
    ap (λ i. is_some (index_of_id i (kept_ids kept))) (sym id_is) ∙ sym fresh in
    let node = node_of v (kept_ids kept) line.number form.node >>= λ node. Ok (entry form.id node) in
    let twice = at_line line.number (codes ": id twice") in
    with_form v kept pairs line form form_is
    ∙ ap (λ b. (fault_if b twice >> node) >>= λ e. Ok (entries_of kept pairs ++ e ∷ [])) here

-- a fault decides
put_fails : (e : SddFault) (earlier : List Entry) (id : ℕ) (reading : Result Node (List ℕ)) → Fails e reading
    → Fails e (put_entry earlier id reading)
put_fails OutOfMemory earlier id reading h = tt
put_fails e earlier id reading h = ap (put_entry earlier id) h

-- a fault of the node is that of the line
pub line_fails : (v : ℕ) (kept : List FileEntry) (pairs : List (ℕ × ℕ)) (line : TextLine) (form : Entry) (id : ℕ)
    (e : SddFault) → form_of line.words ≡ Some form → id ≡ form.id → false ≡ is_some (index_of_id id (kept_ids kept))
    → Fails e (node_of v (kept_ids kept) line.number form.node)
    → Fails e (read_more (entry_of v) (entries_of kept pairs) line)
line_fails v kept pairs line form id e form_is id_is fresh fails =
    let all = new_id v kept pairs line form id form_is id_is fresh in
    subst (Fails e) (sym all) (put_fails e (entries_of kept pairs) form.id _ fails)

-- the node is put behind the others
pub line_read : (v : ℕ) (kept later : List FileEntry) (before after : List (ℕ × ℕ)) (line : TextLine) (form : Entry)
    (id start : ℕ) (node : FileNode) → form_of line.words ≡ Some form → id ≡ form.id
    → false ≡ is_some (index_of_id id (kept_ids kept)) → start ≡ length before
    → node_of v (kept_ids kept) line.number form.node ≡ Ok (node_in after (length before) node)
    → AllByRecursion (IsWithin (length before)) kept → IsPutIn before after
    → later ≡ kept ++ record { id = id; node = node; start = start } ∷ []
    → read_more (entry_of v) (entries_of kept before) line ≡ Ok (entries_of later after)
line_read v kept later before after line form id start node form_is id_is fresh start_is node_is within put later_is =
    let earlier = entries_of kept before in
    let new_node = node_in after (length before) node in
    let with_id = ap (λ i. entry i new_node) (sym id_is) in
    let with_start = ap (λ s. entry id (node_in after s node)) (sym start_is) in
    let same = ap (λ e. Ok (earlier ++ e ∷ [])) (with_id ∙ with_start) in
    let pushed = entries_push before after kept (record { id = id; node = node; start = start }) within put in
    new_id v kept before line form id form_is id_is fresh ∙ ap (put_entry earlier form.id) node_is ∙ same
    ∙ ap Ok (sym pushed) ∙ ap (λ ks. Ok (entries_of ks after)) (sym later_is)
