use Rattle.std.proofs.Common.{◌≡◌, ◌∙◌, sym, ap, subst, arith, length, Some, option_map}
use Rattle.std.proofs.lemmas.Result.{err_from_is_err_and}
use Rattle.std.specs.List.{AllByRecursion}
use Rattle.sd_base.specs.Views.{line_view}
use Rattle.sd_file.specs.declared.file.FileEntry.{FileEntry}
use Rattle.sd_file.specs.Reads.{form_of}
use Rattle.sd_file.specs.Steps.{form_view, IsWithin}
use Rattle.sd_file.proofs.Growing.{within_push}
use Rattle.sd_file.proofs.LineLaws.{no_form, id_twice, line_fails, line_read}
use Rattle.sd_file.proofs.reader.Nodes.read_line.Goals as goal

-- the line has no form
pub returns-in_default-clause-value : goal.returns-in_default-clause-value
returns-in_default-clause-value c =
    no_form c.args.variables c.args.self.now.id_table.entries.items c.args.self.now.pairs.items
    (line_view c.args.line.now) (sym c.in_ok-form.ensures.form ∙ ap (option_map form_view) c.in_default.is)

-- an earlier line has the id
pub returns-then-has-clause-value : goal.returns-then-has-clause-value
returns-then-has-clause-value c =
    let line = line_view c.args.line.now in
    let form_is : form_of line.words ≡ Some (form_view c.in-Some.form) =
    sym c.in_ok-form.ensures.form ∙ ap (option_map form_view) c.in-Some.is in
    id_twice c.args.variables c.args.self.now.id_table.entries.items c.args.self.now.pairs.items line
    (form_view c.in-Some.form) c.id-id.result form_is c.id-id.ensures c.if-has.ensures

-- the node has a fault
pub returns-in_err-node-clause-value : goal.returns-in_err-node-clause-value
returns-in_err-node-clause-value c =
    let line = line_view c.args.line.now in
    let form_is : form_of line.words ≡ Some (form_view c.in-Some.form) =
    sym c.in_ok-form.ensures.form ∙ ap (option_map form_view) c.in-Some.is in
    let p = err_from_is_err_and c.from_residual-in_err-node.result c.from_residual-in_err-node.ensures.1 in
    rw (p.1, p.2)
    (line_fails c.args.variables c.args.self.now.id_table.entries.items c.args.self.now.pairs.items line
    (form_view c.in-Some.form) c.id-id.result _ form_is c.id-id.ensures c.if-has.ensures c.in_err-node.ensures.value)

-- the node is put behind the others
pub returns-clause-value : goal.returns-clause-value
returns-clause-value c =
    let line = line_view c.args.line.now in
    let form_is : form_of line.words ≡ Some (form_view c.in-Some.form) =
    sym c.in_ok-form.ensures.form ∙ ap (option_map form_view) c.in-Some.is in
    let start_is : c.len-start.result ≡ length c.args.self.now.pairs.items =
    omega (arith, c.len-start.ensures, c.args.self.now.pairs.ok.0) in
    line_read c.args.variables c.args.self.now.id_table.entries.items c.add.new.self.entries.items
    c.args.self.now.pairs.items c.node_of.new.pairs.items line (form_view c.in-Some.form) c.id-id.result
    c.len-start.result c.in_ok-node.node form_is c.id-id.ensures c.if-has.ensures start_is
    c.in_ok-node.ensures.value c.requires.read.within c.in_ok-node.ensures.put c.in_ok-add.ensures.kept

-- its pairs are in the list
pub returns-clause-read : goal.returns-clause-read
returns-clause-read c =
    let before = c.args.self.now.pairs.items in
    let after = c.node_of.new.pairs.items in
    let kept = c.args.self.now.id_table.entries.items in
    let k : FileEntry = record { id = c.id-id.result; node = c.in_ok-node.node; start = c.len-start.result } in
    let last : IsWithin (length after) k =
    omega (arith, c.len-start.ensures, c.args.self.now.pairs.ok.0, c.in_ok-node.ensures.within) in
    let within = within_push before after kept k c.requires.read.within c.in_ok-node.ensures.put last in
    record {
      indexed = c.in_ok-add.ensures.indexed;
      within = subst (AllByRecursion (IsWithin (length after))) (sym c.in_ok-add.ensures.kept) within;
    }
