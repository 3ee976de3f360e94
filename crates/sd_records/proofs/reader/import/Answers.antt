use Rattle.sd_apply.proofs.Served.{serves_on}
use Rattle.sd_records.proofs.Imported.{all_read, root_there, root_shown, value_read}
use Rattle.sd_records.proofs.reader.import.Goals as goal

pub node_at-requires : goal.node_at-requires
node_at-requires c =
    root_there c.read_entries.new.m c.args.m.now c.args.records.now c.records.inside.root c.deref-3.result.now
    c.requires.records
    (all_read c.read_entries.new.m c.args.records.now c.records.inside.heads.items c.deref.result.now
    c.records.inside.pairs.items c.deref-2.result.now c.records.inside.root c.in_ok-nodes.nodes.items
    c.deref-3.result.now c.records.view_is c.deref.ensures.value c.deref-2.ensures.value c.in_ok-nodes.ensures.ok
    c.in_ok-nodes.ensures.all c.deref-3.ensures.value)

pub returns-clause-ok : goal.returns-clause-ok
returns-clause-ok c =
    root_shown c.args.m.now c.read_entries.new.m c.in_ok-nodes.ensures.table c.in_ok-nodes.ensures.kept
    c.args.records.now c.records.inside.root c.deref-3.result.now c.node_at.result c.requires.records
    (all_read c.read_entries.new.m c.args.records.now c.records.inside.heads.items c.deref.result.now
    c.records.inside.pairs.items c.deref-2.result.now c.records.inside.root c.in_ok-nodes.nodes.items
    c.deref-3.result.now c.records.view_is c.deref.ensures.value c.deref-2.ensures.value c.in_ok-nodes.ensures.ok
    c.in_ok-nodes.ensures.all c.deref-3.ensures.value) c.node_at.ensures

pub returns-clause-value : goal.returns-clause-value
returns-clause-value c =
    value_read c.args.m.now c.read_entries.new.m c.args.records.now c.node_at.result
    (root_shown c.args.m.now c.read_entries.new.m c.in_ok-nodes.ensures.table c.in_ok-nodes.ensures.kept
    c.args.records.now c.records.inside.root c.deref-3.result.now c.node_at.result c.requires.records
    (all_read c.read_entries.new.m c.args.records.now c.records.inside.heads.items c.deref.result.now
    c.records.inside.pairs.items c.deref-2.result.now c.records.inside.root c.in_ok-nodes.nodes.items
    c.deref-3.result.now c.records.view_is c.deref.ensures.value c.deref-2.ensures.value c.in_ok-nodes.ensures.ok
    c.in_ok-nodes.ensures.all c.deref-3.ensures.value) c.node_at.ensures)

pub returns-clause-serves : goal.returns-clause-serves
returns-clause-serves c =
    serves_on c.args.c.now c.args.m.now c.read_entries.new.m c.read_entries.ensures.kept c.requires.serves

pub returns-in_err-nodes-clause-serves : goal.returns-in_err-nodes-clause-serves
returns-in_err-nodes-clause-serves c =
    serves_on c.args.c.now c.args.m.now c.read_entries.new.m c.read_entries.ensures.kept c.requires.serves
