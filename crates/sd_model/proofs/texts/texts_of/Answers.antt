use Rattle.std.proofs.Common.{map}
use Rattle.sd_model.specs.Seen.{diagram_of}
use Rattle.sd_model.proofs.TextSteps.{whole_text}
use Rattle.sd_model.proofs.texts.texts_of.Goals as goal

-- the header, the nodes' lines and the roots' make the text
pub returns : goal.returns
returns c =
    rw (
      c.in_ok-push_naming.ensures,
      c.in_ok-push_nodes.ensures,
      c.in_ok-push_feed.ensures,
      c.in_ok-push_number.ensures,
      c.in_ok-text.ensures.items,
      c.len.ensures,
      c.deref-2.ensures.value,
      c.deref.ensures.value,
      c.in_ok-nodes.nodes.ok.0,
    )
    (whole_text (map diagram_of c.args.roots.now) c.in_ok-nodes.nodes.items c.in_ok-nodes.ensures)
