use Rattle.std.proofs.Common.{sym, ◌∙◌, ap, ◌+◌, map, drop}
use Rattle.std.specs.List.{flat_map}
use Rattle.sd_model.specs.Size.{walk}
use Rattle.sd_model.specs.Listing.{add}
use Rattle.sd_model.specs.Seen.{diagram_of, diagrams_of}
use Rattle.sd_model.proofs.NodeSteps.{roots_begun, add_root, roots_done}
use Rattle.sd_model.proofs.nodes.nodes_of.Goals as goal

-- none was added
pub loop-root-init : goal.loop-root-init
loop-root-init c = roots_begun c.args.roots.now c.new-nodes.result.items c.new-nodes.ensures.items

-- the nodes under one more root were added
pub loop-root-preserved : goal.loop-root-preserved
loop-root-preserved c =
    ap (λ ds. add ds (flat_map walk (map diagram_of (drop (c.loop-root.root-index + 1) c.args.roots.now))))
    (c.in_ok-add_diagram.ensures
    ∙ ap (λ d. add (diagrams_of c.loop-root.nodes.items) (walk (diagram_of d))) c.root-item.is)
    ∙ sym (add_root (diagrams_of c.loop-root.nodes.items) c.args.roots.now c.loop-root.root-index
    c.root-item.result c.loop-root-test.true)
    ∙ c.loop-root.invariant

-- all were
pub returns : goal.returns
returns c =
    roots_done c.args.roots.now c.loop-root.nodes.items c.loop-root.root-index c.loop-root-test.false
    c.loop-root.invariant
