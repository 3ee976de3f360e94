use Rattle.std.proofs.Common.{refl, sym, ◌∙◌, subst, ◌≤◌, length}
use Rattle.std.specs.List.{AllByRecursion, AllZip}
use Rattle.std.proofs.lemmas.List.Elements.{length_all_zip}
use Rattle.sd_manager.specs.Shown.{IsNodeOf}
use Rattle.sd_commands.specs.Standing.{ShowsNamed}
use Rattle.sd_commands.proofs.Values.{worded, nodes_shown}
use Rattle.sd_commands.proofs.Stepping.{written}
use Rattle.sd_commands.proofs.effects.write_diagrams.Goals as goal

-- there is a node for each name
pub write_nodes-requires-clause-some : goal.write_nodes-requires-clause-some
write_nodes-requires-clause-some c =
    let seen = c.requires.represents.0 in
    subst (λ nodes. 1 ≤ length nodes) (sym c.deref.ensures.value)
    (subst (λ n. 1 ≤ n)
    (length_all_zip (ShowsNamed c.args.state.now.manager seen) c.args.names.now c.in_ok-nodes.nodes.items
    (c.in_ok-nodes.ensures seen c.requires.represents.1)) c.requires.some)

-- and each shows a canonical diagram
pub write_nodes-requires-clause-shown : goal.write_nodes-requires-clause-shown
write_nodes-requires-clause-shown c =
    let seen = c.requires.represents.0 in
    subst (AllByRecursion (IsNodeOf c.args.state.now.manager)) (sym c.deref.ensures.value)
    (nodes_shown c.args.state.now.manager seen c.args.names.now c.in_ok-nodes.nodes.items
    (c.in_ok-nodes.ensures seen c.requires.represents.1))

pub returns : goal.returns
returns c = λ input seen was.
    let shows = ShowsNamed c.args.state.now.manager seen in
    written input seen _ c.args.state.now c.in_ok-copy.copy c.args.file.now c.in_ok-text.text c.in_ok-text.text was (
      c.in_ok-text.text,
      worded c.args.state.now.manager seen c.args.names.now c.deref.result.now c.in_ok-text.text was.tree
          (subst (AllZip shows c.args.names.now) (sym c.deref.ensures.value) (c.in_ok-nodes.ensures seen was))
          c.in_ok-text.ensures.text,
      refl,
    ) (c.in_ok-copy.ensures ∙ c.as_str.ensures) refl
