use Rattle.std.proofs.Common.{sym, ap, subst, ◌∙◌}
use Rattle.std.specs.Prelude.{MatchResult}
use Rattle.sd_model.specs.Tree.{Tree}
use Rattle.sd_vtree.specs.Numbered.{plain_tree}
use Rattle.sd_manager.specs.Table.{Table}
use Rattle.sd_manager.specs.Marking.{AreUnmarked}
use Rattle.sd_manager.proofs.Marking.{unmarked_new}
use Rattle.sd_apply.proofs.Tried.{empty_serves}
use Rattle.sd_starts.specs.Starts.{tree_of_start, IsDoneAt, IsStoppedAt}
use Rattle.sd_starts.proofs.work.work_at.Goals as goal

-- a new manager and a new cache
pub work_in-requires-clause-ready : goal.work_in-requires-clause-ready
work_in-requires-clause-ready c = record {
  table = c.in_ok-manager.ensures.table;
  no_move = ap (λ (t : Table). t.moving) c.in_ok-manager.ensures.ok;
  bound = ap (λ (t : Table). t.bound) c.in_ok-manager.ensures.ok;
  unmarked = subst AreUnmarked (sym c.in_ok-manager.ensures.ok) (unmarked_new c.in_ok-vtree.vtree 2147483647);
  serves = empty_serves c.in_ok-cache.cache c.in_ok-manager.manager c.in_ok-cache.ensures;
}

pub returns : goal.returns
returns c =
    let f = c.args.f.now in
    let r = c.work_in.result in
    record {
      ready = c.work_in.ensures.ready;
      end =
          subst (λ (u : Tree). MatchResult r.end (IsDoneAt f c.args.settings u r.manager)
          (IsStoppedAt f c.args.settings u r.manager))
          (ap (λ (t : Table). plain_tree t.vtree) c.in_ok-manager.ensures.ok ∙ c.in_ok-vtree.ensures.tree
          ∙ ap (tree_of_start c.args.start) c.variables.ensures.value)
          c.work_in.ensures.end;
    }
