use Rattle.std.proofs.Common.{Some, refl, sym, ap, subst, ◌∙◌}
use Rattle.std.specs.BTreeMap.{is_at}
use Rattle.std.specs.Map.{lookup}
use Rattle.std.specs.Ordering.{nat_cmp}
use Rattle.std.specs.FinMap.{get}
use Rattle.std.specs.Option.{IsSome}
use Rattle.sd_manager.specs.Making.{without_root}
use Rattle.sd_commands.specs.Standing.{without}
use Rattle.sd_commands.proofs.Standing.{stands_named, value_held, no_root_more, as_before}
use Rattle.sd_commands.proofs.state.RunState.insert_root.Goals as goal

pub release-requires : goal.release-requires
release-requires c = record {
  no_move = c.requires.represents.1.no_move;
  root =
      subst (λ r. IsSome (get c.args.self.now.manager.roots r)) (sym (ap (λ p. p.1) c.in-Err.ensures.value_returned))
      (value_held c.args.self.now.manager c.args.root c.requires.holds.0 c.requires.holds.1);
}

pub returns-in-Ok-clause-represents : goal.returns-in-Ok-clause-represents
returns-in-Ok-clause-represents c = λ seen f was holds.
    stands_named c.args.self.now _ seen c.args.name c.args.root f was holds c.requires.free refl refl refl refl refl
    refl
    (λ q. c.in-Ok.ensures.updates.0 q)

pub returns-in-Err-clause-err : goal.returns-in-Err-clause-err
returns-in-Err-clause-err c =
    as_before (without c.args.self.now c.args.root) _
    (c.release.ensures.released
    ∙ ap (without_root c.args.self.now.manager) (ap (λ p. p.1) c.in-Err.ensures.value_returned))
    refl refl refl refl refl (λ q. ap (lookup (is_at (nat_cmp q))) c.in-Err.ensures.err)

pub returns-in-Err-clause-roots : goal.returns-in-Err-clause-roots
returns-in-Err-clause-roots c = no_root_more c.args.self.now.manager _ (Some _) c.release.ensures.released
