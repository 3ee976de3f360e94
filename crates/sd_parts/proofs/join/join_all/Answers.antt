-- One part more is joined, or its join is refused.
use Rattle.std.proofs.Common.{◌≡◌, ◌+◌, ◌∙◌, length, IfErr, sym, ap, subst, arith}
use Rattle.std.proofs.lemmas.Result.{err_from_is_err_and}
use Rattle.sd_model.specs.Expression.{expression_value}
use Rattle.sd_vtree.specs.Numbered.{plain_tree}
use Rattle.sd_formula.specs.Formulas.{expression_of, groups_part}
use Rattle.sd_manager.specs.Making.{without_root}
use Rattle.sd_sweep.proofs.NeverFalling.{never_both}
use Rattle.sd_compile.specs.Total.{IsWithinLimit}
use Rattle.sd_compile.specs.Compiling.{prefix_of, HoldsFormula, KeepsOtherRoots}
use Rattle.sd_compile.proofs.Joining.{whole_prefix}
use Rattle.sd_compile.proofs.Kept.{others_both, others_may}
use Rattle.sd_compile.proofs.Totals.{hold_nodes, hold_without}
use Rattle.sd_records.specs.Records.{UnfoldToValue}
use Rattle.sd_parts.specs.Parts.{part_begin, first_of_part}
use Rattle.sd_parts.specs.Join.{IsTurnRefused, IsJoinRefused}
use Rattle.sd_parts.specs.declared.part.PartAnswer.{PartAnswer}
use Rattle.sd_parts.proofs.AnswerAt.{compiled_on, not_refused}
use Rattle.sd_parts.proofs.PartsJoined.{first_all}
use Rattle.sd_parts.proofs.JoinLaws.{joins_more, joins_refused, holds_kept}
use Rattle.sd_parts.proofs.join.join_all.Goals as goal

pub unreachable-requires : goal.unreachable-requires
unreachable-requires c =
    not_refused c.args.answers.now c.loop-part.part c.index-answers-part.result c.requires.compiled
    c.loop-part-test.true c.index-answers-part.is c.in_default.field-0
    (ap (λ (a : PartAnswer). a.outcome) c.index-answers-part.is ∙ c.in_default.is)

pub join_turn-requires-clause-records : goal.join_turn-requires-clause-records
join_turn-requires-clause-records c =
    (compiled_on c.args.f.now (plain_tree c.args.m.now.vtree) (plain_tree c.loop-part.m.vtree) c.args.limit
    c.args.answers.now c.requires.answers c.loop-part.part c.index-answers-part.result c.loop-part-test.true
    c.index-answers-part.is c.in-Ok.records c.in-Ok.is
    (ap plain_tree c.loop-part.invariant.kept.reached.vtree)).are

pub join_turn-requires-clause-value : goal.join_turn-requires-clause-value
join_turn-requires-clause-value c =
    let f = c.args.f.now in
    let count = length c.args.answers.now in
    let part = c.loop-part.part in
    let t = plain_tree c.loop-part.m.vtree in
    let r = c.in-Ok.records in
    let first_is = c.begin_of_part-first.ensures.value
    ∙ ap (λ g. part_begin g count part) c.groups-groups.ensures.value in
    let last_is = c.begin_of_part-last.ensures.value
    ∙ ap (λ g. part_begin g count (part + 1)) c.groups-groups.ensures.value in
    let value =
    (compiled_on f (plain_tree c.args.m.now.vtree) t c.args.limit c.args.answers.now c.requires.answers part
    c.index-answers-part.result c.loop-part-test.true c.index-answers-part.is r c.in-Ok.is
    (ap plain_tree c.loop-part.invariant.kept.reached.vtree)).value in
    subst
    (λ n. UnfoldToValue t r (expression_value (expression_of (groups_part f n c.begin_of_part-last.result))))
    (sym first_is)
    (subst (λ n. UnfoldToValue t r (expression_value (expression_of (groups_part f (first_of_part f count part) n))))
    (sym last_is) value)

pub returns-in_err-join_turn-clause-err : goal.returns-in_err-join_turn-clause-err
returns-in_err-join_turn-clause-err c =
    let f = c.args.f.now in
    let root = c.args.root.now in
    let others = without_root c.args.m.now root in
    let new = c.join_turn.new.m in
    let count = length c.args.answers.now in
    let part = c.loop-part.part in
    let limit = c.args.limit in
    let first = c.begin_of_part-first.result in
    let last = c.begin_of_part-last.result in
    let e = c.in_err-join_turn.field-0.0 in
    let first_is : first ≡ first_of_part f count part = c.begin_of_part-first.ensures.value
    ∙ ap (λ g. part_begin g count part) c.groups-groups.ensures.value in
    let last_is : last ≡ first_of_part f count (part + 1) = c.begin_of_part-last.ensures.value
    ∙ ap (λ g. part_begin g count (part + 1)) c.groups-groups.ensures.value in
    let refused : IsJoinRefused others new f count limit e =
    joins_refused others (without_root c.loop-part.m root) c.vtree.ensures.table.numbered
    (hold_without c.args.m.now root (hold_nodes c.args.m.now c.vtree.ensures.table c.requires.no_move))
    c.loop-part.invariant.kept.reached f count limit part c.loop-part.invariant.within new first last e
    c.loop-part-test.true first_is last_is
    (subst (λ x. IsTurnRefused (without_root c.loop-part.m x) new f first last limit e) c.loop-part.invariant.root
    c.in_err-join_turn.ensures.err) in
    let p = err_from_is_err_and c.from_residual.result c.from_residual.ensures.1 in
    subst (λ r. IfErr r (λ x. IsJoinRefused others new f count limit x)) (sym p.1)
    (subst (IsJoinRefused others new f count limit) (sym p.2) refused)

pub returns-in_err-join_turn-clause-kept : goal.returns-in_err-join_turn-clause-kept
returns-in_err-join_turn-clause-kept c =
    let root = c.args.root.now in
    others_both c.args.m.now c.loop-part.m c.join_turn.new.m root c.loop-part.invariant.kept
    (subst (KeepsOtherRoots c.loop-part.m c.join_turn.new.m) c.loop-part.invariant.root
    c.in_err-join_turn.ensures.kept)

pub loop-part-preserved : goal.loop-part-preserved
loop-part-preserved c =
    let f = c.args.f.now in
    let root = c.args.root.now in
    let count = length c.args.answers.now in
    let part = c.loop-part.part in
    let last_is : c.begin_of_part-last.result ≡ first_of_part f count (part + 1) = c.begin_of_part-last.ensures.value
    ∙ ap (λ g. part_begin g count (part + 1)) c.groups-groups.ensures.value in
    let first_is : c.begin_of_part-first.result ≡ first_of_part f count part = c.begin_of_part-first.ensures.value
    ∙ ap (λ g. part_begin g count part) c.groups-groups.ensures.value in
    record {
      holds =
          holds_kept c.join_turn.new.m c.sweep_past.new.m (prefix_of f (first_of_part f count (part + 1)))
          c.join_turn.new.root c.sweep_past.ensures.kept
          (subst (λ n. HoldsFormula c.join_turn.new.m (prefix_of f n) c.join_turn.new.root) last_is
          c.in_ok-join_turn.ensures.ok);
      root = c.in_ok-join_turn.ensures.root ∙ c.loop-part.invariant.root;
      within =
          joins_more (without_root c.args.m.now root) (without_root c.loop-part.m root) c.vtree.ensures.table.numbered
          (hold_without c.args.m.now root (hold_nodes c.args.m.now c.vtree.ensures.table c.requires.no_move))
          c.loop-part.invariant.kept.reached f count c.args.limit part c.loop-part.invariant.within
          (λ has.
          subst (λ n. IsWithinLimit (without_root c.loop-part.m root) (prefix_of f n) c.args.limit) last_is
          (subst
          (λ r. IsWithinLimit (without_root c.loop-part.m r) (prefix_of f c.begin_of_part-last.result) c.args.limit)
          c.loop-part.invariant.root (c.in_ok-join_turn.ensures.within (omega (arith, has, first_is, last_is)))));
      kept =
          others_both c.args.m.now c.loop-part.m c.sweep_past.new.m root c.loop-part.invariant.kept
          (others_may c.loop-part.m c.join_turn.new.m c.sweep_past.new.m root
          (subst (KeepsOtherRoots c.loop-part.m c.join_turn.new.m) c.loop-part.invariant.root
          c.in_ok-join_turn.ensures.kept) c.sweep_past.ensures.swept);
      never =
          never_both c.args.m.now c.loop-part.m c.sweep_past.new.m c.loop-part.invariant.never
          (never_both c.loop-part.m c.join_turn.new.m c.sweep_past.new.m c.in_ok-join_turn.ensures.never_falls
          c.sweep_past.ensures.never_falls);
      serves = c.sweep_past.ensures.serves;
      unmarked = c.sweep_past.ensures.unmarked;
      table = c.sweep_past.ensures.table;
    }

pub returns-clause-ok : goal.returns-clause-ok
returns-clause-ok c =
    let f = c.args.f.now in
    let count = length c.args.answers.now in
    let all : c.loop-part.part ≡ count = omega (arith, c.loop-part-test.false, c.loop-part.auto.part-end) in
    let end : first_of_part f count c.loop-part.part ≡ length f.groups =
    ap (first_of_part f count) all ∙ first_all f count c.requires.answers.at_least_one in
    subst (λ e. HoldsFormula c.loop-part.m e c.loop-part.root)
    (ap (prefix_of f) end ∙ whole_prefix f (length f.groups) (omega arith)) c.loop-part.invariant.holds
