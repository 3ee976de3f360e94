use Rattle.std.proofs.Common.{◌≡◌, ◌∙◌, ◌+◌, refl, ap, subst, length}
use Rattle.std.specs.FinMap.{get}
use Rattle.std.proofs.lemmas.List.{length_push}
use Rattle.std.specs.Prelude.{Ok}
use Rattle.sd_manager.proofs.Extending.{extends_on}
use Rattle.sd_check.specs.Judging.{TellsNode}
use Rattle.sd_check.proofs.Judged.{all_sound_on, sound_more, unbroken_more}
use Rattle.sd_check.proofs.checker.check.Goals as goal

-- one node more
pub loop-index-preserved : goal.loop-index-preserved
loop-index-preserved c =
    let ids = get c.args.ids.now in
    let f = c.args.file.now in
    let m = c.judge.new.m in
    let w = c.loop-index.invariant in
    let l = c.loop-index.built.items in
    let all : length c.deref-in-loop-index.result.now ≡ c.loop-index.index =
    ap length c.deref-in-loop-index.ensures.value ∙ w.all in
    let told : TellsNode m ids f c.loop-index.index (Ok c.in-Ok.node) =
    subst (λ n. TellsNode m ids f n (Ok c.in-Ok.node)) all
    (subst (TellsNode m ids f (length c.deref-in-loop-index.result.now)) c.in-Ok.is c.in_ok-rule.ensures.ok) in
    let x = extends_on c.args.m.now c.loop-index.m m w.kept c.in_ok-rule.ensures.kept in
    record {
      sound = sound_more m ids f l c.push.new.self.items c.loop-index.index c.in-Ok.node
          (all_sound_on c.loop-index.m m ids f l c.in_ok-rule.ensures.kept w.sound) w.all told.1
          c.in_ok-push-in-Ok.ensures.items;
      unbroken = unbroken_more c.args.m.now m ids f c.loop-index.index c.loop-index.index x.vtree refl w.unbroken
          told.0;
      all = ap length c.in_ok-push-in-Ok.ensures.items ∙ length_push l c.in-Ok.node ∙ ap (λ n. n + 1) w.all;
      kept = x;
      serves = c.in_ok-rule.ensures.serves;
      table = c.in_ok-rule.ensures.table;
    }
