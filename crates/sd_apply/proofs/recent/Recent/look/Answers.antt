use Rattle.std.proofs.lemmas.List.Elements.{All-contains}
use Rattle.std.proofs.lemmas.Option.{IfSome_then}
use Rattle.sd_cache.specs.Entries.{call}
use Rattle.sd_apply.specs.Serving.{IsRight}
use Rattle.sd_apply.proofs.recent.Recent.look.Goals as goal

pub returns : goal.returns
returns c = record {
  right = IfSome_then c.look.result c.look.ensures
      (λ r m t k. All-contains (λ e. IsRight t e) c.args.self.now.table
      (call 0 c.args.operation c.args.a c.args.b, r) k.right m);
}
