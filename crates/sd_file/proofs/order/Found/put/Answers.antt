use Rattle.std.proofs.Common.{ap, ◌∙◌, ◌++◌, ◌∷◌, []}
use Rattle.sd_file.proofs.Giving.{updated_here, updated_other}
use Rattle.sd_file.proofs.order.Found.put.Goals as goal

pub returns : goal.returns
returns c =
    record {
      group = c.push.new.self;
      is = updated_here c.args.position _ _ _ (c.in_ok-insert.ensures.updates.0 c.args.position);
      items = c.in_ok-push.ensures.items ∙ ap (λ l. l ++ c.args.code ∷ []) c.taken_or_new-group.ensures.items;
      others = λ q differ.
          updated_other c.args.position q _ _ _ (c.in_ok-insert.ensures.updates.0 q) differ
          ∙ c.taken_or_new-group.ensures.others q differ;
      seen = c.in_ok-see.ensures;
    }
