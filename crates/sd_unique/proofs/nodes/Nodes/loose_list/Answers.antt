use Rattle.std.proofs.Common.{length, Some, sym, ap, ◌∙◌}
use Rattle.std.specs.FinMap.{get}
use Rattle.std.specs.Option.{option_map}
use Rattle.sd_unique.proofs.Loose.{loose_live, loose_there, loose_untaken}
use Rattle.sd_unique.proofs.nodes.Nodes.loose_list.Goals as goal

pub get-requires : goal.get-requires
get-requires c =
    let loose = ap (λ a. get a.loose c.args.run.0) c.self.view_is ∙ c.requires.1.is in
    ap (option_map length)
    (loose_live c.self.inside.runs.live c.self.inside.records.items c.args.run.0 c.requires.0 loose)
    ∙ ap Some c.requires.1.counted

pub returns : goal.returns
returns c =
    let loose = ap (λ a. get a.loose c.args.run.0) c.self.view_is ∙ c.requires.1.is in
    sym (ap (λ a. get a.loose c.args.run.0) c.self.view_is)
    ∙ loose_there c.self.inside.runs.live c.self.inside.records.items c.args.run.0
    (loose_untaken c.self.inside.runs.live c.self.inside.records.items c.args.run.0 c.requires.0 loose)
    ∙ c.get.ensures
