use Rattle.sd_check.proofs.EqualCodes.{two_twins}
use Rattle.sd_check.proofs.twins.are_twins.Goals as goal

pub returns : goal.returns
returns c =
    two_twins c.args.elements.now c.index-elements-0.result c.index-elements-1.result c.requires _ _ c.one.view_is
    c.other.view_is
