use Rattle.sd_vtree.proofs.Sides.{part_rotated}
use Rattle.sd_vtree.proofs.order.rotate_part.Goals as goal

pub returns : goal.returns
returns c = λ f x y k e a b d.
    part_rotated f x y k c.args.order.now c.rotate_left.new.self c.args.from c.args.middle c.args.to e a b d
    c.rotate_left.ensures.after
