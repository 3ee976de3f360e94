use Rattle.sd_vtree.proofs.Sides.{sides_exchanged}
use Rattle.sd_vtree.proofs.order.exchange_sides.Goals as goal

pub returns : goal.returns
returns c = λ f a b k u e g h i.
    sides_exchanged f a b k u c.args.from c.args.position c.args.to c.args.order.now c.rotate_part.new.order
    c.rotate_part-2.new.order e g h i c.rotate_part.ensures c.rotate_part-2.ensures
