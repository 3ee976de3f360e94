use Rattle.sd_manager.proofs.Same.{same_code, same_function, held_code}
use Rattle.sd_manager.proofs.manager.Manager.same.Goals as goal

pub returns-clause-diagrams : goal.returns-clause-diagrams
returns-clause-diagrams c = λ x y h k.
    same_code c.args.self.now c.node_of-first.ensures.table c.node_of-first.result c.node_of-second.result x y
    (held_code c.args.self.now c.args.a.now c.node_of-first.result x c.node_of-first.ensures.held h)
    (held_code c.args.self.now c.args.b.now c.node_of-second.result y c.node_of-second.ensures.held k)
    c.eq.result c.eq.ensures

pub returns-clause-functions : goal.returns-clause-functions
returns-clause-functions c = λ x y h k.
    same_function c.args.self.now c.node_of-first.ensures.table c.node_of-first.result c.node_of-second.result x y
    (held_code c.args.self.now c.args.a.now c.node_of-first.result x c.node_of-first.ensures.held h)
    (held_code c.args.self.now c.args.b.now c.node_of-second.result y c.node_of-second.ensures.held k)
    c.eq.result c.eq.ensures
