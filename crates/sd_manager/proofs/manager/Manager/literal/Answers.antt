use Rattle.std.proofs.Common.{sym, ap, subst, ◌∙◌, w32}
use Rattle.std.proofs.lemmas.Int.{to_z-of_z}
use Rattle.sd_model.specs.Tree.{leaves}
use Rattle.sd_vtree.specs.Numbered.{IsNumbered, plain_tree}
use Rattle.sd_manager.specs.Literals.{IsLiteralTo, code_of_literal}
use Rattle.sd_manager.proofs.Reading.{literal_more, literal_shown}
use Rattle.sd_manager.proofs.manager.Manager.literal.Goals as goal

pub literal_code-requires : goal.literal_code-requires
literal_code-requires c =
    let numbered = subst (λ t. IsNumbered t.vtree) c.self.view_is c.self.invariant.stored.table.numbered in
    subst (IsLiteralTo 1024) (sym (to_z-of_z w32 c.args.literal c.ranges.literal))
    (literal_more (leaves (plain_tree c.args.self.now.vtree)) 1024 c.args.literal numbered.within_limit c.requires)

pub returns-clause-shown : goal.returns-clause-shown
returns-clause-shown c =
    literal_shown c.args.self.now
    (subst (λ t. IsNumbered t.vtree) c.self.view_is c.self.invariant.stored.table.numbered)
    c.args.literal c.literal_code.result c.requires
    (c.literal_code.ensures ∙ ap code_of_literal (to_z-of_z w32 c.args.literal c.ranges.literal))
