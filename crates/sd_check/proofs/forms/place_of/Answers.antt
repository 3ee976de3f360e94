use Rattle.std.proofs.Common.{◌∙◌, sym, ap, refl, arith}
use Rattle.std.specs.Prelude.{option_map}
use Rattle.std.specs.FinMap.{get}
use Rattle.sd_file.specs.Files.{entry_pairs}
use Rattle.sd_check.specs.Forks.{inner_view}
use Rattle.sd_check.specs.Rules.{ElementsBreak}
use Rattle.sd_check.specs.declared.rules.Rule.TheVariants.{Count}
use Rattle.sd_check.proofs.FormLaws.{named_middle, sub_first, three_hold}
use Rattle.sd_check.proofs.Judged.{hold_next}
use Rattle.sd_check.proofs.forms.place_of.Goals as goal

-- the position behind the node's own is one of the vtree's
pub overflow_add-fork : goal.overflow_add-fork
overflow_add-fork c =
    let k = c.requires.forks in
    let named = sym (c.fork_named.ensures k.0 k.2) ∙ ap (option_map inner_view) c.in-Some.is in
    let r = named_middle k.0 (get c.args.ids.now) c.args.vtree (inner_view c.in-Some.fork) named in
    omega (arith, r.1, k.1)

-- a sub outside
pub returns-then-has_sub_outside : goal.returns-then-has_sub_outside
returns-then-has_sub_outside c t a =
    sub_first t (get c.args.ids.now) c.args.file.now c.args.vtree (entry_pairs c.args.file.now c.args.index)
    (inner_view c.in-Some.fork)
    (sym (c.fork_named.ensures t a) ∙ ap (option_map inner_view) c.in-Some.is)
    (sym c.has_prime_outside.ensures ∙ c.if-has_prime_outside.false)
    (sym c.has_sub_outside.ensures ∙ c.if-has_sub_outside.true)

-- one element
pub returns-then-count-eq1 : goal.returns-then-count-eq1
returns-then-count-eq1 c t a =
    record {
      broken = sym c.requires.count ∙ c.if-count-eq1.true;
      others = (three_hold t (get c.args.ids.now) c.args.file.now c.args.vtree
          (entry_pairs c.args.file.now c.args.index) (inner_view c.in-Some.fork)
          (sym (c.fork_named.ensures t a) ∙ ap (option_map inner_view) c.in-Some.is)
          (sym c.has_prime_outside.ensures ∙ c.if-has_prime_outside.false)
          (sym c.has_sub_outside.ensures ∙ c.if-has_sub_outside.false)).each;
    }

-- four rules hold
pub returns : goal.returns
returns c t a =
    let named = sym (c.fork_named.ensures t a) ∙ ap (option_map inner_view) c.in-Some.is in (
      (named_middle t (get c.args.ids.now) c.args.vtree (inner_view c.in-Some.fork) named).0,
      hold_next (ElementsBreak t (get c.args.ids.now) c.args.file.now c.args.vtree
          (entry_pairs c.args.file.now c.args.index))
          3 Count refl
          (three_hold t (get c.args.ids.now) c.args.file.now c.args.vtree
          (entry_pairs c.args.file.now c.args.index) (inner_view c.in-Some.fork) named
          (sym c.has_prime_outside.ensures ∙ c.if-has_prime_outside.false)
          (sym c.has_sub_outside.ensures ∙ c.if-has_sub_outside.false))
          (λ b. c.if-count-eq1.false (c.requires.count ∙ b)),
    )
