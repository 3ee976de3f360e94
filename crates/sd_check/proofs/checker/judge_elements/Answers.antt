use Rattle.std.proofs.Common.{◌∙◌, sym, ap, slice_get}
use Rattle.sd_vtree.specs.Numbered.{numbers}
use Rattle.sd_manager.proofs.Extending.{extends_on}
use Rattle.sd_apply.proofs.Served.{serves_on}
use Rattle.sd_check.proofs.Formed.{HasCodes, PassesAll, formed_nodes, formed_primes, formed_twins, formed_differ}
use Rattle.sd_check.proofs.Formed.{formed_there, formed_partition, formed_found}
use Rattle.sd_check.proofs.Judged.{formed_on, primes_broken, subs_broken, trim_broken}
use Rattle.sd_check.proofs.checker.judge_elements.Goals as goal

-- the primes are nodes
pub prime_rule-requires-clause-nodes : goal.prime_rule-requires-clause-nodes
prime_rule-requires-clause-nodes c =
    let k : HasCodes c.args.file.now c.args.index c.args.built.now c.deref.result.now = record {
      file = c.requires.file;
      below = c.requires.index;
      all = c.requires.all;
      codes_are = c.deref.ensures.value ∙ c.in_ok-elements.ensures;
    } in
    formed_nodes c.args.m.now c.args.file.now c.args.index c.args.built.now c.args.middle c.deref.result.now k
    c.requires.formed

-- a rule on the primes
pub returns-in-Some-clause-ok : goal.returns-in-Some-clause-ok
returns-in-Some-clause-ok c ids h =
    let f = c.args.file.now in
    let i = c.args.index in
    let k : HasCodes f i c.args.built.now c.deref.result.now = record {
      file = c.requires.file;
      below = c.requires.index;
      all = c.requires.all;
      codes_are = c.deref.ensures.value ∙ c.in_ok-elements.ensures;
    } in
    primes_broken c.prime_rule.new.m ids f i c.args.built.now c.args.middle c.in-Some.rule
    (formed_on c.args.m.now c.prime_rule.new.m ids f i c.args.built.now c.args.middle c.in_ok-rule.ensures.kept h)
    (formed_primes c.args.m.now ids f i c.args.built.now c.args.middle c.deref.result.now _ _ k h
    c.in_ok-rule.ensures.ok c.in-Some.is)

-- two subs are one node
pub returns-then-branch-clause-ok : goal.returns-then-branch-clause-ok
returns-then-branch-clause-ok c ids h =
    let f = c.args.file.now in
    let i = c.args.index in
    let k : HasCodes f i c.args.built.now c.deref.result.now = record {
      file = c.requires.file;
      below = c.requires.index;
      all = c.requires.all;
      codes_are = c.deref.ensures.value ∙ c.in_ok-elements.ensures;
    } in
    let k2 : HasCodes f i c.args.built.now c.deref-2.result.now = record {
      file = c.requires.file;
      below = c.requires.index;
      all = c.requires.all;
      codes_are = c.deref-2.ensures.value ∙ c.in_ok-elements.ensures;
    } in
    subs_broken c.prime_rule.new.m ids f i c.args.built.now c.args.middle c.in_ok-rule.ensures.table
    c.requires.file c.requires.index c.requires.all
    (formed_on c.args.m.now c.prime_rule.new.m ids f i c.args.built.now c.args.middle c.in_ok-rule.ensures.kept h)
    (formed_primes c.args.m.now ids f i c.args.built.now c.args.middle c.deref.result.now _ _ k h
    c.in_ok-rule.ensures.ok c.in_default-2.is)
    (formed_twins f i c.args.built.now c.deref-2.result.now _ k2 c.in_ok-have_twins.ensures c.if-branch.true)

-- all subs are constants
pub returns-then-are_subs_constant-clause-ok : goal.returns-then-are_subs_constant-clause-ok
returns-then-are_subs_constant-clause-ok c ids h =
    let f = c.args.file.now in
    let i = c.args.index in
    let k : HasCodes f i c.args.built.now c.deref.result.now = record {
      file = c.requires.file;
      below = c.requires.index;
      all = c.requires.all;
      codes_are = c.deref.ensures.value ∙ c.in_ok-elements.ensures;
    } in
    let k2 : HasCodes f i c.args.built.now c.deref-2.result.now = record {
      file = c.requires.file;
      below = c.requires.index;
      all = c.requires.all;
      codes_are = c.deref-2.ensures.value ∙ c.in_ok-elements.ensures;
    } in
    trim_broken c.prime_rule.new.m ids f i c.args.built.now c.args.middle c.in_ok-rule.ensures.table
    c.requires.file c.requires.index c.requires.all
    (formed_on c.args.m.now c.prime_rule.new.m ids f i c.args.built.now c.args.middle c.in_ok-rule.ensures.kept h)
    (formed_primes c.args.m.now ids f i c.args.built.now c.args.middle c.deref.result.now _ _ k h
    c.in_ok-rule.ensures.ok c.in_default-2.is)
    (formed_differ f i c.args.built.now c.deref-2.result.now _ k2 c.in_ok-have_twins.ensures c.if-branch.false)
    (sym c.are_subs_constant.ensures ∙ c.if-are_subs_constant.true)

-- the position is one of the vtree's
pub unreachable-requires-in_default-at_position : goal.unreachable-requires-in_default-at_position
unreachable-requires-in_default-at_position c =
    let f = c.args.file.now in
    let h = c.requires.formed in
    formed_there c.prime_rule.new.m h.0 f c.args.index c.args.built.now c.args.middle
    (formed_on c.args.m.now c.prime_rule.new.m h.0 f c.args.index c.args.built.now c.args.middle
    c.in_ok-rule.ensures.kept h.1)
    (ap (λ v. slice_get (numbers v) c.args.middle) (sym c.vtree-2.ensures.vtree)
    ∙ sym c.at_position.ensures.at ∙ c.in_default-at_position.is)

-- the elements are a partition
pub make-requires-clause-partition : goal.make-requires-clause-partition
make-requires-clause-partition c =
    let f = c.args.file.now in
    let i = c.args.index in
    let h = c.requires.formed in
    let k : HasCodes f i c.args.built.now c.deref.result.now = record {
      file = c.requires.file;
      below = c.requires.index;
      all = c.requires.all;
      codes_are = c.deref.ensures.value ∙ c.in_ok-elements.ensures;
    } in
    let k2 : HasCodes f i c.args.built.now c.deref-2.result.now = record {
      file = c.requires.file;
      below = c.requires.index;
      all = c.requires.all;
      codes_are = c.deref-2.ensures.value ∙ c.in_ok-elements.ensures;
    } in
    let p : PassesAll c.prime_rule.new.m f i c.args.built.now c.deref-3.result.now = record {
      table = c.in_ok-rule.ensures.table;
      has = record {
        file = c.requires.file;
        below = c.requires.index;
        all = c.requires.all;
        codes_are = c.deref-3.ensures.value ∙ c.in_ok-elements.ensures;
      };
      differ = formed_differ f i c.args.built.now c.deref-2.result.now _ k2 c.in_ok-have_twins.ensures
          c.if-branch.false;
      trim = sym c.are_subs_constant.ensures ∙ c.if-are_subs_constant.false;
    } in
    formed_partition c.prime_rule.new.m h.0 f i c.args.built.now c.args.middle c.in-Some-at_position.place
    c.deref-3.result.now p
    (formed_on c.args.m.now c.prime_rule.new.m h.0 f i c.args.built.now c.args.middle c.in_ok-rule.ensures.kept h.1)
    (formed_primes c.args.m.now h.0 f i c.args.built.now c.args.middle c.deref.result.now _ _ k h.1
    c.in_ok-rule.ensures.ok c.in_default-2.is)
    (ap (λ v. slice_get (numbers v) c.args.middle) (sym c.vtree-2.ensures.vtree)
    ∙ sym c.at_position.ensures.at ∙ c.in-Some-at_position.is)

-- no rule is broken, and the node is there
pub returns-clause-ok : goal.returns-clause-ok
returns-clause-ok c ids h =
    let f = c.args.file.now in
    let i = c.args.index in
    let k : HasCodes f i c.args.built.now c.deref.result.now = record {
      file = c.requires.file;
      below = c.requires.index;
      all = c.requires.all;
      codes_are = c.deref.ensures.value ∙ c.in_ok-elements.ensures;
    } in
    let k2 : HasCodes f i c.args.built.now c.deref-2.result.now = record {
      file = c.requires.file;
      below = c.requires.index;
      all = c.requires.all;
      codes_are = c.deref-2.ensures.value ∙ c.in_ok-elements.ensures;
    } in
    let p : PassesAll c.prime_rule.new.m f i c.args.built.now c.deref-3.result.now = record {
      table = c.in_ok-rule.ensures.table;
      has = record {
        file = c.requires.file;
        below = c.requires.index;
        all = c.requires.all;
        codes_are = c.deref-3.ensures.value ∙ c.in_ok-elements.ensures;
      };
      differ = formed_differ f i c.args.built.now c.deref-2.result.now _ k2 c.in_ok-have_twins.ensures
          c.if-branch.false;
      trim = sym c.are_subs_constant.ensures ∙ c.if-are_subs_constant.false;
    } in
    formed_found c.prime_rule.new.m c.make.new.self ids f i c.args.built.now c.args.middle
    c.in-Some-at_position.place c.in_ok-node.node c.deref-3.result.now p
    (formed_on c.args.m.now c.prime_rule.new.m ids f i c.args.built.now c.args.middle c.in_ok-rule.ensures.kept h)
    (formed_primes c.args.m.now ids f i c.args.built.now c.args.middle c.deref.result.now _ _ k h
    c.in_ok-rule.ensures.ok c.in_default-2.is)
    (ap (λ v. slice_get (numbers v) c.args.middle) (sym c.vtree-2.ensures.vtree)
    ∙ sym c.at_position.ensures.at ∙ c.in-Some-at_position.is)
    c.in_ok-node.ensures.kept c.in_ok-node.ensures.ok

-- all nodes stay
pub returns-clause-kept : goal.returns-clause-kept
returns-clause-kept c =
    extends_on c.args.m.now c.prime_rule.new.m c.make.new.self c.in_ok-rule.ensures.kept c.in_ok-node.ensures.kept

-- and the cache serves
pub returns-clause-serves : goal.returns-clause-serves
returns-clause-serves c =
    serves_on c.prime_rule.new.c c.prime_rule.new.m c.make.new.self c.in_ok-node.ensures.kept
    c.in_ok-rule.ensures.serves
