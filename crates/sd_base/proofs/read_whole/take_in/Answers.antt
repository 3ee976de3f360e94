use Rattle.std.proofs.Common.{◌≡◌, ◌++◌, take, rules, arith, sym, subst, ◌∙◌}
use Rattle.std.proofs.lemmas.Grind.{common_steps}
use Rattle.sd_base.proofs.ReadLemmas.{HasFront, no_bytes_yet, read_more, read_all_of_it}
use Rattle.sd_base.proofs.read_whole.take_in.Goals as goal

-- a file that was taken into the hand is not lacking
pub reading-init : goal.reading-init
reading-init g c =
    let there =
    no_bytes_yet _ _ (λ lacks. let failed = (c.start_read.ensures.lacks lacks).0 in search rules) in
    record {
      files = search rules;
      so_far = record {
        in_hand = grind (arith, common_steps);
        begins = subst (HasFront _ _) (sym c.requires.empty) there;
      };
      within = search rules;
      read_faults = search rules;
      unfinished = search rules;
      write_faults = search rules;
      asked = c.start_read.ensures.asked;
    }

-- a turn reads some bytes more
pub reading-preserved : goal.reading-preserved
reading-preserved g c =
    let was = c.reading.invariant in
    let more : c.extend_from_slice.new.self.items ≡ c.reading.bytes.items ++ take c.in-Ok.count c.read.new.into =
    grind (arith, common_steps) in
    record {
      files = search rules;
      so_far =
          read_more _ _ _ _ _ _ _ _ c.in-Ok.count was.so_far was.files c.in-Ok.ensures.within c.in-Ok.ensures.ok more;
      within = grind (arith, common_steps);
      read_faults = c.in-Ok.ensures.cause.answered ∙ was.read_faults;
      unfinished = search rules;
      write_faults = search rules;
      asked = λ before had. c.in-Ok.ensures.asked _ (was.asked before had);
    }

-- no byte was read, so the end is here
pub returns-then-count-eq0-clause-ok : goal.returns-then-count-eq0-clause-ok
returns-then-count-eq0-clause-ok g c =
    let was = c.reading.invariant in
    read_all_of_it _ _ _ _ _ _ _ c.in-Ok.count was.so_far was.files (search rules) c.in-Ok.ensures.ok
