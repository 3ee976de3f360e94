use Rattle.std.proofs.Common.{◌<◌, ◌+◌, ℕ, List, length, get_or, subst, arith}
use Rattle.sd_unique.specs.Chains.{after_of, no_record}
use Rattle.sd_unique.specs.declared.record.Record.{Record}
use Rattle.sd_unique.specs.declared.record.Links.{Links}
use Rattle.sd_unique.specs.declared.record.RecordState.TheVariants.{Free}
use Rattle.sd_unique.proofs.AtPlace.{OnPlace, place_first, place_has, place_end, place_on}
use Rattle.sd_unique.proofs.Entries.{slice_get_at}
use Rattle.sd_unique.proofs.Listed.{link_read}
use Rattle.sd_unique.proofs.lists.at_place.Goals as goal

abbrev blank : Record
blank = record { place = 0; start = 0; length = 0; next = 0; uses = 0; mark = 0; state = Free }

abbrev blank_links : Links
blank_links = record { before = 0; after = 0 }

pub loop-step-init : goal.loop-step-init
loop-step-init c = (c.requires.walk.0, place_first c.requires.walk.1)

pub bounds-records-at : goal.bounds-records-at
bounds-records-at c =
    c.loop-step.invariant.1.walk.below c.loop-step.at (place_has c.if-at.false c.loop-step.invariant.1)

pub returns-then-at-clause-none : goal.returns-then-at-clause-none
returns-then-at-clause-none c = λ e. place_end e c.loop-step.invariant.1

pub returns-then-records-at-clause-some : goal.returns-then-records-at-clause-some
returns-then-records-at-clause-some c = λ some xs chain.
    let has = place_has some c.loop-step.invariant.1 in (
      c.loop-step.invariant.1.part xs chain c.loop-step.at has,
      get_or c.args.records.now c.loop-step.at blank,
      slice_get_at c.args.records.now c.loop-step.at blank
          (c.loop-step.invariant.1.walk.below c.loop-step.at has),
      c.if-records-at.true,
    )

pub bounds-links-at : goal.bounds-links-at
bounds-links-at c =
    let inside = c.loop-step.invariant.1.walk.below c.loop-step.at
    (place_has c.if-at.false c.loop-step.invariant.1) in
    omega (arith, c.requires.size, inside)

pub loop-step-preserved : goal.loop-step-preserved
loop-step-preserved c =
    let inside = c.loop-step.invariant.1.walk.below c.loop-step.at
    (place_has c.if-at.false c.loop-step.invariant.1) in
    let inside_links : c.loop-step.at < length c.args.links.now = omega (arith, c.requires.size, inside) in
    subst (λ k. (rest : List ℕ) × OnPlace c.args.records.now (after_of c.args.links.now) no_record c.args.first
    c.args.place (length c.args.records.now) k (c.loop-step._step + 1) rest)
    (link_read (λ (l : Links). l.after) c.args.links.now c.loop-step.at blank_links inside_links)
    (place_on c.loop-step.invariant.0 (get_or c.args.records.now c.loop-step.at blank) c.if-at.false
    (slice_get_at c.args.records.now c.loop-step.at blank inside) c.if-records-at.false c.loop-step.invariant.1)
