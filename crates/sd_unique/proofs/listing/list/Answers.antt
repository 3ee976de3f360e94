use Rattle.std.proofs.Common.{take, sym, ◌∙◌, arith}
use Rattle.sd_unique.specs.Chains.{list_under}
use Rattle.sd_unique.specs.declared.record.Record.{Record}
use Rattle.sd_unique.specs.declared.record.RecordState.TheVariants.{Free}
use Rattle.sd_unique.proofs.ListsMade.{listed_free, listed_next, listed_inside, next_unlisted}
use Rattle.sd_unique.proofs.listing.list.Goals as goal

abbrev blank : Record
blank = record { place = 0; start = 0; length = 0; next = 0; uses = 0; mark = 0; state = Free }

pub returns-in_default : goal.returns-in_default
returns-in_default c =
    listed_free c.args.records.now c.args.number blank c.requires.inside c.args.links.now c.args.places.now
    (sym c.head_for.ensures ∙ c.in_default.is)
    c.requires.listed

pub link_first-requires-clause-listed : goal.link_first-requires-clause-listed
link_first-requires-clause-listed c = (
  list_under (take c.args.number c.args.records.now),
  next_unlisted c.args.records.now c.args.number blank c.requires.inside,
  (λ i b e. omega (
    arith,
    listed_inside c.args.records.now c.args.number blank c.requires.inside i b e,
    c.requires.size,
  )),
  c.requires.listed,
)

pub returns : goal.returns
returns c =
    listed_next c.args.records.now c.args.number blank c.requires.inside c.link_first.new.links c.link_first.new.places
    c.in-Some.head (sym c.head_for.ensures ∙ c.in-Some.is)
    (c.link_first.ensures (list_under (take c.args.number c.args.records.now))
    (next_unlisted c.args.records.now c.args.number blank c.requires.inside) c.requires.listed)
