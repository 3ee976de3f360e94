use Rattle.std.proofs.Common.{◌<◌, length, get_or, refl, sym, ◌∙◌, subst}
use Rattle.sd_unique.specs.Chains.{before_of, head_of, no_record}
use Rattle.sd_unique.specs.Filed.{IsLedBack}
use Rattle.sd_unique.specs.declared.record.Links.{Links}
use Rattle.sd_unique.proofs.Entries.{slice_get_at}
use Rattle.sd_unique.proofs.Listed.{head_there, put_steps}
use Rattle.sd_unique.proofs.Reading.{get_or_any}
use Rattle.sd_unique.proofs.lists.link_first.Goals as goal

abbrev blank : Links
blank = record { before = 0; after = 0 }

pub lead_back-requires : goal.lead_back-requires
lead_back-requires c = record {
  inside = λ ne.
      let is = get_or_any c.args.places.now c.args.head no_record 0 c.requires.head in
      subst (λ k. k < length c.args.links.now) is
      (c.requires.listed.2 (head_of c.args.places.now c.args.head) c.args.head
      (head_there c.args.links.now c.args.places.now c.requires.listed.0 c.args.number c.args.head
      c.requires.listed.1 c.requires.listed.3 (λ z. ne (sym is ∙ z))));
}

pub returns : goal.returns
returns c = λ under gone f.
    let is = get_or_any c.args.places.now c.args.head no_record 0 c.requires.head in
    put_steps c.args.links.now c.args.places.now under c.args.number c.args.head gone f c.lead_back.new.links
    (get_or c.lead_back.new.links c.args.number blank) _ c.requires.at_least_one
    (slice_get_at c.lead_back.new.links c.args.number blank
    (subst (λ s. c.args.number < s) (sym c.lead_back.auto.links) c.requires.inside))
    c.requires.head
    (subst (λ k. IsLedBack (before_of c.args.links.now) (before_of c.lead_back.new.links) no_record c.args.number k)
    (sym is) c.lead_back.ensures.led)
    c.lead_back.ensures.after refl (sym is)
