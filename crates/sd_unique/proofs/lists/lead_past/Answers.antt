use Rattle.std.proofs.Common.{◌<◌, length, sym, ◌∙◌, subst}
use Rattle.sd_unique.specs.Chains.{after_of, before_of}
use Rattle.sd_unique.specs.declared.record.Links.{Links}
use Rattle.sd_unique.proofs.Listed.{before_there, after_there, taken_steps, link_read}
use Rattle.sd_unique.proofs.lists.lead_past.Goals as goal

abbrev blank : Links
blank = record { before = 0; after = 0 }

pub lead-requires-clause-inside : goal.lead-requires-clause-inside
lead-requires-clause-inside c = λ ne.
    let is = link_read (λ (l : Links). l.before) c.args.links.now c.args.number blank c.requires.inside in
    subst (λ k. k < length c.args.links.now) is
    (c.requires.listed.2 (before_of c.args.links.now c.args.number) c.args.head
    (before_there c.args.links.now c.args.places.now c.requires.listed.0 c.args.number c.args.head
    c.requires.listed.1 c.requires.listed.3 (λ z. ne (sym is ∙ z))))

pub lead_back-requires : goal.lead_back-requires
lead_back-requires c = record {
  inside = λ ne.
      let is = link_read (λ (l : Links). l.after) c.args.links.now c.args.number blank c.requires.inside in
      subst (λ k. k < length c.lead.new.links) is
      (subst (λ s. after_of c.args.links.now c.args.number < s) (sym c.lead.auto.links)
      (c.requires.listed.2 (after_of c.args.links.now c.args.number) c.args.head
      (after_there c.args.links.now c.args.places.now c.requires.listed.0 c.args.number c.args.head
      c.requires.listed.1 c.requires.listed.3 (λ z. ne (sym is ∙ z)))));
}

pub returns : goal.returns
returns c = λ under there f.
    taken_steps c.args.links.now c.args.places.now under c.args.number c.args.head there f c.lead.new.links
    c.lead_back.new.links c.lead.new.places _ _
    (sym (link_read (λ (l : Links). l.before) c.args.links.now c.args.number blank c.requires.inside))
    (sym (link_read (λ (l : Links). l.after) c.args.links.now c.args.number blank c.requires.inside))
    c.lead.ensures.led c.lead.ensures.before c.lead_back.ensures.led c.lead_back.ensures.after
