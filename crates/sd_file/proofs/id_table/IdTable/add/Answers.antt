use Rattle.std.proofs.Common.{◌∙◌, map, ap, arith}
use Rattle.std.proofs.lemmas.Grind.{common_steps}
use Rattle.std.proofs.lemmas.List.{map_push, length-map}
use Rattle.sd_file.proofs.Places.{still_indexed}
use Rattle.sd_file.specs.Steps.{ids_of}
use Rattle.sd_file.proofs.id_table.IdTable.add.Goals as goal

-- the map has the index of the new id, too
pub returns-clause-indexed : goal.returns-clause-indexed
returns-clause-indexed c =
    let pushed = ap (map (λ k. k.id)) c.in_ok-push.ensures.items
    ∙ map_push (λ k. k.id) c.args.self.now.entries.items c.args.entry in
    let ids = ids_of c.args.self.now in
    record {
      indices = λ q. still_indexed q c.args.entry.id _ ids _ _ _ c.requires.fresh
          (grind (arith, common_steps, length-map)) pushed (c.requires.indexed.indices q)
          (c.in_ok-insert.ensures.updates.0 q);
    }
