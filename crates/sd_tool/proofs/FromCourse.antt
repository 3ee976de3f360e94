-- The laws of a run, from its course.
use Rattle.std.proofs.Common.{ℕ, List, Option}
use Rattle.sd_manager.specs.Table.{Table}
use Rattle.sd_tool.specs.Devices.{Seen}
use Rattle.sd_tool.specs.Laws.{HasWritten, HasWrittenValues, HasLimit, IsDoneOrOverLimit, HasJoined, HasAsked}
use Rattle.sd_tool.specs.Laws.{HasChecked, HasChosen, HasCircuits, HasParted}
use Rattle.sd_tool.specs.Theorem.{IsCourse}
use Rattle.sd_tool.proofs.AskedAt.{asked_at}
use Rattle.sd_tool.proofs.ByWorkers.{chosen_at, parted_at}
use Rattle.sd_tool.proofs.Checked.{checked_at}
use Rattle.sd_tool.proofs.CircuitsWritten.{circuits_at}
use Rattle.sd_tool.proofs.Joined.{joined_at}
use Rattle.sd_tool.proofs.Limited.{limited_at}
use Rattle.sd_tool.proofs.OneRun.{done_or_over}
use Rattle.sd_tool.proofs.Walks.{one_course}
use Rattle.sd_tool.proofs.WrittenLemmas.{values_written_at, written_at}

module _ (words : List (List ℕ)) (status : ℕ) (kept : Option Table) (seen : Seen)
    (course : IsCourse words status kept seen) where
  pub written : HasWritten words status seen
  written = written_at words status kept seen (one_course words status kept seen course)

  pub written_values : HasWrittenValues words status seen
  written_values = values_written_at words status kept seen (one_course words status kept seen course)

  pub limited : HasLimit words status seen
  limited = limited_at words status kept seen (one_course words status kept seen course)

  pub done_or_over_limit : IsDoneOrOverLimit words status seen
  done_or_over_limit = done_or_over words status kept seen (one_course words status kept seen course)

  pub joined : HasJoined words status seen
  joined = joined_at words status kept seen (one_course words status kept seen course)

  pub parted : HasParted words status seen
  parted = parted_at words status kept seen (one_course words status kept seen course)

  pub chosen : HasChosen words status seen
  chosen = chosen_at words status kept seen (one_course words status kept seen course)

  pub circuits : HasCircuits words status seen
  circuits = circuits_at words status kept seen (one_course words status kept seen course)

  pub checked : HasChecked words status seen
  checked = checked_at words status kept seen (one_course words status kept seen course)

  pub asked : HasAsked words status seen
  asked = asked_at words status kept seen (one_course words status kept seen course)
