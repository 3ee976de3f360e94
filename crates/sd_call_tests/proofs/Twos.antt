-- Runs of two elements that are taken and given.
use Rattle.std.proofs.Common.{◌≡◌, ℕ, Some, None}
use Rattle.std.specs.FinMap.{get}
use Rattle.sd_runs.specs.Arena.{Arena}
use Rattle.sd_runs.specs.Taking.{KeepsLive}
use Rattle.sd_runs.proofs.Maps.{not_taken}
use Rattle.sd_call_tests.specs.Twos.{two, AreThree}

-- three that are taken one after another
pub three_taken : (a b c : Arena) (first second third : ℕ) →
    get a.live first ≡ Some two → get a.live second ≡ None → get b.live second ≡ Some two → KeepsLive a b →
    get b.live third ≡ None → get c.live third ≡ Some two → KeepsLive b c → AreThree c first second third
three_taken a b c first second third live fresh next kept free last stay =
    record {
      first_live = stay first two (kept first two live);
      second_live = stay second two next;
      third_live = last;
      second_other = not_taken a live fresh;
      third_other = not_taken b (kept first two live) free;
      third_beside = not_taken b next free;
    }

-- three stay where one more is taken
pub three_kept : (old new : Arena) (first second third : ℕ) → KeepsLive old new → AreThree old first second third →
    AreThree new first second third
three_kept old new first second third kept t =
    record {
      first_live = kept first two t.first_live;
      second_live = kept second two t.second_live;
      third_live = kept third two t.third_live;
      second_other = t.second_other;
      third_other = t.third_other;
      third_beside = t.third_beside;
    }
