use Rattle.std.proofs.Common.{◌≡◌, ◌+◌, ◌-◌, min, false}
use Rattle.std.specs.Prelude.{◌||◌}
use Rattle.std.specs.List.{list_any, range_with_len}
use Rattle.ddt_timeline.specs.Views.{history}
use Rattle.ddt_moves.specs.Starts.{all_started, is_new, jobs_at}
use Rattle.ddt_moves.proofs.starts.start_jobs.Given as goal

abbrev pub invariant-loop-number : goal.invariant-loop-number
invariant-loop-number l = record {
  started :
      all_started (range_with_len l.number (min 255 (l.lines + 1) - l.number)) (history l.timeline)
      ≡ all_started (jobs_at l.lines) (history l.initial.timeline);
  some :
      (l.any || list_any (is_new (history l.timeline)) (range_with_len l.number (min 255 (l.lines + 1) - l.number)))
      ≡ list_any (is_new (history l.initial.timeline)) (jobs_at l.lines);
  none : l.any ≡ false → history l.timeline ≡ history l.initial.timeline;
}
