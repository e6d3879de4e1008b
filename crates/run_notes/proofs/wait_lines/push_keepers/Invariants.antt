use Rattle.std.proofs.Common.{◌≡◌, ◌++◌, drop, length, string_bytes}
use Rattle.run_notes.specs.Words.{jobs_words}
use Rattle.run_notes.proofs.wait_lines.push_keepers.Given as goal

abbrev pub invariant-loop-position : goal.invariant-loop-position
invariant-loop-position l =
    string_bytes l.text ++ jobs_words (length l.jobs) l.position (drop l.position l.jobs)
    ≡ string_bytes l.initial.text ++ jobs_words (length l.jobs) 0 l.jobs
