-- Where a run ends, and why.
use Rattle.std.specs.Prelude.{◌&&◌, ◌||◌, is_none, is_some, nat_le, not, slice_get}
use Rattle.std.specs.Option.{IfSome}
use Rattle.std.proofs.Common.{◌≡◌, ◌≤◌, ◌<◌, ◌+◌, ◌-◌, ◌∙◌, sym, ap, refl, ℕ, zero, suc, Bool, true, false, List, [], ◌∷◌, ◌++◌, replicate}
use Rattle.std.proofs.Common.{Option, Some, None, arith}
use Rattle.std.specs.Prelude.{Result, Ok, Err, IfOk}
use Rattle.std.proofs.lemmas.Bool.{false≢true}
use Rattle.machine.specs.Machine.{S, after}
use Rattle.machine.specs.Rounds.{rounds}
use Rattle.run_notes.specs.FactWords.{grants_text}
use Rattle.run_events.specs.declared.facts.Fact.{Fact}
use Rattle.ddt_timeline.specs.Runs.{IsRun, some_go_on}
use Rattle.ddt_timeline.specs.Stops.{met_after}
use Rattle.ddt_timeline.specs.declared.stops.Run.{Run}
use Rattle.ddt_timeline.specs.declared.stops.WatchedStop.{WatchedStop}
use Rattle.ddt_moves.specs.OtherEnds.{ends_for, facts_behind, facts_of, if_breakpoint, is_grant, told_cause}
use Rattle.ddt_moves.specs.RunEnds.{IsCountedEnd, IsEnd, IsWatchEnd, cause_at_slot, stop_behind}
use Rattle.ddt_moves.specs.RunStops.{cause_at}
use Rattle.ddt_moves.specs.Visits.{due_behind}
use Rattle.ddt_moves.specs.declared.lock_watch.LockWatch.{LockWatch}
use Rattle.ddt_moves.specs.declared.run_stops.StopCause.{StopCause}
use Rattle.ddt_moves.specs.declared.run_stops.RunStops.{RunStops}
use Rattle.ddt_moves.specs.declared.runs.RunEnd.{RunEnd}
use Rattle.ddt_moves.specs.declared.stop_lists.StopList.{StopList}
use Rattle.ddt_moves.specs.declared.visits.Counter.{Counter}
use Rattle.ddt_moves.proofs.CounterLemmas.{IsCounted, IsCountedBy}
use Rattle.ddt_moves.proofs.WatchLemmas.{IsWatched, IsWatchedBy}

-- ---- stops

stop_is : (s : S) (stops : List WatchedStop) (most : ℕ) (ran : Run) → IsRun s stops most ran → (made : ℕ) → made ≡ ran.made
    → ran.stop ≡ stop_behind stops s made
stop_is s stops most ran run zero same = run.nothing (sym same)
stop_is s stops most ran run (suc n) same =
    let before : ran.made - 1 ≡ n = omega (arith, same) in
    run.last (omega (arith, same)) ∙ ap (λ (m : ℕ). met_after stops (after (rounds m true) s)) before

none_before : (s : S) (stops : List WatchedStop) (most : ℕ) (ran : Run) → IsRun s stops most ran → (n : ℕ) → n < ran.made
    → stop_behind stops s n ≡ None
none_before s stops most ran run zero less = refl
none_before s stops most ran run (suc n) less = run.none_over n (omega (arith, less))

first_is_cause : (causes : List StopCause) (stop : Option ℕ) (cause : Option StopCause) → cause ≡ cause_at causes stop
    → IfSome stop (λ i. cause ≡ slice_get causes i)
first_is_cause causes (Some i) cause same = same
first_is_cause causes None cause same = tt

if_none : (stop : Option ℕ) (P : ℕ → Type 0) → stop ≡ None → IfSome stop P
if_none (Some i) P none = cc
if_none None P none = tt

-- ---- cuts

cut_parts : (causes : List StopCause) (stop : Option ℕ) (watched : Bool) (cause : Option StopCause) → watched ≡ false → cause ≡ cause_at causes stop
    → (is_none stop && not watched) ≡ (is_none stop && is_none cause)
cut_parts causes (Some i) watched cause quiet same = refl
cut_parts causes None watched cause quiet same = ap (λ (b : Bool). not b) quiet ∙ sym (ap (λ (o : Option StopCause). is_none o) same)

not_cut : (b : Bool) (cause : Option StopCause) (d : Bool) → is_some cause ≡ true → false ≡ ((b && is_none cause) && d)
not_cut false cause d some = refl
not_cut true (Some cause) d some = refl
not_cut true None d some = absurd (false≢true some)

-- ---- ends

-- a run that a stop ended, or none
pub end_by_stop : (s : S) (stops : RunStops) (list : StopList) (most : ℕ) (ran : Run) (end : RunEnd)
    → IsRun s stops.stops.items most ran
    → IsWatched s list ran
    → ran.by_watch ≡ false
    → end.made ≡ ran.made
    → end.cause ≡ cause_at stops.causes.items ran.stop
    → end.is_cut ≡ ((is_none ran.stop && not ran.by_watch) && nat_le most ran.made)
    → IsEnd s stops list most end
end_by_stop s stops list most ran end run watched quiet made cause cut =
    let stop : ran.stop ≡ stop_behind stops.stops.items s end.made = stop_is s stops.stops.items most ran run end.made made in
    let at_none : stop_behind stops.stops.items s end.made ≡ None → end.cause ≡ None =
    λ none. cause ∙ ap (λ (o : Option ℕ). cause_at stops.causes.items o) (stop ∙ none) in
    record {
      few = omega (arith, made, run.most);
      none_over = λ n less. none_before s stops.stops.items most ran run n (omega (arith, less, made));
      none_told_over = λ n less. watched.none n (omega (arith, less, made));
      cause =
          first_is_cause stops.causes.items (stop_behind stops.stops.items s end.made) end.cause
          (cause ∙ ap (λ (o : Option ℕ). cause_at stops.causes.items o) stop);
      besides =
          λ none.
          ap (λ (o : Option StopCause). ends_for list (after (rounds end.made true) s) (facts_behind s end.made) o) (at_none none)
          ∙ ap (λ (o : Option StopCause). is_none o)
          (ap (λ (n : ℕ). told_cause list (facts_behind s n)) made ∙ watched.quiet (stop ∙ none) quiet);
      cut =
          cut
          ∙ ap (λ (b : Bool). b && nat_le most ran.made) (cut_parts stops.causes.items ran.stop ran.by_watch end.cause quiet cause)
          ∙ ap (λ (o : Option ℕ). (is_none o && is_none end.cause) && nat_le most ran.made) stop
          ∙ ap (λ (n : ℕ). (is_none (stop_behind stops.stops.items s end.made) && is_none end.cause) && nat_le most n) (sym made);
      ends =
          λ less none no_cause.
          ap (λ (n : ℕ). some_go_on (after (rounds n true) s)) made ∙ run.ends (omega (arith, less, made)) (stop ∙ none) quiet;
    }

-- a run that its watch ended
pub end_by_watch : (s : S) (stops : RunStops) (list : StopList) (most : ℕ) (ran : Run) (w : LockWatch) (end : RunEnd)
    → IsRun s stops.stops.items most ran
    → IsWatchedBy s list w ran
    → ran.by_watch ≡ true
    → IsWatchEnd w ran.made end
    → IsEnd s stops list most end
end_by_watch s stops list most ran w end run watched by_watch ended =
    let stop : ran.stop ≡ stop_behind stops.stops.items s end.made = stop_is s stops.stops.items most ran run end.made ended.made in
    let none : stop_behind stops.stops.items s end.made ≡ None = sym stop ∙ run.quiet by_watch in
    let some : is_some end.cause ≡ true =
    ap (λ (o : Option StopCause). is_some o) ended.cause ∙ watched.some by_watch ended.worked ended.some in
    record {
      few = omega (arith, ended.made, run.most);
      none_over = λ n less. none_before s stops.stops.items most ran run n (omega (arith, less, ended.made));
      none_told_over = λ n less. watched.run.none n (omega (arith, less, ended.made));
      cause = if_none (stop_behind stops.stops.items s end.made) _ none;
      besides =
          λ _.
          ap (λ (o : Option StopCause). ends_for list (after (rounds end.made true) s) (facts_behind s end.made) o) ended.cause
          ∙ ap (λ (n : ℕ). ends_for list (after (rounds n true) s) (facts_behind s n) w.cause) ended.made
          ∙ watched.cause by_watch ended.worked ended.some;
      cut =
          ended.cut ∙ not_cut (is_none (stop_behind stops.stops.items s end.made)) end.cause (nat_le most end.made) some;
      ends = λ less _ no_cause. absurd (false≢true (sym (ap (λ (o : Option StopCause). is_some o) no_cause) ∙ some));
    }

-- ---- breakpoints that count

-- a run that a stop ended, or none
pub counted_by_stop : (s : S) (cs : List Counter) (stops : RunStops) (list : StopList) (most : ℕ) (ran : Run) (end : RunEnd)
    → IsRun s stops.stops.items most ran
    → IsCounted s cs ran
    → ran.by_watch ≡ false
    → end.made ≡ ran.made
    → end.cause ≡ cause_at stops.causes.items ran.stop
    → IsCountedEnd s cs stops list end
counted_by_stop s cs stops list most ran end run counted quiet made cause =
    let stop : ran.stop ≡ stop_behind stops.stops.items s end.made = stop_is s stops.stops.items most ran run end.made made in
    record {
      none_over = λ n less. counted.none n (omega (arith, less, made));
      cause =
          λ none.
          ap (λ (o : Option StopCause). if_breakpoint o)
          (cause ∙ ap (λ (o : Option ℕ). cause_at stops.causes.items o) (stop ∙ none))
          ∙ sym (ap (λ (n : ℕ). cause_at_slot list (due_behind s cs n)) made
          ∙ ap (λ (o : Option ℕ). cause_at_slot list o) (counted.quiet (stop ∙ none) quiet));
    }

-- a run that its watch ended
pub counted_by_watch : (s : S) (cs : List Counter) (stops : RunStops) (list : StopList) (ran : Run) (w : LockWatch) (end : RunEnd)
    → IsCountedBy s list cs w ran
    → ran.by_watch ≡ true
    → IsWatchEnd w ran.made end
    → IsCountedEnd s cs stops list end
counted_by_watch s cs stops list ran w end counted by_watch ended = record {
  none_over = λ n less. counted.run.none n (omega (arith, less, ended.made));
  cause =
      λ _.
      ap (λ (o : Option StopCause). if_breakpoint o) ended.cause
      ∙ counted.cause by_watch ended.worked ended.some
      ∙ ap (λ (n : ℕ). cause_at_slot list (due_behind s cs n)) (sym ended.made);
}

-- ---- lines on grants

-- a run that a stop ended, or none, does not end at a grant where no stop holds
pub not_at_grant : (s : S) (stops : RunStops) (most : ℕ) (ran : Run) (end : RunEnd) (P : Type 0) → IsRun s stops.stops.items most ran
    → end.made ≡ ran.made
    → end.cause ≡ cause_at stops.causes.items ran.stop
    → is_grant end.cause ≡ true
    → stop_behind stops.stops.items s end.made ≡ None
    → P
not_at_grant s stops most ran end P run made cause is none =
    let stop : ran.stop ≡ stop_behind stops.stops.items s end.made = stop_is s stops.stops.items most ran run end.made made in
    let no_cause : end.cause ≡ None = cause ∙ ap (λ (o : Option ℕ). cause_at stops.causes.items o) (stop ∙ none) in
    absurd (false≢true (sym (ap (λ (o : Option StopCause). is_grant o) no_cause) ∙ is))

-- the lines on what was granted behind a run that its watch ended
pub lines_of : (s : S) (list : StopList) (ran : Run) (w : LockWatch) (end : RunEnd) (ticks : ℕ) → IsWatchedBy s list w ran → ran.by_watch ≡ true
    → IsWatchEnd w ran.made end
    → grants_text ticks (facts_of w) ≡ grants_text ticks (facts_behind s end.made)
lines_of s list ran w end ticks watched by_watch ended =
    ap (λ (l : List Fact). grants_text ticks l)
    (watched.facts by_watch ended.worked ended.some ∙ ap (λ (n : ℕ). facts_behind s n) (sym ended.made))

pub both_ok : {T E : Type 0} (r : Result T E) (P Q R : T → Type 0) → IfOk r P → IfOk r Q → ((x : T) → P x → Q x → R x) → IfOk r R
both_ok (Ok x) P Q R p q then = then x p q
both_ok (Err e) P Q R p q then = tt
