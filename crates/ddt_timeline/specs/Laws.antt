-- Laws of going back. Each is the contract of a function that does nothing.
use Rattle.std.specs.Prelude.{◌≡◌, ◌++◌, true, List, []}
use Rattle.ddt_timeline.specs.Histories.{History, at_end, done, everything, is_before_step, machine_of}
use Rattle.ddt_timeline.specs.Timelines.{steps_in}
use Rattle.ddt_timeline.specs.declared.entries.Entry.{Entry}

-- a history is another one put back or forward: it has the same things, from the same state at boot on
pub record IsMoved (h back : History) : Type 0 where
  pub boot : back.boot ≡ h.boot
  pub list : everything back ≡ everything h

-- go back and forward, and you are where you were
abbrev pub GoBackAndForward : Type 0
GoBackAndForward = (h back : History) → h.ahead ≡ [] → IsMoved h back → at_end back ≡ h

-- go back and do again what was done, at once or one after the other, and you are where you were
abbrev pub GoBackAndDoAgain : Type 0
GoBackAndDoAgain =
    (h back : History) (first later : List Entry) → h.ahead ≡ [] → IsMoved h back → back.ahead ≡ first ++ later
    → done (done back first) later ≡ h

-- the machine is the same wherever the same things have happened
abbrev pub SamePastSameMachine : Type 0
SamePastSameMachine = (h other : History) → other.boot ≡ h.boot → other.past ≡ h.past → machine_of other ≡ machine_of h

-- a history has one place before which so many steps were made and where a step is next, or nothing
abbrev pub OnePlace : Type 0
OnePlace =
    (h other : History) → IsMoved h other → steps_in other.past ≡ steps_in h.past → is_before_step h.ahead ≡ true
    → is_before_step other.ahead ≡ true → other.past ≡ h.past
