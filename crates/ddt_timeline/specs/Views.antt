-- What a timeline is seen as.
use Rattle.std.specs.Prelude.{ℕ, List, take}
use Rattle.word36.specs.declared.sizes.TheConstants.{MOST_REQUESTS}
use Rattle.machine.specs.Machine.{at_boot}
use Rattle.ddt_timeline.specs.Histories.{History, history_of}
use Rattle.ddt_timeline.specs.declared.entries.Entry.{Entry}
use Rattle.ddt_timeline.specs.declared.timeline.Timeline.{Timeline}

-- the history of the machine of a timeline
abbrev pub history : Timeline → History
history t = history_of (at_boot MOST_REQUESTS t.config.blocks t.config.quantum) t.entries.items t.whole t.part

-- the whole entries that have happened
abbrev pub whole_entries : Timeline → List Entry
whole_entries t = take t.whole t.entries.items

-- how many steps were made behind them
abbrev pub steps_behind : Timeline → ℕ
steps_behind t = t.part
