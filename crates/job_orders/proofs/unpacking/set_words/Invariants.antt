use Rattle.std.proofs.Common.{◌≡◌, ◌*◌, ◌++◌, take, drop}
use Rattle.job_orders.specs.declared.tables.TheConstants.{PAGE_WORDS}
use Rattle.job_orders.specs.Tables.{words_in}
use Rattle.job_orders.proofs.unpacking.set_words.Given as goal

abbrev pub invariant-loop-i : goal.invariant-loop-i
invariant-loop-i l = l.words ≡ words_in l.pages (take l.i l.numbers) ++ drop (l.i * PAGE_WORDS) l.initial.words
