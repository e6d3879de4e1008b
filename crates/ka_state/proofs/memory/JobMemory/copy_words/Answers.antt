use Rattle.std.proofs.Common.{◌≡◌, ◌∙◌, ◌+◌, ◌<◌, ◌≤◌, ℕ, List, Some, None, length, sym, ap, arith, slice_get, slice_set}
use Rattle.std.proofs.Math.ListN.{length-set}
use Rattle.std.proofs.lemmas.Option.{slice_get-get_or}
use Rattle.ka_state.proofs.CopySteps.{copied_read}
use Rattle.ka_state.proofs.memory.JobMemory.copy_words.Goals as goal
use Rattle.ka_state.proofs.memory.JobMemory.copy_words.Goals.{in-Some, in_default}

pub loop-i-preserved : goal.loop-i-preserved
loop-i-preserved g c =
    let words = g.Self.ReadMemory.words in
    let now = words c.loop-i.self in
    let i = c.loop-i.i in
    let h : i < c.args.count = c.loop-i-test.true in
    let e : length now ≡ length (words c.args.self.now) = c.loop-i.invariant.size in
    let r : c.args.from + c.args.count ≤ length (words c.args.self.now) = c.requires.from in
    let b : c.args.from + i < length now = omega arith in
    elim c.match-read.branch [
      | in-Some w ↦
          let read : slice_get now (c.args.from + i) ≡ Some w.in-Some.word = sym c.read.ensures ∙ w.in-Some.is in
          let new = words w.write.new.self in
          let stored : new ≡ slice_set now (c.args.to + i) w.in-Some.word = w.write.ensures.stored in
          rw w.self-is (record {
            copied = sym (copied_read c.args.count i w.in-Some.word now new c.args.from c.args.to h read stored) ∙ c.loop-i.invariant.copied;
            size = ap (λ (x : List ℕ). length x) stored ∙ (length-set now (c.args.to + i) w.in-Some.word ∙ c.loop-i.invariant.size);
            place = w.write.ensures.place ∙ c.loop-i.invariant.place;
          })
      | in_default w ↦
          let some = slice_get-get_or now (c.args.from + i) 0 b in
          let none : slice_get now (c.args.from + i) ≡ None = sym c.read.ensures ∙ w.in_default.is in
          cc (some, none)
    ]
