use Rattle.std.proofs.Common.{◌≡◌, ◌++◌, ◌∙◌, List, ℕ, ap, refl, rules}
use Rattle.std.specs.Prelude.{codes, string_bytes}
use Rattle.machine.specs.Next.{executed_in}
use Rattle.machine.specs.Views.{word_in}
use Rattle.run_notes.specs.Instructions.{illegal_words}
use Rattle.ten.specs.Jobs.{IsInBrackets}
use Rattle.ten.proofs.Adding.{executed_so, made_so, some_both, some_of}
use Rattle.ten.proofs.jobs.RunningJob.report_instruction.Goals as goal

pub returns : goal.returns
returns c =
    let w = c.args.machine.now.world in
    let places = c.args.self.now.traced.places in
    let job = c.args.self.now.traced.number in
    let place = c.args.place in
    let found = c.snapshot_of-snapshot in
    let words : List ℕ = illegal_words places found.result.executed in
    let e0 = c.args.errors.now in
    let e1 = c.say.new.self in
    let e2 = c.say_made.new.self in
    let e3 = c.say-2.new.self in
    some_both e0 e1 e3 (λ (t : List ℕ). t ≡ codes " (") (λ (t : List ℕ). t ≡ words ++ codes ")") (IsInBrackets w places job place)
    (λ x y opening rest. (
      found.result.executed,
      executed_so (word_in w job place) (executed_in w job) found.result.instruction found.result.executed found.ensures.instruction
          found.ensures.executed,
      ap (λ l. l ++ y) opening ∙ ap (λ l. codes " (" ++ l) rest,
    ))
    (some_of e0 e1 (codes " (") (λ (t : List ℕ). t ≡ codes " (") c.say.ensures refl)
    (some_both e1 e2 e3 (λ (t : List ℕ). t ≡ words) (λ (t : List ℕ). t ≡ codes ")") _
    (λ x y is closing. ap (λ l. l ++ y) is ∙ ap (λ l. words ++ l) closing)
    (made_so c.format.result string_bytes e1 e2 (λ (t : List ℕ). t ≡ words) (search rules) c.say_made.ensures.made c.say_made.ensures.lost)
    (some_of e2 e3 (codes ")") (λ (t : List ℕ). t ≡ codes ")") c.say-2.ensures refl))
