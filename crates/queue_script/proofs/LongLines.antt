-- A line that is too long.
use Rattle.std.proofs.Common.{◌≡◌, ◌<◌, ◌+◌, ◌-◌, ◌++◌, ◌∙◌, ◌&&◌, ap, cond, arith, append-nil, sym, ℕ, Bool, List, [], ◌∷◌, length, Option, None, nat_le}
use Rattle.std.proofs.lemmas.Bool.Decides.{nat_tests}
use Rattle.lock_queue.specs.declared.request.Request.{Request}
use Rattle.script_io.specs.Transcripts.{after, closed}
use Rattle.queue_script.specs.Commands.{OwnedCommand, command_of}
use Rattle.script_io.specs.Endings.{script_fault}
use Rattle.queue_script.specs.QueueScripts.{continued, effect_of, transcript_of}
use Rattle.script_io.specs.declared.endings.Ending.TheVariants.{Script}

over_limit : (n most : ℕ) (a : Bool) (x : Option OwnedCommand) → most < n → cond (nat_le n most && a) x None ≡ None
over_limit n most a x h = grind (arith, nat_tests)

command_of-too_long : (line : List ℕ) → 256 < length line → command_of line ≡ None
unfolding command_of
command_of-too_long line h = over_limit (length line) 256 _ _ h

-- a line that is too long is not in the grammar
pub too_long : (size : ℕ) (requests : List Request) (number : ℕ) (old new line : List ℕ) (more : List (List ℕ)) → 0 < number
    → 256 < length line
    → new ≡ old ++ (script_fault number).text
    → after old (transcript_of size requests (number - 1) (line ∷ more)) ≡ closed new (Script number)
too_long size requests number old new line more some long written =
    let next : number - 1 + 1 ≡ number = omega arith in
    ap
    (λ c. after old
    (continued (effect_of size (number - 1 + 1) requests c) (λ later. transcript_of size later (number - 1 + 1) more)))
    (command_of-too_long line long)
    ∙ ap (λ n. after old (after (script_fault n).text (closed [] (Script n)))) next
    ∙ ap (λ l. closed (old ++ l) (Script number)) (append-nil (script_fault number).text)
    ∙ ap (λ l. closed l (Script number)) (sym written)
