-- Taking all that a line has put out.
use Rattle.std.proofs.Common.{◌≡◌, ◌≤◌, ◌<◌, ◌∙◌, sym, ap, subst, ℕ, zero, suc, ◌*◌, nat_le, Bool, false, cond}
use Rattle.std.proofs.Common.{List, [], ◌∷◌, ◌++◌, length, take, drop, refl, arith}
use Rattle.std.proofs.lemmas.Bool.{eq-eqb}
use Rattle.std.proofs.lemmas.Bool.Decides.{nat_tests}
use Rattle.std.proofs.lemmas.List.{get_or-set_same, length-drop, take-append-drop}
use Rattle.std.proofs.Math.ListN.{length-set}
use Rattle.word36.specs.declared.sizes.TheConstants.{LINES, TAKEN_AT_ONCE}
use Rattle.tty_lines.specs.Rings.{Rings, input_of, no_characters, output_of, with_output}
use Rattle.machine.specs.Alone.{taken_by, taken_from, text_in}
use Rattle.machine.specs.Machine.{S, Made, after, refused, taken}
use Rattle.machine.specs.declared.event.Answer.TheVariants.{Text}
use Rattle.machine.specs.declared.event.Event.TheVariants.{Take}
use Rattle.machine.specs.declared.event.RefusedEvent.TheVariants.{NoLine}
use Rattle.call_laws.specs.Takes.{TakesLeaveNothing, takes}

no-line : (line : ℕ) → line < LINES → nat_le LINES line ≡ false
no-line line low = grind (arith, nat_tests)

empty-list : (xs : List ℕ) → length xs ≤ 0 → xs ≡ []
empty-list [] h = refl
empty-list (x ∷ xs) h = absurd (omega arith)

fewer-left : (xs : List ℕ) (count : ℕ) → length xs ≤ suc count * TAKEN_AT_ONCE → length (drop TAKEN_AT_ONCE xs) ≤ count * TAKEN_AT_ONCE
fewer-left xs count h = omega (arith, length-drop TAKEN_AT_ONCE xs, h)

-- what one of them leaves, and what it takes
abbrev one_taken : S → ℕ → Made
one_taken s line =
    let out : List ℕ = output_of s.world.lines line in
    record {
      state = record s { world = record s.world { lines = with_output s.world.lines line (drop TAKEN_AT_ONCE out) } };
      answer = Text (take TAKEN_AT_ONCE out);
    }

takes-one : (s : S) (line : ℕ) → line < LINES → taken s line TAKEN_AT_ONCE ≡ one_taken s line
takes-one s line low = ap (λ (b : Bool). cond b (refused s NoLine) (one_taken s line)) (no-line line low)

pub takes_leave_nothing : TakesLeaveNothing
takes_leave_nothing s line zero low here few =
    let none : output_of s.world.lines line ≡ [] = empty-list (output_of s.world.lines line) (omega arith) in
    (sym none, none)
takes_leave_nothing s line (suc count) low here few =
    let out : List ℕ = output_of s.world.lines line in
    let u : S = (one_taken s line).state in
    let one = takes-one s line low in
    let left : output_of u.world.lines line ≡ drop TAKEN_AT_ONCE out =
    ap (λ (r : Rings). r.output)
    (get_or-set_same s.world.lines line (record { input = input_of s.world.lines line; output = drop TAKEN_AT_ONCE out })
    no_characters here) in
    let long : line < length u.world.lines =
    omega (arith, length-set s.world.lines line (record { input = input_of s.world.lines line; output = drop TAKEN_AT_ONCE out })) in
    let fewer : length (drop TAKEN_AT_ONCE out) ≤ count * TAKEN_AT_ONCE = fewer-left out count few in
    let rest = takes_leave_nothing u line count low long (subst (λ l. length l ≤ count * TAKEN_AT_ONCE) (sym left) fewer) in
    let mine : taken_by line (Take line TAKEN_AT_ONCE) (taken s line TAKEN_AT_ONCE).answer ≡ take TAKEN_AT_ONCE out =
    ap (λ (b : Bool). cond b (text_in (taken s line TAKEN_AT_ONCE).answer) []) (eq-eqb line line refl) ∙ ap (λ (m : Made). text_in m.answer) one in (
      ap (λ l. l ++ taken_from line (taken s line TAKEN_AT_ONCE).state (takes line count)) mine
          ∙ ap (λ (m : Made). take TAKEN_AT_ONCE out ++ taken_from line m.state (takes line count)) one
          ∙ ap (λ l. take TAKEN_AT_ONCE out ++ l) (rest.0 ∙ left)
          ∙ take-append-drop TAKEN_AT_ONCE out,
      ap (λ (m : Made). output_of (after (takes line count) m.state).world.lines line) one ∙ rest.1,
    )
