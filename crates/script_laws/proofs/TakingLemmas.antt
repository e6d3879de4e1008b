-- Takes of 64 characters, up to one that gives fewer, take all of an output.
use Rattle.std.proofs.Common.{◌≡◌, ◌<◌, ◌≤◌, ◌*◌, ◌∙◌, ℕ, zero, suc, Bool, true, false, List, ◌++◌, length, take, drop, take_all}
use Rattle.std.proofs.Common.{take-append-drop, None, refl, sym, ap, subst, arith, cond, inl, inr, nat_lt, slice_index_or}
use Rattle.std.proofs.lemmas.Bool.{cases_lt, lt-leb, ltb-true, ltb-false}
use Rattle.std.proofs.lemmas.List.{drop_all, length-set, length-take-le, length-drop, get_or-set_same}
use Rattle.std.proofs.lemmas.List.Elements.{All-get_or}
use Rattle.word36.specs.declared.sizes.TheConstants.{LINES, OUTPUT_RING, TAKEN_AT_ONCE}
use Rattle.tty_lines.specs.Rings.{Rings, IsLines, IsWithin, no_characters, output_of, with_output}
use Rattle.machine.specs.Machine.{S, happens, refused}
use Rattle.machine.specs.declared.event.Answer.TheVariants.{Text}
use Rattle.machine.specs.declared.event.RefusedEvent.TheVariants.{NoLine}
use Rattle.machine.specs.declared.event.Event.TheVariants as event
use Rattle.op_script.specs.Events.{taken_by, taken_with}
use Rattle.machine.specs.declared.sizes.TheConstants.{MOST_TAKES}
use Rattle.script_laws.specs.Taking.{TakesAll, TakeTakesAll}

-- what holds either way of a test
either : {X : Type 0} (P : X → Type 0) (b : Bool) (x y : X) → (b ≡ true → P x) → (b ≡ false → P y) → P (cond b x y)
either P true x y p q = p refl
either P false x y p q = q refl

-- ---- one event

-- the state after an event that takes from a line
abbrev after_take : S → ℕ → S
after_take s line =
    record s { world = record s.world { lines = with_output s.world.lines line (drop TAKEN_AT_ONCE (output_of s.world.lines line)) } }

happens-take : (s : S) (line : ℕ) → line < LINES
    → happens s (event.Take line TAKEN_AT_ONCE) ≡ record { state = after_take s line; answer = Text (take TAKEN_AT_ONCE (output_of s.world.lines line)) }
happens-take s line low =
    ap (λ b. cond b (refused s NoLine) (record { state = after_take s line; answer = Text (take TAKEN_AT_ONCE (output_of s.world.lines line)) }))
    (lt-leb LINES line low)

-- the line's output is what is left then
left-then : (s : S) (line : ℕ) → line < length s.world.lines →
    output_of (after_take s line).world.lines line ≡ drop TAKEN_AT_ONCE (output_of s.world.lines line)
left-then s line there =
    ap (λ r. r.output) (get_or-set_same s.world.lines line (record {
      input =
          (slice_index_or s.world.lines line no_characters).input;
      output = drop TAKEN_AT_ONCE (output_of s.world.lines line);
    }) no_characters there)

-- ---- several

taken-first : (k : ℕ) (s : S) (line : ℕ) → line < LINES
    → taken_by (suc k) (event.Take line TAKEN_AT_ONCE) s
    ≡ taken_with (after_take s line) (Text (take TAKEN_AT_ONCE (output_of s.world.lines line))) (taken_by k (event.Take line TAKEN_AT_ONCE) (after_take s line))
unfolding taken_by
taken-first k s line low = ap (λ m. taken_with m.state m.answer (taken_by k (event.Take line TAKEN_AT_ONCE) m.state)) (happens-take s line low)

-- so many events take an output that is shorter than they may give
takes-enough : (k : ℕ) (s : S) (line : ℕ) → line < LINES → length s.world.lines ≡ LINES → length (output_of s.world.lines line) < k * TAKEN_AT_ONCE
    → TakesAll s line (taken_by k (event.Take line TAKEN_AT_ONCE) s)
takes-enough zero s line low count few = absurd (omega (arith, few))
takes-enough (suc k) s line low count few =
    let out = output_of s.world.lines line in
    let next = after_take s line in
    let rest = taken_by k (event.Take line TAKEN_AT_ONCE) next in
    let there : line < length s.world.lines = subst (λ n. line < n) (sym count) low in
    let left = left-then s line there in
    subst (TakesAll s line) (sym (taken-first k s line low))
    (either (TakesAll s line) (nat_lt (length (take TAKEN_AT_ONCE out)) TAKEN_AT_ONCE)
    (record { machine = next; text = take TAKEN_AT_ONCE out; refusal = None })
    (record rest { text = take TAKEN_AT_ONCE out ++ rest.text })
    (λ short. let all = all-taken out (ltb-true _ _ short) in record {
      text = take_all TAKEN_AT_ONCE out all;
      left = left ∙ drop_all TAKEN_AT_ONCE out all;
      taken = refl;
    })
    (λ long.
    let i = takes-enough k next line low (length-set s.world.lines line _ ∙ count)
    (subst (λ l. length l < k * TAKEN_AT_ONCE) (sym left) (fewer k out (ltb-false _ _ long) few)) in record {
      text = ap (λ l. take TAKEN_AT_ONCE out ++ l) (i.text ∙ left) ∙ take-append-drop TAKEN_AT_ONCE out;
      left = i.left;
      taken = i.taken;
    }))
  where
    all-taken : (out : List ℕ) → length (take TAKEN_AT_ONCE out) < TAKEN_AT_ONCE → length out ≤ TAKEN_AT_ONCE
    all-taken out short = elim (cases_lt (length out) TAKEN_AT_ONCE) [
      | inl h ↦ omega (arith, h)
      | inr h ↦ absurd (let e = length-take-le TAKEN_AT_ONCE out h in omega (arith, short, e))
    ]

    fewer : (k : ℕ) (out : List ℕ) → TAKEN_AT_ONCE ≤ length (take TAKEN_AT_ONCE out) →
        length out < suc k * TAKEN_AT_ONCE → length (drop TAKEN_AT_ONCE out) < k * TAKEN_AT_ONCE
    fewer k out long few = elim (cases_lt (length out) TAKEN_AT_ONCE) [
      | inl h ↦ absurd (let e = ap (λ l. length l) (take_all TAKEN_AT_ONCE out (omega (arith, h))) in omega (arith, long, h, e))
      | inr h ↦ (let e = length-drop TAKEN_AT_ONCE out in omega (arith, h, few, e))
    ]

-- ---- the rings of a machine

-- an output of lines that fit their rings fits its ring
fits : (lines : List Rings) (line : ℕ) → IsLines lines → line < LINES → length (output_of lines line) ≤ OUTPUT_RING
fits lines line is low =
    let there : line < length lines = subst (λ n. line < n) (sym is.count) low in
    (All-get_or IsWithin lines line no_characters there is.within).output

pub take_takes_all : TakeTakesAll
take_takes_all s line is low =
    let ring = fits s.world.lines line is low in
    takes-enough MOST_TAKES s line low is.count (omega (arith, ring))
