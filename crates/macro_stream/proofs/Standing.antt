-- What a step does to what comes up in the texts.
use Rattle.std.proofs.Common.{◌≡◌, ℕ, zero, suc, ◌+◌, ◌-◌, ◌<◌, ◌≤◌, true, false, List, [], ◌∷◌, ◌++◌, length, Some, None, refl, sym, ◌∙◌, ap, append_assoc, arith, nat_lt, if◌then◌else◌}
use Rattle.std.proofs.lemmas.Grind.{common_steps}
use Rattle.macro_stream.specs.Standing.{Store, Text, Event, Gives, Skips, Begins}
use Rattle.macro_stream.specs.Standing.{argument_in, argument_of, range_of, no_range, item_of, plain_events, argument_events, item_events, items_events}
use Rattle.macro_stream.specs.Standing.{round_in, round_of, rounds_left, rounds_events, present_events, text_events}
use Rattle.macro_stream.specs.declared.texts.Range.{Range}
use Rattle.macro_stream.specs.declared.frames.Arguments.{Arguments}
use Rattle.macro_stream.specs.declared.frames.Arguments.TheVariants.{Call}
use Rattle.macro_stream.specs.declared.frames.Rounds.{Rounds}
use Rattle.macro_stream.specs.declared.frames.Rounds.TheVariants as rounds

argument_in-call : (m : Store) (n start count d : ℕ) →
    argument_in m n (Call start count) d ≡ (if nat_lt d count then range_of m.ranges (start + d) else no_range)
argument_in-call m zero start count d = refl
argument_in-call m (suc n) start count d = refl

nothing_below : (d : ℕ) → nat_lt d 0 ≡ false
nothing_below d = grind (arith, common_steps)

no_argument : (m : Store) (depth d : ℕ) → argument_events m.items depth (argument_of m (Call 0 0) d) ≡ Skips ∷ []
no_argument m depth d =
    let e : argument_of m (Call 0 0) d ≡ no_range =
    argument_in-call m (length m.outside) 0 0 d ∙ ap (λ b. if b then range_of m.ranges (0 + d) else no_range) (nothing_below d) in
    ap (λ r. argument_events m.items depth r) e

plain_item : (m : Store) (depth item : ℕ) (rest : List Event) →
    item_events m depth (Call 0 0) item ++ rest ≡ (if nat_lt item 256 then Gives item else Skips) ∷ rest
plain_item m depth item rest =
    elim (nat_lt item 256) as (λ b.
    (if b then Gives item ∷ [] else argument_events m.items depth (argument_of m (Call 0 0) (item - 256))) ++ rest
    ≡ (if b then Gives item else Skips) ∷ rest) [
      | true ↦ refl
      | false ↦ ap (λ es. es ++ rest) (no_argument m depth (item - 256))
    ]

-- the items of an argument, by themselves and as those of a text
pub items_events-plain : (m : Store) (depth n at : ℕ) → items_events m depth (Call 0 0) n at ≡ plain_events m.items n at
items_events-plain m depth zero at = refl
items_events-plain m depth (suc n) at =
    plain_item m depth (item_of m.items at) (items_events m depth (Call 0 0) n (at + 1))
    ∙ ap (λ es. (if nat_lt (item_of m.items at) 256 then Gives (item_of m.items at) else Skips) ∷ es) (items_events-plain m depth n (at + 1))

abbrev pub behind : Text → Text
behind t = record t { position = t.position + 1 }

-- the next item of a text, and the text behind it
pub text_events-item : (m : Store) (depth : ℕ) (t : Text) → t.position < t.range.end →
    text_events m depth t ≡ item_events m depth t.arguments (item_of m.items t.position) ++ text_events m depth (behind t)
text_events-item m depth t h =
    let e : t.range.end - t.position ≡ suc (t.range.end - (t.position + 1)) = omega arith in
    let due : List Event = if t.end_due then Gives 10 ∷ [] else [] in
    let further : List Event = rounds_events m depth (rounds_left t.left) t.range t.arguments t.left in
    let item : List Event = item_events m depth t.arguments (item_of m.items t.position) in
    let more : List Event = items_events m depth t.arguments (t.range.end - (t.position + 1)) (t.position + 1) in
    ap (λ n. (items_events m depth t.arguments n t.position ++ due) ++ further) e
    ∙ (ap (λ es. es ++ further) (append_assoc item more due) ∙ append_assoc item (more ++ due) further)

-- a text at the end of its items has a line end to come, another round, or nothing
items_none : (m : Store) (depth : ℕ) (t : Text) → t.range.end ≤ t.position →
    items_events m depth t.arguments (t.range.end - t.position) t.position ≡ []
items_none m depth t h =
    let e : t.range.end - t.position ≡ 0 = omega arith in ap (λ n. items_events m depth t.arguments n t.position) e

pub text_events-due : (m : Store) (depth : ℕ) (t : Text) → t.range.end ≤ t.position → t.end_due ≡ true →
    text_events m depth t ≡ Gives 10 ∷ text_events m depth (record t { end_due = false })
text_events-due m depth t h due =
    let further : List Event = rounds_events m depth (rounds_left t.left) t.range t.arguments t.left in
    ap (λ es. (es ++ (if t.end_due then Gives 10 ∷ [] else [])) ++ further) (items_none m depth t h)
    ∙ (ap (λ b. (if b then Gives 10 ∷ [] else []) ++ further) due
    ∙ ap (λ es. Gives 10 ∷ ((es ++ []) ++ further)) (sym (items_none m depth t h)))

text_events-rounds : (m : Store) (depth : ℕ) (t : Text) → t.range.end ≤ t.position → t.end_due ≡ false →
    text_events m depth t ≡ rounds_events m depth (rounds_left t.left) t.range t.arguments t.left
text_events-rounds m depth t h due =
    let further : List Event = rounds_events m depth (rounds_left t.left) t.range t.arguments t.left in
    ap (λ es. (es ++ (if t.end_due then Gives 10 ∷ [] else [])) ++ further) (items_none m depth t h)
    ∙ ap (λ b. (if b then Gives 10 ∷ [] else []) ++ further) due

rounds_left-round : (m : Store) (range : Range) (arguments : Arguments) (left : Rounds) (u : Text) →
    round_in m range arguments left ≡ Some u → rounds_left left ≡ suc (rounds_left u.left)
rounds_left-round m range arguments rounds.None u e = cc
rounds_left-round m range arguments (rounds.Count zero) u e = cc
rounds_left-round m range arguments (rounds.Count (suc n)) u e = grind (arith, common_steps)
rounds_left-round m range arguments (rounds.List next end dummy outer) u e = grind (arith, common_steps)

pub text_events-round : (m : Store) (depth : ℕ) (t u : Text) → t.range.end ≤ t.position → t.end_due ≡ false →
    round_of m t ≡ Some u → text_events m depth t ≡ Begins ∷ text_events m depth u
text_events-round m depth t u h due e =
    text_events-rounds m depth t h due
    ∙ (ap (λ n. rounds_events m depth n t.range t.arguments t.left) (rounds_left-round m t.range t.arguments t.left u e)
    ∙ ap (λ found. elim found [
      | None ↦ []
      | Some begun ↦ Begins ∷ (present_events m depth begun ++ rounds_events m depth (rounds_left u.left) begun.range begun.arguments begun.left)
    ]) e)

no_rounds : (m : Store) (depth n : ℕ) (range : Range) (arguments : Arguments) (left : Rounds) →
    round_in m range arguments left ≡ None → rounds_events m depth n range arguments left ≡ []
no_rounds m depth zero range arguments left e = refl
no_rounds m depth (suc n) range arguments left e =
    ap (λ found. elim found [
      | None ↦ []
      | Some begun ↦ Begins ∷ (present_events m depth begun ++ rounds_events m depth n begun.range begun.arguments begun.left)
    ]) e

pub text_events-over : (m : Store) (depth : ℕ) (t : Text) → t.range.end ≤ t.position → t.end_due ≡ false →
    round_of m t ≡ None → text_events m depth t ≡ []
text_events-over m depth t h due e =
    text_events-rounds m depth t h due ∙ no_rounds m depth (rounds_left t.left) t.range t.arguments t.left e
