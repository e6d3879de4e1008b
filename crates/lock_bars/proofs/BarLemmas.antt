-- Lemmas on how long bars last.
use Rattle.std.proofs.Common.{◌≡◌, ◌<◌, ◌≤◌, ◌+◌, ◌++◌, ◌∙◌, ◌&&◌, ◌||◌, ◌==◌, ℕ, suc, Bool, true, false, cond, List, [], ◌∷◌, map}
use Rattle.std.proofs.Common.{Option, Some, None, nat_le, nat_lt, refl, sym, ap, subst, inl, inr, arith}
use Rattle.std.proofs.lemmas.Bool.{and_parts, and_from, cases_lt, cond_both, eqb-true, eq-eqb, leb-true, ltb-true, lt-ltb, le-leb, lt-leb}
use Rattle.std.proofs.lemmas.Bool.{or_cases, or_left, or_right}
use Rattle.std.proofs.lemmas.List.Folds.{list_any-append}
use Rattle.std.specs.List.{flat_map, list_all, list_any}
use Rattle.std.specs.Str.Lines.{lines}
use Rattle.word36.specs.declared.sizes.TheConstants.{MOST_REQUESTS}
use Rattle.lock_queue.proofs.Fitting.{same_key-eq, same_key-refl}
use Rattle.lock_queue.specs.Keys.{same_key}
use Rattle.lock_queue.specs.declared.request.Request.{Request}
use Rattle.queue_script.specs.Commands.{command_of}
use Rattle.queue_script.specs.QueueScripts.{effect_of}
use Rattle.script_io.specs.declared.endings.Ending.{Ending}
use Rattle.lock_bars.specs.Bars.{bars_after, bars_with, extended, is_over, shows, started}
use Rattle.lock_bars.specs.Courses.{Course, Lasts, course, course_of, requests_after, requests_behind, unless_over}
use Rattle.lock_bars.specs.Holds.{holds_of, same_hold, same_truth}
use Rattle.lock_bars.specs.declared.bars.Bar.{Bar}
use Rattle.lock_bars.specs.declared.holds.Hold.{Hold}

-- ---- holdings that the test takes for one are one

same_truth-eq : (a b : Bool) → same_truth a b ≡ true → a ≡ b
same_truth-eq true true h = refl
same_truth-eq true false h = cc
same_truth-eq false true h = cc
same_truth-eq false false h = refl

same_truth-refl : (a : Bool) → same_truth a a ≡ true
same_truth-refl true = refl
same_truth-refl false = refl

same_hold-eq : (a b : Hold) → same_hold a b ≡ true → a ≡ b
same_hold-eq a b h =
    let halves = and_parts (a.job == b.job && same_key a.key b.key)
    ((a.amount == b.amount && same_truth a.shared b.shared) && (a.group == b.group && same_truth a.owns b.owns)) h in
    let lock = and_parts (a.job == b.job) (same_key a.key b.key) halves.0 in
    let ways = and_parts (a.amount == b.amount && same_truth a.shared b.shared) (a.group == b.group && same_truth a.owns b.owns) halves.1 in
    let part = and_parts (a.amount == b.amount) (same_truth a.shared b.shared) ways.0 in
    let kind = and_parts (a.group == b.group) (same_truth a.owns b.owns) ways.1 in
    let j = eqb-true a.job b.job lock.0 in
    let k = same_key-eq a.key b.key lock.1 in
    let n = eqb-true a.amount b.amount part.0 in
    let s = same_truth-eq a.shared b.shared part.1 in
    let g = eqb-true a.group b.group kind.0 in
    let o = same_truth-eq a.owns b.owns kind.1 in
    λ i. record { job = j i; key = k i; shared = s i; group = g i; amount = n i; owns = o i }

same_hold-refl : (a : Hold) → same_hold a a ≡ true
same_hold-refl a =
    and_from (a.job == a.job && same_key a.key a.key)
    ((a.amount == a.amount && same_truth a.shared a.shared) && (a.group == a.group && same_truth a.owns a.owns))
    (and_from (a.job == a.job) (same_key a.key a.key) (eq-eqb a.job a.job refl) (same_key-refl a.key))
    (and_from (a.amount == a.amount && same_truth a.shared a.shared) (a.group == a.group && same_truth a.owns a.owns)
    (and_from (a.amount == a.amount) (same_truth a.shared a.shared) (eq-eqb a.amount a.amount refl) (same_truth-refl a.shared))
    (and_from (a.group == a.group) (same_truth a.owns a.owns) (eq-eqb a.group a.group refl) (same_truth-refl a.owns)))

eq-same_hold : (a b : Hold) → a ≡ b → same_hold a b ≡ true
eq-same_hold a b e = subst (λ x. same_hold a x ≡ true) e (same_hold-refl a)

-- ---- what it is to be over a line

over_parts : (k : ℕ) (hold : Hold) (bar : Bar) → is_over k hold bar ≡ true → (bar.from ≤ k) × (k < bar.until) × (bar.hold ≡ hold)
over_parts k hold bar h =
    let p = and_parts (nat_le bar.from k && nat_lt k bar.until) (same_hold bar.hold hold) h in
    let q = and_parts (nat_le bar.from k) (nat_lt k bar.until) p.0 in
    (leb-true bar.from k q.0, ltb-true k bar.until q.1, same_hold-eq bar.hold hold p.1)

over_from : (k : ℕ) (hold : Hold) (bar : Bar) → bar.from ≤ k → k < bar.until → bar.hold ≡ hold → is_over k hold bar ≡ true
over_from k hold bar begun goes same =
    and_from (nat_le bar.from k && nat_lt k bar.until) (same_hold bar.hold hold)
    (and_from (nat_le bar.from k) (nat_lt k bar.until) (le-leb bar.from k begun) (lt-ltb k bar.until goes)) (eq-same_hold bar.hold hold same)

-- a bar is not empty, and ends at a line or before it
abbrev is_bounded : ℕ → Bar → Bool
is_bounded line bar = nat_lt bar.from bar.until && nat_le bar.until line

bounds : (line : ℕ) (bar : Bar) → is_bounded line bar ≡ true → (bar.from < bar.until) × (bar.until ≤ line)
bounds line bar h =
    let p = and_parts (nat_lt bar.from bar.until) (nat_le bar.until line) h in
    (ltb-true bar.from bar.until p.0, leb-true bar.until line p.1)

bounded_from : (line : ℕ) (bar : Bar) → bar.from < bar.until → bar.until ≤ line → is_bounded line bar ≡ true
bounded_from line bar some within =
    and_from (nat_lt bar.from bar.until) (nat_le bar.until line) (lt-ltb bar.from bar.until some) (le-leb bar.until line within)

abbrev lasts_on : ℕ → List Hold → Bar → Bool
lasts_on line holds bar = bar.until == line && list_any (same_hold bar.hold) holds

abbrev longer : ℕ → Bar → Bar
longer line bar = record bar { until = line + 1 }

abbrev new_bar : ℕ → Hold → Bar
new_bar line hold = record { hold = hold; from = line; until = line + 1 }

-- ---- over the lines before this one

same_before : (k line : ℕ) (holds : List Hold) (hold : Hold) (bar : Bar) → k < line
    → is_over k hold (extended line holds bar) ≡ is_over k hold bar
same_before k line holds hold bar before =
    let P : Bar → Type 0 = λ x. is_over k hold x ≡ is_over k hold bar in
    cond_both (lasts_on line holds bar) (longer line bar) bar P
    (λ e.
    let ends : bar.until ≡ line = eqb-true bar.until line (and_parts (bar.until == line) (list_any (same_hold bar.hold) holds) e).0 in
    let far : k < line + 1 = omega (arith, before) in
    let near : k < bar.until = omega (arith, before, ends) in
    ap (λ b. (nat_le bar.from k && b) && same_hold bar.hold hold) (lt-ltb k (line + 1) far ∙ sym (lt-ltb k bar.until near)))
    (λ e. refl)

all_before : (k line : ℕ) (holds : List Hold) (hold : Hold) (bars : List Bar) → k < line
    → list_any (is_over k hold) (map (extended line holds) bars) ≡ list_any (is_over k hold) bars
all_before k line holds hold [] before = refl
all_before k line holds hold (bar ∷ bars) before =
    ap (λ b. b || list_any (is_over k hold) (map (extended line holds) bars)) (same_before k line holds hold bar before)
    ∙ ap (λ b. is_over k hold bar || b) (all_before k line holds hold bars before)

not_yet : (shown : Bool) (k line : ℕ) (hold h : Hold) (rest : List Bar) → k < line → list_any (is_over k hold) rest ≡ false
    → list_any (is_over k hold) (cond shown [] (new_bar line h ∷ []) ++ rest) ≡ false
not_yet true k line hold h rest before none = none
not_yet false k line hold h rest before none =
    ap (λ b. ((b && nat_lt k (line + 1)) && same_hold h hold) || list_any (is_over k hold) rest) (lt-leb line k before) ∙ none

none_before : (k line : ℕ) (bars : List Bar) (hold : Hold) (holds : List Hold) → k < line
    → list_any (is_over k hold) (flat_map (started line bars) holds) ≡ false
none_before k line bars hold [] before = refl
none_before k line bars hold (h ∷ holds) before =
    not_yet (list_any (shows line h) bars) k line hold h (flat_map (started line bars) holds) before (none_before k line bars hold holds before)

or_none : (b : Bool) → (b || false) ≡ b
or_none true = refl
or_none false = refl

-- ---- over this line

over_held : (line : ℕ) (holds : List Hold) (hold : Hold) (bar : Bar) → is_bounded line bar ≡ true
    → is_over line hold (extended line holds bar) ≡ true → list_any (same_hold hold) holds ≡ true
over_held line holds hold bar bounded =
    let P : Bar → Type 0 = λ x. is_over line hold x ≡ true → list_any (same_hold hold) holds ≡ true in
    cond_both (lasts_on line holds bar) (longer line bar) bar P
    (λ e over. subst (λ h. list_any (same_hold h) holds ≡ true) (over_parts line hold (longer line bar) over).2
    (and_parts (bar.until == line) (list_any (same_hold bar.hold) holds) e).1)
    (λ e over.
    let past = (over_parts line hold bar over).1 in
    let within = (bounds line bar bounded).1 in
    absurd (omega (arith, past, within)))

all_held : (line : ℕ) (holds : List Hold) (hold : Hold) (bars : List Bar) → list_all (is_bounded line) bars ≡ true
    → list_any (is_over line hold) (map (extended line holds) bars) ≡ true → list_any (same_hold hold) holds ≡ true
all_held line holds hold [] bounded over = cc
all_held line holds hold (bar ∷ bars) bounded over =
    let parts = and_parts (is_bounded line bar) (list_all (is_bounded line) bars) bounded in
    elim (or_cases (is_over line hold (extended line holds bar)) (list_any (is_over line hold) (map (extended line holds) bars)) over) [
      | inl here ↦ over_held line holds hold bar parts.0 here
      | inr later ↦ all_held line holds hold bars parts.1 later
    ]

begun_or : (shown : Bool) (line : ℕ) (hold h : Hold) (rest : List Bar) (more : Bool)
    → (list_any (is_over line hold) rest ≡ true → more ≡ true)
    → list_any (is_over line hold) (cond shown [] (new_bar line h ∷ []) ++ rest) ≡ true → (same_hold hold h || more) ≡ true
begun_or true line hold h rest more later over = or_right (same_hold hold h) more (later over)
begun_or false line hold h rest more later over =
    elim (or_cases (is_over line hold (new_bar line h)) (list_any (is_over line hold) rest) over) [
      | inl here ↦ or_left (same_hold hold h) more (eq-same_hold hold h (sym (over_parts line hold (new_bar line h) here).2))
      | inr there ↦ or_right (same_hold hold h) more (later there)
    ]

begun_held : (line : ℕ) (bars : List Bar) (hold : Hold) (holds : List Hold)
    → list_any (is_over line hold) (flat_map (started line bars) holds) ≡ true → list_any (same_hold hold) holds ≡ true
begun_held line bars hold [] over = cc
begun_held line bars hold (h ∷ holds) over =
    begun_or (list_any (shows line h) bars) line hold h (flat_map (started line bars) holds) (list_any (same_hold hold) holds)
    (begun_held line bars hold holds) over

shown_over : (line : ℕ) (holds : List Hold) (hold : Hold) (bar : Bar) → is_bounded line bar ≡ true
    → shows line hold (extended line holds bar) ≡ true → is_over line hold (extended line holds bar) ≡ true
shown_over line holds hold bar bounded =
    let P : Bar → Type 0 = λ x. shows line hold x ≡ true → is_over line hold x ≡ true in
    let within = bounds line bar bounded in
    cond_both (lasts_on line holds bar) (longer line bar) bar P
    (λ e shown.
    let same = same_hold-eq bar.hold hold (and_parts (line + 1 == line + 1) (same_hold bar.hold hold) shown).1 in
    let begun : bar.from ≤ line = omega (arith, within.0, within.1) in
    let goes : line < line + 1 = omega arith in
    over_from line hold (longer line bar) begun goes same)
    (λ e shown.
    let ends = eqb-true bar.until (line + 1) (and_parts (bar.until == line + 1) (same_hold bar.hold hold) shown).0 in
    absurd (omega (arith, ends, within.1)))

all_shown : (line : ℕ) (holds : List Hold) (hold : Hold) (bars : List Bar) → list_all (is_bounded line) bars ≡ true
    → list_any (shows line hold) (map (extended line holds) bars) ≡ true → list_any (is_over line hold) (map (extended line holds) bars) ≡ true
all_shown line holds hold [] bounded shown = cc
all_shown line holds hold (bar ∷ bars) bounded shown =
    let parts = and_parts (is_bounded line bar) (list_all (is_bounded line) bars) bounded in
    let first = is_over line hold (extended line holds bar) in
    let others = list_any (is_over line hold) (map (extended line holds) bars) in
    elim (or_cases (shows line hold (extended line holds bar)) (list_any (shows line hold) (map (extended line holds) bars)) shown) [
      | inl here ↦ or_left first others (shown_over line holds hold bar parts.0 here)
      | inr later ↦ or_right first others (all_shown line holds hold bars parts.1 later)
    ]

here_over : (shown : Bool) (line : ℕ) (hold h : Hold) (bars rest : List Bar)
    → (shown ≡ true → list_any (is_over line h) bars ≡ true) → hold ≡ h
    → (list_any (is_over line hold) bars || list_any (is_over line hold) (cond shown [] (new_bar line h ∷ []) ++ rest)) ≡ true
here_over true line hold h bars rest over same =
    or_left (list_any (is_over line hold) bars) (list_any (is_over line hold) rest)
    (subst (λ x. list_any (is_over line x) bars ≡ true) (sym same) (over refl))
here_over false line hold h bars rest over same =
    let begun : line ≤ line = omega arith in
    let goes : line < line + 1 = omega arith in
    or_right (list_any (is_over line hold) bars) (is_over line hold (new_bar line h) || list_any (is_over line hold) rest)
    (or_left (is_over line hold (new_bar line h)) (list_any (is_over line hold) rest) (over_from line hold (new_bar line h) begun goes (sym same)))

or_behind : (p : Bar → Bool) (a : Bool) (xs ys : List Bar) → (a || list_any p ys) ≡ true → (a || list_any p (xs ++ ys)) ≡ true
or_behind p true xs ys h = refl
or_behind p false xs ys h = list_any-append p xs ys ∙ or_right (list_any p xs) (list_any p ys) h

held_over : (line : ℕ) (bars : List Bar) (hold : Hold) (holds : List Hold)
    → ((h : Hold) → list_any (shows line h) bars ≡ true → list_any (is_over line h) bars ≡ true)
    → list_any (same_hold hold) holds ≡ true
    → (list_any (is_over line hold) bars || list_any (is_over line hold) (flat_map (started line bars) holds)) ≡ true
held_over line bars hold [] over held = cc
held_over line bars hold (h ∷ holds) over held =
    let rest = flat_map (started line bars) holds in
    elim (or_cases (same_hold hold h) (list_any (same_hold hold) holds) held) [
      | inl here ↦ here_over (list_any (shows line h) bars) line hold h bars rest (over h) (same_hold-eq hold h here)
      | inr later ↦ or_behind (is_over line hold) (list_any (is_over line hold) bars) (started line bars h) rest (held_over line bars hold holds over later)
    ]

alike : (a b : Bool) → (a ≡ true → b ≡ true) → (b ≡ true → a ≡ true) → a ≡ b
alike true b there back = sym (there refl)
alike false true there back = back refl
alike false false there back = refl

both_held : (a b c : Bool) → (a ≡ true → c ≡ true) → (b ≡ true → c ≡ true) → (a || b) ≡ true → c ≡ true
both_held true b c first second h = first refl
both_held false b c first second h = second h

now : (line : ℕ) (bars : List Bar) (hold : Hold) (holds : List Hold) → list_all (is_bounded line) bars ≡ true
    → list_any (is_over line hold) (bars_with line bars holds) ≡ list_any (same_hold hold) holds
now line bars hold holds bounded =
    let old = map (extended line holds) bars in
    let new = flat_map (started line old) holds in
    list_any-append (is_over line hold) old new
    ∙ alike (list_any (is_over line hold) old || list_any (is_over line hold) new) (list_any (same_hold hold) holds)
    (both_held (list_any (is_over line hold) old) (list_any (is_over line hold) new) (list_any (same_hold hold) holds)
    (all_held line holds hold bars bounded) (begun_held line old hold holds))
    (held_over line old hold holds (λ h shown. all_shown line holds h bars bounded shown))

-- ---- bounds behind this line

one_bounded : (line : ℕ) (holds : List Hold) (bar : Bar) → is_bounded line bar ≡ true → is_bounded (line + 1) (extended line holds bar) ≡ true
one_bounded line holds bar bounded =
    let P : Bar → Type 0 = λ x. is_bounded (line + 1) x ≡ true in
    let within = bounds line bar bounded in
    let begun : bar.from < line + 1 = omega (arith, within.0, within.1) in
    let least : line + 1 ≤ line + 1 = omega arith in
    let more : bar.until ≤ line + 1 = omega (arith, within.1) in
    cond_both (lasts_on line holds bar) (longer line bar) bar P
    (λ e. bounded_from (line + 1) (longer line bar) begun least) (λ e. bounded_from (line + 1) bar within.0 more)

new_bounded : (shown : Bool) (line : ℕ) (h : Hold) (rest : List Bar) → list_all (is_bounded (line + 1)) rest ≡ true
    → list_all (is_bounded (line + 1)) (cond shown [] (new_bar line h ∷ []) ++ rest) ≡ true
new_bounded true line h rest known = known
new_bounded false line h rest known =
    let begun : line < line + 1 = omega arith in
    let least : line + 1 ≤ line + 1 = omega arith in
    and_from (is_bounded (line + 1) (new_bar line h)) (list_all (is_bounded (line + 1)) rest)
    (bounded_from (line + 1) (new_bar line h) begun least) known

started_bounded : (line : ℕ) (bars : List Bar) (holds : List Hold) → list_all (is_bounded (line + 1)) (flat_map (started line bars) holds) ≡ true
started_bounded line bars [] = refl
started_bounded line bars (h ∷ holds) =
    new_bounded (list_any (shows line h) bars) line h (flat_map (started line bars) holds) (started_bounded line bars holds)

all_bounded : (line : ℕ) (holds : List Hold) (bars new : List Bar) → list_all (is_bounded line) bars ≡ true
    → list_all (is_bounded (line + 1)) new ≡ true → list_all (is_bounded (line + 1)) (map (extended line holds) bars ++ new) ≡ true
all_bounded line holds [] new bounded known = known
all_bounded line holds (bar ∷ bars) new bounded known =
    let parts = and_parts (is_bounded line bar) (list_all (is_bounded line) bars) bounded in
    and_from (is_bounded (line + 1) (extended line holds bar)) (list_all (is_bounded (line + 1)) (map (extended line holds) bars ++ new))
    (one_bounded line holds bar parts.0) (all_bounded line holds bars new parts.1 known)

-- ---- along a script

-- over each of so many lines, the bars show the holdings behind it
abbrev Covers : ℕ → List Bar → (ℕ → List Request) → Type 0
Covers n bars behind =
    (list_all (is_bounded (n + 1)) bars ≡ true)
    × ((k : ℕ) (hold : Hold) → 1 ≤ k → k ≤ n → list_any (is_over k hold) bars ≡ list_any (same_hold hold) (holds_of (behind k)))

covers_next : (n : ℕ) (bars : List Bar) (behind : ℕ → List Request) → Covers n bars behind
    → Covers (n + 1) (bars_after (n + 1) bars (behind (n + 1))) behind
covers_next n bars behind known =
    let line = n + 1 in
    let holds = holds_of (behind line) in
    let old = map (extended line holds) bars in
    let new = flat_map (started line old) holds in (
      all_bounded line holds bars new known.0 (started_bounded line old holds),
      λ k hold least most.
          elim (cases_lt k line) [
            | inl before ↦
                let within : k ≤ n = omega (arith, before) in
                list_any-append (is_over k hold) old new
                ∙ ap (λ b. list_any (is_over k hold) old || b) (none_before k line old hold holds before)
                ∙ or_none (list_any (is_over k hold) old)
                ∙ all_before k line holds hold bars before
                ∙ known.1 k hold least within
            | inr here ↦
                let same : line ≡ k = omega (arith, here, most) in
                subst (λ i. list_any (is_over i hold) (bars_after line bars (behind line)) ≡ list_any (same_hold hold) (holds_of (behind i))) same
                (now line bars hold holds known.0)
          ],
    )

covers_unless : (o : Option Ending) (n : ℕ) (bars : List Bar) (onward : Course) (behind : ℕ → List Request) → Covers n bars behind
    → Covers onward.lines onward.bars behind → Covers (unless_over o n bars onward).lines (unless_over o n bars onward).bars behind
covers_unless (Some e) n bars onward behind here later = here
covers_unless None n bars onward behind here later = later

covers : (size : ℕ) (requests : List Request) (n : ℕ) (lines : List (List ℕ)) (bars : List Bar) (behind : ℕ → List Request)
    → ((k : ℕ) → requests_after size k requests n lines ≡ behind (n + k)) → Covers n bars behind
    → Covers (course_of size requests n lines bars).lines (course_of size requests n lines bars).bars behind
covers size requests n [] bars behind is known = known
covers size requests n (line ∷ more) bars behind is known =
    let e = effect_of size (n + 1) requests (command_of line) in
    let one : n + suc 0 ≡ n + 1 = omega arith in
    let here : e.requests ≡ behind (n + 1) = is (suc 0) ∙ ap behind one in
    covers_unless e.ending n bars (course_of size e.requests (n + 1) more (bars_after (n + 1) bars e.requests)) behind known
    (covers size e.requests (n + 1) more (bars_after (n + 1) bars e.requests) behind
    (λ k. let far : n + suc k ≡ n + 1 + k = omega arith in is (suc k) ∙ ap behind far)
    (subst (λ r. Covers (n + 1) (bars_after (n + 1) bars r) behind) (sym here) (covers_next n bars behind known)))

none_yet : (n : ℕ) → 1 ≤ n → n ≤ 0 → ⊥
none_yet n least most = omega (arith, least, most)

-- the bars of a script last exactly as long as their holdings
pub bars_last : (script : List ℕ) → Lasts (course script) script
bars_last script =
    (covers MOST_REQUESTS [] 0 (lines script) [] (λ k. requests_behind k script)
    (λ k. let same : k ≡ 0 + k = omega arith in ap (λ i. requests_behind i script) same)
    (refl, λ k hold least most. absurd (none_yet k least most))).1
