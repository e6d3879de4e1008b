-- Lemmas on what is seen along a script.
use Rattle.std.proofs.Common.{◌≡◌, ◌≤◌, ◌+◌, ◌++◌, ◌⊎◌, ◌∙◌, ℕ, suc, List, [], ◌∷◌, Option, None, Some, Result, Ok, Err, IfOk, IfSome}
use Rattle.std.proofs.Common.{IsSome, is_some, unwrap_or, map, true, false, refl, sym, ap, subst, inl, inr, arith}
use Rattle.std.proofs.lemmas.Bool.{cases_eq}
use Rattle.std.proofs.lemmas.Bool.Decides.{nat_tests}
use Rattle.std.proofs.lemmas.Option.{same_Some}
use Rattle.std.specs.List.{All}
use Rattle.std.specs.Str.Lines.{lines}
use Rattle.word36.specs.declared.sizes.TheConstants.{MOST_REQUESTS}
use Rattle.lock_queue.specs.declared.request.Request.{Request}
use Rattle.queue_script.specs.Commands.{command_of}
use Rattle.queue_script.specs.QueueScripts.{continued, effect_of, transcript, transcript_of}
use Rattle.script_io.specs.declared.endings.Ending.{Ending}
use Rattle.script_io.specs.declared.endings.Ending.TheVariants as ending
use Rattle.lock_bars.specs.Arrows.{HasLock, wait_of, waits_in}
use Rattle.lock_bars.specs.Bars.{bars_after}
use Rattle.lock_bars.specs.Courses.{Course, IsFaultOf, course, course_of, has_line, line_columns, requests_after, unless_over}
use Rattle.wait_graph.specs.Graphs.{Shows}
use Rattle.lock_bars.specs.declared.arrows.Arrow.{Arrow}
use Rattle.lock_bars.specs.declared.bars.Bar.{Bar}
use Rattle.lock_bars.specs.declared.columns.Column.{Column}
use Rattle.lock_bars.specs.declared.errors.ScriptError.{ScriptError}
use Rattle.lock_bars.specs.declared.errors.ScriptError.TheVariants.{Memory, Short}
use Rattle.wait_graph.specs.declared.graph.Graph.{Graph}

-- the end is the same in both, where what follows a line ends in the same way
over-ended : (size : ℕ) (requests : List Request) (text : List ℕ) (o : Option Ending) (n : ℕ) (more : List (List ℕ)) (bars : List Bar) (onward : Course)
    → onward.ending ≡ (transcript_of size requests (n + 1) more).ending
    → (unless_over o n bars onward).ending
    ≡ (continued (record { requests = requests; text = text; ending = o }) (λ next. transcript_of size next (n + 1) more)).ending
over-ended size requests text (Some e) n more bars onward same = refl
over-ended size requests text None n more bars onward same = same

-- a course ends as the transcript does
ends_alike : (size : ℕ) (requests : List Request) (n : ℕ) (lines : List (List ℕ)) (bars : List Bar)
    → (course_of size requests n lines bars).ending ≡ (transcript_of size requests n lines).ending
ends_alike size requests n [] bars = refl
ends_alike size requests n (line ∷ more) bars =
    let e = effect_of size (n + 1) requests (command_of line) in
    let next = bars_after (n + 1) bars e.requests in
    over-ended size e.requests e.text e.ending n more bars (course_of size e.requests (n + 1) more next) (ends_alike size e.requests (n + 1) more next)

-- a script is seen to end as its transcript does
pub script_ends : (script : List ℕ) → (course script).ending ≡ (transcript script).ending
unfolding transcript
script_ends script = ends_alike MOST_REQUESTS [] 0 (lines script) []

-- at least as many lines are seen as came before
over_least : (o : Option Ending) (n : ℕ) (bars : List Bar) (onward : Course) → n + 1 ≤ onward.lines → n ≤ (unless_over o n bars onward).lines
over_least (Some e) n bars onward more = omega arith
over_least None n bars onward more = omega (arith, more)

pub seen_least : (size : ℕ) (requests : List Request) (n : ℕ) (lines : List (List ℕ)) (bars : List Bar)
    → n ≤ (course_of size requests n lines bars).lines
seen_least size requests n [] bars = omega arith
seen_least size requests n (line ∷ more) bars =
    let e = effect_of size (n + 1) requests (command_of line) in
    let next = bars_after (n + 1) bars e.requests in
    over_least e.ending n bars (course_of size e.requests (n + 1) more next) (seen_least size e.requests (n + 1) more next)

-- what is seen from the next line on
pub course_next : (size : ℕ) (requests next : List Request) (n m : ℕ) (lines more : List (List ℕ)) (line : List ℕ) (bars new : List Bar) (whole : Course)
    → lines ≡ line ∷ more
    → None ≡ (effect_of size (n + 1) requests (command_of line)).ending
    → next ≡ (effect_of size (n + 1) requests (command_of line)).requests
    → m ≡ n + 1
    → new ≡ bars_after (n + 1) bars next
    → course_of size requests n lines bars ≡ whole
    → course_of size next m more new ≡ whole
course_next size requests next n m lines more line bars new whole here goes_on is counted grown before =
    let e = effect_of size (n + 1) requests (command_of line) in
    let onward = course_of size e.requests (n + 1) more (bars_after (n + 1) bars e.requests) in
    ap (λ i. course_of size next i more new) counted
    ∙ ap (λ bs. course_of size next (n + 1) more bs) grown
    ∙ ap (λ r. course_of size r (n + 1) more (bars_after (n + 1) bars r)) is
    ∙ ap (λ o. unless_over o n bars onward) goes_on
    ∙ sym (ap (λ ls. course_of size requests n ls bars) here)
    ∙ before

-- a column for the next line
pub columns_next : (n m : ℕ) (old seen new : List Column) (column : Column) → m ≡ n + 1 → column ≡ record { line = n + 1; tick = 0 }
    → seen ≡ old ++ column ∷ [] → new ≡ seen → old ≡ line_columns n → new ≡ line_columns m
columns_next n m old seen new column counted is added kept before =
    let one : n + 1 ≡ suc n = omega arith in
    kept ∙ added ∙ ap (λ c. old ++ c ∷ []) (is ∙ ap (λ i. record { line = i; tick = 0 }) one)
    ∙ ap (λ cs. cs ++ record { line = suc n; tick = 0 } ∷ []) before
    ∙ ap line_columns (sym (counted ∙ one))

-- the requests behind the lines that are still to come
pub behind_next : (size : ℕ) (requests next : List Request) (n m : ℕ) (lines more all : List (List ℕ)) (line : List ℕ) → lines ≡ line ∷ more
    → next ≡ (effect_of size (n + 1) requests (command_of line)).requests
    → m ≡ n + 1
    → ((k : ℕ) → requests_after size k requests n lines ≡ requests_after size (n + k) [] 0 all)
    → (k : ℕ) → requests_after size k next m more ≡ requests_after size (m + k) [] 0 all
behind_next size requests next n m lines more all line here is counted before k =
    let far : n + suc k ≡ m + k = omega (arith, counted) in
    ap (λ i. requests_after size k next i more) counted
    ∙ ap (λ r. requests_after size k r (n + 1) more) is
    ∙ sym (ap (λ ls. requests_after size (suc k) requests n ls) here)
    ∙ before (suc k)
    ∙ ap (λ i. requests_after size i [] 0 all) far

-- those that are present are the ones behind the lines that have come
pub behind_now : (size : ℕ) (requests : List Request) (n : ℕ) (lines all : List (List ℕ))
    → ((k : ℕ) → requests_after size k requests n lines ≡ requests_after size (n + k) [] 0 all)
    → requests ≡ requests_after size n [] 0 all
behind_now size requests n lines all before =
    let same : n + 0 ≡ n = omega arith in
    before 0 ∙ ap (λ i. requests_after size i [] 0 all) same

-- ---- the waits behind the line that is asked for

-- where there are waits, they are those behind the line that is asked for, where the requests behind each line are these
abbrev pub Kept : Option ℕ → (ℕ → List Request) → Option (Graph × ℕ) → Type 0
Kept at behind waits = IfSome waits (λ w. (at ≡ Some w.1) × Shows (behind w.1) w.0)

has_more : (m n : ℕ) → (m ≡ n + 1 → ⊥) → has_line n (Some m) ≡ has_line (n + 1) (Some m)
has_more m n apart = grind (arith, nat_tests)

has_here : (m n : ℕ) → m ≡ n + 1 → has_line (n + 1) (Some m) ≡ true
has_here m n same = grind (arith, nat_tests)

-- where one line more has come, there are waits if the line that is asked for is among these
pub passed_next : {X : Type 0} (at : Option ℕ) (n : ℕ) (old new : Option X) → is_some old ≡ has_line n at
    → ((at ≡ Some (n + 1) → ⊥) → new ≡ old)
    → (at ≡ Some (n + 1) → IsSome new)
    → is_some new ≡ has_line (n + 1) at
passed_next None n old new before kept found = ap is_some (kept (λ h. cc)) ∙ before
passed_next (Some m) n old new before kept found =
    elim (cases_eq m (n + 1)) [
      | inl same ↦ found (ap Some same) ∙ sym (has_here m n same)
      | inr apart ↦ ap is_some (kept (λ h. apart (same_Some m (n + 1) h))) ∙ before ∙ has_more m n apart
    ]

kept_here : (at : Option ℕ) (behind : ℕ → List Request) (n : ℕ) (waits : Option (Graph × ℕ)) → at ≡ Some n
    → IfSome waits (λ w. Shows (behind n) w.0 × (w.1 ≡ n)) → Kept at behind waits
kept_here at behind n None asked shown = tt
kept_here at behind n (Some w) asked shown = (asked ∙ ap Some (sym shown.1), subst (λ i. Shows (behind i) w.0) (sym shown.1) shown.0)

-- and they are those behind it
pub kept_next : (at : Option ℕ) (behind : ℕ → List Request) (n columns : ℕ) (here : List Request) (old new : Option (Graph × ℕ)) → Kept at behind old
    → here ≡ behind (n + 1)
    → columns ≡ n + 1
    → ((at ≡ Some (n + 1) → ⊥) → new ≡ old)
    → (at ≡ Some (n + 1) → IfSome new (λ w. Shows here w.0 × (w.1 ≡ columns)))
    → Kept at behind new
kept_next None behind n columns here old new before is counted kept shown = subst (Kept None behind) (sym (kept (λ h. cc))) before
kept_next (Some m) behind n columns here old new before is counted kept shown =
    elim (cases_eq m (n + 1)) [
      | inl same ↦
          let asked : Some m ≡ Some (n + 1) = ap Some same in
          kept_here (Some m) behind (n + 1) new asked
          (subst (λ r. IfSome new (λ w. Shows r w.0 × (w.1 ≡ n + 1))) is
          (subst (λ i. IfSome new (λ w. Shows here w.0 × (w.1 ≡ i))) counted (shown asked)))
      | inr apart ↦ subst (Kept (Some m) behind) (sym (kept (λ h. apart (same_Some m (n + 1) h)))) before
    ]

-- what is said of them and of another thing that is kept with them goes on, where it is said of both behind the line that is asked for
pub told_next : {W X : Type 0} (at : Option ℕ) (n : ℕ) (P : W → X → Type 0) (old new : Option W) (before after : X) → IfSome old (λ w. P w before)
    → ((at ≡ Some (n + 1) → ⊥) → new ≡ old)
    → ((at ≡ Some (n + 1) → ⊥) → after ≡ before)
    → (at ≡ Some (n + 1) → IfSome new (λ w. P w after))
    → IfSome new (λ w. P w after)
told_next None n P old new before after known kept left told =
    subst (λ o. IfSome o (λ w. P w after)) (sym (kept (λ h. cc))) (subst (λ x. IfSome old (λ w. P w x)) (sym (left (λ h. cc))) known)
told_next (Some m) n P old new before after known kept left told =
    elim (cases_eq m (n + 1)) [
      | inl same ↦ told (ap Some same)
      | inr apart ↦
          subst (λ o. IfSome o (λ w. P w after)) (sym (kept (λ h. apart (same_Some m (n + 1) h))))
          (subst (λ x. IfSome old (λ w. P w x)) (sym (left (λ h. apart (same_Some m (n + 1) h)))) known)
    ]

-- the locks of arrows are those behind the line that is asked for
pub locks_here : (behind : ℕ → List Request) (n columns : ℕ) (here : List Request) (waits : Option (Graph × ℕ)) (arrows : List Arrow)
    → here ≡ behind (n + 1)
    → columns ≡ n + 1
    → IfSome waits (λ w. Shows here w.0 × (w.1 ≡ columns))
    → All (HasLock here) arrows
    → IfSome waits (λ w. All (HasLock (behind w.1)) arrows)
locks_here behind n columns here None arrows is counted shown locks = tt
locks_here behind n columns here (Some w) arrows is counted shown locks =
    subst (λ r. All (HasLock r) arrows) (is ∙ ap behind (sym (shown.1 ∙ counted))) locks

-- ---- faults

-- why a script that was seen is not drawn: want of memory, or that it has not the line that is asked for
pub short_fault : (at : Option ℕ) (count lines : ℕ) (seen : Course) (waits : Option (Graph × ℕ)) (e : ScriptError) → seen.ending ≡ ending.Done
    → lines ≡ seen.lines
    → is_some waits ≡ has_line lines at
    → (e ≡ Memory) ⊎ ((e ≡ Short lines) × IsSome at × (waits ≡ None))
    → IsFaultOf at count seen e
short_fault at count lines seen waits e done same passed why =
    elim why [
      | inl memory ↦ subst (IsFaultOf at count seen) (sym memory) tt
      | inr short ↦
          let none : has_line seen.lines at ≡ false =
          sym (ap (λ n. has_line n at) same) ∙ sym passed ∙ ap is_some short.2 in
          subst (IsFaultOf at count seen) (sym short.0) (done, same, short.1, none)
    ]

-- ---- what is drawn

-- what is drawn stands behind the line that was asked for, or behind the last one
abbrev pub IsDrawn : Option ℕ → (ℕ → List Request) → Graph → ℕ → ℕ → Type 0
IsDrawn at behind graph lines column = Shows (behind (unwrap_or at lines)) graph × (column ≡ unwrap_or at lines)

-- so it is where what was seen is drawn
pub drawn : (at : Option ℕ) (behind : ℕ → List Request) (lines columns column : ℕ) (last : List Request) (waits : Option (Graph × ℕ)) (graph : Graph)
    → IfSome waits (λ w. (at ≡ Some w.1) × Shows (behind w.1) w.0)
    → last ≡ behind lines
    → columns ≡ lines
    → (IsSome at → IsSome waits)
    → IfSome waits (λ w. (graph ≡ w.0) × (column ≡ w.1))
    → (waits ≡ None → Shows last graph × (column ≡ columns))
    → IsDrawn at behind graph lines column
drawn None behind lines columns column last None graph kept is counted found asked end =
    let shown = end refl in
    (subst (λ r. Shows r graph) is shown.0, shown.1 ∙ counted)
drawn (Some m) behind lines columns column last None graph kept is counted found asked end = let contrary : false ≡ true = found refl in cc
drawn at behind lines columns column last (Some w) graph kept is counted found asked end =
    let same : unwrap_or at lines ≡ w.1 = ap (λ o. unwrap_or o lines) kept.0 in
    (subst (λ i. Shows (behind i) graph) (sym same) (subst (Shows (behind w.1)) (sym asked.0) kept.1), asked.1 ∙ sym same)

-- the arrows that are drawn are the waits that are drawn
pub arrows_drawn : (waits : Option (Graph × ℕ)) (graph : Graph) (column : ℕ) (seen arrows : List Arrow)
    → IfSome waits (λ w. map wait_of seen ≡ waits_in w.0)
    → IfSome waits (λ w. (graph ≡ w.0) × (column ≡ w.1))
    → IfSome waits (λ _. arrows ≡ seen)
    → (waits ≡ None → map wait_of arrows ≡ waits_in graph)
    → map wait_of arrows ≡ waits_in graph
arrows_drawn None graph column seen arrows known asked kept end = end refl
arrows_drawn (Some w) graph column seen arrows known asked kept end = ap (map wait_of) kept ∙ known ∙ ap waits_in (sym asked.0)

-- and their locks are those behind the line that was asked for, or behind the last one
pub locks_drawn : (at : Option ℕ) (behind : ℕ → List Request) (lines : ℕ) (last : List Request) (waits : Option (Graph × ℕ)) (seen arrows : List Arrow)
    → IfSome waits (λ w. (at ≡ Some w.1) × Shows (behind w.1) w.0)
    → last ≡ behind lines
    → (IsSome at → IsSome waits)
    → IfSome waits (λ w. All (HasLock (behind w.1)) seen)
    → IfSome waits (λ _. arrows ≡ seen)
    → (waits ≡ None → All (HasLock last) arrows)
    → All (HasLock (behind (unwrap_or at lines))) arrows
locks_drawn None behind lines last None seen arrows asked is found known kept end = subst (λ r. All (HasLock r) arrows) is (end refl)
locks_drawn (Some m) behind lines last None seen arrows asked is found known kept end = let contrary : false ≡ true = found refl in cc
locks_drawn at behind lines last (Some w) seen arrows asked is found known kept end =
    let same : unwrap_or at lines ≡ w.1 = ap (λ o. unwrap_or o lines) asked.0 in
    subst (λ i. All (HasLock (behind i)) arrows) (sym same) (subst (λ l. All (HasLock (behind w.1)) l) (sym kept) known)

-- two facts of what was done
pub both_ok : {X E : Type 0} (r : Result X E) (P Q : X → Type 0) → IfOk r P → IfOk r Q → IfOk r (λ x. P x × Q x)
both_ok (Ok x) P Q p q = (p, q)
both_ok (Err e) P Q p q = tt
