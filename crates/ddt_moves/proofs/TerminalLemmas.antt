-- What is typed at a line, and takes of its output, one after the other.
use Rattle.std.proofs.Common.{◌≡◌, ◌<◌, ◌≤◌, ◌+◌, ◌-◌, ◌++◌, ◌∙◌, ap, sym, refl, arith, append_assoc, append-nil}
use Rattle.std.proofs.Common.{ℕ, suc, Bool, true, false, List, [], ◌∷◌, drop, get_or, length}
use Rattle.std.proofs.lemmas.List.{drop_all, drop_more}
use Rattle.std.specs.Prelude.{◌==◌, ◌&&◌, not, if◌then◌else◌}
use Rattle.std.proofs.lemmas.Bool.{lt-ltb}
use Rattle.machine.specs.declared.event.Answer.{Answer}
use Rattle.machine.specs.declared.event.Answer.TheVariants.{Ran, Idle, Done, Text, JobNumber, Refused}
use Rattle.machine.specs.declared.event.RefusedEvent.{RefusedEvent}
use Rattle.machine.specs.declared.event.RefusedEvent.TheVariants.{Full}
use Rattle.ddt_timeline.specs.Histories.{History, done, machine_of}
use Rattle.ddt_timeline.specs.Timelines.{answer_to}
use Rattle.ddt_timeline.specs.declared.entries.Entry.TheVariants.{Take, Typed}
use Rattle.ddt_moves.specs.Terminals.{finds_no_room, is_full, line_has_room, next_text, taken_text}
use Rattle.ddt_moves.specs.Terminals.{takes, text_in, typed_byte, typed_bytes, typed_line}

-- ---- what is typed

-- a character that is refused as full has no room
pub no-room : (line byte c : ℕ) (h : History) (answer : Answer) (why : RefusedEvent) → byte < 128 → c ≡ byte
    → answer ≡ answer_to (machine_of h) (Typed line c) → answer ≡ Refused why → why ≡ Full → finds_no_room line byte h ≡ true
unfolding finds_no_room
no-room line byte c h answer why small same answered refused full =
    ap (λ (b : Bool). b && is_full (answer_to (machine_of h) (Typed line byte))) (lt-ltb _ _ small)
    ∙ ap (λ (n : ℕ). is_full (answer_to (machine_of h) (Typed line n))) (sym same)
    ∙ ap is_full (sym answered ∙ refused)
    ∙ ap (λ (r : RefusedEvent). is_full (Refused r)) full

not-true : (b room : Bool) → room ≡ not b → room ≡ true → b ≡ false
not-true true room is has = cc
not-true false room is has = refl

not-false : (b room : Bool) → room ≡ not b → room ≡ false → b ≡ true
not-false true room is full = refl
not-false false room is full = cc

-- a byte is typed, and the others are behind it
pub typed-more : (line i : ℕ) (typed : List ℕ) (h next all : History) (room : Bool) → i < length typed
    → next ≡ typed_byte line (get_or typed i 0) h → room ≡ not (finds_no_room line (get_or typed i 0) h) → room ≡ true
    → typed_line line (drop i typed) h ≡ all → typed_line line (drop (i + 1) typed) next ≡ all
typed-more line i typed h next all room within made seen has before =
    let byte = get_or typed i 0 in
    ap (typed_line line (drop (i + 1) typed)) made
    ∙ ap
    (λ (b : Bool). if b then typed_byte line byte h else typed_line line (drop (i + 1) typed) (typed_byte line byte h))
    (sym (not-true _ room seen has))
    ∙ ap (λ (l : List ℕ). typed_line line l h) (sym (drop_more typed i 0 within))
    ∙ before

pub room-more : (line i : ℕ) (typed : List ℕ) (h next : History) (all room : Bool) → i < length typed
    → next ≡ typed_byte line (get_or typed i 0) h → room ≡ not (finds_no_room line (get_or typed i 0) h) → room ≡ true
    → line_has_room line (drop i typed) h ≡ all → line_has_room line (drop (i + 1) typed) next ≡ all
room-more line i typed h next all room within made seen has before =
    let byte = get_or typed i 0 in
    ap (line_has_room line (drop (i + 1) typed)) made
    ∙ ap (λ (b : Bool). not b && line_has_room line (drop (i + 1) typed) (typed_byte line byte h)) (sym (not-true _ room seen has))
    ∙ ap (λ (l : List ℕ). line_has_room line l h) (sym (drop_more typed i 0 within))
    ∙ before

-- one for which there is no room is the last
pub typed-last : (line i : ℕ) (typed : List ℕ) (h next all : History) (room : Bool) → i < length typed
    → next ≡ typed_byte line (get_or typed i 0) h → room ≡ not (finds_no_room line (get_or typed i 0) h) → room ≡ false
    → typed_line line (drop i typed) h ≡ all → next ≡ all
typed-last line i typed h next all room within made seen full before =
    let byte = get_or typed i 0 in
    made
    ∙ ap
    (λ (b : Bool). if b then typed_byte line byte h else typed_line line (drop (i + 1) typed) (typed_byte line byte h))
    (sym (not-false _ room seen full))
    ∙ ap (λ (l : List ℕ). typed_line line l h) (sym (drop_more typed i 0 within))
    ∙ before

-- ---- what is left to be done behind so many takes

-- as much happens, and as much is given, as behind the others
pub record AsMuch (n line : ℕ) (h : History) (bytes : List ℕ) (m : ℕ) (before : History) (bytes_before : List ℕ) : Type 0 where
  pub happened : takes n line h ≡ takes m line before
  pub text : bytes ++ taken_text n line h ≡ bytes_before ++ taken_text m line before

-- what is left is what all of it is
pub record IsAll (h : History) (bytes : List ℕ) (m line : ℕ) (before : History) (bytes_before : List ℕ) : Type 0 where
  pub happened : h ≡ takes m line before
  pub text : bytes ≡ bytes_before ++ taken_text m line before

takes-suc : (n line : ℕ) (h : History) → (length (next_text line h) == 0) ≡ false
    → takes (suc n) line h ≡ takes n line (done h (Take line ∷ []))
unfolding takes
takes-suc n line h some =
    ap (λ (b : Bool). if b then done h (Take line ∷ []) else takes n line (done h (Take line ∷ []))) some

takes-last : (n line : ℕ) (h : History) → (length (next_text line h) == 0) ≡ true → takes (suc n) line h ≡ done h (Take line ∷ [])
unfolding takes
takes-last n line h none =
    ap (λ (b : Bool). if b then done h (Take line ∷ []) else takes n line (done h (Take line ∷ []))) none

taken-suc : (n line : ℕ) (h : History) → (length (next_text line h) == 0) ≡ false
    → taken_text (suc n) line h ≡ next_text line h ++ taken_text n line (done h (Take line ∷ []))
unfolding taken_text
taken-suc n line h some =
    ap (λ (b : Bool). if b then [] else next_text line h ++ taken_text n line (done h (Take line ∷ []))) some

taken-last : (n line : ℕ) (h : History) → (length (next_text line h) == 0) ≡ true → taken_text (suc n) line h ≡ []
unfolding taken_text
taken-last n line h none =
    ap (λ (b : Bool). if b then [] else next_text line h ++ taken_text n line (done h (Take line ∷ []))) none

takes-none : (line : ℕ) (h : History) → takes 0 line h ≡ h
unfolding takes
takes-none line h = refl

taken-none : (line : ℕ) (h : History) → taken_text 0 line h ≡ []
unfolding taken_text
taken-none line h = refl

one-more : (k n : ℕ) → k < n → n - k ≡ suc (n - (k + 1))
one-more k n h = omega arith

none-left : (k n : ℕ) → n ≤ k → n - k ≡ 0
none-left k n h = omega arith

-- a take that gives text
pub take-gives-text : (k most line : ℕ) (h next before : History) (bytes more bytes_before text : List ℕ) (answer : Answer)
    → AsMuch (most - k) line h bytes most before bytes_before → k < most → next ≡ done h (Take line ∷ [])
    → answer ≡ answer_to (machine_of h) (Take line) → answer ≡ Text text → (length text == 0) ≡ false → more ≡ bytes ++ text
    → AsMuch (most - (k + 1)) line next more most before bytes_before
take-gives-text k most line h next before bytes more bytes_before text answer left within happened answered gives some pushed =
    let same : next_text line h ≡ text = ap text_in (sym answered ∙ gives) in
    let has : (length (next_text line h) == 0) ≡ false = ap (λ (l : List ℕ). length l == 0) same ∙ some in
    record {
      happened =
          ap (takes (most - (k + 1)) line) happened
          ∙ sym (takes-suc (most - (k + 1)) line h has)
          ∙ sym (ap (λ (n : ℕ). takes n line h) (one-more k most within))
          ∙ left.happened;
      text =
          ap (λ (l : List ℕ). l ++ taken_text (most - (k + 1)) line next) pushed
          ∙ ap (λ (x : History). (bytes ++ text) ++ taken_text (most - (k + 1)) line x) happened
          ∙ append_assoc bytes text _
          ∙ ap (λ (l : List ℕ). bytes ++ (l ++ taken_text (most - (k + 1)) line (done h (Take line ∷ [])))) (sym same)
          ∙ ap (λ (l : List ℕ). bytes ++ l) (sym (taken-suc (most - (k + 1)) line h has))
          ∙ sym (ap (λ (n : ℕ). bytes ++ taken_text n line h) (one-more k most within))
          ∙ left.text;
    }

-- one that gives none is the last
pub take-gives-none : (k most line : ℕ) (h next before : History) (bytes bytes_before : List ℕ) (answer : Answer)
    → AsMuch (most - k) line h bytes most before bytes_before → k < most → next ≡ done h (Take line ∷ [])
    → answer ≡ answer_to (machine_of h) (Take line) → (length (text_in answer) == 0) ≡ true
    → IsAll next bytes most line before bytes_before
take-gives-none k most line h next before bytes bytes_before answer left within happened answered none =
    let no : (length (next_text line h) == 0) ≡ true = ap (λ (a : Answer). length (text_in a) == 0) (sym answered) ∙ none in
    record {
      happened =
          happened
          ∙ sym (takes-last (most - (k + 1)) line h no)
          ∙ sym (ap (λ (n : ℕ). takes n line h) (one-more k most within))
          ∙ left.happened;
      text =
          sym (append-nil bytes)
          ∙ ap (λ (l : List ℕ). bytes ++ l) (sym (taken-last (most - (k + 1)) line h no))
          ∙ sym (ap (λ (n : ℕ). bytes ++ taken_text n line h) (one-more k most within))
          ∙ left.text;
    }

-- an answer that is no text has none
pub no-text : (answer : Answer) → ((text : List ℕ) → answer ≡ Text text → ⊥) → (length (text_in answer) == 0) ≡ true
no-text (Ran j) other = refl
no-text Idle other = refl
no-text Done other = refl
no-text (Text l) other = absurd (other l refl)
no-text (JobNumber j) other = refl
no-text (Refused r) other = refl

-- all takes were made
pub no-takes-left : (k most line : ℕ) (h before : History) (bytes bytes_before : List ℕ)
    → AsMuch (most - k) line h bytes most before bytes_before → most ≤ k → IsAll h bytes most line before bytes_before
no-takes-left k most line h before bytes bytes_before left over = record {
  happened = sym (takes-none line h) ∙ sym (ap (λ (n : ℕ). takes n line h) (none-left k most over)) ∙ left.happened;
  text =
      sym (append-nil bytes)
      ∙ ap (λ (l : List ℕ). bytes ++ l) (sym (taken-none line h))
      ∙ sym (ap (λ (n : ℕ). bytes ++ taken_text n line h) (none-left k most over))
      ∙ left.text;
}

-- the characters of a text were pushed one by one
pub all-pushed : (bytes more items text : List ℕ) (i : ℕ) → more ++ drop i items ≡ bytes ++ items → length items ≤ i → items ≡ text
    → more ≡ bytes ++ text
all-pushed bytes more items text i pushed over same =
    sym (append-nil more)
    ∙ ap (λ (l : List ℕ). more ++ l) (sym (drop_all i items over))
    ∙ pushed
    ∙ ap (λ (l : List ℕ). bytes ++ l) same

-- behind the text comes CR: the last if there is no room for it
pub return-full : (line i : ℕ) (typed : List ℕ) (h next all : History) (room : Bool) → length typed ≤ i
    → next ≡ typed_byte line 13 h → room ≡ not (finds_no_room line 13 h) → room ≡ false
    → typed_line line (drop i typed) h ≡ all → next ≡ all
return-full line i typed h next all room end made seen full before =
    made
    ∙ ap
    (λ (b : Bool). if b then typed_byte line 13 h else typed_bytes line (10 ∷ []) (typed_byte line 13 h))
    (sym (not-false _ room seen full))
    ∙ ap (λ (l : List ℕ). typed_line line l h) (sym (drop_all i typed end))
    ∙ before

either-way : (b : Bool) (h : History) → h ≡ (if b then h else h)
either-way true h = refl
either-way false h = refl

-- and behind it LF, whether there is room for that or not
pub return-typed : (line i : ℕ) (typed : List ℕ) (h middle next all : History) (room : Bool) → length typed ≤ i
    → middle ≡ typed_byte line 13 h → room ≡ not (finds_no_room line 13 h) → room ≡ true → next ≡ typed_byte line 10 middle
    → typed_line line (drop i typed) h ≡ all → next ≡ all
return-typed line i typed h middle next all room end made seen has last before =
    last
    ∙ ap (typed_byte line 10) made
    ∙ either-way (finds_no_room line 10 (typed_byte line 13 h)) (typed_byte line 10 (typed_byte line 13 h))
    ∙ ap
    (λ (b : Bool). if b then typed_byte line 13 h else typed_bytes line (10 ∷ []) (typed_byte line 13 h))
    (sym (not-true _ room seen has))
    ∙ ap (λ (l : List ℕ). typed_line line l h) (sym (drop_all i typed end))
    ∙ before

and-so : (b : Bool) → b ≡ (b && true)
and-so true = refl
and-so false = refl

pub return-room : (line i : ℕ) (typed : List ℕ) (h middle : History) (room last all : Bool) → length typed ≤ i
    → middle ≡ typed_byte line 13 h → room ≡ not (finds_no_room line 13 h) → room ≡ true
    → last ≡ not (finds_no_room line 10 middle) → line_has_room line (drop i typed) h ≡ all → last ≡ all
return-room line i typed h middle room last all end made seen has found before =
    found
    ∙ ap (λ (m : History). not (finds_no_room line 10 m)) made
    ∙ and-so (not (finds_no_room line 10 (typed_byte line 13 h)))
    ∙ ap (λ (b : Bool). not b && (not (finds_no_room line 10 (typed_byte line 13 h)) && true)) (sym (not-true _ room seen has))
    ∙ ap (λ (l : List ℕ). line_has_room line l h) (sym (drop_all i typed end))
    ∙ before
