-- Entries, and the single things that they are, as the events of a run.
use Rattle.std.specs.List.{list_all}
use Rattle.std.proofs.Common.{◌≡◌, ◌∙◌, ◌++◌, ◌&&◌, sym, ap, ℕ, zero, suc, Bool, true, false, List, [], ◌∷◌, refl, append_assoc, append-nil, replicate, take}
use Rattle.std.proofs.lemmas.List.Folds.{list_all-append}
use Rattle.machine.specs.Machine.{S}
use Rattle.run_record.specs.Pieces.{rounds}
use Rattle.run_record.specs.declared.happened.RunEvent.{RunEvent}
use Rattle.run_record.specs.declared.happened.RunEvent.TheVariants as event
use Rattle.ddt_timeline.specs.Histories.{one_step, past_in, things_in, things_of}
use Rattle.ddt_timeline.specs.Recorded.{changes, is_event, recorded}
use Rattle.ddt_timeline.specs.Timelines.{made, played}
use Rattle.ddt_timeline.specs.declared.entries.Entry.{Entry}
use Rattle.ddt_timeline.specs.declared.entries.Entry.TheVariants.{Rounds, Login, Start, Continue, Kill, Typed, Take, Ticks}
use Rattle.ddt_timeline.specs.declared.entries.Entry.TheVariants.{Deposit, StartAt, Execute}
use Rattle.ddt_timeline.proofs.HistoryLemmas.{played-things_of}

recorded-append : (xs ys : List Entry) (s : S) → recorded s (xs ++ ys) ≡ recorded s xs ++ recorded (played xs s) ys
recorded-append [] ys s = refl
recorded-append (x ∷ xs) ys s =
    ap (λ (l : List RunEvent). changes s x ++ l) (recorded-append xs ys (made s x))
    ∙ sym (append_assoc (changes s x) (recorded (made s x) xs) (recorded (played xs (made s x)) ys))

recorded-steps : (n : ℕ) (s : S) → recorded s (replicate n one_step) ≡ rounds n
recorded-steps zero s = refl
recorded-steps (suc n) s = ap (λ (l : List RunEvent). event.Step ∷ event.Tick ∷ l) (recorded-steps n (made s one_step))

recorded-ticks : (n : ℕ) (s : S) → recorded s (replicate n (Ticks 1)) ≡ replicate n event.Tick
recorded-ticks zero s = refl
recorded-ticks (suc n) s = ap (λ (l : List RunEvent). event.Tick ∷ l) (recorded-ticks n (made s (Ticks 1)))

recorded-things_of : (e : Entry) (s : S) → recorded s (things_of e) ≡ changes s e
recorded-things_of (Rounds n) s = recorded-steps n s
recorded-things_of (Login line image) s = append-nil (changes s (Login line image))
recorded-things_of (Start n) s = append-nil (changes s (Start n))
recorded-things_of (Continue n) s = append-nil (changes s (Continue n))
recorded-things_of (Kill n) s = append-nil (changes s (Kill n))
recorded-things_of (Typed line c) s = append-nil (changes s (Typed line c))
recorded-things_of (Take line) s = append-nil (changes s (Take line))
recorded-things_of (Ticks n) s = recorded-ticks n s
recorded-things_of (Deposit n a word) s = append-nil (changes s (Deposit n a word))
recorded-things_of (StartAt n a) s = append-nil (changes s (StartAt n a))
recorded-things_of (Execute n word) s = append-nil (changes s (Execute n word))

recorded-things_in : (es : List Entry) (s : S) → recorded s (things_in es) ≡ recorded s es
recorded-things_in [] s = refl
recorded-things_in (e ∷ es) s =
    recorded-append (things_of e) (things_in es) s
    ∙ ap (λ (l : List RunEvent). l ++ recorded (played (things_of e) s) (things_in es)) (recorded-things_of e s)
    ∙ ap (λ (x : S). changes s e ++ recorded x (things_in es)) (played-things_of e s)
    ∙ ap (λ (l : List RunEvent). changes s e ++ l) (recorded-things_in es (made s e))

-- the events of the past are those of the whole entries, and the steps behind them
pub recorded_past : (es : List Entry) (whole part : ℕ) (s : S)
    → recorded s (past_in es whole part) ≡ recorded s (take whole es) ++ rounds part
recorded_past es whole part s =
    recorded-append (things_in (take whole es)) (replicate part one_step) s
    ∙ ap (λ (l : List RunEvent). l ++ recorded (played (things_in (take whole es)) s) (replicate part one_step)) (recorded-things_in (take whole es) s)
    ∙ ap (λ (l : List RunEvent). recorded s (take whole es) ++ l) (recorded-steps part (played (things_in (take whole es)) s))

-- the events of the whole entries, and then those of the steps behind them, were added
pub past_added : (es front : List Entry) (whole part : ℕ) (s m : S) (old all after : List RunEvent) → m ≡ s → front ≡ take whole es
    → all ≡ old ++ recorded m front → after ≡ all ++ rounds part → after ≡ old ++ recorded s (past_in es whole part)
past_added es front whole part s m old all after boot entries added steps =
    steps
    ∙ ap (λ (l : List RunEvent). l ++ rounds part)
    (added
    ∙ ap (λ (l : List Entry). old ++ recorded m l) entries
    ∙ ap (λ (x : S). old ++ recorded x (take whole es)) boot)
    ∙ append_assoc old (recorded s (take whole es)) (rounds part)
    ∙ ap (λ (l : List RunEvent). old ++ l) (sym (recorded_past es whole part s))

-- whether they are events

steps-are : (n : ℕ) → list_all is_event (replicate n one_step) ≡ true
steps-are zero = refl
steps-are (suc n) = steps-are n

ticks-are : (n : ℕ) → list_all is_event (replicate n (Ticks 1)) ≡ true
ticks-are zero = refl
ticks-are (suc n) = ticks-are n

things_of-are : (e : Entry) → list_all is_event (things_of e) ≡ is_event e
things_of-are (Rounds n) = steps-are n
things_of-are (Login line image) = refl
things_of-are (Start n) = refl
things_of-are (Continue n) = refl
things_of-are (Kill n) = refl
things_of-are (Typed line c) = refl
things_of-are (Take line) = refl
things_of-are (Ticks n) = ticks-are n
things_of-are (Deposit n a word) = refl
things_of-are (StartAt n a) = refl
things_of-are (Execute n word) = refl

things_in-are : (es : List Entry) → list_all is_event (things_in es) ≡ list_all is_event es
things_in-are [] = refl
things_in-are (e ∷ es) =
    list_all-append is_event (things_of e) (things_in es)
    ∙ ap (λ (b : Bool). b && list_all is_event (things_in es)) (things_of-are e)
    ∙ ap (λ (b : Bool). is_event e && b) (things_in-are es)

and-true : (b : Bool) → (b && true) ≡ b
and-true true = refl
and-true false = refl

-- the past is events where the whole entries are
pub past_are_events : (es : List Entry) (whole part : ℕ) → list_all is_event (past_in es whole part) ≡ list_all is_event (take whole es)
past_are_events es whole part =
    list_all-append is_event (things_in (take whole es)) (replicate part one_step)
    ∙ ap (λ (b : Bool). list_all is_event (things_in (take whole es)) && b) (steps-are part)
    ∙ and-true (list_all is_event (things_in (take whole es)))
    ∙ things_in-are (take whole es)
