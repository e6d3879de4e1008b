-- Entries, and the single things that they are.
use Rattle.std.proofs.Common.{◌≡◌, ◌<◌, ◌≤◌, ◌∙◌, ◌+◌, ◌++◌, ◌||◌, sym, ap, ℕ, zero, suc, Bool, true, false, List, [], ◌∷◌, refl, arith}
use Rattle.std.proofs.Common.{take, drop, length, get_or, replicate, nat_lt, nat_le, append_assoc, append-nil}
use Rattle.std.proofs.lemmas.Bool.{eqb-true, le-leb, ltb-true}
use Rattle.std.proofs.lemmas.List.{replicate-append-replicate, take-append-drop}
use Rattle.machine.specs.Machine.{S, after, ticked}
use Rattle.machine.specs.Rounds.{rounds}
use Rattle.ddt_timeline.specs.Timelines.{answer_to, made, played, reached, steps_in, steps_of, ticked_so_often, ticks_in, ticks_of}
use Rattle.ddt_timeline.specs.Histories.{ahead_in, at_end, done, history_of, is_before_step, is_place, is_place_in, one_step, past_in, the_history, things_in, things_of}
use Rattle.ddt_timeline.specs.declared.entries.Entry.{Entry}
use Rattle.ddt_timeline.specs.declared.entries.Entry.TheVariants.{Rounds, Login, Start, Continue, Kill, Typed, Take, Ticks}
use Rattle.ddt_timeline.specs.declared.entries.Entry.TheVariants.{Deposit, StartAt, Execute}
use Rattle.ddt_timeline.proofs.AtOnce.{rounds-behind}
use Rattle.ddt_timeline.proofs.RunLemmas.{get-last, played-append}
use Rattle.machine.specs.declared.event.Answer.{Answer}

-- steps, one by one
pub played-steps : (n : ℕ) (s : S) → played (replicate n one_step) s ≡ after (rounds n true) s
played-steps zero s = refl
played-steps (suc n) s = played-steps n (after (rounds 1 true) s)

ticks-first : (n : ℕ) (s : S) → ticked_so_often n (ticked s).state ≡ (ticked (ticked_so_often n s)).state
ticks-first zero s = refl
ticks-first (suc n) s = ap (λ (x : S). (ticked x).state) (ticks-first n s)

played-ticks : (n : ℕ) (s : S) → played (replicate n (Ticks 1)) s ≡ ticked_so_often n s
played-ticks zero s = refl
played-ticks (suc n) s = played-ticks n (ticked s).state ∙ ticks-first n s

pub played-things_of : (e : Entry) (s : S) → played (things_of e) s ≡ made s e
played-things_of (Rounds n) s = played-steps n s
played-things_of (Login line image) s = refl
played-things_of (Start n) s = refl
played-things_of (Continue n) s = refl
played-things_of (Kill n) s = refl
played-things_of (Typed line c) s = refl
played-things_of (Take line) s = refl
played-things_of (Ticks n) s = played-ticks n s
played-things_of (Deposit n a word) s = refl
played-things_of (StartAt n a) s = refl
played-things_of (Execute n word) s = refl

pub played-things_in : (es : List Entry) (s : S) → played (things_in es) s ≡ played es s
played-things_in [] s = refl
played-things_in (e ∷ es) s =
    played-append (things_of e) (things_in es) s
    ∙ ap (λ (x : S). played (things_in es) x) (played-things_of e s)
    ∙ played-things_in es (made s e)

-- the machine where so many entries and steps have happened is what the single things of the past make of it
pub past_reached : (es : List Entry) (whole part : ℕ) (s : S) → reached es whole part s ≡ played (past_in es whole part) s
past_reached es whole part s =
    sym (played-append (things_in (take whole es)) (replicate part one_step) s
    ∙ ap (λ (x : S). played (replicate part one_step) x) (played-things_in (take whole es) s)
    ∙ played-steps part (played (take whole es) s))

-- how many steps

pub steps-append : (xs ys : List Entry) → steps_in (xs ++ ys) ≡ steps_in xs + steps_in ys
steps-append [] ys = omega arith
steps-append (x ∷ xs) ys = let more = steps-append xs ys in omega (arith, more)

pub steps-steps : (n : ℕ) → steps_in (replicate n one_step) ≡ n
steps-steps zero = refl
steps-steps (suc n) = let more = steps-steps n in omega (arith, more)

steps-ticks : (n : ℕ) → steps_in (replicate n (Ticks 1)) ≡ 0
steps-ticks zero = refl
steps-ticks (suc n) = let more = steps-ticks n in omega (arith, more)

steps-things_of : (e : Entry) → steps_in (things_of e) ≡ steps_of e
steps-things_of (Rounds n) = steps-steps n
steps-things_of (Login line image) = refl
steps-things_of (Start n) = refl
steps-things_of (Continue n) = refl
steps-things_of (Kill n) = refl
steps-things_of (Typed line c) = refl
steps-things_of (Take line) = refl
steps-things_of (Ticks n) = steps-ticks n
steps-things_of (Deposit n a word) = refl
steps-things_of (StartAt n a) = refl
steps-things_of (Execute n word) = refl

pub steps-things_in : (es : List Entry) → steps_in (things_in es) ≡ steps_in es
steps-things_in [] = refl
steps-things_in (e ∷ es) =
    let whole = steps-append (things_of e) (things_in es) in
    let first = steps-things_of e in
    let rest = steps-things_in es in
    omega (arith, whole, first, rest)

pub steps_past : (es : List Entry) (whole part : ℕ) → steps_in (past_in es whole part) ≡ steps_in (take whole es) + part
steps_past es whole part =
    let all = steps-append (things_in (take whole es)) (replicate part one_step) in
    let first = steps-things_in (take whole es) in
    let last = steps-steps part in
    omega (arith, all, first, last)

-- places

things-append : (xs ys : List Entry) → things_in (xs ++ ys) ≡ things_in xs ++ things_in ys
things-append [] ys = refl
things-append (x ∷ xs) ys =
    ap (λ (l : List Entry). things_of x ++ l) (things-append xs ys) ∙ sym (append_assoc (things_of x) (things_in xs) (things_in ys))

steps-front : (n part : ℕ) (l : List Entry) → part < n → replicate part one_step ++ drop part (replicate n one_step ++ l) ≡ replicate n one_step ++ l
steps-front n zero l less = refl
steps-front zero (suc part) l less = absurd (omega (arith, less))
steps-front (suc n) (suc part) l less =
    let inner : part < n = omega (arith, less) in
    ap (λ (k : List Entry). one_step ∷ k) (steps-front n part l inner)

steps-next : (n part : ℕ) (l : List Entry) → part < n → is_before_step (drop part (replicate n one_step ++ l)) ≡ true
steps-next zero part l less = absurd (omega (arith, less))
steps-next (suc n) zero l less = refl
steps-next (suc n) (suc part) l less = let inner : part < n = omega (arith, less) in steps-next n part l inner

-- a place in what is left of the entries: the steps before it are the first things of those, and a step is next
pub record AtPlace (es : List Entry) (part : ℕ) : Type 0 where
  pub front : replicate part one_step ++ drop part (things_in es) ≡ things_in es
  pub next : is_before_step (drop part (things_in es)) ≡ true

less-of : (a b : ℕ) → nat_lt a b ≡ true → a < b
less-of a b h = ltb-true a b h

pub at-place : (es : List Entry) (part : ℕ) → is_place es part ≡ true → AtPlace es part
at-place [] zero h = record { front = refl; next = refl }
at-place [] (suc part) h = let none : suc part ≡ 0 = eqb-true (suc part) 0 h in absurd (omega (arith, none))
at-place (Rounds n ∷ es) part h = record {
  front = steps-front n part (things_in es) (less-of part n h);
  next = steps-next n part (things_in es) (less-of part n h);
}
at-place (Login line image ∷ es) part h = absurd (omega (arith, less-of part 0 h))
at-place (Start n ∷ es) part h = absurd (omega (arith, less-of part 0 h))
at-place (Continue n ∷ es) part h = absurd (omega (arith, less-of part 0 h))
at-place (Kill n ∷ es) part h = absurd (omega (arith, less-of part 0 h))
at-place (Typed line c ∷ es) part h = absurd (omega (arith, less-of part 0 h))
at-place (Take line ∷ es) part h = absurd (omega (arith, less-of part 0 h))
at-place (Ticks n ∷ es) part h = absurd (omega (arith, less-of part 0 h))
at-place (Deposit n a word ∷ es) part h = absurd (omega (arith, less-of part 0 h))
at-place (StartAt n a ∷ es) part h = absurd (omega (arith, less-of part 0 h))
at-place (Execute n word ∷ es) part h = absurd (omega (arith, less-of part 0 h))

-- the things before a place and those behind it are all things
pub everything-at : (es : List Entry) (whole part : ℕ) → is_place (drop whole es) part ≡ true → past_in es whole part ++ ahead_in es whole part ≡ things_in es
everything-at es whole part place =
    append_assoc (things_in (take whole es)) (replicate part one_step) (ahead_in es whole part)
    ∙ ap (λ (l : List Entry). things_in (take whole es) ++ l) (at-place (drop whole es) part place).front
    ∙ sym (things-append (take whole es) (drop whole es))
    ∙ ap (λ (l : List Entry). things_in l) (take-append-drop whole es)

take-all : (xs : List Entry) (n : ℕ) → length xs ≤ n → take n xs ≡ xs
take-all [] zero h = refl
take-all [] (suc n) h = refl
take-all (x ∷ xs) zero h = absurd (omega (arith, h))
take-all (x ∷ xs) (suc n) h = let inner : length xs ≤ n = omega (arith, h) in ap (λ (l : List Entry). x ∷ l) (take-all xs n inner)

pub drop-all : (xs : List Entry) (n : ℕ) → length xs ≤ n → drop n xs ≡ []
drop-all [] zero h = refl
drop-all [] (suc n) h = refl
drop-all (x ∷ xs) zero h = absurd (omega (arith, h))
drop-all (x ∷ xs) (suc n) h = let inner : length xs ≤ n = omega (arith, h) in drop-all xs n inner

abbrev no_things : List Entry
no_things = []

drop-none : (n : ℕ) → drop n no_things ≡ no_things
drop-none zero = refl
drop-none (suc n) = refl

-- behind all entries nothing is ahead
pub none-ahead : (es : List Entry) (whole part : ℕ) → length es ≤ whole → ahead_in es whole part ≡ []
none-ahead es whole part end = ap (λ (l : List Entry). drop part (things_in l)) (drop-all es whole end) ∙ drop-none part

pub past-end : (es : List Entry) (whole part : ℕ) → length es ≤ whole → past_in es whole part ≡ things_in es ++ replicate part one_step
past-end es whole part end = ap (λ (l : List Entry). things_in l ++ replicate part one_step) (take-all es whole end)

length-more : (es : List Entry) (e : Entry) → length (es ++ e ∷ []) ≡ length es + 1
length-more [] e = refl
length-more (x ∷ es) e = let more = length-more es e in omega (arith, more)

-- an entry more: its things happened last
pub past-more : (es : List Entry) (e : Entry) (whole : ℕ) → whole ≡ length es → past_in (es ++ e ∷ []) (whole + 1) 0 ≡ things_in es ++ things_of e
past-more es e whole all =
    let size = length-more es e in
    let end : length (es ++ e ∷ []) ≤ whole + 1 = omega (arith, size, all) in
    past-end (es ++ e ∷ []) (whole + 1) 0 end
    ∙ append-nil (things_in (es ++ e ∷ []))
    ∙ things-append es (e ∷ [])
    ∙ ap (λ (l : List Entry). things_in es ++ l) (append-nil (things_of e))

-- how many ticks

ticks-append : (xs ys : List Entry) → ticks_in (xs ++ ys) ≡ ticks_in xs + ticks_in ys
ticks-append [] ys = omega arith
ticks-append (x ∷ xs) ys = let more = ticks-append xs ys in omega (arith, more)

ticks-steps : (n : ℕ) → ticks_in (replicate n one_step) ≡ n
ticks-steps zero = refl
ticks-steps (suc n) = let more = ticks-steps n in omega (arith, more)

ticks-ticks : (n : ℕ) → ticks_in (replicate n (Ticks 1)) ≡ n
ticks-ticks zero = refl
ticks-ticks (suc n) = let more = ticks-ticks n in omega (arith, more)

ticks-things_of : (e : Entry) → ticks_in (things_of e) ≡ ticks_of e
ticks-things_of (Rounds n) = ticks-steps n
ticks-things_of (Login line image) = refl
ticks-things_of (Start n) = refl
ticks-things_of (Continue n) = refl
ticks-things_of (Kill n) = refl
ticks-things_of (Typed line c) = refl
ticks-things_of (Take line) = refl
ticks-things_of (Ticks n) = ticks-ticks n
ticks-things_of (Deposit n a word) = refl
ticks-things_of (StartAt n a) = refl
ticks-things_of (Execute n word) = refl

ticks-things_in : (es : List Entry) → ticks_in (things_in es) ≡ ticks_in es
ticks-things_in [] = refl
ticks-things_in (e ∷ es) =
    let whole = ticks-append (things_of e) (things_in es) in
    let first = ticks-things_of e in
    let rest = ticks-things_in es in
    omega (arith, whole, first, rest)

pub ticks_past : (es : List Entry) (whole part : ℕ) → ticks_in (past_in es whole part) ≡ ticks_in (take whole es) + part
ticks_past es whole part =
    let all = ticks-append (things_in (take whole es)) (replicate part one_step) in
    let first = ticks-things_in (take whole es) in
    let last = ticks-steps part in
    omega (arith, all, first, last)

-- histories

same_history : (b : S) (p p' a a' : List Entry) → p ≡ p' → a ≡ a' → the_history b p a ≡ the_history b p' a'
same_history b p p' a a' past ahead =
    ap (λ (l : List Entry). the_history b l a) past ∙ ap (λ (l : List Entry). the_history b p' l) ahead

-- the steps behind all entries, made an entry
pub settled_history : (es es' : List Entry) (whole part : ℕ) (b : S) → whole ≡ length es → es' ≡ es ++ Rounds part ∷ []
    → history_of b es' (whole + 1) 0 ≡ history_of b es whole part
settled_history es es' whole part b all items =
    let size = length-more es (Rounds part) in
    let same = ap (λ (l : List Entry). length l) items in
    let end : length es ≤ whole = omega (arith, all) in
    let end' : length es' ≤ whole + 1 = omega (arith, all, size, same) in
    same_history b _ _ _ _
    (ap (λ (l : List Entry). past_in l (whole + 1) 0) items ∙ past-more es (Rounds part) whole all ∙ sym (past-end es whole part end))
    (none-ahead es' (whole + 1) 0 end' ∙ sym (none-ahead es whole part end))

-- an entry more, behind all others
pub more_history : (es es' : List Entry) (e : Entry) (whole part : ℕ) (b : S) → whole ≡ length es → part ≡ 0 → es' ≡ es ++ e ∷ []
    → history_of b es' (whole + 1) part ≡ done (history_of b es whole part) (things_of e)
more_history es es' e whole part b all none items =
    let size = length-more es e in
    let same = ap (λ (l : List Entry). length l) items in
    let end : length es ≤ whole = omega (arith, all) in
    let end' : length es' ≤ whole + 1 = omega (arith, all, size, same) in
    ap (λ (n : ℕ). history_of b es' (whole + 1) n) none
    ∙ same_history b _ _ _ _
    (ap (λ (l : List Entry). past_in l (whole + 1) 0) items
    ∙ past-more es e whole all
    ∙ ap (λ (l : List Entry). l ++ things_of e) (sym (append-nil (things_in es)) ∙ sym (past-end es whole 0 end)))
    (none-ahead es' (whole + 1) 0 end')
    ∙ ap (λ (n : ℕ). done (history_of b es whole n) (things_of e)) (sym none)

-- more steps behind all entries
pub run_history : (es : List Entry) (whole part more n : ℕ) (b : S) → whole ≡ length es → n ≡ part + more
    → history_of b es whole n ≡ done (history_of b es whole part) (replicate more one_step)
run_history es whole part more n b all sum =
    let end : length es ≤ whole = omega (arith, all) in
    same_history b _ _ _ _
    (past-end es whole n end
    ∙ ap (λ (k : ℕ). things_in es ++ replicate k one_step) sum
    ∙ ap (λ (l : List Entry). things_in es ++ l) (sym (replicate-append-replicate part more one_step))
    ∙ sym (append_assoc (things_in es) (replicate part one_step) (replicate more one_step))
    ∙ ap (λ (l : List Entry). l ++ replicate more one_step) (sym (past-end es whole part end)))
    (none-ahead es whole n end)

pub run_reached : (es : List Entry) (whole part more n : ℕ) (m m' s : S) → n ≡ part + more → m ≡ reached es whole part s
    → m' ≡ after (rounds more true) m → m' ≡ reached es whole n s
run_reached es whole part more n m m' s sum there made_so =
    made_so
    ∙ ap (λ (x : S). after (rounds more true) x) there
    ∙ sym (rounds-behind part more (played (take whole es) s))
    ∙ ap (λ (k : ℕ). reached es whole k s) (sym sum)

-- behind all entries all has happened
pub end_history : (es : List Entry) (whole part n : ℕ) (b : S) → is_place (drop whole es) part ≡ true → n ≡ length es
    → history_of b es n 0 ≡ at_end (history_of b es whole part)
end_history es whole part n b place all =
    let end : length es ≤ n = omega (arith, all) in
    same_history b _ _ _ _ (past-end es n 0 end ∙ append-nil (things_in es) ∙ sym (everything-at es whole part place)) (none-ahead es n 0 end)

-- how many steps there are in all
pub steps_everywhere : (es : List Entry) (whole part : ℕ) → is_place (drop whole es) part ≡ true
    → steps_in (past_in es whole part ++ ahead_in es whole part) ≡ steps_in es
steps_everywhere es whole part place = ap (λ (l : List Entry). steps_in l) (everything-at es whole part place) ∙ steps-things_in es

-- the answer to the last entry
pub answer_more : (es es' : List Entry) (e r : Entry) (whole : ℕ) (m m' : S) (a : Answer) → whole ≡ length es → es' ≡ es ++ e ∷ []
    → r ≡ get_or es' whole r → m ≡ m' → a ≡ answer_to m r → a ≡ answer_to m' e
answer_more es es' e r whole m m' a all items is there answer =
    let last : r ≡ e = get-last es e r (is ∙ ap (λ (l : List Entry). get_or l whole r) items ∙ ap (λ (n : ℕ). get_or (es ++ e ∷ []) n r) all) in
    answer ∙ ap (λ (x : Entry). answer_to m x) last ∙ ap (λ (x : S). answer_to x e) there

-- places

or-right : (a b : Bool) → b ≡ true → (a || b) ≡ true
or-right true b h = refl
or-right false b h = h

pub placed_at : (es : List Entry) (whole part : ℕ) → is_place (drop whole es) part ≡ true → is_place_in es whole part ≡ true
placed_at es whole part place = or-right (nat_le (length es) whole) (is_place (drop whole es) part) place

pub placed_end : (es : List Entry) (whole part : ℕ) → length es ≤ whole → is_place_in es whole part ≡ true
placed_end es whole part end = ap (λ (b : Bool). b || is_place (drop whole es) part) (le-leb (length es) whole end)
