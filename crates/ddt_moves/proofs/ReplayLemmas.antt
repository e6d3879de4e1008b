-- Replays of what has happened, and what is found in them.
use Rattle.std.proofs.Common.{◌≡◌, ◌≤◌, ◌<◌, ◌∙◌, ◌+◌, ◌-◌, ◌^◌, ◌++◌, ◌⊎◌, inl, inr, sym, ap, subst, ℕ, zero, suc, Bool, true, false, cond, refl, arith}
use Rattle.std.proofs.Common.{List, [], ◌∷◌, Option, Some, None, length, replicate, nat_lt, append_assoc, append-nil}
use Rattle.std.specs.Prelude.{◌&&◌, min, IfSome}
use Rattle.ddt_timeline.specs.Stops.{round}
use Rattle.std.proofs.lemmas.Bool.{false≢true, lt-ltb}
use Rattle.machine.specs.Machine.{S, ticked}
use Rattle.ddt_timeline.specs.declared.entries.Entry.{Entry}
use Rattle.ddt_timeline.specs.declared.entries.Entry.TheVariants.{Rounds, Login, Start, Continue, Kill, Typed, Take, Ticks}
use Rattle.ddt_timeline.specs.declared.entries.Entry.TheVariants.{Deposit, StartAt, Execute}
use Rattle.ddt_timeline.specs.Histories.{one_step, things_of}
use Rattle.ddt_timeline.specs.Timelines.{made, played, steps_in, steps_of, ticked_so_often}
use Rattle.ddt_moves.specs.Replays.{HeldBefore, IsLastHeld, before_step, counted, from_step, is_at_step, newer}

-- what is next

ticks-first : (n : ℕ) (s : S) → ticked_so_often n (ticked s).state ≡ (ticked (ticked_so_often n s)).state
ticks-first zero s = refl
ticks-first (suc n) s = ap (λ (x : S). (ticked x).state) (ticks-first n s)

ticks-from : (n : ℕ) (l : List Entry) → from_step (replicate n (Ticks 1) ++ l) ≡ from_step l
ticks-from zero l = refl
ticks-from (suc n) l = ticks-from n l

ticks-before : (n : ℕ) (l : List Entry) (s : S) → before_step (replicate n (Ticks 1) ++ l) s ≡ before_step l (ticked_so_often n s)
ticks-before zero l s = refl
ticks-before (suc n) l s = ticks-before n l (ticked s).state ∙ ap (λ (x : S). before_step l x) (ticks-first n s)

-- an entry that is no steps
pub no_steps : (e : Entry) → ((n : ℕ) → e ≡ Rounds n → ⊥) → steps_of e ≡ 0
no_steps (Rounds n) other = absurd (other n refl)
no_steps (Login line image) other = refl
no_steps (Start n) other = refl
no_steps (Continue n) other = refl
no_steps (Kill n) other = refl
no_steps (Typed line c) other = refl
no_steps (Take line) other = refl
no_steps (Ticks n) other = refl
no_steps (Deposit n a word) other = refl
no_steps (StartAt n a) other = refl
no_steps (Execute n word) other = refl

-- an entry that is no step happens before the next step
pub from-event : (e : Entry) (l : List Entry) → steps_of e ≡ 0 → from_step (things_of e ++ l) ≡ from_step l
from-event (Rounds n) l none = ap (λ (k : ℕ). from_step (replicate k one_step ++ l)) none
from-event (Login line image) l none = refl
from-event (Start n) l none = refl
from-event (Continue n) l none = refl
from-event (Kill n) l none = refl
from-event (Typed line c) l none = refl
from-event (Take line) l none = refl
from-event (Ticks n) l none = ticks-from n l
from-event (Deposit n a word) l none = refl
from-event (StartAt n a) l none = refl
from-event (Execute n word) l none = refl

pub before-event : (e : Entry) (l : List Entry) (s : S) → steps_of e ≡ 0 → before_step (things_of e ++ l) s ≡ before_step l (made s e)
before-event (Rounds n) l s none =
    ap (λ (k : ℕ). before_step (replicate k one_step ++ l) s) none ∙ sym (ap (λ (k : ℕ). before_step l (made s (Rounds k))) none)
before-event (Login line image) l s none = refl
before-event (Start n) l s none = refl
before-event (Continue n) l s none = refl
before-event (Kill n) l s none = refl
before-event (Typed line c) l s none = refl
before-event (Take line) l s none = refl
before-event (Ticks n) l s none = ticks-before n l s
before-event (Deposit n a word) l s none = refl
before-event (StartAt n a) l s none = refl
before-event (Execute n word) l s none = refl

-- the search, from the things that are to come on

-- so many steps more, in 64 bits
abbrev pub more : ℕ → ℕ → ℕ
more zero n = n
more (suc k) n = min (2 ^ 64 - 1) (n + suc k)

-- the last step of some things before which something held, where so many were made before them
abbrev pub found : (S → Bool) → List Entry → ℕ → S → Option ℕ → Option ℕ
found p [] n s last = last
found p (e ∷ es) n s last = found p es (more (steps_of e) n) (made s e) (newer (nat_lt 0 (steps_of e) && p s) n last)

-- nothing is found before the next step
pub found-before : (p : S → Bool) (es : List Entry) (n : ℕ) (s : S) (last : Option ℕ)
    → found p es n s last ≡ found p (from_step es) n (before_step es s) last
found-before p [] n s last = refl
found-before p (e ∷ es) n s last = by_steps (steps_of e) refl (found-before p es n (made s e) last)
  where
    by_steps : (k : ℕ) → steps_of e ≡ k → found p es n (made s e) last ≡ found p (from_step es) n (before_step es (made s e)) last
        → found p es (more k n) (made s e) (newer (nat_lt 0 k && p s) n last)
        ≡ found p (cond (nat_lt 0 k) (e ∷ es) (from_step es)) n (cond (nat_lt 0 k) s (before_step es (made s e))) last
    by_steps zero is rest = rest
    by_steps (suc k) is rest =
        let some : nat_lt 0 (suc k) ≡ true = lt-ltb 0 (suc k) (omega arith) in
        ap (λ (j : ℕ). found p es (more j n) (made s e) (newer (nat_lt 0 j && p s) n last)) (sym is)
        ∙ sym (ap (λ (b : Bool). found p (cond b (e ∷ es) (from_step es)) n (cond b s (before_step es (made s e))) last) some)

-- a step is made of those that are to come
pub found-step : (p : S → Bool) (es later : List Entry) (n n' : ℕ) (s s' t : S) (last last' all : Option ℕ) → found p es n s last ≡ all
    → one_step ∷ later ≡ from_step es
    → s' ≡ before_step es s
    → t ≡ round s'
    → n' ≡ min (2 ^ 64 - 1) (n + 1)
    → last' ≡ newer (p s') n last
    → found p later n' t last' ≡ all
found-step p es later n n' s s' t last last' all so_far next there made_so steps_so last_so =
    ap (λ (o : Option ℕ). found p later n' t o) last_so
    ∙ ap (λ (k : ℕ). found p later k t (newer (p s') n last)) steps_so
    ∙ ap (λ (x : S). found p later (min (2 ^ 64 - 1) (n + 1)) x (newer (p s') n last)) made_so
    ∙ ap (λ (l : List Entry). found p l n s' last) next
    ∙ ap (λ (x : S). found p (from_step es) n x last) there
    ∙ sym (found-before p es n s last)
    ∙ so_far

pub newer-same : (b b' : Bool) (n n' : ℕ) (last : Option ℕ) → b ≡ b' → n ≡ n' → newer b n last ≡ newer b' n' last
newer-same b b' n n' last holds steps = ap (λ (x : Bool). newer x n last) holds ∙ ap (λ (k : ℕ). newer b' k last) steps

-- none is left
pub found-end : (p : S → Bool) (es rest : List Entry) (n : ℕ) (s : S) (last all : Option ℕ) → found p es n s last ≡ all → rest ≡ from_step es → rest ≡ []
    → last ≡ all
found-end p es rest n s last all so_far next none =
    ap (λ (l : List Entry). found p l n (before_step es s) last) (sym none ∙ next) ∙ sym (found-before p es n s last) ∙ so_far

length-from : (es : List Entry) → length (from_step es) ≤ length es
length-from [] = omega arith
length-from (e ∷ es) = by_step (nat_lt 0 (steps_of e)) (length-from es)
  where
    by_step : (step : Bool) → length (from_step es) ≤ length es → length (cond step (e ∷ es) (from_step es)) ≤ length (e ∷ es)
    by_step true rest = omega arith
    by_step false rest = omega (arith, rest)

pub fewer-left : (later es : List Entry) → one_step ∷ later ≡ from_step es → length later < length es
fewer-left later es next =
    let all = length-from es in
    let same = ap (λ (l : List Entry). length l) next in
    omega (arith, all, same)

-- what is found is the last

steps-append : (xs ys : List Entry) → steps_in (xs ++ ys) ≡ steps_in xs + steps_in ys
steps-append [] ys = omega arith
steps-append (x ∷ xs) ys = let rest = steps-append xs ys in omega (arith, rest)

played-append : (xs ys : List Entry) (s : S) → played (xs ++ ys) s ≡ played ys (played xs s)
played-append [] ys s = refl
played-append (x ∷ xs) ys s = played-append xs ys (made s x)

more-counted : (k n all : ℕ) → all ≡ n + k → min (2 ^ 64 - 1) all ≡ more k (min (2 ^ 64 - 1) n)
more-counted zero n all is = let same : all ≡ n = omega (arith, is) in ap (min (2 ^ 64 - 1)) same
more-counted (suc k) n all is = omega (arith, is)

counted-more : (xs : List Entry) (e : Entry) → counted (xs ++ e ∷ []) ≡ more (steps_of e) (counted xs)
counted-more xs e =
    let all = steps-append xs (e ∷ []) in
    more-counted (steps_of e) (steps_in xs) (steps_in (xs ++ e ∷ [])) (omega (arith, all))

counted-least : (xs ys zs : List Entry) → xs ++ ys ≡ zs → counted xs ≤ counted zs
counted-least xs ys zs parts =
    let all = steps-append xs ys in
    let same = ap (λ (l : List Entry). steps_in l) parts in
    omega (arith, all, same)

none-in-none : (xs ys : List Entry) → xs ++ ys ≡ [] → is_at_step ys ≡ true → ⊥
none-in-none [] [] parts step = false≢true step
none-in-none [] (y ∷ ys) parts step = let size = ap (λ (l : List Entry). length l) parts in omega (arith, size)
none-in-none (x ∷ xs) ys parts step = let size = ap (λ (l : List Entry). length l) parts in omega (arith, size)

-- the second part of a list with one thing more at its end is that thing, or begins before it
record IsEarlier (xs ys zs : List Entry) : Type 0 where
  pub rest : List Entry
  pub parts : xs ++ rest ≡ zs
  pub step : is_at_step rest ≡ true

grown : (x : Entry) (xs ys zs : List Entry) → IsEarlier xs ys zs → IsEarlier (x ∷ xs) ys (x ∷ zs)
grown x xs ys zs h = record { rest = h.rest; parts = ap (λ (l : List Entry). x ∷ l) h.parts; step = h.step }

split : (xs ys zs : List Entry) (e : Entry) → xs ++ ys ≡ zs ++ e ∷ [] → is_at_step ys ≡ true
    → ((xs ≡ zs) × (ys ≡ e ∷ [])) ⊎ IsEarlier xs ys zs
split [] ys [] e parts step = inl (refl, parts)
split [] ys (z ∷ zs) e parts step =
    inr (record { rest = z ∷ zs; parts = refl; step = ap (λ (l : List Entry). is_at_step l) (sym parts) ∙ step })
split (x ∷ xs) ys [] e parts step = let rest : xs ++ ys ≡ [] = cc in absurd (none-in-none xs ys rest step)
split (x ∷ xs) ys (z ∷ zs) e parts step =
    let both : x ∷ (xs ++ ys) ≡ z ∷ (zs ++ e ∷ []) = parts in
    let first : x ≡ z = cc in
    let rest : xs ++ ys ≡ zs ++ e ∷ [] = cc in
    by_rest first (split xs ys zs e rest step)
  where
    by_rest : x ≡ z → ((xs ≡ zs) × (ys ≡ e ∷ [])) ⊎ IsEarlier xs ys zs
        → ((x ∷ xs ≡ z ∷ zs) × (ys ≡ e ∷ [])) ⊎ IsEarlier (x ∷ xs) ys (z ∷ zs)
    by_rest first (inl same) = inl (cc, same.1)
    by_rest first (inr earlier) = inr (subst (λ (y : Entry). IsEarlier (x ∷ xs) ys (y ∷ zs)) first (grown x xs ys zs earlier))

at-more : (xs ys : List Entry) → is_at_step xs ≡ true → is_at_step (xs ++ ys) ≡ true
at-more [] ys step = absurd (false≢true step)
at-more (x ∷ xs) ys step = step

held-more : (p : S → Bool) (boot : S) (xs : List Entry) (e : Entry) (o : Option ℕ) → IfSome o (λ n. HeldBefore p boot xs n)
    → IfSome o (λ n. HeldBefore p boot (xs ++ e ∷ []) n)
held-more p boot xs e None h = tt
held-more p boot xs e (Some n) h = record {
  before = h.before;
  later = h.later ++ e ∷ [];
  parts = sym (append_assoc h.before h.later (e ∷ [])) ∙ ap (λ (l : List Entry). l ++ e ∷ []) h.parts;
  step = at-more h.later (e ∷ []) h.step;
  steps = h.steps;
  held = h.held;
}

-- one thing more, before which it did not hold
kept-last : (p : S → Bool) (boot : S) (xs : List Entry) (e : Entry) (last : Option ℕ) → (nat_lt 0 (steps_of e) ≡ true → p (played xs boot) ≡ true → ⊥)
    → IsLastHeld p boot xs last
    → IsLastHeld p boot (xs ++ e ∷ []) last
kept-last p boot xs e last none h = record {
  held = held-more p boot xs e last h.held;
  none_later = λ n held. earlier n held (split held.before held.later xs e held.parts held.step);
}
  where
    earlier : (n : ℕ) (held : HeldBefore p boot (xs ++ e ∷ []) n)
        → ((held.before ≡ xs) × (held.later ≡ e ∷ [])) ⊎ IsEarlier held.before held.later xs
        → (m : ℕ) × (last ≡ Some m) × (n ≤ m)
    earlier n held (inl same) =
        absurd (none (sym (ap (λ (l : List Entry). is_at_step l) same.1) ∙ held.step)
        (sym (ap (λ (l : List Entry). p (played l boot)) same.0) ∙ held.held))
    earlier n held (inr x) =
        h.none_later n
        (record { before = held.before; later = x.rest; parts = x.parts; step = x.step; steps = held.steps; held = held.held })

-- and one before which it did
new-last : (p : S → Bool) (boot : S) (xs : List Entry) (e : Entry) → nat_lt 0 (steps_of e) ≡ true → p (played xs boot) ≡ true
    → IsLastHeld p boot (xs ++ e ∷ []) (Some (counted xs))
new-last p boot xs e is holds = record {
  held = record { before = xs; later = e ∷ []; parts = refl; step = is; steps = refl; held = holds };
  none_later = λ n held. (counted xs, refl, least n held (split held.before held.later xs e held.parts held.step));
}
  where
    least : (n : ℕ) (held : HeldBefore p boot (xs ++ e ∷ []) n)
        → ((held.before ≡ xs) × (held.later ≡ e ∷ [])) ⊎ IsEarlier held.before held.later xs → n ≤ counted xs
    least n held (inl same) =
        let steps = held.steps in
        let all = ap (λ (l : List Entry). counted l) same.0 in
        omega (arith, steps, all)
    least n held (inr x) =
        let steps = held.steps in
        let fewer = counted-least held.before x.rest xs x.parts in
        omega (arith, steps, fewer)

last-more : (p : S → Bool) (boot : S) (xs : List Entry) (e : Entry) (last : Option ℕ) (step holds : Bool) → nat_lt 0 (steps_of e) ≡ step
    → p (played xs boot) ≡ holds
    → IsLastHeld p boot xs last
    → IsLastHeld p boot (xs ++ e ∷ []) (newer (step && holds) (counted xs) last)
last-more p boot xs e last true true is hs h = new-last p boot xs e is hs
last-more p boot xs e last true false is hs h = kept-last p boot xs e last (λ step held. false≢true (sym hs ∙ held)) h
last-more p boot xs e last false holds is hs h = kept-last p boot xs e last (λ step held. false≢true (sym is ∙ step)) h

found-last : (p : S → Bool) (boot : S) (things xs : List Entry) (last : Option ℕ) → IsLastHeld p boot xs last
    → IsLastHeld p boot (xs ++ things) (found p things (counted xs) (played xs boot) last)
found-last p boot [] xs last h = subst (λ (l : List Entry). IsLastHeld p boot l last) (sym (append-nil xs)) h
found-last p boot (e ∷ es) xs last h =
    let next : Option ℕ = newer (nat_lt 0 (steps_of e) && p (played xs boot)) (counted xs) last in
    let one = last-more p boot xs e last (nat_lt 0 (steps_of e)) (p (played xs boot)) refl refl h in
    subst (λ (n : ℕ). IsLastHeld p boot (xs ++ e ∷ es) (found p es n (made (played xs boot) e) next)) (counted-more xs e)
    (subst (λ (s : S). IsLastHeld p boot (xs ++ e ∷ es) (found p es (counted (xs ++ e ∷ [])) s next)) (played-append xs (e ∷ []) boot)
    (subst (λ (l : List Entry). IsLastHeld p boot l (found p es (counted (xs ++ e ∷ [])) (played (xs ++ e ∷ []) boot) next))
    (append_assoc xs (e ∷ []) es) (found-last p boot es (xs ++ e ∷ []) next one)))

none-held : (p : S → Bool) (boot : S) → IsLastHeld p boot [] None
none-held p boot = record {
  held = tt;
  none_later = λ n held. absurd (none-in-none held.before held.later held.parts held.step);
}

-- what a search from boot on has found where nothing is to come any more
pub last_found : (p : S → Bool) (boot : S) (past : List Entry) (last : Option ℕ) → last ≡ found p past 0 boot None → IsLastHeld p boot past last
last_found p boot past last is =
    let none : counted [] ≡ 0 = omega arith in
    subst (λ (o : Option ℕ). IsLastHeld p boot past o) (sym is)
    (subst (λ (n : ℕ). IsLastHeld p boot past (found p past n boot None)) none (found-last p boot past [] None (none-held p boot)))
