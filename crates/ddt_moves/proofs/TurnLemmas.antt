-- Skipped steps and turns of jobs, in replays of what has happened.
use Rattle.std.specs.List.{filter}
use Rattle.std.specs.Prelude.{min, nat_le, slice_get, slice_index_or}
use Rattle.std.proofs.Common.{◌≡◌, ◌≤◌, ◌<◌, ◌∙◌, ◌+◌, ◌-◌, ◌^◌, ◌++◌, sym, ap, ℕ, zero, suc, Bool, true, false, cond, refl, arith}
use Rattle.std.proofs.Common.{List, [], ◌∷◌, Option, Some, None, length, replicate, drop, nat_lt, append_assoc, append-nil, length-append, length-drop}
use Rattle.std.proofs.Math.Seq.{drop-drop}
use Rattle.std.proofs.lemmas.Bool.{leb-true, lt-ltb}
use Rattle.word36.specs.declared.sizes.TheConstants.{JOBS}
use Rattle.std.proofs.lemmas.List.{drop-append-le}
use Rattle.machine.specs.Between.{next_in, pc_in}
use Rattle.machine.specs.Machine.{S, after}
use Rattle.machine.specs.Rounds.{rounds}
use Rattle.ddt_timeline.specs.declared.entries.Entry.{Entry}
use Rattle.ddt_timeline.specs.Histories.{one_step}
use Rattle.ddt_timeline.specs.Stops.{round}
use Rattle.ddt_timeline.specs.Timelines.{made, steps_in, steps_of}
use Rattle.ddt_moves.specs.Replays.{after_steps, before_step, behind_steps, from_step}
use Rattle.ddt_moves.specs.Turns.{is_turn, job_there, last_of, last_state, paired, pc_at, states_before}
use Rattle.ddt_moves.specs.Turns.{turn_among, turn_from, turns_from}

-- ---- steps that are skipped

-- what happens before the next step changes nothing behind it
pub behind-from : (n : ℕ) (es : List Entry) → behind_steps (suc n) (from_step es) ≡ behind_steps (suc n) es
behind-from n [] = refl
behind-from n (e ∷ es) = by_step (nat_lt 0 (steps_of e)) refl (behind-from n es)
  where
    by_step : (step : Bool) → nat_lt 0 (steps_of e) ≡ step → behind_steps (suc n) (from_step es) ≡ behind_steps (suc n) es
        → behind_steps (suc n) (cond step (e ∷ es) (from_step es)) ≡ behind_steps (cond step n (suc n)) es
    by_step true is rest = ap (λ (b : Bool). behind_steps (cond b n (suc n)) es) is
    by_step false is rest = rest

pub after-from : (n : ℕ) (es : List Entry) (s : S) → after_steps (suc n) (from_step es) (before_step es s) ≡ after_steps (suc n) es s
after-from n [] s = refl
after-from n (e ∷ es) s = by_step (nat_lt 0 (steps_of e)) refl (after-from n es (made s e))
  where
    by_step : (step : Bool) → nat_lt 0 (steps_of e) ≡ step
        → after_steps (suc n) (from_step es) (before_step es (made s e)) ≡ after_steps (suc n) es (made s e)
        → after_steps (suc n) (cond step (e ∷ es) (from_step es)) (cond step s (before_step es (made s e)))
        ≡ after_steps (cond step n (suc n)) es (made s e)
    by_step true is rest = ap (λ (b : Bool). after_steps (cond b n (suc n)) es (made s e)) is
    by_step false is rest = rest

pub steps-from : (es : List Entry) → steps_in (from_step es) ≡ steps_in es
steps-from [] = refl
steps-from (e ∷ es) = by_steps (steps_of e) refl (steps-from es)
  where
    by_steps : (k : ℕ) → steps_of e ≡ k → steps_in (from_step es) ≡ steps_in es
        → steps_in (cond (nat_lt 0 k) (e ∷ es) (from_step es)) ≡ k + steps_in es
    by_steps zero is rest = omega (arith, rest)
    by_steps (suc k) is rest =
        let some : nat_lt 0 (suc k) ≡ true = lt-ltb 0 (suc k) (omega arith) in
        ap (λ (b : Bool). steps_in (cond b (e ∷ es) (from_step es))) some ∙ ap (λ (j : ℕ). j + steps_in es) is

-- so many of the steps that are next
pub behind-some : (count left n rest m : ℕ) (l : List Entry) → left ≡ count + rest → n ≡ count + m
    → behind_steps n (replicate left one_step ++ l) ≡ behind_steps m (replicate rest one_step ++ l)
behind-some zero left n rest m l lefts steps =
    let same : left ≡ rest = omega (arith, lefts) in
    let all : n ≡ m = omega (arith, steps) in
    ap (λ (i : ℕ). behind_steps n (replicate i one_step ++ l)) same ∙ ap (λ (i : ℕ). behind_steps i (replicate rest one_step ++ l)) all
behind-some (suc count) zero n rest m l lefts steps = absurd (omega (arith, lefts))
behind-some (suc count) (suc left) zero rest m l lefts steps = absurd (omega (arith, steps))
behind-some (suc count) (suc left) (suc n) rest m l lefts steps =
    behind-some count left n rest m l (omega (arith, lefts)) (omega (arith, steps))

pub after-some : (count left n rest m : ℕ) (l : List Entry) (s : S) → left ≡ count + rest → n ≡ count + m
    → after_steps n (replicate left one_step ++ l) s ≡ after_steps m (replicate rest one_step ++ l) (after (rounds count true) s)
after-some zero left n rest m l s lefts steps =
    let same : left ≡ rest = omega (arith, lefts) in
    let all : n ≡ m = omega (arith, steps) in
    ap (λ (i : ℕ). after_steps n (replicate i one_step ++ l) s) same ∙ ap (λ (i : ℕ). after_steps i (replicate rest one_step ++ l) s) all
after-some (suc count) zero n rest m l s lefts steps = absurd (omega (arith, lefts))
after-some (suc count) (suc left) zero rest m l s lefts steps = absurd (omega (arith, steps))
after-some (suc count) (suc left) (suc n) rest m l s lefts steps =
    after-some count left n rest m l (round s) (omega (arith, lefts)) (omega (arith, steps))

pub steps-some : (left : ℕ) (l : List Entry) → steps_in (replicate left one_step ++ l) ≡ left + steps_in l
steps-some zero l = omega arith
steps-some (suc left) l = let rest = steps-some left l in omega (arith, rest)

-- where steps are missing, all others are made
pub behind-none : (m : ℕ) (es rest : List Entry) → 0 < m → rest ≡ from_step es → rest ≡ [] → rest ≡ behind_steps m es
behind-none zero es rest some next none = absurd (omega (arith, some))
behind-none (suc n) es rest some next none =
    none ∙ ap (λ (l : List Entry). behind_steps (suc n) l) (sym none ∙ next) ∙ behind-from n es

pub after-none : (m : ℕ) (es rest : List Entry) (s s' : S) → 0 < m → rest ≡ from_step es → rest ≡ [] → s' ≡ before_step es s
    → s' ≡ after_steps m es s
after-none zero es rest s s' some next none there = absurd (omega (arith, some))
after-none (suc n) es rest s s' some next none there =
    there ∙ ap (λ (l : List Entry). after_steps (suc n) l (before_step es s)) (sym none ∙ next) ∙ after-from n es s

pub made-none : (m n n' all : ℕ) (es rest : List Entry) → n' ≡ n → rest ≡ from_step es → rest ≡ [] → n + min m (steps_in es) ≡ all → n' ≡ all
made-none m n n' all es rest same next none is =
    let left : steps_in es ≡ 0 = sym (steps-from es) ∙ ap (λ (l : List Entry). steps_in l) (sym next ∙ none) in
    omega (arith, same, left, is)

-- some steps of those that are next are skipped
behind-first : (n : ℕ) (es rest : List Entry) → 0 < n → rest ≡ from_step es → behind_steps n rest ≡ behind_steps n es
behind-first zero es rest some next = absurd (omega (arith, some))
behind-first (suc n) es rest some next = ap (λ (l : List Entry). behind_steps (suc n) l) next ∙ behind-from n es

after-first : (n : ℕ) (es rest : List Entry) (s s' : S) → 0 < n → rest ≡ from_step es → s' ≡ before_step es s
    → after_steps n rest s' ≡ after_steps n es s
after-first zero es rest s s' some next there = absurd (omega (arith, some))
after-first (suc n) es rest s s' some next there =
    ap (λ (l : List Entry). after_steps (suc n) l s') next
    ∙ ap (λ (x : S). after_steps (suc n) (from_step es) x) there
    ∙ after-from n es s

pub behind-more : (count left rest m n n' : ℕ) (es l : List Entry) → left ≡ count + rest → n ≡ count + m → n ≡ n' → 0 < n'
    → replicate left one_step ++ l ≡ from_step es
    → behind_steps m (replicate rest one_step ++ l) ≡ behind_steps n' es
behind-more count left rest m n n' es l lefts steps same some next =
    sym (behind-some count left n rest m l lefts steps)
    ∙ ap (λ (k : ℕ). behind_steps k (replicate left one_step ++ l)) same
    ∙ behind-first n' es (replicate left one_step ++ l) some next

pub after-more : (count left rest m n n' : ℕ) (es l : List Entry) (s s' t : S) → left ≡ count + rest → n ≡ count + m → n ≡ n' → 0 < n'
    → replicate left one_step ++ l ≡ from_step es
    → s' ≡ before_step es s
    → t ≡ after (rounds count true) s'
    → after_steps m (replicate rest one_step ++ l) t ≡ after_steps n' es s
after-more count left rest m n n' es l s s' t lefts steps same some next there made_so =
    ap (λ (x : S). after_steps m (replicate rest one_step ++ l) x) made_so
    ∙ sym (after-some count left n rest m l s' lefts steps)
    ∙ ap (λ (k : ℕ). after_steps k (replicate left one_step ++ l) s') same
    ∙ after-first n' es (replicate left one_step ++ l) s s' some next there

pub made-more : (count more left rest m n n' before before' all : ℕ) (es l : List Entry) → more ≡ count → left ≡ count + rest → n ≡ count + m
    → n ≡ n'
    → before' ≡ before
    → replicate left one_step ++ l ≡ from_step es
    → before + min n' (steps_in es) ≡ all
    → (before' + more) + min m (steps_in (replicate rest one_step ++ l)) ≡ all
made-more count more left rest m n n' before before' all es l mores lefts steps same stays next is =
    let first : steps_in es ≡ left + steps_in l =
    sym (steps-from es) ∙ ap (λ (k : List Entry). steps_in k) (sym next) ∙ steps-some left l in
    let later = steps-some rest l in
    omega (arith, mores, lefts, steps, same, stays, is, first, later)

-- ---- the states before steps

pub states-before_step : (es : List Entry) (s : S) → states_before (from_step es) (before_step es s) ≡ states_before es s
states-before_step [] s = refl
states-before_step (e ∷ es) s = by_step (nat_lt 0 (steps_of e)) refl (states-before_step es (made s e))
  where
    by_step : (step : Bool) → nat_lt 0 (steps_of e) ≡ step
        → states_before (from_step es) (before_step es (made s e)) ≡ states_before es (made s e)
        → states_before (cond step (e ∷ es) (from_step es)) (cond step s (before_step es (made s e)))
        ≡ cond step (s ∷ states_before es (made s e)) (states_before es (made s e))
    by_step true is rest = ap (λ (b : Bool). cond b (s ∷ states_before es (made s e)) (states_before es (made s e))) is
    by_step false is rest = rest

-- a step is made of those that are to come
pub states-next : (es later : List Entry) (s s' t : S) → one_step ∷ later ≡ from_step es → s' ≡ before_step es s → t ≡ round s'
    → states_before es s ≡ s' ∷ states_before later t
states-next es later s s' t next there made_so =
    sym (states-before_step es s)
    ∙ ap (λ (l : List Entry). states_before l (before_step es s)) (sym next)
    ∙ ap (λ (x : S). states_before (one_step ∷ later) x) (sym there)
    ∙ ap (λ (x : S). s' ∷ states_before later x) (sym made_so)

-- none is left
pub states-none : (es rest : List Entry) (s : S) → rest ≡ from_step es → rest ≡ [] → states_before es s ≡ []
states-none es rest s next none =
    sym (states-before_step es s) ∙ ap (λ (l : List Entry). states_before l (before_step es s)) (sym next ∙ none)

-- behind some that are skipped
pub states-behind : (n : ℕ) (es : List Entry) (s : S) → states_before (behind_steps n es) (after_steps n es s) ≡ drop n (states_before es s)
states-behind zero es s = refl
states-behind (suc n) [] s = refl
states-behind (suc n) (e ∷ es) s =
    by_step (nat_lt 0 (steps_of e)) (states-behind n es (made s e)) (states-behind (suc n) es (made s e))
  where
    by_step : (step : Bool)
        → states_before (behind_steps n es) (after_steps n es (made s e)) ≡ drop n (states_before es (made s e))
        → states_before (behind_steps (suc n) es) (after_steps (suc n) es (made s e)) ≡ drop (suc n) (states_before es (made s e))
        → states_before (behind_steps (cond step n (suc n)) es) (after_steps (cond step n (suc n)) es (made s e))
        ≡ drop (suc n) (cond step (s ∷ states_before es (made s e)) (states_before es (made s e)))
    by_step true fewer all = fewer
    by_step false fewer all = all

get-drop : (n : ℕ) (ss : List S) → slice_get (drop n ss) 0 ≡ slice_get ss n
get-drop zero [] = refl
get-drop zero (s ∷ ss) = refl
get-drop (suc n) [] = refl
get-drop (suc n) (s ∷ ss) = get-drop n ss

-- the state before the next step, where so many were skipped
pub state-behind : (n : ℕ) (es : List Entry) (s : S)
    → slice_get (states_before (behind_steps n es) (after_steps n es s)) 0 ≡ slice_get (states_before es s) n
state-behind n es s = ap (λ (ss : List S). slice_get ss 0) (states-behind n es s) ∙ get-drop n (states_before es s)

-- the turn in the next step, where so many were skipped of all
pub turn-behind : (steps n : ℕ) (es later past : List Entry) (s t boot : S) → n ≡ 0 → es ≡ past → s ≡ boot
    → later ≡ behind_steps (steps - n) es
    → t ≡ after_steps (steps - n) es s
    → turn_from (slice_get (states_before later t) 0) ≡ turn_from (slice_get (states_before past boot) steps)
turn-behind steps n es later past s t boot none things there later_so t_so =
    let all : steps - n ≡ steps = omega (arith, none) in
    ap (λ (l : List Entry). turn_from (slice_get (states_before l t) 0)) later_so
    ∙ ap (λ (x : S). turn_from (slice_get (states_before (behind_steps (steps - n) es) x) 0)) t_so
    ∙ ap (λ (k : ℕ). turn_from (slice_get (states_before (behind_steps k es) (after_steps k es s)) 0)) all
    ∙ ap (λ (o : Option S). turn_from o) (state-behind steps es s)
    ∙ ap (λ (l : List Entry). turn_from (slice_get (states_before l s) steps)) things
    ∙ ap (λ (x : S). turn_from (slice_get (states_before past x) steps)) there

-- the job that ran, among the PCs of all jobs
pub among-there : (pcs : List (Option ℕ)) (s : S) (ran : Option ℕ) → ((n : ℕ) → n < 64 → slice_index_or pcs n None ≡ pc_in s n)
    → turn_among pcs ran ≡ job_there s ran
among-there pcs s None all = refl
among-there pcs s (Some n) all = by_number (nat_le n JOBS) refl
  where
    by_number : (known : Bool) → nat_le n JOBS ≡ known
        → cond known (paired n (slice_index_or pcs n None)) None ≡ cond known (paired n (pc_in s n)) None
    by_number true is = let most = leb-true n JOBS is in ap (λ (o : Option ℕ). paired n o) (all n (omega (arith, most)))
    by_number false is = refl

-- the turn in the next step
pub turn-next : (es later : List Entry) (s s' t : S) (pcs : List (Option ℕ)) (ran : Option ℕ) → one_step ∷ later ≡ from_step es → s' ≡ before_step es s
    → t ≡ round s'
    → ran ≡ next_in s'
    → ((n : ℕ) → n < 64 → slice_index_or pcs n None ≡ pc_in s' n)
    → turn_among pcs ran ≡ turn_from (slice_get (states_before es s) 0)
turn-next es later s s' t pcs ran next there made_so next_so all =
    among-there pcs s' ran all
    ∙ ap (λ (o : Option ℕ). job_there s' o) next_so
    ∙ ap (λ (ss : List S). turn_from (slice_get ss 0)) (sym (states-next es later s s' t next there made_so))

pub no_turn : (es rest : List Entry) (s : S) → rest ≡ from_step es → rest ≡ [] → None ≡ turn_from (slice_get (states_before es s) 0)
no_turn es rest s next none = ap (λ (ss : List S). turn_from (slice_get ss 0)) (sym (states-none es rest s next none))

-- ---- the turns of a job

pub turns-next : (job : ℕ) (es later : List Entry) (n n' : ℕ) (s s' t : S) (here : Bool) → one_step ∷ later ≡ from_step es
    → s' ≡ before_step es s
    → t ≡ round s'
    → n' ≡ min (2 ^ 64 - 1) (n + 1)
    → is_turn job s' ≡ here
    → turns_from job n (states_before es s)
    ≡ cond here (n ∷ turns_from job n' (states_before later t)) (turns_from job n' (states_before later t))
turns-next job es later n n' s s' t here next there made_so steps_so turn =
    ap (λ (ss : List S). turns_from job n ss) (states-next es later s s' t next there made_so)
    ∙ ap
    (λ (k : ℕ). cond (is_turn job s') (n ∷ turns_from job k (states_before later t)) (turns_from job k (states_before later t)))
    (sym steps_so)
    ∙ ap (λ (b : Bool). cond b (n ∷ turns_from job n' (states_before later t)) (turns_from job n' (states_before later t))) turn

-- a list that is short enough is kept whole
pub last-short : (most : ℕ) (xs : List ℕ) → length xs ≤ most → last_of most xs ≡ xs
last-short most xs short = let none : length xs - most ≡ 0 = omega (arith, short) in ap (λ (n : ℕ). drop n xs) none

-- what is kept of a part is enough
last-append : (most : ℕ) (xs ys : List ℕ) → last_of most (last_of most xs ++ ys) ≡ last_of most (xs ++ ys)
last-append most xs ys =
    let gone : ℕ = length xs - most in
    let within : gone ≤ length xs = omega arith in
    let front : drop gone (xs ++ ys) ≡ drop gone xs ++ ys = drop-append-le gone xs ys within in
    let size : length (drop gone xs ++ ys) ≡ (length xs - gone) + length ys =
    length-append (drop gone xs) ys ∙ ap (λ (n : ℕ). n + length ys) (length-drop gone xs) in
    let all : length (xs ++ ys) ≡ length xs + length ys = length-append xs ys in
    let sum : gone + (length (drop gone xs ++ ys) - most) ≡ length (xs ++ ys) - most = omega (arith, size, all) in
    ap (λ (l : List ℕ). drop (length (drop gone xs ++ ys) - most) l) (sym front)
    ∙ drop-drop (length (drop gone xs ++ ys) - most) gone (xs ++ ys)
    ∙ ap (λ (n : ℕ). drop n (xs ++ ys)) sum

-- one turn more is kept
pub last-more : (most n : ℕ) (xs xs' ys : List ℕ) → xs' ≡ last_of most (xs ++ n ∷ []) → last_of most (xs' ++ ys) ≡ last_of most (xs ++ n ∷ ys)
last-more most n xs xs' ys is =
    ap (λ (l : List ℕ). last_of most (l ++ ys)) is
    ∙ last-append most (xs ++ n ∷ []) ys
    ∙ ap (λ (l : List ℕ). last_of most l) (append_assoc xs (n ∷ []) ys)

pub last-length : (most : ℕ) (xs xs' : List ℕ) → xs' ≡ last_of most xs → length xs' ≤ most
last-length most xs xs' is =
    let same = ap (λ (l : List ℕ). length l) is in
    let size = length-drop (length xs - most) xs in
    omega (arith, same, size)

-- what is kept, with the turns that are to come: one more is kept
pub more-kept : (job most : ℕ) (es later : List Entry) (n n' steps : ℕ) (s s' t : S) (xs xs' all : List ℕ) → one_step ∷ later ≡ from_step es
    → s' ≡ before_step es s
    → t ≡ round s'
    → n' ≡ min (2 ^ 64 - 1) (n + 1)
    → is_turn job s' ≡ true
    → steps ≡ n
    → xs' ≡ last_of most (xs ++ steps ∷ [])
    → last_of most (xs ++ turns_from job n (states_before es s)) ≡ all
    → last_of most (xs' ++ turns_from job n' (states_before later t)) ≡ all
more-kept job most es later n n' steps s s' t xs xs' all next there made_so steps_so turn same is so_far =
    last-more most n xs xs' (turns_from job n' (states_before later t)) (is ∙ ap (λ (k : ℕ). last_of most (xs ++ k ∷ [])) same)
    ∙ ap (λ (l : List ℕ). last_of most (xs ++ l)) (sym (turns-next job es later n n' s s' t true next there made_so steps_so turn))
    ∙ so_far

-- a step of another job
pub same-kept : (job most : ℕ) (es later : List Entry) (n n' : ℕ) (s s' t : S) (xs all : List ℕ) → one_step ∷ later ≡ from_step es
    → s' ≡ before_step es s
    → t ≡ round s'
    → n' ≡ min (2 ^ 64 - 1) (n + 1)
    → is_turn job s' ≡ false
    → last_of most (xs ++ turns_from job n (states_before es s)) ≡ all
    → last_of most (xs ++ turns_from job n' (states_before later t)) ≡ all
same-kept job most es later n n' s s' t xs all next there made_so steps_so turn so_far =
    ap (λ (l : List ℕ). last_of most (xs ++ l)) (sym (turns-next job es later n n' s s' t false next there made_so steps_so turn)) ∙ so_far

-- none is to come
pub all-kept : (job most n : ℕ) (es rest : List Entry) (s : S) (xs all : List ℕ) → rest ≡ from_step es → rest ≡ [] → length xs ≤ most
    → last_of most (xs ++ turns_from job n (states_before es s)) ≡ all
    → xs ≡ all
all-kept job most n es rest s xs all next none few so_far =
    sym (last-short most xs few)
    ∙ ap (λ (l : List ℕ). last_of most l) (sym (append-nil xs))
    ∙ ap (λ (ss : List S). last_of most (xs ++ turns_from job n ss)) (sym (states-none es rest s next none))
    ∙ so_far

-- ---- the last turn of a job

-- its PC before the last of its turns from some states on, or this one where it has none there
abbrev pub pc_after : ℕ → List S → Option ℕ → Option ℕ
pc_after job [] last = last
pc_after job (s ∷ ss) last = pc_after job ss (cond (is_turn job s) (pc_in s job) last)

pub pc-next : (job : ℕ) (es later : List Entry) (s s' t : S) (last last' : Option ℕ) (here : Bool) → one_step ∷ later ≡ from_step es
    → s' ≡ before_step es s
    → t ≡ round s'
    → is_turn job s' ≡ here
    → last' ≡ cond here (pc_in s' job) last
    → pc_after job (states_before later t) last' ≡ pc_after job (states_before es s) last
pc-next job es later s s' t last last' here next there made_so turn is =
    ap (λ (o : Option ℕ). pc_after job (states_before later t) o) is
    ∙ ap (λ (b : Bool). pc_after job (states_before later t) (cond b (pc_in s' job) last)) (sym turn)
    ∙ ap (λ (ss : List S). pc_after job ss last) (sym (states-next es later s s' t next there made_so))

abbrev pc_or : ℕ → Option S → Option ℕ → Option ℕ
pc_or job (Some s) last = pc_in s job
pc_or job None last = last

pc-same : (job : ℕ) (s : S) (ss : List S) (last other : Option ℕ) → pc_or job (last_state (s ∷ ss)) last ≡ pc_or job (last_state (s ∷ ss)) other
pc-same job s [] last other = refl
pc-same job s (t ∷ ss) last other = pc-same job t ss last other

pc-first : (job : ℕ) (s : S) (ss : List S) (last : Option ℕ) → pc_or job (last_state ss) (pc_in s job) ≡ pc_or job (last_state (s ∷ ss)) last
pc-first job s [] last = refl
pc-first job s (t ∷ ss) last = pc-same job t ss (pc_in s job) last

pc-filtered : (job : ℕ) (ss : List S) (last : Option ℕ) → pc_after job ss last ≡ pc_or job (last_state (filter (is_turn job) ss)) last
pc-filtered job [] last = refl
pc-filtered job (s ∷ ss) last = by_turn (is_turn job s) (pc-filtered job ss (pc_in s job)) (pc-filtered job ss last)
  where
    by_turn : (here : Bool)
        → pc_after job ss (pc_in s job) ≡ pc_or job (last_state (filter (is_turn job) ss)) (pc_in s job)
        → pc_after job ss last ≡ pc_or job (last_state (filter (is_turn job) ss)) last
        → pc_after job ss (cond here (pc_in s job) last)
        ≡ pc_or job (last_state (cond here (s ∷ filter (is_turn job) ss) (filter (is_turn job) ss))) last
    by_turn true is other = is ∙ pc-first job s (filter (is_turn job) ss) last
    by_turn false is other = other

pc-none : (job : ℕ) (o : Option S) → pc_or job o None ≡ pc_at job o
pc-none job None = refl
pc-none job (Some s) = refl

pub pc-last : (job : ℕ) (ss : List S) → pc_after job ss None ≡ pc_at job (last_state (filter (is_turn job) ss))
pc-last job ss = pc-filtered job ss None ∙ pc-none job (last_state (filter (is_turn job) ss))
