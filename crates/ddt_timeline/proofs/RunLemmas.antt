-- Steps, one after the other.
use Rattle.std.specs.Prelude.{OnSome, is_some}
use Rattle.std.proofs.Common.{◌≡◌, ◌<◌, ◌∙◌, false, sym, ap, ℕ, zero, suc, ◌+◌, ◌++◌, true, List, [], ◌∷◌, Option}
use Rattle.std.proofs.Common.{Some, None, take, refl, arith, length, get_or, map, add-one}
use Rattle.machine.specs.Machine.{S, after, stepped}
use Rattle.machine.specs.Rounds.{rounds}
use Rattle.ddt_timeline.specs.Stops.{noted, ran_of, round, stops_of}
use Rattle.ddt_timeline.specs.Timelines.{made, played, reached, steps_in, steps_of}
use Rattle.ddt_timeline.specs.declared.entries.Entry.{Entry}
use Rattle.ddt_timeline.specs.declared.entries.Entry.TheVariants.{Rounds}
use Rattle.ddt_timeline.specs.declared.stops.StopCondition.{StopCondition}
use Rattle.ddt_timeline.specs.declared.stops.WatchedStop.{WatchedStop}

-- a step's answer names the job that ran
pub ran_stepped : (s : S) (o : Option ℕ) → ran_of (stepped s o).answer ≡ o
ran_stepped s (Some n) = refl
ran_stepped s None = refl

rounds-last : (k : ℕ) (s : S) → after (rounds (suc k) true) s ≡ round (after (rounds k true) s)
rounds-last zero s = refl
rounds-last (suc k) s = rounds-last k (after (rounds 1 true) s)

-- one step more is made behind the others
pub rounds-one_more : (k : ℕ) (s : S) → after (rounds (k + 1) true) s ≡ round (after (rounds k true) s)
rounds-one_more k s = let e : k + 1 ≡ suc k = omega arith in ap (λ (i : ℕ). after (rounds i true) s) e ∙ rounds-last k s

-- entries behind others
pub played-append : (xs ys : List Entry) (s : S) → played (xs ++ ys) s ≡ played ys (played xs s)
played-append [] ys s = refl
played-append (x ∷ xs) ys s = played-append xs ys (made s x)

take-whole : (xs : List Entry) → take (length xs) xs ≡ xs
take-whole [] = refl
take-whole (x ∷ xs) = ap (λ (ys : List Entry). x ∷ ys) (take-whole xs)

take-one_more : (xs : List Entry) (e : Entry) → take (suc (length xs)) (xs ++ e ∷ []) ≡ xs ++ e ∷ []
take-one_more [] e = refl
take-one_more (x ∷ xs) e = ap (λ (ys : List Entry). x ∷ ys) (take-one_more xs e)

-- one entry more, behind all others
pub reached_more : (es : List Entry) (e : Entry) (whole : ℕ) (s : S) → whole ≡ length es
    → reached (es ++ e ∷ []) (whole + 1) 0 s ≡ made (played (take whole es) s) e
reached_more es e whole s all =
    let one : whole + 1 ≡ suc (length es) = omega (arith, all) in
    ap (λ (n : ℕ). played (take n (es ++ e ∷ [])) s) one
    ∙ ap (λ (ys : List Entry). played ys s) (take-one_more es e)
    ∙ played-append es (e ∷ []) s
    ∙ ap (λ (ys : List Entry). made (played ys s) e) (sym (take-whole es))
    ∙ ap (λ (n : ℕ). made (played (take n es) s) e) (sym all)

-- stops that were noted before are noted anew
pub noted_again : (stops : List WatchedStop) (s t : S) → map (noted t) (map (noted s) stops) ≡ map (noted t) stops
noted_again [] s t = refl
noted_again (p ∷ ps) s t = ap (λ (qs : List WatchedStop). noted t p ∷ qs) (noted_again ps s t)

noted_stops : (stops : List WatchedStop) (m : S) → stops_of (map (noted m) stops) ≡ stops_of stops
noted_stops [] m = refl
noted_stops (p ∷ ps) m = ap (λ (l : List StopCondition). p.stop ∷ l) (noted_stops ps m)

-- stops that were noted are the same stops
pub same_stops : (stops seen : List WatchedStop) (m : S) → seen ≡ map (noted m) stops → stops_of seen ≡ stops_of stops
same_stops stops seen m now = ap (λ (l : List WatchedStop). stops_of l) now ∙ noted_stops stops m

-- the stops, noted anew behind a round
pub noted_on : (stops seen seen' : List WatchedStop) (m m' : S) → seen ≡ map (noted m) stops → seen' ≡ map (noted m') seen → seen' ≡ map (noted m') stops
noted_on stops seen seen' m m' before now = now ∙ ap (λ (l : List WatchedStop). map (noted m') l) before ∙ noted_again stops m m'

steps-next : (es : List Entry) (i : ℕ) (e : Entry) → i < length es → e ≡ get_or es i e → steps_in (take (suc i) es) ≡ steps_in (take i es) + steps_of e
steps-next [] i e within is = absurd (omega (arith, within))
steps-next (x ∷ es) zero e within is = let same : e ≡ x = is in ap (λ (y : Entry). steps_of y + 0) (sym same) ∙ omega arith
steps-next (x ∷ es) (suc i) e within is =
    let inner : i < length es = omega (arith, within) in
    let rest = steps-next es i e inner is in
    omega (arith, rest)

-- how many steps the entries have with one more of them
pub steps_next : (es : List Entry) (i : ℕ) (e : Entry) → i < length es → e ≡ get_or es i e → steps_in (take (i + 1) es) ≡ steps_in (take i es) + steps_of e
steps_next es i e within is = ap (λ (n : ℕ). steps_in (take n es)) (add-one i) ∙ steps-next es i e within is

-- a fact for some value, where it holds anyway
pub on_some : (o : Option ℕ) (P : Type 0) → P → OnSome o P
on_some (Some x) P p = p
on_some None P p = tt

pub no_stop : (o : Option ℕ) → is_some o ≡ false → o ≡ None
no_stop (Some x) h = cc
no_stop None h = refl

-- the steps behind all entries, made an entry
pub settled : (es es' : List Entry) (whole part : ℕ) (m s : S) → whole ≡ length es → es' ≡ es ++ Rounds part ∷ []
    → m ≡ reached es whole part s → m ≡ reached es' (whole + 1) 0 s
settled es es' whole part m s all items there =
    there ∙ sym (reached_more es (Rounds part) whole s all) ∙ ap (λ (ys : List Entry). reached ys (whole + 1) 0 s) (sym items)

pub get-last : (es : List Entry) (e r : Entry) → r ≡ get_or (es ++ e ∷ []) (length es) r → r ≡ e
get-last [] e r is = is
get-last (x ∷ es) e r is = get-last es e r is

-- an entry more, which is the last of those there are then
pub made_more : (es es' : List Entry) (e r : Entry) (whole part : ℕ) (m m' s : S) → whole ≡ length es → part ≡ 0 → es' ≡ es ++ e ∷ [] → r ≡ get_or es' whole r
    → m ≡ reached es whole part s → m' ≡ made m r → m' ≡ reached es' (whole + 1) part s
made_more es es' e r whole part m m' s all none items is there made_so =
    let last : r ≡ e = get-last es e r (is ∙ ap (λ (ys : List Entry). get_or ys whole r) items ∙ ap (λ (n : ℕ). get_or (es ++ e ∷ []) n r) all) in
    made_so
    ∙ ap (λ (x : Entry). made m x) last
    ∙ ap (λ (x : S). made x e) (there ∙ ap (λ (n : ℕ). reached es whole n s) none)
    ∙ sym (reached_more es e whole s all)
    ∙ ap (λ (ys : List Entry). reached ys (whole + 1) 0 s) (sym items)
    ∙ ap (λ (n : ℕ). reached es' (whole + 1) n s) (sym none)

-- and so where it was made without looking it up
pub made_last : (es es' : List Entry) (e : Entry) (whole part : ℕ) (m m' s : S) → whole ≡ length es → part ≡ 0 → es' ≡ es ++ e ∷ []
    → m ≡ reached es whole part s → m' ≡ made m e → m' ≡ reached es' (whole + 1) part s
made_last es es' e whole part m m' s all none items there made_so =
    made_so
    ∙ ap (λ (x : S). made x e) (there ∙ ap (λ (n : ℕ). reached es whole n s) none)
    ∙ sym (reached_more es e whole s all)
    ∙ ap (λ (ys : List Entry). reached ys (whole + 1) 0 s) (sym items)
    ∙ ap (λ (n : ℕ). reached es' (whole + 1) n s) (sym none)

take_front : (xs : List Entry) (e : Entry) (n : ℕ) → n ≡ length xs → take n (xs ++ e ∷ []) ≡ xs
take_front [] e zero h = refl
take_front [] e (suc n) h = absurd (omega (arith, h))
take_front (x ∷ xs) e zero h = absurd (omega (arith, h))
take_front (x ∷ xs) e (suc n) h = let inner : n ≡ length xs = omega (arith, h) in ap (λ (l : List Entry). x ∷ l) (take_front xs e n inner)

-- an entry that was added and let go again
pub let_go_again : (es es' : List Entry) (e : Entry) (whole : ℕ) → whole ≡ length es → es' ≡ es ++ e ∷ [] → take whole es' ≡ es
let_go_again es es' e whole all items = ap (λ (l : List Entry). take whole l) items ∙ take_front es e whole all

-- a machine just made, some entries played, and steps more
pub replayed : (es front : List Entry) (whole part : ℕ) (m m' m'' s : S) → m ≡ s → front ≡ take whole es → m' ≡ played front m
    → m'' ≡ after (rounds part true) m' → m'' ≡ reached es whole part s
replayed es front whole part m m' m'' s fresh front_so played_so steps_so =
    steps_so
    ∙ ap (λ (x : S). after (rounds part true) x)
    (played_so ∙ ap (λ (ys : List Entry). played ys m) front_so ∙ ap (λ (x : S). played (take whole es) x) fresh)
