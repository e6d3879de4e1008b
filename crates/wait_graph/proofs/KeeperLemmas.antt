-- Lemmas on the jobs that keep another waiting.
use Rattle.std.proofs.Common.{◌≡◌, ◌&&◌, ◌||◌, ◌++◌, ◌+◌, ◌∙◌, ◌<◌, ◌≤◌, ◌==◌, ℕ, Bool, true, false, cond, List, [], ◌∷◌, All, length, drop, take, get_or, Some, refl, subst, sym, ap, arith, append_assoc, append-nil}
use Rattle.std.proofs.lemmas.Bool.{and_from, false_from_ne_true, or_left, or_right}
use Rattle.std.proofs.lemmas.Bool.Decides.{nat_tests}
use Rattle.std.proofs.lemmas.List.{drop_all, drop_more, take_more}
use Rattle.std.proofs.lemmas.List.Elements.{All-append, All-cons, All-nil}
use Rattle.std.specs.List.{find, flat_map, list_any}
use Rattle.lock_queue.specs.declared.request.Request.{Request}
use Rattle.lock_queue.specs.declared.want.Want.{Want}
use Rattle.lock_queue.specs.Jobs.{is_blocked, waits_for}
use Rattle.lock_queue.specs.Queue.{some_behind}
use Rattle.lock_queue.specs.Waits.{jobs, waits_hard_for}
use Rattle.wait_graph.specs.LockWaits.{has_keeper, is_kept_from, is_kept_waiting, keeper, keepers, keeps, waits_by, waits_for_owner}
use Rattle.wait_graph.proofs.JobLemmas.{or-left, or-right}
use Rattle.wait_graph.proofs.TestLemmas.{and_more, from_or}

-- a job is waited for by another
abbrev IsWaitedFor : Bool → List Request → ℕ → ℕ → Type 0
IsWaitedFor is_held requests job other = waits_by is_held requests job other ≡ true

one_waited : (waits keeps' : Bool) (other : ℕ) (P : ℕ → Type 0) → (waits ≡ true → P other) → All P (cond (waits && keeps') (other ∷ []) [])
one_waited true true other P h = All-cons P other [] (h refl) (All-nil P)
one_waited true false other P h = All-nil P
one_waited false k other P h = All-nil P

all_waited : (is_held : Bool) (requests : List Request) (job : ℕ) (earlier : List Request) (w : Want) (js : List ℕ)
    → All (IsWaitedFor is_held requests job) (flat_map (keeper is_held requests job earlier w) js)
all_waited is_held requests job earlier w [] = All-nil (IsWaitedFor is_held requests job)
all_waited is_held requests job earlier w (j ∷ js) =
    All-append (IsWaitedFor is_held requests job) (keeper is_held requests job earlier w j) (flat_map (keeper is_held requests job earlier w) js)
    (one_waited (waits_by is_held requests job j) (keeps is_held earlier w j) j (IsWaitedFor is_held requests job) (λ h. h))
    (all_waited is_held requests job earlier w js)

-- a job waits for each of those that keep it from a want
pub keepers_are_waited_for : (found : List ℕ) (is_held : Bool) (requests : List Request) (job : ℕ) (earlier : List Request) (w : Want)
    → found ≡ keepers is_held requests job earlier w → All (λ other. waits_by is_held requests job other ≡ true) found
keepers_are_waited_for found is_held requests job earlier w is =
    subst (λ l. All (IsWaitedFor is_held requests job) l) (sym is) (all_waited is_held requests job earlier w jobs)

-- ---- where nobody keeps a job waiting

no_keeper : (test : Bool) (other : ℕ) (found : List ℕ) → cond test (other ∷ []) [] ++ found ≡ [] → (test ≡ false) × (found ≡ [])
no_keeper true other found h = cc
no_keeper false other found h = (refl, h)

none_keep : (is_held : Bool) (requests : List Request) (job : ℕ) (earlier : List Request) (w : Want) (js : List ℕ)
    → flat_map (keeper is_held requests job earlier w) js ≡ []
    → list_any (λ other. waits_by is_held requests job other && keeps is_held earlier w other) js ≡ false
none_keep is_held requests job earlier w [] h = refl
none_keep is_held requests job earlier w (j ∷ js) h =
    let tests = waits_by is_held requests job j && keeps is_held earlier w j in
    let apart = no_keeper tests j (flat_map (keeper is_held requests job earlier w) js) h in
    ap (λ b. b || list_any (λ other. waits_by is_held requests job other && keeps is_held earlier w other) js) apart.0
    ∙ none_keep is_held requests job earlier w js apart.1

some_or_more : (test more : Bool) (other : ℕ) (found : List ℕ) → ((found ≡ [] → ⊥) → more ≡ true)
    → (cond test (other ∷ []) [] ++ found ≡ [] → ⊥) → (test || more) ≡ true
some_or_more true more other found later some = refl
some_or_more false more other found later some = later some

some_keep : (is_held : Bool) (requests : List Request) (job : ℕ) (earlier : List Request) (w : Want) (js : List ℕ)
    → (flat_map (keeper is_held requests job earlier w) js ≡ [] → ⊥)
    → list_any (λ other. waits_by is_held requests job other && keeps is_held earlier w other) js ≡ true
some_keep is_held requests job earlier w [] some = absurd (some refl)
some_keep is_held requests job earlier w (j ∷ js) some =
    some_or_more (waits_by is_held requests job j && keeps is_held earlier w j)
    (list_any (λ other. waits_by is_held requests job other && keeps is_held earlier w other) js) j
    (flat_map (keeper is_held requests job earlier w) js) (some_keep is_held requests job earlier w js) some

-- where jobs are found that keep a want from fitting, there are some
pub some_keeper : (found : List ℕ) (is_held : Bool) (requests : List Request) (job : ℕ) (earlier : List Request) (w : Want)
    → found ≡ keepers is_held requests job earlier w → (found ≡ [] → ⊥) → has_keeper is_held requests job earlier w ≡ true
some_keeper found is_held requests job earlier w is some = some_keep is_held requests job earlier w jobs (λ none. some (is ∙ none))

-- the first want from a place on for which a test holds is the one there, where it holds for this
pub find_here : (test : Want → Bool) (ws : List Want) (i : ℕ) (w : Want) → i < length ws → w ≡ get_or ws i w → test w ≡ true
    → find test (drop i ws) ≡ Some w
find_here test ws i w within is holds =
    ap (find test) (drop_more ws i w within ∙ ap (λ y. y ∷ drop (i + 1) ws) (sym is))
    ∙ ap (λ b. cond b (Some w) (find test (drop (i + 1) ws))) holds

pub none_found : (found : List ℕ) → (length found == 0) ≡ true → found ≡ []
none_found [] h = refl
none_found (j ∷ more) h = absurd (grind (arith, nat_tests))

-- where no jobs are found that keep a want from fitting, there are none
pub no_keepers : (found : List ℕ) (is_held : Bool) (requests : List Request) (job : ℕ) (earlier : List Request) (w : Want)
    → found ≡ keepers is_held requests job earlier w → found ≡ [] → has_keeper is_held requests job earlier w ≡ false
no_keepers found is_held requests job earlier w is none = none_keep is_held requests job earlier w jobs (sym is ∙ none)

-- where a test holds for none of some requests, and not for the one behind them, it holds for none of all these
none_last : (f : List Request → Request → Bool) (e sofar : List Request) (r : Request) → some_behind f e sofar ≡ false
    → f (e ++ sofar) r ≡ false → some_behind f e (sofar ++ r ∷ []) ≡ false
none_last f e [] r none fails = ap (λ b. b || false) (ap (λ l. f l r) (sym (append-nil e)) ∙ fails)
none_last f e (s ∷ sofar) r none fails =
    ap (λ b. b || some_behind f (e ++ s ∷ []) (sofar ++ r ∷ [])) (or-left (f e s) (some_behind f (e ++ s ∷ []) sofar) none)
    ∙ none_last f (e ++ s ∷ []) sofar r (or-right (f e s) (some_behind f (e ++ s ∷ []) sofar) none)
    (ap (λ l. f l r) (append_assoc e (s ∷ []) sofar) ∙ fails)

pub none_further : (f : List Request → Request → Bool) (requests : List Request) (i : ℕ) (r : Request) → i < length requests
    → r ≡ get_or requests i r → f (take i requests) r ≡ false → some_behind f [] (take i requests) ≡ false
    → some_behind f [] (take (i + 1) requests) ≡ false
none_further f requests i r within is fails none =
    ap (λ l. some_behind f [] l) (take_more requests i r within ∙ ap (λ y. take i requests ++ y ∷ []) (sym is))
    ∙ none_last f [] (take i requests) r none fails

-- whether it holds for one from a position on is whether it holds for one behind that
pub rest_further : (f : List Request → Request → Bool) (requests : List Request) (i : ℕ) (r : Request) (all : Bool) → i < length requests
    → r ≡ get_or requests i r → f (take i requests) r ≡ false → some_behind f (take i requests) (drop i requests) ≡ all
    → some_behind f (take (i + 1) requests) (drop (i + 1) requests) ≡ all
rest_further f requests i r all within is fails before =
    ap (λ l. some_behind f l (drop (i + 1) requests)) (take_more requests i r within ∙ ap (λ y. take i requests ++ y ∷ []) (sym is))
    ∙ sym (ap (λ l. some_behind f (take i requests) l) (drop_more requests i r within ∙ ap (λ y. y ∷ drop (i + 1) requests) (sym is))
    ∙ ap (λ b. b || some_behind f (take i requests ++ r ∷ []) (drop (i + 1) requests)) fails)
    ∙ before

-- where a test holds for no request from a position on, and none is there, it holds for none at all
pub behind_end : (f : List Request → Request → Bool) (e requests : List Request) (i : ℕ) → length requests ≤ i
    → some_behind f e (drop i requests) ≡ some_behind f [] requests → some_behind f [] requests ≡ false
behind_end f e requests i past same = sym same ∙ ap (λ l. some_behind f e l) (drop_all i requests past)

-- a job waits for another where this keeps one of its requests
kept_as : (is_held : Bool) (requests : List Request) (job other : ℕ)
    → some_behind (is_kept_from is_held job other) [] requests ≡ waits_by is_held requests job other
kept_as true requests job other = refl
kept_as false requests job other = refl

-- where one job keeps another by no lock, the other does not wait for it
pub kept_by_none : (is_held : Bool) (requests : List Request) (job other : ℕ) → is_held ≡ waits_hard_for requests job other
    → some_behind (is_kept_from is_held job other) [] requests ≡ false → waits_for requests job other ≡ false
kept_by_none true requests job other hard none = cc
kept_by_none false requests job other hard none = none

-- a number among some for which a test holds, so that each test that holds for it holds for one of them
abbrev Found : (ℕ → Bool) → List ℕ → Type 0
Found f xs = (m : ℕ) × (f m ≡ true) × ((g : ℕ → Bool) → g m ≡ true → list_any g xs ≡ true)

found : (f : ℕ → Bool) (xs : List ℕ) → list_any f xs ≡ true → Found f xs
found f [] h = cc
found f (x ∷ xs) h =
    from_or (f x) (list_any f xs) (Found f (x ∷ xs))
    (λ here. (x, here, λ g holds. or_left (g x) (list_any g xs) holds))
    (λ later. let more = found f xs later in (more.0, more.1, λ g holds. or_right (g x) (list_any g xs) (more.2 g holds))) h

any_want : (f g : Want → Bool) → ((w : Want) → f w ≡ true → g w ≡ true) → (ws : List Want) → list_any f ws ≡ true → list_any g ws ≡ true
any_want f g more [] h = h
any_want f g more (w ∷ ws) h =
    from_or (f w) (list_any f ws) (list_any g (w ∷ ws) ≡ true)
    (λ here. or_left (g w) (list_any g ws) (more w here))
    (λ later. or_right (g w) (list_any g ws) (any_want f g more ws later)) h

behind_more : (f g : List Request → Request → Bool) → ((e : List Request) (r : Request) → f e r ≡ true → g e r ≡ true)
    → (e rs : List Request) → some_behind f e rs ≡ true → some_behind g e rs ≡ true
behind_more f g more e [] h = h
behind_more f g more e (r ∷ rs) h =
    from_or (f e r) (some_behind f (e ++ r ∷ []) rs) (some_behind g e (r ∷ rs) ≡ true)
    (λ here. or_left (g e r) (some_behind g (e ++ r ∷ []) rs) (more e r here))
    (λ later. or_right (g e r) (some_behind g (e ++ r ∷ []) rs) (behind_more f g more (e ++ r ∷ []) rs later)) h

-- a job that waits for another of the jobs is kept waiting
kept_waiting : (is_held : Bool) (requests : List Request) (job : ℕ) → list_any (waits_by is_held requests job) jobs ≡ true
    → some_behind (is_kept_waiting is_held requests job) [] requests ≡ true
kept_waiting is_held requests job h =
    let one = found (waits_by is_held requests job) jobs h in
    let other = one.0 in
    behind_more (is_kept_from is_held job other) (is_kept_waiting is_held requests job)
    (λ e r. and_more (is_blocked job e r) (list_any (λ w. keeps is_held e w other) r.wants.items)
    (list_any (has_keeper is_held requests job e) r.wants.items)
    (any_want (λ w. keeps is_held e w other) (has_keeper is_held requests job e)
    (λ w keeps_it. one.2 (λ k. waits_by is_held requests job k && keeps is_held e w k)
    (and_from (waits_by is_held requests job other) (keeps is_held e w other) one.1 keeps_it))
    r.wants.items))
    [] requests (kept_as is_held requests job other ∙ one.1)

no_owner : (is_held : Bool) (requests : List Request) (job : ℕ) → is_held ≡ waits_for_owner requests job
    → list_any (waits_by is_held requests job) jobs ≡ false → list_any (waits_for requests job) jobs ≡ false
no_owner true requests job owner none = cc
no_owner false requests job owner none = none

-- a job that nobody keeps waiting waits for nobody
pub waits_for_nobody : (requests : List Request) (job : ℕ)
    → some_behind (is_kept_waiting (waits_for_owner requests job) requests job) [] requests ≡ false
    → list_any (waits_for requests job) jobs ≡ false
waits_for_nobody requests job none =
    let is_held = waits_for_owner requests job in
    no_owner is_held requests job refl
    (false_from_ne_true (list_any (waits_by is_held requests job) jobs)
    (λ some. let contrary : true ≡ false = sym (kept_waiting is_held requests job some) ∙ none in cc))
