-- Rounds, one by one.
use Rattle.std.proofs.Common.{◌≡◌, ◌≤◌, ◌∙◌, sym, ap, ℕ, zero, suc, ◌+◌, ◌-◌, Bool, true, false, cond, List, [], ◌∷◌, refl, arith, zero-add}
use Rattle.std.proofs.lemmas.List.Sums.{sum_by-cons}
use Rattle.machine.specs.Machine.{S, happens, after, answers}
use Rattle.machine.specs.Rounds.{rounds, runs_in, has_run}
use Rattle.machine.specs.Safe.{Safe}
use Rattle.machine.specs.declared.event.Answer.{Answer}
use Rattle.machine.specs.declared.event.Answer.TheVariants.{Done, Ran}
use Rattle.machine.specs.declared.event.Event.{Event}
use Rattle.machine.specs.declared.event.Event.TheVariants.{Step}
use Rattle.monitor_laws.proofs.Safety.{safe-happens}

rounds-first : (k : ℕ) (ticking : Bool) (s : S) → after (rounds (suc k) ticking) s ≡ after (rounds k ticking) (after (rounds 1 ticking) s)
rounds-first k true s = refl
rounds-first k false s = refl

pub rounds-more : (k : ℕ) (ticking : Bool) (s : S) → after (rounds (1 + k) ticking) s ≡ after (rounds k ticking) (after (rounds 1 ticking) s)
rounds-more k ticking s = let e : 1 + k ≡ suc k = omega arith in ap (λ (i : ℕ). after (rounds i ticking) s) e ∙ rounds-first k ticking s

-- whether an answer is counted
abbrev pub one_if : Bool → ℕ
one_if b = cond b 1 0

runs-cons : (a : Answer) (more : List Answer) → runs_in (a ∷ more) ≡ one_if (has_run a) + runs_in more
runs-cons a more = sum_by-cons (λ x. one_if (has_run x)) a more

runs-rounds : (k : ℕ) (ticking : Bool) (s : S)
    → runs_in (answers (rounds (suc k) ticking) s)
    ≡ one_if (has_run (happens s Step).answer) + runs_in (answers (rounds k ticking) (after (rounds 1 ticking) s))
runs-rounds k true s =
    let t : S = after (rounds 1 true) s in
    runs-cons (happens s Step).answer (Done ∷ answers (rounds k true) t)
    ∙ ap (λ n. one_if (has_run (happens s Step).answer) + n) (runs-cons Done (answers (rounds k true) t) ∙ zero-add (runs_in (answers (rounds k true) t)))
runs-rounds k false s = runs-cons (happens s Step).answer (answers (rounds k false) (after (rounds 1 false) s))

-- a round in which a job runs is counted
pub runs-more_rounds : (k : ℕ) (ticking : Bool) (s : S) (n : ℕ) → (happens s Step).answer ≡ Ran n
    → runs_in (answers (rounds (1 + k) ticking) s) ≡ 1 + runs_in (answers (rounds k ticking) (after (rounds 1 ticking) s))
runs-more_rounds k ticking s n ran =
    let e : 1 + k ≡ suc k = omega arith in
    ap (λ (i : ℕ). runs_in (answers (rounds i ticking) s)) e
    ∙ runs-rounds k ticking s
    ∙ ap (λ (a : Answer). one_if (has_run a) + runs_in (answers (rounds k ticking) (after (rounds 1 ticking) s))) ran

-- so many rounds, and then the others
rounds-parted : (a b : ℕ) (ticking : Bool) (s : S) → after (rounds (a + b) ticking) s ≡ after (rounds b ticking) (after (rounds a ticking) s)
rounds-parted zero b ticking s = ap (λ (i : ℕ). after (rounds i ticking) s) (zero-add b)
rounds-parted (suc a) b true s = let e : suc a + b ≡ suc (a + b) = omega arith in
    ap (λ (i : ℕ). after (rounds i true) s) e ∙ rounds-parted a b true (after (rounds 1 true) s)
rounds-parted (suc a) b false s = let e : suc a + b ≡ suc (a + b) = omega arith in
    ap (λ (i : ℕ). after (rounds i false) s) e ∙ rounds-parted a b false (after (rounds 1 false) s)

runs-parted : (a b : ℕ) (ticking : Bool) (s : S)
    → runs_in (answers (rounds (a + b) ticking) s) ≡ runs_in (answers (rounds a ticking) s) + runs_in (answers (rounds b ticking) (after (rounds a ticking) s))
runs-parted zero b ticking s = ap (λ (i : ℕ). runs_in (answers (rounds i ticking) s)) (zero-add b) ∙ sym (zero-add (runs_in (answers (rounds b ticking) s)))
runs-parted (suc a) b ticking s =
    let t : S = after (rounds 1 ticking) s in
    let e : suc a + b ≡ suc (a + b) = omega arith in
    ap (λ (i : ℕ). runs_in (answers (rounds i ticking) s)) e
    ∙ runs-rounds (a + b) ticking s
    ∙ ap (λ (n : ℕ). one_if (has_run (happens s Step).answer) + n) (runs-parted a b ticking t)
    ∙ grouped (one_if (has_run (happens s Step).answer)) (runs_in (answers (rounds a ticking) t))
    (runs_in (answers (rounds b ticking) (after (rounds a ticking) t)))
    ∙ ap (λ (n : ℕ). n + runs_in (answers (rounds b ticking) (after (rounds a ticking) t))) (sym (runs-rounds a ticking s))
    ∙ ap (λ (u : S). runs_in (answers (rounds (suc a) ticking) s) + runs_in (answers (rounds b ticking) u)) (sym (rounds-first a ticking s))
  where
    grouped : (x y z : ℕ) → x + (y + z) ≡ x + y + z
    grouped x y z = omega arith

-- rounds that are made of those that are left
pub rounds-left : (left made : ℕ) (ticking : Bool) (s t : S) → made ≤ left → t ≡ after (rounds made ticking) s
    → after (rounds (left - made) ticking) t ≡ after (rounds left ticking) s
rounds-left left made ticking s t few is =
    let e : made + (left - made) ≡ left = omega arith in
    ap (λ (u : S). after (rounds (left - made) ticking) u) is ∙ sym (rounds-parted made (left - made) ticking s) ∙ ap (λ (i : ℕ). after (rounds i ticking) s) e

pub runs-left : (left made ran : ℕ) (ticking : Bool) (s t : S) → made ≤ left → t ≡ after (rounds made ticking) s
    → ran ≡ runs_in (answers (rounds made ticking) s)
    → ran + runs_in (answers (rounds (left - made) ticking) t) ≡ runs_in (answers (rounds left ticking) s)
runs-left left made ran ticking s t few is count =
    let e : made + (left - made) ≡ left = omega arith in
    ap (λ (n : ℕ). n + runs_in (answers (rounds (left - made) ticking) t)) count
    ∙ ap (λ (u : S). runs_in (answers (rounds made ticking) s) + runs_in (answers (rounds (left - made) ticking) u)) is
    ∙ sym (runs-parted made (left - made) ticking s)
    ∙ ap (λ (i : ℕ). runs_in (answers (rounds i ticking) s)) e

-- a safe machine is safe after a run
pub safe-after : (es : List Event) (s : S) → Safe s → Safe (after es s)
safe-after [] s h = h
safe-after (e ∷ es) s h = safe-after es (happens s e).state (safe-happens s e h)
