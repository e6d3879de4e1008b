-- The statements of a text: the steps of the loop that reads them.
use Rattle.std.proofs.Common.{◌≡◌, ℕ, suc, ◌+◌, ◌-◌, ◌<◌, ◌≤◌, Bool, true, false, Result, Ok, Err, refl, sym, ap, ◌∙◌, arith}
use Rattle.macro_expressions.specs.declared.fault.Fault.{Fault}
use Rattle.macro_expressions.specs.declared.fault.Fault.TheVariants as faults
use Rattle.macro_expressions.specs.declared.fault.Stop.{Stop}
use Rattle.macro_expressions.specs.declared.fault.Stop.TheVariants.{Beyond}
use Rattle.macro_expressions.specs.Reading.{◌>>=◌, Front, Fails}
use Rattle.macro_meaning.specs.Meaning.{Walk, Left, going_on, walked}

abbrev pub Next : Type 0
Next = Walk → Front → Result (Bool × Left) Stop

-- what a text leaves, by what its next statement does
by_next : Next → ℕ → Result (Bool × Left) Stop → Result Left Stop
by_next next n read = read >>= λ x. going_on (walked next n) x.0 x.1

begins : (next : Next) (n : ℕ) (w : Walk) (s : Front) → walked next (suc n) w s ≡ by_next next n (next w s)
unfolding walked by_next
begins next n w s = refl

at_next : (next : Next) (n i : ℕ) (w : Walk) (s : Front) (read : Result (Bool × Left) Stop)
    → i < n → next w s ≡ read → walked next (n - i) w s ≡ by_next next (n - (i + 1)) read
at_next next n i w s read lt is =
    let k : n - i ≡ suc (n - (i + 1)) = omega arith in
    ap (λ m. walked next m w s) k ∙ (begins next (n - (i + 1)) w s ∙ ap (by_next next (n - (i + 1))) is)

goes_on : (next : Next) (n : ℕ) (v : Walk) (t : Front) → by_next next n (Ok (false, (v, t))) ≡ walked next n v t
unfolding by_next
goes_on next n v t = refl

ends : (next : Next) (n : ℕ) (v : Walk) (t : Front) → by_next next n (Ok (true, (v, t))) ≡ Ok (v, t)
unfolding by_next
ends next n v t = refl

stops : (next : Next) (n : ℕ) (stop : Stop) → by_next next n (Err stop) ≡ Err stop
unfolding by_next
stops next n stop = refl

-- a statement is read, and more come
pub walk_goes_on : (next : Next) (n i : ℕ) (w v : Walk) (s t : Front) (is_end : Bool) (total : Result Left Stop)
    → i < n → next w s ≡ Ok (is_end, (v, t)) → is_end ≡ false
    → walked next (n - i) w s ≡ total → walked next (n - (i + 1)) v t ≡ total
walk_goes_on next n i w v s t is_end total lt steps more so_far =
    sym (at_next next n i w s (Ok (false, (v, t))) lt (steps ∙ ap (λ b. Ok (b, (v, t))) more) ∙ goes_on next (n - (i + 1)) v t) ∙ so_far

-- the end is read
pub walk_ends : (next : Next) (n i : ℕ) (w v : Walk) (s t : Front) (is_end : Bool) (total : Result Left Stop)
    → i < n → next w s ≡ Ok (is_end, (v, t)) → is_end ≡ true
    → walked next (n - i) w s ≡ total → total ≡ Ok (v, t)
walk_ends next n i w v s t is_end total lt steps is so_far =
    sym so_far ∙ (at_next next n i w s (Ok (true, (v, t))) lt (steps ∙ ap (λ b. Ok (b, (v, t))) is) ∙ ends next (n - (i + 1)) v t)

-- a statement is not read
pub walk_stops : (next : Next) (e : Fault) (n i : ℕ) (w : Walk) (s : Front) (total : Result Left Stop)
    → i < n → Fails e (next w s) → walked next (n - i) w s ≡ total → Fails e total
walk_stops next faults.Memory n i w s total lt fails so_far = tt
walk_stops next (faults.Stopped stop) n i w s total lt fails so_far =
    sym so_far ∙ (at_next next n i w s (Err stop) lt fails ∙ stops next (n - (i + 1)) stop)

-- there can be no more
pub walk_done : (next : Next) (n i : ℕ) (w : Walk) (s : Front) (total : Result Left Stop)
    → n ≤ i → walked next (n - i) w s ≡ total → total ≡ Err Beyond
unfolding walked
walk_done next n i w s total le so_far =
    let k : n - i ≡ 0 = omega arith in
    let one : walked next (n - i) w s ≡ Err Beyond = rw k refl in
    sym so_far ∙ one
