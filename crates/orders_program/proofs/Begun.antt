-- The size of the machine on which orders begin.
use Rattle.std.proofs.Common.{◌≡◌, ◌∙◌, ℕ, Bool, true, false, cond, refl, sym, ap, subst, suc, ◌*◌, ◌≤◌, map, replicate, ◌+◌, ◌++◌, append_assoc, append-nil, arith, List, [], ◌∷◌, Option, Some, None, Result, Ok, Err, nat_le}
use Rattle.word36.specs.declared.sizes.TheConstants.{BLOCK_WORDS, JOBS, LINES, MOST_BLOCKS, MOST_REQUESTS}
use Rattle.job_sched.specs.declared.job_error.JobError.{JobError}
use Rattle.uuo_calls.specs.Performed.{World}
use Rattle.machine.specs.Machine.{Made, S, admitted, at_boot, examined, logged_in, made_if, started}
use Rattle.machine.specs.Safe.{Safe}
use Rattle.job_order_laws.specs.Turned.{pc_in}
use Rattle.job_moves.specs.Moves.{IsAwake, begun}
use Rattle.job_moves.proofs.Resting.{erased_is_awake}
use Rattle.run_record.specs.declared.happened.RunEvent.{RunEvent}
use Rattle.run_record.specs.declared.happened.RunEvent.TheVariants.{Login, Start, Typed}
use Rattle.source_labels.specs.declared.sources.Program.{Program}
use Rattle.orders_program.specs.Begun.{after_number, all_started, begun_with, logged, logins, starts}

either-keeps : (b : Bool) (x y : Made) (n : ℕ) → x.state.blocks ≡ n → y.state.blocks ≡ n → (cond b x y).state.blocks ≡ n
either-keeps true x y n p q = p
either-keeps false x y n p q = q

admitted-keeps : (s : S) (line : ℕ) (words : List (ℕ × ℕ)) (start blocks : ℕ) (o : Option ℕ)
    → (admitted s line words start blocks o).state.blocks ≡ s.blocks
admitted-keeps s line words start blocks (Some n) = either-keeps (nat_le blocks s.world.cores.free) _ _ s.blocks refl refl
admitted-keeps s line words start blocks None = refl

examined-keeps : (s : S) (line : ℕ) (words : List (ℕ × ℕ)) (start : ℕ) (o : Option ℕ)
    → (examined s line words start o).state.blocks ≡ s.blocks
examined-keeps s line words start (Some top) = admitted-keeps s line words start _ _
examined-keeps s line words start None = refl

login-keeps : (s : S) (line : ℕ) (words : List (ℕ × ℕ)) (start : ℕ) → (logged_in s line words start).state.blocks ≡ s.blocks
login-keeps s line words start =
    either-keeps (nat_le LINES line) _ _ s.blocks refl
    (either-keeps _ _ _ s.blocks refl (examined-keeps s line words start _))

made-keeps : (s : S) (w : World) (r : Result (Unit {0}) JobError) → (made_if s w r).state.blocks ≡ s.blocks
made-keeps s w (Ok x) = refl
made-keeps s w (Err e) = refl

start-keeps : (s : S) (n : ℕ) → (started s n).state.blocks ≡ s.blocks
start-keeps s n = made-keeps s _ _

logged-keeps : (line : ℕ) (ps : List Program) (s : S) → (logged line ps s).blocks ≡ s.blocks
logged-keeps line [] s = refl
logged-keeps line (p ∷ more) s =
    logged-keeps (after_number line) more (logged_in s line p.image.words.items p.image.start).state
    ∙ login-keeps s line p.image.words.items p.image.start

started-keeps : (job : ℕ) (ps : List Program) (s : S) → (all_started job ps s).blocks ≡ s.blocks
started-keeps job [] s = refl
started-keeps job (p ∷ more) s = started-keeps (after_number job) more (started s job).state ∙ start-keeps s job

pub begun-blocks : (blocks quantum : ℕ) (ps : List Program) → (begun_with blocks quantum ps).blocks ≡ blocks
begun-blocks blocks quantum ps =
    started-keeps 1 ps (logged 0 ps (at_boot MOST_REQUESTS blocks quantum)) ∙ logged-keeps 0 ps (at_boot MOST_REQUESTS blocks quantum)

pub no-logins : [] ≡ logins 0
unfolding logins
no-logins = refl

login-next : (n : ℕ) → logins (suc n) ≡ logins n ++ Login n (n + 1) ∷ []
unfolding logins
login-next n = refl

pub one-login : (n : ℕ) (es more : List RunEvent) → es ≡ logins n → more ≡ es ++ Login n (n + 1) ∷ [] → more ≡ logins (n + 1)
one-login n es more before e =
    let one : n + 1 ≡ suc n = omega arith in
    e ∙ ap (λ l. l ++ Login n (n + 1) ∷ []) before ∙ sym (ap logins one ∙ login-next n)

no-starts : starts 0 ≡ []
unfolding starts
no-starts = refl

pub none-started : (es : List RunEvent) → es ≡ es ++ starts 0
none-started es = sym (ap (λ l. es ++ l) no-starts ∙ append-nil es)

start-next : (n : ℕ) → starts (suc n) ≡ starts n ++ (Start (n + 1) ∷ Typed n 3 ∷ [])
unfolding starts
start-next n = refl

pub one-start : (n : ℕ) (first es more most : List RunEvent) → es ≡ first ++ starts n → more ≡ es ++ Start (n + 1) ∷ []
    → most ≡ more ++ Typed n 3 ∷ [] → most ≡ first ++ starts (n + 1)
one-start n first es more most before e f =
    let one : n + 1 ≡ suc n = omega arith in
    f ∙ ap (λ l. l ++ Typed n 3 ∷ []) e ∙ append_assoc es (Start (n + 1) ∷ []) (Typed n 3 ∷ [])
    ∙ ap (λ l. l ++ (Start (n + 1) ∷ Typed n 3 ∷ [])) before ∙ append_assoc first (starts n) (Start (n + 1) ∷ Typed n 3 ∷ [])
    ∙ ap (λ l. first ++ l) (sym (ap starts one ∙ start-next n))

-- no job sleeps on the machine whose world is that of a safe one
pub awake-start : (s : S) (blocks : ℕ) → Safe s → blocks ≡ s.blocks
    → IsAwake (begun (record { world = s.world; time = 0; quantum = 1; blocks = blocks }))
awake-start s blocks h e =
    erased_is_awake
    (record {
      machine = record { world = s.world; time = 0; quantum = 1; blocks = blocks };
      texts = replicate (JOBS + 1) [];
      last = map pc_in s.world.table.jobs;
    })
    (record {
      housed = h.housed;
      queued = h.queued;
      apart = h.apart;
      total = h.total ∙ ap (λ b. b * BLOCK_WORDS) (sym e);
      most = subst (λ b. b ≤ MOST_BLOCKS) (sym e) h.most;
      rings = h.rings;
      numbers = h.numbers;
      ranges = h.ranges;
    })
