-- What the machine does at a word of which it is said that it is not here.
use Rattle.std.proofs.Common.{◌≡◌, ◌∙◌, ap, refl, ℕ, zero, suc, ◌+◌, ◌%◌, ◌^◌, ◌==◌, Bool, true, false, not, ◌&&◌, ◌||◌, List, if◌then◌else◌}
use Rattle.std.specs.Prelude.{Option, Some, None, Result, Ok, Err, slice_index}
use Rattle.std.proofs.lemmas.Bool.{and_parts}
use Rattle.word36.specs.Words.{right_half}
use Rattle.ka_isa.specs.declared.Family.{Family}
use Rattle.ka_isa.specs.declared.Family.TheVariants.{Calli, Ttcall}
use Rattle.ka_isa.specs.Fields.{fields_of}
use Rattle.ka_isa.specs.Families.{family_of}
use Rattle.ka_state.specs.declared.registers.Regs.{Regs}
use Rattle.ka_state.specs.declared.outcome.CallKind.{CallKind}
use Rattle.ka_state.specs.declared.outcome.CallKind.TheVariants as call
use Rattle.ka_state.specs.declared.outcome.Outcome.TheVariants as outcome
use Rattle.ka_state.specs.declared.outcome.StopReason.{StopReason}
use Rattle.ka_state.specs.declared.outcome.StopReason.TheVariants.{AddressChain, IllegalInstruction}
use Rattle.ka_cpu.specs.declared.limits.TheConstants.{MOST_LINKS}
use Rattle.ka_cpu.specs.Addresses.{Target, reading, is_indirect, index_of, direct_address, target_here, target_from, target_of}
use Rattle.ka_cpu.specs.Effects.{After, finished, stopped}
use Rattle.ka_cpu.specs.Exec.{op_of, ac_field, is_listed, carried_out, at_address, performed}
use Rattle.ka_cpu.specs.Instructions.{Instruction}
use Rattle.ka_cpu.specs.Jumps.{call_row}
use Rattle.ka_state.specs.Memory.{word_at}
use Rattle.uuo_calls.specs.declared.service.Service.{Service}
use Rattle.uuo_calls.specs.declared.service.Service.TheVariants.{Unlisted}
use Rattle.uuo_calls.specs.Performed.{performed_by}
use Rattle.uuo_calls.specs.Services.{service_of}
use Rattle.image_service.specs.NotHere.{is_unlisted, has_own_address, is_unlisted_call, is_left_out, is_of_users, is_not_here, is_refused}
use Rattle.image_service.specs.NotHere.{AreRefused, CallsStopTheirJobs, OthersAreCarriedOut}

-- ---- addresses

-- an address that is not found is refused with nothing changed
abbrev Fails : Result Target StopReason → Type 0
Fails (Ok t) = Unit {0}
Fails (Err r) = is_refused (outcome.Stop r) ≡ true

fails_if : (b : Bool) (x y : Result Target StopReason) → Fails x → Fails y → Fails (if b then x else y)
fails_if true x y f g = f
fails_if false x y f g = g

read_fails : (o : Option ℕ) (f : ℕ → Result Target StopReason) → ((v : ℕ) → Fails (f v)) → Fails (reading o f)
read_fails None f h = refl
read_fails (Some v) f h = h v

targets_fail : (n : ℕ) (ac core : List ℕ) (w : ℕ) (used : Option ℕ) → Fails (target_from n ac core w used)
unfolding target_from
targets_fail zero ac core w used = fails_if (is_indirect w) (Err AddressChain) (Ok (target_here ac w used)) refl tt
targets_fail (suc n) ac core w used =
    fails_if (is_indirect w) (reading (word_at ac core (direct_address ac w)) (λ v. target_from n ac core v (Some v))) (Ok (target_here ac w used))
    (read_fails (word_at ac core (direct_address ac w)) (λ v. target_from n ac core v (Some v)) (λ v. targets_fail n ac core v (Some v))) tt

off : (b : Bool) → not b ≡ true → b ≡ false
off true h = absurd (cc)
off false h = refl

target_if : (b : Bool) (x : Result Target StopReason) (y t : Target) → b ≡ false → (if b then x else Ok y) ≡ Ok t → t ≡ y
target_if true x y t off e = absurd (cc)
target_if false x y t off e = cc

own_from : (n : ℕ) (ac core : List ℕ) (w : ℕ) (used : Option ℕ) (t : Target) → is_indirect w ≡ false
    → target_from n ac core w used ≡ Ok t → t ≡ target_here ac w used
unfolding target_from
own_from zero ac core w used t h e = target_if (is_indirect w) (Err AddressChain) (target_here ac w used) t h e
own_from (suc n) ac core w used t h e =
    target_if (is_indirect w) (reading (word_at ac core (direct_address ac w)) (λ v. target_from n ac core v (Some v))) (target_here ac w used) t h e

own_address : (ac core : List ℕ) (w : ℕ) (t : Target) → has_own_address (fields_of w) ≡ true → target_of ac core w ≡ Ok t → t.e ≡ right_half w
own_address ac core w t h e =
    let own = and_parts (not (is_indirect w)) (index_of w == 0) h in
    ap (λ (k : Target). k.e) (own_from MOST_LINKS ac core w None t (off (is_indirect w) own.0) e)
    ∙ ap (λ b. if b then right_half w else (right_half w + right_half (slice_index ac (index_of w))) % 2 ^ 18) own.1

-- ---- calls

call_refused : (kind : CallKind) (g : Regs) (core : List ℕ) (n : Instruction) → is_unlisted (service_of kind n.ac n.e) ≡ true
    → is_refused (finished g core n (Ok (call_row kind g n))).outcome ≡ true
unfolding call_row
call_refused kind g core n h = h

found : (f : Family) (g : Regs) (core : List ℕ) (w : ℕ) (t : Target) → is_unlisted_call f (fields_of w) ≡ true
    → (has_own_address (fields_of w) ≡ true → t.e ≡ right_half w)
    → is_refused (carried_out f g core (record { op = op_of w; ac = ac_field w; e = t.e }) t.used).outcome ≡ true
found Calli g core w t h own =
    let both = and_parts (has_own_address (fields_of w)) (is_unlisted (service_of call.Calli (ac_field w) (right_half w))) h in
    call_refused call.Calli g core (record { op = op_of w; ac = ac_field w; e = t.e })
    (ap (λ e. is_unlisted (service_of call.Calli (ac_field w) e)) (own both.0) ∙ both.1)
found Ttcall g core w t h own = call_refused call.Ttcall g core (record { op = op_of w; ac = ac_field w; e = t.e }) h
found _ g core w t h own = absurd (cc)

addressed : (g : Regs) (core : List ℕ) (w : ℕ) (r : Result Target StopReason) → is_unlisted_call (family_of (op_of w)) (fields_of w) ≡ true
    → Fails r → ((t : Target) → r ≡ Ok t → has_own_address (fields_of w) ≡ true → t.e ≡ right_half w)
    → is_refused (at_address g core w r).outcome ≡ true
addressed g core w (Err r) h fails own = fails
addressed g core w (Ok t) h fails own = found (family_of (op_of w)) g core w t h (own t refl)

-- ---- words

-- an instruction whose operation is listed, or is not
abbrev either : Bool → Regs → List ℕ → ℕ → After
either b g core w = if b then at_address g core w (target_of g.ac core w) else stopped g core IllegalInstruction

listed_or : (b : Bool) (g : Regs) (core : List ℕ) (w : ℕ) → (not b || is_unlisted_call (family_of (op_of w)) (fields_of w)) ≡ true
    → is_refused (either b g core w).outcome ≡ true
listed_or true g core w h =
    addressed g core w (target_of g.ac core w) h (targets_fail MOST_LINKS g.ac core w None) (λ t e own. own_address g.ac core w t own e)
listed_or false g core w h = refl

pub are_refused : AreRefused
unfolding is_not_here performed
are_refused w g core h =
    listed_or (is_listed (family_of (op_of w)) (ac_field w)) g core w
    (and_parts (is_of_users (op_of w)) (is_left_out (family_of (op_of w)) (fields_of w)) h).1

unlisted_is : (s : Service) → is_unlisted s ≡ true → s ≡ Unlisted
unlisted_is Unlisted h = refl
unlisted_is _ h = absurd (cc)

pub calls_stop : CallsStopTheirJobs
calls_stop w time n c j there h =
    ap (λ o. performed_by w time n o (service_of c.kind c.ac c.e) c.ac c.e) there
    ∙ ap (λ s. performed_by w time n (Some j) s c.ac c.e) (unlisted_is (service_of c.kind c.ac c.e) h)

user_listed : (user listed call : Bool) → user ≡ true → (user && (not listed || call)) ≡ false → listed ≡ true
user_listed true true call u h = refl
user_listed true false call u h = absurd (cc)
user_listed false listed call u h = absurd (cc)

pub others_go : OthersAreCarriedOut
unfolding is_not_here performed
others_go w g core user here =
    ap (λ b. either b g core w)
    (user_listed (is_of_users (op_of w)) (is_listed (family_of (op_of w)) (ac_field w)) (is_unlisted_call (family_of (op_of w)) (fields_of w)) user here)
