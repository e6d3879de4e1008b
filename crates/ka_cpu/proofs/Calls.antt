-- Which instructions call the monitor: CALLI and TTCALL, and no other.
use Rattle.std.proofs.Common.{◌≡◌, ◌∙◌, ℕ, ◌||◌, Bool, true, false, if◌then◌else◌, List, Option, Some, None, Result, Ok, Err, refl, ap, nat_eq}
use Rattle.std.specs.Int.Count.{count_leading_zeros}
use Rattle.ka_isa.specs.Families.{family_of}
use Rattle.ka_isa.specs.declared.Change.{Change}
use Rattle.ka_isa.specs.declared.Family.{Family}
use Rattle.ka_isa.specs.declared.Family.TheVariants.{Byte, Move, Movs, Movn, Movm, Imul, Mul, Idiv, Shift, Jffo, Exch, Blt, Aobj, Jrst, Jfcl, Pushj}
use Rattle.ka_isa.specs.declared.Family.TheVariants.{Push, Pop, Popj, Jsr, Jsp, Jsa, Jra, Add, Sub, Compare, JumpOn, SkipOn, Boolean, Half, Test, Calli}
use Rattle.ka_isa.specs.declared.Family.TheVariants.{Ttcall}
use Rattle.word36.specs.Words.{is_negative}
use Rattle.ka_word.specs.Bytes.{byte_of, deposited}
use Rattle.ka_word.specs.Quotients.{no_quotient, quotient_of, remainder_of}
use Rattle.ka_word.specs.Shifts.{ash_of, ash_overflows, lsh_of, lshc_of, rot_of, rotc_of}
use Rattle.ka_cpu.specs.Addresses.{Target, target_of, reading, address_in}
use Rattle.ka_cpu.specs.Arithmetic.{add_row, added, imul_row, mul_row, idiv_row, to_next}
use Rattle.ka_cpu.specs.Blocks.{blt_after, all_legal}
use Rattle.ka_cpu.specs.Booleans.{boolean_row}
use Rattle.ka_cpu.specs.Bytes.{byte_after, byte_done, byte_effect, behind_pointer, with_pointer, loads, increments, located_byte}
use Rattle.ka_cpu.specs.Conditions.{compare_row, jump_row, skip_row}
use Rattle.ka_cpu.specs.Effects.{After, Effect, Goes_on, Halts, Overruns, a_of, applied, computed_to}
use Rattle.ka_cpu.specs.Effects.{finished, goes_on, goes_to, memory_legal, outcome_of, stopped}
use Rattle.ka_state.specs.Registers.{next_pc}
use Rattle.ka_cpu.specs.Exec.{ac_field, at_address, carried_out, exec, is_listed, op_of, performed, row_of, word_behind}
use Rattle.ka_cpu.specs.Halves.{half_row, destination}
use Rattle.ka_cpu.specs.Instructions.{Instruction}
use Rattle.ka_cpu.specs.Jumps.{jffo_row, aobj_row, jrst_row, jfcl_row, jsr_row, jsp_row, jsa_row, jra_row, call_row, restored}
use Rattle.ka_state.specs.Memory.{word_at}
use Rattle.ka_cpu.specs.Moves.{move_row, transferred, exch_row}
use Rattle.ka_cpu.specs.Next.{call_in}
use Rattle.ka_cpu.specs.Shifts.{shift_row, pair_of, pair_effect}
use Rattle.ka_cpu.specs.Stacks.{pushj_row, push_row, pop_row, popj_row}
use Rattle.ka_cpu.specs.Tests.{test_row}
use Rattle.ka_cpu.specs.declared.limits.TheConstants.{MOST_EXECUTES}
use Rattle.ka_cpu.specs.declared.moves.Transfer.{Transfer}
use Rattle.ka_cpu.specs.declared.moves.Transfer.TheVariants.{Plain, Swapped, Negated, Magnitude}
use Rattle.ka_state.specs.declared.outcome.CallKind.{CallKind}
use Rattle.ka_state.specs.declared.outcome.CallKind.TheVariants as call
use Rattle.ka_state.specs.declared.outcome.Outcome.TheVariants.{Done}
use Rattle.ka_state.specs.declared.outcome.StopReason.{StopReason}
use Rattle.ka_state.specs.declared.outcome.StopReason.TheVariants.{IllegalAddress, IllegalInstruction}
use Rattle.ka_state.specs.declared.registers.Regs.{Regs}
use Rattle.ka_cpu.proofs.ExecLaws.{by_test}
use Rattle.ka_cpu.proofs.Executes.{at_done, at_refused, performed_by}

-- the call of an operation of this family
abbrev called_by : Family → Instruction → Option (CallKind × ℕ × ℕ)
called_by Calli n = Some (call.Calli, n.ac, n.e)
called_by Ttcall n = Some (call.Ttcall, n.ac, n.e)
called_by _ n = None

-- an effect that is no call
abbrev Silent : Effect → Type 0
Silent x = call_in (outcome_of x.ending) ≡ None

SilentRow : Result Effect StopReason → Type 0
SilentRow (Err r) = Unit {0}
SilentRow (Ok x) = Silent x

SilentAfter : After → Type 0
SilentAfter a = call_in a.outcome ≡ None

silent-ok : (x : Effect) → Silent x → SilentRow (Ok x)
unfolding SilentRow
silent-ok x h = h

silent-stopped : (g : Regs) (core : List ℕ) (r : StopReason) → SilentAfter (stopped g core r)
unfolding SilentAfter
silent-stopped g core r = refl

silent-done : (g : Regs) (core : List ℕ) → SilentAfter (record { regs = g; core = core; outcome = Done })
unfolding SilentAfter
silent-done g core = refl

silent-reading : (o : Option ℕ) (f : ℕ → Result Effect StopReason) → ((w : ℕ) → SilentRow (f w)) → SilentRow (reading o f)
unfolding SilentRow
silent-reading None f h = tt
silent-reading (Some w) f h = h w

silent-if : (b : Bool) (x y : Effect) → Silent x → Silent y → Silent (if b then x else y)
silent-if true x y h i = h
silent-if false x y h i = i

silent-stack : (b : Bool) → call_in (outcome_of (if b then Overruns else Goes_on)) ≡ None
silent-stack true = refl
silent-stack false = refl

silent-transferred : (t : Transfer) (g : Regs) (n : Instruction) (w : ℕ) → Silent (transferred t g n w)
silent-transferred Plain g n w = refl
silent-transferred Swapped g n w = refl
silent-transferred Negated g n w = refl
silent-transferred Magnitude g n w = silent-if (is_negative w) _ _ refl refl

silent-move : (t : Transfer) (g : Regs) (core : List ℕ) (n : Instruction) → SilentRow (move_row t g core n)
unfolding move_row
silent-move t g core n = silent-reading _ _ (λ w. silent-ok _ (silent-transferred t g n w))

silent-added : (subtracts : Bool) (g : Regs) (n : Instruction) (m : ℕ) → Silent (added subtracts g n m)
silent-added true g n m = refl
silent-added false g n m = refl

silent-add : (subtracts : Bool) (g : Regs) (core : List ℕ) (n : Instruction) → SilentRow (add_row subtracts g core n)
unfolding add_row
silent-add subtracts g core n = silent-reading _ _ (λ m. silent-ok _ (silent-added subtracts g n m))

silent-shift : (g : Regs) (n : Instruction) → Silent (shift_row g n)
unfolding shift_row
silent-shift g n =
    let ash = record (goes_on g 1) {
      ac = Some (ash_of n.e (a_of g n));
      flags = record g.flags { overflow = g.flags.overflow || ash_overflows n.e (a_of g n) };
    } in
    let rot = record (goes_on g 1) { ac = Some (rot_of n.e (a_of g n)) } in
    let lsh = record (goes_on g 1) { ac = Some (lsh_of n.e (a_of g n)) } in
    let rotc = pair_effect g (rotc_of n.e (pair_of g n)) in
    let lshc = pair_effect g (lshc_of n.e (pair_of g n)) in
    let pairs = if nat_eq n.op 0o245 then rotc else lshc in
    let most = if nat_eq n.op 0o242 then lsh else pairs in
    silent-if (nat_eq n.op 0o240) ash (if nat_eq n.op 0o241 then rot else most) refl
    (silent-if (nat_eq n.op 0o241) rot most refl (silent-if (nat_eq n.op 0o242) lsh pairs refl (silent-if (nat_eq n.op 0o245) rotc lshc refl refl)))

silent-jrst : (g : Regs) (n : Instruction) (used : Option ℕ) → Silent (jrst_row g n used)
unfolding jrst_row
silent-jrst g n used =
    let flags = record (goes_to g n.e) { flags = restored g.flags used } in
    let halt = record (goes_to g n.e) { ending = Halts } in
    silent-if (nat_eq n.ac 0) (goes_to g n.e) (if nat_eq n.ac 2 then flags else halt) refl (silent-if (nat_eq n.ac 2) flags halt refl refl)

silent-jffo : (g : Regs) (n : Instruction) → Silent (jffo_row g n)
unfolding jffo_row
silent-jffo g n =
    silent-if (nat_eq (a_of g n) 0) (record (goes_on g 1) { next = Some 0 }) (record (goes_to g n.e) { next = Some (count_leading_zeros 36 (a_of g n)) }) refl refl

silent-idiv : (g : Regs) (core : List ℕ) (n : Instruction) → SilentRow (idiv_row g core n)
unfolding idiv_row
silent-idiv g core n =
    silent-reading _ _
    (λ w. silent-ok _
    (silent-if (no_quotient (a_of g n) w) (record (goes_on g 1) { flags = record g.flags { overflow = true; no_divide = true } })
    (record (computed_to g n (quotient_of (a_of g n) w)) { next = to_next n (remainder_of (a_of g n) w) }) refl refl))

silent-half : (g : Regs) (core : List ℕ) (n : Instruction) → SilentRow (half_row g core n)
unfolding half_row
silent-half g core n = silent-reading _ _ (λ w. silent-reading (destination g core n) _ (λ d. silent-ok _ refl))

silent-exch : (g : Regs) (core : List ℕ) (n : Instruction) → SilentRow (exch_row g core n)
unfolding exch_row
silent-exch g core n = silent-reading _ _ (λ w. silent-ok _ refl)

silent-imul : (g : Regs) (core : List ℕ) (n : Instruction) → SilentRow (imul_row g core n)
unfolding imul_row
silent-imul g core n = silent-reading _ _ (λ w. silent-ok _ refl)

silent-mul : (g : Regs) (core : List ℕ) (n : Instruction) → SilentRow (mul_row g core n)
unfolding mul_row
silent-mul g core n = silent-reading _ _ (λ w. silent-ok _ refl)

silent-boolean : (g : Regs) (core : List ℕ) (n : Instruction) → SilentRow (boolean_row g core n)
unfolding boolean_row
silent-boolean g core n = silent-reading _ _ (λ w. silent-ok _ refl)

silent-test : (g : Regs) (core : List ℕ) (n : Instruction) → SilentRow (test_row g core n)
unfolding test_row
silent-test g core n = silent-reading _ _ (λ w. silent-ok _ refl)

silent-compare : (g : Regs) (core : List ℕ) (n : Instruction) → SilentRow (compare_row g core n)
unfolding compare_row
silent-compare g core n = silent-reading _ _ (λ w. silent-ok _ refl)

silent-jra : (g : Regs) (core : List ℕ) (n : Instruction) → SilentRow (jra_row g core n)
unfolding jra_row
silent-jra g core n = silent-reading _ _ (λ w. silent-ok _ refl)

silent-skip : (c : Change) (g : Regs) (core : List ℕ) (n : Instruction) → SilentRow (skip_row c g core n)
unfolding skip_row
silent-skip c g core n = silent-reading _ _ (λ w. silent-ok _ refl)

silent-push : (g : Regs) (core : List ℕ) (n : Instruction) → SilentRow (push_row g core n)
unfolding push_row
silent-push g core n = silent-reading _ _ (λ w. silent-ok _ (silent-stack _))

silent-pop : (g : Regs) (core : List ℕ) (n : Instruction) → SilentRow (pop_row g core n)
unfolding pop_row
silent-pop g core n = silent-reading _ _ (λ w. silent-ok _ (silent-stack _))

silent-popj : (g : Regs) (core : List ℕ) (n : Instruction) → SilentRow (popj_row g core n)
unfolding popj_row
silent-popj g core n = silent-reading _ _ (λ w. silent-ok _ (silent-stack _))

silent-row : (f : Family) (g : Regs) (core : List ℕ) (n : Instruction) (used : Option ℕ) → called_by f n ≡ None → SilentRow (row_of f g core n used)
unfolding SilentRow pushj_row jump_row aobj_row jfcl_row jsr_row jsa_row jsp_row
silent-row Move g core n used h = silent-move Plain g core n
silent-row Movs g core n used h = silent-move Swapped g core n
silent-row Movn g core n used h = silent-move Negated g core n
silent-row Movm g core n used h = silent-move Magnitude g core n
silent-row Imul g core n used h = silent-imul g core n
silent-row Mul g core n used h = silent-mul g core n
silent-row Idiv g core n used h = silent-idiv g core n
silent-row Shift g core n used h = silent-shift g n
silent-row Jffo g core n used h = silent-jffo g n
silent-row Exch g core n used h = silent-exch g core n
silent-row Aobj g core n used h = refl
silent-row Jrst g core n used h = silent-jrst g n used
silent-row Jfcl g core n used h = refl
silent-row Pushj g core n used h = silent-stack _
silent-row Push g core n used h = silent-push g core n
silent-row Pop g core n used h = silent-pop g core n
silent-row Popj g core n used h = silent-popj g core n
silent-row Jsr g core n used h = refl
silent-row Jsp g core n used h = refl
silent-row Jsa g core n used h = refl
silent-row Jra g core n used h = silent-jra g core n
silent-row Add g core n used h = silent-add false g core n
silent-row Sub g core n used h = silent-add true g core n
silent-row Compare g core n used h = silent-compare g core n
silent-row (JumpOn c) g core n used h = refl
silent-row (SkipOn c) g core n used h = silent-skip c g core n
silent-row Boolean g core n used h = silent-boolean g core n
silent-row Half g core n used h = silent-half g core n
silent-row Test g core n used h = silent-test g core n
silent-row Calli g core n used h = cc
silent-row Ttcall g core n used h = cc
silent-row _ g core n used h = tt

silent-applied : (g : Regs) (core : List ℕ) (n : Instruction) (x : Effect) → Silent x → SilentAfter (applied g core n x)
unfolding SilentAfter
silent-applied g core n x h = by_test (λ (a : After). call_in a.outcome ≡ None) (memory_legal core x.memory) _ _ (λ _. h) (λ _. refl)

silent-finished : (g : Regs) (core : List ℕ) (n : Instruction) (r : Result Effect StopReason) → SilentRow r → SilentAfter (finished g core n r)
unfolding SilentRow
silent-finished g core n (Err r) h = silent-stopped g core r
silent-finished g core n (Ok x) h = silent-applied g core n x h

silent-blt : (g : Regs) (core : List ℕ) (n : Instruction) → SilentAfter (blt_after g core n)
unfolding blt_after SilentAfter
silent-blt g core n = by_test (λ (a : After). call_in a.outcome ≡ None) (all_legal _ core _ _) _ _ (λ _. refl) (λ _. refl)

silent-byte_done : (old : Regs) (old_core : List ℕ) (g : Regs) (core : List ℕ) (n : Instruction) (p : ℕ) (r : Result (ℕ × ℕ) StopReason)
    → SilentAfter (byte_done old old_core g core n p r)
silent-byte_done old old_core g core n p (Err r) = silent-stopped old old_core r
silent-byte_done old old_core g core n p (Ok b) =
    silent-applied g core n (byte_effect g n p b.0 b.1)
    (silent-if (loads n.op) (record (goes_on g 1) { ac = Some (byte_of p b.1) }) (record (goes_on g 1) { memory = Some (b.0, deposited p (a_of g n) b.1) }) refl refl)

silent-behind : (old : Regs) (old_core : List ℕ) (g : Regs) (core : List ℕ) (n : Instruction) (p : ℕ)
    → SilentAfter (behind_pointer old old_core g core n p)
silent-behind old old_core g core n p =
    by_test SilentAfter (nat_eq n.op 0o133) _ _ (λ _. silent-done (record g { pc = next_pc g }) core)
    (λ _. silent-byte_done old old_core g core n p (located_byte g.ac core p))

silent-pointer : (g : Regs) (core : List ℕ) (n : Instruction) (o : Option ℕ) → SilentAfter (with_pointer g core n o)
silent-pointer g core n None = silent-stopped g core IllegalAddress
silent-pointer g core n (Some p) =
    by_test SilentAfter (increments n.op) _ _ (λ _. silent-behind g core _ _ n _)
    (λ _. silent-byte_done g core g core n p (located_byte g.ac core p))

silent-byte : (g : Regs) (core : List ℕ) (n : Instruction) → SilentAfter (byte_after g core n)
unfolding byte_after
silent-byte g core n = silent-pointer g core n (word_at g.ac core n.e)

call-row : (kind : CallKind) (g : Regs) (core : List ℕ) (n : Instruction) → call_in (finished g core n (Ok (call_row kind g n))).outcome ≡ Some (kind, n.ac, n.e)
unfolding call_row
call-row kind g core n = refl

call-carried : (f : Family) (g : Regs) (core : List ℕ) (n : Instruction) (used : Option ℕ) → called_by f n ≡ None → SilentAfter (carried_out f g core n used)
call-carried Blt g core n used h = silent-blt g core n
call-carried Byte g core n used h = silent-byte g core n
call-carried f g core n used h = silent-finished g core n (row_of f g core n used) (silent-row f g core n used h)

-- a word that is no XCT
not-called : (f : Family) (n : Instruction) → (f ≡ Calli → ⊥) → (f ≡ Ttcall → ⊥) → called_by f n ≡ None
not-called Calli n h i = absurd (h refl)
not-called Ttcall n h i = absurd (i refl)
not-called _ n h i = refl

silent-address : (g : Regs) (core : List ℕ) (w : ℕ) (t : Result Target StopReason) → (family_of (op_of w) ≡ Calli → ⊥) → (family_of (op_of w) ≡ Ttcall → ⊥)
    → SilentAfter (at_address g core w t)
silent-address g core w (Err r) h i = silent-stopped g core r
silent-address g core w (Ok t) h i = call-carried (family_of (op_of w)) g core (record { op = op_of w; ac = ac_field w; e = t.e }) t.used (not-called _ _ h i)

silent-performed : (g : Regs) (core : List ℕ) (w : ℕ) → (family_of (op_of w) ≡ Calli → ⊥) → (family_of (op_of w) ≡ Ttcall → ⊥)
    → SilentAfter (performed g core w)
unfolding performed
silent-performed g core w h i =
    by_test SilentAfter (is_listed (family_of (op_of w)) (ac_field w)) _ _
    (λ _. silent-address g core w (target_of g.ac core w) h i) (λ _. silent-stopped g core IllegalInstruction)

pub silent-word : (g : Regs) (core : List ℕ) (w : ℕ) → (family_of (op_of w) ≡ Calli → ⊥) → (family_of (op_of w) ≡ Ttcall → ⊥)
    → call_in (performed g core w).outcome ≡ None
unfolding SilentAfter
silent-word g core w h i = silent-performed g core w h i

pub calli-word : (g : Regs) (core : List ℕ) (w e : ℕ) → family_of (op_of w) ≡ Calli → Ok e ≡ address_in (target_of g.ac core w)
    → call_in (performed g core w).outcome ≡ Some (call.Calli, ac_field w, e)
calli-word g core w e f h =
    let listed : is_listed (family_of (op_of w)) (ac_field w) ≡ true = rw f refl in
    ap (λ (a : After). call_in a.outcome) (performed_by true g core w listed ∙ at_done g core w e h) ∙ rw f (call-row call.Calli g core _)

pub ttcall-word : (g : Regs) (core : List ℕ) (w e : ℕ) → family_of (op_of w) ≡ Ttcall → Ok e ≡ address_in (target_of g.ac core w)
    → call_in (performed g core w).outcome ≡ Some (call.Ttcall, ac_field w, e)
ttcall-word g core w e f h =
    let listed : is_listed (family_of (op_of w)) (ac_field w) ≡ true = rw f refl in
    ap (λ (a : After). call_in a.outcome) (performed_by true g core w listed ∙ at_done g core w e h) ∙ rw f (call-row call.Ttcall g core _)

refused-either : (b : Bool) (g : Regs) (core : List ℕ) (w : ℕ) (r : StopReason) → is_listed (family_of (op_of w)) (ac_field w) ≡ b
    → Err r ≡ address_in (target_of g.ac core w) → call_in (performed g core w).outcome ≡ None
refused-either true g core w r l h = ap (λ (a : After). call_in a.outcome) (performed_by true g core w l ∙ at_refused g core w r h)
refused-either false g core w r l h = ap (λ (a : After). call_in a.outcome) (performed_by false g core w l)

pub refused-word : (g : Regs) (core : List ℕ) (w : ℕ) (r : StopReason) → Err r ≡ address_in (target_of g.ac core w)
    → call_in (performed g core w).outcome ≡ None
refused-word g core w r h = refused-either (is_listed (family_of (op_of w)) (ac_field w)) g core w r refl h

pub ruleset word_calls = (silent-word, calli-word, ttcall-word, refused-word)

-- the instruction at the PC, by the word that is executed
pub next-none : (g : Regs) (core : List ℕ) → word_at g.ac core g.pc ≡ None → call_in (exec g core).outcome ≡ None
unfolding exec
next-none g core h = rw h refl

pub next-refused : (g : Regs) (core : List ℕ) (w : ℕ) (r : StopReason) → word_at g.ac core g.pc ≡ Some w → word_behind MOST_EXECUTES g.ac core w ≡ Err r
    → call_in (exec g core).outcome ≡ None
unfolding exec
next-refused g core w r h b = rw h (rw b refl)

pub next-word : (g : Regs) (core : List ℕ) (w v : ℕ) → word_at g.ac core g.pc ≡ Some w → word_behind MOST_EXECUTES g.ac core w ≡ Ok v
    → call_in (exec g core).outcome ≡ call_in (performed g core v).outcome
unfolding exec
next-word g core w v h b = rw h (rw b refl)

pub ruleset next_calls = (next-none, next-refused, next-word)
