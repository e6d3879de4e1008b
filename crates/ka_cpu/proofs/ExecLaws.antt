-- What an instruction always keeps: the number of registers and of words of core, a PC below 2 ^ 18, and how each
-- outcome leaves the state.
use Rattle.std.proofs.Common.{◌≡◌, ◌∙◌, ℕ, zero, suc, ◌+◌, ◌%◌, ◌^◌, ◌<◌, Bool, true, false, cond, if◌then◌else◌, ◌||◌, List, length}
use Rattle.std.proofs.Common.{Option, Some, None, Result, Ok, Err, refl, subst, arith, sym, nat_lt, slice_get, nat_eq}
use Rattle.std.specs.Prelude.{slice_index}
use Rattle.std.specs.Int.Count.{count_leading_zeros}
use Rattle.std.proofs.Math.ListN.{length-set}
use Rattle.ka_isa.specs.Families.{family_of}
use Rattle.ka_isa.specs.declared.Change.{Change}
use Rattle.ka_isa.specs.declared.Family.{Family}
use Rattle.ka_isa.specs.declared.Family.TheVariants.{Byte, Move, Movs, Movn, Movm, Imul, Mul, Idiv, Shift, Jffo, Exch, Blt, Aobj, Jrst, Jfcl, Xct, Pushj}
use Rattle.ka_isa.specs.declared.Family.TheVariants.{Push, Pop, Popj, Jsr, Jsp, Jsa, Jra, Add, Sub, Compare, JumpOn, SkipOn, Boolean, Half, Test, Calli}
use Rattle.ka_isa.specs.declared.Family.TheVariants.{Ttcall, Other}
use Rattle.word36.specs.Words.{right_half, is_negative}
use Rattle.ka_cpu.specs.declared.limits.TheConstants.{MOST_EXECUTES, MOST_LINKS}
use Rattle.ka_cpu.specs.Addresses.{Target, target_of, target_from, is_indirect, direct_address, index_of, reading, at_target}
use Rattle.ka_cpu.specs.Blocks.{Store, stored, moved_words, blt_after, all_legal}
use Rattle.ka_word.specs.Bytes.{byte_of, deposited, incremented}
use Rattle.ka_word.specs.Quotients.{no_quotient, quotient_of, remainder_of}
use Rattle.ka_word.specs.Shifts.{ash_of, ash_overflows, lsh_of, lshc_of, rot_of, rotc_of}
use Rattle.ka_cpu.specs.Bytes.{byte_after, with_pointer, behind_pointer, byte_done, located_byte, byte_effect, increments, loads}
use Rattle.ka_cpu.specs.Effects.{After, Effect, Ending, Goes_on, Calls, Halts, Overruns, EndsAs, outcome_of, stopped, finished, applied, core_memory, ac_memory}
use Rattle.ka_cpu.specs.Effects.{ac_put, memory_legal, next_ac, a_of, goes_on, goes_to, moved_to, moved_operand, computed_to}
use Rattle.ka_state.specs.Registers.{next_pc}
use Rattle.ka_cpu.specs.Exec.{op_of, ac_field, is_listed, row_of, carried_out, at_address, performed, word_behind, word_performed, exec, exec_word}
use Rattle.ka_cpu.specs.Moves.{move_row, transferred, exch_row, negates}
use Rattle.ka_cpu.specs.declared.moves.Transfer.{Transfer}
use Rattle.ka_cpu.specs.declared.moves.Transfer.TheVariants.{Plain, Swapped, Negated, Magnitude}
use Rattle.ka_cpu.specs.Halves.{half_row, destination}
use Rattle.ka_cpu.specs.Arithmetic.{add_row, added, imul_row, mul_row, idiv_row, to_next}
use Rattle.ka_cpu.specs.Conditions.{compare_row, jump_row, skip_row}
use Rattle.ka_cpu.specs.Booleans.{boolean_row}
use Rattle.ka_cpu.specs.Tests.{test_row}
use Rattle.ka_cpu.specs.Shifts.{shift_row, pair_of, pair_effect}
use Rattle.ka_cpu.specs.Jumps.{jffo_row, aobj_row, jrst_row, jfcl_row, jsr_row, jsp_row, jsa_row, jra_row, call_row, restored}
use Rattle.ka_cpu.specs.Stacks.{pushj_row, push_row, pop_row, popj_row}
use Rattle.ka_state.specs.Memory.{word_at, ac_with, core_with, is_legal}
use Rattle.ka_cpu.specs.Instructions.{Instruction}
use Rattle.ka_state.specs.declared.outcome.CallKind.{CallKind}
use Rattle.ka_state.specs.declared.outcome.CallKind.TheVariants as call
use Rattle.ka_state.specs.declared.outcome.Outcome.{Outcome}
use Rattle.ka_state.specs.declared.outcome.Outcome.TheVariants as outcome
use Rattle.ka_state.specs.declared.outcome.StopReason.{StopReason}
use Rattle.ka_state.specs.declared.outcome.StopReason.TheVariants as reason
use Rattle.ka_state.specs.declared.registers.Flags.{Flags}
use Rattle.ka_state.specs.declared.registers.Regs.{Regs}
use Rattle.ka_cpu.proofs.Legal.{legal_by}

pub by_test : {X : Type 0} (P : X → Type 0) (b : Bool) (x y : X) → (b ≡ true → P x) → (b ≡ false → P y) → P (cond b x y)
by_test P true x y p q = p refl
by_test P false x y p q = q refl

-- what a state says of the one before it
record Keeps (g : Regs) (core : List ℕ) (a : After) : Type 0 where
  cells : length a.core ≡ length core
  registers : length a.regs.ac ≡ length g.ac
  pc : g.pc < 2 ^ 18 → a.regs.pc < 2 ^ 18
  ends : EndsAs a.outcome g core a.regs a.core

-- what an effect stores where the instruction ends: a halt and a call store nothing, and a call goes to the next PC
EndsWith : Regs → Option (ℕ × ℕ) → Option ℕ → Option ℕ → Flags → ℕ → Ending → Type 0
EndsWith g m a x f p Goes_on = Unit {0}
EndsWith g m a x f p Overruns = Unit {0}
EndsWith g m a x f p Halts = (m ≡ None) × (a ≡ None) × (x ≡ None) × (f ≡ g.flags)
EndsWith g m a x f p (Calls kind k e) = (m ≡ None) × (a ≡ None) × (x ≡ None) × (f ≡ g.flags) × (p ≡ next_pc g) × (k < 16) × (e < 2 ^ 18)

record Fair (g : Regs) (x : Effect) : Type 0 where
  pc : x.pc < 2 ^ 18
  ends : EndsWith g x.memory x.ac x.next x.flags x.pc x.ending

FairRow : Regs → Result Effect StopReason → Type 0
FairRow g (Err r) = Unit {0}
FairRow g (Ok x) = Fair g x

-- lengths
length-ac_with : (ac : List ℕ) (a w : ℕ) → length (ac_with ac a w) ≡ length ac
length-ac_with ac a w = by_test (λ l. length l ≡ length ac) (nat_lt a 16) _ _ (λ _. length-set ac a w) (λ _. refl)

pub length-core_with : (core : List ℕ) (a w : ℕ) → length (core_with core a w) ≡ length core
length-core_with core a w = by_test (λ l. length l ≡ length core) (nat_lt a 16) _ _ (λ _. refl) (λ _. length-set core a w)

length-ac_memory : (ac : List ℕ) (m : Option (ℕ × ℕ)) → length (ac_memory ac m) ≡ length ac
length-ac_memory ac None = refl
length-ac_memory ac (Some p) = length-ac_with ac p.0 p.1

length-core_memory : (core : List ℕ) (m : Option (ℕ × ℕ)) → length (core_memory core m) ≡ length core
length-core_memory core None = refl
length-core_memory core (Some p) = length-core_with core p.0 p.1

length-ac_put : (ac : List ℕ) (k : ℕ) (w : Option ℕ) → length (ac_put ac k w) ≡ length ac
length-ac_put ac k None = refl
length-ac_put ac k (Some w) = length-set ac k w

-- a refusal
ends-stopped : (g : Regs) (core : List ℕ) (r : StopReason) → EndsAs (outcome.Stop r) g core g core
ends-stopped g core reason.IllegalAddress = (refl, refl)
ends-stopped g core reason.IllegalInstruction = (refl, refl)
ends-stopped g core reason.Halt = (refl, refl)
ends-stopped g core reason.Pushdown = tt
ends-stopped g core reason.AddressChain = (refl, refl)

keeps-stopped : (g : Regs) (core : List ℕ) (r : StopReason) → Keeps g core (stopped g core r)
keeps-stopped g core r = record { cells = refl; registers = refl; pc = λ h. h; ends = ends-stopped g core r }

-- an effect that is carried out
ends-outcome_of : (g : Regs) (core : List ℕ) (n : Instruction) (m : Option (ℕ × ℕ)) (a x : Option ℕ) (f : Flags) (p : ℕ) (e : Ending)
    → EndsWith g m a x f p e
    → EndsAs (outcome_of e) g core (record { ac = ac_put (ac_put (ac_memory g.ac m) n.ac a) (next_ac n) x; pc = p; flags = f }) (core_memory core m)
unfolding EndsWith
ends-outcome_of g core n m a x f p Goes_on h = tt
ends-outcome_of g core n m a x f p Overruns h = tt
ends-outcome_of g core n m a x f p Halts h = rw (h.0, h.1, h.2, h.3) (refl, refl)
ends-outcome_of g core n m a x f p (Calls kind k e) h = (h.5, h.6, rw (h.0, h.1, h.2, h.3, h.4) refl, rw h.0 refl)

keeps-done : (g : Regs) (core : List ℕ) (n : Instruction) (x : Effect) → Fair g x
    → Keeps g core (record {
      regs = record { ac = ac_put (ac_put (ac_memory g.ac x.memory) n.ac x.ac) (next_ac n) x.next; pc = x.pc; flags = x.flags };
      core = core_memory core x.memory;
      outcome = outcome_of x.ending;
    })
keeps-done g core n x h = record {
  cells = length-core_memory core x.memory;
  registers = length-ac_put _ (next_ac n) x.next ∙ (length-ac_put _ n.ac x.ac ∙ length-ac_memory g.ac x.memory);
  pc = λ _. h.pc;
  ends = ends-outcome_of g core n x.memory x.ac x.next x.flags x.pc x.ending h.ends;
}

keeps-applied : (g : Regs) (core : List ℕ) (n : Instruction) (x : Effect) → Fair g x → Keeps g core (applied g core n x)
keeps-applied g core n x h =
    by_test (Keeps g core) (memory_legal core x.memory) _ _ (λ _. keeps-done g core n x h) (λ _. keeps-stopped g core reason.IllegalAddress)

keeps-finished : (g : Regs) (core : List ℕ) (n : Instruction) (r : Result Effect StopReason) → FairRow g r → Keeps g core (finished g core n r)
unfolding FairRow
keeps-finished g core n (Err r) h = keeps-stopped g core r
keeps-finished g core n (Ok x) h = keeps-applied g core n x h

-- the rows
fair-reading : (g : Regs) (o : Option ℕ) (f : ℕ → Result Effect StopReason) → ((w : ℕ) → FairRow g (f w)) → FairRow g (reading o f)
unfolding FairRow
fair-reading g None f h = tt
fair-reading g (Some w) f h = h w

fair-ok : (g : Regs) (x : Effect) → Fair g x → FairRow g (Ok x)
unfolding FairRow
fair-ok g x h = h

fair-if : (g : Regs) (b : Bool) (x y : Effect) → Fair g x → Fair g y → Fair g (if b then x else y)
fair-if g true x y h i = h
fair-if g false x y h i = i

-- the program goes on
fair-on : (g : Regs) (m : Option (ℕ × ℕ)) (a x : Option ℕ) (f : Flags) (k : ℕ)
    → Fair g (record { memory = m; ac = a; next = x; flags = f; pc = (g.pc + k) % 2 ^ 18; ending = Goes_on })
unfolding EndsWith
fair-on g m a x f k = record { pc = omega arith; ends = tt }

-- it goes to an address
fair-to : (g : Regs) (m : Option (ℕ × ℕ)) (a x : Option ℕ) (f : Flags) (e : ℕ) → e < 2 ^ 18
    → Fair g (record { memory = m; ac = a; next = x; flags = f; pc = e; ending = Goes_on })
unfolding EndsWith
fair-to g m a x f e h = record { pc = h; ends = tt }

either-below : (b : Bool) (e p : ℕ) → e < 2 ^ 18 → p < 2 ^ 18 → (if b then e else p) < 2 ^ 18
either-below true e p h i = h
either-below false e p h i = i

fair-either : (g : Regs) (m : Option (ℕ × ℕ)) (a x : Option ℕ) (f : Flags) (b : Bool) (e : ℕ) → e < 2 ^ 18
    → Fair g (record { memory = m; ac = a; next = x; flags = f; pc = if b then e else next_pc g; ending = Goes_on })
fair-either g m a x f b e h = fair-to g m a x f (if b then e else next_pc g) (either-below b e (next_pc g) h (omega arith))

-- a pushdown instruction
fair-stack : (g : Regs) (m : Option (ℕ × ℕ)) (a x : Option ℕ) (f : Flags) (p : ℕ) (b : Bool) → p < 2 ^ 18
    → Fair g (record { memory = m; ac = a; next = x; flags = f; pc = p; ending = if b then Overruns else Goes_on })
unfolding EndsWith
fair-stack g m a x f p true h = record { pc = h; ends = tt }
fair-stack g m a x f p false h = record { pc = h; ends = tt }

below : (k : ℕ) → k % 2 ^ 18 < 2 ^ 18
below k = omega arith

fair-exch : (g : Regs) (core : List ℕ) (n : Instruction) → FairRow g (exch_row g core n)
unfolding exch_row
fair-exch g core n = fair-reading g _ _ (λ w. fair-ok g _ (fair-on g _ _ _ _ _))

fair-added : (subtracts : Bool) (g : Regs) (n : Instruction) (m : ℕ) → Fair g (added subtracts g n m)
fair-added true g n m = fair-on g _ _ _ _ _
fair-added false g n m = fair-on g _ _ _ _ _

fair-add : (subtracts : Bool) (g : Regs) (core : List ℕ) (n : Instruction) → FairRow g (add_row subtracts g core n)
unfolding add_row
fair-add subtracts g core n = fair-reading g _ _ (λ m. fair-ok g _ (fair-added subtracts g n m))

fair-imul : (g : Regs) (core : List ℕ) (n : Instruction) → FairRow g (imul_row g core n)
unfolding imul_row
fair-imul g core n = fair-reading g _ _ (λ w. fair-ok g _ (fair-on g _ _ _ _ _))

fair-mul : (g : Regs) (core : List ℕ) (n : Instruction) → FairRow g (mul_row g core n)
unfolding mul_row
fair-mul g core n = fair-reading g _ _ (λ w. fair-ok g _ (fair-on g _ _ _ _ _))

fair-boolean : (g : Regs) (core : List ℕ) (n : Instruction) → FairRow g (boolean_row g core n)
unfolding boolean_row
fair-boolean g core n = fair-reading g _ _ (λ w. fair-ok g _ (fair-on g _ _ _ _ _))

fair-test : (g : Regs) (core : List ℕ) (n : Instruction) → FairRow g (test_row g core n)
unfolding test_row
fair-test g core n = fair-reading g _ _ (λ w. fair-ok g _ (fair-on g _ _ _ _ _))

fair-compare : (g : Regs) (core : List ℕ) (n : Instruction) → FairRow g (compare_row g core n)
unfolding compare_row
fair-compare g core n = fair-reading g _ _ (λ w. fair-ok g _ (fair-on g _ _ _ _ _))

fair-transferred : (t : Transfer) (g : Regs) (n : Instruction) (w : ℕ) → Fair g (transferred t g n w)
fair-transferred Plain g n w = fair-on g _ _ _ _ _
fair-transferred Swapped g n w = fair-on g _ _ _ _ _
fair-transferred Negated g n w = fair-on g _ _ _ _ _
fair-transferred Magnitude g n w = fair-if g (is_negative w) (negates g n w) (moved_to g n w) (fair-on g _ _ _ _ _) (fair-on g _ _ _ _ _)

fair-move : (t : Transfer) (g : Regs) (core : List ℕ) (n : Instruction) → FairRow g (move_row t g core n)
unfolding move_row
fair-move t g core n = fair-reading g _ _ (λ w. fair-ok g _ (fair-transferred t g n w))

fair-idiv : (g : Regs) (core : List ℕ) (n : Instruction) → FairRow g (idiv_row g core n)
unfolding idiv_row
fair-idiv g core n =
    fair-reading g _ _
    (λ w. fair-ok g _
    (fair-if g (no_quotient (a_of g n) w) (record (goes_on g 1) { flags = record g.flags { overflow = true; no_divide = true } })
    (record (computed_to g n (quotient_of (a_of g n) w)) { next = to_next n (remainder_of (a_of g n) w) }) (fair-on g _ _ _ _ _) (fair-on g _ _ _ _ _)))

fair-half : (g : Regs) (core : List ℕ) (n : Instruction) → FairRow g (half_row g core n)
unfolding half_row
fair-half g core n =
    fair-reading g (moved_operand g core n) _ (λ w. fair-reading g (destination g core n) _ (λ d. fair-ok g _ (fair-on g _ _ _ _ _)))

fair-skip : (c : Change) (g : Regs) (core : List ℕ) (n : Instruction) → FairRow g (skip_row c g core n)
unfolding skip_row
fair-skip c g core n = fair-reading g _ _ (λ w. fair-ok g _ (fair-on g _ _ _ _ _))

fair-push : (g : Regs) (core : List ℕ) (n : Instruction) → FairRow g (push_row g core n)
unfolding push_row
fair-push g core n = fair-reading g _ _ (λ w. fair-ok g _ (fair-stack g _ _ _ _ _ _ (below _)))

fair-pop : (g : Regs) (core : List ℕ) (n : Instruction) → FairRow g (pop_row g core n)
unfolding pop_row
fair-pop g core n = fair-reading g _ _ (λ w. fair-ok g _ (fair-stack g _ _ _ _ _ _ (below _)))

fair-popj : (g : Regs) (core : List ℕ) (n : Instruction) → FairRow g (popj_row g core n)
unfolding popj_row
fair-popj g core n = fair-reading g _ _ (λ w. fair-ok g _ (fair-stack g _ _ _ _ _ _ (below _)))

fair-jra : (g : Regs) (core : List ℕ) (n : Instruction) → n.e < 2 ^ 18 → FairRow g (jra_row g core n)
unfolding jra_row
fair-jra g core n h = fair-reading g _ _ (λ w. fair-ok g _ (fair-to g _ _ _ _ _ h))

fair-pushj : (g : Regs) (n : Instruction) → n.e < 2 ^ 18 → Fair g (pushj_row g n)
unfolding pushj_row
fair-pushj g n h = fair-stack g _ _ _ _ _ _ h

fair-jump : (c : Change) (g : Regs) (n : Instruction) → n.e < 2 ^ 18 → Fair g (jump_row c g n)
unfolding jump_row
fair-jump c g n h = fair-either g _ _ _ _ _ n.e h

fair-aobj : (g : Regs) (n : Instruction) → n.e < 2 ^ 18 → Fair g (aobj_row g n)
unfolding aobj_row
fair-aobj g n h = fair-either g _ _ _ _ _ n.e h

fair-jfcl : (g : Regs) (n : Instruction) → n.e < 2 ^ 18 → Fair g (jfcl_row g n)
unfolding jfcl_row
fair-jfcl g n h = fair-either g _ _ _ _ _ n.e h

fair-jffo : (g : Regs) (n : Instruction) → n.e < 2 ^ 18 → Fair g (jffo_row g n)
unfolding jffo_row
fair-jffo g n h =
    fair-if g (nat_eq (a_of g n) 0) (record (goes_on g 1) { next = Some 0 }) (record (goes_to g n.e) { next = Some (count_leading_zeros 36 (a_of g n)) })
    (fair-on g _ _ _ _ _) (fair-to g _ _ _ _ _ h)

fair-jsr : (g : Regs) (n : Instruction) → Fair g (jsr_row g n)
unfolding jsr_row
fair-jsr g n = fair-to g _ _ _ _ _ (below _)

fair-jsa : (g : Regs) (n : Instruction) → Fair g (jsa_row g n)
unfolding jsa_row
fair-jsa g n = fair-to g _ _ _ _ _ (below _)

fair-jsp : (g : Regs) (n : Instruction) → n.e < 2 ^ 18 → Fair g (jsp_row g n)
unfolding jsp_row
fair-jsp g n h = fair-to g _ _ _ _ _ h

fair-halt : (g : Regs) (n : Instruction) → n.e < 2 ^ 18 → Fair g (record (goes_to g n.e) { ending = Halts })
unfolding EndsWith
fair-halt g n h = record { pc = h; ends = (refl, refl, refl, refl) }

fair-jrst : (g : Regs) (n : Instruction) (used : Option ℕ) → n.e < 2 ^ 18 → Fair g (jrst_row g n used)
unfolding jrst_row
fair-jrst g n used h =
    fair-if g (nat_eq n.ac 0) (goes_to g n.e)
    (if nat_eq n.ac 2 then record (goes_to g n.e) { flags = restored g.flags used }
    else record (goes_to g n.e) { ending = Halts })
    (fair-to g _ _ _ _ _ h)
    (fair-if g (nat_eq n.ac 2) (record (goes_to g n.e) { flags = restored g.flags used })
    (record (goes_to g n.e) { ending = Halts }) (fair-to g _ _ _ _ _ h) (fair-halt g n h))

fair-call : (kind : CallKind) (g : Regs) (n : Instruction) → n.ac < 16 → n.e < 2 ^ 18 → Fair g (call_row kind g n)
unfolding call_row EndsWith
fair-call kind g n k h = record { pc = below _; ends = (refl, refl, refl, refl, refl, k, h) }

fair-pair : (g : Regs) (d : ℕ) → Fair g (pair_effect g d)
fair-pair g d = fair-on g _ _ _ _ _

fair-shift : (g : Regs) (n : Instruction) → Fair g (shift_row g n)
unfolding shift_row
fair-shift g n =
    let ash = record (goes_on g 1) {
      ac = Some (ash_of n.e (a_of g n));
      flags = record g.flags { overflow = g.flags.overflow || ash_overflows n.e (a_of g n) };
    } in
    let rot = record (goes_on g 1) { ac = Some (rot_of n.e (a_of g n)) } in
    let lsh = record (goes_on g 1) { ac = Some (lsh_of n.e (a_of g n)) } in
    let rotc = pair_effect g (rotc_of n.e (pair_of g n)) in
    let lshc = pair_effect g (lshc_of n.e (pair_of g n)) in
    let pairs = if nat_eq n.op 0o245 then rotc else lshc in
    let most = if nat_eq n.op 0o242 then lsh else pairs in
    fair-if g (nat_eq n.op 0o240) ash (if nat_eq n.op 0o241 then rot else most) (fair-on g _ _ _ _ _)
    (fair-if g (nat_eq n.op 0o241) rot most (fair-on g _ _ _ _ _)
    (fair-if g (nat_eq n.op 0o242) lsh pairs (fair-on g _ _ _ _ _)
    (fair-if g (nat_eq n.op 0o245) rotc lshc (fair-pair g _) (fair-pair g _))))

fair-row : (f : Family) (g : Regs) (core : List ℕ) (n : Instruction) (used : Option ℕ) → n.ac < 16 → n.e < 2 ^ 18 → FairRow g (row_of f g core n used)
unfolding FairRow
fair-row Move g core n used k h = fair-move Plain g core n
fair-row Movs g core n used k h = fair-move Swapped g core n
fair-row Movn g core n used k h = fair-move Negated g core n
fair-row Movm g core n used k h = fair-move Magnitude g core n
fair-row Imul g core n used k h = fair-imul g core n
fair-row Mul g core n used k h = fair-mul g core n
fair-row Idiv g core n used k h = fair-idiv g core n
fair-row Shift g core n used k h = fair-shift g n
fair-row Jffo g core n used k h = fair-jffo g n h
fair-row Exch g core n used k h = fair-exch g core n
fair-row Aobj g core n used k h = fair-aobj g n h
fair-row Jrst g core n used k h = fair-jrst g n used h
fair-row Jfcl g core n used k h = fair-jfcl g n h
fair-row Pushj g core n used k h = fair-pushj g n h
fair-row Push g core n used k h = fair-push g core n
fair-row Pop g core n used k h = fair-pop g core n
fair-row Popj g core n used k h = fair-popj g core n
fair-row Jsr g core n used k h = fair-jsr g n
fair-row Jsp g core n used k h = fair-jsp g n h
fair-row Jsa g core n used k h = fair-jsa g n
fair-row Jra g core n used k h = fair-jra g core n h
fair-row Add g core n used k h = fair-add false g core n
fair-row Sub g core n used k h = fair-add true g core n
fair-row Compare g core n used k h = fair-compare g core n
fair-row (JumpOn c) g core n used k h = fair-jump c g n h
fair-row (SkipOn c) g core n used k h = fair-skip c g core n
fair-row Boolean g core n used k h = fair-boolean g core n
fair-row Half g core n used k h = fair-half g core n
fair-row Test g core n used k h = fair-test g core n
fair-row Calli g core n used k h = fair-call call.Calli g n k h
fair-row Ttcall g core n used k h = fair-call call.Ttcall g n k h
fair-row Byte g core n used k h = tt
fair-row Blt g core n used k h = tt
fair-row Xct g core n used k h = tt
fair-row Other g core n used k h = tt

-- BLT
length-stored : (t : Store) (d : ℕ) (o : Option ℕ) → (length (stored t d o).core ≡ length t.core) × (length (stored t d o).ac ≡ length t.ac)
length-stored t d None = (refl, refl)
length-stored t d (Some w) = (length-core_with t.core d w, length-ac_with t.ac d w)

length-moved : (k : ℕ) (t : Store) (s d : ℕ) → (length (moved_words k t s d).core ≡ length t.core) × (length (moved_words k t s d).ac ≡ length t.ac)
unfolding moved_words
length-moved zero t s d = (refl, refl)
length-moved (suc k) t s d =
    let u = stored t d (word_at t.ac t.core (s % 2 ^ 18)) in
    let rest = length-moved k u (s + 1) (d + 1) in
    let first = length-stored t d (word_at t.ac t.core (s % 2 ^ 18)) in
    (rest.0 ∙ first.0, rest.1 ∙ first.1)

keeps-blt : (g : Regs) (core : List ℕ) (n : Instruction) → Keeps g core (blt_after g core n)
unfolding blt_after
keeps-blt g core n =
    by_test (Keeps g core) (all_legal _ core _ _) _ _
    (λ _. record { cells = (length-moved _ _ _ _).0; registers = (length-moved _ _ _ _).1; pc = λ _. omega arith; ends = tt })
    (λ _. keeps-stopped g core reason.IllegalAddress)

-- the byte instructions: the address of a byte is legal, so only its search can refuse, and that leaves the old state
legal-by : (b : Bool) (ac core : List ℕ) (e w : ℕ) → cond b (slice_get ac e) (slice_get core e) ≡ Some w → b || nat_lt e (length core) ≡ true
legal-by true ac core e w h = refl
legal-by false ac core e w h = legal_by false core e w h

legal-read : (o : Option ℕ) (ac core : List ℕ) (e : ℕ) (p : ℕ × ℕ) → word_at ac core e ≡ o
    → reading {A = ℕ × ℕ} o (λ w. Ok (e, w)) ≡ Ok p → is_legal core p.0 ≡ true
legal-read None ac core e p q h = cc
legal-read (Some w) ac core e p q h =
    let i : (e, w) ≡ p = cc in
    let P : ℕ × ℕ → Type 0 = λ x. is_legal core x.0 ≡ true in
    subst P i (legal-by (nat_lt e 16) ac core e w q)

legal-byte : (x : Result Target StopReason) (ac core : List ℕ) (p : ℕ × ℕ)
    → at_target {A = ℕ × ℕ} x (λ t. reading (word_at ac core t.e) (λ w. Ok (t.e, w))) ≡ Ok p → is_legal core p.0 ≡ true
legal-byte (Err r) ac core p h = cc
legal-byte (Ok t) ac core p h = legal-read (word_at ac core t.e) ac core t.e p refl h

-- the byte is moved in the state that the stored pointer leaves
keeps-byte : (old : Regs) (old_core : List ℕ) (g : Regs) (core : List ℕ) (n : Instruction) (x : Effect)
    → length core ≡ length old_core → length g.ac ≡ length old.ac → memory_legal core x.memory ≡ true → x.pc < 2 ^ 18 → x.ending ≡ Goes_on
    → Keeps old old_core (applied g core n x)
keeps-byte old old_core g core n x c a l p e =
    rw l (record {
      cells = length-core_memory core x.memory ∙ c;
      registers = length-ac_put _ (next_ac n) x.next ∙ (length-ac_put _ n.ac x.ac ∙ (length-ac_memory g.ac x.memory ∙ a));
      pc = λ _. p;
      ends = rw e tt;
    })

keeps-effect : (old : Regs) (old_core : List ℕ) (g : Regs) (core : List ℕ) (n : Instruction) (p e w : ℕ)
    → length core ≡ length old_core → length g.ac ≡ length old.ac → is_legal core e ≡ true
    → Keeps old old_core (applied g core n (byte_effect g n p e w))
keeps-effect old old_core g core n p e w c a l =
    let next : (g.pc + 1) % 2 ^ 18 < 2 ^ 18 = omega arith in
    by_test (λ (x : Effect). Keeps old old_core (applied g core n x)) (loads n.op) _ _
    (λ _. keeps-byte old old_core g core n (record (goes_on g 1) { ac = Some (byte_of p w) }) c a refl next refl)
    (λ _. keeps-byte old old_core g core n (record (goes_on g 1) { memory = Some (e, deposited p (a_of g n) w) }) c a l next refl)

keeps-byte_done : (old : Regs) (old_core : List ℕ) (g : Regs) (core : List ℕ) (n : Instruction) (p : ℕ) (r : Result (ℕ × ℕ) StopReason)
    → located_byte g.ac core p ≡ r → length core ≡ length old_core → length g.ac ≡ length old.ac
    → Keeps old old_core (byte_done old old_core g core n p r)
keeps-byte_done old old_core g core n p (Err r) q c a = keeps-stopped old old_core r
keeps-byte_done old old_core g core n p (Ok b) q c a =
    keeps-effect old old_core g core n p b.0 b.1 c a (legal-byte (target_of g.ac core p) g.ac core b q)

keeps-behind : (old : Regs) (old_core : List ℕ) (g : Regs) (core : List ℕ) (n : Instruction) (p : ℕ)
    → length core ≡ length old_core → length g.ac ≡ length old.ac → Keeps old old_core (behind_pointer old old_core g core n p)
keeps-behind old old_core g core n p c a =
    by_test (Keeps old old_core) _ _ _ (λ _. record { cells = c; registers = a; pc = λ _. omega arith; ends = tt })
    (λ _. keeps-byte_done old old_core g core n p (located_byte g.ac core p) refl c a)

keeps-pointer : (g : Regs) (core : List ℕ) (n : Instruction) (o : Option ℕ) → Keeps g core (with_pointer g core n o)
keeps-pointer g core n None = keeps-stopped g core reason.IllegalAddress
keeps-pointer g core n (Some p) =
    by_test (Keeps g core) (increments n.op) _ _
    (λ _. keeps-behind g core _ _ n _ (length-core_with core n.e (incremented p)) (length-ac_with g.ac n.e (incremented p)))
    (λ _. keeps-byte_done g core g core n p (located_byte g.ac core p) refl refl refl)

keeps-byte_after : (g : Regs) (core : List ℕ) (n : Instruction) → Keeps g core (byte_after g core n)
unfolding byte_after
keeps-byte_after g core n = keeps-pointer g core n (word_at g.ac core n.e)

-- any instruction
keeps-carried : (f : Family) (g : Regs) (core : List ℕ) (n : Instruction) (used : Option ℕ) → n.ac < 16 → n.e < 2 ^ 18
    → Keeps g core (carried_out f g core n used)
keeps-carried Blt g core n used k h = keeps-blt g core n
keeps-carried Byte g core n used k h = keeps-byte_after g core n
keeps-carried Move g core n used k h = keeps-finished g core n (row_of Move g core n used) (fair-row Move g core n used k h)
keeps-carried Movs g core n used k h = keeps-finished g core n (row_of Movs g core n used) (fair-row Movs g core n used k h)
keeps-carried Movn g core n used k h = keeps-finished g core n (row_of Movn g core n used) (fair-row Movn g core n used k h)
keeps-carried Movm g core n used k h = keeps-finished g core n (row_of Movm g core n used) (fair-row Movm g core n used k h)
keeps-carried Imul g core n used k h = keeps-finished g core n (row_of Imul g core n used) (fair-row Imul g core n used k h)
keeps-carried Mul g core n used k h = keeps-finished g core n (row_of Mul g core n used) (fair-row Mul g core n used k h)
keeps-carried Idiv g core n used k h = keeps-finished g core n (row_of Idiv g core n used) (fair-row Idiv g core n used k h)
keeps-carried Shift g core n used k h = keeps-finished g core n (row_of Shift g core n used) (fair-row Shift g core n used k h)
keeps-carried Jffo g core n used k h = keeps-finished g core n (row_of Jffo g core n used) (fair-row Jffo g core n used k h)
keeps-carried Exch g core n used k h = keeps-finished g core n (row_of Exch g core n used) (fair-row Exch g core n used k h)
keeps-carried Aobj g core n used k h = keeps-finished g core n (row_of Aobj g core n used) (fair-row Aobj g core n used k h)
keeps-carried Jrst g core n used k h = keeps-finished g core n (row_of Jrst g core n used) (fair-row Jrst g core n used k h)
keeps-carried Jfcl g core n used k h = keeps-finished g core n (row_of Jfcl g core n used) (fair-row Jfcl g core n used k h)
keeps-carried Xct g core n used k h = keeps-finished g core n (row_of Xct g core n used) (fair-row Xct g core n used k h)
keeps-carried Pushj g core n used k h = keeps-finished g core n (row_of Pushj g core n used) (fair-row Pushj g core n used k h)
keeps-carried Push g core n used k h = keeps-finished g core n (row_of Push g core n used) (fair-row Push g core n used k h)
keeps-carried Pop g core n used k h = keeps-finished g core n (row_of Pop g core n used) (fair-row Pop g core n used k h)
keeps-carried Popj g core n used k h = keeps-finished g core n (row_of Popj g core n used) (fair-row Popj g core n used k h)
keeps-carried Jsr g core n used k h = keeps-finished g core n (row_of Jsr g core n used) (fair-row Jsr g core n used k h)
keeps-carried Jsp g core n used k h = keeps-finished g core n (row_of Jsp g core n used) (fair-row Jsp g core n used k h)
keeps-carried Jsa g core n used k h = keeps-finished g core n (row_of Jsa g core n used) (fair-row Jsa g core n used k h)
keeps-carried Jra g core n used k h = keeps-finished g core n (row_of Jra g core n used) (fair-row Jra g core n used k h)
keeps-carried Add g core n used k h = keeps-finished g core n (row_of Add g core n used) (fair-row Add g core n used k h)
keeps-carried Sub g core n used k h = keeps-finished g core n (row_of Sub g core n used) (fair-row Sub g core n used k h)
keeps-carried Compare g core n used k h = keeps-finished g core n (row_of Compare g core n used) (fair-row Compare g core n used k h)
keeps-carried (JumpOn c) g core n used k h = keeps-finished g core n (row_of (JumpOn c) g core n used) (fair-row (JumpOn c) g core n used k h)
keeps-carried (SkipOn c) g core n used k h = keeps-finished g core n (row_of (SkipOn c) g core n used) (fair-row (SkipOn c) g core n used k h)
keeps-carried Boolean g core n used k h = keeps-finished g core n (row_of Boolean g core n used) (fair-row Boolean g core n used k h)
keeps-carried Half g core n used k h = keeps-finished g core n (row_of Half g core n used) (fair-row Half g core n used k h)
keeps-carried Test g core n used k h = keeps-finished g core n (row_of Test g core n used) (fair-row Test g core n used k h)
keeps-carried Calli g core n used k h = keeps-finished g core n (row_of Calli g core n used) (fair-row Calli g core n used k h)
keeps-carried Ttcall g core n used k h = keeps-finished g core n (row_of Ttcall g core n used) (fair-row Ttcall g core n used k h)
keeps-carried Other g core n used k h = keeps-finished g core n (row_of Other g core n used) (fair-row Other g core n used k h)

-- an address is below 2 ^ 18
BelowIn : Result Target StopReason → Type 0
BelowIn (Err r) = Unit {0}
BelowIn (Ok t) = t.e < 2 ^ 18

direct-below : (ac : List ℕ) (w : ℕ) → direct_address ac w < 2 ^ 18
direct-below ac w =
    let p : right_half w < 2 ^ 18 = omega arith in
    let q : (right_half w + right_half (slice_index ac (index_of w))) % 2 ^ 18 < 2 ^ 18 = omega arith in
    either-below (nat_eq (index_of w) 0) _ _ p q

read-below : (o : Option ℕ) (f : ℕ → Result Target StopReason) → ((v : ℕ) → BelowIn (f v)) → BelowIn (reading o f)
unfolding BelowIn
read-below None f h = tt
read-below (Some v) f h = h v

target-below : (n : ℕ) (ac core : List ℕ) (w : ℕ) (used : Option ℕ) → BelowIn (target_from n ac core w used)
unfolding BelowIn target_from
target-below zero ac core w used = by_test BelowIn (is_indirect w) _ _ (λ _. tt) (λ _. direct-below ac w)
target-below (suc n) ac core w used =
    by_test BelowIn (is_indirect w) _ _
    (λ _. read-below (word_at ac core (direct_address ac w)) _ (λ v. target-below n ac core v (Some v)))
    (λ _. direct-below ac w)

keeps-address : (g : Regs) (core : List ℕ) (w : ℕ) (t : Result Target StopReason) → BelowIn t → Keeps g core (at_address g core w t)
unfolding BelowIn
keeps-address g core w (Err r) b = keeps-stopped g core r
keeps-address g core w (Ok t) b = keeps-carried (family_of (op_of w)) g core (record { op = op_of w; ac = ac_field w; e = t.e }) t.used (omega arith) b

keeps-performed : (g : Regs) (core : List ℕ) (w : ℕ) → Keeps g core (performed g core w)
unfolding performed
keeps-performed g core w =
    by_test (Keeps g core) (is_listed (family_of (op_of w)) (ac_field w)) _ _
    (λ _. keeps-address g core w (target_of g.ac core w) (target-below MOST_LINKS g.ac core w None))
    (λ _. keeps-stopped g core reason.IllegalInstruction)

keeps-word : (g : Regs) (core : List ℕ) (r : Result ℕ StopReason) → Keeps g core (word_performed g core r)
keeps-word g core (Err r) = keeps-stopped g core r
keeps-word g core (Ok w) = keeps-performed g core w

keeps-exec : (g : Regs) (core : List ℕ) → Keeps g core (exec g core)
unfolding exec
keeps-exec g core = keeps-word g core _

pub length-exec : (g : Regs) (core : List ℕ) → length (exec g core).core ≡ length core
length-exec g core = (keeps-exec g core).cells

pub registers-exec : (g : Regs) (core : List ℕ) → length (exec g core).regs.ac ≡ length g.ac
registers-exec g core = (keeps-exec g core).registers

pub pc-exec : (g : Regs) (core : List ℕ) → g.pc < 2 ^ 18 → (exec g core).regs.pc < 2 ^ 18
pc-exec g core h = (keeps-exec g core).pc h

pub ends-exec : (g : Regs) (core : List ℕ) → EndsAs (exec g core).outcome g core (exec g core).regs (exec g core).core
ends-exec g core = (keeps-exec g core).ends

-- how an instruction ends, of a state that is known to be what it leaves
pub ends_by : (g h : Regs) (core rest : List ℕ) (o : Outcome) → record { regs = h; core = rest; outcome = o } ≡ exec g core → EndsAs o g core h rest
ends_by g h core rest o e = let P : After → Type 0 = λ a. EndsAs a.outcome g core a.regs a.core in subst P (sym e) (ends-exec g core)

-- and so a word that stands nowhere
pub length-exec_word : (g : Regs) (core : List ℕ) (w : ℕ) → length (exec_word g core w).core ≡ length core
length-exec_word g core w = (keeps-word g core (word_behind MOST_EXECUTES g.ac core w)).cells

pub registers-exec_word : (g : Regs) (core : List ℕ) (w : ℕ) → length (exec_word g core w).regs.ac ≡ length g.ac
registers-exec_word g core w = (keeps-word g core (word_behind MOST_EXECUTES g.ac core w)).registers

pub pc-exec_word : (g : Regs) (core : List ℕ) (w : ℕ) → g.pc < 2 ^ 18 → (exec_word g core w).regs.pc < 2 ^ 18
pc-exec_word g core w h = (keeps-word g core (word_behind MOST_EXECUTES g.ac core w)).pc h

pub ends-exec_word : (g : Regs) (core : List ℕ) (w : ℕ) → EndsAs (exec_word g core w).outcome g core (exec_word g core w).regs (exec_word g core w).core
ends-exec_word g core w = (keeps-word g core (word_behind MOST_EXECUTES g.ac core w)).ends

pub word_ends_by : (g h : Regs) (core rest : List ℕ) (w : ℕ) (o : Outcome) → record { regs = h; core = rest; outcome = o } ≡ exec_word g core w
    → EndsAs o g core h rest
word_ends_by g h core rest w o e = let P : After → Type 0 = λ a. EndsAs a.outcome g core a.regs a.core in subst P (sym e) (ends-exec_word g core w)

pub ruleset exec_laws = (length-exec, registers-exec, pc-exec, ends-exec)
