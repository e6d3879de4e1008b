-- Whether two kept slots are the same.
use Rattle.std.specs.Prelude.{ℕ, ◌≡◌, ◌≢◌, ◌+◌, ◌-◌, ◌==◌, ◌&&◌, nat_eq, if◌then◌else◌, cond, Bool, true, false, List, [], ◌∷◌, ◌++◌, Option, Some, None, slice_index_or}
use Rattle.std.specs.Bool.{Decides}
use Rattle.std.specs.Cmp.{unsigned_Decides, decided, IsEquivalence}
use Rattle.std.specs.Cmp.Lexicographic.{pointwise}
use Rattle.std.specs.Hash as fed
use Rattle.std.specs.Hash.{HashWrites}
use Rattle.std.proofs.Common.{refl, ap, sym, ◌∙◌, arith}
use Rattle.std.proofs.lemmas.Bool.{and_parts, and_from, eqb-true, false_from_ne_true}
use Rattle.std.proofs.lemmas.Slice.Eq.{slice_eq-Decides}
use Rattle.ka_state.specs.declared.registers.Regs.{Regs}
use Rattle.ka_state.specs.declared.outcome.StopReason.{StopReason}
use Rattle.ka_state.specs.declared.outcome.StopReason.TheVariants as reason
use Rattle.job_sched.specs.declared.job.Job.{Job}
use Rattle.job_sched.specs.declared.job.Stop.{Stop}
use Rattle.job_sched.specs.declared.job.Stop.TheVariants.{Loaded, Fault, Exit, Monitor, Typed}
use Rattle.job_sched.specs.declared.job.Wait.{Wait}
use Rattle.job_sched.specs.declared.job.Wait.TheVariants.{None as Nothing, Sleep, Char, Line, Room, Queue}
use Rattle.kept_parts.specs.declared.slots.KeptSlot.{KeptSlot}
use Rattle.kept_parts.specs.Slots.{flag, job_numbers, same_job, same_slot, slot_digest, slot_pc, stop_number, vector_number, wait_numbers}

abbrev pub same_kept : KeptSlot → KeptSlot → Bool
same_kept a b = a.last == b.last && same_slot a.slot b.slot

-- what is hashed of them
abbrev pub kept_writes : KeptSlot → HashWrites
kept_writes x = fed.u32 x.last ++ (fed.u32 (slot_pc x.slot) ++ fed.u64 (slot_digest x.slot))

-- ---- the tests decide

abbrev pub flag-back : ℕ → Bool
flag-back n = nat_eq n 1

pub flag-is : (b : Bool) → flag-back (flag b) ≡ b
flag-is true = refl
flag-is false = refl

abbrev stop-back : ℕ → Option Stop
stop-back n =
    if n == 0 then Some Loaded else
    if n == 1 then Some (Fault reason.IllegalAddress) else
    if n == 2 then Some (Fault reason.IllegalInstruction) else
    if n == 3 then Some (Fault reason.Halt) else
    if n == 4 then Some (Fault reason.Pushdown) else
    if n == 5 then Some (Fault reason.AddressChain) else
    if n == 6 then Some Exit else
    if n == 7 then Some Monitor else
    if n == 8 then Some Typed else None

stop-is : (o : Option Stop) → stop-back (stop_number o) ≡ o
stop-is None = refl
stop-is (Some Loaded) = refl
stop-is (Some (Fault reason.IllegalAddress)) = refl
stop-is (Some (Fault reason.IllegalInstruction)) = refl
stop-is (Some (Fault reason.Halt)) = refl
stop-is (Some (Fault reason.Pushdown)) = refl
stop-is (Some (Fault reason.AddressChain)) = refl
stop-is (Some Exit) = refl
stop-is (Some Monitor) = refl
stop-is (Some Typed) = refl

abbrev wait-back : ℕ → ℕ → ℕ → Wait
wait-back n a b =
    if n == 0 then Nothing else
    if n == 1 then Sleep a else
    if n == 2 then Char else
    if n == 3 then Line else
    if n == 4 then Room a else Queue a b

abbrev vector-back : ℕ → Option ℕ
vector-back n = if n == 0 then None else Some (n - 1)

vector-is : (o : Option ℕ) → vector-back (vector_number o) ≡ o
vector-is None = refl
vector-is (Some a) =
    let positive : a + 1 ≢ 0 = λ e. omega (arith, e) in
    let back : a + 1 - 1 ≡ a = omega arith in
    ap (λ b. cond b None (Some (a + 1 - 1))) (false_from_ne_true (a + 1 == 0) (λ e. positive (eqb-true (a + 1) 0 e))) ∙ ap Some back

abbrev at : List ℕ → ℕ → ℕ
at l n = slice_index_or l n 0

abbrev job-back : List ℕ → List ℕ → Job
job-back l ac = record {
  line = at l 0;
  regs = record {
    ac = ac;
    pc = at l 2;
    flags = record {
      overflow = flag-back (at l 3);
      carry0 = flag-back (at l 4);
      carry1 = flag-back (at l 5);
      no_divide = flag-back (at l 6);
    };
  };
  start = at l 1;
  stop = stop-back (at l 7);
  wait = wait-back (at l 8) (at l 9) (at l 10);
  interrupts = record { vector = vector-back (at l 11); on = flag-back (at l 12); in_progress = flag-back (at l 13) };
  quota = at l 14;
}

abbrev job-with : Job → Wait → Job
job-with j w = record {
  line = j.line;
  regs = record {
    ac = j.regs.ac;
    pc = j.regs.pc;
    flags = record {
      overflow = flag-back (flag j.regs.flags.overflow);
      carry0 = flag-back (flag j.regs.flags.carry0);
      carry1 = flag-back (flag j.regs.flags.carry1);
      no_divide = flag-back (flag j.regs.flags.no_divide);
    };
  };
  start = j.start;
  stop = stop-back (stop_number j.stop);
  wait = w;
  interrupts = record {
    vector = vector-back (vector_number j.interrupts.vector);
    on = flag-back (flag j.interrupts.on);
    in_progress = flag-back (flag j.interrupts.in_progress);
  };
  quota = j.quota;
}

job-with-is : (j : Job) (w : Wait) → job-with j w ≡ record j { wait = w }
job-with-is j w = λ i. record {
  line = j.line;
  regs = record {
    ac = j.regs.ac;
    pc = j.regs.pc;
    flags = record {
      overflow = flag-is j.regs.flags.overflow i;
      carry0 = flag-is j.regs.flags.carry0 i;
      carry1 = flag-is j.regs.flags.carry1 i;
      no_divide = flag-is j.regs.flags.no_divide i;
    };
  };
  start = j.start;
  stop = stop-is j.stop i;
  wait = w;
  interrupts = record {
    vector = vector-is j.interrupts.vector i;
    on = flag-is j.interrupts.on i;
    in_progress = flag-is j.interrupts.in_progress i;
  };
  quota = j.quota;
}

by-wait : (j : Job) (w : Wait) → job-back (job_numbers (record j { wait = w })) j.regs.ac ≡ job-with j w
by-wait j Nothing = refl
by-wait j (Sleep ticks) = refl
by-wait j Char = refl
by-wait j Line = refl
by-wait j (Room places) = refl
by-wait j (Queue limit ac) = refl

job-is : (j : Job) → job-back (job_numbers j) j.regs.ac ≡ j
job-is j = by-wait j j.wait ∙ job-with-is j j.wait

pub numbers-decide : (xs ys : List ℕ) → Decides (pointwise nat_eq xs ys) (xs ≡ ys)
numbers-decide xs ys = slice_eq-Decides unsigned_Decides xs ys (pointwise nat_eq xs ys) refl

pub same_job-Decides : (a b : Job) → Decides (same_job a b) (a ≡ b)
same_job-Decides a b = (
  λ h.
      let p = and_parts (pointwise nat_eq (job_numbers a) (job_numbers b)) (pointwise nat_eq a.regs.ac b.regs.ac) h in
      let numbers = (numbers-decide (job_numbers a) (job_numbers b)).0 p.0 in
      let words = (numbers-decide a.regs.ac b.regs.ac).0 p.1 in
      sym (job-is a) ∙ ap (λ l. job-back l a.regs.ac) numbers ∙ ap (job-back (job_numbers b)) words ∙ job-is b,
  λ e. and_from _ _ ((numbers-decide (job_numbers a) (job_numbers b)).1 (ap job_numbers e))
      ((numbers-decide a.regs.ac b.regs.ac).1 (ap (λ (j : Job). j.regs.ac) e)),
)

some-apart : (a b : Job) → Some a ≡ Some b → a ≡ b
some-apart a b e = cc

pub same_slot-Decides : (a b : Option Job) → Decides (same_slot a b) (a ≡ b)
same_slot-Decides (Some a) (Some b) = (λ h. ap Some ((same_job-Decides a b).0 h), λ e. (same_job-Decides a b).1 (some-apart a b e))
same_slot-Decides None None = (λ h. refl, λ e. refl)
same_slot-Decides None (Some b) = (λ h. cc, λ e. cc)
same_slot-Decides (Some a) None = (λ h. cc, λ e. cc)

pub same_kept-Decides : (a b : KeptSlot) → Decides (same_kept a b) (a ≡ b)
same_kept-Decides a b = (
  λ h.
      let p = and_parts (a.last == b.last) (same_slot a.slot b.slot) h in
      let last = (unsigned_Decides a.last b.last).0 p.0 in
      let slot = (same_slot-Decides a.slot b.slot).0 p.1 in
      λ i. record { slot = slot i; last = last i },
  λ e. and_from _ _ ((unsigned_Decides a.last b.last).1 (ap (λ (x : KeptSlot). x.last) e))
      ((same_slot-Decides a.slot b.slot).1 (ap (λ (x : KeptSlot). x.slot) e)),
)

pub same_kept-equiv : IsEquivalence same_kept
same_kept-equiv = decided same_kept same_kept-Decides

pub same_kept-fed : (a b : KeptSlot) → same_kept a b ≡ true → kept_writes a ≡ kept_writes b
same_kept-fed a b e = ap kept_writes ((same_kept-Decides a b).0 e)
