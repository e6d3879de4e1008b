-- A delivery and DEBRK.
use Rattle.std.proofs.Common.{◌≡◌, ◌≢◌, ◌≤◌, ◌<◌, ◌∙◌, sym, ap, ℕ, ◌+◌, ◌/◌, ◌%◌, ◌^◌, ◌||◌, ◌&&◌, nat_eq, nat_le, nat_lt, Bool, true}
use Rattle.std.proofs.Common.{false, cond, List, [], length, Option, Some, None, slice_get, slice_set, refl, arith}
use Rattle.std.proofs.Math.ListN.{length-set}
use Rattle.std.proofs.lemmas.Bool.{and_parts, leb-true, lt-ltb, ltb-true}
use Rattle.std.proofs.lemmas.Bool.Decides.{nat_tests}
use Rattle.std.proofs.lemmas.List.{get_or-set_same, get_or-set_other}
use Rattle.std.proofs.lemmas.Option.{slice_get-get_or}
use Rattle.word36.specs.Words.{right_half}
use Rattle.core_store.specs.Cores.{Cores, core_of}
use Rattle.ka_state.specs.Registers.{flags_of, pc_word}
use Rattle.ka_state.specs.Memory.{are_legal, is_legal, word_at, word_below}
use Rattle.ka_state.specs.declared.outcome.StopReason.TheVariants.{IllegalAddress}
use Rattle.ka_state.specs.declared.registers.Flags.{Flags}
use Rattle.ka_state.specs.declared.registers.Regs.{Regs}
use Rattle.ka_state.proofs.LegalLemmas.{last_word_decides, legal_within}
use Rattle.lock_queue.specs.declared.request.Request.{Request}
use Rattle.job_sched.specs.Tables.{job_at}
use Rattle.job_sched.specs.declared.job.Job.{Job}
use Rattle.uuo_calls.specs.CallState.{stopped}
use Rattle.uuo_calls.specs.InterruptRows.{debrk, dismissed, dismissed_at, vector_in_progress}
use Rattle.uuo_calls.specs.Performed.{Performed, around, ended, performed, row_of}
use Rattle.uuo_calls.specs.StatusRow.{JobCore}
use Rattle.uuo_calls.specs.declared.service.Service.TheVariants.{Debrk}
use Rattle.uuo_calls.proofs.Rows.{performs}
use Rattle.machine.specs.Turns.{Turn, delivered, done, interrupted_at, noted, notified_at}
use Rattle.call_laws.specs.Deliveries.{DebrkGoesBack}

-- a PC word tells its PC and flags
pc-told : (f : Flags) (pc : ℕ) → pc < 2 ^ 18 → right_half (pc_word f pc) ≡ pc
unfolding pc_word
pc-told f pc low = go f.overflow f.carry0 f.carry1 f.no_divide
  where
    go : (a b c d : Bool)
        → right_half (cond a (2 ^ 35) 0 + cond b (2 ^ 34) 0 + cond c (2 ^ 33) 0 + 2 ^ 30 + cond d (2 ^ 23) 0 + pc) ≡ pc
    go true true true true = omega arith
    go true true true false = omega arith
    go true true false true = omega arith
    go true true false false = omega arith
    go true false true true = omega arith
    go true false true false = omega arith
    go true false false true = omega arith
    go true false false false = omega arith
    go false true true true = omega arith
    go false true true false = omega arith
    go false true false true = omega arith
    go false true false false = omega arith
    go false false true true = omega arith
    go false false true false = omega arith
    go false false false true = omega arith
    go false false false false = omega arith

abbrev bits : Bool → Bool → Bool → Bool → ℕ → ℕ
bits a b c d pc = cond a (2 ^ 35) 0 + cond b (2 ^ 34) 0 + cond c (2 ^ 33) 0 + 2 ^ 30 + cond d (2 ^ 23) 0 + pc

bit-35 : (a b c d : Bool) (pc : ℕ) → pc < 2 ^ 18 → nat_eq (bits a b c d pc / 2 ^ 35 % 2) 1 ≡ a
bit-35 false false false false pc low = grind (arith, nat_tests)
bit-35 false false false true pc low = grind (arith, nat_tests)
bit-35 false false true false pc low = grind (arith, nat_tests)
bit-35 false false true true pc low = grind (arith, nat_tests)
bit-35 false true false false pc low = grind (arith, nat_tests)
bit-35 false true false true pc low = grind (arith, nat_tests)
bit-35 false true true false pc low = grind (arith, nat_tests)
bit-35 false true true true pc low = grind (arith, nat_tests)
bit-35 true false false false pc low = grind (arith, nat_tests)
bit-35 true false false true pc low = grind (arith, nat_tests)
bit-35 true false true false pc low = grind (arith, nat_tests)
bit-35 true false true true pc low = grind (arith, nat_tests)
bit-35 true true false false pc low = grind (arith, nat_tests)
bit-35 true true false true pc low = grind (arith, nat_tests)
bit-35 true true true false pc low = grind (arith, nat_tests)
bit-35 true true true true pc low = grind (arith, nat_tests)

bit-34 : (a b c d : Bool) (pc : ℕ) → pc < 2 ^ 18 → nat_eq (bits a b c d pc / 2 ^ 34 % 2) 1 ≡ b
bit-34 false false false false pc low = grind (arith, nat_tests)
bit-34 false false false true pc low = grind (arith, nat_tests)
bit-34 false false true false pc low = grind (arith, nat_tests)
bit-34 false false true true pc low = grind (arith, nat_tests)
bit-34 false true false false pc low = grind (arith, nat_tests)
bit-34 false true false true pc low = grind (arith, nat_tests)
bit-34 false true true false pc low = grind (arith, nat_tests)
bit-34 false true true true pc low = grind (arith, nat_tests)
bit-34 true false false false pc low = grind (arith, nat_tests)
bit-34 true false false true pc low = grind (arith, nat_tests)
bit-34 true false true false pc low = grind (arith, nat_tests)
bit-34 true false true true pc low = grind (arith, nat_tests)
bit-34 true true false false pc low = grind (arith, nat_tests)
bit-34 true true false true pc low = grind (arith, nat_tests)
bit-34 true true true false pc low = grind (arith, nat_tests)
bit-34 true true true true pc low = grind (arith, nat_tests)

bit-33 : (a b c d : Bool) (pc : ℕ) → pc < 2 ^ 18 → nat_eq (bits a b c d pc / 2 ^ 33 % 2) 1 ≡ c
bit-33 false false false false pc low = grind (arith, nat_tests)
bit-33 false false false true pc low = grind (arith, nat_tests)
bit-33 false false true false pc low = grind (arith, nat_tests)
bit-33 false false true true pc low = grind (arith, nat_tests)
bit-33 false true false false pc low = grind (arith, nat_tests)
bit-33 false true false true pc low = grind (arith, nat_tests)
bit-33 false true true false pc low = grind (arith, nat_tests)
bit-33 false true true true pc low = grind (arith, nat_tests)
bit-33 true false false false pc low = grind (arith, nat_tests)
bit-33 true false false true pc low = grind (arith, nat_tests)
bit-33 true false true false pc low = grind (arith, nat_tests)
bit-33 true false true true pc low = grind (arith, nat_tests)
bit-33 true true false false pc low = grind (arith, nat_tests)
bit-33 true true false true pc low = grind (arith, nat_tests)
bit-33 true true true false pc low = grind (arith, nat_tests)
bit-33 true true true true pc low = grind (arith, nat_tests)

bit-23 : (a b c d : Bool) (pc : ℕ) → pc < 2 ^ 18 → nat_eq (bits a b c d pc / 2 ^ 23 % 2) 1 ≡ d
bit-23 false false false false pc low = grind (arith, nat_tests)
bit-23 false false false true pc low = grind (arith, nat_tests)
bit-23 false false true false pc low = grind (arith, nat_tests)
bit-23 false false true true pc low = grind (arith, nat_tests)
bit-23 false true false false pc low = grind (arith, nat_tests)
bit-23 false true false true pc low = grind (arith, nat_tests)
bit-23 false true true false pc low = grind (arith, nat_tests)
bit-23 false true true true pc low = grind (arith, nat_tests)
bit-23 true false false false pc low = grind (arith, nat_tests)
bit-23 true false false true pc low = grind (arith, nat_tests)
bit-23 true false true false pc low = grind (arith, nat_tests)
bit-23 true false true true pc low = grind (arith, nat_tests)
bit-23 true true false false pc low = grind (arith, nat_tests)
bit-23 true true false true pc low = grind (arith, nat_tests)
bit-23 true true true false pc low = grind (arith, nat_tests)
bit-23 true true true true pc low = grind (arith, nat_tests)

flags-told : (f : Flags) (pc : ℕ) → pc < 2 ^ 18 → flags_of (pc_word f pc) ≡ f
unfolding pc_word flags_of
flags-told f pc low =
    let a = bit-35 f.overflow f.carry0 f.carry1 f.no_divide pc low in
    let b = bit-34 f.overflow f.carry0 f.carry1 f.no_divide pc low in
    let c = bit-33 f.overflow f.carry0 f.carry1 f.no_divide pc low in
    let d = bit-23 f.overflow f.carry0 f.carry1 f.no_divide pc low in
    rw (a, b, c, d) refl

-- words at places
set-get : (xs : List ℕ) (i w : ℕ) → i < length xs → slice_get (slice_set xs i w) i ≡ Some w
set-get xs i w low = slice_get-get_or (slice_set xs i w) i 0 (omega (arith, length-set xs i w)) ∙ ap Some (get_or-set_same xs i w 0 low)

set-other : (xs : List ℕ) (i j w : ℕ) → i ≢ j → i < length xs → slice_get (slice_set xs j w) i ≡ slice_get xs i
set-other xs i j w ne low =
    slice_get-get_or (slice_set xs j w) i 0 (omega (arith, length-set xs j w)) ∙ ap Some (get_or-set_other xs j i w 0 ne) ∙ sym (slice_get-get_or xs i 0 low)

abbrev word_of : Bool → List ℕ → List ℕ → ℕ → Option ℕ
word_of low ac core a = cond low (slice_get ac a) (slice_get core a)

-- what is stored at a place is there, and stays where another place is written
read-back : (low high : Bool) (ac core : List ℕ) (a b v w : ℕ) → (low ≡ true → a < length ac) → (low ≡ false → a < length core) → a ≢ b
    → word_of low (cond high (slice_set (cond low (slice_set ac a v) ac) b w) (cond low (slice_set ac a v) ac))
    (cond high (cond low core (slice_set core a v)) (slice_set (cond low core (slice_set core a v)) b w)) a ≡ Some v
read-back true true ac core a b v w here there ne =
    set-other (slice_set ac a v) a b w ne (omega (arith, length-set ac a v, here refl)) ∙ set-get ac a v (here refl)
read-back true false ac core a b v w here there ne = set-get ac a v (here refl)
read-back false true ac core a b v w here there ne = set-get core a v (there refl)
read-back false false ac core a b v w here there ne =
    set-other (slice_set core a v) a b w ne (omega (arith, length-set core a v, there refl)) ∙ set-get core a v (there refl)

noted-back : (g : Regs) (core : List ℕ) (vector id : ℕ) → length g.ac ≡ 16 → is_legal core (vector + 1) ≡ true
    → word_at (noted g core vector id).regs.ac (noted g core vector id).core (vector + 1) ≡ Some (pc_word g.flags g.pc)
noted-back g core vector id size legal =
    read-back (nat_lt (vector + 1) 16) (nat_lt (vector + 3) 16) g.ac core (vector + 1) (vector + 3) (pc_word g.flags g.pc) id
    (λ e. omega (arith, size, ltb-true (vector + 1) 16 e))
    (λ e. core-low e legal) (λ e. absurd (omega (arith, e)))
  where
    core-low : nat_lt (vector + 1) 16 ≡ false → (nat_lt (vector + 1) 16 || nat_lt (vector + 1) (length core)) ≡ true → vector + 1 < length core
    core-low e h = grind (arith, nat_tests)

-- what a delivery leaves behind the vector's first word
delivered-word : (n vector id : ℕ) (j : Job) (cores : Cores) (requests : List Request) → are_legal (core_of cores n) vector 4 ≡ true → length j.regs.ac ≡ 16
    → n < length cores.cores
    → word_below (delivered n j cores requests vector id).job.regs.ac (core_of (delivered n j cores requests vector id).cores n) (vector + 1)
    ≡ Some (pc_word j.regs.flags j.regs.pc)
delivered-word n vector id j cores requests legal size here =
    let core : List ℕ = core_of cores n in
    let o : JobCore = interrupted_at j core vector id in
    let t : Turn = notified_at n cores requests o in
    let is : delivered n j cores requests vector id ≡ t = ap (λ (b : Bool). cond b t (done (stopped j IllegalAddress) cores requests)) legal in
    let kept : core_of t.cores n ≡ o.core = get_or-set_same cores.cores n o.core [] here in
    let one : is_legal core (vector + 1) ≡ true = legal_within core vector 4 (vector + 1) legal (omega arith) (omega arith) in
    let low : vector + 1 < 2 ^ 18 = below vector core legal in
    ap (λ (x : Turn). word_below x.job.regs.ac (core_of x.cores n) (vector + 1)) is
    ∙ ap (λ l. word_below o.job.regs.ac l (vector + 1)) kept
    ∙ ap (λ (b : Bool). cond b (word_at o.job.regs.ac o.core (vector + 1)) None) (lt-ltb (vector + 1) (2 ^ 18) low)
    ∙ noted-back j.regs core vector id size one
  where
    below : (vector : ℕ) (core : List ℕ) → are_legal core vector 4 ≡ true → vector + 1 < 2 ^ 18
    below vector core legal =
        let whole : (nat_le (vector + 4) (2 ^ 18) && (nat_le (vector + 4) 16 || nat_le (vector + 4) (length core))) ≡ true =
        sym (last_word_decides core vector 4 (omega arith)) ∙ legal in
        let high : vector + 4 ≤ 2 ^ 18 = leb-true (vector + 4) (2 ^ 18) (and_parts (nat_le (vector + 4) (2 ^ 18)) _ whole).0 in
        omega (arith, high)

pub debrk_goes_back : DebrkGoesBack
debrk_goes_back w time n vector id c j k cores requests legal size here low there in_table is busy armed word =
    let core : List ℕ = core_of w.cores n in
    let pc : ℕ = pc_word j.regs.flags j.regs.pc in
    let back : Job = dismissed k (Some pc) in
    let row : performed w time n c ≡ ended w n (row_of Debrk time n c.ac c.e (around w k)) =
    performs w time n c k there ∙ ap (λ s. ended w n (row_of s time n c.ac c.e (around w k))) is in
    let at : vector_in_progress k.interrupts ≡ Some vector = ap (λ (b : Bool). cond b k.interrupts.vector None) busy ∙ armed in
    let left : debrk core k ≡ back =
    ap (dismissed_at core k) at ∙ ap (dismissed k) (word ∙ delivered-word n vector id j cores requests legal size here) in
    record {
      job = back;
      there =
          ap (λ (p : Performed). job_at p.world.table.jobs n) row
          ∙ ap (λ (x : Job). job_at (slice_set w.table.jobs n (Some x)) n) left
          ∙ get_or-set_same w.table.jobs n (Some back) None in_table;
      pc = pc-told j.regs.flags j.regs.pc low;
      flags = flags-told j.regs.flags j.regs.pc low;
      over = refl;
    }
