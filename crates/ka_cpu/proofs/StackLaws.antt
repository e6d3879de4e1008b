-- What POP finds after PUSH.
use Rattle.std.proofs.Common.{◌≡◌, ◌≢◌, ◌∙◌, ℕ, ◌<◌, ◌≤◌, ◌^◌, inl, inr, true, List, Some, length, slice_get, slice_set, refl, ap, arith}
use Rattle.std.specs.Prelude.{slice_index}
use Rattle.std.proofs.lemmas.Bool.{cases_lt, lt-ltb, le-ltb}
use Rattle.std.proofs.lemmas.Bool.Decides.{nat_tests}
use Rattle.std.proofs.lemmas.List.{get_or-set_same, get_or-set_other}
use Rattle.std.proofs.lemmas.Option.{slice_get-get_or}
use Rattle.std.proofs.Math.ListN.{length-set}
use Rattle.word36.specs.Words.{right_half}
use Rattle.ka_word.specs.Pushdown.{counted_down, counted_up}
use Rattle.ka_state.specs.Memory.{ac_with, core_with, is_legal, word_at}
use Rattle.ka_cpu.specs.Effects.{After, a_of, finished, outcome_of}
use Rattle.ka_state.specs.Registers.{next_pc}
use Rattle.ka_cpu.specs.Stacks.{pop_ending, pop_row, popped, push_ending, push_row, pushed}
use Rattle.ka_state.specs.declared.registers.Regs.{Regs}
use Rattle.ka_cpu.specs.Instructions.{Instruction}

length-stored : (ac : List ℕ) (p w : ℕ) → length (ac_with ac p w) ≡ length ac
length-stored ac p w = elim (cases_lt p 16) [ inl h ↦ rw (lt-ltb p 16 h) (length-set ac p w) | inr h ↦ rw (le-ltb p 16 h) refl ]

length-core : (core : List ℕ) (p w : ℕ) → length (core_with core p w) ≡ length core
length-core core p w = elim (cases_lt p 16) [ inl h ↦ rw (lt-ltb p 16 h) refl | inr h ↦ rw (le-ltb p 16 h) (length-set core p w) ]

legal_behind : (core : List ℕ) (p : ℕ) → 16 ≤ p → is_legal core p ≡ true → p < length core
legal_behind core p h l = grind (arith, nat_tests)

legal_still : (core : List ℕ) (p w e : ℕ) → is_legal core e ≡ true → is_legal (core_with core p w) e ≡ true
legal_still core p w e h = rw (length-core core p w) h

read_set : (xs : List ℕ) (i x : ℕ) → i < length xs → slice_get (slice_set xs i x) i ≡ Some x
read_set xs i x h = slice_get-get_or (slice_set xs i x) i 0 (let n = length-set xs i x in omega arith) ∙ ap (λ (y : ℕ). Some y) (get_or-set_same xs i x 0 h)

read_other : (xs : List ℕ) (i j x y : ℕ) → i ≢ j → i < length xs → slice_get (slice_set (slice_set xs i x) j y) i ≡ Some x
read_other xs i j x y n h =
    let a = length-set xs i x in
    let b = length-set (slice_set xs i x) j y in
    slice_get-get_or (slice_set (slice_set xs i x) j y) i 0 (omega arith)
    ∙ ap (λ (z : ℕ). Some z) (get_or-set_other (slice_set xs i x) j i y 0 n ∙ get_or-set_same xs i x 0 h)

-- a word that is stored is there, also once another register is set
stored_word : (ac core : List ℕ) (p k w x : ℕ) → length ac ≡ 16 → p ≢ k → is_legal core p ≡ true
    → word_at (slice_set (ac_with ac p w) k x) (core_with core p w) p ≡ Some w
stored_word ac core p k w x n d l = elim (cases_lt p 16) [
  | inl h ↦ rw (lt-ltb p 16 h) (read_other ac p k w x d (omega arith))
  | inr h ↦ rw (le-ltb p 16 h) (read_set core p w (legal_behind core p h l))
]

set_register : (ac : List ℕ) (p k w x : ℕ) → length ac ≡ 16 → k < 16 → slice_index (slice_set (ac_with ac p w) k x) k ≡ x
set_register ac p k w x n h = let m = length-stored ac p w in get_or-set_same (ac_with ac p w) k x 0 (omega arith)

counted_back : (a : ℕ) → a < 2 ^ 36 → counted_down (counted_up a) ≡ a
counted_back a h = omega arith

push_is : (g : Regs) (core : List ℕ) (n : Instruction) (w : ℕ) → word_at g.ac core n.e ≡ Some w → is_legal core (right_half (counted_up (a_of g n))) ≡ true
    → finished g core n (push_row g core n)
    ≡ record {
      regs = record {
        ac = slice_set (ac_with g.ac (right_half (counted_up (a_of g n))) w) n.ac (counted_up (a_of g n));
        pc = next_pc g;
        flags = g.flags;
      };
      core = core_with core (right_half (counted_up (a_of g n))) w;
      outcome = outcome_of (push_ending (a_of g n));
    }
unfolding push_row
push_is g core n w e l = rw (e, l) refl

pop_is : (g : Regs) (core : List ℕ) (n : Instruction) (w : ℕ) → word_at g.ac core (right_half (a_of g n)) ≡ Some w → is_legal core n.e ≡ true
    → finished g core n (pop_row g core n)
    ≡ record {
      regs = record { ac = slice_set (ac_with g.ac n.e w) n.ac (counted_down (a_of g n)); pc = next_pc g; flags = g.flags };
      core = core_with core n.e w;
      outcome = outcome_of (pop_ending (a_of g n));
    }
unfolding pop_row
pop_is g core n w e l = rw (e, l) refl

-- over the registers and core that PUSH leaves
popped_at : (h : Regs) (rest : List ℕ) (m : Instruction) (w a : ℕ) → length h.ac ≡ 16 → m.ac < 16 → a < 2 ^ 36 → a_of h m ≡ counted_up a
    → word_at h.ac rest (right_half (a_of h m)) ≡ Some w → is_legal rest m.e ≡ true → m.e ≢ m.ac
    → (a_of (finished h rest m (pop_row h rest m)).regs m ≡ a)
    × (word_at (finished h rest m (pop_row h rest m)).regs.ac (finished h rest m (pop_row h rest m)).core m.e ≡ Some w)
popped_at h rest m w a n k b e r l d =
    let x : ℕ = counted_down (a_of h m) in
    let back : counted_down (a_of h m) ≡ a = ap counted_down e ∙ counted_back a b in
    rw (pop_is h rest m w r l) (set_register h.ac m.e m.ac w x n k ∙ back, stored_word h.ac rest m.e m.ac w x n d l)

pop_at : (g : Regs) (core : List ℕ) (n m : Instruction) (w : ℕ) → length g.ac ≡ 16 → n.ac < 16 → m.ac ≡ n.ac → a_of g n < 2 ^ 36
    → word_at g.ac core n.e ≡ Some w → is_legal core (right_half (counted_up (a_of g n))) ≡ true → right_half (counted_up (a_of g n)) ≢ n.ac
    → is_legal core m.e ≡ true → m.e ≢ n.ac
    → (a : After) → a ≡ finished g core n (push_row g core n)
    → (a_of (finished a.regs a.core m (pop_row a.regs a.core m)).regs m ≡ a_of g n)
    × (word_at (finished a.regs a.core m (pop_row a.regs a.core m)).regs.ac (finished a.regs a.core m (pop_row a.regs a.core m)).core m.e ≡ Some w)
pop_at g core n m w len k same b e l d le de a is =
    let up : ℕ = counted_up (a_of g n) in
    let p : ℕ = right_half (counted_up (a_of g n)) in
    let s = is ∙ push_is g core n w e l in
    rw s (
    let acs : List ℕ = slice_set (ac_with g.ac p w) n.ac up in
    let h : Regs = record { ac = acs; pc = next_pc g; flags = g.flags } in
    let size : length acs ≡ 16 = length-set (ac_with g.ac p w) n.ac up ∙ (length-stored g.ac p w ∙ len) in
    let pointer : slice_index acs m.ac ≡ up = ap (slice_index acs) same ∙ set_register g.ac p n.ac w up len k in
    let read : word_at acs (core_with core p w) (right_half (slice_index acs m.ac)) ≡ Some w =
    ap (λ (i : ℕ). word_at acs (core_with core p w) (right_half i)) pointer ∙ stored_word g.ac core p n.ac w up len d l in
    popped_at h (core_with core p w) m w (a_of g n) size (rw same k) b pointer read (legal_still core p w m.e le) (rw same de))

pub pop_law : (g : Regs) (core : List ℕ) (n m : Instruction) (w : ℕ) → length g.ac ≡ 16 → n.ac < 16 → m.ac ≡ n.ac → a_of g n < 2 ^ 36
    → word_at g.ac core n.e ≡ Some w → is_legal core (right_half (counted_up (a_of g n))) ≡ true → right_half (counted_up (a_of g n)) ≢ n.ac
    → is_legal core m.e ≡ true → m.e ≢ n.ac
    → (a_of (popped (pushed g core n) m).regs m ≡ a_of g n) × (word_at (popped (pushed g core n) m).regs.ac (popped (pushed g core n) m).core m.e ≡ Some w)
pop_law g core n m w len k same b e l d le de = pop_at g core n m w len k same b e l d le de (pushed g core n) refl
