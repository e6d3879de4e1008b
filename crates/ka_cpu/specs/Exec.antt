-- One instruction: which word it is, its address, its row.
use Rattle.std.specs.Prelude.{◌≡◌, ◌<◌, ◌≤◌, ℕ, zero, suc, length, ◌/◌, ◌%◌, ◌^◌, nat_eq}
use Rattle.std.specs.Prelude.{Bool, true, false, ◌||◌, if◌then◌else◌, Option, List, Result, Ok, Err}
use Rattle.ka_isa.specs.Families.{family_of}
use Rattle.ka_isa.specs.declared.Family.{Family}
use Rattle.ka_isa.specs.declared.Family.TheVariants.{Byte, Move, Movs, Movn, Movm, Imul, Mul, Idiv}
use Rattle.ka_isa.specs.declared.Family.TheVariants.{Shift, Jffo, Exch, Blt, Aobj, Jrst, Jfcl, Xct, Pushj}
use Rattle.ka_isa.specs.declared.Family.TheVariants.{Push, Pop, Popj, Jsr, Jsp, Jsa, Jra, Add, Sub}
use Rattle.ka_isa.specs.declared.Family.TheVariants.{Compare, JumpOn, SkipOn, Boolean, Half, Test, Calli}
use Rattle.ka_isa.specs.declared.Family.TheVariants.{Ttcall, Other}
use Rattle.ka_state.specs.Memory.{word_at}
use Rattle.ka_cpu.specs.Addresses.{Target, Path, reading, target_of, at_target}
use Rattle.ka_cpu.specs.Effects.{After, Effect, stopped, finished}
use Rattle.ka_cpu.specs.Moves.{move_row, exch_row}
use Rattle.ka_cpu.specs.declared.limits.TheConstants.{MOST_EXECUTES}
use Rattle.ka_cpu.specs.declared.moves.Transfer.TheVariants.{Plain, Swapped, Negated, Magnitude}
use Rattle.ka_cpu.specs.Halves.{half_row}
use Rattle.ka_cpu.specs.Arithmetic.{add_row, imul_row, mul_row, idiv_row}
use Rattle.ka_cpu.specs.Conditions.{compare_row, jump_row, skip_row}
use Rattle.ka_cpu.specs.Booleans.{boolean_row}
use Rattle.ka_cpu.specs.Tests.{test_row}
use Rattle.ka_cpu.specs.Shifts.{shift_row}
use Rattle.ka_cpu.specs.Jumps.{jffo_row, aobj_row, jrst_row, jfcl_row, jsr_row, jsp_row, jsa_row, jra_row, call_row}
use Rattle.ka_cpu.specs.Stacks.{pushj_row, push_row, pop_row, popj_row}
use Rattle.ka_cpu.specs.Blocks.{blt_after}
use Rattle.ka_cpu.specs.Bytes.{byte_after}
use Rattle.ka_state.specs.declared.registers.Regs.{Regs}
use Rattle.ka_state.specs.declared.outcome.StopReason.{StopReason}
use Rattle.ka_state.specs.declared.outcome.StopReason.TheVariants.{IllegalInstruction, AddressChain}
use Rattle.ka_state.specs.declared.outcome.CallKind.TheVariants as call
use Rattle.ka_cpu.specs.Instructions.{Instruction}

-- the operation, bits 0-8, and the AC field, bits 9-12
abbrev pub op_of : ℕ → ℕ
op_of w = w / 2 ^ 27

abbrev pub ac_field : ℕ → ℕ
ac_field w = w / 2 ^ 23 % 2 ^ 4

-- XCT, 256 octal: the word at its E is executed in its stead, and its own AC field has no effect. At most n XCTs
-- are followed (in `exec` MOST_EXECUTES: this project's profile).
abbrev pub is_execute : Family → Bool
is_execute Xct = true
is_execute _ = false

unfoldable pub is_xct : ℕ → Bool
is_xct w = is_execute (family_of (op_of w))

unfoldable pub word_behind : ℕ → List ℕ → List ℕ → ℕ → Result ℕ StopReason
word_behind zero ac core w = if is_xct w then Err AddressChain else Ok w
word_behind (suc k) ac core w =
    if is_xct w
    then at_target (target_of ac core w) (λ t. reading (word_at ac core t.e) (λ v. word_behind k ac core v))
    else Ok w

-- the word that an XCT executes, that at its E
abbrev pub executed_word : List ℕ → List ℕ → ℕ → Result ℕ StopReason
executed_word ac core w = at_target (target_of ac core w) (λ t. reading (word_at ac core t.e) (λ v. Ok v))

abbrev pub Executes : List ℕ → List ℕ → ℕ → ℕ → Type 0
Executes ac core w v = (is_xct w ≡ true) × (executed_word ac core w ≡ Ok v)

-- at most MOST_EXECUTES XCTs from w lead to the word v, which is no XCT
abbrev pub ComesTo : List ℕ → List ℕ → ℕ → ℕ → Type 0
ComesTo ac core w v = (vs : List ℕ) × (length vs ≤ MOST_EXECUTES) × Path (Executes ac core) w vs v × (is_xct v ≡ false)

-- fewer than MOST_EXECUTES XCTs from w lead to one whose word is refused for this reason
abbrev pub RefusedOnTheWay : List ℕ → List ℕ → ℕ → StopReason → Type 0
RefusedOnTheWay ac core w r =
    (vs : List ℕ) × (v : ℕ) × (length vs < MOST_EXECUTES) × Path (Executes ac core) w vs v
    × (is_xct v ≡ true) × (executed_word ac core v ≡ Err r)

-- MOST_EXECUTES XCTs from w lead to one more
abbrev pub ExecutesTooFar : List ℕ → List ℕ → ℕ → Type 0
ExecutesTooFar ac core w = (vs : List ℕ) × (v : ℕ) × (length vs ≡ MOST_EXECUTES) × Path (Executes ac core) w vs v × (is_xct v ≡ true)

-- the operations that are not left out; JRST has AC 0, 2 and 4 alone
abbrev pub is_listed : Family → ℕ → Bool
is_listed Other ac = false
is_listed Jrst ac = nat_eq ac 0 || nat_eq ac 2 || nat_eq ac 4
is_listed _ ac = true

-- the table: a row for each family of operations
abbrev pub row_of : Family → Regs → List ℕ → Instruction → Option ℕ → Result Effect StopReason
row_of Move g core n used = move_row Plain g core n
row_of Movs g core n used = move_row Swapped g core n
row_of Movn g core n used = move_row Negated g core n
row_of Movm g core n used = move_row Magnitude g core n
row_of Imul g core n used = imul_row g core n
row_of Mul g core n used = mul_row g core n
row_of Idiv g core n used = idiv_row g core n
row_of Shift g core n used = Ok (shift_row g n)
row_of Jffo g core n used = Ok (jffo_row g n)
row_of Exch g core n used = exch_row g core n
row_of Aobj g core n used = Ok (aobj_row g n)
row_of Jrst g core n used = Ok (jrst_row g n used)
row_of Jfcl g core n used = Ok (jfcl_row g n)
row_of Pushj g core n used = Ok (pushj_row g n)
row_of Push g core n used = push_row g core n
row_of Pop g core n used = pop_row g core n
row_of Popj g core n used = popj_row g core n
row_of Jsr g core n used = Ok (jsr_row g n)
row_of Jsp g core n used = Ok (jsp_row g n)
row_of Jsa g core n used = Ok (jsa_row g n)
row_of Jra g core n used = jra_row g core n
row_of Add g core n used = add_row false g core n
row_of Sub g core n used = add_row true g core n
row_of Compare g core n used = compare_row g core n
row_of (JumpOn c) g core n used = Ok (jump_row c g n)
row_of (SkipOn c) g core n used = skip_row c g core n
row_of Boolean g core n used = boolean_row g core n
row_of Half g core n used = half_row g core n
row_of Test g core n used = test_row g core n
row_of Calli g core n used = Ok (call_row call.Calli g n)
row_of Ttcall g core n used = Ok (call_row call.Ttcall g n)
row_of _ g core n used = Err IllegalInstruction

-- BLT and the byte instructions store more than one word in turn
abbrev pub carried_out : Family → Regs → List ℕ → Instruction → Option ℕ → After
carried_out Blt g core n used = blt_after g core n
carried_out Byte g core n used = byte_after g core n
carried_out f g core n used = finished g core n (row_of f g core n used)

abbrev pub at_address : Regs → List ℕ → ℕ → Result Target StopReason → After
at_address g core w (Err r) = stopped g core r
at_address g core w (Ok t) = carried_out (family_of (op_of w)) g core (record { op = op_of w; ac = ac_field w; e = t.e }) t.used

-- no address is calculated for an operation that is left out
unfoldable pub performed : Regs → List ℕ → ℕ → After
performed g core w =
    if is_listed (family_of (op_of w)) (ac_field w)
    then at_address g core w (target_of g.ac core w)
    else stopped g core IllegalInstruction

abbrev pub word_performed : Regs → List ℕ → Result ℕ StopReason → After
word_performed g core (Err r) = stopped g core r
word_performed g core (Ok w) = performed g core w

-- the instruction at the PC
unfoldable pub exec : Regs → List ℕ → After
exec g core = word_performed g core (reading (word_at g.ac core g.pc) (λ w. word_behind MOST_EXECUTES g.ac core w))

-- a word that stands nowhere, executed as an XCT would execute it: the PC is that of the XCT
abbrev pub exec_word : Regs → List ℕ → ℕ → After
exec_word g core w = word_performed g core (word_behind MOST_EXECUTES g.ac core w)
