use Rattle.std.proofs.Common.{◌≡◌, if◌then◌else◌, ◌∙◌, refl, ap, sym, List, ℕ, Result, Ok, true, false}
use Rattle.ka_isa.specs.Families.{family_of}
use Rattle.ka_isa.specs.declared.Family.TheVariants.{Xct}
use Rattle.ka_cpu.specs.declared.limits.TheConstants.{MOST_EXECUTES}
use Rattle.ka_cpu.specs.Addresses.{address_in, target_of, used_in}
use Rattle.ka_cpu.specs.Effects.{stopped}
use Rattle.ka_cpu.specs.Exec.{ac_field, carried_out, is_listed, op_of, word_behind, word_performed}
use Rattle.ka_cpu.specs.Instructions.{Instruction}
use Rattle.ka_state.specs.declared.registers.Regs.{Regs}
use Rattle.ka_state.specs.declared.outcome.StopReason.{StopReason}
use Rattle.ka_state.specs.declared.outcome.StopReason.TheVariants.{IllegalInstruction}
use Rattle.ka_cpu.proofs.Executes.{executed_by, xct_next, xct_refused}
use Rattle.ka_cpu.proofs.processor.execute.Goals as goal

pub returns-in-Some-clause-after : goal.returns-in-Some-clause-after
returns-in-Some-clause-after g c =
    let words = g.M.ReadMemory.words in
    let core = words c.words.memory in
    let here = words c.args.memory.now in
    let p : c.operation-op.result ≡ op_of c.words.word = c.operation-op.ensures.value in
    let q : c.accumulator_field-ac.result ≡ ac_field c.words.word = c.accumulator_field-ac.ensures.value in
    let f : (family_of c.operation-op.result ≡ Xct → ⊥) =
    (λ x. let t : true ≡ false =
    c.in-Some.ensures.none.1 (ap (λ (n : Instruction). family_of n.op) c.new-instruction.ensures ∙ x) in cc) in
    let h : Ok c.in-Ok.e ≡ address_in (target_of c.words.regs.ac core c.words.word) = c.in-Ok.ensures in
    c.in-Some.ensures.after
    ∙ ap
    (λ (n : Instruction). if is_listed (family_of n.op) n.ac
    then carried_out (family_of n.op) c.words.regs core n (used_in (target_of c.words.regs.ac core c.words.word))
    else stopped c.words.regs core IllegalInstruction) c.new-instruction.ensures
    ∙ sym (executed_by MOST_EXECUTES c.words.regs core c.words.word c.operation-op.result c.accumulator_field-ac.result c.in-Ok.e p q f h)
    ∙ ap (λ (r : Regs). word_performed r core (word_behind MOST_EXECUTES r.ac core c.words.word)) c.words.invariant.regs
    ∙ ap (λ (m : List ℕ). word_performed c.args.regs.now m (word_behind MOST_EXECUTES c.args.regs.now.ac m c.words.word)) c.words.invariant.core
    ∙ ap (λ (x : Result ℕ StopReason). word_performed c.args.regs.now here x) c.words.invariant.behind

pub returns-in-Err-find_executed-clause-after : goal.returns-in-Err-find_executed-clause-after
returns-in-Err-find_executed-clause-after g c =
    let words = g.M.ReadMemory.words in
    let kept = c.in_default.ensures.kept refl in
    let at : c.new-instruction.result.op ≡ c.operation-op.result = ap (λ (n : Instruction). n.op) c.new-instruction.ensures in
    let f : family_of c.operation-op.result ≡ Xct = ap family_of (sym at) ∙ c.in_default.ensures.none.0 refl in
    xct_refused c.words.regs c.carry_out.new.regs c.args.regs.now (words c.words.memory) (words c.carry_out.new.memory)
    (words c.args.memory.now) c.words.word c.args.word
    c.operation-op.result c.in-Ok.e c.in-Err-find_executed.reason kept.0 kept.1 c.words.invariant.regs c.words.invariant.core c.words.invariant.behind
    c.operation-op.ensures.value f c.in-Ok.ensures c.in-Err-find_executed.ensures.value

pub words-preserved : goal.words-preserved
words-preserved g c =
    let words = g.M.ReadMemory.words in
    let kept = c.in_default.ensures.kept refl in
    let at : c.new-instruction.result.op ≡ c.operation-op.result = ap (λ (n : Instruction). n.op) c.new-instruction.ensures in
    let f : family_of c.operation-op.result ≡ Xct = ap family_of (sym at) ∙ c.in_default.ensures.none.0 refl in
    record {
      regs = kept.0 ∙ c.words.invariant.regs;
      core = kept.1 ∙ c.words.invariant.core;
      place = c.carry_out.ensures.place ∙ c.words.invariant.place;
      behind =
          xct_next c.words.regs c.carry_out.new.regs c.args.regs.now (words c.words.memory) (words c.carry_out.new.memory)
          (words c.args.memory.now) c.words.word c.args.word
          c.operation-op.result c.in-Ok.e c.in-Ok-find_executed.next kept.0 kept.1 c.words.invariant.regs c.words.invariant.core c.words.invariant.behind
          c.operation-op.ensures.value f c.in-Ok.ensures c.in-Ok-find_executed.ensures.value c.in-Ok-find_executed.ensures.plain;
    }
