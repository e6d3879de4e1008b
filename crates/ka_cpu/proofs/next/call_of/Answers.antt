use Rattle.std.proofs.Common.{rules, ◌≡◌, ◌∙◌, Ok, Err, ap, sym}
use Rattle.ka_isa.specs.Families.{family_of}
use Rattle.ka_isa.specs.declared.Family.TheVariants.{Calli, Ttcall}
use Rattle.ka_cpu.specs.Addresses.{address_in, target_of}
use Rattle.ka_cpu.specs.Exec.{op_of}
use Rattle.ka_cpu.proofs.Calls.{calli-word, refused-word, ttcall-word}
use Rattle.ka_cpu.proofs.next.call_of.Goals as goal
use Rattle.ka_cpu.proofs.next.call_of.Goals.{in-Calli, in-Ttcall}

pub returns-in-Ok : goal.returns-in-Ok
returns-in-Ok g c =
    let core = g.M.ReadMemory.words c.args.memory.now in
    let family : c.classify.result ≡ family_of (op_of c.args.word) = c.classify.ensures ∙ ap family_of c.operation.ensures.value in
    let found : Ok c.in-Ok.e ≡ address_in (target_of c.args.regs.now.ac core c.args.word) = c.in-Ok.ensures in
    elim c.match-classify.branch [
      | in-Calli w ↦
          let is : family_of (op_of c.args.word) ≡ Calli = sym family ∙ w.in-Calli.is in
          let p = calli-word c.args.regs.now core c.args.word c.in-Ok.e is found in
          search (rules, p)
      | in-Ttcall w ↦
          let is : family_of (op_of c.args.word) ≡ Ttcall = sym family ∙ w.in-Ttcall.is in
          let p = ttcall-word c.args.regs.now core c.args.word c.in-Ok.e is found in
          search (rules, p)
    ]

pub returns-in-Err : goal.returns-in-Err
returns-in-Err g c =
    let core = g.M.ReadMemory.words c.args.memory.now in
    let refused : Err c.in-Err.field-0 ≡ address_in (target_of c.args.regs.now.ac core c.args.word) = c.in-Err.ensures in
    sym (refused-word c.args.regs.now core c.args.word c.in-Err.field-0 refused)
