use Rattle.std.proofs.Common.{rules, arith, ◌≡◌, true, false, Some}
use Rattle.std.specs.Prelude.{bytes_eq, codes}
use Rattle.std.proofs.lemmas.Grind.{common_steps}
use Rattle.word36.specs.declared.sizes.TheConstants.{MOST_BLOCKS}
use Rattle.machine.specs.declared.sizes.TheConstants.{MOST_QUANTUM}
use Rattle.script_io.specs.Numbers.{number}
use Rattle.op_script.proofs.HeadLemmas.{blocks_more, quantum_more}
use Rattle.op_script.proofs.heads.head_of.Goals as goal

pub loop-name-preserved-then-eq : goal.loop-name-preserved-then-eq
loop-name-preserved-then-eq c =
    let is : bytes_eq c.in-Some.name.now (codes "--blocks") ≡ true = first_of (search rules, grind (arith, common_steps)) in
    let read : Some c.in_ok-blocks.field-0 ≡ number 10 MOST_BLOCKS c.in_ok-value.value.now = first_of (search rules, grind (arith, common_steps)) in
    record {
      blocks = search rules;
      quantum = c.loop-name.invariant.quantum;
      rest = blocks_more c.loop-name.blocks c.loop-name.quantum c.in_ok-blocks.field-0 c.loop-name.items c.next-in-loop-name.new.self
          c.next-in-Some.new.self c.in-Some.name.now c.in_ok-value.value.now _ c.in-Some.ensures c.in_ok-value.ensures c.loop-name.invariant.rest is read;
    }

pub loop-name-preserved : goal.loop-name-preserved
loop-name-preserved c =
    let no : bytes_eq c.in-Some.name.now (codes "--blocks") ≡ false = first_of (search rules, grind (arith, common_steps)) in
    let is : bytes_eq c.in-Some.name.now (codes "--quantum") ≡ true = first_of (search rules, grind (arith, common_steps)) in
    let read : Some c.in_ok-quantum.field-0 ≡ number 10 MOST_QUANTUM c.in_ok-value.value.now = first_of (search rules, grind (arith, common_steps)) in
    record {
      blocks = c.loop-name.invariant.blocks;
      quantum = search rules;
      rest = quantum_more c.loop-name.blocks c.loop-name.quantum c.in_ok-quantum.field-0 c.loop-name.items c.next-in-loop-name.new.self
          c.next-in-Some.new.self c.in-Some.name.now c.in_ok-value.value.now _ c.in-Some.ensures c.in_ok-value.ensures c.loop-name.invariant.rest no is read;
    }
