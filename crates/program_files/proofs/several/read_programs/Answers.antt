use Rattle.std.proofs.Common.{◌≡◌, length, subst, arith}
use Rattle.std.proofs.lemmas.List.{take_all}
use Rattle.program_files.specs.Reads.{AreProgramsOf}
use Rattle.program_files.proofs.Sources.{next}
use Rattle.program_files.proofs.several.read_programs.Goals as goal

pub loop-at-preserved : goal.loop-at-preserved
loop-at-preserved c =
    let p = next c.args.from c.args.files.now c.loop-at.at c.loop-at.programs.items c.keep.new.programs.items c.read_one-program.result
    c.index-files-at.result c.loop-at-test.true c.index-files-at.is c.read_one-program.ensures c.keep.ensures c.loop-at.invariant.few
    c.loop-at.invariant.all in
    record { few = p.0; all = p.1 }

pub returns-clause-programs : goal.returns-clause-programs
returns-clause-programs c =
    let end : c.loop-at.at ≡ length c.args.files.now = omega arith in
    let many : length c.loop-at.programs.items ≡ c.loop-at.at = omega arith in
    subst (λ files. AreProgramsOf c.args.from files c.loop-at.programs.items) (take_all c.loop-at.at c.args.files.now (omega (arith, end)))
    (c.loop-at.invariant.all many)
