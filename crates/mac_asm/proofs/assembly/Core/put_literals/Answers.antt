use Rattle.std.proofs.Common.{arith, sym}
use Rattle.mac_layout.specs.Values.{names_of}
use Rattle.mac_asm.proofs.LineLemmas.{item_at, item_past, literal_put, literal_fails, literals_done, literals_end}
use Rattle.mac_asm.proofs.assembly.Core.put_literals.Goals as goal

pub returns-in_default : goal.returns-in_default
returns-in_default c =
    literals_done (names_of c.args.scope.now) c.args.scope.now.literals.now c.args.literals.now c.loop-i.i c.loop-i.self.cells _
    (item_past c.args.scope.now.literals.now c.loop-i.i c.in_default.ensures.lookup.0) c.loop-i.invariant

pub returns-then-not-branch : goal.returns-then-not-branch
returns-then-not-branch c =
    literal_fails (names_of c.args.scope.now) c.args.scope.now.literals.now c.args.literals.now c.loop-i.i c.in-Some.address.now
    c.index-literals-i.result c.loop-i.self.cells c.args.self.now.cells c.loop-i-test.true
    (item_at c.args.scope.now.literals.now c.loop-i.i c.in-Some.address.now c.in-Some.ensures.lookup.0
    c.in-Some.ensures.lookup.1) (sym c.index-literals-i.is)
    (rw c.if-not-branch.true at c.in_ok-put.ensures) c.loop-i.invariant

pub loop-i-preserved : goal.loop-i-preserved
loop-i-preserved c =
    literal_put (names_of c.args.scope.now) c.args.scope.now.literals.now c.args.literals.now c.loop-i.i c.in-Some.address.now
    c.index-literals-i.result c.loop-i.self.cells c.put.new.self.cells _ c.loop-i-test.true
    (item_at c.args.scope.now.literals.now c.loop-i.i c.in-Some.address.now c.in-Some.ensures.lookup.0
    c.in-Some.ensures.lookup.1) (sym c.index-literals-i.is)
    (rw c.if-not-branch.false at c.in_ok-put.ensures) c.loop-i.invariant

pub returns : goal.returns
returns c =
    literals_end (names_of c.args.scope.now) c.args.scope.now.literals.now c.args.literals.now c.loop-i.i c.loop-i.self.cells _
    (omega arith) c.loop-i.invariant
