use Rattle.std.proofs.lemmas.Result.{IfOk-weaker, on_ok_weaker}
use Rattle.ddt_timeline.specs.Views.{history}
use Rattle.ddt_moves.proofs.TerminalLemmas.{return-full, return-room, return-typed, room-more, typed-last, typed-more}
use Rattle.ddt_moves.proofs.terminals.type_line.Goals as goal

pub returns-then-not-branch-clause-happened : goal.returns-then-not-branch-clause-happened
returns-then-not-branch-clause-happened c =
    typed-last c.args.line c.loop-byte.byte-index c.args.typed.now (history c.loop-byte.timeline) _ _ c.in_ok-type_byte.field-0
    c.loop-byte-test.true c.in_ok-type_byte.ensures.happened c.in_ok-type_byte.ensures.room c.if-not-branch.true
    c.loop-byte.invariant.happened

pub loop-byte-preserved : goal.loop-byte-preserved
loop-byte-preserved c = record {
  happened =
      typed-more c.args.line c.loop-byte.byte-index c.args.typed.now (history c.loop-byte.timeline) _ _ c.in_ok-type_byte.field-0
      c.loop-byte-test.true c.in_ok-type_byte.ensures.happened c.in_ok-type_byte.ensures.room c.if-not-branch.false
      c.loop-byte.invariant.happened;
  room =
      room-more c.args.line c.loop-byte.byte-index c.args.typed.now (history c.loop-byte.timeline) _ _ c.in_ok-type_byte.field-0
      c.loop-byte-test.true c.in_ok-type_byte.ensures.happened c.in_ok-type_byte.ensures.room c.if-not-branch.false
      c.loop-byte.invariant.room;
}

pub returns-then-not-branch-2-clause-happened : goal.returns-then-not-branch-2-clause-happened
returns-then-not-branch-2-clause-happened c =
    return-full c.args.line c.loop-byte.byte-index c.args.typed.now (history c.loop-byte.timeline) _ _ c.in_ok-type_byte-2.field-0
    c.loop-byte-test.false c.in_ok-type_byte-2.ensures.happened c.in_ok-type_byte-2.ensures.room c.if-not-branch-2.true
    c.loop-byte.invariant.happened

pub returns-clause-happened : goal.returns-clause-happened
returns-clause-happened c =
    on_ok_weaker c.type_byte-3.result
    (λ last. return-typed c.args.line c.loop-byte.byte-index c.args.typed.now (history c.loop-byte.timeline) _ _ _ c.in_ok-type_byte-2.field-0
    c.loop-byte-test.false c.in_ok-type_byte-2.ensures.happened c.in_ok-type_byte-2.ensures.room c.if-not-branch-2.false
    last c.loop-byte.invariant.happened)
    c.type_byte-3.ensures.happened

pub returns-clause-room : goal.returns-clause-room
returns-clause-room c =
    IfOk-weaker c.type_byte-3.result _ _
    (λ value found. return-room c.args.line c.loop-byte.byte-index c.args.typed.now (history c.loop-byte.timeline) _ c.in_ok-type_byte-2.field-0
    value _ c.loop-byte-test.false c.in_ok-type_byte-2.ensures.happened c.in_ok-type_byte-2.ensures.room c.if-not-branch-2.false
    found c.loop-byte.invariant.room)
    c.type_byte-3.ensures.room
