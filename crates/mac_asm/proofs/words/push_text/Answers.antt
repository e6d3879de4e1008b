use Rattle.std.proofs.Common.{sym}
use Rattle.mac_asm.proofs.PushLemmas.{text_stops, text_goes_on, stopped}
use Rattle.mac_asm.proofs.words.push_text.Goals as goal

pub returns-in-None : goal.returns-in-None
returns-in-None c =
    stopped c.args.words.now.items _
    (text_stops c.args.form c.args.text.now c.loop-i.words.items c.loop-i.i c.text_words-i-end.result _ c.loop-i-test.true
    (sym c.in-None.ensures) c.loop-i.invariant)

pub loop-i-preserved : goal.loop-i-preserved
loop-i-preserved c =
    text_goes_on c.args.form c.args.text.now c.loop-i.words.items c.push.new.self.items c.loop-i.i c.text_words-i-end.result
    c.in-Some.word _ c.loop-i-test.true (sym c.in-Some.ensures) c.in_ok-push-in-Some.ensures.items c.loop-i.invariant
