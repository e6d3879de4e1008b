use Rattle.std.proofs.Common.{◌≡◌, ◌∙◌, ◌++◌, ◌∷◌, [], ℕ, ap, sym}
use Rattle.std.specs.Prelude.{IfSome, Some}
use Rattle.ddt_timeline.specs.Views.{history}
use Rattle.machine.specs.Machine.{S}
use Rattle.machine.specs.Views.{word_in}
use Rattle.program_shell.specs.Texts.{Adds}
use Rattle.ddt.specs.Obeying.{open_word}
use Rattle.ddt.specs.Showing.{line_in}
use Rattle.ddt.proofs.Adding.{at_some, if_both}
use Rattle.ddt.proofs.session.Session.show_address.Goals as goal

pub returns-clause-says : goal.returns-clause-says
returns-clause-says c =
    let me = c.args.self.now in
    let address = c.args.address in
    let is : open_word me (history c.args.timeline.now) address ≡ Some c.in-Some.word =
    ap (λ (m : S). word_in m.world me.open address) (sym c.machine.ensures) ∙ sym c.peek.ensures ∙ c.in-Some.is in
    at_some (open_word me (history c.args.timeline.now) address) c.in-Some.word
    (λ (w : ℕ). IfSome (line_in me address w) (λ line. Adds me.answer c.end_line.new.self (line ++ 10 ∷ []))) is
    (if_both me.answer c.say_word.new.self.answer c.end_line.new.self (line_in me address c.in-Some.word) (10 ∷ [])
    c.say_word.ensures.says c.end_line.ensures)
