use Rattle.mac_text.proofs.PrintedLemmas.{program_of_word}
use Rattle.asm_laws.proofs.Printed.{words_back}
use Rattle.asm_laws.proofs.laws.printed_words_are_read.Goals as goal

pub returns : goal.returns
returns c = λ w below. record { reads = program_of_word w below; gives = λ names. words_back names w below }
