use Rattle.ka_word.proofs.Shifting.{left_gone_36, word_gone, word_cut}

-- a word moved by 36 bits or more is 0, and the bits above 36 leave it
pub ruleset gone = (left_gone_36, word_gone, word_cut)
