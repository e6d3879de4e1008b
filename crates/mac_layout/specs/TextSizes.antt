-- How many words texts take (MACRO-10 Assembler Manual).
use Rattle.std.specs.Prelude.{ℕ, ◌+◌, ◌/◌, ◌%◌, ◌==◌, if◌then◌else◌}
use Rattle.mac_text.specs.declared.syntax.TextForm.{TextForm}
use Rattle.mac_text.specs.declared.syntax.TextForm.TheVariants.{Ascii, Asciz, Sixbit}

-- n characters in words of so many
abbrev pub rounded_up : ℕ → ℕ → ℕ
rounded_up n size = n / size + (if n % size == 0 then 0 else 1)

-- how many words a text of n characters takes; ASCIZ has a zero character behind the last
abbrev pub words_in : TextForm → ℕ → ℕ
words_in Ascii n = rounded_up n 5
words_in Asciz n = n / 5 + 1
words_in Sixbit n = rounded_up n 6
