-- The forms of statements with names of their own (MACRO-10 Assembler Manual).
use Rattle.std.specs.Prelude.{ℕ, List, ◌||◌, Option, Some, None, codes, if◌then◌else◌}
use Rattle.std.specs.Str.{bytes_eq}
use Rattle.mac_text.specs.declared.keyword.Form.{Form}
use Rattle.mac_text.specs.declared.keyword.Form.TheVariants.{Loc, End, Radix, Title, Xwd, Iowd, Exp, Point, Text, Block}
use Rattle.mac_text.specs.declared.syntax.TextForm.TheVariants.{Ascii, Asciz, Sixbit}

unfoldable pub form_of : List ℕ → Option Form
form_of name =
    if bytes_eq name (codes "XWD") then Some Xwd else
    if bytes_eq name (codes "EXP") then Some Exp else
    if bytes_eq name (codes "LOC") then Some Loc else
    if bytes_eq name (codes "END") then Some End else
    if bytes_eq name (codes "IOWD") then Some Iowd else
    if bytes_eq name (codes "POINT") then Some Point else
    if bytes_eq name (codes "ASCII") then Some (Text Ascii) else
    if bytes_eq name (codes "ASCIZ") then Some (Text Asciz) else
    if bytes_eq name (codes "BLOCK") then Some Block else
    if bytes_eq name (codes "RADIX") then Some Radix else
    if bytes_eq name (codes "TITLE") then Some Title else
    if bytes_eq name (codes "SIXBIT") then Some (Text Sixbit) else
    if bytes_eq name (codes "SUBTTL") || bytes_eq name (codes "SEARCH") then Some Title else None
