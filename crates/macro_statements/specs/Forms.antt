-- What names are at the beginning of a statement (MACRO-10 Assembler Manual).
use Rattle.std.specs.Prelude.{ℕ, List, [], ◌∷◌, Option, Some, None, codes, true, false}
use Rattle.ka_isa.specs.declared.calls.Named.{Named}
use Rattle.mac_text.specs.Names.{folded}
use Rattle.mac_text.specs.declared.syntax.TextForm.TheVariants.{Ascii, Asciz, Sixbit}
use Rattle.macro_expressions.specs.Operations.{found_in, operation_of}
use Rattle.macro_statements.specs.declared.forms.Test.TheVariants.{Equal, Unequal, Greater, NotLess, Less, NotGreater}
use Rattle.macro_statements.specs.declared.forms.Form.{Form}
use Rattle.macro_statements.specs.declared.forms.Form.TheVariants as forms
use Rattle.macro_statements.specs.declared.forms.Meant.{Meant}
use Rattle.macro_statements.specs.declared.forms.Meant.TheVariants.{Operation, Pseudo}

-- the pseudo-operations, each by the six characters that count
unfoldable pub form_names : List (List ℕ × Form)
form_names =
    (codes "EXP", forms.Exp) ∷ (codes "XWD", forms.Xwd) ∷ (codes "BLOCK", forms.Block) ∷ (codes "ASCIZ", forms.Text Asciz)
    ∷ (codes "ASCII", forms.Text Ascii) ∷ (codes "SIXBIT", forms.Text Sixbit) ∷ (codes "IOWD", forms.Iowd) ∷ (codes "OCT", forms.Oct)
    ∷ (codes "DEC", forms.Dec) ∷ (codes "LIT", forms.Lit) ∷ (codes "LOC", forms.Loc) ∷ (codes "RADIX", forms.Radix) ∷ (codes "END", forms.End)
    ∷ (codes "TITLE", forms.Title) ∷ (codes "SUBTTL", forms.Title) ∷ (codes "PAGE", forms.Remark) ∷ (codes "REMARK", forms.Remark)
    ∷ (codes "LALL", forms.Remark) ∷ (codes "SALL", forms.Remark) ∷ (codes "XALL", forms.Remark) ∷ (codes "LIST", forms.Remark)
    ∷ (codes "XLIST", forms.Remark) ∷ (codes "PRINTX", forms.Remark) ∷ (codes "POINT", forms.Unjudged) ∷ (codes "SEARCH", forms.Unjudged)
    ∷ (codes "BYTE", forms.Unjudged) ∷ (codes "RADIX5", forms.Unjudged) ∷ (codes "SQUOZE", forms.Unjudged) ∷ (codes "RELOC", forms.Unjudged)
    ∷ (codes "PHASE", forms.Unjudged) ∷ (codes "DEPHAS", forms.Unjudged) ∷ (codes "VAR", forms.Unjudged) ∷ (codes "OPDEF", forms.Unjudged)
    ∷ (codes "SYN", forms.Unjudged) ∷ (codes "PURGE", forms.Unjudged) ∷ (codes "COMMEN", forms.Comment) ∷ (codes "INTERN", forms.Unjudged)
    ∷ (codes "ENTRY", forms.Unjudged) ∷ (codes "SUPPRE", forms.Unjudged) ∷ (codes "ASUPPR", forms.Unjudged) ∷ (codes "NOSYM", forms.Unjudged)
    ∷ (codes "MLON", forms.Unjudged) ∷ (codes "MLOFF", forms.Unjudged) ∷ (codes ".CREF", forms.Unjudged) ∷ (codes ".XCREF", forms.Unjudged)
    ∷ (codes ".DIREC", forms.Unjudged) ∷ (codes "DEFINE", forms.Define) ∷ (codes "REPEAT", forms.Repeat) ∷ (codes "IRP", forms.Irp false)
    ∷ (codes "IRPC", forms.Irp true) ∷ (codes "STOPI", forms.Stopi) ∷ (codes "IFE", forms.If Equal) ∷ (codes "IFN", forms.If Unequal)
    ∷ (codes "IFG", forms.If Greater) ∷ (codes "IFGE", forms.If NotLess) ∷ (codes "IFL", forms.If Less) ∷ (codes "IFLE", forms.If NotGreater)
    ∷ (codes "IFDEF", forms.IfDefined true) ∷ (codes "IFNDEF", forms.IfDefined false) ∷ (codes "IFIDN", forms.IfSame true) ∷ (codes "IFDIF", forms.IfSame false)
    ∷ (codes "IFB", forms.IfBlank true) ∷ (codes "IFNB", forms.IfBlank false) ∷ (codes "IF1", forms.Unjudged) ∷ (codes "IF2", forms.Unjudged)
    ∷ (codes "EXTERN", forms.Unjudged) ∷ (codes ".REQUE", forms.Unjudged) ∷ (codes ".TEXT", forms.Unjudged) ∷ (codes ".LINK", forms.Unjudged)
    ∷ (codes "TWOSEG", forms.Unjudged) ∷ (codes "HISEG", forms.Unjudged) ∷ (codes ".PSECT", forms.Unjudged) ∷ (codes "UNIVER", forms.Unjudged)
    ∷ (codes "PRGEND", forms.Unjudged) ∷ []

abbrev pub form_of : List ℕ → Option Form
form_of name = found_in form_names (folded name)

abbrev pub meant_by : Option Named → Option Form → Option Meant
meant_by (Some named) form = Some (Operation named)
meant_by None (Some form) = Some (Pseudo form)
meant_by None None = None

-- an operation, or a pseudo-operation
abbrev pub built_in : List ℕ → Option Meant
built_in name = meant_by (operation_of name) (form_of name)
