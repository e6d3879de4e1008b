-- The operations and the named calls, in the order of the DECsystem-10 Processor Reference Manual and of
-- the TOPS-10 Monitor Calls Manual. A name is the list of its ASCII codes.
use Rattle.std.specs.Prelude.{ℕ, ◌+◌, ◌*◌, ◌^◌, true, false, ◌==◌, List, [], ◌∷◌, ◌++◌, codes, map, Option, Some, None, if◌then◌else◌}
use Rattle.std.specs.List.{flat_map}
use Rattle.std.specs.Str.{bytes_eq}
use Rattle.ka_isa.specs.declared.calls.Named.{Named}
use Rattle.ka_isa.specs.declared.calls.Call.{Call}
use Rattle.ka_isa.specs.declared.calls.Call.TheVariants.{Monitor, MonitorReturn, Terminal, Jump}

abbrev pub Name : Type 0
Name = List ℕ

-- an operation: the number in bits 0 to 8 of the word, and its name
pub record Operation : Type 0 where
  pub code : ℕ
  pub name : Name

-- the low two bits of an operation that moves a word or half a word: to AC, of E itself, to memory, to memory and perhaps AC
abbrev pub moving : List Name
moving = codes "" ∷ codes "I" ∷ codes "M" ∷ codes "S" ∷ []

-- of one that computes: to AC, with E itself, to memory, to both
abbrev pub computing : List Name
computing = codes "" ∷ codes "I" ∷ codes "M" ∷ codes "B" ∷ []

-- the low three bits of one that compares: never, less, equal, less or equal, always, greater or equal, not equal, greater
abbrev pub conditions : List Name
conditions = codes "" ∷ codes "L" ∷ codes "E" ∷ codes "LE" ∷ codes "A" ∷ codes "GE" ∷ codes "N" ∷ codes "G" ∷ []

-- the sixteen functions of two bits
abbrev pub booleans : List Name
booleans =
    codes "SETZ" ∷ codes "AND" ∷ codes "ANDCA" ∷ codes "SETM" ∷ codes "ANDCM" ∷ codes "SETA" ∷ codes "XOR" ∷ codes "IOR"
    ∷ codes "ANDCB" ∷ codes "EQV" ∷ codes "SETCA" ∷ codes "ORCA" ∷ codes "SETCM" ∷ codes "ORCM" ∷ codes "ORCB" ∷ codes "SETO" ∷ []

-- half to half: from left or right to left or right, and what becomes of the other half
abbrev pub halves : List Name
halves =
    codes "HLL" ∷ codes "HRL" ∷ codes "HLLZ" ∷ codes "HRLZ" ∷ codes "HLLO" ∷ codes "HRLO" ∷ codes "HLLE" ∷ codes "HRLE"
    ∷ codes "HRR" ∷ codes "HLR" ∷ codes "HRRZ" ∷ codes "HLRZ" ∷ codes "HRRO" ∷ codes "HLRO" ∷ codes "HRRE" ∷ codes "HLRE" ∷ []

-- each beginning with each ending, all those of the first beginning first
abbrev pub combined : List Name → List Name → List Name
combined beginnings endings = flat_map (λ beginning. map (λ ending. beginning ++ ending) endings) beginnings

-- tests: none, zeros, complement, ones for the change; then the mask right or left, or direct or swapped; never,
-- if equal, always, if not equal for the skip
abbrev pub tests_with : Name → Name → Name → List Name
tests_with change one other =
    flat_map (λ skip. (codes "T" ++ one ++ change ++ skip) ∷ (codes "T" ++ other ++ change ++ skip) ∷ [])
    (codes "" ∷ codes "E" ∷ codes "A" ∷ codes "N" ∷ [])

abbrev pub tests : List Name
tests =
    flat_map (λ change. tests_with change (codes "R") (codes "L") ++ tests_with change (codes "D") (codes "S"))
    (codes "N" ∷ codes "Z" ∷ codes "C" ∷ codes "O" ∷ [])

-- names whose codes follow one another
abbrev pub numbered : ℕ → List Name → List Operation
numbered code [] = []
numbered code (name ∷ names) = record { code = code; name = name } ∷ numbered (code + 1) names

unfoldable pub operations : List Operation
operations =
    numbered 0o047 (codes "CALLI" ∷ [])
    ++ numbered 0o051 (codes "TTCALL" ∷ [])
    ++ numbered 0o133 (codes "IBP" ∷ codes "ILDB" ∷ codes "LDB" ∷ codes "IDPB" ∷ codes "DPB" ∷ [])
    ++ numbered 0o200 (combined (codes "MOVE" ∷ codes "MOVS" ∷ codes "MOVN" ∷ codes "MOVM" ∷ []) moving)
    ++ numbered 0o220 (combined (codes "IMUL" ∷ codes "MUL" ∷ codes "IDIV" ∷ []) computing)
    ++ numbered 0o240 (codes "ASH" ∷ codes "ROT" ∷ codes "LSH" ∷ codes "JFFO" ∷ [])
    ++ numbered 0o245 (codes "ROTC" ∷ codes "LSHC" ∷ [])
    ++ numbered 0o250 (codes "EXCH" ∷ codes "BLT" ∷ codes "AOBJP" ∷ codes "AOBJN" ∷ codes "JRST" ∷ codes "JFCL" ∷ codes "XCT" ∷ [])
    ++ numbered 0o260 (codes "PUSHJ" ∷ codes "PUSH" ∷ codes "POP" ∷ codes "POPJ" ∷ codes "JSR" ∷ codes "JSP" ∷ codes "JSA" ∷ codes "JRA" ∷ [])
    ++ numbered 0o270 (combined (codes "ADD" ∷ codes "SUB" ∷ []) computing)
    ++ numbered 0o300
    (combined
    (codes "CAI" ∷ codes "CAM" ∷ codes "JUMP" ∷ codes "SKIP" ∷ codes "AOJ" ∷ codes "AOS" ∷ codes "SOJ" ∷ codes "SOS" ∷ [])
    conditions)
    ++ numbered 0o400 (combined booleans computing)
    ++ numbered 0o500 (combined halves moving)
    ++ numbered 0o600 tests

-- the name of an operation, if it has one
abbrev pub name_in : List Operation → ℕ → Option Name
name_in [] code = None
name_in (o ∷ os) code = if o.code == code then Some o.name else name_in os code

-- the code of a name, if it is one of them
abbrev pub code_in : List Operation → Name → Option ℕ
code_in [] name = None
code_in (o ∷ os) name = if bytes_eq o.name name then Some o.code else code_in os name

unfoldable pub name_of : ℕ → Option Name
name_of code = name_in operations code

-- ---- named calls

-- a call with its name
pub record NamedCall : Type 0 where
  pub name : Name
  pub call : Call

abbrev pub named_call : Name → Call → NamedCall
named_call name call = record { name = name; call = call }

unfoldable pub calls : List NamedCall
calls =
    named_call (codes "RESET") (Monitor 0)
    ∷ named_call (codes "CORE") (Monitor 0o11)
    ∷ named_call (codes "EXIT") (Monitor 0o12)
    ∷ named_call (codes "LOGOUT") (Monitor 0o17)
    ∷ named_call (codes "MSTIME") (Monitor 0o23)
    ∷ named_call (codes "PJOB") (Monitor 0o30)
    ∷ named_call (codes "SLEEP") (Monitor 0o31)
    ∷ named_call (codes "PIINI.") (Monitor 0o135)
    ∷ named_call (codes "PISYS.") (Monitor 0o136)
    ∷ named_call (codes "DEBRK.") (Monitor 0o137)
    ∷ named_call (codes "ENQ.") (Monitor 0o151)
    ∷ named_call (codes "DEQ.") (Monitor 0o152)
    ∷ named_call (codes "ENQC.") (Monitor 0o153)
    ∷ named_call (codes "DATRD.") (Monitor 0o777776)
    ∷ named_call (codes "DATWR.") (Monitor 0o777775)
    ∷ named_call (codes "MONRT.") MonitorReturn
    ∷ named_call (codes "INCHRW") (Terminal 0)
    ∷ named_call (codes "OUTCHR") (Terminal 1)
    ∷ named_call (codes "INCHRS") (Terminal 2)
    ∷ named_call (codes "OUTSTR") (Terminal 3)
    ∷ named_call (codes "INCHWL") (Terminal 4)
    ∷ named_call (codes "INCHSL") (Terminal 5)
    ∷ named_call (codes "CLRBFI") (Terminal 0o11)
    ∷ named_call (codes "CLRBFO") (Terminal 0o12)
    ∷ named_call (codes "SKPINC") (Terminal 0o13)
    ∷ named_call (codes "SKPINL") (Terminal 0o14)
    ∷ named_call (codes "HALT") (Jump 4)
    ∷ named_call (codes "JRSTF") (Jump 2)
    ∷ []

-- the call of a name, if it is one of them
abbrev pub call_in : List NamedCall → Name → Option Call
call_in [] name = None
call_in (c ∷ cs) name = if bytes_eq c.name name then Some c.call else call_in cs name

-- ---- what a name means in a program

-- an operation takes an AC and an address
abbrev pub operation_meaning : ℕ → Named
operation_meaning code = record { word = code * 2 ^ 27; ac = true; addr = true }

-- CALLI with this address takes an AC; CALLI 1,12 takes nothing; TTCALL and JRST with this AC field take an address
abbrev pub call_meaning : Call → Named
call_meaning (Monitor function) = record { word = 0o047 * 2 ^ 27 + function; ac = true; addr = false }
call_meaning MonitorReturn = record { word = 0o047 * 2 ^ 27 + 1 * 2 ^ 23 + 0o12; ac = false; addr = false }
call_meaning (Terminal function) = record { word = 0o051 * 2 ^ 27 + function * 2 ^ 23; ac = false; addr = true }
call_meaning (Jump function) = record { word = 0o254 * 2 ^ 27 + function * 2 ^ 23; ac = false; addr = true }

-- a name with its meaning
pub record Meaning : Type 0 where
  pub name : Name
  pub named : Named

unfoldable pub meanings : List Meaning
meanings =
    map (λ o. record { name = o.name; named = operation_meaning o.code }) operations
    ++ map (λ c. record { name = c.name; named = call_meaning c.call }) calls

abbrev pub meaning_in : List Meaning → Name → Option Named
meaning_in [] name = None
meaning_in (m ∷ ms) name = if bytes_eq m.name name then Some m.named else meaning_in ms name

unfoldable pub named_of : Name → Option Named
named_of name = meaning_in meanings name
