-- The table of monitor calls (TOPS-10 Monitor Calls Manual; the numbers that it does not list are this project's profile).
use Rattle.std.specs.Prelude.{ℕ, ◌==◌, true, false, if◌then◌else◌}
use Rattle.ka_state.specs.declared.outcome.CallKind.{CallKind}
use Rattle.ka_state.specs.declared.outcome.CallKind.TheVariants.{Calli, Ttcall}
use Rattle.uuo_calls.specs.declared.service.Awaited.TheVariants as awaited
use Rattle.uuo_calls.specs.declared.service.Service.{Service}
use Rattle.uuo_calls.specs.declared.service.Service.TheVariants.{Reset, Core, Exit, Monrt, Logout, Mstime, Pjob, Sleep, Piini, Pisys, Debrk}
use Rattle.uuo_calls.specs.declared.service.Service.TheVariants.{Enq, Deq, Enqc}
use Rattle.uuo_calls.specs.declared.service.Service.TheVariants.{Datrd, Datwr, Input, Outchr, Outstr, Clrbfi, Clrbfo, Skpin, Unlisted}

-- the EXIT of an AC field: 0 for EXIT, 1 for MONRT.
abbrev pub exit_of : ℕ → Service
exit_of ac = if ac == 0 then Exit else if ac == 1 then Monrt else Unlisted

-- the CALLI of an E; DATRD. and DATWR. are -2 and -3
abbrev pub calli_of : ℕ → ℕ → Service
calli_of ac e =
    if e == 0 then Reset else
    if e == 0o11 then Core else
    if e == 0o12 then exit_of ac else
    if e == 0o17 then Logout else
    if e == 0o23 then Mstime else
    if e == 0o30 then Pjob else
    if e == 0o31 then Sleep else
    if e == 0o135 then Piini else
    if e == 0o136 then Pisys else
    if e == 0o137 then Debrk else
    if e == 0o151 then Enq else
    if e == 0o152 then Deq else
    if e == 0o153 then Enqc else
    if e == 0o777776 then Datrd else
    if e == 0o777775 then Datwr else Unlisted

-- the TTCALL of an AC field; INCHRW, INCHRS, INCHWL and INCHSL differ in what they read, and in whether they skip
abbrev pub ttcall_of : ℕ → Service
ttcall_of ac =
    if ac == 0 then Input awaited.Character false else
    if ac == 1 then Outchr else
    if ac == 2 then Input awaited.Character true else
    if ac == 3 then Outstr else
    if ac == 4 then Input awaited.Line false else
    if ac == 5 then Input awaited.Line true else
    if ac == 0o11 then Clrbfi else
    if ac == 0o12 then Clrbfo else
    if ac == 0o13 then Skpin awaited.Character else
    if ac == 0o14 then Skpin awaited.Line else Unlisted

-- the call of an operation with this AC field and this E
abbrev pub service_of : CallKind → ℕ → ℕ → Service
service_of Calli ac e = calli_of ac e
service_of Ttcall ac e = ttcall_of ac
