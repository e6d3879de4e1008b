-- What others notice of an instruction is its call.
use Rattle.std.proofs.Common.{◌≡◌, ap, Bool, false, Some, None, refl}
use Rattle.ka_cpu.specs.Next.{call_in}
use Rattle.ka_state.specs.declared.outcome.Outcome.{Outcome}
use Rattle.ka_state.specs.declared.outcome.Outcome.TheVariants as outcome
use Rattle.uuo_calls.specs.declared.service.Service.{Service}
use Rattle.job_order_laws.specs.Noticed.{is_noticed_call, is_noticed_outcome}
use Rattle.job_order_laws.specs.Ticked.{is_clock}
use Rattle.job_moves.specs.Moves.{is_clock_outcome}
use Rattle.next_turns.specs.Calls.{service_in}

pub noticed_none : (has : Bool) (o : Outcome) → service_in (call_in o) ≡ None → false ≡ is_noticed_outcome has o
noticed_none has outcome.Done e = refl
noticed_none has (outcome.Stop reason) e = refl
noticed_none has (outcome.Call kind ac f) e = cc

pub noticed_some : (has : Bool) (o : Outcome) (s : Service) → service_in (call_in o) ≡ Some s → is_noticed_call has s ≡ is_noticed_outcome has o
noticed_some has outcome.Done s e = cc
noticed_some has (outcome.Stop reason) s e = cc
noticed_some has (outcome.Call kind ac f) s e = ap (is_noticed_call has) (apart e)
  where
    apart : {a b : Service} → Some a ≡ Some b → b ≡ a
    apart h = cc

pub clock_none : (o : Outcome) → service_in (call_in o) ≡ None → false ≡ is_clock_outcome o
clock_none outcome.Done e = refl
clock_none (outcome.Stop reason) e = refl
clock_none (outcome.Call kind ac f) e = cc

pub clock_some : (o : Outcome) (s : Service) → service_in (call_in o) ≡ Some s → is_clock s ≡ is_clock_outcome o
clock_some outcome.Done s e = cc
clock_some (outcome.Stop reason) s e = cc
clock_some (outcome.Call kind ac f) s e = ap is_clock (apart e)
  where
    apart : {a b : Service} → Some a ≡ Some b → b ≡ a
    apart h = cc
