-- The laws along scripts, from those of each change of the requests.
use Rattle.std.proofs.Common.{◌≡◌, ◌+◌, ◌++◌, ◌∙◌, ap, sym, subst, refl, cond, ℕ, suc, Bool, true, false, List, [], ◌∷◌}
use Rattle.std.proofs.Common.{length, Option, Some, None, Ok, Err, is_some, append_assoc, arith}
use Rattle.lock_queue.specs.Calls.{outcome_of}
use Rattle.lock_queue.specs.Jobs.{is_waiting_job}
use Rattle.lock_queue.specs.declared.call.LockCall.{LockCall}
use Rattle.lock_queue.specs.declared.key.Key.{Key}
use Rattle.lock_queue.specs.declared.request.Request.{Request}
use Rattle.lock_laws.specs.Circles.{WaitsByLatest}
use Rattle.lock_laws.specs.Owning.{owns, is_dequeue}
use Rattle.lock_laws.specs.Safe.{Safe}
use Rattle.lock_laws.proofs.AlongCalls.{always_safe}
use Rattle.lock_laws.proofs.EveryChange.{safety_is_kept, owners_are_kept, latest_is_kept, safe_jobs_make_no_circle}
use Rattle.script_io.specs.Transcripts.{Transcript, after, unless_ended}
use Rattle.queue_script.specs.Commands.{OwnedCommand, nothing, call, status, free, show, waits, quit, command_of}
use Rattle.queue_script.specs.QueueScripts.{Effect, effect_of, call_effect, transcript_of}
use Rattle.script_io.specs.declared.endings.Ending.{Ending}
use Rattle.script_laws.specs.Scripts.{effect_at, requests_after, ends_within, GivesUp, FollowsTranscript}
use Rattle.script_laws.specs.Scripts.{ScriptsAreSafe, ScriptsMakeNoPlainCircle, LinesKeepOwners}

-- ---- one line

-- safe, with jobs that wait by their latest requests
pub record Holds (size : ℕ) (requests : List Request) : Type 0 where
  pub safe : Safe size requests
  pub latest : WaitsByLatest requests

call-holds : (size : ℕ) (requests : List Request) (job : ℕ) (c : LockCall) (busy : Bool) → is_waiting_job requests job ≡ busy → Holds size requests
    → Holds size (cond busy requests (outcome_of size requests job c).requests)
call-holds size requests job c true is h = h
call-holds size requests job c false is h = record {
  safe = (safety_is_kept size).by_calls requests job c h.safe;
  latest = (latest_is_kept size).by_calls requests job c is h.latest;
}

-- the requests that are left, whether the job is busy or not
same-if : (busy : Bool) (requests : List Request) (a b : Effect) → a.requests ≡ requests → (cond busy a b).requests ≡ cond busy requests b.requests
same-if true requests a b is = is
same-if false requests a b is = refl

both-same : (busy : Bool) (requests : List Request) → cond busy requests requests ≡ requests
both-same true requests = refl
both-same false requests = refl

asked-holds : (size n : ℕ) (requests : List Request) (asked : Option OwnedCommand) → Holds size requests → Holds size (effect_of size n requests asked).requests
asked-holds size n requests None h = h
asked-holds size n requests (Some nothing) h = h
asked-holds size n requests (Some (call job (Ok c))) h =
    subst (Holds size) (sym (same-if (is_waiting_job requests job) requests _ (call_effect size requests job (Ok c)) refl))
    (call-holds size requests job c (is_waiting_job requests job) refl h)
asked-holds size n requests (Some (call job (Err r))) h =
    subst (Holds size)
    (sym
    (same-if (is_waiting_job requests job) requests _ (call_effect size requests job (Err r)) refl
    ∙ both-same (is_waiting_job requests job) requests)) h
asked-holds size n requests (Some (status job wants)) h = h
asked-holds size n requests (Some (free job)) h = record {
  safe = (safety_is_kept size).by_releases requests job h.safe;
  latest = (latest_is_kept size).by_releases requests job h.latest;
}
asked-holds size n requests (Some show) h = h
asked-holds size n requests (Some waits) h = h
asked-holds size n requests (Some quit) h = h

line-holds : (size n : ℕ) (requests : List Request) (line : List ℕ) → Holds size requests → Holds size (effect_at size n requests line).requests
line-holds size n requests line h = asked-holds size n requests (command_of line) h

-- ---- all lines

either-holds : (size : ℕ) (b : Bool) (x y : List Request) → Holds size x → Holds size y → Holds size (cond b x y)
either-holds size true x y p q = p
either-holds size false x y p q = q

lines-hold : (size : ℕ) (requests : List Request) (n : ℕ) (lines : List (List ℕ)) → Holds size requests → Holds size (requests_after size requests n lines)
lines-hold size requests n [] h = h
lines-hold size requests n (line ∷ more) h =
    let next = line-holds size (n + 1) requests line h in
    either-holds size (is_some (effect_at size (n + 1) requests line).ending) _ _ next
    (lines-hold size (effect_at size (n + 1) requests line).requests (n + 1) more next)

start : (size : ℕ) → Holds size []
start size = record {
  safe = always_safe size [] 0 (omega arith);
  latest = λ i j r s before first second blocks waits. absurd (cc);
}

pub scripts_are_safe : ScriptsAreSafe
scripts_are_safe size lines = (lines-hold size [] 0 lines (start size)).safe

pub scripts_make_no_plain_circle : ScriptsMakeNoPlainCircle
scripts_make_no_plain_circle size lines =
    let h = lines-hold size [] 0 lines (start size) in
    safe_jobs_make_no_circle size (requests_after size [] 0 lines) h.safe h.latest

-- ---- owners

busy-keeps : (size : ℕ) (requests : List Request) (caller job : ℕ) (c : LockCall) (key : Key) (busy : Bool) → owns requests job key ≡ true
    → owns (cond busy requests (outcome_of size requests caller c).requests) job key ≡ false → (is_dequeue c ≡ true) × (caller ≡ job)
busy-keeps size requests caller job c key true before gone = let e : true ≡ false = sym before ∙ gone in absurd (cc)
busy-keeps size requests caller job c key false before gone = (owners_are_kept size).by_calls requests caller c job key before gone

stays-owned : (requests : List Request) (job : ℕ) (key : Key) → owns requests job key ≡ true → owns requests job key ≡ false → ⊥
stays-owned requests job key before gone = let e : true ≡ false = sym before ∙ gone in absurd (cc)

asked-keeps : (size n : ℕ) (requests : List Request) (asked : Option OwnedCommand) (job : ℕ) (key : Key) → owns requests job key ≡ true
    → owns (effect_of size n requests asked).requests job key ≡ false → GivesUp job asked
asked-keeps size n requests None job key before gone = stays-owned requests job key before gone
asked-keeps size n requests (Some nothing) job key before gone = stays-owned requests job key before gone
asked-keeps size n requests (Some (call caller (Ok c))) job key before gone =
    busy-keeps size requests caller job c key (is_waiting_job requests caller) before
    (subst (λ l. owns l job key ≡ false) (same-if (is_waiting_job requests caller) requests _ (call_effect size requests caller (Ok c)) refl) gone)
asked-keeps size n requests (Some (call caller (Err r))) job key before gone =
    stays-owned requests job key before
    (subst (λ l. owns l job key ≡ false)
    (same-if (is_waiting_job requests caller) requests _ (call_effect size requests caller (Err r)) refl
    ∙ both-same (is_waiting_job requests caller) requests) gone)
asked-keeps size n requests (Some (status asker wants)) job key before gone = stays-owned requests job key before gone
asked-keeps size n requests (Some (free other)) job key before gone = (owners_are_kept size).by_releases requests other job key before gone
asked-keeps size n requests (Some show) job key before gone = stays-owned requests job key before gone
asked-keeps size n requests (Some waits) job key before gone = stays-owned requests job key before gone
asked-keeps size n requests (Some quit) job key before gone = stays-owned requests job key before gone

pub lines_keep_owners : LinesKeepOwners
lines_keep_owners size n requests line job key before gone = asked-keeps size n requests (command_of line) job key before gone

-- ---- the transcript's requests

-- one line that does not end the script, and what follows
goes-on : (o : Option Ending) (text : List ℕ) (t more : Transcript Ending) → is_some o ≡ false → t ≡ after text more
    → (first : List ℕ) → after first (unless_ended o t) ≡ after (first ++ text) more
goes-on None text t more h is first = ap (after first) is ∙ ap (λ l. record { text = l; ending = more.ending }) (sym (append_assoc first text more.text))
goes-on (Some e) text t more h is first = absurd (cc)

not-ended : (b x : Bool) → cond b true x ≡ false → (b ≡ false) × (x ≡ false)
not-ended true x h = absurd (cc)
not-ended false x h = (refl, h)

pub follows_transcript : FollowsTranscript
follows_transcript size requests n [] more h = ([], ap (λ k. after [] (transcript_of size requests k more)) (omega arith))
follows_transcript size requests n (line ∷ later) more h =
    let e = effect_at size (n + 1) requests line in
    let p = not-ended (is_some e.ending) (ends_within size e.requests (n + 1) later) h in
    let rest = follows_transcript size e.requests (n + 1) later more p.1 in
    let count : n + 1 + length later ≡ n + suc (length later) = omega arith in (
      e.text ++ rest.0,
      goes-on e.ending rest.0 _ _ p.0 rest.1 e.text
          ∙ ap (λ k. after (e.text ++ rest.0) (transcript_of size (requests_after size e.requests (n + 1) later) k more)) count
          ∙ ap
          (λ b. after (e.text ++ rest.0)
          (transcript_of size (cond b e.requests (requests_after size e.requests (n + 1) later)) (n + suc (length later)) more))
          (sym p.0),
    )
