-- Whether two kept states are the same.
use Rattle.std.specs.Prelude.{◌≡◌, ℕ, Bool, ◌==◌, ◌&&◌, List, true, nat_eq}
use Rattle.std.specs.Bool.{Decides}
use Rattle.std.specs.Cmp.{unsigned_Decides, decided, IsEquivalence, IsPartialEquivalence, partial_equiv_from_equiv}
use Rattle.std.specs.Cmp.Lexicographic.{pointwise}
use Rattle.std.specs.Hash as fed
use Rattle.std.specs.Hash.{HashWrites, same_Alike}
use Rattle.std.proofs.Common.{refl, ap, ◌++◌}
use Rattle.std.proofs.lemmas.Bool.{and_parts, and_from}
use Rattle.std.proofs.lemmas.Slice.Eq.{slice_eq-Decides}
use Rattle.lockcheck_orders.specs.declared.kept.KeptWant.{KeptWant}
use Rattle.lockcheck_orders.specs.Flags.{flag, flag-apart}
use Rattle.lockcheck_orders.specs.declared.kept.KeptState.{KeptState}
use Rattle.lockcheck_orders.specs.Packing.{RequestForm}

abbrev pub same_want : KeptWant → KeptWant → Bool
same_want a b = a.which == b.which && (flag a.shared == flag b.shared && a.group == b.group)

abbrev pub same_request : RequestForm → RequestForm → Bool
same_request a b = a.line == b.line && (flag a.notified == flag b.notified && pointwise same_want a.wants b.wants)

abbrev pub same_state : KeptState → KeptState → Bool
same_state a b = a.requests == b.requests && (a.front == b.front && (a.back == b.back && flag a.circle == flag b.circle))

-- the parts of them that are hashed
abbrev pub want_writes : KeptWant → HashWrites
want_writes w = fed.u8 w.which ++ (fed.u32 (flag w.shared) ++ fed.u32 w.group)

abbrev pub request_writes : RequestForm → HashWrites
request_writes r = fed.u16 r.line ++ (fed.u32 (flag r.notified) ++ fed.slice want_writes r.wants)

abbrev pub state_writes : KeptState → HashWrites
state_writes s = fed.u32 s.requests ++ (fed.u32 s.front ++ fed.u32 s.back)

-- ---- the tests decide

pub same_want-Decides : (a b : KeptWant) → Decides (same_want a b) (a ≡ b)
same_want-Decides a b = (
  λ h.
      let p = and_parts (a.which == b.which) (flag a.shared == flag b.shared && a.group == b.group) h in
      let q = and_parts (flag a.shared == flag b.shared) (a.group == b.group) p.1 in
      let which = (unsigned_Decides a.which b.which).0 p.0 in
      let shared = flag-apart a.shared b.shared ((unsigned_Decides (flag a.shared) (flag b.shared)).0 q.0) in
      let group = (unsigned_Decides a.group b.group).0 q.1 in
      λ i. record { which = which i; shared = shared i; group = group i },
  λ e. and_from _ _ ((unsigned_Decides a.which b.which).1 (ap (λ (w : KeptWant). w.which) e))
      (and_from _ _ ((unsigned_Decides (flag a.shared) (flag b.shared)).1 (ap (λ (w : KeptWant). flag w.shared) e))
      ((unsigned_Decides a.group b.group).1 (ap (λ (w : KeptWant). w.group) e))),
)

pub same_request-Decides : (a b : RequestForm) → Decides (same_request a b) (a ≡ b)
same_request-Decides a b =
    let wants = slice_eq-Decides same_want-Decides a.wants b.wants (pointwise same_want a.wants b.wants) refl in (
      λ h.
          let p = and_parts (a.line == b.line) (flag a.notified == flag b.notified && pointwise same_want a.wants b.wants) h in
          let q = and_parts (flag a.notified == flag b.notified) (pointwise same_want a.wants b.wants) p.1 in
          let line = (unsigned_Decides a.line b.line).0 p.0 in
          let notified = flag-apart a.notified b.notified ((unsigned_Decides (flag a.notified) (flag b.notified)).0 q.0) in
          let ws = wants.0 q.1 in
          λ i. record { line = line i; notified = notified i; wants = ws i },
      λ e. and_from _ _ ((unsigned_Decides a.line b.line).1 (ap (λ (r : RequestForm). r.line) e))
          (and_from _ _ ((unsigned_Decides (flag a.notified) (flag b.notified)).1 (ap (λ (r : RequestForm). flag r.notified) e))
          (wants.1 (ap (λ (r : RequestForm). r.wants) e))),
    )

pub same_state-Decides : (a b : KeptState) → Decides (same_state a b) (a ≡ b)
same_state-Decides a b = (
  λ h.
      let p = and_parts (a.requests == b.requests) (a.front == b.front && (a.back == b.back && flag a.circle == flag b.circle)) h in
      let q = and_parts (a.front == b.front) (a.back == b.back && flag a.circle == flag b.circle) p.1 in
      let r = and_parts (a.back == b.back) (flag a.circle == flag b.circle) q.1 in
      let requests = (unsigned_Decides a.requests b.requests).0 p.0 in
      let front = (unsigned_Decides a.front b.front).0 q.0 in
      let back = (unsigned_Decides a.back b.back).0 r.0 in
      let circle = flag-apart a.circle b.circle ((unsigned_Decides (flag a.circle) (flag b.circle)).0 r.1) in
      λ i. record { requests = requests i; front = front i; back = back i; circle = circle i },
  λ e. and_from _ _ ((unsigned_Decides a.requests b.requests).1 (ap (λ (s : KeptState). s.requests) e))
      (and_from _ _ ((unsigned_Decides a.front b.front).1 (ap (λ (s : KeptState). s.front) e))
      (and_from _ _ ((unsigned_Decides a.back b.back).1 (ap (λ (s : KeptState). s.back) e))
      ((unsigned_Decides (flag a.circle) (flag b.circle)).1 (ap (λ (s : KeptState). flag s.circle) e)))),
)

pub same_want-equiv : IsEquivalence same_want
same_want-equiv = decided same_want same_want-Decides

pub same_request-equiv : IsEquivalence same_request
same_request-equiv = decided same_request same_request-Decides

pub same_state-equiv : IsEquivalence same_state
same_state-equiv = decided same_state same_state-Decides

pub same_want-fed : (a b : KeptWant) → same_want a b ≡ true → want_writes a ≡ want_writes b
same_want-fed a b e = ap want_writes ((same_want-Decides a b).0 e)

pub same_request-fed : (a b : RequestForm) → same_request a b ≡ true → request_writes a ≡ request_writes b
same_request-fed a b e = ap request_writes ((same_request-Decides a b).0 e)

pub same_state-fed : (a b : KeptState) → same_state a b ≡ true → state_writes a ≡ state_writes b
same_state-fed a b e = ap state_writes ((same_state-Decides a b).0 e)
