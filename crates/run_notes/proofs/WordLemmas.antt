-- Lines that are made piece by piece.
use Rattle.std.specs.Prelude.{codes}
use Rattle.std.proofs.Common.{◌≡◌, ◌<◌, ◌≤◌, ◌+◌, ◌-◌, ◌++◌, ◌∙◌, ℕ, Bool, true, false, cond, List, [], ◌∷◌, Option, length, take, drop, get_or, refl, sym, ap, subst, append_assoc, arith}
use Rattle.std.proofs.lemmas.List.{drop_more, take_more, take_rest}
use Rattle.lock_queue.specs.declared.request.Request.{Request}
use Rattle.wait_graph.specs.declared.lock_waits.LockBetween.{LockBetween}
use Rattle.run_notes.specs.Words.{AreJobTexts, IsBetween, IsJobText, first_or, had_words, job_words, waited_words}

pub first_of : (jobs : List ℕ) → 1 ≤ length jobs → jobs ≡ get_or jobs 0 0 ∷ take (length jobs - 1) (drop 1 jobs)
first_of [] some = absurd (omega (arith, some))
first_of (job ∷ jobs) some = ap (λ l. job ∷ l) (sym (take_rest (job ∷ jobs) 1))

-- a job of a circle before the others
pub texts_more : (requests : List Request) (before : ℕ) (jobs : List ℕ) (after : ℕ) (comma : List ℕ) (job : ℕ) (later : List ℕ) (next : ℕ)
    (had waited : Option LockBetween) (old begun mid new : List ℕ)
    → jobs ≡ job ∷ later → next ≡ first_or after later → IsBetween requests before job had → IsBetween requests job next waited
    → begun ≡ old ++ comma → mid ≡ begun ++ job_words job (had_words had) (waited_words waited)
    → (x : List ℕ) × (new ≡ mid ++ x) × AreJobTexts requests job later after (codes ",") x
    → (x : List ℕ) × (new ≡ old ++ x) × AreJobTexts requests before jobs after comma x
texts_more requests before jobs after comma job later next had waited old begun mid new cons is has waits started added rest =
    let own : List ℕ = job_words job (had_words had) (waited_words waited) in
    let text : List ℕ = comma ++ (own ++ rest.0) in
    let waits_so : IsBetween requests job (first_or after later) waited = subst (λ (n : ℕ). IsBetween requests job n waited) is waits in
    let one : IsJobText requests before job (first_or after later) own =
    record { had = had; waited = waited; has = has; waits = waits_so; words = refl } in (
      text,
      rest.1
          ∙ ap (λ l. l ++ rest.0) (added ∙ ap (λ l. l ++ own) started ∙ append_assoc old comma own)
          ∙ append_assoc old (comma ++ own) rest.0
          ∙ ap (λ l. old ++ l) (append_assoc comma own rest.0),
      subst (λ (js : List ℕ). AreJobTexts requests before js after comma text) (sym cons) (own, rest.0, one, rest.2, refl),
    )
