-- A state that is put together of the numbers of its parts.
use Rattle.std.proofs.Common.{◌≡◌, ◌<◌, ◌∙◌, ℕ, List, length, map, sym, ap, subst}
use Rattle.std.specs.List.{All}
use Rattle.lock_queue.specs.Unused.{unused_request}
use Rattle.lock_queue.specs.declared.request.Request.{Request}
use Rattle.state_search.specs.Parts.{AreNumbers, grown_length, numbers_stay, parts_stay}
use Rattle.job_orders.specs.declared.tables.Tables.{Tables}
use Rattle.job_orders.specs.Forms.{JobForm}
use Rattle.job_orders.specs.Learning.{all_jobs_stay, jobs_stay, learns_on, list_stays}
use Rattle.job_orders.specs.Tables.{IsJob, IsNumbered, IsPages, Learns, form_of, job_of, numbers_at, requests_in, words_at}

module _ (t u v : Tables) (first : Learns t u) (second : Learns u v) (j r s free : ℕ)
    (j_there : j < length t.lists) (each : All (IsJob t) (numbers_at t.lists j))
    (r_there : r < length u.lists) (asked : AreNumbers u.requests (numbers_at u.lists r)) (pages : IsPages v s) where
  whole : Learns t v
  whole = learns_on t u v first second

  jobs-list : numbers_at v.lists j ≡ numbers_at t.lists j
  jobs-list = list_stays t v whole j j_there

  requests-list : numbers_at v.lists r ≡ numbers_at u.lists r
  requests-list = list_stays u v second r r_there

  pub packed-numbered : IsNumbered v (record { jobs = j; requests = r; shared = s; free = free })
  packed-numbered = record {
    jobs = grown_length t.lists v.lists whole.lists j j_there;
    each = subst (λ ns. All (IsJob v) ns) (sym jobs-list) (all_jobs_stay t v whole (numbers_at t.lists j) each);
    requests = grown_length u.lists v.lists second.lists r r_there;
    asked = subst (λ ns. AreNumbers v.requests ns) (sym requests-list)
        (numbers_stay u.requests v.requests (numbers_at u.lists r) second.requests asked);
    shared = pages;
  }

  pub packed-form : (js : List JobForm) (rs : List Request) (ws : List ℕ) → map (job_of t) (numbers_at t.lists j) ≡ js
      → requests_in u.requests (numbers_at u.lists r) ≡ rs → words_at v s ≡ ws
      → form_of v (record { jobs = j; requests = r; shared = s; free = free }) ≡ record { jobs = js; requests = rs; shared = ws; free = free }
  packed-form js rs ws jobs-are requests-are words-are =
      let jobs : map (job_of v) (numbers_at v.lists j) ≡ js =
      ap (map (job_of v)) jobs-list ∙ jobs_stay t v whole (numbers_at t.lists j) each ∙ jobs-are in
      let requests : requests_in v.requests (numbers_at v.lists r) ≡ rs =
      ap (requests_in v.requests) requests-list
      ∙ parts_stay (λ (q : Request). q) unused_request u.requests v.requests (numbers_at u.lists r) second.requests asked ∙ requests-are in
      λ i. record { jobs = jobs i; requests = requests i; shared = words-are i; free = free }
