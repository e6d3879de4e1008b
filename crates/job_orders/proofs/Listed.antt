-- Tables with one list more.
use Rattle.std.proofs.Common.{◌≡◌, ◌+◌, ◌++◌, ◌∷◌, ◌∙◌, [], ℕ, suc, List, map, sym, ap, subst, arith}
use Rattle.std.proofs.lemmas.List.{map-append}
use Rattle.std.specs.List.{All, IsDistinct}
use Rattle.state_search.specs.Parts.{AreGrown, grown_itself}
use Rattle.job_order_laws.specs.Turned.{V}
use Rattle.job_orders.specs.declared.tables.Tables.{Tables}
use Rattle.job_orders.specs.Framing.{jobs-more}
use Rattle.job_orders.specs.Learning.{all_jobs_stay, jobs_stay}
use Rattle.job_orders.specs.Tables.{IsJob, Learns, Lists, job_of, same_list}
use Rattle.job_orders.specs.Views.{job_in, jobs_in}
use Rattle.job_orders.proofs.Numbers.{all-more}

pub lists-learn : (t : Tables) (lists : Lists) → AreGrown t.lists lists → IsDistinct same_list lists → Learns t (record t { lists = lists })
lists-learn t lists grown once = record {
  slots = grown_itself t.slots;
  requests = grown_itself t.requests;
  pages = grown_itself t.pages;
  texts = grown_itself t.texts;
  lists = grown;
  right = λ h. record { slots = h.slots; requests = h.requests; pages = h.pages; texts = h.texts; lists = once };
}

-- one job more
pub next-job : (v : V) (k : ℕ) (t u : Tables) (ns more : List ℕ) (n : ℕ) → Learns t u → All (IsJob t) ns → map (job_of t) ns ≡ jobs_in v k
    → job_of u n ≡ job_in v (k + 1) → more ≡ ns ++ n ∷ [] → map (job_of u) more ≡ jobs_in v (k + 1)
next-job v k t u ns more n learns all before is e =
    let one : k + 1 ≡ suc k = omega arith in
    ap (map (job_of u)) e ∙ map-append (job_of u) ns (n ∷ [])
    ∙ ap (λ l. l ++ job_of u n ∷ []) (jobs_stay t u learns ns all ∙ before)
    ∙ ap (λ j. jobs_in v k ++ j ∷ []) (is ∙ ap (job_in v) one) ∙ sym (jobs-more v k) ∙ ap (jobs_in v) (sym one)

pub next-all : (t u : Tables) (ns more : List ℕ) (n : ℕ) → Learns t u → All (IsJob t) ns → IsJob u n → more ≡ ns ++ n ∷ [] → All (IsJob u) more
next-all t u ns more n learns all there e =
    subst (λ l. All (IsJob u) l) (sym e) (all-more (IsJob u) ns n (all_jobs_stay t u learns ns all) there)
