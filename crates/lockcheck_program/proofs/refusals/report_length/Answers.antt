use Rattle.std.proofs.Common.{◌≡◌, ◌∙◌, ◌++◌, List, ℕ, [], ◌∷◌, ap, sym, arith, codes, decimal}
use Rattle.std.proofs.lemmas.Fmt.{decimal_digit, decimal_step}
use Rattle.lockcheck_program.proofs.refusals.report_length.Goals as goal

more : {m : List ℕ} {n : List ℕ} → m ≡ n → m ++ 48 ∷ [] ≡ n ++ 48 ∷ []
more e = ap (λ l. l ++ 48 ∷ []) e

ten_thousand : decimal 10000 ≡ codes "10000"
ten_thousand =
    decimal_step 10000 (omega arith) (omega arith)
    ∙ more (decimal_step 1000 (omega arith) (omega arith)
    ∙ more (decimal_step 100 (omega arith) (omega arith)
    ∙ more (decimal_step 10 (omega arith) (omega arith)
    ∙ more (decimal_digit 1 (omega arith)))))

pub returns : goal.returns
returns g c =
    let line = sym (ap (λ l. codes "lockcheck: the script has more than " ++ (l ++ codes " lines\n")) ten_thousand) in
    (c.report_to.ensures.status, (_, line, c.report_to.ensures.handed))
