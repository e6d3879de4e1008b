use Rattle.std.specs.Prelude.{codes, string_bytes}
use Rattle.std.proofs.Common.{◌≡◌, ◌++◌, ◌∙◌, ℕ, List, ap, append_assoc}
use Rattle.std.proofs.lemmas.Result.{IfOk-weaker}
use Rattle.run_notes.specs.FactWords.{code_words}
use Rattle.run_notes.proofs.fact_lines.push_refused_with.Goals as goal

appended : (text begun coded rest a b new : List ℕ) → a ≡ text ++ begun → b ≡ a ++ coded → new ≡ b ++ rest
    → new ≡ text ++ (begun ++ (coded ++ rest))
appended text begun coded rest a b new first second third =
    third ∙ ap (λ l. l ++ rest) (second ∙ ap (λ l. l ++ coded) first) ∙ append_assoc (text ++ begun) coded rest
    ∙ append_assoc text begun (coded ++ rest)

pub returns : goal.returns
returns c =
    IfOk-weaker c.write.result _ _
    (λ done same. appended (string_bytes c.args.text.now) (codes "refused, code ") (code_words c.args.code) (codes ": " ++ c.args.meaning.now) _ _ _
    c.in_ok-push_str.ensures.bytes c.in_ok-push_code.ensures same)
    c.write.ensures.bytes
