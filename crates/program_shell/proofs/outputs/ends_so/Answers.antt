use Rattle.std.proofs.Common.{map, ap, arith}
use Rattle.std.specs.Char.{to_ascii_lowercase}
use Rattle.std.specs.Str.{bytes_eq}
use Rattle.program_shell.proofs.OutputLemmas.{decided, rest_whole}
use Rattle.program_shell.proofs.outputs.ends_so.Goals as goal

pub returns : goal.returns
returns c =
    let e = decided c.eq_ignore_ascii_case.result _ _ c.eq_ignore_ascii_case.ensures.test in
    let whole = ap (λ text. bytes_eq (map to_ascii_lowercase text) (map to_ascii_lowercase c.as_bytes-end.result.now)) (rest_whole c.saturating_sub.result c.as_bytes-name.result.now) in
    grind (arith, e, whole, c.saturating_sub.ensures, c.as_bytes-name.ensures.value, c.as_bytes-end.ensures.value)
