use Rattle.std.proofs.Common.{◌≡◌, ◌<◌, ◌+◌, ◌≤◌, ◌∙◌, ◌++◌, ◌∷◌, [], ap, lit<, ℕ, List, length, get_or, take, map, arith, length-take}
use Rattle.std.proofs.lemmas.List.{length-map}
use Rattle.std.specs.Char.{encode_utf8, to_ascii_uppercase}
use Rattle.ddt_commands.proofs.TextLemmas.{one_byte, upper_is_ascii, upper_on}
use Rattle.ddt_commands.proofs.values.upper.Goals as goal

pub push-requires : goal.push-requires
push-requires c =
    let text : List ℕ = take c.min.result c.args.word.now in
    let same : c.from.result ≡ to_ascii_uppercase (get_or text c.loop-byte.byte-index 0) = c.from.ensures ∙ c.to_ascii_uppercase.ensures.value in
    let ascii : to_ascii_uppercase (get_or text c.loop-byte.byte-index 0) < 128 =
    upper_is_ascii c.args.word.now c.min.result c.loop-byte.byte-index c.requires c.loop-byte-test.true in
    let below : c.from.result < 128 = omega (arith, same, ascii) in
    let one : length (encode_utf8 c.from.result) ≡ 1 = one_byte c.from.result below in
    let so_far : length c.loop-byte.upper.bytes ≡ length (take c.loop-byte.byte-index text) =
    ap length c.loop-byte.invariant ∙ length-map (take c.loop-byte.byte-index text) to_ascii_uppercase in
    (lit< tt, omega (arith, one, so_far, length-take c.loop-byte.byte-index text, length-take c.min.result c.args.word.now, c.min.ensures))

pub loop-byte-preserved : goal.loop-byte-preserved
loop-byte-preserved c =
    let text : List ℕ = take c.min.result c.args.word.now in
    let same : c.from.result ≡ to_ascii_uppercase (get_or text c.loop-byte.byte-index 0) = c.from.ensures ∙ c.to_ascii_uppercase.ensures.value in
    let ascii : to_ascii_uppercase (get_or text c.loop-byte.byte-index 0) < 128 =
    upper_is_ascii c.args.word.now c.min.result c.loop-byte.byte-index c.requires c.loop-byte-test.true in
    let below : c.from.result < 128 = omega (arith, same, ascii) in
    let on : map to_ascii_uppercase (take c.loop-byte.byte-index text) ++ (to_ascii_uppercase (get_or text c.loop-byte.byte-index 0) ∷ [])
    ≡ map to_ascii_uppercase (take (c.loop-byte.byte-index + 1) text) = upper_on text c.loop-byte.byte-index c.loop-byte-test.true in
    let first : c.loop-byte.upper.bytes ≡ map to_ascii_uppercase (take c.loop-byte.byte-index text) = c.loop-byte.invariant in
    let pushed : c.push.new.self.bytes ≡ c.loop-byte.upper.bytes ++ (c.from.result ∷ []) = c.push.ensures.ascii below in
    pushed
    ∙ ap (λ (l : List ℕ). l ++ (c.from.result ∷ [])) first
    ∙ ap (λ (n : ℕ). map to_ascii_uppercase (take c.loop-byte.byte-index text) ++ (n ∷ [])) same
    ∙ on
