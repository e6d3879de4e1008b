use Rattle.std.proofs.Common.{◌≡◌, sym, subst}
use Rattle.std.specs.Prelude.{Some, IsUtf8}
use Rattle.lock_service.specs.ReadBack.{read_again}
use Rattle.lock_service.proofs.ReadBack.{text_again}
use Rattle.lock_service.proofs.laws.name_is_read_back.Goals as goal

pub returns-in-Text : goal.returns-in-Text
returns-in-Text c =
    let utf8 = subst IsUtf8 c.as_str-text.ensures.value c.as_str-text.utf8 in
    let again = text_again c.in-Text.text c.as_str-text.ensures.least c.as_str-text.ensures.greatest utf8 in
    subst (λ n. read_again n ≡ Some n) (sym c.in-Text.is) again
