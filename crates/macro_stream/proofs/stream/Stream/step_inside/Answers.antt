use Rattle.std.proofs.Common.{◌≡◌, ◌+◌, inl, inr, Err, length, ◌∙◌, ap, arith}
use Rattle.std.proofs.lemmas.Bool.{cases_lt}
use Rattle.macro_stream.specs.Standing.{item_of}
use Rattle.macro_stream.specs.declared.stops.Stop.TheVariants as stops
use Rattle.macro_stream.specs.declared.stops.Limit.TheVariants as limits
use Rattle.macro_stream.proofs.Steps.{not_empty, inside-skipped, inside-opened, inside-refused}
use Rattle.macro_stream.proofs.stream.Stream.step_inside.Goals as goal

pub returns-then-is_empty : goal.returns-then-is_empty
returns-then-is_empty c =
    let item : c.item_at-item.result ≡ item_of c.args.self.now.items.items c.args.self.now.top.position =
    c.item_at-item.ensures ∙ ap (λ items. item_of items c.args.self.now.top.position) c.as_slice.ensures.value in
    inside-skipped c.args.self.now c.item_at-item.result c.argument-range.result c.requires item (omega arith) c.argument-range.ensures
    (c.is_empty.ensures.0 c.if-is_empty.true)

pub returns-in-Ok : goal.returns-in-Ok
returns-in-Ok c =
    let item : c.item_at-item.result ≡ item_of c.args.self.now.items.items c.args.self.now.top.position =
    c.item_at-item.ensures ∙ ap (λ items. item_of items c.args.self.now.top.position) c.as_slice.ensures.value in
    inside-opened c.args.self.now c.enter_argument.new.self c.item_at-item.result c.argument-range.result c.requires item (omega arith)
    c.argument-range.ensures (not_empty c.is_empty.result c.argument-range.result c.is_empty.ensures c.if-is_empty.false)
    (λ high. let e = c.in-Ok.ensures.deep high in cc) c.in-Ok.ensures.lower c.in-Ok.ensures.rest c.in-Ok.ensures.top

pub returns-in-Err : goal.returns-in-Err
returns-in-Err c =
    let item : c.item_at-item.result ≡ item_of c.args.self.now.items.items c.args.self.now.top.position =
    c.item_at-item.ensures ∙ ap (λ items. item_of items c.args.self.now.top.position) c.as_slice.ensures.value in
    elim (cases_lt (length c.args.self.now.lower.items + 1) 200) [
      | inl low ↦ inl (c.in-Err.ensures.failed low)
      | inr high ↦
          let told = c.in-Err.ensures.deep high in
          let same : stops.Limit limits.Depth ≡ c.in-Err.stop = cc in
          inr (inside-refused c.args.self.now c.item_at-item.result c.argument-range.result c.requires item (omega arith)
          c.argument-range.ensures (not_empty c.is_empty.result c.argument-range.result c.is_empty.ensures c.if-is_empty.false) high
          ∙ ap (λ stop. Err stop) same)
    ]
