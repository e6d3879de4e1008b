use Rattle.std.proofs.Common.{◌≡◌, ◌∙◌, sym, ap, nat_eq, is_some, true, false}
use Rattle.std.specs.Map.{lookup, keys_of}
use Rattle.indexmap.specs.IndexMap.{insert_entry}
use Rattle.mac_layout.specs.Addresses.{are_apart}
use Rattle.mac_layout.proofs.LayoutLemmas.{define_fails, define_more, define_done, still_apart, keys_more}
use Rattle.mac_layout.proofs.layout.define.Goals as goal

pub returns-then-is_some-clause-new : goal.returns-then-is_some-clause-new
returns-then-is_some-clause-new c = λ h.
    let there : is_some (lookup (nat_eq c.sixbit.result) c.loop-name.labels.entries) ≡ true =
    sym (c.is_some.ensures ∙ ap is_some c.in_ok-earlier.ensures.old) ∙ c.if-is_some.true in
    define_fails c.args.labels.now.entries c.loop-name.labels.entries c.args.names.now c.args.address.now c.loop-name.name-index
    c.sixbit.result _ c.loop-name-test.true c.loop-name.invariant.0 (c.sixbit.ensures ∙ c.name-item.is) there

pub loop-name-preserved : goal.loop-name-preserved
loop-name-preserved c =
    let new : is_some (lookup (nat_eq c.sixbit.result) c.loop-name.labels.entries) ≡ false =
    sym (c.is_some.ensures ∙ ap is_some c.in_ok-earlier.ensures.old) ∙ c.if-is_some.false in
    let inserted : c.insert.new.self.entries ≡ insert_entry nat_eq c.loop-name.labels.entries c.sixbit.result c.args.address.now =
    c.in_ok-earlier.ensures.entries ∙ ap (insert_entry nat_eq c.loop-name.labels.entries c.sixbit.result) c.in_ok-try_clone.ensures in (
      define_more c.args.labels.now.entries c.loop-name.labels.entries c.insert.new.self.entries c.args.names.now c.args.address.now
          c.loop-name.name-index c.sixbit.result _ c.loop-name-test.true c.loop-name.invariant.0
          (c.sixbit.ensures ∙ c.name-item.is) new inserted,
      λ h. still_apart c.loop-name.labels.entries c.insert.new.self.entries c.sixbit.result c.args.address.now new inserted (c.loop-name.invariant.1 h),
    )

pub returns-clause-new : goal.returns-clause-new
returns-clause-new c = λ h.
    let done =
    define_done c.args.labels.now.entries c.loop-name.labels.entries c.args.names.now c.args.address.now c.loop-name.name-index
    c.loop-name-test.false c.loop-name.invariant.0 in
    sym (sym (ap are_apart (ap keys_of done ∙ keys_more c.args.labels.now.entries c.args.address.now c.args.names.now)) ∙ c.loop-name.invariant.1 h)
