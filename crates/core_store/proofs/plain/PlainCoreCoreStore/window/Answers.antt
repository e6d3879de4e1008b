use Rattle.std.proofs.Common.{refl, sym, ◌∙◌, ◌≡◌, length, [], map, arith, get_or}
use Rattle.std.proofs.lemmas.List.{map-set}
use Rattle.core_store.proofs.Views.{viewed, IsStore-viewed}
use Rattle.core_store.proofs.plain.PlainCoreCoreStore.window.Goals as goal

pub returns : goal.returns
returns c =
    let read : get_or (map (λ v. v.items) c.self.inside.cores.items) c.args.job [] ≡ c.index_mut.result.now.items =
    viewed c.self.inside.cores.items c.args.job c.index_mut.result.now (omega arith) c.index_mut.ensures.value in
    let long : c.index_mut.result.now.len ≡ length c.index_mut.result.now.items = c.index_mut.result.now.ok.0 in (
      (refl, λ w. rw (← c.self.view_is) (rw (map-set, long, read) refl)),
      record {
        writes_back = tt;
        value = rw (← c.self.view_is) (c.as_mut_slice.ensures.value ∙ sym read);
        store = rw (← c.self.view_is) (IsStore-viewed _ _ _ c.self.invariant);
      },
    )
