use Rattle.std.proofs.Common.{◌≡◌, ◌<◌, ◌∙◌, length, get_or, sym, arith, rules}
use Rattle.std.proofs.lemmas.List.Elements.{Contains-get_or}
use Rattle.source_labels.specs.declared.labels.Label.{Label}
use Rattle.source_labels.proofs.Nearby.{most_by, step}
use Rattle.source_labels.proofs.labels.latest.Goals as goal

pub loop-label-preserved : goal.loop-label-preserved
loop-label-preserved c =
    let labels = c.args.labels.now in
    let i = c.loop-label.label-index in
    let l = c.label-item.result in
    let within : i < length labels = omega arith in
    let is : l ≡ get_or labels i l = search rules in
    record {
      value = step c.args.place c.loop-label.best labels i l c.nearer.result within is c.nearer.ensures ∙ c.loop-label.invariant.value;
      empty = search rules;
      there = search rules;
      most = most_by c.args.place c.loop-label.best labels i l c.nearer.result within is c.nearer.ensures c.loop-label.invariant.most;
    }
