use Rattle.std.proofs.Common.{◌≡◌, ◌<◌, ◌+◌, ◌∙◌, ◌++◌, ap, sym, ℕ, List, [], length, drop, min, map, arith, length-drop}
use Rattle.std.proofs.lemmas.List.{append-nil}
use Rattle.mac_text.specs.declared.syntax.Line.{Line}
use Rattle.source_labels.specs.declared.labels.Label.{Label}
use Rattle.source_labels.specs.Places.{block_end, labels_of, last_end, literals_of, place_of, with_end}
use Rattle.source_labels.proofs.Blocks.{drop_here, labels_on, last_on, none_left}
use Rattle.source_labels.proofs.places.places_of.Goals as goal

pub lines-preserved : goal.lines-preserved
lines-preserved c =
    let lines : List Line = c.args.lines.now in
    let addresses : List ℕ = c.as_slice-addresses.result.now in
    let i : ℕ = c.lines.i in
    let line : Line = c.index-lines-i.result in
    let address : ℕ = c.index-addresses-i.result in
    let one : i < length lines = omega (arith, c.lines-test.true, c.min-most.ensures) in
    let two : i < length addresses = omega (arith, c.lines-test.true, c.min-most.ensures) in
    let these = drop_here lines i line one c.index-lines-i.is in
    let those = drop_here addresses i address two c.index-addresses-i.is in
    let at : c.clamped-place.result ≡ place_of address = c.clamped-place.ensures in
    record {
      labels =
          labels_on (drop i lines) (drop (i + 1) lines) (drop i addresses) (drop (i + 1) addresses) line address c.clamped-place.result
          c.lines.gathered.closed.items c.lines.gathered.current.items c.add_line.new.self.closed.items c.add_line.new.self.current.items
          these those at c.in_ok-add_line.ensures.labels
          ∙ c.lines.invariant.labels;
      last =
          last_on (drop i lines) (drop (i + 1) lines) (drop i addresses) (drop (i + 1) addresses) line address c.clamped-place.result
          c.lines.gathered.end c.add_line.new.self.end these those at c.in_ok-add_line.ensures.end
          ∙ c.lines.invariant.last;
    }

pub returns : goal.returns
returns c =
    let lines : List Line = c.args.lines.now in
    let addresses : List ℕ = c.as_slice-addresses.result.now in
    let i : ℕ = c.lines.i in
    let none : min (length (drop i lines)) (length (drop i addresses)) ≡ 0 =
    omega (arith, c.lines-test.false, c.min-most.ensures, length-drop i lines, length-drop i addresses) in
    let left = none_left (drop i lines) (drop i addresses) c.lines.gathered.end none in
    let own : addresses ≡ c.args.layout.now.addresses.items = c.as_slice-addresses.ensures.value in
    let closed : List Label = c.lines.gathered.closed.items in
    let current : List Label = c.lines.gathered.current.items in
    let first : c.close.new.self.closed.items ≡ closed ++ map (with_end 0) current = c.in_ok-close.ensures.closed in
    let last : c.close.new.self.end ≡ last_end 0 lines addresses = c.in_ok-close.ensures.end ∙ sym left.2 ∙ c.lines.invariant.last in
    record {
      labels =
          first
          ∙ ap (λ (l : List Label). closed ++ l) (sym (append-nil (map (with_end 0) current)))
          ∙ ap (λ (l : List Label). closed ++ (map (with_end 0) current ++ l)) (sym left.1)
          ∙ ap (λ (n : ℕ). closed ++ (map (with_end n) current ++ labels_of (drop i lines) (drop i addresses))) (sym left.0)
          ∙ c.lines.invariant.labels
          ∙ ap (λ (l : List ℕ). labels_of lines l) own;
      literals =
          c.literals_of-literals.ensures
          ∙ ap (λ (n : ℕ). literals_of n c.args.layout.now.literals.items c.args.image.now.words.items)
          (last ∙ ap (λ (l : List ℕ). last_end 0 lines l) own);
      pools = c.new-3.ensures.items;
      numbers = c.new-4.ensures.items;
    }
