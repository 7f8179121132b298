use Rattle.std.proofs.Common.{◌≡◌, ◌≤◌, ◌+◌, length, drop}
use Rattle.std.proofs.lemmas.List.Edits.{sets}
use Rattle.lines.specs.Lent.{Wrote}
use Rattle.lines.specs.Pattern.{filled}
use Rattle.lines.proofs.pattern.put_filled.Given as goal

abbrev pub invariant-loop-x : goal.invariant-loop-x
invariant-loop-x l =
    let rest = filled (drop l.x-index l.pattern) (drop l.k l.numbers) in
    (l.k ≤ l.x-index) × Wrote l.fn.page.text.now l.fn.page.at (filled l.pattern l.numbers) (sets l.page.text.now l.page.at rest) (l.page.at + length rest) × (l.page.text.ghost_name ≡ l.fn.page.text.ghost_name) × (length l.page.text.now ≡ length l.fn.page.text.now)
