-- `reading::couplers::read_couplers` meets its contract: the couplers are counted, and then the answer is settled. Assumes nothing.
use mathlib.Core.Path.{◌≡◌, refl, sym, ap, ◌∙◌}
use native.Mathlib.Omega.{arith}
use Prim.Native.Nat.{◌+◌}
use lib.ListN.{length, drop, length-drop, drop_of_length-le}
use Rattle.reading.specs.Parsing.{misfit, run_of}
use Rattle.lines.specs.Lent.{onto}
use Rattle.reading.specs.Readings.{couplers_in}
use Rattle.reading.specs.declared.sort.Sort.TheVariants.{Couplers}
use Rattle.reading.proofs.Answers.{line-run-length}
use Rattle.reading.proofs.ListingAnswers.{listed-misfit, listed-whole, listing-long, listing-line, listing-room, listing-read}
use Rattle.reading.proofs.couplers.read_couplers.Goals as goal

pub returns-then-text-gt-MOST_BYTES : goal.returns-then-text-gt-MOST_BYTES
returns-then-text-gt-MOST_BYTES c = (listing-long _ _ c.if-text-gt-MOST_BYTES.true, refl)

pub overflow_add-result : goal.overflow_add-result
overflow_add-result c = omega (arith, c.count-e.ensures.0, line-run-length Couplers c.args.text.now, c.if-text-gt-MOST_BYTES.false)

pub returns-then-e-text : goal.returns-then-e-text
returns-then-e-text c =
    let s = c.args.text.now in
    let n = c.count-e.result.next in
    let z : 1 + length (run_of Couplers s).records ≡ 1 + c.count-e.result.count = omega (arith, c.count-e.ensures.0) in
    (listing-line s _ _ c.if-text-gt-MOST_BYTES.false (listed-misfit s (drop n s) c.count-e.ensures.1 (omega (arith, length-drop n s, c.if-e-text.true)) ∙ ap misfit z), refl)

pub returns-then-couplers-e : goal.returns-then-couplers-e
returns-then-couplers-e c =
    let s = c.args.text.now in
    let w = listed-whole s (drop c.count-e.result.next s) c.count-e.ensures.1 (drop_of_length-le s c.if-e-text.false) in
    (listing-room s _ _ c.if-text-gt-MOST_BYTES.false w (omega (arith, c.count-e.ensures.0, c.if-couplers-e.true)), refl)

pub returns : goal.returns
returns c =
    let s = c.args.text.now in
    let w = listed-whole s (drop c.count-e.result.next s) c.count-e.ensures.1 (drop_of_length-le s c.if-e-text.false) in (
      listing-read s (length c.args.couplers.now) _ c.if-text-gt-MOST_BYTES.false w c.count-e.ensures.0 c.if-couplers-e.false,
      c.fill.ensures ∙ sym (ap (λ r. onto (couplers_in r) c.args.couplers.now) w),
    )
