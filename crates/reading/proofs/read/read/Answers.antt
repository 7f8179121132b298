-- `reading::read::read` meets its contract: both runs are counted, and then the answer is settled. Assumes nothing.
use mathlib.Core.Path.{◌≡◌, refl, sym, ap, ◌∙◌}
use mathlib.Core.List.{List}
use native.Mathlib.Omega.{arith}
use Prim.Native.Nat.{ℕ, ◌+◌, ◌≤◌}
use lib.ListN.{length, drop, length-drop, drop_of_length-le}
use Rattle.std.specs.Prelude.{Some}
use Rattle.reading.specs.Limits.{most_bytes}
use Rattle.reading.specs.Parsing.{misfit, job, read_head, run_of, parsed}
use Rattle.spots.specs.Places.{got_of}
use Rattle.lines.specs.Lent.{onto}
use Rattle.reading.specs.Readings.{couplers_in, gates_in}
use Rattle.reading.specs.declared.run.LineCount.{LineCount}
use Rattle.reading.specs.declared.sort.Sort.TheVariants.{Couplers, Gates}
use Rattle.reading.proofs.Answers.{line-run-length, answer-long, answer-line, parsed-first, parsed-misfit, parsed-job, answer-room, answer-room-too, answer-job}
use Rattle.spots.specs.declared.spot.Fetched.{Fetched}
use Rattle.reading.proofs.read.read.Goals.{then-couplers-e-via-then-couplers-e, then-couplers-e-via-else-couplers-e+then-gates-g}
use Rattle.reading.proofs.read.read.Goals as goal

-- where both runs have been counted
record Counted (s : List ℕ) (h : Fetched) (e g : LineCount) : Type 0 where
  head : got_of s (Some h) ≡ read_head s
  couplers : (e.count ≡ length (run_of Couplers (drop h.next s)).records) × (drop e.next s ≡ (run_of Couplers (drop h.next s)).left)
  gates : (g.count ≡ length (run_of Gates (drop e.next s)).records) × (drop g.next s ≡ (run_of Gates (drop e.next s)).left)
  short : length s ≤ most_bytes

module _ {s : List ℕ} {h : Fetched} {e g : LineCount} (x : Counted s h e g) where
  bound : e.count + g.count ≤ most_bytes
  bound = omega (arith, x.short, x.couplers.0, ap length x.couplers.1, x.gates.0, line-run-length Couplers (drop h.next s), line-run-length Gates (drop e.next s), length-drop h.next s)

  whole : length s ≤ g.next → parsed s ≡ job h.value (run_of Couplers (drop h.next s)).records (run_of Gates (drop e.next s)).records
  whole q = parsed-job s (drop e.next s) (drop g.next s) _ (sym x.head) x.couplers.1 x.gates.1 (drop_of_length-le s q)

pub returns-then-text-gt-MOST_BYTES : goal.returns-then-text-gt-MOST_BYTES
returns-then-text-gt-MOST_BYTES c = (answer-long _ _ _ c.if-text-gt-MOST_BYTES.true, refl, refl)

pub returns-in_default : goal.returns-in_default
returns-in_default c =
    let s = c.args.text.now in
    (answer-line s _ _ _ c.if-text-gt-MOST_BYTES.false (parsed-first s (sym c.in_default.ensures)), refl, refl)

pub overflow_add-result : goal.overflow_add-result
overflow_add-result c =
    let x : Counted c.args.text.now c.in-Some.h c.count-e.result c.count-g.result
    = record { head = c.in-Some.ensures; couplers = c.count-e.ensures; gates = c.count-g.ensures; short = c.if-text-gt-MOST_BYTES.false } in
    omega (arith, bound x)

pub overflow_add-result-then-g-text : goal.overflow_add-result-then-g-text
overflow_add-result-then-g-text c =
    let x : Counted c.args.text.now c.in-Some.h c.count-e.result c.count-g.result
    = record { head = c.in-Some.ensures; couplers = c.count-e.ensures; gates = c.count-g.ensures; short = c.if-text-gt-MOST_BYTES.false } in
    omega (arith, bound x)

pub returns-then-g-text : goal.returns-then-g-text
returns-then-g-text c =
    let x : Counted c.args.text.now c.in-Some.h c.count-e.result c.count-g.result
    = record { head = c.in-Some.ensures; couplers = c.count-e.ensures; gates = c.count-g.ensures; short = c.if-text-gt-MOST_BYTES.false } in
    let s = c.args.text.now in
    let z : 2 + length (run_of Couplers (drop c.in-Some.h.next s)).records + length (run_of Gates (drop c.count-e.result.next s)).records ≡ 2 + c.count-e.result.count + c.count-g.result.count
    = omega (arith, c.count-e.ensures.0, c.count-g.ensures.0) in (
      answer-line s _ _ _ x.short
          (parsed-misfit s (drop c.count-e.result.next s) (drop c.count-g.result.next s) _ (sym x.head) c.count-e.ensures.1 c.count-g.ensures.1
          (omega (arith, length-drop c.count-g.result.next s, c.if-g-text.true)) ∙ ap misfit z),
      refl,
      refl,
    )

pub returns-then-couplers-e : goal.returns-then-couplers-e
returns-then-couplers-e c =
    let x : Counted c.args.text.now c.in-Some.h c.count-e.result c.count-g.result
    = record { head = c.in-Some.ensures; couplers = c.count-e.ensures; gates = c.count-g.ensures; short = c.if-text-gt-MOST_BYTES.false } in
    let s = c.args.text.now in
    let w = whole x c.if-g-text.false in
    elim c.then-couplers-e.branch [
      | then-couplers-e-via-then-couplers-e d ↦ (answer-room s _ _ _ _ _ x.short w (omega (arith, c.count-e.ensures.0, d.if-couplers-e.true)), refl, refl)
      | then-couplers-e-via-else-couplers-e+then-gates-g d ↦
          (answer-room-too s _ _ _ _ _ x.short w (omega (arith, c.count-e.ensures.0, d.if-couplers-e.false)) (omega (arith, c.count-g.ensures.0, d.if-gates-g.true)), refl, refl)
    ]

pub returns : goal.returns
returns c =
    let x : Counted c.args.text.now c.in-Some.h c.count-e.result c.count-g.result
    = record { head = c.in-Some.ensures; couplers = c.count-e.ensures; gates = c.count-g.ensures; short = c.if-text-gt-MOST_BYTES.false } in
    let a = c.args in
    let w = whole x c.if-g-text.false in (
      answer-job a.text.now (length a.couplers.now) (length a.gates.now) _ _ _ x.short w c.count-e.ensures.0 c.count-g.ensures.0 c.if-couplers-e.false c.if-gates-g.false,
      c.fill.ensures ∙ sym (ap (λ r. onto (couplers_in r) a.couplers.now) w),
      c.fill-2.ensures ∙ sym (ap (λ r. onto (gates_in r) a.gates.now) w),
    )
