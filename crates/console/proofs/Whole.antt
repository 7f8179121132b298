-- What is printed at a time goes into the memory that is lent, whole: every line, and the front of every job, which the writer accepts. Assumes nothing.
use mathlib.Core.Path.{◌≡◌, ap, ap₂, subst}
use mathlib.Core.List.{List, [], ◌∷◌}
use Prim.Native.Nat.{ℕ, ◌*◌, ◌^◌, ◌≤◌, ◌<◌}
use native.Mathlib.Omega.{arith}
use lib.ListN.{length, length-map}
use Rattle.std.specs.Prelude.{Ok, Err}
use Rattle.gates.specs.declared.gate.Gate.{Gate}
use Rattle.gates.specs.Limits.{most_qubits}
use Rattle.gates.specs.Layout.{gate_of, gates_of}
use Rattle.verdicts.specs.declared.verdict.Refusal.TheVariants.{Qubits, ManyCouplers, WrongCoupler, ManyGates, BadGate, ManyParities, Unreachable, Room, Line, LongText, Angle, Statement, Unversioned}
use Rattle.verdicts.specs.Verdicts.{Verdict, number_of, place_of}
use Rattle.verdicts.proofs.Passing.{drawn-accepted}
use Rattle.tallies.specs.Tally.{cnots_of, rotations_of, depth_of, bound_of}
use Rattle.tallies.proofs.Tallies.{cnots-most, rotations-most}
use Rattle.tallies.proofs.DepthLaws.{depth-few}
use Rattle.chip.specs.Couplers.{near_of}
use Rattle.chip.specs.Ordered.{ordered_list}
use Rattle.chip.proofs.Order.{ordered-few}
use Rattle.stretches.specs.Tests.{judged_stretches}
use Rattle.stretches.specs.Laid.{job_records}
use Rattle.stretches.proofs.Passing.{job-passed, job-few}
use Rattle.lines.specs.Lent.{Fitted}
use Rattle.lines.specs.Lines.{line_text, text_of, refusal_text, counts_text}
use Rattle.lines.proofs.Writes.{fitted-front, width-most}
use Rattle.reading.proofs.Sizes.{line-one, line-two, line-three, text-most}
use Rattle.text.specs.Writings.{judged_text}
use Rattle.text.proofs.Judging.{accepted}
use Rattle.console.specs.Printed.{most_printed, most_refused, Prints, refusal_of}
use Rattle.console.proofs.Passing.{order-accepted}

-- ---- lines of numbers that fit a word, which have at most 20 digits each

word : (v : ℕ) → v < 2 ^ 64 → v < 10 ^ 20
word v h = omega arith

pub number-few : (v : Verdict) → number_of v < 15
number-few (Ok tt) = omega arith
number-few (Err Qubits) = omega arith
number-few (Err ManyCouplers) = omega arith
number-few (Err (WrongCoupler k)) = omega arith
number-few (Err ManyGates) = omega arith
number-few (Err (BadGate k)) = omega arith
number-few (Err (ManyParities k)) = omega arith
number-few (Err (Unreachable k)) = omega arith
number-few (Err Room) = omega arith
number-few (Err (Line k)) = omega arith
number-few (Err LongText) = omega arith
number-few (Err (Angle k)) = omega arith
number-few (Err (Statement k)) = omega arith
number-few (Err Unversioned) = omega arith

refusal-fits : (v : Verdict) → place_of v < 2 ^ 64 → length (refusal_of v) ≤ most_refused
unfolding refusal_of refusal_text
refusal-fits v h =
    omega (arith, line-two 120 (number_of v) (place_of v), width-most 1 (number_of v) (omega (arith, number-few v)), width-most 19 (place_of v) (word (place_of v) h))

counts-fit : (c r d : ℕ) → c < 2 ^ 64 → r < 2 ^ 64 → d < 2 ^ 64 → length (counts_text c r d) ≤ most_printed
unfolding counts_text
counts-fit c r d hc hr hd =
    omega (arith, line-three 115 c r d, width-most 19 c (word c hc), width-most 19 r (word r hr), width-most 19 d (word d hd))

pub phase-fits : (g : ℕ) → g < 2 ^ 64 → length (line_text 112 (g ∷ [])) ≤ 44
phase-fits g h = omega (arith, line-one 112 g, width-most 19 g (word g h))

-- a refusal is written where it fits
pub refusal-fitted : (out out' : List ℕ) (n : ℕ) (v : Verdict) (k p : ℕ) → k ≡ number_of v → p ≡ place_of v → Fitted out 0 (refusal_text k p) out' n → Fitted out 0 (refusal_of v) out' n
unfolding refusal_of
refusal-fitted out out' n v k p e d = subst (λ (s : List ℕ). Fitted out 0 s out' n) (ap₂ refusal_text e d)

-- a text for which there is room is printed whole
module _ (room : ℕ) (out out' : List ℕ) (n : ℕ) (lent : length out ≡ room) where
  pub text-whole : (s : List ℕ) → length s ≤ room → Fitted out 0 s out' n → Prints room s out n out'
  text-whole s h p =
      let w = fitted-front out s (omega (arith, h, lent)) p in
      record { lent = lent; bytes = w.0; memory = w.1 }

  pub refusal-whole : (v : Verdict) (k p : ℕ) → most_refused ≤ room → k ≡ number_of v → p ≡ place_of v → p < 2 ^ 64 → Fitted out 0 (refusal_text k p) out' n → Prints room (refusal_of v) out n out'
  refusal-whole v k p m e d h q = text-whole (refusal_of v) (omega (arith, m, refusal-fits v (omega (arith, d, h)))) (refusal-fitted out out' n v k p e d q)

-- ---- a job that passed tests 1 to 7

module _ (n : ℕ) (xs ys : List ℕ) (z : number_of (judged_stretches n xs ys) ≡ 0) where
  abbrev es : List ℕ
  es = ordered_list (near_of n xs)

  abbrev laid : List Gate
  laid = gates_of n (job_records n xs ys)

  few : n ≤ most_qubits
  few = (job-passed n xs ys z).few

  head-fits : length (text_of n es []) ≤ most_printed
  head-fits = omega (arith, text-most n es [] (omega (arith, few)), ordered-few (near_of n xs))

  pub head-accepted : number_of (judged_text n es [] most_printed) ≡ 0
  head-accepted =
      accepted n es [] most_printed (record {
        qubits = (job-passed n xs ys z).qubits;
        couplers = ap number_of (order-accepted n xs few);
        gates = ap number_of (drawn-accepted n [] (λ (k : ℕ) (l : k < 0). absurd (omega arith)));
        fits = head-fits;
      })

  records-few : length laid ≤ 4097 * 10765
  unfolding bound_of
  records-few = omega (arith, length-map (job_records n xs ys) (gate_of n), job-few n xs ys (job-passed n xs ys z))

  pub counts-fits : length (counts_text (cnots_of laid) (rotations_of laid) (depth_of laid)) ≤ most_printed
  counts-fits =
      counts-fit (cnots_of laid) (rotations_of laid) (depth_of laid) (omega (arith, records-few, cnots-most laid)) (omega (arith, records-few, rotations-most laid))
      (omega (arith, records-few, cnots-most laid, depth-few laid))
