-- A stretch laid by itself, as the job that it is. Assumes nothing.
use mathlib.Core.Path.{◌≡◌, refl, sym, ap, ap₂, ◌∙◌}
use mathlib.Core.List.{List, ◌++◌}
use Prim.Native.Nat.{ℕ, ◌≤◌}
use native.Mathlib.Omega.{arith}
use lib.ListN.{length, take, drop, length-map, length-append}
use lib.Seq.{take-append_seam, length-take-le}
use Rattle.std.specs.Prelude.{Ok, Err}
use Rattle.gates.specs.Layout.{gates_of, record_of}
use Rattle.verdicts.specs.declared.verdict.Refusal.{Refusal}
use Rattle.verdicts.specs.Verdicts.{number_of}
use Rattle.verdicts.proofs.Judged.{stopped}
use Rattle.circuit.specs.Phase.{phase_of}
use Rattle.tallies.specs.Tally.{largest}
use Rattle.laying.specs.declared.lay.Laid.{Laid}
use Rattle.judging.specs.Tests.{verdict_of}
use Rattle.laying.specs.Answers.{Answer, circuit_of, answered, output_of}
use Rattle.laying.proofs.Said.{CountsSaid, laid-says, refused_says, output-front}
use Rattle.stretches.specs.Asked.{Accepts}
use Rattle.stretches.specs.Laid.{stretch_records}

-- what laying answers, and the memory `laid`, which was `old`
module _ (n : ℕ) (xs s old laid : List ℕ) (lent : length old ≡ largest) (a : Answer) (e : a ≡ answered n xs s (length old)) (m : laid ≡ output_of n xs s old) where
  pub alone-accepted : Accepts n xs s → (r : Refusal) → a ≡ Err r → ⊥
  alone-accepted z r d = stopped refl (refused_says n xs s (length old) r (sym e ∙ d)) (ap (λ (room : ℕ). number_of (verdict_of n xs s room)) lent ∙ z)

  module _ (l : Laid) (is : a ≡ Ok l) where
    pub alone-counts : CountsSaid n xs s (length old) l
    alone-counts = laid-says n xs s (length old) l (sym e ∙ is)

    pub alone-count : l.records ≡ length (stretch_records n xs s)
    alone-count = alone-counts.records ∙ sym (length-map (circuit_of n xs s) record_of)

    there : laid ≡ stretch_records n xs s ++ drop (length (stretch_records n xs s)) old
    there = m ∙ output-front n xs s old alone-counts.passed

    pub alone-fits : l.records ≤ length laid
    alone-fits = omega (arith, alone-count, ap length there, length-append (stretch_records n xs s) (drop (length (stretch_records n xs s)) old))

    pub alone-long : l.records ≡ length (take l.records laid)
    alone-long = sym (length-take-le l.records laid alone-fits)

    pub alone-is : take l.records laid ≡ stretch_records n xs s
    alone-is = ap₂ (λ (i : ℕ) (w : List ℕ). take i w) alone-count there ∙ take-append_seam (stretch_records n xs s) (drop (length (stretch_records n xs s)) old)

    pub alone-share : l.phase ≡ phase_of (gates_of n s)
    alone-share = alone-counts.phase
