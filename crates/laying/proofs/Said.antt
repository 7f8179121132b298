-- What an answer of `lay` says of the job, and of the lent output. Assumes nothing.
use mathlib.Core.Path.{◌≡◌, sym, ap, ◌∙◌}
use mathlib.Core.Bool.{Bool}
use mathlib.Core.List.{List, ◌++◌, map}
use Prim.Native.Nat.{ℕ}
use lib.ListN.{length, drop, length-map}
use borrow.Author.Tests.{eq-eqb}
use Rattle.std.specs.Prelude.{Ok, Err}
use Rattle.sets.specs.Pick.{pick}
use Rattle.gates.specs.declared.gate.Gate.{Gate}
use Rattle.gates.specs.Layout.{gates_of, record_of}
use Rattle.circuit.specs.Phase.{phase_of}
use Rattle.verdicts.specs.declared.verdict.Refusal.{Refusal}
use Rattle.verdicts.specs.Verdicts.{Verdict, number_of}
use Rattle.tallies.specs.Tally.{cnots_of, rotations_of, depth_of}
use Rattle.laying.specs.declared.lay.Laid.{Laid}
use Rattle.judging.specs.Tests.{verdict_of}
use Rattle.laying.specs.Answers.{circuit_of, counts_of, answered, output_of}
use Rattle.laying.proofs.Going.{going-laid, going-stopped}

module _ (n : ℕ) (xs ys : List ℕ) (room : ℕ) where
  abbrev circuit : List Gate
  circuit = circuit_of n xs ys

  abbrev verdict : Verdict
  verdict = verdict_of n xs ys room

  -- an acceptance says these numbers
  pub record CountsSaid (l : Laid) : Type 0 where
    pub passed : number_of verdict ≡ 0
    pub records : l.records ≡ length circuit
    pub cnots : l.cnots ≡ cnots_of circuit
    pub rotations : l.rotations ≡ rotations_of circuit
    pub depth : l.depth ≡ depth_of circuit
    pub phase : l.phase ≡ phase_of (gates_of n ys)

  pub laid-says : (l : Laid) → answered n xs ys room ≡ Ok l → CountsSaid l
  unfolding answered counts_of
  laid-says l e =
      let said = going-laid verdict (counts_of circuit (phase_of (gates_of n ys))) e in
      record {
        passed = said.0;
        records = ap (λ (k : Laid). k.records) said.1;
        cnots = ap (λ (k : Laid). k.cnots) said.1;
        rotations = ap (λ (k : Laid). k.rotations) said.1;
        depth = ap (λ (k : Laid). k.depth) said.1;
        phase = ap (λ (k : Laid). k.phase) said.1;
      }

  pub refused_says : (r : Refusal) → answered n xs ys room ≡ Err r → verdict ≡ Err r
  unfolding answered
  refused_says r e = going-stopped verdict (counts_of circuit (phase_of (gates_of n ys))) e

-- the circuit's records stand at the front of the output, and what lies behind them stays
pub output-front : (n : ℕ) (xs ys out : List ℕ) → number_of (verdict_of n xs ys (length out)) ≡ 0
    → output_of n xs ys out ≡ map record_of (circuit_of n xs ys) ++ drop (length (map record_of (circuit_of n xs ys))) out
unfolding output_of
output-front n xs ys out z =
    let C = circuit_of n xs ys in
    ap (λ (b : Bool). pick b (map record_of C ++ drop (length C) out) out) (eq-eqb (number_of (verdict_of n xs ys (length out))) 0 z)
    ∙ ap (λ (k : ℕ). map record_of C ++ drop k out) (sym (length-map C record_of))
