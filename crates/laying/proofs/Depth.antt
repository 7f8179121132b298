-- The depth that is answered, of every job: 0 exactly when no CNOT is laid, and at most the number of CNOTs. Assumes nothing.
use mathlib.Core.Path.{◌≡◌, refl, ap}
use mathlib.Core.Logic.{◌↔◌}
use mathlib.Core.List.{List}
use Prim.Native.Nat.{ℕ, ◌≤◌}
use native.Mathlib.Omega.{arith}
use Rattle.std.specs.Prelude.{Ok, Err}
use Rattle.gates.specs.Limits.{most_qubits}
use Rattle.gates.specs.declared.gate.Gate.{Gate}
use Rattle.gates.specs.Layout.{gates_of, Good}
use Rattle.sets.specs.Lists.{All}
use Rattle.sets.proofs.Lists.{all_map}
use Rattle.verdicts.specs.Verdicts.{Verdict, number_of}
use Rattle.tallies.proofs.DepthLaws.{depth-none, depth-few}
use Rattle.circuit.specs.Phase.{phase_of}
use Rattle.circuit.proofs.Wiring.{good-up}
use Rattle.judging.specs.Tests.{verdict_of}
use Rattle.laying.specs.Answers.{Answer, circuit_of, counts_of, answered, cnots_in, depth_in}
use Rattle.laying.proofs.Accepting.{job-layable}
use Rattle.laying.proofs.Going.{going}
use Rattle.laying.proofs.Demands.{demand-2}

module _ (n : ℕ) (couplers gates : List ℕ) (room : ℕ) where
  abbrev answer : Answer
  answer = answered n couplers gates room

  abbrev verdict : Verdict
  verdict = verdict_of n couplers gates room

  abbrev circuit : List Gate
  circuit = circuit_of n couplers gates

  on-the-chip : number_of verdict ≡ 0 → All (Good most_qubits) circuit
  on-the-chip z =
      let few = (job-layable n couplers gates room z).few in
      all_map (Good n) (Good most_qubits) (λ g h. good-up n most_qubits g few h) circuit (demand-2 n couplers gates room z).good

  pub answered-depth : (depth_in answer ≡ 0 ↔ cnots_in answer ≡ 0) × (depth_in answer ≤ cnots_in answer)
  unfolding answered
  answered-depth = go verdict refl
    where
      go : (v : Verdict) → verdict ≡ v → let a = going v (counts_of circuit (phase_of (gates_of n gates))) in (depth_in a ≡ 0 ↔ cnots_in a ≡ 0) × (depth_in a ≤ cnots_in a)
      go (Ok tt) e = unfold counts_of in (depth-none circuit (on-the-chip (ap number_of e)), depth-few circuit)
      go (Err r) e = ((λ z. refl, λ z. refl), omega arith)
