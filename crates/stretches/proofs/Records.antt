-- The records that a stretch gets: those of its circuit's gates, with no Hadamard among them, and faithful to the stretch. Assumes nothing.
use mathlib.Core.Path.{◌≡◌, sym, ap, ◌∙◌, subst}
use mathlib.Core.Logic.{◌↔◌}
use mathlib.Core.Bool.{false}
use mathlib.Core.List.{List, [], ◌∷◌, map}
use Prim.Native.Nat.{ℕ, ◌≤◌, ◌<◌}
use native.Mathlib.Omega.{arith}
use lib.ListN.{length, replicate, length-replicate}
use Rattle.gates.specs.declared.gate.Gate.{Gate}
use Rattle.gates.specs.Layout.{gates_of, record_of, Good}
use Rattle.gates.specs.Hadamards.{is_hadamard}
use Rattle.sets.specs.Lists.{All}
use Rattle.gates.proofs.Alls.{records-gates}
use Rattle.gates.proofs.Hadamards.{good-between}
use Rattle.verdicts.specs.Verdicts.{number_of}
use Rattle.circuit.specs.Phase.{phase_of}
use Rattle.meaning.specs.Same.{Alike}
use Rattle.tallies.specs.Tally.{largest}
use Rattle.judging.specs.Tests.{verdict_of}
use Rattle.laying.proofs.Going.{going-accepted}
use Rattle.laying.specs.Answers.{circuit_of, counts_of, answered, phase_in, laid_records}
use Rattle.laying.specs.Demands.{Island, Faithful, FlipsLast, SameCouplers, Agree}
use Rattle.laying.proofs.Accepting.{job-layable}
use Rattle.laying.proofs.Demands.{demand-2, demand-2-flips-last, records-are}
use Rattle.laying.proofs.Archive.{each-qubit-has-an-island, meaning-agrees, one-circuit-for-one-meaning}
use Rattle.stretches.specs.Asked.{Accepts}
use Rattle.stretches.specs.Laid.{stretch_records}

-- the records of good gates
records-between : (n : ℕ) (gs : List Gate) → n ≤ 256 → All (Good n) gs → All (λ x. is_hadamard n x ≡ false) (map record_of gs)
unfolding All
records-between n [] few a = tt
records-between n (g ∷ gs) few a = (good-between n g few a.0, records-between n gs few a.1)

-- a stretch that is accepted as a job of its own
module _ (n : ℕ) (couplers s : List ℕ) (room : ℕ) (z : number_of (verdict_of n couplers s room) ≡ 0) where
  -- its qubits fit a record
  pub stretch-few : n ≤ 256
  stretch-few = let f = (job-layable n couplers s room z).few in omega arith

  -- the gates of its records are its circuit
  pub stretch-gates : gates_of n (stretch_records n couplers s) ≡ circuit_of n couplers s
  stretch-gates = records-gates n (circuit_of n couplers s) stretch-few (demand-2 n couplers s room z).good

  -- none of its records is a Hadamard
  pub stretch-between : All (λ x. is_hadamard n x ≡ false) (stretch_records n couplers s)
  stretch-between = records-between n (circuit_of n couplers s) stretch-few (demand-2 n couplers s room z).good

  -- the phase returned for it is its own
  pub stretch-share : phase_in (answered n couplers s room) ≡ phase_of (gates_of n s)
  unfolding answered counts_of
  stretch-share = ap phase_in (going-accepted (verdict_of n couplers s room) (counts_of (circuit_of n couplers s) (phase_of (gates_of n s))) z)

  -- demand 2 of the gates of its records
  pub stretch-faithful : Faithful n couplers (phase_of (gates_of n s)) (gates_of n s) (gates_of n (stretch_records n couplers s))
  stretch-faithful =
      subst (Faithful n couplers (phase_of (gates_of n s)) (gates_of n s)) (sym stretch-gates)
      (subst (λ (f : ℕ). Faithful n couplers f (gates_of n s) (circuit_of n couplers s)) stretch-share (demand-2 n couplers s room z))

  -- the X gates of each island stand behind its other gates
  pub stretch-flips-last : (S q : ℕ) → Island n couplers S q → FlipsLast S (gates_of n (stretch_records n couplers s))
  stretch-flips-last S q island = subst (FlipsLast S) (sym stretch-gates) (demand-2-flips-last n couplers s room z S q island)

-- ---- two stretches

-- what is lent to a stretch by itself
abbrev blank : List ℕ
blank = replicate largest 0

module _ (n : ℕ) (couplers s : List ℕ) (a : Accepts n couplers s) where
  lent : number_of (verdict_of n couplers s (length blank)) ≡ 0
  lent = subst (λ (room : ℕ). number_of (verdict_of n couplers s room) ≡ 0) (sym (length-replicate largest 0)) a

  by_itself : laid_records n couplers s blank ≡ stretch_records n couplers s
  by_itself = records-are n couplers s blank lent

  -- each qubit has its island
  pub stretch-island : (q : ℕ) → q < n → (S : ℕ) × Island n couplers S q
  stretch-island q l = each-qubit-has-an-island n couplers s largest a q l

-- stretches mean the same exactly when they get the same records
pub stretch-one : (n : ℕ) (couplers couplers' s t : List ℕ) → Accepts n couplers s → Accepts n couplers' t → SameCouplers couplers couplers'
    → Alike n (gates_of n s) (gates_of n t) ↔ (stretch_records n couplers s ≡ stretch_records n couplers' t)
stretch-one n couplers couplers' s t a b chip =
    let one = one-circuit-for-one-meaning n couplers couplers' s t blank blank (lent n couplers s a) (lent n couplers' t b) chip in (
      λ m. sym (by_itself n couplers s a) ∙ one.0 m ∙ by_itself n couplers' t b,
      λ e. one.1 (by_itself n couplers s a ∙ e ∙ sym (by_itself n couplers' t b)),
    )

-- stretches that mean the same agree on each island
pub stretches-agree : (n : ℕ) (couplers couplers' s t : List ℕ) → Accepts n couplers s → Accepts n couplers' t → SameCouplers couplers couplers'
    → Alike n (gates_of n s) (gates_of n t) → (S q : ℕ) → Island n couplers S q → Agree S couplers couplers' (gates_of n s) (gates_of n t)
stretches-agree n couplers couplers' s t a b chip = meaning-agrees n couplers couplers' s t largest largest a b chip
