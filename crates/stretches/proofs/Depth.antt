-- The depth that is answered, of every job: 0 exactly when no CNOT is laid, and at most the number of CNOTs. Assumes nothing.
use mathlib.Core.Path.{◌≡◌, refl, sym, ap, ◌∙◌, subst}
use mathlib.Core.Logic.{◌↔◌}
use mathlib.Core.Bool.{true}
use mathlib.Core.List.{List, [], ◌∷◌, ◌++◌, map, append-nil, map-append}
use Prim.Native.Nat.{ℕ, ◌≤◌}
use native.Mathlib.Omega.{arith}
use Rattle.std.specs.Prelude.{Ok, Err}
use Rattle.gates.specs.Limits.{most_qubits}
use Rattle.gates.specs.declared.gate.Gate.{Gate}
use Rattle.gates.specs.declared.gate.Gate.TheVariants.{Bad}
use Rattle.gates.specs.Layout.{gate_of, gates_of, Good}
use Rattle.gates.specs.Hadamards.{is_hadamard}
use Rattle.sets.specs.Lists.{All}
use Rattle.sets.proofs.Lists.{all_map}
use Rattle.gates.proofs.Hadamards.{hadamard-bad}
use Rattle.verdicts.specs.Verdicts.{Verdict, number_of}
use Rattle.tallies.specs.Tally.{tally, cnots_of, depth_of, largest}
use Rattle.tallies.specs.Sublist.{Sublist, none, with, without}
use Rattle.tallies.proofs.DepthLaws.{depth-part, depth-none, depth-few}
use Rattle.circuit.proofs.Wiring.{good-up}
use Rattle.laying.proofs.Going.{going}
use Rattle.laying.specs.Answers.{Answer, counts_of, cnots_in, depth_in}
use Rattle.stretches.specs.Cut.{weave}
use Rattle.stretches.specs.Stretches.{stretches_of, hadamards_of}
use Rattle.stretches.specs.Tests.{job_verdict}
use Rattle.stretches.specs.Asked.{Accepts}
use Rattle.stretches.specs.Laid.{stretch_records, job_records, job_phase, job_answered}
use Rattle.stretches.proofs.Records.{stretch-faithful}
use Rattle.stretches.proofs.Demands.{accepted-passed, all-hadamards}

-- ---- gates on 20 qubits or fewer, with bad ones between them

-- the good gates of a list, which are all that count
record SoundPart (gs : List Gate) : Type 0 where
  sound : List Gate
  part : Sublist sound gs
  good : All (Good most_qubits) sound
  cnots : cnots_of sound ≡ cnots_of gs

sound-good : (gs hs : List Gate) → All (Good most_qubits) gs → SoundPart hs → SoundPart (gs ++ hs)
unfolding All cnots_of tally
sound-good [] hs a s = s
sound-good (g ∷ gs) hs a s =
    let t = sound-good gs hs a.1 s in
    record { sound = g ∷ t.sound; part = with g t.part; good = (a.0, t.good); cnots = omega (arith, t.cnots) }

sound-bad : (gs : List Gate) → SoundPart gs → SoundPart (Bad ∷ gs)
unfolding cnots_of tally
sound-bad gs s = record { sound = s.sound; part = without Bad s.part; good = s.good; cnots = omega (arith, s.cnots) }

sound_none : SoundPart []
unfolding All
sound_none = record { sound = []; part = none; good = tt; cnots = refl }

sound-depth : (gs : List Gate) → SoundPart gs → depth_of gs ≡ 0 ↔ cnots_of gs ≡ 0
sound-depth gs s = (λ e. sym s.cnots ∙ (depth-none s.sound s.good).0 (omega (arith, e, depth-part s.part)), λ e. omega (arith, e, depth-few gs))

-- ---- what is laid

module _ (n : ℕ) (couplers : List ℕ) (few : n ≤ most_qubits) where
  stretch-good : (s : List ℕ) → Accepts n couplers s → All (Good most_qubits) (gates_of n (stretch_records n couplers s))
  stretch-good s a = all_map (Good n) (Good most_qubits) (λ g h. good-up n most_qubits g few h) (gates_of n (stretch_records n couplers s)) (stretch-faithful n couplers s largest a).good

  woven-sound : (ss : List (List ℕ)) (hs : List ℕ) → All (Accepts n couplers) ss → All (λ x. is_hadamard n x ≡ true) hs → SoundPart (gates_of n (weave (map (stretch_records n couplers) ss) hs))
  unfolding weave All
  woven-sound [] hs a b = sound_none
  woven-sound (s ∷ ss) [] a b = subst SoundPart (append-nil (gates_of n (stretch_records n couplers s))) (sound-good (gates_of n (stretch_records n couplers s)) [] (stretch-good s a.0) sound_none)
  woven-sound (s ∷ ss) (h ∷ hs) a b =
      let R : List ℕ = stretch_records n couplers s in
      let W : List ℕ = weave (map (stretch_records n couplers) ss) hs in
      subst SoundPart (sym (map-append (gate_of n) R (h ∷ W)))
      (sound-good (gates_of n R) (gates_of n (h ∷ W)) (stretch-good s a.0)
      (subst (λ (g : Gate). SoundPart (g ∷ gates_of n W)) (sym (hadamard-bad n h b.0)) (sound-bad (gates_of n W) (woven-sound ss hs a.1 b.1))))

module _ (n : ℕ) (couplers gates : List ℕ) (room : ℕ) where
  abbrev answer : Answer
  answer = job_answered n couplers gates room

  abbrev verdict : Verdict
  verdict = job_verdict n couplers gates room

  abbrev laid : List Gate
  laid = gates_of n (job_records n couplers gates)

  laid-sound : number_of verdict ≡ 0 → SoundPart laid
  unfolding job_records
  laid-sound z = let p = accepted-passed n couplers gates room z in woven-sound n couplers p.few (stretches_of n gates) (hadamards_of n gates) p.accepts (all-hadamards n couplers gates p)

  -- 0 exactly when no CNOT is laid, and at most their number
  pub answered-depth : (depth_in answer ≡ 0 ↔ cnots_in answer ≡ 0) × (depth_in answer ≤ cnots_in answer)
  unfolding job_answered
  answered-depth = go verdict refl
    where
      go : (v : Verdict) → verdict ≡ v → let a = going v (counts_of laid (job_phase n gates)) in (depth_in a ≡ 0 ↔ cnots_in a ≡ 0) × (depth_in a ≤ cnots_in a)
      go (Ok tt) e = unfold counts_of in (sound-depth laid (laid-sound (ap number_of e)), depth-few laid)
      go (Err r) e = ((λ z. refl, λ z. refl), omega arith)
