-- Where every gathering works, each takes a move for every qubit of its column but one. Assumes nothing.
use mathlib.Core.Path.{◌≡◌, refl, sym, ap, ◌∙◌, subst}
use mathlib.Core.Logic.{◌≢◌, ◌⊎◌, inl, inr}
use mathlib.Core.Bool.{Bool, true, false}
use mathlib.Core.List.{List, [], ◌∷◌}
use Prim.Native.Nat.{ℕ, zero, suc, ◌+◌, ◌^◌, ◌≤◌, ◌<◌}
use native.Mathlib.Omega.{arith}
use native.Mathlib.Decide.{dec_lt}
use lib.Count.{ones}
use lib.ListN.{length, get_or, get_or-eq_default}
use lib.Dec.{ltb}
use borrow.Author.Tests.{ltb-true}
use Rattle.std.specs.List.{range_with_len, AllWithin}
use Rattle.std.proofs.lemmas.List.FromFn.{get_or-range_with_len}
use Rattle.sets.specs.Bit.{bit, has, In, Sub}
use Rattle.sets.specs.Size.{size_of}
use Rattle.sets.specs.Columns.{turn}
use Rattle.sets.proofs.Bits.{bit-cases, bit-of-zero}
use Rattle.sets.proofs.Members.{in-lt}
use Rattle.sets.proofs.Ones.{ones-pow, ones-put, ones-drop}
use Rattle.sets.proofs.Turn.{turn_on, turn-off, turn-past}
use Rattle.sets.proofs.Words.{has-true, has-false}
use Rattle.gates.specs.declared.gate.Gate.{Gate}
use Rattle.gates.specs.declared.gate.Gate.TheVariants.{Cnot, Rotation, X, Bad}
use Rattle.chip.specs.Graph.{Near, Symm}
use Rattle.spares.proofs.Spares.{connected-joined}
use Rattle.gathering.specs.Gather.{turns, gather_of}
use Rattle.gathering.proofs.GatherWorks.{gathers}
use Rattle.nearest.specs.Choice.{tried_at, over_qubits}
use Rattle.nearest.specs.Sure.{Sure, Tested, Works, Answered, Mutual, Whenever}
use Rattle.nearest.specs.declared.choice.Choice.{Choice}
use Rattle.nearest.proofs.Choosing.{tried-not, tried-farther, qubits-step, qubits-none}

-- ---- a move takes at most one qubit out of a column

turn-loses : (x c t : ℕ) → ones x ≤ suc (ones (turn c t x))
turn-loses x c t = all (ltb c 32) refl
  where
    go : c < 32 → (bit x t ≡ 0) ⊎ (bit x t ≡ 1) → (bit x c ≡ 0) ⊎ (bit x c ≡ 1) → ones x ≤ suc (ones (turn c t x))
    go l (inl e) d = omega (arith, ap ones (turn-off x c t e))
    go l (inr e) (inl d) = omega (arith, ap ones (turn_on x c t l e), ones-put c x d)
    go l (inr e) (inr d) = omega (arith, ap ones (turn_on x c t l e), ones-drop c x d)

    all : (b : Bool) → ltb c 32 ≡ b → ones x ≤ suc (ones (turn c t x))
    all true e = go (ltb-true c 32 e) (bit-cases x t) (bit-cases x c)
    all false e = omega (arith, ap ones (turn-past x c t e))

pub turns-lose : (L : List Gate) (x : ℕ) → ones x ≤ length L + ones (turns L x)
turns-lose [] x = omega arith
turns-lose (Cnot c t ∷ gs) x = omega (arith, turn-loses x c t, turns-lose gs (turn c t x))
turns-lose (Rotation q a ∷ gs) x = omega (arith, turns-lose gs x)
turns-lose (X q ∷ gs) x = omega (arith, turns-lose gs x)
turns-lose (Bad ∷ gs) x = omega (arith, turns-lose gs x)

-- ---- so a column with more qubits than the nearest so far has moves is no nearer

module _ (near : List ℕ) (Q : ℕ) (s : Sure near Q) (x : ℕ) (f : Sub x Q) where
  pub gather-most : (v : ℕ) → In v x → ones x ≤ suc (length (gather_of near Q v x))
  gather-most v h =
      let g = gathers near Q v x s.symm s.low s.joined (f v h) f some in
      omega (arith, turns-lose (gather_of near Q v x) x, ap ones g.done, ones-pow v)
    where
      some : x ≢ 0
      some z = omega (arith, h, ap (λ (y : ℕ). bit y v) z, bit-of-zero v)

  module _ (k : ℕ) (b : Choice) (more : b.moves < ones x) where
    tried_same : (v : ℕ) → b ≡ tried_at near Q k x v b
    tried_same v = go (has x v) refl
      where
        go : (t : Bool) → has x v ≡ t → b ≡ tried_at near Q k x v b
        go true e = tried-farther near Q k x v b b.moves e (omega (arith, more, gather-most v (has-true x v e))) (omega arith)
        go false e = tried-not near Q k x v b e

    qubits-same : (d v : ℕ) → b ≡ over_qubits near Q k x d v b
    qubits-same zero v = sym (qubits-none near Q k x v b)
    qubits-same (suc d) v = qubits-same d (v + 1) ∙ ap (over_qubits near Q k x d (v + 1)) (tried_same v) ∙ sym (qubits-step near Q k x d v b)

pub over-same : (near : List ℕ) (Q k x : ℕ) (b : Choice) (n : ℕ) → Works near Q x → n ≡ size_of x → b.moves < n → b ≡ over_qubits near Q k x 20 0 b
unfolding size_of
over-same near Q k x b n w en h = qubits-same near Q w.sure x w.part k b (omega arith) 20 0

-- ---- the test

pub answered-has : (near : List ℕ) (u v : ℕ) (r : Bool) → r ≡ has (get_or near v 0) u → Whenever r (Answered near u v)
answered-has near u v r e t = record { back = λ n. has-true (get_or near v 0) u (sym e ∙ t) }

pub answered-not : (near : List ℕ) (u v : ℕ) (r : Bool) → has (get_or near u 0) v ≡ false → Whenever r (Answered near u v)
answered-not near u v r e t = record { back = λ n. absurd (omega (arith, n, has-false (get_or near u 0) v e)) }

-- each of 20 qubits, at its place
at_place : (P : ℕ → Type 0) → AllWithin P (range_with_len 0 20) 0 20 → (v : ℕ) → v < 20 → P v
at_place P all v l = subst P (get_or-range_with_len 0 20 v 0 l ∙ omega arith) (all v 0 (omega arith) l)

pub mutual-all : (near : List ℕ) (u : ℕ) → get_or near u 0 < 2 ^ 20 → AllWithin (Answered near u) (range_with_len 0 20) 0 20 → Mutual near u
mutual-all near u h all v = record { back = λ n. (at_place (Answered near u) all v (in-lt 20 (get_or near u 0) v h n)).back n }

pub symm-all : (near : List ℕ) → length near ≡ 20 → AllWithin (Mutual near) (range_with_len 0 20) 0 20 → Symm near
symm-all near l all u v n = go (dec_lt u 20)
  where
    go : Dec (u < 20) → Near near v u
    go (yes b) = (at_place (Mutual near) all u b v).back n
    go (no b) = absurd (omega (arith, n, ap (λ (x : ℕ). bit x v) (get_or-eq_default near 0 past), bit-of-zero v))
      where
        past : length near ≤ u
        past = omega arith

pub sure-of : (near : List ℕ) (Q : ℕ) → Tested near Q → Sure near Q
sure-of near Q t = record { symm = t.0; joined = connected-joined near Q t.2 t.0 t.1; low = t.2 }
