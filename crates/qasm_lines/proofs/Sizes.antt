-- How many bytes a gate's line, the head and the line of a common phase have. Assumes nothing.
use mathlib.Core.Path.{◌≡◌, refl}
use mathlib.Core.Bool.{Bool, true, false}
use mathlib.Core.List.{List, [], ◌∷◌}
use Prim.Native.Nat.{ℕ, suc, ◌+◌, ◌*◌, ◌%◌, ◌≤◌, ◌<◌}
use native.Mathlib.Omega.{arith}
use lib.Dec.{eqb}
use lib.ListN.{length, get_or, length-append}
use borrow.Author.Tests.{eqb-true, eqb-false}
use Rattle.gates.specs.Layout.{kind_in, a_in, b_in}
use Rattle.lines.specs.Lines.{digits}
use Rattle.lines.proofs.Layouts.{b_lt}
use Rattle.lines.proofs.Writes.{width-most}
use Rattle.versions.specs.declared.Version.{Version}
use Rattle.versions.specs.declared.Version.TheVariants.{Two, Three}
use Rattle.qasm_lines.specs.Spelling.{gate_text, gates_text, head_text, phase_text, circuit_text}
use Rattle.qasm_lines.proofs.Spelt.{phase-text-none, gate-cnot, gate-turn, gate-x, gate-other, head-spelt, phase-spelt}

-- in 3.0 it is a byte shorter
pub turn-length : (v : Version) (x : ℕ) → kind_in x ≡ 2 → length (gate_text v x) ≤ 19 + length (digits (a_in x)) + length (digits (b_in x))
turn-length Two x e = rw (gate-turn Two x e) (simp length-append (omega arith))
turn-length Three x e = rw (gate-turn Three x e) (simp length-append (omega arith))

module _ (v : Version) (x : ℕ) where
  pub cx-length : kind_in x ≡ 1 → length (gate_text v x) ≡ 12 + length (digits (a_in x)) + length (digits (b_in x))
  cx-length e = rw (gate-cnot v x e) (simp length-append (omega arith))

  pub x-length : kind_in x ≡ 3 → length (gate_text v x) ≡ 7 + length (digits (a_in x))
  x-length e = rw (gate-x v x e) (simp length-append (omega arith))

  pub other_length : (kind_in x ≡ 1 → ⊥) → (kind_in x ≡ 2 → ⊥) → (kind_in x ≡ 3 → ⊥) → length (gate_text v x) ≡ 7 + length (digits (a_in x))
  other_length a b c = rw (gate-other v x a b c) (simp length-append (omega arith))

  -- as in `u1(65535*pi/32768) q[19];`
  pub gate-most : a_in x < 100 → (kind_in x ≡ 1 → b_in x < 100) → length (gate_text v x) ≤ 26
  gate-most h k = go (eqb (kind_in x) 1) (eqb (kind_in x) 2) (eqb (kind_in x) 3) refl refl refl
    where
      a : length (digits (a_in x)) ≤ 2
      a = width-most 1 (a_in x) h

      b : length (digits (b_in x)) ≤ 5
      b = width-most 4 (b_in x) (omega (arith, b_lt x))

      go : (t u w : Bool) → eqb (kind_in x) 1 ≡ t → eqb (kind_in x) 2 ≡ u → eqb (kind_in x) 3 ≡ w → length (gate_text v x) ≤ 26
      go true u w p q r = let e = eqb-true (kind_in x) 1 p in omega (arith, cx-length e, a, width-most 1 (b_in x) (k e))
      go false true w p q r = omega (arith, turn-length v x (eqb-true (kind_in x) 2 q), a, b)
      go false false true p q r = omega (arith, x-length (eqb-true (kind_in x) 3 r), a)
      go false false false p q r = omega (arith, other_length (eqb-false (kind_in x) 1 p) (eqb-false (kind_in x) 2 q) (eqb-false (kind_in x) 3 r), a)

pub gates-most : (v : Version) (xs : List ℕ) → ((k : ℕ) → k < length xs → (a_in (get_or xs k 0) < 100) × (kind_in (get_or xs k 0) ≡ 1 → b_in (get_or xs k 0) < 100))
    → length (gates_text v xs) ≤ 26 * length xs
unfolding gates_text
gates-most v [] h = omega arith
gates-most v (x ∷ xs) h =
    let f = h 0 (omega arith) in
    omega (arith, length-append (gate_text v x) (gates_text v xs), gate-most v x f.0 f.1, gates-most v xs (λ k l. h (suc k) (omega arith)))

-- in 2.0 it is three bytes shorter
pub head-length : (v : Version) (n : ℕ) → length (head_text v n) ≤ 49 + length (digits n)
head-length Two n = rw (head-spelt Two n) (simp length-append (omega arith))
head-length Three n = rw (head-spelt Three n) (simp length-append (omega arith))

pub head-most : (v : Version) (n : ℕ) → n < 100 → length (head_text v n) ≤ 51
head-most v n h = omega (arith, head-length v n, width-most 1 n h)

-- in 3.0 it is seven bytes shorter
phase-length : (v : Version) (g : ℕ) → (g % 131072 ≡ 0 → ⊥) → length (phase_text v g) ≤ 26 + length (digits (g % 131072))
phase-length Two g h = rw (phase-spelt Two g h) (simp length-append (omega arith))
phase-length Three g h = rw (phase-spelt Three g h) (simp length-append (omega arith))

-- as in `// common phase 131071*pi/65536`
pub phase-most : (v : Version) (g : ℕ) → length (phase_text v g) ≤ 32
phase-most v g = go (eqb (g % 131072) 0) refl
  where
    go : (t : Bool) → eqb (g % 131072) 0 ≡ t → length (phase_text v g) ≤ 32
    go true e = rw (phase-text-none v g (eqb-true (g % 131072) 0 e)) (omega arith)
    go false e = omega (arith, phase-length v g (eqb-false (g % 131072) 0 e), width-most 5 (g % 131072) (omega arith))

pub circuit-length : (v : Version) (n : ℕ) (gs : List ℕ) (g : ℕ) → length (circuit_text v n gs g) ≡ length (head_text v n) + (length (gates_text v gs) + length (phase_text v g))
unfolding circuit_text
circuit-length v n gs g = simp length-append
