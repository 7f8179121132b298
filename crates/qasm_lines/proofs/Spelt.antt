-- The line of each kind of gate, the head and the line of a common phase, spelt out. Assumes nothing.
use mathlib.Core.Path.{◌≡◌, refl, ap}
use mathlib.Core.Bool.{Bool, true, false}
use mathlib.Core.List.{List, [], ◌∷◌, ◌++◌}
use Prim.Native.Nat.{ℕ, zero, suc, ◌%◌, ◌≤◌}
use native.Mathlib.Omega.{arith}
use lib.Dec.{eqb}
use lib.ListN.{length}
use borrow.Author.Tests.{eq-eqb, ne_eqb}
use Rattle.sets.specs.Pick.{pick}
use Rattle.gates.specs.Layout.{kind_in, a_in, b_in}
use Rattle.lines.specs.Kinds.{number_of, kind_of}
use Rattle.lines.specs.declared.kind.Kind.TheVariants.{Rotation}
use Rattle.lines.specs.Lines.{digits}
use Rattle.lines.specs.Pattern.{filled}
use Rattle.versions.specs.declared.Version.{Version}
use Rattle.versions.specs.declared.Version.TheVariants.{Two, Three}
use Rattle.qasm_lines.specs.Spelling.{cx_pattern, turn_pattern, x_pattern, h_pattern, pattern, numbers_in, gate_text, head_pattern, head_text, phase_pattern, phase_text}

-- ---- the pattern of a kind

module _ (v : Version) (kind : ℕ) where
  pub pattern-short : (kind ≡ 1 → ⊥) → (kind ≡ 2 → ⊥) → 8 ≡ length (pattern v kind)
  unfolding pattern
  pattern-short a b = rw (ne_eqb kind 1 a, ne_eqb kind 2 b) (go (eqb kind 3))
    where
      go : (t : Bool) → 8 ≡ length (pick t x_pattern h_pattern)
      go true = refl
      go false = refl

-- ---- how long a pattern is

turn-most : (v : Version) → length (turn_pattern v) ≤ 21
turn-most Two = omega arith
turn-most Three = omega arith

pub pattern-most : (v : Version) (kind : ℕ) → length (pattern v kind) ≤ 21
unfolding pattern
pattern-most v kind = go (eqb kind 1) (eqb kind 2) (eqb kind 3)
  where
    go : (t u w : Bool) → length (pick t cx_pattern (pick u (turn_pattern v) (pick w x_pattern h_pattern))) ≤ 21
    go true u w = omega arith
    go false true w = turn-most v
    go false false true = omega arith
    go false false false = omega arith

pub head-pattern-most : (v : Version) → length (head_pattern v) ≤ 50
head-pattern-most Two = omega arith
head-pattern-most Three = omega arith

pub phase-pattern-most : (v : Version) → length (phase_pattern v) ≤ 27
phase-pattern-most Two = omega arith
phase-pattern-most Three = omega arith

-- no line where the phase is 0
pub phase-text-none : (v : Version) (g : ℕ) → g % 131072 ≡ 0 → phase_text v g ≡ []
unfolding phase_text
phase-text-none v g e = rw (eq-eqb (g % 131072) 0 e)

-- ---- the kind, as the code finds it

pub pattern_kind : (v : Version) (k : ℕ) → pattern v (number_of (kind_of k)) ≡ pattern v k
unfolding pattern
pattern_kind v zero = refl
pattern_kind v (suc zero) = refl
pattern_kind v (suc (suc zero)) = refl
pattern_kind v (suc (suc (suc zero))) = refl
pattern_kind v (suc (suc (suc (suc k)))) =
    let n = suc (suc (suc (suc k))) in
    rw (ne_eqb n 1 (λ e. omega (arith, e)), ne_eqb n 2 (λ e. omega (arith, e)), ne_eqb n 3 (λ e. omega (arith, e)))

rotation_kind : (k : ℕ) → kind_of k ≡ Rotation → k ≡ 2
rotation_kind zero e = cc
rotation_kind (suc zero) e = cc
rotation_kind (suc (suc zero)) e = refl
rotation_kind (suc (suc (suc zero))) e = cc
rotation_kind (suc (suc (suc (suc k)))) e = cc

-- the units stand first in a rotation's line
module _ (x : ℕ) where
  pub numbers_turn : kind_of (kind_in x) ≡ Rotation → numbers_in x ≡ b_in x ∷ a_in x ∷ []
  unfolding numbers_in
  numbers_turn e = rw (rotation_kind (kind_in x) e)

  pub numbers_other : (kind_of (kind_in x) ≡ Rotation → ⊥) → numbers_in x ≡ a_in x ∷ b_in x ∷ []
  unfolding numbers_in
  numbers_other h = rw (ne_eqb (kind_in x) 2 (λ e. h (ap kind_of e)))

-- ---- each spelt out

-- `u1(`, `p(`
abbrev pub turn_front : Version → List ℕ
turn_front Two = 117 ∷ 49 ∷ 40 ∷ []
turn_front Three = 112 ∷ 40 ∷ []

module _ (v : Version) (x : ℕ) where
  -- `cx q[a],q[b];`
  pub gate-cnot : kind_in x ≡ 1 → gate_text v x ≡ 99 ∷ 120 ∷ 32 ∷ 113 ∷ 91 ∷ (digits (a_in x) ++ (93 ∷ 44 ∷ 113 ∷ 91 ∷ (digits (b_in x) ++ (93 ∷ 59 ∷ 10 ∷ []))))
  unfolding gate_text pattern numbers_in filled
  gate-cnot e = rw e

  -- `x q[a];`
  pub gate-x : kind_in x ≡ 3 → gate_text v x ≡ 120 ∷ 32 ∷ 113 ∷ 91 ∷ (digits (a_in x) ++ (93 ∷ 59 ∷ 10 ∷ []))
  unfolding gate_text pattern numbers_in filled
  gate-x e = rw e

  -- `h q[a];`, of any other kind too
  pub gate-other : (kind_in x ≡ 1 → ⊥) → (kind_in x ≡ 2 → ⊥) → (kind_in x ≡ 3 → ⊥) → gate_text v x ≡ 104 ∷ 32 ∷ 113 ∷ 91 ∷ (digits (a_in x) ++ (93 ∷ 59 ∷ 10 ∷ []))
  unfolding gate_text pattern numbers_in filled
  gate-other a b c = rw (ne_eqb (kind_in x) 1 a, ne_eqb (kind_in x) 2 b, ne_eqb (kind_in x) 3 c)

  pub gate-hadamard : kind_in x ≡ 4 → gate_text v x ≡ 104 ∷ 32 ∷ 113 ∷ 91 ∷ (digits (a_in x) ++ (93 ∷ 59 ∷ 10 ∷ []))
  gate-hadamard e = gate-other (λ z. omega (arith, e, z)) (λ z. omega (arith, e, z)) (λ z. omega (arith, e, z))

-- `u1(b*pi/32768) q[a];`, `p(b*pi/32768) q[a];`
pub gate-turn : (v : Version) (x : ℕ) → kind_in x ≡ 2
    → gate_text v x ≡ turn_front v ++ (digits (b_in x) ++ (42 ∷ 112 ∷ 105 ∷ 47 ∷ 51 ∷ 50 ∷ 55 ∷ 54 ∷ 56 ∷ 41 ∷ 32 ∷ 113 ∷ 91 ∷ (digits (a_in x) ++ (93 ∷ 59 ∷ 10 ∷ []))))
unfolding gate_text pattern numbers_in filled
gate-turn Two x e = rw e
gate-turn Three x e = rw e

-- `OPENQASM 2.0;`, `include "qelib1.inc";`, `qreg q[n];`, and `OPENQASM 3.0;`, `include "stdgates.inc";`, `qubit[n] q;`: up to the number, and from behind it
abbrev pub head_front : Version → List ℕ
head_front Two = 79 ∷ 80 ∷ 69 ∷ 78 ∷ 81 ∷ 65 ∷ 83 ∷ 77 ∷ 32 ∷ 50 ∷ 46 ∷ 48 ∷ 59 ∷ 10 ∷ 105 ∷ 110 ∷ 99 ∷ 108 ∷ 117 ∷ 100 ∷ 101 ∷ 32 ∷ 34 ∷ 113 ∷ 101 ∷ 108 ∷ 105 ∷ 98 ∷ 49 ∷ 46 ∷ 105 ∷ 110 ∷ 99 ∷ 34 ∷ 59 ∷ 10 ∷ 113 ∷ 114 ∷ 101 ∷ 103 ∷ 32 ∷ 113 ∷ 91 ∷ []
head_front Three = 79 ∷ 80 ∷ 69 ∷ 78 ∷ 81 ∷ 65 ∷ 83 ∷ 77 ∷ 32 ∷ 51 ∷ 46 ∷ 48 ∷ 59 ∷ 10 ∷ 105 ∷ 110 ∷ 99 ∷ 108 ∷ 117 ∷ 100 ∷ 101 ∷ 32 ∷ 34 ∷ 115 ∷ 116 ∷ 100 ∷ 103 ∷ 97 ∷ 116 ∷ 101 ∷ 115 ∷ 46 ∷ 105 ∷ 110 ∷ 99 ∷ 34 ∷ 59 ∷ 10 ∷ 113 ∷ 117 ∷ 98 ∷ 105 ∷ 116 ∷ 91 ∷ []

abbrev pub head_back : Version → List ℕ
head_back Two = 93 ∷ 59 ∷ 10 ∷ []
head_back Three = 93 ∷ 32 ∷ 113 ∷ 59 ∷ 10 ∷ []

pub head-spelt : (v : Version) (n : ℕ) → head_text v n ≡ head_front v ++ (digits n ++ head_back v)
unfolding head_text filled
head-spelt Two n = refl
head-spelt Three n = refl

-- `// common phase g*pi/65536`, `gphase(g*pi/65536);`
abbrev pub phase_front : Version → List ℕ
phase_front Two = 47 ∷ 47 ∷ 32 ∷ 99 ∷ 111 ∷ 109 ∷ 109 ∷ 111 ∷ 110 ∷ 32 ∷ 112 ∷ 104 ∷ 97 ∷ 115 ∷ 101 ∷ 32 ∷ []
phase_front Three = 103 ∷ 112 ∷ 104 ∷ 97 ∷ 115 ∷ 101 ∷ 40 ∷ []

abbrev pub phase_back : Version → List ℕ
phase_back Two = 42 ∷ 112 ∷ 105 ∷ 47 ∷ 54 ∷ 53 ∷ 53 ∷ 51 ∷ 54 ∷ 10 ∷ []
phase_back Three = 42 ∷ 112 ∷ 105 ∷ 47 ∷ 54 ∷ 53 ∷ 53 ∷ 51 ∷ 54 ∷ 41 ∷ 59 ∷ 10 ∷ []

pub phase-spelt : (v : Version) (g : ℕ) → (g % 131072 ≡ 0 → ⊥) → phase_text v g ≡ phase_front v ++ (digits (g % 131072) ++ phase_back v)
unfolding phase_text filled
phase-spelt Two g h = rw (ne_eqb (g % 131072) 0 h)
phase-spelt Three g h = rw (ne_eqb (g % 131072) 0 h)
