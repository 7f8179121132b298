-- A Hadamard's record is no gate's, and no good gate's record is a Hadamard's. Assumes nothing.
use mathlib.Core.Path.{◌≡◌, refl, sym, ap, ◌∙◌, subst}
use mathlib.Core.Bool.{Bool, true, false}
use Prim.Native.Nat.{ℕ, ◌≤◌}
use native.Mathlib.Omega.{arith}
use lib.Dec.{eqb, ltb}
use borrow.Author.Tests.{eqb-true, ne_eqb}
use Rattle.sets.specs.Pick.{pick, both}
use Rattle.gates.specs.declared.gate.Gate.{Gate}
use Rattle.gates.specs.declared.gate.Gate.TheVariants.{Bad}
use Rattle.gates.specs.Layout.{kind_in, a_in, b_in, gate_of, record_of, Good}
use Rattle.gates.specs.Hadamards.{is_hadamard}
use Rattle.gates.proofs.Records.{gate-record}

pub hadamard-kind : (n x : ℕ) → is_hadamard n x ≡ true → kind_in x ≡ 4
unfolding is_hadamard
hadamard-kind n x e = go (eqb (kind_in x) 4) refl e
  where
    go : (b : Bool) → eqb (kind_in x) 4 ≡ b → both b (both (ltb (a_in x) n) (eqb (b_in x) 0)) ≡ true → kind_in x ≡ 4
    go true k e = eqb-true (kind_in x) 4 k
    go false k e = absurd (let z : ◌≡◌ {A = ℕ} 1 0 = ap (λ (t : Bool). pick t 0 1) e in omega arith)

pub hadamard-bad : (n x : ℕ) → is_hadamard n x ≡ true → gate_of n x ≡ Bad
unfolding gate_of
hadamard-bad n x e =
    let k = hadamard-kind n x e in
    simp (ne_eqb (kind_in x) 1 (λ z. omega (arith, z, k)), ne_eqb (kind_in x) 2 (λ z. omega (arith, z, k)), ne_eqb (kind_in x) 3 (λ z. omega (arith, z, k)))

pub good-between : (n : ℕ) (g : Gate) → n ≤ 256 → Good n g → is_hadamard n (record_of g) ≡ false
good-between n g few h = go (is_hadamard n (record_of g)) refl
  where
    not-bad : (d : Gate) → Good n d → d ≡ Bad → ⊥
    not-bad d a e = unfold Good in subst (Good n) e a

    go : (b : Bool) → is_hadamard n (record_of g) ≡ b → b ≡ false
    go false e = refl
    go true e = absurd (not-bad g h (sym (gate-record n g few h) ∙ hadamard-bad n (record_of g) e))
