-- Tests and the facts that they decide, and where neighbours are. Assumes nothing.
use mathlib.Core.Path.{◌≡◌, refl, ap}
use mathlib.Core.Bool.{Bool, true, false}
use mathlib.Core.List.{List}
use Prim.Native.Nat.{ℕ, ◌≤◌, ◌<◌}
use native.Mathlib.Omega.{arith}
use native.Mathlib.Decide.{dec_lt}
use lib.Dec.{ltb}
use lib.ListN.{length, get_or-eq_default}
use borrow.Author.Tests.{ltb-false}
use Rattle.sets.specs.Bit.{bit}
use Rattle.sets.specs.Search.{first_of, some_of}
use Rattle.sets.proofs.Bits.{bit-of-zero}
use Rattle.sets.proofs.Finding.{first-before}
use Rattle.chip.specs.Graph.{Near}
use Rattle.sets.proofs.Deciding.{never}

pub some_of_lem : (f : ℕ → Bool) (n u : ℕ) → u < n → f u ≡ true → some_of f n ≡ true
unfolding some_of
some_of_lem f n u h e = go (ltb (first_of f n 0) n) refl
  where
    go : (b : Bool) → ltb (first_of f n 0) n ≡ b → ltb (first_of f n 0) n ≡ true
    go true q = q
    go false q = absurd (never e (first-before f n 0 u (omega arith) (omega (arith, ltb-false (first_of f n 0) n q))))

-- only the 20 qubits have neighbours
pub near-low : (near : List ℕ) (u v : ℕ) → length near ≡ 20 → Near near u v → u < 20
near-low near u v len n = go (dec_lt u 20)
  where
    go : Dec (u < 20) → u < 20
    go (yes h) = h
    go (no h) =
        let far : 20 ≤ u = omega arith in
        absurd (omega (arith, ap (λ (x : ℕ). bit x v) (get_or-eq_default near 0 {n = u} (omega arith)), bit-of-zero v))
