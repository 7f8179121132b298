-- What the writer accepts fits a text: laws of the tests of a job. Assumes nothing.
use mathlib.Core.Path.{◌≡◌, refl}
use mathlib.Core.Logic.{inl, inr}
use mathlib.Core.Bool.{Bool, true, false}
use mathlib.Core.List.{List, [], ◌∷◌}
use Prim.Native.Nat.{ℕ, suc, ◌≤◌, ◌<◌}
use native.Mathlib.Omega.{arith}
use Rattle.std.proofs.Common.{Option}
use lib.Dec.{leb, ltb, eqb}
use lib.ListN.{length, get_or}
use borrow.Author.Tests.{ltb-false, leb-true, eqb-true, eqb-false}
use Rattle.std.specs.Prelude.{Ok, Err}
use Rattle.sets.specs.Pick.{pick, both}
use Rattle.sets.proofs.Finding.{first-before}
use Rattle.gates.specs.Limits.{most_qubits, most_couplers}
use Rattle.gates.specs.Layout.{kind_in, b_in, no_coupler, coupler_of, is_wrong}
use Rattle.gates.specs.declared.coupler.Coupler.{Coupler}
use Rattle.verdicts.specs.Verdicts.{number_of, first_failing, judged_qubits, wrong_at, judged_couplers, judged_drawn}
use Rattle.verdicts.specs.Rows.{BadDrawn}
use Rattle.verdicts.specs.declared.verdict.Refusal.TheVariants.{Qubits, ManyCouplers, WrongCoupler}
use Rattle.verdicts.proofs.Rows.{row-passes, tests-drawn}
use Rattle.reading.specs.Limits.{most_first}
use Rattle.reading.specs.Misfit.{FitsLine}
use Rattle.sets.specs.Lists.{All}
use Rattle.reading.specs.declared.sort.Sort.{Sort}
use Rattle.reading.specs.declared.sort.Sort.TheVariants.{Couplers, Gates}

two : {B : Type 0} → true ≡ false → B
two e = let z : ◌≡◌ {A = ℕ} 0 1 = cc e in absurd (omega arith)

pub qubits-fit : (n : ℕ) → number_of (judged_qubits n) ≡ 0 → n ≤ most_first
unfolding judged_qubits
qubits-fit n e = go (leb 1 n) (leb n most_qubits) refl e
  where
    go : (t u : Bool) → leb n most_qubits ≡ u → number_of (pick (both t u) (Ok tt) (Err Qubits)) ≡ 0 → n ≤ most_first
    go true true q e = omega (arith, leb-true n most_qubits q)
    go true false q e = let z : ◌≡◌ {A = ℕ} 1 0 = e in absurd (omega arith)
    go false u q e = let z : ◌≡◌ {A = ℕ} 1 0 = e in absurd (omega arith)

-- every record of a list
all_fit : (g : Sort) (xs : List ℕ) → ((k : ℕ) → k < length xs → FitsLine g (get_or xs k 0)) → All (FitsLine g) xs
unfolding All
all_fit g [] h = tt
all_fit g (x ∷ xs) h = (h 0 (omega arith), all_fit g xs (λ k l. h (suc k) (omega arith)))

coupler-kind : (n x : ℕ) → is_wrong (coupler_of n x) ≡ false → kind_in x ≡ 0
unfolding coupler_of
coupler-kind n x e = go (eqb (kind_in x) 0) _ refl e
  where
    go : (t : Bool) (c : Option Coupler) → eqb (kind_in x) 0 ≡ t → is_wrong (pick t c no_coupler) ≡ false → kind_in x ≡ 0
    go true c q e = eqb-true (kind_in x) 0 q
    go false c q e = two e

-- "5 covers an X with a bad qubit or b not 0", "5 covers a bad Hadamard": the line of a record that passes says all of it
drawn-kind : (n x : ℕ) → (BadDrawn n x → ⊥) → FitsLine Gates x
drawn-kind n x h = go (eqb (kind_in x) 1) (eqb (kind_in x) 2) (eqb (kind_in x) 3) (eqb (kind_in x) 4) (eqb (b_in x) 0) refl refl refl refl refl
  where
    go : (t u v w z : Bool) → eqb (kind_in x) 1 ≡ t → eqb (kind_in x) 2 ≡ u → eqb (kind_in x) 3 ≡ v → eqb (kind_in x) 4 ≡ w → eqb (b_in x) 0 ≡ z → FitsLine Gates x
    go true u v w z p q r s o = inl (eqb-true (kind_in x) 1 p)
    go false true v w z p q r s o = inr (inl (eqb-true (kind_in x) 2 q))
    go false false true w true p q r s o = inr (inr (inl (eqb-true (kind_in x) 3 r, eqb-true (b_in x) 0 o)))
    go false false true w false p q r s o = absurd (h (inr (inr (inr (inl (eqb-true (kind_in x) 3 r), eqb-false (b_in x) 0 o)))))
    go false false false true true p q r s o = inr (inr (inr (eqb-true (kind_in x) 4 s, eqb-true (b_in x) 0 o)))
    go false false false true false p q r s o = absurd (h (inr (inr (inr (inr (eqb-true (kind_in x) 4 s), eqb-false (b_in x) 0 o)))))
    go false false false false z p q r s o = absurd (h (inl (eqb-false (kind_in x) 1 p, eqb-false (kind_in x) 2 q, eqb-false (kind_in x) 3 r, eqb-false (kind_in x) 4 s)))

pub couplers_fit : (n : ℕ) (xs : List ℕ) → number_of (judged_couplers n xs) ≡ 0 → All (FitsLine Couplers) xs
unfolding judged_couplers wrong_at first_failing
couplers_fit n xs e = go (ltb most_couplers (length xs)) (ltb (wrong_at n xs) (length xs)) refl e
  where
    f : ℕ → Bool
    f k = is_wrong (coupler_of n (get_or xs k 0))

    go : (t u : Bool) → ltb (wrong_at n xs) (length xs) ≡ u → number_of (pick t (Err ManyCouplers) (pick u (Err (WrongCoupler (wrong_at n xs))) (Ok tt))) ≡ 0 → All (FitsLine Couplers) xs
    go true u q e = let z : ◌≡◌ {A = ℕ} 2 0 = e in absurd (omega arith)
    go false true q e = let z : ◌≡◌ {A = ℕ} 3 0 = e in absurd (omega arith)
    go false false q e =
        let w : length xs ≤ wrong_at n xs = ltb-false (wrong_at n xs) (length xs) q in
        all_fit Couplers xs (λ k l. coupler-kind n (get_or xs k 0) (first-before f (length xs) 0 k (omega arith) (omega arith)))

pub gates_fit : (n : ℕ) (xs : List ℕ) → number_of (judged_drawn n xs) ≡ 0 → All (FitsLine Gates) xs
gates_fit n xs e =
    let none = (row-passes (tests-drawn n xs)).exactly.0 e in
    all_fit Gates xs (λ k l. drawn-kind n (get_or xs k 0) (none k l))
