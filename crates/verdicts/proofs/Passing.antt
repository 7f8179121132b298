-- Records that pass test 5 of a stretch are good gates, and those that pass it of a job are good gates and Hadamards. Assumes nothing.
use mathlib.Core.Path.{◌≡◌, refl, sym, ap, ◌∙◌}
use mathlib.Core.Logic.{◌⊎◌, inl, inr}
use mathlib.Core.Bool.{Bool, true, false, not}
use mathlib.Core.List.{List}
use Prim.Native.Nat.{ℕ, ◌≤◌, ◌<◌, zero-le}
use native.Mathlib.Omega.{arith}
use lib.Dec.{ltb}
use lib.ListN.{length, get_or}
use borrow.Author.Tests.{ltb-false, le-ltb, not-false}
use Rattle.std.specs.Prelude.{Ok, Err}
use Rattle.sets.specs.Pick.{pick, both}
use Rattle.sets.proofs.Finding.{first-le, first-true, first-before, first-is}
use Rattle.gates.specs.declared.gate.Gate.TheVariants.{Bad}
use Rattle.verdicts.specs.declared.verdict.Refusal.TheVariants.{BadGate}
use Rattle.gates.specs.Layout.{gate_of, gates_of, is_bad, record_of, Good}
use Rattle.gates.specs.Hadamards.{is_hadamard}
use Rattle.verdicts.specs.Verdicts.{Verdict, first_failing, bad_at, judged_gates, is_neither, neither_at, judged_drawn}
use Rattle.sets.specs.Lists.{All}
use Rattle.gates.proofs.Records.{gate-back}
use Rattle.gates.proofs.Alls.{all-at}

not-bad : (n x : ℕ) → is_bad (gate_of n x) ≡ false → Good n (gate_of n x)
not-bad n x e = go (gate-back n x)
  where
    go : (gate_of n x ≡ Bad) ⊎ (Good n (gate_of n x) × (record_of (gate_of n x) ≡ x)) → Good n (gate_of n x)
    go (inl b) = absurd (let z : ◌≡◌ {A = ℕ} 1 0 = ap (λ (t : Bool). pick t 1 0) (sym (ap is_bad b) ∙ e) in omega arith)
    go (inr r) = r.0

-- ---- the first place that fails

-- whether one is refused
abbrev refused_where : (ℕ → Bool) → List ℕ → Bool → Verdict
refused_where fails xs b = pick b (Err (BadGate (first_failing fails xs))) (Ok tt)

-- where none is refused, no record fails
none-fails : (fails : ℕ → Bool) (xs : List ℕ) → refused_where fails xs (ltb (first_failing fails xs) (length xs)) ≡ Ok tt → (k : ℕ) → k < length xs → fails (get_or xs k 0) ≡ false
unfolding first_failing
none-fails fails xs e k l = go (ltb (first_failing fails xs) (length xs)) refl e
  where
    go : (b : Bool) → ltb (first_failing fails xs) (length xs) ≡ b → refused_where fails xs b ≡ Ok tt → fails (get_or xs k 0) ≡ false
    go true o d = absurd (let z : ◌≡◌ {A = ℕ} 0 1 = cc in omega arith)
    go false o d =
        let past : length xs ≤ first_failing fails xs = ltb-false (first_failing fails xs) (length xs) o in
        first-before (λ k. fails (get_or xs k 0)) (length xs) 0 k zero-le (omega arith)

-- tests that agree on a list fail first at the same place
failing-same : (f g : ℕ → Bool) (xs : List ℕ) → ((k : ℕ) → k < length xs → f (get_or xs k 0) ≡ g (get_or xs k 0)) → first_failing f xs ≡ first_failing g xs
unfolding first_failing
failing-same f g xs h =
    let G : ℕ → Bool = λ k. g (get_or xs k 0) in
    let le : first_failing g xs ≤ length xs = omega (arith, first-le G (length xs) 0) in
    first-is (λ k. f (get_or xs k 0)) (length xs) (first_failing g xs) le (λ (l : first_failing g xs < length xs). h _ l ∙ first-true G (length xs) 0 (omega arith))
    (λ (j : ℕ) (l : j < first_failing g xs). h j (omega arith) ∙ first-before G (length xs) 0 j zero-le l)

-- ---- of a stretch

pub accepted-good : (n : ℕ) (xs : List ℕ) → judged_gates n xs ≡ Ok tt → All (Good n) (gates_of n xs)
unfolding judged_gates bad_at
accepted-good n xs e = all-at (Good n) n xs (λ k l. not-bad n (get_or xs k 0) (none-fails (λ x. is_bad (gate_of n x)) xs e k l))

-- ---- of a job

pub accepted-drawn : (n : ℕ) (xs : List ℕ) → judged_drawn n xs ≡ Ok tt → (k : ℕ) → k < length xs → Good n (gate_of n (get_or xs k 0)) ⊎ (is_hadamard n (get_or xs k 0) ≡ true)
unfolding judged_drawn neither_at is_neither
accepted-drawn n xs e k l = go (is_bad (gate_of n (get_or xs k 0))) refl (none-fails (is_neither n) xs e k l)
  where
    go : (b : Bool) → is_bad (gate_of n (get_or xs k 0)) ≡ b → both b (not (is_hadamard n (get_or xs k 0))) ≡ false → Good n (gate_of n (get_or xs k 0)) ⊎ (is_hadamard n (get_or xs k 0) ≡ true)
    go true o d = inr (not-false (is_hadamard n (get_or xs k 0)) d)
    go false o d = inl (not-bad n (get_or xs k 0) o)

pub drawn-accepted : (n : ℕ) (xs : List ℕ) → ((k : ℕ) → k < length xs → is_neither n (get_or xs k 0) ≡ false) → judged_drawn n xs ≡ Ok tt
unfolding judged_drawn neither_at first_failing
drawn-accepted n xs h =
    let w : neither_at n xs ≡ length xs = first-is (λ k. is_neither n (get_or xs k 0)) (length xs) (length xs) (omega arith) (λ (z : length xs < length xs). absurd (omega arith)) h in
    ap (λ (t : Bool). pick t (Err (BadGate (neither_at n xs))) (Ok tt)) (le-ltb (neither_at n xs) (length xs) (omega (arith, w)))

-- without a Hadamard the two are one test
pub drawn-gates : (n : ℕ) (xs : List ℕ) → ((k : ℕ) → k < length xs → is_hadamard n (get_or xs k 0) ≡ false) → judged_drawn n xs ≡ judged_gates n xs
unfolding judged_drawn neither_at judged_gates bad_at is_neither
drawn-gates n xs h =
    ap (λ (k : ℕ). pick (ltb k (length xs)) (Err (BadGate k)) (Ok tt))
    (failing-same (is_neither n) (λ x. is_bad (gate_of n x)) xs (λ k l. go (is_bad (gate_of n (get_or xs k 0))) (h k l)))
  where
    go : (b : Bool) {t : Bool} → t ≡ false → both b (not t) ≡ b
    go true e = ap not e
    go false e = refl
