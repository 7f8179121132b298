-- The couplers in order pass tests 2 and 3. Assumes nothing.
use mathlib.Core.Path.{◌≡◌, ap, ap₂, ◌∙◌}
use mathlib.Core.Bool.{Bool, false}
use mathlib.Core.List.{List}
use Prim.Native.Nat.{ℕ, ◌≤◌, ◌<◌}
use native.Mathlib.Omega.{arith}
use lib.ListN.{length, get_or}
use borrow.Author.Tests.{le-ltb}
use Rattle.std.specs.Prelude.{Ok, Err}
use Rattle.sets.specs.Pick.{pick}
use Rattle.sets.proofs.Finding.{first-is}
use Rattle.gates.specs.Limits.{most_qubits, most_couplers}
use Rattle.gates.specs.Layout.{packed, coupler_of, is_wrong}
use Rattle.verdicts.specs.declared.verdict.Refusal.TheVariants.{ManyCouplers, WrongCoupler}
use Rattle.verdicts.specs.Verdicts.{first_failing, wrong_at, judged_couplers}
use Rattle.chip.specs.Graph.{Near}
use Rattle.chip.specs.Couplers.{near_of}
use Rattle.chip.specs.Ordered.{ordered_list}
use Rattle.chip.proofs.Order.{ordered-sound, ordered-few}
use Rattle.chip.proofs.Neighbours.{coupler-packed, near-below}

order-right : (n : ℕ) (xs : List ℕ) → n ≤ most_qubits → (k : ℕ) → k < length (ordered_list (near_of n xs)) → is_wrong (coupler_of n (get_or (ordered_list (near_of n xs)) k 0)) ≡ false
order-right n xs few k h = go (ordered-sound (near_of n xs) k h)
  where
    go : (a b : ℕ) × (a < b) × (b < 20) × Near (near_of n xs) a b × (get_or (ordered_list (near_of n xs)) k 0 ≡ packed 0 a b) → is_wrong (coupler_of n (get_or (ordered_list (near_of n xs)) k 0)) ≡ false
    go (a, b, l, m, r, q) =
        let u = near-below n xs a b r in
        ap (λ (x : ℕ). is_wrong (coupler_of n x)) q ∙ ap is_wrong (coupler-packed n a b (omega arith) u.0 u.1 (λ (z : a ≡ b). omega arith))

pub order-accepted : (n : ℕ) (xs : List ℕ) → n ≤ most_qubits → judged_couplers n (ordered_list (near_of n xs)) ≡ Ok tt
unfolding judged_couplers wrong_at first_failing
order-accepted n xs few =
    let L = ordered_list (near_of n xs) in
    let f : ℕ → Bool = λ k. is_wrong (coupler_of n (get_or L k 0)) in
    let w : wrong_at n L ≡ length L = first-is f (length L) (length L) (omega arith) (λ (z : length L < length L). absurd (omega arith)) (order-right n xs few) in
    ap₂ (λ (s t : Bool). pick s (Err ManyCouplers) (pick t (Err (WrongCoupler (wrong_at n L))) (Ok tt))) (le-ltb most_couplers (length L) (ordered-few (near_of n xs))) (le-ltb (wrong_at n L) (length L) (omega (arith, w)))
