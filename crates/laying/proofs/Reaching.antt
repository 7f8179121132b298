-- Coupler CNOTs keep parities inside islands: what is reachable is inside. Assumes nothing.
use mathlib.Core.Path.{◌≡◌, refl, sym, ap, ◌∙◌, subst}
use mathlib.Core.Logic.{◌≢◌}
use mathlib.Core.List.{List, [], ◌∷◌}
use Prim.Native.Nat.{ℕ, ◌%◌, ◌≤◌, ◌<◌}
use native.Mathlib.Omega.{arith}
use native.Mathlib.Decide.{ℕ_discrete}
use lib.ListN.{length, get_or}
use Rattle.sets.specs.Bit.{In, Sub}
use Rattle.sets.specs.Columns.{cnot}
use Rattle.sets.proofs.Members.{xor-sub, in-pow}
use Rattle.sets.proofs.Comb.{get_or-units}
use Rattle.gates.specs.declared.gate.Gate.{Gate}
use Rattle.gates.specs.declared.gate.Gate.TheVariants.{Cnot, Rotation, X, Bad}
use Rattle.gates.specs.Layout.{Good}
use Rattle.circuit.specs.Circuit.{step, run, start, final_of, gives, given, Term}
use Rattle.circuit.specs.Flips.{no_flips}
use Rattle.sets.specs.Lists.{All}
use Rattle.gates.specs.Listed.{Listed, OnCoupler}
use Rattle.meaning.specs.Same.{Reachable}
use Rattle.circuit.proofs.Steps.{cnot-target, cnot-other, step-length, gives-cnot, gives-x, gives-bad, gives_other}
use Rattle.circuit.proofs.Circuits.{start-length}
use Rattle.circuit.proofs.Straight.{straight, straight-good, straight-coupled, sum-straight}
use Rattle.laying.specs.Reach.{MeaningInside}

-- wire i bears a parity inside isl i
pub record WiresInside (n : ℕ) (isl : ℕ → ℕ) (W : List ℕ) : Type 0 where
  pub long : length W ≡ 20
  pub at : (i : ℕ) → i < n → Sub (get_or W i 0) (isl i)

module _ (n : ℕ) (isl : ℕ → ℕ) (couplers : List ℕ) (few : n ≤ 20) (self : (i : ℕ) → i < n → In i (isl i))
    (joins : (u v : ℕ) → u < n → v < n → u ≢ v → Listed couplers u v → isl u ≡ isl v) where
  inside-start : WiresInside n isl start
  unfolding start
  inside-start = record { long = start-length; at = λ i (h : i < n). rw (get_or-units 20 i (omega arith)) (λ j m. subst (λ (k : ℕ). In k (isl i)) (sym (in-pow i j m)) (self i h)) }

  inside-step : (g : Gate) (W : List ℕ) → Good n g → OnCoupler couplers g → WiresInside n isl W → WiresInside n isl (step g W)
  unfolding step Good OnCoupler
  inside-step (Cnot c t) W (hc, ht, ne) o w = record { long = step-length (Cnot c t) W ∙ w.long; at = λ i h. go i h (ℕ_discrete i t) }
    where
      go : (i : ℕ) → i < n → Dec (i ≡ t) → Sub (get_or (cnot c t W) i 0) (isl i)
      go i h (no d) = rw (cnot-other c t i W d) (w.at i h)
      go i h (yes e) =
          rw e (rw (cnot-target c t W (omega (arith, w.long))) (xor-sub (get_or W c 0) (get_or W t 0) (isl t) (subst (Sub (get_or W c 0)) (joins c t hc ht ne o) (w.at c hc)) (w.at t ht)))
  inside-step (Rotation q a) W g o w = w
  inside-step (X q) W g o w = w
  inside-step Bad W g o w = absurd g

  inside-run : (gs : List Gate) (W : List ℕ) → All (Good n) gs → All (OnCoupler couplers) gs → WiresInside n isl W → WiresInside n isl (run gs W)
  unfolding run All
  inside-run [] W g o w = w
  inside-run (x ∷ gs) W g o w = inside-run gs (step x W) g.1 o.1 (inside-step x W g.0 o.0 w)

  -- a parity that gets an angle is inside one island
  inside-given : (p : ℕ) (gs : List Gate) (W : List ℕ) → All (Good n) gs → All (OnCoupler couplers) gs → WiresInside n isl W → given p gs W ≢ 0 → (i : ℕ) × (i < n) × Sub p (isl i)
  unfolding given All
  inside-given p [] W g o w ne = absurd (ne refl)
  inside-given p (x ∷ gs) W g o w ne = go (ℕ_discrete (gives p x W) 0) (inside-given p gs (step x W) g.1 o.1 (inside-step x W g.0 o.0 w))
    where
      here : (y : Gate) → Good n y → gives p y W ≢ 0 → (i : ℕ) × (i < n) × Sub p (isl i)
      here (Cnot c t) h d = absurd (d (gives-cnot p c t W))
      here (Rotation q a) h d = at (ℕ_discrete (get_or W q 0) p)
        where
          below : Good n (Rotation q a) → q < n
          below = unfold Good in λ r. r.0

          at : Dec (get_or W q 0 ≡ p) → (i : ℕ) × (i < n) × Sub p (isl i)
          at (yes e) = (q, below h, subst (λ (r : ℕ). Sub r (isl q)) e (w.at q (below h)))
          at (no f) = absurd (d (gives_other p q a W f))
      here (X q) h d = absurd (d (gives-x p q W))
      here Bad h d = absurd (d (gives-bad p W))

      go : Dec (gives p x W ≡ 0) → (given p gs (step x W) ≢ 0 → (i : ℕ) × (i < n) × Sub p (isl i)) → (i : ℕ) × (i < n) × Sub p (isl i)
      go (yes z) ih = ih (λ (e : given p gs (step x W) ≡ 0). ne (omega arith))
      go (no d) ih = here x g.0 d

  -- only what is inside is reachable
  pub reachable-within : (gs : List Gate) → Reachable n couplers gs → MeaningInside n isl gs
  unfolding final_of Term
  reachable-within gs r =
      record {
        finals = λ i h. subst (λ (m : ℕ). Sub m (isl i)) (sym (r.same.finals i h)) ((inside-run r.circuit start r.good r.coupled inside-start).at i h);
        terms = λ p t. inside-given p (straight r.circuit no_flips) start (straight-good n r.circuit no_flips r.good) (straight-coupled couplers r.circuit no_flips r.coupled) inside-start
            (λ (z : given p (straight r.circuit no_flips) start ≡ 0). t (r.same.sums p ∙ sum-straight p r.circuit ∙ ap (λ (m : ℕ). m % 65536) z));
      }
