-- As many rotations as terms, and none of them missing: each term has one, no other parity has any. Assumes nothing.
use mathlib.Core.Path.{◌≡◌, refl, sym, ap, ◌∙◌, subst}
use mathlib.Core.Logic.{◌⊎◌, inl, inr}
use mathlib.Core.Bool.{Bool, true, false}
use mathlib.Core.List.{List, [], ◌∷◌}
use Prim.Native.Nat.{ℕ, suc, ◌+◌, ◌%◌, ◌≤◌}
use native.Mathlib.Omega.{arith}
use native.Mathlib.Decide.{ℕ_discrete}
use lib.Dec.{eqb}
use lib.ListN.{length, get_or}
use borrow.Author.Tests.{eqb-true}
use Rattle.sets.specs.Pick.{pick}
use Rattle.gates.specs.declared.gate.Gate.{Gate}
use Rattle.gates.specs.declared.gate.Gate.TheVariants.{Cnot, Rotation, X, Bad}
use Rattle.circuit.specs.Circuit.{step, start, gives, given, Term}
use Rattle.circuit.specs.Flips.{no_flips}
use Rattle.meaning.specs.Borne.{Among, terms}
use Rattle.meaning.specs.Same.{Alike}
use Rattle.tallies.specs.Tally.{tally, rotations_of, one_rotation}
use Rattle.circuit.proofs.Circuits.{given-none, given-cons}
use Rattle.circuit.proofs.Quiet.{Quiet, sum_is}
use Rattle.meaning.proofs.Bearing.{terms-up, term-among, among-term}
use Rattle.meaning.proofs.Lists.{Up, up-tail, up-among, among_none, among_first, among-rest, among_cases}
use Rattle.laying.specs.Demands.{one_on, rotations_on}

-- ---- sums over a list in which each number is once

add_up : (ℕ → ℕ) → List ℕ → ℕ
add_up f [] = 0
add_up f (p ∷ ps) = f p + add_up f ps

Once : List ℕ → Type 0
Once [] = Unit {0}
Once (p ∷ ps) = (Among p ps → ⊥) × Once ps

up-each-once : (m : ℕ) (ps : List ℕ) → Up m ps → Once ps
unfolding Once
up-each-once m [] u = tt
up-each-once m (p ∷ ps) u = ((λ k. let l : suc p ≤ p = up-among (suc p) p ps (up-tail m p ps u) k in omega arith), up-each-once (suc p) ps (up-tail m p ps u))

add-plus : (f g : ℕ → ℕ) (ps : List ℕ) → add_up (λ p. f p + g p) ps ≡ add_up f ps + add_up g ps
unfolding add_up
add-plus f g [] = omega arith
add-plus f g (p ∷ ps) = omega (arith, add-plus f g ps)

add_none : (ps : List ℕ) → add_up (λ p. 0) ps ≡ 0
unfolding add_up
add_none [] = refl
add_none (p ∷ ps) = omega (arith, add_none ps)

-- a number is hit once at most
module _ (w : ℕ) where
  abbrev hit : ℕ → ℕ
  hit p = pick (eqb w p) 1 0

  hit-none : (ps : List ℕ) → (Among w ps → ⊥) → add_up hit ps ≡ 0
  unfolding add_up
  hit-none [] h = refl
  hit-none (p ∷ ps) h = go (eqb w p) refl (hit-none ps (λ k. h (among-rest w p ps k)))
    where
      go : (b : Bool) → eqb w p ≡ b → add_up hit ps ≡ 0 → pick b 1 0 + add_up hit ps ≡ 0
      go true e z = absurd (h (among_first w p ps (sym (eqb-true w p e))))
      go false e z = omega arith

  hit-one : (ps : List ℕ) → Once ps → add_up hit ps ≤ 1
  unfolding add_up Once
  hit-one [] o = omega arith
  hit-one (p ∷ ps) o = go (eqb w p) refl (hit-one ps o.1)
    where
      go : (b : Bool) → eqb w p ≡ b → add_up hit ps ≤ 1 → pick b 1 0 + add_up hit ps ≤ 1
      go true e l = let z : add_up hit ps ≡ 0 = hit-none ps (λ k. o.0 (subst (λ (x : ℕ). Among x ps) (eqb-true w p e) k)) in omega arith
      go false e l = omega arith

-- ---- rotations on all parities of the list are not more than there are

one-gate : (ps : List ℕ) → Once ps → (g : Gate) (W : List ℕ) → add_up (λ p. one_on p g W) ps ≤ one_rotation g
unfolding one_on
one-gate ps o (Cnot c t) W = omega (arith, add_none ps)
one-gate ps o (Rotation q a) W = hit-one (get_or W q 0) ps o
one-gate ps o (X q) W = omega (arith, add_none ps)
one-gate ps o Bad W = omega (arith, add_none ps)

not_more : (ps : List ℕ) → Once ps → (gs : List Gate) (W : List ℕ) → add_up (λ p. rotations_on p gs W) ps ≤ tally one_rotation gs
unfolding rotations_on tally
not_more ps o [] W = omega (arith, add_none ps)
not_more ps o (g ∷ gs) W =
    omega (arith, add-plus (λ p. one_on p g W) (λ p. rotations_on p gs (step g W)) ps, one-gate ps o g W, not_more ps o gs (step g W))

-- a parity without a rotation gets nothing
nothing-given : (p : ℕ) (gs : List Gate) (W : List ℕ) → rotations_on p gs W ≡ 0 → given p gs W ≡ 0
unfolding rotations_on
nothing-given p [] W z = given-none p W
nothing-given p (g ∷ gs) W z = given-cons p g gs W ∙ omega (arith, at g (omega arith), nothing-given p gs (step g W) (omega arith))
  where
    at : (h : Gate) → one_on p h W ≡ 0 → gives p h W ≡ 0
    at (Cnot c t) e = unfold gives in refl
    at (Rotation q a) e = unfold gives one_on in turn (eqb (get_or W q 0) p) e
      where
        turn : (b : Bool) → ◌≡◌ {A = ℕ} (pick b 1 0) 0 → ◌≡◌ {A = ℕ} (pick b a 0) 0
        turn true e = absurd (omega arith)
        turn false e = refl
    at (X q) e = unfold gives in refl
    at Bad e = unfold gives in refl

-- ---- each at least once, not more in all: each exactly once

module _ (f : ℕ → ℕ) where
  at_least : (ps : List ℕ) → ((p : ℕ) → Among p ps → 1 ≤ f p) → length ps ≤ add_up f ps
  unfolding add_up
  at_least [] h = omega arith
  at_least (p ∷ ps) h = omega (arith, h p (among_first p p ps refl), at_least ps (λ r k. h r (among-rest r p ps k)))

  exactly : (ps : List ℕ) → ((p : ℕ) → Among p ps → 1 ≤ f p) → add_up f ps ≤ length ps → (p : ℕ) → Among p ps → f p ≡ 1
  unfolding add_up
  exactly [] h l p k = absurd (among_none p k)
  exactly (x ∷ ps) h l p k = go (among_cases p x ps k) (exactly ps (λ r j. h r (among-rest r x ps j)))
    where
      hx : 1 ≤ f x
      hx = h x (among_first x x ps refl)

      rest : (r : ℕ) → Among r ps → 1 ≤ f r
      rest r j = h r (among-rest r x ps j)

      go : (x ≡ p) ⊎ Among p ps → (add_up f ps ≤ length ps → (r : ℕ) → Among r ps → f r ≡ 1) → f p ≡ 1
      go (inl e) on = sym (ap f e) ∙ omega (arith, hx, at_least ps rest)
      go (inr j) on = on (omega (arith, hx)) p j

-- ---- a circuit with the job's meaning and t rotations

module _ (n : ℕ) (drawn laid : List Gate) (same : Alike n drawn laid) (quiet : Quiet laid no_flips) (count : rotations_of laid ≡ length (terms drawn)) where
  abbrev on : ℕ → ℕ
  on p = rotations_on p laid start

  has_one : (p : ℕ) → Among p (terms drawn) → 1 ≤ on p
  unfolding Term
  has_one p k = go (ℕ_discrete (on p) 0)
    where
      go : Dec (on p ≡ 0) → 1 ≤ on p
      go (no ne) = omega arith
      go (yes z) =
          absurd (among-term p drawn k (same.sums p ∙ sum_is p laid quiet ∙ ap (λ (x : ℕ). x % 65536) (nothing-given p laid start z)))

  within : (ps : List ℕ) → Once ps → add_up on ps ≤ length (terms drawn)
  unfolding rotations_of
  within ps o = omega (arith, not_more ps o laid start, count)

  once : Once (terms drawn)
  once = up-each-once 0 (terms drawn) (terms-up drawn)

  pub each-term-once : (p : ℕ) → Term drawn p → on p ≡ 1
  each-term-once p t = exactly on (terms drawn) has_one (within (terms drawn) once) p (term-among p drawn t)

  pub no_other : (p : ℕ) → (Term drawn p → ⊥) → on p ≡ 0
  unfolding add_up Once
  no_other p no-term =
      omega (arith, within (p ∷ terms drawn) ((λ k. no-term (among-term p drawn k)), once), at_least on (terms drawn) has_one)
