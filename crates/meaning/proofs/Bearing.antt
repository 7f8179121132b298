-- The parities that bear a rotation: how they grow with the gates, and that no other has an angle. Assumes nothing.
use mathlib.Core.Path.{◌≡◌, refl, sym, ap, ap₂, ◌∙◌, subst}
use mathlib.Core.Logic.{◌≢◌, ◌⊎◌, inl, inr, ⊎_elim}
use mathlib.Core.Bool.{Bool, true, false, not}
use mathlib.Core.List.{List, [], ◌∷◌, ◌++◌}
use Prim.Native.Nat.{ℕ, ◌^◌, ◌%◌, ◌≤◌, ◌<◌, zero-le}
use native.Mathlib.Omega.{arith}
use native.Mathlib.Decide.{ℕ_discrete}
use lib.Dec.{eqb, ltb}
use lib.ListN.{length, get_or, take, drop, take-append-drop}
use borrow.Author.Tests.{eq-eqb, ne_eqb}
use Rattle.sets.specs.Pick.{pick}
use Rattle.gates.specs.declared.gate.Gate.{Gate}
use Rattle.gates.specs.declared.gate.Gate.TheVariants.{Cnot, Rotation, X, Bad}
use Rattle.circuit.specs.Circuit.{step, run, start, gives, given, sum_of, Term}
use Rattle.circuit.specs.Flips.{flip_step, no_flips}
use Rattle.meaning.specs.Borne.{insert, bears, borne_from, borne, Meets, is_term, terms, Ascending, Among}
use Rattle.gates.specs.Layout.{Good}
use Rattle.sets.specs.Lists.{All}
use Rattle.circuit.proofs.Steps.{gives-cnot, gives-x, gives-bad, gives_other, step-length}
use Rattle.circuit.proofs.Circuits.{start-length}
use Rattle.circuit.proofs.Straight.{straightened, straight, step-straight, sum-straight}
use Rattle.circuit.proofs.Wiring.{ParitiesBelow, below_step, below-start, Apart, apart-step, apart-start, apart-not-empty}
use Rattle.meaning.proofs.Lists.{Up, up_none, up-ascending, up-insert, up-those, insert-has, insert-keeps, insert-back, those-has, those-back, among_none}
use Rattle.sets.proofs.Lists.{those-few}
use Rattle.sets.proofs.Deciding.{never}

-- ---- one gate more

pub bears-rotation : (q a : ℕ) (W ps : List ℕ) → bears (Rotation q a) W ps ≡ insert (get_or W q 0) ps
unfolding bears
bears-rotation q a W ps = refl

borne-from-append : (g h : List Gate) (W ps : List ℕ) → borne_from (g ++ h) W ps ≡ borne_from h (run g W) (borne_from g W ps)
unfolding borne_from run
borne-from-append [] h W ps = refl
borne-from-append (x ∷ g) h W ps = borne-from-append g h (step x W) (bears x W ps)

pub borne-snoc : (gs : List Gate) (g : Gate) → borne (gs ++ g ∷ []) ≡ bears g (run gs start) (borne gs)
unfolding borne borne_from
borne-snoc gs g = borne-from-append gs (g ∷ []) start []

pub borne-cnot : (gs : List Gate) (c t : ℕ) → borne (gs ++ Cnot c t ∷ []) ≡ borne gs
unfolding bears
borne-cnot gs c t = borne-snoc gs (Cnot c t)

pub borne-x : (gs : List Gate) (q : ℕ) → borne (gs ++ X q ∷ []) ≡ borne gs
unfolding bears
borne-x gs q = borne-snoc gs (X q)

pub borne-bad : (gs : List Gate) → borne (gs ++ Bad ∷ []) ≡ borne gs
unfolding bears
borne-bad gs = borne-snoc gs Bad

-- ---- the order

bears-up : (g : Gate) (W ps : List ℕ) → Up 0 ps → Up 0 (bears g W ps)
unfolding bears
bears-up (Cnot c t) W ps u = u
bears-up (Rotation q a) W ps u = up-insert 0 (get_or W q 0) ps u zero-le
bears-up (X q) W ps u = u
bears-up Bad W ps u = u

borne-from-up : (gs : List Gate) (W ps : List ℕ) → Up 0 ps → Up 0 (borne_from gs W ps)
unfolding borne_from
borne-from-up [] W ps u = u
borne-from-up (g ∷ gs) W ps u = borne-from-up gs (step g W) (bears g W ps) (bears-up g W ps u)

pub borne-up : (gs : List Gate) → Up 0 (borne gs)
unfolding borne
borne-up gs = borne-from-up gs start [] (up_none 0)

pub borne-ascending : (gs : List Gate) → Ascending (borne gs)
borne-ascending gs = up-ascending 0 (borne gs) (borne-up gs)

-- ---- who is among them

bears-keeps : (g : Gate) (W ps : List ℕ) (p : ℕ) → Among p ps → Among p (bears g W ps)
unfolding bears
bears-keeps (Cnot c t) W ps p h = h
bears-keeps (Rotation q a) W ps p h = insert-keeps (get_or W q 0) p ps h
bears-keeps (X q) W ps p h = h
bears-keeps Bad W ps p h = h

borne-from-keeps : (gs : List Gate) (W ps : List ℕ) (p : ℕ) → Among p ps → Among p (borne_from gs W ps)
unfolding borne_from
borne-from-keeps [] W ps p h = h
borne-from-keeps (g ∷ gs) W ps p h = borne-from-keeps gs (step g W) (bears g W ps) p (bears-keeps g W ps p h)

-- a parity is among them exactly when some rotation meets it

pub meets-borne : (p : ℕ) (gs : List Gate) → Meets p gs start → Among p (borne gs)
unfolding borne
meets-borne p gs m = rw (m.stands, borne-from-append m.before (Rotation m.qubit m.angle ∷ m.behind) start []) there
  where
    W : List ℕ
    W = run m.before start

    there : Among p (borne_from (Rotation m.qubit m.angle ∷ m.behind) W (borne_from m.before start []))
    there =
        unfold borne_from bears in
        borne-from-keeps m.behind (step (Rotation m.qubit m.angle) W) (insert (get_or W m.qubit 0) (borne_from m.before start [])) p
        (subst (λ (r : ℕ). Among r (insert (get_or W m.qubit 0) (borne_from m.before start []))) m.bearing (insert-has (get_or W m.qubit 0) (borne_from m.before start [])))

meets-later : (p : ℕ) (g : Gate) (gs : List Gate) (W : List ℕ) → Meets p gs (step g W) → Meets p (g ∷ gs) W
unfolding run
meets-later p g gs W m = record {
  before = g ∷ m.before;
  qubit = m.qubit;
  angle = m.angle;
  behind = m.behind;
  stands = ap (λ (l : List Gate). g ∷ l) m.stands;
  bearing = m.bearing;
}

bears-meets : (p : ℕ) (g : Gate) (gs : List Gate) (W ps : List ℕ) → Among p (bears g W ps) → Among p ps ⊎ Meets p (g ∷ gs) W
unfolding bears run
bears-meets p (Cnot c t) gs W ps h = inl h
bears-meets p (Rotation q a) gs W ps h =
    ⊎_elim (λ e. inr (record { before = []; qubit = q; angle = a; behind = gs; stands = refl; bearing = e })) (λ k. inl k) (insert-back (get_or W q 0) p ps h)
bears-meets p (X q) gs W ps h = inl h
bears-meets p Bad gs W ps h = inl h

borne-from-meets : (p : ℕ) (gs : List Gate) (W ps : List ℕ) → Among p (borne_from gs W ps) → Among p ps ⊎ Meets p gs W
unfolding borne_from
borne-from-meets p [] W ps h = inl h
borne-from-meets p (g ∷ gs) W ps h = ⊎_elim (λ k. bears-meets p g gs W ps k) (λ m. inr (meets-later p g gs W m)) (borne-from-meets p gs (step g W) (bears g W ps) h)

pub borne-meets : (p : ℕ) (gs : List Gate) → Among p (borne gs) → Meets p gs start
unfolding borne
borne-meets p gs h = ⊎_elim (λ k. absurd (among_none p k)) (λ m. m) (borne-from-meets p gs start [] h)

bears-given : (g : Gate) (W ps : List ℕ) (p : ℕ) → gives p g W ≢ 0 → Among p (bears g W ps)
unfolding bears
bears-given (Cnot c t) W ps p n = absurd (n (gives-cnot p c t W))
bears-given (Rotation q a) W ps p n = go (ℕ_discrete (get_or W q 0) p)
  where
    go : Dec (get_or W q 0 ≡ p) → Among p (insert (get_or W q 0) ps)
    go (yes e) = subst (λ (r : ℕ). Among r (insert (get_or W q 0) ps)) e (insert-has (get_or W q 0) ps)
    go (no ne) = absurd (n (gives_other p q a W ne))
bears-given (X q) W ps p n = absurd (n (gives-x p q W))
bears-given Bad W ps p n = absurd (n (gives-bad p W))

borne-from-given : (gs : List Gate) (W ps : List ℕ) (p : ℕ) → given p gs W ≢ 0 → Among p (borne_from gs W ps)
unfolding borne_from given
borne-from-given [] W ps p n = absurd (n refl)
borne-from-given (g ∷ gs) W ps p n = go (ℕ_discrete (gives p g W) 0) (borne-from-given gs (step g W) (bears g W ps) p)
  where
    go : Dec (gives p g W ≡ 0) → (given p gs (step g W) ≢ 0 → Among p (borne_from gs (step g W) (bears g W ps))) → Among p (borne_from gs (step g W) (bears g W ps))
    go (yes z) ih = ih (λ (e : given p gs (step g W) ≡ 0). n (omega arith))
    go (no ne) ih = borne-from-keeps gs (step g W) (bears g W ps) p (bears-given g W ps p ne)

given-borne : (p : ℕ) (gs : List Gate) → given p gs start ≢ 0 → Among p (borne gs)
unfolding borne
given-borne p gs n = borne-from-given gs start [] p n

-- flips change angles, and no parity that bears one
bears-straight : (g : Gate) (F W ps : List ℕ) → bears (straightened g F) W ps ≡ bears g W ps
unfolding bears straightened
bears-straight (Cnot c t) F W ps = refl
bears-straight (Rotation q a) F W ps = refl
bears-straight (X q) F W ps = refl
bears-straight Bad F W ps = refl

borne-from-straight : (gs : List Gate) (F W ps : List ℕ) → borne_from (straight gs F) W ps ≡ borne_from gs W ps
unfolding borne_from straight
borne-from-straight [] F W ps = refl
borne-from-straight (g ∷ gs) F W ps =
    ap₂ (borne_from (straight gs (flip_step g F))) (step-straight g F W) (bears-straight g F W ps) ∙ borne-from-straight gs (flip_step g F) (step g W) (bears g W ps)

borne-straight : (gs : List Gate) → borne (straight gs no_flips) ≡ borne gs
unfolding borne
borne-straight gs = borne-from-straight gs no_flips start []

-- "sums only of parities that were borne"
pub sum-borne : (p : ℕ) (gs : List Gate) → sum_of p gs ≢ 0 → Among p (borne gs)
sum-borne p gs n =
    subst (Among p) (borne-straight gs)
    (given-borne p (straight gs no_flips) (λ (e : given p (straight gs no_flips) start ≡ 0). n (sum-straight p gs ∙ ap (λ (k : ℕ). k % 65536) e)))

pub not-borne : (p : ℕ) (gs : List Gate) → (Among p (borne gs) → ⊥) → sum_of p gs ≡ 0
not-borne p gs n = go (ℕ_discrete (sum_of p gs) 0)
  where
    go : Dec (sum_of p gs ≡ 0) → sum_of p gs ≡ 0
    go (yes e) = e
    go (no ne) = absurd (n (sum-borne p gs ne))

-- ---- more gates, no fewer parities

insert-grows : (p : ℕ) (xs : List ℕ) → length xs ≤ length (insert p xs)
unfolding insert
insert-grows p [] = omega arith
insert-grows p (x ∷ xs) = go (ltb x p) (eqb x p) (insert-grows p xs)
  where
    go : (a b : Bool) → length xs ≤ length (insert p xs) → length (x ∷ xs) ≤ length (pick a (x ∷ insert p xs) (pick b (x ∷ xs) (p ∷ x ∷ xs)))
    go true b h = omega arith
    go false true h = omega arith
    go false false h = omega arith

bears-grows : (g : Gate) (W ps : List ℕ) → length ps ≤ length (bears g W ps)
unfolding bears
bears-grows (Cnot c t) W ps = omega arith
bears-grows (Rotation q a) W ps = insert-grows (get_or W q 0) ps
bears-grows (X q) W ps = omega arith
bears-grows Bad W ps = omega arith

borne-from-grows : (gs : List Gate) (W ps : List ℕ) → length ps ≤ length (borne_from gs W ps)
unfolding borne_from
borne-from-grows [] W ps = omega arith
borne-from-grows (g ∷ gs) W ps = omega (arith, bears-grows g W ps, borne-from-grows gs (step g W) (bears g W ps))

pub borne-grows : (k : ℕ) (gs : List Gate) → length (borne (take k gs)) ≤ length (borne gs)
unfolding borne
borne-grows k gs =
    omega (
      arith,
      borne-from-grows (drop k gs) (run (take k gs) start) (borne_from (take k gs) start []),
      ap length (sym (borne-from-append (take k gs) (drop k gs) start []) ∙ ap (λ (l : List Gate). borne_from l start []) (take-append-drop k gs)),
    )

-- ---- the terms: exactly the parities whose sum is not 0, ascending, each once

-- the test is the word "term"
pub term-test : (p : ℕ) (gs : List Gate) → Term gs p → is_term gs p ≡ true
unfolding is_term Term
term-test p gs t = ap not (ne_eqb (sum_of p gs) 0 t)

pub test-term : (p : ℕ) (gs : List Gate) → is_term gs p ≡ true → Term gs p
unfolding is_term Term
test-term p gs e z = never e (ap not (eq-eqb (sum_of p gs) 0 z))

pub terms-up : (gs : List Gate) → Up 0 (terms gs)
unfolding terms
terms-up gs = up-those (is_term gs) 0 (borne gs) (borne-up gs)

pub terms-ascending : (gs : List Gate) → Ascending (terms gs)
terms-ascending gs = up-ascending 0 (terms gs) (terms-up gs)

pub term-among : (p : ℕ) (gs : List Gate) → Term gs p → Among p (terms gs)
unfolding terms
term-among p gs t = those-has (is_term gs) p (borne gs) (sum-borne p gs (unfold Term in t)) (term-test p gs t)

pub among-term : (p : ℕ) (gs : List Gate) → Among p (terms gs) → Term gs p
unfolding terms
among-term p gs h = test-term p gs (those-back (is_term gs) p (borne gs) h).1

pub terms-borne : (p : ℕ) (gs : List Gate) → Among p (terms gs) → Among p (borne gs)
unfolding terms
terms-borne p gs h = (those-back (is_term gs) p (borne gs) h).0

-- ---- no more terms than parities that bear a rotation

pub terms-few : (gs : List Gate) → length (terms gs) ≤ length (borne gs)
unfolding terms
terms-few gs = those-few (is_term gs) (borne gs)

-- ---- the parities that bear a rotation are parities of wires

module _ (n : ℕ) (few : n ≤ 20) (P : ℕ → Type 0) (parity : (W : List ℕ) → Apart W → ParitiesBelow n W → (q : ℕ) → q < n → P (get_or W q 0)) where
  bears-only : (g : Gate) (W ps : List ℕ) → Good n g → Apart W → ParitiesBelow n W → ((p : ℕ) → Among p ps → P p) → (p : ℕ) → Among p (bears g W ps) → P p
  unfolding bears Good
  bears-only (Cnot c t) W ps g a b h p k = h p k
  bears-only (Rotation q x) W ps g a b h p k = ⊎_elim (λ e. subst P e (parity W a b q g.0)) (λ j. h p j) (insert-back (get_or W q 0) p ps k)
  bears-only (X q) W ps g a b h p k = h p k
  bears-only Bad W ps g a b h p k = absurd g

  borne-only-from : (gs : List Gate) (W ps : List ℕ) → length W ≡ 20 → All (Good n) gs → Apart W → ParitiesBelow n W → ((p : ℕ) → Among p ps → P p)
      → (p : ℕ) → Among p (borne_from gs W ps) → P p
  unfolding borne_from All
  borne-only-from [] W ps l g a b h = h
  borne-only-from (x ∷ gs) W ps l g a b h =
      borne-only-from gs (step x W) (bears x W ps) (step-length x W ∙ l) g.1 (apart-step n x W few l g.0 a) (below_step n x W (omega arith) g.0 b)
      (bears-only x W ps g.0 a b h)

  pub borne-only : (gs : List Gate) → All (Good n) gs → (p : ℕ) → Among p (borne gs) → P p
  unfolding borne
  borne-only gs g = borne-only-from gs start [] start-length g apart-start (below-start n few) (λ p h. absurd (among_none p h))

-- "non-empty", and below 2^n
pub borne-not-empty : (n : ℕ) (gs : List Gate) → n ≤ 20 → All (Good n) gs → (p : ℕ) → Among p (borne gs) → p ≢ 0
borne-not-empty n gs few g = borne-only n few (λ p. p ≢ 0) (λ W a b q (h : q < n). apart-not-empty W a q (omega arith)) gs g

pub borne-below : (n : ℕ) (gs : List Gate) → n ≤ 20 → All (Good n) gs → (p : ℕ) → Among p (borne gs) → p < 2 ^ n
borne-below n gs few g = borne-only n few (λ p. p < 2 ^ n) (λ W a b q h. b.small q h) gs g
