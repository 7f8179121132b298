-- Counts over all islands: every term is laid once, and the CNOTs stay within document 01's bound. Assumes nothing.
use mathlib.Core.Path.{◌≡◌, refl, sym, ap, ap₂, ◌∙◌, subst}
use mathlib.Core.Logic.{◌≢◌, ◌⊎◌, inl, inr}
use mathlib.Core.Bool.{Bool, true, false}
use mathlib.Core.List.{List, [], ◌∷◌}
use Prim.Native.Nat.{ℕ, zero, suc, ◌+◌, ◌-◌, ◌*◌, ◌≤◌, ◌<◌}
use native.Mathlib.Nat.{mul-le-mul_left, mul-le-mul_right}
use native.Mathlib.Omega.{arith}
use lib.ListN.{length}
use lib.Count.{ones, ones-le}
use Rattle.sets.specs.Pick.{pick}
use Rattle.sets.specs.Bit.{bit, Sub}
use Rattle.sets.specs.Size.{lowest_of}
use Rattle.sets.proofs.Bits.{bit-cases}
use Rattle.gates.specs.declared.gate.Gate.{Gate}
use Rattle.meaning.specs.Borne.{Among}
use Rattle.tallies.specs.Tally.{tally}
use Rattle.meaning.proofs.Lists.{among_first, among-rest}
use Rattle.tallies.proofs.Tallies.{tally-append, tally-none}
use Rattle.sets.specs.Tables.{sum_to, one}
use Rattle.sets.proofs.Tabling.{sum-ext, sum-none, sum-le, sum_same}
use Rattle.share.specs.Own.{inside_of, own_terms}
use Rattle.laying.specs.Islands.{leads, laid_to}
use Rattle.laying.proofs.Adding.{sum_one, sum-plus, sum-times, sum-swap, ones-bits}
use Rattle.laying.proofs.Parting.{Parts, leader-below, leader-same, leader-leads, on-led, led_on, inside_one, sub-inside, not-inside}
use Rattle.laying.proofs.Owning.{own-none, own-length}

pick-plus : (b : Bool) (x y : ℕ) → pick b (x + y) 0 ≡ pick b x 0 + pick b y 0
pick-plus true x y = refl
pick-plus false x y = refl

module _ (n : ℕ) (isl : ℕ → ℕ) (few : n ≤ 20) (parts : Parts n isl) where
  -- a sum over the islands
  abbrev pub over_islands : (ℕ → ℕ) → ℕ
  over_islands f = sum_to n (λ q. pick (leads isl q) (f q) 0)

  pub over-plus : (f g : ℕ → ℕ) → over_islands (λ q. f q + g q) ≡ over_islands f + over_islands g
  over-plus f g =
      sum-ext n (λ q. pick (leads isl q) (f q + g q) 0) (λ q. pick (leads isl q) (f q) 0 + pick (leads isl q) (g q) 0) (λ q l. pick-plus (leads isl q) (f q) (g q))
      ∙ sum-plus n (λ q. pick (leads isl q) (f q) 0) (λ q. pick (leads isl q) (g q) 0)

  pub over-times : (c : ℕ) (f : ℕ → ℕ) → over_islands (λ q. c * f q) ≡ c * over_islands f
  over-times c f =
      sum-ext n (λ q. pick (leads isl q) (c * f q) 0) (λ q. c * pick (leads isl q) (f q) 0) (λ q l. times (leads isl q) (f q)) ∙ sum-times n c (λ q. pick (leads isl q) (f q) 0)
    where
      times : (b : Bool) (x : ℕ) → pick b (c * x) 0 ≡ c * pick b x 0
      times true x = refl
      times false x = omega arith

  pub over-le : (f g : ℕ → ℕ) → ((q : ℕ) → q < n → leads isl q ≡ true → f q ≤ g q) → over_islands f ≤ over_islands g
  over-le f g h = sum-le n (λ q. pick (leads isl q) (f q) 0) (λ q. pick (leads isl q) (g q) 0) (λ q l. at (leads isl q) q l refl)
    where
      at : (b : Bool) (q : ℕ) → q < n → leads isl q ≡ b → pick b (f q) 0 ≤ pick b (g q) 0
      at true q l e = h q l e
      at false q l e = omega arith

  -- only one island counts
  pub over-one : (f : ℕ → ℕ) (j : ℕ) → j < n → leads isl j ≡ true → ((q : ℕ) → q < n → leads isl q ≡ true → q ≢ j → f q ≡ 0) → over_islands f ≡ f j
  over-one f j l e h =
      sum_one n (λ q. pick (leads isl q) (f q) 0) j l (λ q b ne. at (leads isl q) q b ne refl) ∙ ap (λ (b : Bool). pick b (f j) 0) e
    where
      at : (b : Bool) (q : ℕ) → q < n → q ≢ j → leads isl q ≡ b → pick b (f q) 0 ≡ 0
      at true q l ne d = h q l d ne
      at false q l ne d = refl

  pub over_none : (f : ℕ → ℕ) → ((q : ℕ) → q < n → leads isl q ≡ true → f q ≡ 0) → over_islands f ≡ 0
  over_none f h = sum-none n (λ q. pick (leads isl q) (f q) 0) (λ q l. at (leads isl q) q l refl)
    where
      at : (b : Bool) (q : ℕ) → q < n → leads isl q ≡ b → pick b (f q) 0 ≡ 0
      at true q l d = h q l d
      at false q l d = refl

  -- ---- a count of the gates laid

  pub tally-laid : (f : Gate → ℕ) (on : ℕ → List Gate) (k : ℕ) → tally f (laid_to isl on k) ≡ sum_to k (λ q. pick (leads isl q) (tally f (on q)) 0)
  unfolding laid_to sum_to
  tally-laid f on zero = tally-none f
  tally-laid f on (suc k) =
      tally-append f (laid_to isl on k) (pick (leads isl k) (on k) [])
      ∙ ap₂ (λ (a b : ℕ). a + b) (tally-laid f on k) (at (leads isl k))
    where
      at : (b : Bool) → tally f (pick b (on k) []) ≡ pick b (tally f (on k)) 0
      at true = refl
      at false = tally-none f

  -- ---- terms: each is inside one island

  pub Fits : List ℕ → Type 0
  Fits ps = (p : ℕ) → Among p ps → (p ≢ 0) × ((i : ℕ) × (i < n) × Sub p (isl i))

  pub fits_by : (ps : List ℕ) → ((p : ℕ) → Among p ps → (p ≢ 0) × ((i : ℕ) × (i < n) × Sub p (isl i))) → Fits ps
  unfolding Fits
  fits_by ps h = h

  pub over-ext : (f g : ℕ → ℕ) → ((q : ℕ) → q < n → leads isl q ≡ true → f q ≡ g q) → over_islands f ≡ over_islands g
  over-ext f g h = sum-ext n (λ q. pick (leads isl q) (f q) 0) (λ q. pick (leads isl q) (g q) 0) (λ q l. at (leads isl q) q l refl)
    where
      at : (b : Bool) (q : ℕ) → q < n → leads isl q ≡ b → pick b (f q) 0 ≡ pick b (g q) 0
      at true q l e = h q l e
      at false q l e = refl

  one_inside : (p : ℕ) → p ≢ 0 → (i : ℕ) → i < n → Sub p (isl i) → over_islands (λ q. one (inside_of (isl q) p)) ≡ 1
  one_inside p ne i h s =
      let j : ℕ = lowest_of (isl i) in
      let lj : j < n = leader-below n isl few parts i h in
      let ej : leads isl j ≡ true = leader-leads n isl few parts i h in
      let sj : Sub p (isl j) = subst (Sub p) (sym (leader-same n isl few parts i h)) s in
      over-one (λ q. one (inside_of (isl q) p)) j lj ej
      (λ q l e d. ap one (not-inside (isl q) p (λ t. d (inside_one n isl few parts q j p l lj e ej ne t sj))))
      ∙ ap one (sub-inside (isl j) p sj)

  pub terms-counted : (ps : List ℕ) → Fits ps → over_islands (λ q. length (own_terms (isl q) ps)) ≡ length ps
  unfolding Fits
  terms-counted [] h = over_none (λ q. length (own_terms (isl q) [])) (λ q l e. ap length (own-none (isl q)))
  terms-counted (p ∷ ps) h =
      let w = h p (among_first p p ps refl) in
      sum-ext n (λ q. pick (leads isl q) (length (own_terms (isl q) (p ∷ ps))) 0) (λ q. pick (leads isl q) (one (inside_of (isl q) p) + length (own_terms (isl q) ps)) 0)
      (λ q l. ap (λ (m : ℕ). pick (leads isl q) m 0) (own-length (isl q) p ps))
      ∙ over-plus (λ q. one (inside_of (isl q) p)) (λ q. length (own_terms (isl q) ps))
      ∙ ap₂ (λ (a b : ℕ). a + b) (one_inside p w.0 w.1.0 w.1.1 w.1.2) (terms-counted ps (λ r k. h r (among-rest r p ps k)))
      ∙ omega arith

  -- ---- qubits: each is on one island

  pub qubits-counted : over_islands (λ q. ones (isl q)) ≡ n
  qubits-counted =
      sum-ext n (λ q. pick (leads isl q) (ones (isl q)) 0) (λ q. sum_to n (λ i. pick (leads isl q) (bit (isl q) i) 0)) (λ q l. spread q l (leads isl q))
      ∙ sum-swap n n (λ q i. pick (leads isl q) (bit (isl q) i) 0)
      ∙ sum_same n (λ i. sum_to n (λ q. pick (leads isl q) (bit (isl q) i) 0)) (λ i h. lone i h)
    where
      spread : (q : ℕ) → q < n → (b : Bool) → pick b (ones (isl q)) 0 ≡ sum_to n (λ i. pick b (bit (isl q) i) 0)
      spread q l true = ones-bits n (isl q) (parts.fits q l)
      spread q l false = sym (sum-none n (λ i. 0) (λ i k. refl))

      lone : (i : ℕ) → i < n → over_islands (λ q. bit (isl q) i) ≡ 1
      lone i h =
          over-one (λ q. bit (isl q) i) (lowest_of (isl i)) (leader-below n isl few parts i h) (leader-leads n isl few parts i h)
          (λ q l e d. off q l e d (bit-cases (isl q) i))
          ∙ led_on n isl few parts (lowest_of (isl i)) i h refl
        where
          off : (q : ℕ) → q < n → leads isl q ≡ true → q ≢ lowest_of (isl i) → (bit (isl q) i ≡ 0) ⊎ (bit (isl q) i ≡ 1) → bit (isl q) i ≡ 0
          off q l e d (inl z) = z
          off q l e d (inr m) = absurd (d (sym (on-led n isl few parts q i l e m)))

  -- ---- the bound: "2(n-1)t + 2n(n-1) CNOTs"

  small-island : (q : ℕ) → q < n → ones (isl q) ≤ n
  small-island q l = ones-le n (isl q) (parts.fits q l)

  pub cnots-bounded : (ps : List ℕ) → Fits ps → (c : ℕ → ℕ)
      → ((q : ℕ) → q < n → leads isl q ≡ true → c q ≤ 2 * (ones (isl q) - 1) * length (own_terms (isl q) ps) + 2 * (ones (isl q) * (ones (isl q) - 1)))
      → over_islands c ≤ 2 * (n - 1) * length ps + 2 * n * (n - 1)
  cnots-bounded ps fit c h =
      let a : over_islands c ≤ over_islands (λ q. 2 * (n - 1) * length (own_terms (isl q) ps) + 2 * (n - 1) * ones (isl q)) =
      over-le c (λ q. 2 * (n - 1) * length (own_terms (isl q) ps) + 2 * (n - 1) * ones (isl q)) (λ q l e. each (ones (isl q)) (length (own_terms (isl q) ps)) (c q) (small-island q l) (h q l e)) in
      let b = over-plus (λ q. 2 * (n - 1) * length (own_terms (isl q) ps)) (λ q. 2 * (n - 1) * ones (isl q)) in
      let t = over-times (2 * (n - 1)) (λ q. length (own_terms (isl q) ps)) in
      let u = over-times (2 * (n - 1)) (λ q. ones (isl q)) in
      let tt' = ap (λ (m : ℕ). 2 * (n - 1) * m) (terms-counted ps fit) in
      let uu = ap (λ (m : ℕ). 2 * (n - 1) * m) qubits-counted in
      last (over_islands c) (n - 1) n (2 * (n - 1) * length ps) (omega (arith, a, b, t, u, tt', uu))
    where
      each : (m t x : ℕ) → m ≤ n → x ≤ 2 * (m - 1) * t + 2 * (m * (m - 1)) → x ≤ 2 * (n - 1) * t + 2 * (n - 1) * m
      each m t x l k =
          let d : m - 1 ≤ n - 1 = omega arith in
          omega (arith, mul-le-mul_right t (twice (m - 1) (n - 1) d), mul-le-mul_left m d, comm m (n - 1), k)
        where
          twice : (a b : ℕ) → a ≤ b → 2 * a ≤ 2 * b
          twice a b l = omega arith

          comm : (a b : ℕ) → 2 * (a * b) ≡ 2 * b * a
          comm a b = omega arith

      last : (x a b y : ℕ) → x ≤ y + 2 * a * b → x ≤ y + 2 * b * a
      last x a b y l = omega arith
