-- The mirror of good gates: it is dual to the final parities, determined by them, and inside an island where they are. Assumes nothing.
use mathlib.Core.Path.{◌≡◌, refl, sym, ap, ap₂, ◌∙◌, subst}
use mathlib.Core.Logic.{◌≢◌, ◌⊎◌, inl, inr}
use mathlib.Core.List.{List, [], ◌∷◌}
use Prim.Native.Nat.{ℕ, zero, suc, ◌+◌, ◌*◌, ◌/◌, ◌%◌, ◌^◌, ◌≤◌, ◌<◌}
use native.Mathlib.Omega.{arith}
use native.Mathlib.Decide.{ℕ_discrete, dec_lt}
use lib.Bits.{bit_xor, bit_and, xor_lt, xor_zero_l}
use lib.Count.{ones}
use lib.ListN.{length, get_or, get_or-eq_default}
use lib.Pow.{pow-lt, pow_pos}
use Rattle.sets.specs.Bit.{bit, when, In, Sub}
use Rattle.sets.specs.Columns.{turn, comb, dot, cnot}
use Rattle.sets.proofs.Bits.{bit-pow-same, bit-pow-other, bit-cases, bit-xor, bit-and, bit_high, zero-ext, xor-cancel}
use Rattle.sets.proofs.Comb.{comb-turn, comb-pow}
use Rattle.sets.proofs.Dot.{dot-xor, dot-comm, dot-pow, dot-zero, dot-when}
use Rattle.sets.proofs.Members.{in-lt, in_and, xor-sub}
use Rattle.sets.proofs.Ones.{ones_of_zero}
use Rattle.gates.specs.declared.gate.Gate.{Gate}
use Rattle.gates.specs.declared.gate.Gate.TheVariants.{Cnot, Rotation, X, Bad}
use Rattle.gates.specs.Layout.{Good}
use Rattle.circuit.specs.Circuit.{step, run, start, final_of}
use Rattle.sets.specs.Lists.{All}
use Rattle.sets.proofs.Lists.{all_map}
use Rattle.circuit.proofs.Steps.{cnot-target, cnot-other, step-length}
use Rattle.circuit.proofs.Circuits.{run_length, start-length, final-is, start-at}
use Rattle.gathering.specs.Gather.{turns, exchanged}
use Rattle.ending.specs.Mirror.{mirrors_of, mirror_of, Bordered}
use Rattle.ending.specs.Ends.{Ready}
use Rattle.gathering.proofs.OrderParts.{bits-lt}
use Rattle.circuit.proofs.Wiring.{wires-past, good-up}

-- ---- dual lists

-- row i meets mirror row j in an odd number of qubits exactly where i is j
record Paired (n : ℕ) (W D : List ℕ) : Type 0 where
  one : (i : ℕ) → i < n → dot (get_or W i 0) (get_or D i 0) ≡ 1
  nul : (i j : ℕ) → i < n → j < n → i ≢ j → dot (get_or W i 0) (get_or D j 0) ≡ 0

dot-xor-r : (e a b : ℕ) → dot e (bit_xor a b) ≡ (dot e a + dot e b) % 2
dot-xor-r e a b = dot-comm e (bit_xor a b) ∙ dot-xor e a b ∙ ap₂ (λ (m k : ℕ). (m + k) % 2) (dot-comm a e) (dot-comm b e)

paired-cnot : (n : ℕ) (W D : List ℕ) (c t : ℕ) → c ≢ t → c < n → t < n → t < length W → c < length D → Paired n W D → Paired n (cnot c t W) (cnot t c D)
paired-cnot n W D c t ne hc ht lw ld r =
    record {
      one = λ i h. same i h (ℕ_discrete t i) (ℕ_discrete c i);
      nul = λ i j h k d. apart i j h k d (ℕ_discrete t i) (ℕ_discrete c j);
    }
  where
    -- the old products
    o : ℕ → ℕ → ℕ
    o i j = dot (get_or W i 0) (get_or D j 0)

    Wt : (i : ℕ) → t ≡ i → get_or (cnot c t W) i 0 ≡ bit_xor (get_or W c 0) (get_or W t 0)
    Wt i e = rw (← e) (cnot-target c t W lw)

    Wo : (i : ℕ) → t ≢ i → get_or (cnot c t W) i 0 ≡ get_or W i 0
    Wo i e = cnot-other c t i W (λ d. e (sym d))

    Dc : (i : ℕ) → c ≡ i → get_or (cnot t c D) i 0 ≡ bit_xor (get_or D t 0) (get_or D c 0)
    Dc i e = rw (← e) (cnot-target t c D ld)

    Do : (i : ℕ) → c ≢ i → get_or (cnot t c D) i 0 ≡ get_or D i 0
    Do i e = cnot-other t c i D (λ d. e (sym d))

    both : (a b e : ℕ) → dot (bit_xor a b) e ≡ (dot a e + dot b e) % 2
    both a b e = dot-xor e a b

    same : (i : ℕ) → i < n → Dec (t ≡ i) → Dec (c ≡ i) → dot (get_or (cnot c t W) i 0) (get_or (cnot t c D) i 0) ≡ 1
    same i h (yes e) (yes f) = absurd (ne (f ∙ sym e))
    same i h (yes e) (no g) = ap₂ dot (Wt i e) (Do i g) ∙ both (get_or W c 0) (get_or W t 0) (get_or D i 0)
        ∙ omega (arith, r.nul c i hc h g, ap (λ (m : ℕ). o m i) e, r.one i h)
    same i h (no e) (yes f) = ap₂ dot (Wo i e) (Dc i f) ∙ dot-xor-r (get_or W i 0) (get_or D t 0) (get_or D c 0)
        ∙ omega (arith, r.nul i t h ht (λ z. e (sym z)), ap (λ (m : ℕ). o i m) f, r.one i h)
    same i h (no e) (no g) = ap₂ dot (Wo i e) (Do i g) ∙ r.one i h

    apart : (i j : ℕ) → i < n → j < n → i ≢ j → Dec (t ≡ i) → Dec (c ≡ j) → dot (get_or (cnot c t W) i 0) (get_or (cnot t c D) j 0) ≡ 0
    apart i j h k g (yes e) (yes f) = ap₂ dot (Wt i e) (Dc j f) ∙ both (get_or W c 0) (get_or W t 0) (bit_xor (get_or D t 0) (get_or D c 0))
        ∙ ap₂ (λ (m k : ℕ). (m + k) % 2) (dot-xor-r (get_or W c 0) (get_or D t 0) (get_or D c 0)) (dot-xor-r (get_or W t 0) (get_or D t 0) (get_or D c 0))
        ∙ omega (arith, r.nul c t hc ht ne, r.nul t c ht hc (λ z. ne (sym z)), r.one c hc, r.one t ht)
    apart i j h k g (yes e) (no q) = ap₂ dot (Wt i e) (Do j q) ∙ both (get_or W c 0) (get_or W t 0) (get_or D j 0)
        ∙ omega (arith, r.nul c j hc k q, ap (λ (m : ℕ). o m j) e, r.nul i j h k g)
    apart i j h k g (no e) (yes f) = ap₂ dot (Wo i e) (Dc j f) ∙ dot-xor-r (get_or W i 0) (get_or D t 0) (get_or D c 0)
        ∙ omega (arith, r.nul i t h ht (λ z. e (sym z)), ap (λ (m : ℕ). o i m) f, r.nul i j h k g)
    apart i j h k g (no e) (no q) = ap₂ dot (Wo i e) (Do j q) ∙ r.nul i j h k g

paired-run : (gs : List Gate) (W D : List ℕ) → length W ≡ 20 → length D ≡ 20 → All (Good 20) gs → Paired 20 W D → Paired 20 (run gs W) (run (exchanged gs) D)
unfolding All Good run step
paired-run [] W D lw ld g p = p
paired-run (Cnot c t ∷ gs) W D lw ld g p =
    paired-run gs (cnot c t W) (cnot t c D) (step-length (Cnot c t) W ∙ lw) (step-length (Cnot t c) D ∙ ld) g.1
    (paired-cnot 20 W D c t g.0.2 g.0.0 g.0.1 (omega (arith, lw, g.0.1)) (omega (arith, ld, g.0.0)) p)
paired-run (Rotation q a ∷ gs) W D lw ld g p = paired-run gs W D lw ld g.1 p
paired-run (X q ∷ gs) W D lw ld g p = paired-run gs W D lw ld g.1 p
paired-run (Bad ∷ gs) W D lw ld g p = absurd g.0

paired-start : Paired 20 start start
paired-start =
    record {
      one = λ i h. ap₂ dot (start-at i h) (start-at i h) ∙ dot-pow i (2 ^ i) ∙ bit-pow-same i;
      nul = λ i j h k d. ap₂ dot (start-at i h) (start-at j k) ∙ dot-pow i (2 ^ j) ∙ bit-pow-other j i (λ e. d (sym e));
    }

-- "dot parity_i mirror_j = [i = j]"
module _ (gs : List Gate) (g : All (Good 20) gs) where
  pub mirror-one : (i : ℕ) → i < 20 → dot (final_of gs i) (mirror_of gs i) ≡ 1
  unfolding final_of mirror_of mirrors_of
  mirror-one i h = (paired-run gs start start start-length start-length g paired-start).one i h

  pub mirror-nul : (i j : ℕ) → i < 20 → j < 20 → i ≢ j → dot (final_of gs i) (mirror_of gs j) ≡ 0
  unfolding final_of mirror_of mirrors_of
  mirror-nul i j h k n = (paired-run gs start start start-length start-length g paired-start).nul i j h k n

-- ---- the final parities of good gates span all sets

comb-good : (gs : List Gate) (x : ℕ) (W : List ℕ) → length W ≡ 20 → All (Good 20) gs → comb (turns gs x) (run gs W) ≡ comb x W
unfolding All Good run step
comb-good [] x W l g = refl
comb-good (Cnot c t ∷ gs) x W l g =
    comb-good gs (turn c t x) (cnot c t W) (step-length (Cnot c t) W ∙ l) g.1 ∙ comb-turn W x c t (omega (arith, g.0.0)) g.0.2 (omega (arith, l, g.0.1))
comb-good (Rotation q a ∷ gs) x W l g = comb-good gs x W l g.1
comb-good (X q ∷ gs) x W l g = comb-good gs x W l g.1
comb-good (Bad ∷ gs) x W l g = absurd g.0

dot-comb : (W : List ℕ) (x y : ℕ) → ((i : ℕ) → i < length W → dot (get_or W i 0) y ≡ 0) → dot (comb x W) y ≡ 0
unfolding comb
dot-comb [] x y h = dot-zero y
dot-comb (w ∷ W) x y h =
    dot-xor y (when (x % 2) w) (comb (x / 2) W)
    ∙ ap₂ (λ (m n : ℕ). (m + n) % 2) (dot-when (x % 2) w y ∙ low (x % 2) (h 0 (omega arith))) (dot-comb W (x / 2) y (λ i l. h (suc i) (omega arith)))
  where
    low : (b : ℕ) → dot w y ≡ 0 → when b (dot w y) ≡ 0
    low zero e = refl
    low (suc b) e = e

pub spans : (gs : List Gate) → All (Good 20) gs → (y : ℕ) → y < 2 ^ 20 → ((i : ℕ) → i < 20 → dot (final_of gs i) y ≡ 0) → y ≡ 0
spans gs g y l h = zero-ext y (λ q. at q (dec_lt q 20))
  where
    at : (q : ℕ) → Dec (q < 20) → bit y q ≡ 0
    at q (yes s) =
        let W : List ℕ = run gs start in
        let e : comb (turns gs (2 ^ q)) W ≡ 2 ^ q = comb-good gs (2 ^ q) start start-length g ∙ comb-pow start q ∙ start-at q s in
        sym (dot-pow q y) ∙ ap (λ (m : ℕ). dot m y) (sym e)
        ∙ dot-comb W (turns gs (2 ^ q)) y (λ i k. ap (λ (m : ℕ). dot m y) (sym (final-is gs i)) ∙ h i (omega (arith, k, run_length gs start, start-length)))
    at q (no s) = bit_high 20 y q l (omega arith)

-- ---- the parities stay small

Small : List ℕ → Type 0
Small W = (i : ℕ) → get_or W i 0 < 2 ^ 20

small-run : (gs : List Gate) (W : List ℕ) → Small W → Small (run gs W)
unfolding Small run step
small-run [] W s = s
small-run (Cnot c t ∷ gs) W s = small-run gs (cnot c t W) (λ i. at i (ℕ_discrete i t) (dec_lt t (length W)))
  where
    at : (i : ℕ) → Dec (i ≡ t) → Dec (t < length W) → get_or (cnot c t W) i 0 < 2 ^ 20
    at i (yes e) (yes l) = subst (λ (m : ℕ). m < 2 ^ 20) (sym (ap (λ (m : ℕ). get_or (cnot c t W) m 0) e ∙ cnot-target c t W l)) (xor_lt 20 (get_or W c 0) (get_or W t 0) (s c) (s t))
    at i (yes e) (no l) =
        subst (λ (m : ℕ). m < 2 ^ 20) (sym (get_or-eq_default (cnot c t W) 0 {n = i} (omega (arith, e, step-length (Cnot c t) W)))) (pow_pos 20)
    at i (no n) l = subst (λ (m : ℕ). m < 2 ^ 20) (sym (cnot-other c t i W n)) (s i)
small-run (Rotation q a ∷ gs) W s = small-run gs W s
small-run (X q ∷ gs) W s = small-run gs W s
small-run (Bad ∷ gs) W s = small-run gs W s

small-start : Small start
unfolding Small
small-start i = at (dec_lt i 20)
  where
    at : Dec (i < 20) → get_or start i 0 < 2 ^ 20
    at (yes l) = subst (λ (m : ℕ). m < 2 ^ 20) (sym (start-at i l)) (pow-lt l)
    at (no l) = subst (λ (m : ℕ). m < 2 ^ 20) (sym (get_or-eq_default start 0 {n = i} (omega (arith, start-length)))) (pow_pos 20)

pub mirror-small : (gs : List Gate) (j : ℕ) → mirror_of gs j < 2 ^ 20
unfolding mirror_of mirrors_of Small
mirror-small gs j = small-run (exchanged gs) start small-start j

-- ---- the mirror is determined by the final parities

-- a set that meets nothing of Q, and one inside Q
meets-none : (a b Q : ℕ) → Sub a Q → ((k : ℕ) → In k b → bit Q k ≡ 0) → dot a b ≡ 0
unfolding dot
meets-none a b Q f o = none (bit_and a b) (zero-ext (bit_and a b) (λ i. at i (bit-cases (bit_and a b) i)))
  where
    at : (i : ℕ) → (bit (bit_and a b) i ≡ 0) ⊎ (bit (bit_and a b) i ≡ 1) → bit (bit_and a b) i ≡ 0
    at i (inl z) = z
    at i (inr h) = let k = in_and a b i h in absurd (omega (arith, f i k.0, o i k.1))

    none : (n : ℕ) → n ≡ 0 → ones n % 2 ≡ 0
    none n e = omega (arith, ap ones e, ones_of_zero)

-- two sets that every row meets alike
alike : (e a b : ℕ) → dot e a ≡ dot e b → dot e (bit_xor a b) ≡ 0
alike e a b h = dot-xor-r e a b ∙ omega (arith, h)

xor-none : (a b : ℕ) → bit_xor a b ≡ 0 → a ≡ b
xor-none a b z = sym (xor-cancel a b) ∙ ap (λ (m : ℕ). bit_xor m b) z ∙ xor_zero_l b

-- "the mirror is determined by the final parities"
same-mirror : (g h : List Gate) → All (Good 20) g → All (Good 20) h → ((i : ℕ) → i < 20 → final_of g i ≡ final_of h i) → (j : ℕ) → j < 20 → mirror_of g j ≡ mirror_of h j
same-mirror g h gg gh e j l =
    xor-none (mirror_of g j) (mirror_of h j)
    (spans g gg (bit_xor (mirror_of g j) (mirror_of h j)) (xor_lt 20 (mirror_of g j) (mirror_of h j) (mirror-small g j) (mirror-small h j))
    (λ i k. alike (final_of g i) (mirror_of g j) (mirror_of h j) (at i k (ℕ_discrete i j))))
  where
    at : (i : ℕ) → i < 20 → Dec (i ≡ j) → dot (final_of g i) (mirror_of g j) ≡ dot (final_of g i) (mirror_of h j)
    at i k (yes d) =
        ap (λ (m : ℕ). dot (final_of g i) (mirror_of g m)) (sym d) ∙ mirror-one g gg i k ∙ sym (mirror-one h gh i k)
        ∙ ap₂ dot (sym (e i k)) (ap (mirror_of h) d)
    at i k (no n) = mirror-nul g gg i j k l n ∙ sym (mirror-nul h gh i j k l n) ∙ ap (λ (m : ℕ). dot m (mirror_of h j)) (sym (e i k))

-- two lists of good gates on n qubits with the same final parities below n have the same mirror
pub mirror-same : (n : ℕ) (g h : List Gate) → n ≤ 20 → All (Good n) g → All (Good n) h → ((i : ℕ) → i < n → final_of g i ≡ final_of h i) → (j : ℕ) → j < 20 → mirror_of g j ≡ mirror_of h j
mirror-same n g h l gg gh e = same-mirror g h (all_map (Good n) (Good 20) up g gg) (all_map (Good n) (Good 20) up h gh) (λ i k. at i (dec_lt i n))
  where
    up : (e : Gate) → Good n e → Good 20 e
    up e k = good-up n 20 e l k

    at : (i : ℕ) → Dec (i < n) → final_of g i ≡ final_of h i
    at i (yes k) = e i k
    at i (no k) = final-is g i ∙ wires-past n g start i (omega arith) gg ∙ sym (wires-past n h start i (omega arith) gh) ∙ sym (final-is h i)

-- ---- an island that no final parity leaves

module _ (gs : List Gate) (Q : ℕ) (low : Q < 2 ^ 20) (g : All (Good 20) gs) (b : Bordered gs Q) where
  below : (i : ℕ) → In i Q → i < 20
  below i h = in-lt 20 Q i low h

  -- a set inside Q that meets no final parity of Q's wires is empty
  pub spans-inside : (y : ℕ) → Sub y Q → ((i : ℕ) → In i Q → dot (final_of gs i) y ≡ 0) → y ≡ 0
  spans-inside y f h =
      spans gs g y (bits-lt 20 y (λ i l. high i l (bit-cases y i))) (λ i l. at i l (bit-cases Q i))
    where
      high : (i : ℕ) → 20 ≤ i → (bit y i ≡ 0) ⊎ (bit y i ≡ 1) → bit y i ≡ 0
      high i l (inl z) = z
      high i l (inr k) = absurd (omega (arith, below i (f i k)))

      at : (i : ℕ) → i < 20 → (bit Q i ≡ 0) ⊎ (bit Q i ≡ 1) → dot (final_of gs i) y ≡ 0
      at i l (inl z) = dot-comm (final_of gs i) y ∙ meets-none y (final_of gs i) Q f (b.others i l z)
      at i l (inr k) = h i k

  -- "the mirror rows of an island's qubits are inside the island too"
  pub mirror-inside : (j : ℕ) → In j Q → Sub (mirror_of gs j) Q
  mirror-inside j hj k m = (in_and D Q k (subst (In k) (xor-none D (bit_and D Q) zero-y) m)).1
    where
      D : ℕ
      D = mirror_of gs j

      y : ℕ
      y = bit_xor D (bit_and D Q)

      away : (i : ℕ) → In i y → bit Q i ≡ 0
      away i h = go (bit-cases Q i) (bit-cases D i)
        where
          go : (bit Q i ≡ 0) ⊎ (bit Q i ≡ 1) → (bit D i ≡ 0) ⊎ (bit D i ≡ 1) → bit Q i ≡ 0
          go (inl z) d = z
          go (inr q) (inl z) = absurd (omega (arith, h, bit-xor D (bit_and D Q) i, bit-and D Q i, ap₂ (λ (s t : ℕ). s * t) z q))
          go (inr q) (inr z) = absurd (omega (arith, h, bit-xor D (bit_and D Q) i, bit-and D Q i, ap₂ (λ (s t : ℕ). s * t) z q))

      small-y : y < 2 ^ 20
      small-y = xor_lt 20 D (bit_and D Q) (mirror-small gs j) (bits-lt 20 (bit_and D Q) (λ i l. high i l (bit-cases (bit_and D Q) i)))
        where
          high : (i : ℕ) → 20 ≤ i → (bit (bit_and D Q) i ≡ 0) ⊎ (bit (bit_and D Q) i ≡ 1) → bit (bit_and D Q) i ≡ 0
          high i l (inl z) = z
          high i l (inr k) = absurd (omega (arith, below i (in_and D Q i k).1))

      at : (i : ℕ) → i < 20 → (bit Q i ≡ 0) ⊎ (bit Q i ≡ 1) → dot (final_of gs i) y ≡ 0
      at i l (inl z) =
          dot-xor-r (final_of gs i) D (bit_and D Q)
          ∙ omega (
            arith,
            mirror-nul gs g i j l (below j hj) (λ (e : i ≡ j). omega (arith, z, hj, ap (bit Q) e)),
            dot-comm (final_of gs i) (bit_and D Q),
            meets-none (bit_and D Q) (final_of gs i) Q (λ k h. (in_and D Q k h).1) (b.others i l z),
          )
      at i l (inr q) = meets-none (final_of gs i) y Q (b.own i q) away

      zero-y : y ≡ 0
      zero-y = spans gs g y small-y (λ i l. at i l (bit-cases Q i))

  -- so final parities and mirror rows of the island are ready for its ending
  pub bordered-ready : (N C : List ℕ) → ((i : ℕ) → In i Q → get_or N i 0 ≡ final_of gs i) → ((i : ℕ) → In i Q → get_or C i 0 ≡ mirror_of gs i) → Ready Q N C
  bordered-ready N C en ec =
      record {
        rows = λ i h. subst (λ (m : ℕ). Sub m Q) (sym (en i h)) (b.own i h);
        mirror = λ i h. subst (λ (m : ℕ). Sub m Q) (sym (ec i h)) (mirror-inside i h);
        one = λ i h. ap₂ dot (en i h) (ec i h) ∙ mirror-one gs g i (below i h);
        nul = λ i j h k n. ap₂ dot (en i h) (ec j k) ∙ mirror-nul gs g i j (below i h) (below j k) n;
      }

-- the mirror rows of an island are determined by its own final parities, whatever the rest of the two jobs
pub mirror-same-inside : (g h : List Gate) (Q : ℕ) → Q < 2 ^ 20 → All (Good 20) g → All (Good 20) h → Bordered g Q → Bordered h Q
    → ((i : ℕ) → In i Q → final_of g i ≡ final_of h i) → (j : ℕ) → In j Q → mirror_of g j ≡ mirror_of h j
mirror-same-inside g h Q low gg gh bg bh e j hj =
    xor-none (mirror_of g j) (mirror_of h j)
    (spans-inside g Q low gg bg (bit_xor (mirror_of g j) (mirror_of h j))
    (xor-sub (mirror_of g j) (mirror_of h j) Q (mirror-inside g Q low gg bg j hj) (mirror-inside h Q low gh bh j hj))
    (λ i k. alike (final_of g i) (mirror_of g j) (mirror_of h j) (at i k (ℕ_discrete i j))))
  where
    lt : (i : ℕ) → In i Q → i < 20
    lt i k = in-lt 20 Q i low k

    at : (i : ℕ) → In i Q → Dec (i ≡ j) → dot (final_of g i) (mirror_of g j) ≡ dot (final_of g i) (mirror_of h j)
    at i k (yes d) =
        ap (λ (m : ℕ). dot (final_of g i) (mirror_of g m)) (sym d) ∙ mirror-one g gg i (lt i k) ∙ sym (mirror-one h gh i (lt i k))
        ∙ ap₂ dot (sym (e i k)) (ap (mirror_of h) d)
    at i k (no n) =
        mirror-nul g gg i j (lt i k) (lt j hj) n ∙ sym (mirror-nul h gh i j (lt i k) (lt j hj) n) ∙ ap (λ (m : ℕ). dot m (mirror_of h j)) (sym (e i k))
