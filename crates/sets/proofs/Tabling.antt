-- Tables, as a loop fills them, and sums over places. Assumes nothing.
use mathlib.Core.Path.{◌≡◌, refl, sym, ap, ap₂, ◌∙◌, subst}
use mathlib.Core.Logic.{◌≢◌}
use mathlib.Core.Bool.{Bool, true, false}
use mathlib.Core.List.{List, ◌∷◌}
use Prim.Native.Nat.{ℕ, zero, suc, ◌+◌, ◌≤◌, ◌<◌}
use native.Mathlib.Nat.{le_of_suc-le-suc, not-suc-le-zero}
use native.Mathlib.Omega.{arith}
use native.Mathlib.Numerals.{add-one}
use native.Mathlib.Decide.{ℕ_discrete, dec_lt}
use lib.ListN.{length, get_or, set, replicate, length-replicate, get_or-replicate, get_or-eq_default}
use lib.Seq.{ext_get_or, get_or-set_same, get_or-set_other}
use Rattle.sets.specs.Tables.{tab, sum_to, one}

pub tab-length : {A : Type 0} (n : ℕ) (f : ℕ → A) → length (tab n f) ≡ n
unfolding tab
tab-length zero f = refl
tab-length (suc n) f = ap suc (tab-length n (λ k. f (suc k)))

pub tab-at : {A : Type 0} (n : ℕ) (f : ℕ → A) (k : ℕ) (d : A) → k < n → get_or (tab n f) k d ≡ f k
unfolding tab
tab-at zero f k d h = absurd (not-suc-le-zero h)
tab-at (suc n) f zero d h = refl
tab-at (suc n) f (suc k) d h = tab-at n (λ j. f (suc j)) k d (le_of_suc-le-suc h)

-- the first i places of z are those of f's table
abbrev pub Filled : {A : Type 0} → A → (ℕ → A) → ℕ → List A → Type 0
Filled d f i z = (k : ℕ) → k < i → get_or z k d ≡ f k

pub filled_next : {A : Type 0} (d : A) (f : ℕ → A) (i : ℕ) (z : List A) (v : A) → i < length z → v ≡ f i → Filled d f i z → Filled d f (i + 1) (set z i v)
filled_next d f i z v h e g k l = at (ℕ_discrete i k)
  where
    at : Dec (i ≡ k) → get_or (set z i v) k d ≡ f k
    at (yes q) = subst (λ (j : ℕ). get_or (set z i v) j d ≡ f j) q (get_or-set_same z i v d h ∙ e)
    at (no ne) = get_or-set_other z i k v d (λ q. ne (sym q)) ∙ g k (omega arith)

pub filled-all : {A : Type 0} (d : A) (f : ℕ → A) (n i : ℕ) (z : List A) → length z ≡ n → n ≤ i → Filled d f i z → z ≡ tab n f
filled-all d f n i z e h g =
    ext_get_or d z (tab n f) (e ∙ sym (tab-length n f)) (λ k (l : k < length z). g k (omega arith) ∙ sym (tab-at n f k d (omega arith)))

-- z marks those of the first i places where f holds, and no other
pub record Marked (f : ℕ → Bool) (i : ℕ) (z : List Bool) : Type 0 where
  pub here : Filled false f i z
  pub behind : (k : ℕ) → i ≤ k → get_or z k false ≡ false

pub marked-none : (f : ℕ → Bool) (n : ℕ) → Marked f 0 (replicate n false)
marked-none f n = record { here = λ k (l : k < 0). absurd (omega arith); behind = λ k h. none (dec_lt k n) }
  where
    none : {k : ℕ} → Dec (k < n) → get_or (replicate n false) k false ≡ false
    none {k} (yes l) = get_or-replicate n k false false l
    none {k} (no l) = get_or-eq_default (replicate n false) false {n = k} (omega (arith, length-replicate {A = Bool} n false))

pub marked_next : (f : ℕ → Bool) (i : ℕ) (z : List Bool) (v : Bool) → i < length z → v ≡ f i → Marked f i z → Marked f (i + 1) (set z i v)
marked_next f i z v h e m = record {
  here = filled_next false f i z v h e m.here;
  behind = λ k (l : i + 1 ≤ k). get_or-set_other z i k v false (λ (q : k ≡ i). omega arith) ∙ m.behind k (omega arith);
}

pub marked_all : (f : ℕ → Bool) (n i : ℕ) (z : List Bool) → length z ≡ n → Marked f i z → ((k : ℕ) → i ≤ k → k < n → f k ≡ false) → z ≡ tab n f
marked_all f n i z e m h = filled-all false f n n z e (omega arith) (λ k l. go k l (dec_lt k i))
  where
    go : (k : ℕ) → k < n → Dec (k < i) → get_or z k false ≡ f k
    go k l (yes b) = m.here k b
    go k l (no b) = let c : i ≤ k = omega arith in m.behind k c ∙ sym (h k c l)

pub tab-ext : {A : Type 0} (n : ℕ) (f g : ℕ → A) → ((k : ℕ) → k < n → f k ≡ g k) → tab n f ≡ tab n g
unfolding tab
tab-ext zero f g h = refl
tab-ext (suc n) f g h = ap₂ (λ x xs. x ∷ xs) (h 0 (omega arith)) (tab-ext n (λ k. f (suc k)) (λ k. g (suc k)) (λ k l. h (suc k) (omega arith)))

-- ---- sums

pub sum-zero : (f : ℕ → ℕ) → sum_to 0 f ≡ 0
unfolding sum_to
sum-zero f = refl

pub sum-next : (n : ℕ) (f : ℕ → ℕ) → sum_to (n + 1) f ≡ sum_to n f + f n
unfolding sum_to
sum-next n f = ap (λ (k : ℕ). sum_to k f) (add-one n)

pub sum-ext : (n : ℕ) (f g : ℕ → ℕ) → ((k : ℕ) → k < n → f k ≡ g k) → sum_to n f ≡ sum_to n g
unfolding sum_to
sum-ext zero f g h = refl
sum-ext (suc n) f g h = ap₂ (λ (x y : ℕ). x + y) (sum-ext n f g (λ k l. h k (omega arith))) (h n (omega arith))

pub sum-none : (n : ℕ) (f : ℕ → ℕ) → ((k : ℕ) → k < n → f k ≡ 0) → sum_to n f ≡ 0
unfolding sum_to
sum-none zero f h = refl
sum-none (suc n) f h = omega (arith, sum-none n f (λ k l. h k (omega arith)), h n (omega arith))

pub sum-add-le : (n : ℕ) (f g h : ℕ → ℕ) → ((k : ℕ) → k < n → f k + g k ≤ h k) → sum_to n f + sum_to n g ≤ sum_to n h
unfolding sum_to
sum-add-le zero f g h e = omega arith
sum-add-le (suc n) f g h e = omega (arith, sum-add-le n f g h (λ k l. e k (omega arith)), e n (omega arith))

pub sum-le : (n : ℕ) (f g : ℕ → ℕ) → ((k : ℕ) → k < n → f k ≤ g k) → sum_to n f ≤ sum_to n g
unfolding sum_to
sum-le zero f g e = omega arith
sum-le (suc n) f g e = omega (arith, sum-le n f g (λ k l. e k (omega arith)), e n (omega arith))

-- less at one place, and nowhere more
pub sum_less : (n : ℕ) (f g : ℕ → ℕ) (j : ℕ) → j < n → f j < g j → ((k : ℕ) → k < n → f k ≤ g k) → sum_to n f < sum_to n g
unfolding sum_to
sum_less zero f g j l s e = absurd (not-suc-le-zero l)
sum_less (suc n) f g j l s e = go (ℕ_discrete n j) (λ m. sum_less n f g j m s (λ k b. e k (omega arith)))
  where
    go : Dec (n ≡ j) → (j < n → sum_to n f < sum_to n g) → sum_to n f + f n < sum_to n g + g n
    go (yes q) ih = omega (arith, sum-le n f g (λ k b. e k (omega arith)), ap f q, ap g q)
    go (no ne) ih = omega (arith, ih (omega arith), e n (omega arith))

-- a sum that is not 0 has a part that is not 0
pub sum-some : (n : ℕ) (f : ℕ → ℕ) → sum_to n f ≢ 0 → (k : ℕ) × (k < n) × (f k ≢ 0)
unfolding sum_to
sum-some zero f h = absurd (h refl)
sum-some (suc n) f h = go (ℕ_discrete (f n) 0) (sum-some n f)
  where
    go : Dec (f n ≡ 0) → (sum_to n f ≢ 0 → (k : ℕ) × (k < n) × (f k ≢ 0)) → (k : ℕ) × (k < suc n) × (f k ≢ 0)
    go (yes e) ih = let r = ih (λ (z : sum_to n f ≡ 0). h (omega arith)) in let l : r.0 < n = r.1 in (r.0, omega arith, r.2)
    go (no ne) ih = (n, omega arith, ne)

-- g is f but for 0 at j
pub sum-strike : (n : ℕ) (f g : ℕ → ℕ) (j : ℕ) → j < n → g j ≡ 0 → ((k : ℕ) → k ≢ j → g k ≡ f k) → sum_to n f ≡ f j + sum_to n g
unfolding sum_to
sum-strike zero f g j l z h = absurd (not-suc-le-zero l)
sum-strike (suc n) f g j l z h = go (ℕ_discrete n j) (sum-strike n f g j)
  where
    go : Dec (n ≡ j) → (j < n → g j ≡ 0 → ((k : ℕ) → k ≢ j → g k ≡ f k) → sum_to n f ≡ f j + sum_to n g) → sum_to n f + f n ≡ f j + (sum_to n g + g n)
    go (yes e) ih = omega (arith, ap f e, ap g e, z, sum-ext n f g (λ k b. sym (h k (λ (d : k ≡ j). omega arith))))
    go (no ne) ih = omega (arith, ih (omega arith) z h, h n ne)

-- each part at most 1
pub sum_ones : (n : ℕ) (f : ℕ → ℕ) → ((k : ℕ) → k < n → f k ≤ 1) → sum_to n f ≤ n
unfolding sum_to
sum_ones zero f h = omega arith
sum_ones (suc n) f h = omega (arith, sum_ones n f (λ k l. h k (omega arith)), h n (omega arith))

pub one-le : (b : Bool) → one b ≤ 1
one-le true = omega arith
one-le false = omega arith

-- what lies behind place m adds nothing
pub sum-front : (n m : ℕ) (f : ℕ → ℕ) → m ≤ n → ((k : ℕ) → m ≤ k → k < n → f k ≡ 0) → sum_to n f ≡ sum_to m f
unfolding sum_to
sum-front zero m f l h = let e : 0 ≡ m = omega arith in ap (λ (k : ℕ). sum_to k f) e
sum-front (suc n) m f l h = go (ℕ_discrete m (suc n)) (λ b. sum-front n m f b (λ k c d. h k c (omega arith)))
  where
    go : Dec (m ≡ suc n) → (m ≤ n → sum_to n f ≡ sum_to m f) → sum_to n f + f n ≡ sum_to m f
    go (yes e) ih = sym (ap (λ (k : ℕ). sum_to k f) e)
    go (no ne) ih = omega (arith, ih (omega arith), h n (omega arith) (omega arith))

pub sum_same : (n : ℕ) (f : ℕ → ℕ) → ((k : ℕ) → k < n → f k ≡ 1) → sum_to n f ≡ n
unfolding sum_to
sum_same zero f h = refl
sum_same (suc n) f h = omega (arith, sum_same n f (λ k l. h k (omega arith)), h n (omega arith))
