-- Tables and sums over places 0, 1, .. n - 1.
use Rattle.std.specs.Prelude.{Bool, true, false, List, [], ◌∷◌, ℕ, zero, suc, ◌+◌}

-- the list of f's values at 0, 1, .. n - 1
unfoldable pub tab : {A : Type 0} → ℕ → (ℕ → A) → List A
tab zero f = []
tab (suc n) f = f 0 ∷ tab n (λ k. f (suc k))

-- their sum
unfoldable pub sum_to : ℕ → (ℕ → ℕ) → ℕ
sum_to zero f = 0
sum_to (suc n) f = sum_to n f + f n

-- 1 where a test is passed, 0 where it is not
abbrev pub one : Bool → ℕ
one true = 1
one false = 0
