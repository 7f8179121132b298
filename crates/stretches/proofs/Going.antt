-- Going over the stretches of a job from the first gate to the last, as the code does. Assumes nothing.
use mathlib.Core.Path.{◌≡◌, refl, sym, ap, ap₂, ◌∙◌}
use mathlib.Core.Bool.{Bool, true, false}
use mathlib.Core.List.{List, [], ◌∷◌}
use Prim.Native.Nat.{ℕ, suc, ◌+◌, ◌-◌, ◌≤◌, ◌<◌}
use native.Mathlib.Omega.{arith}
use native.Mathlib.Numerals.{add-one}
use native.Mathlib.Decide.{dec_lt}
use lib.ListN.{length, get_or, take, drop, length-drop, drop_of_length-le}
use lib.Seq.{take_all, take-nil, drop-cons, drop-drop, get_or-drop, length-take-le}
use borrow.Author.Tests.{le-leb, lt-leb}
use Rattle.sets.specs.Pick.{pick}
use Rattle.gates.specs.Hadamards.{is_hadamard}
use Rattle.sets.specs.Lists.{those}
use Rattle.stretches.specs.Cut.{first_at}
use Rattle.stretches.specs.Stretches.{stretches_of, hadamards_of, end_at, stretch_at, rest_from, hadamards_from}
use Rattle.stretches.specs.Parts.{hadamard_at}
use Rattle.stretches.proofs.Cutting.{first-le, first-is, cut-last, those-last, cut-more, those-more}

stretches-more : (n : ℕ) (ys : List ℕ) (f : ℕ) → f ≡ first_at (is_hadamard n) ys → f < length ys → stretches_of n ys ≡ take f ys ∷ stretches_of n (drop (suc f) ys)
unfolding stretches_of
stretches-more n ys f e l = cut-more (is_hadamard n) ys f e l

stretches-last : (n : ℕ) (ys : List ℕ) → first_at (is_hadamard n) ys ≡ length ys → stretches_of n ys ≡ ys ∷ []
unfolding stretches_of
stretches-last n ys e = cut-last (is_hadamard n) ys e

module _ (n : ℕ) (xs : List ℕ) where
  -- ---- the end of a stretch

  pub end_ge : (k : ℕ) → k ≤ end_at n xs k
  unfolding end_at
  end_ge k = omega arith

  -- how many gates stand between k and the end, and what lies behind them
  pub end-size : (k : ℕ) → first_at (is_hadamard n) (drop k xs) ≡ end_at n xs k - k
  unfolding end_at
  end-size k = omega arith

  pub end-drop : (k : ℕ) → drop (first_at (is_hadamard n) (drop k xs)) (drop k xs) ≡ drop (end_at n xs k) xs
  unfolding end_at
  end-drop k = drop-drop (first_at (is_hadamard n) (drop k xs)) k xs

  end-le : (k : ℕ) → k ≤ length xs → end_at n xs k ≤ length xs
  unfolding end_at
  end-le k l = omega (arith, first-le (is_hadamard n) (drop k xs), length-drop k xs)

  module _ (k : ℕ) (l : k < length xs) (b : Bool) (e : b ≡ is_hadamard n (get_or xs k 0)) where
    first : first_at (is_hadamard n) (drop k xs) ≡ pick b 0 (suc (first_at (is_hadamard n) (drop (suc k) xs)))
    unfolding first_at
    first = ap (first_at (is_hadamard n)) (drop-cons xs k 0 l) ∙ ap (λ (s : Bool). pick s 0 (suc (first_at (is_hadamard n) (drop (suc k) xs)))) (sym e)

    pub end-here : b ≡ true → end_at n xs k ≡ k
    unfolding end_at
    end-here y = let f : first_at (is_hadamard n) (drop k xs) ≡ 0 = first ∙ ap (λ (s : Bool). pick s 0 (suc (first_at (is_hadamard n) (drop (suc k) xs)))) y in omega arith

    pub end-next : b ≡ false → end_at n xs k ≡ end_at n xs (k + 1)
    unfolding end_at
    end-next y =
        let f : first_at (is_hadamard n) (drop k xs) ≡ suc (first_at (is_hadamard n) (drop (suc k) xs)) = first ∙ ap (λ (s : Bool). pick s 0 (suc (first_at (is_hadamard n) (drop (suc k) xs)))) y in
        omega (arith, f, ap (λ (m : ℕ). first_at (is_hadamard n) (drop m xs)) (add-one k))

  pub end-past : (k : ℕ) → length xs ≤ k → end_at n xs k ≡ k
  unfolding end_at first_at
  end-past k l = let f : first_at (is_hadamard n) (drop k xs) ≡ 0 = ap (first_at (is_hadamard n)) (drop_of_length-le xs l) in omega arith

  -- above the number of gates there is no stretch
  pub stretch-none : (k : ℕ) → length xs < end_at n xs k → stretch_at n xs k ≡ []
  stretch-none k l = ap (take (end_at n xs k - k)) (drop_of_length-le xs (past (dec_lt (length xs) k))) ∙ take-nil (end_at n xs k - k)
    where
      past : Dec (length xs < k) → length xs ≤ k
      past (yes m) = omega (arith, m)
      past (no m) = absurd (omega (arith, l, end-le k (omega (arith, m))))

  -- ---- one stretch more

  pub rest-start : rest_from n xs 0 ≡ stretches_of n xs
  unfolding rest_from
  rest-start = ap (λ (b : Bool). pick b (stretches_of n (drop 0 xs)) []) (le-leb 0 (length xs) (omega arith))

  pub rest-past : (k : ℕ) → length xs < k → rest_from n xs k ≡ []
  unfolding rest_from
  rest-past k l = ap (λ (b : Bool). pick b (stretches_of n (drop k xs)) []) (lt-leb k (length xs) l)

  rest-on : (k : ℕ) → k ≤ length xs → rest_from n xs k ≡ stretches_of n (drop k xs)
  unfolding rest_from
  rest-on k l = ap (λ (b : Bool). pick b (stretches_of n (drop k xs)) []) (le-leb k (length xs) l)

  pub hadamards-start : hadamards_from n xs 0 ≡ hadamards_of n xs
  unfolding hadamards_from
  hadamards-start = refl

  pub hadamards-past : (k : ℕ) → length xs < k → hadamards_from n xs k ≡ []
  unfolding hadamards_from hadamards_of those
  hadamards-past k l = ap (those (is_hadamard n)) (drop_of_length-le xs {i = k} (omega arith))

  module _ (k : ℕ) (l : k ≤ length xs) where
    abbrev e : ℕ
    e = end_at n xs k

    size : first_at (is_hadamard n) (drop k xs) ≡ e - k
    unfolding end_at
    size = omega arith

    pub stretch-end : k + length (stretch_at n xs k) ≡ end_at n xs k
    stretch-end = omega (arith, length-take-le (e - k) (drop k xs) (omega (arith, length-drop k xs, end-le k l, end_ge k)), end_ge k)

    pub stretch-within : k + length (stretch_at n xs k) ≤ length xs
    stretch-within = omega (arith, stretch-end, end-le k l)

    -- where the next stretch begins
    next : end_at n xs k + 1 ≡ k + length (stretch_at n xs k) + 1
    next = omega (arith, stretch-end)

    behind : e < length xs → drop (suc (e - k)) (drop k xs) ≡ drop (e + 1) xs
    behind m = let j : k + suc (e - k) ≡ e + 1 = omega (arith, end_ge k) in drop-drop (suc (e - k)) k xs ∙ ap (λ (i : ℕ). drop i xs) j

    pub rest-step : rest_from n xs k ≡ stretch_at n xs k ∷ rest_from n xs (k + length (stretch_at n xs k) + 1)
    rest-step = rest-on k l ∙ go (dec_lt e (length xs)) ∙ ap (λ (m : ℕ). stretch_at n xs k ∷ rest_from n xs m) next
      where
        go : Dec (e < length xs) → stretches_of n (drop k xs) ≡ stretch_at n xs k ∷ rest_from n xs (e + 1)
        go (yes m) =
            stretches-more n (drop k xs) (e - k) (sym size) (omega (arith, length-drop k xs, end_ge k))
            ∙ ap (λ (r : List (List ℕ)). stretch_at n xs k ∷ r) (ap (stretches_of n) (behind m) ∙ sym (rest-on (e + 1) (omega arith)))
        go (no m) =
            stretches-last n (drop k xs) (omega (arith, size, length-drop k xs, end-le k l, end_ge k, m))
            ∙ ap₂ (λ (a : List ℕ) (r : List (List ℕ)). a ∷ r) (sym (take_all (e - k) (drop k xs) (omega (arith, length-drop k xs, end_ge k, m)))) (sym (rest-past (e + 1) (omega (arith, m))))

    -- ---- the Hadamard behind it, if one is there

    pub behind-some : e < length xs → hadamard_at n xs k ≡ get_or xs e 0 ∷ []
    behind-some m = ap (take 1) (drop-cons xs e 0 m)

    pub behind-none : length xs ≤ e → hadamard_at n xs k ≡ []
    behind-none m = ap (take 1) (drop_of_length-le xs m)

    pub end-hadamard : e < length xs → is_hadamard n (get_or xs e 0) ≡ true
    unfolding end_at
    end-hadamard m =
        ap (λ (i : ℕ). is_hadamard n (get_or xs i 0)) (sym (place)) ∙ ap (is_hadamard n) (sym (get_or-drop k xs (e - k) 0)) ∙ ap (λ (i : ℕ). is_hadamard n (get_or (drop k xs) i 0)) (sym size)
        ∙ first-is (is_hadamard n) 0 (drop k xs) (omega (arith, size, length-drop k xs, end_ge k))
      where
        place : k + (e - k) ≡ e
        place = omega (arith, end_ge k)

    pub hadamards-more : e < length xs → hadamards_from n xs k ≡ get_or xs e 0 ∷ hadamards_from n xs (k + length (stretch_at n xs k) + 1)
    unfolding hadamards_from hadamards_of
    hadamards-more m =
        let j : k + (e - k) ≡ e = omega (arith, end_ge k) in
        let p : get_or (drop k xs) (e - k) 0 ≡ get_or xs e 0 = get_or-drop k xs (e - k) 0 ∙ ap (λ (i : ℕ). get_or xs i 0) j in
        those-more (is_hadamard n) 0 (drop k xs) (e - k) (sym size) (omega (arith, length-drop k xs, end_ge k))
        ∙ ap₂ (λ (a : ℕ) (r : List ℕ). a ∷ r) p (ap (those (is_hadamard n)) (behind m) ∙ ap (λ (i : ℕ). those (is_hadamard n) (drop i xs)) next)

    pub hadamards-last : length xs ≤ e → hadamards_from n xs k ≡ []
    unfolding hadamards_from hadamards_of
    hadamards-last m = those-last (is_hadamard n) (drop k xs) (omega (arith, size, length-drop k xs, end-le k l, end_ge k))

    -- one Hadamard less, or none was there
    pub hadamards-count : length (hadamards_from n xs k) ≡ length (hadamard_at n xs k) + length (hadamards_from n xs (k + length (stretch_at n xs k) + 1))
    hadamards-count = go (dec_lt e (length xs))
      where
        go : Dec (e < length xs) → length (hadamards_from n xs k) ≡ length (hadamard_at n xs k) + length (hadamards_from n xs (k + length (stretch_at n xs k) + 1))
        go (yes m) = omega (arith, ap length (hadamards-more m), ap length (behind-some m))
        go (no m) =
            let m' : length xs ≤ e = omega (arith, m) in
            omega (arith, ap length (hadamards-last m'), ap length (behind-none m'), ap length (hadamards-past (k + length (stretch_at n xs k) + 1) (omega (arith, stretch-end, m))))
