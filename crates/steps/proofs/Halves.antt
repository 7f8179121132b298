-- The selected columns split on r: the zeros take the base step on the rest of Q, then the ones take the ones step. Assumes nothing.
use mathlib.Core.Path.{◌≡◌, refl, ap, ◌∙◌}
use mathlib.Core.Logic.{◌≢◌, ◌⊎◌, inl, inr}
use mathlib.Core.Bool.{Bool, true, false}
use mathlib.Core.List.{List, ◌++◌}
use Prim.Native.Nat.{ℕ, ◌^◌, ◌<◌}
use native.Mathlib.Omega.{arith}
use lib.ListN.{get_or}
use Rattle.sets.specs.Bit.{bit, In, Sub}
use Rattle.sets.proofs.Bits.{bit-of-zero, bit-cases}
use Rattle.columns.specs.Pieces.{Piece}
use Rattle.columns.specs.Terms.{Laying}
use Rattle.columns.proofs.Layings.{laying-then, laying-wider}
use Rattle.steps.specs.Selection.{zeros_of, ones_of}
use Rattle.steps.specs.Choice.{without}
use Rattle.steps.proofs.Apart.{Many, many-live, Reached, reached-trans, reached-wider, reached-zero, reached-live, reached-outside, reached-sub, Safe, safe-narrow, reached-safe, safe-many, safe-rest}
use Rattle.steps.proofs.Splits.{in-zeros, zeros-in, in_ones, zeros-out, ones-out, split-cases}
use Rattle.steps.proofs.Meets.{rest_out, rest_in, rest-sub, StepReady, StepDone}
use Rattle.sets.proofs.Deciding.{never}

module _ (near : List ℕ) (Q : ℕ) (angles : List ℕ) (low : Q < 2 ^ 20) (r : ℕ) (hr : In r Q) (sel : List Bool) (ys : List ℕ)
    (places : (k : ℕ) → get_or sel k false ≡ true → k < 256)
    (chosen : (k : ℕ) → get_or sel k false ≡ true → (get_or ys k 0 ≡ 0) ⊎ (Sub (get_or ys k 0) Q × Many (get_or ys k 0)))
    (aside : (k : ℕ) → get_or sel k false ≡ false → Safe Q (get_or ys k 0)) where
  abbrev S : ℕ
  S = without Q r

  abbrev z : List Bool
  z = zeros_of r sel ys

  abbrev p : List Bool
  p = ones_of r sel ys

  -- a column with r is safe in the rest
  guarded : (k : ℕ) → Sub (get_or ys k 0) Q × Many (get_or ys k 0) → In r (get_or ys k 0) → Safe S (get_or ys k 0)
  guarded k c h = safe-rest S Q (get_or ys k 0) r (rest_out Q r low hr) (rest_in Q r low hr) c.0 c.1 h

  pub zeros-ready : StepReady S z ys
  zeros-ready = record { places = λ k e. (in-zeros r sel ys k e).0; chosen = zero-chosen; aside = λ k e. zero-aside k e (get_or sel k false) refl }
    where
      zero-chosen : (k : ℕ) → get_or z k false ≡ true → Sub (get_or ys k 0) S × Many (get_or ys k 0)
      zero-chosen k e = go (chosen k t.1)
        where
          t : (k < 256) × (get_or sel k false ≡ true) × (get_or ys k 0 ≢ 0) × (bit (get_or ys k 0) r ≡ 0)
          t = in-zeros r sel ys k e

          go : (get_or ys k 0 ≡ 0) ⊎ (Sub (get_or ys k 0) Q × Many (get_or ys k 0)) → Sub (get_or ys k 0) S × Many (get_or ys k 0)
          go (inl y0) = absurd (t.2 y0)
          go (inr c) = ((λ j h. rest_in Q r low hr j (c.0 j h) (λ (d : j ≡ r). omega (arith, h, t.3, ap (bit (get_or ys k 0)) d))), c.1)

      zero-aside : (k : ℕ) → get_or z k false ≡ false → (b : Bool) → get_or sel k false ≡ b → Safe S (get_or ys k 0)
      zero-aside k e false s = safe-narrow S Q (get_or ys k 0) (rest-sub Q r low hr) (aside k s)
      zero-aside k e true s = go (chosen k s) (bit-cases (get_or ys k 0) r)
        where
          go : (get_or ys k 0 ≡ 0) ⊎ (Sub (get_or ys k 0) Q × Many (get_or ys k 0)) → (bit (get_or ys k 0) r ≡ 0) ⊎ (bit (get_or ys k 0) r ≡ 1) → Safe S (get_or ys k 0)
          go (inl y0) b = inl y0
          go (inr c) (inl b) = absurd (never (zeros-in r sel ys k (places k s) s (many-live (get_or ys k 0) c.1) b) e)
          go (inr c) (inr b) = guarded k c b

  -- behind the base step B of the zeros
  module _ (B : Piece) (first : StepDone near S angles z ys B) where
    abbrev us : List ℕ
    us = B.cols

    -- a column with r takes no part in it
    spared : (k : ℕ) → In r (get_or ys k 0) → Reached S (get_or ys k 0) (get_or us k 0)
    spared k h = first.others k (zeros-out r sel ys k (inr (inr h)))

    gone : (k : ℕ) → get_or ys k 0 ≡ 0 → get_or us k 0 ≡ 0
    gone k y0 = reached-zero (first.others k (zeros-out r sel ys k (inr (inl y0)))) y0

    pub ones-have : (k : ℕ) → get_or p k false ≡ true → In r (get_or us k 0)
    ones-have k e = let t = in_ones r sel ys k e in reached-outside (spared k t.2) r (rest_out Q r low hr) ∙ t.2

    pub ones-ready : StepReady Q p us
    ones-ready = record { places = λ k e. (in_ones r sel ys k e).0; chosen = one-chosen; aside = λ k e. one-aside k e (get_or sel k false) refl }
      where
        one-chosen : (k : ℕ) → get_or p k false ≡ true → Sub (get_or us k 0) Q × Many (get_or us k 0)
        one-chosen k e = go (chosen k t.1)
          where
            t : (k < 256) × (get_or sel k false ≡ true) × In r (get_or ys k 0)
            t = in_ones r sel ys k e

            go : (get_or ys k 0 ≡ 0) ⊎ (Sub (get_or ys k 0) Q × Many (get_or ys k 0)) → Sub (get_or us k 0) Q × Many (get_or us k 0)
            go (inl y0) = absurd (omega (arith, t.2, ap (λ (x : ℕ). bit x r) y0, bit-of-zero r))
            go (inr c) =
                let w = spared k t.2 in (
                  reached-sub Q w (rest-sub Q r low hr) c.0,
                  safe-many S (get_or us k 0) (reached-safe w (guarded k c t.2)) (reached-live w (many-live (get_or ys k 0) c.1)),
                )

        one-aside : (k : ℕ) → get_or p k false ≡ false → (b : Bool) → get_or sel k false ≡ b → Safe Q (get_or us k 0)
        one-aside k e false s = reached-safe (reached-wider (rest-sub Q r low hr) (first.others k (zeros-out r sel ys k (inl s)))) (aside k s)
        one-aside k e true s = go (split-cases r sel ys k (places k s) s)
          where
            go : (get_or ys k 0 ≡ 0) ⊎ ((get_or z k false ≡ true) ⊎ (get_or p k false ≡ true)) → Safe Q (get_or us k 0)
            go (inl y0) = inl (gone k y0)
            go (inr (inl t)) = inl (first.struck k t)
            go (inr (inr t)) = absurd (never t e)

    -- behind the ones step O of the ones
    module _ (O : Piece) (second : StepDone near Q angles p us O) where
      pub halves-struck : (k : ℕ) → get_or sel k false ≡ true → get_or O.cols k 0 ≡ 0
      halves-struck k s = go (split-cases r sel ys k (places k s) s)
        where
          go : (get_or ys k 0 ≡ 0) ⊎ ((get_or z k false ≡ true) ⊎ (get_or p k false ≡ true)) → get_or O.cols k 0 ≡ 0
          go (inl y0) = reached-zero (second.others k (ones-out r sel ys k (inr (ap (λ (x : ℕ). bit x r) y0 ∙ bit-of-zero r)))) (gone k y0)
          go (inr (inl t)) = reached-zero (second.others k (ones-out r sel ys k (inr (in-zeros r sel ys k t).3))) (first.struck k t)
          go (inr (inr t)) = second.struck k t

      pub halves-others : (k : ℕ) → get_or sel k false ≡ false → Reached Q (get_or ys k 0) (get_or O.cols k 0)
      halves-others k s =
          reached-trans (reached-wider (rest-sub Q r low hr) (first.others k (zeros-out r sel ys k (inl s)))) (second.others k (ones-out r sel ys k (inl s)))

      pub halves-lay : Laying near Q angles ys (B.laid ++ O.laid) O.cols
      halves-lay = laying-then near Q angles (laying-wider near S Q angles ys B.laid us (rest-sub Q r low hr) first.lays) second.lays
