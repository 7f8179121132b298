-- The parts in order are the whole. Assumes nothing.
use mathlib.Core.Path.{◌≡◌, sym, ap, ap₂, ◌∙◌}
use mathlib.Core.List.{List, [], ◌∷◌, ◌++◌, map, append-nil, append_assoc}
use Prim.Native.Nat.{ℕ, ◌+◌, ◌≤◌, ◌<◌}
use native.Mathlib.Omega.{arith}
use native.Mathlib.Decide.{dec_lt}
use lib.ListN.{length, get_or}
use Rattle.stretches.specs.Cut.{weave}
use Rattle.stretches.specs.Stretches.{end_at, stretch_at, rest_from, hadamards_from}
use Rattle.stretches.specs.Laid.{stretch_records, job_records}
use Rattle.stretches.specs.Parts.{part_at, laid_from}
use Rattle.stretches.proofs.Going.{stretch-end, rest-start, rest-past, rest-step, hadamards-start, hadamards-past, hadamards-more, hadamards-last, behind-some, behind-none}

module _ (n : ℕ) (couplers gates : List ℕ) where
  abbrev woven : List (List ℕ) → List ℕ → List ℕ
  woven ss hs = weave (map (stretch_records n couplers) ss) hs

  -- from the start on it is all
  pub parts_all : laid_from n couplers gates 0 ≡ job_records n couplers gates
  unfolding laid_from job_records
  parts_all = ap₂ woven (rest-start n gates) (hadamards-start n gates)

  -- above the number of gates nothing
  pub parts_none : (k : ℕ) → length gates < k → laid_from n couplers gates k ≡ []
  unfolding laid_from weave
  parts_none k l = ap₂ woven (rest-past n gates k l) (hadamards-past n gates k l)

  module _ (k : ℕ) (l : k ≤ length gates) where
    abbrev next : ℕ
    next = k + length (stretch_at n gates k) + 1

    abbrev L : List ℕ
    L = stretch_records n couplers (stretch_at n gates k)

    step-more : end_at n gates k < length gates → laid_from n couplers gates k ≡ part_at n couplers gates k ++ laid_from n couplers gates next
    unfolding laid_from part_at weave
    step-more m =
        ap₂ woven (rest-step n gates k l) (hadamards-more n gates k l m)
        ∙ sym (ap (λ (h : List ℕ). (L ++ h) ++ woven (rest_from n gates next) (hadamards_from n gates next)) (behind-some n gates k l m)
        ∙ append_assoc L (get_or gates (end_at n gates k) 0 ∷ []) (woven (rest_from n gates next) (hadamards_from n gates next)))

    step-last : length gates ≤ end_at n gates k → laid_from n couplers gates k ≡ part_at n couplers gates k ++ laid_from n couplers gates next
    unfolding laid_from part_at weave
    step-last m =
        let p : length gates < next = omega (arith, stretch-end n gates k l, m) in
        ap₂ woven (rest-step n gates k l) (hadamards-last n gates k l m)
        ∙ sym (ap₂ (λ (h r : List ℕ). (L ++ h) ++ r) (behind-none n gates k l m) (ap₂ woven (rest-past n gates next p) (hadamards-past n gates next p))
        ∙ append-nil (L ++ []) ∙ append-nil L)

    -- one part, then the rest
    pub parts-step : laid_from n couplers gates k ≡ part_at n couplers gates k ++ laid_from n couplers gates next
    parts-step = go (dec_lt (end_at n gates k) (length gates))
      where
        go : Dec (end_at n gates k < length gates) → laid_from n couplers gates k ≡ part_at n couplers gates k ++ laid_from n couplers gates next
        go (yes m) = step-more m
        go (no m) = step-last (omega (arith, m))
