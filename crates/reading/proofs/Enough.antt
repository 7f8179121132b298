-- The reader never answers 8 where the lent lists hold as many records as a text within its limit can have, and with less it does. Assumes nothing.
use mathlib.Core.Path.{◌≡◌, refl, ap}
use mathlib.Core.Logic.{◌≢◌, ◌⊎◌, inl, inr, ⊎_elim}
use mathlib.Core.Bool.{Bool, true, false}
use mathlib.Core.List.{List}
use Prim.Native.Nat.{ℕ, zero, suc, ◌+◌, ◌*◌, ◌≤◌, ◌<◌}
use native.Mathlib.Nat.{suc-mul}
use native.Mathlib.Omega.{arith}
use lib.Dec.{leb}
use lib.ListN.{length, length-append, replicate, length-replicate}
use borrow.Author.Tests.{leb-true, le-leb}
use Rattle.std.specs.Prelude.{Ok, Err}
use Rattle.sets.specs.Pick.{pick, both}
use Rattle.gates.specs.Layout.{packed, kind_in, a_in, b_in}
use Rattle.verdicts.specs.declared.verdict.Refusal.TheVariants.{Room, LongText}
use Rattle.verdicts.specs.Verdicts.{Verdict, number_of}
use Rattle.verdicts.specs.InOrder.{and_then}
use Rattle.lines.specs.Lines.{digits_in, digits, fields_text, line_text, letter, fields_in, record_text, records_text, text_of}
use Rattle.lines.proofs.Writes.{text-length}
use Rattle.reading.specs.Limits.{most_bytes}
use Rattle.reading.specs.Misfit.{FitsLine}
use Rattle.sets.specs.Lists.{All}
use Rattle.reading.specs.Parsing.{Parsed, misfit, job, parsed}
use Rattle.reading.specs.Readings.{judged_lines, judged_lists, judged_reading}
use Rattle.reading.specs.declared.sort.Sort.{Sort}
use Rattle.reading.specs.declared.sort.Sort.TheVariants.{Couplers, Gates}
use Rattle.reading.proofs.Runs.{text-parsed}
use Rattle.reading.proofs.Misfits.{job-found}
use Rattle.reading.proofs.Sizes.{text-least}

-- one more line of either sort would make the text too long
module _ (s : List ℕ) (a b : ℕ) (ha : most_bytes < 4 + 6 * (a + 1)) (hb : most_bytes < 4 + 4 * (b + 1)) where
  lists-fit : (n : ℕ) (es gs : List ℕ) → length s ≤ most_bytes → parsed s ≡ job n es gs → (length es ≤ a) × (length gs ≤ b)
  lists-fit n es gs h e =
      let f = job-found s n es gs e in
      let l = ap length f.same in
      (omega (arith, text-least n es gs f.couplers), omega (arith, text-least n es gs f.couplers))

  -- the table's numbers that are left
  abbrev NeverEight : Verdict → Type 0
  NeverEight v = (number_of v ≡ 0) ⊎ ((number_of v ≡ 10) ⊎ (number_of v ≡ 11))

  within : length s ≤ most_bytes → (p : Parsed) → parsed s ≡ p → NeverEight (and_then (judged_lines p) (judged_lists p a b))
  within h (misfit k) e = inr (inl refl)
  within h (job n es gs) e =
      let f = lists-fit n es gs h e in
      inl (rw (le-leb (length es) a f.0, le-leb (length gs) b f.1))

  left : NeverEight (judged_reading s a b)
  unfolding judged_reading
  left = go (leb (length s) most_bytes) refl
    where
      go : (t : Bool) → leb (length s) most_bytes ≡ t → NeverEight (and_then (pick t (Ok tt) (Err LongText)) (and_then (judged_lines (parsed s)) (judged_lists (parsed s) a b)))
      go true e = within (leb-true (length s) most_bytes e) (parsed s) refl
      go false e = inr (inr refl)

  pub reads-never-8 : number_of (judged_reading s a b) ≢ 8
  reads-never-8 z = ⊎_elim (λ e. omega arith) (⊎_elim (λ e. omega arith) (λ e. omega arith)) left

-- ---- with less it does

-- k times the same line
pub repeated-length : (m k x : ℕ) → length (record_text x) ≡ m → length (records_text (replicate k x)) ≡ k * m
unfolding records_text
repeated-length m zero x e = omega arith
repeated-length m (suc k) x e = rw (suc-mul k m) (omega (arith, length-append (record_text x) (records_text (replicate k x)), repeated-length m k x e))

pub same-fit : (g : Sort) (k x : ℕ) → FitsLine g x → All (FitsLine g) (replicate k x)
unfolding All
same-fit g zero x h = tt
same-fit g (suc k) x h = (h, same-fit g k x h)

-- c couplers and d gates in the fewest bytes: `q 0`, then `e 0 0` and `n 0`
abbrev pub least_text : ℕ → ℕ → List ℕ
least_text c d = text_of 0 (replicate c (packed 0 0 0)) (replicate d (packed 3 0 0))

module _ (c d : ℕ) where
  least-length : length (least_text c d) ≡ 4 + 6 * c + 4 * d
  unfolding packed kind_in a_in b_in record_text letter fields_in line_text fields_text digits digits_in
  least-length =
      omega (arith, text-length 0 (replicate c (packed 0 0 0)) (replicate d (packed 3 0 0)), repeated-length 6 c (packed 0 0 0) refl, repeated-length 4 d (packed 3 0 0) refl)

  least-parsed : parsed (least_text c d) ≡ job 0 (replicate c (packed 0 0 0)) (replicate d (packed 3 0 0))
  unfolding packed kind_in b_in
  least-parsed = text-parsed 0 (replicate c (packed 0 0 0)) (replicate d (packed 3 0 0)) (omega arith) (same-fit Couplers c (packed 0 0 0) refl) (same-fit Gates d (packed 3 0 0) (inr (inr (inl (refl, refl)))))

  -- so what is asked of a and b above cannot be less
  pub reads-8 : (a b : ℕ) → 4 + 6 * c + 4 * d ≤ most_bytes → (a < c) ⊎ (b < d) → number_of (judged_reading (least_text c d) a b) ≡ 8
  unfolding judged_reading
  reads-8 a b h more =
      rw (le-leb (length (least_text c d)) most_bytes (omega (arith, least-length)), least-parsed, length-replicate c (packed 0 0 0), length-replicate d (packed 3 0 0)) (go (leb c a) (leb d b) refl refl more)
    where
      go : (t u : Bool) → leb c a ≡ t → leb d b ≡ u → (a < c) ⊎ (b < d) → number_of (pick (both t u) (Ok tt) (Err Room)) ≡ 8
      go true true p q (inl l) = absurd (omega (arith, leb-true c a p))
      go true true p q (inr l) = absurd (omega (arith, leb-true d b q))
      go true false p q m = refl
      go false u p q m = refl
