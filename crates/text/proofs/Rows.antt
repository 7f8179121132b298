-- The table of document 01 holds of what reading, a couplers' text too, and writing answer, row by row. Assumes nothing.
use mathlib.Core.Path.{◌≡◌, refl, sym, ap, ◌∙◌, subst}
use mathlib.Core.Logic.{◌≢◌, ◌⊎◌, inl, inr}
use mathlib.Core.Bool.{Bool, true, false}
use mathlib.Core.List.{List}
use Prim.Native.Nat.{ℕ, ◌≤◌, ◌<◌}
use native.Mathlib.Omega.{arith}
use lib.Dec.{leb}
use lib.ListN.{length}
use borrow.Author.Tests.{leb-true, leb-false}
use Rattle.std.specs.Prelude.{Ok, Err}
use Rattle.sets.specs.Pick.{pick, both}
use Rattle.verdicts.specs.declared.verdict.Refusal.TheVariants.{Room, LongText}
use Rattle.verdicts.specs.Verdicts.{Verdict, number_of, place_of, judged_qubits, judged_drawn}
use Rattle.verdicts.specs.InOrder.{and_then}
use Rattle.verdicts.specs.Rows.{Row, Nowhere, Passes1, Passes2, Passes3, PassesDrawn}
use Rattle.verdicts.proofs.Judged.{then-assoc}
use Rattle.verdicts.proofs.Rows.{Tests, row-fails, row-passes, row-then, row_first, Beyond, beyond-not, beyond-test, beyond-then, tests-1, tests-2, tests-3, tests-drawn, judged_many, judged_wrong, couplers-parted}
use Rattle.lines.specs.Lines.{text_of}
use Rattle.reading.specs.Limits.{most_bytes}
use Rattle.reading.specs.Misfit.{JobText, Misfit}
use Rattle.reading.specs.Parsing.{Parsed, misfit, job, parsed}
use Rattle.reading.specs.Readings.{couplers_in, gates_in, judged_bytes, judged_lines, judged_lists, judged_reading, judged_places}
use Rattle.reading.specs.Listing.{CouplersText, MisfitCoupler, parsed_couplers, judged_couplers_text}
use Rattle.reading.proofs.Misfits.{two, job-found, job-parsed, misfit-first, misfit-parsed}
use Rattle.reading.proofs.Listings.{couplers-found, couplers-parsed, coupler-misfit-first, coupler-misfit-parsed}
use Rattle.text.specs.Writings.{judged_text}
use Rattle.text.specs.Rows.{Suffices, TooShort, ReadingRows, CouplersRows, WritingRows}

-- what is needed is at most what is there
pub room-tests : (need room : ℕ) (v : Verdict) → 0 < number_of v → place_of v ≡ 0 → Tests (pick (leb need room) (Ok tt) v) (number_of v) (need ≤ room) (room < need) Nowhere
room-tests need room v h e = record { decided = go (leb need room) refl; apart = λ (l : need ≤ room) (g : room < need). omega arith; refuses = h }
  where
    go : (b : Bool) → leb need room ≡ b
        → ((number_of (pick b (Ok tt) v) ≡ 0) × (need ≤ room)) ⊎ ((number_of (pick b (Ok tt) v) ≡ number_of v) × (room < need) × Nowhere (place_of (pick b (Ok tt) v)))
    go true q = inl (refl, leb-true need room q)
    go false q = inr (refl, leb-false need room q, e)

-- "reading tests 11, 10, 8": u, v and w are what the three answer
module _ {u v w : Verdict} {Short Long Good Bad Fits Over : Type 0} {At : ℕ → Type 0}
    (t : Tests u 11 Short Long Nowhere) (l : Tests v 10 Good Bad At) (r : Good → Tests w 8 Fits Over Nowhere) where
  -- a good text is answered by 8 alone, or accepted
  last-not : (j : ℕ) → 8 < j → Good → number_of w ≢ j
  last-not j h g e = go (r g).decided
    where
      go : ((number_of w ≡ 0) × Fits) ⊎ ((number_of w ≡ 8) × Over × Nowhere (place_of w)) → ⊥
      go (inl d) = omega (arith, h, e, d.0)
      go (inr d) = omega (arith, h, e, d.0)

  last-never : (j : ℕ) → 8 < j → Good → Row w j ⊥ Nowhere
  last-never j h g = record { exactly = (last-not j h g, λ f. absurd f); place = λ e. absurd (last-not j h g e) }

  three-0 : Row (and_then u (and_then v w)) 0 (Short × (Good × Fits)) Nowhere
  three-0 = row-then t (and_then v w) 0 (λ e. omega (arith, e)) (λ p. row-then l w 0 (λ e. omega (arith, e)) (λ g. row-passes (r g)))

  three-11 : Row (and_then u (and_then v w)) 11 Long Nowhere
  three-11 = row_first t (and_then v w) (λ p e. ((row-then l w 11 (λ e. omega (arith, e)) (last-never 11 (omega arith))).exactly.0 e).1)

  three-10 : Row (and_then u (and_then v w)) 10 (Short × Bad) At
  three-10 = row-then t (and_then v w) 10 (λ e. omega (arith, e)) (λ p. row_first l w (last-not 10 (omega arith)))

  three-8 : Row (and_then u (and_then v w)) 8 (Short × (Good × Over)) Nowhere
  three-8 = row-then t (and_then v w) 8 (λ e. omega (arith, e)) (λ p. row-then l w 8 (λ e. omega (arith, e)) (λ g. row-fails (r g)))

-- ---- reading

module _ (s : List ℕ) (a b : ℕ) where
  tests-11 : Tests (judged_bytes s) 11 (length s ≤ most_bytes) (most_bytes < length s) Nowhere
  tests-11 = room-tests (length s) most_bytes (Err LongText) (omega arith) refl

  tests-10 : Tests (judged_lines (parsed s)) 10 (JobText s) ((k : ℕ) × Misfit s k) (Misfit s)
  tests-10 = record { decided = go (parsed s) refl; apart = λ j m. two (sym (misfit-parsed s m.0 m.1) ∙ job-parsed s j); refuses = omega arith }
    where
      go : (p : Parsed) → parsed s ≡ p
          → ((number_of (judged_lines p) ≡ 0) × JobText s) ⊎ ((number_of (judged_lines p) ≡ 10) × ((k : ℕ) × Misfit s k) × Misfit s (place_of (judged_lines p)))
      go (misfit k) e = let m = misfit-first s k e in inr (refl, (k, m), m)
      go (job n es gs) e =
          let f = job-found s n es gs e in
          inl (refl, record { qubits = n; couplers = es; gates = gs; few = f.few; couplers_fit = f.couplers; gates_fit = f.gates; same = f.same })

  tests-lists : JobText s → Tests (judged_lists (parsed s) a b) 8 (Suffices s a b) (TooShort s a b) Nowhere
  tests-lists j = record { decided = go (leb (length es) a) (leb (length gs) b) refl refl; apart = λ p f. apart (p j) (f j); refuses = omega arith }
    where
      es : List ℕ
      es = couplers_in (parsed s)

      gs : List ℕ
      gs = gates_in (parsed s)

      couplers-are : (i : JobText s) → length i.couplers ≡ length es
      couplers-are i = sym (ap (λ (p : Parsed). length (couplers_in p)) (job-parsed s i))

      gates-are : (i : JobText s) → length i.gates ≡ length gs
      gates-are i = sym (ap (λ (p : Parsed). length (gates_in p)) (job-parsed s i))

      apart : (length j.couplers ≤ a) × (length j.gates ≤ b) → (a < length j.couplers) ⊎ (b < length j.gates) → ⊥
      apart p (inl l) = omega (arith, p.0, l)
      apart p (inr l) = omega (arith, p.1, l)

      go : (t u : Bool) → leb (length es) a ≡ t → leb (length gs) b ≡ u → let v = pick (both t u) (Ok tt) (Err Room) in
          ((number_of v ≡ 0) × Suffices s a b) ⊎ ((number_of v ≡ 8) × TooShort s a b × Nowhere (place_of v))
      go true true p q = inl (refl, λ i. (omega (arith, couplers-are i, leb-true (length es) a p), omega (arith, gates-are i, leb-true (length gs) b q)))
      go true false p q = inr (refl, λ i. inr (omega (arith, gates-are i, leb-false (length gs) b q)), refl)
      go false u p q = inr (refl, λ i. inl (omega (arith, couplers-are i, leb-false (length es) a p)), refl)

  pub reading-rows : ReadingRows s a b (judged_reading s a b)
  unfolding judged_reading
  reading-rows = record {
    row_0 = three-0 tests-11 tests-10 tests-lists;
    row_11 = three-11 tests-11 tests-10 tests-lists;
    row_10 = three-10 tests-11 tests-10 tests-lists;
    row_8 = three-8 tests-11 tests-10 tests-lists;
  }

-- ---- a couplers' text

module _ (s : List ℕ) (room : ℕ) where
  listing-11 : Tests (judged_bytes s) 11 (length s ≤ most_bytes) (most_bytes < length s) Nowhere
  listing-11 = room-tests (length s) most_bytes (Err LongText) (omega arith) refl

  listing-10 : Tests (judged_lines (parsed_couplers s)) 10 (CouplersText s) ((k : ℕ) × MisfitCoupler s k) (MisfitCoupler s)
  listing-10 = record { decided = go (parsed_couplers s) refl; apart = λ c m. two (sym (coupler-misfit-parsed s m.0 m.1) ∙ couplers-parsed s c); refuses = omega arith }
    where
      go : (p : Parsed) → parsed_couplers s ≡ p
          → ((number_of (judged_lines p) ≡ 0) × CouplersText s) ⊎ ((number_of (judged_lines p) ≡ 10) × ((k : ℕ) × MisfitCoupler s k) × MisfitCoupler s (place_of (judged_lines p)))
      go (misfit k) e = let m = coupler-misfit-first s k e in inr (refl, (k, m), m)
      go (job n es gs) e = let f = couplers-found s n es gs e in inl (refl, record { couplers = es; fit = f.fit; same = f.same })

  listing-8 : CouplersText s → Tests (judged_places (length (couplers_in (parsed_couplers s))) room) 8 ((c : CouplersText s) → length c.couplers ≤ room) ((c : CouplersText s) → room < length c.couplers) Nowhere
  listing-8 c =
      record { decided = go tests.decided; apart = λ p f. omega (arith, p c, f c); refuses = omega arith }
    where
      listed : ℕ
      listed = length (couplers_in (parsed_couplers s))

      tests : Tests (judged_places (length (couplers_in (parsed_couplers s))) room) 8 (listed ≤ room) (room < listed) Nowhere
      tests = room-tests listed room (Err Room) (omega arith) refl

      listed-are : (i : CouplersText s) → length i.couplers ≡ listed
      listed-are i = sym (ap (λ (p : Parsed). length (couplers_in p)) (couplers-parsed s i))

      go : let v = judged_places (length (couplers_in (parsed_couplers s))) room in ((number_of v ≡ 0) × (listed ≤ room)) ⊎ ((number_of v ≡ 8) × (room < listed) × Nowhere (place_of v))
          → ((number_of v ≡ 0) × ((c : CouplersText s) → length c.couplers ≤ room)) ⊎ ((number_of v ≡ 8) × ((c : CouplersText s) → room < length c.couplers) × Nowhere (place_of v))
      go (inl d) = inl (d.0, λ i. omega (arith, listed-are i, d.1))
      go (inr d) = inr (d.0, (λ i. omega (arith, listed-are i, d.1)), d.2)

  pub couplers-rows : CouplersRows s room (judged_couplers_text s room)
  unfolding judged_couplers_text
  couplers-rows = record {
    row_0 = three-0 listing-11 listing-10 listing-8;
    row_11 = three-11 listing-11 listing-10 listing-8;
    row_10 = three-10 listing-11 listing-10 listing-8;
    row_8 = three-8 listing-11 listing-10 listing-8;
  }

-- ---- writing

module _ (n : ℕ) (couplers gates : List ℕ) (room : ℕ) where
  abbrev judged_fit : Verdict
  judged_fit = judged_places (length (text_of n couplers gates)) room

  abbrev behind3 : Verdict
  behind3 = and_then (judged_drawn n gates) judged_fit

  abbrev behind2 : Verdict
  behind2 = and_then (judged_wrong n couplers) behind3

  abbrev behind1 : Verdict
  behind1 = and_then (judged_many couplers) behind2

  abbrev all : Verdict
  all = and_then (judged_qubits n) behind1

  all-judged : all ≡ judged_text n couplers gates room
  unfolding judged_text
  all-judged = ap (and_then (judged_qubits n)) (sym (then-assoc (judged_many couplers) (judged_wrong n couplers) behind3) ∙ ap (λ (v : Verdict). and_then v behind3) (couplers-parted n couplers))

  tests-8 : Tests judged_fit 8 (length (text_of n couplers gates) ≤ room) (room < length (text_of n couplers gates)) Nowhere
  tests-8 = room-tests (length (text_of n couplers gates)) room (Err Room) (omega arith) refl

  beyond5 : Beyond 5 judged_fit
  beyond5 = beyond-test tests-8 5 (omega arith)

  beyond3 : Beyond 3 behind3
  beyond3 = beyond-then (tests-drawn n gates) 3 (omega arith) judged_fit (λ p5. beyond5)

  beyond2 : Beyond 2 behind2
  beyond2 = beyond-then (tests-3 n couplers) 2 (omega arith) behind3 (λ p3. beyond3)

  beyond1 : Beyond 1 behind1
  beyond1 = beyond-then (tests-2 couplers) 1 (omega arith) behind2 (λ p2. beyond2)

  past1 : (j : ℕ) {When : Type 0} {At : ℕ → Type 0} → j ≢ 1 → Row behind1 j When At → Row all j (Passes1 n × When) At
  past1 j ne r = row-then (tests-1 n) behind1 j ne (λ p. r)

  past2 : (j : ℕ) {When : Type 0} {At : ℕ → Type 0} → j ≢ 1 → j ≢ 2 → Row behind2 j When At → Row all j (Passes1 n × (Passes2 couplers × When)) At
  past2 j a b r = past1 j a (row-then (tests-2 couplers) behind2 j b (λ p. r))

  past3 : (j : ℕ) {When : Type 0} {At : ℕ → Type 0} → j ≢ 1 → j ≢ 2 → j ≢ 3 → Row behind3 j When At → Row all j (Passes1 n × (Passes2 couplers × (Passes3 n couplers × When))) At
  past3 j a b c r = past2 j a b (row-then (tests-3 n couplers) behind3 j c (λ p. r))

  past5 : (j : ℕ) {When : Type 0} {At : ℕ → Type 0} → j ≢ 1 → j ≢ 2 → j ≢ 3 → j ≢ 5 → Row judged_fit j When At
      → Row all j (Passes1 n × (Passes2 couplers × (Passes3 n couplers × (PassesDrawn n gates × When)))) At
  past5 j a b c d r = past3 j a b c (row-then (tests-drawn n gates) judged_fit j d (λ p. r))

  all-rows : WritingRows n couplers gates room all
  all-rows = record {
    row_0 = past5 0 (λ e. omega (arith, e)) (λ e. omega (arith, e)) (λ e. omega (arith, e)) (λ e. omega (arith, e)) (row-passes tests-8);
    row_1 = row_first (tests-1 n) behind1 (λ p. beyond-not 1 behind1 (omega arith) beyond1);
    row_2 = past1 2 (λ e. omega (arith, e)) (row_first (tests-2 couplers) behind2 (λ p. beyond-not 2 behind2 (omega arith) beyond2));
    row_3 = past2 3 (λ e. omega (arith, e)) (λ e. omega (arith, e)) (row_first (tests-3 n couplers) behind3 (λ p. beyond-not 3 behind3 (omega arith) beyond3));
    row_5 = past3 5 (λ e. omega (arith, e)) (λ e. omega (arith, e)) (λ e. omega (arith, e)) (row_first (tests-drawn n gates) judged_fit (λ p. beyond-not 5 judged_fit (omega arith) beyond5));
    row_8 = past5 8 (λ e. omega (arith, e)) (λ e. omega (arith, e)) (λ e. omega (arith, e)) (λ e. omega (arith, e)) (row-fails tests-8);
  }

  pub writing-rows : WritingRows n couplers gates room (judged_text n couplers gates room)
  writing-rows = subst (WritingRows n couplers gates room) all-judged all-rows
