-- Rows of the table: a test decides one row, and tests in order decide theirs one behind another. Assumes nothing.
use mathlib.Core.Path.{◌≡◌, refl, sym, ap, ◌∙◌, subst}
use mathlib.Core.Logic.{◌≢◌, ◌⊎◌, inl, inr}
use mathlib.Core.Bool.{Bool, true, false, not}
use mathlib.Core.List.{List}
use Prim.Native.Nat.{ℕ, ◌≤◌, ◌<◌}
use native.Mathlib.Omega.{arith}
use lib.Dec.{eqb, leb, ltb}
use lib.ListN.{length, get_or}
use borrow.Author.Tests.{ltb-true, ltb-false, leb-true, leb-false, eqb-true, eqb-false, not-true}
use Rattle.std.specs.Prelude.{Ok, Err}
use Rattle.sets.specs.Pick.{pick, both}
use Rattle.sets.proofs.Finding.{first-true, first-before}
use Rattle.sets.proofs.Deciding.{never, both_true}
use Rattle.gates.specs.Limits.{most_qubits, most_couplers}
use Rattle.gates.specs.Layout.{kind_in, a_in, b_in, gate_of, cnot_of, rotation_of, x_of, is_bad, with_ends, no_coupler, coupler_of, is_wrong}
use Rattle.gates.specs.Hadamards.{is_hadamard}
use Rattle.gates.specs.declared.gate.Gate.{Gate}
use Rattle.gates.specs.declared.gate.Gate.TheVariants.{Cnot, Rotation, X, Bad}
use Rattle.verdicts.specs.declared.verdict.Refusal.TheVariants.{Qubits, ManyCouplers, WrongCoupler, BadGate}
use Rattle.verdicts.specs.Verdicts.{Verdict, number_of, place_of, first_failing, judged_qubits, wrong_at, judged_couplers, bad_at, judged_gates, is_neither, neither_at, judged_drawn}
use Rattle.verdicts.specs.InOrder.{and_then}
use Rattle.verdicts.specs.Rows.{Row, Nowhere, Some, None, First, Passes1, Passes2, WrongRecord, Passes3, BadRecord, Passes5, BadDrawn, PassesDrawn}
use Rattle.verdicts.proofs.Judged.{zero-accepted, then-on, then-stop}

-- the verdict of a test: 0 where it is passed, else k; never both
pub record Tests (v : Verdict) (k : ℕ) (Pass Fail : Type 0) (At : ℕ → Type 0) : Type 0 where
  pub decided : ((number_of v ≡ 0) × Pass) ⊎ ((number_of v ≡ k) × Fail × At (place_of v))
  pub apart : Pass → Fail → ⊥
  pub refuses : 0 < k

module _ {v : Verdict} {k : ℕ} {Pass Fail : Type 0} {At : ℕ → Type 0} (t : Tests v k Pass Fail At) where
  pub test-passed : Pass → number_of v ≡ 0
  test-passed p = go t.decided
    where
      go : ((number_of v ≡ 0) × Pass) ⊎ ((number_of v ≡ k) × Fail × At (place_of v)) → number_of v ≡ 0
      go (inl d) = d.0
      go (inr d) = absurd (t.apart p d.1)

  -- a test by itself

  pub row-fails : Row v k Fail At
  row-fails = record { exactly = (λ e. (only e t.decided).0, λ f. always f t.decided); place = λ e. (only e t.decided).1 }
    where
      only : number_of v ≡ k → ((number_of v ≡ 0) × Pass) ⊎ ((number_of v ≡ k) × Fail × At (place_of v)) → Fail × At (place_of v)
      only e (inl d) = absurd (omega (arith, e, d.0, t.refuses))
      only e (inr d) = (d.1, d.2)

      always : Fail → ((number_of v ≡ 0) × Pass) ⊎ ((number_of v ≡ k) × Fail × At (place_of v)) → number_of v ≡ k
      always f (inl d) = absurd (t.apart d.1 f)
      always f (inr d) = d.0

  pub row-passes : Row v 0 Pass Nowhere
  row-passes = record { exactly = (λ e. only e t.decided, test-passed); place = λ e. ap place_of (zero-accepted v e) }
    where
      only : number_of v ≡ 0 → ((number_of v ≡ 0) × Pass) ⊎ ((number_of v ≡ k) × Fail × At (place_of v)) → Pass
      only e (inl d) = d.1
      only e (inr d) = absurd (omega (arith, e, d.0, t.refuses))

  -- before another test w

  module _ (w : Verdict) where
    passed_on : Pass → w ≡ and_then v w
    passed_on p = then-on v w (test-passed p)

    stopped : number_of v ≡ k → v ≡ and_then v w
    stopped e = then-stop v w (λ z. omega (arith, e, z, t.refuses))

    -- a row of w, of those that pass here
    pub row-then : (j : ℕ) {When : Type 0} {There : ℕ → Type 0} → j ≢ k → (Pass → Row w j When There) → Row (and_then v w) j (Pass × When) There
    row-then j {When} {There} ne r = record { exactly = (λ e. let d = only e t.decided in (d.0, d.1), always); place = λ e. (only e t.decided).2 }
      where
        only : number_of (and_then v w) ≡ j → ((number_of v ≡ 0) × Pass) ⊎ ((number_of v ≡ k) × Fail × At (place_of v)) → Pass × When × There (place_of (and_then v w))
        only e (inl (z, p)) =
            let here : number_of w ≡ j = ap number_of (passed_on p) ∙ e in
            (p, (r p).exactly.0 here, subst (λ (u : Verdict). There (place_of u)) (passed_on p) ((r p).place here))
        only e (inr d) = absurd (ne (sym e ∙ sym (ap number_of (stopped d.0)) ∙ d.0))

        always : Pass × When → number_of (and_then v w) ≡ j
        always (p, q) = sym (ap number_of (passed_on p)) ∙ (r p).exactly.1 q

    -- the row of this test, where no later one answers its number
    pub row_first : (Pass → number_of w ≢ k) → Row (and_then v w) k Fail At
    row_first other = record { exactly = (λ e. (only e t.decided).0, always); place = λ e. (only e t.decided).1 }
      where
        only : number_of (and_then v w) ≡ k → ((number_of v ≡ 0) × Pass) ⊎ ((number_of v ≡ k) × Fail × At (place_of v)) → Fail × At (place_of (and_then v w))
        only e (inl (z, p)) = absurd (other p (ap number_of (passed_on p) ∙ e))
        only e (inr d) = (d.1, subst (λ (u : Verdict). At (place_of u)) (stopped d.0) d.2)

        always : Fail → number_of (and_then v w) ≡ k
        always f = let e = row-fails.exactly.1 f in sym (ap number_of (stopped e)) ∙ e

-- ---- later tests answer later numbers

-- v accepts, or answers a number above j
abbrev pub Beyond : ℕ → Verdict → Type 0
Beyond j v = (number_of v ≡ 0) ⊎ (j < number_of v)

pub beyond-not : (j : ℕ) (v : Verdict) → 0 < j → Beyond j v → number_of v ≢ j
beyond-not j v h (inl z) e = omega (arith, h, z, e)
beyond-not j v h (inr l) e = omega (arith, l, e)

module _ {v : Verdict} {k : ℕ} {Pass Fail : Type 0} {At : ℕ → Type 0} (t : Tests v k Pass Fail At) (j : ℕ) (h : j < k) where
  pub beyond-test : Beyond j v
  beyond-test = go t.decided
    where
      go : ((number_of v ≡ 0) × Pass) ⊎ ((number_of v ≡ k) × Fail × At (place_of v)) → Beyond j v
      go (inl d) = inl d.0
      go (inr d) = inr (omega (arith, h, d.0))

  pub beyond-then : (w : Verdict) → (Pass → Beyond k w) → Beyond j (and_then v w)
  beyond-then w b = go t.decided
    where
      later : Beyond k w → Beyond j w
      later (inl z) = inl z
      later (inr l) = inr (omega (arith, h, l))

      go : ((number_of v ≡ 0) × Pass) ⊎ ((number_of v ≡ k) × Fail × At (place_of v)) → Beyond j (and_then v w)
      go (inl (z, p)) = subst (Beyond j) (then-on v w z) (later (b p))
      go (inr d) = inr (omega (arith, h, sym (ap number_of (then-stop v w (λ z. omega (arith, z, d.0, t.refuses)))) ∙ d.0))

-- ---- two kinds of test

-- "more than": m is the most
pub limit-tests : (m c : ℕ) (v : Verdict) → 0 < number_of v → place_of v ≡ 0 → Tests (pick (ltb m c) v (Ok tt)) (number_of v) (c ≤ m) (m < c) Nowhere
limit-tests m c v h e = record { decided = go (ltb m c) refl; apart = λ (l : c ≤ m) (g : m < c). omega arith; refuses = h }
  where
    go : (b : Bool) → ltb m c ≡ b → ((number_of (pick b v (Ok tt)) ≡ 0) × (c ≤ m)) ⊎ ((number_of (pick b v (Ok tt)) ≡ number_of v) × (m < c) × Nowhere (place_of (pick b v (Ok tt))))
    go true q = inr (refl, ltb-true m c q, e)
    go false q = inl (refl, ltb-false m c q)

-- "first such": the records of a list that a test fails
module _ (fails : ℕ → Bool) (Such : ℕ → Type 0) (such : (x : ℕ) → fails x ≡ true → Such x) (not-such : (x : ℕ) → fails x ≡ false → Such x → ⊥) (xs : List ℕ) where
  at : ℕ
  at = first_failing fails xs

  here : at < length xs → Such (get_or xs at 0)
  unfolding at first_failing
  here l = such (get_or xs at 0) (first-true (λ k. fails (get_or xs k 0)) (length xs) 0 (omega arith))

  none_before : (i : ℕ) → i < at → Such (get_or xs i 0) → ⊥
  unfolding at first_failing
  none_before i l = not-such (get_or xs i 0) (first-before (λ k. fails (get_or xs k 0)) (length xs) 0 i (omega arith) l)

  pub first-tests : (k : ℕ) (v : Verdict) → 0 < k → number_of v ≡ k → place_of v ≡ first_failing fails xs
      → Tests (pick (ltb (first_failing fails xs) (length xs)) v (Ok tt)) k (None Such xs) (Some Such xs) (First Such xs)
  unfolding at
  first-tests k v h n e = record { decided = go (ltb at (length xs)) refl; apart = λ none some. none some.0 some.1 some.2; refuses = h }
    where
      go : (b : Bool) → ltb at (length xs) ≡ b
          → ((number_of (pick b v (Ok tt)) ≡ 0) × None Such xs) ⊎ ((number_of (pick b v (Ok tt)) ≡ k) × Some Such xs × First Such xs (place_of (pick b v (Ok tt))))
      go true q =
          let l : at < length xs = ltb-true at (length xs) q in
          inr (n, (at, l, here l), subst (First Such xs) (sym e) (record { within = l; such = here l; before = none_before }))
      go false q = let l : length xs ≤ at = ltb-false at (length xs) q in inl (refl, λ i g. none_before i (omega arith))

-- ---- tests 1, 2, 3 and 5

pub tests-1 : (n : ℕ) → Tests (judged_qubits n) 1 (Passes1 n) (Passes1 n → ⊥) Nowhere
unfolding judged_qubits
tests-1 n = record { decided = go (leb 1 n) (leb n most_qubits) refl refl; apart = λ p f. f p; refuses = omega arith }
  where
    go : (a b : Bool) → leb 1 n ≡ a → leb n most_qubits ≡ b
        → let v = pick (both a b) (Ok tt) (Err Qubits) in ((number_of v ≡ 0) × Passes1 n) ⊎ ((number_of v ≡ 1) × (Passes1 n → ⊥) × Nowhere (place_of v))
    go true true p q = inl (refl, (leb-true 1 n p, leb-true n most_qubits q))
    go true false p q = inr (refl, λ s. omega (arith, leb-false n most_qubits q, s.1), refl)
    go false b p q = inr (refl, λ s. omega (arith, leb-false 1 n p, s.0), refl)

-- a record that is no coupler, and one that is

module _ (n x : ℕ) where
  wrong-said : is_wrong (coupler_of n x) ≡ true → WrongRecord n x
  unfolding coupler_of
  wrong-said = go (eqb (kind_in x) 0) (ltb (a_in x) n) (ltb (b_in x) n) (eqb (a_in x) (b_in x)) refl refl refl refl
    where
      go : (k a b s : Bool) → eqb (kind_in x) 0 ≡ k → ltb (a_in x) n ≡ a → ltb (b_in x) n ≡ b → eqb (a_in x) (b_in x) ≡ s
          → is_wrong (pick k (pick a (pick b (pick s no_coupler (with_ends (a_in x) (b_in x))) no_coupler) no_coupler) no_coupler) ≡ true → WrongRecord n x
      go false a b s p q r t e = inl (eqb-false (kind_in x) 0 p)
      go true false b s p q r t e = inr (inl (ltb-false (a_in x) n q))
      go true true false s p q r t e = inr (inr (inl (ltb-false (b_in x) n r)))
      go true true true true p q r t e = inr (inr (inr (eqb-true (a_in x) (b_in x) t)))
      go true true true false p q r t e = absurd (never e refl)

  right-said : is_wrong (coupler_of n x) ≡ false → WrongRecord n x → ⊥
  unfolding coupler_of
  right-said = go (eqb (kind_in x) 0) (ltb (a_in x) n) (ltb (b_in x) n) (eqb (a_in x) (b_in x)) refl refl refl refl
    where
      go : (k a b s : Bool) → eqb (kind_in x) 0 ≡ k → ltb (a_in x) n ≡ a → ltb (b_in x) n ≡ b → eqb (a_in x) (b_in x) ≡ s
          → is_wrong (pick k (pick a (pick b (pick s no_coupler (with_ends (a_in x) (b_in x))) no_coupler) no_coupler) no_coupler) ≡ false → WrongRecord n x → ⊥
      go false a b s p q r t e w = never refl e
      go true false b s p q r t e w = never refl e
      go true true false s p q r t e w = never refl e
      go true true true true p q r t e w = never refl e
      go true true true false p q r t e (inl w) = w (eqb-true (kind_in x) 0 p)
      go true true true false p q r t e (inr (inl w)) = omega (arith, w, ltb-true (a_in x) n q)
      go true true true false p q r t e (inr (inr (inl w))) = omega (arith, w, ltb-true (b_in x) n r)
      go true true true false p q r t e (inr (inr (inr w))) = eqb-false (a_in x) (b_in x) t w

  -- the gate of the record, by what its tests say
  abbrev decided : Bool → Bool → Bool → Bool → Bool → Bool → Bool → Gate
  decided k l m a b s z =
      pick k (pick a (pick b (pick s Bad (Cnot (a_in x) (b_in x))) Bad) Bad) (pick l (pick a (Rotation (a_in x) (b_in x)) Bad) (pick m (pick a (pick z (X (a_in x)) Bad) Bad) Bad))

  bad-said : is_bad (gate_of n x) ≡ true → BadRecord n x
  unfolding gate_of cnot_of rotation_of x_of
  bad-said = go (eqb (kind_in x) 1) (eqb (kind_in x) 2) (eqb (kind_in x) 3) (ltb (a_in x) n) (ltb (b_in x) n) (eqb (a_in x) (b_in x)) (eqb (b_in x) 0) refl refl refl refl refl refl refl
    where
      go : (k l m a b s z : Bool) → eqb (kind_in x) 1 ≡ k → eqb (kind_in x) 2 ≡ l → eqb (kind_in x) 3 ≡ m → ltb (a_in x) n ≡ a → ltb (b_in x) n ≡ b → eqb (a_in x) (b_in x) ≡ s → eqb (b_in x) 0 ≡ z
          → is_bad (decided k l m a b s z) ≡ true → BadRecord n x
      go false false false a b s z k l m q r t o e = inl (eqb-false (kind_in x) 1 k, eqb-false (kind_in x) 2 l, eqb-false (kind_in x) 3 m)
      go false false true false b s z k l m q r t o e = inr (inl (ltb-false (a_in x) n q))
      go false false true true b s false k l m q r t o e = inr (inr (inr (eqb-true (kind_in x) 3 m, eqb-false (b_in x) 0 o)))
      go false false true true b s true k l m q r t o e = absurd (never e refl)
      go false true m' false b s z k l m q r t o e = inr (inl (ltb-false (a_in x) n q))
      go false true m' true b s z k l m q r t o e = absurd (never e refl)
      go true l' m' false b s z k l m q r t o e = inr (inl (ltb-false (a_in x) n q))
      go true l' m' true false s z k l m q r t o e = inr (inr (inl (eqb-true (kind_in x) 1 k, inl (ltb-false (b_in x) n r))))
      go true l' m' true true true z k l m q r t o e = inr (inr (inl (eqb-true (kind_in x) 1 k, inr (eqb-true (a_in x) (b_in x) t))))
      go true l' m' true true false z k l m q r t o e = absurd (never e refl)

  good-said : is_bad (gate_of n x) ≡ false → BadRecord n x → ⊥
  unfolding gate_of cnot_of rotation_of x_of
  good-said = go (eqb (kind_in x) 1) (eqb (kind_in x) 2) (eqb (kind_in x) 3) (ltb (a_in x) n) (ltb (b_in x) n) (eqb (a_in x) (b_in x)) (eqb (b_in x) 0) refl refl refl refl refl refl refl
    where
      go : (k l m a b s z : Bool) → eqb (kind_in x) 1 ≡ k → eqb (kind_in x) 2 ≡ l → eqb (kind_in x) 3 ≡ m → ltb (a_in x) n ≡ a → ltb (b_in x) n ≡ b → eqb (a_in x) (b_in x) ≡ s → eqb (b_in x) 0 ≡ z
          → is_bad (decided k l m a b s z) ≡ false → BadRecord n x → ⊥
      go false false false a b s z k l m q r t o e w = never refl e
      go false false true false b s z k l m q r t o e w = never refl e
      go false false true true b s false k l m q r t o e w = never refl e
      go false false true true b s true k l m q r t o e (inl w) = w.2 (eqb-true (kind_in x) 3 m)
      go false false true true b s true k l m q r t o e (inr (inl w)) = omega (arith, w, ltb-true (a_in x) n q)
      go false false true true b s true k l m q r t o e (inr (inr (inl w))) = eqb-false (kind_in x) 1 k w.0
      go false false true true b s true k l m q r t o e (inr (inr (inr w))) = w.1 (eqb-true (b_in x) 0 o)
      go false true m' false b s z k l m q r t o e w = never refl e
      go false true m' true b s z k l m q r t o e (inl w) = w.1 (eqb-true (kind_in x) 2 l)
      go false true m' true b s z k l m q r t o e (inr (inl w)) = omega (arith, w, ltb-true (a_in x) n q)
      go false true m' true b s z k l m q r t o e (inr (inr (inl w))) = eqb-false (kind_in x) 1 k w.0
      go false true m' true b s z k l m q r t o e (inr (inr (inr w))) = omega (arith, w.0, eqb-true (kind_in x) 2 l)
      go true l' m' false b s z k l m q r t o e w = never refl e
      go true l' m' true false s z k l m q r t o e w = never refl e
      go true l' m' true true true z k l m q r t o e w = never refl e
      go true l' m' true true false z k l m q r t o e (inl w) = w.0 (eqb-true (kind_in x) 1 k)
      go true l' m' true true false z k l m q r t o e (inr (inl w)) = omega (arith, w, ltb-true (a_in x) n q)
      go true l' m' true true false z k l m q r t o e (inr (inr (inl (c, inl w)))) = omega (arith, w, ltb-true (b_in x) n r)
      go true l' m' true true false z k l m q r t o e (inr (inr (inl (c, inr w)))) = eqb-false (a_in x) (b_in x) t w
      go true l' m' true true false z k l m q r t o e (inr (inr (inr w))) = omega (arith, w.0, eqb-true (kind_in x) 1 k)

  -- a record that may be a Hadamard too

  -- what is bad of a job is bad of a stretch
  drawn-record : BadDrawn n x → BadRecord n x
  drawn-record (inl (a, b, c, d)) = inl (a, b, c)
  drawn-record (inr (inl w)) = inr (inl w)
  drawn-record (inr (inr (inl w))) = inr (inr (inl w))
  drawn-record (inr (inr (inr (inl k, z)))) = inr (inr (inr (k, z)))
  drawn-record (inr (inr (inr (inr k, z)))) = inl (λ e. omega (arith, e, k), λ e. omega (arith, e, k), λ e. omega (arith, e, k))

  -- what is bad of a stretch is bad of a job, or a Hadamard
  record-drawn : BadRecord n x → is_hadamard n x ≡ false → BadDrawn n x
  unfolding is_hadamard
  record-drawn (inl (a, b, c)) e = go (eqb (kind_in x) 4) (ltb (a_in x) n) (eqb (b_in x) 0) refl refl refl e
    where
      go : (k q z : Bool) → eqb (kind_in x) 4 ≡ k → ltb (a_in x) n ≡ q → eqb (b_in x) 0 ≡ z → both k (both q z) ≡ false → BadDrawn n x
      go false q z k l o e = inl (a, b, c, eqb-false (kind_in x) 4 k)
      go true false z k l o e = inr (inl (ltb-false (a_in x) n l))
      go true true false k l o e = inr (inr (inr (inr (eqb-true (kind_in x) 4 k), eqb-false (b_in x) 0 o)))
      go true true true k l o e = absurd (never refl e)
  record-drawn (inr (inl w)) e = inr (inl w)
  record-drawn (inr (inr (inl w))) e = inr (inr (inl w))
  record-drawn (inr (inr (inr (k, z)))) e = inr (inr (inr (inl k, z)))

  -- a Hadamard is not bad of a job
  hadamard-said : is_hadamard n x ≡ true → BadDrawn n x → ⊥
  unfolding is_hadamard
  hadamard-said e =
      let h = both_true (eqb (kind_in x) 4) (both (ltb (a_in x) n) (eqb (b_in x) 0)) e in
      let g = both_true (ltb (a_in x) n) (eqb (b_in x) 0) h.1 in
      go (eqb-true (kind_in x) 4 h.0) (ltb-true (a_in x) n g.0) (eqb-true (b_in x) 0 g.1)
    where
      go : kind_in x ≡ 4 → a_in x < n → b_in x ≡ 0 → BadDrawn n x → ⊥
      go k l z (inl w) = w.3 k
      go k l z (inr (inl w)) = omega (arith, w, l)
      go k l z (inr (inr (inl w))) = omega (arith, w.0, k)
      go k l z (inr (inr (inr w))) = w.1 z

  neither-said : is_neither n x ≡ true → BadDrawn n x
  unfolding is_neither
  neither-said e =
      let h = both_true (is_bad (gate_of n x)) (not (is_hadamard n x)) e in
      record-drawn (bad-said h.0) (not-true (is_hadamard n x) h.1)

  either-said : is_neither n x ≡ false → BadDrawn n x → ⊥
  unfolding is_neither
  either-said = go (is_bad (gate_of n x)) (is_hadamard n x) refl refl
    where
      go : (b h : Bool) → is_bad (gate_of n x) ≡ b → is_hadamard n x ≡ h → both b (not h) ≡ false → BadDrawn n x → ⊥
      go false h b i e w = good-said b (drawn-record w)
      go true true b i e w = hadamard-said i w
      go true false b i e w = never refl e

-- 2 and 3 apart

abbrev pub judged_many : List ℕ → Verdict
judged_many xs = pick (ltb most_couplers (length xs)) (Err ManyCouplers) (Ok tt)

abbrev pub judged_wrong : ℕ → List ℕ → Verdict
judged_wrong n xs = pick (ltb (wrong_at n xs) (length xs)) (Err (WrongCoupler (wrong_at n xs))) (Ok tt)

pub couplers-parted : (n : ℕ) (xs : List ℕ) → and_then (judged_many xs) (judged_wrong n xs) ≡ judged_couplers n xs
unfolding judged_couplers
couplers-parted n xs = go (ltb most_couplers (length xs))
  where
    go : (b : Bool) → and_then (pick b (Err ManyCouplers) (Ok tt)) (judged_wrong n xs) ≡ pick b (Err ManyCouplers) (judged_wrong n xs)
    go true = refl
    go false = refl

pub tests-2 : (xs : List ℕ) → Tests (judged_many xs) 2 (Passes2 xs) (most_couplers < length xs) Nowhere
tests-2 xs = limit-tests most_couplers (length xs) (Err ManyCouplers) (omega arith) refl

pub tests-3 : (n : ℕ) (xs : List ℕ) → Tests (judged_wrong n xs) 3 (Passes3 n xs) (Some (WrongRecord n) xs) (First (WrongRecord n) xs)
unfolding wrong_at
tests-3 n xs = first-tests (λ x. is_wrong (coupler_of n x)) (WrongRecord n) (wrong-said n) (right-said n) xs 3 (Err (WrongCoupler (wrong_at n xs))) (omega arith) refl refl

pub couplers-passed : (n : ℕ) (xs : List ℕ) → Passes2 xs → Passes3 n xs → number_of (judged_couplers n xs) ≡ 0
couplers-passed n xs p2 p3 = sym (ap number_of (then-on (judged_many xs) (judged_wrong n xs) (test-passed (tests-2 xs) p2) ∙ couplers-parted n xs)) ∙ test-passed (tests-3 n xs) p3

pub tests-5 : (n : ℕ) (xs : List ℕ) → Tests (judged_gates n xs) 5 (Passes5 n xs) (Some (BadRecord n) xs) (First (BadRecord n) xs)
unfolding judged_gates bad_at
tests-5 n xs = first-tests (λ x. is_bad (gate_of n x)) (BadRecord n) (bad-said n) (good-said n) xs 5 (Err (BadGate (bad_at n xs))) (omega arith) refl refl

pub tests-drawn : (n : ℕ) (xs : List ℕ) → Tests (judged_drawn n xs) 5 (PassesDrawn n xs) (Some (BadDrawn n) xs) (First (BadDrawn n) xs)
unfolding judged_drawn neither_at
tests-drawn n xs = first-tests (is_neither n) (BadDrawn n) (neither-said n) (either-said n) xs 5 (Err (BadGate (neither_at n xs))) (omega arith) refl refl
