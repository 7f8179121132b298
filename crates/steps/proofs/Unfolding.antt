-- The two steps unfolded: each law is what a return of the code asks. Assumes nothing.
use mathlib.Core.Path.{◌≡◌, refl, sym, ap, ◌∙◌, subst}
use mathlib.Core.Logic.{◌≢◌}
use mathlib.Core.Bool.{Bool}
use mathlib.Core.List.{List}
use Prim.Native.Nat.{ℕ, zero, suc, ◌-◌}
use native.Mathlib.Omega.{arith}
use lib.Dec.{eqb}
use borrow.Author.Tests.{eq-eqb, ne_eqb}
use Rattle.sets.specs.Pick.{pick}
use Rattle.columns.specs.Pieces.{Piece, idle, followed_by, Memory, held, wrote}
use Rattle.columns.specs.Turning.{lay_cnot}
use Rattle.columns.specs.Striking.{strike_off}
use Rattle.columns.specs.Worked.{Worked}
use Rattle.columns.specs.declared.work.Work.{Work}
use Rattle.columns.proofs.Working.{same-then}
use Rattle.columns.proofs.Piecing.{wrote_none, wrote_on}
use Rattle.steps.specs.Selection.{count_of, zeros_of, ones_of, row_of}
use Rattle.steps.specs.Choice.{sparing, without, partner}
use Rattle.steps.specs.Steps.{crossed, moved, Step, ones_step, base_step}

-- ---- the CNOTs of a ones step

module _ (r m n : ℕ) (xs : List ℕ) where
  pub crossed-none : n ≡ 0 → crossed r m n xs ≡ followed_by (lay_cnot m r xs) (lay_cnot r m)
  unfolding crossed
  crossed-none e = ap (λ (b : Bool). pick b (followed_by (lay_cnot m r xs) (lay_cnot r m)) (lay_cnot r m xs)) (eq-eqb n 0 e)

  pub crossed-some : n ≢ 0 → crossed r m n xs ≡ lay_cnot r m xs
  unfolding crossed
  crossed-some e = ap (λ (b : Bool). pick b (followed_by (lay_cnot m r xs) (lay_cnot r m)) (lay_cnot r m xs)) (ne_eqb n 0 e)

  pub crossed-twice : (out : List ℕ) (at : ℕ) {ys o : List ℕ} {a : ℕ} {w : Memory} → n ≡ 0 → held ys o a ≡ wrote out at (lay_cnot m r xs) → w ≡ wrote o a (lay_cnot r m ys) → w ≡ wrote out at (crossed r m n xs)
  crossed-twice out at e h g = wrote_on out at (lay_cnot m r xs) (lay_cnot r m) h g ∙ ap (wrote out at) (sym (crossed-none e))

  pub crossed-once : (out : List ℕ) (at : ℕ) {w : Memory} → n ≢ 0 → w ≡ wrote out at (lay_cnot r m xs) → w ≡ wrote out at (crossed r m n xs)
  crossed-once out at e g = g ∙ ap (wrote out at) (sym (crossed-some e))

  pub moved_on : (angles out : List ℕ) (at : ℕ) {ys o : List ℕ} {a : ℕ} {w : Memory} → held ys o a ≡ wrote out at (crossed r m n xs) → w ≡ wrote o a (strike_off angles ys) → w ≡ wrote out at (moved angles r m n xs)
  unfolding moved
  moved_on angles out at h g = wrote_on out at (crossed r m n xs) (strike_off angles) h g

module _ (r m n : ℕ) {w v u : Work} where
  pub crossed-both : n ≡ 0 → Worked w v (lay_cnot m r w.cols.now) → Worked v u (lay_cnot r m v.cols.now) → Worked w u (crossed r m n w.cols.now)
  crossed-both e a b = record { same = same-then a.same b.same; memory = crossed-twice r m n w.cols.now w.out.now w.at e a.memory b.memory }

  pub crossed-straight : n ≢ 0 → v ≡ w → Worked v u (lay_cnot r m v.cols.now) → Worked w u (crossed r m n w.cols.now)
  crossed-straight ne e b =
      subst (λ (x : Work). Worked x u (crossed r m n x.cols.now)) e (record { same = b.same; memory = crossed-once r m n v.cols.now v.out.now v.at ne b.memory })

-- ---- the base step

module _ (near angles : List ℕ) (Q : ℕ) (sel : List Bool) (xs : List ℕ) where
  -- what follows where a qubit r is chosen
  unfoldable pub base_on : ℕ → ℕ → Piece
  base_on q r =
      followed_by (base_step q near angles (without Q r) (zeros_of r sel xs) xs) (λ ys. ones_step (count_of (ones_of r sel xs)) (base_step q near angles) near angles Q r (ones_of r sel xs) ys)

  pub base-zero : base_step 0 near angles Q sel xs ≡ idle xs
  unfolding base_step
  base-zero = refl

  base_step_lem : (q : ℕ) → base_step (suc q) near angles Q sel xs ≡ pick (eqb (count_of sel) 0) (idle xs) (base_on q (sparing near Q sel xs))
  unfolding base_step base_on
  base_step_lem q = refl

  pub base-idle : (q : ℕ) → count_of sel ≡ 0 → base_step q near angles Q sel xs ≡ idle xs
  base-idle zero e = base-zero
  base-idle (suc q) e = base_step_lem q ∙ ap (λ (b : Bool). pick b (idle xs) (base_on q (sparing near Q sel xs))) (eq-eqb (count_of sel) 0 e)

  pub base_on_lem : (q : ℕ) → count_of sel ≢ 0 → base_step (suc q) near angles Q sel xs ≡ base_on q (sparing near Q sel xs)
  base_on_lem q n = base_step_lem q ∙ ap (λ (b : Bool). pick b (idle xs) (base_on q (sparing near Q sel xs))) (ne_eqb (count_of sel) 0 n)

  -- as the code returns
  module _ (out : List ℕ) (at q : ℕ) where
    pub base-returns-zero : q ≡ 0 → held xs out at ≡ wrote out at (base_step q near angles Q sel xs)
    base-returns-zero e = wrote_none out at xs ∙ ap (wrote out at) (sym (ap (λ (k : ℕ). base_step k near angles Q sel xs) e ∙ base-zero))

    pub base-returns-none : count_of sel ≡ 0 → held xs out at ≡ wrote out at (base_step q near angles Q sel xs)
    base-returns-none e = wrote_none out at xs ∙ ap (wrote out at) (sym (base-idle q e))

    module _ (r : ℕ) (er : r ≡ sparing near Q sel xs) (n : count_of sel ≢ 0) (nq : q ≢ 0) (s : ℕ) (z p : List Bool) (es : s ≡ without Q r) (ez : z ≡ zeros_of r sel xs) (ep : p ≡ ones_of r sel xs) where
      whole : base_step q near angles Q sel xs ≡ followed_by (base_step (q - 1) near angles s z xs) (λ ys. ones_step (count_of p) (base_step (q - 1) near angles) near angles Q r p ys)
      unfolding base_on
      whole =
          let d : q ≡ suc (q - 1) = omega arith in
          ap (λ (k : ℕ). base_step k near angles Q sel xs) d ∙ base_on_lem (q - 1) n ∙ rw (es, ez, ep) (ap (base_on (q - 1)) (sym er))

      pub base-returns-on : {ys o : List ℕ} {a k : ℕ} {w : Memory} → held ys o a ≡ wrote out at (base_step (q - 1) near angles s z xs) → k ≡ count_of p
          → w ≡ wrote o a (ones_step k (base_step (q - 1) near angles) near angles Q r p ys) → w ≡ wrote out at (base_step q near angles Q sel xs)
      base-returns-on {ys} {o} {a} {k} e ek h =
          wrote_on out at _ (λ ys. ones_step (count_of p) (base_step (q - 1) near angles) near angles Q r p ys) e
          (h ∙ ap (λ (i : ℕ). wrote o a (ones_step i (base_step (q - 1) near angles) near angles Q r p ys)) ek) ∙ ap (wrote out at) (sym whole)

-- ---- the ones step; below it stands any step

module _ (below : Step) (near angles : List ℕ) (Q r : ℕ) (sel : List Bool) (xs : List ℕ) where
  -- what follows behind the CNOTs, at the columns ys
  unfoldable pub ones_then : ℕ → List ℕ → Piece
  ones_then n ys = followed_by (below (without Q r) (zeros_of r sel ys) ys) (λ zs. ones_step n below near angles Q r (ones_of r sel ys) zs)

  -- what follows where a neighbour m is chosen
  unfoldable pub ones_on : ℕ → ℕ → Piece
  ones_on n m = followed_by (moved angles r m (row_of sel xs m) xs) (ones_then n)

  pub ones-zero : ones_step 0 below near angles Q r sel xs ≡ idle xs
  unfolding ones_step
  ones-zero = refl

  ones_step_lem : (n : ℕ) → ones_step (suc n) below near angles Q r sel xs ≡ pick (eqb (count_of sel) 0) (idle xs) (ones_on n (partner near Q r sel xs))
  unfolding ones_step ones_on ones_then
  ones_step_lem n = refl

  pub ones-idle : (n : ℕ) → count_of sel ≡ 0 → ones_step n below near angles Q r sel xs ≡ idle xs
  ones-idle zero e = ones-zero
  ones-idle (suc n) e = ones_step_lem n ∙ ap (λ (b : Bool). pick b (idle xs) (ones_on n (partner near Q r sel xs))) (eq-eqb (count_of sel) 0 e)

  pub ones-on : (n : ℕ) → count_of sel ≢ 0 → ones_step (suc n) below near angles Q r sel xs ≡ ones_on n (partner near Q r sel xs)
  ones-on n ne = ones_step_lem n ∙ ap (λ (b : Bool). pick b (idle xs) (ones_on n (partner near Q r sel xs))) (ne_eqb (count_of sel) 0 ne)

  module _ (out : List ℕ) (at n : ℕ) where
    pub ones-returns-zero : n ≡ 0 → held xs out at ≡ wrote out at (ones_step n below near angles Q r sel xs)
    ones-returns-zero e = wrote_none out at xs ∙ ap (wrote out at) (sym (ap (λ (k : ℕ). ones_step k below near angles Q r sel xs) e ∙ ones-zero))

    pub ones-returns-none : count_of sel ≡ 0 → held xs out at ≡ wrote out at (ones_step n below near angles Q r sel xs)
    ones-returns-none e = wrote_none out at xs ∙ ap (wrote out at) (sym (ones-idle n e))

    module _ (m : ℕ) (em : m ≡ partner near Q r sel xs) (ne : count_of sel ≢ 0) (nn : n ≢ 0) (k : ℕ) (ek : k ≡ row_of sel xs m) {ys o : List ℕ} {a : ℕ} (e : held ys o a ≡ wrote out at (moved angles r m k xs)) where
      -- from the columns ys and the place a on
      onward : {w : Memory} → w ≡ wrote o a (ones_then (n - 1) ys) → w ≡ wrote out at (ones_step n below near angles Q r sel xs)
      unfolding ones_on
      onward h =
          let d : suc (n - 1) ≡ n = omega arith in
          wrote_on out at (moved angles r m k xs) (ones_then (n - 1)) e h
          ∙ ap (λ (i : ℕ). wrote out at (followed_by (moved angles r m i xs) (ones_then (n - 1)))) ek
          ∙ ap (λ (i : ℕ). wrote out at (ones_on (n - 1) i)) em ∙ ap (wrote out at) (sym (ones-on (n - 1) ne) ∙ ap (λ (j : ℕ). ones_step j below near angles Q r sel xs) d)

      module _ (s : ℕ) (z p : List Bool) (es : s ≡ without Q r) (ez : z ≡ zeros_of r sel ys) (ep : p ≡ ones_of r sel ys) where
        pub ones-returns-on : {zs o' : List ℕ} {b : ℕ} {w : Memory} → held zs o' b ≡ wrote o a (below s z ys) → w ≡ wrote o' b (ones_step (n - 1) below near angles Q r p zs)
            → w ≡ wrote out at (ones_step n below near angles Q r sel xs)
        unfolding ones_then
        ones-returns-on h g = onward (wrote_on o a (below s z ys) (λ zs. ones_step (n - 1) below near angles Q r p zs) h g ∙ rw (es, ez, ep))
