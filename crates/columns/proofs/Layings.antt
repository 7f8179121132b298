-- A CNOT with all columns turned, and a column of one qubit struck off, keep what is due; with nothing due any more the terms are laid. Assumes nothing.
use mathlib.Core.Path.{◌≡◌, refl, sym, ap, ap₂, ◌∙◌}
use mathlib.Core.Logic.{◌≢◌}
use mathlib.Core.Bool.{Bool, true, false}
use mathlib.Core.List.{List, [], ◌∷◌, ◌++◌}
use Prim.Native.Nat.{ℕ, zero, suc, ◌+◌, ◌^◌, ◌<◌}
use native.Mathlib.Omega.{arith}
use native.Mathlib.Decide.{ℕ_discrete}
use lib.Dec.{eqb}
use lib.Pow.{pow_pos}
use lib.ListN.{length, get_or, set, length-set}
use lib.Seq.{get_or-set_same, get_or-set_other}
use borrow.Author.Tests.{eqb-true, eqb-false}
use Rattle.sets.specs.Pick.{pick}
use Rattle.sets.specs.Bit.{In, Sub}
use Rattle.sets.specs.Columns.{turn, comb, cnot}
use Rattle.sets.proofs.Members.{in-lt}
use Rattle.sets.proofs.Turn.{turn-zero, turn-none}
use Rattle.sets.proofs.Comb.{comb-turn, comb-pow}
use Rattle.gates.specs.declared.gate.Gate.{Gate}
use Rattle.gates.specs.declared.gate.Gate.TheVariants.{Cnot, Rotation, X, Bad}
use Rattle.circuit.specs.Circuit.{step, run, gives, given}
use Rattle.circuit.proofs.Steps.{step-cnot, step-rotation, gives-cnot, gives-borne, gives_other}
use Rattle.circuit.proofs.Circuits.{run_none, run-cons, run-append, run_length, given-none, given-cons, given-append}
use Rattle.chip.specs.Graph.{Near}
use Rattle.chip.specs.Inside.{Inside}
use Rattle.sets.specs.Tables.{sum_to}
use Rattle.columns.specs.Turning.{turn_all}
use Rattle.columns.specs.Terms.{Small, due, left, live_one, live, Laying}
use Rattle.sets.proofs.Tabling.{sum-ext, sum-strike}
use Rattle.columns.proofs.Turns.{turn-all-length, turn-all-at}
use Rattle.sets.proofs.Lists.{all_none, all_one, all_append, all_map}
use Rattle.tallies.proofs.Tallies.{rotations-append, rotations-none, rotations-cnot, rotations-rotation}

-- ---- what one column is due

pub due-struck : (p : ℕ) (W : List ℕ) (x a : ℕ) → x ≡ 0 → due p W x a ≡ 0
unfolding due
due-struck p W x a e = ap (λ (y : ℕ). due p W y a) e

pub due-is : (p : ℕ) (W : List ℕ) (x a : ℕ) → x ≢ 0 → due p W x a ≡ pick (eqb (comb x W) p) a 0
unfolding due
due-is p W zero a h = absurd (h refl)
due-is p W (suc x) a h = refl

pub live-one : (x : ℕ) → x ≢ 0 → live_one x ≡ 1
live-one zero h = absurd (h refl)
live-one (suc x) h = refl

pub live-none : (x : ℕ) → x ≡ 0 → live_one x ≡ 0
live-none x e = ap live_one e

-- a CNOT turns a column and the wires together
turned-live : (c t x : ℕ) → c ≢ t → x ≢ 0 → turn c t x ≢ 0
turned-live c t x ne h z = h (turn-zero x c t ne z)

due-turned : (p : ℕ) (W : List ℕ) (c t x a : ℕ) → c < 32 → t < length W → c ≢ t → due p (cnot c t W) (turn c t x) a ≡ due p W x a
due-turned p W c t x a lc lt ne = go (ℕ_discrete x 0)
  where
    go : Dec (x ≡ 0) → due p (cnot c t W) (turn c t x) a ≡ due p W x a
    go (yes z) = due-struck p (cnot c t W) (turn c t x) a (ap (turn c t) z ∙ turn-none c t) ∙ sym (due-struck p W x a z)
    go (no h) =
        due-is p (cnot c t W) (turn c t x) a (turned-live c t x ne h)
        ∙ ap (λ (y : ℕ). pick (eqb y p) a 0) (comb-turn W x c t lc ne lt)
        ∙ sym (due-is p W x a h)

live-turned : (c t x : ℕ) → c ≢ t → live_one (turn c t x) ≡ live_one x
live-turned c t x ne = go (ℕ_discrete x 0)
  where
    go : Dec (x ≡ 0) → live_one (turn c t x) ≡ live_one x
    go (yes z) = live-none (turn c t x) (ap (turn c t) z ∙ turn-none c t) ∙ sym (live-none x z)
    go (no h) = live-one (turn c t x) (turned-live c t x ne h) ∙ sym (live-one x h)

gives-pick : (p q a : ℕ) (W : List ℕ) → gives p (Rotation q a) W ≡ pick (eqb (get_or W q 0) p) a 0
gives-pick p q a W = go (eqb (get_or W q 0) p) refl
  where
    go : (b : Bool) → eqb (get_or W q 0) p ≡ b → gives p (Rotation q a) W ≡ pick b a 0
    go true e = gives-borne p q a W (eqb-true (get_or W q 0) p e)
    go false e = gives_other p q a W (eqb-false (get_or W q 0) p e)

-- ---- a list of one gate

given-one : (p : ℕ) (g : Gate) (W : List ℕ) → given p (g ∷ []) W ≡ gives p g W
given-one p g W = given-cons p g [] W ∙ omega (arith, given-none p (step g W))

run-one : (g : Gate) (W : List ℕ) → run (g ∷ []) W ≡ step g W
run-one g W = run-cons g [] W ∙ run_none (step g W)

-- ---- the pieces

module _ (near : List ℕ) (Q : ℕ) (angles : List ℕ) where
  pub laying-none : (xs : List ℕ) → Laying near Q angles xs [] xs
  laying-none xs =
      record {
        size = refl;
        sums = λ W l p. omega (arith, given-none p W, ap (λ (w : List ℕ). left p w angles xs) (run_none W));
        inside = all_none (Inside near Q);
        small = λ h. all_none Small;
        rotations = omega (arith, rotations-none);
      }

  pub laying-then : {xs ys zs : List ℕ} {g h : List Gate} → Laying near Q angles xs g ys → Laying near Q angles ys h zs → Laying near Q angles xs (g ++ h) zs
  laying-then {xs} {ys} {zs} {g} {h} a b =
      record {
        size = b.size ∙ a.size;
        sums = λ W l p.
            let l' : length (run g W) ≡ 20 = run_length g W ∙ l in
            omega (arith, given-append p g h W, a.sums W l p, b.sums (run g W) l' p, ap (λ (w : List ℕ). left p w angles zs) (run-append g h W));
        inside = all_append (Inside near Q) g h a.inside b.inside;
        small = λ s. all_append Small g h (a.small s) (b.small (λ k (l : k < length ys). s k (omega (arith, a.size))));
        rotations = omega (arith, rotations-append g h, a.rotations, b.rotations);
      }

  pub laying-cnot : (xs : List ℕ) (c t : ℕ) → Q < 2 ^ 20 → Near near c t → In c Q → In t Q → c ≢ t → Laying near Q angles xs (Cnot c t ∷ []) (turn_all c t xs)
  unfolding left live Small
  laying-cnot xs c t low n hc ht ne =
      let lc : c < 20 = in-lt 20 Q c low hc in
      let lt : t < 20 = in-lt 20 Q t low ht in
      record {
        size = turn-all-length c t xs;
        sums = λ W l p.
            let z : given p (Cnot c t ∷ []) W ≡ 0 = given-one p (Cnot c t) W ∙ gives-cnot p c t W in
            let e : run (Cnot c t ∷ []) W ≡ cnot c t W = run-one (Cnot c t) W ∙ step-cnot c t W in
            let s : sum_to (length (turn_all c t xs)) (λ k. due p (cnot c t W) (get_or (turn_all c t xs) k 0) (get_or angles k 0)) ≡ sum_to (length xs) (λ k. due p W (get_or xs k 0) (get_or angles k 0)) =
            ap (λ (n : ℕ). sum_to n (λ k. due p (cnot c t W) (get_or (turn_all c t xs) k 0) (get_or angles k 0))) (turn-all-length c t xs)
            ∙ sum-ext (length xs) (λ k. due p (cnot c t W) (get_or (turn_all c t xs) k 0) (get_or angles k 0)) (λ k. due p W (get_or xs k 0) (get_or angles k 0))
            (λ k b. ap (λ (x : ℕ). due p (cnot c t W) x (get_or angles k 0)) (turn-all-at c t xs k) ∙ due-turned p W c t (get_or xs k 0) (get_or angles k 0) (omega arith) (omega (arith, l)) ne) in
            ap₂ (λ (n : ℕ) (w : List ℕ). n + sum_to (length (turn_all c t xs)) (λ k. due p w (get_or (turn_all c t xs) k 0) (get_or angles k 0))) z e ∙ omega (arith, s);
        inside = all_one (Inside near Q) (Cnot c t) (hc, ht, ne, n);
        small = λ h. all_one Small (Cnot c t) tt;
        rotations =
            omega (
              arith,
              rotations-cnot c t,
              ap (λ (n : ℕ). sum_to n (λ k. live_one (get_or (turn_all c t xs) k 0))) (turn-all-length c t xs),
              sum-ext (length xs) (λ k. live_one (get_or (turn_all c t xs) k 0)) (λ k. live_one (get_or xs k 0)) (λ k b. ap live_one (turn-all-at c t xs k) ∙ live-turned c t (get_or xs k 0) ne),
            );
      }

  pub laying-strike : (xs : List ℕ) (k q : ℕ) → k < length xs → get_or xs k 0 ≡ 2 ^ q → In q Q → Laying near Q angles xs (Rotation q (get_or angles k 0) ∷ []) (set xs k 0)
  unfolding left live Small
  laying-strike xs k q l e hq =
      let a : ℕ = get_or angles k 0 in
      let alive : get_or xs k 0 ≢ 0 = λ z. omega (arith, pow_pos q, e) in
      record {
        size = length-set xs k 0;
        sums = λ W lw p.
            let z : given p (Rotation q a ∷ []) W ≡ pick (eqb (get_or W q 0) p) a 0 = given-one p (Rotation q a) W ∙ gives-pick p q a W in
            let r : run (Rotation q a ∷ []) W ≡ W = run-one (Rotation q a) W ∙ step-rotation q a W in
            let d : due p W (get_or xs k 0) a ≡ pick (eqb (get_or W q 0) p) a 0 =
            due-is p W (get_or xs k 0) a alive ∙ ap (λ (y : ℕ). pick (eqb y p) a 0) (ap (λ (x : ℕ). comb x W) e ∙ comb-pow W q) in
            ap (λ (w : List ℕ). given p (Rotation q a ∷ []) W + sum_to (length (set xs k 0)) (λ j. due p w (get_or (set xs k 0) j 0) (get_or angles j 0))) r
            ∙ omega (
              arith,
              z,
              d,
              ap (λ (n : ℕ). sum_to n (λ j. due p W (get_or (set xs k 0) j 0) (get_or angles j 0))) (length-set xs k 0),
              sum-strike (length xs) (λ j. due p W (get_or xs j 0) (get_or angles j 0)) (λ j. due p W (get_or (set xs k 0) j 0) (get_or angles j 0)) k l
                  (due-struck p W (get_or (set xs k 0) k 0) (get_or angles k 0) (get_or-set_same xs k 0 0 l))
                  (λ j ne. ap (λ (x : ℕ). due p W x (get_or angles j 0)) (get_or-set_other xs k j 0 0 ne)),
            );
        inside = all_one (Inside near Q) (Rotation q a) hq;
        small = λ h. all_one Small (Rotation q a) (h k l);
        rotations =
            omega (
              arith,
              rotations-rotation q a,
              live-one (get_or xs k 0) alive,
              ap (λ (n : ℕ). sum_to n (λ j. live_one (get_or (set xs k 0) j 0))) (length-set xs k 0),
              sum-strike (length xs) (λ j. live_one (get_or xs j 0)) (λ j. live_one (get_or (set xs k 0) j 0)) k l
                  (live-none (get_or (set xs k 0) k 0) (get_or-set_same xs k 0 0 l)) (λ j ne. ap live_one (get_or-set_other xs k j 0 0 ne)),
            );
      }

-- what is laid inside a part of Q is laid inside Q
inside-wider : (near : List ℕ) (S Q : ℕ) → Sub S Q → (g : Gate) → Inside near S g → Inside near Q g
inside-wider near S Q f (Cnot c t) (hc, ht, ne, n) = (f c hc, f t ht, ne, n)
inside-wider near S Q f (Rotation q a) h = f q h
inside-wider near S Q f (X q) h = h
inside-wider near S Q f Bad h = h

pub laying-wider : (near : List ℕ) (S Q : ℕ) (angles xs : List ℕ) (g : List Gate) (ys : List ℕ) → Sub S Q → Laying near S angles xs g ys → Laying near Q angles xs g ys
laying-wider near S Q angles xs g ys f a =
    record {
      size = a.size;
      sums = a.sums;
      inside = all_map (Inside near S) (Inside near Q) (inside-wider near S Q f) g a.inside;
      small = a.small;
      rotations = a.rotations;
    }
