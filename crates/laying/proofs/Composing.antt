-- Islands laid one after another: each brings its own wires to what is asked, leaves the others, and gives its own angles. Assumes nothing.
use mathlib.Core.Path.{◌≡◌, refl, sym, ap, ap₂, ◌∙◌, subst}
use mathlib.Core.Logic.{◌⊎◌, inl, inr}
use mathlib.Core.Bool.{Bool, true, false}
use mathlib.Core.List.{List, [], ◌++◌, append-nil}
use Prim.Native.Nat.{ℕ, zero, suc, ◌+◌, ◌^◌, ◌≤◌, ◌<◌}
use native.Mathlib.Omega.{arith}
use native.Mathlib.Decide.{ℕ_discrete}
use lib.ListN.{length, get_or}
use Rattle.sets.specs.Pick.{pick}
use Rattle.sets.specs.Bit.{bit, In}
use Rattle.sets.specs.Size.{lowest_of}
use Rattle.sets.proofs.Bits.{bit-cases}
use Rattle.gates.specs.declared.gate.Gate.{Gate}
use Rattle.circuit.specs.Circuit.{run, start, given}
use Rattle.circuit.specs.Flips.{flip_run, no_flips}
use Rattle.sets.specs.Lists.{All}
use Rattle.circuit.proofs.Circuits.{run_none, run-append, run_length, given-none, given-append, start-length, start-at}
use Rattle.circuit.proofs.Flips.{flip-none, flip-append, flip-length, none-length}
use Rattle.sets.proofs.Lists.{all_none, all_append}
use Rattle.sets.specs.Tables.{sum_to}
use Rattle.laying.specs.Islands.{leads, laid_to}
use Rattle.laying.proofs.Parting.{Parts, on-led, led_on, leader-leads}

-- ---- what gates do to the wires: `act` changes a number for each wire, which is `from` before the first gate

pub record Action (act : List Gate → List ℕ → List ℕ) (from : List ℕ) : Type 0 where
  pub none : (W : List ℕ) → act [] W ≡ W
  pub append : (g h : List Gate) (W : List ℕ) → act (g ++ h) W ≡ act h (act g W)
  pub long : (gs : List Gate) (W : List ℕ) → length (act gs W) ≡ length W
  pub start : length from ≡ 20

pub on-parities : Action run start
on-parities = record { none = run_none; append = run-append; long = run_length; start = start-length }

pub on-flips : Action flip_run no_flips
on-flips = record { none = flip-none; append = flip-append; long = flip-length; start = none-length }

-- gates on an island Q: its wires come to F, the others stay
pub record Settles (act : List Gate → List ℕ → List ℕ) (from : List ℕ) (Q : ℕ) (F : ℕ → ℕ) (gs : List Gate) : Type 0 where
  pub right : (W : List ℕ) → length W ≡ 20 → ((i : ℕ) → In i Q → get_or W i 0 ≡ get_or from i 0) → (i : ℕ) → In i Q → get_or (act gs W) i 0 ≡ F i
  pub others : (W : List ℕ) → length W ≡ 20 → ((i : ℕ) → In i Q → get_or W i 0 ≡ get_or from i 0) → (i : ℕ) → bit Q i ≡ 0 → get_or (act gs W) i 0 ≡ get_or W i 0

-- what the gates on an island Q do: its wires come to F, the others stay, and parity p gets T p
pub record Lays (Q : ℕ) (F T : ℕ → ℕ) (gs : List Gate) : Type 0 where
  pub right : (W : List ℕ) → length W ≡ 20 → ((i : ℕ) → In i Q → get_or W i 0 ≡ 2 ^ i) → (i : ℕ) → In i Q → get_or (run gs W) i 0 ≡ F i
  pub others : (W : List ℕ) (i : ℕ) → bit Q i ≡ 0 → get_or (run gs W) i 0 ≡ get_or W i 0
  pub gives : (W : List ℕ) → length W ≡ 20 → ((i : ℕ) → In i Q → get_or W i 0 ≡ 2 ^ i) → (p : ℕ) → given p gs W ≡ T p

module _ (n : ℕ) (isl : ℕ → ℕ) (few : n ≤ 20) (parts : Parts n isl) (on : ℕ → List Gate) where
  pub laid-led : (k : ℕ) → leads isl k ≡ true → laid_to isl on (suc k) ≡ laid_to isl on k ++ on k
  unfolding laid_to
  laid-led k e = ap (λ (b : Bool). laid_to isl on k ++ pick b (on k) []) e

  pub laid-not : (k : ℕ) → leads isl k ≡ false → laid_to isl on (suc k) ≡ laid_to isl on k
  unfolding laid_to
  laid-not k e = ap (λ (b : Bool). laid_to isl on k ++ pick b (on k) []) e ∙ append-nil (laid_to isl on k)

  -- a property of lists that no gates have, and the gates of one island more keep
  pub of-laid : (P : List Gate → Type 0) → P [] → ((k : ℕ) → k < n → leads isl k ≡ true → P (laid_to isl on k) → P (laid_to isl on k ++ on k)) → (k : ℕ) → k ≤ n → P (laid_to isl on k)
  of-laid P none more zero l = unfold laid_to in none
  of-laid P none more (suc k) l = go (leads isl k) refl (of-laid P none more k (omega arith))
    where
      go : (b : Bool) → leads isl k ≡ b → P (laid_to isl on k) → P (laid_to isl on (suc k))
      go true e p = rw (laid-led k e) (more k l e p)
      go false e p = rw (laid-not k e) p

  -- a property of all gates
  pub laid-all : (P : Gate → Type 0) → ((q : ℕ) → q < n → leads isl q ≡ true → All P (on q)) → (k : ℕ) → k ≤ n → All P (laid_to isl on k)
  laid-all P h = of-laid (All P) (all_none P) (λ k l e a. all_append P (laid_to isl on k) (on k) a (h k l e))

  module _ (act : List Gate → List ℕ → List ℕ) (from : List ℕ) (action : Action act from) (F : ℕ → ℕ)
      (settles : (q : ℕ) → q < n → leads isl q ≡ true → Settles act from (isl q) F (on q)) where
    -- the wires when the islands led below k are laid
    pub record Wired (k : ℕ) (W : List ℕ) : Type 0 where
      pub long : length W ≡ 20
      pub done : (i : ℕ) → i < n → lowest_of (isl i) < k → get_or W i 0 ≡ F i
      pub rest : (i : ℕ) → i < n → k ≤ lowest_of (isl i) → get_or W i 0 ≡ get_or from i 0

    wired-none : Wired 0 from
    wired-none = record { long = action.start; done = λ i h (l : lowest_of (isl i) < 0). absurd (omega arith); rest = λ i h l. refl }

    module _ (k : ℕ) (l : k < n) (W : List ℕ) (w : Wired k W) where
      pub fresh : leads isl k ≡ true → (i : ℕ) → In i (isl k) → get_or W i 0 ≡ get_or from i 0
      fresh e i m = w.rest i (parts.small k i l m) (omega (arith, on-led n isl few parts k i l e m))

      wired-led : leads isl k ≡ true → Wired (suc k) (act (on k) W)
      wired-led e = record {
        long = action.long (on k) W ∙ w.long;
        done = λ i h b. done_at i h b (bit-cases (isl k) i);
        rest = λ i h b. rest_at i h b (bit-cases (isl k) i);
      }
        where
          done_at : (i : ℕ) → i < n → lowest_of (isl i) < suc k → (bit (isl k) i ≡ 0) ⊎ (bit (isl k) i ≡ 1) → get_or (act (on k) W) i 0 ≡ F i
          done_at i h b (inr m) = (settles k l e).right W w.long (fresh e) i m
          done_at i h b (inl z) = (settles k l e).others W w.long (fresh e) i z ∙ w.done i h (lower (ℕ_discrete (lowest_of (isl i)) k))
            where
              lower : Dec (lowest_of (isl i) ≡ k) → lowest_of (isl i) < k
              lower (yes d) = absurd (omega (arith, z, led_on n isl few parts k i h d))
              lower (no d) = omega arith

          rest_at : (i : ℕ) → i < n → suc k ≤ lowest_of (isl i) → (bit (isl k) i ≡ 0) ⊎ (bit (isl k) i ≡ 1) → get_or (act (on k) W) i 0 ≡ get_or from i 0
          rest_at i h b (inr m) = absurd (omega (arith, on-led n isl few parts k i l e m))
          rest_at i h b (inl z) = (settles k l e).others W w.long (fresh e) i z ∙ w.rest i h (omega arith)

      wired-not : leads isl k ≡ false → Wired (suc k) W
      wired-not e = record { long = w.long; done = λ i h b. w.done i h (lower i h b (ℕ_discrete (lowest_of (isl i)) k)); rest = λ i h b. w.rest i h (omega arith) }
        where
          lower : (i : ℕ) → i < n → lowest_of (isl i) < suc k → Dec (lowest_of (isl i) ≡ k) → lowest_of (isl i) < k
          lower i h b (no d) = omega arith
          lower i h b (yes d) = absurd (not-led (subst (λ (j : ℕ). leads isl j ≡ true) d (leader-leads n isl few parts i h)))
            where
              not-led : leads isl k ≡ true → ⊥
              not-led t = let z : ◌≡◌ {A = ℕ} 1 0 = ap (λ (b : Bool). pick b 1 0) (sym t ∙ e) in omega arith

    pub wired : (k : ℕ) → k ≤ n → Wired k (act (laid_to isl on k) from)
    wired zero l = unfold laid_to in (rw (action.none from) wired-none)
    wired (suc k) l = go (leads isl k) refl (wired k (omega arith))
      where
        go : (b : Bool) → leads isl k ≡ b → Wired k (act (laid_to isl on k) from) → Wired (suc k) (act (laid_to isl on (suc k)) from)
        go true e w = rw (laid-led k e, action.append (laid_to isl on k) (on k) from) (wired-led k l (act (laid_to isl on k) from) w e)
        go false e w = rw (laid-not k e) (wired-not k l (act (laid_to isl on k) from) w e)

    -- each island finds its wires as they start
    pub fresh-laid : (k : ℕ) → k < n → leads isl k ≡ true → (i : ℕ) → In i (isl k) → get_or (act (laid_to isl on k) from) i 0 ≡ get_or from i 0
    fresh-laid k l e = fresh k l (act (laid_to isl on k) from) (wired k (omega arith)) e

  module _ (F : ℕ → ℕ) (T : ℕ → ℕ → ℕ) (lays : (q : ℕ) → q < n → leads isl q ≡ true → Lays (isl q) F (T q) (on q)) where
    starts : (q i : ℕ) → q < n → In i (isl q) → get_or start i 0 ≡ 2 ^ i
    starts q i l m = start-at i (omega (arith, parts.small q i l m))

    pub parities-settle : (q : ℕ) → q < n → leads isl q ≡ true → Settles run start (isl q) F (on q)
    parities-settle q l e = record { right = λ W size own. (lays q l e).right W size (λ i m. own i m ∙ starts q i l m); others = λ W size own. (lays q l e).others W }

    -- the angles
    pub given-laid : (p k : ℕ) → k ≤ n → given p (laid_to isl on k) start ≡ sum_to k (λ q. pick (leads isl q) (T q p) 0)
    unfolding sum_to
    given-laid p zero l = unfold laid_to in given-none p start
    given-laid p (suc k) l = go (leads isl k) refl (given-laid p k (omega arith))
      where
        go : (b : Bool) → leads isl k ≡ b → given p (laid_to isl on k) start ≡ sum_to k (λ q. pick (leads isl q) (T q p) 0)
            → given p (laid_to isl on (suc k)) start ≡ sum_to k (λ q. pick (leads isl q) (T q p) 0) + pick b (T k p) 0
        go true e g =
            ap (λ (L : List Gate). given p L start) (laid-led k e) ∙ given-append p (laid_to isl on k) (on k) start
            ∙ ap₂ (λ (a b : ℕ). a + b) g ((lays k l e).gives (run (laid_to isl on k) start) (run_length (laid_to isl on k) start ∙ start-length) (λ i m. fresh-laid run start on-parities F parities-settle k l e i m ∙ starts k i l m) p)
        go false e g = ap (λ (L : List Gate). given p L start) (laid-not k e) ∙ omega arith
