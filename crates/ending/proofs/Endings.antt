-- Every ending, whichever qubits it takes out first and how, brings each row of the island to its own wire. Assumes nothing.
use mathlib.Core.Path.{◌≡◌, refl, sym, ap, ap₂, ◌∙◌, subst}
use mathlib.Core.Logic.{◌≢◌}
use mathlib.Core.List.{List, [], ◌++◌, map}
use Prim.Native.Nat.{ℕ, zero, suc, ◌*◌, ◌-◌, ◌^◌, ◌≤◌, ◌<◌}
use native.Mathlib.Nat.{mul-suc, suc-mul}
use native.Mathlib.Omega.{arith}
use native.Mathlib.Decide.{ℕ_discrete}
use lib.Bits.{bit_xor}
use lib.Count.{ones}
use lib.ListN.{get_or, length-append}
use Rattle.sets.specs.Bit.{bit, In, Sub}
use Rattle.sets.specs.Columns.{dot}
use Rattle.sets.proofs.Bits.{bit-of-zero, bit-pow-same}
use Rattle.sets.proofs.Dot.{dot-comm, dot-pow}
use Rattle.sets.proofs.Members.{put_other, sub-drop, sub-eq, single-sub, in-pow}
use Rattle.sets.proofs.Ones.{ones-drop, ones-zero, drop-same}
use Rattle.gates.specs.declared.gate.Gate.{Gate}
use Rattle.chip.specs.Inside.{Inside, Coupled}
use Rattle.gathering.specs.Gather.{turns, exchanged}
use Rattle.sets.proofs.Lists.{all_none, all_append}
use Rattle.chip.proofs.Insides.{coupled-up, coupled-inside}
use Rattle.gathering.proofs.GatherWorks.{turns-append}
use Rattle.gathering.proofs.OrderParts.{sub-lt}
use Rattle.ending.specs.Ends.{Ready, TakesOut, AnyEnding, last, out, spent, Ended}
use Rattle.ending.proofs.Turning.{turns-sub, back-sub, dot-turns, turns-out, row-turned}
use Rattle.sets.specs.Lists.{All}
use Rattle.ending.proofs.Taking.{not-zero}

-- ---- rows and mirror rows stay what they are under laid gates

pub ready-turns : (near : List ℕ) (Q : ℕ) → Q < 2 ^ 20 → (N C : List ℕ) (L : List Gate) → All (Inside near Q) L → Ready Q N C → Ready Q (map (turns L) N) (map (turns (exchanged L)) C)
ready-turns near Q low N C L h r =
    record {
      rows = λ i k. rw row-turned (turns-sub near Q L (get_or N i 0) h (r.rows i k));
      mirror = λ i k. rw row-turned (back-sub near Q L (get_or C i 0) h (r.mirror i k));
      one = λ i k. ap₂ dot (row-turned L N i) (row-turned (exchanged L) C i) ∙ dot-turns near Q low L (get_or N i 0) (get_or C i 0) h ∙ r.one i k;
      nul = λ i j k l n. ap₂ dot (row-turned L N i) (row-turned (exchanged L) C j) ∙ dot-turns near Q low L (get_or N i 0) (get_or C j 0) h ∙ r.nul i j k l n;
    }

module _ (Q v : ℕ) (hv : In v Q) where
  apart : (i : ℕ) → In i (bit_xor Q (2 ^ v)) → i ≢ v
  apart i k d = omega (arith, k, ap (bit (bit_xor Q (2 ^ v))) d, drop-same v Q hv)

  pub was : Sub (bit_xor Q (2 ^ v)) Q
  was i k = sym (put_other Q v i (apart i k)) ∙ k

  -- a qubit whose row and mirror row are its own is in no other
  pub ready-drop : (N C : List ℕ) → get_or N v 0 ≡ 2 ^ v → get_or C v 0 ≡ 2 ^ v → Ready Q N C → Ready (bit_xor Q (2 ^ v)) N C
  ready-drop N C ex ey r =
      record {
        rows = λ i k. sub-drop Q (get_or N i 0) v (r.rows i (was i k))
            (sym (dot-pow v (get_or N i 0)) ∙ dot-comm (2 ^ v) (get_or N i 0) ∙ ap (dot (get_or N i 0)) (sym ey) ∙ r.nul i v (was i k) hv (apart i k));
        mirror = λ i k. sub-drop Q (get_or C i 0) v (r.mirror i (was i k))
            (sym (dot-pow v (get_or C i 0)) ∙ ap (λ (m : ℕ). dot m (get_or C i 0)) (sym ex) ∙ r.nul v i hv (was i k) (λ d. apart i k (sym d)));
        one = λ i k. r.one i (was i k);
        nul = λ i j k l n. r.nul i j (was i k) (was j l) n;
      }

pub ready-taken : (near : List ℕ) (Q : ℕ) → Q < 2 ^ 20 → (v : ℕ) (N C : List ℕ) (L : List Gate) → In v Q → TakesOut near Q v N C L → Ready Q N C
    → Ready (bit_xor Q (2 ^ v)) (map (turns L) N) (map (turns (exchanged L)) C)
ready-taken near Q low v N C L hv t r =
    ready-drop Q v hv (map (turns L) N) (map (turns (exchanged L)) C) (row-turned L N v ∙ t.row) (row-turned (exchanged L) C v ∙ t.mirror)
    (ready-turns near Q low N C L (coupled-inside near Q L t.coupled) r)

-- ---- all of them

-- an island of one qubit
alone : (Q i : ℕ) → In i Q → ones Q ≤ 1 → Q ≡ 2 ^ i
alone Q i h l =
    let z : bit_xor Q (2 ^ i) ≡ 0 = ones-zero (bit_xor Q (2 ^ i)) (omega (arith, ones-drop i Q h)) in
    sub-eq Q (2 ^ i) (λ k m. at k m z (ℕ_discrete k i)) (λ k m. subst (λ (n : ℕ). In n Q) (sym (in-pow i k m)) h)
  where
    at : (k : ℕ) → In k Q → bit_xor Q (2 ^ i) ≡ 0 → Dec (k ≡ i) → In k (2 ^ i)
    at k m z (yes d) = ap (bit (2 ^ i)) d ∙ bit-pow-same i
    at k m z (no n) = absurd (omega (arith, put_other Q i k n, m, ap (λ (t : ℕ). bit t k) z, bit-of-zero k))

pub ends-right : {near : List ℕ} {Q : ℕ} {N C : List ℕ} {R : List Gate} → Q < 2 ^ 20 → Ready Q N C → AnyEnding near Q N C R → Ended near Q N R
ends-right {near} {Q} {N} {C} {R} low r (last few e) =
    subst (Ended near Q N) (sym e)
    (record {
      coupled = all_none (Coupled near Q);
      short = omega arith;
      right = λ i h. single-sub i (get_or N i 0) (λ k m. subst (In k) (alone Q i h few) (r.rows i h k m)) (not-zero (get_or N i 0) (get_or C i 0) (r.one i h));
    })
ends-right {near} {Q} {N} {C} {R} low r (out v L M hv j t rest e) =
    subst (Ended near Q N) (sym e) (go (ends-right (sub-lt P Q 20 (was Q v hv) low) (ready-taken near Q low v N C L hv t r) rest))
  where
    P : ℕ
    P = bit_xor Q (2 ^ v)

    go : Ended near P (map (turns L) N) M → Ended near Q N (L ++ M)
    go E =
        record {
          coupled = all_append (Coupled near Q) L M t.coupled (coupled-up near P Q (was Q v hv) M E.coupled);
          short = omega (arith, length-append L M, t.short, E.short, ap spent (ones-drop v Q hv), ones-drop v Q hv);
          right = λ i h. turns-append L M (get_or N i 0) ∙ at i h (ℕ_discrete i v);
        }
      where
        at : (i : ℕ) → In i Q → Dec (i ≡ v) → turns M (turns L (get_or N i 0)) ≡ 2 ^ i
        at i h (yes d) =
            rw d (ap (turns M) t.row ∙ turns-out near P M v (coupled-inside near P M E.coupled) (drop-same v Q hv))
        at i h (no d) = ap (turns M) (sym (row-turned L N i)) ∙ E.right i (put_other Q v i d ∙ h)

-- "If the parities already stand right, it has no gates."
pub ends-none : {near : List ℕ} {Q : ℕ} {N C : List ℕ} {R : List Gate} → AnyEnding near Q N C R
    → ((i : ℕ) → In i Q → get_or N i 0 ≡ 2 ^ i) → ((i : ℕ) → In i Q → get_or C i 0 ≡ 2 ^ i) → R ≡ []
ends-none (last few e) f g = e
ends-none {near} {Q} {N} {C} (out v L M hv j t rest e) f g =
    let nl : L ≡ [] = t.still (f v hv) (g v hv) in
    let nm : M ≡ [] = ends-none rest
    (λ i h. row-turned L N i ∙ ap (λ (l : List Gate). turns l (get_or N i 0)) nl ∙ f i (was Q v hv i h))
    (λ i h. row-turned (exchanged L) C i ∙ ap (λ (l : List Gate). turns (exchanged l) (get_or C i 0)) nl ∙ g i (was Q v hv i h)) in
    e ∙ ap₂ ◌++◌ nl nm

-- 2 m (m - 1)
spent-suc : (n : ℕ) → spent (suc n) ≡ 2 * (suc n * n)
spent-suc zero = refl
spent-suc (suc n) = omega (arith, spent-suc n, mul-suc n n, mul-suc (suc n) (suc n), suc-mul n (suc n), suc-mul n n)

pub spent-is : (m : ℕ) → spent m ≡ 2 * (m * (m - 1))
spent-is zero = refl
spent-is (suc n) = spent-suc n ∙ ap (λ (k : ℕ). 2 * (suc n * k)) (omega arith)
