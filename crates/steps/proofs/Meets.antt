-- What the steps begin with and what they leave, and a set without one of its qubits. Assumes nothing.
use mathlib.Core.Path.{◌≡◌, refl, sym, ap, ◌∙◌, subst}
use mathlib.Core.Logic.{◌≢◌, ◌⊎◌, inl, inr}
use mathlib.Core.Bool.{Bool, true, false}
use mathlib.Core.List.{List}
use Prim.Native.Nat.{ℕ, suc, ◌-◌, ◌*◌, ◌^◌, ◌≤◌, ◌<◌}
use native.Mathlib.Omega.{arith}
use lib.ListN.{get_or}
use lib.Bits.{bit_xor, xor_lt}
use lib.Pow.{pow-lt}
use lib.Count.{ones}
use Rattle.sets.specs.Bit.{bit, In, Sub}
use Rattle.sets.proofs.Members.{in-lt, put_other, put-cases}
use Rattle.sets.proofs.Ones.{ones-drop, drop-same}
use Rattle.sets.proofs.Words.{only-is}
use Rattle.tallies.specs.Tally.{cnots_of}
use Rattle.chip.specs.Graph.{Joined}
use Rattle.columns.specs.Pieces.{Piece, idle}
use Rattle.columns.specs.Terms.{Laying}
use Rattle.columns.proofs.Layings.{laying-none}
use Rattle.steps.specs.Selection.{count_of}
use Rattle.steps.specs.Choice.{without}
use Rattle.steps.specs.Steps.{Step}
use Rattle.steps.specs.Neighbours.{Claim}
use Rattle.steps.proofs.Apart.{Many, many-ones, Safe, Reached, still}
use Rattle.steps.proofs.Splits.{count_none, count-some}
use Rattle.sets.proofs.Deciding.{never}
use Rattle.tallies.proofs.Tallies.{cnots-none}

-- ---- a set without one of its qubits

module _ (Q r : ℕ) (low : Q < 2 ^ 20) (h : In r Q) where
  pub rest-is : without Q r ≡ bit_xor Q (2 ^ r)
  unfolding without
  rest-is = let l : r < 20 = in-lt 20 Q r low h in ap (bit_xor Q) (only-is r (omega arith))

  pub rest_out : bit (without Q r) r ≡ 0
  rest_out = ap (λ (n : ℕ). bit n r) rest-is ∙ drop-same r Q h

  pub rest_in : (j : ℕ) → In j Q → j ≢ r → In j (without Q r)
  rest_in j k ne = ap (λ (n : ℕ). bit n j) rest-is ∙ put_other Q r j ne ∙ k

  pub rest-sub : Sub (without Q r) Q
  rest-sub j k = go (put-cases Q r j (sym (ap (λ (n : ℕ). bit n j) rest-is) ∙ k))
    where
      go : (j ≡ r) ⊎ In j Q → In j Q
      go (inl e) = subst (λ (i : ℕ). In i Q) (sym e) h
      go (inr q) = q

  pub rest-low : without Q r < 2 ^ 20
  rest-low = subst (λ (n : ℕ). n < 2 ^ 20) (sym rest-is) (xor_lt 20 Q (2 ^ r) low (pow-lt (in-lt 20 Q r low h)))

  pub rest-ones : ones Q ≡ suc (ones (without Q r))
  rest-ones = ones-drop r Q h ∙ ap (λ (n : ℕ). suc (ones n)) (sym rest-is)

-- ---- before a step, and behind it

-- every selected column lies in Q and has at least two qubits; the others are set aside
pub record StepReady (Q : ℕ) (sel : List Bool) (xs : List ℕ) : Type 0 where
  pub places : (k : ℕ) → get_or sel k false ≡ true → k < 256
  pub chosen : (k : ℕ) → get_or sel k false ≡ true → Sub (get_or xs k 0) Q × Many (get_or xs k 0)
  pub aside : (k : ℕ) → get_or sel k false ≡ false → Safe Q (get_or xs k 0)

-- every selected column is struck off, and the others are turned by CNOTs inside Q only
pub record StepDone (near : List ℕ) (Q : ℕ) (angles : List ℕ) (sel : List Bool) (xs : List ℕ) (p : Piece) : Type 0 where
  pub lays : Laying near Q angles xs p.laid p.cols
  pub struck : (k : ℕ) → get_or sel k false ≡ true → get_or p.cols k 0 ≡ 0
  pub others : (k : ℕ) → get_or sel k false ≡ false → Reached Q (get_or xs k 0) (get_or p.cols k 0)
  pub cnots : cnots_of p.laid ≤ 2 * (ones Q - 1) * count_of sel

-- a step that meets all this on every connected set of at most q qubits, and of which `says` is true there
abbrev pub StepMeets : List ℕ → List ℕ → ℕ → Step → Claim → Type 0
StepMeets near angles q step says =
    (Q : ℕ) (sel : List Bool) (xs : List ℕ) → Q < 2 ^ 20 → Joined near Q → ones Q ≤ q → StepReady Q sel xs → StepDone near Q angles sel xs (step Q sel xs) × says Q sel xs

-- "A step without columns does nothing"
pub done-idle : (near : List ℕ) (Q : ℕ) (angles : List ℕ) (sel : List Bool) (xs : List ℕ) → StepReady Q sel xs → count_of sel ≡ 0 → StepDone near Q angles sel xs (idle xs)
done-idle near Q angles sel xs r e =
    record {
      lays = laying-none near Q angles xs;
      struck = λ k h. absurd (never h (count_none sel e k (r.places k h)));
      others = λ k h. still refl;
      cnots = omega (arith, cnots-none);
    }

-- where a column is selected, Q has at least two qubits
pub ready-two : (Q : ℕ) (sel : List Bool) (xs : List ℕ) → StepReady Q sel xs → (count_of sel ≡ 0 → ⊥) → 2 ≤ ones Q
ready-two Q sel xs r h =
    let k = count-some sel h in
    let c = r.chosen k.0 k.2 in
    let m = c.1 in
    many-ones Q (m.0, m.1, m.2, c.0 m.0 m.3, c.0 m.1 m.4)
