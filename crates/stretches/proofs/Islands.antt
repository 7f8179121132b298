-- The records of a job on an island: those of each stretch there, and the Hadamards of its qubits. Assumes nothing.
use mathlib.Core.Path.{◌≡◌, refl, sym, ap, ap₂, ◌∙◌}
use mathlib.Core.Bool.{Bool, true, false}
use mathlib.Core.List.{List, [], ◌∷◌, ◌++◌, map}
use Prim.Native.Nat.{ℕ, ◌≤◌}
use Rattle.sets.specs.Pick.{pick}
use Rattle.sets.specs.Bit.{has}
use Rattle.gates.specs.declared.gate.Gate.{Gate}
use Rattle.gates.specs.Layout.{a_in, gate_of, gates_of, record_of, Good}
use Rattle.gates.specs.Hadamards.{is_hadamard}
use Rattle.sets.specs.Lists.{All, those}
use Rattle.sets.proofs.Lists.{those-append}
use Rattle.gates.proofs.Records.{gate-record}
use Rattle.gates.proofs.Hadamards.{good-between}
use Rattle.tallies.specs.Tally.{largest}
use Rattle.laying.specs.Answers.{circuit_of}
use Rattle.laying.specs.Demands.{Island, is_on, gates_on, Agree}
use Rattle.laying.proofs.Demands.{demand-2, demand-3}
use Rattle.stretches.specs.Cut.{weave, Pairs}
use Rattle.stretches.specs.Asked.{Accepts}
use Rattle.stretches.specs.Laid.{stretch_records}
use Rattle.stretches.specs.Demands.{SameOn, record_is_on, records_on}
use Rattle.stretches.proofs.Records.{stretch-few, stretch-gates}

-- ---- of one list

module _ (n S : ℕ) where
  on-append : (xs ys : List ℕ) → records_on n S (xs ++ ys) ≡ records_on n S xs ++ records_on n S ys
  unfolding records_on
  on-append xs ys = those-append (record_is_on n S) xs ys

  gate-on : (g : Gate) → n ≤ 256 → Good n g → record_is_on n S (record_of g) ≡ is_on S g
  unfolding record_is_on
  gate-on g few h =
      ap (λ (b : Bool). pick b (has S (a_in (record_of g))) (is_on S (gate_of n (record_of g)))) (good-between n g few h) ∙ ap (is_on S) (gate-record n g few h)

  -- the records of gates on S are those of the gates on S
  gates-on : (gs : List Gate) → n ≤ 256 → All (Good n) gs → records_on n S (map record_of gs) ≡ map record_of (gates_on S gs)
  unfolding records_on gates_on those All
  gates-on [] few a = refl
  gates-on (g ∷ gs) few a =
      ap (λ (b : Bool). pick b (record_of g ∷ records_on n S (map record_of gs)) (records_on n S (map record_of gs))) (gate-on g few a.0) ∙ go (is_on S g) (gates-on gs few a.1)
    where
      go : (b : Bool) → records_on n S (map record_of gs) ≡ map record_of (gates_on S gs)
          → pick b (record_of g ∷ records_on n S (map record_of gs)) (records_on n S (map record_of gs)) ≡ map record_of (pick b (g ∷ gates_on S gs) (gates_on S gs))
      go true e = ap (λ (l : List ℕ). record_of g ∷ l) e
      go false e = e

  hadamard-on : (h : ℕ) → is_hadamard n h ≡ true → (xs : List ℕ) → records_on n S (h ∷ xs) ≡ pick (has S (a_in h)) (h ∷ records_on n S xs) (records_on n S xs)
  unfolding records_on record_is_on those
  hadamard-on h e xs = ap (λ (b : Bool). pick (pick b (has S (a_in h)) (is_on S (gate_of n h))) (h ∷ records_on n S xs) (records_on n S xs)) e

-- ---- of two

module _ (n m S : ℕ) where
  -- the same records of each stretch, woven with the same Hadamards
  pub woven-same : (Ls Ms : List (List ℕ)) (hs : List ℕ) → All (λ x. is_hadamard n x ≡ true) hs → All (λ x. is_hadamard m x ≡ true) hs
      → Pairs (λ L M. records_on n S L ≡ records_on m S M) Ls Ms → records_on n S (weave Ls hs) ≡ records_on m S (weave Ms hs)
  unfolding Pairs weave All records_on those
  woven-same [] [] hs a b g = refl
  woven-same [] (M ∷ Ms) hs a b g = absurd g
  woven-same (L ∷ Ls) [] hs a b g = absurd g
  woven-same (L ∷ Ls) (M ∷ Ms) [] a b g = g.0
  woven-same (L ∷ Ls) (M ∷ Ms) (h ∷ hs) a b g =
      on-append n S L (h ∷ weave Ls hs)
      ∙ ap₂ (λ (x y : List ℕ). x ++ y) g.0
      (hadamard-on n S h a.0 (weave Ls hs) ∙ ap (λ (l : List ℕ). pick (has S (a_in h)) (h ∷ l) l) (woven-same Ls Ms hs a.1 b.1 g.1) ∙ sym (hadamard-on m S h b.0 (weave Ms hs)))
      ∙ sym (on-append m S M (h ∷ weave Ms hs))

  module _ (couplers couplers' : List ℕ) (q r : ℕ) (i : Island n couplers S q) (j : Island m couplers' S r)
      (s t : List ℕ) (a : Accepts n couplers s) (b : Accepts m couplers' t) (agree : Agree S couplers couplers' (gates_of n s) (gates_of m t)) where
    same-circuit : gates_on S (circuit_of n couplers s) ≡ gates_on S (circuit_of m couplers' t)
    same-circuit = demand-3 n m couplers couplers' s t largest largest a b S q r i j agree

    -- stretches that agree on an island get the same gates on it
    pub stretch-same-gates : SameOn S n m (stretch_records n couplers s) (stretch_records m couplers' t)
    stretch-same-gates = ap (gates_on S) (stretch-gates n couplers s largest a) ∙ same-circuit ∙ sym (ap (gates_on S) (stretch-gates m couplers' t largest b))

    -- and the same records
    pub stretch-same-records : records_on n S (stretch_records n couplers s) ≡ records_on m S (stretch_records m couplers' t)
    stretch-same-records =
        gates-on n S (circuit_of n couplers s) (stretch-few n couplers s largest a) (demand-2 n couplers s largest a).good ∙ ap (map record_of) same-circuit
        ∙ sym (gates-on m S (circuit_of m couplers' t) (stretch-few m couplers' t largest b) (demand-2 m couplers' t largest b).good)
