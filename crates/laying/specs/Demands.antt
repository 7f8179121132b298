-- The words of the demands: islands as chains of listed couplers, the gates on a set of qubits, and what each demand says of a job.
use Rattle.std.specs.Prelude.{◌≡◌, Bool, false, List, [], ◌∷◌, ◌++◌, map, ℕ, ◌-◌, ◌+◌, ◌*◌, ◌≤◌, ◌<◌, eqb, length, get_or}
use Rattle.sets.specs.Pick.{pick, both}
use Rattle.sets.specs.Bit.{In, Sub, has}
use Rattle.gates.specs.declared.gate.Gate.{Gate}
use Rattle.gates.specs.declared.gate.Gate.TheVariants.{Cnot, Rotation, X, Bad}
use Rattle.gates.specs.Layout.{gates_of, Good}
use Rattle.circuit.specs.Circuit.{step, start, final_of, sum_of, Term}
use Rattle.circuit.specs.Flips.{flip_of}
use Rattle.circuit.specs.Phase.{phase_of}
use Rattle.meaning.specs.Borne.{terms, Ascending}
use Rattle.sets.specs.Lists.{All, those}
use Rattle.gates.specs.Listed.{Listed, OnCoupler}
use Rattle.meaning.specs.Same.{SameMeaning}
use Rattle.tallies.specs.Tally.{tally, cnots_of, rotations_of, xs_of, bound_of}
use Rattle.flips.specs.Xs.{NoX}
use Rattle.verdicts.specs.Verdicts.{Verdict, judged_qubits, judged_couplers, judged_gates}
use Rattle.verdicts.specs.InOrder.{and_then}
use Rattle.judging.specs.Tests.{judged_count, judged_parities}

-- "a chain of couplers joins them" (document 01, "Islands")
pub data Linked (couplers : List ℕ) (n u : ℕ) : ℕ → Type 0 where
  same : u < n → Linked couplers n u u
  more : {v w : ℕ} → Linked couplers n u v → w < n → Listed couplers v w → Linked couplers n u w

-- "Two qubits are on one island when a chain of couplers joins them; a qubit without couplers is an island": S is the island of q
pub record Island (n : ℕ) (couplers : List ℕ) (S q : ℕ) : Type 0 where
  pub member : In q S
  pub below : q < n
  pub all : (j : ℕ) → Linked couplers n q j → In j S
  pub only : (j : ℕ) → In j S → Linked couplers n q j

-- "A parity is inside an island when all its qubits are": p is inside the island of q
unfoldable pub InIsland : ℕ → List ℕ → ℕ → ℕ → Type 0
InIsland n couplers q p = (j : ℕ) → In j p → Linked couplers n q j

-- a gate is on the set S: all its qubits are
unfoldable pub is_on : ℕ → Gate → Bool
is_on S (Cnot c t) = both (has S c) (has S t)
is_on S (Rotation q a) = has S q
is_on S (X q) = has S q
is_on S Bad = false

-- "the gates laid on that island", in order
unfoldable pub gates_on : ℕ → List Gate → List Gate
gates_on S gs = those (is_on S) gs

-- ---- demand 2

-- 1 for a rotation where the wire's parity is p
unfoldable pub one_on : ℕ → Gate → List ℕ → ℕ
one_on p (Cnot c t) W = 0
one_on p (Rotation q a) W = pick (eqb (get_or W q 0) p) 1 0
one_on p (X q) W = 0
one_on p Bad W = 0

-- the rotations of a list that parity p bears, from the wires W on
unfoldable pub rotations_on : ℕ → List Gate → List ℕ → ℕ
rotations_on p [] W = 0
rotations_on p (g ∷ gs) W = one_on p g W + rotations_on p gs (step g W)

-- 1 for an X on wire i
unfoldable pub one_x_at : ℕ → Gate → ℕ
one_x_at i (Cnot c t) = 0
one_x_at i (Rotation q a) = 0
one_x_at i (X q) = pick (eqb q i) 1 0
one_x_at i Bad = 0

-- the X gates of a list on wire i
unfoldable pub xs_at : ℕ → List Gate → ℕ
xs_at i gs = tally (one_x_at i) gs

-- "The circuit that comes out": its meaning, where the phase that the acceptance returns is the whole common phase and the circuit's own is 0; its couplers; "exactly t rotations",
-- one for each term, "and at most 2(n-1)t + 2n(n-1) CNOTs"; on each wire an X where the job flips it and none elsewhere, so never more than n; at most B gates
pub record Faithful (n : ℕ) (couplers : List ℕ) (phase : ℕ) (drawn laid : List Gate) : Type 0 where
  pub same : SameMeaning n phase drawn laid
  pub phaseless : phase_of laid ≡ 0
  pub good : All (Good n) laid
  pub coupled : All (OnCoupler couplers) laid
  pub rotations : rotations_of laid ≡ length (terms drawn)
  pub each : (p : ℕ) → Term drawn p → rotations_on p laid start ≡ 1
  pub other : (p : ℕ) → (Term drawn p → ⊥) → rotations_on p laid start ≡ 0
  pub cnots : cnots_of laid ≤ 2 * (n - 1) * length (terms drawn) + 2 * n * (n - 1)
  pub flipped : (i : ℕ) → i < n → xs_at i laid ≡ flip_of drawn i
  pub xs : xs_of laid ≤ n
  pub bound : length laid ≤ bound_of n (length (terms drawn))

-- the gates on S: "Flips asked for at the end are laid as X .. after its island's ending", ascending by qubit
pub record FlipsLast (S : ℕ) (laid : List Gate) : Type 0 where
  pub before : List Gate
  pub flipped : List ℕ
  pub parted : gates_on S laid ≡ before ++ map X flipped
  pub none : All NoX before
  pub ascending : Ascending flipped

-- tests 1 to 6, in that order
unfoldable pub judged_six : ℕ → List ℕ → List ℕ → Verdict
judged_six n couplers gates =
    and_then (judged_qubits n) (and_then (judged_couplers n couplers) (and_then (judged_count gates) (and_then (judged_gates n gates) (judged_parities (gates_of n gates)))))

-- the final parity of wire i is inside its island
unfoldable pub Stays : ℕ → List ℕ → List Gate → ℕ → Type 0
Stays n couplers drawn i = InIsland n couplers i (final_of drawn i)

-- "each wire's final parity is inside that wire's island and each term is inside one island"
pub record InIslands (n : ℕ) (couplers : List ℕ) (drawn : List Gate) : Type 0 where
  pub finals : (i : ℕ) → i < n → Stays n couplers drawn i
  pub terms : (p : ℕ) → Term drawn p → (q : ℕ) × (q < n) × InIsland n couplers q p

-- "lowest wire whose final parity leaves its island, else n"
pub record Strays (n : ℕ) (couplers : List ℕ) (drawn : List Gate) (k : ℕ) : Type 0 where
  pub most : k ≤ n
  pub before : (i : ℕ) → i < k → Stays n couplers drawn i
  pub here : k < n → Stays n couplers drawn k → ⊥

-- ---- demand 3

-- the same couplers, as sets: "one listed twice or turned round counts once"
pub record SameCouplers (couplers couplers' : List ℕ) : Type 0 where
  pub there : (u v : ℕ) → Listed couplers u v → Listed couplers' u v
  pub back : (u v : ℕ) → Listed couplers' u v → Listed couplers u v

-- two jobs agree on the set S: "the same couplers inside, the same final parities of its wires, the same sums of all parities inside it", the same final flips of its wires
pub record Agree (S : ℕ) (couplers couplers' : List ℕ) (drawn drawn' : List Gate) : Type 0 where
  pub there : (u v : ℕ) → In u S → In v S → Listed couplers u v → Listed couplers' u v
  pub back : (u v : ℕ) → In u S → In v S → Listed couplers' u v → Listed couplers u v
  pub finals : (i : ℕ) → In i S → final_of drawn i ≡ final_of drawn' i
  pub flips : (i : ℕ) → In i S → flip_of drawn i ≡ flip_of drawn' i
  pub sums : (p : ℕ) → Sub p S → sum_of p drawn ≡ sum_of p drawn'
