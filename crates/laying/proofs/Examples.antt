-- The examples of document 01 marked P hold, all of them. Assumes nothing.
use mathlib.Core.Path.{◌≡◌, refl}
use mathlib.Core.Logic.{◌≢◌, inr}
use mathlib.Core.List.{List}
use Prim.Native.Nat.{ℕ, ◌≤◌}
use native.Mathlib.Omega.{arith}
use lib.Count.{count_trailing_zeros}
use Rattle.sets.specs.Columns.{units, cnot}
use Rattle.sets.specs.Search.{first_of, some_of}
use Rattle.sets.specs.Size.{lowest_of}
use Rattle.gates.specs.Layout.{packed, kind_in, a_in, b_in, cnot_of, rotation_of, gate_of, coupler_of, gates_of}
use Rattle.circuit.specs.Circuit.{step, run, start, takes, gives_on, given_on, sum_of}
use Rattle.circuit.specs.Flips.{flip_step, no_flips}
use Rattle.meaning.specs.Borne.{is_term, insert, bears, borne_from, borne, over_at, terms}
use Rattle.sets.specs.Lists.{those}
use Rattle.tallies.specs.Tally.{bound_of}
use Rattle.meaning.specs.Same.{Reachable}
use Rattle.verdicts.specs.Verdicts.{number_of, place_of, first_failing, judged_qubits, wrong_at, judged_couplers, bad_at, judged_gates}
use Rattle.gates.specs.Limits.{most_qubits}
use Rattle.gates.specs.Example.{AllHold}
use Rattle.verdicts.specs.Rows.{Passes1, WrongRecord}
use Rattle.meaning.specs.Examples.{records5, records6, meaning_examples}
use Rattle.meaning.proofs.Examples.{meaning-examples}
use Rattle.gates.proofs.Examples.{true-append}
use Rattle.chip.specs.Graph.{nbrs, grow, closure}
use Rattle.chip.specs.Couplers.{link_of, add_of, add_all, near_of}
use Rattle.isles.specs.Islands.{island_of, islands_from, islands_of}
use Rattle.share.specs.Own.{inside_of}
use Rattle.judging.specs.Tests.{judged_count, judged_parities, leaves_at, stray_at, scatters, scattered, judged_reach, judged_room, judged_meaning, verdict_of, verdict_on}
use Rattle.laying.specs.Examples.{couplers4, once4, twice4, loop8, gates9, laying_examples, proved_examples}
use Rattle.laying.proofs.Accepting.{job-layable}
use Rattle.laying.proofs.Accepted.{circuit-reaches}
use Rattle.laying.proofs.Rows.{rows}

-- what is found by computing it: three refusals, and three jobs that pass tests 1 to 8
record Computed : Type 0 where
  once : (room : ℕ) → (number_of (verdict_of 3 couplers4 once4 room) ≡ 7) × (place_of (verdict_of 3 couplers4 once4 room) ≡ 2)
  term : (room : ℕ) → (number_of (verdict_of 3 couplers4 records5 room) ≡ 7) × (place_of (verdict_of 3 couplers4 records5 room) ≡ 3)
  short : (number_of (verdict_of 2 couplers4 gates9 8) ≡ 8) × (place_of (verdict_of 2 couplers4 gates9 8) ≡ 0)
  twice : number_of (verdict_of 3 couplers4 twice4 15) ≡ 0
  none : number_of (verdict_of 3 couplers4 records6 15) ≡ 0
  enough : number_of (verdict_of 2 couplers4 gates9 9) ≡ 0

computed : Computed
unfolding verdict_of verdict_on judged_meaning judged_qubits judged_couplers wrong_at judged_count judged_gates bad_at first_failing first_of some_of judged_parities over_at borne borne_from bears insert judged_reach stray_at leaves_at inside_of scattered scatters terms those is_term sum_of given_on gives_on takes no_flips flip_step judged_room bound_of run start step units cnot lowest_of count_trailing_zeros islands_of islands_from island_of closure grow nbrs near_of add_all add_of link_of coupler_of gate_of cnot_of rotation_of packed kind_in a_in b_in
computed = record { once = λ room. (refl, refl); term = λ room. (refl, refl); short = (refl, refl); twice = refl; none = refl; enough = refl }

reached : (n : ℕ) (xs ys : List ℕ) (room : ℕ) → number_of (verdict_of n xs ys room) ≡ 0 → Reachable n xs (gates_of n ys)
reached n xs ys room e = circuit-reaches n xs ys (job-layable n xs ys room e)

-- 7 and 8 are rows of the table

qubits-pass : (n : ℕ) (xs ys : List ℕ) (room : ℕ) → Passes1 n → number_of (verdict_of n xs ys room) ≢ 1
qubits-pass n xs ys room p e = (rows n xs ys room).row_1.exactly.0 e p

qubits-fail : (n : ℕ) (xs ys : List ℕ) (room : ℕ) → (Passes1 n → ⊥) → number_of (verdict_of n xs ys room) ≡ 1
qubits-fail n xs ys room f = (rows n xs ys room).row_1.exactly.1 f

loop-wrong : (n : ℕ) → WrongRecord n (packed 0 0 0)
unfolding packed a_in b_in
loop-wrong n = inr (inr (inr refl))

loop-refused : (n : ℕ) → 1 ≤ n → n ≤ most_qubits → (ys : List ℕ) (room : ℕ) → (number_of (verdict_of n loop8 ys room) ≡ 3) × (place_of (verdict_of n loop8 ys room) ≡ 0)
loop-refused n l m ys room =
    let row = (rows n loop8 ys room).row_3 in
    let e = row.exactly.1 ((l, m), (omega arith, (0, omega arith, loop-wrong n))) in
    (e, (let w = (row.place e).within in omega (arith, w)))

laying-examples : AllHold laying_examples
unfolding AllHold
laying-examples = (
  (reached 3 couplers4 twice4 15 computed.twice, computed.twice, computed.once),
  (
    computed.term,
    (
      (reached 3 couplers4 records6 15 computed.none, computed.none),
      (
        (λ xs ys room. (
          qubits-fail 0 xs ys room (λ (p : Passes1 0). omega (arith, p.0)),
          qubits-fail 21 xs ys room (λ (p : Passes1 21). omega (arith, p.1)),
          qubits-pass 1 xs ys room (omega arith, omega arith),
          qubits-pass 20 xs ys room (omega arith, omega arith),
        )),
        (loop-refused, ((computed.short.0, computed.short.1, computed.enough), tt)),
      ),
    ),
  ),
)

-- all examples marked P
pub examples : AllHold proved_examples
examples = true-append meaning_examples laying_examples meaning-examples laying-examples
