-- How many bytes the statements of a part have: 26 at most for each laid gate, and for the Hadamard behind them. A law of `Fitting` rests on it, and so it stands here. Assumes nothing.
use mathlib.Core.Path.{◌≡◌, sym, ap, ◌∙◌}
use mathlib.Core.Bool.{true}
use mathlib.Core.List.{List, [], ◌∷◌, map}
use Prim.Native.Nat.{ℕ, ◌+◌, ◌*◌, ◌%◌, ◌≤◌, ◌<◌}
use native.Mathlib.Omega.{arith}
use native.Mathlib.Decide.{dec_lt}
use lib.ListN.{length, get_or, take, drop, length-append, length-map, drop_of_length-le}
use lib.Seq.{drop-cons, drop-drop}
use Rattle.gates.specs.declared.gate.Gate.{Gate}
use Rattle.gates.specs.declared.gate.Gate.TheVariants.{Cnot, Rotation, X, Bad}
use Rattle.gates.specs.Layout.{packed, a_in, record_of, Good}
use Rattle.gates.specs.Hadamards.{is_hadamard}
use Rattle.sets.specs.Lists.{All}
use Rattle.gates.proofs.Records.{kind-packed, a-packed, b-packed}
use Rattle.gates.proofs.Hadamards.{hadamard-kind}
use Rattle.verdicts.specs.Verdicts.{number_of}
use Rattle.judging.specs.Tests.{verdict_of}
use Rattle.laying.specs.Answers.{circuit_of}
use Rattle.laying.proofs.Accepting.{job-layable}
use Rattle.laying.proofs.Demands.{demand-2}
use Rattle.stretches.specs.Cut.{first_at}
use Rattle.stretches.specs.Stretches.{end_at}
use Rattle.stretches.specs.Laid.{stretch_records}
use Rattle.stretches.specs.Parts.{hadamard_at}
use Rattle.stretches.proofs.Cutting.{first-is}
use Rattle.lines.proofs.Layouts.{a_lt}
use Rattle.lines.proofs.Writes.{width-most}
use Rattle.versions.specs.declared.Version.{Version}
use Rattle.qasm_lines.specs.Spelling.{gate_text, gates_text}
use Rattle.qasm_lines.proofs.Sizes.{gate-most, other_length}

-- ---- the statements of a laid stretch

gate-fits : (v : Version) (n : ℕ) (g : Gate) → n ≤ 100 → Good n g → length (gate_text v (record_of g)) ≤ 26
unfolding Good record_of
gate-fits v n (Cnot c t) few (hc, ht, ne) =
    let a : c % 256 < 256 = omega arith in
    let b : t % 65536 < 65536 = omega arith in
    gate-most v (packed 1 (c % 256) (t % 65536)) (omega (arith, a-packed 1 (c % 256) (t % 65536) a b)) (λ k. omega (arith, b-packed 1 (c % 256) (t % 65536) a b))
gate-fits v n (Rotation q r) few (hq, hr) =
    let a : q % 256 < 256 = omega arith in
    let b : r % 65536 < 65536 = omega arith in
    gate-most v (packed 2 (q % 256) (r % 65536)) (omega (arith, a-packed 2 (q % 256) (r % 65536) a b)) (λ k. absurd (omega (arith, k, kind-packed 2 (q % 256) (r % 65536) a b)))
gate-fits v n (X q) few hq =
    let a : q % 256 < 256 = omega arith in
    let b : 0 < 65536 = omega arith in
    gate-most v (packed 3 (q % 256) 0) (omega (arith, a-packed 3 (q % 256) 0 a b)) (λ k. absurd (omega (arith, k, kind-packed 3 (q % 256) 0 a b)))
gate-fits v n Bad few h = absurd h

gates-most : (v : Version) (n : ℕ) (gs : List Gate) → n ≤ 100 → All (Good n) gs → length (gates_text v (map record_of gs)) ≤ 26 * length gs
unfolding All gates_text
gates-most v n [] few a = omega arith
gates-most v n (g ∷ gs) few a = omega (arith, length-append (gate_text v (record_of g)) (gates_text v (map record_of gs)), gate-fits v n g few a.0, gates-most v n gs few a.1)

pub stretch-most : (v : Version) (n : ℕ) (xs s : List ℕ) (room : ℕ) → number_of (verdict_of n xs s room) ≡ 0 → length (gates_text v (stretch_records n xs s)) ≤ 26 * length (stretch_records n xs s)
stretch-most v n xs s room z =
    omega (arith, gates-most v n (circuit_of n xs s) (omega (arith, (job-layable n xs s room z).few)) (demand-2 n xs s room z).good, length-map (circuit_of n xs s) record_of)

-- ---- a Hadamard's

one-hadamard : (v : Version) (n x : ℕ) → is_hadamard n x ≡ true → length (gate_text v x) ≤ 26
one-hadamard v n x e =
    let k = hadamard-kind n x e in
    omega (arith, other_length v x (λ z. omega (arith, z, k)) (λ z. omega (arith, z, k)) (λ z. omega (arith, z, k)), width-most 2 (a_in x) (omega (arith, a_lt x)))

-- there is one at most
pub hadamard-most : (v : Version) (n : ℕ) (ys : List ℕ) (k : ℕ) → length (gates_text v (hadamard_at n ys k)) ≤ 26
unfolding end_at gates_text
hadamard-most v n ys k = go (dec_lt f (length (drop k ys)))
  where
    f : ℕ
    f = first_at (is_hadamard n) (drop k ys)

    there : drop (k + f) ys ≡ drop f (drop k ys)
    there = sym (drop-drop f k ys)

    go : Dec (f < length (drop k ys)) → length (gates_text v (take 1 (drop (k + f) ys))) ≤ 26
    go (yes l) =
        let x : ℕ = get_or (drop k ys) f 0 in
        let e : take 1 (drop (k + f) ys) ≡ x ∷ [] = ap (take 1) (there ∙ drop-cons (drop k ys) f 0 l) in
        omega (arith, ap (λ (h : List ℕ). length (gates_text v h)) e, length-append (gate_text v x) [], one-hadamard v n x (first-is (is_hadamard n) 0 (drop k ys) l))
    go (no m) =
        let l : length (drop k ys) ≤ f = omega (arith, m) in
        let e : take 1 (drop (k + f) ys) ≡ [] = ap (take 1) (there ∙ drop_of_length-le (drop k ys) l) in
        omega (arith, ap (λ (h : List ℕ). length (gates_text v h)) e)
