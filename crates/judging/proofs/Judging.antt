-- Tests 1 to 8 as the code makes them. Assumes nothing.
use mathlib.Core.Path.{◌≡◌, refl, sym, ap, ◌∙◌, subst}
use mathlib.Core.Bool.{Bool, true, false}
use mathlib.Core.List.{List}
use Prim.Native.Nat.{ℕ, zero, suc, ◌+◌, ◌≤◌, ◌<◌}
use native.Mathlib.Omega.{arith}
use lib.Dec.{ltb, leb}
use lib.ListN.{length, take, length-map}
use lib.Seq.{take_all}
use borrow.Author.Tests.{lt-ltb, le-ltb, ltb-false, leb-true}
use Rattle.std.specs.Prelude.{Option, Some, None, Ok, Err}
use Rattle.sets.specs.Pick.{pick, both}
use Rattle.sets.specs.Search.{found_of}
use Rattle.sets.proofs.Finding.{first-le, first-before, found-first, found-not}
use Rattle.gates.specs.declared.gate.Gate.{Gate}
use Rattle.table.specs.declared.sums.Sums.{Sums}
use Rattle.meaning.specs.declared.told.Told.{Told}
use Rattle.meaning.specs.declared.told.Meaning.{Meaning}
use Rattle.verdicts.specs.declared.verdict.Refusal.TheVariants.{Qubits, ManyGates, ManyParities, Unreachable, Room}
use Rattle.gates.specs.Layout.{gate_of, gates_of}
use Rattle.circuit.specs.Circuit.{run, start}
use Rattle.meaning.specs.Borne.{borne, borne_from, over_at, terms}
use Rattle.table.specs.Table.{terms_in}
use Rattle.meaning.specs.Told.{told_of, meaning_of, table_of}
use Rattle.circuit.specs.State.{wires_of}
use Rattle.tallies.specs.Tally.{bound_of}
use Rattle.verdicts.specs.Verdicts.{Verdict, number_of, judged_qubits, judged_couplers, judged_gates}
use Rattle.verdicts.proofs.Judged.{then-on, then-stop}
use Rattle.meaning.proofs.Bearing.{terms-few}
use Rattle.meaning.proofs.Terms.{term_table, terms-table}
use Rattle.meaning.proofs.Telling.{told-whole}
use Rattle.table.proofs.Keeping.{take-padded}
use Rattle.chip.specs.Couplers.{near_of}
use Rattle.isles.specs.Islands.{islands_of}
use Rattle.judging.specs.Tests.{judged_count, judged_parities, leaves_at, stray_at, scattered, judged_reach, judged_room, judged_meaning, verdict_of, verdict_on}

-- ---- 6

pub over-le : (gs : List Gate) → over_at gs ≤ length gs
unfolding over_at
over-le gs = omega (arith, first-le (λ k. ltb 256 (length (borne (take (k + 1) gs)))) (length gs) 0)

-- where no gate brings the 257th parity, there are 256 at most
pub over-few : (gs : List Gate) → over_at gs ≡ length gs → length (borne gs) ≤ 256
unfolding over_at
over-few gs e = go (length gs) refl
  where
    go : (m : ℕ) → length gs ≡ m → length (borne gs) ≤ 256
    go zero z = subst (λ (l : List Gate). length (borne l) ≤ 256) (take_all 0 gs (omega arith)) (none gs)
      where
        none : (l : List Gate) → length (borne (take 0 l)) ≤ 256
        none l = unfold borne borne_from in omega arith
    go (suc m) z =
        let b = first-before (λ k. ltb 256 (length (borne (take (k + 1) gs)))) (length gs) 0 m (omega arith) (omega (arith, e)) in
        subst (λ (l : List Gate). length (borne l) ≤ 256) (take_all (m + 1) gs (omega arith)) (ltb-false 256 (length (borne (take (m + 1) gs))) b)

module _ (gs : List Gate) where
  pub parities-pass : over_at gs ≡ length gs → judged_parities gs ≡ Ok tt
  unfolding judged_parities
  parities-pass e = rw (le-ltb (over_at gs) (length gs) (omega arith))

  pub parities-fail : over_at gs < length gs → judged_parities gs ≡ Err (ManyParities (over_at gs))
  unfolding judged_parities
  parities-fail h = rw (lt-ltb (over_at gs) (length gs) h)

-- ---- 7

module _ (n : ℕ) (islands : List ℕ) (gs : List Gate) where
  pub reach-stray : stray_at n islands (run gs start) < n → judged_reach n islands gs ≡ Err (Unreachable (stray_at n islands (run gs start)))
  unfolding judged_reach
  reach-stray h = rw (lt-ltb (stray_at n islands (run gs start)) n h)

  module _ (none : n ≤ stray_at n islands (run gs start)) where
    pub reach-scattered : scattered islands (terms gs) ≡ true → judged_reach n islands gs ≡ Err (Unreachable n)
    unfolding judged_reach
    reach-scattered s = rw (le-ltb (stray_at n islands (run gs start)) n none, s)

    pub reach-pass : scattered islands (terms gs) ≡ false → judged_reach n islands gs ≡ Ok tt
    unfolding judged_reach
    reach-pass s = rw (le-ltb (stray_at n islands (run gs start)) n none, s)

-- ---- 8

module _ (n : ℕ) (gs : List Gate) (room : ℕ) where
  pub room-fail : room < bound_of n (length (terms gs)) → judged_room n gs room ≡ Err Room
  unfolding judged_room
  room-fail h = rw (lt-ltb room (bound_of n (length (terms gs))) h)

  pub room-pass : bound_of n (length (terms gs)) ≤ room → judged_room n gs room ≡ Ok tt
  unfolding judged_room
  room-pass h = rw (le-ltb room (bound_of n (length (terms gs))) h)

-- ---- 6 to 8, from what was told

module _ (n : ℕ) (islands ys : List ℕ) (room : ℕ) (t : Told) (e : t ≡ told_of n ys) where
  abbrev gs : List Gate
  gs = gates_of n ys

  long : length gs ≡ length ys
  long = length-map ys (gate_of n)

  fed-is : t.fed ≡ over_at gs
  unfolding told_of
  fed-is = ap (λ (u : Told). u.fed) e

  pub told_over : t.fed < length ys → Err (ManyParities t.fed) ≡ judged_meaning n islands gs room
  unfolding judged_meaning
  told_over h = rw (parities-fail gs (omega (arith, fed-is, long))) (ap (λ k. Err (ManyParities k)) fed-is)

  module _ (all : length ys ≤ t.fed) where
    pub whole : over_at gs ≡ length gs
    whole = omega (arith, fed-is, long, over-le gs)

    told_is : t.meaning ≡ meaning_of gs
    told_is = told-whole n ys t e whole

    wires-are : t.meaning.wires.parity ≡ run gs start
    unfolding meaning_of wires_of
    wires-are = ap (λ (m : Meaning). m.wires.parity) told_is

    sums-are : t.meaning.sums ≡ table_of gs
    unfolding meaning_of
    sums-are = ap (λ (m : Meaning). m.sums) told_is

    module _ (w : Option ℕ) (s : w ≡ found_of (leaves_at islands t.meaning.wires.parity) n) where
      stray-is : w ≡ found_of (leaves_at islands (run gs start)) n
      stray-is = s ∙ ap (λ (p : List ℕ). found_of (leaves_at islands p) n) wires-are

      pub told-stray : {i : ℕ} → w ≡ Some i → Err (Unreachable i) ≡ judged_meaning n islands gs room
      unfolding judged_meaning stray_at
      told-stray {i} h =
          let found = found-first (leaves_at islands (run gs start)) n (sym stray-is ∙ h) in
          rw (parities-pass gs whole, reach-stray n islands gs (omega (arith, found))) (ap (λ k. Err (Unreachable k)) (sym found.0))

      module _ (none : w ≡ None) (u : Sums) (v : u ≡ terms_in t.meaning.sums) where
        table_is : u ≡ term_table gs
        table_is = v ∙ ap terms_in sums-are ∙ terms-table gs

        count-is : u.len ≡ length (terms gs)
        unfolding term_table
        count-is = ap (λ (x : Sums). x.len) table_is

        terms-are : take u.len u.parity ≡ terms gs
        unfolding term_table
        terms-are = ap (λ (x : Sums). take x.len x.parity) table_is ∙ take-padded 256 (length (terms gs)) (terms gs) refl

        pub told-few : u.len ≤ 256
        told-few = omega (arith, count-is, terms-few gs, over-few gs whole)

        clear : n ≤ stray_at n islands (run gs start)
        unfolding stray_at
        clear = found-not (leaves_at islands (run gs start)) n (sym stray-is ∙ none)

        module _ (b : Bool) (c : b ≡ scattered islands (take u.len u.parity)) where
          scattered-is : scattered islands (terms gs) ≡ b
          scattered-is = sym (c ∙ ap (scattered islands) terms-are)

          pub told-scattered : b ≡ true → Err (Unreachable n) ≡ judged_meaning n islands gs room
          unfolding judged_meaning
          told-scattered y = rw (parities-pass gs whole, reach-scattered n islands gs clear (scattered-is ∙ y))

          module _ (y : b ≡ false) (B : ℕ) (m : B ≡ bound_of n u.len) where
            bound-is : B ≡ bound_of n (length (terms gs))
            bound-is = m ∙ ap (bound_of n) count-is

            pub told-short : room < B → Err Room ≡ judged_meaning n islands gs room
            unfolding judged_meaning
            told-short h =
                rw (parities-pass gs whole, reach-pass n islands gs clear (scattered-is ∙ y), room-fail n gs room (subst (λ (k : ℕ). room < k) bound-is h))

            pub told-pass : B ≤ room → Ok tt ≡ judged_meaning n islands gs room
            unfolding judged_meaning
            told-pass h =
                rw (parities-pass gs whole, reach-pass n islands gs clear (scattered-is ∙ y), room-pass n gs room (subst (λ (k : ℕ). k ≤ room) bound-is h))

-- ---- 1 to 8

pub qubits-few : (n : ℕ) → number_of (judged_qubits n) ≡ 0 → (1 ≤ n) × (n ≤ 20)
unfolding judged_qubits
qubits-few n e = go (leb 1 n) (leb n 20) refl refl e
  where
    go : (a b : Bool) → leb 1 n ≡ a → leb n 20 ≡ b → number_of (pick (both a b) (Ok tt) (Err Qubits)) ≡ 0 → (1 ≤ n) × (n ≤ 20)
    go true true p q z = (leb-true 1 n p, leb-true n 20 q)
    go true false p q z = absurd (let y : ◌≡◌ {A = ℕ} 1 0 = z in omega arith)
    go false b p q z = absurd (let y : ◌≡◌ {A = ℕ} 1 0 = z in omega arith)

module _ (n : ℕ) (xs islands ys : List ℕ) (room : ℕ) where
  -- on the islands of the job's own couplers it is the job's verdict
  pub verdict-found : (near : List ℕ) → near ≡ near_of n xs → islands ≡ islands_of near → (v : Verdict) → v ≡ verdict_on n xs islands ys room → v ≡ verdict_of n xs ys room
  unfolding verdict_of
  verdict-found near d i v e = e ∙ ap (λ (all : List ℕ). verdict_on n xs all ys room) (i ∙ ap islands_of d)

  pub job-qubits : (number_of (judged_qubits n) ≡ 0 → ⊥) → judged_qubits n ≡ verdict_on n xs islands ys room
  unfolding verdict_on
  job-qubits a = then-stop (judged_qubits n) _ a

  module _ (a : number_of (judged_qubits n) ≡ 0) where
    pub job-couplers : (number_of (judged_couplers n xs) ≡ 0 → ⊥) → judged_couplers n xs ≡ verdict_on n xs islands ys room
    unfolding verdict_on
    job-couplers b = then-stop (judged_couplers n xs) _ b ∙ then-on (judged_qubits n) _ a

    module _ (b : number_of (judged_couplers n xs) ≡ 0) where
      pub job-count : 4096 < length ys → Err ManyGates ≡ verdict_on n xs islands ys room
      unfolding verdict_on judged_count
      job-count h =
          let c : judged_count ys ≡ Err ManyGates = ap (λ (t : Bool). pick t (Err ManyGates) (Ok tt)) (lt-ltb 4096 (length ys) h) in
          sym c ∙ then-stop (judged_count ys) _ (λ z. let y : ◌≡◌ {A = ℕ} 4 0 = sym (ap number_of c) ∙ z in omega arith)
          ∙ then-on (judged_couplers n xs) _ b ∙ then-on (judged_qubits n) _ a

      module _ (few : length ys ≤ 4096) where
        count-zero : number_of (judged_count ys) ≡ 0
        unfolding judged_count
        count-zero = ap (λ (t : Bool). number_of (pick t (Err ManyGates) (Ok tt))) (le-ltb 4096 (length ys) few)

        pub job-gates : (number_of (judged_gates n ys) ≡ 0 → ⊥) → judged_gates n ys ≡ verdict_on n xs islands ys room
        unfolding verdict_on
        job-gates d = then-stop (judged_gates n ys) _ d ∙ then-on (judged_count ys) _ count-zero ∙ then-on (judged_couplers n xs) _ b ∙ then-on (judged_qubits n) _ a

        pub job-inside : number_of (judged_gates n ys) ≡ 0 → judged_meaning n islands (gates_of n ys) room ≡ verdict_on n xs islands ys room
        unfolding verdict_on
        job-inside d = then-on (judged_gates n ys) _ d ∙ then-on (judged_count ys) _ count-zero ∙ then-on (judged_couplers n xs) _ b ∙ then-on (judged_qubits n) _ a
