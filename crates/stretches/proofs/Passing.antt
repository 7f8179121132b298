-- A job that passed tests 1 to 7: each of its stretches is a job of its own that is accepted, and what is laid fits B. Assumes nothing.
use mathlib.Core.Path.{◌≡◌, refl, sym, ap, ◌∙◌, subst}
use mathlib.Core.Logic.{◌⊎◌, inl, inr}
use mathlib.Core.Bool.{Bool, true, false, not}
use mathlib.Core.List.{List, [], ◌∷◌, map}
use Prim.Native.Nat.{ℕ, ◌+◌, ◌*◌, ◌≤◌, ◌<◌}
use native.Mathlib.Omega.{arith}
use lib.Dec.{eqb, ltb}
use lib.ListN.{length, get_or, length-map, length-append}
use borrow.Author.Tests.{eqb-true, ltb-false, le-ltb}
use Rattle.std.specs.Prelude.{Ok, Err}
use Rattle.sets.specs.Pick.{pick, both}
use Rattle.gates.specs.Limits.{most_gates}
use Rattle.gates.specs.Layout.{gate_of, gates_of, record_of, Good, is_bad}
use Rattle.gates.specs.Hadamards.{is_hadamard}
use Rattle.gates.proofs.Records.{good-not-bad}
use Rattle.gates.proofs.Hadamards.{hadamard-bad}
use Rattle.verdicts.specs.declared.verdict.Refusal.TheVariants.{ManyGates, ManyParities, Unreachable, Room}
use Rattle.verdicts.specs.Verdicts.{Verdict, number_of, judged_qubits, judged_couplers, judged_gates, is_neither, judged_drawn}
use Rattle.verdicts.specs.InOrder.{and_then}
use Rattle.verdicts.proofs.Judged.{zero-accepted, then-zero, then-on, then-accepted}
use Rattle.verdicts.proofs.Rows.{row-passes}
use Rattle.verdicts.proofs.Passing.{accepted-drawn, drawn-accepted, drawn-gates}
use Rattle.tallies.specs.Tally.{bound_of, largest}
use Rattle.tallies.proofs.Tallies.{bound-most}
use Rattle.meaning.specs.Borne.{over_at, terms}
use Rattle.meaning.proofs.Bearing.{terms-few}
use Rattle.chip.specs.Couplers.{near_of}
use Rattle.isles.specs.Islands.{islands_of}
use Rattle.judging.specs.Tests.{judged_count, judged_parities, judged_reach, judged_room, judged_meaning, verdict_of, verdict_on}
use Rattle.judging.proofs.Judging.{over-le, over-few, qubits-few, parities-pass}
use Rattle.laying.specs.Answers.{circuit_of}
use Rattle.laying.specs.Demands.{judged_six}
use Rattle.laying.proofs.Demands.{demand-2}
use Rattle.laying.proofs.InOrder.{tests-4}
use Rattle.sets.specs.Lists.{those, All}
use Rattle.stretches.specs.Cut.{ahead, cut_at, weave}
use Rattle.stretches.specs.Stretches.{stretches_of, hadamards_of}
use Rattle.stretches.specs.Tests.{judged_five, judged_parities_at, judged_parities_from, judged_reach_at, judged_reach_from, judged_reaches, bounds_of, job_bound, judged_stretches}
use Rattle.stretches.specs.Asked.{OnlyReach, Counted, Accepts}
use Rattle.stretches.specs.Laid.{stretch_records, job_records}
use Rattle.sets.proofs.Lists.{all_one, all_both, all-places, all-place}
use Rattle.stretches.proofs.Cutting.{cut_all, cut_short, cut-few}

-- ---- 5, of a stretch

-- the record of a good gate
abbrev Fair : ℕ → ℕ → Type 0
Fair n x = Good n (gate_of n x)

fair-between : (n x : ℕ) → Fair n x → is_hadamard n x ≡ false
fair-between n x f = go (is_hadamard n x) refl
  where
    go : (b : Bool) → is_hadamard n x ≡ b → b ≡ false
    go false e = refl
    go true e = absurd (let z : ◌≡◌ {A = ℕ} 1 0 = ap (λ (b : Bool). pick b 1 0) (sym (ap is_bad (hadamard-bad n x e)) ∙ good-not-bad n (gate_of n x) f) in omega arith)

fair-neither : (n x : ℕ) → Fair n x → is_neither n x ≡ false
unfolding is_neither
fair-neither n x f = ap (λ (b : Bool). both b (not (is_hadamard n x))) (good-not-bad n (gate_of n x) f)

fair-accepted : (n : ℕ) (s : List ℕ) → All (Fair n) s → judged_gates n s ≡ Ok tt
fair-accepted n s f =
    sym (drawn-gates n s (λ k l. fair-between n (get_or s k 0) (all-place (Fair n) s f k l))) ∙ drawn-accepted n s (λ k l. fair-neither n (get_or s k 0) (all-place (Fair n) s f k l))

no-hadamard : (n x : ℕ) → Good n (gate_of n x) ⊎ (is_hadamard n x ≡ true) → is_hadamard n x ≡ false → Fair n x
no-hadamard n x (inl g) e = g
no-hadamard n x (inr h) e = absurd (let z : ◌≡◌ {A = ℕ} 1 0 = ap (λ (b : Bool). pick b 1 0) (sym h ∙ e) in omega arith)

module _ (n : ℕ) (gates : List ℕ) where
  stretches-fair : judged_drawn n gates ≡ Ok tt → All (All (Fair n)) (stretches_of n gates)
  unfolding stretches_of
  stretches-fair e =
      cut_all (Fair n) (is_hadamard n) gates
      (all-places (λ x. is_hadamard n x ≡ false → Fair n x) gates (λ k l. no-hadamard n (get_or gates k 0) (accepted-drawn n gates e k l)))

  stretches-short : length gates ≤ most_gates → All (λ s. length s < most_gates + 1) (stretches_of n gates)
  unfolding stretches_of
  stretches-short l = cut_short (is_hadamard n) gates (most_gates + 1) (omega arith)

-- ---- 6 and 7, of a stretch

module _ (n : ℕ) where
  six-counted : (k : ℕ) (s : List ℕ) → number_of (judged_parities_at n k s) ≡ 0 → Counted n s
  unfolding judged_parities_at
  six-counted k s e = go (ltb (over_at (gates_of n s)) (length s)) refl e
    where
      go : (b : Bool) → ltb (over_at (gates_of n s)) (length s) ≡ b → number_of (pick b (Err (ManyParities (k + over_at (gates_of n s)))) (Ok tt)) ≡ 0 → Counted n s
      go true x e = absurd (let y : ◌≡◌ {A = ℕ} 6 0 = e in omega arith)
      go false x e = omega (arith, ltb-false (over_at (gates_of n s)) (length s) x, over-le (gates_of n s), length-map s (gate_of n))

  pub parities-counted : (k : ℕ) (ss : List (List ℕ)) → number_of (judged_parities_from n k ss) ≡ 0 → All (Counted n) ss
  unfolding judged_parities_from All
  parities-counted k [] e = tt
  parities-counted k (s ∷ ss) e =
      let a = then-zero (judged_parities_at n k s) (judged_parities_from n (k + length s + 1) ss) e in
      (six-counted k s a.0, parities-counted (k + length s + 1) ss a.1)

  module _ (isls : List ℕ) where
    abbrev Reaches : List ℕ → Type 0
    Reaches s = number_of (judged_reach n isls (gates_of n s)) ≡ 0

    seven-reaches : (k : ℕ) (s : List ℕ) → number_of (judged_reach_at n isls k s) ≡ 0 → Reaches s
    unfolding judged_reach_at
    seven-reaches k s e = go (eqb (number_of (judged_reach n isls (gates_of n s))) 0) refl e
      where
        go : (b : Bool) → eqb (number_of (judged_reach n isls (gates_of n s))) 0 ≡ b → number_of (pick b (Ok tt) (Err (Unreachable k))) ≡ 0 → Reaches s
        go true x e = eqb-true (number_of (judged_reach n isls (gates_of n s))) 0 x
        go false x e = absurd (let y : ◌≡◌ {A = ℕ} 7 0 = e in omega arith)

    from-reaches : (k : ℕ) (ss : List (List ℕ)) → number_of (judged_reach_from n isls k ss) ≡ 0 → All Reaches ss
    unfolding judged_reach_from All
    from-reaches k [] e = tt
    from-reaches k (s ∷ ss) e =
        let a = then-zero (judged_reach_at n isls k s) (judged_reach_from n isls (k + length s + 1) ss) e in
        (seven-reaches k s a.0, from-reaches (k + length s + 1) ss a.1)

  -- no Hadamard: one stretch
  pub none-one : (xs : List ℕ) → length (hadamards_of n xs) ≡ 0 → stretches_of n xs ≡ xs ∷ []
  unfolding hadamards_of stretches_of those cut_at ahead
  none-one [] e = refl
  none-one (x ∷ xs) e = go (is_hadamard n x) (none-one xs) e
    where
      go : (b : Bool) → (length (those (is_hadamard n) xs) ≡ 0 → cut_at (is_hadamard n) xs ≡ xs ∷ []) → length (pick b (x ∷ those (is_hadamard n) xs) (those (is_hadamard n) xs)) ≡ 0
          → pick b ([] ∷ cut_at (is_hadamard n) xs) (ahead x (cut_at (is_hadamard n) xs)) ≡ (x ∷ xs) ∷ []
      go true r e = absurd (omega arith)
      go false r e = ap (ahead x) (r e)

  reaches-each : (couplers xs : List ℕ) → number_of (judged_reaches n couplers xs) ≡ 0 → All (Reaches (islands_of (near_of n couplers))) (stretches_of n xs)
  unfolding judged_reaches
  reaches-each couplers xs e = go (eqb (length (hadamards_of n xs)) 0) refl e
    where
      isls : List ℕ
      isls = islands_of (near_of n couplers)

      go : (b : Bool) → eqb (length (hadamards_of n xs)) 0 ≡ b → number_of (pick b (judged_reach n isls (gates_of n xs)) (judged_reach_from n isls 0 (stretches_of n xs))) ≡ 0 → All (Reaches isls) (stretches_of n xs)
      go true x e = subst (All (Reaches isls)) (sym (none-one xs (eqb-true (length (hadamards_of n xs)) 0 x))) (all_one (Reaches isls) xs e)
      go false x e = from-reaches isls 0 (stretches_of n xs) e

-- ---- a stretch as a job of its own

count-passed : (s : List ℕ) → length s ≤ most_gates → judged_count s ≡ Ok tt
unfolding judged_count
count-passed s l = ap (λ (b : Bool). pick b (Err ManyGates) (Ok tt)) (le-ltb most_gates (length s) l)

room-passed : (n : ℕ) (s : List ℕ) → n ≤ 20 → Counted n s → judged_room n (gates_of n s) largest ≡ Ok tt
unfolding judged_room
room-passed n s few c =
    ap (λ (b : Bool). pick b (Err Room) (Ok tt))
    (le-ltb largest (bound_of n (length (terms (gates_of n s)))) (bound-most n (length (terms (gates_of n s))) few (omega (arith, terms-few (gates_of n s), over-few (gates_of n s) c))))

-- past tests 1 to 6
module _ (n : ℕ) (couplers : List ℕ) (qubits : number_of (judged_qubits n) ≡ 0) (listed : number_of (judged_couplers n couplers) ≡ 0)
    (s : List ℕ) (fair : All (Fair n) s) (short : length s < most_gates + 1) (c : Counted n s) where
  only-reach : OnlyReach n couplers s
  unfolding verdict_of verdict_on judged_meaning
  only-reach =
      let reach : Verdict = judged_reach n (islands_of (near_of n couplers)) (gates_of n s) in
      let r : Verdict = and_then reach (judged_room n (gates_of n s) largest) in
      let p : Verdict = and_then (judged_parities (gates_of n s)) r in
      let g : Verdict = and_then (judged_gates n s) p in
      let k : Verdict = and_then (judged_count s) g in
      sym (then-on (judged_qubits n) (and_then (judged_couplers n couplers) k) qubits) ∙ sym (then-on (judged_couplers n couplers) k listed)
      ∙ sym (then-on (judged_count s) g (ap number_of (count-passed s (omega (arith, short)))))
      ∙ sym (then-on (judged_gates n s) p (ap number_of (fair-accepted n s fair)))
      ∙ sym (then-on (judged_parities (gates_of n s)) r (ap number_of (parities-pass (gates_of n s) c)))
      ∙ ap (and_then reach) (room-passed n s (qubits-few n qubits).1 c) ∙ then-accepted reach

  stretch-six : number_of (judged_six n couplers s) ≡ 0
  unfolding judged_six
  stretch-six =
      let p : Verdict = judged_parities (gates_of n s) in
      let g : Verdict = and_then (judged_gates n s) p in
      let k : Verdict = and_then (judged_count s) g in
      ap number_of
      (sym (then-on (judged_qubits n) (and_then (judged_couplers n couplers) k) qubits) ∙ sym (then-on (judged_couplers n couplers) k listed)
      ∙ sym (then-on (judged_count s) g (ap number_of (count-passed s (omega (arith, short))))) ∙ sym (then-on (judged_gates n s) p (ap number_of (fair-accepted n s fair)))
      ∙ parities-pass (gates_of n s) c)

  stretch-accepted : Reaches n (islands_of (near_of n couplers)) s → Accepts n couplers s
  stretch-accepted z = ap number_of only-reach ∙ z

-- ---- all of them

pub record Passed (n : ℕ) (couplers gates : List ℕ) : Type 0 where
  pub qubits : number_of (judged_qubits n) ≡ 0
  pub few : n ≤ 20
  pub listed : judged_couplers n couplers ≡ Ok tt
  pub drawn : judged_drawn n gates ≡ Ok tt
  pub short : length gates ≤ most_gates
  pub counted : All (Counted n) (stretches_of n gates)
  pub accepts : All (Accepts n couplers) (stretches_of n gates)

module _ (n : ℕ) (couplers gates : List ℕ) where
  record Drawing : Type 0 where
    qubits : number_of (judged_qubits n) ≡ 0
    couplers-listed : number_of (judged_couplers n couplers) ≡ 0
    short : length gates ≤ most_gates
    drawn : judged_drawn n gates ≡ Ok tt

  drawing : number_of (judged_five n couplers gates) ≡ 0 → Drawing
  unfolding judged_five
  drawing z =
      let a = then-zero (judged_qubits n) _ z in
      let b = then-zero (judged_couplers n couplers) _ a.1 in
      let c = then-zero (judged_count gates) _ b.1 in
      record { qubits = a.0; couplers-listed = b.0; short = (row-passes (tests-4 gates)).exactly.0 c.0; drawn = zero-accepted (judged_drawn n gates) c.1 }

  module _ (d : number_of (judged_five n couplers gates) ≡ 0) where
    stretches : (P : List ℕ → Type 0) → ((s : List ℕ) → All (Fair n) s → length s < most_gates + 1 → P s) → All P (stretches_of n gates)
    stretches P f =
        all_both (All (Fair n)) (λ s. length s < most_gates + 1) P f (stretches_of n gates) (stretches-fair n gates (drawing d).drawn) (stretches-short n gates (drawing d).short)

    module _ (p : number_of (judged_parities_from n 0 (stretches_of n gates)) ≡ 0) where
      past-six : (P : List ℕ → Type 0) → ((s : List ℕ) → All (Fair n) s → length s < most_gates + 1 → Counted n s → P s) → All P (stretches_of n gates)
      past-six P f = all_both (λ s. Counted n s → P s) (Counted n) P (λ s g c. g c) (stretches_of n gates) (stretches (λ s. Counted n s → P s) f) (parities-counted n 0 (stretches_of n gates) p)

      pub only-reaches : All (OnlyReach n couplers) (stretches_of n gates)
      only-reaches = past-six (OnlyReach n couplers) (only-reach n couplers (drawing d).qubits (drawing d).couplers-listed)

      -- each stretch by itself is past tests 1 to 6
      pub stretches-six : All (λ s. number_of (judged_six n couplers s) ≡ 0) (stretches_of n gates)
      stretches-six = past-six (λ s. number_of (judged_six n couplers s) ≡ 0) (stretch-six n couplers (drawing d).qubits (drawing d).couplers-listed)

  pub job-passed : number_of (judged_stretches n couplers gates) ≡ 0 → Passed n couplers gates
  unfolding judged_stretches
  job-passed z =
      let a = then-zero (judged_five n couplers gates) _ z in
      let b = then-zero (judged_parities_from n 0 (stretches_of n gates)) _ a.1 in
      let d = drawing a.0 in
      let isls : List ℕ = islands_of (near_of n couplers) in
      let c : All (Counted n) (stretches_of n gates) = parities-counted n 0 (stretches_of n gates) b.0 in
      record {
        qubits = d.qubits;
        few = (qubits-few n d.qubits).1;
        listed = zero-accepted (judged_couplers n couplers) d.couplers-listed;
        drawn = d.drawn;
        short = d.short;
        counted = c;
        accepts = all_both (λ s. Counted n s → Reaches n isls s → Accepts n couplers s) (λ s. Counted n s × Reaches n isls s) (Accepts n couplers) (λ s f p. f p.0 p.1) (stretches_of n gates)
            (stretches a.0 (λ s. Counted n s → Reaches n isls s → Accepts n couplers s) (λ s f l p. stretch-accepted n couplers d.qubits d.couplers-listed s f l p))
            (all_both (Counted n) (Reaches n isls) (λ s. Counted n s × Reaches n isls s) (λ s x y. (x, y)) (stretches_of n gates) c (reaches-each n couplers gates b.1));
      }

  -- ---- what is laid

  bounded : (s : List ℕ) → Accepts n couplers s → length (stretch_records n couplers s) ≤ bound_of n (length (terms (gates_of n s)))
  bounded s a = omega (arith, length-map (circuit_of n couplers s) record_of, (demand-2 n couplers s largest a).bound)

  -- of a stretch that passed test 6, the largest B
  pub part-few : (s : List ℕ) → Accepts n couplers s → Counted n s → n ≤ 20 → length (stretch_records n couplers s) ≤ largest
  part-few s a c few =
      omega (arith, bounded s a, bound-most n (length (terms (gates_of n s))) few (omega (arith, terms-few (gates_of n s), over-few (gates_of n s) c)))

  woven-length : (ss : List (List ℕ)) (hs : List ℕ) → All (Accepts n couplers) ss → length (weave (map (stretch_records n couplers) ss) hs) ≤ bounds_of n ss + length hs
  unfolding weave bounds_of All
  woven-length [] hs a = omega arith
  woven-length (s ∷ ss) [] a = omega (arith, bounded s a.0)
  woven-length (s ∷ ss) (h ∷ hs) a =
      omega (arith, bounded s a.0, length-append (stretch_records n couplers s) (h ∷ weave (map (stretch_records n couplers) ss) hs), woven-length ss hs a.1)

  -- B is never exceeded
  pub job-bounded : Passed n couplers gates → length (job_records n couplers gates) ≤ job_bound n gates
  unfolding job_records job_bound
  job-bounded p = woven-length (stretches_of n gates) (hadamards_of n gates) p.accepts

  -- and the whole is never longer than a part for each gate
  woven-few : (ss : List (List ℕ)) (hs : List ℕ) → All (Accepts n couplers) ss → All (Counted n) ss → n ≤ 20 → length (weave (map (stretch_records n couplers) ss) hs) ≤ 10765 * length ss
  unfolding weave All bound_of
  woven-few [] hs a c few = omega arith
  woven-few (s ∷ ss) [] a c few = omega (arith, part-few s a.0 c.0 few)
  woven-few (s ∷ ss) (h ∷ hs) a c few =
      omega (arith, part-few s a.0 c.0 few, length-append (stretch_records n couplers s) (h ∷ weave (map (stretch_records n couplers) ss) hs), woven-few ss hs a.1 c.1 few)

  pub job-few : Passed n couplers gates → length (job_records n couplers gates) ≤ (most_gates + 1) * (largest + 1)
  unfolding job_records stretches_of bound_of
  job-few p =
      omega (arith, woven-few (stretches_of n gates) (hadamards_of n gates) p.accepts p.counted p.few, cut-few (is_hadamard n) gates, p.short)
