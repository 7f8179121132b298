-- The loops of tests 6, 7 and 8 over the stretches. Assumes nothing.
use mathlib.Core.Path.{◌≡◌, refl, sym, ap, ap₂, ◌∙◌, subst}
use mathlib.Core.Bool.{Bool, true, false}
use mathlib.Core.List.{List, [], ◌∷◌}
use Prim.Native.Nat.{ℕ, ◌+◌, ◌-◌, ◌≤◌, ◌<◌}
use native.Mathlib.Omega.{arith}
use native.Mathlib.Decide.{dec_lt}
use lib.ListN.{length}
use borrow.Author.Tests.{lt-ltb, le-ltb, eq-eqb, ne_eqb}
use Rattle.std.specs.Prelude.{Ok, Err, is_err}
use Rattle.sets.specs.Pick.{pick}
use Rattle.gates.specs.Layout.{gates_of}
use Rattle.verdicts.specs.declared.verdict.Refusal.TheVariants.{ManyParities, Unreachable, Room}
use Rattle.verdicts.specs.Verdicts.{Verdict, number_of}
use Rattle.verdicts.specs.InOrder.{and_then}
use Rattle.verdicts.proofs.Judged.{stopped, then-on, then-stop}
use Rattle.tallies.specs.Tally.{bound_of, largest}
use Rattle.meaning.specs.Borne.{over_at, terms}
use Rattle.chip.specs.Couplers.{near_of}
use Rattle.isles.specs.Islands.{islands_of}
use Rattle.judging.specs.Tests.{judged_reach, verdict_of}
use Rattle.sets.specs.Lists.{All}
use Rattle.stretches.specs.Stretches.{stretches_of, hadamards_of, end_at, stretch_at, rest_from, hadamards_from}
use Rattle.stretches.specs.Tests.{judged_parities_at, judged_parities_from, judged_reach_at, judged_reach_from, judged_reaches, bounds_of, job_bound, judged_bound}
use Rattle.stretches.specs.Asked.{OnlyReach, Counted}
use Rattle.stretches.specs.Parts.{hadamard_at}
use Rattle.sets.proofs.Lists.{all_head, all_tail}
use Rattle.stretches.proofs.Passing.{none-one}
use Rattle.stretches.proofs.Going.{stretch-within, rest-start, rest-past, rest-step, hadamards-start, hadamards-past, hadamards-more, hadamards-last, behind-some, behind-none, hadamards-count}

-- whether it refuses
pub err-went : (v : Verdict) → is_err v ≡ false → number_of v ≡ 0
err-went (Ok tt) e = refl
err-went (Err r) e = let z : ◌≡◌ {A = Bool} true false = e in let y : ◌≡◌ {A = ℕ} 0 1 = cc z in absurd (omega arith)

pub err-stopped : (v : Verdict) → is_err v ≡ true → number_of v ≡ 0 → ⊥
err-stopped (Ok tt) e z = let y : ◌≡◌ {A = Bool} true false = sym e in let x : ◌≡◌ {A = ℕ} 0 1 = cc y in omega arith
err-stopped (Err r) e z = stopped refl refl z

module _ (n : ℕ) (xs : List ℕ) where
  abbrev all : List (List ℕ)
  all = stretches_of n xs

  abbrev rest : ℕ → List (List ℕ)
  rest k = rest_from n xs k

  -- the stretch, as it was lent
  abbrev Lent : ℕ → List ℕ → Type 0
  Lent k s = s ≡ stretch_at n xs k

  module _ (k : ℕ) (s : List ℕ) (e : Lent k s) where
    pub lent-step : k ≤ length xs → rest k ≡ s ∷ rest (k + length s + 1)
    lent-step l = rest-step n xs k l ∙ ap (λ (t : List ℕ). t ∷ rest (k + length t + 1)) (sym e)

    pub lent-within : k ≤ length xs → k + length s ≤ length xs
    lent-within l = subst (λ (t : List ℕ). k + length t ≤ length xs) (sym e) (stretch-within n xs k l)

    lent-hadamards : k ≤ length xs → length (hadamards_from n xs k) ≡ length (hadamard_at n xs k) + length (hadamards_from n xs (k + length s + 1))
    lent-hadamards l = hadamards-count n xs k l ∙ ap (λ (t : List ℕ). length (hadamard_at n xs k) + length (hadamards_from n xs (k + length t + 1))) (sym e)

  -- ---- 6

  pub record Sixth (k : ℕ) : Type 0 where
    pub within : k ≤ length xs + 1
    pub same : judged_parities_from n k (rest k) ≡ judged_parities_from n 0 all

  pub sixth-none : Sixth 0
  sixth-none = record { within = omega arith; same = ap (judged_parities_from n 0) (rest-start n xs) }

  pub sixth-end : (k : ℕ) → length xs < k → Sixth k → Ok tt ≡ judged_parities_from n 0 all
  unfolding judged_parities_from
  sixth-end k l r = sym (ap (judged_parities_from n k) (rest-past n xs k l)) ∙ r.same

  module _ (k : ℕ) (l : k ≤ length xs) (s : List ℕ) (e : Lent k s) (w : ℕ) (o : w ≡ over_at (gates_of n s)) (r : Sixth k) where
    sixth-cons : judged_parities_from n k (rest k) ≡ and_then (judged_parities_at n k s) (judged_parities_from n (k + length s + 1) (rest (k + length s + 1)))
    unfolding judged_parities_from
    sixth-cons = ap (judged_parities_from n k) (lent-step k s e l)

    pub sixth-over : w < length s → Err (ManyParities (k + w)) ≡ judged_parities_from n 0 all
    unfolding judged_parities_at
    sixth-over m =
        let v : judged_parities_at n k s ≡ Err (ManyParities (k + over_at (gates_of n s))) =
        ap (λ (b : Bool). pick b (Err (ManyParities (k + over_at (gates_of n s)))) (Ok tt)) (lt-ltb (over_at (gates_of n s)) (length s) (omega (arith, o))) in
        ap (λ (i : ℕ). Err (ManyParities (k + i))) o ∙ sym v
        ∙ then-stop (judged_parities_at n k s) (judged_parities_from n (k + length s + 1) (rest (k + length s + 1))) (λ z. let y : ◌≡◌ {A = ℕ} 6 0 = sym (ap number_of v) ∙ z in omega arith)
        ∙ sym sixth-cons ∙ r.same

    pub sixth-next : length s ≤ w → Sixth (k + length s + 1)
    unfolding judged_parities_at
    sixth-next m =
        let v : judged_parities_at n k s ≡ Ok tt =
        ap (λ (b : Bool). pick b (Err (ManyParities (k + over_at (gates_of n s)))) (Ok tt)) (le-ltb (over_at (gates_of n s)) (length s) (omega (arith, o))) in
        record {
          within = omega (arith, lent-within k s e l);
          same = then-on (judged_parities_at n k s) (judged_parities_from n (k + length s + 1) (rest (k + length s + 1))) (ap number_of v) ∙ sym sixth-cons ∙ r.same;
        }

  -- ---- 7

  module _ (couplers : List ℕ) where
    abbrev isls : List ℕ
    isls = islands_of (near_of n couplers)

    pub record Seventh (k : ℕ) : Type 0 where
      pub within : k ≤ length xs + 1
      pub only : All (OnlyReach n couplers) (rest k)
      pub same : judged_reach_from n isls k (rest k) ≡ judged_reach_from n isls 0 all

    pub seventh-none : All (OnlyReach n couplers) all → Seventh 0
    seventh-none c = record { within = omega arith; only = subst (All (OnlyReach n couplers)) (sym (rest-start n xs)) c; same = ap (judged_reach_from n isls 0) (rest-start n xs) }

    pub seventh-end : (k : ℕ) → length xs < k → Seventh k → Ok tt ≡ judged_reach_from n isls 0 all
    unfolding judged_reach_from
    seventh-end k l r = sym (ap (judged_reach_from n isls k) (rest-past n xs k l)) ∙ r.same

    module _ (k : ℕ) (l : k ≤ length xs) (s : List ℕ) (e : Lent k s) (v : Verdict) (a : v ≡ verdict_of n couplers s largest) (r : Seventh k) where
      onlys : All (OnlyReach n couplers) (s ∷ rest (k + length s + 1))
      onlys = subst (All (OnlyReach n couplers)) (lent-step k s e l) r.only

      reach : v ≡ judged_reach n isls (gates_of n s)
      reach = a ∙ all_head (OnlyReach n couplers) s (rest (k + length s + 1)) onlys

      seventh-cons : judged_reach_from n isls k (rest k) ≡ and_then (judged_reach_at n isls k s) (judged_reach_from n isls (k + length s + 1) (rest (k + length s + 1)))
      unfolding judged_reach_from
      seventh-cons = ap (judged_reach_from n isls k) (lent-step k s e l)

      pub seventh-not : (number_of v ≡ 0 → ⊥) → Err (Unreachable k) ≡ judged_reach_from n isls 0 all
      unfolding judged_reach_at
      seventh-not ne =
          let u : judged_reach_at n isls k s ≡ Err (Unreachable k) =
          ap (λ (q : Bool). pick q (Ok tt) (Err (Unreachable k))) (ne_eqb (number_of (judged_reach n isls (gates_of n s))) 0 (λ z. ne (ap number_of reach ∙ z))) in
          sym u ∙ then-stop (judged_reach_at n isls k s) (judged_reach_from n isls (k + length s + 1) (rest (k + length s + 1))) (λ z. let y : ◌≡◌ {A = ℕ} 7 0 = sym (ap number_of u) ∙ z in omega arith)
          ∙ sym seventh-cons ∙ r.same

      pub seventh-next : number_of v ≡ 0 → Seventh (k + length s + 1)
      unfolding judged_reach_at
      seventh-next z =
          let u : judged_reach_at n isls k s ≡ Ok tt =
          ap (λ (q : Bool). pick q (Ok tt) (Err (Unreachable k))) (eq-eqb (number_of (judged_reach n isls (gates_of n s))) 0 (sym (ap number_of reach) ∙ z)) in
          record {
            within = omega (arith, lent-within k s e l);
            only = all_tail (OnlyReach n couplers) s (rest (k + length s + 1)) onlys;
            same = then-on (judged_reach_at n isls k s) (judged_reach_from n isls (k + length s + 1) (rest (k + length s + 1))) (ap number_of u) ∙ sym seventh-cons ∙ r.same;
          }

    -- one stretch only, or several; h is the Hadamard behind the first
    abbrev hs : List ℕ
    hs = hadamards_of n xs

    first-none : (h : List ℕ) → h ≡ hadamard_at n xs 0 → length h ≡ 0 → length xs ≤ end_at n xs 0
    first-none h d z = go (dec_lt (end_at n xs 0) (length xs))
      where
        go : Dec (end_at n xs 0 < length xs) → length xs ≤ end_at n xs 0
        go (yes m) = absurd (omega (arith, z, ap length d, ap length (behind-some n xs 0 (omega arith) m)))
        go (no m) = omega (arith, m)

    first_some : (h : List ℕ) → h ≡ hadamard_at n xs 0 → (length h ≡ 0 → ⊥) → end_at n xs 0 < length xs
    first_some h d z = go (dec_lt (end_at n xs 0) (length xs))
      where
        go : Dec (end_at n xs 0 < length xs) → end_at n xs 0 < length xs
        go (yes m) = m
        go (no m) = absurd (z (ap length d ∙ ap length (behind-none n xs 0 (omega arith) (omega (arith, m)))))

    pub reaches-one : (h : List ℕ) → h ≡ hadamard_at n xs 0 → length h ≡ 0 → All (OnlyReach n couplers) all → (v : Verdict) → v ≡ verdict_of n couplers xs largest → v ≡ judged_reaches n couplers xs
    unfolding judged_reaches
    reaches-one h d z only v a =
        let m = first-none h d z in
        let none : hs ≡ [] = sym (hadamards-start n xs) ∙ hadamards-last n xs 0 (omega arith) m in
        let one : all ≡ xs ∷ [] = none-one n xs (ap length none) in
        a ∙ all_head (OnlyReach n couplers) xs [] (subst (All (OnlyReach n couplers)) one only)
        ∙ sym (ap (λ (b : Bool). pick b (judged_reach n isls (gates_of n xs)) (judged_reach_from n isls 0 all)) (eq-eqb (length hs) 0 (ap length none)))

    pub reaches_more : (h : List ℕ) → h ≡ hadamard_at n xs 0 → (length h ≡ 0 → ⊥) → (v : Verdict) → v ≡ judged_reach_from n isls 0 all → v ≡ judged_reaches n couplers xs
    unfolding judged_reaches
    reaches_more h d z v a =
        let m = first_some h d z in
        let c = ap length (sym (hadamards-start n xs) ∙ hadamards-more n xs 0 (omega arith) m) in
        a ∙ sym (ap (λ (b : Bool). pick b (judged_reach n isls (gates_of n xs)) (judged_reach_from n isls 0 all)) (ne_eqb (length hs) 0 (λ y. omega (arith, y, c))))

  -- ---- 8

  abbrev due : ℕ → ℕ
  due k = bounds_of n (rest k) + length (hadamards_from n xs k)

  pub record Eighth (room left k : ℕ) : Type 0 where
    pub within : k ≤ length xs + 1
    pub counted : All (Counted n) (rest k)
    pub sum : room + due k ≡ job_bound n xs + left

  pub eighth-none : (room : ℕ) → All (Counted n) all → Eighth room room 0
  unfolding job_bound
  eighth-none room c = record {
    within = omega arith;
    counted = subst (All (Counted n)) (sym (rest-start n xs)) c;
    sum = omega (arith, ap (bounds_of n) (rest-start n xs), ap length (hadamards-start n xs));
  }

  module _ (room left : ℕ) where
    short : room < job_bound n xs → Err Room ≡ judged_bound n xs room
    unfolding judged_bound
    short m = sym (ap (λ (b : Bool). pick b (Err Room) (Ok tt)) (lt-ltb room (job_bound n xs) m))

    pub eighth-end : (k : ℕ) → length xs < k → Eighth room left k → Ok tt ≡ judged_bound n xs room
    unfolding judged_bound bounds_of
    eighth-end k l r =
        let z : due k ≡ 0 = ap₂ (λ (a : List (List ℕ)) (b : List ℕ). bounds_of n a + length b) (rest-past n xs k l) (hadamards-past n xs k l) in
        sym (ap (λ (b : Bool). pick b (Err Room) (Ok tt)) (le-ltb room (job_bound n xs) (omega (arith, r.sum, z))))

    module _ (k : ℕ) (l : k ≤ length xs) (s : List ℕ) (e : Lent k s) (r : Eighth room left k) where
      counts : All (Counted n) (s ∷ rest (k + length s + 1))
      counts = subst (All (Counted n)) (lent-step k s e l) r.counted

      pub eighth-counted : Counted n s
      eighth-counted = all_head (Counted n) s (rest (k + length s + 1)) counts

      module _ (B : ℕ) (a : B ≡ bound_of n (length (terms (gates_of n s)))) where
        sums : bounds_of n (rest k) ≡ B + bounds_of n (rest (k + length s + 1))
        unfolding bounds_of
        sums = ap (bounds_of n) (lent-step k s e l) ∙ ap (λ (m : ℕ). m + bounds_of n (rest (k + length s + 1))) (sym a)

        pub eighth-short : left < B → Err Room ≡ judged_bound n xs room
        eighth-short m = short (omega (arith, r.sum, sums))

        module _ (m : B ≤ left) (h : List ℕ) (d : h ≡ hadamard_at n xs k) where
          count : length (hadamards_from n xs k) ≡ length h + length (hadamards_from n xs (k + length s + 1))
          count = lent-hadamards k s e l ∙ ap (λ (t : List ℕ). length t + length (hadamards_from n xs (k + length s + 1))) (sym d)

          pub eighth-full : left - B < length h → Err Room ≡ judged_bound n xs room
          eighth-full p = short (omega (arith, r.sum, sums, count))

          pub eighth-next : length h ≤ left - B → Eighth room (left - B - length h) (k + length s + 1)
          eighth-next p = record {
            within = omega (arith, lent-within k s e l);
            counted = all_tail (Counted n) s (rest (k + length s + 1)) counts;
            sum = omega (arith, r.sum, sums, count);
          }
