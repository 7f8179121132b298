-- What passing the tests means: test 7 is passed exactly where the meaning is within the islands, and a job that passed 1 to 8 can be laid. Assumes nothing.
use mathlib.Core.Path.{◌≡◌, refl, sym, ap, ◌∙◌, subst}
use mathlib.Core.Logic.{◌≢◌}
use mathlib.Core.Bool.{Bool, true, false, not}
use mathlib.Core.List.{List}
use Prim.Native.Nat.{ℕ, ◌^◌, ◌≤◌, ◌<◌}
use native.Mathlib.Nat.{lt_of_lt_of_le}
use native.Mathlib.Omega.{arith}
use lib.Dec.{ltb}
use lib.ListN.{length, get_or}
use lib.Pow.{pow_mono}
use borrow.Author.Tests.{ltb-true, ltb-false, not-false}
use Rattle.std.specs.Prelude.{Ok, Err}
use Rattle.sets.specs.Pick.{pick}
use Rattle.sets.specs.Bit.{Sub}
use Rattle.sets.specs.Size.{lowest_of}
use Rattle.sets.specs.Search.{first_of, some_of}
use Rattle.sets.proofs.Finding.{first-true, first-before, first-is, some-no}
use Rattle.sets.proofs.Deciding.{never}
use Rattle.sets.proofs.Words.{lowest-in, lowest-below}
use Rattle.gates.specs.declared.gate.Gate.{Gate}
use Rattle.verdicts.specs.declared.verdict.Refusal.TheVariants.{ManyParities, Unreachable, Room}
use Rattle.gates.specs.Layout.{gates_of, Good}
use Rattle.circuit.specs.Circuit.{run, start, final_of}
use Rattle.meaning.specs.Borne.{Among, terms, over_at}
use Rattle.sets.specs.Lists.{All}
use Rattle.tallies.specs.Tally.{bound_of}
use Rattle.verdicts.specs.Verdicts.{number_of, place_of, judged_qubits, judged_couplers, judged_gates}
use Rattle.verdicts.proofs.Judged.{zero-accepted, then-zero}
use Rattle.circuit.proofs.Circuits.{final-is}
use Rattle.meaning.proofs.Bearing.{borne-not-empty, borne-below, term-among, among-term, terms-borne}
use Rattle.meaning.proofs.Lists.{among-at, at-among}
use Rattle.verdicts.proofs.Passing.{accepted-good}
use Rattle.chip.specs.Couplers.{near_of}
use Rattle.isles.specs.Islands.{island_of, islands_of}
use Rattle.isles.proofs.Isles.{get_or-islands}
use Rattle.share.specs.Own.{inside_of}
use Rattle.laying.specs.Reach.{MeaningInside}
use Rattle.laying.specs.Layable.{Layable}
use Rattle.judging.specs.Tests.{judged_count, judged_parities, leaves_at, stray_at, scatters, scattered, judged_reach, judged_room, judged_meaning, verdict_of, verdict_on}
use Rattle.laying.proofs.Parting.{inside-sub, sub-inside}
use Rattle.laying.proofs.Job.{parts}
use Rattle.judging.proofs.Judging.{over-le, over-few, reach-pass, qubits-few}

-- ---- 7

module _ (n : ℕ) (xs : List ℕ) (gs : List Gate) (few : n ≤ 20) (good : All (Good n) gs) where
  abbrev isl : ℕ → ℕ
  isl = island_of (near_of n xs)

  abbrev isls : List ℕ
  isls = islands_of (near_of n xs)

  abbrev stray : ℕ
  stray = stray_at n isls (run gs start)

  isle : (i : ℕ) → i < n → get_or isls i 0 ≡ isl i
  isle i h = get_or-islands (near_of n xs) i (omega arith)

  reach-clear : number_of (judged_reach n isls gs) ≡ 0 → (n ≤ stray) × (scattered isls (terms gs) ≡ false)
  unfolding judged_reach
  reach-clear e = go (ltb stray n) (scattered isls (terms gs)) refl refl e
    where
      go : (a b : Bool) → ltb stray n ≡ a → scattered isls (terms gs) ≡ b → number_of (pick a (Err (Unreachable stray)) (pick b (Err (Unreachable n)) (Ok tt))) ≡ 0
          → (n ≤ stray) × (scattered isls (terms gs) ≡ false)
      go true b x y e = absurd (omega arith)
      go false true x y e = absurd (omega arith)
      go false false x y e = (ltb-false stray n x, y)

  -- a wire that does not stray
  stays : (i : ℕ) → i < n → leaves_at isls (run gs start) i ≡ false → Sub (final_of gs i) (isl i)
  unfolding leaves_at
  stays i h e =
      subst (λ (m : ℕ). Sub m (isl i)) (sym (final-is gs i))
      (subst (Sub (get_or (run gs start) i 0)) (isle i h) (inside-sub (get_or isls i 0) (get_or (run gs start) i 0) (not-false (inside_of (get_or isls i 0) (get_or (run gs start) i 0)) e)))

  pub stays-before : (i : ℕ) → i < n → i < stray → Sub (final_of gs i) (isl i)
  unfolding stray_at
  stays-before i h l = stays i h (first-before (leaves_at isls (run gs start)) n 0 i (omega arith) l)

  stays-back : (i : ℕ) → i < n → Sub (final_of gs i) (isl i) → leaves_at isls (run gs start) i ≡ false
  unfolding leaves_at
  stays-back i h s =
      ap not
      (sub-inside (get_or isls i 0) (get_or (run gs start) i 0) (subst (Sub (get_or (run gs start) i 0)) (sym (isle i h)) (subst (λ (m : ℕ). Sub m (isl i)) (final-is gs i) s)))

  pub stray-leaves : stray < n → Sub (final_of gs stray) (isl stray) → ⊥
  unfolding stray_at
  stray-leaves l s = never (first-true (leaves_at isls (run gs start)) n 0 (omega arith)) (stays-back stray l s)

  module _ (p : ℕ) (a : Among p (terms gs)) where
    not-empty : p ≢ 0
    not-empty = borne-not-empty n gs few good p (terms-borne p gs a)

    low : p < 2 ^ n
    low = borne-below n gs few good p (terms-borne p gs a)

    first : lowest_of p < n
    first = lowest-below n p (omega arith) low not-empty

    word : p < 2 ^ 32
    word = lt_of_lt_of_le low (pow_mono {i = n} {j = 32} (omega arith))

    gathered : scatters isls p ≡ false → Sub p (isl (lowest_of p))
    unfolding scatters
    gathered e = subst (Sub p) (isle (lowest_of p) first) (inside-sub (get_or isls (lowest_of p) 0) p (not-false (inside_of (get_or isls (lowest_of p) 0) p) e))

    gathered-back : (i : ℕ) → i < n → Sub p (isl i) → scatters isls p ≡ false
    unfolding scatters
    gathered-back i h s =
        let e : isl i ≡ isl (lowest_of p) = (parts n xs few).same i (lowest_of p) h (s (lowest_of p) (lowest-in p word not-empty)) in
        ap not (sub-inside (get_or isls (lowest_of p) 0) p (subst (Sub p) (e ∙ sym (isle (lowest_of p) first)) s))

  none-scattered : scattered isls (terms gs) ≡ false → (k : ℕ) → k < length (terms gs) → scatters isls (get_or (terms gs) k 0) ≡ false
  unfolding scattered some_of
  none-scattered e k h =
      let l : length (terms gs) ≤ first_of (λ j. scatters isls (get_or (terms gs) j 0)) (length (terms gs)) 0 = ltb-false _ _ e in
      first-before (λ j. scatters isls (get_or (terms gs) j 0)) (length (terms gs)) 0 k (omega arith) (omega arith)

  pub reach-within : number_of (judged_reach n isls gs) ≡ 0 → MeaningInside n isl gs
  reach-within e = let c = reach-clear e in record { finals = λ i h. stays-before i h (let l = c.0 in omega arith); terms = λ p t. each c.1 p (term-among p gs t) }
    where
      each : scattered isls (terms gs) ≡ false → (p : ℕ) → Among p (terms gs) → (i : ℕ) × (i < n) × Sub p (isl i)
      each s p a =
          let w = at-among p (terms gs) a in
          (lowest_of p, first p a, gathered p a (subst (λ (m : ℕ). scatters isls m ≡ false) w.2 (none-scattered s w.0 w.1)))

  pub within-reach : MeaningInside n isl gs → judged_reach n isls gs ≡ Ok tt
  unfolding scattered stray_at
  within-reach w =
      reach-pass n isls gs
      (let e = first-is (leaves_at isls (run gs start)) n n (omega arith) (λ (h : n < n). absurd (omega arith)) (λ j h. stays-back j h (w.finals j h)) in omega arith)
      (some-no each (length (terms gs)) (length (terms gs)) (omega arith)
      (first-is each (length (terms gs)) (length (terms gs)) (omega arith) (λ (h : length (terms gs) < length (terms gs)). absurd (omega arith)) (λ k h. at k h)))
    where
      each : ℕ → Bool
      each k = scatters isls (get_or (terms gs) k 0)

      at : (k : ℕ) → k < length (terms gs) → each k ≡ false
      at k h =
          let a : Among (get_or (terms gs) k 0) (terms gs) = among-at (terms gs) k h in
          let i = w.terms (get_or (terms gs) k 0) (among-term (get_or (terms gs) k 0) gs a) in
          gathered-back (get_or (terms gs) k 0) a i.0 i.1 i.2

-- ---- 6 and 8

pub parities-whole : (gs : List Gate) → number_of (judged_parities gs) ≡ 0 → over_at gs ≡ length gs
unfolding judged_parities
parities-whole gs e = go (ltb (over_at gs) (length gs)) refl e
  where
    go : (b : Bool) → ltb (over_at gs) (length gs) ≡ b → number_of (pick b (Err (ManyParities (over_at gs))) (Ok tt)) ≡ 0 → over_at gs ≡ length gs
    go true x e = absurd (omega arith)
    go false x e = omega (arith, ltb-false (over_at gs) (length gs) x, over-le gs)

room-enough : (n : ℕ) (gs : List Gate) (room : ℕ) → number_of (judged_room n gs room) ≡ 0 → bound_of n (length (terms gs)) ≤ room
unfolding judged_room
room-enough n gs room e = go (ltb room (bound_of n (length (terms gs)))) refl e
  where
    go : (b : Bool) → ltb room (bound_of n (length (terms gs))) ≡ b → number_of (pick b (Err Room) (Ok tt)) ≡ 0 → bound_of n (length (terms gs)) ≤ room
    go true x e = absurd (omega arith)
    go false x e = ltb-false room (bound_of n (length (terms gs))) x

-- ---- all

module _ (n : ℕ) (xs ys : List ℕ) (room : ℕ) (e : number_of (verdict_of n xs ys room) ≡ 0) where
  abbrev gs : List Gate
  gs = gates_of n ys

  record PastTests : Type 0 where
    qubits : n ≤ 20
    couplers : judged_couplers n xs ≡ Ok tt
    drawn : All (Good n) gs
    parities : number_of (judged_parities gs) ≡ 0
    reach : number_of (judged_reach n (islands_of (near_of n xs)) gs) ≡ 0
    lent : number_of (judged_room n gs room) ≡ 0

  passed : PastTests
  unfolding verdict_of verdict_on judged_meaning
  passed =
      let a = then-zero (judged_qubits n) _ e in
      let b = then-zero (judged_couplers n xs) _ a.1 in
      let c = then-zero (judged_count ys) _ b.1 in
      let d = then-zero (judged_gates n ys) _ c.1 in
      let p = then-zero (judged_parities gs) _ d.1 in
      let r = then-zero (judged_reach n (islands_of (near_of n xs)) gs) _ p.1 in
      record {
        qubits = (qubits-few n a.0).1;
        couplers = zero-accepted (judged_couplers n xs) b.0;
        drawn = accepted-good n ys (zero-accepted (judged_gates n ys) d.0);
        parities = p.0;
        reach = r.0;
        lent = r.1;
      }

  pub job-layable : Layable n xs ys
  job-layable =
      let w : over_at gs ≡ length gs = parities-whole gs passed.parities in
      record { few = passed.qubits; good = passed.drawn; fit = over-few gs w; within = reach-within n xs gs passed.qubits passed.drawn passed.reach }

  pub job-room : bound_of n (length (terms gs)) ≤ room
  job-room = room-enough n gs room passed.lent

  pub job-listed : judged_couplers n xs ≡ Ok tt
  job-listed = passed.couplers

-- ---- which numbers

pub room-number : (n : ℕ) (gs : List Gate) (room : ℕ) → number_of (judged_room n gs room) ≢ 7
unfolding judged_room
room-number n gs room = go (ltb room (bound_of n (length (terms gs))))
  where
    go : (b : Bool) → number_of (pick b (Err Room) (Ok tt)) ≢ 7
    go true h = let y : ◌≡◌ {A = ℕ} 8 7 = h in omega arith
    go false h = let y : ◌≡◌ {A = ℕ} 0 7 = h in omega arith

module _ (n : ℕ) (xs : List ℕ) (gs : List Gate) (few : n ≤ 20) (good : All (Good n) gs) (ne : number_of (judged_reach n (islands_of (near_of n xs)) gs) ≡ 0 → ⊥) where
  pub reach-number : number_of (judged_reach n (islands_of (near_of n xs)) gs) ≡ 7
  unfolding judged_reach
  reach-number = go (ltb (stray n xs gs few good) n) (scattered (islands_of (near_of n xs)) (terms gs)) ne
    where
      go : (a b : Bool) → (number_of (pick a (Err (Unreachable (stray n xs gs few good))) (pick b (Err (Unreachable n)) (Ok tt))) ≡ 0 → ⊥)
          → number_of (pick a (Err (Unreachable (stray n xs gs few good))) (pick b (Err (Unreachable n)) (Ok tt))) ≡ 7
      go true b h = refl
      go false true h = refl
      go false false h = absurd (h refl)

  -- the place: no wire before it leaves its island, it does if there is one
  pub reach-place : let k = place_of (judged_reach n (islands_of (near_of n xs)) gs) in
      (k ≤ n) × ((i : ℕ) → i < k → Sub (final_of gs i) (island_of (near_of n xs) i)) × (k < n → Sub (final_of gs k) (island_of (near_of n xs) k) → ⊥)
  unfolding judged_reach
  reach-place = go (ltb k n) (scattered (islands_of (near_of n xs)) (terms gs)) refl ne
    where
      k : ℕ
      k = stray n xs gs few good

      go : (a b : Bool) → ltb k n ≡ a → (number_of (pick a (Err (Unreachable k)) (pick b (Err (Unreachable n)) (Ok tt))) ≡ 0 → ⊥)
          → let m = place_of (pick a (Err (Unreachable k)) (pick b (Err (Unreachable n)) (Ok tt))) in
          (m ≤ n) × ((i : ℕ) → i < m → Sub (final_of gs i) (island_of (near_of n xs) i)) × (m < n → Sub (final_of gs m) (island_of (near_of n xs) m) → ⊥)
      go true b e h =
          let l : k < n = ltb-true k n e in
          (omega arith, λ i u. stays-before n xs gs few good i (omega arith) u, λ u s. stray-leaves n xs gs few good l s)
      go false true e h =
          let l : n ≤ k = ltb-false k n e in
          (omega arith, λ i u. stays-before n xs gs few good i u (omega arith), λ u s. omega arith)
      go false false e h = absurd (h refl)
