-- The walk over the qubits that lays each island at its lowest qubit. Assumes nothing.
use mathlib.Core.Path.{◌≡◌, refl, sym, ap, ap₂, ◌∙◌, subst}
use mathlib.Core.Bool.{true, false}
use mathlib.Core.List.{List, ◌++◌}
use Prim.Native.Nat.{ℕ, suc, ◌+◌, ◌≤◌, ◌<◌}
use native.Mathlib.Omega.{arith}
use native.Mathlib.Decide.{dec_lt}
use native.Mathlib.Numerals.{add-one}
use lib.Dec.{ltb}
use lib.ListN.{length, get_or, take}
use borrow.Author.Tests.{ltb-true, eq-eqb, ne_eqb}
use Rattle.sets.specs.Size.{lowest_of}
use Rattle.sets.proofs.Finding.{first-true}
use Rattle.sets.proofs.Members.{in-lt}
use Rattle.gates.specs.declared.gate.Gate.{Gate}
use Rattle.meaning.specs.declared.told.Told.{Told}
use Rattle.meaning.specs.declared.told.Meaning.{Meaning}
use Rattle.gates.specs.Limits.{most_parities}
use Rattle.gates.specs.Layout.{gates_of}
use Rattle.circuit.specs.Circuit.{run, start}
use Rattle.circuit.specs.Flips.{flip_run, no_flips}
use Rattle.circuit.specs.Phase.{phase_of}
use Rattle.flips.specs.Xs.{xs_on}
use Rattle.meaning.specs.Borne.{borne, over_at}
use Rattle.meaning.proofs.Bearing.{borne-grows}
use Rattle.meaning.proofs.Telling.{told-whole}
use Rattle.meaning.specs.Told.{told_of, meaning_of, table_of}
use Rattle.circuit.specs.State.{wires_of}
use Rattle.chip.specs.Couplers.{near_of}
use Rattle.isles.specs.Islands.{island_of, islands_of}
use Rattle.isles.proofs.Isles.{get_or-islands, island-lt}
use Rattle.emitting.specs.Emit.{emit, emit_at}
use Rattle.emitting.proofs.Emitting.{emit-none, emit-at-none, emit-length, emit-append, emit-at-append}
use Rattle.ending.specs.Mirror.{mirrors_of}
use Rattle.share.specs.declared.own.Own.{Own}
use Rattle.share.specs.OwnTable.{own_of, share_in}
use Rattle.judging.proofs.Judging.{over-le}
use Rattle.laying.specs.Islands.{leads, laid_to}
use Rattle.laying.specs.Laid.{share_of, on_island, with_flips, laid_of}
use Rattle.ways.specs.Ways.{by_steps, by_nearest}
use Rattle.laying.specs.Layable.{Layable, LayableOn}
use Rattle.laying.specs.Stands.{stands_of, Idles}
use Rattle.ways.specs.Memory.{island_in_memory}
use Rattle.ways.proofs.Owned.{AllFit, memory-laid}
use Rattle.laying.proofs.Job.{parts}
use Rattle.laying.proofs.Composing.{laid-led, laid-not}
use Rattle.laying.proofs.Tabled.{own-count, share-is}
use Rattle.laying.proofs.Standing.{no-terms, own-asked}
use Rattle.laying.proofs.Both.{steps-lay-all, nearest-lays-all, way-fits, closed-fits, island-none}

-- where at most 256 parities bear a rotation no gate brings the 257th: all gates count
all-fed : (gs : List Gate) → length (borne gs) ≤ 256 → over_at gs ≡ length gs
unfolding over_at
all-fed gs few = go (dec_lt (over_at gs) (length gs))
  where
    go : Dec (over_at gs < length gs) → over_at gs ≡ length gs
    go (yes l) =
        let over : most_parities < length (borne (take (over_at gs + 1) gs)) = ltb-true _ _ (first-true (λ k. ltb most_parities (length (borne (take (k + 1) gs)))) (length gs) 0 (omega (arith, l))) in
        absurd (omega (arith, few, over, borne-grows (over_at gs + 1) gs))
    go (no l) = omega (arith, l, over-le gs)

module _ (n : ℕ) (near ys : List ℕ) where
  -- the gates of the islands led below q
  abbrev up_to : ℕ → List Gate
  up_to = laid_to (island_of near) (with_flips near (gates_of n ys))

  -- the memory when those are laid
  pub record Walked (out₀ : List ℕ) (q : ℕ) (out : List ℕ) (at : ℕ) : Type 0 where
    pub within : q ≤ n
    pub size : length out ≡ length out₀
    pub memory : out ≡ emit out₀ 0 (up_to q)
    pub place : at ≡ emit_at out₀ 0 (up_to q)

  pub walked_none : (out : List ℕ) → Walked out 0 out 0
  unfolding laid_to
  walked_none out = record { within = omega arith; size = refl; memory = sym (emit-none out 0); place = sym (emit-at-none out 0) }

  pub walked-moved : (out₀ : List ℕ) (q : ℕ) (out out' : List ℕ) (at at' : ℕ) → out ≡ out' → at ≡ at' → Walked out₀ (suc q) out' at' → Walked out₀ (q + 1) out at
  walked-moved out₀ q out out' at at' a b w = rw (a, b, add-one q) w

  pub walked_all : (out₀ : List ℕ) (q : ℕ) (out : List ℕ) (at : ℕ) → n ≤ q → Walked out₀ q out at
      → (out ≡ emit out₀ 0 (laid_of n near (gates_of n ys))) × (at ≡ emit_at out₀ 0 (laid_of n near (gates_of n ys)))
  unfolding laid_of
  walked_all out₀ q out at l w =
      let e : q ≡ n = let b = w.within in omega arith in
      (w.memory ∙ ap (λ (k : ℕ). emit out₀ 0 (up_to k)) e, w.place ∙ ap (λ (k : ℕ). emit_at out₀ 0 (up_to k)) e)

module _ (n : ℕ) (near all ys : List ℕ) (p : LayableOn n near all ys) (t : Told) (mirror : List ℕ) (e : t ≡ told_of n ys) (m : mirror ≡ mirrors_of (gates_of n ys)) where
  abbrev gs : List Gate
  gs = gates_of n ys

  abbrev xs : List ℕ
  xs = p.couplers

  abbrev job : Layable n xs ys
  job = p.layable

  abbrev isl : ℕ → ℕ
  isl = island_of (near_of n xs)

  abbrev plain : ℕ → List Gate
  plain q = on_island (near_of n xs) gs q

  abbrev on : ℕ → List Gate
  on = with_flips (near_of n xs) gs

  abbrev below : ℕ → List Gate
  below = up_to n near ys

  told_is : t.meaning ≡ meaning_of gs
  told_is = told-whole n ys t e (all-fed gs job.fit)

  wires-are : t.meaning.wires.parity ≡ run gs start
  unfolding meaning_of wires_of
  wires-are = ap (λ (u : Meaning). u.wires.parity) told_is

  flips-are : t.meaning.wires.flip ≡ flip_run gs no_flips
  unfolding meaning_of wires_of
  flips-are = ap (λ (u : Meaning). u.wires.flip) told_is

  pub phase-is : t.meaning.phase ≡ phase_of gs
  unfolding meaning_of
  phase-is = ap (λ (u : Meaning). u.phase) told_is

  sums-are : t.meaning.sums ≡ table_of gs
  unfolding meaning_of
  sums-are = ap (λ (u : Meaning). u.sums) told_is

  module _ (q : ℕ) (l : q < n) where
    in-20 : q < 20
    in-20 = let f = job.few in omega arith

    set_is : get_or all q 0 ≡ isl q
    set_is = ap (λ (x : List ℕ). get_or x q 0) (p.islands_are ∙ ap islands_of p.near_are) ∙ get_or-islands (near_of n xs) q in-20

    leads-yes : lowest_of (get_or all q 0) ≡ q → leads isl q ≡ true
    unfolding leads
    leads-yes h = eq-eqb (lowest_of (isl q)) q (ap lowest_of (sym set_is) ∙ h)

    leads-no : (lowest_of (get_or all q 0) ≡ q → ⊥) → leads isl q ≡ false
    unfolding leads
    leads-no h = ne_eqb (lowest_of (isl q)) q (λ k. h (ap lowest_of set_is ∙ k))

    pub walked-not : (out₀ out : List ℕ) (at : ℕ) → (lowest_of (get_or all q 0) ≡ q → ⊥) → Walked n near ys out₀ q out at → Walked n near ys out₀ (suc q) out at
    walked-not out₀ out at h w =
        let k : below (suc q) ≡ below q = subst (λ (z : List ℕ). up_to n z ys (suc q) ≡ up_to n z ys q) (sym p.near_are) (laid-not n isl job.few (parts n xs job.few) on q (leads-no h)) in
        record { within = l; size = w.size; memory = w.memory ∙ ap (emit out₀ 0) (sym k); place = w.place ∙ ap (emit_at out₀ 0) (sym k) }

    module _ (h : Own) (k : h ≡ own_of (get_or all q 0) near t.meaning.sums t.meaning.wires.parity mirror) where
      abbrev o : Own
      o = own_of (isl q) (near_of n xs) (table_of gs) (run gs start) (mirrors_of gs)

      own_is : h ≡ o
      own_is = cc (k, set_is, p.near_are, sums-are, wires-are, m)

      all_fit : AllFit (share_of (isl q) (near_of n xs) gs)
      all_fit = (
        way-fits n xs ys job q l by_steps steps-lay-all,
        way-fits n xs ys job q l by_nearest nearest-lays-all,
        closed-fits n xs ys job q l by_steps steps-lay-all,
        closed-fits n xs ys job q l by_nearest nearest-lays-all,
      )

      gates-are : island_in_memory (share_in h) ≡ plain q
      unfolding on_island
      gates-are =
          ap (λ (w : Own). island_in_memory (share_in w)) own_is ∙ ap island_in_memory (share-is (near_of n xs) (isl q) gs job.fit) ∙ memory-laid (share_of (isl q) (near_of n xs) gs) all_fit

      -- where it stands it gets nothing
      pub idles : Idles h
      unfolding own_of
      idles s =
          let t : stands_of o ≡ true = ap stands_of (sym own_is) ∙ s in
          gates-are ∙ island-none n xs ys job q l (sym (own-count (near_of n xs) (isl q) gs job.fit) ∙ no-terms o t)
          (λ i m. own-asked o t i (in-lt 20 (isl q) i (island-lt (near_of n xs) q in-20) m) m)

      -- the island's own gates, and the X gates behind them
      module _ (out₀ out out' out'' : List ℕ) (at next end : ℕ) (a : out' ≡ emit out at (island_in_memory (share_in h))) (b : next ≡ emit_at out at (island_in_memory (share_in h)))
          (c : out'' ≡ emit out' next (xs_on (get_or all q 0) t.meaning.wires.flip)) (f : end ≡ emit_at out' next (xs_on (get_or all q 0) t.meaning.wires.flip)) where
        memory-is : out' ≡ emit out at (plain q)
        memory-is = a ∙ ap (emit out at) gates-are

        behind : next ≡ emit_at out at (plain q)
        behind = b ∙ ap (emit_at out at) gates-are

        xs-are : xs_on (get_or all q 0) t.meaning.wires.flip ≡ xs_on (isl q) (flip_run gs no_flips)
        xs-are = ap₂ xs_on set_is flips-are

        memory-on : out'' ≡ emit out at (on q)
        unfolding with_flips
        memory-on = c ∙ ap₂ (λ (o : List ℕ) (k : ℕ). emit o k (xs_on (get_or all q 0) t.meaning.wires.flip)) memory-is behind ∙ sym (emit-append out at (plain q) (xs_on (get_or all q 0) t.meaning.wires.flip)) ∙ ap (λ (L : List Gate). emit out at (plain q ++ L)) xs-are

        place-on : end ≡ emit_at out at (on q)
        unfolding with_flips
        place-on = f ∙ ap₂ (λ (o : List ℕ) (k : ℕ). emit_at o k (xs_on (get_or all q 0) t.meaning.wires.flip)) memory-is behind ∙ sym (emit-at-append out at (plain q) (xs_on (get_or all q 0) t.meaning.wires.flip)) ∙ ap (λ (L : List Gate). emit_at out at (plain q ++ L)) xs-are

        pub walked-led : lowest_of (get_or all q 0) ≡ q → Walked n near ys out₀ q out at → Walked n near ys out₀ (suc q) out'' end
        walked-led y w =
            let u : below (suc q) ≡ below q ++ on q = subst (λ (z : List ℕ). up_to n z ys (suc q) ≡ up_to n z ys q ++ on q) (sym p.near_are) (laid-led n isl job.few (parts n xs job.few) on q (leads-yes y)) in
            record {
              within = l;
              size = ap length memory-on ∙ emit-length out at (on q) ∙ w.size;
              memory = memory-on ∙ ap₂ (λ (o : List ℕ) (k : ℕ). emit o k (on q)) w.memory w.place ∙ sym (emit-append out₀ 0 (below q) (on q)) ∙ ap (emit out₀ 0) (sym u);
              place = place-on ∙ ap₂ (λ (o : List ℕ) (k : ℕ). emit_at o k (on q)) w.memory w.place ∙ sym (emit-at-append out₀ 0 (below q) (on q)) ∙ ap (emit_at out₀ 0) (sym u);
            }
