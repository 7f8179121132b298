-- Feeding gates one by one tells the meaning of the list, up to the gate that brings the 257th parity. Assumes nothing.
use mathlib.Core.Path.{◌≡◌, refl, sym, ap, ap₂, ◌∙◌}
use mathlib.Core.Bool.{Bool, true, false}
use mathlib.Core.List.{List, [], ◌∷◌, ◌++◌}
use Prim.Native.Nat.{ℕ, zero, suc, ◌+◌, ◌-◌, ◌≤◌, ◌<◌}
use native.Mathlib.Nat.{not-suc-le-zero, le_of_suc-le-suc}
use native.Mathlib.Omega.{arith}
use native.Mathlib.Numerals.{add-one}
use lib.Dec.{ltb}
use lib.ListN.{length, get_or, take, length-map}
use lib.Seq.{take-suc, take_all}
use borrow.Author.Tests.{ltb-true, ltb-false}
use Rattle.sets.specs.Pick.{pick}
use Rattle.sets.specs.Search.{first_of}
use Rattle.sets.proofs.Finding.{first-all, first-here, first_next, first-end}
use Rattle.gates.specs.declared.gate.Gate.{Gate}
use Rattle.gates.specs.declared.gate.Gate.TheVariants.{Cnot, Rotation, X, Bad}
use Rattle.table.specs.declared.sums.Sums.{Sums}
use Rattle.circuit.specs.declared.wires.Wires.{Wires}
use Rattle.meaning.specs.declared.told.Meaning.{Meaning}
use Rattle.meaning.specs.declared.told.Told.{Told}
use Rattle.gates.specs.Layout.{gate_of, gates_of}
use Rattle.circuit.specs.Circuit.{step, run, start, gives, takes, sum_of}
use Rattle.circuit.specs.Flips.{flip_step, flip_run, no_flips}
use Rattle.circuit.specs.Phase.{shifts, shifts_on, phases, phase_of}
use Rattle.meaning.specs.Borne.{borne, borne_from, sums_of, over_at}
use Rattle.table.specs.Table.{padded, empty, Added, added_to}
use Rattle.meaning.specs.Told.{Fed, table_of, meaning_of, fed_meaning, told_of}
use Rattle.circuit.specs.State.{fed_wires, wires_of}
use Rattle.circuit.proofs.Steps.{gives-cnot, gives-x, gives-bad}
use Rattle.circuit.proofs.Circuits.{run-snoc}
use Rattle.circuit.proofs.Flips.{flip-snoc}
use Rattle.circuit.proofs.Sums.{sum-small}
use Rattle.circuit.proofs.Straight.{straightened, sum-snoc}
use Rattle.circuit.proofs.Phases.{phase-snoc, phase-small, phase-zero}
use Rattle.meaning.proofs.Bearing.{borne-cnot, borne-x, borne-bad}
use Rattle.meaning.proofs.Feeding.{fed-same}
use Rattle.meaning.proofs.Tables.{added-fits, added_full}

-- ---- one gate more

wires-more : (gs : List Gate) (g : Gate) → fed_wires (wires_of gs) g ≡ wires_of (gs ++ g ∷ [])
unfolding fed_wires wires_of
wires-more gs g = ap₂ (λ (W F : List ℕ). record { parity = W; flip = F }) (sym (run-snoc gs g start)) (sym (flip-snoc gs g no_flips))

-- a gate that gives no angle leaves the table
sums_same : (gs : List Gate) (g : Gate) (ps : List ℕ) → ((p : ℕ) → sum_of p (gs ++ g ∷ []) ≡ sum_of p gs) → sums_of (gs ++ g ∷ []) ps ≡ sums_of gs ps
sums_same gs g [] h = refl
sums_same gs g (p ∷ ps) h = ap₂ (λ (a : ℕ) (as' : List ℕ). a ∷ as') (h p) (sums_same gs g ps h)

table_same : (gs : List Gate) (g : Gate) → borne (gs ++ g ∷ []) ≡ borne gs → ((p : ℕ) → gives p (straightened g (flip_run gs no_flips)) (run gs start) ≡ 0) → table_of (gs ++ g ∷ []) ≡ table_of gs
unfolding table_of
table_same gs g b h = rw (b, sums_same gs g (borne gs) (λ p. sum-snoc p gs g ∙ omega (arith, h p, sum-small p gs)))

pub table-cnot : (gs : List Gate) (c t : ℕ) → table_of (gs ++ Cnot c t ∷ []) ≡ table_of gs
unfolding straightened
table-cnot gs c t = table_same gs (Cnot c t) (borne-cnot gs c t) (λ p. gives-cnot p c t (run gs start))

pub table-x : (gs : List Gate) (q : ℕ) → table_of (gs ++ X q ∷ []) ≡ table_of gs
unfolding straightened
table-x gs q = table_same gs (X q) (borne-x gs q) (λ p. gives-x p q (run gs start))

pub table-bad : (gs : List Gate) → table_of (gs ++ Bad ∷ []) ≡ table_of gs
unfolding straightened
table-bad gs = table_same gs Bad (borne-bad gs) (λ p. gives-bad p (run gs start))

-- and the phase
phase-same : (gs : List Gate) (g : Gate) → shifts_on g (flip_run gs no_flips) ≡ 0 → phase_of gs ≡ phase_of (gs ++ g ∷ [])
phase-same gs g z = sym (phase-snoc gs g ∙ omega (arith, phase-small gs))

phase-more : (gs : List Gate) (q a : ℕ) → phases (phase_of gs) (shifts (get_or (flip_run gs no_flips) q 0) a) ≡ phase_of (gs ++ Rotation q a ∷ [])
unfolding phases shifts_on
phase-more gs q a = sym (phase-snoc gs (Rotation q a))

borne-by : (gs : List Gate) → (wires_of gs).parity ≡ run gs start
unfolding wires_of
borne-by gs = refl

flipped-by : (gs : List Gate) → (wires_of gs).flip ≡ flip_run gs no_flips
unfolding wires_of
flipped-by gs = refl

wires-rotation : (gs : List Gate) (q a : ℕ) → wires_of gs ≡ wires_of (gs ++ Rotation q a ∷ [])
unfolding fed_wires step flip_step
wires-rotation gs q a = wires-more gs (Rotation q a)

wires-bad : (gs : List Gate) → wires_of gs ≡ wires_of (gs ++ Bad ∷ [])
unfolding fed_wires step flip_step
wires-bad gs = wires-more gs Bad

abbrev fed : Wires → Sums → ℕ → Bool → Fed
fed w s f b = record { meaning = record { wires = w; sums = s; phase = f }; full = b }

module _ (gs : List Gate) (few : length (borne gs) ≤ 256) where
  -- it fits: the meaning of one gate more
  pub feed-fits : (g : Gate) → length (borne (gs ++ g ∷ [])) ≤ 256 → fed_meaning (meaning_of gs) g ≡ record { meaning = meaning_of (gs ++ g ∷ []); full = false }
  unfolding fed_meaning meaning_of
  feed-fits (Cnot c t) h =
      ap₂ (λ (w : Wires) (s : Sums). fed w s (phase_of gs) false) (wires-more gs (Cnot c t)) (sym (table-cnot gs c t))
      ∙ ap (λ (f : ℕ). fed (wires_of (gs ++ Cnot c t ∷ [])) (table_of (gs ++ Cnot c t ∷ [])) f false) (phase-same gs (Cnot c t) (unfold shifts_on in refl))
  feed-fits (Rotation q a) h =
      ap (λ (s : Added). fed (wires_of gs) s.sums (pick s.full (phase_of gs) (phases (phase_of gs) (shifts (get_or (wires_of gs).flip q 0) a))) s.full)
      (ap₂ (λ (W F : List ℕ). added_to (table_of gs) (get_or W q 0) (takes (get_or F q 0) a)) (borne-by gs) (flipped-by gs) ∙ added-fits gs q a few h)
      ∙ ap₂ (λ (w : Wires) (f : ℕ). fed w (table_of (gs ++ Rotation q a ∷ [])) f false) (wires-rotation gs q a)
      (ap (λ (F : List ℕ). phases (phase_of gs) (shifts (get_or F q 0) a)) (flipped-by gs) ∙ phase-more gs q a)
  feed-fits (X q) h =
      ap₂ (λ (w : Wires) (s : Sums). fed w s (phase_of gs) false) (wires-more gs (X q)) (sym (table-x gs q))
      ∙ ap (λ (f : ℕ). fed (wires_of (gs ++ X q ∷ [])) (table_of (gs ++ X q ∷ [])) f false) (phase-same gs (X q) (unfold shifts_on in refl))
  feed-fits Bad h =
      ap₂ (λ (w : Wires) (s : Sums). fed w s (phase_of gs) false) (wires-bad gs) (sym (table-bad gs))
      ∙ ap (λ (f : ℕ). fed (wires_of (gs ++ Bad ∷ [])) (table_of (gs ++ Bad ∷ [])) f false) (phase-same gs Bad (unfold shifts_on in refl))

  -- it does not: the gate brings the 257th
  pub feed-full : (g : Gate) → 256 < length (borne (gs ++ g ∷ [])) → (fed_meaning (meaning_of gs) g).full ≡ true
  unfolding fed_meaning meaning_of
  feed-full (Cnot c t) h = absurd (omega (arith, ap length (borne-cnot gs c t)))
  feed-full (Rotation q a) h =
      ap₂ (λ (W F : List ℕ). (added_to (table_of gs) (get_or W q 0) (takes (get_or F q 0) a)).full) (borne-by gs) (flipped-by gs) ∙ added_full gs q a few h
  feed-full (X q) h = absurd (omega (arith, ap length (borne-x gs q)))
  feed-full Bad h = absurd (omega (arith, ap length (borne-bad gs)))

-- ---- the whole list

abbrev pub over_test : List Gate → ℕ → Bool
over_test gs k = ltb 256 (length (borne (take (k + 1) gs)))

-- the state of the loop at place i: the gates before it are told, and none of them brings the 257th
pub record Telling (gs : List Gate) (m : Meaning) (i : ℕ) : Type 0 where
  pub within : i ≤ length gs
  pub told : m ≡ meaning_of (take i gs)
  pub few : length (borne (take i gs)) ≤ 256
  pub still : first_of (over_test gs) (length gs - i) i ≡ over_at gs

pub telling-none : (gs : List Gate) → Telling gs (meaning_of []) 0
unfolding over_at borne borne_from
telling-none gs = record { within = omega arith; told = refl; few = omega arith; still = first-all (over_test gs) (length gs) }

-- each wire bears its own qubit, and the table is empty
pub none-told : (w : Wires) (s : Sums) → w ≡ wires_of [] → s ≡ empty → ◌≡◌ {A = Meaning} (record { wires = w; sums = s; phase = 0 }) (meaning_of [])
unfolding meaning_of table_of borne borne_from empty padded
none-told w s e d = rw (e, d) (ap (λ (f : ℕ). record { wires = wires_of []; sums = table_of []; phase = f }) (sym phase-zero))

take_more : (gs : List Gate) (i : ℕ) → i < length gs → take (i + 1) gs ≡ take i gs ++ get_or gs i Bad ∷ []
take_more gs i h = ap (λ (k : ℕ). take k gs) (add-one i) ∙ take-suc gs i Bad h

module _ (gs : List Gate) (m : Meaning) (i : ℕ) (t : Telling gs m i) (h : i < length gs) (next : Fed) (e : next ≡ fed_meaning m (get_or gs i Bad)) where
  after : next ≡ fed_meaning (meaning_of (take i gs)) (get_or gs i Bad)
  after = e ∙ ap (λ (n : Meaning). fed_meaning n (get_or gs i Bad)) t.told

  pub telling-next : next.full ≡ false → Telling gs next.meaning (i + 1)
  telling-next f = go (ltb 256 (length (borne (take (i + 1) gs)))) refl
    where
      go : (b : Bool) → ltb 256 (length (borne (take (i + 1) gs))) ≡ b → Telling gs next.meaning (i + 1)
      go true o =
          let big : 256 < length (borne (take i gs ++ get_or gs i Bad ∷ [])) = rw (take_more gs i h) at (ltb-true 256 (length (borne (take (i + 1) gs))) o) in
          let z : ◌≡◌ {A = ℕ} 1 0 = ap (λ (b : Bool). pick b 1 0) (sym (ap (λ (n : Fed). n.full) after ∙ feed-full (take i gs) t.few (get_or gs i Bad) big) ∙ f) in
          absurd (omega arith)
      go false o =
          let small : length (borne (take (i + 1) gs)) ≤ 256 = ltb-false 256 (length (borne (take (i + 1) gs))) o in
          record {
            within = omega arith;
            told = ap (λ (n : Fed). n.meaning) (after ∙ feed-fits (take i gs) t.few (get_or gs i Bad) (rw (take_more gs i h) at small)) ∙ ap meaning_of (sym (take_more gs i h));
            few = small;
            still = sym (first_next (over_test gs) (length gs) i h o) ∙ t.still;
          }

  pub telling-full : next.full ≡ true → over_at gs ≡ i
  telling-full f = go (ltb 256 (length (borne (take (i + 1) gs)))) refl
    where
      go : (b : Bool) → ltb 256 (length (borne (take (i + 1) gs))) ≡ b → over_at gs ≡ i
      go true o = sym t.still ∙ first-here (over_test gs) (length gs) i h o
      go false o =
          let small : length (borne (take i gs ++ get_or gs i Bad ∷ [])) ≤ 256 = rw (take_more gs i h) at (ltb-false 256 (length (borne (take (i + 1) gs))) o) in
          let z : ◌≡◌ {A = ℕ} 1 0 = ap (λ (b : Bool). pick b 1 0) (sym f ∙ ap (λ (n : Fed). n.full) (after ∙ feed-fits (take i gs) t.few (get_or gs i Bad) small)) in
          absurd (omega arith)

-- ---- the loop, over the records

gate-at : (n : ℕ) (xs : List ℕ) (i : ℕ) → i < length xs → gate_of n (get_or xs i 0) ≡ get_or (gates_of n xs) i Bad
gate-at n [] i h = absurd (not-suc-le-zero h)
gate-at n (x ∷ xs) zero h = refl
gate-at n (x ∷ xs) (suc i) h = gate-at n xs i (le_of_suc-le-suc h)

module _ (n : ℕ) (xs : List ℕ) (m : Meaning) (i : ℕ) (t : Telling (gates_of n xs) m i) where
  module _ (h : i < length xs) (g : Gate) (d : g ≡ gate_of n (get_or xs i 0)) (next : Fed) (e : next ≡ fed_meaning m g) where
    here : i < length (gates_of n xs)
    here = omega (arith, length-map xs (gate_of n))

    fed-here : next ≡ fed_meaning m (get_or (gates_of n xs) i Bad)
    fed-here = e ∙ ap (fed_meaning m) (d ∙ gate-at n xs i h)

    pub tell-next : next.full ≡ false → Telling (gates_of n xs) next.meaning (i + 1)
    tell-next f = telling-next (gates_of n xs) m i t here next fed-here f

    pub tell-full : next.full ≡ true → ◌≡◌ {A = Told} (record { meaning = next.meaning; fed = i }) (told_of n xs)
    unfolding told_of
    tell-full f =
        let same : next.meaning ≡ m = ap (λ (k : Fed). k.meaning) e ∙ fed-same m g (sym (ap (λ (k : Fed). k.full) e) ∙ f) in
        rw (telling-full (gates_of n xs) m i t here next fed-here f) (ap (λ (k : Meaning). record { meaning = k; fed = i }) (same ∙ t.told))

  pub tell-all : length xs ≤ i → ◌≡◌ {A = Told} (record { meaning = m; fed = length xs }) (told_of n xs)
  unfolding told_of
  tell-all h =
      let long : length (gates_of n xs) ≡ length xs = length-map xs (gate_of n) in
      let last : i ≡ length xs = omega (arith, t.within) in
      let o : over_at (gates_of n xs) ≡ length xs = sym t.still ∙ first-end (over_test (gates_of n xs)) (length (gates_of n xs)) i (omega arith) ∙ last in
      rw o (ap (λ (k : Meaning). record { meaning = k; fed = length xs }) (t.told ∙ ap (λ (k : ℕ). meaning_of (take k (gates_of n xs))) last))

-- where no gate brings a 257th parity, what is told is the meaning of all gates
pub told-whole : (n : ℕ) (xs : List ℕ) (t : Told) → t ≡ told_of n xs → over_at (gates_of n xs) ≡ length (gates_of n xs) → t.meaning ≡ meaning_of (gates_of n xs)
unfolding told_of
told-whole n xs t e w = ap (λ (u : Told). u.meaning) e ∙ ap meaning_of (take_all (over_at (gates_of n xs)) (gates_of n xs) (omega (arith, w)))
