-- One gate fed to a meaning. Assumes nothing.
use mathlib.Core.Path.{◌≡◌, refl, sym, ap, ap₂, ◌∙◌}
use mathlib.Core.Bool.{Bool, true, false}
use Prim.Native.Nat.{ℕ}
use native.Mathlib.Omega.{arith}
use lib.ListN.{get_or}
use Rattle.sets.specs.Pick.{pick}
use Rattle.gates.specs.declared.gate.Gate.{Gate}
use Rattle.gates.specs.declared.gate.Gate.TheVariants.{Cnot, Rotation, X, Bad}
use Rattle.circuit.specs.declared.wires.Wires.{Wires}
use Rattle.table.specs.declared.sums.Sums.{Sums}
use Rattle.meaning.specs.declared.told.Meaning.{Meaning}
use Rattle.circuit.specs.State.{fed_wires}
use Rattle.table.specs.Table.{Added, added_to}
use Rattle.meaning.specs.Told.{Fed, fed_to, added_on, fed_meaning}
use Rattle.table.proofs.Ranks.{full-same}
use Rattle.circuit.specs.Circuit.{step, takes}
use Rattle.circuit.specs.Flips.{flip_step}
use Rattle.circuit.specs.Phase.{shifts, phases}

module _ (m : Meaning) (g : Gate) where
  -- any gate but a rotation goes to the wires
  pub fed-wires : ((q a : ℕ) → g ≡ Rotation q a → ⊥) → (w : Wires) → w ≡ fed_wires m.wires g → fed_to (record { wires = w; sums = m.sums; phase = m.phase }) false ≡ fed_meaning m g
  unfolding fed_meaning fed_wires step flip_step
  fed-wires other w h = ap (λ (v : Wires). fed_to (record { wires = v; sums = m.sums; phase = m.phase }) false) h ∙ go g other
    where
      go : (k : Gate) → ((q a : ℕ) → k ≡ Rotation q a → ⊥) → fed_to (record { wires = fed_wires m.wires k; sums = m.sums; phase = m.phase }) false ≡ fed_meaning m k
      go (Cnot c t) o = refl
      go (Rotation q a) o = absurd (o q a refl)
      go (X q) o = refl
      go Bad o = refl

  -- an angle a on wire q, of parity x and flip f: b goes to the table
  module _ (q a x f b : ℕ) (s : Added) (e : g ≡ Rotation q a) (hx : x ≡ get_or m.wires.parity q 0) (hf : f ≡ get_or m.wires.flip q 0) (hb : b ≡ takes f a)
      (d : s ≡ added_to m.sums x b) where
    added_is : s ≡ added_on m q a
    added_is = d ∙ ap₂ (added_to m.sums) hx (hb ∙ ap (λ (k : ℕ). takes k a) hf)

    pub fed-rotation : (h z : ℕ) → h ≡ shifts f a → z ≡ phases m.phase h → s.full ≡ false
        → ◌≡◌ {A = Fed} (record { meaning = record { wires = m.wires; sums = s.sums; phase = z }; full = s.full }) (fed_meaning m g)
    unfolding fed_meaning
    fed-rotation h z eh ez o =
        ap (λ (k : ℕ). record { meaning = record { wires = m.wires; sums = s.sums; phase = k }; full = s.full })
        (ez ∙ ap (phases m.phase) (eh ∙ ap (λ (k : ℕ). shifts k a) hf) ∙ ap (λ (t : Bool). pick t m.phase (phases m.phase (shifts (get_or m.wires.flip q 0) a))) (sym o))
        ∙ ap (λ (t : Added). record { meaning = record { wires = m.wires; sums = t.sums; phase = pick t.full m.phase (phases m.phase (shifts (get_or m.wires.flip q 0) a)) }; full = t.full }) added_is
        ∙ ap (fed_meaning m) (sym e)

    pub fed-over : s.full ≡ true
        → ◌≡◌ {A = Fed} (record { meaning = record { wires = m.wires; sums = s.sums; phase = m.phase }; full = s.full }) (fed_meaning m g)
    unfolding fed_meaning
    fed-over o =
        ap (λ (k : ℕ). record { meaning = record { wires = m.wires; sums = s.sums; phase = k }; full = s.full })
        (ap (λ (t : Bool). pick t m.phase (phases m.phase (shifts (get_or m.wires.flip q 0) a))) (sym o))
        ∙ ap (λ (t : Added). record { meaning = record { wires = m.wires; sums = t.sums; phase = pick t.full m.phase (phases m.phase (shifts (get_or m.wires.flip q 0) a)) }; full = t.full }) added_is
        ∙ ap (fed_meaning m) (sym e)

-- the gate that finds the table full changes nothing
pub fed-same : (m : Meaning) (g : Gate) → (fed_meaning m g).full ≡ true → (fed_meaning m g).meaning ≡ m
unfolding fed_meaning
fed-same m (Cnot c t) e = absurd (let z : ◌≡◌ {A = ℕ} 0 1 = ap (λ (b : Bool). pick b 1 0) e in omega arith)
fed-same m (Rotation q a) e =
    ap₂ (λ (s : Sums) (b : Bool). record { wires = m.wires; sums = s; phase = pick b m.phase (phases m.phase (shifts (get_or m.wires.flip q 0) a)) })
    (full-same m.sums (get_or m.wires.parity q 0) (takes (get_or m.wires.flip q 0) a) e) e
fed-same m (X q) e = absurd (let z : ◌≡◌ {A = ℕ} 0 1 = ap (λ (b : Bool). pick b 1 0) e in omega arith)
fed-same m Bad e = refl
