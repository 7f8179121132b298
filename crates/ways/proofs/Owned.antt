-- What the two ways and their closings leave in memory, for one island's share. Assumes nothing.
use mathlib.Core.Path.{◌≡◌, sym, ap, ap₂, ◌∙◌}
use mathlib.Core.List.{List, ◌++◌}
use Prim.Native.Nat.{ℕ, ◌≤◌, ◌<◌}
use native.Mathlib.Omega.{arith}
use lib.ListN.{length, take, length-map}
use lib.Seq.{length-take-le}
use borrow.Author.Tests.{lt-ltb, le-ltb}
use Rattle.gates.specs.declared.gate.Gate.{Gate}
use Rattle.gates.specs.Layout.{gate_of, gates_of}
use Rattle.emitting.specs.Emit.{emit, emit_at}
use Rattle.emitting.proofs.Emitting.{emit-length, emit-append, emit-at-append}
use Rattle.share.specs.Own.{Share}
use Rattle.ways.specs.Ways.{by_steps, by_nearest, with_closing, shorter, island_laid}
use Rattle.ways.specs.Memory.{in_memory, FitsMemory, island_in_memory}
use Rattle.ways.proofs.Replaying.{zeros, records-held, memory-fits}

emit-at-le : (out : List ℕ) (gs : List Gate) → emit_at out 0 gs ≤ length out
unfolding emit_at
emit-at-le out gs = omega arith

-- ---- own memory, written from its start

module _ (L : List Gate) (w : List ℕ) (k : ℕ) (m : w ≡ emit zeros 0 L) (p : k ≡ emit_at zeros 0 L) where
  pub part-fits : k ≤ length w
  part-fits = omega (arith, p, emit-at-le zeros L, ap length m, emit-length zeros 0 L)

  pub part-long : k ≡ length (take k w)
  part-long = sym (length-take-le k w part-fits)

  pub part_held : gates_of 20 (take k w) ≡ in_memory L
  unfolding in_memory
  part_held = ap₂ (λ (j : ℕ) (l : List ℕ). gates_of 20 (take j l)) p m ∙ ap (gates_of 20) (records-held L)

  pub part_count : k ≡ length (in_memory L)
  part_count = part-long ∙ sym (length-map (take k w) (gate_of 20)) ∙ ap length part_held

-- ---- the closing goes behind

pub closed-memory : (s : Share) (gs : List Gate) (out out₁ out₂ : List ℕ) (at r : ℕ)
    → out₁ ≡ emit out 0 gs → at ≡ emit_at out 0 gs
    → (closing : List Gate) → with_closing s gs ≡ gs ++ closing → out₂ ≡ emit out₁ at closing → r ≡ emit_at out₁ at closing
    → (out₂ ≡ emit out 0 (with_closing s gs)) × (r ≡ emit_at out 0 (with_closing s gs))
closed-memory s gs out out₁ out₂ at r e a closing c m p = (
  m ∙ ap₂ (λ (l : List ℕ) (k : ℕ). emit l k closing) e a ∙ sym (emit-append out 0 gs closing) ∙ ap (emit out 0) (sym c),
  p ∙ ap₂ (λ (l : List ℕ) (k : ℕ). emit_at l k closing) e a ∙ sym (emit-at-append out 0 gs closing) ∙ ap (emit_at out 0) (sym c),
)

-- ---- the choice

module _ (s : Share) where
  -- what is closed of the two ways
  abbrev pub first : List Gate
  first = with_closing s (in_memory (by_steps s))

  abbrev pub second : List Gate
  second = with_closing s (in_memory (by_nearest s))

  pub memory-second : length (in_memory second) < length (in_memory first) → island_in_memory s ≡ in_memory second
  unfolding island_in_memory shorter
  memory-second h = simp (lt-ltb _ _ h)

  pub memory-first : length (in_memory first) ≤ length (in_memory second) → island_in_memory s ≡ in_memory first
  unfolding island_in_memory shorter
  memory-first h = simp (le-ltb _ _ h)

  -- the list that was chosen is laid
  pub laid_on : (out out' : List ℕ) (at r : ℕ) (L gs : List Gate) → island_in_memory s ≡ L → gs ≡ L → out' ≡ emit out at gs → r ≡ emit_at out at gs
      → (out' ≡ emit out at (island_in_memory s)) × (r ≡ emit_at out at (island_in_memory s))
  laid_on out out' at r L gs c b m p = (m ∙ ap (emit out at) (b ∙ sym c), p ∙ ap (emit_at out at) (b ∙ sym c))

  -- ---- lists that fit are held as they are: then an island is laid as its definition says

  abbrev pub AllFit : Type 0
  AllFit = FitsMemory (by_steps s) × FitsMemory (by_nearest s) × FitsMemory (with_closing s (by_steps s)) × FitsMemory (with_closing s (by_nearest s))

  closed-held : (L : List Gate) → FitsMemory L → FitsMemory (with_closing s L) → in_memory (with_closing s (in_memory L)) ≡ with_closing s L
  closed-held L f g = ap (λ (l : List Gate). in_memory (with_closing s l)) (memory-fits L f) ∙ memory-fits (with_closing s L) g

  pub memory-laid : AllFit → island_in_memory s ≡ island_laid s
  unfolding island_in_memory island_laid
  memory-laid f = ap₂ shorter (closed-held (by_steps s) f.0 f.2) (closed-held (by_nearest s) f.1 f.3)
