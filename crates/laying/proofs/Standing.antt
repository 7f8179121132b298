-- An island that stands: the code's test of it, what it says, and that nothing is laid. Assumes nothing.
use mathlib.Core.Path.{◌≡◌, refl, sym, ap, ◌∙◌}
use mathlib.Core.Bool.{Bool, true, false, not}
use mathlib.Core.List.{List, []}
use Prim.Native.Nat.{ℕ, ◌+◌, ◌-◌, ◌^◌, ◌≤◌, ◌<◌}
use native.Mathlib.Omega.{arith}
use lib.Dec.{eqb}
use lib.ListN.{get_or}
use borrow.Author.Tests.{eqb-true, not-true}
use Rattle.sets.specs.Bit.{In, has}
use Rattle.sets.specs.Size.{only_of}
use Rattle.sets.specs.Search.{first_of}
use Rattle.sets.proofs.Deciding.{never, both_true, both_yes}
use Rattle.sets.proofs.Finding.{first-all, first-here, first_next, first-end, some-yes, some-no}
use Rattle.sets.proofs.Words.{in-has, only-is}
use Rattle.gates.specs.declared.gate.Gate.{Gate}
use Rattle.chip.proofs.Tests.{some_of_lem}
use Rattle.emitting.specs.Emit.{emit, emit_at}
use Rattle.emitting.proofs.Emitting.{emit-none, emit-at-none}
use Rattle.share.specs.declared.own.Own.{Own}
use Rattle.laying.specs.Stands.{off_of, some_off, stands_of}

-- ---- the search for a wire that is off

module _ (Q : ℕ) (N : List ℕ) where
  abbrev off : ℕ → Bool
  off i = off_of Q i (get_or N i 0)

  pub record Seeking (i : ℕ) : Type 0 where
    pub within : i ≤ 20
    pub none : first_of off (20 - i) i ≡ first_of off 20 0

  pub seeking-first : Seeking 0
  seeking-first = record { within = omega arith; none = first-all off 20 }

  module _ (i : ℕ) (s : Seeking i) where
    pub seeking-hit : i < 20 → off i ≡ true → true ≡ some_off Q N
    unfolding some_off
    seeking-hit h t = sym (some-yes off 20 i h (sym s.none ∙ first-here off 20 i h t))

    pub seeking-next : i < 20 → off i ≡ false → Seeking (i + 1)
    seeking-next h t = record { within = omega arith; none = sym (first_next off 20 i h t) ∙ s.none }

    pub seeking-end : 20 ≤ i → false ≡ some_off Q N
    unfolding some_off
    seeking-end h = sym (some-no off 20 i h (sym s.none ∙ first-end off 20 i h))

-- ---- what standing says

module _ (o : Own) (s : stands_of o ≡ true) where
  abbrev Q : ℕ
  Q = o.set

  abbrev N : List ℕ
  N = o.asked

  tests : (eqb o.terms.len 0 ≡ true) × (not (some_off Q N) ≡ true)
  unfolding stands_of
  tests = both_true (eqb o.terms.len 0) (not (some_off Q N)) s

  pub no-terms : o.terms.len ≡ 0
  no-terms = eqb-true o.terms.len 0 tests.0

  pub own-asked : (i : ℕ) → i < 20 → In i Q → get_or N i 0 ≡ 2 ^ i
  unfolding some_off off_of
  own-asked i h m = go (eqb (get_or N i 0) (only_of i)) refl
    where
      go : (b : Bool) → eqb (get_or N i 0) (only_of i) ≡ b → get_or N i 0 ≡ 2 ^ i
      go true q = eqb-true (get_or N i 0) (only_of i) q ∙ only-is i (omega arith)
      go false q =
          absurd (never (some_of_lem (off Q N) 20 i h (both_yes (has Q i) (not (eqb (get_or N i 0) (only_of i))) (in-has Q i m) (ap not q))) (not-true (some_off Q N) tests.1))

-- ---- nothing is laid

pub nothing-laid : (gs : List Gate) → gs ≡ [] → (out : List ℕ) (at : ℕ) → (out ≡ emit out at gs) × (at ≡ emit_at out at gs)
nothing-laid gs none out at = (sym (ap (emit out at) none ∙ emit-none out at), sym (ap (emit_at out at) none ∙ emit-at-none out at))
