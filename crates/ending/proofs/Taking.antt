-- Clearing row and mirror row of a qubit, in either order, takes it out. Assumes nothing.
use mathlib.Core.Path.{◌≡◌, sym, ap, ap₂, ◌∙◌}
use mathlib.Core.Logic.{◌≢◌}
use mathlib.Core.Bool.{Bool, true, false, not}
use mathlib.Core.List.{List, [], ◌++◌}
use Prim.Native.Nat.{ℕ, ◌+◌, ◌*◌, ◌^◌, ◌≤◌, ◌<◌}
use native.Mathlib.Omega.{arith}
use lib.Count.{ones}
use lib.ListN.{length, get_or, length-append}
use Rattle.sets.specs.Bit.{In, Sub}
use Rattle.sets.specs.Columns.{dot}
use Rattle.sets.proofs.Dot.{dot-comm, dot-pow, dot-zero}
use Rattle.chip.specs.Graph.{Symm, Joined}
use Rattle.gates.specs.declared.gate.Gate.{Gate}
use Rattle.chip.specs.Inside.{Inside, Coupled}
use Rattle.gathering.specs.Gather.{turns, exchanged, Gathers, gather_of}
use Rattle.sets.proofs.Lists.{all_append}
use Rattle.chip.proofs.Insides.{coupled-inside}
use Rattle.gathering.proofs.GatherWorks.{gathers, gather-stands, turns-append}
use Rattle.ending.specs.declared.clearing.Clearing.{Clearing}
use Rattle.ending.specs.Mirror.{seen}
use Rattle.ending.specs.Clear.{row_at, first_moves, second_moves, out_of}
use Rattle.ending.specs.Ends.{Ready, TakesOut}
use Rattle.sets.specs.Lists.{All}
use Rattle.ending.proofs.Turning.{exchanged-twice, exchanged-append, exchanged-length, exchanged-coupled, back-sub, dot-turns, exchanged-spares}

-- what meets something is not empty
pub not-zero : (a b : ℕ) → dot a b ≡ 1 → a ≢ 0
not-zero a b h z = omega (arith, ap (λ (m : ℕ). dot m b) z, dot-zero b, h)

-- one row x and one mirror row y of v, that meet
record Cleared (near : List ℕ) (Q v x y : ℕ) (L : List Gate) : Type 0 where
  coupled : All (Coupled near Q) L
  short : length L + 4 ≤ 4 * ones Q
  row : turns L x ≡ 2 ^ v
  mirror : turns (exchanged L) y ≡ 2 ^ v
  still : x ≡ 2 ^ v → y ≡ 2 ^ v → L ≡ []

module _ (near : List ℕ) (Q v : ℕ) (sy : Symm near) (low : Q < 2 ^ 20) (j : Joined near Q) (hv : In v Q) where
  -- x is gathered, and then y as that left it
  abbrev both-cleared : ℕ → ℕ → List Gate
  both-cleared x y = gather_of near Q v x ++ exchanged (gather_of near Q v (turns (exchanged (gather_of near Q v x)) y))

  first_then : (x y : ℕ) → Sub x Q → Sub y Q → dot x y ≡ 1 → Cleared near Q v x y (both-cleared x y)
  first_then x y fx fy d =
      record {
        coupled = c_a;
        short = omega (arith, G.short, H.short, exchanged-length K, length-append L M);
        row = turns-append L M x ∙ ap (turns M) G.done ∙ exchanged-spares v K (H.spares yv);
        mirror = ap (λ (l : List Gate). turns l y) (exchanged-append L M) ∙ turns-append (exchanged L) (exchanged M) y
            ∙ ap (λ (l : List Gate). turns l z) (exchanged-twice K) ∙ H.done;
        still = λ ex ey. none ex ey;
      }
    where
      L : List Gate
      L = gather_of near Q v x

      G : Gathers near v Q x L
      G = gathers near Q v x sy low j hv fx (not-zero x y d)

      in_l : All (Inside near Q) L
      in_l = coupled-inside near Q L G.coupled

      z : ℕ
      z = turns (exchanged L) y

      d1 : dot (2 ^ v) z ≡ 1
      d1 = ap (λ (m : ℕ). dot m z) (sym G.done) ∙ dot-turns near Q low L x y in_l ∙ d

      yv : In v z
      yv = sym (dot-pow v z) ∙ d1

      K : List Gate
      K = gather_of near Q v z

      H : Gathers near v Q z K
      H = gathers near Q v z sy low j hv (back-sub near Q L y in_l fy)
          (not-zero z (2 ^ v) (dot-comm z (2 ^ v) ∙ d1))

      M : List Gate
      M = exchanged K

      c_a : All (Coupled near Q) (L ++ M)
      c_a = all_append (Coupled near Q) L M G.coupled (exchanged-coupled near Q sy K H.coupled)

      none : x ≡ 2 ^ v → y ≡ 2 ^ v → L ++ M ≡ []
      none ex ey =
          let nl : L ≡ [] = ap (gather_of near Q v) ex ∙ gather-stands near Q v low j hv in
          let ez : z ≡ 2 ^ v = ap (λ (l : List Gate). turns (exchanged l) y) nl ∙ ey in
          let nk : K ≡ [] = ap (gather_of near Q v) ez ∙ gather-stands near Q v low j hv in
          ap₂ ◌++◌ nl (ap exchanged nk)

  -- with the two kinds changed over, and control and target too
  over : (x y : ℕ) (L : List Gate) → Cleared near Q v y x L → Cleared near Q v x y (exchanged L)
  over x y L c =
      record {
        coupled = exchanged-coupled near Q sy L c.coupled;
        short = omega (arith, c.short, exchanged-length L);
        row = c.mirror;
        mirror = ap (λ (l : List Gate). turns l y) (exchanged-twice L) ∙ c.row;
        still = λ ex ey. ap exchanged (c.still ey ex);
      }

  takes : (N C : List ℕ) (L : List Gate) → Cleared near Q v (get_or N v 0) (get_or C v 0) L → TakesOut near Q v N C L
  takes N C L c = record { coupled = c.coupled; short = c.short; row = c.row; mirror = c.mirror; still = c.still }

  -- "rows first then mirror, or mirror first then rows"
  either : (N C : List ℕ) (b : Bool) → Ready Q N C → TakesOut near Q v N C (seen b (both-cleared (row_at N C v b) (row_at N C v (not b))))
  unfolding row_at
  either N C false r = takes N C (both-cleared (get_or N v 0) (get_or C v 0)) (first_then (get_or N v 0) (get_or C v 0) (r.rows v hv) (r.mirror v hv) (r.one v hv))
  either N C true r =
      let x : ℕ = get_or N v 0 in
      let y : ℕ = get_or C v 0 in
      takes N C (exchanged (both-cleared y x)) (over x y (both-cleared y x) (first_then y x (r.mirror v hv) (r.rows v hv) (dot-comm y x ∙ r.one v hv)))

pub out-takes : (near : List ℕ) (Q : ℕ) → Symm near → Q < 2 ^ 20 → Joined near Q → (N C : List ℕ) (ch : Clearing) → In ch.qubit Q → Ready Q N C → TakesOut near Q ch.qubit N C (out_of near Q N C ch)
unfolding out_of first_moves second_moves
out-takes near Q sy low j N C ch h r = either near Q ch.qubit sy low j h N C ch.mirrored r
