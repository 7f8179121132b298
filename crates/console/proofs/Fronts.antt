-- What stands at the front of lent memory. Assumes nothing.
use mathlib.Core.Path.{◌≡◌, sym, ap, ap₂, ◌∙◌}
use mathlib.Core.List.{List}
use Prim.Native.Nat.{ℕ, ◌≤◌}
use native.Mathlib.Omega.{arith}
use lib.ListN.{length, take, drop, length-append, length-take}
use lib.Seq.{take-append_seam, length-take-le}
use Rattle.lines.specs.Lent.{onto}
use Rattle.console.specs.Printed.{Prints}

module _ (new old now' : List ℕ) (k : ℕ) (e : k ≡ length new) (h : now' ≡ onto new old) where
  pub front_fits : k ≤ length now'
  front_fits = omega (arith, e, ap length h, length-append new (drop (length new) old))

  pub front_long : k ≡ length (take k now')
  front_long = sym (length-take-le k now' front_fits)

  pub front-is : take k now' ≡ new
  front-is = ap₂ (λ (i : ℕ) (l : List ℕ). take i l) e h ∙ take-append_seam new (drop (length new) old)

-- a front is no longer than what it is taken of
pub front-short : {r : List ℕ} {m : ℕ} (xs : List ℕ) (k : ℕ) → r ≡ take k xs → length xs ≡ m → length r ≤ m
front-short {r} {m} xs k e l = omega (arith, ap length e, length-take k xs, l)

-- what was printed can be taken out again
module _ {room : ℕ} {s out out' : List ℕ} {r : ℕ} (p : Prints room s out r out') where
  pub printed-fits : r ≤ length out'
  printed-fits = front_fits s out out' r p.bytes p.memory

  pub printed-long : r ≡ length (take r out')
  printed-long = front_long s out out' r p.bytes p.memory
