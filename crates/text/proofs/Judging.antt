-- What the writer accepts, and what it answers then. Assumes nothing.
use mathlib.Core.Path.{◌≡◌, refl, ap, ◌∙◌}
use mathlib.Core.Bool.{Bool, true, false}
use mathlib.Core.List.{List}
use Prim.Native.Nat.{ℕ, ◌≤◌}
use native.Mathlib.Omega.{arith}
use lib.Dec.{leb}
use lib.ListN.{length}
use borrow.Author.Tests.{leb-true, le-leb}
use Rattle.std.specs.Prelude.{Ok, Err}
use Rattle.sets.specs.Pick.{pick}
use Rattle.verdicts.specs.Verdicts.{number_of, judged_qubits, judged_couplers, judged_drawn}
use Rattle.verdicts.specs.declared.verdict.Refusal.TheVariants.{Room}
use Rattle.verdicts.specs.InOrder.{and_then}
use Rattle.verdicts.proofs.Judged.{then-zero, zero-accepted}
use Rattle.verdicts.proofs.Answered.{then-ok, gives-value, answered-value}
use Rattle.lines.specs.Lines.{text_of}
use Rattle.reading.specs.Readings.{judged_places}
use Rattle.text.specs.Writings.{judged_text, writing_of}

pub room-zero : (need room : ℕ) → number_of (judged_places need room) ≡ 0 → need ≤ room
room-zero need room e = go (leb need room) refl e
  where
    go : (t : Bool) → leb need room ≡ t → number_of (pick t (Ok tt) (Err Room)) ≡ 0 → need ≤ room
    go true q e = leb-true need room q
    go false q e = let z : ◌≡◌ {A = ℕ} 8 0 = e in absurd (omega arith)

-- what the writer accepts
pub record AcceptsJob (n : ℕ) (es gs : List ℕ) (room : ℕ) : Type 0 where
  pub qubits : number_of (judged_qubits n) ≡ 0
  pub couplers : number_of (judged_couplers n es) ≡ 0
  pub gates : number_of (judged_drawn n gs) ≡ 0
  pub fits : length (text_of n es gs) ≤ room

module _ (n : ℕ) (es gs : List ℕ) (room : ℕ) where
  pub accepts : number_of (judged_text n es gs room) ≡ 0 → AcceptsJob n es gs room
  unfolding judged_text
  accepts e =
      let r = judged_places (length (text_of n es gs)) room in
      let g = and_then (judged_drawn n gs) r in
      let a = then-zero (judged_qubits n) (and_then (judged_couplers n es) g) e in
      let b = then-zero (judged_couplers n es) g a.1 in
      let c = then-zero (judged_drawn n gs) r b.1 in
      record { qubits = a.0; couplers = b.0; gates = c.0; fits = room-zero (length (text_of n es gs)) room c.1 }

  -- .. and where all of that holds, it accepts
  pub accepted : AcceptsJob n es gs room → number_of (judged_text n es gs room) ≡ 0
  unfolding judged_text
  accepted a =
      ap number_of (then-ok (zero-accepted (judged_qubits n) a.qubits) ∙ then-ok (zero-accepted (judged_couplers n es) a.couplers) ∙ then-ok (zero-accepted (judged_drawn n gs) a.gates)
      ∙ ap (λ t. pick t (Ok tt) (Err Room)) (le-leb (length (text_of n es gs)) room a.fits))

  pub writing-yes : number_of (judged_text n es gs room) ≡ 0 → Ok (length (text_of n es gs)) ≡ writing_of n es gs room
  unfolding writing_of
  writing-yes e = gives-value (length (text_of n es gs)) (zero-accepted (judged_text n es gs room) e)

  -- the writer accepts where it writes, and then it writes the whole text
  pub written : (bytes : ℕ) → writing_of n es gs room ≡ Ok bytes → (bytes ≡ length (text_of n es gs)) × AcceptsJob n es gs room
  unfolding writing_of
  written bytes e = let p = answered-value (judged_text n es gs room) (length (text_of n es gs)) bytes e in (p.1, accepts p.0)
