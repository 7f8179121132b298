-- What the laying program knows of a text that was written. Assumes nothing.
use mathlib.Core.Path.{◌≡◌, sym, ap, ◌∙◌}
use mathlib.Core.List.{List}
use Prim.Native.Nat.{ℕ, ◌≤◌}
use native.Mathlib.Omega.{arith}
use lib.ListN.{length, take}
use Rattle.std.specs.Prelude.{Result, Ok, Err}
use Rattle.verdicts.specs.declared.verdict.Refusal.{Refusal}
use Rattle.verdicts.specs.Verdicts.{number_of}
use Rattle.chip.specs.declared.couplers.Ordered.{Ordered}
use Rattle.chip.specs.Ordered.{ordered_of, ordered_list}
use Rattle.chip.proofs.Order.{ordered-take, ordered-len, ordered-few}
use Rattle.lines.specs.Lines.{text_of}
use Rattle.reading.specs.Readings.{lent_after}
use Rattle.text.specs.Writings.{judged_text, writing_of}
use Rattle.text.proofs.Judging.{writing-yes}
use Rattle.console.specs.Printed.{most_printed, Prints}

-- ---- the couplers in order

module _ (near : List ℕ) (o : Ordered) (e : o ≡ ordered_of near) where
  pub order_is : take o.len o.records ≡ ordered_list near
  order_is = ap (λ (x : Ordered). take x.len x.records) e ∙ ordered-take near

  order-count : o.len ≡ length (ordered_list near)
  order-count = ap (λ (x : Ordered). x.len) e ∙ ordered-len near

  pub order-long : o.len ≡ length (take o.len o.records)
  order-long = order-count ∙ sym (ap length order_is)

  pub order_fits : o.len ≤ 190
  order_fits = omega (arith, order-count, ordered-few near)

-- ---- the writer accepts the couplers es and the gates gs; as fs the couplers were handed to it

module _ (n : ℕ) (es fs gs out out' : List ℕ) (w : Result ℕ Refusal) (same : fs ≡ es) (room : length out ≡ most_printed) (yes : number_of (judged_text n es gs most_printed) ≡ 0)
    (e : w ≡ writing_of n fs gs (length out)) (m : out' ≡ lent_after w (text_of n fs gs) out) where
  whole : w ≡ Ok (length (text_of n es gs))
  whole = e ∙ ap (λ (x : List ℕ). writing_of n x gs (length out)) same ∙ ap (writing_of n es gs) room ∙ sym (writing-yes n es gs most_printed yes)

  pub job-written : (k : ℕ) → w ≡ Ok k → Prints most_printed (text_of n es gs) out k out'
  job-written k d = record {
    lent = room;
    bytes = cc (whole, d);
    memory = m ∙ ap (λ (x : Result ℕ Refusal). lent_after x (text_of n fs gs) out) d ∙ ap (λ (x : List ℕ). lent_after (Ok k) (text_of n x gs) out) same;
  }

  pub never-refused : (v : Refusal) → w ≡ Err v → ⊥
  never-refused v d = cc (whole, d)
