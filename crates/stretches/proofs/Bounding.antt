-- The number of terms of a stretch that passed test 6, as the code counts them. Assumes nothing.
use mathlib.Core.Path.{◌≡◌, ap, ◌∙◌}
use mathlib.Core.List.{List}
use Prim.Native.Nat.{ℕ, ◌≤◌}
use native.Mathlib.Omega.{arith}
use lib.ListN.{length}
use lib.Seq.{take_all}
use Rattle.gates.specs.Layout.{gates_of}
use Rattle.table.specs.declared.sums.Sums.{Sums}
use Rattle.table.specs.Table.{terms_in}
use Rattle.meaning.specs.declared.told.Told.{Told}
use Rattle.meaning.specs.Borne.{over_at, terms}
use Rattle.meaning.specs.Told.{table_of, meaning_of, told_of}
use Rattle.meaning.proofs.Bearing.{terms-few}
use Rattle.meaning.proofs.Terms.{term_table, terms-table}
use Rattle.judging.proofs.Judging.{over-few}
use Rattle.stretches.specs.Asked.{Counted}

pub over-told : (n : ℕ) (s : List ℕ) (t : Told) → t ≡ told_of n s → t.fed ≡ over_at (gates_of n s)
unfolding told_of
over-told n s t e = ap (λ (u : Told). u.fed) e

module _ (n : ℕ) (s : List ℕ) (c : Counted n s) (t : Told) (e : t ≡ told_of n s) (u : Sums) (v : u ≡ terms_in t.meaning.sums) where
  sums-are : t.meaning.sums ≡ table_of (gates_of n s)
  unfolding told_of meaning_of
  sums-are = ap (λ (w : Told). w.meaning.sums) e ∙ ap (λ (gs : List _). (meaning_of gs).sums) (take_all (over_at (gates_of n s)) (gates_of n s) (omega (arith, c)))

  pub terms-counted : u.len ≡ length (terms (gates_of n s))
  unfolding term_table
  terms-counted = ap (λ (x : Sums). x.len) (v ∙ ap terms_in sums-are ∙ terms-table (gates_of n s))

  pub terms-within : u.len ≤ 256
  terms-within = omega (arith, terms-counted, terms-few (gates_of n s), over-few (gates_of n s) c)
