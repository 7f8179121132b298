-- `spares::spare::spare` meets its contract. Assumes nothing.
use mathlib.Core.Path.{sym, ap, ◌∙◌}
use Prim.Native.Nat.{ℕ, ◌^◌}
use lib.Bits.{bit_xor}
use Rattle.sets.specs.Pick.{both}
use Rattle.sets.proofs.Words.{only_of_lem}
use Rattle.spares.specs.Spare.{connected_of, spare_of}
use borrow.Author.Rules.{rules}
use Rattle.spares.proofs.spare.spare.Goals as goal

pub returns-then-holds : goal.returns-then-holds
unfolding spare_of
returns-then-holds c =
    let a = c.args in
    let h = sym c.holds.ensures ∙ c.if-holds.true in
    c.connected.ensures ∙ ap (λ (n : ℕ). connected_of a.near (bit_xor a.set n)) (c.only.ensures ∙ only_of_lem a.set a.q (search rules) h) ∙ sym (ap (λ b. both b (connected_of a.near (bit_xor a.set (2 ^ a.q)))) h)

pub returns-else-holds : goal.returns-else-holds
unfolding spare_of
returns-else-holds c =
    let a = c.args in
    c.if-holds.false ∙ sym (ap (λ b. both b (connected_of a.near (bit_xor a.set (2 ^ a.q)))) (sym c.holds.ensures ∙ c.if-holds.false))
