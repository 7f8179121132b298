-- The kinds of records: what a line shows of a kind it shows of each number that has it. Assumes nothing.
use Rattle.std.proofs.Common.{◌≡◌, ℕ, ◌≤◌, refl, arith}
use Prim.Native.Nat.{zero, suc}
use borrow.Author.Tests.{le-ltb}
use Rattle.lines.specs.Kinds.{number_of, kind_of}
use Rattle.lines.specs.Lines.{letter, fields_in}
use Rattle.lines.specs.declared.kind.Kind.TheVariants.{Hadamard}

pub kind_from : (k : ℕ) → 4 ≤ k → kind_of k ≡ Hadamard
kind_from zero h = absurd (omega arith)
kind_from (suc zero) h = absurd (omega arith)
kind_from (suc (suc zero)) h = absurd (omega arith)
kind_from (suc (suc (suc zero))) h = absurd (omega arith)
kind_from (suc (suc (suc (suc k)))) h = refl

pub letter-kind : (k : ℕ) → letter (number_of (kind_of k)) ≡ letter k
unfolding letter
letter-kind zero = refl
letter-kind (suc zero) = refl
letter-kind (suc (suc zero)) = refl
letter-kind (suc (suc (suc zero))) = refl
letter-kind (suc (suc (suc (suc k)))) = refl

pub fields-kind : (k : ℕ) → fields_in (number_of (kind_of k)) ≡ fields_in k
unfolding fields_in
fields-kind zero = refl
fields-kind (suc zero) = refl
fields-kind (suc (suc zero)) = refl
fields-kind (suc (suc (suc zero))) = refl
fields-kind (suc (suc (suc (suc k)))) = rw (le-ltb (suc (suc (suc (suc k)))) 3 (omega arith))

pub ruleset shown = (letter-kind, fields-kind)
