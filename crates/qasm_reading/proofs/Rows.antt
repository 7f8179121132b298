-- What reading a circuit's text answers, row by row. Assumes nothing.
use mathlib.Core.Path.{◌≡◌, refl, sym, ap, ◌∙◌, subst}
use mathlib.Core.Logic.{inl, inr}
use mathlib.Core.Bool.{Bool, true, false}
use mathlib.Core.List.{List}
use Prim.Native.Nat.{ℕ, ◌≤◌, ◌<◌}
use native.Mathlib.Omega.{arith}
use lib.Dec.{leb}
use lib.ListN.{length}
use borrow.Author.Tests.{leb-true, leb-false, le-leb, lt-leb}
use Rattle.std.specs.Prelude.{Ok, Err}
use Rattle.verdicts.specs.declared.verdict.Refusal.TheVariants.{Room, LongText, Angle, Statement, Unversioned}
use Rattle.verdicts.specs.Verdicts.{Verdict, number_of, place_of}
use Rattle.verdicts.specs.Rows.{Nowhere}
use Rattle.reading.specs.Limits.{most_bytes}
use Rattle.versions.specs.declared.Version.{Version}
use Rattle.qasm_reading.specs.Parsing.{ParsedCircuit, circuit, angle, statement, early, unversioned, parsed_circuit}
use Rattle.words.specs.Bytes.{line_at}
use Rattle.qasm_reading.specs.Readings.{judged_found, judged_circuit_text}
use Rattle.qasm_reading.specs.Texts.{CircuitText, WithoutVersion, WrongAngle, WrongStatement}
use Rattle.qasm_reading.specs.Rows.{Short, CircuitReadingRows}
use Rattle.qasm_reading.proofs.Parsed.{circuit-parsed}
use Rattle.qasm_reading.proofs.Faults.{Other, unversioned-parsed, angle-parsed, statement-parsed}
use Rattle.qasm_reading.proofs.Found.{FoundText, found}

-- ---- from what a text is to the answer

module _ (s : List ℕ) (room : ℕ) where
  pub judged-long : most_bytes < length s → judged_circuit_text s room ≡ Err LongText
  unfolding judged_circuit_text
  judged-long h = rw (lt-leb (length s) most_bytes h)

  module _ (h : Short s) where
    judged-short : judged_circuit_text s room ≡ judged_found s room (parsed_circuit s)
    unfolding judged_circuit_text
    judged-short = rw (le-leb (length s) most_bytes h)

    pub judged-as : (p : ParsedCircuit) → parsed_circuit s ≡ p → judged_circuit_text s room ≡ judged_found s room p
    judged-as p e = judged-short ∙ ap (judged_found s room) e

    pub judged-good : (v : Version) (n : ℕ) (gates : List ℕ) (g : ℕ) → CircuitText s v n gates g → length gates ≤ room → judged_circuit_text s room ≡ Ok tt
    judged-good v n gates g c l = judged-as (circuit v n gates g) (circuit-parsed s v n gates g c) ∙ rw (le-leb (length gates) room l)

    judged-over : (v : Version) (n : ℕ) (gates : List ℕ) (g : ℕ) → CircuitText s v n gates g → room < length gates → judged_circuit_text s room ≡ Err Room
    judged-over v n gates g c l = judged-as (circuit v n gates g) (circuit-parsed s v n gates g c) ∙ rw (lt-leb (length gates) room l)

    judged-unversioned : WithoutVersion s → judged_circuit_text s room ≡ Err Unversioned
    judged-unversioned u = judged-as unversioned (unversioned-parsed s u)

    judged-angle : (k : ℕ) → WrongAngle s k → judged_circuit_text s room ≡ Err (Angle k)
    judged-angle k w =
        let p = angle-parsed s k w in
        judged-as (angle w.fault.word.left) p.0 ∙ ap (λ k. Err (Angle k)) (sym p.1)

    judged-statement : (k : ℕ) → WrongStatement s k → judged_circuit_text s room ≡ Err (Statement k)
    judged-statement k w = go (statement-parsed s k w)
      where
        go : Other s k → judged_circuit_text s room ≡ Err (Statement k)
        go (inl (l, e, p)) = judged-as (statement l) e ∙ ap (λ k. Err (Statement k)) (sym p)
        go (inr (e, p)) = judged-as early e ∙ ap (λ k. Err (Statement k)) (sym p)

-- ---- from the answer to what the text is

data AnsweredText (s : List ℕ) (room : ℕ) (said : Verdict) : Type 0 where
  long : most_bytes < length s → said ≡ Err LongText → AnsweredText s room said
  good : Short s → (v : Version) (n : ℕ) (gates : List ℕ) (g : ℕ) → CircuitText s v n gates g → length gates ≤ room → said ≡ Ok tt → AnsweredText s room said
  over : Short s → (v : Version) (n : ℕ) (gates : List ℕ) (g : ℕ) → CircuitText s v n gates g → room < length gates → said ≡ Err Room → AnsweredText s room said
  no_version : Short s → WithoutVersion s → said ≡ Err Unversioned → AnsweredText s room said
  other_angle : Short s → (k : ℕ) → WrongAngle s k → said ≡ Err (Angle k) → AnsweredText s room said
  other_statement : Short s → (k : ℕ) → WrongStatement s k → said ≡ Err (Statement k) → AnsweredText s room said

answered-so : (s : List ℕ) (room : ℕ) → AnsweredText s room (judged_circuit_text s room)
answered-so s room = length-of (leb (length s) most_bytes) refl
  where
    room_of : Short s → (v : Version) (n : ℕ) (gates : List ℕ) (g : ℕ) → CircuitText s v n gates g → (t : Bool) → leb (length gates) room ≡ t → AnsweredText s room (judged_circuit_text s room)
    room_of h v n gates g c true e = let l = leb-true (length gates) room e in good h v n gates g c l (judged-good s room h v n gates g c l)
    room_of h v n gates g c false e = let l = leb-false (length gates) room e in over h v n gates g c l (judged-over s room h v n gates g c l)

    text_of : Short s → (p : ParsedCircuit) → parsed_circuit s ≡ p → FoundText s p → AnsweredText s room (judged_circuit_text s room)
    text_of h (circuit v n gates g) e f = room_of h v n gates g f (leb (length gates) room) refl
    text_of h (angle l) e f = other_angle h (line_at s l) f (judged-as s room h (angle l) e)
    text_of h (statement l) e f = other_statement h (line_at s l) f (judged-as s room h (statement l) e)
    text_of h early e f = other_statement h 0 f (judged-as s room h early e)
    text_of h unversioned e f = no_version h f (judged-unversioned s room h f)

    length-of : (t : Bool) → leb (length s) most_bytes ≡ t → AnsweredText s room (judged_circuit_text s room)
    length-of true e = text_of (leb-true (length s) most_bytes e) (parsed_circuit s) refl (found s)
    length-of false e = let h = leb-false (length s) most_bytes e in long h (judged-long s room h)

-- it answers another number
off : {B : Type 0} {v w : Verdict} (j : ℕ) → number_of v ≡ j → v ≡ w → (number_of w ≡ j → ⊥) → B
off j e q n = absurd (n (sym (ap number_of q) ∙ e))

at : {v w : Verdict} (At : ℕ → Type 0) → v ≡ w → At (place_of w) → At (place_of v)
at At q a = subst (λ (u : Verdict). At (place_of u)) (sym q) a

module _ (s : List ℕ) (room : ℕ) where
  abbrev said : Verdict
  said = judged_circuit_text s room

  zero_row : number_of said ≡ 0 → AnsweredText s room said → (Short s × ((v : Version) × (n : ℕ) × (gates : List ℕ) × (g : ℕ) × CircuitText s v n gates g × (length gates ≤ room))) × Nowhere (place_of said)
  zero_row e (good h v n gates g c l q) = ((h, (v, n, gates, g, c, l)), at Nowhere q refl)
  zero_row e (long h q) = off 0 e q (λ (z : 11 ≡ 0). omega arith)
  zero_row e (no_version h w q) = off 0 e q (λ (z : 14 ≡ 0). omega arith)
  zero_row e (over h v n gates g c l q) = off 0 e q (λ (z : 8 ≡ 0). omega arith)
  zero_row e (other_angle h k w q) = off 0 e q (λ (z : 12 ≡ 0). omega arith)
  zero_row e (other_statement h k w q) = off 0 e q (λ (z : 13 ≡ 0). omega arith)

  long-row : number_of said ≡ 11 → AnsweredText s room said → (most_bytes < length s) × Nowhere (place_of said)
  long-row e (good h v n gates g c l q) = off 11 e q (λ (z : 0 ≡ 11). omega arith)
  long-row e (long h q) = (h, at Nowhere q refl)
  long-row e (no_version h w q) = off 11 e q (λ (z : 14 ≡ 11). omega arith)
  long-row e (over h v n gates g c l q) = off 11 e q (λ (z : 8 ≡ 11). omega arith)
  long-row e (other_angle h k w q) = off 11 e q (λ (z : 12 ≡ 11). omega arith)
  long-row e (other_statement h k w q) = off 11 e q (λ (z : 13 ≡ 11). omega arith)

  over-row : number_of said ≡ 8 → AnsweredText s room said → (Short s × ((v : Version) × (n : ℕ) × (gates : List ℕ) × (g : ℕ) × CircuitText s v n gates g × (room < length gates))) × Nowhere (place_of said)
  over-row e (good h v n gates g c l q) = off 8 e q (λ (z : 0 ≡ 8). omega arith)
  over-row e (long h q) = off 8 e q (λ (z : 11 ≡ 8). omega arith)
  over-row e (no_version h w q) = off 8 e q (λ (z : 14 ≡ 8). omega arith)
  over-row e (over h v n gates g c l q) = ((h, (v, n, gates, g, c, l)), at Nowhere q refl)
  over-row e (other_angle h k w q) = off 8 e q (λ (z : 12 ≡ 8). omega arith)
  over-row e (other_statement h k w q) = off 8 e q (λ (z : 13 ≡ 8). omega arith)

  angle-row : number_of said ≡ 12 → AnsweredText s room said → (Short s × ((k : ℕ) × WrongAngle s k)) × WrongAngle s (place_of said)
  angle-row e (good h v n gates g c l q) = off 12 e q (λ (z : 0 ≡ 12). omega arith)
  angle-row e (long h q) = off 12 e q (λ (z : 11 ≡ 12). omega arith)
  angle-row e (no_version h w q) = off 12 e q (λ (z : 14 ≡ 12). omega arith)
  angle-row e (over h v n gates g c l q) = off 12 e q (λ (z : 8 ≡ 12). omega arith)
  angle-row e (other_angle h k w q) = ((h, (k, w)), at (WrongAngle s) q w)
  angle-row e (other_statement h k w q) = off 12 e q (λ (z : 13 ≡ 12). omega arith)

  statement-row : number_of said ≡ 13 → AnsweredText s room said → (Short s × ((k : ℕ) × WrongStatement s k)) × WrongStatement s (place_of said)
  statement-row e (good h v n gates g c l q) = off 13 e q (λ (z : 0 ≡ 13). omega arith)
  statement-row e (long h q) = off 13 e q (λ (z : 11 ≡ 13). omega arith)
  statement-row e (no_version h w q) = off 13 e q (λ (z : 14 ≡ 13). omega arith)
  statement-row e (over h v n gates g c l q) = off 13 e q (λ (z : 8 ≡ 13). omega arith)
  statement-row e (other_angle h k w q) = off 13 e q (λ (z : 12 ≡ 13). omega arith)
  statement-row e (other_statement h k w q) = ((h, (k, w)), at (WrongStatement s) q w)

  unversioned-row : number_of said ≡ 14 → AnsweredText s room said → (Short s × WithoutVersion s) × (place_of said ≡ 1)
  unversioned-row e (good h v n gates g c l q) = off 14 e q (λ (z : 0 ≡ 14). omega arith)
  unversioned-row e (long h q) = off 14 e q (λ (z : 11 ≡ 14). omega arith)
  unversioned-row e (no_version h w q) = ((h, w), at (λ k. k ≡ 1) q refl)
  unversioned-row e (over h v n gates g c l q) = off 14 e q (λ (z : 8 ≡ 14). omega arith)
  unversioned-row e (other_angle h k w q) = off 14 e q (λ (z : 12 ≡ 14). omega arith)
  unversioned-row e (other_statement h k w q) = off 14 e q (λ (z : 13 ≡ 14). omega arith)

  -- THEOREM: reading answers each number exactly then, and gives the place
  pub reading-rows : CircuitReadingRows s room (judged_circuit_text s room)
  reading-rows =
      let a = answered-so s room in
      record {
        row_0 = record { exactly = (λ e. (zero_row e a).0, λ w. ap number_of (judged-good s room w.0 w.1.0 w.1.1 w.1.2 w.1.3 w.1.4 w.1.5)); place = λ e. (zero_row e a).1 };
        row_11 = record { exactly = (λ e. (long-row e a).0, λ w. ap number_of (judged-long s room w)); place = λ e. (long-row e a).1 };
        row_14 = record { exactly = (λ e. (unversioned-row e a).0, λ w. ap number_of (judged-unversioned s room w.0 w.1)); place = λ e. (unversioned-row e a).1 };
        row_13 = record { exactly = (λ e. (statement-row e a).0, λ w. ap number_of (judged-statement s room w.0 w.1.0 w.1.1)); place = λ e. (statement-row e a).1 };
        row_12 = record { exactly = (λ e. (angle-row e a).0, λ w. ap number_of (judged-angle s room w.0 w.1.0 w.1.1)); place = λ e. (angle-row e a).1 };
        row_8 = record { exactly = (λ e. (over-row e a).0, λ w. ap number_of (judged-over s room w.0 w.1.0 w.1.1 w.1.2 w.1.3 w.1.4 w.1.5)); place = λ e. (over-row e a).1 };
      }
