-- `text::write::put_text` meets its contract: the `q` line, the couplers, the gates. Assumes nothing.
use mathlib.Core.Path.{◌≡◌, ◌∙◌}
use mathlib.Core.List.{List, [], ◌∷◌, ◌++◌}
use Prim.Native.Nat.{ℕ, ◌+◌, ◌≤◌}
use lib.ListN.{length}
use Rattle.lines.specs.Lines.{line_text, record_text, records_text, text_of}
use Rattle.lines.specs.Lent.{lines_end, lines_at, Wrote}
use Rattle.lines.proofs.Writes.{wrote_then, fitted-wrote, text-length}
use Rattle.lines.proofs.Recorded.{records-fit}
use native.Mathlib.Omega.{arith}
use Rattle.text.proofs.write.put_text.Goals as goal

-- records that fit are written
fitting : (xs : List ℕ) (from : ℕ) (l : List ℕ) {m : List ℕ} {e : ℕ} → from + length (records_text xs) ≤ length l → (e ≡ lines_end record_text xs from (length l)) × (m ≡ lines_at record_text xs from l) → Wrote l from (records_text xs) m e
fitting xs from l h p = let f = records-fit xs from l h in (p.0 ∙ f.0, p.1 ∙ f.1)

pub returns : goal.returns
unfolding text_of
returns c =
    let a = c.args in
    let h = c.requires in
    let p = c.put_line-p0 in
    let q = c.put_records-p1 in
    let r = c.put_records in
    let es = a.couplers.now in
    let gs = a.gates.now in
    let all = text-length a.n es gs in
    let first = fitted-wrote a.text.now 0 (line_text 113 (a.n ∷ [])) (omega (arith, h, all)) p.ensures in
    let second = fitting es p.result p.new.text (omega (arith, h, all, first.0, p.auto.text)) q.ensures in
    let third = fitting gs q.result q.new.text (omega (arith, h, all, first.0, second.0, p.auto.text, q.auto.text)) r.ensures in
    let w = wrote_then a.text.now 0 (line_text 113 (a.n ∷ [])) (records_text es ++ records_text gs) first (wrote_then p.new.text p.result (records_text es) (records_text gs) second third) in
    record { bytes = omega (arith, w.0); written = w.1 }
