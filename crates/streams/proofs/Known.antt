-- What is known of the bytes that were read, and so of those that are printed for them. Assumes nothing.
use Rattle.std.proofs.Common.{◌≡◌, ℕ, ◌≤◌, ◌<◌, List, ◌++◌, Option, None, Some, sym, ap, ◌∙◌, subst, arith, length, take, append-nil, take_all, length-take-le}
use Rattle.std.proofs.Math.Decide.{dec_lt}
use Rattle.std.proofs.Math.Seq.{take-append_seam}
use Rattle.std.specs.Io.KnownBytes.{Appends, Consumes, IsAtEnd}
use Rattle.streams.specs.Printing.{PrintsFor}

-- what was read of a text is the text, as far as memory goes
pub read-front : (t : List ℕ) (left : Option (List ℕ)) (n : ℕ) (buf : List ℕ) → Consumes (Some t) left (take n buf) → n ≤ length buf → (n < length buf → IsAtEnd left) → take n buf ≡ take (length buf) t
read-front t None n buf e h end = absurd e
read-front t (Some ys) n buf e h end = go (dec_lt n (length buf))
  where
    long : length (take n buf) ≡ n
    long = length-take-le n buf h

    go : Dec (n < length buf) → take n buf ≡ take (length buf) t
    go (yes l) =
        let whole : t ≡ take n buf = e ∙ ap (λ (x : List ℕ). take n buf ++ x) (end l) ∙ append-nil (take n buf) in
        sym (take_all (length buf) (take n buf) (omega (arith, long, h))) ∙ ap (take (length buf)) (sym whole)
    go (no m) =
        let full : length (take n buf) ≡ length buf = omega (arith, long, h) in
        sym (take-append_seam (take n buf) ys) ∙ ap (λ (k : ℕ). take k (take n buf ++ ys)) full ∙ ap (take (length buf)) (sym e)

-- where so much of a text is enough, what is printed for what was read is printed for all of it
pub printed-for : (printed : List ℕ → List ℕ) (room : ℕ) (enough : (t : List ℕ) → printed (take room t) ≡ printed t) (text left old now : Option (List ℕ)) (n : ℕ) (buf : List ℕ) → length buf ≡ room
    → Consumes text left (take n buf) → n ≤ length buf → (n < length buf → IsAtEnd left) → Appends old now (printed (take n buf)) → PrintsFor printed text old now
printed-for printed room enough None left old now n buf long e h end a = tt
printed-for printed room enough (Some t) left old now n buf long e h end a =
    subst (Appends old now) (ap printed (read-front t left n buf e h end ∙ ap (λ (k : ℕ). take k t) long) ∙ enough t) a
