-- An island's own as the code holds it.
use Rattle.std.specs.Prelude.{List, ℕ, get_or, take}
use Rattle.sets.specs.Pick.{pick}
use Rattle.gates.specs.Limits.{most_parities}
use Rattle.table.specs.Table.{terms_in}
use Rattle.table.specs.declared.sums.Sums.{Sums}
use Rattle.sets.specs.Tables.{tab}
use Rattle.share.specs.Own.{Share, inside_of, own_sets}
use Rattle.share.specs.declared.own.Own.{Own}

-- the sum a of parity p, 0 where p is not inside Q
unfoldable pub masked_sum : ℕ → ℕ → ℕ → ℕ
masked_sum Q p a = pick (inside_of Q p) a 0

unfoldable pub masked_sums : ℕ → List ℕ → List ℕ → List ℕ
masked_sums Q parity sum = tab most_parities (λ k. masked_sum Q (get_or parity k 0) (get_or sum k 0))

-- the terms inside Q of a table of sums
unfoldable pub own_table : ℕ → Sums → Sums
own_table Q s = terms_in (record { parity = s.parity; sum = masked_sums Q s.parity s.sum; len = s.len })

unfoldable pub own_of : ℕ → List ℕ → Sums → List ℕ → List ℕ → Own
own_of Q near sums asked mirror = record { near = own_sets Q near; set = Q; terms = own_table Q sums; asked = own_sets Q asked; mirror = own_sets Q mirror }

-- the share that the code holds: the first `len` entries of the table are the terms and their angles
abbrev pub share_in : Own → Share
share_in o = record { near = o.near; set = o.set; terms = take o.terms.len o.terms.parity; angles = take o.terms.len o.terms.sum; asked = o.asked; mirror = o.mirror }
