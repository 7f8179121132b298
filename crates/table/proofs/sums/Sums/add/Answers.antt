-- `table::sums::Sums::add` meets its contract: the parity is held, is new, or finds the table full. Assumes nothing.
use mathlib.Core.Bool.{false}
use mathlib.Core.Path.{◌≡◌, sym}
use native.Mathlib.Omega.{arith}
use Rattle.table.specs.Table.{rank_of, held_at, grown_at, new_at}
use Rattle.table.proofs.Ranks.{rank-at, held-not-other, held-not-past, held-there, add-over, add-held, add-new, add-full}
use borrow.Author.Rules.{rules}
use Rattle.table.proofs.sums.Sums.add.Goals.{else-k-self-via-then-k-self+else-self-k, else-k-self-via-else-k-self}
use Rattle.table.proofs.sums.Sums.add.Goals as goal

pub returns-then-self-gt-PARITIES : goal.returns-then-self-gt-PARITIES
returns-then-self-gt-PARITIES c = sym (add-over _ _ _ c.if-self-gt-PARITIES.true)

pub returns-then-self-k : goal.returns-then-self-k
unfolding grown_at
returns-then-self-k c =
    let s = c.args.self.now in
    let at : c.unwrap_or-k.result ≡ rank_of s.parity s.len c.args.p = rank-at s _ _ _ c.if-self-gt-PARITIES.false (search rules) c.rank.ensures c.unwrap_or-k.ensures in
    sym (add-held s _ _ _ c.if-self-gt-PARITIES.false at (held-there s _ _ c.if-k-self.true c.if-self-k.true))

pub returns-then-self-eq-PARITIES : goal.returns-then-self-eq-PARITIES
returns-then-self-eq-PARITIES c =
    let s = c.args.self.now in
    let at : c.unwrap_or-k.result ≡ rank_of s.parity s.len c.args.p = rank-at s _ _ _ c.if-self-gt-PARITIES.false (search rules) c.rank.ensures c.unwrap_or-k.ensures in
    let absent : held_at s c.unwrap_or-k.result c.args.p ≡ false = elim c.else-k-self.branch [ else-k-self-via-then-k-self+else-self-k w ↦ held-not-other s _ _ w.if-k-self.true w.if-self-k.false | else-k-self-via-else-k-self w ↦ held-not-past s _ _ w.if-k-self.false ] in
    sym (add-full s _ _ _ c.if-self-gt-PARITIES.false at absent (omega arith))

pub returns : goal.returns
unfolding new_at
returns c =
    let s = c.args.self.now in
    let at : c.unwrap_or-k.result ≡ rank_of s.parity s.len c.args.p = rank-at s _ _ _ c.if-self-gt-PARITIES.false (search rules) c.rank.ensures c.unwrap_or-k.ensures in
    let absent : held_at s c.unwrap_or-k.result c.args.p ≡ false = elim c.else-k-self.branch [ else-k-self-via-then-k-self+else-self-k w ↦ held-not-other s _ _ w.if-k-self.true w.if-self-k.false | else-k-self-via-else-k-self w ↦ held-not-past s _ _ w.if-k-self.false ] in
    cc (add-new s c.args.p c.args.a _ c.if-self-gt-PARITIES.false at absent (omega arith), c.moved_in.ensures, c.moved_in-2.ensures)
