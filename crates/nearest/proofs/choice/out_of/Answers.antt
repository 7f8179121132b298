-- `nearest::choice::out_of` meets its contract. Assumes nothing.
use Rattle.nearest.proofs.Counting.{own-none, own-some, out-not, out-alone, out-two, out_one}
use borrow.Author.Rules.{rules}
use Rattle.nearest.proofs.choice.out_of.Goals as goal

pub returns-then-own-eq0 : goal.returns-then-own-eq0
returns-then-own-eq0 c = out-not _ _ _ (own-none _ _ _ c.only.ensures (search rules) c.if-own-eq0.true)

pub returns-then-beside-x-ne0 : goal.returns-then-beside-x-ne0
returns-then-beside-x-ne0 c =
    let own = own-some _ _ _ c.only.ensures c.if-own-eq0.false in
    out_one _ _ _ _ own.0 c.if-beside-x-ne0.true own.1

pub returns-then-beside-eq0 : goal.returns-then-beside-eq0
returns-then-beside-eq0 c =
    let own = own-some _ _ _ c.only.ensures c.if-own-eq0.false in
    out-alone _ _ _ own.0 c.if-beside-x-ne0.false c.if-beside-eq0.true

pub returns : goal.returns
returns c =
    let own = own-some _ _ _ c.only.ensures c.if-own-eq0.false in
    out-two _ _ _ _ _ _ own.0 c.if-beside-x-ne0.false c.if-beside-eq0.false c.lowest-p.ensures c.only-2.ensures own.1
