-- One piece written behind another: what fits, and what stands there then. Assumes nothing.
use Rattle.std.proofs.Common.{List, ◌++◌, ℕ, length, ap, ◌∙◌, arith, length-append}
use lib.Seq.{length-sets}
use Rattle.lines.specs.Page.{HasRoom, Puts}
use Rattle.lines.specs.declared.page.Page.{Page}
use Rattle.lines.proofs.Writes.{wrote_then}

module _ (page : Page) (xs ys : List ℕ) where
  pub room_front : HasRoom page (xs ++ ys) → HasRoom page xs
  room_front h = omega (arith, h, length-append xs ys)

  module _ (next : Page) (w : Puts page xs next) where
    pub room_behind : HasRoom page (xs ++ ys) → HasRoom next ys
    room_behind h = omega (arith, h, w.0.0, ap length w.0.1, length-sets page.text.now page.at xs, length-append xs ys)

    pub puts_then : (last : Page) → Puts next ys last → Puts page (xs ++ ys) last
    puts_then last v = (wrote_then page.text.now page.at xs ys w.0 v.0, v.1 ∙ w.1)
