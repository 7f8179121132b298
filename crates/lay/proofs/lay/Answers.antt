-- What the laying program prints is the whole text. Assumes nothing.
use Rattle.std.proofs.Common.{◌+◌, rules}
use Rattle.streams.proofs.Known.{printed-for}
use Rattle.reading.specs.Limits.{most_bytes}
use Rattle.console.specs.Printed.{laid_text}
use Rattle.console.proofs.Enough.{laid-enough}
use Rattle.lay.proofs.lay.Goals as goal

pub returns : goal.returns
returns g c =
    let read = c.in_ok-n.ensures in
    printed-for laid_text (most_bytes + 1) laid-enough (g.R.Read.remaining c.args.reader.now) _ _ _ c.in_ok-n.n c.read_full.new.buf (search rules) read.bytes read.bound.0 read.end c.in_ok-write_laid_input.ensures.bytes
