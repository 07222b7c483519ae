-- `lines::open_with` meets its contract: what is opened is the bytes of the digits. Assumes nothing.
use native.Mathlib.Omega.{arith}
use lib.ListN.{replicate}
use Rattle.lines.proofs.FeedLines.{decoded}
use Rattle.lines.proofs.open_with.Goals as goal

pub returns : goal.returns
returns c = let a = c.args in
    rw (decoded a.key.now (replicate 64 0) (omega arith) c.decode.ensures, decoded a.iv.now (replicate 64 0) (omega arith) c.decode-2.ensures) at c.open.ensures
