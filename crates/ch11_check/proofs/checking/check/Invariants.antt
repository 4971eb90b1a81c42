use Rattle.std.proofs.Common.{◌≡◌, ℕ, List, Some}
use Rattle.ch11_stream.proofs.Readings.{IsAmid}
use Rattle.ch11_check.proofs.checking.check.Given as goal

-- the packets so far are those of the file
abbrev pub invariant-packets : goal.invariant-packets
invariant-packets g l = (file : List ℕ) → g.R.Read.remaining l.fn.input ≡ Some file → IsAmid file l.packets
