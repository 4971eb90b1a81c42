use Rattle.std.proofs.Common.{◌≡◌, take}
use Rattle.job_file.proofs.scripts.Script.of.Given as goal

-- what was looked at is known
abbrev pub invariant-loop-byte : goal.invariant-loop-byte
invariant-loop-byte l = l.seen ≡ take l.byte-index l.text
