use Rattle.std.proofs.Common.{◌≡◌, ◌++◌, drop}
use Rattle.bench_view.specs.Safe.{safe_text}
use Rattle.bench_view.proofs.safe.put_safe.Given as goal

-- the bytes so far, and those that are left
abbrev pub invariant-bytes : goal.invariant-bytes
invariant-bytes l = l.text.items ++ safe_text (drop l.byte-index l.bytes) ≡ l.fn.text.items ++ safe_text l.bytes
