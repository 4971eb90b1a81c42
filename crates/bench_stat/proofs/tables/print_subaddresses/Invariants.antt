use Rattle.std.proofs.Common.{[], ◌++◌, take}
use Rattle.std.specs.Prelude.{if◌then◌else◌}
use Rattle.std.specs.Io.KnownBytes.{Appends}
use Rattle.std.specs.List.{list_any}
use Rattle.bench_stat.specs.ChannelText.{numbered}
use Rattle.bench_stat.specs.PageText.{entries_head, has_messages, met_line}
use Rattle.bench_stat.proofs.tables.print_subaddresses.Given as goal

-- the texts of those so far were written
abbrev pub invariant-loop-entry : goal.invariant-loop-entry
invariant-loop-entry g l = Appends (g.W.Write.contents l.fn.out) (g.W.Write.contents l.out) ((if list_any (λ f. has_messages f) l.flows then entries_head else []) ++ numbered (met_line l.span) 0 (take l.entry l.flows))
